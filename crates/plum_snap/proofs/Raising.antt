-- The steps on a limit keep its rule.
use Rattle.std.proofs.Common.{◌≡◌, ◌≢◌, ℕ, ◌<◌, ◌≤◌, ◌==◌, Bool, true, false, List, [], ◌∷◌, ◌++◌}
use Rattle.std.proofs.Common.{length, set, length-set, length-append, refl, ap, sym, subst, arith}
use Rattle.std.proofs.Common.{inl, None, true≢false, ◌∙◌}
use Rattle.std.proofs.lemmas.List.{append-nil}
use Rattle.std.proofs.lemmas.Bool.Decides.{nat_tests}
use mathlib.Core.List.{IsPrefix}
use prog.Atomic.{either}
use Rattle.logbook.specs.Pages.{Cell, cell, Nib, keeps, gives, adds, may_write, no_nib, step}
use Rattle.logbook.specs.Pages.{Moves, Goes}
use Rattle.plum_snap.specs.declared.limit.Mark.{Mark}
use Rattle.plum_snap.specs.Limits.{limit_of, key_of, mark_of, AreInTurn, IsLimited, MakesPen}
use Rattle.plum_snap.specs.Limits.{Begins}
use Rattle.plum_snap.specs.Limits.{Raises, Looks}
use Rattle.plum_snap.proofs.Cells.{cell_more, cell_set, cell_other, home_set}
use base.Growing.{prefix_trans}
use Rattle.plum_snap.proofs.Fronts.{prefix_whole, prefix_length}
use Rattle.plum_snap.proofs.Marking.{limit_push, turns_stay, turns_push, none_yet, are_all}

-- as the rule has it: clients see nothing of the marks, and trade nothing
abbrev pub shows : List Mark → List Mark
shows marks = []

abbrev pub moves : List Mark → List Mark → ℕ → Type 0
moves xs ys n = Unit {0}

-- the word is written as it was
limited_same : (cells : List Cell) (marks : List Mark) (n : ℕ) → IsLimited cells marks
    → n ≡ (cell cells 0).0 → IsLimited (set cells 0 (n, true)) (marks ++ [])
limited_same cells marks n kept is =
    subst (IsLimited (set cells 0 (n, true))) (sym (append-nil marks)) (record {
      some = omega (arith, length-set cells 0 (n, true), kept.some);
      limit = cell_set cells 0 (n, true) kept.some
          ∙ ap (λ (k : ℕ). (k, true)) (is ∙ ap (λ c. c.0) kept.limit);
      turns = turns_stay cells (set cells 0 (n, true)) (λ k home. home_set cells 0 n k home) marks
          kept.turns;
    })

-- a cell more, which is not at home
limited_more : (cells : List Cell) (marks : List Mark) → IsLimited cells marks
    → IsLimited (cells ++ (0, false) ∷ []) marks
limited_more cells marks kept = record {
  some = omega (arith, length-append cells ((0, false) ∷ []), kept.some);
  limit = cell_more cells 0 ∙ kept.limit;
  turns = turns_stay cells (cells ++ (0, false) ∷ [])
      (λ k home. ap (λ c. c.1) (cell_more cells k) ∙ home) marks kept.turns;
}

-- a mark more, for which the pen of the last is used up
limited_push : (cells : List Cell) (marks : List Mark) (m : Mark) (k w : ℕ) → IsLimited cells marks
    → 0 < limit_of marks → limit_of marks ≤ m.limit → key_of marks ≡ k → k < length cells
    → (cell cells k).1 ≡ false
    → IsLimited (set (set cells 0 (m.limit, true)) k (w, true)) (marks ++ m ∷ [])
limited_push cells marks m k w kept some rises key there away =
    let home : (cell cells 0).1 ≡ true = ap (λ c. c.1) kept.limit in
    let apart : 0 ≢ k = λ same. true≢false (sym home ∙ (ap (λ j. (cell cells j).1) same ∙ away)) in
    let one = set cells 0 (m.limit, true) in
    let two = set one k (w, true) in
    let long = length-set cells 0 (m.limit, true) in
    let below : k < length one = omega (arith, long, there) in
    record {
      some = omega (arith, length-set one k (w, true), long, kept.some);
      limit = cell_other one k 0 (w, true) apart ∙ (cell_set cells 0 (m.limit, true) kept.some
          ∙ ap (λ (l : ℕ). (l, true)) (sym (limit_push marks m)));
      turns = turns_push two marks m
          (turns_stay cells two (λ j h. home_set one k w j (home_set cells 0 m.limit j h)) marks
          kept.turns)
          some rises
          (ap (λ j. (cell two j).1) key ∙ ap (λ c. c.1) (cell_set one k (w, true) below));
    }

same_at_zero : (n : ℕ) (b : Bool) → (n == 0) ≡ b → either (n == 0) 0 n ≡ n
same_at_zero n true is = let zero : n ≡ 0 = grind (arith, nat_tests) in rw is (sym zero)
same_at_zero n false is = rw is refl

-- a pen is made
pub makes_pen : (v : List Mark) (ask : Mark)
    → Moves IsLimited shows moves 0 (v, (no_nib, None)) (λ n. either (n == 0) 0 n)
    (MakesPen (step 0 0 0 ask) (v, (no_nib, None)))
makes_pen v ask cells marks kept pre away =
    let n = (cell cells 0).0 in (
      kept.some,
      ap (λ c. c.1) kept.limit,
      (
        adds,
        [],
        None,
        tt,
        limited_more _ _ (limited_same cells marks _ kept (same_at_zero n (n == 0) refl)),
        inl (refl, refl),
        refl,
      ),
    )

-- the limit is looked up
pub looks : (v : List Mark) (ask : Mark)
    → Moves IsLimited shows moves 0 (v, (no_nib, None)) (λ n. n)
    (Looks (step 0 0 0 ask) (v, (no_nib, None)))
looks v ask cells marks kept pre away = (
  kept.some,
  ap (λ c. c.1) kept.limit,
  (
    keeps,
    [],
    None,
    tt,
    limited_same cells marks _ kept refl,
    inl (refl, refl),
    ap (λ c. c.0) kept.limit ∙ ap limit_of (sym (append-nil marks)),
  ),
)

module _ (v : List Mark) (p : Nib) (ask : Mark) where
  abbrev first : Mark
  first = mark_of (step 0 0 1 ask)

  abbrev BeginsAt : List Cell → List Mark → Type 0
  BeginsAt cells marks = Goes IsLimited shows moves 0 (v, (p, None))
      (λ n. either (n == 0) 1 n) (Begins (step 0 0 1 ask) (v, (p, None))) cells marks

  begins_at : (cells : List Cell) (marks : List Mark) → IsLimited cells marks → (b : Bool)
      → ((cell cells 0).0 == 0) ≡ b → BeginsAt cells marks
  begins_at cells marks kept true is =
      let n = (cell cells 0).0 in
      let zero : n ≡ 0 = grind (arith, nat_tests) in
      let none : marks ≡ [] =
      none_yet cells marks kept.turns (sym (ap (λ c. c.0) kept.limit) ∙ zero) in
      let one : either (n == 0) 1 n ≡ 1 = rw is refl in
      let alone : marks ++ first ∷ [] ≡ first ∷ [] = ap (λ ms. ms ++ first ∷ []) none in
      let kept' : IsLimited (set cells 0 (1, true)) (first ∷ []) = record {
        some = omega (arith, length-set cells 0 (1, true), kept.some);
        limit = cell_set cells 0 (1, true) kept.some;
        turns = omega arith;
      } in (
        keeps,
        first ∷ [],
        None,
        tt,
        subst (λ (k : ℕ). IsLimited (set cells 0 (k, true)) (marks ++ first ∷ [])) (sym one)
            (subst (IsLimited (set cells 0 (1, true))) (sym alone) kept'),
        inl (refl, refl),
        λ _. (alone, refl),
      )
  begins_at cells marks kept false is =
      let n = (cell cells 0).0 in
      let same : either (n == 0) 1 n ≡ n = rw is refl in (
        keeps,
        [],
        None,
        tt,
        limited_same cells marks _ kept same,
        inl (refl, refl),
        λ (zero : n ≡ 0). absurd (grind (arith, nat_tests)),
      )

  -- the first mark
  pub begins : Moves IsLimited shows moves 0 (v, (p, None)) (λ n. either (n == 0) 1 n)
      (Begins (step 0 0 1 ask) (v, (p, None)))
  begins cells marks kept pre away = (
    kept.some,
    ap (λ c. c.1) kept.limit,
    begins_at cells marks kept ((cell cells 0).0 == 0) refl,
  )

module _ (own v : List Mark) (p : Nib) (old to : ℕ) (ask : Mark) where
  abbrev next : Mark
  next = mark_of (step 0 old to ask)

  -- Whoever has the pen of the last mark has seen all.
  pub raises : IsPrefix own v → 0 < limit_of own → limit_of own ≡ old → key_of own ≡ p.key
      → p.right ≡ may_write → old ≤ to
      → Moves IsLimited shows moves 0 (v, (p, None)) (λ n. either (n == old) to n)
      (Raises (step 0 old to ask) (v, (p, None)))
  raises begin some is key right rises cells marks kept pre away =
      let there = away right in
      let behind = prefix_trans own v marks begin pre in
      let turns : AreInTurn cells (own ++ behind.0) =
      subst (AreInTurn cells) (sym behind.1) kept.turns in
      let closed : (cell cells (key_of own)).1 ≡ false =
      ap (λ k. (cell cells k).1) key ∙ there.1 in
      let none : behind.0 ≡ [] = are_all cells own behind.0 turns some closed in
      let all : marks ≡ own =
      sym behind.1 ∙ (ap (λ ms. own ++ ms) none ∙ append-nil own) in
      let whole : v ≡ marks =
      prefix_whole v marks pre (omega (arith, ap length all, prefix_length own v begin)) in
      let n = (cell cells 0).0 in
      let limit : limit_of marks ≡ old = ap limit_of all ∙ is in
      let found : n ≡ old = ap (λ c. c.0) kept.limit ∙ limit in
      let yes : (n == old) ≡ true = grind (arith, nat_tests) in
      let becomes : either (n == old) to n ≡ to = rw yes refl in
      let more = limited_push cells marks next p.key p.value kept
      (omega (arith, limit, ap limit_of all, some)) (omega (arith, limit, rises))
      (ap key_of all ∙ key) there.0 there.1 in (
        kept.some,
        ap (λ c. c.1) kept.limit,
        (
          gives,
          next ∷ [],
          None,
          right,
          subst (λ (k : ℕ). IsLimited (set (set cells 0 (k, true)) p.key (p.value, true))
              (marks ++ next ∷ [])) (sym becomes) more,
          inl (refl, refl),
          (ap limit_of whole ∙ limit, ap (λ ms. ms ++ next ∷ []) (sym whole)),
        ),
      )
