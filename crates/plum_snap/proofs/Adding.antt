-- The exchange that adds an entry keeps the rule of the list.
use Rattle.std.proofs.Common.{◌≡◌, ℕ, ◌+◌, ◌<◌, ◌==◌, Bool, true, false, List, [], ◌∷◌, ◌++◌}
use Rattle.std.proofs.Common.{length}
use Rattle.std.proofs.Common.{refl, ap, sym, subst, arith, inl, length-append, None}
use Rattle.std.proofs.lemmas.List.{append-nil}
use Rattle.std.proofs.lemmas.Bool.Decides.{nat_tests}
use mathlib.Core.List.{IsPrefix}
use prog.Atomic.{either}
use Rattle.logbook.specs.Pages.{Cell, cell, keeps, no_nib, step, Moves, Goes}
use Rattle.plum_base.specs.declared.entry.Entry.{Entry}
use Rattle.plum_snap.specs.History.{IsKept, Adds}
use Rattle.plum_snap.proofs.Fronts.{prefix_whole}

-- as the rule has it: clients see nothing of the list, and trade nothing
abbrev pub shows : List Entry → List Entry
shows entries = []

abbrev pub moves : List Entry → List Entry → ℕ → Type 0
moves xs ys n = Unit {0}

module _ (v : List Entry) (e : Entry) (old : ℕ) (len : length v ≡ old) where
  -- the number that the exchange leaves, where it finds another
  abbrev left : ℕ → ℕ
  left n = either (n == old) (old + 1) n

  abbrev Exchanges : List Cell → List Entry → Type 0
  Exchanges cells log = Goes IsKept shows moves 0 (v, (no_nib, None)) left
      (Adds (step 0 old (old + 1) e) (v, (no_nib, None))) cells log

  adds_goes : (log : List Entry) → IsPrefix v log → (b : Bool) → (length log == old) ≡ b
      → Exchanges ((length log, true) ∷ (0, true) ∷ []) log
  adds_goes log pre true is =
      let here : length log ≡ old = grind (arith, nat_tests) in
      let same : v ≡ log = prefix_whole v log pre (omega arith) in
      let n : left (length log) ≡ length (log ++ e ∷ []) =
      rw is (omega (arith, length-append log (e ∷ []))) in (
        keeps,
        e ∷ [],
        None,
        tt,
        record { words = ap (λ (k : ℕ). (k, true) ∷ (0, true) ∷ []) n },
        inl (refl, refl),
        λ _. ap (λ w. w ++ e ∷ []) (sym same),
      )
  adds_goes log pre false is =
      let all : log ++ [] ≡ log = append-nil log in
      let n : left (length log) ≡ length (log ++ []) = rw is (ap length (sym all)) in (
        keeps,
        [],
        None,
        tt,
        record { words = ap (λ (k : ℕ). (k, true) ∷ (0, true) ∷ []) n },
        inl (refl, refl),
        λ here. absurd (grind (arith, nat_tests)),
      )

  -- Whatever the book is, the exchange adds the entry to all that was seen, or finds another
  -- length.
  pub adds_moves : Moves IsKept shows moves 0 (v, (no_nib, None)) left
      (Adds (step 0 old (old + 1) e) (v, (no_nib, None)))
  adds_moves cells log kept pre away =
      let P : List Cell → Type 0 =
      λ c. (0 < length c) × ((cell c 0).1 ≡ true) × Exchanges c log in
      subst P (sym kept.words)
      (omega arith, refl, adds_goes log pre (length log == old) refl)
