-- Cells stay cells where others are added behind them, and a cell is made with those within it.
use Rattle.std.proofs.Common.{◌≡◌, ◌≢◌, ℕ, ◌+◌, ◌<◌, ◌≤◌, List, [], ◌∷◌, ◌++◌, length, set, inl}
use Rattle.std.proofs.Common.{inr}
use Rattle.std.proofs.Common.{refl, sym, ap, subst, arith, ◌∙◌, get_or, length-set}
use Rattle.std.proofs.lemmas.Bool.{cases_lt, cases_eq}
use Rattle.std.proofs.lemmas.List.{get_or-set_same, get_or-set_other, get_or_default, get_or_past}
use Rattle.std.proofs.lemmas.List.{get_or_append_left, get_or_push, length_push}
use Rattle.plum_geo.specs.Square.{IsSquare, IsWithin}
use Rattle.plum_pyramid.specs.declared.layout.Cell.{Cell}
use Rattle.plum_pyramid.specs.declared.layout.Member.{Member}
use Rattle.plum_pyramid.specs.Cells.{past, cell_of, IsCell, AreCells, AreHeld, AreCellsOf, Grows}

module _ (members : List Member) (before after : ℕ → Cell) (size more k : ℕ) (below : k < size)
    (longer : size ≤ more) (same : (j : ℕ) → k ≤ j → j < size → before j ≡ after j)
    (last : (before size).first ≡ (after size).first) where
  firsts : (j : ℕ) → k ≤ j → j ≤ size → (before j).first ≡ (after j).first
  firsts j from to = elim (cases_lt j size) [
    | inl within ↦ ap (λ (c : Cell). c.first) (same j from within)
    | inr beyond ↦
        let at : size ≡ j = omega arith in
        subst (λ i. (before i).first ≡ (after i).first) at last
  ]

  -- A cell stays one where all from it on stay, and the run behind them begins where it did.
  pub IsCell-stays : IsCell members before size k → IsCell members after more k
  IsCell-stays cell =
      let here : before k ≡ after k = same k (omega arith) below in
      let skips : (before k).skip ≡ (after k).skip = ap (λ (c : Cell). c.skip) here in
      let starts : (before k).first ≡ (after k).first = ap (λ (c : Cell). c.first) here in
      let ends : (before k).end ≡ (after k).end = ap (λ (c : Cell). c.end) here in
      let ahead = cell.ahead in
      let bounded = cell.bounded in
      let run = cell.run in
      let bound = cell.bound in
      let next : (after (before k).skip).first ≡ (after k).end =
      sym (firsts (before k).skip (omega arith) bounded) ∙ cell.next ∙ ends in
      record {
        square = subst (λ (c : Cell). IsSquare c.square) here cell.square;
        run = omega arith;
        bound = omega arith;
        held = subst (λ (c : Cell). AreHeld members c.first c.end c.square) here cell.held;
        ahead = omega arith;
        bounded = omega arith;
        next = subst (λ s. (after s).first ≡ (after k).end) skips next;
        inner = λ more_within.
            let within : k + 1 < (before k).skip = omega arith in
            sym (firsts (k + 1) (omega arith) (omega arith)) ∙ cell.inner within ∙ starts;
        nested = λ j from to.
            let within : j < (before k).skip = omega arith in
            let its = cell.nested j from within in
            let its_skip : (before j).skip ≡ (after j).skip =
            ap (λ (c : Cell). c.skip) (same j from (omega arith)) in
            omega arith;
      }

-- behind the last cell all runs end
pub cell_of-past : (cells : List Cell) (end k : ℕ) → length cells ≤ k
    → cell_of cells end k ≡ past end
cell_of-past cells end k beyond = get_or_past cells k (past end) beyond

-- a cell does not depend on where all runs end
pub cell_of-end : (cells : List Cell) (end other k : ℕ) → k < length cells
    → cell_of cells end k ≡ cell_of cells other k
cell_of-end cells end other k below = get_or_default cells k (past end) (past other) below

-- What was added for a run, of which the first cell now skips all others, are cells.
module _ (members : List Member) (old now after : List Cell) (first end : ℕ) (own : Cell)
    (same_length : length after ≡ length now)
    (here : cell_of after end (length old) ≡ own)
    (others : (k : ℕ) → k ≢ length old → cell_of after end k ≡ cell_of now end k)
    (longer : length old < length now)
    (kept : (k : ℕ) → k < length old → cell_of now end k ≡ cell_of old first k)
    (inner : AreCells members (cell_of now end) (length old + 1) (length now))
    (begins : length old + 1 < length now → (cell_of now end (length old + 1)).first ≡ first)
    (square : IsSquare own.square) (starts : own.first ≡ first) (ends : own.end ≡ end)
    (skips : own.skip ≡ length now) (run : first ≤ end) (bound : end ≤ length members)
    (held : AreHeld members first end own.square) where
  abbrev cells : ℕ → Cell
  cells = cell_of after end

  first_here : (cells (length old)).first ≡ first
  first_here = ap (λ (c : Cell). c.first) here ∙ starts

  end_here : (cells (length old)).end ≡ end
  end_here = ap (λ (c : Cell). c.end) here ∙ ends

  skip_here : (cells (length old)).skip ≡ length after
  skip_here = ap (λ (c : Cell). c.skip) here ∙ skips ∙ sym same_length

  -- the first cell
  own_is : IsCell members cells (length after) (length old)
  own_is =
      let past_all : cells (length after) ≡ past end =
      cell_of-past after end (length after) (omega arith) in
      let next : (cells (length after)).first ≡ (cells (length old)).end =
      ap (λ (c : Cell). c.first) past_all ∙ sym end_here in
      let first_is = first_here in
      let end_is = end_here in
      let skip_is = skip_here in
      record {
        square = subst (λ (c : Cell). IsSquare c.square) (sym here) square;
        run = omega arith;
        bound = omega arith;
        held = λ p m from to is.
            subst (λ (c : Cell). IsWithin m.site.at c.square) (sym here)
            (held p m (omega arith) (omega arith) is);
        ahead = omega arith;
        bounded = omega arith;
        next = subst (λ s. (cells s).first ≡ (cells (length old)).end) (sym skip_is) next;
        inner = λ within.
            let other : length old + 1 ≢ length old = λ e. absurd (omega arith) in
            ap (λ (c : Cell). c.first) (others (length old + 1) other)
            ∙ begins (omega arith) ∙ sym first_here;
        nested = λ j from to. elim (cases_eq j (length old)) [
          | inl at ↦
              let its : (cells j).skip ≡ (cells (length old)).skip =
              ap (λ i. (cells i).skip) at in
              omega arith
          | inr behind ↦
              let its : (cells j).skip ≡ (cell_of now end j).skip =
              ap (λ (c : Cell). c.skip) (others j behind) in
              let cell = inner j (omega arith) (omega arith) in
              let bounded = cell.bounded in
              omega arith
        ];
      }

  -- those behind it
  inner_are : (k : ℕ) → length old < k → k < length after → IsCell members cells (length after) k
  inner_are k behind below =
      let other : (j : ℕ) → length old < j → cell_of now end j ≡ cells j =
      λ j beyond. sym (others j (λ e. absurd (omega arith))) in
      IsCell-stays members (cell_of now end) cells (length now) (length after) k (omega arith)
      (omega arith) (λ j from to. other j (omega arith))
      (ap (λ (c : Cell). c.first) (other (length now) longer))
      (inner k (omega arith) (omega arith))

  stays : (k : ℕ) → k < length old → cells k ≡ cell_of old first k
  stays k below = others k (λ e. absurd (omega arith)) ∙ kept k below

  -- those before it
  before_are : (k : ℕ) → k < length old → IsCell members (cell_of old first) (length old) k
      → IsCell members cells (length after) k
  before_are k below cell =
      let last : cell_of old first (length old) ≡ past first =
      cell_of-past old first (length old) (omega arith) in
      IsCell-stays members (cell_of old first) cells (length old) (length after) k below
      (omega arith) (λ j from to. sym (stays j to))
      (ap (λ (c : Cell). c.first) last ∙ sym first_here) cell

  pub Grows-with : Grows members old after first end
  Grows-with = record {
    longer = omega arith;
    kept = stays;
    begins = first_here;
    closes = skip_here;
    cells = λ from are k low below. elim (cases_lt k (length old)) [
      | inl before ↦ before_are k before (are k low before)
      | inr not_before ↦ elim (cases_eq k (length old)) [
        | inl at ↦ subst (IsCell members cells (length after)) (sym at) own_is
        | inr behind ↦ inner_are k (omega arith) below
      ]
    ];
  }

module _ (members : List Member) (old after : List Cell) (first end : ℕ) (own : Cell)
    (pushed : after ≡ old ++ own ∷ []) where
  length-pushed : length after ≡ length old + 1
  length-pushed = ap length pushed ∙ length_push old own

  at-pushed : cell_of after end (length old) ≡ own
  at-pushed =
      ap (λ (cs : List Cell). cell_of cs end (length old)) pushed
      ∙ get_or_push old own (past end) (length old) refl

  before-pushed : (k : ℕ) → k < length old → cell_of after end k ≡ cell_of old first k
  before-pushed k below =
      ap (λ (cs : List Cell). cell_of cs end k) pushed
      ∙ get_or_append_left old (own ∷ []) (past end) k below
      ∙ cell_of-end old end first k below

  -- A leaf alone was added.
  pub Grows-leaf : own.skip ≡ length old + 1 → IsSquare own.square → own.first ≡ first
      → own.end ≡ end → first ≤ end → end ≤ length members → AreHeld members first end own.square
      → Grows members old after first end
  Grows-leaf skips square starts ends run bound held =
      let more = length-pushed in
      Grows-with members old after after first end own refl at-pushed (λ k other. refl)
      (omega arith) before-pushed (λ k low below. absurd (omega arith))
      (λ inside. absurd (omega arith)) square starts ends (omega arith) run bound held

-- The first of the cells within one stays the first where more are added behind it.
pub Grows-begins : (members : List Member) (before after : List Cell) (here first from to : ℕ)
    → here < length before → Grows members before after from to
    → (cell_of before from (here + 1)).first ≡ first
    → (cell_of after to (here + 1)).first ≡ first
Grows-begins members before after here first from to below grows begins =
    elim (cases_lt (here + 1) (length before)) [
      | inl inside ↦ ap (λ (c : Cell). c.first) (grows.kept (here + 1) inside) ∙ begins
      | inr last ↦
          let at : length before ≡ here + 1 = omega arith in
          let none : cell_of before from (here + 1) ≡ past from =
          cell_of-past before from (here + 1) last in
          let same : from ≡ first = ap (λ (c : Cell). c.first) (sym none) ∙ begins in
          subst (λ k. (cell_of after to k).first ≡ first) at (grows.begins ∙ same)
    ]

-- A cell that has others within it was added, and they behind it.
module _ (members : List Member) (old pushed now : List Cell) (first end skip : ℕ) (own was : Cell)
    (push : pushed ≡ old ++ own ∷ []) (square : IsSquare own.square) (starts : own.first ≡ first)
    (ends : own.end ≡ end) (skips : skip ≡ length now) (run : first ≤ end)
    (bound : end ≤ length members) (held : AreHeld members first end own.square) where
  abbrev closed : Cell
  closed = record { square = was.square; first = was.first; end = was.end; skip = skip }

  Grows-here : length old < length now
      → ((k : ℕ) → k ≤ length old → cell_of now end k ≡ cell_of pushed first k)
      → (cell_of now end (length old + 1)).first ≡ first
      → AreCells members (cell_of now end) (length old + 1) (length now)
      → was ≡ get_or now (length old) was
      → Grows members old (set now (length old) closed) first end
  Grows-here longer kept begins inner read =
      let there : was ≡ own =
      read ∙ get_or_default now (length old) was (past end) longer ∙ kept (length old) (omega arith)
      ∙ at-pushed members old pushed first first own push in
      let own_square : IsSquare was.square =
      subst (λ (c : Cell). IsSquare c.square) (sym there) square in
      let own_held : AreHeld members first end was.square =
      subst (λ (c : Cell). AreHeld members first end c.square) (sym there) held in
      Grows-with members old now (set now (length old) closed) first end closed
      (length-set now (length old) closed)
      (get_or-set_same now (length old) closed (past end) longer)
      (λ k other. get_or-set_other now (length old) k closed (past end) other)
      longer
      (λ k below. kept k (omega arith)
      ∙ before-pushed members old pushed first first own push k below)
      inner (λ inside. begins) own_square (ap (λ (c : Cell). c.first) there ∙ starts)
      (ap (λ (c : Cell). c.end) there ∙ ends) skips run bound own_held

  pub Grows-inner : (here from : ℕ) → length old ≡ here → end ≡ from → here < length now
      → ((k : ℕ) → k ≤ here → cell_of now from k ≡ cell_of pushed first k)
      → (cell_of now from (here + 1)).first ≡ first
      → AreCells members (cell_of now from) (here + 1) (length now)
      → was ≡ get_or now here was
      → Grows members old (set now here closed) first end
  Grows-inner here from at same =
      let Shown : ℕ → ℕ → Type 0 = λ h e. h < length now
      → ((k : ℕ) → k ≤ h → cell_of now e k ≡ cell_of pushed first k)
      → (cell_of now e (h + 1)).first ≡ first
      → AreCells members (cell_of now e) (h + 1) (length now)
      → was ≡ get_or now h was
      → Grows members old (set now h closed) first end in
      subst (λ e. Shown here e) same (subst (λ h. Shown h end) at Grows-here)

-- All cells were added, at position 0 of none.
pub AreCellsOf-grown : (members : List Member) (old cells : List Cell) (end : ℕ) → old ≡ []
    → end ≡ length members → Grows members old cells 0 end → AreCellsOf members cells
AreCellsOf-grown members old cells end none all grows =
    let empty : length old ≡ 0 = ap length none in
    let are : AreCells members (cell_of cells end) 0 (length cells) =
    grows.cells 0 (λ k low below. absurd (omega arith)) in
    let begins : (cell_of cells end 0).first ≡ 0 =
    subst (λ k. (cell_of cells end k).first ≡ 0) empty grows.begins in
    let root : (cell_of cells end 0).skip ≡ length cells =
    subst (λ k. (cell_of cells end k).skip ≡ length cells) empty grows.closes in
    record {
      each = subst (λ e. AreCells members (cell_of cells e) 0 (length cells)) all are;
      begins = subst (λ e. (cell_of cells e 0).first ≡ 0) all begins;
      root = subst (λ e. (cell_of cells e 0).skip ≡ length cells) all root;
    }

-- Of no members there are none.
pub AreCellsOf-none : (members : List Member) (cells : List Cell) → length members ≡ 0
    → length cells ≡ 0 → AreCellsOf members cells
AreCellsOf-none members cells no_members no_cells = record {
  each = λ k low below. absurd (omega arith);
  begins =
      ap (λ (c : Cell). c.first) (cell_of-past cells (length members) 0 (omega arith))
      ∙ no_members;
  root =
      ap (λ (c : Cell). c.skip) (cell_of-past cells (length members) 0 (omega arith))
      ∙ sym no_cells;
}
