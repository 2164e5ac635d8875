-- The runs of cells: they begin one behind the other, and that of a cell within another lies in its
-- run.
use Rattle.std.proofs.Common.{◌≡◌, ℕ, zero, suc, ◌+◌, ◌-◌, ◌<◌, ◌≤◌, List, inl, inr, sym}
use Rattle.std.proofs.Common.{subst, arith}
use Rattle.std.proofs.lemmas.Bool.{cases_lt}
use Rattle.plum_pyramid.specs.declared.layout.Cell.{Cell}
use Rattle.plum_pyramid.specs.declared.layout.Member.{Member}
use Rattle.plum_pyramid.specs.Cells.{AreCells}

module _ (members : List Member) (cells : ℕ → Cell) (size : ℕ)
    (are : AreCells members cells 0 size) where
  -- the next run begins no earlier
  first-next : (k : ℕ) → k < size → (cells k).first ≤ (cells (k + 1)).first
  first-next k below =
      let cell = are k (omega arith) below in
      elim (cases_lt (k + 1) (cells k).skip) [
        | inl inner ↦ let same = cell.inner inner in omega arith
        | inr leaf ↦
            let ahead = cell.ahead in
            let to : (cells k).skip ≡ k + 1 = omega arith in
            let next : (cells (k + 1)).first ≡ (cells k).end =
            subst (λ j. (cells j).first ≡ (cells k).end) to cell.next in
            let run = cell.run in
            omega arith
      ]

  -- nor do those behind it
  first-rises : (d k : ℕ) → k + d ≤ size → (cells k).first ≤ (cells (k + d)).first
  first-rises zero k within =
      let same : k + zero ≡ k = omega arith in
      subst (λ j. (cells k).first ≤ (cells j).first) (sym same) (omega arith)
  first-rises (suc d) k within =
      let before : (cells k).first ≤ (cells (k + d)).first = first-rises d k (omega arith) in
      let step : (cells (k + d)).first ≤ (cells (k + d + 1)).first =
      first-next (k + d) (omega arith) in
      let same : k + d + 1 ≡ k + suc d = omega arith in
      subst (λ j. (cells k).first ≤ (cells j).first) same (omega arith)

  pub first-ordered : (j k : ℕ) → j ≤ k → k ≤ size → (cells j).first ≤ (cells k).first
  first-ordered j k order within =
      let same : j + (k - j) ≡ k = omega arith in
      subst (λ i. (cells j).first ≤ (cells i).first) same (first-rises (k - j) j (omega arith))

  -- the run of a cell within another lies in its run
  pub run-within : (k j : ℕ) → k < size → k ≤ j → j < (cells k).skip
      → ((cells k).first ≤ (cells j).first) × ((cells j).end ≤ (cells k).end)
  run-within k j below from to =
      let cell = are k (omega arith) below in
      let bounded = cell.bounded in
      let other = are j (omega arith) (omega arith) in
      let nested = cell.nested j from to in
      let ends : (cells (cells j).skip).first ≤ (cells (cells k).skip).first =
      first-ordered (cells j).skip (cells k).skip nested bounded in
      let mine = cell.next in
      let its = other.next in
      (first-ordered k j from (omega arith), omega arith)
