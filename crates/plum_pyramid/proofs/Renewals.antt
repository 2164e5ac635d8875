-- The maxima after a station was set.
use Rattle.std.proofs.Common.{◌≡◌, ◌≢◌, ℕ, ◌<◌, ◌≤◌, ◌⊎◌, List, length, Option, Some, None, inl}
use Rattle.std.proofs.Common.{inr}
use Rattle.std.proofs.Common.{refl, sym, ap, subst, arith, ◌∙◌, set, get_or}
use Rattle.std.proofs.lemmas.Bool.{cases_lt, cases_eq}
use Rattle.std.proofs.lemmas.List.{get_or-set_same, get_or-set_other, get_or_default}
use Rattle.std.proofs.lemmas.Option.{same_Some, slice_get_within, get_or_from_slice_get}
use Rattle.std.specs.Prelude.{slice_get, All}
use Rattle.std.specs.Option.{option_map}
use Rattle.plum_base.specs.Levels.{IsFactor}
use Rattle.plum_base.specs.Sites.{IsPlace}
use Rattle.plum_base.specs.declared.numbers.Tenths.{Tenths}
use Rattle.plum_base.specs.declared.sites.StationSite.{StationSite}
use Rattle.plum_geo.specs.Prediction.{corrected}
use Rattle.plum_geo.specs.Shown.{value_in}
use Rattle.plum_geo.specs.Square.{IsWithin}
use Rattle.plum_pyramid.specs.declared.layout.Cell.{Cell}
use Rattle.plum_pyramid.specs.declared.layout.Layout.{Layout}
use Rattle.plum_pyramid.specs.declared.layout.Member.{Member}
use Rattle.plum_geo.specs.Prediction.{IsAtMost}
use Rattle.plum_pyramid.specs.Maxima.{said, IsGreatest, CanSay}
use Rattle.plum_pyramid.specs.Cells.{past, IsCell, IsLaid, HasValues, IsMaximum, IsWithout, cell_at}
use Rattle.plum_pyramid.specs.Cells.{AreMaxima, AreMaximaWithout, IsRenewed}
use Rattle.plum_pyramid.proofs.Greatest.{IsGreatest-as, IsGreatest-join, IsGreatest-ends}
use Rattle.plum_pyramid.proofs.Runs.{first-ordered, run-within}

-- A member has the number of its station, and stands where that does.
pub listed-at : (layout : Layout) → IsLaid layout → (p : ℕ) (m : Member)
    → slice_get layout.members.items p ≡ Some m
    → slice_get layout.stations.items m.number.0 ≡ Some m.site
listed-at layout laid p m is =
    let within : p < length layout.members.items = slice_get_within layout.members.items p m is in
    let at : get_or layout.members.items p m ≡ m =
    get_or_from_slice_get layout.members.items p m m is in
    subst (λ (x : Member). slice_get layout.stations.items x.number.0 ≡ Some x.site) at
    (laid.members.listed p m within)

module _ (layout : Layout) (laid : IsLaid layout) (number : ℕ) (site : StationSite)
    (there : slice_get layout.stations.items number ≡ Some site) where
  -- A cell whose square does not hold the station's place is without it,
  pub IsWithout-away : (k : ℕ) → k < length layout.cells.items
      → ¬ IsWithin site.at (cell_at layout k).square → IsWithout layout number k
  IsWithout-away k below away p m from to is same =
      let own = listed-at layout laid p m is in
      let equal : m.site ≡ site =
      same_Some m.site site (sym own ∙ ap (slice_get layout.stations.items) same ∙ there) in
      let cell = laid.cells.each k (omega arith) below in
      away (subst (λ (s : StationSite). IsWithin s.at (cell_at layout k).square) equal
      (cell.held p m from to is))

-- and so are those within it.
pub IsWithout-inner : (layout : Layout) → IsLaid layout → (number k j : ℕ)
    → k < length layout.cells.items → k ≤ j → j < (cell_at layout k).skip
    → IsWithout layout number k → IsWithout layout number j
IsWithout-inner layout laid number k j below from to without p m low high is =
    let run = run-within layout.members.items (cell_at layout) (length layout.cells.items)
    laid.cells.each k j below from to in
    without p m (omega arith) (omega arith) is

-- What stations say that were not set is the same.
pub said-other : (values : List (Option Tenths)) (number : ℕ) (value : Option Tenths) (m : Member)
    → m.number.0 ≢ number → said (set values number value) m ≡ said values m
said-other values number value m other =
    ap (option_map (λ (v : Tenths). record { 0 = corrected m.site v }))
    (get_or-set_other values number m.number.0 value None other)

-- After a station was set, the maxima of the cells without it are right.
pub AreMaximaWithout-set : (layout : Layout) (values maxima : List (Option Tenths)) (number : ℕ)
    (value : Option Tenths) → AreMaxima layout values maxima
    → AreMaximaWithout layout (set values number value) maxima number
AreMaximaWithout-set layout values maxima number value are = record {
  count = are.count;
  each = λ k below without.
      IsGreatest-as (said values) (said (set values number value)) layout.members.items
      (cell_at layout k).first (cell_at layout k).end
      (λ p m from to is. said-other values number value m (without p m from to is))
      (value_in maxima k) (are.each k below);
}

-- Each member can say something.
pub CanSay-all : (layout : Layout) (values : List (Option Tenths)) → HasValues layout values
    → All (CanSay values) layout.members.items
CanSay-all layout values has k d below =
    let m : Member = get_or layout.members.items k d in
    let stations : List StationSite = layout.stations.items in
    let listed : slice_get stations m.number.0 ≡ Some m.site =
    has.laid.members.listed k d below in
    let within : m.number.0 < length stations =
    slice_get_within stations m.number.0 m.site listed in
    let at : get_or stations m.number.0 m.site ≡ m.site =
    get_or_from_slice_get stations m.number.0 m.site m.site listed in
    let lawful : IsPlace m.site.at × IsFactor m.site.factor =
    subst (λ (s : StationSite). IsPlace s.at × IsFactor s.factor) at
    (has.laid.members.lawful.in_range m.number.0 m.site within) in
    let count = has.count in
    record { listed = omega arith; place = lawful.0; factor = lawful.1 }

-- Where a cell is without a station, so are all within it: their maxima are right.
module _ (layout : Layout) (laid : IsLaid layout) (values maxima : List (Option Tenths))
    (number here : ℕ) (below : here < length layout.cells.items)
    (right : AreMaximaWithout layout values maxima number) where
  pub IsRenewed-without : IsWithout layout number here
      → IsRenewed layout values maxima maxima here
  IsRenewed-without without =
      let cell = laid.cells.each here (omega arith) below in
      let bounded = cell.bounded in
      record {
        within = λ j from to.
            right.each j (omega arith)
            (IsWithout-inner layout laid number here j below from to without);
        beyond = λ j other. refl;
      }

-- The maximum of a cell is set, and those within it are right.
module _ (layout : Layout) (values before now : List (Option Tenths)) (here : ℕ)
    (greatest : Option Tenths) (bound : here < length now)
    (maximum : IsMaximum layout values here greatest)
    (right : (j : ℕ) → here < j → j < (cell_at layout here).skip
    → IsMaximum layout values j (value_in now j))
    (beyond : (j : ℕ) → (j ≤ here) ⊎ ((cell_at layout here).skip ≤ j)
    → value_in now j ≡ value_in before j)
    (ahead : here < (cell_at layout here).skip) where
  abbrev after : List (Option Tenths)
  after = set now here greatest

  other_same : (j : ℕ) → j ≢ here → value_in after j ≡ value_in now j
  other_same j other = get_or-set_other now here j greatest None other

  pub IsRenewed-with : IsRenewed layout values before after here
  IsRenewed-with = record {
    within = λ j from to. elim (cases_eq j here) [
      | inl at ↦
          let set_here : value_in after here ≡ greatest =
          get_or-set_same now here greatest None bound in
          subst (λ i. IsMaximum layout values i (value_in after i)) (sym at)
          (subst (IsMaximum layout values here) (sym set_here) maximum)
      | inr other ↦
          subst (IsMaximum layout values j) (sym (other_same j other))
          (right j (omega arith) to)
    ];
    beyond = λ j away. elim away [
      | inl before_it ↦
          other_same j (λ e. absurd (omega arith)) ∙ beyond j (inl (omega arith))
      | inr behind ↦ other_same j (λ e. absurd (omega arith)) ∙ beyond j (inr behind)
    ];
  }

-- One part more of a cell was renewed.
module _ (layout : Layout) (laid : IsLaid layout) (values before after : List (Option Tenths))
    (number here part next : ℕ) (below : here < length layout.cells.items)
    (behind : here < part) (inside : part < (cell_at layout here).skip)
    (is_next : next ≡ (cell_at layout part).skip)
    (renewed : IsRenewed layout values before after part) where
  abbrev cells : ℕ → Cell
  cells = cell_at layout

  bounded : (cells here).skip ≤ length layout.cells.items
  bounded = (laid.cells.each here (omega arith) below).bounded

  part_is : IsCell layout.members.items cells (length layout.cells.items) part
  part_is =
      let all = bounded in
      laid.cells.each part (omega arith) (omega arith)

  pub next-ahead : part < next
  next-ahead = let ahead = part_is.ahead in omega arith

  pub next-within : next ≤ (cells here).skip
  next-within =
      let nested = (laid.cells.each here (omega arith) below).nested part (omega arith) inside in
      omega arith

  -- the greatest of the parts so far and of this one
  pub greatest-parts : (so_far greatest : Option Tenths)
      → IsGreatest (said values) layout.members.items (cells here).first (cells part).first so_far
      → (greatest ≡ so_far) ⊎ (greatest ≡ value_in after part)
      → IsAtMost so_far greatest → IsAtMost (value_in after part) greatest
      → IsGreatest (said values) layout.members.items (cells here).first (cells next).first greatest
  greatest-parts so_far greatest first either left right =
      let all = bounded in
      let ahead = part_is.ahead in
      let order : (cells here).first ≤ (cells part).first =
      first-ordered layout.members.items cells (length layout.cells.items) laid.cells.each here
      part (omega arith) (omega arith) in
      let ends : (cells part).end ≡ (cells next).first =
      sym part_is.next ∙ ap (λ k. (cells k).first) (sym is_next) in
      IsGreatest-ends (said values) layout.members.items (cells here).first (cells part).end
      (cells here).first (cells next).first greatest refl ends
      (IsGreatest-join (said values) layout.members.items (cells here).first (cells part).first
      (cells part).end so_far (value_in after part) greatest order part_is.run first
      (renewed.within part (omega arith) ahead) either left right)

  pub right-parts : ((j : ℕ) → here < j → j < part → IsMaximum layout values j (value_in before j))
      → (j : ℕ) → here < j → j < next → IsMaximum layout values j (value_in after j)
  right-parts right j low high = elim (cases_lt j part) [
    | inl earlier ↦
        subst (IsMaximum layout values j) (sym (renewed.beyond j (inl earlier)))
        (right j low earlier)
    | inr own ↦ renewed.within j own (omega arith)
  ]

  pub without-parts : AreMaximaWithout layout values before number
      → length after ≡ length before → AreMaximaWithout layout values after number
  without-parts right same = record {
    count = same ∙ right.count;
    each = λ j low without. elim (cases_lt j part) [
      | inl earlier ↦
          subst (IsMaximum layout values j) (sym (renewed.beyond j (inl earlier)))
          (right.each j low without)
      | inr not_earlier ↦ elim (cases_lt j (cells part).skip) [
        | inl own ↦ renewed.within j not_earlier own
        | inr later ↦
            subst (IsMaximum layout values j) (sym (renewed.beyond j (inr later)))
            (right.each j low without)
      ]
    ];
  }

  pub beyond-parts : (initial : List (Option Tenths))
      → ((j : ℕ) → (j ≤ here) ⊎ ((cells here).skip ≤ j) → value_in before j ≡ value_in initial j)
      → (j : ℕ) → (j ≤ here) ⊎ ((cells here).skip ≤ j) → value_in after j ≡ value_in initial j
  beyond-parts initial beyond j away = elim away [
    | inl earlier ↦ renewed.beyond j (inl (omega arith)) ∙ beyond j (inl earlier)
    | inr later ↦
        let order = next-within in
        renewed.beyond j (inr (omega arith)) ∙ beyond j (inr later)
  ]

-- The greatest of all parts of a cell is its maximum.
pub maximum-parts : (layout : Layout) → IsLaid layout → (values : List (Option Tenths))
    (here part : ℕ) (greatest : Option Tenths) → here < length layout.cells.items
    → part ≡ (cell_at layout here).skip
    → IsGreatest (said values) layout.members.items (cell_at layout here).first
    (cell_at layout part).first greatest
    → IsMaximum layout values here greatest
maximum-parts layout laid values here part greatest below at is =
    let cell = laid.cells.each here (omega arith) below in
    let ends : (cell_at layout part).first ≡ (cell_at layout here).end =
    ap (λ k. (cell_at layout k).first) at ∙ cell.next in
    IsGreatest-ends (said values) layout.members.items (cell_at layout here).first
    (cell_at layout part).first (cell_at layout here).first (cell_at layout here).end greatest refl
    ends is

-- a cell that was read
pub cell_read : (layout : Layout) (k : ℕ) (cell : Cell) → k < length layout.cells.items
    → cell ≡ get_or layout.cells.items k cell → cell ≡ cell_at layout k
cell_read layout k cell below read =
    read ∙ get_or_default layout.cells.items k cell (past (length layout.members.items)) below
