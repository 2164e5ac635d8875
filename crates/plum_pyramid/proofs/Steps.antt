-- The search at a place, over one cell more.
use Rattle.std.proofs.Common.{◌≡◌, ℕ, ◌+◌, ◌<◌, ◌≤◌, ◌⊎◌, Bool, false, List, length, Option, Some}
use Rattle.std.proofs.Common.{None, inl, inr, refl, sym, ap, subst, arith, ◌*◌}
use Rattle.std.proofs.lemmas.Bool.{cases_Bool, leb-true, le-leb, false_from_ne_true}
use Rattle.std.proofs.lemmas.List.{get_or_past}
use Rattle.std.specs.Prelude.{slice_get, if◌then◌else◌}
use Rattle.plum_base.specs.declared.numbers.Point.{Point}
use Rattle.plum_base.specs.declared.numbers.Tenths.{Tenths}
use Rattle.plum_geo.specs.Prediction.{RADIUS, distance_squared, IsNear, is_near}
use Rattle.plum_geo.specs.Square.{LiesAs}
use Rattle.plum_geo.specs.declared.square.Place.TheVariants.{Inside, Outside}
use Rattle.plum_pyramid.specs.declared.layout.Cell.{Cell}
use Rattle.plum_pyramid.specs.declared.layout.Layout.{Layout}
use Rattle.plum_pyramid.specs.declared.layout.Member.{Member}
use Rattle.plum_pyramid.specs.declared.searching.Search.{Search}
use Rattle.plum_geo.specs.Prediction.{IsAtMost}
use Rattle.plum_pyramid.specs.Maxima.{said, said_at, IsGreatest}
use Rattle.plum_pyramid.specs.Cells.{past, IsLaid, IsMaximum, cell_at, HasSearched}
use Rattle.plum_pyramid.proofs.Greatest.{IsAtMost-refl, IsAtMost-trans, IsGreatest-as}
use Rattle.plum_pyramid.proofs.Greatest.{IsGreatest-more}
use Rattle.plum_pyramid.proofs.Greatest.{IsGreatest-join, IsGreatest-ends, IsGreatest-nil}

module _ (values : List (Option Tenths)) (place : Point) (m : Member) where
  abbrev at : Bool → Option Tenths
  at b = if b then said values m else None

  -- A near station says at the place what it says;
  said-near : IsNear m.site.at place → said_at values place m ≡ said values m
  said-near near =
      ap at (le-leb (distance_squared m.site.at place) (RADIUS * RADIUS) near)

  -- another one says nothing there.
  said-far : ¬ IsNear m.site.at place → said_at values place m ≡ None
  said-far far =
      let test : is_near m.site.at place ≡ false =
      false_from_ne_true (is_near m.site.at place)
      (λ near. far (leb-true (distance_squared m.site.at place) (RADIUS * RADIUS) near)) in
      ap at test

  -- So none says more there than it says.
  said-no_more : IsAtMost (said_at values place m) (said values m)
  said-no_more = elim (cases_Bool (is_near m.site.at place)) [
    | inl near ↦
        subst (λ (o : Option Tenths). IsAtMost o (said values m)) (sym (ap at near))
        (IsAtMost-refl (said values m))
    | inr far ↦
        subst (λ (o : Option Tenths). IsAtMost o (said values m)) (sym (ap at far)) tt
  ]

module _ (layout : Layout) (values : List (Option Tenths)) (place : Point) (laid : IsLaid layout)
    (best : Option Tenths) (here : ℕ) (below : here < length layout.cells.items)
    (searched : HasSearched layout values place (record { best = best; next = here })) where
  abbrev cell : Cell
  cell = cell_at layout here

  abbrev members : List Member
  members = layout.members.items

  -- the search goes on behind the cell
  behind : (after : Option Tenths)
      → IsGreatest (said_at values place) members 0 cell.end after
      → HasSearched layout values place (record { best = after; next = cell.skip })
  behind after greatest =
      let is = laid.cells.each here (omega arith) below in
      record {
        bound = is.bounded;
        best =
            IsGreatest-ends (said_at values place) members 0 cell.end 0
            (cell_at layout cell.skip).first after refl (sym is.next) greatest;
      }

  -- A cell whose stations say nothing more is left.
  leave : ((p : ℕ) (m : Member) → cell.first ≤ p → p < cell.end → slice_get members p ≡ Some m
      → IsAtMost (said_at values place m) best)
      → HasSearched layout values place (record { best = best; next = cell.skip })
  leave nothing =
      let is = laid.cells.each here (omega arith) below in
      behind best
      (IsGreatest-more (said_at values place) members 0 cell.first cell.end best is.run
      searched.best nothing)

  -- one that is outside,
  pub leave-outside : LiesAs cell.square place Outside
      → HasSearched layout values place (record { best = best; next = cell.skip })
  leave-outside outside =
      let cell_is = laid.cells.each here (omega arith) below in
      leave (λ p m from to is.
      subst (λ (o : Option Tenths). IsAtMost o best)
      (sym (said-far values place m (outside m.site.at (cell_is.held p m from to is)))) tt)

  -- and one whose maximum is not above the best
  pub leave-lower : (greatest : Option Tenths) → IsMaximum layout values here greatest
      → IsAtMost greatest best
      → HasSearched layout values place (record { best = best; next = cell.skip })
  leave-lower greatest maximum lower =
      leave (λ p m from to is.
      IsAtMost-trans (said_at values place m) (said values m) best (said-no_more values place m)
      (IsAtMost-trans (said values m) greatest best (maximum.covers p m from to is) lower))

  -- The stations of the cell are looked at.
  pub take-own : (own after : Option Tenths)
      → IsGreatest (said_at values place) members cell.first cell.end own
      → (after ≡ best) ⊎ (after ≡ own) → IsAtMost best after → IsAtMost own after
      → HasSearched layout values place (record { best = after; next = cell.skip })
  take-own own after greatest either first second =
      let is = laid.cells.each here (omega arith) below in
      behind after
      (IsGreatest-join (said_at values place) members 0 cell.first cell.end best own after
      (omega arith) is.run searched.best greatest either first second)

  -- The maximum of a cell that is inside is taken.
  pub take-inside : (greatest after : Option Tenths) → IsMaximum layout values here greatest
      → LiesAs cell.square place Inside
      → (after ≡ best) ⊎ (after ≡ greatest) → IsAtMost best after → IsAtMost greatest after
      → HasSearched layout values place (record { best = after; next = cell.skip })
  take-inside greatest after maximum inside =
      let cell_is = laid.cells.each here (omega arith) below in
      take-own greatest after
      (IsGreatest-as (said values) (said_at values place) members cell.first cell.end
      (λ p m from to is.
      said-near values place m (inside m.site.at (cell_is.held p m from to is)))
      greatest maximum)

  -- A cell that has others within it is opened.
  pub open-inner : here + 1 < cell.skip
      → HasSearched layout values place (record { best = best; next = here + 1 })
  open-inner inner =
      let is = laid.cells.each here (omega arith) below in
      let bounded = is.bounded in
      record {
        bound = omega arith;
        best =
            IsGreatest-ends (said_at values place) members 0 cell.first 0
            (cell_at layout (here + 1)).first best refl (sym (is.inner inner)) searched.best;
      }

-- Nothing was searched yet;
pub searched-none : (layout : Layout) (values : List (Option Tenths)) (place : Point)
    → IsLaid layout → HasSearched layout values place (record { best = None; next = 0 })
searched-none layout values place laid = record {
  bound = omega arith;
  best =
      IsGreatest-ends (said_at values place) layout.members.items 0 0 0
      (cell_at layout 0).first None refl (sym laid.cells.begins)
      (IsGreatest-nil (said_at values place) layout.members.items 0 0 (omega arith));
}

-- behind the last cell all was.
pub searched-all : (layout : Layout) (values : List (Option Tenths)) (place : Point)
    (search : Search) → HasSearched layout values place search
    → length layout.cells.items ≤ search.next
    → IsGreatest (said_at values place) layout.members.items 0 (length layout.members.items)
    search.best
searched-all layout values place search searched beyond =
    let end : ℕ = length layout.members.items in
    let past_all : cell_at layout search.next ≡ past end =
    get_or_past layout.cells.items search.next (past end) beyond in
    IsGreatest-ends (said_at values place) layout.members.items 0
    (cell_at layout search.next).first 0 end search.best refl
    (ap (λ (c : Cell). c.first) past_all) searched.best
