-- A pyramid as a whole: where none has a value, and after a station was set.
use Rattle.std.proofs.Common.{◌≡◌, ℕ, ◌<◌, List, length, set, get_or}
use Rattle.std.proofs.Common.{replicate}
use Rattle.std.proofs.Common.{Option, None, inl, inr, sym, ◌∙◌, ap, subst, arith}
use Rattle.std.proofs.Common.{length-set}
use Rattle.std.proofs.lemmas.Bool.{cases_lt}
use Rattle.std.proofs.lemmas.List.{get_or-replicate, get_or_past, length-replicate}
use Rattle.std.proofs.lemmas.List.Elements.{All-replicate, All-set}
use Rattle.std.proofs.lemmas.Option.{slice_get-get_or}
use Rattle.std.specs.Option.{option_map}
use Rattle.std.specs.Prelude.{IfSome, pos}
use Rattle.plum_base.specs.declared.numbers.Tenths.{Tenths}
use Rattle.plum_base.specs.declared.sites.StationSite.{StationSite}
use Rattle.plum_geo.specs.Prediction.{corrected, IsAtMost, IsOnScale}
use Rattle.plum_geo.specs.Shown.{value_in}
use Rattle.plum_pyramid.specs.declared.layout.Cell.{Cell}
use Rattle.plum_pyramid.specs.declared.layout.Layout.{Layout}
use Rattle.plum_pyramid.specs.declared.layout.Member.{Member}
use Rattle.plum_pyramid.specs.Cells.{past, IsLaid, HasValues, AreMaxima}
use Rattle.plum_pyramid.specs.Cells.{IsMaximum, IsRenewed}

-- of values that are all none, each is none
pub none-in : (n i : ℕ) → value_in (replicate n None) i ≡ None
none-in n i = elim (cases_lt i n) [
  | inl below ↦ get_or-replicate n i None None below
  | inr beyond ↦
      let nones : List (Option Tenths) = replicate n None in
      let count : length nones ≡ n = length-replicate n None in
      get_or_past nones i None (omega arith)
]

module _ (layout : Layout) (laid : IsLaid layout) where
  pub HasValues-none : HasValues layout (replicate (length layout.stations.items) None)
  HasValues-none = record {
    laid = laid;
    count = length-replicate (length layout.stations.items) None;
    scale =
        All-replicate (λ (value : Option Tenths). IfSome value IsOnScale)
        (length layout.stations.items) None tt;
  }

  pub HasValues-set : (values : List (Option Tenths)) (number : ℕ) (value : Option Tenths)
      → IfSome value IsOnScale → HasValues layout values
      → HasValues layout (set values number value)
  HasValues-set values number value scale has = record {
    laid = laid;
    count = length-set values number value ∙ has.count;
    scale = All-set (λ (v : Option Tenths). IfSome v IsOnScale) values number value scale has.scale;
  }

  -- Where none has a value, none says anything.
  pub AreMaxima-none : (stations cells : ℕ) → cells ≡ length layout.cells.items
      → AreMaxima layout (replicate stations None) (replicate cells None)
  AreMaxima-none stations cells count = record {
    count = length-replicate cells None ∙ count;
    each = λ k below.
        let nones : List (Option Tenths) = replicate stations None in
        let silent = λ (m : Member).
        ap (option_map (λ (v : Tenths).
        let t : Tenths = record { 0 = corrected m.site v } in t)) (none-in stations m.number.0) in
        subst (λ (o : Option Tenths). IsMaximum layout nones k o) (sym (none-in cells k))
        (record {
          covers = λ p m from to is.
              subst (λ (o : Option Tenths). IsAtMost o None) (sym (silent m)) tt;
          one = tt;
        });
  }

  -- A layout of a station has a cell.
  pub cells-some : (number : ℕ) → number < length layout.stations.items
      → 0 < length layout.cells.items
  cells-some number listed =
      let stations : List StationSite = layout.stations.items in
      let members : List Member = layout.members.items in
      let blank : StationSite = record {
        code = 0;
        at = record { x = pos 0; y = pos 0 };
        factor = record { 0 = pos 0 };
      } in
      let site : StationSite = get_or stations number blank in
      let stands =
      laid.members.complete number site (slice_get-get_or stations number blank listed) in
      let some : stands.0 < length members = stands.1 in
      elim (cases_lt 0 (length layout.cells.items)) [
        | inl below ↦ below
        | inr none ↦
            let first : length members ≡ 0 =
            ap (λ (c : Cell). c.first)
            (sym (get_or_past layout.cells.items 0 (past (length members)) none))
            ∙ laid.cells.begins in
            absurd (omega arith)
      ]

  -- Where the first cell is renewed, all are.
  pub AreMaxima-renewed : (values before after : List (Option Tenths))
      → length after ≡ length layout.cells.items → IsRenewed layout values before after 0
      → AreMaxima layout values after
  AreMaxima-renewed values before after count renewed = record {
    count = count;
    each = λ k below.
        let root = laid.cells.root in
        renewed.within k (omega arith) (omega arith);
  }
