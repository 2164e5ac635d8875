-- The greatest of what all stations say at a place is the best there.
use Rattle.std.proofs.Common.{◌≡◌, ℕ, ◌<◌, ◌≤◌, Bool, true, false, List, length, Option, Some, None}
use Rattle.std.proofs.Common.{inl, inr, refl, sym, ap, subst, arith, ◌∙◌, ◌*◌, get_or}
use mathlib.Core.Path.{fun_ext}
use Rattle.std.proofs.lemmas.Bool.{cases_lt, leb-true, le-leb}
use Rattle.std.proofs.lemmas.Int.{ints}
use Rattle.std.proofs.lemmas.List.{get_or_past}
use Rattle.std.proofs.lemmas.List.Elements.{All-get_or}
use Rattle.std.proofs.lemmas.Option.{same_Some, none-some, slice_get_read, slice_get_within}
use Rattle.std.proofs.lemmas.Option.{get_or_from_slice_get}
use Rattle.std.specs.Prelude.{slice_get, if◌then◌else◌, IfSome}
use Rattle.std.specs.Option.{option_map}
use Rattle.plum_base.specs.declared.numbers.Point.{Point}
use Rattle.plum_base.specs.declared.numbers.Tenths.{Tenths}
use Rattle.plum_base.specs.declared.sites.StationSite.{StationSite}
use Rattle.plum_base.specs.Levels.{IsFactor}
use Rattle.plum_base.specs.Sites.{IsPlace}
use Rattle.plum_geo.specs.Corrected.{IsOnCorrectedScale}
use Rattle.plum_geo.specs.Prediction.{RADIUS, corrected, distance_squared, IsNear, is_near}
use Rattle.plum_geo.specs.Prediction.{FindsNear}
use Rattle.plum_geo.specs.Prediction.{Reports, IsAtMost, IsSaid, IsBest, IsOnScale, AreOnScale}
use Rattle.plum_geo.specs.Shown.{value_in}
use Rattle.plum_pyramid.specs.declared.layout.Layout.{Layout}
use Rattle.plum_pyramid.specs.declared.layout.Member.{Member}
use Rattle.plum_pyramid.specs.Maxima.{said, said_at, IsGreatest}
use Rattle.plum_pyramid.specs.Pyramid.{PyramidView, Setting, StandsFor, last_set}
use Rattle.plum_pyramid.specs.Cells.{HasValues}
use Rattle.plum_pyramid.proofs.Renewals.{listed-at}

-- what a station says comes from its value
mapped : (f : Tenths → Tenths) (o : Option Tenths) (t : Tenths) → option_map f o ≡ Some t
    → (v : Tenths) × (o ≡ Some v) × (f v ≡ t)
mapped f None t is = absurd (none-some t is)
mapped f (Some v) t is = (v, refl, same_Some (f v) t is)

-- each value is on the scale
on_scale : (values : List (Option Tenths)) → AreOnScale values → (n : ℕ)
    → IfSome (value_in values n) IsOnScale
on_scale values scale n = elim (cases_lt n (length values)) [
  | inl below ↦ All-get_or (λ value. IfSome value IsOnScale) values n None below scale
  | inr beyond ↦
      let none : value_in values n ≡ None = get_or_past values n None beyond in
      subst (λ (o : Option Tenths). IfSome o IsOnScale) (sym none) tt
]

module _ (layout : Layout) (values : List (Option Tenths)) (place : Point)
    (has : HasValues layout values) (finds : FindsNear) where
  abbrev stations : List StationSite
  stations = layout.stations.items

  abbrev members : List Member
  members = layout.members.items

  -- What is said at a place, one says that is near and reports.
  said_there : (b : Bool) (m : Member) (t : Tenths) → is_near m.site.at place ≡ b
      → (if b then said values m else None) ≡ Some t
      → IsNear m.site.at place × (said values m ≡ Some t)
  said_there true m t near is =
      (leb-true (distance_squared m.site.at place) (RADIUS * RADIUS) near, is)
  said_there false m t near is = absurd (none-some t is)

  IsSaid-from : (p : ℕ) (m : Member) (t : Tenths) → slice_get members p ≡ Some m
      → said_at values place m ≡ Some t → IsSaid stations (value_in values) place t
  IsSaid-from p m t is says =
      let there = said_there (is_near m.site.at place) m t refl says in
      let from = mapped (λ v. record { 0 = corrected m.site v }) (value_in values m.number.0) t
      there.1 in
      let r : Reports stations (value_in values) place m.number.0 from.0 = record {
        site = m.site;
        near =
            (finds stations place m.number.0 m.site).1
            (listed-at layout has.laid p m is, there.0);
        shows = from.1;
      } in
      (m.number.0, from.0, r, sym (ap (λ (v : Tenths). v.0) from.2))

  one_said : (o : Option Tenths)
      → IfSome o (λ t. (p : ℕ) × (m : Member) × (0 ≤ p) × (p < length members)
      × (slice_get members p ≡ Some m) × (said_at values place m ≡ Some t))
      → IfSome o (IsSaid stations (value_in values) place)
  one_said None one = tt
  one_said (Some t) one = IsSaid-from one.0 one.1 t one.4 one.5

  -- It is at least what each of those that report says.
  reaches : (best : Option Tenths)
      → IsGreatest (said_at values place) members 0 (length members) best
      → (n : ℕ) (value : Tenths) (r : Reports stations (value_in values) place n value)
      → IsAtMost (Some (record { 0 = corrected r.site value })) best
  reaches best is n value r =
      let found = (finds stations place n r.site).0 r.near in
      let own : Member = record { site = r.site; number = record { 0 = n } } in
      let stands = has.laid.members.complete n r.site found.0 in
      let there : slice_get members stands.0 ≡ Some own =
      slice_get_read members (length members) stands.0 own refl stands.1 (sym stands.2) in
      let near : is_near r.site.at place ≡ true =
      le-leb (distance_squared r.site.at place) (RADIUS * RADIUS) found.1 in
      let says : said_at values place own ≡ Some (record { 0 = corrected r.site value }) =
      ap (λ b. if b then said values own else None) near
      ∙ ap (option_map (λ (v : Tenths). record { 0 = corrected r.site v })) r.shows in
      subst (λ (o : Option Tenths). IsAtMost o best) says
      (is.covers stands.0 own (omega arith) stands.1 there)

  pub IsBest-from : (best : Option Tenths)
      → IsGreatest (said_at values place) members 0 (length members) best
      → IsBest stations (value_in values) place best
  IsBest-from None is = λ n value r. reaches None is n value r
  IsBest-from (Some best) is =
      (one_said (Some best) is.one, λ n value r. reaches (Some best) is n value r)

  -- and it is a value on the scale less a factor
  in_range : (o : Option Tenths) → IfSome o (IsSaid stations (value_in values) place)
      → IfSome o IsOnCorrectedScale
  in_range None said_one = tt
  in_range (Some t) (n, value, r, is) =
      let found = (finds stations place n r.site).0 r.near in
      let within : n < length stations = slice_get_within stations n r.site found.0 in
      let at : get_or stations n r.site ≡ r.site =
      get_or_from_slice_get stations n r.site r.site found.0 in
      let lawful : IsPlace r.site.at × IsFactor r.site.factor =
      subst (λ (s : StationSite). IsPlace s.at × IsFactor s.factor) at
      (has.laid.members.lawful.in_range n r.site within) in
      let scale : IsOnScale value =
      subst (λ (o : Option Tenths). IfSome o IsOnScale) r.shows (on_scale values has.scale n) in
      let low = scale.0 in
      let high = scale.1 in
      let factor_low = lawful.1.0 in
      let factor_high = lawful.1.1 in
      (omega (arith, ints), omega (arith, ints))

  pub in_range-from : (best : Option Tenths)
      → IsGreatest (said_at values place) members 0 (length members) best
      → IfSome best IsOnCorrectedScale
  in_range-from best is = in_range best (one_said best is.one)

-- The best by values is the best by the sets that they come from.
pub IsBest-by_sets : (pyramid : PyramidView) (place : Point) (best : Option Tenths)
    → IsBest pyramid.stations (value_in pyramid.values) place best
    → (stations : List StationSite) (settings : List Setting)
    → StandsFor pyramid stations settings → IsBest stations (last_set settings) place best
IsBest-by_sets pyramid place best is stations settings stands =
    subst (λ (sites : List StationSite). IsBest sites (last_set settings) place best)
    stands.same_stations
    (subst (λ (values : ℕ → Option Tenths). IsBest pyramid.stations values place best)
    (fun_ext stands.each) is)
