-- A drill has one summary.
use Rattle.std.proofs.Common.{◌≡◌, ℕ, List, [], ◌∷◌, ◌++◌, Option, Some, None, length, refl, sym}
use Rattle.std.proofs.Common.{◌∙◌, ap, subst, arith}
use Rattle.std.proofs.lemmas.Int.{ints}
use Rattle.std.specs.List.{AllZip, flat_map}
use Rattle.std.specs.Prelude.{ℤ, ◌≤ℤ◌}
use Rattle.plum_base.specs.declared.numbers.Point.{Point}
use Rattle.plum_base.specs.declared.numbers.Tenths.{Tenths}
use Rattle.plum_base.specs.declared.packet.Packet.{Packet}
use Rattle.plum_base.specs.declared.setup.Setup.{Setup}
use Rattle.plum_base.specs.declared.sites.StationSite.{StationSite}
use Rattle.plum_base.specs.declared.sites.TargetSite.{TargetSite}
use Rattle.plum_base.specs.Sites.{areas_of, targets_of, SitesView}
use Rattle.plum_engine.specs.Engine.{OneValue}
use Rattle.plum_geo.specs.Prediction.{IsBest, IsPrediction, plus_factor}
use Rattle.plum_packet.specs.Bodies.{bodies_of}
use Rattle.plum_packet.specs.Laws.{DecodedInOneWay}
use Rattle.plum_packet.specs.Segments.{Decoded, packets_in}
use Rattle.plum_seq.specs.Keys.{of_station}
use Rattle.plum_table.specs.Setup.{fields_of}
use Rattle.plum_text.specs.declared.lines.PlainLine.TheVariants.{Drill}
use Rattle.plum_text.specs.Lines.{out_line, plain_line}
use Rattle.plum_text.specs.Texts.{totals_line}
use Rattle.plum.proofs.Lawful.{drill_codes_differ}
use Rattle.plum.proofs.SameSetup.{value_by_fields}
use Rattle.plum.specs.DrillSites.{drill_stations, drill_targets}
use Rattle.plum.specs.DrillSummary.{AreValuesAfter, ArePredicted, answers_at, drill_sites}
use Rattle.plum.specs.Laws.{OneDrillSummary}
use Rattle.plum.specs.Plain.{totals_of_bodies}

-- numbers, each at most the other
both_ways : (a b : ℤ) → a ≤ℤ b → b ≤ℤ a → a ≡ b
both_ways a b up down = omega (arith, ints)

module _ (stations : List StationSite) (values : ℕ → Option Tenths) (place : Point) where
  -- what one of those that report says is at most what none of them exceeds
  at_most : (a b : Tenths) → IsBest stations values place (Some a)
      → IsBest stations values place (Some b) → a.0 ≤ℤ b.0
  at_most a b first second =
      let said = first.0 in
      subst (λ z. z ≤ℤ b.0) (sym said.3) (second.1 said.0 said.1 said.2)

  -- There is one best at a place.
  one_best : (a b : Option Tenths) → IsBest stations values place a
      → IsBest stations values place b → a ≡ b
  one_best None None first second = refl
  one_best None (Some b) first second =
      let said = second.0 in absurd (first said.0 said.1 said.2)
  one_best (Some a) None first second = let said = first.0 in absurd (second said.0 said.1 said.2)
  one_best (Some a) (Some b) first second =
      let some : ℤ → Option Tenths = λ z. Some (record { 0 = z }) in
      ap some (both_ways a.0 b.0 (at_most a b first second) (at_most b a second first))

-- What each member of a list determines, the list does.
one_zip : {X Y : Type 0} (R : X → Y → Type 0) → ((x : X) (y z : Y) → R x y → R x z → y ≡ z)
    → (xs : List X) (ys zs : List Y) → AllZip R xs ys → AllZip R xs zs → ys ≡ zs
one_zip R one [] [] [] first second = refl
one_zip R one [] [] (z ∷ zs) first second = absurd second
one_zip R one [] (y ∷ ys) zs first second = absurd first
one_zip R one (x ∷ xs) [] zs first second = absurd first
one_zip R one (x ∷ xs) (y ∷ ys) [] first second = absurd second
one_zip R one (x ∷ xs) (y ∷ ys) (z ∷ zs) first second =
    ap (λ w. w ∷ ys) (one x y z first.0 second.0)
    ∙ ap (λ ws. z ∷ ws) (one_zip R one xs ys zs first.1 second.1)

module _ (sites : SitesView) (values : ℕ → Option Tenths) where
  one_prediction : (target : TargetSite) (a b : Option Tenths)
      → IsPrediction sites.stations values target a → IsPrediction sites.stations values target b
      → a ≡ b
  one_prediction target a b first second =
      first.2
      ∙ ap (plus_factor target)
      (one_best sites.stations values target.at first.0 second.0 first.1 second.1)
      ∙ sym second.2

  one_of_area : (area : List ℕ) (some other : List (Option Tenths))
      → ArePredicted sites values area some → ArePredicted sites values area other
      → some ≡ other
  one_of_area area some other first second =
      one_zip (IsPrediction sites.stations values) one_prediction (targets_of area sites.targets)
      some other first second

-- A station has one value.
one_values : OneValue → (a b : Setup) → fields_of a ≡ fields_of b → (packets : List Packet)
    (some other : ℕ → Option Tenths) → AreValuesAfter a packets some
    → AreValuesAfter b packets other → some ≡ other
one_values one a b same packets some other first second =
    let each : (s : ℕ) → some s ≡ other s =
    λ s. let own = of_station s packets in
    one b own (some s) (value_by_fields a b same own (some s) (first s))
    ∙ sym (one b own (other s) (second s)) in
    λ j s. each s j

-- the summary of these segments and these answers
abbrev summary_of : ℕ → ℕ → ℕ → List (List Decoded) → List (List (Option Tenths)) → List ℕ
summary_of seed stations seconds segments answers = plain_line (Drill seed stations seconds)
    ++ out_line (totals_line (length segments) (totals_of_bodies (bodies_of segments)))
    ++ flat_map out_line (answers_at (length segments) drill_targets answers)

pub one_summary : DecodedInOneWay → OneValue → OneDrillSummary
one_summary decoded one seed stations seconds text other a b =
    let segments : b.segments ≡ a.segments =
    (decoded (drill_stations stations) _ b.segments a.segments b.tail a.tail
    (drill_codes_differ stations) b.capture_is a.capture_is).0 in
    let packets = packets_in (bodies_of a.segments) in
    let later : AreValuesAfter b.setup packets b.values =
    subst (λ ss. AreValuesAfter b.setup (packets_in (bodies_of ss)) b.values) segments
    b.values_are in
    let values : b.values ≡ a.values =
    one_values one b.setup a.setup (b.setup_is ∙ sym a.setup_is) packets b.values a.values later
    a.values_are in
    let predicted : AllZip (ArePredicted (drill_sites stations) a.values)
    (areas_of drill_targets) b.answers =
    subst (λ vs. AllZip (ArePredicted (drill_sites stations) vs) (areas_of drill_targets) b.answers)
    values b.answers_are in
    let answers : a.answers ≡ b.answers =
    one_zip (ArePredicted (drill_sites stations) a.values)
    (one_of_area (drill_sites stations) a.values) (areas_of drill_targets) a.answers b.answers
    a.answers_are predicted in
    a.text_is
    ∙ ap (summary_of seed stations seconds a.segments) answers
    ∙ ap (λ ss. summary_of seed stations seconds ss b.answers) (sym segments)
    ∙ sym b.text_is
