-- What the output of a replay tells at each mark.
use Rattle.std.specs.Prelude.{◌≡◌, ℕ, List, length, map, filter_map, slice_get, All}
use Rattle.plum_base.specs.declared.answers.Reading.{Reading}
use Rattle.plum_base.specs.declared.rules.Rules.{Rules}
use Rattle.plum_packet.specs.Counts.{counts_of, refused_of}
use Rattle.plum_packet.specs.Segments.{Decoded}
use Rattle.plum_alert.specs.Alerts.{alerts_of}
use Rattle.plum_text.specs.Texts.{Section}

-- of what each mark has for each area, that of the a-th area, from 0, mark by mark
abbrev pub of_area : {X : Type 0} → ℕ → List (List X) → List X
of_area a marks = filter_map (λ of_mark. slice_get of_mark a) marks

-- These are the sections for these segments, decoded, with these readings at their marks: the
-- counts and the refused bodies of each segment, the readings at its mark, and for each area the
-- alerts of the area's readings by the rules.
pub record AreSections (rules : Rules) (segments : List (List Decoded))
    (readings : List (List Reading)) (sections : List Section) : Type 0 where
  pub counts : map (λ s. s.counts) sections ≡ counts_of segments
  pub refused : map (λ s. s.refused) sections ≡ refused_of segments
  pub read : map (λ s. s.readings) sections ≡ readings
  pub one_each : All (λ s. length s.alerts ≡ length s.readings) sections
  pub alerts : (a : ℕ) → of_area a (map (λ s. s.alerts) sections)
      ≡ alerts_of rules (of_area a readings)
