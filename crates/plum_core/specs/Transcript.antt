-- Transcripts: what a replay said, and when that is right.
use Rattle.std.specs.Prelude.{◌≡◌, ℕ, ◌+◌, ◌-◌, ◌<◌, ◌≤◌, ◌==◌, if◌then◌else◌, List, []}
use Rattle.std.specs.Prelude.{◌∷◌, ◌++◌}
use Rattle.std.specs.Prelude.{length, map, filter, take, slice_get, All, Option, Some}
use Rattle.std.specs.List.{flat_map, AllZip}
use Rattle.plum_base.specs.declared.answers.Reading.{Reading}
use Rattle.plum_base.specs.declared.entry.Entry.{Entry}
use Rattle.plum_base.specs.declared.numbers.Tenths.{Tenths}
use Rattle.plum_base.specs.declared.packet.Packet.{Packet}
use Rattle.plum_base.specs.declared.setup.Setup.{Setup}
use Rattle.plum_base.specs.declared.sites.StationSite.{StationSite}
use Rattle.plum_base.specs.declared.sites.TargetSite.{TargetSite}
use Rattle.plum_base.specs.Sites.{SitesView, areas_of, targets_of}
use Rattle.plum_base.specs.Lane.{lane_of}
use Rattle.plum_seq.specs.Keys.{kept_in_segments}
use Rattle.plum_geo.specs.Prediction.{IsPredictionOver}
use Rattle.plum_core.specs.History.{packet_of, entries_of_lane, IsValidHistory, HoldsKept}

-- the journal, cut into the parts of the segments, and for each mark a reading for each area
pub record Transcript : Type 0 where
  pub parts : List (List Entry)
  pub readings : List (List Reading)

-- the transcript of no segments: nothing was said
abbrev pub no_transcript : Transcript
no_transcript = record { parts = []; readings = [] }

-- the entries of the first m segments
abbrev pub entries_up_to : ℕ → Transcript → List Entry
entries_up_to m t = flat_map (λ part. part) (take m t.parts)

-- the journal
abbrev pub journal_of : Transcript → List Entry
journal_of t = flat_map (λ part. part) t.parts

-- The reading for the a-th area, from 0, at mark m, from 1: the end of segment m.
pub record IsReadingAt (t : Transcript) (m a : ℕ) (reading : Reading) : Type 0 where
  pub from_one : 1 ≤ m
  pub of_mark : List Reading
  pub mark : slice_get t.readings (m - 1) ≡ Some of_mark
  pub area : slice_get of_mark a ≡ Some reading

-- the packets of a lane, where there are so many lanes
abbrev pub of_lane : ℕ → ℕ → List Packet → List Packet
of_lane lanes lane packets = filter (λ p. lane_of lanes p.station.0 == lane) packets

-- The part holds exactly these packets, each once: those of each lane, in file order.
abbrev pub HoldsByLane : ℕ → List Entry → List Packet → Type 0
HoldsByLane lanes part packets =
    (lane : ℕ) → of_lane lanes lane (map packet_of part) ≡ of_lane lanes lane packets

-- The history has of each lane, where there are so many, exactly the kept ones of its packets, each
-- once, in file order.
abbrev pub HoldsKeptByLane : ℕ → List Entry → List Packet → Type 0
HoldsKeptByLane lanes history packets = (lane : ℕ) → lane < lanes
    → HoldsKept (entries_of_lane lane history) (of_lane lanes lane packets)

-- The answers are the predictions at these targets, one for one.
abbrev pub ArePredictions : List StationSite → List Entry → List TargetSite → List (Option Tenths)
    → Type 0
ArePredictions stations history targets answers =
    AllZip (IsPredictionOver stations history) targets answers

-- The reading of an area over a whole history: its length, and the predictions at the area's
-- targets.
pub record IsReadingOver (sites : SitesView) (history : List Entry) (area : List ℕ)
    (reading : Reading) : Type 0 where
  pub front : reading.front ≡ length history
  pub answers : ArePredictions sites.stations history (targets_of area sites.targets)
      reading.answers

-- a reading for each area
abbrev pub AreReadingsOver : SitesView → List Entry → List Reading → Type 0
AreReadingsOver sites history readings =
    AllZip (IsReadingOver sites history) (areas_of sites.targets) readings

-- The reading of an area over a front of a history that holds so many entries at least: the
-- predictions at the area's targets.
pub record IsReadingFrom (sites : SitesView) (least : ℕ) (history : List Entry) (area : List ℕ)
    (reading : Reading) : Type 0 where
  pub least_is : least ≤ reading.front
  pub within : reading.front ≤ length history
  pub answers : ArePredictions sites.stations (take reading.front history)
      (targets_of area sites.targets) reading.answers

-- one for each area
abbrev pub AreReadingsFrom : SitesView → ℕ → List Entry → List Reading → Type 0
AreReadingsFrom sites least history readings =
    AllZip (IsReadingFrom sites least history) (areas_of sites.targets) readings

-- one part more
abbrev pub with_part : Transcript → List Entry → Transcript
with_part t part = record { parts = t.parts ++ part ∷ []; readings = t.readings }

-- the readings at one mark more
abbrev pub with_readings : Transcript → List Reading → Transcript
with_readings t readings = record { parts = t.parts; readings = t.readings ++ readings ∷ [] }

-- The transcript is right for these segments, given as packets, where so many marks have readings.
pub record IsLegalOver (setup : Setup) (sites : SitesView)
    (segments : List (List Packet)) (read : ℕ) (t : Transcript) : Type 0 where
  -- Each station's value is the plain function of its packets since its last gap.
  pub valid : IsValidHistory setup (length sites.stations) (journal_of t)
  -- Each part holds exactly the kept packets of its segment.
  pub complete : AllZip (HoldsByLane setup.lanes) t.parts (kept_in_segments segments)
  -- Each of these marks has a reading for each area.
  pub marks : length t.readings ≡ read
  pub areas : All (λ readings. length readings ≡ length (areas_of sites.targets)) t.readings
  -- The front of a reading holds every packet kept before its mark, and none that is kept after the
  -- next mark.
  pub bounds : (m a : ℕ) (reading : Reading) → IsReadingAt t m a reading
      → (length (entries_up_to m t) ≤ reading.front)
      × (reading.front ≤ length (entries_up_to (m + 1) t))
  -- An area's fronts never fall.
  pub rising : (m a : ℕ) (earlier later : Reading)
      → IsReadingAt t m a earlier → IsReadingAt t (m + 1) a later
      → earlier.front ≤ later.front
  -- Its answers are the predictions over that front of the journal, for the targets of its area.
  pub answers : (m a : ℕ) (reading : Reading) (area : List ℕ) → IsReadingAt t m a reading
      → slice_get (areas_of sites.targets) a ≡ Some area
      → ArePredictions sites.stations (take reading.front (journal_of t))
      (targets_of area sites.targets) reading.answers

-- The transcript is right for the segments of a capture: it has readings at each mark.
abbrev pub IsLegal : Setup → SitesView → List (List Packet) → Transcript → Type 0
IsLegal setup sites segments t = IsLegalOver setup sites segments (length segments) t

-- The transcript is right as far as the k-th segment. A mark has readings once the segment after it
-- has its part, and the last one with its own.
abbrev pub IsLegalUpTo : ℕ → Setup → SitesView → List (List Packet) → Transcript → Type 0
IsLegalUpTo k setup sites segments t =
    (k ≤ length segments)
    × IsLegalOver setup sites (take k segments) (if k == length segments then k else k - 1) t
