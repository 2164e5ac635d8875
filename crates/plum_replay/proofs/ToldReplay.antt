-- Both texts of a replay can be told.
use Rattle.std.proofs.Common.{◌≡◌, ℕ, ◌+◌, ◌-◌, ◌^◌, ◌<◌, List, [], ◌∷◌, ◌++◌, length, map}
use Rattle.std.proofs.Common.{take, sum_by, slice_get, Some, sym, ap, ◌∙◌, subst, arith}
use Rattle.std.proofs.Common.{bytes_eq}
use Rattle.std.proofs.lemmas.List.{length-map}
use Rattle.std.proofs.lemmas.List.Elements.{recursion_from_All, All-weaker}
use Rattle.std.proofs.lemmas.Slice.Zip.{AllZip-long}
use Rattle.std.specs.List.{AllByRecursion, AllZip}
use Rattle.plum_base.specs.declared.answers.Reading.{Reading}
use Rattle.plum_base.specs.declared.counts.Counts.{Counts}
use Rattle.plum_base.specs.declared.packet.Packet.{Packet}
use Rattle.plum_base.specs.declared.packet.RefusedBody.{RefusedBody}
use Rattle.plum_base.specs.declared.rules.Rules.{Rules}
use Rattle.plum_base.specs.declared.setup.Setup.{Setup}
use Rattle.plum_base.specs.declared.sites.TargetSite.{TargetSite}
use Rattle.plum_base.specs.Levels.{IsFactor, IsLevelTable}
use Rattle.plum_base.specs.Name.{IsName}
use Rattle.plum_base.specs.Sites.{SitesView, AreLawful, IsPlace, areas_of, targets_of}
use Rattle.plum_core.specs.Prediction.{FindsNear}
use Rattle.plum_packet.specs.Reading.{MOST_RECORDS, HasMoreRecords}
use Rattle.plum_packet.specs.Capture.{AreBytes}
use Rattle.plum_packet.specs.Counts.{counts_after}
use Rattle.plum_packet.specs.Laws.{HoldEachBody, TailIsShort}
use Rattle.plum_packet.specs.Segments.{Decoded, packets_in, refused_in}
use Rattle.plum_core.specs.Transcript.{Transcript, IsReadingAt, IsLegal, journal_of}
use Rattle.plum_text.specs.Laws.{CanBeTold, SectionsCanBeTold}
use Rattle.plum_text.specs.Texts.{Section}
use Rattle.plum_replay.specs.Laws.{AreNamed}
use Rattle.plum_replay.specs.Replayed.{IsReplay}
use Rattle.plum_replay.specs.Sections.{AreSections}
use Rattle.plum_replay.proofs.Lists.{All-at, All-by_index, AllZip-by_index, All-made, All-unmade}
use Rattle.plum_replay.proofs.Lists.{All-passing, sum_by-map}
use Rattle.plum_replay.proofs.Decodings.{CanBeCounted, CanBeRefused, few_packets, capture_counted}
use Rattle.plum_replay.proofs.Predicted.{predictions_fit}
use Rattle.plum_packet.proofs.Counted.{few_kept, all}
use Rattle.plum_core.proofs.GoingOn.{mark_within}
use Rattle.plum_replay.proofs.ToldJournal.{few_parts, journal_told}
use Rattle.plum_replay.proofs.ToldSections.{IsCounted, CanBeRead, CanBeShown, sections_told}
use Rattle.plum_replay.proofs.ToldSections.{bodies_of}

-- in each segment's counts none is above that of the bodies
all_counted : (earlier : List Packet) (segments : List (List Decoded))
    → AllByRecursion IsCounted (counts_after earlier segments)
all_counted earlier [] = tt
all_counted earlier (segment ∷ segments) =
    let packets = packets_in segment in
    let few = few_packets segment in
    let kept = few_kept earlier packets in (
      record { kept = omega (arith, few.0); repeats = omega (arith, few.0); refused = few.1 },
      all_counted (earlier ++ packets) segments,
    )

-- Each section of a transcript that is right in its parts can be shown.
shown_each : (targets : List TargetSite) (ss : List Section)
    → AllByRecursion (λ s. IsCounted s.counts) ss
    → AllByRecursion (λ s. AllByRecursion CanBeRefused s.refused) ss
    → AllByRecursion (λ s. AllZip (CanBeRead targets) (areas_of targets) s.readings) ss
    → AllByRecursion (λ s. length s.alerts ≡ length s.readings) ss
    → AllByRecursion (CanBeShown targets) ss
shown_each targets [] counted refused read alerts = tt
shown_each targets (s ∷ ss) counted refused read alerts = (
  record { counts = counted.0; refused = refused.0; readings = read.0; alerts = alerts.0 },
  shown_each targets ss counted.1 refused.1 read.1 alerts.1,
)

module _ (finds : FindsNear) (setup : Setup) (sites : SitesView)
    (lawful : AreLawful sites.stations sites.targets) (named : AreNamed sites.targets)
    (segments : List (List Decoded)) (counted : CanBeCounted sites.stations segments)
    (t : Transcript) (legal : IsLegal setup sites (map packets_in segments) t) where
  -- the areas of the sites
  abbrev areas : List (List ℕ)
  areas = areas_of sites.targets

  -- factors are within their ranges
  station_factors : AllByRecursion (λ s. IsFactor s.factor) sites.stations
  station_factors =
      recursion_from_All (λ s. IsFactor s.factor) sites.stations
      (All-weaker (λ s. IsPlace s.at × IsFactor s.factor) (λ s. IsFactor s.factor) (λ s is. is.1)
      sites.stations lawful.0.in_range)

  target_factors : AllByRecursion (λ t. IsFactor t.factor) sites.targets
  target_factors =
      recursion_from_All (λ t. IsFactor t.factor) sites.targets
      (All-weaker (λ t. IsPlace t.at × IsFactor t.factor) (λ t. IsFactor t.factor) (λ t is. is.1)
      sites.targets lawful.1.in_range)

  -- The reading of an area at a mark can be told.
  reading_told : (i a : ℕ) (of_mark : List Reading) (area : List ℕ) (reading : Reading)
      → slice_get t.readings i ≡ Some of_mark → slice_get areas a ≡ Some area
      → slice_get of_mark a ≡ Some reading → CanBeRead sites.targets area reading
  reading_told i a of_mark area reading is_mark is_area is_reading =
      let m = i + 1 in
      let same : m - 1 ≡ i = omega arith in
      let here : IsReadingAt t m a reading = record {
        from_one = omega arith;
        of_mark = of_mark;
        mark = ap (λ k. slice_get t.readings k) same ∙ is_mark;
        area = is_reading;
      } in
      let ts = targets_of area sites.targets in
      let history = take reading.front (journal_of t) in
      let predicted = legal.answers m a reading area here is_area in
      let few = (few_parts setup.lanes t.parts [] segments legal.complete).1 in
      let bodies = counted.bodies in
      let bound = (legal.bounds m a reading here).1 in
      let in_ts =
      All-passing (λ t. IsFactor t.factor) (λ t. bytes_eq t.area area) sites.targets
      target_factors in
      record {
        front = omega (arith, mark_within (m + 1) t);
        one_each = AllZip-long _ ts reading.answers predicted;
        answers =
            predictions_fit finds sites.stations station_factors history ts reading.answers in_ts
            predicted;
      }

  -- So can all readings of each mark.
  mark_told : (i : ℕ) (of_mark : List Reading) → slice_get t.readings i ≡ Some of_mark
      → AllZip (CanBeRead sites.targets) areas of_mark
  mark_told i of_mark is_mark =
      let HasEach : List Reading → Type 0 = λ rs. length rs ≡ length areas in
      let each = recursion_from_All HasEach t.readings legal.areas in
      AllZip-by_index (CanBeRead sites.targets) areas of_mark
      (All-at HasEach t.readings i of_mark each is_mark)
      (λ a area reading. reading_told i a of_mark area reading is_mark)

  -- The sections can be told, with a short tail.
  all_told : (rules : Rules) (sections : List Section) (tail : ℕ) → tail < 2 ^ 32
      → AreSections rules segments t.readings sections
      → SectionsCanBeTold sites.targets sections tail
  all_told rules sections tail short are =
      let targets = sites.targets in
      let counts_in_section : Section → Counts = λ s. s.counts in
      let bodies_in : Counts → ℕ = λ c. c.bodies in
      let length_of : List Decoded → ℕ = λ segment. length segment in
      let counts = counts_after [] segments in
      let bodies_are = all [] segments in
      let Read : List Reading → Type 0 = AllZip (CanBeRead targets) areas in
      let Refused : List RefusedBody → Type 0 = AllByRecursion CanBeRefused in
      let own =
      All-unmade IsCounted counts_in_section sections
      (subst (AllByRecursion IsCounted) (sym are.counts) (all_counted [] segments)) in
      let refused =
      All-unmade Refused (λ (s : Section). s.refused) sections
      (subst (AllByRecursion Refused) (sym are.refused)
      (All-made Refused refused_in segments counted.refused)) in
      let read =
      All-unmade Read (λ (s : Section). s.readings) sections
      (subst (AllByRecursion Read) (sym are.read) (All-by_index Read t.readings mark_told)) in
      let alerts =
      recursion_from_All (λ s. length s.alerts ≡ length s.readings) sections are.one_each in
      let sum : sum_by bodies_of sections ≡ sum_by length_of segments =
      sym (sum_by-map counts_in_section bodies_in sections)
      ∙ ap (λ cs. sum_by bodies_in cs) are.counts ∙ sym (sum_by-map bodies_in (λ n. n) counts)
      ∙ ap (λ ns. sum_by (λ n. n) ns) bodies_are ∙ sum_by-map length_of (λ n. n) segments in
      let long : length (map counts_in_section sections) ≡ length counts = ap length are.counts in
      let few = counted.few in
      let bodies = counted.bodies in
      sections_told targets sections tail
      (recursion_from_All (λ t. IsName t.name) targets named.names)
      (All-made IsName (λ t. t.area) targets
      (recursion_from_All (λ t. IsName t.area) targets named.areas))
      (omega (
        arith,
        long,
        length-map sections counts_in_section,
        ap length bodies_are,
        length-map counts bodies_in,
        length-map segments length_of,
      ))
      (omega (arith, sum)) short (shown_each targets sections own refused read alerts)

module _ (hold : HoldEachBody) (setup : Setup) (sites : SitesView)
    (table : IsLevelTable setup.levels) (lawful : AreLawful sites.stations sites.targets)
    (capture journal output : List ℕ) (bytes : AreBytes capture)
    (few : ¬ HasMoreRecords capture MOST_RECORDS)
    (r : IsReplay setup sites capture journal output) where
  -- The packets and the refused bodies of the capture can be told.
  counted_capture : CanBeCounted sites.stations r.segments
  counted_capture =
      capture_counted hold sites.stations capture r.segments r.tail bytes few r.capture_is

  -- So can the journal of a replay.
  pub replay_told : CanBeTold sites.stations r.transcript.parts
  replay_told =
      journal_told sites.stations setup r.segments r.transcript.parts table counted_capture
      r.legal.valid r.legal.complete

  -- So can its output, where the targets have names.
  pub output_told : TailIsShort → FindsNear → AreNamed sites.targets
      → SectionsCanBeTold sites.targets r.sections r.tail
  output_told short finds named =
      let is = r.capture_is in
      let tail = short capture is.bodies is.rest bytes is.capture_is in
      all_told finds setup sites lawful named r.segments counted_capture r.transcript r.legal
      setup.rules r.sections r.tail (omega (arith, is.tail_is)) r.sections_are
