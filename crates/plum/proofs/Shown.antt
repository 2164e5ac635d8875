-- What the last readings of a replay say: the predictions of stations that show their values after
-- all their packets.
use Rattle.std.proofs.Common.{◌≡◌, ℕ, List, [], ◌∷◌, length, take, map, Option, Some, sym}
use Rattle.std.proofs.Common.{ap, ◌∙◌, subst, arith}
use Rattle.std.proofs.lemmas.List.{take_all}
use Rattle.std.proofs.lemmas.Option.{slice_get_within, get_or_from_slice_get}
use Rattle.std.proofs.lemmas.Slice.Zip.{AllZip-long}
use Rattle.std.specs.List.{flat_map, AllZip}
use Rattle.std.specs.Prelude.{slice_get}
use Rattle.plum_base.specs.declared.answers.Reading.{Reading}
use Rattle.plum_base.specs.declared.numbers.Tenths.{Tenths}
use Rattle.plum_base.specs.declared.packet.Packet.{Packet}
use Rattle.plum_base.specs.declared.setup.Setup.{Setup}
use Rattle.plum_base.specs.Levels.{IsLevelTable}
use Rattle.plum_base.specs.Sites.{SitesView, areas_of, targets_of}
use Rattle.plum_centre.specs.declared.centre.Centre.{Centre}
use Rattle.plum_centre.specs.Centre.{CentreId}
use Rattle.plum_core.specs.History.{packets_of}
use Rattle.plum_core.specs.Laws.{LegalByStation, LegalShows, OnePartEach}
use Rattle.plum_core.specs.Transcript.{Transcript, IsReadingAt, ArePredictions, entries_up_to}
use Rattle.plum_core.specs.Transcript.{journal_of}
use Rattle.plum_engine.specs.Engine.{IsValueOf}
use Rattle.plum_engine.specs.Run.{samples_since_gap}
use Rattle.plum_engine.specs.Signal.{amplitudes_of}
use Rattle.plum_engine.specs.Value.{IsValue}
use Rattle.plum_geo.specs.Prediction.{shown}
use Rattle.plum_packet.specs.Bodies.{bodies_of}
use Rattle.plum_packet.specs.Segments.{packets_in}
use Rattle.plum_replay.proofs.Lists.{AllZip-by_index}
use Rattle.plum_replay.specs.Progress.{HoldsJournal}
use Rattle.plum_replay.specs.Replayed.{IsReplay}
use Rattle.plum_seq.specs.Keys.{kept, of_station, with_fresh}
use Rattle.plum_seq.specs.Laws.{FreshAlone}
use Rattle.plum_snap.specs.Sessions.{SessionView}
use Rattle.plum.specs.DrillSummary.{AreValuesAfter, ArePredicted}
use Rattle.plum.specs.Summarized.{last_answers}
use Rattle.plum.proofs.Summed.{packets_of_segments}

-- Each session answered at each target of its area.
pub have_answers : (sites : SitesView) (values : ℕ → Option Tenths) (areas : List (List ℕ))
    (sessions : List SessionView)
    → AllZip (λ area session. ArePredicted sites values area session.last.answers) areas sessions
    → AllZip (λ area session.
    length session.last.answers ≡ length (targets_of area sites.targets)) areas sessions
have_answers sites values [] [] zip = tt
have_answers sites values [] (s ∷ ss) zip = absurd zip
have_answers sites values (a ∷ more) [] zip = absurd zip
have_answers sites values (a ∷ more) (s ∷ ss) zip = (
  AllZip-long _ (targets_of a sites.targets) s.last.answers zip.0,
  have_answers sites values more ss zip.1,
)

-- Their answers are the predictions.
pub are_predicted : (sites : SitesView) (values : ℕ → Option Tenths) (areas : List (List ℕ))
    (sessions : List SessionView)
    → AllZip (λ area session. ArePredicted sites values area session.last.answers) areas sessions
    → AllZip (ArePredicted sites values) areas (last_answers sessions)
are_predicted sites values [] [] zip = tt
are_predicted sites values [] (s ∷ ss) zip = absurd zip
are_predicted sites values (a ∷ more) [] zip = absurd zip
are_predicted sites values (a ∷ more) (s ∷ ss) zip =
    (zip.0, are_predicted sites values more ss zip.1)

module _ (setup : Setup) (sites : SitesView) (capture journal output : List ℕ)
    (done : IsReplay setup sites capture journal output) where
  abbrev t : Transcript
  t = done.transcript

  abbrev segments : List (List Packet)
  segments = map packets_in done.segments

  -- what the stations show in the end
  abbrev pub last_values : ℕ → Option Tenths
  last_values = shown (length sites.stations) (journal_of t)

  -- the entries up to the last mark are all
  all_entries : OnePartEach → entries_up_to (length segments) t ≡ journal_of t
  all_entries each =
      let long = each setup sites segments (length segments) t done.legal in
      ap (λ parts. flat_map (λ part. part) parts) (take_all (length segments) t.parts (omega arith))

  -- They are the values after all packets.
  pub values_after : OnePartEach → LegalByStation → LegalShows → FreshAlone
      → IsLevelTable setup.levels
      → AreValuesAfter setup (packets_in (bodies_of done.segments)) last_values
  values_after each by_station shows alone table station =
      let n = length (journal_of t) in
      let own = of_station station (packets_in (bodies_of done.segments)) in
      let front : take n (journal_of t) ≡ journal_of t = take_all n (journal_of t) (omega arith) in
      let value : IsValueOf setup (packets_of station (journal_of t)) (last_values station) =
      subst (λ h. IsValueOf setup (packets_of station h) (shown (length sites.stations) h station))
      front (shows setup sites segments t n station table done.legal) in
      let kept_are : packets_of station (journal_of t) ≡ kept own =
      ap (packets_of station) (sym (all_entries each))
      ∙ by_station setup sites segments t (length segments) station done.legal
      ∙ ap (λ ss. kept (of_station station (flat_map (λ s. s) ss)))
      (take_all (length segments) segments (omega arith))
      ∙ ap (λ ps. kept (of_station station ps)) (packets_of_segments done.segments) in
      subst (λ given. IsValue setup.levels (amplitudes_of setup (samples_since_gap given))
      (last_values station)) (ap with_fresh kept_are ∙ alone own) value

  -- A reading at the last mark is over all entries.
  predicted : OnePartEach → (a : ℕ) (area : List ℕ) (reading : Reading)
      → slice_get (areas_of sites.targets) a ≡ Some area
      → IsReadingAt t (length t.readings) a reading
      → ArePredicted sites last_values area reading.answers
  predicted each a area reading named at =
      let m = length t.readings in
      let up_to : entries_up_to m t ≡ journal_of t =
      ap (λ k. entries_up_to k t) done.legal.marks ∙ all_entries each in
      let bounds = done.legal.bounds m a reading at in
      let long = ap length up_to in
      let front : take reading.front (journal_of t) ≡ journal_of t =
      take_all reading.front (journal_of t) (omega (arith, bounds.0, long)) in
      subst (λ h. ArePredictions sites.stations h (targets_of area sites.targets) reading.answers)
      front (done.legal.answers m a reading area at named)

  -- So are those of the sessions.
  pub session_answers : OnePartEach → (id : CentreId) (centre : Centre) → id.sites ≡ sites
      → HoldsJournal id t centre
      → AllZip (λ area session. ArePredicted sites last_values area session.last.answers)
      (areas_of sites.targets) centre.sessions.items
  session_answers each id centre same holds =
      let areas = areas_of sites.targets in
      let sessions = centre.sessions.items in
      AllZip-by_index (λ area session. ArePredicted sites last_values area session.last.answers)
      areas sessions
      (holds.whole.sessions_are.all ∙ ap (λ (s : SitesView). length (areas_of s.targets)) same)
      (λ a area session named here.
      predicted each a area session.last named
      (subst (λ (s : SessionView). IsReadingAt t (length t.readings) a s.last)
      (get_or_from_slice_get sessions a session session here)
      (holds.last a session (slice_get_within sessions a session here))))
