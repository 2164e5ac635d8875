-- The summary of a drill that was replayed.
use Rattle.std.proofs.Common.{◌≡◌, ℕ, List, [], ◌++◌, length, sym, ap, ◌∙◌, subst}
use Rattle.std.proofs.lemmas.List.{length-map}
use Rattle.std.specs.List.{flat_map, sum_by, AllZip}
use Rattle.plum_base.specs.declared.counts.Counts.{Counts}
use Rattle.plum_base.specs.declared.setup.Setup.{Setup}
use Rattle.plum_base.specs.Counts.{AddUp}
use Rattle.plum_base.specs.Levels.{IsLevelTable}
use Rattle.plum_base.specs.Sites.{SitesView, areas_of}
use Rattle.plum_centre.specs.declared.centre.Centre.{Centre}
use Rattle.plum_centre.specs.Centre.{CentreId}
use Rattle.plum_core.specs.Laws.{LegalByStation, LegalShows, OnePartEach}
use Rattle.plum_host.specs.Told.{HostView}
use Rattle.plum_packet.specs.Bodies.{bodies_of}
use Rattle.plum_packet.specs.Segments.{IsCaptureOf}
use Rattle.plum_packet.specs.Counts.{counts_of}
use Rattle.plum_packet.specs.Laws.{CountsAddUp}
use Rattle.plum_replay.proofs.Lists.{sum_by-map}
use Rattle.plum_replay.specs.declared.totals.Totals.{Totals}
use Rattle.plum_replay.specs.Progress.{HoldsJournal}
use Rattle.plum_replay.specs.Replayed.{AppendsReplay, counts_in_all}
use Rattle.plum_seq.specs.Laws.{FreshAlone, KeptInParts}
use Rattle.plum_table.specs.Setup.{fields_of}
use Rattle.plum_text.specs.declared.lines.PlainLine.TheVariants.{Drill}
use Rattle.plum_text.specs.Lines.{plain_line, out_line}
use Rattle.plum_text.specs.Texts.{Section, totals_line}
use Rattle.plum.specs.DrillCapture.{drill_capture}
use Rattle.plum.specs.DrillSetup.{drill_setup}
use Rattle.plum.specs.DrillSummary.{DRILL_LANES, ArePredicted, IsDrillSummary, answers_at}
use Rattle.plum.specs.DrillSummary.{drill_sites}
use Rattle.plum.specs.Plain.{totals_of_bodies}
use Rattle.plum.specs.Summarized.{HaveAnswers, last_answers}
use Rattle.plum.proofs.Shown.{are_predicted, have_answers, last_values, session_answers}
use Rattle.plum.proofs.Shown.{values_after}
use Rattle.plum.proofs.Summed.{length-counts_after, totals_are}

-- what is known of transcripts, of counts and of keys
pub record DrillLaws : Type 0 where
  pub each : OnePartEach
  pub by_station : LegalByStation
  pub shows : LegalShows
  pub parts : KeptInParts
  pub alone : FreshAlone
  pub add_up : CountsAddUp

module _ (laws : DrillLaws) (setup : Setup) (sites : SitesView) (totals : Totals)
    (capture : List ℕ) (before after : HostView) (id : CentreId) (centre : Centre)
    (same : id.sites ≡ sites)
    (through : (done : AppendsReplay setup sites totals capture before after)
    × HoldsJournal id done.replay.transcript centre) where
  -- Each session answered at each target of its area.
  pub answered : HaveAnswers sites centre.sessions.items
  answered =
      let done = through.0 in
      have_answers sites (last_values setup sites capture done.journal done.output done.replay)
      (areas_of sites.targets) centre.sessions.items
      (session_answers setup sites capture done.journal done.output done.replay laws.each id centre
      same through.1)

  -- as many sections as segments
  section_each : totals.segments ≡ length through.0.replay.segments
  section_each =
      let replay = through.0.replay in
      ap (λ (t : Totals). t.segments) through.0.totals_are
      ∙ sym (length-map replay.sections (λ s. s.counts))
      ∙ ap length replay.sections_are.counts
      ∙ length-counts_after [] replay.segments

  -- a sum over the sections is that over the counts of the segments
  summed : (f : Counts → ℕ)
      → sum_by (λ (s : Section). f s.counts) through.0.replay.sections
      ≡ sum_by f (counts_of through.0.replay.segments)
  summed f =
      let replay = through.0.replay in
      sym (sum_by-map (λ (s : Section). s.counts) f replay.sections)
      ∙ ap (sum_by f) replay.sections_are.counts

  counted : AddUp (counts_in_all totals)
      → counts_in_all totals ≡ totals_of_bodies (bodies_of through.0.replay.segments)
  counted sums =
      let is = through.0.totals_are in
      totals_are laws.parts laws.add_up through.0.replay.segments (counts_in_all totals) sums
      (ap (λ (t : Totals). t.bodies) is ∙ summed (λ c. c.bodies))
      (ap (λ (t : Totals). t.kept) is ∙ summed (λ c. c.kept))
      (ap (λ (t : Totals). t.refused) is ∙ summed (λ c. c.refused))

  -- This is its summary.
  pub summarized : (seed stations seconds : ℕ) (text : List ℕ) → IsLevelTable setup.levels
      → sites ≡ drill_sites stations → capture ≡ drill_capture seed stations seconds
      → fields_of setup ≡ drill_setup DRILL_LANES → AddUp (counts_in_all totals)
      → text ≡ plain_line (Drill seed stations seconds)
      ++ out_line (totals_line totals.segments (counts_in_all totals))
      ++ flat_map out_line (answers_at totals.segments sites.targets
      (last_answers centre.sessions.items))
      → IsDrillSummary seed stations seconds text
  summarized seed stations seconds text table drilled captured is_setup sums is_text =
      let done = through.0 in
      let replay = done.replay in
      let values = last_values setup sites capture done.journal done.output replay in
      let answers = last_answers centre.sessions.items in
      let of_sites : SitesView → Type 0 = λ s.
      AllZip (ArePredicted s values) (areas_of s.targets) answers in
      record {
        setup = setup;
        setup_is = is_setup;
        segments = replay.segments;
        tail = replay.tail;
        capture_is = rw (sym captured) (subst (λ (s : SitesView).
            IsCaptureOf s.stations capture replay.segments replay.tail) drilled replay.capture_is);
        values = values;
        values_are = values_after setup sites capture done.journal done.output replay laws.each
            laws.by_station laws.shows laws.alone table;
        answers = answers;
        answers_are = subst of_sites drilled (are_predicted sites values (areas_of sites.targets)
            centre.sessions.items (session_answers setup sites capture done.journal done.output
            replay
            laws.each id centre same through.1));
        text_is = is_text
            ∙ ap (λ n. plain_line (Drill seed stations seconds)
            ++ out_line (totals_line n (counts_in_all totals))
            ++ flat_map out_line (answers_at n sites.targets answers)) section_each
            ∙ ap (λ c. plain_line (Drill seed stations seconds)
            ++ out_line (totals_line (length replay.segments) c)
            ++ flat_map out_line (answers_at (length replay.segments) sites.targets answers))
            (counted sums)
            ∙ ap (λ (s : SitesView). plain_line (Drill seed stations seconds)
            ++ out_line (totals_line (length replay.segments)
            (totals_of_bodies (bodies_of replay.segments)))
            ++ flat_map out_line (answers_at (length replay.segments) s.targets answers)) drilled;
      }
