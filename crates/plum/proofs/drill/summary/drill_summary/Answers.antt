use Rattle.std.proofs.Common.{◌≡◌, ◌++◌, List, Some, sym, ap, subst, ◌∙◌, refl}
use Rattle.std.proofs.lemmas.Result.{IfOk-weaker}
use Rattle.std.specs.List.{flat_map}
use Rattle.plum_base.specs.Sites.{AreStations, AreTargets}
use Rattle.plum_host.specs.declared.host.In.TheVariants.{Capture}
use Rattle.plum_host.specs.Memory.{MemHostView, told_by}
use Rattle.plum_replay.specs.Replayed.{counts_in_all}
use Rattle.plum_snap.specs.Sessions.{SessionView}
use Rattle.plum_text.specs.declared.lines.PlainLine.TheVariants.{Drill}
use Rattle.plum_text.specs.Lines.{plain_line, out_line}
use Rattle.plum_text.specs.Texts.{totals_line}
use Rattle.plum.specs.DrillCapture.{drill_capture}
use Rattle.plum.specs.DrillSummary.{answers_at, drill_sites}
use Rattle.plum.specs.Summarized.{HaveAnswers, last_answers}
use Rattle.plum.proofs.Lawful.{stations_are_lawful, targets_are_lawful}
use Rattle.plum.proofs.Summaries.{DrillLaws, answered, summarized}
use Rattle.plum.proofs.drill.summary.drill_summary.Goals as goal

pub new-requires : goal.new-requires
new-requires g c = (
  subst AreStations (sym c.in_ok-listed.ensures)
      (stations_are_lawful c.args.stations c.requires.1),
  subst AreTargets (sym c.in_ok-targets.ensures) targets_are_lawful,
)

pub summary_of-requires : goal.summary_of-requires
summary_of-requires g c =
    let capture = drill_capture c.args.seed c.args.stations c.args.seconds in
    let told : (told_by c.in_ok-host.host).left Capture ≡ Some capture =
    ap (λ (h : MemHostView). (told_by h).left Capture) c.in_ok-host.ensures in
    let of = c.in_ok-centre.ensures in
    let laws : DrillLaws = record {
      each = c.legal_transcripts.ensures.each;
      by_station = c.legal_transcripts.ensures.by_station;
      shows = c.legal_transcripts.ensures.shows;
      parts = c.kept_packets.ensures.parts;
      alone = c.kept_packets.ensures.fresh_alone;
      add_up = c.bodies_are_counted.ensures.sums;
    } in
    subst (HaveAnswers c.in_ok-sites.sites)
    (sym (c.as_slice.ensures.value ∙ ap (λ v. v.items) c.end_centre-sessions.ensures))
    (answered laws c.drill_setup-setup.result c.in_ok-sites.sites c.in-Ok.totals capture _ _ of.0
    c.replay-replayed.new.centre of.1.sites_are
    (c.in-Ok.ensures.centre of.0 of.1 of.2 capture told))

pub returns : goal.returns
returns g c =
    let capture = drill_capture c.args.seed c.args.stations c.args.seconds in
    let told : (told_by c.in_ok-host.host).left Capture ≡ Some capture =
    ap (λ (h : MemHostView). (told_by h).left Capture) c.in_ok-host.ensures in
    let of = c.in_ok-centre.ensures in
    let totals = c.in-Ok.totals in
    let sites = c.in_ok-sites.sites in
    let laws : DrillLaws = record {
      each = c.legal_transcripts.ensures.each;
      by_station = c.legal_transcripts.ensures.by_station;
      shows = c.legal_transcripts.ensures.shows;
      parts = c.kept_packets.ensures.parts;
      alone = c.kept_packets.ensures.fresh_alone;
      add_up = c.bodies_are_counted.ensures.sums;
    } in
    let drilled : sites ≡ drill_sites c.args.stations =
    c.in_ok-sites.ensures ∙ (λ j. record {
      stations = c.in_ok-listed.ensures j;
      targets = c.in_ok-targets.ensures j;
    }) in
    let sessions : c.as_slice.result.now ≡ c.replay-replayed.new.centre.sessions.items =
    c.as_slice.ensures.value ∙ ap (λ v. v.items) c.end_centre-sessions.ensures in
    IfOk-weaker c.summary_of.result _ _ (λ text is.
    summarized laws c.drill_setup-setup.result sites totals capture _ _ of.0
    c.replay-replayed.new.centre of.1.sites_are
    (c.in-Ok.ensures.centre of.0 of.1 of.2 capture told) c.args.seed c.args.stations
    c.args.seconds text c.thresholds.ensures.table drilled refl c.drill_setup-setup.ensures
    c.in-Ok.ensures.sums
    (is ∙ ap (λ (ss : List SessionView). plain_line
    (Drill c.args.seed c.args.stations c.args.seconds)
    ++ out_line (totals_line totals.segments (counts_in_all totals))
    ++ flat_map out_line (answers_at totals.segments sites.targets (last_answers ss))) sessions))
    c.summary_of.ensures
