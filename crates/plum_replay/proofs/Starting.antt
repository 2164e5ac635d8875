-- A replay before its first round, and as a whole.
use Rattle.std.proofs.Common.{◌≡◌, ℕ, List, [], ◌∷◌, ◌++◌, length, get_or, refl, sym}
use Rattle.std.proofs.Common.{ap, subst, ◌∙◌, arith, IfOk, Result, Ok, Err}
use Rattle.std.proofs.lemmas.List.{length-map, get_or-map}
use Rattle.plum_base.specs.declared.setup.Setup.{Setup}
use Rattle.plum_base.specs.Sites.{SitesView, areas_of}
use Rattle.plum_host.specs.declared.host.In.TheVariants.{Capture}
use Rattle.plum_host.specs.declared.host.To.TheVariants.{Out, Journal}
use Rattle.plum_host.specs.Told.{HostView, Appends}
use Rattle.plum_host.proofs.Pieces.{appends-more}
use Rattle.plum_packet.specs.Reading.{IsReadToEnd, MOST_RECORDS}
use Rattle.plum_packet.specs.Segments.{Decoded}
use Rattle.plum_core.specs.History.{entries_of_lane}
use Rattle.plum_core.specs.Laws.{LegalAtStart}
use Rattle.plum_lanes.specs.Gathering.{gathered}
use Rattle.plum_snap.specs.Sessions.{new_session}
use Rattle.plum_centre.specs.declared.centre.Centre.{Centre}
use Rattle.plum_centre.specs.Centre.{CentreId, IsOf, IsNew}
use Rattle.plum_text.specs.Texts.{journal_text, out_text}
use Rattle.plum_replay.specs.declared.fault.ReplayFault.{ReplayFault}
use Rattle.plum_replay.specs.declared.progress.Counted.{Counted}
use Rattle.plum_replay.specs.declared.progress.Progress.{Progress}
use Rattle.plum_replay.specs.declared.totals.Totals.{Totals}
use Rattle.plum_replay.specs.Between.{IsBetweenRounds}
use Rattle.plum_replay.specs.Progress.{AreDesks, HasBegun, HoldsJournal}
use Rattle.plum_replay.specs.Replayed.{AppendsReplay, ReplaysCapture, ReplaysThrough}
use Rattle.plum_replay.specs.Written.{HasWritten, WritesCapture, WritesAll, WritesEnd}

-- A new centre is between two rounds, and took no packet.
new_is_between : (id : CentreId) (centre : Centre) → IsNew id centre → IsBetweenRounds id [] centre
new_is_between id centre new =
    let none : gathered centre.feeder.gather ≡ [] = new.lanes_new.none_gathered in
    record {
      whole = new.whole;
      taken = new.lanes_new.taken;
      free = new.lanes_new.free;
      sent = λ i d less.
          new.lanes_new.none_sent i d less ∙ ap (entries_of_lane i) (sym none);
      published = ap (λ f. f.published) new.feeder_new ∙ sym none;
      seen = λ a d less.
          let made = new_session id.publisher id.sites in
          let areas = areas_of id.sites.targets in
          let long : length centre.sessions.items ≡ length areas =
          ap length new.sessions_new ∙ length-map areas made in
          let is : get_or centre.sessions.items a d ≡ made (get_or areas a []) =
          ap (λ ss. get_or ss a d) new.sessions_new
          ∙ get_or-map made areas a [] d (omega (arith, long, less)) in
          ap (λ s. s.seen) is ∙ sym none;
    }

-- With it, a replay has not begun.
pub begins : LegalAtStart → (id : CentreId) (setup : Setup) (sites : SitesView)
    (progress : Progress) (centre : Centre) → IsOf setup sites id → IsNew id centre
    → (progress.segments ≡ 0)
    × (progress.counts ≡ record { bodies = 0; kept = 0; repeats = 0; refused = 0 })
    → AreDesks progress.desks.items setup.rules (λ _. [])
    → HasBegun id setup sites progress centre
begins legal id setup sites progress centre of new nothing desks = record {
  worked = record {
    at = record { of = of; between = new_is_between id centre new; few = omega arith };
    journal = new.lanes_new.none_gathered;
    legal = legal setup sites;
    number = nothing.0;
    parts = refl;
    kept = ap (λ counts. counts.kept) nothing.1;
  };
  desks = desks;
  counts = nothing.1;
}

-- The two texts of a replay are appended, where the journal was opened first. The centre holds its
-- journal.
pub replays : (id : CentreId) (setup : Setup) (sites : SitesView) (progress : Progress)
    (counted : Counted) (totals : Totals) (tail : ℕ) (earlier centre : Centre)
    (first opened between now : HostView) (capture : List ℕ)
    (wrote : WritesCapture id setup sites progress counted tail earlier opened between capture)
    → WritesEnd id setup sites (wrote.done ++ wrote.last ∷ []) tail totals centre opened now
    → Appends (first.held Journal) (opened.held Journal) [] → opened.held Out ≡ first.held Out
    → now.left Capture ≡ between.left Capture
    → (done : AppendsReplay setup sites totals capture first now)
    × HoldsJournal id done.replay.transcript centre
replays id setup sites progress counted totals tail earlier centre first opened between now capture
    wrote ends nothing same_out same_end = (
      record {
        journal = journal_text sites.stations ends.transcript.parts;
        output = out_text sites.targets ends.sections tail;
        replay = record {
          segments = wrote.done ++ wrote.last ∷ [];
          tail = tail;
          capture_is = wrote.capture_is;
          transcript = ends.transcript;
          legal = ends.legal;
          sections = ends.sections;
          sections_are = ends.sections_are;
          journal_is = refl;
          output_is = refl;
        };
        journal_appended = appends-more (first.held Journal) (opened.held Journal)
            (now.held Journal) [] (journal_text sites.stations ends.transcript.parts) nothing
            ends.journal;
        output_appended = subst (λ held. Appends held (now.held Out)
            (out_text sites.targets ends.sections tail)) same_out ends.output;
        totals_are = ends.totals_are;
        read = subst (IsReadToEnd MOST_RECORDS capture) (sym same_end) wrote.read;
      },
      ends.holds,
    )

module _ (setup : Setup) (sites : SitesView) (progress : Progress) (counted : Counted) (tail : ℕ)
    (new earlier centre : Centre) (first opened between now : HostView) where
  -- So it is where the host tells the capture, whichever centre it is.
  pub replays_through : (r : Result Totals ReplayFault)
      → IfOk r (λ totals. (id : CentreId) (setup : Setup) (done : List (List Decoded))
      (last : List Decoded) (before : HostView)
      → HasWritten id setup sites done last progress counted earlier before between
      → WritesEnd id setup sites (done ++ last ∷ []) tail totals centre before now)
      → ((id : CentreId) → IsOf setup sites id → IsNew id new
      → WritesAll id setup sites progress counted tail earlier opened between)
      → Appends (first.held Journal) (opened.held Journal) [] → opened.held Out ≡ first.held Out
      → opened.left Capture ≡ first.left Capture → now.left Capture ≡ between.left Capture
      → IfOk r (λ totals. (id : CentreId) → IsOf setup sites id → IsNew id new
      → ReplaysThrough id setup sites totals first now centre)
  replays_through (Err fault) ends wrote nothing same_out same_left same_end = tt
  replays_through (Ok totals) ends wrote nothing same_out same_left same_end =
      λ id of is capture told.
      let all = wrote id of is capture (same_left ∙ told) in
      replays id setup sites progress counted totals tail earlier centre first opened between now
      capture all (ends id setup all.done all.last opened all.written) nothing same_out
      same_end

  -- Its texts are appended.
  pub replays_capture : (r : Result Totals ReplayFault)
      → IfOk r (λ totals. (id : CentreId) → IsOf setup sites id → IsNew id new
      → ReplaysThrough id setup sites totals first now centre)
      → (id : CentreId) → IsOf setup sites id → IsNew id new
      → IfOk r (λ totals. ReplaysCapture setup sites totals first now)
  replays_capture (Err fault) through id of is = tt
  replays_capture (Ok totals) through id of is = λ capture told. (through id of is capture told).0
