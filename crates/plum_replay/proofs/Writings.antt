-- The two texts, written segment by segment.
use Rattle.std.proofs.Common.{◌≡◌, ℕ, List, [], ◌∷◌, ◌++◌, Option, Some, None}
use Rattle.std.proofs.Common.{sym, ap, subst, append-nil}
use Rattle.plum_base.specs.declared.setup.Setup.{Setup}
use Rattle.plum_base.specs.Sites.{SitesView}
use Rattle.plum_host.specs.declared.host.To.TheVariants.{Out, Journal}
use Rattle.plum_host.specs.Frames.{LeavesOutputs}
use Rattle.plum_host.specs.Told.{HostView, Appends}
use Rattle.plum_host.proofs.Pieces.{appends-more}
use Rattle.plum_packet.specs.Segments.{Decoded}
use Rattle.plum_core.specs.Transcript.{no_transcript, with_part, with_readings}
use Rattle.plum_centre.specs.declared.centre.Centre.{Centre}
use Rattle.plum_centre.specs.Centre.{CentreId}
use Rattle.plum_text.specs.Texts.{journal_text}
use Rattle.plum_replay.specs.declared.progress.Counted.{Counted}
use Rattle.plum_replay.specs.declared.progress.Progress.{Progress}
use Rattle.plum_replay.specs.Parts.{sections_text}
use Rattle.plum_replay.specs.Progress.{ReplaysFirst, ReplaysOneMore}
use Rattle.plum_replay.specs.Written.{HasWritten}

-- nothing appended
appends-nil : (held : Option (List ℕ)) → Appends held held []
appends-nil None = tt
appends-nil (Some bytes) = ap Some (sym (append-nil bytes))

-- where it is as before
pub appends-same : (held after : Option (List ℕ)) → after ≡ held → Appends held after []
appends-same held after same = subst (λ now. Appends held now []) (sym same) (appends-nil held)

-- two outputs
pub outputs_differ : Journal ≡ Out → ⊥
outputs_differ e = absurd cc

-- The first segment is replayed, and its journal lines are appended.
pub written-first : (id : CentreId) (setup : Setup) (sites : SitesView) (decoded : List Decoded)
    (lines : List ℕ) (counted : Counted) (progress : Progress) (centre : Centre)
    (before now : HostView)
    → ReplaysFirst id setup sites decoded lines counted progress centre
    → Appends (before.held Journal) (now.held Journal) lines → now.held Out ≡ before.held Out
    → HasWritten id setup sites [] decoded progress counted centre before now
written-first id setup sites decoded lines counted progress centre before now more journal same =
    record {
      transcript = with_part no_transcript more.part;
      sections = [];
      replayed = more.replayed;
      journal = subst (Appends (before.held Journal) (now.held Journal)) (sym more.journal_is)
          journal;
      output = appends-same (before.held Out) (now.held Out) same;
    }

-- One segment more is replayed; its journal lines are appended, and behind them the section of the
-- mark before it.
pub written-more : (id : CentreId) (setup : Setup) (sites : SitesView)
    (done : List (List Decoded)) (last decoded : List Decoded) (first progress : Progress)
    (counted next : Counted) (earlier centre : Centre) (lines section : List ℕ)
    (before between middle now : HostView)
    → (was : HasWritten id setup sites done last first counted earlier before between)
    → ReplaysOneMore id setup sites done last was.transcript was.sections decoded lines section
    next progress centre
    → Appends (between.held Journal) (middle.held Journal) lines
    → middle.held Out ≡ between.held Out
    → Appends (middle.held Out) (now.held Out) section → now.held Journal ≡ middle.held Journal
    → HasWritten id setup sites (done ++ last ∷ []) decoded progress next centre before now
written-more id setup sites done last decoded first progress counted next earlier centre lines
    section before between middle now was more journal same_out output same_journal =
    let t = was.transcript in
    let out : Appends (between.held Out) (now.held Out) section =
    subst (λ held. Appends held (now.held Out) section) same_out output in
    let journal_now : Appends (between.held Journal) (now.held Journal) lines =
    subst (λ held. Appends (between.held Journal) held lines) (sym same_journal) journal in
    record {
      transcript = with_readings (with_part t more.part) more.readings;
      sections = was.sections ++ more.section ∷ [];
      replayed = more.replayed;
      journal = subst (Appends (before.held Journal) (now.held Journal)) (sym more.journal_more)
          (appends-more (before.held Journal) (between.held Journal) (now.held Journal) _ lines
          was.journal journal_now);
      output = subst (Appends (before.held Out) (now.held Out)) (sym more.output_more)
          (appends-more (before.held Out) (between.held Out) (now.held Out) _ section was.output
          out);
    }

-- What was written stays so where no output changes,
pub written-stays : (id : CentreId) (setup : Setup) (sites : SitesView)
    (done : List (List Decoded)) (last : List Decoded) (progress : Progress) (counted : Counted)
    (centre : Centre) (before between now : HostView)
    → HasWritten id setup sites done last progress counted centre before between
    → LeavesOutputs between now
    → HasWritten id setup sites done last progress counted centre before now
written-stays id setup sites done last progress counted centre before between now was same =
    record {
      transcript = was.transcript;
      sections = was.sections;
      replayed = was.replayed;
      journal = subst (λ held. Appends (before.held Journal) held
          (journal_text sites.stations was.transcript.parts)) (sym (same Journal)) was.journal;
      output = subst (λ held. Appends (before.held Out) held
          (sections_text sites.targets was.sections)) (sym (same Out)) was.output;
    }

-- and counts from a host before whose outputs were the same.
pub written-from : (id : CentreId) (setup : Setup) (sites : SitesView)
    (done : List (List Decoded)) (last : List Decoded) (progress : Progress) (counted : Counted)
    (centre : Centre) (first before now : HostView)
    → HasWritten id setup sites done last progress counted centre before now
    → LeavesOutputs first before
    → HasWritten id setup sites done last progress counted centre first now
written-from id setup sites done last progress counted centre first before now was same =
    record {
      transcript = was.transcript;
      sections = was.sections;
      replayed = was.replayed;
      journal = subst (λ held. Appends held (now.held Journal)
          (journal_text sites.stations was.transcript.parts)) (same Journal) was.journal;
      output = subst (λ held. Appends held (now.held Out)
          (sections_text sites.targets was.sections)) (same Out) was.output;
    }
