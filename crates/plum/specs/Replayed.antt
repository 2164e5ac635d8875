-- What a replay did for the setup and the sites of its files.
use Rattle.std.specs.Prelude.{◌≡◌, ◌⊎◌, []}
use Rattle.plum_base.specs.declared.setup.Setup.{Setup}
use Rattle.plum_base.specs.Counts.{AddUp}
use Rattle.plum_base.specs.Sites.{SitesView}
use Rattle.plum_host.specs.declared.host.To.TheVariants.{Out, Journal}
use Rattle.plum_host.specs.Told.{HostView, Appends}
use Rattle.plum_replay.specs.declared.totals.Totals.{Totals}
use Rattle.plum_replay.specs.Replayed.{ReplaysCapture, counts_in_all}
use Rattle.plum_replay.specs.Begun.{BeginsReplay}
use Rattle.plum.specs.Files.{FilesState}
use Rattle.plum.specs.Job.{Job}

-- The capture is replayed over the setup and the sites that the files state, and the totals add up.
-- Where the host tells the capture, `replays` says:
--
-- - The two texts are appended: `journal_appended`, `output_appended`, and of `replay` `journal_is`
--   and `output_is`.
-- - They are those of one legal transcript: of `replay` `capture_is` and `legal`. There each value
--   is the plain function of its station's packets since its last gap (`valid`), and each
--   prediction is over one front of the journal (`answers`), which holds all that was kept before
--   the mark (`bounds`) and never falls (`rising`).
-- - A prediction is none exactly where no near station reports: a part of `answers` of `legal`.
-- - Every body is accounted for: `counts` and `refused` of `sections_are`, and `complete` of
--   `legal`, by which each kept packet stands in the journal once.
-- - The capture is read to its end, within the limit of records: `read`.
-- - The alerts are by the rules: `alerts` of `sections_are`.
pub record ReplaysFiles (job : Job) (before after : HostView) : Type 0 where
  pub setup : Setup
  pub sites : SitesView
  pub stated : FilesState job before setup sites
  pub totals : Totals
  pub replays : ReplaysCapture setup sites totals before after
  pub sums : AddUp (counts_in_all totals)

-- Nothing is appended to either output.
pub record AppendsNothing (before after : HostView) : Type 0 where
  pub journal : Appends (before.held Journal) (after.held Journal) []
  pub output : after.held Out ≡ before.held Out

-- The beginnings of the two texts of such a replay are appended.
abbrev pub BeginsFiles : Job → HostView → HostView → Type 0
BeginsFiles job before after = (setup : Setup) × (sites : SitesView)
    × FilesState job before setup sites × BeginsReplay setup sites before after

-- Nothing is appended, or the beginnings of the two texts are.
abbrev pub StopsInReplay : Job → HostView → HostView → Type 0
StopsInReplay job before after = AppendsNothing before after ⊎ BeginsFiles job before after
