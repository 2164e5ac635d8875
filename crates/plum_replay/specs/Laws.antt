-- What holds of replays: the statement of their law.
use Rattle.std.specs.Prelude.{◌≡◌, ℕ, List, All}
use Rattle.plum_base.specs.declared.setup.Setup.{Setup}
use Rattle.plum_base.specs.declared.sites.TargetSite.{TargetSite}
use Rattle.plum_base.specs.Levels.{IsLevelTable}
use Rattle.plum_base.specs.Name.{IsName}
use Rattle.plum_base.specs.Sites.{SitesView, AreLawful}
use Rattle.plum_packet.specs.Capture.{AreBytes}
use Rattle.plum_packet.specs.Reading.{HasNoneTooMany}
use Rattle.plum_replay.specs.Replayed.{IsReplay}

-- The targets' names and their areas' are names, as those of all real sites are: a ghost variable
-- ranges over all lists of bytes.
pub record AreNamed (targets : List TargetSite) : Type 0 where
  pub names : All (λ t. IsName t.name) targets
  pub areas : All (λ t. IsName t.area) targets

-- The two texts are those of one transcript and no other.
abbrev pub OneTranscript : Type 0
OneTranscript = (setup : Setup) (sites : SitesView) (capture journal output : List ℕ)
    → IsLevelTable setup.levels → AreLawful sites.stations sites.targets → AreNamed sites.targets
    → AreBytes capture → HasNoneTooMany capture
    → (replay other : IsReplay setup sites capture journal output)
    → replay.transcript ≡ other.transcript
