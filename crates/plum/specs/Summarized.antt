-- The sessions of a drill that was replayed, and their last readings.
use Rattle.std.specs.Prelude.{◌≡◌, List, length, map, Option}
use Rattle.std.specs.List.{AllZip}
use Rattle.plum_base.specs.declared.numbers.Tenths.{Tenths}
use Rattle.plum_base.specs.Sites.{SitesView, areas_of, targets_of}
use Rattle.plum_snap.specs.Sessions.{SessionView}

-- what each session answered last
abbrev pub last_answers : List SessionView → List (List (Option Tenths))
last_answers sessions = map (λ session. session.last.answers) sessions

-- There is a session for each area, in order, which has an answer at each target of it.
abbrev pub HaveAnswers : SitesView → List SessionView → Type 0
HaveAnswers sites sessions = AllZip
    (λ area session. length session.last.answers ≡ length (targets_of area sites.targets))
    (areas_of sites.targets) sessions
