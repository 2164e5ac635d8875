-- What a session ends as, once the reading that it lends is let go.
use Rattle.std.specs.Prelude.{⊤, Result, MatchResult}
use Rattle.std.specs.Borrow.{follows_so, Fml, MutBor, Bor}
use mathlib.Core.Option.{none}
use Rattle.plum_base.specs.declared.answers.Reading.{Reading}
use Rattle.plum_base.specs.declared.memory.Shut.{Shut}
use Rattle.plum_snap.specs.contracts.session.Session.{the_row}
use Rattle.plum_snap.specs.Sessions.{SessionView, HasRead, WasShutOut}

-- It has read what it lends, or was shut out.
abbrev pub EndsRead : MutBor SessionView → Result (Bor Reading) Shut → Fml
EndsRead session result = follows_so the_row the_row session.ghost_name none (λ _ _. ⊤)
    (λ after. MatchResult result
    (λ reading. HasRead session.now after reading.now)
    (λ _. WasShutOut session.now after))
