-- Events and the replies to them, one more event on.
use Rattle.std.proofs.Common.{◌≡◌, List, [], ◌∷◌, ◌++◌, refl}
use Rattle.plum_base.specs.declared.setup.Setup.{Setup}
use Rattle.plum_base.specs.Sites.{SitesView}
use Rattle.plum_core.specs.declared.event.Event.{Event}
use Rattle.plum_core.specs.declared.event.Reply.{Reply}
use Rattle.plum_core.specs.Machine.{State, step, state_after, IsReply, AreReplies}

-- the state after one more event
pub state_after-push : (setup : Setup) (s : State) (events : List Event) (event : Event)
    → state_after setup s (events ++ event ∷ []) ≡ step setup (state_after setup s events) event
state_after-push setup s [] event = refl
state_after-push setup s (first ∷ events) event =
    state_after-push setup (step setup s first) events event

-- the replies with that to one more event
pub AreReplies-push : (setup : Setup) (sites : SitesView) (s : State) (events : List Event)
    (replies : List Reply) (event : Event) (reply : Reply) → AreReplies setup sites s events replies
    → IsReply setup sites (state_after setup s events) event reply
    → AreReplies setup sites s (events ++ event ∷ []) (replies ++ reply ∷ [])
AreReplies-push setup sites s [] [] event reply are is = (is, tt)
AreReplies-push setup sites s [] (r ∷ replies) event reply are is = absurd are
AreReplies-push setup sites s (e ∷ events) [] event reply are is = absurd are
AreReplies-push setup sites s (e ∷ events) (r ∷ replies) event reply are is =
    (are.0, AreReplies-push setup sites (step setup s e) events replies event reply are.1 is)
