use Rattle.plum_centre.proofs.Turning.{IsPublishedGathered-front}
use Rattle.plum_centre.proofs.feeder.Feeder.receipt.Goals as goal

pub returns-clause-published_gathered : goal.returns-clause-published_gathered
returns-clause-published_gathered c =
    rw (← c.self.view_is) (IsPublishedGathered-front _ c.pending.ensures.front c.self.invariant)
