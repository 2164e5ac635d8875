use Rattle.plum.proofs.OneSummary.{one_summary}
use Rattle.plum.proofs.laws.drills_have_one_summary.Goals as goal

pub returns : goal.returns
returns c = one_summary c.segments_hold_each_body.ensures.decoded c.one_value.ensures.only
