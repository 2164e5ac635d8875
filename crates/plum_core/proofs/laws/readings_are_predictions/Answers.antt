use Rattle.plum_core.proofs.Later.{front_gathered, answers_predicted, front_published, front_seen}
use Rattle.plum_core.proofs.Later.{fronts_rise}
use Rattle.plum_core.proofs.laws.readings_are_predictions.Goals as goal

pub returns-clause-front : goal.returns-clause-front
returns-clause-front c = front_gathered

pub returns-clause-answers : goal.returns-clause-answers
returns-clause-answers c = answers_predicted

pub returns-clause-published : goal.returns-clause-published
returns-clause-published c = front_published

pub returns-clause-seen : goal.returns-clause-seen
returns-clause-seen c = front_seen

pub returns-clause-rising : goal.returns-clause-rising
returns-clause-rising c = fronts_rise
