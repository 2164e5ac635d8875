use Rattle.std.proofs.Common.{sym, ◌∙◌}
use Rattle.std.proofs.lemmas.Iterator.{YieldsList-from_slice}
use Rattle.std.proofs.lemmas.Iterator.Consumers.{reduce_by_from_yields_List, YieldsList-from_copied}
use Rattle.std.proofs.lemmas.Iterator.Adapters.{option_map_id, YieldsList-from_flatten}
use Rattle.std.proofs.lemmas.Iterator.Adapters.{YieldsList-from_once}
use Rattle.std.specs.Prelude.{option_to_list}
use Rattle.plum_base.specs.declared.numbers.Tenths.{Tenths}
use Rattle.plum_alert.specs.Readings.{greater_of}
use Rattle.plum_alert.proofs.Greatest.{greater_of-by_order}
use Rattle.plum_alert.proofs.readings.greatest_answer.Goals as goal

pub returns : goal.returns
returns c =
    sym (option_map_id c.max.result)
    ∙ reduce_by_from_yields_List {v = λ (t : Tenths). t} _ greater_of c.flatten.result c.max.result
    greater_of-by_order c.max.ensures.ran
    (YieldsList-from_flatten _ _ (λ t. t) option_to_list
    (λ answer item becomes. YieldsList-from_once answer becomes.0)
    (YieldsList-from_copied (YieldsList-from_slice c.args.answers.now cc)) (cc) (cc) (cc))
