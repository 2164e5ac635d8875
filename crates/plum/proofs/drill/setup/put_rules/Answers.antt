use Rattle.std.proofs.Common.{ℕ, List, codes}
use Rattle.std.proofs.lemmas.Result.{on_ok_weaker}
use Rattle.plum.specs.DrillSetup.{natural_line, text_line}
use Rattle.plum.proofs.Putting.{joined, as_same}
use Rattle.plum.proofs.drill.setup.put_rules.Goals as goal

pub returns : goal.returns
returns c =
    let start : List ℕ = c.args.text.now in
    let raise = as_same _ _ (text_line (codes "raise")) _ _ c.class_text.ensures
    c.in_ok-put_text_line.ensures in
    let cancel = as_same _ _ (text_line (codes "cancel")) _ _ c.class_text-2.ensures
    c.in_ok-put_text_line-2.ensures in
    let table = joined start _ _ _ _ c.in_ok-extend.ensures.ok raise in
    on_ok_weaker c.put_natural_line.result (λ put.
    joined start _ _ _ _ (joined start _ _ _ _ table cancel)
    (as_same _ _ (natural_line (codes "calm")) _ _ c.from.ensures put))
    c.put_natural_line.ensures
