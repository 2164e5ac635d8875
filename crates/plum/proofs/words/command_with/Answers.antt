use Rattle.std.proofs.Common.{◌∙◌, List, [], Bor, map, take, true, ap, ap₂, sym, rules}
use Rattle.std.proofs.lemmas.List.{take_more}
use Rattle.clap.specs.Words.{Rule, Text, rule_of, with_rule}
use Rattle.plum.specs.Words.{app_with}
use Rattle.plum.proofs.Clapping.{one_word_more}
use Rattle.plum.proofs.words.command_with.Goals as goal

pub loop-id-preserved : goal.loop-id-preserved
loop-id-preserved c =
    let ids = c.args.ids.now in
    let i = c.loop-id.id-index in
    let none : Bor Text = record { ref_ptr = (0, 0); now = [] } in
    let rule = ap rule_of c.required.ensures
    ∙ ap (λ (r : Rule). record r { required = true }) c.new.ensures.rule in
    let shape = c.in_ok-command.ensures.shape (search rules) in
    let longer = take_more ids i none c.loop-id-test.true in
    shape ∙ ap₂ with_rule c.loop-id.invariant rule
    ∙ sym (one_word_more c.args.name.now (take i ids) _)
    ∙ sym (ap (λ (some : List (Bor Text)). app_with c.args.name.now (map (λ i. i.now) some)) longer)
