use Rattle.std.proofs.Common.{◌≡◌, ◌+◌, ◌-◌, ◌≤◌, length, take, drop, sym, ap, ◌∙◌, arith}
use Rattle.std.proofs.Common.{length-drop}
use lib.Seq.{paste}
use Rattle.std.proofs.lemmas.List.{drop-take}
use Rattle.std.proofs.lemmas.List.Edits.{take-paste}
use Rattle.plum_packet.proofs.block.move_to_front.Goals as goal

pub returns-clause-moved : goal.returns-clause-moved
returns-clause-moved c =
    let all = c.args.buffer.now in
    let start = c.args.start in
    let count = c.args.end - start in
    let part = drop start all in
    let same : count ≡ 0 + count = omega arith in
    let whole : start + count ≡ c.args.end = omega (arith, c.requires.order) in
    let room : 0 ≤ length all = omega arith in
    let there : count ≤ length part =
    omega (arith, c.requires.order, c.requires.within, length-drop start all) in
    ap (take count) c.copy_within.ensures.after
    ∙ ap (λ k. take k (paste all 0 part count)) same
    ∙ take-paste all 0 part count room there
    ∙ sym (drop-take start count all)
    ∙ ap (λ k. drop start (take k all)) whole
