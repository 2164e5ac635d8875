use Rattle.std.proofs.Common.{◌≡◌, ◌+◌, ◌-◌, ◌≤◌, ◌++◌, length, take, drop, sym, ap, ◌∙◌, arith}
use Rattle.std.proofs.lemmas.List.{drop-drop}
use Rattle.plum_packet.specs.Capture.{record_of}
use Rattle.plum_packet.specs.Record.{record_end}
use Rattle.plum_packet.proofs.Spelling.{record_end-le, body_of_first, behind_first}
use Rattle.plum_packet.proofs.block.Block.give.Goals as goal

pub returns-clause-given : goal.returns-clause-given
returns-clause-given c =
    let bytes = c.args.self.now in
    let has = c.requires in
    let end = c.end_of-end.result in
    let block = c.self.inside in
    let long : 2 ≤ length c.as_slice.result.now =
    rw c.as_slice.ensures (omega (arith, record_end-le bytes has)) in
    let here : end ≡ record_end bytes =
    c.end_of-end.ensures.body long ∙ ap record_end c.as_slice.ensures in
    let taken : c.set.new.self ≡ take (end - 2) (drop 2 bytes) =
    c.set.ensures ∙ ap (λ l. take (end - 2) (drop 2 l)) c.as_slice-2.ensures in
    let body : has.0 ≡ c.set.new.self =
    sym (taken ∙ ap (λ n. take (n - 2) (drop 2 bytes)) here ∙ body_of_first bytes has) in
    let left = take block.end block.buffer.items in
    let more : has.1 ≡ drop (block.start + end) left =
    sym (
    sym (drop-drop end block.start left)
    ∙ ap (drop end) c.self.view_is
    ∙ ap (λ n. drop n bytes) here
    ∙ behind_first bytes has
    ) in
    has.3 ∙ (λ i. record_of (body i) ++ more i)
