use Rattle.std.proofs.Common.{refl, ◌∙◌}
use Rattle.plum_seq.specs.Keys.{keys_of}
use Rattle.plum_packet.specs.Segments.{packets_in}
use Rattle.plum.proofs.Tallying.{tallied_kept, tallied_repeat}
use Rattle.plum.proofs.tally.Tally.take.Goals as goal

pub returns-then-is_kept-clause-takes : goal.returns-then-is_kept-clause-takes
returns-then-is_kept-clause-takes c = λ stations number bodies has.
    let p = c.args.packet.now in
    let keys = keys_of p.station.0 (packets_in bodies) in
    let verdict = c.judge-verdict.ensures.verdict keys
    (rw c.index_mut.ensures.value (has.keys p.station.0 _ c.requires.listed)) in
    tallied_kept c.args.self.now _ stations number bodies has p c.judge-verdict.new.self _
    c.requires.listed refl
    (λ all e. c.judge-verdict.ensures.knows all (rw c.index_mut.ensures.value e)) refl
    c.kept_packets.ensures.joins (c.is_kept.ensures keys p.key verdict ∙ c.if-is_kept.true)
    refl refl

pub returns-else-is_kept-clause-takes : goal.returns-else-is_kept-clause-takes
returns-else-is_kept-clause-takes c = λ stations number bodies has.
    let p = c.args.packet.now in
    let keys = keys_of p.station.0 (packets_in bodies) in
    let verdict = c.judge-verdict.ensures.verdict keys
    (rw c.index_mut.ensures.value (has.keys p.station.0 _ c.requires.listed)) in
    tallied_repeat c.args.self.now _ stations number bodies has p c.judge-verdict.new.self _
    c.requires.listed refl
    (λ all e. c.judge-verdict.ensures.knows all (rw c.index_mut.ensures.value e)) refl
    c.kept_packets.ensures.leaves (c.is_kept.ensures keys p.key verdict ∙ c.if-is_kept.false)
    refl refl
