use Rattle.std.proofs.Common.{◌≡◌, true, List, refl, sym, ◌∙◌}
use Rattle.plum_base.specs.declared.packet.Packet.{Packet}
use Rattle.plum_seq.specs.Keys.{keys_of, greatest_key, is_kept, is_fresh}
use Rattle.plum_core.proofs.Stations.{Stands-repeat, Stands-kept, IsValueOf-kept}
use Rattle.plum_core.proofs.station.Station.take.Goals as goal
use Rattle.plum_core.proofs.station.Station.take.Goals.{in-Fresh, in-Continues}

pub returns-in-Repeat-clause-stands : goal.returns-in-Repeat-clause-stands
returns-in-Repeat-clause-stands c = λ setup packets before.
    let p = c.args.packet in
    let law = c.kept_packets.ensures in
    let keys = keys_of p.station.0 packets in
    let verdict = c.in-Repeat.ensures.verdict keys before.keys in
    Stands-repeat setup packets p _ (c.judge.ensures.knows keys before.keys) law.fresh_leaves
    law.by_own _ before verdict.0 refl

pub returns-in-Repeat-clause-gives : goal.returns-in-Repeat-clause-gives
returns-in-Repeat-clause-gives c = λ setup packets before.
    c.in-Repeat.ensures.verdict (keys_of c.args.packet.station.0 packets) before.keys

pub returns : goal.returns
returns c =
    let p = c.args.packet in
    let law = c.kept_packets.ensures in
    let judged : (packets : List Packet)
    → c.args.self.now.keys ≡ greatest_key (keys_of p.station.0 packets)
    → (is_kept packets p ≡ true) × (c.match-judge.fresh ≡ is_fresh packets p) = λ packets knows.
    let keys = keys_of p.station.0 packets in
    elim c.match-judge.branch [
      | in-Fresh w ↦
          let verdict = w.in-Fresh.ensures.verdict keys knows in
          (verdict.0, w.fresh-is ∙ sym verdict.1)
      | in-Continues w ↦
          let verdict = w.in-Continues.ensures.verdict keys knows in
          (verdict.0, w.fresh-is ∙ sym verdict.1)
    ] in
    record {
      stands = λ setup packets before.
          Stands-kept setup packets p law.fresh_joins law.by_own law.fresh_by_own _
          (judged packets before.keys) _
          (c.judge.ensures.knows (keys_of p.station.0 packets) before.keys)
          (c.absorb-value.ensures.stands _ _ before.engine);
      gives = λ setup packets before.
          let kept_fresh = judged packets before.keys in
          record {
            same_packet = refl;
            lane_is = refl;
            kept = kept_fresh.0;
            fresh = kept_fresh.1;
            value =
                IsValueOf-kept setup packets p law.fresh_joins law.by_own law.fresh_by_own _
                kept_fresh _ (c.absorb-value.ensures.value _ _ before.engine);
          };
    }
