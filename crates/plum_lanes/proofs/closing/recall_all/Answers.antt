use Rattle.std.proofs.Common.{◌≡◌, ◌≢◌, ℕ, ◌+◌, ◌-◌, ◌<◌, length, get_or, set, length-set}
use Rattle.std.proofs.Common.{get_or-set_same, get_or-set_other, sym, ap, ◌∙◌, subst, arith}
use Rattle.std.proofs.lemmas.List.{get_or_default}
use native.Mathlib.Decide.{ℕ_discrete}
use Rattle.plum_lanes.specs.declared.lanes.Lane.{Lane}
use Rattle.plum_lanes.specs.Rule.{settle, settled_at}
use Rattle.plum_lanes.specs.Lanes.{IsLane, sent}
use Rattle.plum_lanes.specs.Gathering.{settled_of, out_of}
use Rattle.plum_lanes.specs.Passing.{IsSameBut}
use Rattle.plum_lanes.proofs.Closed.{IsSameGather-then}
use Rattle.plum_lanes.proofs.Views.{settled-same, settled-other}
use Rattle.plum_lanes.proofs.closing.recall_all.Goals as goal

pub recall-requires : goal.recall-requires
recall-requires c =
    let inv = c.loop-left.invariant in
    let k : ℕ = c.loop-left.left - 1 in
    let some : 0 < c.loop-left.left = c.loop-left-test.true in
    let bound = inv.bound in
    let one : c.loop-left.left ≡ k + 1 = omega arith in
    let below : k < c.loop-left.left = omega arith in
    let within : k < length c.args.lanes.now = omega arith in
    let d = c.index-lanes-left.result in (
      c.requires.0,
      k,
      subst (IsLane c.requires.0 k) (sym (inv.below k d below))
          (c.requires.1.lanes_are.each k d within),
      inv.gather.gather_of c.requires.0 c.requires.1.gather_is.gather_of,
      inv.out ∙ one,
    )

pub loop-left-preserved : goal.loop-left-preserved
loop-left-preserved c =
    let inv = c.loop-left.invariant in
    let lanes = c.loop-left.lanes in
    let start = c.args.lanes.now in
    let k : ℕ = c.loop-left.left - 1 in
    let some : 0 < c.loop-left.left = c.loop-left-test.true in
    let bound = inv.bound in
    let long = inv.long in
    let out = inv.out in
    let fewer = c.recall.ensures.out in
    let below : k < c.loop-left.left = omega arith in
    let within : k < length lanes = omega arith in
    let d0 = c.index-lanes-left.result in
    let e = get_or lanes k d0 in
    let now = c.recall.new.lane in
    let out_is : out_of c.recall.new.gather ≡ k = omega arith in
    let settled :
    settled_of c.recall.new.gather ≡ settle (settled_of c.loop-left.gather) k (sent e) =
    c.recall.ensures.settled ∙ ap (λ m. settle (settled_of c.loop-left.gather) m (sent e)) out_is in
    let first : (i : ℕ) (d : Lane) → i ≡ k → e ≡ get_or start i d = λ i d q.
    get_or_default lanes k d0 d within ∙ inv.below k d below
    ∙ ap (λ m. get_or start m d) (sym q) in
    record {
      long = length-set lanes k now ∙ long;
      bound = omega arith;
      gather = IsSameGather-then _ _ _ inv.gather c.recall.ensures.gather;
      out = out_is;
      below = λ i d less.
          let apart : i ≢ k = λ q. omega arith in
          get_or-set_other lanes k i now d apart ∙ inv.below i d (omega arith);
      above = λ i d from inside. elim (ℕ_discrete i k) [
        | yes q ↦
            ap (settled_at (settled_of c.recall.new.gather)) q
            ∙ ap (λ lists. settled_at lists k) settled
            ∙ settled-same (settled_of c.loop-left.gather) k (sent e) ∙ ap sent (first i d q)
        | no q ↦
            ap (λ lists. settled_at lists i) settled
            ∙ settled-other (settled_of c.loop-left.gather) k i (sent e) q
            ∙ inv.above i d (omega arith) inside
      ];
      same = λ i d inside. elim (ℕ_discrete i k) [
        | yes q ↦
            let new : now ≡ get_or (set lanes k now) i d =
            sym (ap (λ m. get_or (set lanes k now) m d) q
            ∙ get_or-set_same lanes k now d within) in
            subst (λ (p : Lane × Lane). IsSameBut p.0 p.1) (λ j. (first i d q j, new j))
            c.recall.ensures.lane
        | no q ↦
            subst (IsSameBut (get_or start i d)) (sym (get_or-set_other lanes k i now d q))
            (inv.same i d inside)
      ];
    }
