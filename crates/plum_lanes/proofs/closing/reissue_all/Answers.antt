use Rattle.std.proofs.Common.{◌≡◌, ◌≢◌, ℕ, ◌+◌, ◌<◌, length, get_or, set, get_or-set_same}
use Rattle.std.proofs.Common.{get_or-set_other, sym, refl, ap, ◌∙◌, subst, le_refl, arith}
use Rattle.std.proofs.lemmas.List.{get_or_default}
use native.Mathlib.Decide.{ℕ_discrete}
use Rattle.plum_lanes.specs.declared.lanes.Lane.{Lane}
use Rattle.plum_lanes.specs.Rule.{settled_at}
use Rattle.plum_lanes.specs.Opening.{Opening}
use Rattle.plum_lanes.specs.Lanes.{BelongsTo, IsLane, sent}
use Rattle.plum_lanes.specs.Gathering.{IsGatherOf, settled_of}
use Rattle.plum_lanes.specs.Passing.{IsSameBut}
use Rattle.plum_lanes.proofs.Closed.{IsSameGather-then}
use Rattle.plum_lanes.proofs.closing.reissue_all.Goals as goal

pub loop-i-init : goal.loop-i-init
loop-i-init c = record {
  gather = record { gather_of = λ opening is. is; gathered = refl };
  out = c.requires.2;
  settled = refl;
  lane = λ i d less. absurd (omega arith);
  sent = λ i d less. absurd (omega arith);
  same = λ i d less. absurd (omega arith);
  rest = λ i d le. refl;
}

pub reissue-requires : goal.reissue-requires
reissue-requires c =
    (c.requires.0, c.loop-i.invariant.gather.gather_of c.requires.0 c.requires.1)

pub loop-i-preserved : goal.loop-i-preserved
loop-i-preserved c =
    let inv = c.loop-i.invariant in
    let lanes = c.loop-i.lanes in
    let start = c.args.lanes.now in
    let gather = c.args.gather.now in
    let k : ℕ = c.loop-i.i in
    let below : k < length start = c.loop-i-test.true in
    let long : length lanes ≡ length start = c.loop-i.auto.lanes in
    let within : k < length lanes = omega arith in
    let d0 = c.index-lanes-i.result in
    let e = get_or lanes k d0 in
    let now = c.reissue.new.lane in
    let out = inv.out in
    let first : (i : ℕ) (d : Lane) → i ≡ k → e ≡ get_or start i d = λ i d q.
    get_or_default lanes k d0 d within ∙ inv.rest k d (le_refl k)
    ∙ ap (λ m. get_or start m d) (sym q) in
    let new : (i : ℕ) (d : Lane) → i ≡ k → now ≡ get_or (set lanes k now) i d = λ i d q.
    sym (ap (λ m. get_or (set lanes k now) m d) q ∙ get_or-set_same lanes k now d within) in
    -- what holds of the lane that was reissued, and of those before it, holds of one more
    let more : (P : ℕ → Lane → Lane → Type 0) → P k e now
    → ((i : ℕ) (d : Lane) → i < k → P i (get_or start i d) (get_or lanes i d))
    → (i : ℕ) (d : Lane) → i < k + 1 → P i (get_or start i d) (get_or (set lanes k now) i d) =
    λ P here before i d less. elim (ℕ_discrete i k) [
      | yes q ↦
          subst (λ (y : ℕ × Lane × Lane). P y.0 y.1 y.2)
          (λ j. (sym q j, first i d q j, new i d q j)) here
      | no q ↦
          subst (P i (get_or start i d)) (sym (get_or-set_other lanes k i now d q))
          (before i d (omega arith))
    ] in
    record {
      gather = IsSameGather-then _ _ _ inv.gather c.reissue.ensures.gather;
      out = c.reissue.ensures.out ∙ ap (λ n. n + 1) out;
      settled = c.reissue.ensures.settled ∙ inv.settled;
      lane = more (λ i old lane. (opening : Opening) → BelongsTo opening i old
          → IsGatherOf opening gather → IsLane opening i lane)
          (λ opening returned is.
          subst (λ n. IsLane opening n now) out
          (c.reissue.ensures.lane opening (subst (λ n. BelongsTo opening n e) (sym out) returned)
          (inv.gather.gather_of opening is)))
          inv.lane;
      sent = more (λ i old lane. sent lane ≡ settled_at (settled_of gather) i)
          (c.reissue.ensures.sent ∙ ap (settled_at (settled_of c.loop-i.gather)) out
          ∙ ap (λ lists. settled_at lists k) inv.settled)
          inv.sent;
      same = more (λ i old lane. IsSameBut old lane) c.reissue.ensures.same inv.same;
      rest = λ i d le.
          let apart : i ≢ k = λ q. omega arith in
          get_or-set_other lanes k i now d apart ∙ inv.rest i d (omega arith);
    }

pub returns-clause-lanes : goal.returns-clause-lanes
returns-clause-lanes c = λ opening belong gather i d less.
    let end = c.loop-i-test.false in
    let within = c.loop-i.auto.i-end in
    let below : i < c.loop-i.i = omega arith in
    c.loop-i.invariant.lane i d below opening (belong i d less) gather

pub returns-clause-sent : goal.returns-clause-sent
returns-clause-sent c = λ i d less.
    let end = c.loop-i-test.false in
    let within = c.loop-i.auto.i-end in
    let below : i < c.loop-i.i = omega arith in
    c.loop-i.invariant.sent i d below

pub returns-clause-same : goal.returns-clause-same
returns-clause-same c = λ i d less.
    let end = c.loop-i-test.false in
    let within = c.loop-i.auto.i-end in
    let below : i < c.loop-i.i = omega arith in
    c.loop-i.invariant.same i d below

pub returns-clause-out : goal.returns-clause-out
returns-clause-out c =
    let end = c.loop-i-test.false in
    let within = c.loop-i.auto.i-end in
    let all : c.loop-i.i ≡ length c.args.lanes.now = omega arith in
    c.loop-i.invariant.out ∙ all
