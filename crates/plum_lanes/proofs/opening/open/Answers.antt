use Rattle.std.proofs.Common.{◌≡◌, ◌+◌, List, length, refl, sym, ap, ◌∙◌, subst, arith}
use Rattle.crossbeam_queue.specs.Passes.{ruled_capacity}
use Rattle.plum_lanes.specs.declared.rule.Basis.{Basis}
use Rattle.plum_lanes.specs.declared.lanes.Lane.{Lane}
use Rattle.plum_lanes.specs.Opening.{basis_of}
use Rattle.plum_lanes.specs.Passing.{AreNewUpTo}
use Rattle.plum_lanes.proofs.Opened.{HasTaken-new, AreNewUpTo-more, AreNew-all}
use Rattle.plum_lanes.proofs.opening.open.Goals as goal

pub loop-number-preserved : goal.loop-number-preserved
loop-number-preserved c =
    let opening = c.loop-number.invariant.0 in
    let basis = c.loop-number.invariant.1 in
    let before = c.loop-number.invariant.2 in
    let number = c.loop-number.number in
    let idle = c.in_ok-next_lane.ensures.idle in
    let taken = HasTaken-new opening _ number c.in_ok-next_lane.field-0 basis
    (c.in_ok-next_lane.ensures.lane opening basis before.gather_is)
    c.in_ok-next_lane.ensures.stand idle in
    let gather = c.in_ok-next_lane.ensures.gather opening before.gather_is in (
      opening,
      basis,
      subst (λ (ls : List Lane). AreNewUpTo opening (number + 1) ls c.next_lane.new.gather)
          (sym c.in_ok-push.ensures.items)
          (AreNewUpTo-more opening number c.loop-number.lanes.items _ c.next_lane.new.gather
          c.in_ok-next_lane.field-0 before (taken, idle) gather),
    )

pub loop-number-init : goal.loop-number-init
loop-number-init c =
    let arc = c.in_ok-new.ensures.ok in
    let ring = c.in_ok-ring.ensures.ring in
    let made = c.in_ok-ring.ensures.view in
    let none : length c.new-lanes.result.items ≡ 0 = ap length c.new-lanes.ensures.items in (
      record {
        ring = c.in_ok-ring.ring.table.shared.table_id;
        basis = basis_of c.args.setup.now c.args.sites.now;
      },
      refl,
      record {
        long = none;
        gather_is = record {
          gather_of = record {
            ring = ap (λ q. q.table.shared.table_id) arc;
            capacity = ap ruled_capacity arc ∙ ring.1;
            pass = (ring.0.0 ∙ sym (ap (λ q. q.table.shared.table_id) arc), ring.0.1);
            gathers = ap (λ v. v.gathers) made;
            basis_is = ap (λ v. v.basis) made;
          };
          out_is = ap (λ v. v.out) made;
          none_gathered = ap (λ v. v.gathered) made;
          none_settled = ap (λ v. v.settled) made;
        };
        each = λ i d within. absurd (omega arith);
      },
    )

pub returns : goal.returns
returns c =
    let opening = c.loop-number.invariant.0 in
    let basis = c.loop-number.invariant.1 in
    let end = c.loop-number-test.false in
    let within = c.loop-number.auto.number-end in
    let all : c.loop-number.number ≡ c.args.setup.now.lanes = omega arith in
    let lanes_are : c.loop-number.number ≡ opening.basis.setup.lanes =
    all ∙ sym (ap (λ (b : Basis). b.setup.lanes) basis) in (
      opening,
      basis,
      AreNew-all opening _ _
          (subst (λ n. AreNewUpTo opening n c.loop-number.lanes.items c.loop-number.gather)
          lanes_are c.loop-number.invariant.2),
    )
