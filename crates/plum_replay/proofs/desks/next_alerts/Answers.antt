use Rattle.std.proofs.Common.{ℕ, List, ◌∙◌, ap, sym, length, take, arith, ◌<◌, ◌≤◌, ◌+◌, length-set}
use Rattle.std.proofs.Common.{length-take-le, refl, append-nil}
use Rattle.std.proofs.lemmas.List.{take_all, take_more, length_push}
use Rattle.plum_base.specs.declared.answers.Reading.{Reading}
use Rattle.plum_base.specs.declared.rules.Rules.{Rules}
use Rattle.plum_alert.specs.Alerts.{alerts_of}
use Rattle.plum_alert.specs.Desk.{StandsFor as DeskStandsFor}
use Rattle.plum_replay.specs.Progress.{AreDesks, given_with}
use Rattle.plum_replay.proofs.Marks.{AreDesks-more, AreNext-more}
use Rattle.plum_replay.proofs.desks.next_alerts.Goals as goal

-- the desks and the alerts before the first reading
pub loop-a-init : goal.loop-a-init
loop-a-init c = record {
  count = refl;
  one_each = ap length c.new-alerts.ensures.items;
  desks = λ rules given stand a d below. rw (append-nil (given a)) (stand a d below);
  alerts = λ rules given stand. record {
    one_each = ap length c.new-alerts.ensures.items;
    each = λ a.
        rw c.new-alerts.ensures.items
        (ap (alerts_of rules) (append-nil (given a))
        ∙ sym (append-nil (alerts_of rules (given a))));
  };
}

-- one area more
pub loop-a-preserved : goal.loop-a-preserved
loop-a-preserved c =
    let desks = c.loop-a.desks.items in
    let readings = c.args.readings.now in
    let n = c.loop-a.a in
    let reading = c.index-readings-a.result in
    let so_far = take n readings in
    let one_more = take_more readings n reading c.loop-a-test.true in
    let within : n ≤ length readings = omega (arith, c.loop-a-test.true) in
    let place = sym (length-take-le n readings within) in
    let listed : n < length desks =
    omega (arith, c.loop-a-test.true, c.requires.one_each, c.loop-a.invariant.count) in
    let before : (rules : Rules) (given : ℕ → List Reading)
    → AreDesks c.args.desks.now.items rules given
    → DeskStandsFor c.index_mut.result.now rules (given_with given so_far n) =
    λ rules given stand.
    rw c.index_mut.ensures.value (c.loop-a.invariant.desks rules given stand n _ listed) in
    record {
      count = length-set desks n c.next-alert.new.self ∙ c.loop-a.invariant.count;
      one_each = ap length c.in_ok-push.ensures.items
          ∙ length_push c.loop-a.alerts.items c.next-alert.result
          ∙ ap (λ k. k + 1) c.loop-a.invariant.one_each;
      desks = λ rules given stand.
          rw (one_more, ← c.index-readings-a.is)
          (AreDesks-more rules given so_far reading desks c.next-alert.new.self n place listed
          (c.loop-a.invariant.desks rules given stand)
          (c.next-alert.ensures.stands rules (given_with given so_far n)
          (before rules given stand)));
      alerts = λ rules given stand.
          rw (one_more, ← c.index-readings-a.is, c.in_ok-push.ensures.items)
          (AreNext-more rules given so_far reading c.loop-a.alerts.items c.next-alert.result n
          place (c.loop-a.invariant.alerts rules given stand)
          (c.next-alert.ensures.alert rules (given_with given so_far n)
          (before rules given stand)));
    }

pub returns-clause-desks : goal.returns-clause-desks
returns-clause-desks c = λ rules given stand.
    rw (take_all c.loop-a.a c.args.readings.now c.loop-a-test.false)
    at (c.loop-a.invariant.desks rules given stand)

pub returns-clause-alerts : goal.returns-clause-alerts
returns-clause-alerts c = λ rules given stand.
    rw (take_all c.loop-a.a c.args.readings.now c.loop-a-test.false)
    at (c.loop-a.invariant.alerts rules given stand)
