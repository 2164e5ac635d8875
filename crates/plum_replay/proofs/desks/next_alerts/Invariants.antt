use Rattle.std.proofs.Common.{◌≡◌, ℕ, List, length, take}
use Rattle.plum_base.specs.declared.answers.Reading.{Reading}
use Rattle.plum_base.specs.declared.rules.Rules.{Rules}
use Rattle.plum_replay.specs.Progress.{AreDesks, AreNext, given_with}
use Rattle.plum_replay.proofs.desks.next_alerts.Given as goal

abbrev pub invariant-loop-a : goal.invariant-loop-a
invariant-loop-a l =
    let so_far = take l.a l.readings in
    record {
      count : length l.desks.items ≡ length l.initial.desks.items;
      one_each : length l.alerts.items ≡ l.a;
      desks :
          (rules : Rules) (given : ℕ → List Reading) → AreDesks l.initial.desks.items rules given
          → AreDesks l.desks.items rules (given_with given so_far);
      alerts :
          (rules : Rules) (given : ℕ → List Reading) → AreDesks l.initial.desks.items rules given
          → AreNext rules given so_far l.alerts.items;
    }
