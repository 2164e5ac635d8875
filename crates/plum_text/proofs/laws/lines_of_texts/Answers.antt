use Rattle.std.proofs.Common.{refl, length, ◌≤◌, arith}
use Rattle.plum_text.specs.Laws.{SaysItsClass, SaysItsSum, IsOfMarkTo}
use Rattle.plum_base.specs.Counts.{AddUp}
use Rattle.plum_text.proofs.Saying.{all_lines, any_counts, totals_add_up, position_from_one}
use Rattle.plum_text.proofs.laws.lines_of_texts.Goals as goal

pub returns-clause-class : goal.returns-clause-class
returns-clause-class c = λ targets sections tail.
    all_lines SaysItsClass (λ m. Unit {0}) (λ counts. Unit {0})
    (λ m counts at of. tt) (λ n fault. tt) (λ m area front at. tt) (λ m target value at. refl)
    (λ m area alert at. tt) targets sections tail (λ k from to. tt)
    (any_counts sections) tt tt

pub returns-clause-sum : goal.returns-clause-sum
returns-clause-sum c = λ targets sections tail add_up.
    all_lines SaysItsSum (λ m. Unit {0}) AddUp
    (λ m counts at of. of) (λ n fault. tt) (λ m area front at. tt) (λ m target value at. tt)
    (λ m area alert at. tt) targets sections tail (λ k from to. tt)
    add_up tt (totals_add_up sections add_up)

pub returns-clause-mark : goal.returns-clause-mark
returns-clause-mark c = λ targets sections tail.
    let last = length sections in
    all_lines (IsOfMarkTo last) (λ m. (1 ≤ m) × (m ≤ last)) (λ counts. Unit {0})
    (λ m counts at of. at) (λ n fault. tt) (λ m area front at. at) (λ m target value at. at)
    (λ m area alert at. at) targets sections tail (λ k from to. (from, omega arith))
    (any_counts sections) tt tt

pub returns-clause-position : goal.returns-clause-position
returns-clause-position c = position_from_one
