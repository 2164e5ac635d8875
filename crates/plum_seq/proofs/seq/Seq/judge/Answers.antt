use Rattle.std.proofs.Common.{◌≡◌, false, true, not, Some, None, refl, sym, ◌∙◌, ap}
use Rattle.plum_seq.specs.Keys.{is_below, greatest_key}
use Rattle.plum_seq.proofs.Greatest.{is_above_all-known, is_fresh-known, greatest_key-is_greatest}
use Rattle.plum_seq.proofs.seq.Seq.judge.Goals as goal
use Rattle.plum_seq.proofs.seq.Seq.judge.Goals.{then-is_next, else-is_next}

pub returns-in_default-clause-verdict : goal.returns-in_default-clause-verdict
returns-in_default-clause-verdict c = λ keys known.
    let none : None ≡ greatest_key keys = cc in
    (is_above_all-known keys None c.args.key none, is_fresh-known keys None c.args.key none)

pub returns-then-not-is_above-clause-verdict : goal.returns-then-not-is_above-clause-verdict
returns-then-not-is_above-clause-verdict c = λ keys known.
    let last : Some c.in-Some.last ≡ greatest_key keys = cc in
    let not_above : is_below c.in-Some.last c.args.key ≡ false = cc in
    let repeat = is_above_all-known keys _ c.args.key last ∙ not_above in
    (repeat, greatest_key-is_greatest keys c.in-Some.last (sym last))

pub returns-then-not-is_above-clause-keeps : goal.returns-then-not-is_above-clause-keeps
returns-then-not-is_above-clause-keeps c = λ other. absurd (other c.in-Some.last refl)

pub returns-clause-verdict : goal.returns-clause-verdict
returns-clause-verdict c = λ keys known.
    let last : Some c.in-Some.last ≡ greatest_key keys = cc in
    let above : is_below c.in-Some.last c.args.key ≡ true = cc in
    let kept = is_above_all-known keys _ c.args.key last ∙ above in
    let fresh = is_fresh-known keys _ c.args.key last in
    elim c.if-is_next.branch [
      | then-is_next w ↦
          rw w.result-is (kept, fresh ∙ ap not (sym c.is_next.ensures ∙ w.if-is_next.true))
      | else-is_next w ↦
          rw w.result-is (kept, fresh ∙ ap not (sym c.is_next.ensures ∙ w.if-is_next.false))
    ]
