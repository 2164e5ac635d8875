use Rattle.std.proofs.Common.{◌≡◌, ◌∙◌, arith, Bool, true, false, length, take, ap, sym, refl}
use Rattle.std.proofs.Common.{append-nil}
use Rattle.std.proofs.lemmas.List.{take_all, take_more, length_push}
use Rattle.std.proofs.lemmas.Option.{slice_get_read}
use Rattle.std.specs.Prelude.{slice_get, Some}
use Rattle.std.specs.Str.{bytes_eq}
use Rattle.plum_base.specs.declared.sites.TargetSite.{TargetSite}
use Rattle.plum_base.proofs.ByNumber.{numbers_push}
use Rattle.plum_base.specs.Sites.{targets_of}
use Rattle.plum_base.proofs.Pushes.{filter_more}
use Rattle.plum_snap.proofs.answering.numbers_in.Goals as goal
use Rattle.plum_snap.proofs.answering.numbers_in.Goals.{then-eq+in_ok-push, else-eq}

-- one target more
pub loop-n-preserved : goal.loop-n-preserved
loop-n-preserved c =
    let sites = c.args.sites.now in
    let targets = c.targets-target-items.result.now in
    let area = c.args.area.now in
    let n = c.loop-n.n in
    let target = c.target-item.result in
    let front = take n targets in
    let test : TargetSite → Bool = λ t. bytes_eq t.area area in
    let one_more = take_more targets n target c.loop-n-test.true in
    let here : slice_get sites.targets n ≡ Some target =
    ap (λ ts. slice_get ts n) (sym c.targets-target-items.ensures.value)
    ∙ slice_get_read targets (length targets) n target refl c.loop-n-test.true c.target-item.is in
    elim c.if-eq.branch [
      | then-eq+in_ok-push w ↦
          let of_area = filter_more test front target true (sym c.eq.ensures ∙ w.if-eq.true) in
          let pushed = ap (λ v. v.items) w.numbers-is ∙ w.in_ok-push.ensures.items in
          rw (one_more, ← c.target-item.is, of_area, pushed) (record {
            numbers =
                numbers_push sites.targets c.loop-n.numbers.items (targets_of area front) _ target
                c.loop-n.invariant.numbers here;
            few =
                omega (
                  arith,
                  c.loop-n.invariant.few,
                  length_push c.loop-n.numbers.items (record { 0 = n }),
                );
          })
      | else-eq w ↦
          let of_another =
          filter_more test front target false (sym c.eq.ensures ∙ w.if-eq.false)
          ∙ append-nil (targets_of area front) in
          rw (one_more, ← c.target-item.is, of_another, w.numbers-is) (record {
            numbers = c.loop-n.invariant.numbers;
            few = omega (arith, c.loop-n.invariant.few);
          })
    ]

pub returns-clause-numbers : goal.returns-clause-numbers
returns-clause-numbers c =
    let targets = c.targets-target-items.result.now in
    let all = take_all c.loop-n.n targets c.loop-n-test.false in
    rw (all, c.targets-target-items.ensures.value) at c.loop-n.invariant.numbers

pub returns-clause-few : goal.returns-clause-few
returns-clause-few c =
    let lawful = c.targets-target-items.ensures.lawful.1 in
    let all = ap length c.targets-target-items.ensures.value in
    omega (arith, c.loop-n.invariant.few, c.loop-n.auto.n-end, lawful.few, all)
