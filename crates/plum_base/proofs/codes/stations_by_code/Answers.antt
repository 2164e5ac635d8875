use Rattle.std.proofs.Common.{◌≡◌, ◌<◌, None, length, get_or, refl, subst, ap, ◌∙◌}
use Rattle.std.proofs.Common.{arith, length-set, replicate, sym, Option, Some}
use Rattle.plum_base.specs.declared.numbers.StationNo.{StationNo}
use Rattle.std.proofs.lemmas.List.{length-replicate}
use Rattle.plum_base.specs.Sites.{CODES}
use Rattle.plum_base.proofs.ByCode.{IsFoundSoFar, none_found, one_more_found, all_found}
use Rattle.plum_base.proofs.codes.stations_by_code.Goals as goal

pub loop-n-init : goal.loop-n-init
loop-n-init c =
    let empty : c.in_ok-by_code.by_code.items ≡ replicate CODES None =
    c.in_ok-by_code.ensures.items_if_clones_equal
    (elim [ None ↦ λ _. refl | Some station ↦ λ clone. absurd clone ]) in
    record {
      codes = ap length empty ∙ length-replicate {A = Option StationNo} CODES None;
      found = λ code. subst (λ t. IsFoundSoFar c.args.stations.now 0 code (get_or t code None))
          (sym empty) (none_found c.args.stations.now CODES code);
    }

pub loop-n-preserved : goal.loop-n-preserved
loop-n-preserved c =
    let table = c.loop-n.by_code.items in
    let size = c.loop-n.invariant.codes in
    let small : c.from.result < length table = omega arith in
    record {
      codes = length-set table c.from.result _ ∙ size;
      found = λ code. one_more_found c.args.stations.now c.loop-n.n _ table _ refl
          c.loop-n-test.true c.from.result c.from.ensures small code
          (c.loop-n.invariant.found code);
    }

pub returns : goal.returns
returns c = (
  c.loop-n.invariant.codes,
  λ code small. all_found c.args.stations.now c.loop-n.n code _ c.loop-n-test.false
      (c.loop-n.invariant.found code),
)
