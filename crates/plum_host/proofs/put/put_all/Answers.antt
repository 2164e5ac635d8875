use Rattle.std.proofs.Common.{rules, ◌-◌, ◌<◌, length, take, drop, arith, ◌∙◌}
use Rattle.std.proofs.lemmas.List.{length-take, length-drop}
use Rattle.std.proofs.lemmas.Result.{err_from_is_err_and}
use Rattle.plum_host.proofs.Frames.{OnlyWrites-join}
use Rattle.plum_host.proofs.Pieces.{put-more, put-refused, put-front}
use Rattle.plum_host.proofs.put.put_all.Goals as goal

pub returns-in_err-n-clause-front : goal.returns-in_err-n-clause-front
returns-in_err-n-clause-front g c =
    let exit = err_from_is_err_and c.from_residual.result c.from_residual.ensures.1 in
    let some : 0 < length c.loop-rest.rest.now = search rules in
    let put = put-refused _ _ _ _ _ c.loop-rest.invariant.put c.in_err-n.ensures.refused in
    rw exit.1 (put-front _ _ _ _ put some)

pub returns-in-0-clause-front : goal.returns-in-0-clause-front
returns-in-0-clause-front g c =
    let rest = c.loop-rest.rest.now in
    let n = c.in_ok-n.n in
    let some : 0 < length rest = search rules in
    let left : 0 < length (take (length rest - n) (drop n rest)) =
    omega (arith, length-take (length rest - n) (drop n rest), length-drop n rest) in
    let put = put-more _ _ _ _ _ n c.loop-rest.invariant.put c.in_ok-n.ensures.appended in
    put-front _ _ _ _ put left

pub loop-rest-preserved : goal.loop-rest-preserved
loop-rest-preserved g c =
    let h = c.loop-rest.invariant in
    let e = c.in_ok-n.ensures in
    record {
      put = put-more _ _ _ _ _ c.in_ok-n.n h.put e.appended;
      no_fault = e.no_fault (grind arith) ∙ h.no_fault;
      frame = OnlyWrites-join h.frame e.frame;
    }
