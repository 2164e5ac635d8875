use Rattle.std.proofs.Common.{◌+◌, [], ◌∷◌, length, length-append, sym, ap, ◌∙◌, subst}
use Rattle.std.proofs.lemmas.List.Elements.{All-push}
use Rattle.std.specs.Prelude.{All}
use Rattle.plum_core.specs.declared.station.Station.{Station}
use Rattle.plum_core.specs.Station.{Stands}
use Rattle.plum_lanes.proofs.opening.stations.Goals as goal

pub loop-preserved : goal.loop-preserved
loop-preserved c =
    let before = c.loop.stations.items in
    let station = c.in_ok-new.field-0 in
    let items = c.in_ok-push.ensures.items in
    record {
      count =
          ap length items ∙ length-append before (station ∷ [])
          ∙ ap (λ n. n + 1) c.loop.invariant.count;
      each = λ s.
          let New : Station → Type 0 = λ station. Stands station c.args.setup.now s [] in
          subst (All New) (sym items)
          (All-push New before station (c.loop.invariant.each s) (c.in_ok-new.ensures s));
    }
