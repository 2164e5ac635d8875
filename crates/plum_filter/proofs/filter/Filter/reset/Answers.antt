use Rattle.std.proofs.Common.{◌∙◌}
use Rattle.plum_filter.proofs.Filters.{refill_restarted}
use Rattle.plum_filter.proofs.filter.Filter.reset.Goals as goal

pub returns : goal.returns
returns c = record {
  forgets = λ cascade inputs stands.
      refill_restarted cascade inputs _ _ _ c.restart.ensures.value c.as_mut_slice.ensures.value
      (c.self.view_is ∙ stands);
}
