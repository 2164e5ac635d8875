use Rattle.std.proofs.Common.{refl}
use Rattle.plum_replay.proofs.OneMore.{written}
use Rattle.plum_replay.proofs.progress.Progress.tell.Goals as goal

pub returns-clause-tells : goal.returns-clause-tells
returns-clause-tells c = λ rules given are. record {
  alerts = c.in_ok-alerts.alerts.items;
  next = rw c.as_slice.ensures.value at (c.in_ok-alerts.ensures.alerts rules given are);
  desks_are = rw c.as_slice.ensures.value at (c.in_ok-alerts.ensures.desks rules given are);
  text_is = written c.put_section.new.out c.in_ok-text.text _ _ c.in_ok-put_section.ensures
      c.in_ok-text.ensures refl;
}
