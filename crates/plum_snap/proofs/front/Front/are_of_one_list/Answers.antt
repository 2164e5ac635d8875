use Rattle.std.proofs.Common.{ap, subst, List}
use mathlib.Core.List.{IsPrefix}
use Rattle.plum_base.specs.declared.entry.Entry.{Entry}
use Rattle.plum_snap.proofs.Fronts.{prefix_either}
use Rattle.plum_snap.proofs.front.Front.are_of_one_list.Goals as goal

pub returns : goal.returns
returns c =
    let both = c.learn.new.self.log in
    let this : IsPrefix c.self.inside.reached.log both =
    subst (λ (l : List Entry). IsPrefix l both) (ap (λ s. s.log) c.again-both.ensures)
    c.learn.ensures.2 in
    rw (← c.self.view_is, ← c.other.view_is)
    (prefix_either c.self.inside.reached.log c.other.inside.reached.log both this
    c.learn.ensures.3)
