-- A feeder went on, and then went on further.
use Rattle.std.proofs.Common.{[], ◌++◌, map, refl, sym, ap, ◌∙◌, append_assoc, append-nil}
use Rattle.std.proofs.lemmas.List.{map-append}
use Rattle.plum_lanes.specs.Gathering.{gathered}
use Rattle.plum_base.specs.Note.{note_of}
use Rattle.plum_centre.specs.Feeder.{FeederView}
use Rattle.plum_centre.specs.Turns.{GoesOn}
use base.Growing.{prefix_refl, prefix_trans}

pub GoesOn-self : (feeder : FeederView) → GoesOn feeder feeder
GoesOn-self feeder = record {
  more = [];
  grew = sym (append-nil (gathered feeder.gather));
  noted = λ _. sym (append-nil feeder.notes);
  not_before = λ allowed. allowed;
  published_more = prefix_refl feeder.published;
  same_publisher = refl;
}

pub GoesOn-then : (a b c : FeederView) → GoesOn a b → GoesOn b c → GoesOn a c
GoesOn-then a b c first then = record {
  more = first.more ++ then.more;
  grew =
      then.grew ∙ ap (λ es. es ++ then.more) first.grew
      ∙ append_assoc (gathered a.gather) first.more then.more;
  noted = λ allowed.
      then.noted allowed
      ∙ ap (λ ns. ns ++ map note_of then.more) (first.noted (then.not_before allowed))
      ∙ append_assoc a.notes (map note_of first.more) (map note_of then.more)
      ∙ ap (λ ns. a.notes ++ ns) (sym (map-append note_of first.more then.more));
  not_before = λ allowed. first.not_before (then.not_before allowed);
  published_more =
      prefix_trans a.published b.published c.published first.published_more then.published_more;
  same_publisher = then.same_publisher ∙ first.same_publisher;
}
