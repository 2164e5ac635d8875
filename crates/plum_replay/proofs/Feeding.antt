-- A feeder that goes on within a round.
use Rattle.std.proofs.Common.{◌≡◌, false, length, map, ap, ◌∙◌, arith, length-append}
use Rattle.std.proofs.lemmas.List.{length-map}
use Rattle.plum_base.specs.Note.{note_of}
use Rattle.plum_lanes.specs.Gathering.{gathered}
use Rattle.plum_centre.specs.Feeder.{FeederView}
use Rattle.plum_centre.proofs.Going.{GoesOn-self, GoesOn-then}
use Rattle.plum_replay.specs.Pieces.{CanFeed, HasFed}

pub HasFed-self : (feeder : FeederView) → HasFed feeder feeder
HasFed-self feeder = record { gather = λ opening is. is; goes_on = GoesOn-self feeder }

pub HasFed-then : (a b c : FeederView) → HasFed a b → HasFed b c → HasFed a c
HasFed-then a b c first then = record {
  gather = λ opening is. then.gather opening (first.gather opening is);
  goes_on = GoesOn-then a b c first.goes_on then.goes_on;
}

-- It can turn again, where it was refused no memory.
pub CanFeed-again : (a b : FeederView) → HasFed a b → b.refused ≡ false → CanFeed a → CanFeed b
CanFeed-again a b fed allowed can =
    let more = fed.goes_on.more in (
      can.0,
      fed.gather can.0 can.1,
      omega (
        arith,
        can.2,
        ap length fed.goes_on.grew ∙ length-append (gathered a.gather) more,
        ap length (fed.goes_on.noted allowed) ∙ length-append a.notes (map note_of more),
        length-map more note_of,
      ),
    )
