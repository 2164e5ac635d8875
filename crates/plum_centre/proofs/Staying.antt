-- Lanes and their feeder stay whole, step by step.
use Rattle.std.proofs.Common.{◌≡◌, ℕ, suc, ◌<◌, List, [], ◌∷◌, length, slice_index_or, refl}
use Rattle.std.proofs.Common.{ap, arith}
use Rattle.std.proofs.lemmas.List.Sums.{sum_by-cons}
use Rattle.plum_lanes.specs.declared.lanes.Lane.{Lane}
use Rattle.plum_lanes.specs.Gathering.{KeepsOpening}
use Rattle.plum_lanes.specs.Lanes.{sent, all_sent}
use Rattle.plum_lanes.specs.Rounds.{AreAsBefore}
use Rattle.plum_lanes.proofs.Frames.{KeepWhole-gather, KeepWhole-join}
use Rattle.plum_centre.specs.Feeder.{FeederView}
use Rattle.plum_centre.specs.Turns.{GoesOn}
use Rattle.plum_centre.specs.Rounds.{StayWhole}
use Rattle.plum_centre.proofs.Going.{GoesOn-self, GoesOn-then}

-- The feeder alone went on.
pub StayWhole-turn : (lanes : List Lane) (before after : FeederView)
    → KeepsOpening before.gather after.gather
    → GoesOn before after → StayWhole lanes before lanes after
StayWhole-turn lanes before after gather goes_on = record {
  keep = KeepWhole-gather lanes before.gather after.gather gather;
  goes_on = goes_on;
}

pub StayWhole-self : (lanes : List Lane) (feeder : FeederView) → StayWhole lanes feeder lanes feeder
StayWhole-self lanes feeder =
    StayWhole-turn lanes feeder feeder (λ opening is. is) (GoesOn-self feeder)

pub StayWhole-then : (ls : List Lane) (a : FeederView) (ms : List Lane) (b : FeederView)
    (ns : List Lane) (c : FeederView) → StayWhole ls a ms b → StayWhole ms b ns c
    → StayWhole ls a ns c
StayWhole-then ls a ms b ns c first then = record {
  keep = KeepWhole-join ls a.gather ms b.gather ns c.gather first.keep then.keep;
  goes_on = GoesOn-then a b c first.goes_on then.goes_on;
}

-- Lanes that sent the same sent as many entries.
pub all_sent-same : (xs ys : List Lane) → AreAsBefore xs ys → all_sent ys ≡ all_sent xs
all_sent-same xs ys same = by_lane xs ys same.long (λ i d less. (same.each i d less).sent_is)
  where
    by_lane : (xs ys : List Lane) → length ys ≡ length xs
        → ((i : ℕ) (d : Lane) → i < length xs
        → sent (slice_index_or ys i d) ≡ sent (slice_index_or xs i d))
        → all_sent ys ≡ all_sent xs
    by_lane [] [] long each = refl
    by_lane [] (y ∷ ys) long each = absurd (omega arith)
    by_lane (x ∷ xs) [] long each = absurd (omega arith)
    by_lane (x ∷ xs) (y ∷ ys) long each =
        let first : length (sent y) ≡ length (sent x) = ap length (each 0 x (omega arith)) in
        let rest = by_lane xs ys (omega arith) (λ i d less. each (suc i) d (omega arith)) in
        omega (
          arith,
          first,
          rest,
          sum_by-cons (λ (lane : Lane). length (sent lane)) x xs,
          sum_by-cons (λ (lane : Lane). length (sent lane)) y ys,
        )
