-- Lanes whose passes came back, and left again.
use Rattle.std.proofs.Common.{◌≡◌, ℕ, suc, ◌+◌, ◌<◌, List, [], ◌∷◌, ◌++◌, length}
use Rattle.std.proofs.Common.{slice_index_or, refl, sym, ap, ◌∙◌, subst, arith}
use Rattle.std.proofs.lemmas.List.Sums.{sum_by-cons}
use Rattle.std.specs.Arc.{arc_value}
use Rattle.std.specs.List.{range_with_len}
use Rattle.std.specs.Prelude.{sum_by}
use Rattle.crossbeam_queue.specs.Passes.{ruled_capacity}
use Rattle.plum_base.specs.declared.entry.Entry.{Entry}
use Rattle.plum_base.specs.declared.packet.Packet.{Packet}
use Rattle.plum_core.specs.History.{entries_of_lane}
use Rattle.plum_core.specs.Laws.{FrontOfLane}
use Rattle.plum_lanes.specs.declared.gatherer.Gather.{Gather}
use Rattle.plum_lanes.specs.declared.lanes.Lane.{Lane}
use Rattle.plum_lanes.specs.declared.rule.View.{View}
use mathlib.Core.List.{IsPrefix}
use base.Growing.{prefix_anti}
use Rattle.plum_lanes.specs.Rule.{IsGatheredThen, settled_at}
use Rattle.plum_lanes.specs.Opening.{Opening}
use Rattle.plum_lanes.specs.Lanes.{sent, BelongsTo, IsLane, StandForTaken, HasTaken, AreLanes}
use Rattle.plum_lanes.specs.Gathering.{gathered}
use Rattle.plum_lanes.specs.Rounds.{IsAsBefore}
use Rattle.plum_lanes.specs.Passing.{AllBelong, IsSameBut, IsSameGather}

-- A lane with another pass belongs where it did.
BelongsTo-same : (opening : Opening) (number : ℕ) (before after : Lane) → IsSameBut before after
    → BelongsTo opening number before → BelongsTo opening number after
BelongsTo-same opening number before after same belongs = record {
  ring = (λ i. (arc_value (same.ring i)).table.shared.table_id) ∙ belongs.ring;
  capacity = (λ i. ruled_capacity (arc_value (same.ring i))) ∙ belongs.capacity;
  number_is = ap (λ n. n.0) same.number ∙ belongs.number_is;
  lanes = same.lanes ∙ belongs.lanes;
}

-- Lanes that kept all but their passes belong where they did.
pub all_belong : (opening : Opening) (before after : List Lane) → length after ≡ length before
    → ((i : ℕ) (d : Lane) → i < length before
    → IsSameBut (slice_index_or before i d) (slice_index_or after i d))
    → AreLanes opening before → AllBelong opening after
all_belong opening before after long same lanes i d within =
    let within' = subst (λ n. i < n) long within in
    BelongsTo-same opening i _ _ (same i d within') (lanes.each i d within').belongs

pub IsSameGather-then : (a b c : Gather) → IsSameGather a b → IsSameGather b c → IsSameGather a c
IsSameGather-then a b c first then = record {
  gather_of = λ opening is. then.gather_of opening (first.gather_of opening is);
  gathered = then.gathered ∙ first.gathered;
}

pub IsSameBut-then : (a b c : Lane) → IsSameBut a b → IsSameBut b c → IsSameBut a c
IsSameBut-then a b c first then = record {
  ring = then.ring ∙ first.ring;
  number = then.number ∙ first.number;
  lanes = then.lanes ∙ first.lanes;
  stations = then.stations ∙ first.stations;
  waiting = then.waiting ∙ first.waiting;
  kept = then.kept ∙ first.kept;
  repeats = then.repeats ∙ first.repeats;
}

-- A lane that has sent the same, and kept all but its pass, is as before,
pub IsAsBefore-same : (before after : Lane) → IsSameBut before after → sent after ≡ sent before
    → IsAsBefore before after
IsAsBefore-same before after same sent_is = record {
  sent_is = sent_is;
  waiting_is = same.waiting;
  kept_is = same.kept;
  repeats_is = same.repeats;
}

-- and has taken what it took.
pub HasTaken-same : (opening : Opening) (number : ℕ) (taken : List Packet) (before after : Lane)
    → IsSameBut before after → sent after ≡ sent before → IsLane opening number after
    → HasTaken opening number taken before → HasTaken opening number taken after
HasTaken-same opening number taken before after same sent_is is_lane has = record {
  is_lane = is_lane;
  stand =
      subst (λ stations. StandForTaken opening.basis number taken stations.items)
      (sym same.stations) has.stand;
  backlog = rw (sent_is, same.waiting) has.backlog;
  kept_is = same.kept ∙ has.kept_is;
  counted = rw (same.kept, same.repeats) has.counted;
}

-- A sum over lanes, by their numbers.
pub sum_at : {X : Type 0} (f : X → ℕ) (g : ℕ → ℕ) (a : ℕ) (xs : List X)
    → ((i : ℕ) (d : X) → i < length xs → f (slice_index_or xs i d) ≡ g (a + i))
    → sum_by f xs ≡ sum_by g (range_with_len a (length xs))
sum_at f g a [] each = refl
sum_at f g a (x ∷ xs) each =
    let first : f x ≡ g a = each 0 x (omega arith) ∙ ap g (omega arith) in
    let rest = sum_at f g (a + 1) xs
    (λ i d less. each (suc i) d (omega arith) ∙ ap g (omega arith)) in
    omega (
      arith,
      sum_by-cons f x xs,
      sum_by-cons g a (range_with_len (a + 1) (length xs)),
    )

-- With no pass out, what is settled of a lane is all that was gathered and queued of it.
pub settled_is : FrontOfLane → (v : View) (queued : List Entry) → IsGatheredThen v queued
    → v.out ≡ 0 → (lane : ℕ) (out all : List Entry) (settled : List (List Entry))
    → out ≡ settled_at settled lane → settled ≡ v.settled → all ≡ v.gathered
    → out ≡ entries_of_lane lane all ++ entries_of_lane lane queued
settled_is fronts v queued known returned lane out all settled out_is lists_are all_is =
    out_is ∙ ap (λ lists. settled_at lists lane) lists_are ∙ known.returned lane (omega arith)
    ∙ fronts lane v.gathered queued
    ∙ ap (λ es. entries_of_lane lane es ++ entries_of_lane lane queued) (sym all_is)

-- Where all that was sent is gathered, each lane's entries there are what it sent.
pub all_gathered : (lane : ℕ) (out gathered queued : List Entry)
    → out ≡ entries_of_lane lane gathered ++ entries_of_lane lane queued
    → IsPrefix out (entries_of_lane lane gathered) → out ≡ entries_of_lane lane gathered
all_gathered lane out gathered queued is front =
    prefix_anti out (entries_of_lane lane gathered) front (entries_of_lane lane queued, sym is)
