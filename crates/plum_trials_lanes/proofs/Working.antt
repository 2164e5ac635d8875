-- One lane of those at work has changed.
use Rattle.std.proofs.Common.{◌≡◌, ℕ, ◌<◌, List, length, length-set, set, get_or, get_or-set_same}
use Rattle.std.proofs.Common.{get_or-set_other, slice_index_or}
use Rattle.std.proofs.Common.{sym, ◌∙◌, ap, subst}
use native.Mathlib.Decide.{ℕ_discrete}
use Rattle.plum_lanes.specs.declared.gatherer.Gather.{Gather}
use Rattle.plum_lanes.specs.declared.lanes.Lane.{Lane}
use Rattle.plum_lanes.specs.Gathering.{IsGather}
use Rattle.plum_lanes.specs.Opening.{Opening}
use Rattle.plum_lanes.specs.Rounds.{AreWhole}
use Rattle.plum_trials_lanes.specs.AtWork.{IsOf, IsAtWork, AreAtWork, IsOpen, IsSomeLane}
use Rattle.plum_trials_lanes.specs.AtWork.{StaysAtWork, AreSomeLanes, StayAtWork, StaysGather}

pub AreAtWork-set : (opening : Opening) (lanes : List Lane) (k : ℕ) (new : Lane) → k < length lanes
    → AreAtWork opening lanes → IsAtWork opening k new → AreAtWork opening (set lanes k new)
AreAtWork-set opening lanes k new within all here i d less = elim (ℕ_discrete i k) [
  | yes q ↦
      let is : new ≡ get_or (set lanes k new) i d =
      sym (ap (λ m. get_or (set lanes k new) m d) q ∙ get_or-set_same lanes k new d within) in
      subst (λ (y : ℕ × Lane). IsAtWork opening y.0 y.1) (λ j. (sym q j, is j)) here
  | no q ↦
      let less' : i < length lanes = subst (λ n. i < n) (length-set lanes k new) less in
      subst (IsAtWork opening i) (sym (get_or-set_other lanes k i new d q)) (all i d less')
]

-- Lanes that are open are whole.
pub AreWhole-open : (stations : ℕ) (lanes : List Lane) (gather : Gather)
    → (is : IsOpen stations lanes gather) → AreWhole is.opening lanes gather
AreWhole-open stations lanes gather is = record {
  lanes_are = record {
    all = sym is.shape.1;
    each = λ i d less. (is.at_work i d less).taken.is_lane;
  };
  gather_is = is.gather_is;
}

module _ (stations : ℕ) (lanes : List Lane) (gather : Gather) (is : IsOpen stations lanes gather)
    (n k : ℕ) (n_is : n ≡ length lanes) (lane : Lane) (within : k < length lanes)
    (at : lane ≡ slice_index_or lanes k lane) where
  -- It is a lane of the opening.
  pub IsSomeLane-at : IsSomeLane stations n k lane
  IsSomeLane-at = (
    is.opening,
    (is.shape.0, is.shape.1 ∙ sym n_is),
    subst (IsAtWork is.opening k) (sym at) (is.at_work k lane within),
  )

  -- All are open when it has changed.
  pub IsOpen-set : (new : Lane) → StaysAtWork stations n k lane new
      → IsOpen stations (set lanes k new) gather
  unfolding IsSomeLane-at
  IsOpen-set new stays = record {
    opening = is.opening;
    shape = (is.shape.0, is.shape.1 ∙ sym (length-set lanes k new));
    at_work =
        AreAtWork-set is.opening lanes k new within is.at_work
        (stays is.opening IsSomeLane-at.1 IsSomeLane-at.2);
    gather_is = is.gather_is;
  }

-- A lane that stays at work is a lane of the opening.
pub IsSomeLane-stays : (stations lanes number : ℕ) (before after : Lane)
    → IsSomeLane stations lanes number before → StaysAtWork stations lanes number before after
    → IsSomeLane stations lanes number after
IsSomeLane-stays stations lanes number before after some stays =
    (some.0, some.1, stays some.0 some.1 some.2)

-- Lanes at work are lanes of the opening.
pub AreSomeLanes-at_work : (opening : Opening) (stations count : ℕ) (lanes : List Lane)
    → IsOf stations count opening → AreAtWork opening lanes → AreSomeLanes stations count lanes
AreSomeLanes-at_work opening stations count lanes shape work i d less =
    (opening, shape, work i d less)

pub AreAtWork-stay : (opening : Opening) (stations count : ℕ) (before after : List Lane)
    → IsOf stations count opening → length after ≡ length before
    → StayAtWork stations count before after → AreAtWork opening before → AreAtWork opening after
AreAtWork-stay opening stations count before after shape long stay work i d less =
    let less' : i < length before = subst (λ n. i < n) long less in
    stay i d less' opening shape (work i d less')

pub StaysGather-then : (a b c : Gather) → StaysGather a b
    → ((opening : Opening) → IsGather opening b → IsGather opening c) → StaysGather a c
StaysGather-then a b c first then = record {
  stays = λ opening is. then opening (first.stays opening is);
}
