-- New lanes, one after another.
use Rattle.std.proofs.Common.{◌≡◌, ℕ, ◌+◌, ◌-◌, ◌*◌, ◌/◌, ◌%◌, ◌<◌, ◌≤◌, List, [], ◌∷◌, ◌++◌}
use Rattle.std.proofs.Common.{length, length-append, get_or, Option, refl, sym, ap, ◌∙◌}
use Rattle.std.proofs.Common.{subst, arith}
use Rattle.std.proofs.Math.Nat.{div-add-mod, le-div_iff_mul-le, mul_comm, mul-add, mul-one}
use Rattle.std.proofs.Math.ListN.{get_or-append}
use Rattle.std.proofs.Math.Seq.{get_or-append_seam}
use Rattle.std.proofs.lemmas.List.Elements.{All-get_or}
use Rattle.std.specs.Prelude.{◌↔◌, All}
use native.Mathlib.Decide.{ℕ_discrete}
use Rattle.plum_base.specs.declared.entry.Entry.{Entry}
use Rattle.plum_base.specs.Lane.{lane_of}
use Rattle.plum_seq.specs.Keys.{kept, kept_after}
use Rattle.plum_core.specs.Facts.{IsBacklog}
use Rattle.plum_core.specs.History.{IsValidHistory}
use Rattle.plum_core.specs.declared.station.Station.{Station}
use Rattle.plum_core.specs.Station.{Stands}
use Rattle.plum_lanes.specs.declared.gatherer.Gather.{Gather}
use Rattle.plum_lanes.specs.declared.lanes.Lane.{Lane}
use Rattle.plum_lanes.specs.declared.rule.Basis.{Basis}
use Rattle.plum_lanes.specs.Rule.{settled_at}
use Rattle.plum_lanes.specs.Opening.{Opening}
use Rattle.plum_lanes.specs.Lanes.{StandForTaken, HasTaken, IsLane}
use Rattle.plum_lanes.specs.Rounds.{AreNew}
use Rattle.plum_lanes.specs.Passing.{IsIdle, IsNewGather, AreNewUpTo}
use Rattle.plum_lanes.proofs.Making.{no_entry}

-- A station of the lane is among so many exactly where its position is below the lane's share.
pub share_is : (lanes number s stations : ℕ) → number < lanes → s % lanes ≡ number
    → s < stations ↔ s / lanes < (stations + lanes - 1 - number) / lanes
share_is lanes number s stations below of_lane =
    let n : ℕ = stations + lanes - 1 - number in
    let whole : lanes * (s / lanes) + s % lanes ≡ s = div-add-mod s lanes in
    let product : (s / lanes + 1) * lanes ≡ lanes * (s / lanes) + lanes =
    mul_comm (s / lanes + 1) lanes ∙ mul-add lanes (s / lanes) 1
    ∙ ap (λ m. lanes * (s / lanes) + m) (mul-one lanes) in
    let some : 0 < lanes = omega arith in (
      λ listed.
          let room : (s / lanes + 1) * lanes ≤ n = omega arith in
          let position : s / lanes + 1 ≤ n / lanes = (le-div_iff_mul-le some).1 room in
          omega arith,
      λ within.
          let position : s / lanes + 1 ≤ n / lanes = omega arith in
          let room : (s / lanes + 1) * lanes ≤ n = (le-div_iff_mul-le some).0 position in
          omega arith,
    )

-- New stations stand for nothing.
pub new_stand : (basis : Basis) (number count : ℕ) (stations : List Station)
    → length stations ≡ count
    → ((s : ℕ) → lane_of basis.setup.lanes s ≡ number
    → s < basis.stations ↔ s / basis.setup.lanes < count)
    → ((s : ℕ) → All (λ station. Stands station basis.setup s []) stations)
    → StandForTaken basis number [] stations
new_stand basis number count stations long share all s listed of_lane =
    let position = s / basis.setup.lanes in
    let within : position < length stations =
    subst (λ m. position < m) (sym long) ((share s of_lane).0 listed) in (
      within,
      λ d. All-get_or (λ station. Stands station basis.setup s []) stations position d within
          (all s),
    )

-- No packet is kept of none.
none_kept : kept [] ≡ []
unfolding kept_after
none_kept = refl

-- A new lane has taken nothing.
pub HasTaken-new : (opening : Opening) (basis : Basis) (number : ℕ) (lane : Lane)
    → opening.basis ≡ basis → IsLane opening number lane
    → StandForTaken basis number [] lane.stations.items → IsIdle lane
    → HasTaken opening number [] lane
HasTaken-new opening basis number lane basis_is is_lane stand idle = record {
  is_lane = is_lane;
  stand =
      subst (λ (b : Basis). StandForTaken b number [] lane.stations.items) (sym basis_is) stand;
  backlog =
      subst (λ (y : Option Entry × List Entry).
      IsBacklog opening.basis.setup opening.basis.stations number [] y.0 y.1)
      (λ i. (sym idle.free i, sym idle.none_sent i))
      (record { kept = sym none_kept; next = tt });
  kept_is = idle.none_kept ∙ sym (ap length none_kept);
  counted = rw (idle.none_kept, idle.none_repeated) refl;
}

module _ (opening : Opening) (count : ℕ) where
  -- what a new lane is
  abbrev New : ℕ → Lane → Type 0
  New number lane = HasTaken opening number [] lane × IsIdle lane

  -- One lane more has its pass.
  pub AreNewUpTo-more : (lanes : List Lane) (before after : Gather) (lane : Lane)
      → AreNewUpTo opening count lanes before → New count lane
      → IsNewGather opening (count + 1) after
      → AreNewUpTo opening (count + 1) (lanes ++ lane ∷ []) after
  AreNewUpTo-more lanes before after lane are new gather =
      let long = are.long in
      let longer : length (lanes ++ lane ∷ []) ≡ length lanes + 1 =
      length-append lanes (lane ∷ []) in
      record {
        long = omega arith;
        gather_is = gather;
        each = λ i d within. elim (ℕ_discrete i count) [
          | yes q ↦
              let here : lane ≡ get_or (lanes ++ lane ∷ []) i d =
              sym (ap (λ m. get_or (lanes ++ lane ∷ []) m d) (q ∙ sym long)
              ∙ get_or-append_seam lanes lane [] d) in
              subst (λ (y : ℕ × Lane). New y.0 y.1) (λ j. (sym q j, here j)) new
          | no q ↦
              let before' : i < length lanes = omega arith in
              subst (New i) (sym (get_or-append lanes (lane ∷ []) d i before'))
              (are.each i d before')
        ];
      }

-- When all have theirs, the lanes are open.
pub AreNew-all : (opening : Opening) (lanes : List Lane) (gather : Gather)
    → AreNewUpTo opening opening.basis.setup.lanes lanes gather → AreNew opening lanes gather
AreNew-all opening lanes gather are = record {
  whole = record {
    lanes_are = record { all = are.long; each = λ i d within. (are.each i d within).0.is_lane };
    gather_is = record {
      gather_of = are.gather_is.gather_of;
      out = are.gather_is.out_is;
      valid =
          subst (IsValidHistory opening.basis.setup opening.basis.stations)
          (sym are.gather_is.none_gathered)
          (no_entry opening.basis.setup opening.basis.stations);
    };
  };
  taken = λ i d within. (are.each i d within).0;
  free = λ i d within. (are.each i d within).1.free;
  none_sent = λ i d within. (are.each i d within).1.none_sent;
  none_gathered = are.gather_is.none_gathered;
  settled = λ i d within.
      ap (λ lists. settled_at lists i) are.gather_is.none_settled
      ∙ sym (are.each i d within).1.none_sent;
}
