-- The stations of a network and their history, one more packet on.
use Rattle.std.proofs.Common.{◌≡◌, ◌≢◌, ℕ, ◌<◌, Bool, false, List, [], ◌∷◌, ◌++◌, length}
use Rattle.std.proofs.Common.{length-set, set, get_or, get_or-set_same, get_or-set_other, inl, inr}
use Rattle.std.proofs.Common.{sym, ◌∙◌, ap, subst, arith, eqb-true}
use Rattle.std.proofs.lemmas.Bool.{cases_Bool}
use Rattle.std.proofs.lemmas.Bool.Decides.{nat_tests}
use Rattle.std.specs.Prelude.{if◌then◌else◌, ◌==◌}
use Rattle.plum_base.specs.declared.entry.Entry.{Entry}
use Rattle.plum_base.specs.declared.packet.Packet.{Packet}
use Rattle.plum_base.specs.declared.setup.Setup.{Setup}
use Rattle.plum_base.specs.Lane.{lane_of}
use Rattle.plum_seq.specs.Keys.{of_station}
use Rattle.plum_seq.proofs.Stations.{of_station-other}
use Rattle.plum_core.specs.declared.network.Network.{Network}
use Rattle.plum_core.specs.declared.station.Station.{Station}
use Rattle.plum_core.specs.declared.station.Taken.{Taken}
use Rattle.plum_core.specs.declared.station.Taken.TheVariants.{Kept, Repeat}
use Rattle.plum_core.specs.History.{IsValidHistory}
use Rattle.plum_core.specs.Station.{Stands, StandFor, Gives, given_more, size_of, HasTaken}
use Rattle.plum_core.specs.Station.{with_taken}
use Rattle.plum_core.proofs.Joining.{KeyLaws, HoldsKept-nil, HoldsKept-repeat, HoldsKept-more}
use Rattle.plum_core.proofs.Joining.{IsValidHistory-nil, IsValidHistory-more}
use Rattle.plum_core.proofs.Stations.{Stands-same}

-- What was given to the stations is told by the own packets of each.
pub StandFor-same : (network : Network) (setup : Setup) (given other : ℕ → List Packet)
    → ((s : ℕ) → of_station s (given s) ≡ of_station s (other s))
    → StandFor network setup given → StandFor network setup other
StandFor-same network setup given other same stand = record {
  lanes = stand.lanes;
  each = λ s d below.
      Stands-same (get_or network.stations.items s d) setup s (given s) (other s) (same s)
      (stand.each s d below);
}

-- the own packets of each station, one more packet on
pub of_station-more : (ps : List Packet) (p : Packet) (s : ℕ)
    → of_station s (if p.station.0 == s then ps ++ p ∷ [] else ps) ≡ of_station s (ps ++ p ∷ [])
of_station-more ps p s =
    elim (cases_Bool (p.station.0 == s)) [
      | inl is ↦ ap (λ b. of_station s (if b then ps ++ p ∷ [] else ps)) is
      | inr is ↦
          ap (λ b. of_station s (if b then ps ++ p ∷ [] else ps)) is
          ∙ sym (of_station-other s ps p is)
    ]

-- The packets of all stations, one more packet on.
pub StandFor-yielded : (network : Network) (setup : Setup) (ps : List Packet) (p : Packet)
    → StandFor network setup (given_more (λ _. ps) p) → StandFor network setup (λ _. ps ++ p ∷ [])
StandFor-yielded network setup ps p = StandFor-same network setup _ _ (of_station-more ps p)

module _ (before after : Network) (setup : Setup) (given : ℕ → List Packet) (p : Packet)
    (x : Station)
    (listed : p.station.0 < length before.stations.items)
    (is : after.stations.items ≡ set before.stations.items p.station.0 x)
    (stands : Stands x setup p.station.0 (given p.station.0 ++ p ∷ []))
    (stand : StandFor before setup given) where
  -- the stations after
  abbrev at : ℕ → Station → Station
  at s d = get_or after.stations.items s d

  -- the station of the packet
  own : (d : Station) → Stands (at p.station.0 d) setup p.station.0 (given p.station.0 ++ p ∷ [])
  own d =
      let same : x ≡ at p.station.0 d =
      sym (ap (λ xs. get_or xs p.station.0 d) is
      ∙ get_or-set_same before.stations.items p.station.0 x d listed) in
      subst (λ station. Stands station setup p.station.0 (given p.station.0 ++ p ∷ [])) same stands

  -- each other station
  other : (s : ℕ) (d : Station) → (p.station.0 == s) ≡ false → s < length after.stations.items
      → Stands (at s d) setup s (given s)
  other s d not_own below =
      let apart : s ≢ p.station.0 = grind (arith, nat_tests) in
      let same : get_or before.stations.items s d ≡ at s d =
      sym (ap (λ xs. get_or xs s d) is
      ∙ get_or-set_other before.stations.items p.station.0 s x d apart) in
      let below' : s < length before.stations.items =
      omega (arith, ap length is, length-set before.stations.items p.station.0 x) in
      subst (λ station. Stands station setup s (given s)) same (stand.each s d below')

  -- The packet is given to its station.
  pub StandFor-more : after.lanes ≡ before.lanes → StandFor after setup (given_more given p)
  StandFor-more lanes = record {
    lanes = lanes ∙ stand.lanes;
    each = λ s d below.
        let chosen : Bool → Type 0 = λ b.
        Stands (at s d) setup s (if b then given s ++ p ∷ [] else given s) in
        elim (cases_Bool (p.station.0 == s)) [
          | inl is_own ↦
              let here = subst (λ n. Stands (at n d) setup n (given n ++ p ∷ []))
              (eqb-true p.station.0 s is_own) (own d) in
              subst chosen (sym is_own) here
          | inr not_own ↦ subst chosen (sym not_own) (other s d not_own below)
        ];
  }

-- A network to which nothing was given has no history.
pub HasTaken-nil : (network : Network) (setup : Setup) → StandFor network setup (λ _. [])
    → HasTaken network setup [] []
HasTaken-nil network setup stand = record {
  stand = stand;
  valid = IsValidHistory-nil setup (size_of network);
  holds = HoldsKept-nil;
}

module _ (laws : KeyLaws) (before after : Network) (setup : Setup) (packets : List Packet)
    (p : Packet) (history : List Entry) (taken : HasTaken before setup packets history)
    (listed : p.station.0 < size_of before) (same : size_of after ≡ size_of before)
    (stand : StandFor after setup (given_more (λ _. packets) p)) where
  -- What becomes of one packet more joins what a network took and gave.
  pub HasTaken-more : (result : Taken)
      → Gives setup packets (record { 0 = lane_of setup.lanes p.station.0 }) p result
      → HasTaken after setup (packets ++ p ∷ []) (with_taken history result)
  HasTaken-more (Kept e) entry = record {
    stand = StandFor-yielded after setup packets p stand;
    valid =
        subst (λ n. IsValidHistory setup n (history ++ e ∷ [])) (sym same)
        (IsValidHistory-more laws setup history packets p taken.holds e entry (size_of before)
        listed taken.valid);
    holds = HoldsKept-more laws setup history packets p taken.holds e entry;
  }
  HasTaken-more (Repeat last) repeat = record {
    stand = StandFor-yielded after setup packets p stand;
    valid = subst (λ n. IsValidHistory setup n history) (sym same) taken.valid;
    holds = HoldsKept-repeat laws.leaves history packets p taken.holds repeat.0;
  }
