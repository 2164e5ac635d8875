-- A station that is watched, one more packet on.
use Rattle.std.proofs.Common.{◌≡◌, ◌≢◌, ℕ, ◌+◌, ◌<◌, true, List, [], ◌∷◌, ◌++◌, length}
use Rattle.std.proofs.Common.{Option, Some, None, refl, sym, ◌∙◌, ap, subst, arith}
use Rattle.std.proofs.Common.{append-nil, eqb, inl, inr}
use Rattle.std.proofs.lemmas.Bool.{cases_Bool, eqb-true}
use Rattle.std.proofs.lemmas.List.{length_push}
use Rattle.plum_base.specs.declared.entry.Entry.{Entry}
use Rattle.plum_base.specs.declared.numbers.Key.{Key}
use Rattle.plum_base.specs.declared.numbers.LaneNo.{LaneNo}
use Rattle.plum_base.specs.declared.numbers.StationNo.{StationNo}
use Rattle.plum_base.specs.declared.packet.Packet.{Packet}
use Rattle.plum_base.specs.declared.setup.Setup.{Setup}
use Rattle.plum_base.specs.Lane.{lane_of}
use Rattle.plum_seq.proofs.Stations.{of_station-other, of_station-own}
use Rattle.plum_core.specs.Facts.{IsBacklog, IsInLaneOrder}
use Rattle.plum_core.specs.History.{HoldsKept, IsValidHistory}
use Rattle.plum_core.specs.Laws.{GivingKeeps, NextEntryJoins, OrderJoins, SendingKeeps}
use Rattle.plum_core.specs.Station.{Stands, Gives}
use Rattle.plum_core.proofs.Joining.{HoldsKept-nil, IsValidHistory-nil}
use Rattle.plum_core.specs.declared.station.Taken.{Taken}
use Rattle.plum_core.specs.declared.station.Taken.TheVariants.{Kept, Repeat}
use Rattle.plum.specs.declared.watch.Watch.{Watch}
use Rattle.plum.specs.Plain.{packets_of, value_line}
use Rattle.plum.specs.Watched.{HasWatched, WatchesOneMore}

-- a packet of another station is none of a station's
others_stay : (number : Option StationNo) (ps : List Packet) (p : Packet)
    → number ≢ Some p.station → packets_of number (ps ++ p ∷ []) ≡ packets_of number ps
others_stay None ps p differs = refl
others_stay (Some n) ps p differs =
    elim (cases_Bool (eqb p.station.0 n.0)) [
      | inl same ↦
          let number : ℕ → StationNo = λ k. record { 0 = k } in
          absurd (differs (ap (λ k. Some (number k)) (sym (eqb-true p.station.0 n.0 same))))
      | inr other ↦ of_station-other n.0 ps p other
    ]

own_joins : (number : Option StationNo) (ps : List Packet) (p : Packet)
    → number ≡ Some p.station → packets_of number (ps ++ p ∷ []) ≡ packets_of number ps ++ p ∷ []
own_joins number ps p is =
    subst (λ o. packets_of o (ps ++ p ∷ []) ≡ packets_of o ps ++ p ∷ []) (sym is)
    (of_station-own p.station.0 ps p (own_number p.station.0))
  where
    own_number : (n : ℕ) → eqb n n ≡ true
    own_number n = grind arith

abbrev number_in : Option StationNo → ℕ
number_in None = 0
number_in (Some n) = n.0

module _ (watch : Watch) (setup : Setup) (stations : ℕ) (packets : List Packet)
    (history : List Entry) (has : HasWatched watch setup stations packets history)
    (p : Packet) where
  -- of another station
  pub watched_other : watch.number ≢ Some p.station
      → WatchesOneMore watch setup stations packets history p None
  watched_other differs =
      let same = sym (others_stay watch.number packets p differs) in (
        [],
        subst (λ l. HasWatched watch setup stations (packets ++ p ∷ []) l)
            (sym (append-nil history)) (record {
              lane = has.lane;
              stands = λ n is. subst (λ own. Stands watch.station setup n.0 own) same
                  (has.stands n is);
              history_is = record {
                valid = has.history_is.valid;
                holds = subst (λ own. HoldsKept history own) same has.history_is.holds;
              };
              in_lane = has.in_lane;
              kept = has.kept;
              came = has.came ∙ ap length same;
            }),
        refl,
      )

  module _ (is : watch.number ≡ Some p.station) (listed : p.station.0 < stations)
      (giving : GivingKeeps) where
    abbrev own : List Packet
    own = packets_of watch.number packets

    abbrev lane : ℕ
    lane = lane_of setup.lanes p.station.0

    -- nothing waits in the station's lane
    before : IsBacklog setup stations lane own None history
    before = record {
      kept = subst (λ l. HoldsKept l own) (sym (append-nil history)) has.history_is.holds;
      next = tt;
    }

    -- the history is in the order of that lane
    in_station_lane : IsInLaneOrder lane history history
    in_station_lane =
        subst (λ l. IsInLaneOrder l history history) (has.lane p.station is) has.in_lane

    module _ (taken : Taken) (gives : Gives setup own watch.lane p taken) where
      gives_in_lane : Gives setup own (record { 0 = lane }) p taken
      gives_in_lane =
          let number : ℕ → LaneNo = λ k. record { 0 = k } in
          subst (λ l. Gives setup own l p taken) (ap number (has.lane p.station is)) gives

    module _ (new : Watch) (number : new.number ≡ watch.number) (same_lane : new.lane ≡ watch.lane)
        (stands : Stands new.station setup p.station.0 (own ++ p ∷ [])) where
      abbrev joined : List Packet
      joined = packets_of new.number (packets ++ p ∷ [])

      joins : own ++ p ∷ [] ≡ joined
      joins =
          sym (own_joins watch.number packets p is)
          ∙ ap (λ o. packets_of o (packets ++ p ∷ [])) (sym number)

      stands_still : (n : StationNo) → new.number ≡ Some n
          → Stands new.station setup n.0 joined
      stands_still n e =
          let at : Some p.station ≡ Some n = sym is ∙ sym number ∙ e in
          subst (λ own. Stands new.station setup n.0 own) joins
          (subst (λ o. Stands new.station setup (number_in o) (own ++ p ∷ [])) at stands)

      lane_still : (n : StationNo) → new.number ≡ Some n
          → new.lane.0 ≡ lane_of setup.lanes n.0
      lane_still n e = ap (λ l. l.0) same_lane ∙ has.lane n (sym number ∙ e)

      -- of the station, and kept
      pub watched_kept : NextEntryJoins → OrderJoins → SendingKeeps → (e : Entry)
          → Gives setup own watch.lane p (Kept e) → new.kept ≡ watch.kept + 1
          → new.repeats ≡ watch.repeats
          → WatchesOneMore new setup stations packets history p (Some (value_line e))
      watched_kept next order sending e gives kept repeats =
          let waits = giving setup stations own p history (Kept e) listed
          (gives_in_lane (Kept e) gives) before in
          let sent = sending setup stations lane (own ++ p ∷ []) e history waits in (
            e ∷ [],
            record {
              lane = lane_still;
              stands = stands_still;
              history_is = record {
                valid = next setup stations lane e history history has.history_is.valid
                    in_station_lane waits.next.0 waits.next.1;
                holds = subst (λ l. HoldsKept l joined) (append-nil (history ++ e ∷ []))
                    (subst (λ own. HoldsKept ((history ++ e ∷ []) ++ []) own) joins sent.kept);
              };
              in_lane = subst (λ l. IsInLaneOrder l (history ++ e ∷ []) (history ++ e ∷ []))
                  (sym (ap (λ l. l.0) same_lane ∙ has.lane p.station is))
                  (order lane e history history waits.next.0 in_station_lane);
              kept = omega (arith, kept, has.kept, length_push history e);
              came = omega (arith, kept, repeats, has.came, length_push own p, ap length joins);
            },
            refl,
          )

      -- of the station, and a repeat
      pub watched_repeat : (last : Key) → Gives setup own watch.lane p (Repeat last)
          → new.kept ≡ watch.kept → new.repeats ≡ watch.repeats + 1
          → WatchesOneMore new setup stations packets history p None
      watched_repeat last gives kept repeats =
          let after = giving setup stations own p history (Repeat last) listed
          (gives_in_lane (Repeat last) gives) before in (
            [],
            record {
              lane = lane_still;
              stands = stands_still;
              history_is = record {
                valid = subst (λ l. IsValidHistory setup stations l) (sym (append-nil history))
                    has.history_is.valid;
                holds = subst (λ own. HoldsKept (history ++ []) own) joins after.kept;
              };
              in_lane = rw (append-nil history)
                  (subst (λ l. IsInLaneOrder l history history)
                  (sym (ap (λ l. l.0) same_lane)) has.in_lane);
              kept = kept ∙ has.kept ∙ ap length (sym (append-nil history));
              came = omega (arith, kept, repeats, has.came, length_push own p, ap length joins);
            },
            refl,
          )

-- nothing is of no packets
none_of : (number : Option StationNo) → packets_of number [] ≡ []
none_of None = refl
none_of (Some n) = refl

-- a watch to which nothing was given
pub watched_none : (watch : Watch) (setup : Setup) (stations : ℕ) → watch.kept ≡ 0
    → watch.repeats ≡ 0
    → ((n : StationNo) → watch.number ≡ Some n → watch.lane.0 ≡ lane_of setup.lanes n.0)
    → ((n : StationNo) → Stands watch.station setup n.0 [])
    → HasWatched watch setup stations [] []
watched_none watch setup stations kept repeats lane stands =
    let none = sym (none_of watch.number) in
    record {
      lane = lane;
      stands = λ n is. subst (λ own. Stands watch.station setup n.0 own) none (stands n);
      history_is = record {
        valid = IsValidHistory-nil setup stations;
        holds = subst (λ own. HoldsKept [] own) none HoldsKept-nil;
      };
      in_lane = refl;
      kept = kept;
      came = omega (arith, kept, repeats, ap length none);
    }
