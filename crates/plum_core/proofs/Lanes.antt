-- The entries of a lane, and of a station of it.
use Rattle.std.proofs.Common.{◌≡◌, ℕ, Bool, true, false, cond, List, [], ◌∷◌, ◌++◌, map, refl, ◌∙◌}
use Rattle.std.proofs.Common.{ap, append-nil, eqb-true, eq-eqb}
use Rattle.std.proofs.lemmas.List.{map-append}
use Rattle.std.proofs.lemmas.List.Elements.{filter-append}
use Rattle.std.specs.Prelude.{◌==◌}
use Rattle.plum_base.specs.declared.entry.Entry.{Entry}
use Rattle.plum_base.specs.declared.packet.Packet.{Packet}
use Rattle.plum_base.specs.declared.setup.Setup.{Setup}
use Rattle.plum_base.specs.Lane.{lane_of}
use Rattle.plum_seq.specs.Keys.{of_station}
use Rattle.plum_core.specs.History.{packet_of, packets_of, entries_of_lane, IsValidHistory}
use Rattle.plum_core.specs.Transcript.{of_lane}
use Rattle.plum_base.proofs.Pushes.{filter_more}
use Rattle.plum_core.proofs.Lists.{filter_within}
use Rattle.plum_core.proofs.Stations.{of_station-push}

-- a lane's entries in a front are a front of its entries
pub entries_of_lane-append : (lane : ℕ) (front rest : List Entry)
    → entries_of_lane lane (front ++ rest) ≡ entries_of_lane lane front ++ entries_of_lane lane rest
entries_of_lane-append lane front rest = filter-append (λ (e : Entry). e.lane.0 == lane) front rest

module _ (lane : ℕ) (history : List Entry) (e : Entry) where
  abbrev of : Entry → Bool
  of other = other.lane.0 == lane

  -- one more entry of the lane
  pub entries_of_lane-push : e.lane.0 ≡ lane
      → entries_of_lane lane (history ++ e ∷ []) ≡ entries_of_lane lane history ++ e ∷ []
  entries_of_lane-push own = filter_more of history e true (eq-eqb e.lane.0 lane own)

  -- one more of another
  pub entries_of_lane-push_other : (e.lane.0 == lane) ≡ false
      → entries_of_lane lane (history ++ e ∷ []) ≡ entries_of_lane lane history
  entries_of_lane-push_other other =
      filter_more of history e false other ∙ append-nil (entries_of_lane lane history)

-- one more entry of a station
pub packets_of-push : (history : List Entry) (e : Entry)
    → packets_of e.station.0 (history ++ e ∷ [])
    ≡ packets_of e.station.0 history ++ packet_of e ∷ []
packets_of-push history e =
    ap (of_station e.station.0) (map-append packet_of history (e ∷ []))
    ∙ of_station-push e.station.0 (map packet_of history) (packet_of e) refl

-- Each entry is of the lane of its station.
abbrev AreInLanes : ℕ → List Entry → Type 0
AreInLanes lanes history =
    (earlier : List Entry) (e : Entry) (later : List Entry) → history ≡ earlier ++ e ∷ later
    → e.lane.0 ≡ lane_of lanes e.station.0

module _ (lanes lane : ℕ) where
  -- the first one of a list, if its lane is this one
  first : (b : Bool) (e : Entry) (es : List Entry)
      → map packet_of (cond b (e ∷ es) es)
      ≡ cond b (packet_of e ∷ map packet_of es) (map packet_of es)
  first true e es = refl
  first false e es = refl

  -- the packets of a lane's entries are the packets of the lane
  pub packets_of_lane : (history : List Entry) → AreInLanes lanes history
      → map packet_of (entries_of_lane lane history) ≡ of_lane lanes lane (map packet_of history)
  packets_of_lane [] right = refl
  packets_of_lane (e ∷ es) right =
      let own : (e.lane.0 == lane) ≡ (lane_of lanes e.station.0 == lane) =
      ap (λ n. n == lane) (right [] e es refl) in
      let others : AreInLanes lanes es = λ earlier f later is.
      right (e ∷ earlier) f later (ap (λ l. e ∷ l) is) in
      first (e.lane.0 == lane) e (entries_of_lane lane es)
      ∙ ap (λ ps. cond (e.lane.0 == lane) (packet_of e ∷ ps) ps) (packets_of_lane es others)
      ∙ ap (λ b. cond b (packet_of e ∷ of_lane lanes lane (map packet_of es))
      (of_lane lanes lane (map packet_of es))) own

-- All packets of a station are in its lane.
pub of_station-lane : (lanes station : ℕ) (ps : List Packet)
    → of_station station (of_lane lanes (lane_of lanes station) ps) ≡ of_station station ps
of_station-lane lanes station ps =
    let lane = lane_of lanes station in
    let in_lane : Packet → Bool = λ p. lane_of lanes p.station.0 == lane in
    let own : Packet → Bool = λ p. p.station.0 == station in
    let within : (p : Packet) → own p ≡ true → in_lane p ≡ true = λ p is.
    let same = eqb-true p.station.0 station is in
    eq-eqb (lane_of lanes p.station.0) lane (ap (lane_of lanes) same) in
    filter_within in_lane own within ps

-- So are those of a valid history.
pub packets_of-lane : (setup : Setup) (stations station : ℕ) (history : List Entry)
    → IsValidHistory setup stations history
    → packets_of station (entries_of_lane (lane_of setup.lanes station) history)
    ≡ packets_of station history
packets_of-lane setup stations station history valid =
    let lane = lane_of setup.lanes station in
    ap (of_station station) (packets_of_lane setup.lanes lane history
    (λ earlier e later is. (valid earlier e later is).lane))
    ∙ of_station-lane setup.lanes station (map packet_of history)
