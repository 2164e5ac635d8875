-- Packets that are shared out among lanes, and lanes that took theirs.
use Rattle.std.proofs.Common.{◌≡◌, ◌≢◌, ℕ, ◌<◌, ◌==◌, true, false}
use Rattle.std.proofs.Common.{List, [], ◌∷◌, ◌++◌, length, map, set, get_or, get_or-set_same}
use Rattle.std.proofs.Common.{get_or-set_other, length-set, refl, sym, ap, ◌∙◌, subst}
use Rattle.std.proofs.Common.{arith, append_assoc, length-append}
use Rattle.std.specs.Prelude.{All, Result, Ok, Err, IfOk}
use Rattle.std.proofs.lemmas.Bool.{eq-eqb, eqb-true, ne_eqb}
use Rattle.std.proofs.lemmas.List.{length-map, get_or-map, append-nil}
use Rattle.std.proofs.lemmas.List.Elements.{All-head, All-weaker, All-tail, All-filter}
use Rattle.std.proofs.lemmas.List.Elements.{filter_passes}
use lib.Seq.{map-set_same}
use native.Mathlib.Decide.{ℕ_discrete}
use Rattle.plum_base.specs.declared.memory.NoMemory.{NoMemory}
use Rattle.plum_base.specs.declared.packet.Packet.{Packet}
use Rattle.plum_base.specs.Lane.{lane_of}
use Rattle.plum_core.specs.Transcript.{of_lane}
use Rattle.plum_base.proofs.Pushes.{filter_more}
use Rattle.plum_lanes.specs.declared.lanes.Lane.{Lane}
use Rattle.plum_lanes.specs.Lanes.{waiting_in, HasTaken, IsForLane}
use Rattle.plum_lanes.specs.Opening.{Opening}
use Rattle.plum_replay.proofs.ByLanes.{few_of_lane}
use Rattle.plum_replay.proofs.Lists.{some_of}
use Rattle.plum_replay.specs.declared.round.taking.Share.{Share}
use Rattle.plum_replay.specs.Pieces.{CanTakePart, TakesPart, CanTakeParts, TakeParts, IsDone}
use Rattle.plum_replay.specs.Pieces.{AreShares, lane_in}
use Rattle.plum_replay.specs.Rounds.{CanShare, HaveShared}

-- the packets of a lane, with one more of it
of_lane-own : (lanes i : ℕ) (packets : List Packet) (p : Packet)
    → lane_of lanes p.station.0 ≡ i
    → of_lane lanes i (packets ++ p ∷ []) ≡ of_lane lanes i packets ++ p ∷ []
of_lane-own lanes i packets p own =
    filter_more (λ p. lane_of lanes p.station.0 == i) packets p true
    (eq-eqb (lane_of lanes p.station.0) i own)

-- or with one of another lane
of_lane-other : (lanes i : ℕ) (packets : List Packet) (p : Packet)
    → lane_of lanes p.station.0 ≢ i
    → of_lane lanes i (packets ++ p ∷ []) ≡ of_lane lanes i packets
of_lane-other lanes i packets p other =
    filter_more (λ p. lane_of lanes p.station.0 == i) packets p false
    (ne_eqb (lane_of lanes p.station.0) i other)
    ∙ append-nil (of_lane lanes i packets)

-- each is of it
of_lane-each : (lanes i : ℕ) (packets : List Packet)
    → All (λ p. lane_of lanes p.station.0 ≡ i) (of_lane lanes i packets)
of_lane-each lanes i packets =
    All-weaker (λ p. (lane_of lanes p.station.0 == i) ≡ true)
    (λ p. lane_of lanes p.station.0 ≡ i) (λ p is. eqb-true (lane_of lanes p.station.0) i is)
    (of_lane lanes i packets) (filter_passes (λ p. lane_of lanes p.station.0 == i) packets)

module _ (lanes : List Lane) (shares : List Share) where
  pub shares_long : map lane_in shares ≡ lanes → length shares ≡ length lanes
  shares_long are = sym (length-map shares lane_in) ∙ ap length are

  -- the lane of a share
  lane_at : map lane_in shares ≡ lanes → (i : ℕ) (d : Share) (e : Lane) → i < length shares
      → get_or lanes i e ≡ (get_or shares i d).lane
  lane_at are i d e less =
      ap (λ (ls : List Lane). get_or ls i e) (sym are) ∙ get_or-map lane_in shares i d e less

  -- One packet more is given to its lane.
  pub AreShares-give : (packets : List Packet) (p : Packet) (k : ℕ) (new : Share)
      → k < length shares → k ≡ lane_of (length lanes) p.station.0
      → new.lane ≡ (get_or shares k new).lane
      → new.packets.items ≡ (get_or shares k new).packets.items ++ p ∷ []
      → AreShares lanes (λ i. of_lane (length lanes) i packets) shares
      → AreShares lanes (λ i. of_lane (length lanes) i (packets ++ p ∷ [])) (set shares k new)
  AreShares-give packets p k new within own lane more are = record {
    lanes_are = map-set_same lane_in shares k new new lane ∙ are.lanes_are;
    each = λ i d less. elim (ℕ_discrete i k) [
      | yes q ↦
          let here : get_or (set shares k new) i d ≡ new =
          ap (λ j. get_or (set shares k new) j d) q ∙ get_or-set_same shares k new d within in
          ap (λ (s : Share). s.packets.items) here ∙ more
          ∙ ap (λ ps. ps ++ p ∷ []) (are.each k new within)
          ∙ ap (λ j. of_lane (length lanes) j packets ++ p ∷ []) (sym q)
          ∙ sym (of_lane-own (length lanes) i packets p (sym own ∙ sym q))
      | no q ↦
          let less' : i < length shares =
          subst (λ n. i < n) (length-set shares k new) less in
          ap (λ (s : Share). s.packets.items) (get_or-set_other shares k i new d q)
          ∙ are.each i d less'
          ∙ sym (of_lane-other (length lanes) i packets p (λ is. q (sym is ∙ sym own)))
    ];
  }

module _ (opening : Opening) (packets : List Packet) (lanes : List Lane)
    (can : CanShare opening packets lanes) (shares : List Share)
    (are : AreShares lanes (λ i. of_lane (length lanes) i packets) shares) where
  -- Each lane can take its packets.
  pub CanTakeParts-shared : CanTakeParts opening shares
  CanTakeParts-shared i d less =
      let n = length lanes in
      let lane = (get_or shares i d).lane in
      let less' : i < n = subst (λ m. i < m) (shares_long lanes shares are.lanes_are) less in
      let at : get_or lanes i lane ≡ lane = lane_at lanes shares are.lanes_are i d lane less in
      let room = can.room i lane less' in
      let theirs = are.each i d less in
      let listed : All (λ p. p.station.0 < opening.basis.stations) (of_lane n i packets) =
      All-filter (λ p. lane_of n p.station.0 == i) (λ p. p.station.0 < opening.basis.stations)
      packets can.listed in
      record {
        room = record {
          taken = room.taken;
          has = subst (HasTaken opening i room.taken) at room.has;
          few =
              rw theirs (omega (arith, room.few, few_of_lane n i packets));
        };
        own =
            subst (All (IsForLane opening i)) (sym theirs) (λ k q within. (
              listed k q within,
              ap (λ m. lane_of m (get_or (of_lane n i packets) k q).station.0) (sym can.all)
                  ∙ of_lane-each n i packets k q within,
            ));
      }

  module _ (after : List Share) (long : length after ≡ length shares)
      (took : TakeParts shares after) (done : All IsDone after) where
    done_at : (i : ℕ) (d : Share) → i < length shares → IsDone (get_or after i d)
    done_at i d less = done i d (subst (λ m. i < m) (sym long) less)

    -- So each took all of its packets, where all are done.
    took_at : (i : ℕ) (d : Share) (taken : List Packet) → i < length shares
        → HasTaken opening i taken (get_or shares i d).lane
        → HasTaken opening i (taken ++ of_lane (length lanes) i packets) (get_or after i d).lane
    took_at i d taken less has =
        let part = took i d less in
        let all : part.front ≡ of_lane (length lanes) i packets =
        sym (append-nil part.front)
        ∙ ap (λ ps. part.front ++ ps) (sym (done_at i d less).none_left)
        ∙ sym part.left ∙ are.each i d less in
        subst (λ ps. HasTaken opening i (taken ++ ps) (get_or after i d).lane) all
        (part.has opening taken (CanTakeParts-shared i d less) has)

    pub HaveShared-taken : HaveShared opening packets lanes (map lane_in after)
    HaveShared-taken =
        let before : length shares ≡ length lanes = shares_long lanes shares are.lanes_are in
        let same : length (map lane_in after) ≡ length lanes =
        length-map after lane_in ∙ long ∙ before in
        record {
          long = same;
          taken = λ i d taken less has.
              let less' : i < length shares = subst (λ m. i < m) (sym before) less in
              let share : Share = some_of shares i less' in
              let was : get_or lanes i d ≡ (get_or shares i share).lane =
              lane_at lanes shares are.lanes_are i share d less' in
              let is : get_or (map lane_in after) i d ≡ (get_or after i share).lane =
              get_or-map lane_in after i share d (subst (λ m. i < m) (sym long) less') in
              let lanes_of : ℕ → List Packet = λ m. taken ++ of_lane m i packets in
              subst (λ (lane : Lane).
              HasTaken opening i (lanes_of opening.basis.setup.lanes) lane) (sym is)
              (subst (λ m. HasTaken opening i (lanes_of m) (get_or after i share).lane) can.all
              (took_at i share taken less' (subst (HasTaken opening i taken) was has)));
          free = λ i d less.
              let less' : i < length shares =
              subst (λ m. i < m) (sym before) (subst (λ m. i < m) same less) in
              let share : Share = some_of shares i less' in
              let is : get_or (map lane_in after) i d ≡ (get_or after i share).lane =
              get_or-map lane_in after i share d (subst (λ m. i < m) (sym long) less') in
              ap waiting_in is ∙ (done_at i share less').free;
        }

-- ---- a lane that goes on

-- What is left of a list of which each element is so.
own_left : (opening : Opening) (i : ℕ) (front rest all : List Packet) → all ≡ front ++ rest
    → All (IsForLane opening i) all → All (IsForLane opening i) rest
own_left opening i [] rest all split own = subst (All (IsForLane opening i)) split own
own_left opening i (first ∷ front) rest all split own =
    own_left opening i front rest (front ++ rest) refl
    (All-tail (IsForLane opening i) first (front ++ rest)
    (subst (All (IsForLane opening i)) split own))

-- It can take what is left.
pub CanTakePart-left : (opening : Opening) (i : ℕ) (a b : Share) → TakesPart i a b
    → CanTakePart opening i a → CanTakePart opening i b
CanTakePart-left opening i a b takes can =
    let taken = can.room.taken in
    record {
      room = record {
        taken = taken ++ takes.front;
        has = takes.has opening taken can can.room.has;
        few =
            omega (
              arith,
              can.room.few,
              ap length takes.left ∙ length-append takes.front b.packets.items,
              length-append taken takes.front,
            );
      };
      own = own_left opening i takes.front b.packets.items a.packets.items takes.left can.own;
    }

-- It takes none: what waited was sent, or waits on.
pub TakesPart-none : (i : ℕ) (a b : Share) → a.packets.items ≡ b.packets.items
    → ((opening : Opening) (taken : List Packet)
    → HasTaken opening i taken a.lane → HasTaken opening i taken b.lane)
    → TakesPart i a b
TakesPart-none i a b same clear = record {
  front = [];
  left = same;
  has = λ opening taken can has.
      subst (λ ps. HasTaken opening i ps b.lane) (sym (append-nil taken))
      (clear opening taken has);
}

-- It takes its next packet: nothing waited, or what did was sent before.
pub TakesPart-one : (i : ℕ) (a b : Share) (cleared : Lane) (p : Packet)
    → a.packets.items ≡ p ∷ b.packets.items
    → ((opening : Opening) (taken : List Packet)
    → HasTaken opening i taken a.lane → HasTaken opening i taken cleared)
    → ((opening : Opening) (taken : List Packet)
    → HasTaken opening i taken cleared → IsForLane opening i p
    → HasTaken opening i (taken ++ p ∷ []) b.lane)
    → TakesPart i a b
TakesPart-one i a b cleared p next clear take = record {
  front = p ∷ [];
  left = next;
  has = λ opening taken can has.
      take opening taken (clear opening taken has)
      (All-head (IsForLane opening i) p b.packets.items
      (subst (All (IsForLane opening i)) next can.own));
}

-- It takes no step.
pub TakesPart-self : (i : ℕ) (a : Share) → TakesPart i a a
TakesPart-self i a = TakesPart-none i a a refl (λ opening taken has. has)

-- It goes on by two steps.
pub TakesPart-then : (i : ℕ) (a b c : Share) → TakesPart i a b → TakesPart i b c
    → TakesPart i a c
TakesPart-then i a b c first then = record {
  front = first.front ++ then.front;
  left =
      first.left ∙ ap (λ ps. first.front ++ ps) then.left
      ∙ sym (append_assoc first.front then.front c.packets.items);
  has = λ opening taken can has.
      subst (λ ps. HasTaken opening i ps c.lane) (append_assoc taken first.front then.front)
      (then.has opening (taken ++ first.front) (CanTakePart-left opening i a b first can)
      (first.has opening taken can has));
}

-- So it is with all of them.
pub CanTakeParts-left : (opening : Opening) (a b : List Share) → length b ≡ length a
    → TakeParts a b → CanTakeParts opening a → CanTakeParts opening b
CanTakeParts-left opening a b long takes can i d less =
    let less' : i < length a = subst (λ m. i < m) long less in
    CanTakePart-left opening i (get_or a i d) (get_or b i d) (takes i d less') (can i d less')

pub TakeParts-self : (a : List Share) → TakeParts a a
TakeParts-self a i d less = TakesPart-self i (get_or a i d)

pub TakeParts-then : (a b c : List Share) → length b ≡ length a → TakeParts a b
    → TakeParts b c → TakeParts a c
TakeParts-then a b c long first then i d less =
    TakesPart-then i (get_or a i d) (get_or b i d) (get_or c i d) (first i d less)
    (then i d (subst (λ m. i < m) (sym long) less))

-- The lanes that came back have their packets.
pub HaveShared-back : {V : Type 0} (back : Result V NoMemory) (items : V → List Lane)
    (opening : Opening) (packets : List Packet) (lanes : List Lane) (after : List Share)
    → IfOk back (λ v. items v ≡ map lane_in after)
    → HaveShared opening packets lanes (map lane_in after)
    → IfOk back (λ v. HaveShared opening packets lanes (items v))
HaveShared-back (Ok v) items opening packets lanes after are have =
    subst (HaveShared opening packets lanes) (sym are) have
HaveShared-back (Err e) items opening packets lanes after are have = tt
