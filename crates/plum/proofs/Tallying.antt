-- The bodies of a capture, one more counted.
use Rattle.std.proofs.Common.{◌≡◌, ◌≢◌, ℕ, ◌+◌, ◌-◌, ◌<◌, true, false, List, [], ◌∷◌, ◌++◌}
use Rattle.std.proofs.Common.{length, length-set, set, get_or, get_or-set_same, get_or-set_other}
use Rattle.std.proofs.Common.{map, Option, Ok, Err, refl, sym, ◌∙◌, ap, subst}
use Rattle.std.proofs.Common.{arith, append-nil, eqb, eq-eqb, inl, inr}
use Rattle.std.proofs.lemmas.Bool.{cases_Bool, eqb-true, eqb-false}
use Rattle.std.proofs.lemmas.List.{length_push, map-append}
use Rattle.std.proofs.lemmas.List.Elements.{filter_map-append}
use Rattle.std.specs.Result.{result_ok, result_err}
use Rattle.std.specs.Option.{option_map}
use Rattle.plum_base.specs.declared.numbers.Key.{Key}
use Rattle.plum_base.specs.declared.packet.Packet.{Packet}
use Rattle.plum_base.specs.declared.packet.PacketFault.{PacketFault}
use Rattle.plum_base.specs.declared.packet.RefusedBody.{RefusedBody}
use Rattle.plum_seq.specs.Keys.{of_station, keys_of, greatest_key, is_kept, kept}
use Rattle.plum_seq.specs.Laws.{KeptJoins, RepeatLeaves}
use Rattle.plum_seq.proofs.Stations.{of_station-other, of_station-own}
use Rattle.plum_packet.specs.Segments.{Decoded, packets_in, refused_in}
use Rattle.plum.specs.declared.tally.Tally.{Tally}
use Rattle.plum_text.specs.declared.lines.OutLine.TheVariants.{Totals}
use Rattle.plum_text.specs.Texts.{totals_line}
use Rattle.plum.specs.Plain.{totals_of_bodies}
use Rattle.plum.specs.Tallied.{HasTallied}

-- the packets and the refused bodies, one body more

pub packets-push : (bodies : List Decoded) (n : ℕ) (p : Packet)
    → packets_in (bodies ++ (n, Ok p) ∷ []) ≡ packets_in bodies ++ p ∷ []
packets-push bodies n p =
    filter_map-append (λ (d : Decoded). result_ok d.1) bodies ((n, Ok p) ∷ [])

pub packets-refused : (bodies : List Decoded) (n : ℕ) (fault : PacketFault)
    → packets_in (bodies ++ (n, Err fault) ∷ []) ≡ packets_in bodies
packets-refused bodies n fault =
    filter_map-append (λ (d : Decoded). result_ok d.1) bodies ((n, Err fault) ∷ [])
    ∙ append-nil (packets_in bodies)

abbrev refusal : Decoded → Option RefusedBody
refusal d = option_map (λ fault. record { number = d.0; fault = fault }) (result_err d.1)

pub refused-push : (bodies : List Decoded) (n : ℕ) (fault : PacketFault)
    → refused_in (bodies ++ (n, Err fault) ∷ [])
    ≡ refused_in bodies ++ record { number = n; fault = fault } ∷ []
refused-push bodies n fault = filter_map-append refusal bodies ((n, Err fault) ∷ [])

pub refused-packet : (bodies : List Decoded) (n : ℕ) (p : Packet)
    → refused_in (bodies ++ (n, Ok p) ∷ []) ≡ refused_in bodies
refused-packet bodies n p =
    filter_map-append refusal bodies ((n, Ok p) ∷ []) ∙ append-nil (refused_in bodies)

-- the kept ones
abbrev kept_packets : List Packet → List Packet
kept_packets ps = kept ps

module _ (old new : Tally) (stations number : ℕ) (bodies : List Decoded)
    (has : HasTallied old stations bodies) where
  -- a body that is no packet
  pub tallied_refused : (fault : PacketFault) → new.keys ≡ old.keys → new.kept ≡ old.kept
      → new.repeats ≡ old.repeats → new.refused ≡ old.refused + 1
      → HasTallied new stations (bodies ++ (number, Err fault) ∷ [])
  tallied_refused fault keys kept repeats refused =
      let same = sym (packets-refused bodies number fault) in
      record {
        size = ap (λ ks. length ks.items) keys ∙ has.size;
        keys = subst (λ ps. (s : ℕ) (d : Option Key) → s < length new.keys.items
            → get_or new.keys.items s d ≡ greatest_key (keys_of s ps)) same
            (subst (λ ks. (s : ℕ) (d : Option Key) → s < length ks.items
            → get_or ks.items s d ≡ greatest_key (keys_of s (packets_in bodies))) (sym keys)
            has.keys);
        kept = kept ∙ has.kept ∙ ap (λ ps. length (kept_packets ps)) same;
        packets = omega (arith, kept, repeats, has.packets, ap length same);
        refused = omega (
          arith,
          refused,
          has.refused,
          ap length (refused-push bodies number fault),
          length_push (refused_in bodies) (record { number = number; fault = fault }),
        );
      }

  module _ (p : Packet) (x some : Option Key) (listed : p.station.0 < length old.keys.items)
      (is : new.keys.items ≡ set old.keys.items p.station.0 x)
      (knows : (keys : List Key)
      → get_or old.keys.items p.station.0 some ≡ greatest_key keys
      → x ≡ greatest_key (keys ++ p.key ∷ [])) where
    abbrev before : List Packet
    before = packets_in bodies

    abbrev after : List Packet
    after = packets_in bodies ++ p ∷ []

    -- the keys of each station
    keys_after : (s : ℕ) (d : Option Key) → s < length new.keys.items
        → get_or new.keys.items s d ≡ greatest_key (keys_of s after)
    keys_after s d below =
        let long : length new.keys.items ≡ length old.keys.items =
        ap length is ∙ length-set old.keys.items p.station.0 x in
        elim (cases_Bool (eqb p.station.0 s)) [
          | inl same ↦
              let e = eqb-true p.station.0 s same in
              let key : Packet → Key = λ q. q.key in
              let own : keys_of p.station.0 after ≡ keys_of p.station.0 before ++ p.key ∷ [] =
              ap (map key) (of_station-own p.station.0 before p
              (eq-eqb p.station.0 p.station.0 refl))
              ∙ map-append key (of_station p.station.0 before) (p ∷ []) in
              subst (λ s. get_or new.keys.items s d ≡ greatest_key (keys_of s after)) e
              (ap (λ ks. get_or ks p.station.0 d) is
              ∙ get_or-set_same old.keys.items p.station.0 x d listed
              ∙ knows (keys_of p.station.0 before) (has.keys p.station.0 some listed)
              ∙ ap greatest_key (sym own))
          | inr other ↦
              let differs : s ≢ p.station.0 = λ e. eqb-false p.station.0 s other (sym e) in
              let key : Packet → Key = λ q. q.key in
              ap (λ ks. get_or ks s d) is
              ∙ get_or-set_other old.keys.items p.station.0 s x d differs
              ∙ has.keys s d (omega (arith, long))
              ∙ ap (λ ps. greatest_key (map key ps)) (sym (of_station-other s before p other))
        ]

    long_after : length new.keys.items ≡ stations
    long_after = ap length is ∙ length-set old.keys.items p.station.0 x ∙ has.size

    abbrev all : List Decoded
    all = bodies ++ (number, Ok p) ∷ []

    same : packets_in all ≡ after
    same = packets-push bodies number p

    keys_of_all : (s : ℕ) (d : Option Key) → s < length new.keys.items
        → get_or new.keys.items s d ≡ greatest_key (keys_of s (packets_in all))
    keys_of_all = subst (λ ps. (s : ℕ) (d : Option Key) → s < length new.keys.items
        → get_or new.keys.items s d ≡ greatest_key (keys_of s ps)) (sym same) keys_after

    module _ (refused : new.refused ≡ old.refused) where
      refused_after : new.refused ≡ length (refused_in all)
      refused_after = refused ∙ has.refused ∙ ap length (sym (refused-packet bodies number p))

      -- a packet that is kept
      pub tallied_kept : KeptJoins → is_kept before p ≡ true → new.kept ≡ old.kept + 1
          → new.repeats ≡ old.repeats → HasTallied new stations all
      tallied_kept joins keeps kept_more repeats = record {
        size = long_after;
        keys = keys_of_all;
        kept = omega (
          arith,
          kept_more,
          has.kept,
          ap length (joins before p keeps),
          length_push (kept before) p,
          ap (λ ps. length (kept ps)) same,
        );
        packets = omega (
          arith,
          kept_more,
          repeats,
          has.packets,
          ap length same,
          length_push before p,
        );
        refused = refused_after;
      }

      -- a repeat
      pub tallied_repeat : RepeatLeaves → is_kept before p ≡ false → new.kept ≡ old.kept
          → new.repeats ≡ old.repeats + 1 → HasTallied new stations all
      tallied_repeat leaves repeat kept_same repeats = record {
        size = long_after;
        keys = keys_of_all;
        kept = omega (
          arith,
          kept_same,
          has.kept,
          ap length (leaves before p repeat),
          ap (λ ps. length (kept ps)) same,
        );
        packets = omega (
          arith,
          kept_same,
          repeats,
          has.packets,
          ap length same,
          length_push before p,
        );
        refused = refused_after;
      }

-- each body is a packet or is refused
all_decoded : (bodies : List Decoded)
    → length bodies ≡ length (packets_in bodies) + length (refused_in bodies)
all_decoded [] = refl
all_decoded ((n, Ok packet) ∷ bodies) = omega (arith, all_decoded bodies)
all_decoded ((n, Err fault) ∷ bodies) = omega (arith, all_decoded bodies)

-- what was tallied is what is counted
pub totals_are : (tally : Tally) (stations : ℕ) (bodies : List Decoded)
    → HasTallied tally stations bodies → (segments : ℕ)
    → Totals segments (tally.kept + tally.repeats + tally.refused) tally.kept tally.repeats
    tally.refused ≡ totals_line segments (totals_of_bodies bodies)
totals_are tally stations bodies has segments =
    let all : tally.kept + tally.repeats + tally.refused ≡ length bodies =
    omega (arith, has.packets, has.refused, all_decoded bodies) in
    let repeats : tally.repeats ≡ length (packets_in bodies) - length (kept (packets_in bodies)) =
    omega (arith, has.packets, has.kept) in
    ap (λ b. Totals segments b tally.kept tally.repeats tally.refused) all
    ∙ ap (λ k. Totals segments (length bodies) k tally.repeats tally.refused) has.kept
    ∙ ap (λ r. Totals segments (length bodies) (length (kept (packets_in bodies))) r
    tally.refused) repeats
    ∙ ap (λ r. Totals segments (length bodies) (length (kept (packets_in bodies)))
    (length (packets_in bodies) - length (kept (packets_in bodies))) r) has.refused
