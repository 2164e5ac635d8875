-- The totals over all segments of a capture are those of its bodies.
use Rattle.std.proofs.Common.{◌≡◌, suc, List, [], ◌∷◌, ◌++◌, length, map, refl, sym, ap}
use Rattle.std.proofs.Common.{◌∙◌, arith, append-nil}
use Rattle.std.proofs.lemmas.List.{length-append}
use Rattle.std.proofs.lemmas.List.Elements.{filter_map-append}
use Rattle.std.proofs.lemmas.List.Sums.{sum_by-cons}
use Rattle.std.specs.List.{flat_map, sum_by}
use Rattle.std.specs.Option.{option_map}
use Rattle.std.specs.Result.{result_ok, result_err}
use Rattle.plum_base.specs.declared.counts.Counts.{Counts}
use Rattle.plum_base.specs.declared.packet.Packet.{Packet}
use Rattle.plum_base.specs.Counts.{AddUp}
use Rattle.plum_seq.specs.Keys.{kept_after}
use Rattle.plum_seq.specs.Laws.{KeptInParts}
use Rattle.plum_packet.specs.Bodies.{bodies_of}
use Rattle.plum_packet.specs.Counts.{counts_after, counts_in, counts_of}
use Rattle.plum_packet.specs.Laws.{CountsAddUp}
use Rattle.plum_packet.specs.Segments.{Decoded, packets_in, refused_in}
use Rattle.plum.specs.Plain.{totals_of_bodies}

pub packets_in-append : (xs ys : List Decoded)
    → packets_in (xs ++ ys) ≡ packets_in xs ++ packets_in ys
packets_in-append xs ys = filter_map-append (λ decoded. result_ok decoded.1) xs ys

refused_in-append : (xs ys : List Decoded)
    → refused_in (xs ++ ys) ≡ refused_in xs ++ refused_in ys
refused_in-append xs ys = filter_map-append
    (λ decoded. option_map (λ fault. record { number = decoded.0; fault = fault })
    (result_err decoded.1)) xs ys

-- the packets of all segments
pub packets_of_segments : (segments : List (List Decoded))
    → flat_map (λ s. s) (map packets_in segments) ≡ packets_in (bodies_of segments)
packets_of_segments [] = refl
packets_of_segments (s ∷ ss) =
    ap (λ ps. packets_in s ++ ps) (packets_of_segments ss)
    ∙ sym (packets_in-append s (bodies_of ss))

-- there are counts for each segment
pub length-counts_after : (earlier : List Packet) (segments : List (List Decoded))
    → length (counts_after earlier segments) ≡ length segments
length-counts_after earlier [] = refl
length-counts_after earlier (s ∷ ss) =
    ap suc (length-counts_after (earlier ++ packets_in s) ss)

bodies_summed : (earlier : List Packet) (segments : List (List Decoded))
    → sum_by (λ c. c.bodies) (counts_after earlier segments) ≡ length (bodies_of segments)
bodies_summed earlier [] = refl
bodies_summed earlier (s ∷ ss) =
    let later = earlier ++ packets_in s in
    omega (
      arith,
      sum_by-cons (λ (c : Counts). c.bodies) (counts_in s (kept_after earlier (packets_in s)))
          (counts_after later ss),
      bodies_summed later ss,
      length-append s (bodies_of ss),
    )

refused_summed : (earlier : List Packet) (segments : List (List Decoded))
    → sum_by (λ c. c.refused) (counts_after earlier segments)
    ≡ length (refused_in (bodies_of segments))
refused_summed earlier [] = refl
refused_summed earlier (s ∷ ss) =
    let later = earlier ++ packets_in s in
    omega (
      arith,
      sum_by-cons (λ (c : Counts). c.refused) (counts_in s (kept_after earlier (packets_in s)))
          (counts_after later ss),
      refused_summed later ss,
      length-append (refused_in s) (refused_in (bodies_of ss)),
      ap length (refused_in-append s (bodies_of ss)),
    )

-- of no packets none is kept
none_kept : KeptInParts → (earlier : List Packet) → length (kept_after earlier []) ≡ 0
none_kept parts earlier =
    let twice : length (kept_after earlier [])
    ≡ length (kept_after earlier [] ++ kept_after (earlier ++ []) []) =
    ap length (parts earlier [] []) in
    let same : length (kept_after (earlier ++ []) []) ≡ length (kept_after earlier []) =
    ap (λ e. length (kept_after e [])) (append-nil earlier) in
    omega (
      arith,
      length-append (kept_after earlier [])
          (kept_after (earlier ++ []) []),
      twice,
      same,
    )

kept_summed : KeptInParts → (earlier : List Packet) (segments : List (List Decoded))
    → sum_by (λ c. c.kept) (counts_after earlier segments)
    ≡ length (kept_after earlier (packets_in (bodies_of segments)))
kept_summed parts earlier [] = sym (none_kept parts earlier)
kept_summed parts earlier (s ∷ ss) =
    let later = earlier ++ packets_in s in
    let first = packets_in s in
    let second = packets_in (bodies_of ss) in
    let joined : length (kept_after earlier (packets_in (bodies_of (s ∷ ss))))
    ≡ length (kept_after earlier first ++ kept_after later second) =
    ap (λ ps. length (kept_after earlier ps)) (packets_in-append s (bodies_of ss))
    ∙ ap length (parts earlier first second) in
    omega (
      arith,
      sum_by-cons (λ (c : Counts). c.kept) (counts_in s (kept_after earlier first))
          (counts_after later ss),
      kept_summed parts later ss,
      length-append (kept_after earlier first) (kept_after later second),
      joined,
    )

-- counts whose numbers are the same
same_counts : (c d : Counts) → c.bodies ≡ d.bodies → c.kept ≡ d.kept → c.repeats ≡ d.repeats
    → c.refused ≡ d.refused → c ≡ d
same_counts c d bodies kept repeats refused = λ j. record {
  bodies = bodies j;
  kept = kept j;
  repeats = repeats j;
  refused = refused j;
}

-- These counts add up, and are summed over the segments: they are those of the bodies.
pub totals_are : KeptInParts → CountsAddUp → (segments : List (List Decoded)) (c : Counts)
    → AddUp c
    → c.bodies ≡ sum_by (λ c. c.bodies) (counts_of segments)
    → c.kept ≡ sum_by (λ c. c.kept) (counts_of segments)
    → c.refused ≡ sum_by (λ c. c.refused) (counts_of segments)
    → c ≡ totals_of_bodies (bodies_of segments)
totals_are parts add_up segments c sums bodies kept refused =
    let totals = totals_of_bodies (bodies_of segments) in
    let all : AddUp totals = (add_up (bodies_of segments ∷ [])).0 in
    let same_bodies = bodies ∙ bodies_summed [] segments in
    let same_kept = kept ∙ kept_summed parts [] segments in
    let same_refused = refused ∙ refused_summed [] segments in
    let same_repeats : c.repeats ≡ totals.repeats =
    omega (arith, all, sums, same_bodies, same_kept, same_refused) in
    same_counts c totals same_bodies same_kept same_repeats same_refused
