-- What a reader has given of a capture begins its bodies.
use Rattle.std.proofs.Common.{◌≡◌, ℕ, ◌+◌, eqb, List, [], ◌∷◌, ◌++◌, length, refl, sym, ap}
use Rattle.std.proofs.Common.{subst, ◌∙◌, inl, inr, arith, append-nil, append_assoc}
use Rattle.std.proofs.lemmas.Bool.{cases_Bool}
use Rattle.std.proofs.lemmas.List.{nil_from_length}
use Rattle.std.proofs.lemmas.List.Concat.{flat_map-append}
use Rattle.std.specs.List.{AllZip, AllByRecursion}
use Rattle.std.specs.Str.{bytes_eq}
use mathlib.Core.List.{IsPrefix}
use Rattle.plum_base.specs.declared.sites.StationSite.{StationSite}
use Rattle.plum_base.specs.Sites.{AreCodesDistinct}
use Rattle.plum_packet.specs.Bodies.{bodies_of}
use Rattle.plum_packet.specs.Capture.{mark_body, IsBody, AreRecords, IsCapture}
use Rattle.plum_packet.specs.Laws.{GivenBegins}
use Rattle.plum_packet.specs.Segments.{SEGMENT_BODIES, Decoded, IsDecodedSegment}
use Rattle.plum_packet.specs.Segments.{segments_from, segments_of}
use Rattle.plum_packet.proofs.Captures.{fronts, lengths-behind, none_behind}
use Rattle.plum_packet.proofs.OneWay.{one_body, one_segment}

-- Where each item is related to one other alone, what is related to a front of a list begins what
-- is related to all of it.
front_zipped : {A B : Type 0} (R : A → B → Type 0) → ((x : A) (y z : B) → R x y → R x z → y ≡ z)
    → (xs more : List A) (ys zs : List B) → AllZip R xs ys → AllZip R (xs ++ more) zs
    → (later : List B) × (zs ≡ ys ++ later) × AllZip R more later
front_zipped R one [] more [] zs some all = (zs, refl, all)
front_zipped R one [] more (y ∷ ys) zs some all = absurd some
front_zipped R one (x ∷ xs) more [] zs some all = absurd some
front_zipped R one (x ∷ xs) more (y ∷ ys) [] some all = absurd all
front_zipped R one (x ∷ xs) more (y ∷ ys) (z ∷ zs) some all =
    let first = one x y z some.0 all.0 in
    let later = front_zipped R one xs more ys zs some.1 all.1 in
    let joined : z ∷ zs ≡ y ∷ (ys ++ later.0) = cc (first, later.1) in
    (later.0, joined, later.2)

-- The first of the segments from an open one on begins with it.
open_begins : (n : ℕ) (so_far : List (ℕ × List ℕ)) (bodies : List (List ℕ))
    → (more : List (ℕ × List ℕ)) × (others : List (List (ℕ × List ℕ)))
    × (segments_from n so_far bodies ≡ (so_far ++ more) ∷ others)
open_begins n so_far [] = ([], [], ap (λ s. s ∷ []) (sym (append-nil so_far)))
open_begins n so_far (body ∷ bodies) =
    let longer = so_far ++ (n, body) ∷ [] in
    elim (cases_Bool (bytes_eq body mark_body)) [
      | inl is ↦ (
        [],
        segments_from (n + 1) [] bodies,
        rw is (ap (λ s. s ∷ segments_from (n + 1) [] bodies) (sym (append-nil so_far))),
      )
      | inr other ↦ elim (cases_Bool (eqb (length so_far + 1) SEGMENT_BODIES)) [
        | inl full ↦ ((n, body) ∷ [], segments_from (n + 1) [] bodies, rw (other, full) refl)
        | inr room ↦
            let later = open_begins (n + 1) longer bodies in (
              (n, body) ∷ later.0,
              later.1,
              rw (other, room) (later.2
                  ∙ ap (λ s. s ∷ later.1) (append_assoc so_far ((n, body) ∷ []) later.0)),
            )
      ]
    ]

-- Records that are a front of a capture go on to its end.
rows_go_on : (capture : List ℕ) (bodies others : List (List ℕ)) (rest tail : List ℕ)
    → AreRecords capture bodies rest → IsCapture capture others tail
    → (last : List (List ℕ)) × (others ≡ bodies ++ last)
rows_go_on capture bodies others rest tail are whole =
    let same = sym are.spelled ∙ whole.records.spelled in
    elim (fronts bodies others rest tail are.lengths whole.records.lengths same) [
      | inl on ↦ (on.0, on.1)
      | inr on ↦
          let lengths = subst (AllByRecursion IsBody) on.1 are.lengths in
          let few = none_behind on.0 tail rest (lengths-behind others on.0 lengths)
          whole.no_more on.2 in
          let none = nil_from_length on.0 (omega arith) in (
            [],
            sym (append-nil bodies ∙ on.1 ∙ ap (λ l. others ++ l) none ∙ append-nil others),
          )
    ]

module _ (stations : List StationSite) (distinct : AreCodesDistinct stations) where
  -- The bodies of an open segment begin those of the segments from it on.
  open_decoded : (so_far more : List (ℕ × List ℕ)) (others : List (List (ℕ × List ℕ)))
      (begun : List Decoded) (later : List (List Decoded))
      → IsDecodedSegment stations so_far begun
      → AllZip (IsDecodedSegment stations) ((so_far ++ more) ∷ others) later
      → IsPrefix begun (bodies_of later)
  open_decoded so_far more others begun [] is all = absurd all
  open_decoded so_far more others begun (segment ∷ later) is all =
      let own = one_body stations distinct in
      let front = front_zipped _ own so_far more begun segment is all.0 in (
        front.0 ++ bodies_of later,
        sym (append_assoc begun front.0 (bodies_of later))
            ∙ ap (λ l. l ++ bodies_of later) (sym front.1),
      )

pub given_begins : GivenBegins
given_begins stations capture given reader left segments tail distinct told is =
    let has = told.has in
    let row = rows_go_on capture has.bodies is.bodies _ is.rest has.stands.records is.capture_is in
    let next = open_begins (length has.bodies + 1) has.so_far row.0 in
    let cut : segments_of is.bodies ≡ has.cut ++ (has.so_far ++ next.0) ∷ next.1 =
    ap segments_of row.1 ∙ has.cut_is row.0 ∙ ap (λ l. has.cut ++ l) next.2 in
    let all = subst (λ l. AllZip (IsDecodedSegment stations) l segments) cut is.decoded in
    let behind = front_zipped (IsDecodedSegment stations) (one_segment stations distinct) has.cut
    ((has.so_far ++ next.0) ∷ next.1) told.whole segments has.decoded all in
    let begun = open_decoded stations distinct has.so_far next.0 next.1 told.begun behind.0
    has.begun_is behind.2 in (
      begun.0,
      ap (λ l. l ++ begun.0) told.all ∙ append_assoc (bodies_of told.whole) told.begun begun.0
          ∙ ap (λ l. bodies_of told.whole ++ l) begun.1
          ∙ sym (flat_map-append (λ (l : List Decoded). l) told.whole behind.0)
          ∙ ap bodies_of (sym behind.1),
    )
