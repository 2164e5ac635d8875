-- The segments of a capture: what they hold, and where they end.
use Rattle.std.proofs.Common.{◌≡◌, ◌≢◌, ℕ, ◌+◌, ◌<◌, ◌≤◌, false, not, eqb, List, [], ◌∷◌, ◌++◌}
use Rattle.std.proofs.Common.{length}
use Rattle.std.proofs.Common.{refl, sym, ap, subst, ◌∙◌, inl, inr, arith, append-nil, append_assoc}
use Rattle.std.proofs.lemmas.Bool.{false≢true, cases_Bool, eqb-true, eqb-false, ne_eqb, eq-eqb}
use Rattle.std.proofs.lemmas.List.{length_push}
use Rattle.std.proofs.lemmas.List.FromFn.{length-enumerate_from}
use Rattle.std.proofs.lemmas.List.Elements.{All-nil, All-cons, All-head, All-tail, All-push}
use Rattle.std.proofs.lemmas.Slice.Eq.{bytes_eq-Decides}
use Rattle.std.specs.List.{All, filter, flat_map, enumerate_from}
use Rattle.std.specs.Str.{bytes_eq}
use Rattle.plum_packet.specs.Segments.{SEGMENT_BODIES}
use Rattle.plum_packet.specs.Capture.{mark_body}
use Rattle.plum_packet.specs.Segments.{segments_from, segments_of, HasNoMark, CutsSegments}
use Rattle.plum_packet.specs.Reading.{IsCutWithin, IsCutInto}

-- This body is no mark.
abbrev IsNoMark : List ℕ → Type 0
IsNoMark body = body ≢ mark_body

-- then the test for a mark fails
no_mark_fails : (body : List ℕ) → IsNoMark body → bytes_eq body mark_body ≡ false
no_mark_fails body differs = elim (cases_Bool (bytes_eq body mark_body)) [
  | inl same ↦ absurd (differs ((bytes_eq-Decides body mark_body).0 same))
  | inr other ↦ other
]

-- and the other way round
fails_no_mark : (body : List ℕ) → bytes_eq body mark_body ≡ false → IsNoMark body
fails_no_mark body other same =
    absurd (false≢true (sym other ∙ (bytes_eq-Decides body mark_body).1 same))

-- the bodies that are not marks, from record n on
abbrev unmarked_from : ℕ → List (List ℕ) → List (ℕ × List ℕ)
unmarked_from n bodies =
    filter (λ numbered. not (bytes_eq numbered.1 mark_body)) (enumerate_from n bodies)

-- the segments joined are the open one and the bodies that are not marks
pub joined : (n : ℕ) (so_far : List (ℕ × List ℕ)) (bodies : List (List ℕ))
    → flat_map (λ segment. segment) (segments_from n so_far bodies)
    ≡ so_far ++ unmarked_from n bodies
joined n so_far [] = refl
joined n so_far (body ∷ bodies) =
    let longer = so_far ++ (n, body) ∷ [] in
    let moved = append_assoc so_far ((n, body) ∷ []) (unmarked_from (n + 1) bodies) in
    elim (cases_Bool (bytes_eq body mark_body)) [
      | inl is ↦ rw is (ap (λ l. so_far ++ l) (joined (n + 1) [] bodies))
      | inr other ↦ elim (cases_Bool (eqb (length so_far + 1) SEGMENT_BODIES)) [
        | inl full ↦ rw (other, full) (ap (λ l. longer ++ l) (joined (n + 1) [] bodies) ∙ moved)
        | inr room ↦ rw (other, room) (joined (n + 1) longer bodies ∙ moved)
      ]
    ]

-- This segment is not too long.
abbrev IsWithin : List (ℕ × List ℕ) → Type 0
IsWithin segment = length segment ≤ SEGMENT_BODIES

-- where there is room in the open segment, none is too long
pub bound : (n : ℕ) (so_far : List (ℕ × List ℕ)) (bodies : List (List ℕ))
    → length so_far < SEGMENT_BODIES → All IsWithin (segments_from n so_far bodies)
bound n so_far [] few = All-cons IsWithin so_far [] (omega arith) (All-nil _)
bound n so_far (body ∷ bodies) few =
    let longer = so_far ++ (n, body) ∷ [] in
    let long = length_push so_far (n, body) in
    let later = bound (n + 1) [] bodies (omega arith) in
    elim (cases_Bool (bytes_eq body mark_body)) [
      | inl is ↦ rw is (All-cons IsWithin so_far _ (omega arith) later)
      | inr other ↦ elim (cases_Bool (eqb (length so_far + 1) SEGMENT_BODIES)) [
        | inl full ↦ rw (other, full) (All-cons IsWithin longer _ (omega (arith, long)) later)
        | inr room ↦
            let fewer : length longer < SEGMENT_BODIES =
            omega (arith, long, eqb-false _ _ room) in
            rw (other, room) (bound (n + 1) longer bodies fewer)
      ]
    ]

-- where there is room, the open segment takes bodies that are not marks
taken : (n m : ℕ) (so_far : List (ℕ × List ℕ)) (front later : List (List ℕ))
    → HasNoMark front → length so_far + length front < SEGMENT_BODIES → m ≡ n + length front
    → segments_from n so_far (front ++ later)
    ≡ segments_from m (so_far ++ enumerate_from n front) later
taken n m so_far [] later no_mark few e =
    let same : m ≡ n = omega (arith, e) in
    rw (same, append-nil so_far) refl
taken n m so_far (body ∷ front) later no_mark few e =
    let longer = so_far ++ (n, body) ∷ [] in
    let long = length_push so_far (n, body) in
    let other = no_mark_fails body (All-head IsNoMark body front no_mark) in
    let room = ne_eqb (length so_far + 1) SEGMENT_BODIES (λ full. omega arith) in
    let no_more = All-tail IsNoMark body front no_mark in
    let moved = append_assoc so_far ((n, body) ∷ []) (enumerate_from (n + 1) front) in
    rw (other, room)
    (taken (n + 1) m longer front later no_more (omega (arith, long)) (omega arith)
    ∙ ap (λ l. segments_from m l later) moved)

-- where they fill it, it ends
filled : (n m : ℕ) (so_far : List (ℕ × List ℕ)) (front later : List (List ℕ))
    → HasNoMark front → length so_far < SEGMENT_BODIES
    → length so_far + length front ≡ SEGMENT_BODIES → m ≡ n + length front
    → segments_from n so_far (front ++ later)
    ≡ (so_far ++ enumerate_from n front) ∷ segments_from m [] later
filled n m so_far [] later no_mark open_yet fills e = absurd (omega arith)
filled n m so_far (body ∷ []) later no_mark open_yet fills e =
    let next : m ≡ n + 1 = omega arith in
    let other = no_mark_fails body (All-head IsNoMark body [] no_mark) in
    let full = eq-eqb (length so_far + 1) SEGMENT_BODIES (omega arith) in
    rw (next, other, full) refl
filled n m so_far (body ∷ second ∷ front) later no_mark open_yet fills e =
    let longer = so_far ++ (n, body) ∷ [] in
    let long = length_push so_far (n, body) in
    let other = no_mark_fails body (All-head IsNoMark body (second ∷ front) no_mark) in
    let room = ne_eqb (length so_far + 1) SEGMENT_BODIES (λ full. omega arith) in
    let no_more = All-tail IsNoMark body (second ∷ front) no_mark in
    let moved = append_assoc so_far ((n, body) ∷ []) (enumerate_from (n + 1) (second ∷ front)) in
    rw (other, room)
    (filled (n + 1) m longer (second ∷ front) later no_more (omega (arith, long))
    (omega (arith, long)) (omega arith)
    ∙ ap (λ l. l ∷ segments_from m [] later) moved)

-- fewer bodies than fill a segment, with no mark after them, are the last one
pub last : (n : ℕ) (bodies : List (List ℕ)) → HasNoMark bodies → length bodies < SEGMENT_BODIES
    → segments_from n [] bodies ≡ enumerate_from n bodies ∷ []
last n bodies no_mark few =
    ap (segments_from n []) (sym (append-nil bodies))
    ∙ taken n (n + length bodies) [] bodies [] no_mark (omega arith) refl

-- the segments are cut as they are to be
pub cuts : CutsSegments (λ n bodies. segments_from n [] bodies)
cuts = record {
  mark = λ n front later no_mark few.
      taken n (n + length front) [] front (mark_body ∷ later) no_mark (omega arith) refl;
  full = λ n front later no_mark long.
      filled n (n + SEGMENT_BODIES) [] front later no_mark (omega arith) (omega arith)
      (omega (arith, long));
  last = last;
}

-- a body behind others is numbered next
enumerate_push : (n m : ℕ) (front : List (List ℕ)) (body : List ℕ) → m ≡ n + length front
    → enumerate_from n (front ++ body ∷ []) ≡ enumerate_from n front ++ (m, body) ∷ []
enumerate_push n m [] body e = let same : m ≡ n = omega (arith, e) in rw same refl
enumerate_push n m (first ∷ front) body e =
    ap (λ l. (n, first) ∷ l) (enumerate_push (n + 1) m front body (omega arith))

module _ (segments : ℕ → List (List ℕ) → List (List (ℕ × List ℕ)))
    (is : CutsSegments segments) where
  -- no other way cuts so: what stands before these bodies is in the open segment
  pub only : (n m : ℕ) (front bodies : List (List ℕ)) → HasNoMark front
      → length front < SEGMENT_BODIES → m ≡ n + length front
      → segments n (front ++ bodies) ≡ segments_from m (enumerate_from n front) bodies
  only n m front [] no_mark few e =
      ap (segments n) (append-nil front) ∙ is.last n front no_mark few
  only n m front (body ∷ bodies) no_mark few e =
      let so_far = enumerate_from n front in
      let longer = front ++ body ∷ [] in
      let so_far_length = length-enumerate_from n front in
      let long = length_push front body in
      let moved : front ++ body ∷ bodies ≡ longer ++ bodies =
      sym (append_assoc front (body ∷ []) bodies) in
      elim (cases_Bool (bytes_eq body mark_body)) [
        | inl mark ↦
            let k = n + length front + 1 in
            let next : m + 1 ≡ k = omega arith in
            let body_is : body ≡ mark_body = (bytes_eq-Decides body mark_body).0 mark in
            let later = only k k [] bodies (All-nil _) (omega arith) (omega arith) in
            rw (mark, next) (ap (λ b. segments n (front ++ b ∷ bodies)) body_is
            ∙ is.mark n front bodies no_mark few ∙ ap (λ l. so_far ∷ l) later)
        | inr other ↦
            let differs = fails_no_mark body other in
            let none_yet : HasNoMark longer = All-push IsNoMark front body no_mark differs in
            let pushed = enumerate_push n m front body e in
            elim (cases_Bool (eqb (length so_far + 1) SEGMENT_BODIES)) [
              | inl full ↦
                  let k = n + SEGMENT_BODIES in
                  let fills : length longer ≡ SEGMENT_BODIES =
                  omega (arith, eqb-true _ _ full, so_far_length, long) in
                  let next : m + 1 ≡ k = omega (arith, fills, long) in
                  let later = only k k [] bodies (All-nil _) (omega arith) (omega arith) in
                  rw (other, full, next) (ap (segments n) moved
                  ∙ is.full n longer bodies none_yet fills ∙ ap (λ l. l ∷ segments k bodies) pushed
                  ∙ ap (λ l. (so_far ++ (m, body) ∷ []) ∷ l) later)
              | inr room ↦
                  let fewer : length longer < SEGMENT_BODIES =
                  omega (arith, eqb-false _ _ room, so_far_length, long) in
                  let next : m + 1 ≡ n + length longer = omega (arith, long) in
                  rw (other, room) (ap (segments n) moved
                  ∙ only n (m + 1) longer bodies none_yet fewer next
                  ∙ ap (λ l. segments_from (m + 1) l bodies) pushed)
            ]
      ]

-- one body more ends these segments and leaves this part of another
cut_more : (bodies : List (List ℕ)) (cut ended : List (List (ℕ × List ℕ)))
    (so_far left : List (ℕ × List ℕ)) (body : List ℕ) → IsCutWithin bodies cut so_far
    → ((later : List (List ℕ)) → segments_from (length bodies + 1) so_far (body ∷ later)
    ≡ ended ++ segments_from (length bodies + 1 + 1) left later)
    → IsCutWithin (bodies ++ body ∷ []) (cut ++ ended) left
cut_more bodies cut ended so_far left body is next later =
    let row = bodies ++ body ∷ [] in
    let long : length row ≡ length bodies + 1 = length_push bodies body in
    ap segments_of (append_assoc bodies (body ∷ []) later)
    ∙ is (body ∷ later)
    ∙ ap (λ l. cut ++ l) (next later)
    ∙ ap (λ n. cut ++ (ended ++ segments_from (n + 1) left later)) (sym long)
    ∙ sym (append_assoc cut ended (segments_from (length row + 1) left later))

module _ (bodies : List (List ℕ)) (cut : List (List (ℕ × List ℕ))) (so_far : List (ℕ × List ℕ))
    (body : List ℕ) (is : IsCutWithin bodies cut so_far) where
  -- a mark ends the segment
  pub cut_at_mark : body ≡ mark_body → IsCutInto (bodies ++ body ∷ []) (cut ++ so_far ∷ [])
  cut_at_mark mark =
      let test = (bytes_eq-Decides body mark_body).1 mark in
      cut_more bodies cut (so_far ∷ []) so_far [] body is (λ later. rw test refl)

  module _ (differs : body ≢ mark_body) where
    -- a body that fills it does
    pub cut_where_full : length so_far + 1 ≡ SEGMENT_BODIES
        → IsCutInto (bodies ++ body ∷ []) (cut ++ (so_far ++ (length bodies + 1, body) ∷ []) ∷ [])
    cut_where_full full =
        let longer = so_far ++ (length bodies + 1, body) ∷ [] in
        let test = no_mark_fails body differs in
        let room = eq-eqb (length so_far + 1) SEGMENT_BODIES full in
        cut_more bodies cut (longer ∷ []) so_far [] body is (λ later. rw (test, room) refl)

    -- else it goes on
    pub cut_within : length so_far + 1 ≢ SEGMENT_BODIES
        → IsCutWithin (bodies ++ body ∷ []) cut (so_far ++ (length bodies + 1, body) ∷ [])
    cut_within few =
        let longer = so_far ++ (length bodies + 1, body) ∷ [] in
        let test = no_mark_fails body differs in
        let room = ne_eqb (length so_far + 1) SEGMENT_BODIES few in
        subst (λ l. IsCutWithin (bodies ++ body ∷ []) l longer) (append-nil cut)
        (cut_more bodies cut [] so_far longer body is (λ later. rw (test, room) refl))

-- at the end of the capture it is the last
pub cut_at_end : (bodies : List (List ℕ)) (cut : List (List (ℕ × List ℕ)))
    (so_far : List (ℕ × List ℕ)) → IsCutWithin bodies cut so_far
    → segments_of bodies ≡ cut ++ so_far ∷ []
cut_at_end bodies cut so_far is = ap segments_of (sym (append-nil bodies)) ∙ is []
