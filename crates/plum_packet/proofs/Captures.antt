-- All bytes are a capture, in one way.
use Rattle.std.proofs.Common.{◌≡◌, ℕ, zero, suc, ◌<◌, ◌≤◌, inl, inr, List, [], ◌∷◌, ◌++◌, length}
use Rattle.std.proofs.Common.{get_or, take, drop, refl, sym, ap, ◌∙◌, subst, arith, append_assoc}
use Rattle.std.proofs.Common.{length-drop, length-append, take-append-drop}
use Rattle.std.proofs.lemmas.Bool.{cases_lt}
use Rattle.std.proofs.lemmas.List.{length-take-le, get_or-take}
use Rattle.std.specs.List.{flat_map, AllByRecursion}
use Rattle.byteorder.specs.Endian.{big_number}
use Rattle.byteorder.specs.Numbers.{big_from-take}
use Rattle.plum_packet.specs.Capture.{record_of, IsBody, IsCapture, AreBytes, HasRecord}
use Rattle.plum_packet.specs.Reading.{HasMoreRecords}
use Rattle.plum_packet.specs.Record.{record_end}
use Rattle.plum_packet.specs.Laws.{EachIsCapture, OneCapture, TailIsShort, RowGoesOn, RowsGoOn}
use Rattle.plum_packet.proofs.Spelling.{body_in, IsRecord, no_record, whole_record, same_record}

-- each of the bytes is below 256, and so is 0 past them
pub byte : (bytes : List ℕ) (i : ℕ) → AreBytes bytes → get_or bytes i 0 < 256
byte [] i are = omega arith
byte (b ∷ bytes) zero are = are.0
byte (b ∷ bytes) (suc i) are = byte bytes i are.1

-- what is left of bytes are bytes
pub AreBytes-drop : (n : ℕ) (bytes : List ℕ) → AreBytes bytes → AreBytes (drop n bytes)
AreBytes-drop zero bytes are = are
AreBytes-drop (suc n) [] are = tt
AreBytes-drop (suc n) (b ∷ bytes) are = AreBytes-drop n bytes are.1

-- so is what stands behind a front of them
AreBytes-append : (front rest : List ℕ) → AreBytes (front ++ rest) → AreBytes rest
AreBytes-append [] rest are = are
AreBytes-append (b ∷ front) rest are = AreBytes-append front rest are.1

-- the front as long as its length says is a record
first_record : (bytes : List ℕ) → get_or bytes 0 0 < 256 → get_or bytes 1 0 < 256
    → record_end bytes ≤ length bytes → IsRecord (take (record_end bytes) bytes)
first_record bytes high low fits =
    let end = record_end bytes in
    let front = take end bytes in
    let number : big_number 2 front ≡ big_number 2 bytes =
    big_from-take 0 2 end bytes (omega arith) in
    let long : length front ≡ end = length-take-le end bytes fits in
    let first : get_or front 0 0 < 256 = rw (get_or-take end bytes 0 0 (omega arith)) high in
    let second : get_or front 1 0 < 256 = rw (get_or-take end bytes 1 0 (omega arith)) low in
    whole_record front first second (omega (arith, long, number))

-- the record at the start, and what follows
split : (bytes : List ℕ) → IsRecord (take (record_end bytes) bytes)
    → bytes ≡ record_of (body_in (take (record_end bytes) bytes)) ++ drop (record_end bytes) bytes
split bytes whole =
    sym (take-append-drop (record_end bytes) bytes)
    ∙ ap (λ (l : List ℕ). l ++ drop (record_end bytes) bytes) whole.spelled

-- Where as many bytes stand as the length says, there is a record.
pub has_record : (bytes : List ℕ) → get_or bytes 0 0 < 256 → get_or bytes 1 0 < 256
    → record_end bytes ≤ length bytes → HasRecord bytes
has_record bytes high low fits =
    let end = record_end bytes in
    let whole = first_record bytes high low fits in
    (body_in (take end bytes), drop end bytes, whole.fits, split bytes whole)

-- These bytes are a capture.
abbrev HasCapture : List ℕ → Type 0
HasCapture bytes = (bodies : List (List ℕ)) × (rest : List ℕ) × IsCapture bytes bodies rest

-- one more record ahead
before : (bytes more body : List ℕ) → bytes ≡ record_of body ++ more → IsBody body
    → HasCapture more → HasCapture bytes
before bytes more body is fits (bodies, rest, capture) =
    let spelled = capture.records.spelled in
    let joined = sym (append_assoc (record_of body) (flat_map record_of bodies) rest) in (
      body ∷ bodies,
      rest,
      record {
        records = record {
          spelled = is ∙ ap (λ (l : List ℕ). record_of body ++ l) spelled ∙ joined;
          lengths = (fits, capture.records.lengths);
        };
        no_more = capture.no_more;
      },
    )

-- bytes that start with no record are a tail
tail_alone : (bytes : List ℕ) → length bytes < record_end bytes → HasCapture bytes
tail_alone bytes short = (
  [],
  bytes,
  record {
    records = record { spelled = refl; lengths = tt };
    no_more = no_record bytes short;
  },
)

-- at most n bytes are a capture
capture_within : (n : ℕ) (bytes : List ℕ) → length bytes ≤ n → AreBytes bytes → HasCapture bytes
capture_within zero bytes bound are = tail_alone bytes (omega arith)
capture_within (suc n) bytes bound are = elim (cases_lt (length bytes) (record_end bytes)) [
  | inl short ↦ tail_alone bytes short
  | inr fits ↦
      let end = record_end bytes in
      let whole = first_record bytes (byte bytes 0 are) (byte bytes 1 are) fits in
      let fewer : length (drop end bytes) ≤ n = omega (arith, length-drop end bytes) in
      let later = capture_within n (drop end bytes) fewer (AreBytes-drop end bytes are) in
      before bytes (drop end bytes) (body_in (take end bytes)) (split bytes whole) whole.fits later
]

-- all bytes are
pub exist : EachIsCapture
exist bytes are = capture_within (length bytes) bytes (omega arith) are

-- where there is no record all is the tail, so that no record stands at its start
none_or_one : (bytes rest body : List ℕ) (bodies : List (List ℕ)) (other : List ℕ)
    → IsCapture bytes [] rest → IsCapture bytes (body ∷ bodies) other → ⊥
none_or_one bytes rest body bodies other none one =
    let more = flat_map record_of bodies ++ other in
    let is : rest ≡ record_of body ++ more =
    sym none.records.spelled ∙ one.records.spelled
    ∙ append_assoc (record_of body) (flat_map record_of bodies) other in
    none.no_more (body, more, one.records.lengths.0, is)

-- a capture without its first record
behind : (bytes body : List ℕ) (bodies : List (List ℕ)) (rest : List ℕ)
    → IsCapture bytes (body ∷ bodies) rest
    → IsCapture (flat_map record_of bodies ++ rest) bodies rest
behind bytes body bodies rest capture =
    record {
      records = record { spelled = refl; lengths = capture.records.lengths.1 };
      no_more = capture.no_more;
    }

-- two captures of the same bytes are one
pub only : OneCapture
only bytes [] [] rest other left right = (refl, sym left.records.spelled ∙ right.records.spelled)
only bytes [] (b ∷ others) rest other left right =
    absurd (none_or_one bytes rest b others other left right)
only bytes (a ∷ some) [] rest other left right =
    absurd (none_or_one bytes other a some rest right left)
only bytes (a ∷ some) (b ∷ others) rest other left right =
    let more = flat_map record_of some ++ rest in
    let joined : record_of a ++ more ≡ record_of b ++ (flat_map record_of others ++ other) =
    sym (append_assoc (record_of a) (flat_map record_of some) rest)
    ∙ sym left.records.spelled ∙ right.records.spelled
    ∙ append_assoc (record_of b) (flat_map record_of others) other in
    let peeled = same_record a b _ _ left.records.lengths.0 right.records.lengths.0 joined in
    let second : IsCapture more others other =
    subst (λ l. IsCapture l others other) (sym peeled.1) (behind bytes b others other right) in
    let again = only more some others rest other (behind bytes a some rest left) second in
    let same : a ∷ some ≡ b ∷ others = cc (peeled.0, again.0) in
    (same, again.1)

-- one more record ahead of both rows
RowGoesOn-before : (a b : List ℕ) (some others : List (List ℕ)) (more rest : List ℕ) → a ≡ b
    → RowGoesOn some more others rest → RowGoesOn (a ∷ some) more (b ∷ others) rest
RowGoesOn-before a b some others more rest same on =
    let joined : b ∷ others ≡ a ∷ (some ++ on.0) = cc (same, on.1) in
    (on.0, joined, on.2)

-- of two rows one goes on where the other ends
pub fronts : RowsGoOn
fronts [] others more rest left right e = inl (others, refl, e)
fronts (a ∷ some) [] more rest left right e = inr (a ∷ some, refl, sym e)
fronts (a ∷ some) (b ∷ others) more rest left right e =
    let first = flat_map record_of some ++ more in
    let joined : record_of a ++ first ≡ record_of b ++ (flat_map record_of others ++ rest) =
    sym (append_assoc (record_of a) (flat_map record_of some) more)
    ∙ e ∙ append_assoc (record_of b) (flat_map record_of others) rest in
    let peeled = same_record a b _ _ left.0 right.0 joined in
    elim (fronts some others more rest left.1 right.1 peeled.1) [
      | inl on ↦ inl (RowGoesOn-before a b some others more rest peeled.0 on)
      | inr on ↦ inr (RowGoesOn-before b a others some rest more (sym peeled.0) on)
    ]

-- those behind others are bodies too
pub lengths-behind : (bodies last : List (List ℕ)) → AllByRecursion IsBody (bodies ++ last)
    → AllByRecursion IsBody last
lengths-behind [] last are = are
lengths-behind (body ∷ bodies) last are = lengths-behind bodies last are.1

-- where no whole record stands, there is none of these
pub none_behind : (last : List (List ℕ)) (rest left : List ℕ) → AllByRecursion IsBody last
    → ¬ HasRecord rest → rest ≡ flat_map record_of last ++ left → length last ≤ 0
none_behind [] rest left are none is = omega arith
none_behind (body ∷ last) rest left are none is =
    absurd (none (
      body,
      flat_map record_of last ++ left,
      are.0,
      is ∙ append_assoc (record_of body) (flat_map record_of last) left,
    ))

-- A capture of so many records has no more.
pub no_more_records : (capture : List ℕ) (bodies : List (List ℕ)) (rest : List ℕ) (limit : ℕ)
    → IsCapture capture bodies rest → length bodies ≤ limit → ¬ HasMoreRecords capture limit
no_more_records capture bodies rest limit whole few more =
    let others = more.0 in
    let are = more.2 in
    let same = sym whole.records.spelled ∙ are.spelled in
    elim (fronts bodies others rest more.1 whole.records.lengths are.lengths same) [
      | inl on ↦
          let lengths = subst (AllByRecursion IsBody) on.1 are.lengths in
          let behind = lengths-behind bodies on.0 lengths in
          omega (
            arith,
            ap length on.1,
            length-append bodies on.0,
            none_behind on.0 rest more.1 behind whole.no_more on.2,
            few,
            more.3,
          )
      | inr on ↦ omega (arith, ap length on.1, length-append others on.0, few, more.3)
    ]

-- a tail as long as the longest record would start with one
pub tail : TailIsShort
tail bytes bodies rest are capture =
    let bytes_of_tail : AreBytes rest =
    AreBytes-append (flat_map record_of bodies) rest (subst AreBytes capture.records.spelled are) in
    elim (cases_lt (length rest) (record_end rest)) [
      | inl short ↦ omega (arith, byte rest 0 bytes_of_tail, byte rest 1 bytes_of_tail)
      | inr fits ↦
          let high = byte rest 0 bytes_of_tail in
          let low = byte rest 1 bytes_of_tail in
          absurd (capture.no_more (has_record rest high low fits))
    ]
