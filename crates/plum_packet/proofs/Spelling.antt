-- Records as bytes.
use Rattle.std.proofs.Common.{◌≡◌, ℕ, ◌+◌, ◌-◌, ◌*◌, ◌/◌, ◌%◌, ◌<◌, ◌≤◌, List, [], ◌∷◌}
use Rattle.std.proofs.Common.{◌++◌, length, get_or, take, drop, refl, sym, ap, ◌∙◌, arith}
use Rattle.std.proofs.Common.{length-append}
use Rattle.std.proofs.lemmas.List.{take_at, drop_at, drop-drop}
use Rattle.byteorder.specs.Endian.{big_bytes, big_number}
use Rattle.byteorder.specs.Numbers.{big_number-reads_back}
use Rattle.plum_packet.specs.Capture.{record_of, IsBody, HasRecord}
use Rattle.plum_packet.specs.Record.{record_end}

-- what stands behind the length
abbrev pub body_in : List ℕ → List ℕ
body_in bytes = drop 2 bytes

-- The bytes are one record.
pub record IsRecord (bytes : List ℕ) : Type 0 where
  pub spelled : bytes ≡ record_of (body_in bytes)
  pub fits : IsBody (body_in bytes)

-- The length at the start of a record is that of its body.
pub big_number-record : (body more : List ℕ) → IsBody body
    → big_number 2 (record_of body ++ more) ≡ length body
big_number-record body more fits =
    big_number-reads_back 2 (length body) (body ++ more) (omega arith)

-- Where a record stands at the start, there are as many bytes as its length says.
pub record_end-le : (bytes : List ℕ) → HasRecord bytes → record_end bytes ≤ length bytes
record_end-le bytes (body, more, fits, is) =
    let said = big_number-record body more fits in
    let long = length-append body more in
    rw is (omega arith)

-- Fewer bytes than the length says are no record.
pub no_record : (bytes : List ℕ) → length bytes < record_end bytes → ¬ HasRecord bytes
no_record bytes short has = absurd (omega (arith, record_end-le bytes has))

-- two bytes are those of the number that they make
pub big_bytes-two : (a b : ℕ) → a < 256 → b < 256 → big_bytes 2 (a * 256 + b) ≡ a ∷ b ∷ []
big_bytes-two a b la lb =
    let high : (a * 256 + b) / 256 % 256 ≡ a = omega arith in
    let low : (a * 256 + b) % 256 ≡ b = omega arith in
    cc

-- As many bytes as the length says are a record.
pub whole_record : (bytes : List ℕ) → get_or bytes 0 0 < 256 → get_or bytes 1 0 < 256
    → length bytes ≡ record_end bytes → IsRecord bytes
whole_record [] la lb is = absurd (omega arith)
whole_record (a ∷ []) la lb is = absurd (omega arith)
whole_record (a ∷ b ∷ body) la lb is =
    let long : length body ≡ a * 256 + b = omega arith in
    let said : big_bytes 2 (length body) ≡ a ∷ b ∷ [] =
    ap (λ (n : ℕ). big_bytes 2 n) long ∙ big_bytes-two a b la lb in
    record { spelled = sym (ap (λ (l : List ℕ). l ++ body) said); fits = omega arith }

module _ (bytes : List ℕ) (has : HasRecord bytes) where
  said : big_number 2 bytes ≡ length has.0
  said = ap (big_number 2) has.3 ∙ big_number-record has.0 has.1 has.2

  -- The body of the record at the start stands behind its length.
  pub body_of_first : take (record_end bytes - 2) (drop 2 bytes) ≡ has.0
  body_of_first =
      let count : record_end bytes - 2 ≡ length has.0 = omega (arith, said) in
      ap (λ n. take n (drop 2 bytes)) count
      ∙ ap (λ (l : List ℕ). take (length has.0) (drop 2 l)) has.3
      ∙ take_at has.0 has.1 (length has.0) refl

  -- What follows it stands behind its end.
  pub behind_first : drop (record_end bytes) bytes ≡ has.1
  behind_first =
      let end : record_end bytes ≡ 2 + length has.0 = omega (arith, said) in
      ap (λ n. drop n bytes) end
      ∙ sym (drop-drop (length has.0) 2 bytes)
      ∙ ap (λ (l : List ℕ). drop (length has.0) (drop 2 l)) has.3
      ∙ drop_at has.0 has.1 (length has.0) refl

-- Two records at the start of the same bytes are one.
pub same_record : (a b x y : List ℕ) → IsBody a → IsBody b → record_of a ++ x ≡ record_of b ++ y
    → (a ≡ b) × (x ≡ y)
same_record a b x y fa fb e =
    let size = length a in
    let long : size ≡ length b =
    sym (big_number-record a x fa) ∙ ap (big_number 2) e ∙ big_number-record b y fb in
    let joined : a ++ x ≡ b ++ y = ap (drop 2) e in
    let first : a ≡ b =
    sym (take_at a x size refl) ∙ ap (take size) joined ∙ take_at b y size (sym long) in
    let second : x ≡ y =
    sym (drop_at a x size refl) ∙ ap (drop size) joined ∙ drop_at b y size (sym long) in
    (first, second)
