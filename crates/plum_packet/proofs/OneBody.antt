-- A body that is a packet is what is written of that packet.
use Rattle.std.proofs.Common.{◌≡◌, ℕ, suc, ◌+◌, ◌*◌, ◌<◌, ◌≤◌, List, [], ◌∷◌}
use Rattle.std.proofs.Common.{◌++◌, length, take, drop, Some, None, w32, refl, sym, ap}
use Rattle.std.proofs.Common.{◌∙◌, inl, inr, arith, length-drop, take-append-drop, drop-drop}
use Rattle.std.proofs.Common.{slice_get, subst, pos, Option, IsSomeAnd, ◌%◌}
use Rattle.std.proofs.lemmas.Bool.{cases_eq, cases_order, cases_Bool, false≢true}
use Rattle.std.proofs.lemmas.Int.{of_z-to_z}
use Rattle.std.proofs.lemmas.List.{nil_from_length, same_lists}
use Rattle.std.proofs.lemmas.Nat.{be_bytes_2, be_bytes_4}
use Rattle.std.proofs.lemmas.Option.{same_Some, get_or_from_slice_get}
use Rattle.std.proofs.lemmas.Slice.Eq.{bytes_eq-Decides}
use Rattle.std.specs.List.{flat_map}
use Rattle.std.specs.Int.{cast_unsigned}
use Rattle.std.specs.Str.{bytes_eq}
use Rattle.byteorder.specs.Endian.{big_bytes, big_number, twos_complement}
use Rattle.plum_base.specs.declared.sites.StationSite.{StationSite}
use Rattle.plum_base.specs.declared.wave.Sample.{Sample}
use Rattle.plum_base.specs.declared.numbers.Key.{Key}
use Rattle.plum_base.specs.declared.packet.Packet.{Packet}
use Rattle.plum_base.specs.declared.packet.PacketFault.TheVariants.{Magic, Version, Flags}
use Rattle.plum_base.specs.Sites.{HasCode, AreCodesDistinct}
use Rattle.plum_base.proofs.Coded.{listed_code}
use Rattle.plum_packet.specs.Capture.{AreBytes}
use Rattle.plum_packet.specs.Body.{HEADER, SAMPLE, number_at, signed_at, sample_at}
use Rattle.plum_packet.specs.Body.{version_of, flags_of, code_of, key_of, count_of}
use Rattle.plum_packet.specs.Body.{AreSamples, HasNoFault, IsPacket}
use Rattle.plum_packet.specs.Encoding.{header_of, signed_bytes, sample_bytes, body_of, IsOnlyBody}
use Rattle.plum_packet.specs.Encoding.{IsOnlyPacket}
use Rattle.plum_packet.proofs.Captures.{byte, AreBytes-drop}
use Rattle.plum_packet.proofs.FirstFault.{whole_length}
use Rattle.plum_packet.proofs.Samples.{cast_signed-word, word_fits}
use Rattle.plum_packet.proofs.Writing.{sample_in, sample_at-behind}

-- bytes start with those of the number that they make
first_one : (bytes : List ℕ) → AreBytes bytes → 1 ≤ length bytes
    → bytes ≡ big_bytes 1 (big_number 1 bytes) ++ drop 1 bytes
first_one [] are long = absurd (omega arith)
first_one (a ∷ bytes) are long =
    let la : a < 256 = are.0 in
    let same : (a * 1 + 0) % 256 ≡ a = omega arith in
    ap (λ (b : ℕ). b ∷ bytes) (sym same)

first_two : (bytes : List ℕ) → AreBytes bytes → 2 ≤ length bytes
    → bytes ≡ big_bytes 2 (big_number 2 bytes) ++ drop 2 bytes
first_two [] are long = absurd (omega arith)
first_two (a ∷ []) are long = absurd (omega arith)
first_two (a ∷ b ∷ bytes) are long =
    let front : List ℕ = a ∷ b ∷ [] in
    let small : AreBytes front = (are.0, (are.1.0, tt)) in
    let n = big_number 2 front in
    ap (λ (l : List ℕ). l ++ bytes)
    (sym (be_bytes_2 front n refl (λ i. byte front i small) (omega arith)))

first_four : (bytes : List ℕ) → AreBytes bytes → 4 ≤ length bytes
    → bytes ≡ big_bytes 4 (big_number 4 bytes) ++ drop 4 bytes
first_four [] are long = absurd (omega arith)
first_four (a ∷ []) are long = absurd (omega arith)
first_four (a ∷ b ∷ []) are long = absurd (omega arith)
first_four (a ∷ b ∷ c ∷ []) are long = absurd (omega arith)
first_four (a ∷ b ∷ c ∷ d ∷ bytes) are long =
    let front : List ℕ = a ∷ b ∷ c ∷ d ∷ [] in
    let small : AreBytes front = (are.0, (are.1.0, (are.1.1.0, (are.1.1.1.0, tt)))) in
    let n = big_number 4 front in
    ap (λ (l : List ℕ). l ++ bytes)
    (sym (be_bytes_4 front n refl (λ i. byte front i small) (omega arith)))

module _ (body : List ℕ) (are : AreBytes body) where
  -- the same from an offset on
  one_at : (offset : ℕ) → offset + 1 ≤ length body
      → drop offset body ≡ big_bytes 1 (number_at offset 1 body) ++ drop (offset + 1) body
  one_at offset long =
      let rest = drop offset body in
      first_one rest (AreBytes-drop offset body are) (omega (arith, length-drop offset body))
      ∙ ap (λ (l : List ℕ). big_bytes 1 (number_at offset 1 body) ++ l) (drop-drop 1 offset body)

  two_at : (offset : ℕ) → offset + 2 ≤ length body
      → drop offset body ≡ big_bytes 2 (number_at offset 2 body) ++ drop (offset + 2) body
  two_at offset long =
      let rest = drop offset body in
      first_two rest (AreBytes-drop offset body are) (omega (arith, length-drop offset body))
      ∙ ap (λ (l : List ℕ). big_bytes 2 (number_at offset 2 body) ++ l) (drop-drop 2 offset body)

  four_at : (offset : ℕ) → offset + 4 ≤ length body
      → drop offset body ≡ big_bytes 4 (number_at offset 4 body) ++ drop (offset + 4) body
  four_at offset long =
      let rest = drop offset body in
      first_four rest (AreBytes-drop offset body are) (omega (arith, length-drop offset body))
      ∙ ap (λ (l : List ℕ). big_bytes 4 (number_at offset 4 body) ++ l) (drop-drop 4 offset body)

  -- the same of a signed number
  signed_from : (offset : ℕ) → offset + 4 ≤ length body
      → drop offset body ≡ signed_bytes (signed_at offset body) ++ drop (offset + 4) body
  signed_from offset long =
      let n = number_at offset 4 body in
      let fits = word_fits offset body (λ i. byte body i are) in
      let same : cast_unsigned w32 (twos_complement 4 n) ≡ n =
      ap (cast_unsigned w32) (sym (cast_signed-word n fits)) ∙ of_z-to_z w32 n fits in
      four_at offset long
      ∙ ap (λ (k : ℕ). big_bytes 4 k ++ drop (offset + 4) body) (sym same)

  -- of a sample
  sample_from : SAMPLE ≤ length body
      → body ≡ sample_bytes (sample_in body) ++ drop SAMPLE body
  sample_from long =
      signed_from 0 (omega arith)
      ∙ ap (λ (l : List ℕ). signed_bytes (signed_at 0 body) ++ l)
      (signed_from 4 (omega arith)
      ∙ ap (λ (l : List ℕ). signed_bytes (signed_at 4 body) ++ l) (signed_from 8 (omega arith)))

  -- and of the header
  header_from : HEADER ≤ length body → take 2 body ≡ 80 ∷ 76 ∷ [] → version_of body ≡ 1
      → flags_of body ≡ 0
      → body ≡ header_of (code_of body) (key_of body) (count_of body) ++ drop HEADER body
  header_from long magic version flags =
      let from_twelve = two_at 12 (omega arith) in
      let from_eight = four_at 8 (omega arith)
      ∙ ap (λ (l : List ℕ). big_bytes 4 (number_at 8 4 body) ++ l) from_twelve in
      let from_six = two_at 6 (omega arith)
      ∙ ap (λ (l : List ℕ). big_bytes 2 (number_at 6 2 body) ++ l) from_eight in
      let from_four = two_at 4 (omega arith)
      ∙ ap (λ (l : List ℕ). big_bytes 2 (code_of body) ++ l) from_six in
      let from_three : drop 3 body ≡ 0 ∷ drop 4 body =
      one_at 3 (omega arith) ∙ ap (λ (k : ℕ). big_bytes 1 k ++ drop 4 body) flags in
      let from_two : drop 2 body ≡ 1 ∷ drop 3 body =
      one_at 2 (omega arith) ∙ ap (λ (k : ℕ). big_bytes 1 k ++ drop 3 body) version in
      sym (take-append-drop 2 body) ∙ ap (λ (l : List ℕ). l ++ drop 2 body) magic
      ∙ ap (λ (l : List ℕ). 80 ∷ 76 ∷ l) (from_two
      ∙ ap (λ (l : List ℕ). 1 ∷ l) (from_three ∙ ap (λ (l : List ℕ). 0 ∷ l) from_four))

-- bytes that read as these samples are theirs
samples_from : (wave : List Sample) (bytes : List ℕ) → AreBytes bytes
    → length bytes ≡ SAMPLE * length wave
    → ((i : ℕ) → i < length wave → slice_get wave i ≡ Some (sample_in (drop (SAMPLE * i) bytes)))
    → bytes ≡ flat_map sample_bytes wave
samples_from [] bytes are long each = nil_from_length bytes (omega arith)
samples_from (s ∷ wave) bytes are long each =
    let first : s ≡ sample_in bytes = same_Some _ _ (each 0 (omega arith)) in
    let rest = drop SAMPLE bytes in
    let next : (i : ℕ) → SAMPLE * suc i ≡ SAMPLE + SAMPLE * i = λ i. omega arith in
    let moved : (i : ℕ) → drop (SAMPLE * suc i) bytes ≡ drop (SAMPLE * i) rest =
    λ i. ap (λ (k : ℕ). drop k bytes) (next i) ∙ sym (drop-drop (SAMPLE * i) SAMPLE bytes) in
    let later = samples_from wave rest (AreBytes-drop SAMPLE bytes are)
    (omega (arith, length-drop SAMPLE bytes))
    (λ i below. each (suc i) (omega arith)
    ∙ ap (λ (l : List ℕ). Some (sample_in l)) (moved i)) in
    sample_from bytes are (omega arith)
    ∙ ap (λ (t : Sample). sample_bytes t ++ rest) (sym first)
    ∙ ap (λ (l : List ℕ). sample_bytes s ++ l) later

-- a station has one code
same_code : (site : Option StationSite) (a b : ℕ) → IsSomeAnd site (λ s. s.code ≡ a)
    → IsSomeAnd site (λ s. s.code ≡ b) → a ≡ b
same_code None a b has other = absurd has
same_code (Some s) a b has other = sym has ∙ other

module _ (stations : List StationSite) (body : List ℕ) (lawful : HasNoFault stations body) where
  -- a body with no fault starts as it is to
  magic_is : take 2 body ≡ 80 ∷ 76 ∷ []
  magic_is =
      let is = bytes_eq-Decides (take 2 body) (80 ∷ 76 ∷ []) in
      elim (cases_Bool (bytes_eq (take 2 body) (80 ∷ 76 ∷ []))) [
        | inl same ↦ is.0 same
        | inr other ↦ absurd (lawful Magic (λ e. false≢true (sym other ∙ is.1 e)))
      ]

  version_is : version_of body ≡ 1
  version_is = elim (cases_eq (version_of body) 1) [
    | inl e ↦ e
    | inr differs ↦ absurd (lawful (Version (version_of body)) (refl, differs))
  ]

  flags_are : flags_of body ≡ 0
  flags_are = elim (cases_eq (flags_of body) 0) [
    | inl e ↦ e
    | inr differs ↦ absurd (lawful (Flags (flags_of body)) (refl, differs))
  ]

-- a body that is a packet is what is written of it
pub is_only_body : (stations : List StationSite) (packet : Packet) (code : ℕ)
    → HasCode stations packet.station.0 code → IsOnlyBody stations packet (body_of code packet)
is_only_body stations packet code has body are is =
    let wave = packet.wave in
    let rest = drop HEADER body in
    let whole = whole_length stations body is.lawful in
    let count = is.samples.count in
    let long : length body ≡ HEADER + SAMPLE * length wave =
    whole ∙ ap (λ (n : ℕ). HEADER + SAMPLE * n) (sym count) in
    let code_is : code_of body ≡ code =
    same_code (slice_get stations packet.station.0) _ _ is.station has in
    let header = header_of (code_of body) (key_of body) (count_of body) in
    let split : body ≡ header ++ rest =
    header_from body are (omega (arith, long)) (magic_is stations body is.lawful)
    (version_is stations body is.lawful) (flags_are stations body is.lawful) in
    let header_is : header ≡ header_of code packet.key (length wave) =
    ap (λ (n : ℕ). header_of n (key_of body) (count_of body)) code_is
    ∙ ap (λ (k : Key). header_of code k (count_of body)) (sym is.key)
    ∙ ap (λ (n : ℕ). header_of code packet.key n) (sym count) in
    let samples : rest ≡ flat_map sample_bytes wave =
    samples_from wave rest (AreBytes-drop HEADER body are)
    (omega (arith, long, length-drop HEADER body))
    (λ i below. is.samples.each i (subst (λ (n : ℕ). i < n) count below)
    ∙ ap (λ (l : List ℕ). Some (sample_at l i)) split
    ∙ ap Some (sym (sample_at-behind header rest i refl))) in
    split ∙ ap (λ (l : List ℕ). l ++ rest) header_is
    ∙ ap (λ (l : List ℕ). header_of code packet.key (length wave) ++ l) samples

-- where codes are distinct, one station has it
pub same_station : (stations : List StationSite) (n m code : ℕ)
    → AreCodesDistinct stations → HasCode stations n code
    → HasCode stations m code → n ≡ m
same_station stations n m code distinct some other =
    let d : StationSite = record {
      code = 0;
      at = record { x = pos 0; y = pos 0 };
      factor = record { 0 = pos 0 };
    } in
    let first = listed_code stations n code some in
    let second = listed_code stations m code other in
    elim (cases_order n m) [
      | inl e ↦ e
      | inr apart ↦ elim apart [
        | inl lt ↦ absurd (distinct n m d lt second.0 (first.1 d ∙ sym (second.1 d)))
        | inr gt ↦ absurd (distinct m n d gt first.0 (second.1 d ∙ sym (first.1 d)))
      ]
    ]

-- a body has its samples alone
same_samples : (body : List ℕ) (some others : List Sample) → AreSamples body some
    → AreSamples body others → some ≡ others
same_samples body some others a b =
    same_lists some others (a.count ∙ sym b.count)
    (λ k d below.
    let within = subst (λ (n : ℕ). k < n) a.count below in
    get_or_from_slice_get some k (sample_at body k) d (a.each k within)
    ∙ sym (get_or_from_slice_get others k (sample_at body k) d (b.each k within)))

-- where codes are distinct, a body is one packet
pub is_only_packet : (stations : List StationSite) (packet : Packet) (body : List ℕ)
    → AreCodesDistinct stations → IsPacket stations body packet
    → IsOnlyPacket stations packet body
is_only_packet stations packet body distinct is other read =
    let station = same_station stations other.station.0 packet.station.0 (code_of body) distinct
    read.station is.station in
    let key : other.key ≡ packet.key = read.key ∙ sym is.key in
    let wave = same_samples body other.wave packet.wave read.samples is.samples in
    let same : record {
      station = record { 0 = other.station.0 };
      key = other.key;
      wave = other.wave;
    } ≡ record {
      station = record { 0 = packet.station.0 };
      key = packet.key;
      wave = packet.wave;
    } = cc in
    same
