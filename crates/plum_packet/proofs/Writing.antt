-- What is written of a packet is a body of it.
use Rattle.std.proofs.Common.{◌≡◌, ℕ, zero, suc, ◌+◌, ◌*◌, ◌^◌, ◌<◌, ◌≤◌, ℤ, pos, negsuc, List, []}
use Rattle.std.proofs.Common.{◌∷◌, ◌++◌, length, take, drop, get_or, Some, FitsSigned, w32, refl}
use Rattle.std.proofs.Common.{sym, ap, ◌∙◌, subst, arith, length-append, drop-drop}
use Rattle.std.proofs.Common.{slice_get, All}
use Rattle.std.proofs.lemmas.Int.{to_z-of_z}
use Rattle.std.proofs.lemmas.List.{drop_at}
use Rattle.std.proofs.lemmas.List.Elements.{All-head, All-tail}
use Rattle.std.specs.List.{flat_map}
use Rattle.std.specs.Int.{cast_unsigned}
use Rattle.byteorder.specs.Endian.{big_number, twos_complement}
use Rattle.byteorder.specs.Numbers.{big_number-reads_back}
use Rattle.plum_base.specs.declared.sites.StationSite.{StationSite}
use Rattle.plum_base.specs.declared.wave.Sample.{Sample}
use Rattle.plum_base.specs.declared.numbers.Key.{Key}
use Rattle.plum_base.specs.declared.packet.Packet.{Packet}
use Rattle.plum_base.specs.Packet.{FitsKey}
use Rattle.plum_base.specs.Sites.{HasCode}
use Rattle.plum_packet.specs.Body.{HEADER, SAMPLE, MOST_SAMPLES, signed_at, sample_at}
use Rattle.plum_packet.specs.Body.{code_of, key_of, count_of, IsPacket}
use Rattle.plum_packet.specs.Encoding.{header_of, signed_bytes, sample_bytes, body_of, FitsSample}
use Rattle.plum_packet.proofs.Fields.{listed}
use Rattle.plum_packet.proofs.FirstFault.{has_no_fault}
use Rattle.plum_packet.proofs.Samples.{cast_signed-word}

-- the bits of a signed number of 32 bits are a number of 32 bits
cast_unsigned-fits : (z : ℤ) → FitsSigned w32 z → cast_unsigned w32 z < 2 ^ 32
cast_unsigned-fits (pos n) fits = omega (arith, fits.sfits)
cast_unsigned-fits (negsuc n) fits = omega (arith, fits.sfits)

-- a signed number reads as it was written
signed-reads_back : (z : ℤ) (rest : List ℕ) → FitsSigned w32 z
    → twos_complement 4 (big_number 4 (signed_bytes z ++ rest)) ≡ z
signed-reads_back z rest fits =
    let small = cast_unsigned-fits z fits in
    ap (twos_complement 4) (big_number-reads_back 4 (cast_unsigned w32 z) rest small)
    ∙ sym (cast_signed-word (cast_unsigned w32 z) small)
    ∙ to_z-of_z w32 z fits

-- the sample at the start of some bytes
abbrev pub sample_in : List ℕ → Sample
sample_in bytes = record { x = signed_at 0 bytes; y = signed_at 4 bytes; z = signed_at 8 bytes }

-- a sample reads as it was written
sample-reads_back : (s : Sample) (rest : List ℕ) → FitsSample s
    → s ≡ sample_in (sample_bytes s ++ rest)
sample-reads_back s rest fits =
    let x : signed_at 0 (sample_bytes s ++ rest) ≡ s.x = signed-reads_back s.x [] fits.x in
    let y : signed_at 4 (sample_bytes s ++ rest) ≡ s.y = signed-reads_back s.y [] fits.y in
    let z : signed_at 8 (sample_bytes s ++ rest) ≡ s.z = signed-reads_back s.z [] fits.z in
    let same : record { x = s.x; y = s.y; z = s.z } ≡ sample_in (sample_bytes s ++ rest) = cc in
    same

-- each sample reads as it was written
samples-read_back : (wave : List Sample) (i : ℕ) → i < length wave → All FitsSample wave
    → slice_get wave i ≡ Some (sample_in (drop (SAMPLE * i) (flat_map sample_bytes wave)))
samples-read_back [] i below fits = absurd (omega arith)
samples-read_back (s ∷ wave) zero below fits =
    ap Some (sample-reads_back s (flat_map sample_bytes wave) (All-head FitsSample s wave fits))
samples-read_back (s ∷ wave) (suc i) below fits =
    let bytes = flat_map sample_bytes (s ∷ wave) in
    let later : List ℕ = flat_map sample_bytes wave in
    let next : SAMPLE * suc i ≡ SAMPLE + SAMPLE * i = omega arith in
    let moved : drop (SAMPLE * i) later ≡ drop (SAMPLE * suc i) bytes =
    drop-drop (SAMPLE * i) SAMPLE bytes ∙ ap (λ (k : ℕ). drop k bytes) (sym next) in
    samples-read_back wave i (omega arith) (All-tail FitsSample s wave fits)
    ∙ ap (λ (l : List ℕ). Some (sample_in l)) moved

-- how long the samples are
length-samples : (wave : List Sample)
    → length (flat_map sample_bytes wave) ≡ SAMPLE * length wave
length-samples [] = refl
length-samples (s ∷ wave) =
    let long = length-append (sample_bytes s) (flat_map sample_bytes wave) in
    let later = length-samples wave in
    omega (arith, long, later)

-- what is read behind the header is read of the rest
past_header : (header rest : List ℕ) (at k j : ℕ) → length header ≡ HEADER → at ≡ HEADER + (k + j)
    → drop at (header ++ rest) ≡ drop j (drop k rest)
past_header header rest at k j long is =
    let bytes = header ++ rest in
    ap (λ (n : ℕ). drop n bytes) is
    ∙ sym (drop-drop (k + j) HEADER bytes)
    ∙ ap (drop (k + j)) (drop_at header rest HEADER long)
    ∙ sym (drop-drop j k rest)

-- a sample behind the header
pub sample_at-behind : (header rest : List ℕ) (i : ℕ) → length header ≡ HEADER
    → sample_in (drop (SAMPLE * i) rest) ≡ sample_at (header ++ rest) i
sample_at-behind header rest i long =
    let start = HEADER + SAMPLE * i in
    let from = SAMPLE * i in
    let signed : List ℕ → ℤ = λ l. twos_complement 4 (big_number 4 l) in
    let x = ap signed (past_header header rest start from 0 long (omega arith)) in
    let y = ap signed (past_header header rest (start + 4) from 4 long (omega arith)) in
    let z = ap signed (past_header header rest (start + 8) from 8 long (omega arith)) in
    cc

module _ (code : ℕ) (key : Key) (count : ℕ) (rest : List ℕ) where
  -- the fields of the header read as they were written
  code-reads_back : code < 2 ^ 16 → code_of (header_of code key count ++ rest) ≡ code
  code-reads_back fits = big_number-reads_back 2 code [] fits

  count-reads_back : count < 2 ^ 16 → count_of (header_of code key count ++ rest) ≡ count
  count-reads_back fits = big_number-reads_back 2 count [] fits

  key-reads_back : FitsKey key → key ≡ key_of (header_of code key count ++ rest)
  key-reads_back fits =
      let boot = big_number-reads_back 2 key.boot [] fits.0 in
      let number = big_number-reads_back 4 key.number [] fits.1 in
      let same : record { boot = key.boot; number = key.number }
      ≡ key_of (header_of code key count ++ rest) = cc in
      same

-- what makes a body a packet
made : (stations : List StationSite) (body : List ℕ) (packet : Packet) (code : ℕ)
    → take 2 body ≡ 80 ∷ 76 ∷ [] → get_or body 2 0 ≡ 1 → get_or body 3 0 ≡ 0
    → HasCode stations packet.station.0 code → code_of body ≡ code → packet.key ≡ key_of body
    → count_of body ≡ length packet.wave
    → 0 < length packet.wave → length packet.wave ≤ MOST_SAMPLES
    → length body ≡ HEADER + SAMPLE * length packet.wave
    → ((i : ℕ) → i < length packet.wave → slice_get packet.wave i ≡ Some (sample_at body i))
    → IsPacket stations body packet
made stations body packet code magic version flags has code_is key_is count_is some few long each =
    let known = listed stations packet.station.0 (code_of body) code (sym code_is) has in
    let some_said = subst (λ (n : ℕ). 0 < n) (sym count_is) some in
    let few_said = subst (λ (n : ℕ). n ≤ MOST_SAMPLES) (sym count_is) few in
    let whole : HEADER + SAMPLE * count_of body ≡ length body =
    ap (λ (n : ℕ). HEADER + SAMPLE * n) count_is ∙ sym long in
    let header : HEADER ≤ length body = omega (arith, long) in
    record {
      lawful = has_no_fault stations body header magic version flags known some_said few_said
          whole;
      station = subst (λ (n : ℕ). HasCode stations packet.station.0 n) (sym code_is) has;
      key = key_is;
      samples = record {
        count = sym count_is;
        each = λ i below. each i (subst (λ (n : ℕ). i < n) count_is below);
      };
    }

-- what is written of a packet is one
pub is_packet : (stations : List StationSite) (packet : Packet) (code : ℕ)
    → HasCode stations packet.station.0 code → code < 2 ^ 16 → FitsKey packet.key
    → 0 < length packet.wave → length packet.wave ≤ MOST_SAMPLES → All FitsSample packet.wave
    → IsPacket stations (body_of code packet) packet
is_packet stations packet code has code_fits key_fits some few ranges =
    let wave = packet.wave in
    let header = header_of code packet.key (length wave) in
    let rest : List ℕ = flat_map sample_bytes wave in
    let code_is = code-reads_back code packet.key (length wave) rest code_fits in
    let count_is = count-reads_back code packet.key (length wave) rest (omega arith) in
    let key_is = key-reads_back code packet.key (length wave) rest key_fits in
    let long : length (header ++ rest) ≡ HEADER + SAMPLE * length wave =
    length-append header rest ∙ ap (λ (n : ℕ). HEADER + n) (length-samples wave) in
    made stations (header ++ rest) packet code refl refl refl has code_is key_is count_is some few
    long
    (λ i below. samples-read_back wave i below ranges
    ∙ ap Some (sample_at-behind header rest i refl))

-- the header and then the samples are what is written
pub written : (packet : Packet) (code : ℕ) (samples : List Sample)
    (none header front bytes : List ℕ) → none ≡ [] → samples ≡ packet.wave
    → header ≡ header_of code packet.key (length samples) → front ≡ none ++ header
    → bytes ≡ front ++ flat_map sample_bytes samples → bytes ≡ body_of code packet
written packet code samples none header front bytes none_is samples_are header_is front_is is =
    let later : List ℕ = flat_map sample_bytes samples in
    let front_of : front ≡ header_of code packet.key (length samples) =
    front_is ∙ ap (λ (l : List ℕ). l ++ header) none_is ∙ header_is in
    is ∙ ap (λ (l : List ℕ). l ++ later) front_of
    ∙ ap (λ (l : List Sample). header_of code packet.key (length l) ++ flat_map sample_bytes l)
    samples_are
