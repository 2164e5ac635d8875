-- What is put behind what was put before.
use Rattle.std.proofs.Common.{◌≡◌, ℕ, ◌+◌, ◌*◌, ℤ, List, [], ◌∷◌, ◌++◌, length, refl, sym, ap}
use Rattle.std.proofs.Common.{◌-◌, ◌<◌, take, drop, get_or, codes, decimal}
use Rattle.std.proofs.Common.{◌∙◌, append_assoc, w16, w32, FitsSigned, arith}
use Rattle.std.proofs.lemmas.Int.{to_z-of_z}
use Rattle.std.proofs.lemmas.List.{flat_map_more, map-id, append-nil, take_all}
use Rattle.std.proofs.lemmas.List.FromFn.{map-range_with_len_more, length-map-range_with_len}
use Rattle.std.specs.Int.{to_be_bytes, bytes_high_first, cast_signed, cast_unsigned}
use Rattle.std.specs.List.{flat_map, range_with_len}
use Rattle.plum_base.specs.declared.numbers.Key.{Key}
use Rattle.plum_base.specs.declared.wave.Sample.{Sample}
use Rattle.plum_packet.specs.Capture.{record_of}
use Rattle.plum_packet.specs.Encoding.{header_of, sample_bytes, body_of}
use Rattle.plum.specs.Draws.{state_after}
use Rattle.plum.specs.DrillSetup.{numbers_text}
use Rattle.plum.specs.DrillCapture.{PACKET_DRAWS, amplitude_in}
use Rattle.plum.specs.DrillCapture.{sample_at, samples_at, packet_record, second_at}
use Rattle.plum.proofs.Drawing.{sample-sum, packet-sum, second-sum}

-- two pieces, one behind the other
pub joined : (start middle end a b : List ℕ) → middle ≡ start ++ a → end ≡ middle ++ b
    → end ≡ start ++ (a ++ b)
joined start middle end a b first second =
    second ∙ ap (λ (l : List ℕ). l ++ b) first ∙ append_assoc start a b

-- a signed number as a call passes it
pub as_passed : (start end : List ℕ) (text : ℤ → List ℕ) (z : ℤ) → FitsSigned w32 z
    → end ≡ start ++ text (cast_signed w32 (cast_unsigned w32 z)) → end ≡ start ++ text z
as_passed start end text z fits e = e ∙ ap (λ (y : ℤ). start ++ text y) (to_z-of_z w32 z fits)

-- a piece, told by what is the same
pub as_same : {X : Type 0} (start end : List ℕ) (text : X → List ℕ) (x y : X) → x ≡ y
    → end ≡ start ++ text x → end ≡ start ++ text y
as_same start end text x y same e = e ∙ ap (λ z. start ++ text z) same

-- so many numbers, and one more
pub range_more : (a n : ℕ) → range_with_len a (n + 1) ≡ range_with_len a n ++ (a + n) ∷ []
range_more a n =
    sym (map-id (range_with_len a (n + 1))) ∙ map-range_with_len_more (λ i. i) a n (a + n) refl
    ∙ ap (λ (l : List ℕ). l ++ (a + n) ∷ []) (map-id (range_with_len a n))

-- pieces behind a start, and one more
pub pieces_more : (f : ℕ → List ℕ) (start : List ℕ) (k : ℕ)
    → (start ++ flat_map f (range_with_len 0 k)) ++ f k
    ≡ start ++ flat_map f (range_with_len 0 (k + 1))
pieces_more f start k =
    flat_map_more f start (range_with_len 0 k) k
    ∙ ap (λ (l : List ℕ). start ++ flat_map f l)
    (let e : 0 + k ≡ k = omega arith in
    sym (range_more 0 k ∙ ap (λ (j : ℕ). range_with_len 0 k ++ j ∷ []) e))

-- what was put before no piece
pub no_piece : (f : ℕ → List ℕ) (start : List ℕ) → start ≡ start ++ flat_map f (range_with_len 0 0)
no_piece f start = sym (append-nil start)

-- so many samples, and one more
pub samples_more : (s a n k : ℕ)
    → samples_at s a n (k + 1) ≡ samples_at s a n k ++ sample_at s a (n + 3 * k) ∷ []
unfolding samples_at
samples_more s a n k =
    map-range_with_len_more (λ i. sample_at s a (n + 3 * i)) 0 k k (omega arith)

pub samples_none : (s a n : ℕ) → samples_at s a n 0 ≡ []
unfolding samples_at
samples_none s a n = refl

-- the bytes of one sample more
pub put_sample : (s a k : ℕ) (start bytes piece : List ℕ)
    → bytes ≡ start ++ flat_map sample_bytes (samples_at s a 0 k)
    → piece ≡ sample_bytes (sample_at (state_after s (3 * k)) a 0)
    → bytes ++ piece ≡ start ++ flat_map sample_bytes (samples_at s a 0 (k + 1))
put_sample s a k start bytes piece so_far is =
    ap (λ (l : List ℕ). l ++ piece) so_far
    ∙ ap (λ (l : List ℕ). (start ++ flat_map sample_bytes (samples_at s a 0 k)) ++ l)
    (is ∙ ap sample_bytes (sample-sum s (3 * k) a 0 (0 + 3 * k) (omega arith)))
    ∙ flat_map_more sample_bytes start (samples_at s a 0 k) (sample_at s a (0 + 3 * k))
    ∙ ap (λ (l : List Sample). start ++ flat_map sample_bytes l) (sym (samples_more s a 0 k))

-- the records of one station more
pub put_station : (s second k : ℕ) (start bytes piece : List ℕ)
    → bytes ≡ start ++ flat_map (λ i. packet_record s (0 + PACKET_DRAWS * i) second i)
    (range_with_len 0 k)
    → piece ≡ packet_record (state_after s (PACKET_DRAWS * k)) 0 second k
    → bytes ++ piece ≡ start ++ flat_map (λ i. packet_record s (0 + PACKET_DRAWS * i) second i)
    (range_with_len 0 (k + 1))
put_station s second k start bytes piece so_far is =
    let record_at : ℕ → List ℕ = λ i. packet_record s (0 + PACKET_DRAWS * i) second i in
    ap (λ (l : List ℕ). l ++ piece) so_far
    ∙ ap (λ (l : List ℕ). (start ++ flat_map record_at (range_with_len 0 k)) ++ l)
    (is ∙ packet-sum s (PACKET_DRAWS * k) 0 (0 + PACKET_DRAWS * k) second k (omega arith))
    ∙ pieces_more record_at start k

-- the bytes of one second more
pub put_seconds : (s stations k : ℕ) (bytes piece : List ℕ)
    → bytes ≡ flat_map (λ t. second_at s (PACKET_DRAWS * stations * t) t stations)
    (range_with_len 0 k)
    → piece ≡ second_at (state_after s (PACKET_DRAWS * stations * k)) 0 k stations
    → bytes ++ piece ≡ flat_map (λ t. second_at s (PACKET_DRAWS * stations * t) t stations)
    (range_with_len 0 (k + 1))
put_seconds s stations k bytes piece so_far is =
    let second_in : ℕ → List ℕ = λ t. second_at s (PACKET_DRAWS * stations * t) t stations in
    ap (λ (l : List ℕ). l ++ piece) so_far
    ∙ ap (λ (l : List ℕ). flat_map second_in (range_with_len 0 k) ++ l)
    (is ∙ second-sum s (PACKET_DRAWS * stations * k) 0 (PACKET_DRAWS * stations * k) k stations
    (omega arith))
    ∙ pieces_more second_in [] k

-- how long samples are, and a body
samples_length : (wave : List Sample) → length (flat_map sample_bytes wave) ≡ 12 * length wave
samples_length [] = refl
samples_length (s ∷ more) = omega (arith, samples_length more)

header_then : (code : ℕ) (key : Key) (count : ℕ) (more : List ℕ)
    → length (header_of code key count ++ more) ≡ 14 + length more
header_then code key count more = omega arith

-- a record from its length, its header and its samples
record_spelled : (code : ℕ) (station : ℕ) (key : Key) (wave : List Sample) (count : ℕ)
    (long : ℕ) → length wave ≡ count → 14 + 12 * count ≡ long
    → (bytes_high_first 2 long ++ header_of code key count) ++ flat_map sample_bytes wave
    ≡ record_of (body_of code (record { station = record { 0 = station }; key = key; wave = wave }))
record_spelled code station key wave count long counted is =
    let samples : List ℕ = flat_map sample_bytes wave in
    let body : List ℕ = header_of code key (length wave) ++ samples in
    let length_is : length body ≡ long =
    omega (arith, header_then code key (length wave) samples, samples_length wave) in
    append_assoc (bytes_high_first 2 long) (header_of code key count) samples
    ∙ ap (λ (n : ℕ). bytes_high_first 2 long ++ (header_of code key n ++ samples)) (sym counted)
    ∙ ap (λ (n : ℕ). bytes_high_first 2 n ++ body) (sym length_is)

pub samples_length_at : (s a n count : ℕ) → length (samples_at s a n count) ≡ count
unfolding samples_at
samples_length_at s a n count =
    length-map-range_with_len (λ k. sample_at s a (n + 3 * k)) 0 count

-- the record of a packet
pub packet_spelled : (s second station : ℕ)
    → (to_be_bytes w16 1214 ++ header_of (station + 1) (record { boot = 1; number = second }) 100)
    ++ flat_map sample_bytes (samples_at s (amplitude_in second) 0 100)
    ≡ packet_record s 0 second station
unfolding packet_record
packet_spelled s second station =
    record_spelled (station + 1) station (record { boot = 1; number = second })
    (samples_at s (amplitude_in second) 0 100) 100 1214
    (samples_length_at s (amplitude_in second) 0 100) refl

-- a second, with the bytes of its mark
pub second_spelled : (s second stations : ℕ)
    → flat_map (λ i. packet_record s (0 + PACKET_DRAWS * i) second i) (range_with_len 0 stations)
    ++ (0 ∷ 2 ∷ 77 ∷ 75 ∷ []) ≡ second_at s 0 second stations
unfolding second_at
second_spelled s second stations = refl

-- numbers, the first of them apart
pub numbers_spelled : (numbers : List ℕ) → 0 < length numbers
    → decimal (get_or numbers 0 0)
    ++ flat_map (λ m. codes ", " ++ decimal m) (take (length numbers - 1) (drop 1 numbers))
    ≡ numbers_text numbers
numbers_spelled [] some = let none : ⊥ = omega arith in absurd none
numbers_spelled (n ∷ more) some =
    ap (λ (l : List ℕ). decimal n ++ flat_map (λ m. codes ", " ++ decimal m) l)
    (take_all (length (n ∷ more) - 1) more (omega arith))
