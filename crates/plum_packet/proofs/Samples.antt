-- The samples that the code makes are those of the body.
use Rattle.std.proofs.Common.{◌≡◌, ℕ, ◌+◌, ◌-◌, ◌^◌, ◌<◌, ℤ, List, [], ◌∷◌, ◌++◌, length}
use Rattle.std.proofs.Common.{take, drop, get_or, get_or-drop, Some, ap, sym, ◌∙◌, below_more}
use Rattle.std.proofs.Common.{to_z, of_z, arith}
use Rattle.std.specs.Prelude.{slice_get}
use Rattle.std.specs.Int.{w32, cast_signed}
use Rattle.std.proofs.lemmas.Int.{ints, of_z-to_z}
use Rattle.byteorder.specs.Endian.{big_number, twos_complement}
use Rattle.byteorder.specs.Numbers.{big_from-lt}
use Rattle.plum_base.specs.declared.wave.Sample.{Sample}
use Rattle.plum_base.proofs.Pushes.{slice_get-before, slice_get-after}
use Rattle.plum_packet.specs.Body.{number_at, signed_at, sample_at}
use Rattle.plum_packet.proofs.Fields.{number_of-rest}

-- what a cast makes of the bits is what two's complement says of them
pub cast_signed-word : (n : ℕ) → n < 2 ^ 32 → cast_signed w32 n ≡ twos_complement 4 n
cast_signed-word n h = grind (arith, ints)

-- four bytes are a number of 32 bits
pub word_fits : (offset : ℕ) (body : List ℕ) → ((i : ℕ) → get_or body i 0 < 256)
    → number_at offset 4 body < 2 ^ 32
word_fits offset body bytes = big_from-lt 0 4 (drop offset body)
    (λ i. let e = get_or-drop offset body i 0 in let h = bytes (offset + i) in omega arith)

-- a signed number that the code makes is that of the body
pub component : (offset at : ℕ) (body : List ℕ) (z : ℤ) → ((i : ℕ) → get_or body i 0 < 256)
    → at ≡ offset → z ≡ cast_signed w32 (big_number 4 (take (length body - at) (drop at body)))
    → to_z w32 (of_z w32 z) ≡ signed_at offset body
component offset at body z bytes e made =
    let n = number_at offset 4 body in
    let fits = word_fits offset body bytes in
    let same : big_number 4 (take (length body - at) (drop at body)) ≡ n =
    number_of-rest at 4 body ∙ ap (λ (k : ℕ). number_at k 4 body) e in
    let told : z ≡ cast_signed w32 n = made ∙ ap (λ (k : ℕ). cast_signed w32 k) same in
    ap (λ (k : ℤ). to_z w32 (of_z w32 k)) told
    ∙ ap (λ (k : ℕ). to_z w32 k) (of_z-to_z w32 n fits)
    ∙ cast_signed-word n fits

-- one sample more
pub more_samples : (body : List ℕ) (wave : List Sample) (i : ℕ) (next : Sample) → length wave ≡ i
    → ((k : ℕ) → k < i → slice_get wave k ≡ Some (sample_at body k)) → next ≡ sample_at body i
    → (k : ℕ) → k < i + 1 → slice_get (wave ++ next ∷ []) k ≡ Some (sample_at body k)
more_samples body wave i next e each here =
    below_more (λ k. slice_get (wave ++ next ∷ []) k ≡ Some (sample_at body k)) i
    (λ k h. slice_get-before wave next k (omega arith) ∙ each k h)
    (ap (slice_get (wave ++ next ∷ [])) (sym e) ∙ slice_get-after wave next ∙ ap Some here)
