-- The gain rule in 64 bits.
use Rattle.std.proofs.Common.{◌≡◌, ℕ, ◌^◌, ◌≤◌, ℤ, pos, negsuc, ◌*ℤ◌, unsigned_abs, w32, w64}
use Rattle.std.proofs.Common.{FitsSigned, refl, arith, lit<}
use Rattle.std.proofs.lemmas.Int.{fits_signed_mul, ints}
use Rattle.std.specs.Int.{int_div_euclid, int_shr}
use lib.Signed.{mag_shr}
use mir.ValLaws.{sfits_le}

-- A shift rounds down, as Euclid's quotient does at a positive divisor.
pub int_shr_is : (z : ℤ) (h : ℕ) → int_shr z h ≡ int_div_euclid z (pos (2 ^ h))
int_shr_is (pos n) h = refl
int_shr_is (negsuc n) h = refl

-- the size of a count
size_of_count : (x : ℤ) → FitsSigned w32 x → unsigned_abs x ≤ 2 ^ 31
size_of_count (pos n) f = omega (arith, ints)
size_of_count (negsuc n) f = omega (arith, ints)

-- A count times a gain's factor fits.
pub product_fits : (x : ℤ) (g : ℕ) → FitsSigned w32 x → g ≤ 2 ^ 31 → FitsSigned w64 (x *ℤ pos g)
product_fits x g f le =
    fits_signed_mul w64 x (pos g) (2 ^ 31) (2 ^ 31) (size_of_count x f) le (lit< tt)

-- So does what a shift leaves.
pub quotient_fits : (z : ℤ) (h : ℕ) → FitsSigned w64 z → FitsSigned w64 (int_shr z h)
quotient_fits z h f = sfits_le (mag_shr z (2 ^ h)) f
