-- The text of each field tells what it is of, within what its type holds.
use Rattle.std.proofs.Common.{◌≡◌, ℕ, suc, ◌<◌, ◌≤◌, ◌/◌, ◌%◌, ◌^◌, Bool, true, false, List, []}
use Rattle.std.proofs.Common.{◌∷◌, length, get_or, Option, Some, None, decimal, ℤ, pos, negsuc}
use Rattle.std.proofs.Common.{nat_abs, FitsSigned, w16, refl, ap, arith, length-append}
use Rattle.std.proofs.lemmas.Fmt.{decimal_nonempty, decimal_injective}
use Rattle.plum_base.specs.declared.numbers.Tenths.{Tenths}
use Rattle.plum_base.specs.declared.packet.PacketFault.{PacketFault}
use Rattle.plum_base.specs.declared.packet.PacketFault.TheVariants.{Short, Magic, Version, Flags}
use Rattle.plum_base.specs.declared.packet.PacketFault.TheVariants.{Station, Count, Length}
use Rattle.plum_base.specs.declared.rules.Alert.{Alert}
use Rattle.plum_base.specs.declared.rules.Alert.TheVariants.{Raise, Upgrade, Cancel}
use Rattle.plum_base.specs.declared.rules.Class.{Class}
use Rattle.plum_base.specs.declared.rules.Class.TheVariants.{C0}
use Rattle.plum_scale.specs.Classes.{class_text}
use Rattle.plum_scale.specs.Laws.{OneClass, OneIntensity}
use Rattle.plum_scale.specs.Tenths.{magnitude_text, tenths_text}
use Rattle.plum_text.specs.Fields.{Fits, FitsValue, FitsFault, value_text, class_or_none_text}
use Rattle.plum_text.specs.Fields.{run_text, fault_fields, alert_fields}

-- the text of an intensity is longer than `-`
magnitude_long : (n : ℕ) → n ≤ 2 ^ 15 → 1 < length (magnitude_text n)
magnitude_long n fits =
    omega (
      arith,
      length-append (decimal (n / 10)) (46 ∷ decimal (n % 10)),
      decimal_nonempty (n / 10) (omega arith),
    )

tenths_long : (t : ℤ) → FitsSigned w16 t → 1 < length (tenths_text t)
tenths_long (pos n) fits = magnitude_long n (omega (arith, fits.sfits))
tenths_long (negsuc n) fits = omega (arith, magnitude_long (suc n) (omega (arith, fits.sfits)))

-- sixteen bits with a sign hold at most so much
tenths_size : (t : ℤ) → FitsSigned w16 t → nat_abs t ≤ 2 ^ 15
tenths_size (pos n) fits = omega (arith, fits.sfits)
tenths_size (negsuc n) fits = omega (arith, fits.sfits)

module _ (one_intensity : OneIntensity) where
  -- A value's text tells it.
  pub same_value : (v w : Option Tenths) → FitsValue v → FitsValue w → value_text v ≡ value_text w
      → v ≡ w
  same_value None None fv fw e = refl
  same_value None (Some u) fv fw e = absurd (omega (arith, tenths_long u.0 fw, ap length e))
  same_value (Some t) None fv fw e = absurd (omega (arith, tenths_long t.0 fv, ap length e))
  same_value (Some t) (Some u) fv fw e =
      let same : t.0 ≡ u.0 = one_intensity t.0 u.0 (tenths_size t.0 fv) (tenths_size u.0 fw) e in
      let of : ℤ → Option Tenths = λ z. Some (record { 0 = z }) in
      ap of same

-- the first byte of a text
abbrev pub first_of : List ℕ → ℕ
first_of bytes = get_or bytes 0 0

-- that of a class is a digit
class_first : (class : Class) → 48 ≤ first_of (class_text class)
class_first C0 = omega arith
class_first class = omega arith

module _ (one_class : OneClass) where
  -- A class's text, or that of none, tells it.
  pub same_class : (c d : Option Class) → class_or_none_text c ≡ class_or_none_text d → c ≡ d
  same_class None None e = refl
  same_class None (Some d) e = absurd (omega (arith, class_first d, ap first_of e))
  same_class (Some c) None e = absurd (omega (arith, class_first c, ap first_of e))
  same_class (Some c) (Some d) e = ap Some (one_class c d e)

  -- An alert's fields tell it.
  pub same_alert : (a b : Alert) → alert_fields a ≡ alert_fields b → a ≡ b
  same_alert (Raise c) (Raise d) e =
      let text : class_text c ≡ class_text d = cc in
      ap Raise (one_class c d text)
  same_alert (Upgrade c) (Upgrade d) e =
      let text : class_text c ≡ class_text d = cc in
      ap Upgrade (one_class c d text)
  same_alert Cancel Cancel e = refl
  same_alert a b e = cc

-- A run letter tells whether a run is fresh.
pub same_run : (a b : Bool) → run_text a ≡ run_text b → a ≡ b
same_run true true e = refl
same_run false false e = refl
same_run a b e = absurd (omega (arith, ap first_of e))

-- The text of a number of 32 bits tells it.
pub same_decimal : (m n : ℕ) → Fits 32 m → Fits 32 n → decimal m ≡ decimal n → m ≡ n
same_decimal m n fm fn e = decimal_injective m n (omega arith) (omega arith) e

-- the digit of a fault's name
abbrev number_of : List (List ℕ) → ℕ
number_of words = get_or (get_or words 0 []) 1 0

-- A fault's fields tell it.
pub same_fault : (f g : PacketFault) → FitsFault f → FitsFault g → fault_fields f ≡ fault_fields g
    → f ≡ g
same_fault Short Short ff fg e = refl
same_fault Magic Magic ff fg e = refl
same_fault (Version v) (Version w) ff fg e =
    let text : decimal v ≡ decimal w = cc in
    ap Version (same_decimal v w (omega arith) (omega arith) text)
same_fault (Flags v) (Flags w) ff fg e =
    let text : decimal v ≡ decimal w = cc in
    ap Flags (same_decimal v w (omega arith) (omega arith) text)
same_fault (Station v) (Station w) ff fg e =
    let text : decimal v ≡ decimal w = cc in
    ap Station (same_decimal v w (omega arith) (omega arith) text)
same_fault (Count v) (Count w) ff fg e =
    let text : decimal v ≡ decimal w = cc in
    ap Count (same_decimal v w (omega arith) (omega arith) text)
same_fault (Length a b) (Length c d) ff fg e =
    let first : decimal a ≡ decimal c = cc in
    let second : decimal b ≡ decimal d = cc in
    let expected = same_decimal a c ff.0 fg.0 first in
    let found = same_decimal b d ff.1 fg.1 second in
    cc
same_fault f g ff fg e = absurd (omega (arith, ap number_of e))
