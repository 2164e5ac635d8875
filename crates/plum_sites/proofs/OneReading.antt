-- Bytes have one list of records, a field one number, and a row one list of numbers.
use Rattle.std.proofs.Common.{◌≡◌, ◌⊎◌, ◌<◌, ℕ, zero, suc, ℤ, pos, neg_ℤ, List, [], ◌∷◌}
use Rattle.std.proofs.Common.{Some, None, All, refl, sym, ap, ◌∙◌, subst, inl, inr}
use Rattle.std.proofs.Common.{arith}
use Rattle.std.specs.Char.{digit_value}
use Rattle.std.specs.Str.Parse.{digits_value}
use Rattle.csv.specs.Machine.{Read, next_record}
use Rattle.csv.specs.Reading.{Reached, AreRecords, default_config, strip_bom}
use Rattle.csv.specs.declared.parser.Config.{Config}
use Rattle.csv.specs.declared.parser.State.{State}
use Rattle.csv.specs.declared.parser.State.TheVariants as st
use Rattle.plum_sites.specs.Fields.{IsShortNumeral, Spells, IsNumber}
use Rattle.std.specs.List.{AllZip}
use Rattle.plum_sites.specs.Records.{AreRecordsOf}

ended : (cfg : Config) (s s2 : State) (xs ys : List ℕ) (p : Read) → s ≡ s2 → xs ≡ ys
    → next_record cfg s2 [] [] ys ≡ None → next_record cfg s [] [] xs ≡ Some p → ⊥
ended cfg s s2 xs ys p same_state same_text none some = cc

one_list : (cfg : Config) (s : State) (xs : List ℕ) (a b : List (List (List ℕ)))
    → AreRecords cfg s xs a → AreRecords cfg s xs b → a ≡ b
unfolding Reached
one_list cfg s xs [] [] x y = refl
one_list cfg s xs [] (r ∷ rs) x y = absurd (ended cfg s x.0 xs x.1 y.2.0 x.2.0 x.2.1 x.3 y.2.1)
one_list cfg s xs (r ∷ rs) [] x y = absurd (ended cfg s y.0 xs y.1 x.2.0 y.2.0 y.2.1 y.3 x.2.1)
one_list cfg s xs (q ∷ qs) (r ∷ rs) x y =
    let same : x.2.0 ≡ y.2.0 = cc (x.2.1, y.2.1) in
    let other = subst (λ (p : Read). AreRecords cfg p.1 p.2 rs) (sym same)
    (y.0, y.1, y.2.3, y.3) in
    let rest = one_list cfg x.2.0.1 x.2.0.2 qs rs (x.0, x.1, x.2.3, x.3) other in
    let first : q ≡ r = x.2.2 ∙ ap (λ (p : Read). p.0) same ∙ sym y.2.2 in
    cc (first, rest)

pub one_file : (bytes : List ℕ) (a b : List (List (List ℕ))) → AreRecordsOf bytes a
    → AreRecordsOf bytes b → a ≡ b
one_file bytes a b x y = one_list default_config st.StartRecord (strip_bom bytes) a b x y

no_sign : (ds es : List ℕ) → IsShortNumeral ds → ds ≡ 45 ∷ es → ⊥
no_sign [] es short is = cc
no_sign (d ∷ ds) es short is =
    let sign : d ≡ 45 = cc in
    let low : 36 < 10 = subst (λ t. digit_value t < 10) sign short.0.1.0 in omega arith

one_number : (field ds es : List ℕ) (n m : ℤ) → IsShortNumeral ds → IsShortNumeral es
    → ((field ≡ ds) × (n ≡ pos (digits_value 10 ds)))
    ⊎ ((field ≡ 45 ∷ ds) × (n ≡ neg_ℤ (pos (digits_value 10 ds))))
    → ((field ≡ es) × (m ≡ pos (digits_value 10 es)))
    ⊎ ((field ≡ 45 ∷ es) × (m ≡ neg_ℤ (pos (digits_value 10 es)))) → n ≡ m
one_number field ds es n m sd se (inl a) (inl b) =
    a.1 ∙ ap (λ t. pos (digits_value 10 t)) (sym a.0 ∙ b.0) ∙ sym b.1
one_number field ds es n m sd se (inl a) (inr b) = absurd (no_sign ds es sd (sym a.0 ∙ b.0))
one_number field ds es n m sd se (inr a) (inl b) = absurd (no_sign es ds se (sym b.0 ∙ a.0))
one_number field ds es n m sd se (inr a) (inr b) =
    let both : 45 ∷ ds ≡ 45 ∷ es = sym a.0 ∙ b.0 in
    let same : ds ≡ es = cc both in
    a.1 ∙ ap (λ t. neg_ℤ (pos (digits_value 10 t))) same ∙ sym b.1

pub spells_one : (field : List ℕ) (n m : ℤ) → Spells field n → Spells field m → n ≡ m
spells_one field n m a b = one_number field a.0 b.0 n m a.1 b.1 a.2 b.2

pub each_number : (row : List (List ℕ)) (ns : List ℤ) → AllZip Spells row ns → All IsNumber row
each_number [] ns each k d l = absurd (omega arith)
each_number (x ∷ row) [] each k d l = absurd each
each_number (x ∷ row) (n ∷ ns) each zero d l = (n, each.0)
each_number (x ∷ row) (n ∷ ns) each (suc k) d l = each_number row ns each.1 k d (omega arith)
