-- The classes rise with the intensities.
use Rattle.std.proofs.Common.{◌≡◌, ℕ, ◌≤◌, Bool, true, false, ◌≤ℤ◌, ℤ, pos}
use Rattle.std.proofs.Common.{arith, rules, refl, lit≤}
use Rattle.std.proofs.lemmas.Bool.{false≢true}
use Rattle.std.proofs.lemmas.Int.{ints}
use Rattle.std.specs.Prelude.{int_lt, if◌then◌else◌}
use Rattle.plum_base.specs.declared.numbers.Tenths.{Tenths}
use Rattle.plum_base.specs.declared.rules.Class.{Class}
use Rattle.plum_base.specs.declared.rules.Class.TheVariants.{C0, C1, C2, C3, C4, C5Lower, C5Upper}
use Rattle.plum_base.specs.declared.rules.Class.TheVariants.{C6Lower, C6Upper, C7}
use Rattle.plum_base.specs.Setup.{rank_of}
use Rattle.plum_scale.specs.Classes.{class_of}

-- What is below a cut stays so as it falls.
below_falls : (t u : ℤ) (cut : ℕ) → t ≤ℤ u → int_lt u (pos cut) ≡ true → int_lt t (pos cut) ≡ true
below_falls t u cut le below = grind (arith, ints)

-- a choice of two classes that are both at least so high
least-of_choice : (n : ℕ) (b : Bool) (c d : Class) → n ≤ rank_of c → n ≤ rank_of d
    → n ≤ rank_of (if b then c else d)
least-of_choice n true c d first second = first
least-of_choice n false c d first second = second

-- One cut: the class below it, or the one that the later cuts give.
rise-at_cut : (b b' : Bool) (class rest rest' : Class) → (b' ≡ true → b ≡ true)
    → rank_of class ≤ rank_of rest' → rank_of rest ≤ rank_of rest'
    → rank_of (if b then class else rest) ≤ rank_of (if b' then class else rest')
rise-at_cut true true class rest rest' falls least rise = omega arith
rise-at_cut true false class rest rest' falls least rise = least
rise-at_cut false true class rest rest' falls least rise = absurd (false≢true (falls refl))
rise-at_cut false false class rest rest' falls least rise = rise

pub rise_together : (t u : Tenths) → t.0 ≤ℤ u.0 → rank_of (class_of t) ≤ rank_of (class_of u)
rise_together t u le =
    rise-at_cut _ _ C0 _ _ (below_falls t.0 u.0 5 le) (search rules)
    (rise-at_cut _ _ C1 _ _ (below_falls t.0 u.0 15 le) (search (rules, least-of_choice))
    (rise-at_cut _ _ C2 _ _ (below_falls t.0 u.0 25 le) (search (rules, least-of_choice))
    (rise-at_cut _ _ C3 _ _ (below_falls t.0 u.0 35 le) (search (rules, least-of_choice))
    (rise-at_cut _ _ C4 _ _ (below_falls t.0 u.0 45 le) (search (rules, least-of_choice))
    (rise-at_cut _ _ C5Lower _ _ (below_falls t.0 u.0 50 le) (search (rules, least-of_choice))
    (rise-at_cut _ _ C5Upper _ _ (below_falls t.0 u.0 55 le) (search (rules, least-of_choice))
    (rise-at_cut _ _ C6Lower _ _ (below_falls t.0 u.0 60 le) (search (rules, least-of_choice))
    (rise-at_cut _ _ C6Upper C7 C7 (below_falls t.0 u.0 65 le) (lit≤ tt) (lit≤ tt)))))))))
