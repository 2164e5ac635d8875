-- What holds of the classes and of the texts.
use Rattle.std.specs.Prelude.{◌≡◌, ◌≤◌, ◌^◌, ◌≤ℤ◌, ℤ, nat_abs}
use Rattle.plum_base.specs.declared.numbers.Tenths.{Tenths}
use Rattle.plum_base.specs.declared.rules.Class.{Class}
use Rattle.plum_base.specs.Setup.{rank_of}
use Rattle.plum_scale.specs.Classes.{class_of, class_text}
use Rattle.plum_scale.specs.Tenths.{tenths_text}

-- Classes are ordered as their intensities are.
abbrev pub RiseTogether : Type 0
RiseTogether = (t u : Tenths) → t.0 ≤ℤ u.0 → rank_of (class_of t) ≤ rank_of (class_of u)

-- A text is that of one class at most.
abbrev pub OneClass : Type 0
OneClass = (c d : Class) → class_text c ≡ class_text d → c ≡ d

-- A text is that of one intensity at most, within what sixteen bits hold.
abbrev pub OneIntensity : Type 0
OneIntensity = (t u : ℤ) → nat_abs t ≤ 2 ^ 15 → nat_abs u ≤ 2 ^ 15
    → tenths_text t ≡ tenths_text u → t ≡ u
