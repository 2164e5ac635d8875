-- A place and a factor are their numbers.
use Rattle.std.proofs.Common.{◌≡◌, ◌∙◌, ℤ, ap}
use Rattle.plum_base.specs.declared.numbers.Point.{Point}
use Rattle.plum_base.specs.declared.numbers.Tenths.{Tenths}

abbrev pub point : ℤ → ℤ → Point
point x y = record { x = x; y = y }

abbrev pub tenths : ℤ → Tenths
tenths t = record { 0 = t }

pub same_point : (p q : Point) → p.x ≡ q.x → p.y ≡ q.y → p ≡ q
same_point p q x y = ap (λ v. point v p.y) x ∙ ap (λ v. point q.x v) y

pub same_tenths : (t u : Tenths) → t.0 ≡ u.0 → t ≡ u
same_tenths t u is = ap (λ v. tenths v) is
