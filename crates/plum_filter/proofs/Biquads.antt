-- What a stage holds of its past, and what it answers.
use Rattle.std.proofs.Common.{◌≡◌, ℕ, ◌-◌, ◌^◌, ◌≤◌, ℤ, pos, ◌+ℤ◌, ◌-ℤ◌, ◌*ℤ◌, refl, sym, ap, ◌∙◌}
use Rattle.std.proofs.Common.{arith}
use Rattle.std.proofs.lemmas.Int.{ints}
use Rattle.std.proofs.Math.IntN.{*ℤ-zero}
use Rattle.std.proofs.Math.Pow.{pow_mono}
use Rattle.std.specs.Int.{int_div_euclid}
use Rattle.plum_base.specs.declared.cascade.Stage.{Stage}
use Rattle.plum_base.specs.declared.cascade.Rounding.{Rounding}
use Rattle.plum_base.specs.declared.cascade.Rounding.TheVariants.{Floor, Nearest}
use Rattle.plum_filter.specs.declared.biquad.Biquad.{Biquad}
use Rattle.plum_filter.specs.Stage.{clamped, rounded, weighted, answer_to}
use Rattle.plum_filter.specs.Filter.{half_of, answer_of, moved_on, biquad_at, new_biquad}

-- a stage that holds these sums
abbrev pub biquad : Stage → (half next later : ℤ) → Biquad
biquad s half next later =
    record { stage = s; half = half; next = next; later = later }

-- Last terms that are the same make the same stage.
pub biquad_at-same : (s : Stage) (x1 z1 x2 z2 y1 w1 y2 w2 : ℤ) → x1 ≡ z1 → x2 ≡ z2 → y1 ≡ w1
    → y2 ≡ w2 → biquad_at s x1 x2 y1 y2 ≡ biquad_at s z1 z2 w1 w2
biquad_at-same s x1 z1 x2 z2 y1 w1 y2 w2 p q r t =
    ap (λ x. biquad_at s x x2 y1 y2) p
    ∙ ap (λ x. biquad_at s z1 x y1 y2) q
    ∙ ap (λ y. biquad_at s z1 z2 y y2) r
    ∙ ap (λ y. biquad_at s z1 z2 w1 y) t

-- A sum is divided and rounded by its half.
rounded_by_half : (round : Rounding) (sum : ℤ) (q : ℕ)
    → rounded round sum q ≡ int_div_euclid (sum +ℤ pos (half_of round q)) (pos (2 ^ q))
rounded_by_half Floor sum q =
    let same : sum ≡ sum +ℤ pos 0 = omega (arith, ints) in
    ap (λ s. int_div_euclid s (pos (2 ^ q))) same
rounded_by_half Nearest sum q = refl

-- The products, in the order in which they are added.
regrouped : (half p0 p1 p2 r1 r2 : ℤ)
    → half +ℤ (p2 -ℤ r2) +ℤ (p1 -ℤ r1) +ℤ p0 ≡ p0 +ℤ p1 +ℤ p2 -ℤ r1 -ℤ r2 +ℤ half
regrouped half p0 p1 p2 r1 r2 = omega (arith, ints)

-- What a stage answers is what the stage equation says of its last terms.
pub answer_of-at : (s : Stage) (x x1 x2 y1 y2 : ℤ)
    → answer_of (biquad_at s x1 x2 y1 y2) x ≡ answer_to s x x1 x2 y1 y2
answer_of-at s x x1 x2 y1 y2 =
    let half = pos (half_of s.round s.q) in
    let same = regrouped half (s.b0 *ℤ x) (s.b1 *ℤ x1) (s.b2 *ℤ x2) (s.a1 *ℤ y1) (s.a2 *ℤ y2) in
    ap clamped (ap (λ sum. int_div_euclid sum (pos (2 ^ s.q))) same
    ∙ sym (rounded_by_half s.round (weighted s x x1 x2 y1 y2) s.q))

-- At its first term nothing is added but the half.
nothing_added : (sum b a : ℤ) → sum +ℤ (b *ℤ pos 0 -ℤ a *ℤ pos 0) ≡ sum
nothing_added sum b a = omega (arith, ints, *ℤ-zero b, *ℤ-zero a)

pub new_biquad_is : (s : Stage) (half : ℤ) → half ≡ pos (half_of s.round s.q)
    → biquad s half half half ≡ new_biquad s
unfolding new_biquad
new_biquad_is s half is =
    let h = pos (half_of s.round s.q) in
    let later = nothing_added h s.b2 s.a2 in
    let next = nothing_added (h +ℤ (s.b2 *ℤ pos 0 -ℤ s.a2 *ℤ pos 0)) s.b1 s.a1 ∙ later in
    ap (λ x. biquad s x x x) is
    ∙ ap (λ x. biquad s h x h) (sym next)
    ∙ ap (λ x. biquad s h (h +ℤ (s.b2 *ℤ pos 0 -ℤ s.a2 *ℤ pos 0)
    +ℤ (s.b1 *ℤ pos 0 -ℤ s.a1 *ℤ pos 0)) x) (sym later)

-- The half is at most that of the greatest divisor.
pub half_of-bound : (round : Rounding) (q : ℕ) → q ≤ 30 → half_of round q ≤ 2 ^ 29
half_of-bound Floor q low = omega arith
half_of-bound Nearest q low = pow_mono {i = q - 1} {j = 29} (omega arith)

-- What a step leaves is what it is to hold.
pub moved_on_is : (b : Biquad) (x y first second : ℤ) → y ≡ answer_of b x
    → first ≡ b.stage.b1 *ℤ x -ℤ b.stage.a1 *ℤ y → second ≡ b.stage.b2 *ℤ x -ℤ b.stage.a2 *ℤ y
    → biquad b.stage b.half (b.later +ℤ first) (b.half +ℤ second) ≡ moved_on b x
moved_on_is b x y first second answered one two =
    let s = b.stage in
    ap (λ p. biquad s b.half (b.later +ℤ p) (b.half +ℤ second)) one
    ∙ ap (λ p. biquad s b.half (b.later +ℤ (s.b1 *ℤ x -ℤ s.a1 *ℤ y)) (b.half +ℤ p)) two
    ∙ ap (λ z. biquad s b.half (b.later +ℤ (s.b1 *ℤ x -ℤ s.a1 *ℤ z))
    (b.half +ℤ (s.b2 *ℤ x -ℤ s.a2 *ℤ z))) answered
