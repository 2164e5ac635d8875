use Rattle.std.proofs.Common.{◌≡◌, ℕ, ◌+◌, refl, ap, ◌∙◌, w32, FitsSigned, rules}
use Rattle.std.proofs.lemmas.Int.{to_z-of_z}
use Rattle.plum.specs.Draws.{state_after}
use Rattle.plum.specs.DrillCapture.{component_at}
use Rattle.plum.proofs.Drawing.{component-sum, state_after-sum, sample_is}
use Rattle.plum.proofs.drill.generator.Generator.sample.Goals as goal

-- one draw more
one_more : (s t u m k : ℕ) → t ≡ state_after s m → u ≡ state_after t 1 → m + 1 ≡ k
    → u ≡ state_after s k
one_more s t u m k et eu e = eu ∙ ap (λ (v : ℕ). state_after v 1) et ∙ state_after-sum s m 1 k e

pub returns-clause-state : goal.returns-clause-state
returns-clause-state c =
    let s = c.args.self.now in
    let two = one_more s _ _ 1 2 c.component-x.ensures.state c.component-y.ensures.state refl in
    one_more s _ _ 2 3 two c.component-z.ensures.state refl

pub returns-clause-drawn : goal.returns-clause-drawn
returns-clause-drawn c =
    let s = c.args.self.now in
    let a = c.args.amplitude in
    let x = c.component-x in
    let y = c.component-y in
    let z = c.component-z in
    let fits_x : FitsSigned w32 x.result = search rules in
    let fits_y : FitsSigned w32 y.result = search rules in
    let fits_z : FitsSigned w32 z.result = search rules in
    let two = one_more s _ _ 1 2 x.ensures.state y.ensures.state refl in
    sample_is s a 0 _ _ _
    (to_z-of_z w32 x.result fits_x ∙ x.ensures.drawn)
    (to_z-of_z w32 y.result fits_y ∙ y.ensures.drawn
    ∙ ap (λ (t : ℕ). component_at t a 0) x.ensures.state ∙ component-sum s 1 a 0 1 refl)
    (to_z-of_z w32 z.result fits_z ∙ z.ensures.drawn
    ∙ ap (λ (t : ℕ). component_at t a 0) two ∙ component-sum s 2 a 0 2 refl)
