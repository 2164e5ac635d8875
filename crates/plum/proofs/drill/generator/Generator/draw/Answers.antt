use Rattle.std.proofs.Common.{ℕ, ◌/◌, ◌^◌, ap, ◌∙◌}
use Rattle.plum.specs.Draws.{state_after, draw}
use Rattle.plum.proofs.Drawing.{next_state_is}
use Rattle.plum.proofs.drill.generator.Generator.draw.Goals as goal

pub returns-clause-state : goal.returns-clause-state
unfolding state_after
returns-clause-state c =
    next_state_is c.self.inside.state ∙ ap (λ (s : ℕ). state_after s 1) c.self.view_is

pub returns-clause-drawn : goal.returns-clause-drawn
unfolding state_after draw
returns-clause-drawn c = ap (λ (s : ℕ). s / 2 ^ 32)
    (next_state_is c.self.inside.state ∙ ap (λ (s : ℕ). state_after s 1) c.self.view_is)
