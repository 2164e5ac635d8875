-- The numbers of a drill: a linear congruential generator, with the multiplier and the increment of
-- Knuth's MMIX. That a draw is the upper half of the state is the project's own.
use Rattle.std.specs.Prelude.{ℕ, zero, suc, ◌+◌, ◌*◌, ◌/◌, ◌%◌, ◌^◌}

-- the state behind this one
unfoldable pub next_state : ℕ → ℕ
next_state s = (s * 6364136223846793005 + 1442695040888963407) % 2 ^ 64

-- the state after so many draws
unfoldable pub state_after : ℕ → ℕ → ℕ
state_after s zero = s
state_after s (suc n) = next_state (state_after s n)

-- draw n from this state on, counted from 0
unfoldable pub draw : ℕ → ℕ → ℕ
draw s n = state_after s (n + 1) / 2 ^ 32
