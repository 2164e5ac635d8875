-- Names of targets and areas (the project's own rule).
use Rattle.std.specs.Prelude.{◌≡◌, ℕ, ◌≤◌, ◌⊎◌, List, length, All}

-- A to Z, a to z, 0 to 9 or _
abbrev pub IsNameByte : ℕ → Type 0
IsNameByte b = ((65 ≤ b) × (b ≤ 90)) ⊎ ((97 ≤ b) × (b ≤ 122)) ⊎ ((48 ≤ b) × (b ≤ 57)) ⊎ (b ≡ 95)

-- the most bytes of a name
abbrev pub LONGEST_NAME : ℕ
LONGEST_NAME = 16

-- one such byte or more, and not too many
pub record IsName (bytes : List ℕ) : Type 0 where
  pub some : 1 ≤ length bytes
  pub few : length bytes ≤ LONGEST_NAME
  pub each : All IsNameByte bytes
