-- The ranges of a setup's numbers (the project's own).
use Rattle.std.specs.Prelude.{ℕ, ◌^◌, ◌≤◌, Bool, nat_le}
use Rattle.plum_base.specs.declared.bounds.Bounds.{Bounds}
use Rattle.plum_base.specs.declared.rules.Class.{Class}
use Rattle.plum_base.specs.declared.rules.Class.TheVariants.{C0, C1, C2, C3, C4, C5Lower, C5Upper}
use Rattle.plum_base.specs.declared.rules.Class.TheVariants.{C6Lower, C6Upper, C7}
use Rattle.plum_base.specs.declared.rules.Rules.{Rules}
use Rattle.plum_base.specs.Bounds.{IsWithin}

-- the rank of a class on the JMA scale, from the weakest
abbrev pub rank_of : Class → ℕ
rank_of C0 = 0
rank_of C1 = 1
rank_of C2 = 2
rank_of C3 = 3
rank_of C4 = 4
rank_of C5Lower = 5
rank_of C5Upper = 6
rank_of C6Lower = 7
rank_of C6Upper = 8
rank_of C7 = 9

-- the bounds of a gain's g
abbrev pub GAIN_G : Bounds
GAIN_G = record { low = 1; high = 2 ^ 31 }

-- the bounds of its h
abbrev pub GAIN_H : Bounds
GAIN_H = record { low = 0; high = 31 }

-- of how many calm readings in a row cancel an alert
abbrev pub CALM : Bounds
CALM = record { low = 1; high = 1000 }

-- of how many lanes there are
abbrev pub LANES : Bounds
LANES = record { low = 1; high = 16 }

-- of how many entries the queue holds
abbrev pub QUEUE : Bounds
QUEUE = record { low = 1; high = 65536 }

-- counts times g, divided by 2^h
abbrev pub IsGain : ℕ → ℕ → Type 0
IsGain g h = (GAIN_G.low ≤ g) × (g ≤ GAIN_G.high) × (h ≤ GAIN_H.high)

-- A cancel class is not above its raise class.
abbrev pub IsCancelClass : Class → Class → Type 0
IsCancelClass raise cancel = rank_of cancel ≤ rank_of raise

-- the same as a test
abbrev pub is_cancel_class : Class → Class → Bool
is_cancel_class raise cancel = nat_le (rank_of cancel) (rank_of raise)

-- What a desk asks of its rules: that what raises an alert does not cancel it, and that some
-- reading must be calm.
abbrev pub AreDeskRules : Rules → Type 0
AreDeskRules rules = IsCancelClass rules.raise rules.cancel × (CALM.low ≤ rules.calm)

-- They are so, and the calm readings are within their bounds.
abbrev pub AreRules : Rules → Type 0
AreRules rules = AreDeskRules rules × (rules.calm ≤ CALM.high)

-- There may be so many lanes.
abbrev pub IsLaneCount : ℕ → Type 0
IsLaneCount lanes = IsWithin LANES lanes

-- The queue may hold so many entries.
abbrev pub IsQueueBound : ℕ → Type 0
IsQueueBound queue = IsWithin QUEUE queue
