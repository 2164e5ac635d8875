-- Counts of 64 bits, which rise and stand still at their end (the project's own rule).
use Rattle.std.specs.Prelude.{ℕ, ◌+◌, ◌-◌, ◌^◌, min, max}

-- the end of such a count
abbrev pub COUNT_END : ℕ
COUNT_END = 2 ^ 64 - 1

-- the count after so many, from 0
abbrev pub count_after : ℕ → ℕ
count_after n = min n COUNT_END

-- the count after one more
abbrev pub one_more : ℕ → ℕ
one_more count = max count (count_after (count + 1))
