-- Calls that fail by a schedule. Reads and writes have one each.
use Rattle.std.specs.Prelude.{ℕ, ◌+◌, min, Bool, false, ◌==◌, List, count_by, Option, Some, None}
use Rattle.std.specs.List.{list_any, range_with_len}
use Rattle.plum_base.specs.Counting.{one_more}

-- how many bytes a call moves at most, the numbers of the calls that fail, from 1, and how many
-- calls were made
pub record ScheduleView : Type 0 where
  pub step : ℕ
  pub failing : List ℕ
  pub made : ℕ

-- the schedule of such calls, of which none was made
abbrev pub schedule_of : ℕ → List ℕ → ScheduleView
schedule_of step failing = record { step = step; failing = failing; made = 0 }

-- whether the call of this number is listed
abbrev pub is_listed : List ℕ → ℕ → Bool
is_listed numbers call = list_any (λ number. number == call) numbers

-- whether the next call fails: without a schedule it does not
abbrev pub next_fails : Option ScheduleView → Bool
next_fails None = false
next_fails (Some s) = is_listed s.failing (s.made + 1)

-- how many bytes of so many the next call moves at most: without a schedule all
abbrev pub most_moved : Option ScheduleView → ℕ → ℕ
most_moved None asked = asked
most_moved (Some s) asked = min s.step asked

-- the schedule after one call more
abbrev pub one_call_more : Option ScheduleView → Option ScheduleView
one_call_more None = None
one_call_more (Some s) = Some (record s { made = one_more s.made })

-- how many of the calls that were made have failed: those of a listed number, each once
abbrev pub failed_calls : Option ScheduleView → ℕ
failed_calls None = 0
failed_calls (Some s) = count_by (is_listed s.failing) (range_with_len 1 s.made)
