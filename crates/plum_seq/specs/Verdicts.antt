-- The verdicts on a station's keys, judged one after another (the project's own rule of keys).
use Rattle.std.specs.Prelude.{◌≡◌, true, false, List}
use Rattle.plum_base.specs.declared.numbers.Key.{Key}
use Rattle.plum_seq.specs.Keys.{is_above_all, greatest_key, is_fresh_after, IsGreatestKey}
use Rattle.plum_seq.specs.declared.seq.Verdict.{Verdict}
use Rattle.plum_seq.specs.declared.seq.Verdict.TheVariants.{Continues, Fresh, Repeat}

-- The verdict on the next key after these.
abbrev pub IsVerdict : List Key → Key → Verdict → Type 0
IsVerdict earlier key Continues =
    (is_above_all earlier key ≡ true) × (is_fresh_after (greatest_key earlier) key ≡ false)
IsVerdict earlier key Fresh =
    (is_above_all earlier key ≡ true) × (is_fresh_after (greatest_key earlier) key ≡ true)
IsVerdict earlier key (Repeat last) =
    (is_above_all earlier key ≡ false) × IsGreatestKey earlier last
