-- What loading an input takes of it.
use Rattle.std.specs.Prelude.{◌≡◌, ℕ, ◌+◌, ◌<◌, ◌≤◌, List, [], length, drop, Some}
use Rattle.plum_host.specs.declared.host.In.{In}
use Rattle.plum_host.specs.declared.loading.LoadFault.{LoadFault}
use Rattle.plum_host.specs.declared.loading.LoadFault.TheVariants.{Read, TooLong, NoMemory}
use Rattle.plum_host.specs.Counting.{CountsNothing, CountsRead}
use Rattle.plum_host.specs.Told.{HostView, WhereTold}

-- Where the host tells what is left of the input, the bytes are all of that, and nothing is left
-- then.
abbrev pub IsLoadedWhole : In → List ℕ → HostView → HostView → Type 0
IsLoadedWhole file bytes before after =
    WhereTold before file (λ all. (bytes ≡ all) × (after.left file ≡ Some []))

-- Where the host tells it, a front of it was taken, of no more bytes than these.
abbrev pub TakesAtMost : ℕ → In → HostView → HostView → Type 0
TakesAtMost most file before after = WhereTold before file (λ all.
    (n : ℕ) × (n ≤ most) × (n ≤ length all) × (after.left file ≡ Some (drop n all)))

-- Where the host tells it, it has more bytes than the limit, and one byte more was taken.
abbrev pub IsTooLong : ℕ → In → HostView → HostView → Type 0
IsTooLong limit file before after = WhereTold before file (λ all.
    (limit < length all) × (after.left file ≡ Some (drop (limit + 1) all)))

-- a read that failed, and nothing else
abbrev pub CountsLoadFault : LoadFault → HostView → HostView → Type 0
CountsLoadFault Read before after = CountsRead before after
CountsLoadFault (TooLong limit) before after = CountsNothing before after
CountsLoadFault NoMemory before after = CountsNothing before after
