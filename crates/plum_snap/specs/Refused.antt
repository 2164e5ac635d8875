-- What the count of refused places tells of an opening.
use Rattle.std.specs.Prelude.{◌≡◌, ℕ, Result, MatchResult}
use Rattle.plum_snap.specs.declared.opening.OpenFault.{OpenFault}
use Rattle.plum_snap.specs.declared.opening.OpenFault.TheVariants.{NoPlace, NoMemory}
use Rattle.plum_snap.specs.Doors.{Rose}

-- a place was refused, which was counted; or memory was, and no place
abbrev pub IsRefused : ℕ → ℕ → OpenFault → Type 0
IsRefused before now NoPlace = Rose before now
IsRefused before now NoMemory = now ≡ before

-- the count after an opening: as before, but where that was refused
abbrev pub CountsRefused : {T : Type 0} → Result T OpenFault → ℕ → ℕ → Type 0
CountsRefused opened before now = MatchResult opened (λ _. now ≡ before) (IsRefused before now)
