-- How many bodies came, and what became of them.
use Rattle.std.specs.Prelude.{◌≡◌, ◌+◌}
use Rattle.plum_base.specs.declared.counts.Counts.{Counts}

-- Each body is counted once: it is kept, a repeat, or refused.
abbrev pub AddUp : Counts → Type 0
AddUp counts = counts.bodies ≡ counts.kept + counts.repeats + counts.refused
