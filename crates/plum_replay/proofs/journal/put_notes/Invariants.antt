use Rattle.std.proofs.Common.{◌≡◌, ◌+◌, ◌++◌, drop}
use Rattle.plum_replay.specs.Parts.{notes_text}
use Rattle.plum_replay.proofs.journal.put_notes.Given as goal

-- the lines so far and those of what is left are all
abbrev pub invariant-loop-i : goal.invariant-loop-i
invariant-loop-i l =
    l.out ++ notes_text l.stations l.segment (l.before + l.i + 1) (drop l.i l.notes) ≡ l.fn.out
    ++ notes_text l.stations l.segment (l.before + 1) l.notes
