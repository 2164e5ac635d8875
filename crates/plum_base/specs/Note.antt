-- What the journal tells of an entry (the project's own rule).
use Rattle.plum_base.specs.declared.entry.Entry.{Entry}
use Rattle.plum_base.specs.declared.note.Note.{Note}

-- an entry without its samples
abbrev pub note_of : Entry → Note
note_of e = record { station = e.station; key = e.key; fresh = e.fresh; value = e.value }
