-- The texts of one segment, and of a mark.
use Rattle.std.specs.Prelude.{ℕ, List, map}
use Rattle.std.specs.List.{flat_map}
use Rattle.plum_base.specs.declared.note.Note.{Note}
use Rattle.plum_base.specs.declared.sites.StationSite.{StationSite}
use Rattle.plum_base.specs.declared.sites.TargetSite.{TargetSite}
use Rattle.plum_text.specs.Lines.{journal_line, out_line}
use Rattle.plum_text.specs.Texts.{Section, lines_from, section_lines, sections_lines}

-- the journal lines of the notes of a segment, the first of them at position n of the journal
abbrev pub notes_text : List StationSite → ℕ → ℕ → List Note → List ℕ
notes_text stations segment n notes =
    flat_map journal_line (lines_from stations n (map (λ note. (segment, note)) notes))

-- the section of mark m
abbrev pub section_text : List TargetSite → ℕ → Section → List ℕ
section_text targets m section = flat_map out_line (section_lines targets m section)

-- the sections of the marks from 1 on
abbrev pub sections_text : List TargetSite → List Section → List ℕ
sections_text targets sections = flat_map out_line (sections_lines targets 1 sections)
