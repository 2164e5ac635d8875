use Rattle.std.proofs.Common.{[], ◌∷◌, length}
use Rattle.std.proofs.lemmas.List.Elements.{recursion_from_All}
use Rattle.plum_text.specs.Texts.{notes_from, journal_lines, out_lines, IsWhole, totals_line}
use Rattle.plum_text.specs.Texts.{totals_of}
use Rattle.plum_text.proofs.OneNote.{one_list, listed}
use Rattle.plum_text.proofs.OneSection.{same_sections}
use Rattle.plum_text.proofs.TextLines.{same_journal_text, same_out_text}
use Rattle.plum_text.proofs.laws.texts_tell_a_run.Goals as goal

pub returns-clause-journal : goal.returns-clause-journal
returns-clause-journal c = λ stations parts others distinct told others_told e.
    let lines =
    same_journal_text c.texts_are_distinct.ensures.intensity (journal_lines stations parts)
    (journal_lines stations others) told.fits others_told.fits e in
    one_list stations distinct 1 (notes_from 1 parts) (notes_from 1 others)
    (listed stations parts told.listed) (listed stations others others_told.listed) lines

pub returns-clause-output : goal.returns-clause-output
returns-clause-output c = λ targets sections others tail other_tail told others_told e.
    let law = c.texts_are_distinct.ensures in
    let lines =
    same_out_text law.intensity law.class (out_lines targets sections tail)
    (out_lines targets others other_tail) told.fits others_told.fits e in
    same_sections targets 1 sections others tail other_tail
    (totals_line (length sections) (totals_of sections) ∷ [])
    (totals_line (length others) (totals_of others) ∷ [])
    (recursion_from_All (IsWhole targets) sections told.whole)
    (recursion_from_All (IsWhole targets) others others_told.whole) lines
