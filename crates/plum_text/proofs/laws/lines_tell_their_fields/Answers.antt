use Rattle.std.proofs.Common.{sym, ◌∙◌}
use Rattle.plum_text.proofs.OneLine.{same_journal_line, same_out_line}
use Rattle.plum_text.proofs.laws.lines_tell_their_fields.Goals as goal

pub returns-clause-journal : goal.returns-clause-journal
returns-clause-journal c = λ bytes l k is_l is_k.
    same_journal_line c.texts_are_distinct.ensures.intensity l k is_l.fits is_k.fits
    (sym is_l.spelled ∙ is_k.spelled)

pub returns-clause-output : goal.returns-clause-output
returns-clause-output c = λ bytes l k is_l is_k.
    let law = c.texts_are_distinct.ensures in
    same_out_line law.intensity law.class l k is_l.fits is_k.fits (sym is_l.spelled ∙ is_k.spelled)
