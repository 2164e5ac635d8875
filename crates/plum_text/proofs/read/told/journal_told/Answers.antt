use Rattle.std.proofs.Common.{◌∙◌, List, ℕ, Bor, map, codes, lit≤, ap}
use Rattle.plum_text.specs.Lines.{journal_fields}
use Rattle.plum_text.proofs.Words.{journal_kind, journal_words}
use Rattle.plum_text.proofs.read.told.journal_told.Goals as goal

pub returns-in_err-words : goal.returns-in_err-words
returns-in_err-words c l is =
    let none_has = journal_words l is.fits in
    let words = c.words_of.ensures (codes "E") (journal_fields l) journal_kind none_has (lit≤ tt) in
    let told = words is.spelled in
    absurd (rw c.in_err-words.was at told)

pub returns : goal.returns
returns c l is =
    let none_has = journal_words l is.fits in
    let words = c.words_of.ensures (codes "E") (journal_fields l) journal_kind none_has (lit≤ tt) in
    let told = words is.spelled in
    let shown = ap (map (λ (w : Bor (List ℕ)). w.now)) c.as_slice.ensures.value in
    c.journal_of_words.ensures l is.fits (shown ∙ rw c.in_ok-words.was at told)
