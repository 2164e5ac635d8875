-- The text of a journal, and that of an output, is of one list of lines.
use Rattle.std.proofs.Common.{◌≡◌, ℕ, List, [], ◌∷◌, ◌++◌, All, ap, codes}
use Rattle.std.proofs.lemmas.List.Elements.{recursion_from_All}
use Rattle.std.specs.List.{flat_map}
use Rattle.plum_scale.specs.Laws.{OneClass, OneIntensity}
use Rattle.plum_text.specs.declared.lines.JournalLine.{JournalLine}
use Rattle.plum_text.specs.declared.lines.OutLine.{OutLine}
use Rattle.plum_text.specs.Fields.{fields}
use Rattle.plum_text.specs.Lines.{journal_fields, journal_line, FitsJournal, kind_of, out_fields}
use Rattle.plum_text.specs.Lines.{out_line, FitsOut}
use Rattle.plum_text.proofs.OneLine.{same_journal_line, same_out_line}
use Rattle.plum_text.proofs.OneText.{Lacks-line, one_text}
use Rattle.plum_text.proofs.Words.{journal_kind_no_line_feed, journal_no_line_feed}
use Rattle.plum_text.proofs.Words.{out_kind_no_line_feed, out_no_line_feed}

-- the text of a journal
pub same_journal_text : OneIntensity → (ls ks : List JournalLine) → All FitsJournal ls
    → All FitsJournal ks → flat_map journal_line ls ≡ flat_map journal_line ks → ls ≡ ks
same_journal_text one_intensity ls ks fl fk e =
    let body : JournalLine → List ℕ = λ l. codes "E" ++ fields (journal_fields l) in
    one_text body FitsJournal
    (λ l fits.
    Lacks-line (codes "E") (journal_fields l) journal_kind_no_line_feed
    (journal_no_line_feed l fits))
    (λ l k fl fk e.
    same_journal_line one_intensity l k fl fk (ap (λ bytes. bytes ++ 10 ∷ []) e))
    ls ks (recursion_from_All FitsJournal ls fl) (recursion_from_All FitsJournal ks fk) e

-- the text of an output
pub same_out_text : OneIntensity → OneClass → (ls ks : List OutLine) → All FitsOut ls
    → All FitsOut ks → flat_map out_line ls ≡ flat_map out_line ks → ls ≡ ks
same_out_text one_intensity one_class ls ks fl fk e =
    let body : OutLine → List ℕ = λ l. kind_of l ++ fields (out_fields l) in
    one_text body FitsOut
    (λ l fits.
    Lacks-line (kind_of l) (out_fields l) (out_kind_no_line_feed l) (out_no_line_feed l fits))
    (λ l k fl fk e.
    same_out_line one_intensity one_class l k fl fk (ap (λ bytes. bytes ++ 10 ∷ []) e))
    ls ks (recursion_from_All FitsOut ls fl) (recursion_from_All FitsOut ks fk) e
