use Rattle.std.proofs.Common.{◌∙◌, ◌≤◌, List, ℕ, Bor, length, map, lit≤, ap}
use Rattle.plum_base.specs.declared.packet.PacketFault.TheVariants.{Short, Magic}
use Rattle.plum_base.specs.declared.packet.PacketFault.TheVariants.{Length}
use Rattle.plum_base.specs.declared.rules.Alert.TheVariants.{Cancel}
use Rattle.plum_text.specs.declared.lines.OutLine.{OutLine}
use Rattle.plum_text.specs.declared.lines.OutLine.TheVariants.{Refused}
use Rattle.plum_text.specs.declared.lines.OutLine.TheVariants.{Alert}
use Rattle.plum_text.specs.Lines.{kind_of, out_fields}
use Rattle.plum_text.proofs.Words.{out_kind, out_words}
use Rattle.plum_text.proofs.read.told.out_told.Goals as goal

-- No line has more than seven fields.
few : (l : OutLine) → length (out_fields l) ≤ 7
few (Refused number Short) = lit≤ tt
few (Refused number Magic) = lit≤ tt
few (Refused number (Length expected found)) = lit≤ tt
few (Refused number fault) = lit≤ tt
few (Alert m area Cancel) = lit≤ tt
few (Alert m area alert) = lit≤ tt
few l = lit≤ tt

pub returns-in_err-words : goal.returns-in_err-words
returns-in_err-words c l is =
    let none_has = out_words l is.fits in
    let words = c.words_of.ensures (kind_of l) (out_fields l) (out_kind l) none_has (few l) in
    let told = words is.spelled in
    absurd (rw c.in_err-words.was at told)

pub returns : goal.returns
returns c l is =
    let none_has = out_words l is.fits in
    let words = c.words_of.ensures (kind_of l) (out_fields l) (out_kind l) none_has (few l) in
    let told = words is.spelled in
    let shown = ap (map (λ (w : Bor (List ℕ)). w.now)) c.as_slice.ensures.value in
    c.out_of_words.ensures l is.fits (shown ∙ rw c.in_ok-words.was at told)
