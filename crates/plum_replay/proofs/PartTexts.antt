-- The texts of a run with one segment or one mark more, and the lines of a mark one by one.
use Rattle.std.proofs.Common.{◌≡◌, ℕ, ◌+◌, ◌<◌, List, [], ◌∷◌, ◌++◌, length, map, drop, zip, get_or}
use Rattle.std.proofs.Common.{min, Option, Some, None, refl, sym, ap, ap₂, ◌∙◌, arith}
use Rattle.std.proofs.Common.{append-nil, append_assoc, add-zero}
use Rattle.std.proofs.lemmas.Grind.{flat_map-append}
use Rattle.std.proofs.lemmas.List.{length-map, length-append, drop_more, drop_all}
use Rattle.std.proofs.lemmas.List.Sums.{sum_by_push}
use Rattle.std.proofs.lemmas.Option.{slice_get_within, get_or_from_slice_get}
use Rattle.std.proofs.lemmas.Simd.{map-map}
use Rattle.std.proofs.lemmas.Slice.Zip.{length-zip, get_or-zip}
use Rattle.std.specs.List.{flat_map}
use Rattle.std.specs.Prelude.{slice_get}
use Rattle.plum_base.specs.declared.answers.Reading.{Reading}
use Rattle.plum_base.specs.declared.entry.Entry.{Entry}
use Rattle.plum_base.specs.declared.note.Note.{Note}
use Rattle.plum_base.specs.declared.numbers.Tenths.{Tenths}
use Rattle.plum_base.specs.declared.rules.Alert.{Alert}
use Rattle.plum_base.specs.declared.sites.StationSite.{StationSite}
use Rattle.plum_base.specs.declared.sites.TargetSite.{TargetSite}
use Rattle.plum_base.specs.Sites.{areas_of}
use Rattle.plum_text.specs.declared.lines.OutLine.{OutLine}
use Rattle.plum_text.specs.Lines.{journal_line, out_line}
use Rattle.plum_base.specs.Note.{note_of}
use Rattle.plum_text.specs.Texts.{Section, notes_from, line_of_note, lines_from}
use Rattle.plum_text.specs.Texts.{journal_text, answer_line, area_lines, areas_lines}
use Rattle.plum_text.specs.Texts.{section_lines, sections_lines, totals_of, end_lines, out_text}
use Rattle.plum_replay.specs.Parts.{notes_text, section_text, sections_text}

-- the entries of a part, each as a note of a segment
abbrev notes_of : ℕ → List Entry → List (ℕ × Note)
notes_of segment part = map (λ e. (segment, note_of e)) part

-- one part more
notes_from-push : (segment : ℕ) (parts : List (List Entry)) (part : List Entry)
    → notes_from segment (parts ++ part ∷ [])
    ≡ notes_from segment parts ++ notes_of (segment + length parts) part
notes_from-push segment [] part =
    append-nil (notes_of segment part)
    ∙ ap (λ s. notes_of s part) (sym (add-zero segment))
notes_from-push segment (p ∷ ps) part =
    let later : segment + 1 + length ps ≡ segment + length (p ∷ ps) = omega arith in
    ap (λ notes. notes_of segment p ++ notes) (notes_from-push (segment + 1) ps part)
    ∙ sym (append_assoc (notes_of segment p) (notes_from (segment + 1) ps) _)
    ∙ ap (λ s. notes_from segment (p ∷ ps) ++ notes_of s part) later

-- there is a note for each entry
length-notes_from : (segment : ℕ) (parts : List (List Entry))
    → length (notes_from segment parts) ≡ length (flat_map (λ p. p) parts)
length-notes_from segment [] = refl
length-notes_from segment (p ∷ ps) =
    let later = length-notes_from (segment + 1) ps in
    simp (length-append, length-map) (omega arith)

-- notes behind notes
lines_from-append : (stations : List StationSite) (n : ℕ) (notes more : List (ℕ × Note))
    → lines_from stations n (notes ++ more)
    ≡ lines_from stations n notes ++ lines_from stations (n + length notes) more
lines_from-append stations n [] more = ap (λ n. lines_from stations n more) (sym (add-zero n))
lines_from-append stations n (note ∷ notes) more =
    let later : n + 1 + length notes ≡ n + length (note ∷ notes) = omega arith in
    ap (λ lines. line_of_note stations n note ∷ lines)
    (lines_from-append stations (n + 1) notes more)
    ∙ ap (λ k. lines_from stations n (note ∷ notes) ++ lines_from stations k more) later

-- A journal with one part more has the lines of its entries behind the others.
pub journal_text-push : (stations : List StationSite) (parts : List (List Entry))
    (part : List Entry)
    → journal_text stations (parts ++ part ∷ [])
    ≡ journal_text stations parts ++ notes_text stations (length parts + 1)
    (length (flat_map (λ p. p) parts) + 1) (map note_of part)
journal_text-push stations parts part =
    let before = notes_from 1 parts in
    let notes = notes_of (1 + length parts) part in
    let segment : 1 + length parts ≡ length parts + 1 = omega arith in
    let first : 1 + length before ≡ length (flat_map (λ p. p) parts) + 1 =
    omega (arith, length-notes_from 1 parts) in
    let told : map (λ note. (length parts + 1, note)) (map note_of part) ≡ notes =
    map-map (λ note. (length parts + 1, note)) note_of part
    ∙ ap (λ s. notes_of s part) (sym segment) in
    ap (λ notes. flat_map journal_line (lines_from stations 1 notes)) (notes_from-push 1 parts part)
    ∙ ap (flat_map journal_line) (lines_from-append stations 1 before notes)
    ∙ flat_map-append journal_line (lines_from stations 1 before) _
    ∙ ap₂ (λ n notes. journal_text stations parts
    ++ flat_map journal_line (lines_from stations n notes)) first (sym told)

-- one section more
sections_lines-push : (targets : List TargetSite) (m : ℕ) (sections : List Section)
    (section : Section)
    → sections_lines targets m (sections ++ section ∷ [])
    ≡ sections_lines targets m sections ++ section_lines targets (m + length sections) section
sections_lines-push targets m [] section =
    append-nil (section_lines targets m section)
    ∙ ap (λ m. section_lines targets m section) (sym (add-zero m))
sections_lines-push targets m (s ∷ ss) section =
    let later : m + 1 + length ss ≡ m + length (s ∷ ss) = omega arith in
    ap (λ lines. section_lines targets m s ++ lines)
    (sections_lines-push targets (m + 1) ss section)
    ∙ sym (append_assoc (section_lines targets m s) (sections_lines targets (m + 1) ss) _)
    ∙ ap (λ k. sections_lines targets m (s ∷ ss) ++ section_lines targets k section) later

-- The sections of one mark more end with its section.
pub sections_text-push : (targets : List TargetSite) (sections : List Section) (section : Section)
    → sections_text targets (sections ++ section ∷ [])
    ≡ sections_text targets sections ++ section_text targets (length sections + 1) section
sections_text-push targets sections section =
    let at : 1 + length sections ≡ length sections + 1 = omega arith in
    ap (flat_map out_line) (sections_lines-push targets 1 sections section)
    ∙ flat_map-append out_line (sections_lines targets 1 sections) _
    ∙ ap (λ m. sections_text targets sections ++ section_text targets m section) at

-- An output is its sections and its end.
pub out_text-parts : (targets : List TargetSite) (sections : List Section) (tail : ℕ)
    → out_text targets sections tail ≡ sections_text targets sections ++ flat_map out_line
    (end_lines tail (length sections) (totals_of sections))
out_text-parts targets sections tail =
    flat_map-append out_line (sections_lines targets 1 sections) _

-- The totals with one section more are the sums.
pub totals_of-push : (sections : List Section) (section : Section)
    → totals_of (sections ++ section ∷ []) ≡ record {
      bodies = (totals_of sections).bodies + section.counts.bodies;
      kept = (totals_of sections).kept + section.counts.kept;
      repeats = (totals_of sections).repeats + section.counts.repeats;
      refused = (totals_of sections).refused + section.counts.refused;
    }
totals_of-push sections section = simp sum_by_push

-- lines are written, and the others are left
lines_more : (lines left all : List OutLine) (out new whole : List ℕ) → all ≡ lines ++ left
    → new ≡ out ++ flat_map out_line lines → out ++ flat_map out_line all ≡ whole
    → new ++ flat_map out_line left ≡ whole
lines_more lines left all out new whole cut written so_far =
    ap (λ out. out ++ flat_map out_line left) written
    ∙ append_assoc out (flat_map out_line lines) (flat_map out_line left)
    ∙ ap (λ text. out ++ text)
    (sym (flat_map-append out_line lines left) ∙ ap (flat_map out_line) (sym cut))
    ∙ so_far

-- the lines of the areas from the a-th on, from 0
abbrev pub areas_left : List TargetSite → ℕ → List Reading → List (Option Alert) → ℕ
    → List OutLine
areas_left targets m readings alerts a =
    areas_lines targets m (drop a (areas_of targets)) (drop a readings) (drop a alerts)

-- an area is written, and the others are left
pub area_more : (targets : List TargetSite) (m : ℕ) (readings : List Reading)
    (alerts : List (Option Alert)) (a : ℕ) (area : List ℕ) (reading : Reading)
    (out new whole : List ℕ) → length readings ≡ length (areas_of targets)
    → length alerts ≡ length (areas_of targets)
    → slice_get (areas_of targets) a ≡ Some area → reading ≡ get_or readings a reading
    → new ≡ out ++ flat_map out_line
    (area_lines targets m area reading (get_or alerts a None))
    → out ++ flat_map out_line (areas_left targets m readings alerts a) ≡ whole
    → new ++ flat_map out_line (areas_left targets m readings alerts (a + 1)) ≡ whole
area_more targets m readings alerts a area reading out new whole rs others named here =
    let areas = areas_of targets in
    let inside : a < length areas = slice_get_within areas a area named in
    let alert = get_or alerts a None in
    let first : drop a areas ≡ area ∷ drop (a + 1) areas = drop_more areas a area inside
    ∙ ap (λ area. area ∷ drop (a + 1) areas) (get_or_from_slice_get areas a area area named) in
    let second : drop a readings ≡ reading ∷ drop (a + 1) readings =
    drop_more readings a reading (omega arith) ∙ ap (λ r. r ∷ drop (a + 1) readings) (sym here) in
    let third : drop a alerts ≡ alert ∷ drop (a + 1) alerts =
    drop_more alerts a None (omega arith) in
    lines_more (area_lines targets m area reading alert)
    (areas_left targets m readings alerts (a + 1)) (areas_left targets m readings alerts a) out new
    whole (rw (first, second, third))

-- the lines of the answers from the n-th on, from 0, each beside its target
abbrev pub answers_left : ℕ → List (TargetSite × Option Tenths) → ℕ → List OutLine
answers_left m asked n = map (λ a. answer_line m a.0 a.1) (drop n asked)

module _ (m : ℕ) (those : List TargetSite) (answers : List (Option Tenths)) (n : ℕ) where
  abbrev asked : List (TargetSite × Option Tenths)
  asked = zip those answers

  -- an answer is written, and the others are left
  pub answer_more : (site : TargetSite) (answer : Option Tenths) (out new whole : List ℕ)
      → slice_get those n ≡ Some site → slice_get answers n ≡ Some answer
      → new ≡ out ++ out_line (answer_line m site answer)
      → out ++ flat_map out_line (answers_left m asked n) ≡ whole
      → new ++ flat_map out_line (answers_left m asked (n + 1)) ≡ whole
  answer_more site answer out new whole is_site is_answer written so_far =
      let pair : TargetSite → Option Tenths → TargetSite × Option Tenths = λ s c. (s, c) in
      let a : TargetSite × Option Tenths = (site, answer) in
      let listed : n < length those = slice_get_within those n site is_site in
      let answered : n < length answers = slice_get_within answers n answer is_answer in
      let here : get_or asked n a ≡ a =
      get_or-zip those answers n a listed answered
      ∙ ap₂ pair (get_or_from_slice_get those n site site is_site)
      (get_or_from_slice_get answers n answer answer is_answer) in
      let first : drop n asked ≡ a ∷ drop (n + 1) asked =
      drop_more asked n a (omega (arith, length-zip those answers))
      ∙ ap (λ a. a ∷ drop (n + 1) asked) here in
      let line = answer_line m site answer in
      lines_more (line ∷ []) (answers_left m asked (n + 1)) (answers_left m asked n) out new whole
      (ap (map (λ a. answer_line m a.0 a.1)) first)
      (written ∙ ap (λ text. out ++ text) (sym (append-nil (out_line line)))) so_far

  -- no answer is left
  pub no_answer_more : (out whole : List ℕ) → n ≡ min (length those) (length answers)
      → out ++ flat_map out_line (answers_left m asked n) ≡ whole → out ≡ whole
  no_answer_more out whole is so_far =
      let left : drop n asked ≡ [] =
      drop_all n asked (omega (arith, length-zip those answers)) in
      sym (append-nil out) ∙ ap (λ asked. out
      ++ flat_map out_line (map (λ a. answer_line m a.0 a.1) asked)) (sym left) ∙ so_far
