-- A section is begun where the journal lines of the segment after its own stand.
use Rattle.std.proofs.Common.{◌≡◌, ℕ, ◌+◌, ◌-◌, ◌≤◌, ◌⊎◌, inl, inr, List, [], ◌∷◌, ◌++◌}
use Rattle.std.proofs.Common.{length, take, drop, sym, ap, ◌∙◌, subst, arith, append-nil}
use Rattle.std.proofs.Common.{append_assoc, length-append}
use Rattle.std.proofs.lemmas.Bool.{cases_lt}
use Rattle.std.proofs.lemmas.List.{take-append-drop, take-take}
use base.Growing.{prefix_trans}
use mathlib.Core.List.{IsPrefix}
use Rattle.plum_base.specs.declared.entry.Entry.{Entry}
use Rattle.plum_base.specs.Sites.{SitesView}
use Rattle.plum_text.specs.Texts.{Section, journal_text}
use Rattle.plum_replay.specs.Begun.{AreInOrder}
use Rattle.plum_replay.specs.Parts.{sections_text}
use Rattle.plum_replay.proofs.PartTexts.{journal_text-push, sections_text-push}

-- A text to which each part adds begins with that of the first parts.
module _ {X : Type 0} (text : List X → List ℕ)
    (grows : (xs : List X) (x : X) → IsPrefix (text xs) (text (xs ++ x ∷ []))) where
  text_front : (front rest : List X) → IsPrefix (text front) (text (front ++ rest))
  text_front front [] =
      ([], append-nil (text front) ∙ ap text (sym (append-nil front)))
  text_front front (x ∷ rest) =
      prefix_trans (text front) (text (front ++ x ∷ [])) (text (front ++ x ∷ rest))
      (grows front x)
      (subst (λ xs. IsPrefix (text (front ++ x ∷ [])) (text xs))
      (append_assoc front (x ∷ []) rest) (text_front (front ++ x ∷ []) rest))

  text_take : (m : ℕ) (xs : List X) → IsPrefix (text (take m xs)) (text xs)
  text_take m xs =
      subst (λ all. IsPrefix (text (take m xs)) (text all)) (take-append-drop m xs)
      (text_front (take m xs) (drop m xs))

  text_takes : (m n : ℕ) (xs : List X) → m ≤ n → IsPrefix (text (take m xs)) (text (take n xs))
  text_takes m n xs less =
      subst (λ front. IsPrefix (text front) (text (take n xs))) (take-take m n xs less)
      (text_take m (take n xs))

-- a beginning is no longer
length-prefix : (xs ys : List ℕ) → IsPrefix xs ys → length xs ≤ length ys
length-prefix xs ys begins =
    omega (arith, ap length begins.1, length-append xs begins.0)

module _ (sites : SitesView) (parts : List (List Entry)) (sections : List Section) where
  abbrev journal_of : List (List Entry) → List ℕ
  journal_of parts = journal_text sites.stations parts

  abbrev output_of : List Section → List ℕ
  output_of sections = sections_text sites.targets sections

  journal_grows : (parts : List (List Entry)) (part : List Entry)
      → IsPrefix (journal_of parts) (journal_of (parts ++ part ∷ []))
  journal_grows parts part = (_, sym (journal_text-push sites.stations parts part))

  output_grows : (sections : List Section) (section : Section)
      → IsPrefix (output_of sections) (output_of (sections ++ section ∷ []))
  output_grows sections section = (_, sym (sections_text-push sites.targets sections section))

  -- The whole journal stands, or all but lines of the k-th segment, and of the output no more than
  -- the sections that do not wait for those.
  abbrev pub AreWritten : ℕ → List ℕ → List ℕ → Type 0
  AreWritten k journal output =
      (journal ≡ journal_of parts)
      ⊎ (IsPrefix (journal_of (take (k - 1) parts)) journal
      × IsPrefix output (output_of (take (k - 2) sections)))

  pub AreInOrder-written : (k : ℕ) (journal output : List ℕ) → AreWritten k journal output
      → AreInOrder sites parts sections journal output
  AreInOrder-written k journal output (inl whole) m more =
      subst (IsPrefix (journal_of (take (m + 2) parts))) (sym whole)
      (text_take journal_of journal_grows (m + 2) parts)
  AreInOrder-written k journal output (inr (stands, begins)) m more = elim (cases_lt m (k - 2)) [
    | inl within ↦
        prefix_trans (journal_of (take (m + 2) parts)) (journal_of (take (k - 1) parts)) journal
        (text_takes journal_of journal_grows (m + 2) (k - 1) parts (omega (arith, within))) stands
    | inr beyond ↦
        let told = text_takes output_of output_grows (k - 2) m sections (omega (arith, beyond)) in
        absurd (omega (
          arith,
          more,
          length-prefix output (output_of (take (k - 2) sections)) begins,
          length-prefix (output_of (take (k - 2) sections)) (output_of (take m sections)) told,
        ))
  ]
