-- The lines of a journal tell its notes.
use Rattle.std.proofs.Common.{◌≡◌, ◌≢◌, ℕ, ◌+◌, ◌<◌, Bool, List, [], ◌∷◌, length, get_or, map}
use Rattle.std.proofs.Common.{All, Option, inl, inr, refl, sym, ap, ◌∙◌, arith}
use Rattle.std.proofs.lemmas.Bool.{cases_lt}
use Rattle.std.proofs.lemmas.List.Elements.{recursion_from_All}
use Rattle.std.proofs.lemmas.Option.{slice_get-get_or}
use Rattle.std.specs.List.{AllByRecursion}
use Rattle.plum_base.specs.declared.entry.Entry.{Entry}
use Rattle.plum_base.specs.declared.note.Note.{Note}
use Rattle.plum_base.specs.declared.numbers.Key.{Key}
use Rattle.plum_base.specs.declared.numbers.Tenths.{Tenths}
use Rattle.plum_base.specs.declared.sites.StationSite.{StationSite}
use Rattle.plum_base.specs.Sites.{AreCodesDistinct}
use Rattle.plum_base.specs.Note.{note_of}
use Rattle.plum_base.proofs.Members.{All-both}
use Rattle.plum_text.specs.Texts.{code_in, code_of_station, line_of_note, lines_from}
use Rattle.plum_text.specs.Texts.{notes_from}

-- the code of a listed station
code_at : (stations : List StationSite) (n : ℕ) (d : StationSite) → n < length stations
    → code_of_station stations n ≡ (get_or stations n d).code
code_at stations n d listed = ap code_in (slice_get-get_or stations n d listed)

-- an earlier station has another code than a later one
apart : (stations : List StationSite) (a b : ℕ) (d : StationSite)
    → AreCodesDistinct stations → a < b
    → b < length stations → code_of_station stations a ≢ code_of_station stations b
apart stations a b d distinct before listed same =
    distinct a b d before listed
    (sym (code_at stations a d (omega arith)) ∙ same ∙ code_at stations b d listed)

-- Listed stations of one code are one.
one_station : (stations : List StationSite) (a b : ℕ) → AreCodesDistinct stations
    → a < length stations
    → b < length stations → code_of_station stations a ≡ code_of_station stations b → a ≡ b
one_station [] a b distinct la lb same = absurd (omega arith)
one_station (s ∷ stations) a b distinct la lb same = elim (cases_lt a b) [
  | inl before ↦ absurd (apart (s ∷ stations) a b s distinct before lb same)
  | inr up_to ↦ elim (cases_lt b a) [
    | inl behind ↦ absurd (apart (s ∷ stations) b a s distinct behind la (sym same))
    | inr both ↦ omega arith
  ]
]

-- a note of these parts, with its segment
numbered : ℕ → ℕ → Key → Bool → Option Tenths → ℕ × Note
numbered segment station key fresh value = (
  segment,
  record { station = record { 0 = station }; key = key; fresh = fresh; value = value },
)

-- the same note, from the same parts
same_numbered : (g₁ g₂ s₁ s₂ : ℕ) (k₁ k₂ : Key) (f₁ f₂ : Bool) (v₁ v₂ : Option Tenths) → g₁ ≡ g₂
    → s₁ ≡ s₂ → k₁ ≡ k₂ → f₁ ≡ f₂ → v₁ ≡ v₂ → numbered g₁ s₁ k₁ f₁ v₁ ≡ numbered g₂ s₂ k₂ f₂ v₂
same_numbered g₁ g₂ s₁ s₂ k₁ k₂ f₁ f₂ v₁ v₂ g s k f v = cc

-- The station of this note is listed.
abbrev pub IsListed : List StationSite → ℕ × Note → Type 0
IsListed stations note = note.1.station.0 < length stations

module _ (stations : List StationSite) (distinct : AreCodesDistinct stations) where
  -- a line tells its note
  one_note : (n : ℕ) (a b : ℕ × Note) → IsListed stations a → IsListed stations b
      → line_of_note stations n a ≡ line_of_note stations n b → a ≡ b
  unfolding numbered
  one_note n a b la lb e =
      same_numbered a.0 b.0 a.1.station.0 b.1.station.0 a.1.key b.1.key a.1.fresh b.1.fresh
      a.1.value b.1.value (ap (λ l. l.segment) e)
      (one_station stations a.1.station.0 b.1.station.0 distinct la lb (ap (λ l. l.station) e))
      (ap (λ l. l.key) e) (ap (λ l. l.fresh) e) (ap (λ l. l.value) e)

  -- Lines from the same position tell their notes.
  pub one_list : (n : ℕ) (notes others : List (ℕ × Note)) → AllByRecursion (IsListed stations) notes
      → AllByRecursion (IsListed stations) others
      → lines_from stations n notes ≡ lines_from stations n others → notes ≡ others
  one_list n [] [] ln lo e = refl
  one_list n [] (b ∷ others) ln lo e = cc
  one_list n (a ∷ notes) [] ln lo e = cc
  one_list n (a ∷ notes) (b ∷ others) ln lo e =
      let first : line_of_note stations n a ≡ line_of_note stations n b = cc in
      let rest : lines_from stations (n + 1) notes ≡ lines_from stations (n + 1) others = cc in
      let note = one_note n a b ln.0 lo.0 first in
      let later = one_list (n + 1) notes others ln.1 lo.1 rest in
      cc

-- This entry's station is listed.
abbrev Has : List StationSite → Entry → Type 0
Has stations e = e.station.0 < length stations

-- then so is that of its note
listed_part : (stations : List StationSite) (segment : ℕ) (part : List Entry)
    → AllByRecursion (Has stations) part
    → AllByRecursion (IsListed stations) (map (λ e. (segment, note_of e)) part)
listed_part stations segment [] are = tt
listed_part stations segment (e ∷ part) are = (are.0, listed_part stations segment part are.1)

listed_parts : (stations : List StationSite) (segment : ℕ) (parts : List (List Entry))
    → AllByRecursion (All (Has stations)) parts
    → AllByRecursion (IsListed stations) (notes_from segment parts)
listed_parts stations segment [] are = tt
listed_parts stations segment (part ∷ parts) are =
    All-both (IsListed stations) (map (λ e. (segment, note_of e)) part)
    (notes_from (segment + 1) parts)
    (listed_part stations segment part (recursion_from_All (Has stations) part are.0))
    (listed_parts stations (segment + 1) parts are.1)

-- Where the stations of all entries are listed, so are those of their notes.
pub listed : (stations : List StationSite) (parts : List (List Entry))
    → All (All (Has stations)) parts → AllByRecursion (IsListed stations) (notes_from 1 parts)
listed stations parts are =
    listed_parts stations 1 parts (recursion_from_All (All (Has stations)) parts are)
