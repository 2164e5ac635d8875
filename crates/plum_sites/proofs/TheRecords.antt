-- Each text has its records, and the first of them are known before the others.
use Rattle.std.proofs.Common.{◌≡◌, ◌⊎◌, ◌<◌, ◌≤◌, ℕ, zero, suc, Bool, true, false, if◌then◌else◌}
use Rattle.std.proofs.Common.{List, [], ◌∷◌, ◌++◌, length, Option, Some, None, refl, sym, ap, ◌∙◌}
use Rattle.std.proofs.Common.{subst, inl, inr, arith}
use Rattle.std.proofs.lemmas.List.{append-nil}
use Rattle.csv.specs.Machine.{Read, next_record, ends_at_end, is_end, step, fields_after}
use Rattle.csv.specs.Machine.{field_after}
use Rattle.csv.specs.Reading.{Reached, AreRecords, default_config, strip_bom}
use Rattle.csv.specs.declared.parser.Config.{Config}
use Rattle.csv.specs.declared.parser.State.{State}
use Rattle.csv.specs.declared.parser.State.TheVariants as st
use Rattle.plum_sites.specs.Records.{AreRecordsOf, AreFirstRecordsOf}

-- a record takes bytes, or it is the last
abbrev Takes : List ℕ → Read → Type 0
Takes xs p = (length p.2 < length xs) ⊎ ((p.1 ≡ st.StartRecord) × (p.2 ≡ []))

takes_last : (ends : Bool) (q p : Read) → q.1 ≡ st.StartRecord → q.2 ≡ []
    → (if ends then Some q else None) ≡ Some p → (p.1 ≡ st.StartRecord) × (p.2 ≡ [])
takes_last true q p s e is =
    let both : Some q ≡ Some p = is in
    let same : q ≡ p = cc both in
    (sym (ap (λ r. r.1) same) ∙ s, sym (ap (λ r. r.2) same) ∙ e)
takes_last false q p s e is = let no : None ≡ Some p = is in cc no

takes_longer : (c : ℕ) (rest : List ℕ) (p : Read) → Takes rest p → Takes (c ∷ rest) p
takes_longer c rest p (inl less) = inl (omega arith)
takes_longer c rest p (inr last) = inr last

takes_byte : (ends : Bool) (q p : Read) (other : Option Read) (c : ℕ) (rest : List ℕ)
    → q.2 ≡ rest → (if ends then Some q else other) ≡ Some p
    → (other ≡ Some p → Takes rest p) → Takes (c ∷ rest) p
takes_byte true q p other c rest e is more =
    let both : Some q ≡ Some p = is in
    let same : q ≡ p = cc both in
    let left : length p.2 ≡ length rest = ap length (sym (ap (λ r. r.2) same) ∙ e) in
    inl (omega arith)
takes_byte false q p other c rest e is more = takes_longer c rest p (more is)

takes : (cfg : Config) (xs : List ℕ) (s : State) (fields : List (List ℕ)) (field : List ℕ)
    (p : Read) → next_record cfg s fields field xs ≡ Some p → Takes xs p
unfolding next_record
takes cfg [] s fields field p is =
    inr (takes_last (ends_at_end s) (fields ++ (field ∷ []), st.StartRecord, []) p refl refl is)
takes cfg (c ∷ rest) s fields field p is =
    let fields2 = fields_after (step cfg s c).1 fields field in
    let field2 = field_after (step cfg s c).1 c field in
    takes_byte (is_end (step cfg s c).1) (fields2, (step cfg s c).0, rest) p
    (next_record cfg (step cfg s c).0 fields2 field2 rest) c rest refl is
    (takes cfg rest (step cfg s c).0 fields2 field2 p)

abbrev HasRecords : Config → State → List ℕ → Type 0
HasRecords cfg s xs = (rows : List (List (List ℕ))) × AreRecords cfg s xs rows

has_by_next : (cfg : Config) (s : State) (xs : List ℕ)
    → ((s2 : State) (ys : List ℕ) → length ys < length xs → HasRecords cfg s2 ys)
    → (next : Option Read) → next_record cfg s [] [] xs ≡ next → HasRecords cfg s xs
unfolding Reached next_record
has_by_next cfg s xs shorter None is = ([], (s, xs, (refl, refl), is))
has_by_next cfg s xs shorter (Some p) is =
    elim (takes cfg xs s [] [] p is) [
      | inl less ↦
          let rest = shorter p.1 p.2 less in
          (p.0 ∷ rest.0, (rest.1.0, rest.1.1, (p, is, refl, rest.1.2), rest.1.3))
      | inr last ↦
          let none = subst (λ t. next_record cfg t [] [] p.2 ≡ None) (sym last.0)
          (subst (λ l. next_record cfg st.StartRecord [] [] l ≡ None) (sym last.1) refl) in
          (p.0 ∷ [], (p.1, p.2, (p, is, refl, (refl, refl)), none))
    ]

has_records : (cfg : Config) (n : ℕ) (s : State) (xs : List ℕ) → length xs ≤ n
    → HasRecords cfg s xs
has_records cfg zero s xs l =
    has_by_next cfg s xs (λ s2 ys less. absurd (omega arith)) (next_record cfg s [] [] xs) refl
has_records cfg (suc n) s xs l =
    has_by_next cfg s xs (λ s2 ys less. has_records cfg n s2 ys (omega arith))
    (next_record cfg s [] [] xs) refl

pub some_records : (bytes : List ℕ) → (records : List (List (List ℕ))) × AreRecordsOf bytes records
some_records bytes =
    has_records default_config (length (strip_bom bytes)) st.StartRecord (strip_bom bytes)
    (omega arith)

-- the records behind those that were read
are_joined : (cfg : Config) (s s2 : State) (xs ys : List ℕ) (first rest : List (List (List ℕ)))
    → Reached cfg s xs first s2 ys → AreRecords cfg s2 ys rest
    → AreRecords cfg s xs (first ++ rest)
unfolding Reached
are_joined cfg s s2 xs ys [] rest at are = rw (at.0, at.1) are
are_joined cfg s s2 xs ys (r ∷ first) rest at are =
    let more = are_joined cfg at.0.1 s2 at.0.2 ys first rest at.3 are in
    (more.0, more.1, (at.0, at.1, at.2, more.2), more.3)

pub first_of_more : (bytes : List ℕ) (wanted : ℕ) (first : List (List (List ℕ))) (s : State)
    (ys : List ℕ) → Reached default_config st.StartRecord (strip_bom bytes) first s ys
    → wanted ≤ length first → length first ≤ wanted → AreFirstRecordsOf bytes wanted first
first_of_more bytes wanted first s ys at enough few =
    let rest = has_records default_config (length ys) s ys (omega arith) in (
      rest.0,
      are_joined default_config st.StartRecord s (strip_bom bytes) ys first rest.0 at
          rest.1,
      inr enough,
      few,
    )

pub first_of_all : (bytes : List ℕ) (wanted : ℕ) (first : List (List (List ℕ)))
    → AreRecordsOf bytes first → length first ≤ wanted → AreFirstRecordsOf bytes wanted first
first_of_all bytes wanted first are few =
    ([], subst (λ rows. AreRecordsOf bytes rows) (sym (append-nil first)) are, inl refl, few)
