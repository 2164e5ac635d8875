-- The table of stations by code, station by station.
use Rattle.std.proofs.Common.{◌≡◌, ◌≢◌, ℕ, zero, suc, ◌+◌, ◌<◌, ◌≤◌, List, length, take, set}
use Rattle.std.proofs.Common.{get_or, replicate, Option, Some, None, refl, sym, subst, ap, ◌∙◌}
use Rattle.std.proofs.Common.{inl, inr, arith, get_or-set_same, get_or-set_other}
use Rattle.std.proofs.lemmas.Bool.{cases_eq}
use Rattle.std.proofs.lemmas.List.{take_more, take_all}
use Rattle.std.proofs.lemmas.List.Elements.{All-push}
use Rattle.std.proofs.lemmas.Option.{slice_get-get_or}
use Rattle.plum_base.specs.declared.numbers.StationNo.{StationNo}
use Rattle.plum_base.specs.declared.sites.StationSite.{StationSite}
use Rattle.plum_base.specs.Sites.{HasCode, HasNoCode, IsFoundAt}

-- what the table has at a code, after the first n stations
abbrev pub IsFoundSoFar : List StationSite → ℕ → ℕ → Option StationNo → Type 0
IsFoundSoFar stations n code None = HasNoCode (take n stations) code
IsFoundSoFar stations n code (Some k) = HasCode stations k.0 code

only_none : (n i : ℕ) → get_or {A = Option StationNo} (replicate n None) i None ≡ None
only_none zero i = refl
only_none (suc n) zero = refl
only_none (suc n) (suc i) = only_none n i

-- before the first station
pub none_found : (stations : List StationSite) (n code : ℕ)
    → IsFoundSoFar stations 0 code (get_or {A = Option StationNo} (replicate n None) code None)
none_found stations n code =
    subst (IsFoundSoFar stations 0 code) (sym (only_none n code)) (λ k d l. absurd (omega arith))

-- at the code of another station
still_found : (stations : List StationSite) (n code : ℕ) (d : StationSite)
    (found : Option StationNo) → n < length stations → (get_or stations n d).code ≢ code
    → IsFoundSoFar stations n code found → IsFoundSoFar stations (n + 1) code found
still_found stations n code d None l other none =
    subst (λ xs. HasNoCode xs code) (sym (take_more stations n d l))
    (All-push (λ s. s.code ≢ code) (take n stations) (get_or stations n d) none other)
still_found stations n code d (Some k) l other has = has

-- one more station, at its code
pub one_more_found : (stations : List StationSite) (n : ℕ) (d : StationSite)
    (table : List (Option StationNo)) (station : StationNo) → station.0 ≡ n → n < length stations
    → (own : ℕ) → own ≡ (get_or stations n d).code → own < length table → (code : ℕ)
    → IsFoundSoFar stations n code (get_or table code None)
    → IsFoundSoFar stations (n + 1) code (get_or (set table own (Some station)) code None)
one_more_found stations n d table station is l own of inside code before =
    elim (cases_eq code own) [
      | inl same ↦
          let here : get_or (set table own (Some station)) code None ≡ Some station =
          ap (λ c. get_or (set table own (Some station)) c None) same
          ∙ get_or-set_same table own (Some station) None inside in
          let has : HasCode stations station.0 code = subst (λ k. HasCode stations k code) (sym is)
          (rw (slice_get-get_or stations n d l) (sym of ∙ sym same)) in
          subst (IsFoundSoFar stations (n + 1) code) (sym here) has
      | inr other ↦
          let there : get_or (set table own (Some station)) code None ≡ get_or table code None =
          get_or-set_other table own code (Some station) None other in
          subst (IsFoundSoFar stations (n + 1) code) (sym there)
          (still_found stations n code d (get_or table code None) l
          (λ e. other (sym e ∙ sym of)) before)
    ]

-- behind the last station
pub all_found : (stations : List StationSite) (n code : ℕ) (found : Option StationNo)
    → length stations ≤ n → IsFoundSoFar stations n code found → IsFoundAt stations code found
all_found stations n code None all none =
    subst (λ xs. HasNoCode xs code) (take_all n stations all) none
all_found stations n code (Some k) all has = has
