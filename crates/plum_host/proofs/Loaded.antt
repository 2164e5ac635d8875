-- What was loaded so far of an input that comes in several reads.
use Rattle.std.proofs.Common.{◌≡◌, ℕ, ◌≤◌, List, [], ◌++◌, length, take, drop}
use Rattle.std.proofs.Common.{Option, Some, IfSome, sym, ap, subst, ◌∙◌, arith, append-nil}
use Rattle.std.proofs.Common.{length-append}
use Rattle.std.proofs.lemmas.List.{append_assoc, take-append-drop}
use Rattle.std.proofs.Math.Seq.{drop-append_seam}
use Rattle.plum_host.specs.Told.{Takes}

-- The bytes were taken of all that the input had, and the rest of it is left.
pub record HasLoaded (all bytes : List ℕ) (left : Option (List ℕ)) : Type 0 where
  pub rest : List ℕ
  pub told : left ≡ Some rest
  pub joined : bytes ++ rest ≡ all

-- one read more
pub loaded-more : (all bytes : List ℕ) (between after : Option (List ℕ)) (n : ℕ) (buffer : List ℕ)
    → HasLoaded all bytes between → Takes between after n buffer
    → HasLoaded all (bytes ++ take n buffer) after
loaded-more all bytes between after n buffer loaded takes =
    let rest = loaded.rest in
    let of_rest : Takes (Some rest) after n buffer =
    subst (λ (b : Option (List ℕ)). Takes b after n buffer) loaded.told takes in
    record {
      rest = drop n rest;
      told = of_rest.2;
      joined = append_assoc bytes (take n buffer) (drop n rest)
          ∙ ap (λ l. bytes ++ l) (ap (λ l. l ++ drop n rest) of_rest.1 ∙ take-append-drop n rest)
          ∙ loaded.joined;
    }

-- a read that failed
pub loaded-same : (all bytes : List ℕ) (between after : Option (List ℕ))
    → HasLoaded all bytes between → after ≡ between → HasLoaded all bytes after
loaded-same all bytes between after loaded same =
    record { rest = loaded.rest; told = same ∙ loaded.told; joined = loaded.joined }

-- What is left stands behind what was taken.
pub loaded_behind : (all bytes : List ℕ) (left : Option (List ℕ)) → HasLoaded all bytes left
    → (length bytes ≤ length all) × (left ≡ Some (drop (length bytes) all))
loaded_behind all bytes left loaded =
    let behind : drop (length bytes) all ≡ loaded.rest =
    ap (drop (length bytes)) (sym loaded.joined) ∙ drop-append_seam bytes loaded.rest in (
      omega (arith, length-append bytes loaded.rest, ap length loaded.joined),
      loaded.told ∙ ap (λ l. Some l) (sym behind),
    )

-- So a front was taken, of no more bytes than these.
pub loaded_at_most : (most : ℕ) (all bytes : List ℕ) (left : Option (List ℕ))
    → HasLoaded all bytes left → length bytes ≤ most
    → (n : ℕ) × (n ≤ most) × (n ≤ length all) × (left ≡ Some (drop n all))
loaded_at_most most all bytes left loaded few =
    let behind = loaded_behind all bytes left loaded in
    (length bytes, few, behind.0, behind.1)

-- Where nothing was left and nothing is taken, all was loaded.
pub loaded_whole : (all bytes : List ℕ) (between after : Option (List ℕ)) (buffer : List ℕ)
    → HasLoaded all bytes between → IfSome between (λ rest. rest ≡ [])
    → Takes between after 0 buffer → (bytes ≡ all) × (after ≡ Some [])
loaded_whole all bytes between after buffer loaded ended takes =
    let rest = loaded.rest in
    let none : rest ≡ [] =
    subst (λ (b : Option (List ℕ)). IfSome b (λ rest. rest ≡ [])) loaded.told ended in
    let of_rest : Takes (Some rest) after 0 buffer =
    subst (λ (b : Option (List ℕ)). Takes b after 0 buffer) loaded.told takes in (
      sym (append-nil bytes) ∙ ap (λ l. bytes ++ l) (sym none) ∙ loaded.joined,
      of_rest.2 ∙ ap (λ l. Some (drop 0 l)) none,
    )
