-- A text that is lines one after another is of one list of lines.
use Rattle.std.proofs.Common.{◌≡◌, ◌≢◌, ℕ, ◌<◌, List, [], ◌∷◌, ◌++◌, length, All, refl, sym, ap}
use Rattle.std.proofs.Common.{◌∙◌, arith, append_assoc, length-append}
use Rattle.std.proofs.lemmas.List.Elements.{recursion_from_All}
use Rattle.std.specs.List.{AllByRecursion, flat_map}
use Rattle.plum_text.specs.Fields.{fields}
use Rattle.plum_text.proofs.Words.{HasNoLineFeed}
use Rattle.plum_text.proofs.Cuts.{Lacks, same_up_to, lacks_each}

-- two texts after one another lack what both lack
Lacks-append : (stop : ℕ) (a b : List ℕ) → Lacks stop a → Lacks stop b → Lacks stop (a ++ b)
Lacks-append stop [] b la lb = lb
Lacks-append stop (c ∷ a) b la lb = (la.0, Lacks-append stop a b la.1 lb)

-- fields lack what each of them lacks, but for spaces
Lacks-fields : (stop : ℕ) (more : List (List ℕ)) → 32 ≢ stop → AllByRecursion (Lacks stop) more
    → Lacks stop (fields more)
Lacks-fields stop [] apart lack = tt
Lacks-fields stop (field ∷ more) apart lack =
    (apart, Lacks-append stop field (fields more) lack.0 (Lacks-fields stop more apart lack.1))

-- A line has a line feed at its end alone.
pub Lacks-line : (kind : List ℕ) (more : List (List ℕ)) → HasNoLineFeed kind
    → All HasNoLineFeed more → Lacks 10 (kind ++ fields more)
Lacks-line kind more hk hm =
    Lacks-append 10 kind (fields more) (recursion_from_All (λ b. b ≢ 10) kind hk)
    (Lacks-fields 10 more (λ same. omega (arith, same)) (lacks_each 10 more hm))

module _ {L : Type 0} (body : L → List ℕ) where
  -- lines one after another, each with a line feed behind its body
  abbrev pub text_of : List L → List ℕ
  text_of ls = flat_map (λ l. body l ++ 10 ∷ []) ls

  -- a line is not nothing
  some_text : (l : L) (ls : List L) → 0 < length (text_of (l ∷ ls))
  some_text l ls =
      omega (
        arith,
        length-append (body l ++ 10 ∷ []) (text_of ls),
        length-append (body l) (10 ∷ []),
      )

  module _ (Good : L → Type 0) (lacks : (l : L) → Good l → Lacks 10 (body l))
      (one : (l k : L) → Good l → Good k → body l ≡ body k → l ≡ k) where
    -- A text is of one list of lines.
    pub one_text : (ls ks : List L) → AllByRecursion Good ls → AllByRecursion Good ks
        → text_of ls ≡ text_of ks → ls ≡ ks
    one_text [] [] gl gk e = refl
    one_text [] (k ∷ ks) gl gk e = absurd (omega (arith, some_text k ks, ap length e))
    one_text (l ∷ ls) [] gl gk e = absurd (omega (arith, some_text l ls, ap length e))
    one_text (l ∷ ls) (k ∷ ks) gl gk e =
        let joined : body l ++ 10 ∷ text_of ls ≡ body k ++ 10 ∷ text_of ks =
        sym (append_assoc (body l) (10 ∷ []) (text_of ls)) ∙ e
        ∙ append_assoc (body k) (10 ∷ []) (text_of ks) in
        let cut =
        same_up_to 10 (body l) (body k) (10 ∷ text_of ls) (10 ∷ text_of ks) (lacks l gl.0)
        (lacks k gk.0) refl refl joined in
        let rest : text_of ls ≡ text_of ks = let e = cut.1 in cc in
        let first = one l k gl.0 gk.0 cut.0 in
        let later = one_text ls ks gl.1 gk.1 rest in
        let both : (l ≡ k) × (ls ≡ ks) = (first, later) in
        cc
