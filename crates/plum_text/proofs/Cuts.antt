-- A text is cut in one way, by a byte that its words lack.
use Rattle.std.proofs.Common.{◌≡◌, ◌≢◌, ℕ, List, [], ◌∷◌, ◌++◌, All, refl}
use Rattle.std.proofs.lemmas.List.Elements.{recursion_from_All, All-weaker}
use Rattle.std.specs.List.{AllByRecursion}
use Rattle.plum_text.specs.Fields.{fields}

-- This byte stands nowhere in the word.
abbrev pub Lacks : ℕ → List ℕ → Type 0
Lacks stop word = AllByRecursion (λ b. b ≢ stop) word

-- Nothing stands here, or this byte first.
abbrev pub BeginsWith : ℕ → List ℕ → Type 0
BeginsWith stop [] = Unit {0}
BeginsWith stop (b ∷ bytes) = b ≡ stop

-- Two words, each up to the end or a byte that stands in neither, are one where the texts are.
pub same_up_to : (stop : ℕ) (a b x y : List ℕ) → Lacks stop a → Lacks stop b → BeginsWith stop x
    → BeginsWith stop y → a ++ x ≡ b ++ y → (a ≡ b) × (x ≡ y)
same_up_to stop [] [] x y la lb bx by e = (refl, e)
same_up_to stop [] (c ∷ b) [] y la lb bx by e = cc
same_up_to stop [] (c ∷ b) (d ∷ x) y la lb bx by e = absurd (lb.0 cc)
same_up_to stop (c ∷ a) [] x [] la lb bx by e = cc
same_up_to stop (c ∷ a) [] x (d ∷ y) la lb bx by e = absurd (la.0 cc)
same_up_to stop (c ∷ a) (d ∷ b) x y la lb bx by e =
    let first : c ≡ d = cc in
    let rest : a ++ x ≡ b ++ y = cc in
    let more = same_up_to stop a b x y la.1 lb.1 bx by rest in
    let same : c ∷ a ≡ d ∷ b = cc in
    (same, more.1)

-- Fields are at their end, or begin with a space.
pub fields_begin : (more : List (List ℕ)) → BeginsWith 32 (fields more)
fields_begin [] = tt
fields_begin (field ∷ more) = refl

-- fields have one cut
pub one_cut : (more others : List (List ℕ)) → AllByRecursion (Lacks 32) more
    → AllByRecursion (Lacks 32) others → fields more ≡ fields others → more ≡ others
one_cut [] [] lm lo e = refl
one_cut [] (w ∷ others) lm lo e = cc
one_cut (v ∷ more) [] lm lo e = cc
one_cut (v ∷ more) (w ∷ others) lm lo e =
    let rest : v ++ fields more ≡ w ++ fields others = cc in
    let first = same_up_to 32 v w (fields more) (fields others) lm.0 lo.0 (fields_begin more)
    (fields_begin others) rest in
    let later = one_cut more others lm.1 lo.1 first.1 in
    let both : (v ≡ w) × (more ≡ others) = (first.0, later) in
    cc

-- what is said of each field, from one form to the other
pub lacks_each : (stop : ℕ) (more : List (List ℕ)) → All (All (λ b. b ≢ stop)) more
    → AllByRecursion (Lacks stop) more
lacks_each stop more has =
    recursion_from_All (Lacks stop) more
    (All-weaker (All (λ b. b ≢ stop)) (Lacks stop) (recursion_from_All (λ b. b ≢ stop)) more has)
