-- No two elements of a list have the same value, element by element.
use Rattle.std.proofs.Common.{◌≡◌, ◌≢◌, ℕ, ◌+◌, ◌<◌, List, length, take, get_or, Any, AllPairs}
use Rattle.std.proofs.Common.{refl, sym, subst, ap, ◌∙◌, arith}
use Rattle.std.proofs.lemmas.List.{take_more, length-take, get_or-take, get_or_read_under}
use Rattle.std.proofs.lemmas.List.Elements.{Contains-get_or}
use Rattle.std.proofs.lemmas.List.Quantifiers.{all_pairs_push}

-- one more element, whose value none before it has
pub distinct_more : {X V : Type 0} (v : X → V) (xs : List X) (i : ℕ) (d : X) (y : V) → i < length xs
    → y ≡ v (get_or xs i d) → AllPairs (λ a b. v a ≢ v b) (take i xs)
    → ¬ Any (λ a. v a ≡ y) (take i xs) → AllPairs (λ a b. v a ≢ v b) (take (i + 1) xs)
distinct_more {X} v xs i d y l at before none =
    let P : List X → Type 0 = λ ys. AllPairs (λ a b. v a ≢ v b) ys in
    let x : X = get_or xs i d in
    let fresh : (k : ℕ) (e : X) → k < length (take i xs)
    → v (get_or (take i xs) k e) ≢ v x = λ k e h same. let w = Contains-get_or (take i xs) k e h
    in none (w.0, get_or (take i xs) k e, w.1, w.2, same ∙ sym at) in
    subst P (sym (take_more xs i d l)) (all_pairs_push (λ a b. v a ≢ v b)
    (take i xs) x before fresh)

-- an element whose value one before it has
pub not_distinct : {X V : Type 0} (v : X → V) (xs : List X) (i : ℕ) (d : X) (y : V) → i < length xs
    → y ≡ v (get_or xs i d) → Any (λ a. v a ≡ y) (take i xs) → ¬ AllPairs (λ a b. v a ≢ v b) xs
not_distinct v xs i d y l at w all =
    let inside : w.0 < i = omega (arith, w.2, length-take i xs) in
    let here : w.1 ≡ get_or xs w.0 d = get_or_read_under xs w.0 (length xs) w.1 d (sym w.3
    ∙ get_or-take i xs w.0 w.1 inside) (omega arith) refl in
    all w.0 i d inside l (sym (ap v here) ∙ w.4 ∙ at)
