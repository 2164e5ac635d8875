-- A list cut at a position, and its image.
use Rattle.std.proofs.Common.{◌≡◌, ◌<◌, ◌+◌, ℕ, List, [], ◌∷◌, ◌++◌, length, get_or, take, drop}
use Rattle.std.proofs.Common.{map, sym, ap, ◌∙◌, arith, append_assoc}
use Rattle.std.proofs.lemmas.List.{take-append-drop, take_more, map-append, length-take, length-map}

-- one element more
pub map_more : {X Y : Type 0} (f : X → Y) (xs : List X) (i : ℕ) (x : X) → i < length xs
    → x ≡ get_or xs i x → map f (take (i + 1) xs) ≡ map f (take i xs) ++ f x ∷ []
map_more f xs i x l at =
    ap (λ t. map f t) (take_more xs i x l ∙ ap (λ y. take i xs ++ y ∷ []) (sym at))
    ∙ map-append f (take i xs) (x ∷ [])

-- what stands before, the element, and what stands behind
pub map_split : {X Y : Type 0} (f : X → Y) (xs : List X) (i : ℕ) (x : X) → i < length xs
    → x ≡ get_or xs i x → map f xs ≡ map f (take i xs) ++ f x ∷ map f (drop (i + 1) xs)
map_split f xs i x l at =
    ap (λ t. map f t) (sym (take-append-drop (i + 1) xs))
    ∙ map-append f (take (i + 1) xs) (drop (i + 1) xs)
    ∙ ap (λ t. t ++ map f (drop (i + 1) xs)) (map_more f xs i x l at)
    ∙ append_assoc (map f (take i xs)) (f x ∷ []) (map f (drop (i + 1) xs))

-- how many stand before
pub length_before : {X Y : Type 0} (f : X → Y) (xs : List X) (i : ℕ) → i < length xs
    → length (map f (take i xs)) ≡ i
length_before f xs i l = length-map (take i xs) f ∙ omega (arith, length-take i xs)
