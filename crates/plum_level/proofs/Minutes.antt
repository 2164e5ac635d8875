-- The last minute of a list.
use Rattle.std.proofs.Common.{◌≡◌, ℕ, ◌+◌, ◌-◌, ◌≤◌, List, [], ◌∷◌, ◌++◌, length, drop, map}
use Rattle.std.proofs.Common.{sym, ◌∙◌, ap, arith, length-append, length-drop}
use Rattle.std.proofs.lemmas.List.{drop-append-le, drop-drop, drop-map, length-map, map-append}
use Rattle.plum_level.specs.Level.{WINDOW, last_minute}

-- A short list is its own last minute.
pub last_minute_short : (xs : List ℕ) → length xs ≤ WINDOW → last_minute xs ≡ xs
last_minute_short xs short =
    let none : length xs - WINDOW ≡ 0 = omega arith in
    ap (λ n. drop n xs) none

-- how long it is
pub length-last_minute : (xs : List ℕ) → length (last_minute xs) ≡ length xs - (length xs - WINDOW)
length-last_minute xs = length-drop (length xs - WINDOW) xs

-- What fell out before more was added stays out.
pub last_minute-append : (xs ys : List ℕ)
    → last_minute (last_minute xs ++ ys) ≡ last_minute (xs ++ ys)
last_minute-append xs ys =
    let gone = length xs - WINDOW in
    let rest = drop gone xs ++ ys in
    let within : gone ≤ length xs = omega arith in
    let same : rest ≡ drop gone (xs ++ ys) = sym (drop-append-le gone xs ys within) in
    let more : gone + (length rest - WINDOW) ≡ length (xs ++ ys) - WINDOW =
    omega (arith, length-append (drop gone xs) ys, length-append xs ys, length-drop gone xs) in
    ap (drop (length rest - WINDOW)) same
    ∙ drop-drop (length rest - WINDOW) gone (xs ++ ys)
    ∙ ap (λ n. drop n (xs ++ ys)) more

-- What each of the last minute gives is the last minute of what each gives.
pub last_minute-map : (f : ℕ → ℕ) (xs : List ℕ) → last_minute (map f xs) ≡ map f (last_minute xs)
last_minute-map f xs =
    ap (λ n. drop (n - WINDOW) (map f xs)) (length-map xs f) ∙ drop-map f (length xs - WINDOW) xs

-- one element more
pub last_minute-push : (f : ℕ → ℕ) (xs : List ℕ) (x : ℕ)
    → last_minute (map f (last_minute xs) ++ f x ∷ []) ≡ map f (last_minute (xs ++ x ∷ []))
last_minute-push f xs x =
    ap last_minute (sym (map-append f (last_minute xs) (x ∷ [])))
    ∙ last_minute-map f (last_minute xs ++ x ∷ [])
    ∙ ap (map f) (last_minute-append xs (x ∷ []))
