-- Lists of which something holds member by member.
use Rattle.std.proofs.Common.{◌≡◌, List, [], ◌∷◌, ◌++◌, refl}
use Rattle.std.specs.List.{AllByRecursion, AllZip}

-- What holds of two lists holds of both after one another.
pub All-both : {X : Type 0} (P : X → Type 0) (xs ys : List X) → AllByRecursion P xs
    → AllByRecursion P ys → AllByRecursion P (xs ++ ys)
All-both P [] ys px py = py
All-both P (x ∷ xs) ys px py = (px.0, All-both P xs ys px.1 py)

-- Where each member goes with one other alone, so does each list.
pub each_one : {X Y : Type 0} (R : X → Y → Type 0)
    → ((x : X) (y z : Y) → R x y → R x z → y ≡ z)
    → (xs : List X) (ys zs : List Y) → AllZip R xs ys → AllZip R xs zs → ys ≡ zs
each_one R one [] [] [] a b = refl
each_one R one [] [] (z ∷ zs) a b = absurd b
each_one R one [] (y ∷ ys) zs a b = absurd a
each_one R one (x ∷ xs) [] zs a b = absurd a
each_one R one (x ∷ xs) (y ∷ ys) [] a b = absurd b
each_one R one (x ∷ xs) (y ∷ ys) (z ∷ zs) a b =
    let first : y ≡ z = one x y z a.0 b.0 in
    let rest : ys ≡ zs = each_one R one xs ys zs a.1 b.1 in
    cc
