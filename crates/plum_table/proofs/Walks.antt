-- Lists that are read member by member.
use Rattle.std.proofs.Common.{◌≡◌, ℕ, ◌+◌, ◌<◌, List, [], ◌∷◌, ◌++◌, length, drop, get_or, Option}
use Rattle.std.proofs.Common.{Some, Result, Ok, Err, refl, sym, ap, ◌∙◌, arith, append_assoc}
use Rattle.std.proofs.Common.{length-append}
use Rattle.std.proofs.lemmas.List.{at_drop_more}
use Rattle.toml.specs.Data.{Data}
use Rattle.toml.specs.View.{view}
use Rattle.toml.specs.declared.value.Value.{Value}
use Rattle.plum_table.specs.declared.fault.SetupFault.{SetupFault}
use Rattle.plum_table.specs.Kinds.{◌>>=◌, walk_from}
use Rattle.plum_table.specs.Values.{values_as}

-- n members were read, and gave these
pub record ReadSoFar {A B : Type 0} (read : ℕ → A → Result B SetupFault) (kind : Data → Option A)
    (vs : List Value) (n : ℕ) (done : List B) : Type 0 where
  pub count : length done ≡ n
  pub rest : walk_from read 0 (values_as kind vs)
      ≡ (walk_from read n (values_as kind (drop n vs)) >>= (λ more. Ok (done ++ more)))

then_joined : {B : Type 0} (r : Result (List B) SetupFault) (done : List B) (y : B)
    → (r >>= (λ ys. Ok (y ∷ ys)) >>= (λ more. Ok (done ++ more)))
    ≡ (r >>= (λ more. Ok ((done ++ y ∷ []) ++ more)))
then_joined (Ok ys) done y = ap Ok (sym (append_assoc done (y ∷ []) ys))
then_joined (Err fault) done y = refl

-- one member more
pub read_more : {A B : Type 0} (read : ℕ → A → Result B SetupFault) (kind : Data → Option A)
    (vs : List Value) (n : ℕ) (done : List B) (v : Value) (x : A) (y : B) → n < length vs
    → get_or vs n v ≡ v → kind (view v) ≡ Some x → read n x ≡ Ok y
    → ReadSoFar read kind vs n done → ReadSoFar read kind vs (n + 1) (done ++ y ∷ [])
read_more read kind vs n done v x y within at is reads so_far =
    let next : walk_from read n (values_as kind (drop n vs))
    ≡ (walk_from read (n + 1) (values_as kind (drop (n + 1) vs)) >>= (λ ys. Ok (y ∷ ys))) =
    at_drop_more (λ ws. walk_from read n (values_as kind ws)) vs n v within
    ∙ rw (at, is, reads) in
    record {
      count = omega (arith, so_far.count, length-append done (y ∷ []));
      rest = so_far.rest ∙ ap (λ r. r >>= (λ more. Ok (done ++ more))) next ∙ then_joined _ done y;
    }

-- A member that has a fault.
pub read_fault : {A B : Type 0} (read : ℕ → A → Result B SetupFault) (kind : Data → Option A)
    (vs : List Value) (n : ℕ) (done : List B) (v : Value) (x : A) (fault : SetupFault)
    → n < length vs → get_or vs n v ≡ v → kind (view v) ≡ Some x → read n x ≡ Err fault
    → ReadSoFar read kind vs n done → walk_from read 0 (values_as kind vs) ≡ Err fault
read_fault read kind vs n done v x fault within at is reads so_far =
    let stops : walk_from read n (values_as kind (drop n vs)) ≡ Err fault =
    at_drop_more (λ ws. walk_from read n (values_as kind ws)) vs n v within
    ∙ rw (at, is, reads) in
    so_far.rest ∙ ap (λ r. r >>= (λ more. Ok (done ++ more))) stops
