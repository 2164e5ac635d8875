-- What was put so far of a piece that goes out by several writes.
use Rattle.std.proofs.Common.{◌≡◌, ℕ, ◌-◌, ◌<◌, ◌≤◌, List, ◌++◌, length, take, drop}
use Rattle.std.proofs.Common.{Option, Some, None, sym, ap, subst, ◌∙◌, arith, length-append}
use Rattle.std.proofs.lemmas.List.{append_assoc, take-append-drop, take_all}
use Rattle.std.proofs.lemmas.List.{length-drop}
use Rattle.std.proofs.Math.Seq.{take-append_seam}
use Rattle.plum_host.specs.Told.{Appends, AppendsFront}

-- A front of the bytes is appended, and the rest of them is left.
pub record HasPut (held after : Option (List ℕ)) (bytes rest : List ℕ) : Type 0 where
  pub front : List ℕ
  pub appended : Appends held after front
  pub joined : front ++ rest ≡ bytes

-- one part after another
pub appends-more : (held between after : Option (List ℕ)) (front part : List ℕ)
    → Appends held between front → Appends between after part → Appends held after (front ++ part)
appends-more None between after front part first second = tt
appends-more (Some bytes) between after front part first second =
    let second_at : Appends (Some (bytes ++ front)) after part =
    subst (λ (b : Option (List ℕ)). Appends b after part) first second in
    second_at ∙ ap (λ l. Some l) (append_assoc bytes front part)

-- One write more. The rest stands as the code slices it.
pub put-more : (held between after : Option (List ℕ)) (bytes rest : List ℕ) (n : ℕ)
    → HasPut held between bytes rest → Appends between after (take n rest)
    → HasPut held after bytes (take (length rest - n) (drop n rest))
put-more held between after bytes rest n put more =
    let short : length (drop n rest) ≤ length rest - n = omega (arith, length-drop n rest) in
    let sliced : take (length rest - n) (drop n rest) ≡ drop n rest =
    take_all (length rest - n) (drop n rest) short in
    record {
      front = put.front ++ take n rest;
      appended = appends-more held between after put.front (take n rest) put.appended more;
      joined = append_assoc put.front (take n rest) (take (length rest - n) (drop n rest))
          ∙ ap (λ l. put.front ++ l) (ap (λ l. take n rest ++ l) sliced ∙ take-append-drop n rest)
          ∙ put.joined;
    }

-- a write that was refused
pub put-refused : (held between after : Option (List ℕ)) (bytes rest : List ℕ)
    → HasPut held between bytes rest → after ≡ between → HasPut held after bytes rest
put-refused held between after bytes rest put same =
    subst (λ (b : Option (List ℕ)). HasPut held b bytes rest) (sym same) put

-- With some left, a front of it is.
pub put-front : (held after : Option (List ℕ)) (bytes rest : List ℕ)
    → HasPut held after bytes rest → 0 < length rest → AppendsFront held after bytes
put-front None after bytes rest put some = tt
put-front (Some h) after bytes rest put some =
    let size = length put.front in
    let seam : take size bytes ≡ put.front =
    ap (take size) (sym put.joined) ∙ take-append_seam put.front rest in (
      size,
      omega (arith, length-append put.front rest, ap length put.joined),
      put.appended ∙ ap (λ l. Some (h ++ l)) (sym seam),
    )
