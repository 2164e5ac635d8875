use Rattle.std.proofs.Common.{ℕ, ◌-◌, ◌<◌, ◌≤◌, List, ◌++◌, length, take, drop, get_or, codes}
use Rattle.std.proofs.Common.{decimal, sym, ap, ◌∙◌, arith}
use Rattle.std.proofs.lemmas.List.{flat_map_more, take_more, take_all}
use Rattle.std.specs.List.{flat_map}
use Rattle.plum.proofs.Putting.{joined, numbers_spelled}
use Rattle.plum.proofs.drill.setup.put_numbers.Goals as goal

pub loop-number-preserved : goal.loop-number-preserved
loop-number-preserved c =
    let numbers : List ℕ = c.args.numbers.now in
    let more : List ℕ = take (length numbers - 1) (drop 1 numbers) in
    let start : List ℕ = c.put_natural.new.text in
    let i = c.loop-number.number-index in
    let piece : ℕ → List ℕ = λ m. codes ", " ++ decimal m in
    let below : i < length more = omega arith in
    joined _ _ _ _ _ c.in_ok-extend.ensures.ok c.in_ok-put_natural-2.ensures
    ∙ ap (λ (l : List ℕ). l ++ piece (get_or more i 0)) c.loop-number.invariant
    ∙ flat_map_more piece start (take i more) (get_or more i 0)
    ∙ ap (λ (l : List ℕ). start ++ flat_map piece l) (sym (take_more more i 0 below))

pub returns : goal.returns
returns c =
    let numbers : List ℕ = c.args.numbers.now in
    let more : List ℕ = take (length numbers - 1) (drop 1 numbers) in
    let start : List ℕ = c.args.text.now in
    let piece : ℕ → List ℕ = λ m. codes ", " ++ decimal m in
    let all : length more ≤ c.loop-number.number-index = omega arith in
    joined start _ _ _ _ c.in_ok-put_natural.ensures
    (c.loop-number.invariant
    ∙ ap (λ (l : List ℕ). c.put_natural.new.text ++ flat_map piece l) (take_all _ more all))
    ∙ ap (λ (l : List ℕ). start ++ l) (numbers_spelled numbers (omega arith))
