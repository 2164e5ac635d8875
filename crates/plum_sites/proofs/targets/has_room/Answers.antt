use Rattle.std.proofs.Common.{◌≡◌, ◌≤◌, ◌+◌, List, [], ◌∷◌, ◌++◌, ℕ, Any, length, refl, ap}
use Rattle.std.proofs.Common.{sym, subst, ◌∙◌, arith}
use Rattle.std.proofs.lemmas.List.{length_push}
use Rattle.std.proofs.lemmas.Bool.{false≢true, ltb-true, lt-ltb}
use Rattle.plum_base.specs.Sites.{areas_of}
use Rattle.plum_sites.proofs.targets.has_room.Goals as goal

pub returns-then-is_among : goal.returns-then-is_among
returns-then-is_among c before areas few =
    let P : List (List ℕ) → Type 0 = λ xs. Any (λ a. a ≡ c.args.target.now.area) xs in
    let same = c.areas_come_in_order.ensures.known before c.args.target.now
    (subst P areas (c.if-is_among.ensures.0 refl)) in
    let small : length (areas_of before) ≤ 64 = omega (arith, few, ap length areas) in
    (λ _. omega (arith, small, ap length same), λ _. c.if-is_among.true)

pub returns-else-is_among : goal.returns-else-is_among
returns-else-is_among c before areas few =
    let P : List (List ℕ) → Type 0 = λ xs. Any (λ a. a ≡ c.args.target.now.area) xs in
    let more = c.areas_come_in_order.ensures.other before c.args.target.now
    (λ a. false≢true (c.if-is_among.ensures.1 (subst P (sym areas) a))) in
    let one : length (areas_of (before ++ c.args.target.now ∷ [])) ≡ length c.args.areas.now + 1 =
    ap length more ∙ length_push (areas_of before) c.args.target.now.area
    ∙ ap (λ n. n + 1) (ap length (sym areas)) in (
      λ t. omega (arith, one, ltb-true (length c.args.areas.now) 64 t),
      λ small. lt-ltb (length c.args.areas.now) 64 (omega (arith, one, small)),
    )
