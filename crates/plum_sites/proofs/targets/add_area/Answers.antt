use Rattle.std.proofs.Common.{◌≡◌, List, ℕ, Any, refl, sym, subst, ◌∙◌}
use Rattle.std.proofs.lemmas.Bool.{false≢true}
use Rattle.plum_sites.proofs.targets.add_area.Goals as goal

pub returns-in_ok-push : goal.returns-in_ok-push
returns-in_ok-push c before areas =
    let P : List (List ℕ) → Type 0 = λ xs. Any (λ a. a ≡ c.args.target.now.area) xs in
    let more = c.areas_come_in_order.ensures.other before c.args.target.now
    (λ a. false≢true (c.if-not-is_among.ensures.1
    (subst P (sym (c.as_slice.ensures.value ∙ areas)) a))) in
    cc (more, areas, c.in_ok-push.ensures.items, c.copy.ensures)

pub returns-else-not-is_among : goal.returns-else-not-is_among
returns-else-not-is_among c before areas =
    let P : List (List ℕ) → Type 0 = λ xs. Any (λ a. a ≡ c.args.target.now.area) xs in
    let same = c.areas_come_in_order.ensures.known before c.args.target.now
    (subst P (c.as_slice.ensures.value ∙ areas) (c.if-not-is_among.ensures.0 refl)) in
    areas ∙ sym same
