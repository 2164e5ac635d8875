use Rattle.std.proofs.Common.{◌≡◌, ℕ, List, ◌++◌, ◌∙◌, ap, append_assoc}
use Rattle.std.proofs.lemmas.Result.{on_ok_weaker}
use Rattle.plum.proofs.status.put_usage.Goals as goal

-- four pieces, one behind the other
four_pieces : (old first second third fourth one two three four : List ℕ) → one ≡ old ++ first
    → two ≡ one ++ second → three ≡ two ++ third → four ≡ three ++ fourth
    → four ≡ old ++ (first ++ (second ++ (third ++ fourth)))
four_pieces old first second third fourth one two three four a b c d =
    d ∙ ap (λ l. l ++ fourth) (c ∙ ap (λ l. l ++ third) (b ∙ ap (λ l. l ++ second) a))
    ∙ append_assoc ((old ++ first) ++ second) third fourth
    ∙ append_assoc (old ++ first) second (third ++ fourth)
    ∙ append_assoc old first (second ++ (third ++ fourth))

pub returns : goal.returns
returns c =
    on_ok_weaker c.extend-4.result
    (λ last. four_pieces c.args.text.now _ _ _ _ c.extend.new.self c.extend-2.new.self
    c.extend-3.new.self c.extend-4.new.self c.in_ok-extend.ensures.ok
    c.in_ok-extend-2.ensures.ok c.in_ok-extend-3.ensures.ok last) c.extend-4.ensures.ok
