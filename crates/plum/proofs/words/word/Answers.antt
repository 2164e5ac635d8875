use Rattle.std.proofs.Common.{◌≡◌, ◌∙◌, List, ℕ, Option, Some, None}
use Rattle.clap.proofs.WalkLemmas.{first_value-rows}
use Rattle.clap.specs.Words.{found_of}
use Rattle.plum.proofs.words.word.Goals as goal

pub returns-in-Some : goal.returns-in-Some
returns-in-Some c = λ text h.
    let found = first_value-rows (found_of c.args.matches.now) c.args.name.now in
    let e : Some c.in-Some.word.now ≡ Some text = c.in-Some.ensures ∙ found ∙ h in
    cc

pub returns-in-None : goal.returns-in-None
returns-in-None c = λ text h.
    let found = first_value-rows (found_of c.args.matches.now) c.args.name.now in
    let nothing : Option (List ℕ) = None in
    let e : nothing ≡ Some text = c.in-None.ensures ∙ found ∙ h in
    cc
