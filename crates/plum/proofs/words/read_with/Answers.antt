use Rattle.std.proofs.Common.{◌≡◌, ◌∙◌, map, string_bytes, ap, true}
use Rattle.clap.specs.Simple.{App}
use Rattle.clap.specs.Words.{app_of, matches_of, takes}
use Rattle.plum.proofs.Clapping.{taken_is_simple}
use Rattle.plum.proofs.words.read_with.Goals as goal

pub want_of_memory-requires : goal.want_of_memory-requires
want_of_memory-requires c =
    let words = map string_bytes c.args.words.now in
    c.in-Err.ensures.passes
    (ap (λ (a : App). takes a words) c.in_ok-command.ensures ∙ c.requires)

pub returns-in-Ok : goal.returns-in-Ok
returns-in-Ok c =
    let words = map string_bytes c.args.words.now in
    let taken : takes (app_of c.in_ok-command.command) words ≡ true =
    ap (λ (a : App). takes a words) c.in_ok-command.ensures ∙ c.requires in
    let simple = taken_is_simple (app_of c.in_ok-command.command) words taken in
    (c.in-Ok.ensures.matches simple).0 ∙ ap (λ (a : App). matches_of a words)
    c.in_ok-command.ensures
