use Rattle.std.proofs.Common.{◌≡◌, map, take}
use Rattle.clap.specs.Words.{app_of}
use Rattle.plum.specs.Words.{app_with}
use Rattle.plum.proofs.words.command_with.Given as goal

abbrev pub invariant-loop-id : goal.invariant-loop-id
invariant-loop-id l =
    app_of l.command ≡ app_with l.name (map (λ id. id.now) (take l.id-index l.ids))
