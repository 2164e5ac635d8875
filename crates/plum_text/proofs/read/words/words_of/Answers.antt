use Rattle.std.proofs.Common.{Option, Some, None, arith}
use Rattle.std.specs.Option.{MatchOption, IsSomeAnd}
use Rattle.plum_text.proofs.LineParts.{parts_of_line}
use Rattle.plum_text.proofs.read.words.words_of.Goals as goal

-- what holds where none has no reason
some : {A : Type 0} (r : Option A) (P : Type 0) (Q : A → Type 0) → ¬ P → MatchOption r P Q
    → IsSomeAnd r Q
some None P Q none h = absurd (none h)
some (Some x) P Q none h = h

pub returns-in-10 : goal.returns-in-10
returns-in-10 c kind more has each few is =
    let words = parts_of_line c.args.bytes.now kind more has each is in
    some c.parts.result _ _ (λ many. omega arith) (rw words at c.parts.ensures)
