use Rattle.std.proofs.Common.{◌+◌, ◌<◌, length, get_or, leb, ◌∙◌, arith}
use Rattle.std.proofs.lemmas.List.{length-set}
use Rattle.plum_level.proofs.Counting.{from_level-falls, from_level-one_sample_more, from_bool-cond}
use Rattle.plum_level.proofs.Counting.{from_bool-le}
use Rattle.plum_level.proofs.tally.Tally.add.Goals as goal

pub overflow_add-self-2 : goal.overflow_add-self-2
overflow_add-self-2 c =
    let before = c.args.self.now in
    let most = from_level-falls before.counts 0 before.top (omega arith) in
    let one = from_bool-le (leb before.top c.args.level) in
    omega (arith, c.requires.tally.reached, c.requires.few, c.from.ensures, most, one)

pub returns-clause-tally : goal.returns-clause-tally
returns-clause-tally c =
    let before = c.args.self.now in
    let more = get_or before.counts c.args.level 0 + 1 in
    let within : c.args.level < length before.counts = omega (arith, c.requires.tally.places) in
    record {
      places = length-set before.counts c.args.level more ∙ c.requires.tally.places;
      listed = c.requires.tally.listed;
      reached = omega (
        arith,
        c.requires.tally.reached,
        c.from.ensures,
        from_bool-cond (leb before.top c.args.level),
        from_level-one_sample_more before.counts before.top c.args.level within,
      );
    }
