use Rattle.std.proofs.Common.{◌-◌, ◌<◌, length, get_or, leb, ◌∙◌, arith}
use Rattle.std.proofs.lemmas.List.{length-set}
use Rattle.plum_level.proofs.Counting.{from_level-one_sample_less, from_bool-cond}
use Rattle.plum_level.proofs.tally.Tally.remove.Goals as goal

pub overflow_sub-self-2 : goal.overflow_sub-self-2
overflow_sub-self-2 c =
    let before = c.args.self.now in
    let within : c.args.level < length before.counts = omega (arith, c.requires.tally.places) in
    omega (
      arith,
      c.requires.tally.reached,
      c.from.ensures,
      from_bool-cond (leb before.top c.args.level),
      from_level-one_sample_less before.counts before.top c.args.level within c.requires.there,
    )

pub returns-clause-tally : goal.returns-clause-tally
returns-clause-tally c =
    let before = c.args.self.now in
    let less = get_or before.counts c.args.level 0 - 1 in
    let within : c.args.level < length before.counts = omega (arith, c.requires.tally.places) in
    record {
      places = length-set before.counts c.args.level less ∙ c.requires.tally.places;
      listed = c.requires.tally.listed;
      reached = omega (
        arith,
        c.requires.tally.reached,
        c.from.ensures,
        from_bool-cond (leb before.top c.args.level),
        from_level-one_sample_less before.counts before.top c.args.level within c.requires.there,
      );
    }
