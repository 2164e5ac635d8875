use Rattle.plum_base.specs.Sites.{targets_of}
use Rattle.plum_base.proofs.ByNumber.{numbers_exist}
use Rattle.plum_replay.proofs.section.put_area.Goals as goal

pub put_answers-requires : goal.put_answers-requires
put_answers-requires c = record {
  exist =
      numbers_exist c.args.sites.now c.args.targets.now
      (targets_of c.args.area.now c.args.sites.now) c.requires.targets;
}
