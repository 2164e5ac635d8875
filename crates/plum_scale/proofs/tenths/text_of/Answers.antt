use Rattle.std.proofs.Common.{rules}
use Rattle.std.proofs.lemmas.Fmt.{length-decimal-le}
use Rattle.plum_scale.proofs.tenths.text_of.Goals as goal

-- One digit is left to write.
pub push_str-requires-4 : goal.push_str-requires-4
push_str-requires-4 c = search (rules, length-decimal-le 1)
