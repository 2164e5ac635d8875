use Rattle.std.proofs.Common.{◌≡◌, ◌++◌, ◌+◌, ◌*◌, ◌≤◌, take, map, length}
use Rattle.plum_text.specs.Fields.{fields}
use Rattle.plum_text.specs.Spelled.{field_text}
use Rattle.plum_text.proofs.spell.spell.Given as goal

abbrev pub invariant-loop-field : goal.invariant-loop-field
invariant-loop-field l = record {
  text : l.spelled.items ≡ l.kind ++ fields (map field_text (take l.field-index l.list));
  room : length l.spelled.items ≤ 5 + 21 * l.field-index;
}
