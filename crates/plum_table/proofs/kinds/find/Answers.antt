use Rattle.std.proofs.Common.{ap, ◌∙◌}
use Rattle.toml.specs.Data.{get_member}
use Rattle.toml.specs.View.{table_view}
use Rattle.toml.proofs.Views.{table_get}
use Rattle.plum_table.proofs.kinds.find.Goals as goal

pub returns : goal.returns
returns c =
    let table = c.args.table.now in
    table_get c.get.result c.name.result.now table.entries c.get.ensures.value
    ∙ ap (λ name. get_member name (table_view table)) c.name.ensures
