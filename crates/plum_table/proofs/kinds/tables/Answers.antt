use Rattle.std.proofs.Common.{◌≤◌, ◌∙◌, length, sym}
use Rattle.std.proofs.lemmas.Bool.{false≢true}
use Rattle.toml.specs.Data.{as_table, get_member}
use Rattle.toml.specs.View.{table_view}
use Rattle.plum_table.specs.Keys.{name_of}
use Rattle.plum_table.specs.Values.{AreAll}
use Rattle.plum_table.proofs.Arrays.{array_of_kind, array_of_count, array_of_other}
use Rattle.plum_table.proofs.kinds.tables.Goals as goal

pub returns-then-not-are_tables-clause-value : goal.returns-then-not-are_tables-clause-value
returns-then-not-are_tables-clause-value c =
    let items = c.in_ok-array.field-0.now.items in
    let found = get_member (name_of c.args.key.field) (table_view c.args.table.now) in
    let other : ¬ AreAll as_table items =
    λ each. false≢true (sym c.if-not-are_tables.true
    ∙ c.are_tables.ensures.1 (rw c.as_slice-items.ensures.value each)) in
    sym (array_of_other as_table c.args.key c.args.most found items c.in_ok-array.ensures other)

pub returns-then-not-is_count-clause-value : goal.returns-then-not-is_count-clause-value
returns-then-not-is_count-clause-value c =
    let items = c.in_ok-array.field-0.now.items in
    let found = get_member (name_of c.args.key.field) (table_view c.args.table.now) in
    let each : AreAll as_table items = rw c.as_slice-items.ensures.value
    at (c.are_tables.ensures.0 c.if-not-are_tables.false) in
    let out : ¬ ((1 ≤ length items) × (length items ≤ c.args.most)) =
    λ within. false≢true (sym c.if-not-is_count.true
    ∙ c.is_count.ensures.1 (rw c.as_slice-items.ensures.value within)) in
    sym
    (array_of_count as_table c.args.key c.args.most found items c.in_ok-array.ensures each out)

pub returns-clause-value : goal.returns-clause-value
returns-clause-value c =
    let items = c.in_ok-array.field-0.now.items in
    let found = get_member (name_of c.args.key.field) (table_view c.args.table.now) in
    let each : AreAll as_table items = rw c.as_slice-items.ensures.value
    at (c.are_tables.ensures.0 c.if-not-are_tables.false) in
    let within : (1 ≤ length items) × (length items ≤ c.args.most) =
    rw c.as_slice-items.ensures.value at (c.is_count.ensures.0 c.if-not-is_count.false) in
    rw c.as_slice-items.ensures.value
    (sym (array_of_kind as_table c.args.key c.args.most found items c.in_ok-array.ensures each
    within))
