use Rattle.std.proofs.Common.{rules, ◌≡◌, ap, sym, subst, [], ◌∷◌, ◌++◌, ◌+◌, length}
use Rattle.plum_snap.specs.declared.snapshot.Addition.{Addition}
use Rattle.plum_snap.specs.declared.snapshot.Snapshot.{Snapshot}
use Rattle.plum_snap.specs.Rule.{next_of}
use Rattle.plum_snap.specs.Snapshots.{snapshot_after, Grows}
use Rattle.plum_snap.proofs.Growing.{grows_more}
use Rattle.plum_snap.proofs.publisher.Publisher.append.Goals as goal

-- what is pending grows by the entry
pub invariant_of-self-2 : goal.invariant_of-self-2
invariant_of-self-2 c =
    let old = c.self.inside.writer in
    let shown : Snapshot = old.desk.shown.value in
    let addition : Addition = record { entry = c.args.entry; front = c.again.result } in
    let next : next_of c.add.new.writer ≡ snapshot_after (next_of old) addition =
    c.in_ok-add.ensures.pending in
    let front : c.again.result ≡ record (next_of old).front {
      entries = (next_of old).front.entries ++ c.args.entry ∷ [];
    } = search rules in
    let grown : Grows shown (next_of c.add.new.writer) =
    subst (λ (y : Snapshot). Grows shown y) (sym next)
    (grows_more shown (next_of old) addition c.entries_add_up.ensures c.self.invariant.1 front) in
    let same : c.add.new.writer.desk.shown.value ≡ shown =
    ap (λ desk. desk.shown.value) c.add.ensures.desk in (
      search rules,
      subst (λ (x : Snapshot). Grows x (next_of c.add.new.writer)) (sym same) grown,
      search rules,
      subst (λ (x : Snapshot). c.self.inside.limit.limit ≡ length x.front.entries + 1) (sym same)
          c.self.invariant.3,
    )
