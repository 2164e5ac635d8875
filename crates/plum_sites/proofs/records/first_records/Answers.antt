use Rattle.std.proofs.Common.{Bor, List, ℕ, ◌∙◌, sym, refl, inl, inr, map, Some, ◌∷◌, []}
use Rattle.std.proofs.Common.{◌≡◌, ◌≤◌, ◌+◌, ap, length, arith, length-append}
use Rattle.std.proofs.lemmas.Bool.{cases_lt}
use Rattle.std.proofs.lemmas.List.{map-append, length-map}
use Rattle.plum_sites.proofs.TheRecords.{first_of_more, first_of_all}
use Rattle.csv.specs.Reading.{Reached, default_config, strip_bom}
use Rattle.csv.specs.Records.{fields_of}
use Rattle.csv.specs.declared.parser.State.TheVariants as st
use Rattle.csv.proofs.ReadFacts.{rows-end, rows-more}
use Rattle.plum_sites.proofs.records.first_records.Goals as goal

pub loop-record-init : goal.loop-record-init
unfolding Reached
loop-record-init c =
    let fr = c.from_reader-reader.ensures in
    let e = c.flexible.ensures in
    let h = c.has_headers.ensures in
    let start = c.into_iter-record-iterator.ensures.into_iter_gives ∙ refl in
    let rdr = c.into_byte_records.ensures.rdr in
    let left = c.into_byte_records.ensures.left in
    let take = c.take-record-items.ensures in
    rw (start, take.source, take.count, rdr, c.new-records.ensures.items) (
      rw (e, h) at fr.trim ∙ c.new.ensures.trim,
      inr (inr (rw (e, h) at fr.has_headers, fr.headers)),
      left,
      rw (e, h) at fr.config ∙ c.new.ensures.config,
      strip_bom c.args.bytes.now,
      fr.source,
      (sym fr.state, refl),
      rw e at fr.flexible,
      omega arith,
    )

pub loop-record-preserved : goal.loop-record-preserved
loop-record-preserved c =
    let inv = c.loop-record.invariant in
    let went = rw (c.in-Some.is, c.in-Ok.is) at c.next.ensures.steps in
    let steps = went.0 inv.2 inv.0 in
    let count : c.next.new.self.n + 1 ≡ c.loop-record.record-iterator.n = went.1 in
    let s = steps.0 inv.1 in
    let items = c.in_ok-push-in-Ok.ensures.items in
    let m = rows-more (λ (s : Bor (List ℕ)). Some s.now) c.loop-record.record-iterator.iter.rdr
    c.next.new.self.iter.rdr (fields_of c.in-Ok.record) default_config st.StartRecord
    (strip_bom c.args.bytes.now) inv.4 (map fields_of c.loop-record.records.items) inv.3 inv.5 inv.6
    s.0 in (
      s.0.3 ∙ inv.0,
      inl s.1,
      s.2,
      s.0.2 ∙ inv.3,
      m.0,
      m.1,
      rw (items, map-append fields_of c.loop-record.records.items (c.in-Ok.record ∷ [])) m.2,
      steps.3 ∙ inv.7,
      omega (
        arith,
        inv.8,
        count,
        ap length items,
        length-append c.loop-record.records.items
            (c.in-Ok.record ∷ []),
      ),
    )

pub returns : goal.returns
returns c =
    let inv = c.loop-record.invariant in
    let first = map fields_of c.loop-record.records.items in
    let size = length-map c.loop-record.records.items fields_of in
    let few : length first ≤ c.args.wanted = omega (arith, inv.8, size) in
    elim (cases_lt 0 c.loop-record.record-iterator.n) [
      | inl more ↦
          let s = ((rw c.in-None.is at c.next.ensures.steps) more inv.2 inv.0).0 inv.1 in
          let ends = rows-end (λ (s : Bor (List ℕ)). Some s.now)
          c.loop-record.record-iterator.iter.rdr c.next.new.self.iter.rdr [] default_config inv.4
          inv.3 inv.5 s in
          first_of_all c.args.bytes.now c.args.wanted first
          (c.loop-record.record-iterator.iter.rdr.state, inv.4, inv.6, ends) few
      | inr none ↦
          first_of_more c.args.bytes.now c.args.wanted first
          c.loop-record.record-iterator.iter.rdr.state inv.4 inv.6 (omega (arith, inv.8, size))
          few
    ]
