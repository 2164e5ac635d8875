use Rattle.std.proofs.Common.{◌≡◌, ◌-◌, Bool, true, List, [], length, take, drop, refl, sym, ◌∙◌}
use Rattle.std.proofs.Common.{subst, arith, eq-eqb}
use Rattle.std.proofs.lemmas.List.{take-append-drop}
use Rattle.std.proofs.Math.Seq.{take-length}
use Rattle.std.specs.List.{flat_map}
use Rattle.std.specs.Prelude.{◌==◌, if◌then◌else◌}
use Rattle.plum_base.specs.declared.entry.Entry.{Entry}
use Rattle.plum_core.specs.History.{IsValidHistory}
use Rattle.plum_core.specs.Transcript.{journal_of, IsLegalOver}
use Rattle.plum_core.proofs.Joining.{IsValidHistory-front}
use Rattle.plum_core.proofs.ByLane.{part_of_lanes}
use Rattle.plum_core.proofs.Counted.{part_counted}
use Rattle.plum_core.proofs.GoingOn.{nothing_legal, part_joins, readings_join, less_is_legal}
use Rattle.plum_core.proofs.GoingOn.{over_is_from, part_adds, one_part_each}
use Rattle.plum_core.proofs.Legal.{packets_of-parts}
use Rattle.plum_core.proofs.Showing.{shows_its_value}
use Rattle.plum_core.proofs.laws.legal_transcripts.Goals as goal

pub returns-clause-end : goal.returns-clause-end
returns-clause-end c = λ setup sites segments t.
    let n = length segments in
    let last : (n == n) ≡ true = eq-eqb n n refl in
    let Over : Bool → Type 0 = λ b.
    IsLegalOver setup sites (take n segments) (if b then n else n - 1) t in (
      λ up.
          subst (λ s. IsLegalOver setup sites s n t) (take-length segments) (subst Over last up.1),
      λ legal. (
        omega arith,
        subst Over (sym last)
            (subst (λ s. IsLegalOver setup sites s n t) (sym (take-length segments)) legal),
      ),
    )

pub returns-clause-by_station : goal.returns-clause-by_station
returns-clause-by_station c = λ setup sites segments t m station legal.
    let law = c.kept_packets.ensures in
    packets_of-parts setup.lanes station law.parts m [] segments t.parts legal.complete
    ∙ law.by_station station (flat_map (λ segment. segment) (take m segments))

pub returns-clause-shows : goal.returns-clause-shows
returns-clause-shows c = λ setup sites segments t n s table legal.
    let stations = length sites.stations in
    let journal : List Entry = journal_of t in
    let valid : IsValidHistory setup stations (take n journal) =
    IsValidHistory-front setup stations (take n journal) (drop n journal)
    (subst (IsValidHistory setup stations) (sym (take-append-drop n journal)) legal.valid) in
    shows_its_value setup stations s table (take n journal) valid

pub returns-clause-start : goal.returns-clause-start
returns-clause-start c = nothing_legal

pub returns-clause-part : goal.returns-clause-part
returns-clause-part c = part_joins

pub returns-clause-of_lanes : goal.returns-clause-of_lanes
returns-clause-of_lanes c = λ setup sites segments read t segment part legal.
    let law = c.kept_packets.ensures in
    part_of_lanes law.joins law.leaves law.parts setup (length sites.stations) segments t.parts
    segment part legal.complete

pub returns-clause-counted : goal.returns-clause-counted
returns-clause-counted c = part_counted

pub returns-clause-over : goal.returns-clause-over
returns-clause-over c = over_is_from

pub returns-clause-adds : goal.returns-clause-adds
returns-clause-adds c = part_adds

pub returns-clause-each : goal.returns-clause-each
returns-clause-each c = one_part_each

pub returns-clause-readings : goal.returns-clause-readings
returns-clause-readings c = readings_join

pub returns-clause-fewer : goal.returns-clause-fewer
returns-clause-fewer c = less_is_legal
