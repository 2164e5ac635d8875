use Rattle.std.proofs.Common.{◌≡◌, ◌<◌, ◌+◌, ℕ, length, List, Some, true, map}
use Rattle.csv.specs.Reading.{Reached, Ready, default_config, source_of, strip_bom, is_flexible}
use Rattle.csv.specs.Records.{fields_of}
use Rattle.csv.specs.declared.parser.State.TheVariants as st
use Rattle.csv.specs.declared.reader.Trim.TheVariants as trim
use Rattle.plum_sites.proofs.records.first_records.Given as goal

abbrev pub invariant-loop-record : goal.invariant-loop-record
invariant-loop-record l = (l.record-iterator.iter.rdr.trim ≡ trim.None)
    × Ready l.record-iterator.iter.rdr
    × (0 < l.record-iterator.iter.left) × (l.record-iterator.iter.rdr.config ≡ default_config)
    × (y : List ℕ) × (source_of (λ s. Some s.now) l.record-iterator.iter.rdr ≡ Some y)
    × Reached default_config st.StartRecord (strip_bom l.fn.bytes) (map fields_of l.records.items)
    l.record-iterator.iter.rdr.state y
    × (is_flexible l.record-iterator.iter.rdr ≡ true)
    × (length l.records.items + l.record-iterator.n ≡ l.fn.wanted)
