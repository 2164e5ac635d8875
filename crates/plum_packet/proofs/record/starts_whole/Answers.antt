use Rattle.std.proofs.Common.{ℕ, ◌<◌, ◌≤◌, inl, inr, length, get_or, arith, leb-true, le-leb}
use Rattle.std.proofs.lemmas.Bool.{cases_lt}
use Rattle.std.proofs.Math.Facts.{Fits-lt-pow}
use Rattle.plum_packet.specs.Record.{record_end}
use Rattle.plum_packet.proofs.Captures.{has_record}
use Rattle.plum_packet.proofs.Spelling.{record_end-le}
use Rattle.plum_packet.proofs.record.starts_whole.Goals as goal

pub returns-clause-whole : goal.returns-clause-whole
returns-clause-whole c =
    let bytes = c.args.bytes.now in
    let said = c.end_of.ensures in
    let end = c.end_of.result in
    let byte : (k : ℕ) → get_or bytes k 0 < 256 = λ k. Fits-lt-pow (c.type_inv.bytes k) in (
      λ whole.
          let reached : end ≤ length bytes = leb-true end (length bytes) whole in
          elim (cases_lt (length bytes) 2) [
            | inl short ↦ absurd (omega (arith, reached, said.length short))
            | inr long ↦
                let fits : record_end bytes ≤ length bytes =
                omega (arith, reached, said.body long) in
                has_record bytes (byte 0) (byte 1) fits
          ],
      λ has.
          let fits = record_end-le bytes has in
          let long : 2 ≤ length bytes = omega (arith, fits) in
          le-leb end (length bytes) (omega (arith, said.body long, fits)),
    )
