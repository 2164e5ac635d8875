-- A reader that stops at a fault.
use Rattle.std.proofs.Common.{◌≡◌, ℕ, ◌≤◌, List, [], ◌∷◌, ◌++◌, Option, sym, ap, subst, ◌∙◌}
use Rattle.std.proofs.Common.{append-nil, append_assoc, arith}
use Rattle.std.proofs.lemmas.List.{length_push}
use Rattle.std.proofs.lemmas.List.Concat.{flat_map-append}
use Rattle.std.specs.List.{flat_map, AllByRecursion}
use Rattle.plum_packet.specs.Capture.{record_of, IsBody, AreRecords, HasRecord}
use Rattle.plum_packet.specs.Reading.{HasMoreRecords, IsWithin, TakesRecords}
use Rattle.plum_packet.specs.Records.{RecordsView, StandsAt, GoesOn}

-- one body more
lengths-push : (bodies : List (List ℕ)) (body : List ℕ) → AllByRecursion IsBody bodies
    → IsBody body → AllByRecursion IsBody (bodies ++ body ∷ [])
lengths-push [] body are is = (is, tt)
lengths-push (first ∷ bodies) body are is = (are.0, lengths-push bodies body are.1 is)

-- A whole record behind others is one more.
records-push : (capture : List ℕ) (bodies : List (List ℕ)) (ahead rest : List ℕ)
    → AreRecords capture bodies (ahead ++ rest) → (found : HasRecord ahead)
    → AreRecords capture (bodies ++ found.0 ∷ []) (found.1 ++ rest)
records-push capture bodies ahead rest are found =
    let (body, more, fits, is) = found in
    record {
      spelled = are.spelled
          ∙ ap (λ bytes. flat_map record_of bodies ++ (bytes ++ rest)) is
          ∙ ap (λ bytes. flat_map record_of bodies ++ bytes)
          (append_assoc (record_of body) more rest)
          ∙ sym (append_assoc (flat_map record_of bodies) (record_of body) (more ++ rest))
          ∙ ap (λ bytes. bytes ++ (more ++ rest))
          (ap (λ bytes. flat_map record_of bodies ++ bytes) (sym (append-nil (record_of body)))
          ∙ sym (flat_map-append record_of bodies (body ∷ [])));
      lengths = lengths-push bodies body are.lengths fits;
    }

-- A reader that gave nothing more took no record.
pub takes_none : (old new : RecordsView) (left after : Option (List ℕ))
    → GoesOn old left new after → TakesRecords old left new after
takes_none old new left after on = λ capture bodies stands. (
  [],
  subst (λ l. StandsAt capture l new after) (sym (append-nil bodies))
      (on capture bodies stands),
)

module _ (capture : List ℕ) (bodies : List (List ℕ)) (old new : RecordsView)
    (left after : Option (List ℕ)) (limit : ℕ) (stands : StandsAt capture bodies old left)
    (taken : TakesRecords old left new after) where
  -- a read that fails
  pub within : new.given ≤ limit → ¬ HasRecord new.ahead → IsWithin limit capture after
  within few none =
      let now = taken capture bodies stands in
      record {
        bodies = bodies ++ now.0;
        ahead = new.ahead;
        rest = now.1.rest;
        told = now.1.told;
        records = now.1.records;
        few = omega (arith, now.1.count, few);
        no_more = none;
      }

  -- a record too many
  pub exceeds : new.given ≡ limit → HasRecord new.ahead → HasMoreRecords capture limit
  exceeds full found =
      let now = taken capture bodies stands in
      let all = bodies ++ now.0 in (
        all ++ found.0 ∷ [],
        found.1 ++ now.1.rest,
        records-push capture all new.ahead now.1.rest now.1.records found,
        omega (arith, now.1.count, full, length_push all found.0),
      )
