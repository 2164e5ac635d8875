-- A legal transcript goes on by one segment.
use Rattle.std.proofs.Common.{◌≡◌, ℕ, zero, suc, ◌+◌, ◌-◌, ◌<◌, ◌≤◌, ◌⊎◌, List, [], ◌∷◌, ◌++◌}
use Rattle.std.proofs.Common.{length}
use Rattle.std.proofs.Common.{map, take, Some, inl, inr, refl, sym, ◌∙◌, ap, subst, arith}
use Rattle.std.proofs.Common.{length-append}
use Rattle.std.proofs.lemmas.List.{append_cancel_left, map-append, flat_map_more, take-append-le}
use Rattle.std.proofs.lemmas.List.{take_all, length_push, length-take-le}
use Rattle.std.proofs.lemmas.List.Elements.{All-nil, All-push, All-take}
use Rattle.std.proofs.lemmas.Option.{slice_get_within, same_Some}
use Rattle.std.proofs.lemmas.Slice.Zip.{all_zipped_more, AllZip-long}
use Rattle.std.specs.Prelude.{slice_get}
use Rattle.std.specs.List.{flat_map, AllZip}
use Rattle.plum_base.specs.declared.answers.Reading.{Reading}
use Rattle.plum_base.specs.declared.entry.Entry.{Entry}
use Rattle.plum_base.specs.declared.packet.Packet.{Packet}
use Rattle.plum_base.specs.declared.setup.Setup.{Setup}
use Rattle.plum_base.specs.Sites.{SitesView, areas_of, targets_of}
use Rattle.plum_seq.specs.Keys.{kept_after, kept, kept_in_segments_after, kept_in_segments}
use Rattle.plum_seq.specs.Laws.{KeptInParts}
use Rattle.plum_core.specs.History.{packet_of, IsValidHistory, HoldsKept}
use Rattle.plum_core.specs.Laws.{LegalAtStart, OverIsFrom, PartAdds, OnePartEach}
use Rattle.plum_core.specs.Transcript.{Transcript, entries_up_to, journal_of, IsReadingAt}
use Rattle.plum_core.specs.Transcript.{HoldsByLane, ArePredictions, IsReadingOver, IsReadingFrom}
use Rattle.plum_core.specs.Transcript.{AreReadingsFrom}
use Rattle.plum_core.specs.Transcript.{with_part, with_readings, IsLegalOver}
use Rattle.plum_base.proofs.Pushes.{slice_get-cases}
use Rattle.plum_seq.proofs.Segments.{length-kept_in_segments, kept_in_segments-push}
use Rattle.plum_core.proofs.Joining.{IsValidHistory-nil}
use Rattle.plum_core.proofs.Lists.{slice_get-take, beside}

-- the lists joined
abbrev joined : {X : Type 0} → List (List X) → List X
joined xss = flat_map (λ xs. xs) xss

-- A front of lists holds no more than all of them,
front_within : {X : Type 0} (n : ℕ) (xss : List (List X))
    → length (joined (take n xss)) ≤ length (joined xss)
front_within zero xss = omega arith
front_within (suc n) [] = omega arith
front_within (suc n) (xs ∷ xss) =
    let rest = front_within n xss in
    omega (arith, length-append xs (joined (take n xss)), length-append xs (joined xss))

-- and no more than the front so long once others join at the end.
front_grows : {X : Type 0} (n : ℕ) (xss yss : List (List X))
    → length (joined (take n xss)) ≤ length (joined (take n (xss ++ yss)))
front_grows zero xss yss = omega arith
front_grows (suc n) [] yss = omega arith
front_grows (suc n) (xs ∷ xss) yss =
    let rest = front_grows n xss yss in
    omega (
      arith,
      length-append xs (joined (take n xss)),
      length-append xs (joined (take n (xss ++ yss))),
    )

-- so many parts as segments
length-parts : (lanes : ℕ) (earlier : List Packet) (segments : List (List Packet))
    (parts : List (List Entry))
    → AllZip (HoldsByLane lanes) parts (kept_in_segments_after earlier segments)
    → length parts ≡ length segments
length-parts lanes earlier segments parts zip =
    sym (AllZip-long (HoldsByLane lanes) parts (kept_in_segments_after earlier segments) zip)
    ∙ length-kept_in_segments earlier segments

-- What joins a history of the kept packets is the kept ones of what comes after.
pub kept_part : KeptInParts → (history part : List Entry) (earlier packets : List Packet)
    → HoldsKept history earlier → HoldsKept (history ++ part) (earlier ++ packets)
    → map packet_of part ≡ kept_after earlier packets
kept_part in_parts history part earlier packets holds whole =
    append_cancel_left (kept earlier) _ _
    (ap (λ front. front ++ map packet_of part) (sym holds)
    ∙ sym (map-append packet_of history part) ∙ whole ∙ in_parts [] earlier packets)

-- Nothing is legal for no segments.
pub nothing_legal : LegalAtStart
nothing_legal setup sites = record {
  valid = IsValidHistory-nil setup (length sites.stations);
  complete = tt;
  marks = refl;
  areas = All-nil _;
  bounds = λ m a reading at. let none = at.mark in cc;
  rising = λ m a earlier later at after. let none = at.mark in cc;
  answers = λ m a reading area at is. let none = at.mark in cc;
}

-- no more at a mark than in the whole journal
pub mark_within : (m : ℕ) (t : Transcript) → length (entries_up_to m t) ≤ length (journal_of t)
mark_within m t = front_within m t.parts

-- Readings over the whole journal are readings over fronts of it.
pub over_is_from : OverIsFrom
over_is_from sites t m readings = each (areas_of sites.targets) readings
  where
    each : (areas : List (List ℕ)) (rs : List Reading)
        → AllZip (IsReadingOver sites (journal_of t)) areas rs
        → AllZip (IsReadingFrom sites (length (entries_up_to m t)) (journal_of t)) areas rs
    each [] [] all = tt
    each [] (r ∷ rs) all = absurd all
    each (area ∷ areas) [] all = absurd all
    each (area ∷ areas) (r ∷ rs) all =
        let front : r.front ≡ length (journal_of t) = all.0.front in
        let whole : take r.front (journal_of t) ≡ journal_of t =
        take_all r.front (journal_of t) (omega arith) in (
          record {
            least_is = omega (arith, mark_within m t);
            within = omega arith;
            answers = rw whole all.0.answers;
          },
          each areas rs all.1,
        )

-- A part more joins the journal.
pub part_adds : PartAdds
part_adds t part = (
  sym (flat_map_more (λ (p : List Entry). p) [] t.parts part),
  ap joined (take-append-le (length t.parts) t.parts (part ∷ []) (omega arith)
      ∙ take_all (length t.parts) t.parts (omega arith)),
)

-- There is one part for each segment.
pub one_part_each : OnePartEach
one_part_each setup sites segments read t legal =
    length-parts setup.lanes [] segments t.parts legal.complete

module _ (setup : Setup) (sites : SitesView) where
  module _ (segments : List (List Packet)) (read : ℕ) (t : Transcript) (segment : List Packet)
      (part : List Entry) (few : read ≤ length segments)
      (legal : IsLegalOver setup sites segments read t) where
    -- the transcript, one part more on
    abbrev longer : Transcript
    longer = with_part t part

    -- its journal
    journal_longer : journal_of t ++ part ≡ journal_of longer
    journal_longer = flat_map_more (λ (p : List Entry). p) [] t.parts part

    -- Its readings are those before.
    was : (m a : ℕ) (reading : Reading) → IsReadingAt longer m a reading → IsReadingAt t m a reading
    was m a reading at = record {
      from_one = at.from_one;
      of_mark = at.of_mark;
      mark = at.mark;
      area = at.area;
    }

    -- Each part holds the kept packets of its segment.
    complete_longer : HoldsByLane setup.lanes part (kept_after (joined segments) segment)
        → AllZip (HoldsByLane setup.lanes) longer.parts
        (kept_in_segments (segments ++ segment ∷ []))
    complete_longer holds =
        subst (AllZip (HoldsByLane setup.lanes) longer.parts)
        (sym (kept_in_segments-push [] segments segment))
        (all_zipped_more (HoldsByLane setup.lanes) t.parts (kept_in_segments segments) part
        (kept_after (joined segments) segment) legal.complete holds)

    module _ (m a : ℕ) (reading : Reading) (at : IsReadingAt t m a reading) where
      -- A mark that has readings has its part, so its front is as before, and the next one grows.
      bounds_longer : (length (entries_up_to m longer) ≤ reading.front)
          × (reading.front ≤ length (entries_up_to (m + 1) longer))
      bounds_longer =
          let from = at.from_one in
          let within = slice_get_within t.readings (m - 1) at.of_mark at.mark in
          let count = length-parts setup.lanes [] segments t.parts legal.complete in
          let has_part : m ≤ length t.parts = omega (arith, legal.marks) in
          let bound = legal.bounds m a reading at in
          let lower : length (entries_up_to m longer) ≤ reading.front =
          rw (take-append-le m t.parts (part ∷ []) has_part) bound.0 in
          (lower, omega (arith, bound.1, front_grows (m + 1) t.parts (part ∷ [])))

      -- Its answers are over the same front.
      answers_longer : (area : List ℕ) → slice_get (areas_of sites.targets) a ≡ Some area
          → ArePredictions sites.stations (take reading.front (journal_of longer))
          (targets_of area sites.targets) reading.answers
      answers_longer area is =
          let upper = (legal.bounds m a reading at).1 in
          let within : reading.front ≤ length (journal_of t) =
          omega (arith, upper, mark_within (m + 1) t) in
          let same : take reading.front (journal_of longer) ≡ take reading.front (journal_of t) =
          ap (take reading.front) (sym journal_longer)
          ∙ take-append-le reading.front (journal_of t) part within in
          rw same (legal.answers m a reading area at is)

    -- The part of one segment more joins.
    pub part_joins : HoldsByLane setup.lanes part (kept_after (joined segments) segment)
        → IsValidHistory setup (length sites.stations) (journal_of t ++ part)
        → IsLegalOver setup sites (segments ++ segment ∷ []) read longer
    part_joins holds valid = record {
      valid = subst (IsValidHistory setup (length sites.stations)) journal_longer valid;
      complete = complete_longer holds;
      marks = legal.marks;
      areas = legal.areas;
      bounds = λ m a reading at. bounds_longer m a reading (was m a reading at);
      rising = λ m a earlier later at after.
          legal.rising m a earlier later (was m a earlier at) (was (m + 1) a later after);
      answers = λ m a reading area at. answers_longer m a reading (was m a reading at) area;
    }

  module _ (segments : List (List Packet)) (read : ℕ) (t : Transcript) (readings : List Reading)
      (has_part : read < length segments) (last_but_one : length segments ≤ read + 2)
      (legal : IsLegalOver setup sites segments read t)
      (are : AreReadingsFrom sites (length (entries_up_to (read + 1) t)) (journal_of t) readings)
    where
      -- the transcript, with the readings at one mark more
      abbrev read_on : Transcript
      read_on = with_readings t readings

      -- what a reading at the new mark says
      abbrev IsFrom : List ℕ → Reading → Type 0
      IsFrom = IsReadingFrom sites (length (entries_up_to (read + 1) t)) (journal_of t)

      -- a reading at the new mark
      record IsNew (m a : ℕ) (reading : Reading) : Type 0 where
        last : m ≡ read + 1
        area : List ℕ
        name : slice_get (areas_of sites.targets) a ≡ Some area
        from : IsFrom area reading

      -- Each reading is one of those before, or at the new mark.
      old_or_new : (m a : ℕ) (reading : Reading) → IsReadingAt read_on m a reading
          → IsReadingAt t m a reading ⊎ IsNew m a reading
      old_or_new m a reading at =
          elim (slice_get-cases t.readings readings (m - 1) at.of_mark at.mark) [
            | inl old ↦
                inl (record {
                  from_one = at.from_one;
                  of_mark = at.of_mark;
                  mark = old.1;
                  area = at.area;
                })
            | inr last ↦
                let here : slice_get readings a ≡ Some reading =
                ap (λ rs. slice_get rs a) last.1 ∙ at.area in
                let its_area = beside IsFrom (areas_of sites.targets) readings a reading are here in
                let from = at.from_one in
                let position = last.0 in
                inr (record {
                  last = omega (arith, legal.marks);
                  area = its_area.0;
                  name = its_area.1;
                  from = its_area.2;
                })
          ]

      -- The fronts of the new ones hold all up to their mark, and are within the journal, which
      -- ends at the next mark.
      bounds_read_on : (m a : ℕ) (reading : Reading) → IsReadingAt read_on m a reading
          → (length (entries_up_to m t) ≤ reading.front)
          × (reading.front ≤ length (entries_up_to (m + 1) t))
      bounds_read_on m a reading at =
          elim (old_or_new m a reading at) [
            | inl old ↦ legal.bounds m a reading old
            | inr new ↦
                let last : m ≡ read + 1 = new.last in
                let count = length-parts setup.lanes [] segments t.parts legal.complete in
                let whole : length (entries_up_to (m + 1) t) ≡ length (journal_of t) =
                ap (λ parts. length (joined parts)) (take_all (m + 1) t.parts (omega arith)) in (
                  subst (λ m. length (entries_up_to m t) ≤ reading.front) (sym last)
                      new.from.least_is,
                  subst (λ n. reading.front ≤ n) (sym whole) new.from.within,
                )
          ]

      -- Their answers are over their fronts.
      answers_read_on : (m a : ℕ) (reading : Reading) (area : List ℕ)
          → IsReadingAt read_on m a reading → slice_get (areas_of sites.targets) a ≡ Some area
          → ArePredictions sites.stations (take reading.front (journal_of t))
          (targets_of area sites.targets) reading.answers
      answers_read_on m a reading area at is =
          elim (old_or_new m a reading at) [
            | inl old ↦ legal.answers m a reading area old is
            | inr new ↦
                let same : new.area ≡ area = same_Some _ _ (sym new.name ∙ is) in
                subst (λ name. ArePredictions sites.stations (take reading.front (journal_of t))
                (targets_of name sites.targets) reading.answers) same new.from.answers
          ]

      -- The readings at one mark more join. A front is at most the journal at the next mark, which
      -- is at most the next front.
      pub readings_join : IsLegalOver setup sites segments (read + 1) read_on
      readings_join = record {
        valid = legal.valid;
        complete = legal.complete;
        marks = length_push t.readings readings ∙ ap (λ n. n + 1) legal.marks;
        areas =
            All-push (λ rs. length rs ≡ length (areas_of sites.targets)) t.readings readings
            legal.areas (AllZip-long _ _ readings are);
        bounds = bounds_read_on;
        rising = λ m a earlier later at after.
            let first = bounds_read_on m a earlier at in
            let second = bounds_read_on (m + 1) a later after in
            omega (arith, first.1, second.0);
        answers = answers_read_on;
      }

  module _ (segments : List (List Packet)) (read fewer : ℕ) (t : Transcript) (few : fewer ≤ read)
      (legal : IsLegalOver setup sites segments read t) where
    -- the transcript with the readings at the first marks alone
    abbrev read_less : Transcript
    read_less = record { parts = t.parts; readings = take fewer t.readings }

    -- Its readings are among those of the transcript.
    among : (m a : ℕ) (reading : Reading) → IsReadingAt read_less m a reading
        → IsReadingAt t m a reading
    among m a reading at = record {
      from_one = at.from_one;
      of_mark = at.of_mark;
      mark = slice_get-take fewer t.readings (m - 1) at.of_mark at.mark;
      area = at.area;
    }

    -- So it is right.
    pub less_is_legal : IsLegalOver setup sites segments fewer read_less
    less_is_legal = record {
      valid = legal.valid;
      complete = legal.complete;
      marks = length-take-le fewer t.readings (omega (arith, legal.marks));
      areas =
          All-take (λ rs. length rs ≡ length (areas_of sites.targets)) fewer t.readings legal.areas;
      bounds = λ m a reading at. legal.bounds m a reading (among m a reading at);
      rising = λ m a earlier later at after.
          legal.rising m a earlier later (among m a earlier at) (among (m + 1) a later after);
      answers = λ m a reading area at. legal.answers m a reading area (among m a reading at);
    }
