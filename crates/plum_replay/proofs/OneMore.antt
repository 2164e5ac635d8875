-- A replay that goes on by a round.
use Rattle.std.proofs.Common.{◌≡◌, ℕ, ◌+◌, ◌-◌, ◌≤◌, Bool, List, [], ◌∷◌, ◌++◌, length}
use Rattle.std.proofs.Common.{map, refl, sym, ap, ap₂, subst, ◌∙◌, arith, append-nil, length-append}
use Rattle.std.proofs.Common.{slice_index_or}
use Rattle.std.proofs.lemmas.List.{map-append, length_push, length-map}
use Rattle.std.proofs.lemmas.List.Concat.{flat_map-append}
use Rattle.std.specs.List.{flat_map}
use Rattle.plum_base.specs.declared.answers.Reading.{Reading}
use Rattle.plum_base.specs.declared.counts.Counts.{Counts}
use Rattle.plum_base.specs.declared.packet.Packet.{Packet}
use Rattle.plum_base.specs.declared.packet.RefusedBody.{RefusedBody}
use Rattle.plum_base.specs.declared.setup.Setup.{Setup}
use Rattle.plum_base.specs.Note.{note_of}
use Rattle.plum_base.specs.Sites.{SitesView}
use Rattle.plum_packet.specs.Counts.{counts_in}
use Rattle.plum_packet.specs.Laws.{CountsGoOn}
use Rattle.plum_packet.specs.Segments.{Decoded, packets_in, refused_in}
use Rattle.plum_packet.proofs.Taking.{all_decoded}
use Rattle.plum_core.specs.History.{IsValidHistory}
use Rattle.plum_core.specs.Keys.{kept_after}
use Rattle.plum_core.specs.Laws.{PartJoins, PartIsCounted, PartAdds}
use Rattle.plum_core.specs.Transcript.{Transcript, IsLegalOver, AreReadingsFrom}
use Rattle.plum_core.specs.Transcript.{journal_of, HoldsByLane, with_part}
use Rattle.plum_alert.specs.Desk.{StandsFor as DeskStandsFor}
use Rattle.plum_lanes.specs.Gathering.{gathered}
use Rattle.plum_centre.specs.declared.centre.Centre.{Centre}
use Rattle.plum_centre.specs.Centre.{CentreId}
use Rattle.plum_text.specs.Texts.{Section, journal_text, totals_of}
use Rattle.plum_replay.specs.declared.progress.Counted.{Counted}
use Rattle.plum_replay.specs.declared.progress.Progress.{Progress}
use Rattle.plum_replay.specs.Between.{GoesOnBy, last_readings}
use Rattle.plum_replay.specs.Parts.{notes_text, section_text, sections_text}
use Rattle.plum_replay.specs.Progress.{AreDesks, both, IsAt, HasWorkedOn, HasTold}
use Rattle.plum_replay.specs.Progress.{TakesOneMore, TellsMark}
use Rattle.plum_replay.specs.Sections.{of_area, AreSections}
use Rattle.plum_replay.proofs.Marks.{of_area-push, AreSections-push}
use Rattle.plum_replay.proofs.Marks.{AreSections-length}
use Rattle.plum_replay.proofs.PartTexts.{journal_text-push, sections_text-push, totals_of-push}

-- the packets of segments, joined
flat_packets : (segments : List (List Decoded))
    → flat_map (λ s. s) (map packets_in segments) ≡ flat_map packets_in segments
flat_packets [] = refl
flat_packets (segment ∷ segments) = ap (λ ps. packets_in segment ++ ps) (flat_packets segments)

-- one list more
flat-push : {X Y : Type 0} (f : X → List Y) (xs : List X) (x : X)
    → flat_map f (xs ++ x ∷ []) ≡ flat_map f xs ++ f x
flat-push f xs x =
    flat_map-append f xs (x ∷ []) ∙ ap (λ l. flat_map f xs ++ l) (append-nil (f x))

-- the counts of so many packets, of which so many are kept, and so many refused bodies
abbrev pub counts_by : ℕ → ℕ → ℕ → Counts
counts_by packets kept refused = record {
  bodies = packets + refused;
  kept = kept;
  repeats = packets - kept;
  refused = refused;
}

pub counts_alike : (p q k l r s : ℕ) → p ≡ q → k ≡ l → r ≡ s → counts_by p k r ≡ counts_by q l s
counts_alike p q k l r s packets kept refused =
    ap (λ p. counts_by p k r) packets ∙ ap (λ k. counts_by q k r) kept ∙ ap (counts_by q l) refused

-- those of a segment, by what it holds
counted_in : (decoded : List Decoded) (kept : List Packet) (k : ℕ) → k ≡ length kept
    → counts_by (length (packets_in decoded)) k (length (refused_in decoded))
    ≡ counts_in decoded kept
counted_in decoded kept k same =
    let made : ℕ → ℕ → Counts = λ b k. record {
      bodies = b;
      kept = k;
      repeats = length (packets_in decoded) - k;
      refused = length (refused_in decoded);
    } in
    ap₂ made (sym (all_decoded decoded)) same

-- what was written where nothing stood before
pub written : (out old lines same : List ℕ) → out ≡ old ++ lines → old ≡ [] → lines ≡ same
    → out ≡ same
written out old lines same appended empty is = appended ∙ ap (λ l. l ++ lines) empty ∙ is

module _ (part_joins : PartJoins) (part_counted : PartIsCounted) (part_adds : PartAdds)
    (id : CentreId) (setup : Setup) (sites : SitesView) (segments : List (List Decoded))
    (read : ℕ) (t : Transcript) (segment : List Decoded) (reads : Bool)
    (before : Progress) (first : Centre) (few : read ≤ length segments)
    (was : HasWorkedOn id setup sites segments read t before first)
    (after : Progress) (centre : Centre)
    (goes : GoesOnBy id (flat_map packets_in segments) (packets_in segment) reads first centre)
    (lines : List ℕ) (ahead : Counted)
    (lines_are : lines ≡ notes_text sites.stations (before.segments + 1) (before.counts.kept + 1)
    (map note_of goes.part))
    (counts_are : ahead.counts
    ≡ counts_by (length (packets_in segment)) (length goes.part) (length (refused_in segment)))
    (refused_are : ahead.refused.items ≡ refused_in segment)
    (summed : after.counts ≡ both before.counts ahead.counts)
    (number : after.segments ≡ before.segments + 1)
    (then : IsAt id setup sites (flat_map packets_in segments ++ packets_in segment) after centre)
  where
    abbrev packets : List Packet
    packets = flat_map packets_in segments

    -- the packets that are kept of the segment
    abbrev kept : List Packet
    kept = kept_after packets (packets_in segment)

    abbrev after_part : Transcript
    after_part = with_part t goes.part

    setup_is : id.opening.basis.setup ≡ setup
    setup_is = ap (λ basis. basis.setup) was.at.of.basis_is

    kept_by_lane : HoldsByLane setup.lanes goes.part kept
    kept_by_lane = subst (λ (s : Setup). HoldsByLane s.lanes goes.part kept) setup_is goes.kept

    journal_is : journal_of after_part ≡ journal_of t ++ goes.part
    journal_is = (part_adds t goes.part).0

    gathered_is : gathered centre.feeder.gather ≡ journal_of t ++ goes.part
    gathered_is = goes.grew ∙ ap (λ es. es ++ goes.part) was.journal

    valid : IsValidHistory setup (length sites.stations) (journal_of t ++ goes.part)
    valid =
        let whole = goes.between.whole.lanes_are.gather_is.valid in
        let stations : id.opening.basis.stations ≡ length sites.stations =
        ap (λ basis. basis.stations) was.at.of.basis_is in
        subst (IsValidHistory setup (length sites.stations)) gathered_is
        (subst (λ n. IsValidHistory setup n (gathered centre.feeder.gather)) stations
        (subst (λ s. IsValidHistory s id.opening.basis.stations (gathered centre.feeder.gather))
        setup_is whole))

    mapped : map packets_in (segments ++ segment ∷ [])
        ≡ map packets_in segments ++ packets_in segment ∷ []
    mapped = map-append packets_in segments (segment ∷ [])

    legal : IsLegalOver setup sites (map packets_in (segments ++ segment ∷ [])) read after_part
    legal =
        let holds = subst (λ ps. HoldsByLane setup.lanes goes.part
        (kept_after ps (packets_in segment))) (sym (flat_packets segments)) kept_by_lane in
        subst (λ ps. IsLegalOver setup sites ps read after_part) (sym mapped)
        (part_joins setup sites (map packets_in segments) read t (packets_in segment) goes.part
        (omega (arith, few, length-map segments packets_in)) was.legal holds valid)

    kept_count : length goes.part ≡ length kept
    kept_count = part_counted setup goes.part kept kept_by_lane

    worked : HasWorkedOn id setup sites (segments ++ segment ∷ []) read after_part after centre
    worked = record {
      at = subst (λ ps. IsAt id setup sites ps after centre)
          (sym (flat-push packets_in segments segment)) then;
      journal = gathered_is ∙ sym journal_is;
      legal = legal;
      number = omega (arith, number, was.number, length_push segments segment);
      parts = omega (arith, was.parts, length_push segments segment, length_push t.parts goes.part);
      kept = omega (
        arith,
        ap (λ (c : Counts). c.kept) summed,
        ap (λ (c : Counts). c.kept) counts_are,
        was.kept,
        ap length journal_is,
        length-append (journal_of t) goes.part,
      );
    }

    -- One segment more is worked on.
    pub takes : TakesOneMore id setup sites segments read t segment reads before lines ahead after
        centre
    takes =
        let at : before.segments ≡ length t.parts = was.number ∙ sym was.parts in
        record {
          part = goes.part;
          worked = worked;
          journal_more = journal_text-push sites.stations t.parts goes.part
              ∙ ap (λ more. journal_text sites.stations t.parts ++ more) (sym (lines_are
              ∙ ap₂ (λ m n. notes_text sites.stations (m + 1) (n + 1) (map note_of goes.part)) at
              was.kept));
          counts_ahead = counts_are ∙ counted_in segment kept (length goes.part) kept_count;
          refused_ahead = refused_are;
          counts = summed;
          read_beside = λ r.
              subst (λ es. AreReadingsFrom sites (length (journal_of t)) es
              (last_readings centre.sessions.items)) (gathered_is ∙ sym journal_is)
              (subst (λ es. AreReadingsFrom sites (length es) (gathered centre.feeder.gather)
              (last_readings centre.sessions.items)) was.journal
              (subst (λ s. AreReadingsFrom s (length (gathered first.feeder.gather))
              (gathered centre.feeder.gather) (last_readings centre.sessions.items))
              was.at.of.sites_are (goes.read r)));
        }

-- The readings at a mark join: the sections have one more, and the desks were given them.
module _ (goes_on : CountsGoOn) (setup : Setup) (sites : SitesView) (done : List (List Decoded))
    (last : List Decoded) (t_readings : List (List Reading)) (sections : List Section)
    (before : Progress) (counted : Counted)
    (was : HasTold setup done last t_readings sections before counted)
    (m : ℕ) (at : m ≡ length done + 1) (readings : List Reading) (after : Progress)
    (text : List ℕ)
    (tells : TellsMark setup.rules (λ a. of_area a t_readings) sites.targets m counted readings
    after.desks.items text) where
  -- the section of the mark
  abbrev pub section_of : Section
  section_of = record {
    counts = counted.counts;
    refused = counted.refused.items;
    readings = readings;
    alerts = tells.alerts;
  }

  pub sections_then : AreSections setup.rules (done ++ last ∷ []) (t_readings ++ readings ∷ [])
      (sections ++ section_of ∷ [])
  sections_then =
      let kept = kept_after (flat_map packets_in done) (packets_in last) in
      let made : Counts → List RefusedBody → Section = λ c r. record {
        counts = c;
        refused = r;
        readings = readings;
        alerts = tells.alerts;
      } in
      subst (λ s. AreSections setup.rules (done ++ last ∷ []) (t_readings ++ readings ∷ [])
      (sections ++ s ∷ [])) (sym (ap₂ made was.counts_ahead was.refused_ahead))
      (AreSections-push setup.rules done t_readings sections last kept readings tells.alerts
      was.sections_are (goes_on done last) tells.next)

  pub output_then : sections_text sites.targets (sections ++ section_of ∷ [])
      ≡ sections_text sites.targets sections ++ text
  output_then =
      let same = AreSections-length setup.rules done t_readings sections was.sections_are in
      let here : m ≡ length sections + 1 = omega (arith, at, same) in
      sections_text-push sites.targets sections section_of
      ∙ ap (λ more. sections_text sites.targets sections ++ more) (sym (tells.text_is
      ∙ ap (λ n. section_text sites.targets n section_of) here))

  pub desks_then : AreDesks after.desks.items setup.rules
      (λ a. of_area a (t_readings ++ readings ∷ []))
  desks_then a d listed = subst (DeskStandsFor (slice_index_or after.desks.items a d) setup.rules)
      (sym (of_area-push a t_readings readings)) (tells.desks_are a d listed)

  -- the counts of all segments are those of all sections
  pub counts_then : before.counts ≡ totals_of (sections ++ section_of ∷ [])
  counts_then = was.counts ∙ sym (totals_of-push sections section_of)
