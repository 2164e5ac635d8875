-- What a round adds to a replay: the first, a later one, and the last.
use Rattle.std.proofs.Common.{◌≡◌, ℕ, ◌+◌, true, false, List, [], ◌∷◌, ◌++◌, length, map, Some}
use Rattle.std.proofs.Common.{◌<◌, Vec, refl, sym, ap, subst, ◌∙◌, arith, append-nil}
use Rattle.std.proofs.lemmas.List.{length_push, length-map, take_all, get_or_push}
use Rattle.std.proofs.lemmas.List.{nil_from_length}
use Rattle.std.proofs.lemmas.Option.{slice_get-get_or, slice_get-map}
use Rattle.std.specs.declared.alloc.Global.{Global}
use Rattle.std.specs.List.{flat_map}
use Rattle.std.specs.Option.{option_map}
use Rattle.std.specs.Prelude.{slice_get, slice_index_or, All}
use Rattle.plum_base.specs.declared.answers.Reading.{Reading}
use Rattle.plum_base.specs.declared.counts.Counts.{Counts}
use Rattle.plum_base.specs.declared.entry.Entry.{Entry}
use Rattle.plum_base.specs.declared.packet.Packet.{Packet}
use Rattle.plum_base.specs.declared.setup.Setup.{Setup}
use Rattle.plum_base.specs.Sites.{SitesView}
use Rattle.plum_packet.specs.Laws.{CountsGoOn}
use Rattle.plum_packet.specs.Segments.{Decoded, packets_in}
use Rattle.plum_core.specs.Laws.{PartAdds, ReadingsJoin}
use Rattle.plum_core.specs.Transcript.{Transcript, IsLegal, IsLegalOver, AreReadingsFrom}
use Rattle.plum_core.specs.Transcript.{IsReadingAt, journal_of, entries_up_to, with_part}
use Rattle.plum_core.specs.Transcript.{with_readings, no_transcript}
use Rattle.plum_lanes.specs.Gathering.{gathered}
use Rattle.plum_snap.specs.Sessions.{SessionView}
use Rattle.plum_alert.specs.Desk.{DeskView}
use Rattle.plum_centre.specs.declared.centre.Centre.{Centre}
use Rattle.plum_centre.specs.Centre.{CentreId}
use Rattle.plum_text.specs.Texts.{Section}
use Rattle.plum_replay.specs.declared.progress.Counted.{Counted}
use Rattle.plum_replay.specs.declared.progress.Progress.{Progress}
use Rattle.plum_replay.specs.Between.{GoesOnBy, last_readings}
use Rattle.plum_replay.specs.Progress.{AreDesks, both, HasWorkedOn, HasReplayed, TakesOneMore}
use Rattle.plum_replay.specs.Progress.{TellsMark, ReplaysOneMore, HasBegun, ReplaysFirst}
use Rattle.plum_replay.specs.Progress.{HoldsJournal, EndsReplay}
use Rattle.plum_replay.specs.Sections.{of_area}
use Rattle.plum_replay.proofs.Marks.{AreSections-nil, AreSections-length}
use Rattle.plum_replay.proofs.OneMore.{section_of, sections_then, output_then, desks_then}
use Rattle.plum_replay.proofs.OneMore.{counts_then}
use Rattle.plum_replay.proofs.Standing.{stands_still}

-- The first round takes a segment, and tells nothing.
pub replays_first : (id : CentreId) (setup : Setup) (sites : SitesView) (segment : List Decoded)
    (before : Progress) (first : Centre) (lines : List ℕ) (ahead : Counted) (after : Progress)
    (centre : Centre) → HasBegun id setup sites before first
    → TakesOneMore id setup sites [] 0 no_transcript segment false before lines ahead after centre
    → after.desks ≡ before.desks → ReplaysFirst id setup sites segment lines ahead after centre
replays_first id setup sites segment before first lines ahead after centre begun takes same =
    record {
      part = takes.part;
      replayed = record {
        worked = takes.worked;
        told = record {
          desks = subst (λ (ds : Vec DeskView Global). AreDesks ds.items setup.rules (λ _. []))
              (sym same) begun.desks;
          sections_are = AreSections-nil setup.rules;
          counts_ahead = takes.counts_ahead;
          refused_ahead = takes.refused_ahead;
          counts = takes.counts ∙ ap (λ c. both c ahead.counts) begun.counts;
        };
      };
      journal_is = takes.journal_more;
    }

module _ (goes_on : CountsGoOn) (readings_join : ReadingsJoin) (id : CentreId) (setup : Setup)
    (sites : SitesView) (done : List (List Decoded)) (last : List Decoded) (t : Transcript)
    (sections : List Section) (before : Progress) (counted : Counted) (first : Centre)
    (was : HasReplayed id setup sites done last t sections before counted first) where
  abbrev segments : List (List Decoded)
  segments = done ++ last ∷ []

  segments_long : length segments ≡ length done + 1
  segments_long = length_push done last

  -- the mark that is told
  at_mark : before.segments ≡ length done + 1
  at_mark = was.worked.number ∙ segments_long

  -- there is a section more than marks were told
  sections_long : (section : Section) → length (sections ++ section ∷ []) ≡ length done + 1
  sections_long section =
      omega (
        arith,
        length_push sections section,
        AreSections-length setup.rules done t.readings sections was.told.sections_are,
      )

  module _ (centre : Centre) (readings : List Reading)
      (read : readings ≡ last_readings centre.sessions.items) (after : Progress) (text : List ℕ)
      (tells : TellsMark setup.rules (λ a. of_area a t.readings) sites.targets before.segments
      counted readings after.desks.items text) where
    -- A later round takes a segment, and tells the mark before it.
    module _ (part_adds : PartAdds) (segment : List Decoded) (lines : List ℕ) (ahead : Counted)
        (middle : Progress)
        (takes : TakesOneMore id setup sites segments (length done) t segment true before lines
        ahead middle centre)
        (same_segments : after.segments ≡ middle.segments)
        (same_counts : after.counts ≡ middle.counts) where
      abbrev whole : Transcript
      whole = with_part t takes.part

      -- the segments with this one, as packets
      abbrev packets : List (List Packet)
      packets = map packets_in (segments ++ segment ∷ [])

      -- The readings hold all that was gathered before the segment: the entries up to the mark.
      read_from : AreReadingsFrom sites (length (entries_up_to (length done + 1) whole))
          (journal_of whole) readings
      read_from =
          let up_to : entries_up_to (length done + 1) whole ≡ journal_of t =
          subst (λ n. entries_up_to n whole ≡ journal_of t) (was.worked.parts ∙ segments_long)
          (part_adds t takes.part).1 in
          subst (λ (es : List Entry). AreReadingsFrom sites (length es) (journal_of whole) readings)
          (sym up_to)
          (subst (AreReadingsFrom sites (length (journal_of t)) (journal_of whole)) (sym read)
          (takes.read_beside refl))

      legal : IsLegalOver setup sites packets (length segments) (with_readings whole readings)
      legal =
          let long : length packets ≡ length done + 2 =
          omega (
            arith,
            length-map (segments ++ segment ∷ []) packets_in,
            length_push segments segment,
            segments_long,
          ) in
          subst (λ n. IsLegalOver setup sites packets n (with_readings whole readings))
          (sym segments_long)
          (readings_join setup sites packets (length done) whole readings (omega (arith, long))
          (omega (arith, long)) takes.worked.legal read_from)

      worked : HasWorkedOn id setup sites (segments ++ segment ∷ []) (length segments)
          (with_readings whole readings) after centre
      worked = record {
        at = stands_still id setup sites (flat_map packets_in (segments ++ segment ∷ [])) middle
            centre takes.worked.at after same_counts;
        journal = takes.worked.journal;
        legal = legal;
        number = same_segments ∙ takes.worked.number;
        parts = takes.worked.parts;
        kept = ap (λ (c : Counts). c.kept) same_counts ∙ takes.worked.kept;
      }

      pub replays_more : ReplaysOneMore id setup sites done last t sections segment lines text ahead
          after centre
      replays_more =
          let m = before.segments in
          let section = section_of goes_on setup sites done last t.readings sections before counted
          was.told m at_mark readings after text tells in
          record {
            part = takes.part;
            readings = readings;
            section = section;
            replayed = record {
              worked = worked;
              told = record {
                desks = desks_then goes_on setup sites done last t.readings sections before counted
                    was.told m at_mark readings after text tells;
                sections_are = sections_then goes_on setup sites done last t.readings sections
                    before counted was.told m at_mark readings after text tells;
                counts_ahead = takes.counts_ahead;
                refused_ahead = takes.refused_ahead;
                counts = same_counts ∙ takes.counts
                    ∙ ap (λ c. both c ahead.counts) (counts_then goes_on setup sites done last
                    t.readings sections before counted was.told m at_mark readings after text
                    tells);
              };
            };
            journal_more = takes.journal_more;
            output_more = output_then goes_on setup sites done last t.readings sections before
                counted was.told m at_mark readings after text tells;
          }

    -- The last round takes nothing, and tells the last mark.
    module _ (goes : GoesOnBy id (flat_map packets_in segments) [] true first centre)
        (same_segments : after.segments ≡ before.segments)
        (same_counts : after.counts ≡ before.counts) where
      abbrev ended : Transcript
      ended = with_readings t readings

      -- Nothing more is gathered.
      gathered_is : gathered centre.feeder.gather ≡ journal_of t
      gathered_is =
          goes.grew ∙ ap (λ es. es ++ goes.part) was.worked.journal
          ∙ ap (λ es. journal_of t ++ es) (nil_from_length goes.part (omega (arith, goes.few)))
          ∙ append-nil (journal_of t)

      -- The readings hold all of it.
      read_over : AreReadingsFrom sites (length (entries_up_to (length done + 1) t)) (journal_of t)
          readings
      read_over =
          let parts : length t.parts ≡ length done + 1 = was.worked.parts ∙ segments_long in
          let up_to : entries_up_to (length done + 1) t ≡ journal_of t =
          ap (flat_map (λ part. part))
          (take_all (length done + 1) t.parts (omega (arith, parts))) in
          let all : List Entry = gathered centre.feeder.gather in
          let of_sites : AreReadingsFrom sites (length (gathered first.feeder.gather)) all
          (last_readings centre.sessions.items) =
          subst (λ (s : SitesView). AreReadingsFrom s (length (gathered first.feeder.gather)) all
          (last_readings centre.sessions.items)) was.worked.at.of.sites_are (goes.read refl) in
          subst (λ (es : List Entry). AreReadingsFrom sites (length es) (journal_of t) readings)
          (was.worked.journal ∙ sym up_to)
          (subst (λ es. AreReadingsFrom sites (length (gathered first.feeder.gather)) es readings)
          gathered_is
          (subst (AreReadingsFrom sites (length (gathered first.feeder.gather)) all) (sym read)
          of_sites))

      legal_then : IsLegal setup sites (map packets_in segments) ended
      legal_then =
          let long : length (map packets_in segments) ≡ length done + 1 =
          length-map segments packets_in ∙ segments_long in
          subst (λ n. IsLegalOver setup sites (map packets_in segments) n ended) (sym long)
          (readings_join setup sites (map packets_in segments) (length done) t readings
          (omega (arith, long)) (omega (arith, long)) was.worked.legal read_over)

      -- The last reading of each session is that of its area.
      last_is : (a : ℕ) (d : SessionView) → a < length centre.sessions.items
          → IsReadingAt ended (length ended.readings) a
          (slice_index_or centre.sessions.items a d).last
      last_is a d less =
          let last_of : SessionView → Reading = λ s. s.last in
          let n = length t.readings in
          let long : length ended.readings ≡ n + 1 = length_push t.readings readings in
          record {
            from_one = omega (arith, long);
            of_mark = readings;
            mark =
                ap (slice_get ended.readings) (omega (arith, long))
                ∙ slice_get-get_or ended.readings n readings (omega (arith, long))
                ∙ ap Some (get_or_push t.readings readings readings n refl);
            area =
                ap (λ rs. slice_get rs a) read ∙ slice_get-map last_of centre.sessions.items a
                ∙ ap (option_map last_of) (slice_get-get_or centre.sessions.items a d less);
          }

      holds : HoldsJournal id ended centre
      holds = record {
        whole = goes.between.whole;
        gathered_is = gathered_is;
        published_is = goes.between.published ∙ gathered_is;
        sent = goes.between.sent;
        seen = subst (λ es. All (λ session. session.seen ≡ es) centre.sessions.items) gathered_is
            goes.between.seen;
        last = last_is;
      }

      pub ends_replay : EndsReplay id setup sites done last t sections text after centre
      ends_replay =
          let m = before.segments in
          let section = section_of goes_on setup sites done last t.readings sections before counted
          was.told m at_mark readings after text tells in
          record {
            readings = readings;
            section = section;
            legal = legal_then;
            sections_are = sections_then goes_on setup sites done last t.readings sections before
                counted was.told m at_mark readings after text tells;
            output_more = output_then goes_on setup sites done last t.readings sections before
                counted was.told m at_mark readings after text tells;
            number = same_segments ∙ at_mark ∙ sym (sections_long section);
            counts = same_counts ∙ counts_then goes_on setup sites done last t.readings sections
                before counted was.told m at_mark readings after text tells;
            holds = holds;
          }
