-- What a replay that stops has appended.
use Rattle.std.proofs.Common.{◌≡◌, ◌-◌, ℕ, List, [], ◌∷◌, ◌++◌, length, take}
use Rattle.std.proofs.Common.{Option, Some, None, inl, inr, refl, sym, ap, subst, ◌∙◌, arith}
use Rattle.std.proofs.Common.{append-nil, append_assoc}
use Rattle.std.proofs.lemmas.List.{length_push, take_at}
use base.Growing.{prefix_refl}
use mathlib.Core.List.{IsPrefix}
use Rattle.plum_base.specs.declared.entry.Entry.{Entry}
use Rattle.plum_base.specs.declared.setup.Setup.{Setup}
use Rattle.plum_base.specs.Sites.{SitesView}
use Rattle.plum_host.specs.declared.host.To.TheVariants.{Out, Journal}
use Rattle.plum_host.specs.Told.{HostView, Appends, AppendsFront}
use Rattle.plum_host.proofs.Pieces.{appends-more}
use Rattle.plum_packet.specs.Segments.{Decoded}
use Rattle.plum_core.specs.Laws.{LegalAtStart}
use Rattle.plum_core.specs.Transcript.{no_transcript, with_part, with_readings}
use Rattle.plum_centre.specs.declared.centre.Centre.{Centre}
use Rattle.plum_centre.specs.Centre.{CentreId}
use Rattle.plum_text.specs.Texts.{Section, journal_text, out_text}
use Rattle.plum_replay.specs.declared.progress.Counted.{Counted}
use Rattle.plum_replay.specs.declared.progress.Progress.{Progress}
use Rattle.plum_replay.specs.Begun.{AreAll, AreTaken, IsBegun, AppendsBegun}
use Rattle.plum_replay.proofs.InOrder.{AreWritten}
use Rattle.plum_replay.specs.Parts.{sections_text}
use Rattle.plum_replay.specs.Progress.{ReplaysFirst, ReplaysOneMore, EndsReplay}
use Rattle.plum_replay.specs.Written.{HasWritten}
use Rattle.plum_replay.proofs.Beginnings.{partly, begun_within, begun_whole}
use Rattle.plum_replay.proofs.Marks.{AreSections-nil, AreSections-length}
use Rattle.plum_replay.proofs.Writings.{appends-same}

-- A front of the bytes is appended, so long.
pub front_of : (held after : Option (List ℕ)) (bytes : List ℕ) → AppendsFront held after bytes
    → (n : ℕ) × Appends held after (take n bytes)
front_of None after bytes front = (0, tt)
front_of (Some h) after bytes front = (front.0, front.2)

module _ (setup : Setup) (sites : SitesView) (capture : List ℕ) (left : Option (List ℕ)) where
  -- before the first segment
  pub stops_at_first : LegalAtStart → (others : List (List Decoded))
      → AreTaken sites.stations capture left others → (before now : HostView)
      → now.held Journal ≡ before.held Journal → now.held Out ≡ before.held Out
      → AppendsBegun setup sites capture left before now
  stops_at_first legal others taken before now same_journal same_out = (
    [],
    [],
    begun_within setup sites capture left [] [] others refl taken no_transcript [] [] []
        (legal setup sites) (AreSections-nil setup.rules) (prefix_refl []) (prefix_refl [])
        (inl refl),
    appends-same (before.held Journal) (now.held Journal) same_journal,
    appends-same (before.held Out) (now.held Out) same_out,
  )

  -- within the journal lines of the first segment
  pub stops_in_first : (id : CentreId) (decoded : List Decoded) (lines : List ℕ)
      (counted : Counted) (progress : Progress) (centre : Centre) (before now : HostView)
      → ReplaysFirst id setup sites decoded lines counted progress centre
      → AreTaken sites.stations capture left (decoded ∷ [])
      → AppendsFront (before.held Journal) (now.held Journal) lines
      → now.held Out ≡ before.held Out
      → AppendsBegun setup sites capture left before now
  stops_in_first id decoded lines counted progress centre before now more taken front same_out =
      let part = front_of (before.held Journal) (now.held Journal) lines front in
      let journal = take part.0 lines in
      let was = more.replayed in (
        journal,
        [],
        begun_within setup sites capture left [] (decoded ∷ []) [] refl taken
            (with_part no_transcript more.part) [] journal [] was.worked.legal
            was.told.sections_are (partly part.0 [] lines _ (sym more.journal_is))
            (prefix_refl []) (inr ((journal, refl), prefix_refl [])),
        part.1,
        appends-same (before.held Out) (now.held Out) same_out,
      )

  module _ (id : CentreId) (done : List (List Decoded)) (last : List Decoded)
      (progress : Progress) (counted : Counted) (centre : Centre) (before between : HostView)
      (was : HasWritten id setup sites done last progress counted centre before between) where
    -- the journal so far
    abbrev journal : List ℕ
    journal = journal_text sites.stations was.transcript.parts

    -- the output so far
    abbrev output : List ℕ
    output = sections_text sites.targets was.sections

    -- between two rounds
    pub stops_between : (others : List (List Decoded))
        → AreTaken sites.stations capture left ((done ++ last ∷ []) ++ others)
        → (now : HostView) → now.held Journal ≡ between.held Journal
        → now.held Out ≡ between.held Out → AppendsBegun setup sites capture left before now
    stops_between others taken now same_journal same_out = (
      journal,
      output,
      begun_within setup sites capture left done (last ∷ []) others
          (omega (arith, length_push done last)) taken was.transcript was.sections journal output
          was.replayed.worked.legal was.replayed.told.sections_are (prefix_refl journal)
          (prefix_refl output) (inl refl),
      subst (λ held. Appends (before.held Journal) held journal) (sym same_journal) was.journal,
      subst (λ held. Appends (before.held Out) held output) (sym same_out) was.output,
    )

    module _ (decoded : List Decoded) (lines section : List ℕ) (next : Counted)
        (after : Progress) (centre_after : Centre)
        (more : ReplaysOneMore id setup sites done last was.transcript was.sections decoded lines
        section next after centre_after)
        (taken : AreTaken sites.stations capture left ((done ++ last ∷ []) ++ decoded ∷ [])) where
      abbrev done_more : List (List Decoded)
      done_more = done ++ last ∷ []

      abbrev parts_more : List (List Entry)
      parts_more = was.transcript.parts ++ more.part ∷ []

      abbrev sections_more : List Section
      sections_more = was.sections ++ more.section ∷ []

      -- The two texts begin, where they are in order.
      begun_more : (journal_now output_now : List ℕ)
          → IsPrefix journal_now (journal_text sites.stations parts_more)
          → IsPrefix output_now (sections_text sites.targets sections_more)
          → AreWritten sites parts_more sections_more (length (done_more ++ decoded ∷ []))
          journal_now output_now
          → IsBegun setup sites capture left journal_now output_now
      begun_more journal_now output_now journal_begun output_begun written =
          begun_within setup sites capture left done_more (decoded ∷ []) []
          (omega (arith, length_push done_more decoded))
          (subst (AreTaken sites.stations capture left)
          (sym (append-nil (done_more ++ decoded ∷ []))) taken)
          (with_readings (with_part was.transcript more.part) more.readings) sections_more
          journal_now output_now more.replayed.worked.legal more.replayed.told.sections_are
          journal_begun output_begun written

      -- within the journal lines of the segment
      pub stops_in_lines : (now : HostView)
          → AppendsFront (between.held Journal) (now.held Journal) lines
          → now.held Out ≡ between.held Out → AppendsBegun setup sites capture left before now
      stops_in_lines now front same_out =
          let part = front_of (between.held Journal) (now.held Journal) lines front in
          let journal_now = journal ++ take part.0 lines in
          let k = length (done_more ++ decoded ∷ []) in
          let first : take (k - 1) parts_more ≡ was.transcript.parts =
          take_at was.transcript.parts (more.part ∷ []) (k - 1)
          (omega (arith, length_push done_more decoded, was.replayed.worked.parts)) in
          let marks = AreSections-length setup.rules done was.transcript.readings was.sections
          was.replayed.told.sections_are in
          let told : take (k - 2) sections_more ≡ was.sections =
          take_at was.sections (more.section ∷ []) (k - 2)
          (omega (arith, length_push done_more decoded, length_push done last, marks)) in (
            journal_now,
            output,
            begun_more journal_now output
                (partly part.0 journal lines _ (sym more.journal_more))
                (section, sym more.output_more)
                (inr (
                  subst (λ parts. IsPrefix (journal_text sites.stations parts) journal_now)
                      (sym first) (take part.0 lines, refl),
                  subst (λ ss. IsPrefix output (sections_text sites.targets ss)) (sym told)
                      (prefix_refl output),
                )),
            appends-more (before.held Journal) (between.held Journal) (now.held Journal) journal
                (take part.0 lines) was.journal part.1,
            subst (λ held. Appends (before.held Out) held output) (sym same_out) was.output,
          )

      -- within the section of the mark before it
      pub stops_in_section : (middle now : HostView)
          → Appends (between.held Journal) (middle.held Journal) lines
          → middle.held Out ≡ between.held Out
          → AppendsFront (middle.held Out) (now.held Out) section
          → now.held Journal ≡ middle.held Journal
          → AppendsBegun setup sites capture left before now
      stops_in_section middle now whole same_out front same_journal =
          let part = front_of (middle.held Out) (now.held Out) section front in
          let journal_now = journal ++ lines in
          let output_now = output ++ take part.0 section in (
            journal_now,
            output_now,
            begun_more journal_now output_now ([], append-nil journal_now ∙ sym more.journal_more)
                (partly part.0 output section _ (sym more.output_more))
                (inl (sym more.journal_more)),
            subst (λ held. Appends (before.held Journal) held journal_now) (sym same_journal)
                (appends-more (before.held Journal) (between.held Journal) (middle.held Journal)
                journal lines was.journal whole),
            appends-more (before.held Out) (middle.held Out) (now.held Out) output
                (take part.0 section)
                (subst (λ held. Appends (before.held Out) held output) (sym same_out) was.output)
                part.1,
          )

    -- behind the last segment
    pub stops_after_all : (tail : ℕ) → AreAll sites.stations capture left (done ++ last ∷ []) tail
        → AppendsBegun setup sites capture left before between
    stops_after_all tail all =
        let segments = done ++ last ∷ [] in
        stops_between [] (subst (AreTaken sites.stations capture left) (sym (append-nil segments))
        (inr (tail, all))) between refl refl

    -- within the section of the last mark, the tail and the totals
    pub stops_at_end : (text : List ℕ) (after : Progress) (centre_after : Centre)
        (more : EndsReplay id setup sites done last was.transcript was.sections text after
        centre_after) (tail : ℕ)
        → AreAll sites.stations capture left (done ++ last ∷ []) tail → (end : List ℕ)
        → out_text sites.targets (was.sections ++ more.section ∷ []) tail
        ≡ sections_text sites.targets (was.sections ++ more.section ∷ []) ++ end
        → (now : HostView) → AppendsFront (between.held Out) (now.held Out) (text ++ end)
        → now.held Journal ≡ between.held Journal
        → AppendsBegun setup sites capture left before now
    stops_at_end text after centre_after more tail all end ends now front same_journal =
        let part = front_of (between.held Out) (now.held Out) (text ++ end) front in
        let sections = was.sections ++ more.section ∷ [] in
        let output_now = output ++ take part.0 (text ++ end) in
        let joined : output ++ (text ++ end) ≡ out_text sites.targets sections tail =
        sym (append_assoc output text end)
        ∙ ap (λ bytes. bytes ++ end) (sym more.output_more) ∙ sym ends in (
          journal,
          output_now,
          begun_whole setup sites capture left (done ++ last ∷ []) tail all
              (with_readings was.transcript more.readings) sections output_now more.legal
              more.sections_are (partly part.0 output (text ++ end) _ joined),
          subst (λ held. Appends (before.held Journal) held journal) (sym same_journal)
              was.journal,
          appends-more (before.held Out) (between.held Out) (now.held Out) output
              (take part.0 (text ++ end)) was.output part.1,
        )

  -- From a host before whose outputs were the same, or that had nothing appended to its journal.
  pub begun_from : (first before now : HostView)
      → Appends (first.held Journal) (before.held Journal) [] → before.held Out ≡ first.held Out
      → AppendsBegun setup sites capture left before now
      → AppendsBegun setup sites capture left first now
  begun_from first before now nothing same_out begun = (
    begun.0,
    begun.1,
    begun.2,
    appends-more (first.held Journal) (before.held Journal) (now.held Journal) [] begun.0 nothing
        begun.3,
    subst (λ held. Appends held (now.held Out) begun.1) same_out begun.4,
  )
