-- What stands in the outputs of a replay that stops: the beginnings of two texts.
use Rattle.std.proofs.Common.{◌≡◌, ◌-◌, ℕ, List, ◌++◌, length, map, take, drop, inl, inr}
use Rattle.std.proofs.Common.{refl, sym, ap, subst, ◌∙◌, arith, append_assoc, length-append}
use Rattle.std.proofs.Common.{Option}
use Rattle.std.proofs.lemmas.List.{length-map, take-append-drop, take-map, take_at}
use Rattle.std.proofs.Math.Seq.{take-length}
use base.Growing.{prefix_refl}
use mathlib.Core.List.{IsPrefix}
use Rattle.plum_base.specs.declared.setup.Setup.{Setup}
use Rattle.plum_base.specs.Sites.{SitesView}
use Rattle.plum_packet.specs.Segments.{Decoded, packets_in}
use Rattle.plum_core.specs.Transcript.{Transcript, IsLegal, IsLegalOver}
use Rattle.plum_text.specs.Texts.{Section, journal_text, out_text}
use Rattle.plum_replay.specs.Begun.{AreAll, AreTaken, IsBegun}
use Rattle.plum_replay.specs.Parts.{sections_text}
use Rattle.plum_replay.specs.Sections.{AreSections}
use Rattle.plum_replay.proofs.InOrder.{AreWritten, AreInOrder-written}

-- Some bytes of those that follow are written.
pub partly : (n : ℕ) (front more whole : List ℕ) → front ++ more ≡ whole
    → IsPrefix (front ++ take n more) whole
partly n front more whole is = (
  drop n more,
  append_assoc front (take n more) (drop n more)
      ∙ ap (λ more. front ++ more) (take-append-drop n more) ∙ is,
)

-- Of some segments the first are those.
first_packets : (front others : List (List Decoded))
    → take (length front) (map packets_in (front ++ others)) ≡ map packets_in front
first_packets front others =
    take-map packets_in (length front) (front ++ others)
    ∙ ap (map packets_in) (take_at front others (length front) refl)

-- These segments were replayed, and one behind them whose mark has no readings yet, or none at all;
-- others may follow.
pub begun_within : (setup : Setup) (sites : SitesView) (capture : List ℕ) (left : Option (List ℕ))
    (done tip others : List (List Decoded)) → length done ≡ length (done ++ tip) - 1
    → AreTaken sites.stations capture left ((done ++ tip) ++ others)
    → (t : Transcript) (sections : List Section) (journal output : List ℕ)
    → IsLegalOver setup sites (map packets_in (done ++ tip)) (length done) t
    → AreSections setup.rules done t.readings sections
    → IsPrefix journal (journal_text sites.stations t.parts)
    → IsPrefix output (sections_text sites.targets sections)
    → AreWritten sites t.parts sections (length (done ++ tip)) journal output
    → IsBegun setup sites capture left journal output
begun_within setup sites capture left done tip others one taken t sections journal output legal
    sections_are journal_begun output_begun written =
    let front = done ++ tip in
    let read : take (length done) (front ++ others) ≡ done =
    ap (take (length done)) (append_assoc done tip others)
    ∙ take_at done (tip ++ others) (length done) refl in
    record {
      segments = front ++ others;
      taken = taken;
      k = length front;
      within = omega (arith, length-append front others);
      read = length done;
      transcript = t;
      legal = subst (λ ps. IsLegalOver setup sites ps (length done) t)
          (sym (first_packets front others)) legal;
      sections = sections;
      sections_are = subst (λ ss. AreSections setup.rules ss t.readings sections) (sym read)
          sections_are;
      whole_output = sections_text sites.targets sections;
      output_is = inl (one, refl);
      journal_begun = journal_begun;
      output_begun = output_begun;
      in_order =
          AreInOrder-written sites t.parts sections (length front) journal output written;
    }

-- These are all segments, and all marks have readings.
pub begun_whole : (setup : Setup) (sites : SitesView) (capture : List ℕ) (left : Option (List ℕ))
    (segments : List (List Decoded)) (tail : ℕ) → AreAll sites.stations capture left segments tail
    → (t : Transcript) (sections : List Section) (output : List ℕ)
    → IsLegal setup sites (map packets_in segments) t
    → AreSections setup.rules segments t.readings sections
    → IsPrefix output (out_text sites.targets sections tail)
    → IsBegun setup sites capture left (journal_text sites.stations t.parts) output
begun_whole setup sites capture left segments tail all t sections output legal sections_are
    output_begun =
    let n = length segments in
    let packets = map packets_in segments in
    let first : take n packets ≡ packets =
    take-map packets_in n segments ∙ ap (map packets_in) (take-length segments) in
    let over : IsLegalOver setup sites packets n t =
    subst (λ m. IsLegalOver setup sites packets m t) (length-map segments packets_in) legal in
    record {
      segments = segments;
      taken = inr (tail, all);
      k = n;
      within = omega arith;
      read = n;
      transcript = t;
      legal = subst (λ ps. IsLegalOver setup sites ps n t) (sym first) over;
      sections = sections;
      sections_are = subst (λ ss. AreSections setup.rules ss t.readings sections)
          (sym (take-length segments)) sections_are;
      whole_output = out_text sites.targets sections tail;
      output_is = inr (tail, all, refl, refl, refl);
      journal_begun = prefix_refl (journal_text sites.stations t.parts);
      output_begun = output_begun;
      in_order =
          AreInOrder-written sites t.parts sections n (journal_text sites.stations t.parts) output
          (inl refl);
    }
