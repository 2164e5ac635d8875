use Rattle.std.proofs.Common.{◌≡◌, List, length, map, sym, ap, ◌∙◌, subst}
use Rattle.std.specs.List.{AllZip}
use Rattle.plum_base.specs.declared.answers.Reading.{Reading}
use Rattle.plum_base.specs.declared.entry.Entry.{Entry}
use Rattle.plum_packet.specs.Segments.{Decoded, packets_in}
use Rattle.plum_core.specs.Keys.{kept_in_segments}
use Rattle.plum_core.specs.Transcript.{Transcript, HoldsByLane}
use Rattle.plum_text.specs.Texts.{Section}
use Rattle.plum_replay.specs.Replayed.{IsReplay}
use Rattle.plum_replay.proofs.SameEntries.{same_parts}
use Rattle.plum_replay.proofs.ToldJournal.{in_lanes}
use Rattle.plum_replay.proofs.ToldReplay.{replay_told, output_told}
use Rattle.plum_replay.proofs.laws.texts_tell_one_transcript.Goals as goal

-- a transcript of these parts and readings
transcript_of : List (List Entry) → List (List Reading) → Transcript
transcript_of parts readings = record { parts = parts; readings = readings }

-- the same transcript, from the same parts and readings
same_from : (ps qs : List (List Entry)) (rs ts : List (List Reading)) → ps ≡ qs → rs ≡ ts
    → transcript_of ps rs ≡ transcript_of qs ts
same_from ps qs rs ts parts readings = cc

same_transcript : (t u : Transcript) → t.parts ≡ u.parts → t.readings ≡ u.readings → t ≡ u
unfolding transcript_of
same_transcript t u parts readings = same_from t.parts u.parts t.readings u.readings parts readings

pub returns : goal.returns
returns c = λ setup sites capture journal output table lawful named bytes few replay other.
    let hold = c.segments_hold_each_body.ensures.joined in
    let short = c.bytes_are_one_capture.ensures.tail in
    let finds = c.near_stations_are_those_near.ensures in
    let stations = sites.stations in
    let codes = lawful.0.codes in
    let t = replay.transcript in
    let u = other.transcript in
    let told =
    replay_told hold setup sites table lawful capture journal output bytes few in
    let notes =
    c.texts_tell_a_run.ensures.journal stations t.parts u.parts codes (told replay) (told other)
    (sym replay.journal_is ∙ other.journal_is) in
    let shown = λ (r : IsReplay setup sites capture journal output).
    output_told hold setup sites table lawful capture journal output bytes few r short finds
    named in
    let sections =
    (c.texts_tell_a_run.ensures.output sites.targets replay.sections other.sections replay.tail
    other.tail (shown replay) (shown other) (sym replay.output_is ∙ other.output_is)).0 in
    let segments =
    (c.segments_hold_each_body.ensures.decoded stations capture replay.segments other.segments
    replay.tail other.tail codes replay.capture_is other.capture_is).0 in
    let kept = λ (ss : List (List Decoded)). kept_in_segments (map packets_in ss) in
    let held =
    subst (λ ss. AllZip (HoldsByLane setup.lanes) u.parts (kept ss)) (sym segments)
    other.legal.complete in
    let parts =
    same_parts setup.lanes 1 t.parts u.parts (kept replay.segments)
    (in_lanes setup (length stations) t.parts replay.legal.valid)
    (in_lanes setup (length stations) u.parts other.legal.valid) replay.legal.complete held
    notes in
    let readings =
    sym replay.sections_are.read ∙ ap (λ ss. map (λ (s : Section). s.readings) ss) sections
    ∙ other.sections_are.read in
    same_transcript t u parts readings
