use Rattle.std.proofs.Common.{[], arith}
use Rattle.std.proofs.lemmas.Result.{IfOk-weaker}
use Rattle.plum_core.specs.Transcript.{no_transcript}
use Rattle.plum_replay.proofs.Adding.{replays_first}
use Rattle.plum_replay.proofs.working.take_first.Goals as goal

pub returns-clause-replays : goal.returns-clause-replays
returns-clause-replays g c =
    IfOk-weaker c.take_segment.result _ _
    (λ taken takes id setup decoded begun holds.
    replays_first id setup c.args.sites.now decoded c.args.progress.now c.args.centre.now
    taken.journal taken.counted c.take_segment.new.progress c.take_segment.new.centre begun
    (takes id setup [] 0 no_transcript decoded (omega arith) begun.worked holds)
    c.take_segment.ensures.desks) c.take_segment.ensures.takes
