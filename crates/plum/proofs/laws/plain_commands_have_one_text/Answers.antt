use Rattle.plum.proofs.Begun.{known}
use Rattle.plum.proofs.EachText.{SendingLaws, each_text}
use Rattle.plum.proofs.OneText.{appends_text, begins_text, one_text_of_files}
use Rattle.plum.proofs.laws.plain_commands_have_one_text.Goals as goal

pub returns-clause-one : goal.returns-clause-one
returns-clause-one c = one_text_of_files
    (known c.segments_hold_each_body.ensures.decoded c.given_bodies_begin.ensures
    c.histories.ensures.begins)
    c.files_have_one_answer.ensures.stations

pub returns-clause-each : goal.returns-clause-each
returns-clause-each c =
    let laws : SendingLaws = record {
      taking = c.taking_keeps_backlog.ensures;
      next = c.sending_keeps_validity.ensures.joins;
      order = c.sending_keeps_validity.ensures.order;
      sending = c.sending_keeps_validity.ensures.backlog;
    } in
    each_text laws c.bytes_are_one_capture.ensures.exist

pub returns-clause-appended : goal.returns-clause-appended
returns-clause-appended c = appends_text

pub returns-clause-begun : goal.returns-clause-begun
returns-clause-begun c =
    let laws : SendingLaws = record {
      taking = c.taking_keeps_backlog.ensures;
      next = c.sending_keeps_validity.ensures.joins;
      order = c.sending_keeps_validity.ensures.order;
      sending = c.sending_keeps_validity.ensures.backlog;
    } in
    begins_text (each_text laws c.bytes_are_one_capture.ensures.exist)
