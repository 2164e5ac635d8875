use Rattle.plum_alert.proofs.desk.Desk.next.Goals as goal

pub returns-in-Nothing-clause-stands : goal.returns-in-Nothing-clause-stands
returns-in-Nothing-clause-stands c = λ rules given desk.
    let told = c.next_at_nothing.ensures rules given c.args.reading.now desk
    c.class_of_reading-class.ensures in told.stands

pub returns-in-AlertAt-clause-stands : goal.returns-in-AlertAt-clause-stands
returns-in-AlertAt-clause-stands c = λ rules given desk.
    let told = c.next_at_alert.ensures rules given c.args.reading.now desk
    c.class_of_reading-class.ensures in told.stands
