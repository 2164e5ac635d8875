-- What the end of the work says of each clause of the call.
use Rattle.std.proofs.Common.{◌≡◌, ℕ, ◌<◌, ◌≤◌, true, List, length}
use Rattle.std.proofs.Common.{subst, arith}
use Rattle.plum_host.specs.declared.host.In.{In}
use Rattle.plum_host.specs.declared.host.In.TheVariants as inputs
use Rattle.plum_host.specs.Faults.{HasRisen}
use Rattle.plum_host.specs.Told.{HostView, WhereTold}
use Rattle.plum_sites.specs.Laws.{StationsAreTold, TargetsAreTold}
use Rattle.plum.specs.declared.status.SitesFile.TheVariants as sites
use Rattle.plum.specs.declared.status.LimitOf.TheVariants as limits
use Rattle.plum.specs.declared.status.Status.{Status}
use Rattle.plum.specs.declared.status.Status.TheVariants as ends
use Rattle.plum.specs.Files.{MOST_BYTES, IsLawful, IsFile, TellsLawfulFiles, uses}
use Rattle.plum.specs.Job.{Job, replay, station, check, drill}
use Rattle.plum.specs.Causes.{EndsAtAnInput, IsEndOfDrill, IsFaultySetupFile}
use Rattle.plum.specs.Causes.{IsFaultyStationFile, IsFaultyTargetFile}
use Rattle.plum.specs.Status.{CountsEnd, IsAnswerOverLawfulFiles, IsAnswerWithoutFault}
use Rattle.plum.specs.Status.{MeetsNoFault}
use Rattle.plum.specs.Ended.{HasEnded}

complete_of : (job : Job) (status : Status) (before after : HostView)
    → EndsAtAnInput job status before after → CountsEnd status before after
    → (HasRisen before.read_faults after.read_faults → ⊥)
    → (HasRisen before.write_faults after.write_faults → ⊥) → IsAnswerWithoutFault status
complete_of job ends.Done before after at counts read write = tt
complete_of job ends.Usage before after at counts read write = at.cause
complete_of job (ends.Setup fault) before after at counts read write = tt
complete_of job (ends.Sites file fault) before after at counts read write = tt
complete_of job ends.ReadFault before after at counts read write = read counts.reads
complete_of job ends.WriteFault before after at counts read write = write counts.writes
complete_of job (ends.Limit of_what) before after at counts read write = tt
complete_of job ends.NoMemory before after at counts read write = tt

-- lawful bytes of a file are within the limit
within_limit : (file : In) (bytes : List ℕ) → IsFile file → IsLawful file bytes
    → length bytes ≤ MOST_BYTES
within_limit inputs.Setup bytes turn (setup, states) = states.0
within_limit inputs.Stations bytes turn (stations, states) = states.0
within_limit inputs.Targets bytes turn (targets, states) = states.0
within_limit inputs.Capture bytes turn lawful = absurd (omega arith)
within_limit inputs.Journal bytes turn lawful = absurd (omega arith)
within_limit inputs.Output bytes turn lawful = absurd (omega arith)

over_lawful_files : StationsAreTold → TargetsAreTold → (job : Job) (status : Status)
    (before after : HostView) → EndsAtAnInput job status before after
    → IsAnswerWithoutFault status → TellsLawfulFiles job before
    → IsAnswerOverLawfulFiles status
over_lawful_files stations targets job ends.Done before after at sound lawful = tt
over_lawful_files stations targets job ends.Usage before after at sound lawful = sound
over_lawful_files stations targets job (ends.Setup fault) before after at sound lawful =
    let file = lawful inputs.Setup (omega arith)
    (subst (λ f. uses job f ≡ true) at.cause.0 at.used) in
    let has : WhereTold before inputs.Setup (IsFaultySetupFile fault) =
    subst (λ f. WhereTold before f (IsFaultySetupFile fault)) at.cause.0 at.cause.1 in
    let stated = file.2.1.1 in
    let wrong = (has file.0 file.1).1 in
    cc
over_lawful_files stations targets job (ends.Sites sites.Stations fault) before after at sound
    lawful =
    let file = lawful inputs.Stations (omega arith)
    (subst (λ f. uses job f ≡ true) at.cause.0 at.used) in
    let has : WhereTold before inputs.Stations (IsFaultyStationFile fault) =
    subst (λ f. WhereTold before f (IsFaultyStationFile fault)) at.cause.0 at.cause.1 in
    (stations file.0).either file.2.0 fault file.2.1.1 (has file.0 file.1).1
over_lawful_files stations targets job (ends.Sites sites.Targets fault) before after at sound
    lawful =
    let file = lawful inputs.Targets (omega arith) (subst
    (λ f. uses job f ≡ true) at.cause.0 at.used) in
    let has : WhereTold before inputs.Targets (IsFaultyTargetFile fault) =
    subst (λ f. WhereTold before f (IsFaultyTargetFile fault)) at.cause.0 at.cause.1 in
    (targets file.0).either file.2.0 fault file.2.1.1 (has file.0 file.1).1
over_lawful_files stations targets job ends.ReadFault before after at sound lawful = sound
over_lawful_files stations targets job ends.WriteFault before after at sound lawful = sound
over_lawful_files stations targets job (ends.Limit (limits.File long)) before after at sound
    lawful =
    let file = lawful long at.cause.1 (subst (λ f. uses job f ≡ true) at.cause.0 at.used) in
    let has : WhereTold before long (λ bytes. MOST_BYTES < length bytes) =
    subst (λ f. WhereTold before f (λ bytes. MOST_BYTES < length bytes)) at.cause.0 at.cause.2 in
    let within = within_limit long file.0 at.cause.1 file.2 in
    let above = has file.0 file.1 in
    absurd (omega arith)
over_lawful_files stations targets job (ends.Limit limits.Records) before after at sound lawful = tt
over_lawful_files stations targets job ends.NoMemory before after at sound lawful = tt

-- A drill ends in few ways.
drill_sound : (status : Status) (before after : HostView) → IsEndOfDrill status
    → CountsEnd status before after → MeetsNoFault before after → IsAnswerWithoutFault status
drill_sound ends.Done before after ends counts none = tt
drill_sound ends.Usage before after ends counts none = ends
drill_sound (ends.Setup fault) before after ends counts none = tt
drill_sound (ends.Sites file fault) before after ends counts none = tt
drill_sound ends.ReadFault before after ends counts none = ends
drill_sound ends.WriteFault before after ends counts none = none.writes counts.writes
drill_sound (ends.Limit of_what) before after ends counts none = tt
drill_sound ends.NoMemory before after ends counts none = tt

drill_lawful : (status : Status) → IsEndOfDrill status → IsAnswerWithoutFault status
    → IsAnswerOverLawfulFiles status
drill_lawful ends.Done ended sound = tt
drill_lawful ends.Usage ended sound = sound
drill_lawful (ends.Setup fault) ended sound = ended
drill_lawful (ends.Sites file fault) ended sound = ended
drill_lawful ends.ReadFault ended sound = sound
drill_lawful ends.WriteFault ended sound = sound
drill_lawful (ends.Limit (limits.File long)) ended sound = ended
drill_lawful (ends.Limit limits.Records) ended sound = tt
drill_lawful ends.NoMemory ended sound = tt

-- So it is of each end of the work.
pub answers_soundly : (job : Job) (status : Status) (before after : HostView)
    → HasEnded job status before after → MeetsNoFault before after → IsAnswerWithoutFault status
answers_soundly (replay s st t c j) status before after ended none =
    complete_of (replay s st t c j) status before after ended.cause ended.counts none.reads
    none.writes
answers_soundly (station s st c n) status before after ended none =
    complete_of (station s st c n) status before after ended.cause ended.counts none.reads
    none.writes
answers_soundly (check s st t c) status before after ended none =
    complete_of (check s st t c) status before after ended.cause ended.counts none.reads
    none.writes
answers_soundly (drill n m k) status before after ended none =
    drill_sound status before after ended.cause ended.counts none

pub answers_lawfully : StationsAreTold → TargetsAreTold → (job : Job) (status : Status)
    (before after : HostView) → HasEnded job status before after → MeetsNoFault before after
    → TellsLawfulFiles job before → IsAnswerOverLawfulFiles status
answers_lawfully stations targets (replay s st t c j) status before after ended none =
    over_lawful_files stations targets (replay s st t c j) status before after ended.cause
    (answers_soundly (replay s st t c j) status before after ended none)
answers_lawfully stations targets (station s st c n) status before after ended none =
    over_lawful_files stations targets (station s st c n) status before after ended.cause
    (answers_soundly (station s st c n) status before after ended none)
answers_lawfully stations targets (check s st t c) status before after ended none =
    over_lawful_files stations targets (check s st t c) status before after ended.cause
    (answers_soundly (check s st t c) status before after ended none)
answers_lawfully stations targets (drill n m k) status before after ended none =
    λ lawful. drill_lawful status ended.cause
    (answers_soundly (drill n m k) status before after ended none)
