-- What each command uses, and what is at work for it.
use Rattle.std.proofs.Common.{◌≡◌, ℕ, true, false, List, Option, Some, None, Result, Ok, Err}
use Rattle.std.proofs.Common.{refl, sym, subst}
use Rattle.std.specs.Prelude.{IfSome, IfNone, IfErr, MatchResult, OnOk, option_and_then}
use Rattle.plum_base.specs.declared.numbers.StationNo.{StationNo}
use Rattle.plum_base.specs.declared.sites.StationSite.{StationSite}
use Rattle.plum_base.specs.Sites.{HasCode, HasNoCode, IsFoundAt}
use Rattle.plum_host.specs.Told.{HostView}
use Rattle.plum.specs.declared.status.Status.{Status}
use Rattle.plum.specs.declared.status.Status.TheVariants as ends
use Rattle.plum.specs.declared.tally.Tally.{Tally}
use Rattle.plum.specs.declared.teller.Teller.TheVariants.{Watching, Counting}
use Rattle.plum.specs.declared.watch.Watch.{Watch}
use Rattle.plum.specs.Ended.{HasEnded}
use Rattle.plum.specs.Files.{uses_files, uses_targets}
use Rattle.plum.specs.Job.{Job, replay, station, check, drill, plain, IsReplay, IsStation}
use Rattle.plum.specs.Job.{IsCheck, IsPlain}
use Rattle.plum.specs.Telling.{IsTellerOf}

pub replay_uses_targets : (job : Job) → IsReplay job → uses_targets job ≡ true
replay_uses_targets (replay s st t c j) is = refl
replay_uses_targets (station s st c n) is = absurd is
replay_uses_targets (check s st t c) is = absurd is
replay_uses_targets (drill n m k) is = absurd is

pub replay_uses_files : (job : Job) → IsReplay job → uses_files job ≡ true
replay_uses_files (replay s st t c j) is = refl
replay_uses_files (station s st c n) is = absurd is
replay_uses_files (check s st t c) is = absurd is
replay_uses_files (drill n m k) is = absurd is

pub station_uses_none : (code : ℕ) (job : Job) → IsStation code job → uses_targets job ≡ false
station_uses_none code (replay s st t c j) is = absurd is
station_uses_none code (station s st c n) is = refl
station_uses_none code (check s st t c) is = absurd is
station_uses_none code (drill n m k) is = absurd is

pub station_uses_files : (code : ℕ) (job : Job) → IsStation code job → uses_files job ≡ true
station_uses_files code (replay s st t c j) is = absurd is
station_uses_files code (station s st c n) is = refl
station_uses_files code (check s st t c) is = absurd is
station_uses_files code (drill n m k) is = absurd is

pub check_uses_targets : (job : Job) → IsCheck job → uses_targets job ≡ true
check_uses_targets (replay s st t c j) is = absurd is
check_uses_targets (station s st c n) is = absurd is
check_uses_targets (check s st t c) is = refl
check_uses_targets (drill n m k) is = absurd is

pub check_uses_files : (job : Job) → IsCheck job → uses_files job ≡ true
check_uses_files (replay s st t c j) is = absurd is
check_uses_files (station s st c n) is = absurd is
check_uses_files (check s st t c) is = refl
check_uses_files (drill n m k) is = absurd is

-- the station that is found at a code, or none
pub found_at : (stations : List StationSite) (code : ℕ) (found : Option StationNo)
    → IfSome found (λ n. HasCode stations n.0 code) → IfNone found (HasNoCode stations code)
    → IsFoundAt stations code found
found_at stations code None has none = none
found_at stations code (Some n) has none = has

-- A watch of that station is at work for it.
pub watches_for : (watch : Watch) (code : ℕ) (job : Job) (stations : List StationSite)
    → IsStation code job → IsFoundAt stations code watch.number
    → IsTellerOf (Watching watch) job stations
watches_for watch code (replay s st t c j) stations is found = absurd is
watches_for watch code (station s st c n) stations is found =
    subst (λ k. IsFoundAt stations k watch.number) (sym is) found
watches_for watch code (check s st t c) stations is found = absurd is
watches_for watch code (drill n m k) stations is found = absurd is

-- A tally is at work for a check.
pub counts_for : (tally : Tally) (job : Job) (stations : List StationSite) → IsCheck job
    → IsTellerOf (Counting tally) job stations
counts_for tally (replay s st t c j) stations is = absurd is
counts_for tally (station s st c n) stations is = absurd is
counts_for tally (check s st t c) stations is = tt
counts_for tally (drill n m k) stations is = absurd is

-- How the work ended, as it was done or was not.
pub ends_with : {T : Type 0} (job : Job) (work : Result T Status) (status : Status)
    (before after : HostView) → MatchResult work (λ _. status ≡ ends.Done) (λ s. status ≡ s)
    → OnOk work (HasEnded job ends.Done before after)
    → IfErr work (λ s. HasEnded job s before after) → HasEnded job status before after
ends_with job (Ok x) status before after is done ended =
    subst (λ s. HasEnded job s before after) (sym is) done
ends_with job (Err s) status before after is done ended =
    subst (λ s. HasEnded job s before after) (sym is) ended

-- What asks for a plain command is one.
plainly : (asked : Option Job) → IfSome (option_and_then plain asked) IsPlain
plainly None = tt
plainly (Some (replay s st t c j)) = tt
plainly (Some (station s st c n)) = tt
plainly (Some (check s st t c)) = tt
plainly (Some (drill n m k)) = tt

pub asked_plainly : (asked : Option Job) (job : Job) → option_and_then plain asked ≡ Some job
    → IsPlain job
asked_plainly asked job is = subst (λ o. IfSome o IsPlain) is (plainly asked)

-- What holds of a job holds of the one that is asked for.
pub holds_of_asked : (asked : Option Job) (job : Job) (P : Job → Type 0) → asked ≡ Some job
    → P job → IfSome asked P
holds_of_asked asked job P is holds = subst (λ o. IfSome o P) (sym is) holds
