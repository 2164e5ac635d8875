-- The words of a command, as `clap` reads them: one simple command with required positional words.
use Rattle.std.specs.Prelude.{◌≡◌, List, [], ◌∷◌, Some, true, codes, drop, fold, map}
use Rattle.clap.specs.Words.{App, Rule, Text, first_of, matches_of, new_app, new_rule, takes}
use Rattle.clap.specs.Words.{with_rule}
use Rattle.plum.specs.DrillFiles.{MOST_DRILL_STATIONS, MOST_DRILL_SECONDS}
use Rattle.plum.specs.Job.{Job, replay, station, check, drill, LAST_CODE, LAST_SEED, job_of}
use Rattle.plum.specs.Job.{count_up_to, number_up_to}

-- a required positional word
abbrev pub required_word : Text → Rule
required_word id = record (new_rule id) { required = true }

-- the simple command of this name with a required word under each of these
abbrev pub app_with : Text → List Text → App
app_with name ids = fold (λ app id. with_rule app (required_word id)) (new_app name) ids

-- under which names a command has its words
abbrev pub ids_of : Job → List Text
ids_of (replay setup stations targets capture journal) = codes "SETUP" ∷ codes "STATIONS"
    ∷ codes "TARGETS" ∷ codes "CAPTURE" ∷ codes "JOURNAL" ∷ []
ids_of (station setup stations capture code) =
    codes "SETUP" ∷ codes "STATIONS" ∷ codes "CAPTURE" ∷ codes "CODE" ∷ []
ids_of (check setup stations targets capture) =
    codes "SETUP" ∷ codes "STATIONS" ∷ codes "TARGETS" ∷ codes "CAPTURE" ∷ []
ids_of (drill seed stations seconds) =
    codes "SEED" ∷ codes "STATIONS" ∷ codes "SECONDS" ∷ []

-- a job's command, as `clap` has it
abbrev pub app_for : Job → App
app_for (replay setup stations targets capture journal) =
    app_with (codes "replay") (ids_of (replay setup stations targets capture journal))
app_for (station setup stations capture code) =
    app_with (codes "station") (ids_of (station setup stations capture code))
app_for (check setup stations targets capture) =
    app_with (codes "check") (ids_of (check setup stations targets capture))
app_for (drill seed stations seconds) =
    app_with (codes "drill") (ids_of (drill seed stations seconds))

-- The words behind the command's name are those of the job.
abbrev pub Spell : List Text → Job → Type 0
Spell words (replay setup stations targets capture journal) =
    words ≡ setup ∷ stations ∷ targets ∷ capture ∷ journal ∷ []
Spell words (station setup stations capture code) =
    (number : Text) × (number_up_to LAST_CODE number ≡ Some code)
    × (words ≡ setup ∷ stations ∷ capture ∷ number ∷ [])
Spell words (check setup stations targets capture) =
    words ≡ setup ∷ stations ∷ targets ∷ capture ∷ []
Spell words (drill seed stations seconds) = (first : Text) × (second : Text) × (third : Text)
    × (number_up_to LAST_SEED first ≡ Some seed)
    × (count_up_to MOST_DRILL_STATIONS second ≡ Some stations)
    × (count_up_to MOST_DRILL_SECONDS third ≡ Some seconds)
    × (words ≡ first ∷ second ∷ third ∷ [])

-- `clap` takes the words of this job, and has each under its name.
pub record IsRead (job : Job) (words : List Text) : Type 0 where
  pub taken : takes (app_for job) words ≡ true
  pub found : map (λ id. first_of id (matches_of (app_for job) words)) (ids_of job)
      ≡ map (λ word. Some word) (drop 1 words)
  pub spelled : Spell (drop 1 words) job

-- `clap` refuses nothing that the grammar accepts, and has each word under its name.
abbrev pub ReadsTheGrammar : Type 0
ReadsTheGrammar = (words : List Text) (job : Job) → job_of words ≡ Some job → IsRead job words
