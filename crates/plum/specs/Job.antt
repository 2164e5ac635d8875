-- What the words ask for (the project's own grammar).
use Rattle.std.specs.Prelude.{ℕ, ◌+◌, Bool, false, not, ◌&&◌, ◌==◌, if◌then◌else◌, List, []}
use Rattle.std.specs.Prelude.{◌≡◌, ⊤, ◌∷◌, length, nat_lt, Option, Some, None, codes}
use Rattle.std.specs.Prelude.{option_and_then}
use Rattle.std.specs.List.{list_all}
use Rattle.std.specs.Option.{option_map}
use Rattle.std.specs.Str.{bytes_eq}
use Rattle.std.specs.Str.Parse.{digits_value}
use Rattle.plum_host.specs.declared.paths.Paths.{Paths}
use Rattle.plum.specs.DrillFiles.{IsDrillSize, MOST_DRILL_STATIONS, MOST_DRILL_SECONDS}

-- a word that is not empty and does not begin with `-`
abbrev pub is_path : List ℕ → Bool
is_path [] = false
is_path (first ∷ more) = not (first == 45)

-- `0` to `9`
abbrev pub is_digit : ℕ → Bool
is_digit byte = nat_lt 47 byte && nat_lt byte 58

-- how many digits a number has at most
abbrev pub MOST_DIGITS : ℕ
MOST_DIGITS = 20

-- a word of 1 to 20 digits; they may begin with zeros
abbrev pub is_number : List ℕ → Bool
is_number word =
    nat_lt 0 (length word) && nat_lt (length word) (MOST_DIGITS + 1) && list_all is_digit word

-- the number of such a word, where it is this at most
abbrev pub number_up_to : ℕ → List ℕ → Option ℕ
number_up_to most word =
    if is_number word && nat_lt (digits_value 10 word) (most + 1)
    then Some (digits_value 10 word)
    else None

-- none where the number is 0
abbrev pub not_zero : Option ℕ → Option ℕ
not_zero None = None
not_zero (Some n) = if n == 0 then None else Some n

-- the number of such a word, where it is from 1 to this
abbrev pub count_up_to : ℕ → List ℕ → Option ℕ
count_up_to most word = not_zero (number_up_to most word)

-- the greatest code of a station
abbrev pub LAST_CODE : ℕ
LAST_CODE = 65535

-- the greatest seed of a drill
abbrev pub LAST_SEED : ℕ
LAST_SEED = 18446744073709551615

-- a command and what it works on
pub data Job : Type 0 where
  replay : List ℕ → List ℕ → List ℕ → List ℕ → List ℕ → Job
  station : List ℕ → List ℕ → List ℕ → ℕ → Job
  check : List ℕ → List ℕ → List ℕ → List ℕ → Job
  drill : ℕ → ℕ → ℕ → Job

-- `SETUP STATIONS TARGETS CAPTURE JOURNAL`
abbrev pub replay_of : List (List ℕ) → Option Job
replay_of (setup ∷ stations ∷ targets ∷ capture ∷ journal ∷ []) =
    if is_path setup && is_path stations && is_path targets && is_path capture && is_path journal
    then Some (replay setup stations targets capture journal)
    else None
replay_of words = None

-- `SETUP STATIONS CAPTURE CODE`
abbrev pub station_of : List (List ℕ) → Option Job
station_of (setup ∷ stations ∷ capture ∷ code ∷ []) =
    if is_path setup && is_path stations && is_path capture
    then option_map (λ n. station setup stations capture n) (number_up_to LAST_CODE code)
    else None
station_of words = None

-- `SETUP STATIONS TARGETS CAPTURE`
abbrev pub check_of : List (List ℕ) → Option Job
check_of (setup ∷ stations ∷ targets ∷ capture ∷ []) =
    if is_path setup && is_path stations && is_path targets && is_path capture
    then Some (check setup stations targets capture)
    else None
check_of words = None

-- the drill of these numbers, where each is there
abbrev pub drill_with : Option ℕ → Option ℕ → Option ℕ → Option Job
drill_with (Some seed) (Some stations) (Some seconds) = Some (drill seed stations seconds)
drill_with seed stations seconds = None

-- `SEED STATIONS SECONDS`
abbrev pub drill_of : List (List ℕ) → Option Job
drill_of (seed ∷ stations ∷ seconds ∷ []) = drill_with (number_up_to LAST_SEED seed)
    (count_up_to MOST_DRILL_STATIONS stations) (count_up_to MOST_DRILL_SECONDS seconds)
drill_of words = None

-- the job of a command's name and the words behind it, or nothing where they are not of the grammar
abbrev pub job_of : List (List ℕ) → Option Job
job_of [] = None
job_of (command ∷ words) =
    if bytes_eq command (codes "replay") then replay_of words
    else if bytes_eq command (codes "station") then station_of words
    else if bytes_eq command (codes "check") then check_of words
    else if bytes_eq command (codes "drill") then drill_of words
    else None

-- It is this command.
abbrev pub IsReplay : Job → Type 0
IsReplay (replay setup stations targets capture journal) = ⊤
IsReplay (station setup stations capture code) = ⊥
IsReplay (check setup stations targets capture) = ⊥
IsReplay (drill seed stations seconds) = ⊥

abbrev pub IsStation : ℕ → Job → Type 0
IsStation n (replay setup stations targets capture journal) = ⊥
IsStation n (station setup stations capture code) = code ≡ n
IsStation n (check setup stations targets capture) = ⊥
IsStation n (drill seed stations seconds) = ⊥

abbrev pub IsCheck : Job → Type 0
IsCheck (replay setup stations targets capture journal) = ⊥
IsCheck (station setup stations capture code) = ⊥
IsCheck (check setup stations targets capture) = ⊤
IsCheck (drill seed stations seconds) = ⊥

-- It is a plain command, `station` or `check`: it reads a capture, and replays nothing.
abbrev pub IsPlain : Job → Type 0
IsPlain (replay setup stations targets capture journal) = ⊥
IsPlain (station setup stations capture code) = ⊤
IsPlain (check setup stations targets capture) = ⊤
IsPlain (drill seed stations seconds) = ⊥

-- Where it is a drill, it is not too large, and not empty.
abbrev pub HasSize : Job → Type 0
HasSize (replay setup stations targets capture journal) = ⊤
HasSize (station setup stations capture code) = ⊤
HasSize (check setup stations targets capture) = ⊤
HasSize (drill seed stations seconds) = IsDrillSize stations seconds

-- a plain command, or nothing
abbrev pub plain : Job → Option Job
plain (replay setup stations targets capture journal) = None
plain (station setup stations capture code) = Some (station setup stations capture code)
plain (check setup stations targets capture) = Some (check setup stations targets capture)
plain (drill seed stations seconds) = None

-- the job of words that ask for a plain command, `station` or `check`, or nothing
abbrev pub plain_job_of : List (List ℕ) → Option Job
plain_job_of words = option_and_then plain (job_of words)

-- The paths that the words name, each empty where the command does not use it, or the words are not
-- of the grammar. No command uses an output file.
abbrev pub paths_in : Option Job → Paths
paths_in None = record {
  setup = [];
  stations = [];
  targets = [];
  capture = [];
  journal = [];
  output = [];
}
paths_in (Some (replay setup stations targets capture journal)) = record {
  setup = setup;
  stations = stations;
  targets = targets;
  capture = capture;
  journal = journal;
  output = [];
}
paths_in (Some (station setup stations capture code)) = record {
  setup = setup;
  stations = stations;
  targets = [];
  capture = capture;
  journal = [];
  output = [];
}
paths_in (Some (check setup stations targets capture)) = record {
  setup = setup;
  stations = stations;
  targets = targets;
  capture = capture;
  journal = [];
  output = [];
}
paths_in (Some (drill seed stations seconds)) = record {
  setup = [];
  stations = [];
  targets = [];
  capture = [];
  journal = [];
  output = [];
}
