-- What the grammar accepts, `clap` reads.
use Rattle.std.proofs.Common.{◌≡◌, ℕ, ◌&&◌, ◌==◌, false, true, Bool, List, [], ◌∷◌, Option, None}
use Rattle.std.proofs.Common.{Result, Ok, Err, IfErr, is_some, Some, codes, refl, ap, ◌∙◌, map}
use Rattle.std.proofs.Common.{arith, subst, zero, suc, ◌+◌, ◌<◌, ◌≤◌}
use Rattle.std.specs.Prelude.{if◌then◌else◌, nat_lt, drop}
use Rattle.std.proofs.lemmas.Bool.{ne_eqb}
use Rattle.std.specs.Option.{option_map}
use Rattle.std.specs.Str.{bytes_eq}
use Rattle.std.specs.Str.Parse.{digits_value}
use borrow.Author.Tests.{ltb-true}
use Rattle.clap.specs.Simple.{App, Shape, built, matches_of}
use Rattle.clap.specs.Takes.{takes}
use Rattle.clap.specs.Walk.{Held, Row, Text, finished, first_of, nothing_held}
use Rattle.clap.proofs.TakesLemmas.{leaf_takes}
use Rattle.plum.specs.DrillFiles.{MOST_DRILL_STATIONS, MOST_DRILL_SECONDS}
use Rattle.plum.specs.Job.{Job, replay, station, check, drill, LAST_CODE, LAST_SEED, is_path}
use Rattle.plum.specs.Job.{is_number, number_up_to, count_up_to, not_zero, job_of, drill_with}
use Rattle.plum.specs.Job.{replay_of, station_of, check_of, drill_of, HasSize}
use Rattle.plum.specs.declared.grammar.CommandName.{CommandName}
use Rattle.plum.specs.declared.grammar.CommandName.TheVariants as names
use Rattle.plum.specs.Asked.{name_of}
use Rattle.plum.specs.Words.{IsRead, ReadsTheGrammar, app_for, ids_of}
use Rattle.plum.proofs.Clapping.{ArePlain, Fit, level, walk_ends}
use Rattle.plum.proofs.Numbers.{number_given, number_is_plain, three_true, two_true}

-- the words of `replay`
module _ (command a b c d e : Text) (plain : ArePlain (a ∷ b ∷ c ∷ d ∷ e ∷ [])) where
  abbrev replay_words : List Text
  replay_words = a ∷ b ∷ c ∷ d ∷ e ∷ []

  abbrev replay_app : App
  replay_app = app_for (replay a b c d e)

  abbrev replay_top : Shape
  replay_top = (built replay_app).top

  replay_fit : Fit replay_top 1 nothing_held replay_words
  replay_fit = (refl, refl, (refl, refl, (refl, refl, (refl, refl, (refl, refl, tt)))))

  replay_taken : takes replay_app (command ∷ replay_words) ≡ true
  replay_taken = leaf_takes (built replay_app) nothing_held replay_words refl
      (level replay_top replay_words plain replay_fit refl)

  replay_found : map (λ id. first_of id (matches_of replay_app (command ∷ replay_words)))
      (ids_of (replay a b c d e)) ≡ map (λ word. Some word) replay_words
  replay_found = ap (λ (h : Held). map (λ id. first_of id (finished replay_top.rules h))
      (ids_of (replay a b c d e)))
      (walk_ends replay_top 1 nothing_held replay_words plain replay_fit)

-- the words of `station`
module _ (command a b c d : Text) (plain : ArePlain (a ∷ b ∷ c ∷ d ∷ [])) where
  abbrev station_words : List Text
  station_words = a ∷ b ∷ c ∷ d ∷ []

  abbrev station_app : App
  station_app = app_for (station a b c 0)

  abbrev station_top : Shape
  station_top = (built station_app).top

  station_fit : Fit station_top 1 nothing_held station_words
  station_fit = (refl, refl, (refl, refl, (refl, refl, (refl, refl, tt))))

  station_taken : takes station_app (command ∷ station_words) ≡ true
  station_taken = leaf_takes (built station_app) nothing_held station_words refl
      (level station_top station_words plain station_fit refl)

  station_found : map (λ id. first_of id (matches_of station_app (command ∷ station_words)))
      (ids_of (station a b c 0)) ≡ map (λ word. Some word) station_words
  station_found = ap (λ (h : Held). map (λ id. first_of id (finished station_top.rules h))
      (ids_of (station a b c 0)))
      (walk_ends station_top 1 nothing_held station_words plain station_fit)

-- the words of `check`
module _ (command a b c d : Text) (plain : ArePlain (a ∷ b ∷ c ∷ d ∷ [])) where
  abbrev check_words : List Text
  check_words = a ∷ b ∷ c ∷ d ∷ []

  abbrev check_app : App
  check_app = app_for (check a b c d)

  abbrev check_top : Shape
  check_top = (built check_app).top

  check_fit : Fit check_top 1 nothing_held check_words
  check_fit = (refl, refl, (refl, refl, (refl, refl, (refl, refl, tt))))

  check_taken : takes check_app (command ∷ check_words) ≡ true
  check_taken = leaf_takes (built check_app) nothing_held check_words refl
      (level check_top check_words plain check_fit refl)

  check_found : map (λ id. first_of id (matches_of check_app (command ∷ check_words)))
      (ids_of (check a b c d)) ≡ map (λ word. Some word) check_words
  check_found = ap (λ (h : Held). map (λ id. first_of id (finished check_top.rules h))
      (ids_of (check a b c d)))
      (walk_ends check_top 1 nothing_held check_words plain check_fit)

-- the words of `drill`
module _ (command a b c : Text) (plain : ArePlain (a ∷ b ∷ c ∷ [])) where
  abbrev drill_words : List Text
  drill_words = a ∷ b ∷ c ∷ []

  abbrev drill_app : App
  drill_app = app_for (drill 0 0 0)

  abbrev drill_top : Shape
  drill_top = (built drill_app).top

  drill_fit : Fit drill_top 1 nothing_held drill_words
  drill_fit = (refl, refl, (refl, refl, (refl, refl, tt)))

  drill_taken : takes drill_app (command ∷ drill_words) ≡ true
  drill_taken = leaf_takes (built drill_app) nothing_held drill_words refl
      (level drill_top drill_words plain drill_fit refl)

  drill_found : map (λ id. first_of id (matches_of drill_app (command ∷ drill_words)))
      (ids_of (drill 0 0 0)) ≡ map (λ word. Some word) drill_words
  drill_found = ap (λ (h : Held). map (λ id. first_of id (finished drill_top.rules h))
      (ids_of (drill 0 0 0)))
      (walk_ends drill_top 1 nothing_held drill_words plain drill_fit)

five_true : (a b c d e : Bool) → (a && b && c && d && e) ≡ true
    → (a ≡ true) × (b ≡ true) × (c ≡ true) × (d ≡ true) × (e ≡ true)
five_true true true true true true h = (refl, refl, refl, refl, refl)
five_true false b c d e h = cc
five_true true false c d e h = cc
five_true true true false d e h = cc
five_true true true true false e h = cc
five_true true true true true false h = cc

four_true : (a b c d : Bool) → (a && b && c && d) ≡ true
    → (a ≡ true) × (b ≡ true) × (c ≡ true) × (d ≡ true)
four_true true true true true h = (refl, refl, refl, refl)
four_true false b c d h = cc
four_true true false c d h = cc
four_true true true false d h = cc
four_true true true true false h = cc

pub by_replay : (command : Text) (words : List Text) (job : Job) → replay_of words ≡ Some job
    → IsRead job (command ∷ words)
by_replay command (a ∷ b ∷ c ∷ d ∷ e ∷ []) job h =
    go (is_path a && is_path b && is_path c && is_path d && is_path e) refl h
  where
    go : (t : Bool) → (is_path a && is_path b && is_path c && is_path d && is_path e) ≡ t
        → (if t then Some (replay a b c d e) else None) ≡ Some job
        → IsRead job (command ∷ a ∷ b ∷ c ∷ d ∷ e ∷ [])
    go true all h =
        let p = five_true (is_path a) (is_path b) (is_path c) (is_path d) (is_path e) all in
        let plain : ArePlain (a ∷ b ∷ c ∷ d ∷ e ∷ []) =
        (p.0, (p.1, (p.2, (p.3, (p.4, tt))))) in
        let same : replay a b c d e ≡ job = cc in
        subst (λ (j : Job). IsRead j (command ∷ a ∷ b ∷ c ∷ d ∷ e ∷ [])) same (record {
          taken = replay_taken command a b c d e plain;
          found = replay_found command a b c d e plain;
          spelled = refl;
        })
    go false all h = cc
by_replay command words job h = cc

pub by_station : (command : Text) (words : List Text) (job : Job) → station_of words ≡ Some job
    → IsRead job (command ∷ words)
by_station command (a ∷ b ∷ c ∷ d ∷ []) job h =
    go (is_path a && is_path b && is_path c) refl (number_up_to LAST_CODE d) refl h
  where
    go : (t : Bool) → (is_path a && is_path b && is_path c) ≡ t
        → (n : Option ℕ) → number_up_to LAST_CODE d ≡ n
        → (if t then option_map (λ n. station a b c n) n else None) ≡ Some job
        → IsRead job (command ∷ a ∷ b ∷ c ∷ d ∷ [])
    go true all (Some n) number h =
        let p = three_true (is_path a) (is_path b) (is_path c) all in
        let plain : ArePlain (a ∷ b ∷ c ∷ d ∷ []) = (
          p.0,
          (
            p.1,
            (
              p.2,
              (
                number_is_plain d
                    (number_given LAST_CODE d n number),
                tt,
              ),
            ),
          ),
        ) in
        let same : station a b c n ≡ job = cc in
        subst (λ (j : Job). IsRead j (command ∷ a ∷ b ∷ c ∷ d ∷ [])) same (record {
          taken = station_taken command a b c d plain;
          found = station_found command a b c d plain;
          spelled = (d, number, refl);
        })
    go true all None number h = cc
    go false all n number h = cc
by_station command words job h = cc

pub by_check : (command : Text) (words : List Text) (job : Job) → check_of words ≡ Some job
    → IsRead job (command ∷ words)
by_check command (a ∷ b ∷ c ∷ d ∷ []) job h =
    go (is_path a && is_path b && is_path c && is_path d) refl h
  where
    go : (t : Bool) → (is_path a && is_path b && is_path c && is_path d) ≡ t
        → (if t then Some (check a b c d) else None) ≡ Some job
        → IsRead job (command ∷ a ∷ b ∷ c ∷ d ∷ [])
    go true all h =
        let p = four_true (is_path a) (is_path b) (is_path c) (is_path d) all in
        let plain : ArePlain (a ∷ b ∷ c ∷ d ∷ []) = (p.0, (p.1, (p.2, (p.3, tt)))) in
        let same : check a b c d ≡ job = cc in
        subst (λ (j : Job). IsRead j (command ∷ a ∷ b ∷ c ∷ d ∷ [])) same (record {
          taken = check_taken command a b c d plain;
          found = check_found command a b c d plain;
          spelled = refl;
        })
    go false all h = cc
by_check command words job h = cc

count_given : (most : ℕ) (word : List ℕ) (n : ℕ) → count_up_to most word ≡ Some n
    → is_number word ≡ true
count_given most word n h = go (number_up_to most word) refl h
  where
    go : (o : Option ℕ) → number_up_to most word ≡ o → not_zero o ≡ Some n
        → is_number word ≡ true
    go None e h = cc
    go (Some m) e h = number_given most word m e

pub by_drill : (command : Text) (words : List Text) (job : Job) → drill_of words ≡ Some job
    → IsRead job (command ∷ words)
by_drill command (a ∷ b ∷ c ∷ []) job h =
    go (number_up_to LAST_SEED a) refl (count_up_to MOST_DRILL_STATIONS b) refl
    (count_up_to MOST_DRILL_SECONDS c) refl h
  where
    go : (x : Option ℕ) → number_up_to LAST_SEED a ≡ x
        → (y : Option ℕ) → count_up_to MOST_DRILL_STATIONS b ≡ y
        → (z : Option ℕ) → count_up_to MOST_DRILL_SECONDS c ≡ z
        → drill_with x y z ≡ Some job → IsRead job (command ∷ a ∷ b ∷ c ∷ [])
    go (Some seed) ex (Some stations) ey (Some seconds) ez h =
        let plain : ArePlain (a ∷ b ∷ c ∷ []) = (
          number_is_plain a (number_given LAST_SEED a seed ex),
          (
            number_is_plain b (count_given MOST_DRILL_STATIONS b stations ey),
            (number_is_plain c (count_given MOST_DRILL_SECONDS c seconds ez), tt),
          ),
        ) in
        let same : drill seed stations seconds ≡ job = cc in
        subst (λ (j : Job). IsRead j (command ∷ a ∷ b ∷ c ∷ [])) same (record {
          taken = drill_taken command a b c plain;
          found = drill_found command a b c plain;
          spelled = (a, b, c, ex, ey, ez, refl);
        })
    go None ex y ey z ez h = cc
    go (Some seed) ex None ey z ez h = cc
    go (Some seed) ex (Some stations) ey None ez h = cc
by_drill command words job h = cc

pub grammar_is_read : ReadsTheGrammar
grammar_is_read [] job h = cc
grammar_is_read (command ∷ words) job h =
    go (bytes_eq command (codes "replay")) (bytes_eq command (codes "station"))
    (bytes_eq command (codes "check")) (bytes_eq command (codes "drill")) h
  where
    go : (r s c d : Bool) → (if r then replay_of words else if s then station_of words
        else if c then check_of words else if d then drill_of words else None) ≡ Some job
        → IsRead job (command ∷ words)
    go true s c d h = by_replay command words job h
    go false true c d h = by_station command words job h
    go false false true d h = by_check command words job h
    go false false false true h = by_drill command words job h
    go false false false false h = cc

-- the words of a command, where they ask for it
pub record AsksReplay (words : List Text) : Type 0 where
  pub setup : Text
  pub stations : Text
  pub targets : Text
  pub capture : Text
  pub journal : Text
  pub asked : job_of words ≡ Some (replay setup stations targets capture journal)

pub asks_replay : (words : List Text) → option_map name_of (job_of words) ≡ Some names.Replay
    → AsksReplay words
asks_replay words h = go (job_of words) refl h
  where
    go : (o : Option Job) → job_of words ≡ o → option_map name_of o ≡ Some names.Replay
        → AsksReplay words
    go None e h = cc
    go (Some (replay a b c d f)) e h = record {
      setup = a;
      stations = b;
      targets = c;
      capture = d;
      journal = f;
      asked = e;
    }
    go (Some (station a b c n)) e h = cc
    go (Some (check a b c d)) e h = cc
    go (Some (drill a b c)) e h = cc

pub record AsksStation (words : List Text) : Type 0 where
  pub setup : Text
  pub stations : Text
  pub capture : Text
  pub code : ℕ
  pub asked : job_of words ≡ Some (station setup stations capture code)

pub asks_station : (words : List Text) → option_map name_of (job_of words) ≡ Some names.Station
    → AsksStation words
asks_station words h = go (job_of words) refl h
  where
    go : (o : Option Job) → job_of words ≡ o → option_map name_of o ≡ Some names.Station
        → AsksStation words
    go None e h = cc
    go (Some (replay a b c d f)) e h = cc
    go (Some (station a b c n)) e h =
        record { setup = a; stations = b; capture = c; code = n; asked = e }
    go (Some (check a b c d)) e h = cc
    go (Some (drill a b c)) e h = cc

pub record AsksCheck (words : List Text) : Type 0 where
  pub setup : Text
  pub stations : Text
  pub targets : Text
  pub capture : Text
  pub asked : job_of words ≡ Some (check setup stations targets capture)

pub asks_check : (words : List Text) → option_map name_of (job_of words) ≡ Some names.Check
    → AsksCheck words
asks_check words h = go (job_of words) refl h
  where
    go : (o : Option Job) → job_of words ≡ o → option_map name_of o ≡ Some names.Check
        → AsksCheck words
    go None e h = cc
    go (Some (replay a b c d f)) e h = cc
    go (Some (station a b c n)) e h = cc
    go (Some (check a b c d)) e h =
        record { setup = a; stations = b; targets = c; capture = d; asked = e }
    go (Some (drill a b c)) e h = cc

pub record AsksDrill (words : List Text) : Type 0 where
  pub seed : ℕ
  pub stations : ℕ
  pub seconds : ℕ
  pub asked : job_of words ≡ Some (drill seed stations seconds)

pub asks_drill : (words : List Text) → option_map name_of (job_of words) ≡ Some names.Drill
    → AsksDrill words
asks_drill words h = go (job_of words) refl h
  where
    go : (o : Option Job) → job_of words ≡ o → option_map name_of o ≡ Some names.Drill
        → AsksDrill words
    go None e h = cc
    go (Some (replay a b c d f)) e h = cc
    go (Some (station a b c n)) e h = cc
    go (Some (check a b c d)) e h = cc
    go (Some (drill a b c)) e h =
        record { seed = a; stations = b; seconds = c; asked = e }

-- each word under its name, in what `clap` found
pub values_are : (job : Job) (words : List Text) (rows : List Row) → IsRead job words
    → rows ≡ matches_of (app_for job) words
    → map (λ id. first_of id rows) (ids_of job) ≡ map (λ word. Some word) (drop 1 words)
values_are job words rows read same =
    ap (λ (found : List Row). map (λ id. first_of id found) (ids_of job)) same ∙ read.found

module _ (words : List Text) (rows : List Row) where
  pub replay_values : (asks : AsksReplay words)
      → IsRead (replay asks.setup asks.stations asks.targets asks.capture asks.journal) words
      → rows ≡ matches_of
      (app_for (replay asks.setup asks.stations asks.targets asks.capture asks.journal)) words
      → (first_of (codes "SETUP") rows ≡ Some asks.setup)
      × (first_of (codes "STATIONS") rows ≡ Some asks.stations)
      × (first_of (codes "TARGETS") rows ≡ Some asks.targets)
      × (first_of (codes "CAPTURE") rows ≡ Some asks.capture)
      × (first_of (codes "JOURNAL") rows ≡ Some asks.journal)
  replay_values asks read same =
      let job : Job = replay asks.setup asks.stations asks.targets asks.capture asks.journal in
      let all : first_of (codes "SETUP") rows ∷ first_of (codes "STATIONS") rows
      ∷ first_of (codes "TARGETS") rows ∷ first_of (codes "CAPTURE") rows
      ∷ first_of (codes "JOURNAL") rows ∷ []
      ≡ Some asks.setup ∷ Some asks.stations ∷ Some asks.targets ∷ Some asks.capture
      ∷ Some asks.journal ∷ [] =
      values_are job words rows read same
      ∙ ap (λ (ws : List Text). map (λ w. Some w) ws) read.spelled in
      (cc, cc, cc, cc, cc)

  pub station_values : (asks : AsksStation words)
      → (read : IsRead (station asks.setup asks.stations asks.capture asks.code) words)
      → rows ≡ matches_of
      (app_for (station asks.setup asks.stations asks.capture asks.code)) words
      → (first_of (codes "SETUP") rows ≡ Some asks.setup)
      × (first_of (codes "STATIONS") rows ≡ Some asks.stations)
      × (first_of (codes "CAPTURE") rows ≡ Some asks.capture)
      × (first_of (codes "CODE") rows ≡ Some read.spelled.0)
  station_values asks read same =
      let job : Job = station asks.setup asks.stations asks.capture asks.code in
      let all : first_of (codes "SETUP") rows ∷ first_of (codes "STATIONS") rows
      ∷ first_of (codes "CAPTURE") rows ∷ first_of (codes "CODE") rows ∷ []
      ≡ Some asks.setup ∷ Some asks.stations ∷ Some asks.capture ∷ Some read.spelled.0
      ∷ [] =
      values_are job words rows read same
      ∙ ap (λ (ws : List Text). map (λ w. Some w) ws) read.spelled.2 in
      (cc, cc, cc, cc)

  pub check_values : (asks : AsksCheck words)
      → IsRead (check asks.setup asks.stations asks.targets asks.capture) words
      → rows ≡ matches_of
      (app_for (check asks.setup asks.stations asks.targets asks.capture)) words
      → (first_of (codes "SETUP") rows ≡ Some asks.setup)
      × (first_of (codes "STATIONS") rows ≡ Some asks.stations)
      × (first_of (codes "TARGETS") rows ≡ Some asks.targets)
      × (first_of (codes "CAPTURE") rows ≡ Some asks.capture)
  check_values asks read same =
      let job : Job = check asks.setup asks.stations asks.targets asks.capture in
      let all : first_of (codes "SETUP") rows ∷ first_of (codes "STATIONS") rows
      ∷ first_of (codes "TARGETS") rows ∷ first_of (codes "CAPTURE") rows ∷ []
      ≡ Some asks.setup ∷ Some asks.stations ∷ Some asks.targets ∷ Some asks.capture ∷ [] =
      values_are job words rows read same
      ∙ ap (λ (ws : List Text). map (λ w. Some w) ws) read.spelled in
      (cc, cc, cc, cc)

  pub drill_values : (asks : AsksDrill words)
      → (read : IsRead (drill asks.seed asks.stations asks.seconds) words)
      → rows ≡ matches_of (app_for (drill asks.seed asks.stations asks.seconds)) words
      → (first_of (codes "SEED") rows ≡ Some read.spelled.0)
      × (first_of (codes "STATIONS") rows ≡ Some read.spelled.1)
      × (first_of (codes "SECONDS") rows ≡ Some read.spelled.2)
  drill_values asks read same =
      let job : Job = drill asks.seed asks.stations asks.seconds in
      let all : first_of (codes "SEED") rows ∷ first_of (codes "STATIONS") rows
      ∷ first_of (codes "SECONDS") rows ∷ []
      ≡ Some read.spelled.0 ∷ Some read.spelled.1 ∷ Some read.spelled.2 ∷ [] =
      values_are job words rows read same
      ∙ ap (λ (ws : List Text). map (λ w. Some w) ws) read.spelled.6 in
      (cc, cc, cc)

-- words that name a command ask for a job
pub asked_some : (o : Option Job) (name : CommandName) → option_map name_of o ≡ Some name
    → is_some o ≡ true
asked_some None name h = cc
asked_some (Some job) name h = refl

pub any_err : {T E : Type 0} (P : Type 0) (r : Result T E) → P → IfErr r (λ _. P)
any_err P (Ok x) p = tt
any_err P (Err e) p = p

-- a number from 1 to this
counted_up_to : (most n : ℕ) (value : ℕ) (b : Bool) → (b ≡ true → value < most + 1)
    → not_zero (if b then Some value else None) ≡ Some n → (1 ≤ n) × (n ≤ most)
counted_up_to most n value false below h = cc
counted_up_to most n zero true below h = cc
counted_up_to most n (suc k) true below h =
    let apart : (suc k == 0) ≡ false = ne_eqb (suc k) 0 (λ e. omega arith) in
    let same : suc k ≡ n = cc in
    let less = below refl in
    (omega arith, omega arith)

count_within : (most : ℕ) (word : List ℕ) (n : ℕ) → count_up_to most word ≡ Some n
    → (1 ≤ n) × (n ≤ most)
count_within most word n h =
    counted_up_to most n (digits_value 10 word)
    (is_number word && nat_lt (digits_value 10 word) (most + 1))
    (λ both. ltb-true (digits_value 10 word) (most + 1) (two_true (is_number word) _ both).1) h

-- A drill that words ask for has a size.
pub has_size : (words : List Text) (job : Job) → job_of words ≡ Some job → HasSize job
has_size words (replay a b c d e) h = tt
has_size words (station a b c n) h = tt
has_size words (check a b c d) h = tt
has_size words (drill seed stations seconds) h =
    let spelled = (grammar_is_read words (drill seed stations seconds) h).spelled in
    let some = count_within MOST_DRILL_STATIONS spelled.1 stations spelled.4 in
    let long = count_within MOST_DRILL_SECONDS spelled.2 seconds spelled.5 in
    (some.0, some.1, long.0, long.1)
