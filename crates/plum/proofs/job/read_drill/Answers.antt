use Rattle.std.proofs.Common.{◌≡◌, ◌∙◌, List, map, string_bytes, ap, codes, rules}
use Rattle.clap.specs.Words.{Text, found_of, matches_of, rows_of, takes}
use Rattle.plum.specs.DrillFiles.{MOST_DRILL_STATIONS, MOST_DRILL_SECONDS}
use Rattle.plum.specs.Job.{Job, drill, LAST_SEED, number_up_to, count_up_to}
use Rattle.plum.specs.Words.{app_for, app_with, ids_of}
use Rattle.plum.proofs.Accepted.{asks_drill, drill_values}
use Rattle.plum.proofs.job.read_drill.Goals as goal

pub read_with-requires : goal.read_with-requires
read_with-requires c =
    let words = map string_bytes c.args.words.now in
    let asks = asks_drill words c.requires in
    let job : Job = drill asks.seed asks.stations asks.seconds in
    let read = c.clap_reads_the_grammar.ensures words job asks.asked in
    let ids_are : map (λ id. id.now) c.as_slice.result.now ≡ ids_of job = search rules in
    ap (λ (ids : List Text). takes (app_with (codes "drill") ids) words) ids_are ∙ read.taken

pub returns : goal.returns
returns c =
    let words = map string_bytes c.args.words.now in
    let asks = asks_drill words c.requires in
    let job : Job = drill asks.seed asks.stations asks.seconds in
    let read = c.clap_reads_the_grammar.ensures words job asks.asked in
    let ids_are : map (λ id. id.now) c.as_slice.result.now ≡ ids_of job = search rules in
    let rows = rows_of (found_of c.in_ok-matches.matches) in
    let same : rows ≡ matches_of (app_for job) words = c.in_ok-matches.ensures
    ∙ ap (λ (ids : List Text). matches_of (app_with (codes "drill") ids) words) ids_are in
    let found = drill_values words rows asks read same in
    let first = c.word.ensures read.spelled.0 found.0 in
    let second = c.word-2.ensures read.spelled.1 found.1 in
    let third = c.word-3.ensures read.spelled.2 found.2 in
    let seed = c.seed_in.ensures asks.seed
    (ap (λ (text : Text). number_up_to LAST_SEED text) first ∙ read.spelled.3) in
    let stations = c.count_in.ensures asks.stations
    (ap (λ (text : Text). count_up_to MOST_DRILL_STATIONS text) second ∙ read.spelled.4) in
    let seconds = c.count_in-2.ensures asks.seconds
    (ap (λ (text : Text). count_up_to MOST_DRILL_SECONDS text) third ∙ read.spelled.5) in
    let asked = asks.asked in
    cc
