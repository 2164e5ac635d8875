use Rattle.std.proofs.Common.{◌≡◌, ◌∙◌, List, map, string_bytes, ap, codes, rules}
use Rattle.clap.specs.Words.{Text, found_of, matches_of, rows_of, takes}
use Rattle.plum.specs.Job.{Job, check}
use Rattle.plum.specs.Words.{app_for, app_with, ids_of}
use Rattle.plum.proofs.Accepted.{asks_check, check_values}
use Rattle.plum.proofs.job.read_check.Goals as goal

pub read_with-requires : goal.read_with-requires
read_with-requires c =
    let words = map string_bytes c.args.words.now in
    let asks = asks_check words c.requires in
    let job : Job = check asks.setup asks.stations asks.targets asks.capture in
    let read = c.clap_reads_the_grammar.ensures words job asks.asked in
    let ids_are : map (λ id. id.now) c.as_slice.result.now ≡ ids_of job = search rules in
    ap (λ (ids : List Text). takes (app_with (codes "check") ids) words) ids_are ∙ read.taken

pub returns : goal.returns
returns c =
    let words = map string_bytes c.args.words.now in
    let asks = asks_check words c.requires in
    let job : Job = check asks.setup asks.stations asks.targets asks.capture in
    let read = c.clap_reads_the_grammar.ensures words job asks.asked in
    let ids_are : map (λ id. id.now) c.as_slice.result.now ≡ ids_of job = search rules in
    let rows = rows_of (found_of c.in_ok-matches.matches) in
    let same : rows ≡ matches_of (app_for job) words = c.in_ok-matches.ensures
    ∙ ap (λ (ids : List Text). matches_of (app_with (codes "check") ids) words) ids_are in
    let found = check_values words rows asks read same in
    let setup = c.word.ensures asks.setup found.0 in
    let stations = c.word-2.ensures asks.stations found.1 in
    let targets = c.word-3.ensures asks.targets found.2 in
    let capture = c.word-4.ensures asks.capture found.3 in
    let asked = asks.asked in
    cc
