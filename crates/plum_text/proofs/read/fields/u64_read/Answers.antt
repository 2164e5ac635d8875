use Rattle.std.proofs.Common.{◌≡◌, ◌∙◌, decimal, sym, subst, rules, arith}
use Rattle.std.proofs.lemmas.Fmt.{IsAscii-decimal, parse-decimal}
use Rattle.std.proofs.lemmas.Grind.{common_steps}
use Rattle.std.proofs.lemmas.Str.{IsUtf8-from_ascii}
use Rattle.std.specs.Str.{IsUtf8}
use Rattle.plum_text.proofs.read.fields.u64_read.Goals as goal

-- Digits are a text.
pub returns-in_err-ok : goal.returns-in_err-ok
returns-in_err-ok c n fits is =
    let text = IsUtf8-from_ascii (decimal n) (IsAscii-decimal n fits) in
    let same : IsUtf8 c.args.word.now = subst IsUtf8 (sym is) text in
    let cases = c.from_utf8.ensures.cases in
    grind (arith, common_steps)

pub returns : goal.returns
returns c n fits is =
    let word = c.in_ok-ok.field-0.now in
    let same : c.in_ok-ok.field-0.now ≡ c.args.word.now = search rules in
    let reads = c.parse.ensures.value.0 in
    let parsed = parse-decimal 64 n word c.parse.result fits fits (same ∙ is) reads in
    search (rules, parsed)
