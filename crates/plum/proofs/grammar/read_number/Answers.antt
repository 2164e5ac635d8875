use Rattle.std.proofs.Common.{◌≡◌, ℕ, ◌+◌, ◌<◌, ◌^◌, true, List, length, None}
use Rattle.std.proofs.Common.{Result, Err, refl, sym, ◌∙◌, inl, inr, arith, rules}
use Rattle.std.proofs.lemmas.Bool.{cases_Bool, cases_lt}
use Rattle.std.proofs.lemmas.Str.Parse.{IsNumeralModel, numerals_by_value, parse_gives}
use Rattle.std.specs.List.{list_all}
use Rattle.std.specs.Prelude.{nat_lt}
use Rattle.std.specs.Str.Parse.{ParsesUnsigned, digits_value}
use borrow.Author.Tests.{ltb-true}
use Rattle.plum.specs.Job.{is_digit, is_number, number_up_to}
use Rattle.plum.proofs.Numbers.{three_true}
use Rattle.plum.proofs.grammar.read_number.Goals as goal

own : IsNumeralModel (λ w. list_all is_digit w ≡ true) (digits_value 10)
own = numerals_by_value _ (search rules)

-- a number that is not read is above all that fit
above : {E : Type 0} (most : ℕ) (word : List ℕ) (r : Result ℕ E) (e : E) → most < 2 ^ 64
    → is_number word ≡ true → ParsesUnsigned 64 10 word r → r ≡ Err e
    → None ≡ number_up_to most word
above most word r e fits number parses err =
    let parts = three_true (nat_lt 0 (length word)) (nat_lt (length word) 21)
    (list_all is_digit word) number in
    let some : 0 < length word = ltb-true 0 (length word) parts.0 in
    elim (cases_lt (digits_value 10 word) (2 ^ 64)) [
      | inl few ↦
          let read = parse_gives own 64 word r parses parts.2 some few in absurd cc
      | inr many ↦ elim (cases_Bool (nat_lt (digits_value 10 word) (most + 1))) [
        | inl within ↦
            let below : digits_value 10 word < most + 1 = ltb-true _ _ within in
            absurd (omega arith)
        | inr beyond ↦ rw (number, beyond) refl
      ]
    ]

pub returns-in_default-2-clause-value : goal.returns-in_default-2-clause-value
returns-in_default-2-clause-value c =
    above c.args.most c.args.word.now c.parse.result _ c.ranges.most.fits
    (sym c.is_number.ensures ∙ c.if-not-is_number.false) c.parse.ensures.value.0 c.in_default.is
