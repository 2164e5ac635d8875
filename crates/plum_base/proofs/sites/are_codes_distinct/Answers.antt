use Rattle.std.proofs.Common.{◌≢◌, AllPairs, refl, subst}
use Rattle.std.proofs.lemmas.Bool.{false≢true}
use Rattle.std.proofs.lemmas.List.{take_all}
use Rattle.plum_base.proofs.Distinct.{distinct_more, not_distinct}
use Rattle.plum_base.proofs.sites.are_codes_distinct.Goals as goal

pub returns-then-has_code : goal.returns-then-has_code
returns-then-has_code c = (
  λ no. absurd (false≢true no),
  λ all. absurd (not_distinct
      (λ a. a.code) c.args.stations.now c.loop-i.i _ _ c.loop-i-test.true refl
      (c.if-has_code.ensures.0 refl) all),
)

pub loop-i-preserved : goal.loop-i-preserved
loop-i-preserved c =
    distinct_more
    (λ a. a.code) c.args.stations.now c.loop-i.i _ _ c.loop-i-test.true refl c.loop-i.invariant
    (λ w. false≢true (c.if-has_code.ensures.1 w))

pub returns : goal.returns
returns c = (
  λ _. subst (λ xs. AllPairs (λ a b. a.code ≢ b.code) xs)
      (take_all c.loop-i.i c.args.stations.now c.loop-i-test.false) c.loop-i.invariant,
  λ _. refl,
)
