use Rattle.std.proofs.Common.{◌≢◌, AllPairs, refl, ap, subst}
use Rattle.std.proofs.lemmas.Bool.{false≢true}
use Rattle.std.proofs.lemmas.List.{take_all}
use Rattle.plum_base.proofs.Distinct.{distinct_more, not_distinct}
use Rattle.plum_base.proofs.sites.are_names_distinct.Goals as goal

pub returns-then-has_name : goal.returns-then-has_name
returns-then-has_name c =
    let here = ap (λ t. t.name) c.index-targets-i.is in (
      λ no. absurd (false≢true no),
      λ all. absurd (not_distinct
          (λ a. a.name) c.args.targets.now c.loop-i.i _ _ c.loop-i-test.true here
          (c.if-has_name.ensures.0 refl) all),
    )

pub loop-i-preserved : goal.loop-i-preserved
loop-i-preserved c =
    let here = ap (λ t. t.name) c.index-targets-i.is in
    distinct_more
    (λ a. a.name) c.args.targets.now c.loop-i.i _ _ c.loop-i-test.true here c.loop-i.invariant
    (λ w. false≢true (c.if-has_name.ensures.1 w))

pub returns : goal.returns
returns c = (
  λ _. subst (λ xs. AllPairs (λ a b. a.name ≢ b.name) xs)
      (take_all c.loop-i.i c.args.targets.now c.loop-i-test.false) c.loop-i.invariant,
  λ _. refl,
)
