use Rattle.std.proofs.Common.{◌≡◌, ◌<◌, length, set, refl, sym, ap, ◌∙◌, subst, arith}
use Rattle.std.proofs.Common.{inl, inr}
use Rattle.std.proofs.Common.{slice_index_or, get_or, get_or-set_same, get_or-set_other}
use Rattle.std.proofs.lemmas.Bool.{cases_eq}
use Rattle.std.proofs.lemmas.List.{get_or_read}
use Rattle.plum_snap.specs.Sessions.{SessionView}
use Rattle.plum_centre.specs.Feeder.{FeederView}
use Rattle.plum_replay.specs.Learning.{HasLearned}
use Rattle.plum_replay.proofs.between.learn_all.Goals as goal

pub loop-session-init : goal.loop-session-init
loop-session-init c = record {
  same = refl;
  done = λ a d less. absurd (omega (arith, less));
  left = λ a d past. refl;
}

pub learn-requires : goal.learn-requires
learn-requires c =
    let inv = c.loop-session.invariant in
    let n = c.loop-session.session-index in
    let d = c.session-item.result in
    let same : (slice_index_or c.loop-session.session-items n d).publisher
    ≡ (slice_index_or c.args.sessions.now n d).publisher =
    ap (λ (s : SessionView). s.publisher) (inv.left n d (omega arith)) in
    same ∙ c.requires n d c.loop-session-test.true
    ∙ ap (λ (f : FeederView). f.publisher) (sym inv.same)

-- one session more
pub loop-session-preserved : goal.loop-session-preserved
loop-session-preserved c =
    let inv = c.loop-session.invariant in
    let n = c.loop-session.session-index in
    let items = c.loop-session.session-items in
    let first = c.args.sessions.now in
    let new = c.learn.new.session in
    let item = c.session-item.result in
    let published = c.args.feeder.now.published in
    let within : n < length items =
    omega (arith, c.loop-session-test.true, c.loop-session.auto.session-items) in
    let learned : (d : SessionView) → HasLearned published (slice_index_or first n d) new =
    λ d.
    let one : slice_index_or items n item ≡ slice_index_or items n d =
    sym c.session-item.is ∙ get_or_read items n item within c.session-item.is d in
    subst (λ s. HasLearned published s new) (one ∙ inv.left n d (omega arith))
    (subst (λ (f : FeederView). HasLearned f.published (slice_index_or items n item) new) inv.same
    c.learn.ensures.learned) in
    record {
      same = c.learn.ensures.same ∙ inv.same;
      done = λ a d less.
          elim (cases_eq a n) [
            | inl here ↦
                subst (λ m. HasLearned published (slice_index_or first m d)
                (get_or (set items n new) m d)) (sym here)
                (subst (HasLearned published (slice_index_or first n d))
                (sym (get_or-set_same items n new d within)) (learned d))
            | inr apart ↦
                subst (HasLearned published (slice_index_or first a d))
                (sym (get_or-set_other items n a new d apart))
                (inv.done a d (omega (arith, less, apart)))
          ];
      left = λ a d past.
          get_or-set_other items n a new d (λ e. absurd (omega (arith, e, past)))
          ∙ inv.left a d (omega (arith, past));
    }

pub returns-clause-learned : goal.returns-clause-learned
returns-clause-learned c = record {
  long = c.loop-session.auto.session-items;
  each = λ a d less.
      c.loop-session.invariant.done a d (omega (arith, less, c.loop-session-test.false));
}

pub returns-clause-same : goal.returns-clause-same
returns-clause-same c = c.loop-session.invariant.same
