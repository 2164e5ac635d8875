use Rattle.std.proofs.Common.{◌≡◌, inl, inr, sym, ap, ◌∙◌, subst}
use mathlib.Core.List.{IsPrefix}
use base.Growing.{prefix_anti}
use Rattle.plum_snap.specs.Fronts.{ReceiptView}
use Rattle.plum_snap.specs.Sessions.{SessionView}
use Rattle.plum_centre.specs.Feeder.{FeederView}
use Rattle.plum_replay.proofs.between.learn.Goals as goal

-- what is published begins what it has seen, and the other way round
pub returns-clause-learned : goal.returns-clause-learned
returns-clause-learned c =
    let published = c.args.feeder.now.published in
    let before = c.args.session.now in
    let after = c.learn.new.self in
    let receipt : c.receipt.result.entries ≡ published =
    ap (λ (r : ReceiptView). r.entries) c.receipt.ensures.receipt in
    let same : c.receipt.new.self.published ≡ published =
    ap (λ (f : FeederView). f.published) c.receipt.ensures.same in
    let seen : after.seen ≡ published =
    prefix_anti after.seen published
    (subst (IsPrefix after.seen) same c.shows_what_was_seen.ensures.front)
    (subst (λ es. IsPrefix es after.seen) receipt c.learn.ensures.that) in
    record {
      goes_on = subst (IsPrefix before.seen) seen c.learn.ensures.this;
      after_is = elim c.learn.ensures.one [
        | inl as_before ↦
            as_before
            ∙ ap (λ es. record before { seen = es })
            (ap (λ (s : SessionView). s.seen) (sym as_before) ∙ seen)
        | inr learned ↦ learned ∙ ap (λ es. record before { seen = es }) receipt
      ];
    }
