use Rattle.std.proofs.Common.{◌≤◌, ◌+◌, [], ◌∷◌, ◌++◌, length, refl, sym, ap, ◌∙◌, append-nil}
use Rattle.std.proofs.Common.{arith, inr}
use Rattle.plum_snap.specs.Publisher.{PublisherView}
use Rattle.plum_centre.specs.Feeder.{FeederView}
use Rattle.plum_snap.proofs.Fronts.{prefix_whole}
use Rattle.plum_centre.proofs.Fronts.{prefix_same, prefix_added, prefix_grown}
use Rattle.plum_centre.proofs.Turning.{IsGatheredFront-all, IsGatheredFront-refused}
use Rattle.plum_centre.proofs.Turning.{IsPublishedGathered-front}
use Rattle.plum_centre.proofs.feeder.Feeder.turn.Goals as goal

pub returns-then-self-clause-published_gathered : goal.returns-then-self-clause-published_gathered
returns-then-self-clause-published_gathered g c =
    rw (← c.self.view_is)
    (IsPublishedGathered-front _ c.pending-pending.ensures.front c.self.invariant)

pub next-requires : goal.next-requires
next-requires g c = rw (← c.self.view_is) at c.requires.gather

-- What is appended was all that was gathered, and is so still but for the entry.
pub invariant_of-self-in_err-add-in-Some : goal.invariant_of-self-in_err-add-in-Some
invariant_of-self-in_err-add-in-Some g c =
    let all = c.self.invariant.whole c.if-self.false in
    IsGatheredFront-refused _ _
    (prefix_added c.self.inside.publisher.appended _ _ c.in-Some.entry
    (c.in-Some.ensures.gathered ∙ ap (λ es. es ++ c.in-Some.entry ∷ []) (sym all))
    c.add.ensures.appended)

pub returns-in_err-add-in-Some-clause-gather : goal.returns-in_err-add-in-Some-clause-gather
returns-in_err-add-in-Some-clause-gather g c = rw (← c.self.view_is) c.next.ensures.gather

pub returns-in_err-add-in-Some-clause-published_gathered :
    goal.returns-in_err-add-in-Some-clause-published_gathered
returns-in_err-add-in-Some-clause-published_gathered g c =
    IsPublishedGathered-front _
    (rw c.add.ensures.published
    (prefix_grown _ _ _ c.in-Some.entry c.pending-pending.ensures.front c.add.ensures.appended))
    (invariant_of-self-in_err-add-in-Some g c)

pub returns-in_ok-add-in-Some-clause-gather : goal.returns-in_ok-add-in-Some-clause-gather
returns-in_ok-add-in-Some-clause-gather g c = rw (← c.self.view_is) c.next.ensures.gather

pub returns-in_ok-add-in-Some-clause-goes_on : goal.returns-in_ok-add-in-Some-clause-goes_on
returns-in_ok-add-in-Some-clause-goes_on g c =
    rw (← c.self.view_is)
    record {
      more = c.in-Some.entry ∷ [];
      grew = c.in-Some.ensures.gathered;
      noted = λ _. c.in_ok-add-in-Some.ensures.ok.1;
      not_before = λ _. c.if-self.false;
      published_more = prefix_same _ _ (sym c.add.ensures.published);
      same_publisher = c.add.ensures.publisher;
    }

pub returns-in_ok-add-in-Some-clause-published_gathered :
    goal.returns-in_ok-add-in-Some-clause-published_gathered
returns-in_ok-add-in-Some-clause-published_gathered g c =
    let all = c.self.invariant.whole c.if-self.false in
    IsPublishedGathered-front _
    (rw c.add.ensures.published
    (prefix_grown _ _ _ c.in-Some.entry c.pending-pending.ensures.front c.add.ensures.appended))
    (IsGatheredFront-all _ _ _
    (c.in_ok-add-in-Some.ensures.ok.0 ∙ ap (λ es. es ++ c.in-Some.entry ∷ []) all
    ∙ sym c.in-Some.ensures.gathered))

pub returns-in-None-clause-feeds : goal.returns-in-None-clause-feeds
returns-in-None-clause-feeds g c =
    let short : length c.self.inside.publisher.appended ≤ length c.self.inside.publisher.published =
    omega (arith, c.pending-pending.ensures.count, c.if-pending-eq0.true) in
    rw (← c.self.view_is)
    record {
      allowed = c.if-self.false;
      does = record {
        none_pending = prefix_whole _ _ c.pending-pending.ensures.front short;
        found = c.in-None.ensures.all;
        kept = c.in-None.ensures.gathered ∙ append-nil _;
        rest = refl;
      };
    }

pub returns-in-None-clause-gather : goal.returns-in-None-clause-gather
returns-in-None-clause-gather g c = rw (← c.self.view_is) c.next.ensures.gather

pub returns-in-None-2-clause-feeds : goal.returns-in-None-2-clause-feeds
returns-in-None-2-clause-feeds g c =
    let inside = c.self.inside in
    let some : length inside.publisher.published + 1 ≤ length inside.publisher.appended =
    omega (arith, c.pending-pending.ensures.count, c.if-pending-eq0.false) in
    let after : PublisherView → FeederView = λ p. record {
      gather = c.next.new.self;
      publisher = p.publisher;
      appended = p.appended;
      published = p.published;
      notes = inside.notes;
      refused = inside.refused;
    } in
    rw (← c.self.view_is)
    record {
      allowed = c.if-self.false;
      does = record {
        cause = inr (some, c.in-None.ensures.all);
        kept = c.in-None.ensures.gathered ∙ append-nil _;
        rest = ap after c.publish-in-None-2.ensures;
      };
    }

pub returns-in-None-2-clause-gather : goal.returns-in-None-2-clause-gather
returns-in-None-2-clause-gather g c = rw (← c.self.view_is) c.next.ensures.gather
