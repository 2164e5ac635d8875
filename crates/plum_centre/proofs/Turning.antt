-- What a turn leaves.
use Rattle.std.proofs.Common.{◌≡◌, true, false, Bool, List, length, drop, sym, ap, ◌∙◌}
use Rattle.std.specs.Prelude.{Result, Ok, Err, MatchResult, IfOk}
use mathlib.Core.List.{IsPrefix}
use Rattle.plum_base.specs.declared.entry.Entry.{Entry}
use Rattle.plum_base.specs.declared.memory.NoMemory.{NoMemory}
use Rattle.plum_lanes.specs.declared.lanes.Lane.{Lane}
use Rattle.plum_lanes.specs.Gathering.{gathered, IsGather, AreSettled}
use Rattle.plum_lanes.specs.Opening.{Opening}
use Rattle.plum_centre.specs.declared.fed.Fed.{Fed}
use Rattle.plum_centre.specs.declared.fed.Fed.TheVariants.{One, Published, Empty}
use Rattle.plum_centre.specs.Feeder.{FeederView, IsPublishedGathered, IsGatheredFront}
use Rattle.plum_centre.specs.Turns.{FeedsNothing, Feeds, IsRefused}
use Rattle.plum_centre.specs.Rounds.{IsDrained, IfEmpty}
use Rattle.plum_snap.proofs.Fronts.{prefix_drop}
use Rattle.plum_centre.proofs.Fronts.{prefix_same}

-- All that was gathered is appended,
pub IsGatheredFront-all : (appended all : List Entry) (refused : Bool) → appended ≡ all
    → IsGatheredFront appended all refused
IsGatheredFront-all appended all refused same = record {
  front = prefix_drop appended all (prefix_same appended all same);
  whole = λ _. same;
}

-- or a front of it, where memory was refused.
pub IsGatheredFront-refused : (appended all : List Entry) → IsPrefix appended all
    → IsGatheredFront appended all true
IsGatheredFront-refused appended all front = record {
  front = prefix_drop appended all front;
  whole = λ is. absurd (cc is);
}

pub IsPublishedGathered-front : (feeder : FeederView) → IsPrefix feeder.published feeder.appended
    → IsGatheredFront feeder.appended (gathered feeder.gather) feeder.refused
    → IsPublishedGathered feeder
IsPublishedGathered-front feeder published appended = record {
  front_of_appended = published;
  front_of_gathered =
      (drop (length feeder.appended) (gathered feeder.gather), sym appended.front);
  all = appended.whole;
}

module _ (opening : Opening) (lanes : List Lane) (before after : FeederView)
    (is_gather : IsGather opening before.gather) (settled : AreSettled lanes before.gather)
    (order : IsPublishedGathered after) where
  -- A turn that found nothing, once the lanes' round was closed, has found all that they sent.
  IsDrained-nothing : after.refused ≡ false → FeedsNothing before after → IsDrained lanes after
  IsDrained-nothing allowed does =
      let appended : after.appended ≡ before.appended = ap (λ f. f.appended) does.rest in
      let published : after.published ≡ before.published = ap (λ f. f.published) does.rest in
      record {
        holds = does.found opening lanes is_gather settled;
        appended_all = order.all allowed;
        published_all =
            published ∙ does.none_pending ∙ sym appended ∙ order.all allowed;
        allowed = allowed;
      }

  pub IsDrained-turn : (result : Result Fed NoMemory)
      → MatchResult result (λ fed. Feeds before fed after) (λ _. IsRefused before after)
      → IfOk result (λ fed. IfEmpty fed (IsDrained lanes after))
  IsDrained-turn (Ok One) told = tt
  IsDrained-turn (Ok Published) told = tt
  IsDrained-turn (Ok Empty) told = IsDrained-nothing told.allowed told.does
  IsDrained-turn (Err e) told = tt
