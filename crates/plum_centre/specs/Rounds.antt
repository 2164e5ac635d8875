-- The end of a round (the project's own).
use Rattle.std.specs.Prelude.{◌≡◌, false, List, ⊤}
use Rattle.plum_lanes.specs.declared.lanes.Lane.{Lane}
use Rattle.plum_lanes.specs.Gathering.{gathered, AreSettled, HoldsAllSent, AreGathered}
use Rattle.plum_lanes.specs.Rounds.{KeepWhole}
use Rattle.plum_snap.specs.Fronts.{ReceiptView, receipt_of}
use Rattle.plum_centre.specs.declared.fed.Fed.{Fed}
use Rattle.plum_centre.specs.declared.fed.Fed.TheVariants.{One, Published, Empty}
use Rattle.plum_centre.specs.Feeder.{FeederView}
use Rattle.plum_centre.specs.Turns.{GoesOn}

-- These stay all the lanes of the feeder's queue, while the feeder went on.
pub record StayWhole (lanes : List Lane) (before : FeederView) (lanes_then : List Lane)
    (after : FeederView) : Type 0 where
  pub keep : KeepWhole lanes before.gather lanes_then after.gather
  pub goes_on : GoesOn before after

-- All that these lanes sent is gathered and published, and no turn was refused memory.
pub record IsDrained (lanes : List Lane) (feeder : FeederView) : Type 0 where
  pub holds : HoldsAllSent lanes feeder.gather
  pub appended_all : feeder.appended ≡ gathered feeder.gather
  pub published_all : feeder.published ≡ gathered feeder.gather
  pub allowed : feeder.refused ≡ false

-- what is said where a turn found nothing
abbrev pub IfEmpty : Fed → Type 0 → Type 0
IfEmpty One fact = ⊤
IfEmpty Published fact = ⊤
IfEmpty Empty fact = fact

-- The round is closed: what is gathered, what is published and the receipt are one list, of which
-- each lane sent its entries, and no others. No turn was refused memory, and nothing is pending.
pub record IsRoundClosed (lanes : List Lane) (feeder : FeederView) (receipt : ReceiptView)
    : Type 0 where
  pub sent_is_gathered : AreGathered lanes feeder.gather
  pub settled : AreSettled lanes feeder.gather
  pub appended_all : feeder.appended ≡ gathered feeder.gather
  pub published_all : feeder.published ≡ gathered feeder.gather
  pub receipt_is : receipt ≡ receipt_of feeder.publisher (gathered feeder.gather)
  pub allowed : feeder.refused ≡ false
