-- Setups of the same fields give the same values and histories.
use Rattle.std.proofs.Common.{◌≡◌, ℕ, List, [], ◌∷◌, ◌++◌, Option, subst}
use Rattle.plum_base.specs.declared.entry.Entry.{Entry}
use Rattle.plum_base.specs.declared.numbers.Tenths.{Tenths}
use Rattle.plum_base.specs.declared.packet.Packet.{Packet}
use Rattle.plum_base.specs.declared.setup.Setup.{Setup}
use Rattle.plum_base.specs.Lane.{lane_of}
use Rattle.plum_base.specs.Setup.{AreRules, IsGain, IsLaneCount, IsQueueBound}
use Rattle.plum_core.specs.History.{packets_of}
use Rattle.plum_engine.specs.Engine.{IsValueOf}
use Rattle.plum_table.specs.Setup.{SetupFields, fields_of}
use Rattle.plum.specs.Plain.{IsHistoryOf}

-- the setup of these fields, each in its range
abbrev setup_with : (f : SetupFields) → IsGain f.gain.g f.gain.h → AreRules f.rules
    → IsLaneCount f.lanes → IsQueueBound f.queue → Setup
setup_with f gain rules lanes queue = record {
  cascade = f.stages;
  gain = f.gain;
  levels = f.levels;
  rules = f.rules;
  lanes = f.lanes;
  queue = f.queue;
  gain_in_range = gain;
  rules_in_range = rules;
  lanes_in_range = lanes;
  queue_in_range = queue;
}

-- A station's value is the same,
pub value_by_fields : (a b : Setup) → fields_of a ≡ fields_of b → (packets : List Packet)
    (value : Option Tenths) → IsValueOf a packets value → IsValueOf b packets value
value_by_fields a b same packets value is =
    let with_fields : SetupFields → Type 0 = λ f.
    (gain : IsGain f.gain.g f.gain.h) (rules : AreRules f.rules) (lanes : IsLaneCount f.lanes)
    (queue : IsQueueBound f.queue)
    → IsValueOf (setup_with f gain rules lanes queue) packets value in
    subst with_fields same (λ gain rules lanes queue. is) b.gain_in_range b.rules_in_range
    b.lanes_in_range b.queue_in_range

-- and so is the history of its packets.
pub history_by_fields : (a b : Setup) → fields_of a ≡ fields_of b → (stations : ℕ)
    (own : List Packet) (history : List Entry) → IsHistoryOf a stations own history
    → IsHistoryOf b stations own history
history_by_fields a b same stations own history is = record {
  valid = λ earlier e later joined.
      let at = is.valid earlier e later joined in
      record {
        listed = at.listed;
        lane = subst (λ (f : SetupFields). e.lane.0 ≡ lane_of f.lanes e.station.0) same at.lane;
        kept = at.kept;
        fresh = at.fresh;
        value = value_by_fields a b same (packets_of e.station.0 (earlier ++ e ∷ [])) e.value
            at.value;
      };
  holds = is.holds;
}
