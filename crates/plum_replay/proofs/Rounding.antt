-- A round of a centre that is between two rounds, and that it is so behind it.
use Rattle.std.proofs.Common.{◌≡◌, ℕ, ◌<◌, Bool, List, [], ◌++◌, map, length, sym}
use Rattle.std.proofs.Common.{ap, subst, ◌∙◌, arith, length-append, slice_index_or}
use Rattle.std.proofs.Common.{append_assoc}
use Rattle.std.proofs.lemmas.List.{map-append}
use Rattle.std.specs.Prelude.{All}
use Rattle.plum_base.specs.declared.entry.Entry.{Entry}
use Rattle.plum_base.specs.declared.packet.Packet.{Packet}
use Rattle.plum_base.specs.Note.{note_of}
use Rattle.plum_core.specs.History.{IsValidHistory}
use Rattle.plum_base.specs.Sites.{areas_of}
use Rattle.plum_core.specs.Transcript.{of_lane, HoldsKeptByLane, AreReadingsFrom}
use Rattle.plum_lanes.specs.Gathering.{gathered}
use Rattle.plum_lanes.specs.Lanes.{HasTaken, HaveTaken, all_sent}
use Rattle.plum_lanes.specs.Laws.{GatheredAreKept}
use Rattle.plum_lanes.specs.Rounds.{AreWhole}
use Rattle.plum_snap.specs.Fronts.{ReceiptView, MOST_ENTRIES}
use Rattle.plum_snap.specs.Sessions.{SessionView}
use Rattle.plum_centre.specs.declared.centre.Centre.{Centre}
use Rattle.plum_centre.specs.Centre.{CentreId, IsWhole, IsSessionOf, AreSessions}
use Rattle.plum_centre.specs.Feeder.{FeederView}
use Rattle.plum_centre.specs.Rounds.{StayWhole, IsRoundClosed}
use Rattle.plum_replay.specs.Between.{IsBetweenRounds, CanGoOn, GoesOnBy, last_readings}
use Rattle.plum_replay.specs.Learning.{HaveLearned}
use Rattle.plum_replay.specs.Rounds.{CanWork, HasWorked}
use Rattle.plum_replay.proofs.ByLanes.{LaneLaws, few_of_lane, of_lane-append, few_entries}
use Rattle.plum_replay.proofs.ByLanes.{next_part, few_more, few_sent_by_all}
use Rattle.plum_replay.proofs.Looking.{readings_from}

-- What the gatherer of a whole centre has is a valid history of its sites.
valid_gathered : (id : CentreId) (centre : Centre) → IsWhole id centre
    → id.opening.basis.stations ≡ length id.sites.stations
    → IsValidHistory id.opening.basis.setup (length id.sites.stations)
    (gathered centre.feeder.gather)
valid_gathered id centre whole same =
    subst (λ n. IsValidHistory id.opening.basis.setup n (gathered centre.feeder.gather)) same
    whole.lanes_are.gather_is.valid

-- It has of each lane the kept packets that the centre took.
holds_kept : GatheredAreKept → (id : CentreId) (packets : List Packet) (centre : Centre)
    → IsBetweenRounds id packets centre
    → HoldsKeptByLane id.opening.basis.setup.lanes (gathered centre.feeder.gather) packets
holds_kept kept id packets centre between =
    kept id.opening packets centre.lanes.items centre.feeder.gather
    between.whole.lanes_are.lanes_are.all between.taken between.free between.sent

-- Its sessions are those of its feeder's publisher.
pub of_publisher : (id : CentreId) (centre : Centre) → IsWhole id centre
    → All (λ session. session.publisher ≡ centre.feeder.publisher) centre.sessions.items
of_publisher id centre whole a d less =
    (whole.sessions_are.each a d less).publisher_is ∙ sym whole.publisher_is

-- Notes that are forgotten change nothing else.
forgotten : (id : CentreId) (before : Centre) (feeder : FeederView)
    → feeder ≡ record before.feeder { notes = [] } → IsWhole id before
    → IsWhole id (record before { feeder = feeder })
forgotten id before feeder is whole = record {
  lanes_are = subst (λ (f : FeederView). AreWhole id.opening before.lanes.items f.gather) (sym is)
      whole.lanes_are;
  publisher_is = ap (λ (f : FeederView). f.publisher) is ∙ whole.publisher_is;
  sessions_are = whole.sessions_are;
}

-- A centre that has forgotten its notes can work.
pub can_work : LaneLaws → GatheredAreKept → (id : CentreId) (earlier packets : List Packet)
    (before : Centre) (feeder : FeederView) → CanGoOn id earlier packets before
    → feeder ≡ record before.feeder { notes = [] }
    → CanWork id packets (record before { feeder = feeder })
can_work laws kept id earlier packets before feeder can is =
    let between = can.between in
    let count = id.opening.basis.setup.lanes in
    let same : feeder.gather ≡ before.feeder.gather = ap (λ (f : FeederView). f.gather) is in
    let few = few_entries laws id.opening.basis.setup id.sites (gathered before.feeder.gather)
    earlier (valid_gathered id before between.whole can.stations_are)
    (holds_kept kept id earlier before between) in
    record {
      whole = forgotten id before feeder is between.whole;
      share = record {
        all = between.whole.lanes_are.lanes_are.all;
        listed = subst (λ n. All (λ (p : Packet). p.station.0 < n) packets)
            (sym can.stations_are) can.listed;
        free = between.free;
        room = λ i d less. record {
          taken = of_lane count i earlier;
          has = between.taken i d less;
          few = omega (arith, few_of_lane count i earlier, can.few);
        };
      };
      few = omega (arith, few, can.few, ap (λ g. length (gathered g)) same);
      none_noted = ap (λ (f : FeederView). f.notes) is;
    }

module _ (laws : LaneLaws) (kept : GatheredAreKept) (id : CentreId)
    (earlier packets : List Packet) (reads : Bool) (before : Centre) (feeder : FeederView)
    (worked : Centre) (can : CanGoOn id earlier packets before)
    (is : feeder ≡ record before.feeder { notes = [] })
    (work : HasWorked id packets reads (record before { feeder = feeder }) worked) where
  abbrev count : ℕ
  count = id.opening.basis.setup.lanes

  abbrev all : List Packet
  all = earlier ++ packets

  -- Each lane took its packets of all.
  taken_then : HaveTaken id.opening (λ lane. of_lane count lane all) worked.lanes.items
  taken_then i d less =
      let long : length before.lanes.items ≡ length worked.lanes.items =
      can.between.whole.lanes_are.lanes_are.all ∙ sym work.whole.lanes_are.lanes_are.all in
      let within : i < length before.lanes.items = omega (arith, less, long) in
      subst (λ ps. HasTaken id.opening i ps (slice_index_or worked.lanes.items i d))
      (sym (of_lane-append count i earlier packets))
      (work.shared.taken i d (of_lane count i earlier) within (can.between.taken i d within))

  -- They sent few entries together.
  pub few_sent_then : all_sent worked.lanes.items < MOST_ENTRIES
  few_sent_then =
      omega (
        arith,
        few_sent_by_all id.opening all worked.lanes.items work.whole.lanes_are.lanes_are.all
            taken_then,
        length-append earlier packets,
        can.few,
      )

  module _ (closed : Centre) (receipt : ReceiptView) (whole : IsWhole id closed)
      (stay : StayWhole worked.lanes.items worked.feeder closed.lanes.items closed.feeder)
      (is_closed : IsRoundClosed closed.lanes.items closed.feeder receipt)
      (same_sessions : closed.sessions.items ≡ worked.sessions.items)
      (after : Centre) (same_lanes : after.lanes ≡ closed.lanes)
      (same_feeder : after.feeder ≡ closed.feeder)
      (learned : HaveLearned closed.feeder.published closed.sessions.items after.sessions.items)
    where
      abbrev was : List Entry
      was = gathered before.feeder.gather

      abbrev now : List Entry
      now = gathered closed.feeder.gather

      -- what joined
      abbrev part : List Entry
      part = work.goes_on.more ++ stay.goes_on.more

      grew : now ≡ was ++ part
      grew =
          stay.goes_on.grew
          ∙ ap (λ es. es ++ stay.goes_on.more) (work.goes_on.grew
          ∙ ap (λ (f : FeederView). gathered f.gather ++ work.goes_on.more) is)
          ∙ append_assoc was work.goes_on.more stay.goes_on.more

      noted : closed.feeder.notes ≡ map note_of part
      noted =
          stay.goes_on.noted is_closed.allowed
          ∙ ap (λ ns. ns ++ map note_of stay.goes_on.more) (work.goes_on.noted work.allowed
          ∙ ap (λ (f : FeederView). f.notes ++ map note_of work.goes_on.more) is)
          ∙ sym (map-append note_of work.goes_on.more stay.goes_on.more)

      -- The sessions are those of the centre still.
      sessions_then : AreSessions id after.sessions.items
      sessions_then = record {
        all = learned.long ∙ whole.sessions_are.all;
        each = λ a d less.
            let within : a < length closed.sessions.items = omega (arith, less, learned.long) in
            let is = whole.sessions_are.each a d within in
            subst (IsSessionOf id (slice_index_or (areas_of id.sites.targets) a []))
            (sym (learned.each a d within).after_is)
            (record {
              publisher_is = is.publisher_is;
              sites_are = is.sites_are;
              area_is = is.area_is;
            });
      }

      between_at : IsBetweenRounds id all (record closed { sessions = after.sessions })
      between_at = record {
        whole = record {
          lanes_are = whole.lanes_are;
          publisher_is = whole.publisher_is;
          sessions_are = sessions_then;
        };
        taken = λ i d less.
            let within : i < length worked.lanes.items = omega (arith, less, stay.keep.same.long) in
            stay.keep.taken id.opening work.whole.lanes_are i d (of_lane count i all) within
            (taken_then i d within);
        free = λ i d less.
            let within : i < length worked.lanes.items = omega (arith, less, stay.keep.same.long) in
            (stay.keep.same.each i d within).waiting_is ∙ work.shared.free i d within;
        sent = is_closed.sent_is_gathered;
        published = is_closed.published_all;
        seen = λ a d less.
            let within : a < length closed.sessions.items = omega (arith, less, learned.long) in
            ap (λ (s : SessionView). s.seen) (learned.each a d within).after_is
            ∙ is_closed.published_all;
      }

      -- So the round went on by the packets.
      goes_on_at : GoesOnBy id earlier packets reads before
          (record closed { sessions = after.sessions })
      goes_on_at =
          let between = between_at in
          let setup = id.opening.basis.setup in
          let valid : IsValidHistory setup (length id.sites.stations) (was ++ part) =
          subst (IsValidHistory setup (length id.sites.stations)) grew
          (valid_gathered id closed whole can.stations_are) in
          let holds : HoldsKeptByLane count (was ++ part) all =
          subst (λ h. HoldsKeptByLane count h all) grew
          (holds_kept kept id all (record closed { sessions = after.sessions }) between) in
          let held = holds_kept kept id earlier before can.between in
          record {
            between = between;
            part = part;
            grew = grew;
            noted = noted;
            kept = next_part laws setup id.sites was part earlier packets valid held holds;
            few = few_more laws setup id.sites was part earlier packets valid held holds;
            read = λ r.
                subst (λ es. AreReadingsFrom id.sites (length was) es
                (last_readings after.sessions.items)) is_closed.published_all
                (readings_from id was closed.feeder.published before.sessions.items
                worked.sessions.items after.sessions.items can.between.whole.sessions_are
                can.between.seen (work.looked r)
                (subst (λ ss. HaveLearned closed.feeder.published ss after.sessions.items)
                same_sessions learned));
          }

      pub goes_on : GoesOnBy id earlier packets reads before after
      goes_on =
          subst (λ (f : FeederView). GoesOnBy id earlier packets reads before
          (record { lanes = after.lanes; feeder = f; sessions = after.sessions })) (sym same_feeder)
          (subst (λ ls. GoesOnBy id earlier packets reads before
          (record { lanes = ls; feeder = closed.feeder; sessions = after.sessions }))
          (sym same_lanes) goes_on_at)
