-- Where a replay stands from round to round: the packets that its centre took, and the counts.
use Rattle.std.proofs.Common.{◌≡◌, ℕ, ◌+◌, ◌≤◌, Bool, List, ◌++◌, length, sym, ap, subst, ◌∙◌}
use Rattle.std.proofs.Common.{arith, length-append}
use Rattle.std.proofs.lemmas.List.{length-map}
use Rattle.plum_base.specs.declared.counts.Counts.{Counts}
use Rattle.plum_base.specs.declared.packet.Packet.{Packet}
use Rattle.plum_base.specs.declared.setup.Setup.{Setup}
use Rattle.plum_base.specs.Packet.{AreListed}
use Rattle.plum_base.specs.Sites.{SitesView, areas_of}
use Rattle.plum_packet.specs.Reading.{MOST_RECORDS}
use Rattle.plum_snap.specs.Sessions.{SessionView}
use Rattle.plum_centre.specs.declared.centre.Centre.{Centre}
use Rattle.plum_centre.specs.Centre.{CentreId}
use Rattle.plum_replay.specs.declared.progress.Progress.{Progress}
use Rattle.plum_replay.specs.Between.{CanGoOn, GoesOnBy, last_readings}
use Rattle.plum_replay.specs.Progress.{IsAt}

module _ (id : CentreId) (setup : Setup) (sites : SitesView) (earlier : List Packet)
    (progress : Progress) (centre : Centre) (at : IsAt id setup sites earlier progress centre) where
  -- The centre can go on by packets that can be counted.
  pub can_go_on : (packets : List Packet) → AreListed (length sites.stations) packets
      → progress.counts.bodies + length packets ≤ MOST_RECORDS → CanGoOn id earlier packets centre
  can_go_on packets listed few = record {
    between = at.between;
    stations_are = ap (λ basis. basis.stations) at.of.basis_is
        ∙ ap (λ (s : SitesView). length s.stations) (sym at.of.sites_are);
    listed = subst (λ (s : SitesView). AreListed (length s.stations) packets)
        (sym at.of.sites_are) listed;
    few = omega (arith, at.few, few);
  }

  -- Once it did, and they were counted, it stands at these too.
  pub stands_then : (packets : List Packet) (reads : Bool) (more : ℕ) (next : Progress)
      (after : Centre) → GoesOnBy id earlier packets reads centre after → length packets ≤ more
      → next.counts.bodies ≡ progress.counts.bodies + more
      → IsAt id setup sites (earlier ++ packets) next after
  stands_then packets reads more next after goes within counted = record {
    of = at.of;
    between = goes.between;
    few = omega (arith, at.few, within, counted, length-append earlier packets);
  }

  -- It stands where it does as long as nothing is counted.
  pub stands_still : (next : Progress) → next.counts ≡ progress.counts
      → IsAt id setup sites earlier next centre
  stands_still next same = record {
    of = at.of;
    between = at.between;
    few = omega (arith, at.few, ap (λ (c : Counts). c.bodies) same);
  }

  -- Its sessions have a last reading for each area.
  pub one_each : length (last_readings centre.sessions.items) ≡ length (areas_of sites.targets)
  one_each =
      length-map centre.sessions.items (λ (s : SessionView). s.last)
      ∙ at.between.whole.sessions_are.all
      ∙ ap (λ (s : SitesView). length (areas_of s.targets)) at.of.sites_are
