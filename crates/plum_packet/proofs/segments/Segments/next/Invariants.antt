use Rattle.std.proofs.Common.{◌≡◌, ◌+◌, ◌-◌, ◌<◌, ◌≤◌, ℕ, List, length}
use Rattle.plum_host.specs.declared.host.In.TheVariants.{Capture}
use Rattle.plum_base.specs.Packet.{AreListed}
use Rattle.plum_host.specs.Frames.{OnlyReads}
use Rattle.plum_packet.specs.declared.records.Progress.TheVariants.{Open}
use Rattle.plum_packet.specs.Reading.{bodies_in, HasGiven, HasBegun, HoldsBodies}
use Rattle.plum_packet.specs.Reading.{TakesRecords}
use Rattle.plum_packet.specs.Segments.{SEGMENT_BODIES, Decoded}
use Rattle.plum_packet.proofs.segments.Segments.next.Given as goal

abbrev pub invariant-bodies : goal.invariant-bodies
invariant-bodies g l =
    let before = g.H.Host.told l.fn.host in
    let now = g.H.Host.told l.host in
    record {
      begun : (capture : List ℕ) (segments : List (List Decoded))
          → HasGiven l.sites.stations capture segments l.fn.self (before.left Capture)
          → (begun : List Decoded) × HoldsBodies l.segment begun
          × HasBegun l.sites.stations capture segments begun l.self (now.left Capture);
      still_open : l.self.progress ≡ Open;
      room : bodies_in l.segment < SEGMENT_BODIES;
      listed : AreListed (length l.sites.stations) l.segment.packets.items;
      given : l.fn.self.given + bodies_in l.segment ≤ l.self.given;
      limit : l.self.limit ≡ l.fn.self.limit;
      taken : TakesRecords l.fn.self (before.left Capture) l.self (now.left Capture);
      no_fault : now.read_faults ≡ before.read_faults;
      frame : OnlyReads Capture before now;
    }

abbrev pub decreases-bodies : goal.decreases-bodies
decreases-bodies g l = l.self.limit - l.self.given
