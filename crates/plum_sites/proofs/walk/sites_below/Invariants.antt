use Rattle.std.proofs.Common.{◌≡◌, length, map, take}
use Rattle.std.specs.List.{AllZip}
use Rattle.csv.specs.Records.{fields_of}
use Rattle.plum_sites.proofs.walk.sites_below.Given as goal

abbrev pub invariant-loop-i : goal.invariant-loop-i
invariant-loop-i g l = record {
  stated : AllZip g.S.SiteRows.states (map fields_of (take l.i l.rows))
      (g.S.SiteRows.sites l.sites);
  sound : g.S.SiteRows.is_sound l.sites;
  count : length (g.S.SiteRows.sites l.sites) ≡ l.i;
}
