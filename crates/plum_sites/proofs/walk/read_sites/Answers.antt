use Rattle.std.proofs.Common.{◌+◌, ◌++◌, map, subst, IfOk, IfErr, arith}
use Rattle.std.proofs.lemmas.Result.{IfOk-weaker, IfErr-weaker}
use Rattle.csv.specs.Records.{fields_of}
use Rattle.plum_sites.specs.Files.{IfFault, StateSites, HasFault, AreSitesOf, IsFaultOf}
use Rattle.plum_sites.proofs.FirstRecords.{if_fault, fault_of_first, sites_of_first}
use Rattle.plum_sites.proofs.walk.read_sites.Goals as goal

pub returns-clause-sites : goal.returns-clause-sites
returns-clause-sites g c =
    let kind = g.S.SiteRows in
    let first = map fields_of c.in_ok-records.records.items in
    let told = c.in_ok-records.ensures in
    IfOk-weaker c.sites_of.result
    (λ s. StateSites kind.header kind.states kind.are_lawful first (kind.sites s))
    (λ s. AreSitesOf kind.header kind.states kind.are_lawful c.args.bytes.now (kind.sites s))
    (λ s stated. let few = g.met.S.SiteRows.lawful_is_few (kind.sites s) stated.3 in (
      first ++ told.0,
      told.1,
      sites_of_first kind.header kind.states kind.are_lawful first told.0 (c.from.result + 2)
          (kind.sites s) (omega (arith, few, c.from.ensures, c.MOST.ensures)) told.2 stated,
    ))
    (subst (λ rows. IfOk c.sites_of.result
    (λ s. StateSites kind.header kind.states kind.are_lawful (map fields_of rows) (kind.sites s)))
    c.as_slice.ensures.value c.sites_of.ensures.sites)

pub returns-clause-fault : goal.returns-clause-fault
returns-clause-fault g c =
    let kind = g.S.SiteRows in
    let first = map fields_of c.in_ok-records.records.items in
    let told = c.in_ok-records.ensures in
    IfErr-weaker c.sites_of.result
    (λ e. IfFault e (HasFault kind.header kind.states kind.are_lawful kind.is_first_fault first))
    (λ e. IfFault e
    (IsFaultOf kind.header kind.states kind.are_lawful kind.is_first_fault c.args.bytes.now))
    (λ e at. if_fault e
    (HasFault kind.header kind.states kind.are_lawful kind.is_first_fault first)
    (IsFaultOf kind.header kind.states kind.are_lawful kind.is_first_fault c.args.bytes.now)
    (λ f is. (
      first ++ told.0,
      told.1,
      fault_of_first kind.header kind.states kind.are_lawful kind.is_first_fault first told.0
          (c.from.result + 2) f (omega arith) told.2 is,
    )) at)
    (subst (λ rows. IfErr c.sites_of.result (λ e. IfFault e (HasFault kind.header kind.states
    kind.are_lawful kind.is_first_fault (map fields_of rows)))) c.as_slice.ensures.value
    c.sites_of.ensures.fault)
