-- The members in file order, and in another.
use Rattle.std.proofs.Common.{◌≡◌, ℕ, ◌<◌, List, length, Some, sym, ap, subst, arith, ◌∙◌, get_or}
use Rattle.std.proofs.lemmas.List.Sorted.{All-permutation, Contains-permutation}
use Rattle.std.proofs.lemmas.Option.{slice_get-get_or, slice_get_within, get_or_from_slice_get}
use Rattle.std.specs.List.Sorted.{IsPermutation}
use Rattle.std.specs.Prelude.{slice_get}
use Rattle.plum_base.specs.declared.sites.StationSite.{StationSite}
use Rattle.plum_base.specs.Sites.{AreStations}
use Rattle.plum_pyramid.specs.declared.layout.Member.{Member}
use Rattle.plum_pyramid.specs.Cells.{AreMembers}

pub AreMembers-permuted : (stations : List StationSite) (before after : List Member)
    → IsPermutation before after → AreMembers stations before → AreMembers stations after
AreMembers-permuted stations before after moved are = record {
  lawful = are.lawful;
  listed =
      All-permutation (λ m. slice_get stations m.number.0 ≡ Some m.site) before after moved
      are.listed;
  complete = λ n site is.
      Contains-permutation before after (record { site = site; number = record { 0 = n } }) moved
      (are.complete n site is);
}

module _ (stations : List StationSite) (members : List Member) (lawful : AreStations stations)
    (count : length members ≡ length stations)
    (each : (k : ℕ) (m : Member) → k < length stations → get_or members k m
    ≡ record { site = get_or stations k m.site; number = record { 0 = k } }) where
  pub AreMembers-numbered : AreMembers stations members
  AreMembers-numbered = record {
    lawful = lawful;
    listed = λ k m below.
        let within : k < length stations = omega arith in
        subst (λ (x : Member). slice_get stations x.number.0 ≡ Some x.site) (sym (each k m within))
        (slice_get-get_or stations k m.site within);
    complete = λ n site is.
        let within : n < length stations = slice_get_within stations n site is in
        let own : Member = record { site = site; number = record { 0 = n } } in
        let same : get_or stations n site ≡ site = get_or_from_slice_get stations n site site is in
        let there : get_or members n own ≡ own =
        each n own within
        ∙ ap (λ (s : StationSite).
        let m : Member = record { site = s; number = record { 0 = n } } in m) same in
        (n, omega arith, there);
  }
