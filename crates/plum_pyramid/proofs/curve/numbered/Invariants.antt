use Rattle.std.proofs.Common.{◌≡◌, ℕ, ◌<◌, length, get_or}
use Rattle.plum_pyramid.specs.declared.layout.Member.{Member}
use Rattle.plum_pyramid.proofs.curve.numbered.Given as goal

-- the stations so far, each with its number
abbrev pub invariant-loop-n : goal.invariant-loop-n
invariant-loop-n l = record {
  count : length l.members.items ≡ l.n;
  each : (k : ℕ) (m : Member) → k < l.n → get_or l.members.items k m
      ≡ record { site = get_or l.stations k m.site; number = record { 0 = k } };
}
