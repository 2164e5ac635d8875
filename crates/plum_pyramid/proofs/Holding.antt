-- Runs that lie in a square, member by member.
use Rattle.std.proofs.Common.{◌≡◌, ℕ, ◌+◌, ◌<◌, ◌≤◌, List, length, inl, inr, pos, subst}
use Rattle.std.proofs.Common.{arith, get_or}
use Rattle.std.proofs.lemmas.Bool.{cases_lt}
use Rattle.std.proofs.lemmas.Option.{slice_get-get_or, get_or_from_slice_get}
use Rattle.plum_geo.specs.Square.{IsWithin}
use Rattle.plum_geo.specs.declared.square.Square.{Square}
use Rattle.plum_pyramid.specs.declared.layout.Member.{Member}
use Rattle.plum_pyramid.specs.Cells.{AreHeld}

-- what a read past the end would give
abbrev pub blank : Member
blank = record {
  site = record {
    code = 0;
    at = record { x = pos 0; y = pos 0 };
    factor = record { 0 = pos 0 };
  };
  number = record { 0 = 0 };
}

module _ (members : List Member) (square : Square) where
  abbrev LiesAt : ℕ → Type 0
  LiesAt p = IsWithin (get_or members p blank).site.at square

  -- a run and one member more
  pub AreHeld-more : (a b : ℕ) → AreHeld members a b square → LiesAt b
      → AreHeld members a (b + 1) square
  AreHeld-more a b held next p m from to is = elim (cases_lt p b) [
    | inl before ↦ held p m from before is
    | inr behind ↦
        let at : b ≡ p = omega arith in
        let read : get_or members p blank ≡ m =
        get_or_from_slice_get members p m blank is in
        subst (λ (x : Member). IsWithin x.site.at square) read
        (subst (λ k. IsWithin (get_or members k blank).site.at square) at next)
  ]

  -- one member
  pub AreHeld-one : (a : ℕ) → LiesAt a → AreHeld members a (a + 1) square
  AreHeld-one a here = AreHeld-more a a (λ p m from to is. absurd (omega arith)) here

  -- each member of a run lies there
  pub LiesAt-held : (a b p : ℕ) → AreHeld members a b square → a ≤ p → p < b
      → b ≤ length members → LiesAt p
  LiesAt-held a b p held from to bound =
      held p (get_or members p blank) from to
      (slice_get-get_or members p blank (omega arith))
