-- The best at a place over one station more.
use Rattle.std.proofs.Common.{◌≡◌, ℕ, ◌⊎◌, List, [], ◌∷◌, ◌++◌, length, Option, Some}
use Rattle.std.proofs.Common.{None, inl, inr, sym, ◌∙◌, ap, subst, arith}
use lib.Signed.{≤ℤ_refl}
use Rattle.std.proofs.lemmas.Int.{ints}
use Rattle.std.proofs.lemmas.Option.{none-some, same_Some, slice_get_within}
use Rattle.std.specs.Prelude.{IfSome, IfNone, IsSomeAnd, ℤ, ◌≤ℤ◌}
use Rattle.plum_base.specs.declared.numbers.Point.{Point}
use Rattle.plum_base.specs.declared.numbers.Tenths.{Tenths}
use Rattle.plum_base.specs.declared.sites.StationSite.{StationSite}
use Rattle.plum_base.proofs.Pushes.{slice_get-before, slice_get-after, slice_get-cases}
use Rattle.plum_geo.specs.Prediction.{corrected, IsAtMost, IsNear, FindsNear, Reports}
use Rattle.plum_geo.specs.Prediction.{IsSaid, IsBest}

-- What is said is at least z.
abbrev Reaches : ℤ → Option Tenths → Type 0
Reaches z said = IsSomeAnd said (λ t. z ≤ℤ t.0)

-- What is at least another reaches what that one reaches.
reaches : (a b : Option Tenths) (z : ℤ) → IsAtMost a b → Reaches z a → Reaches z b
reaches None b z more is = absurd is
reaches (Some t) None z more is = more
reaches (Some t) (Some r) z more is = omega (arith, ints)

-- What holds of two values holds of the one of them that is taken.
pub IfSome-one : (P : Tenths → Type 0) (a b after : Option Tenths) → (after ≡ a) ⊎ (after ≡ b)
    → IfSome a P → IfSome b P → IfSome after P
IfSome-one P a b after one first second =
    let Q : Option Tenths → Type 0 = λ o. IfSome o P in
    elim one [ inl same ↦ subst Q (sym same) first | inr same ↦ subst Q (sym same) second ]

module _ (values : ℕ → Option Tenths) (place : Point) where
  abbrev SaidIn : List StationSite → Tenths → Type 0
  SaidIn stations t = IsSaid stations values place t

  -- It reaches what each of those that report says.
  abbrev ReachesAll : List StationSite → Option Tenths → Type 0
  ReachesAll stations o =
      (n : ℕ) (value : Tenths) (r : Reports stations values place n value)
      → Reaches (corrected r.site value) o

  module _ (stations : List StationSite) where
    -- The best is said;
    IsSaid-from : (o : Option Tenths) → IsBest stations values place o → IfSome o (SaidIn stations)
    IsSaid-from None is = tt
    IsSaid-from (Some t) is = is.0

    -- it reaches all that is said;
    ReachesAll-from : (o : Option Tenths) → IsBest stations values place o → ReachesAll stations o
    ReachesAll-from None is = is
    ReachesAll-from (Some t) is = is.1

    -- what is both is the best.
    IsBest-from : (o : Option Tenths) → IfSome o (SaidIn stations) → ReachesAll stations o
        → IsBest stations values place o
    IsBest-from None said all = all
    IsBest-from (Some t) said all = (said, all)

  -- Station n says this, which is near and reports;
  abbrev pub SaysSome : StationSite → ℕ → Option Tenths → Type 0
  SaysSome site n said =
      IfSome said (λ t. IsNear site.at place × (value : Tenths) × (values n ≡ Some value)
      × (t.0 ≡ corrected site value))

  -- it says nothing where it is not near or does not report.
  abbrev pub SaysNone : StationSite → ℕ → Option Tenths → Type 0
  SaysNone site n said = IfNone said (IsNear site.at place → values n ≡ None)

  module _ (finds : FindsNear) where
    -- Of no stations there is no best.
    pub IsBest-nil : IsBest [] values place None
    IsBest-nil n value r = none-some r.site ((finds [] place n r.site).0 r.near).0

    module _ (stations : List StationSite) (site : StationSite) where
      -- one station more
      abbrev longer : List StationSite
      longer = stations ++ site ∷ []

      -- what the stations so far say
      IsSaid-before : (o : Option Tenths) → IfSome o (SaidIn stations) → IfSome o (SaidIn longer)
      IsSaid-before None said = tt
      IsSaid-before (Some t) said =
          let n : ℕ = said.0 in
          let from : StationSite = said.2.site in
          let found = (finds stations place n from).0 said.2.near in
          let r : Reports longer values place n said.1 = record {
            site = from;
            near =
                (finds longer place n from).1 (
                  slice_get-before stations site n (slice_get_within stations n from found.0)
                      ∙ found.0,
                  found.1,
                );
            shows = said.2.shows;
          } in
          (n, said.1, r, said.3)

      -- what the next station says
      IsSaid-last : (o : Option Tenths) → SaysSome site (length stations) o
          → IfSome o (SaidIn longer)
      IsSaid-last None says = tt
      IsSaid-last (Some t) says =
          let n : ℕ = length stations in
          let r : Reports longer values place n says.1 = record {
            site = site;
            near = (finds longer place n site).1 (slice_get-after stations site, says.0);
            shows = says.2;
          } in
          (n, says.1, r, says.3)

      -- What the next station says reaches what it shows, less its factor.
      reaches_last : (n : ℕ) (o : Option Tenths) (value : Tenths) → SaysSome site n o
          → SaysNone site n o → IsNear site.at place → values n ≡ Some value
          → Reaches (corrected site value) o
      reaches_last n None value says silent near shows =
          absurd (none-some value (sym (silent near) ∙ shows))
      reaches_last n (Some t) value says silent near shows =
          let same : says.1 ≡ value = same_Some says.1 value (sym says.2 ∙ shows) in
          let is : t.0 ≡ corrected site value = says.3 ∙ ap (corrected site) same in
          subst (λ z. corrected site value ≤ℤ z) (sym is) (≤ℤ_refl (corrected site value))

      module _ (before said after : Option Tenths) (best : IsBest stations values place before)
          (says : SaysSome site (length stations) said)
          (silent : SaysNone site (length stations) said)
          (first : IsAtMost before after) (second : IsAtMost said after) where
        -- the greater reaches what each of the stations says
        ReachesAll-push : ReachesAll longer after
        ReachesAll-push n value r =
            let found = (finds longer place n r.site).0 r.near in
            elim (slice_get-cases stations site n r.site found.0) [
              | inl listed ↦
                  let earlier : Reports stations values place n value = record {
                    site = r.site;
                    near = (finds stations place n r.site).1 (listed.1, found.1);
                    shows = r.shows;
                  } in
                  reaches before after (corrected r.site value) first
                  (ReachesAll-from stations before best n value earlier)
              | inr last ↦
                  let near : IsNear site.at place =
                  subst (λ (s : StationSite). IsNear s.at place) (sym last.1) found.1 in
                  let shows : values (length stations) ≡ Some value =
                  subst (λ m. values m ≡ Some value) last.0 r.shows in
                  subst (λ (s : StationSite). Reaches (corrected s value) after) last.1
                  (reaches said after (corrected site value) second
                  (reaches_last (length stations) said value says silent near shows))
            ]

        -- The greater of the best so far and of what the next station says is the best.
        pub IsBest-push : (after ≡ before) ⊎ (after ≡ said) → IsBest longer values place after
        IsBest-push one =
            let earlier : IfSome before (SaidIn longer) =
            IsSaid-before before (IsSaid-from stations before best) in
            IsBest-from longer after
            (IfSome-one (SaidIn longer) before said after one earlier (IsSaid-last said says))
            ReachesAll-push
