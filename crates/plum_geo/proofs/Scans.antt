-- Which stations a scan of a whole list finds near a place.
use Rattle.std.proofs.Common.{◌≡◌, ℕ, zero, suc, ◌+◌, ◌<◌, ◌*◌, Bool, true, false, leb-true, le-leb}
use Rattle.std.proofs.Common.{List, [], ◌∷◌, length, get_or, Some, sym, ◌∙◌, ap, arith, cond}
use Rattle.std.proofs.lemmas.List.Elements.{All-contains, All-contains_itself, All-filter}
use Rattle.std.proofs.lemmas.List.Elements.{filter_passes}
use Rattle.std.proofs.lemmas.List.FromFn.{length-enumerate_from, get_or-enumerate_from}
use Rattle.std.proofs.lemmas.Option.{slice_get_within, slice_get-get_or, get_or_from_slice_get}
use Rattle.std.specs.Prelude.{slice_get, ◌↔◌}
use Rattle.std.specs.List.{Contains, filter, enumerate_from}
use Rattle.plum_base.specs.declared.numbers.Point.{Point}
use Rattle.plum_base.specs.declared.sites.StationSite.{StationSite}
use Rattle.plum_geo.specs.Prediction.{RADIUS, distance_squared, IsNear, is_near, near_stations}

module _ {X : Type 0} (p : X → Bool) (x : X) where
  Contains-behind : (b : Bool) (y : X) (zs : List X) → Contains zs x
      → Contains (cond b (y ∷ zs) zs) x
  Contains-behind true y zs (k, below, is) = (suc k, omega arith, is)
  Contains-behind false y zs found = found

  -- A filter keeps the elements that pass,
  Contains-filter : (xs : List X) → p x ≡ true → Contains xs x → Contains (filter p xs) x
  Contains-filter [] passes (k, below, is) = absurd (omega arith)
  Contains-filter (y ∷ ys) passes (zero, below, is) =
      let yes : p y ≡ true = ap p is ∙ passes in
      rw yes (0, omega arith, is)
  Contains-filter (y ∷ ys) passes (suc k, below, is) =
      Contains-behind (p y) y (filter p ys) (Contains-filter ys passes (k, omega arith, is))

  -- and no others.
  Contains-from_filter : (xs : List X) → Contains (filter p xs) x → Contains xs x × (p x ≡ true)
  Contains-from_filter xs found = (
    All-contains (Contains xs) (filter p xs) x
        (All-filter p (Contains xs) xs (All-contains_itself xs)) found,
    All-contains (λ y. p y ≡ true) (filter p xs) x (filter_passes p xs) found,
  )

module _ {X : Type 0} (xs : List X) (n : ℕ) (x : X) where
  -- An element stands with its position n exactly where it is the n-th of the list.
  slice_get-from_enumerated : Contains (enumerate_from 0 xs) (n, x) → slice_get xs n ≡ Some x
  slice_get-from_enumerated (k, below, is) =
      let within : k < length xs = omega (arith, length-enumerate_from 0 xs) in
      let read : ℕ × X = (0 + k, get_or xs k x) in
      let here : read ≡ (n, x) = sym (get_or-enumerate_from 0 xs k (n, x) within) ∙ is in
      let same_position : 0 + k ≡ n = ap (λ (q : ℕ × X). q.0) here in
      let position : n ≡ k = omega arith in
      ap (slice_get xs) position ∙ slice_get-get_or xs k x within
      ∙ ap (λ (q : ℕ × X). Some q.1) here

  enumerated-from_slice_get : slice_get xs n ≡ Some x → Contains (enumerate_from 0 xs) (n, x)
  enumerated-from_slice_get is =
      let within : n < length xs = slice_get_within xs n x is in
      let element : get_or xs n x ≡ x = get_or_from_slice_get xs n x x is in
      let position : 0 + n ≡ n = omega arith in
      let there : get_or (enumerate_from 0 xs) n (n, x) ≡ (n, x) =
      get_or-enumerate_from 0 xs n (n, x) within ∙ ap (λ m. (m, get_or xs n x)) position
      ∙ ap (λ y. (n, y)) element in
      (n, omega (arith, length-enumerate_from 0 xs), there)

module _ (stations : List StationSite) (place : Point) (n : ℕ) (site : StationSite) where
  abbrev passes : ℕ × StationSite → Bool
  passes p = is_near p.1.at place

  near-from_found : Contains (near_stations stations place) (n, site)
      → (slice_get stations n ≡ Some site) × IsNear site.at place
  unfolding near_stations
  near-from_found found =
      let both = Contains-from_filter passes (n, site) (enumerate_from 0 stations) found in (
        slice_get-from_enumerated stations n site both.0,
        leb-true (distance_squared site.at place)
            (RADIUS * RADIUS) both.1,
      )

  found-from_near : (slice_get stations n ≡ Some site) × IsNear site.at place
      → Contains (near_stations stations place) (n, site)
  unfolding near_stations
  found-from_near (listed, near) =
      let passed = le-leb (distance_squared site.at place) (RADIUS * RADIUS) near in
      Contains-filter passes (n, site) (enumerate_from 0 stations) passed
      (enumerated-from_slice_get stations n site listed)

  pub near_stations-are : Contains (near_stations stations place) (n, site) ↔
      ((slice_get stations n ≡ Some site) × IsNear site.at place)
  near_stations-are = (near-from_found, found-from_near)
