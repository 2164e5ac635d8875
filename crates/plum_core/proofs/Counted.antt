-- A list, counted lane by lane.
use Rattle.std.proofs.Common.{◌≡◌, ◌≢◌, ℕ, zero, suc, ◌+◌, ◌<◌, ◌≤◌, Bool, cond}
use Rattle.std.proofs.Common.{List, [], ◌∷◌, map, length, refl, sym, ◌∙◌, ap, ap₂, eq-eqb, ne_eqb}
use Rattle.std.proofs.Common.{mod-lt, arith}
use Rattle.std.proofs.lemmas.List.{length-map}
use Rattle.std.proofs.lemmas.List.Sums.{sum_by-cons, length-filter}
use Rattle.std.specs.Prelude.{◌==◌, sum_by, filter}
use Rattle.std.specs.List.{range_with_len}
use native.Mathlib.Decide.{ℕ_discrete}
use Rattle.plum_base.specs.declared.entry.Entry.{Entry}
use Rattle.plum_base.specs.declared.packet.Packet.{Packet}
use Rattle.plum_base.specs.declared.setup.Setup.{Setup}
use Rattle.plum_base.specs.Lane.{lane_of}
use Rattle.plum_core.specs.History.{packet_of, entries_of_lane}
use Rattle.plum_core.specs.Laws.{LanesCounted}
use Rattle.plum_core.specs.Transcript.{of_lane}
use Rattle.plum_core.proofs.ByLane.{packets_by_lane}

-- ---- sums

module _ {X : Type 0} (f g : X → ℕ) where
  -- of equal terms
  pub sum_by-same : (xs : List X) → ((x : X) → f x ≡ g x) → sum_by f xs ≡ sum_by g xs
  sum_by-same [] same = refl
  sum_by-same (x ∷ xs) same =
      sum_by-cons f x xs ∙ ap₂ (λ a b. a + b) (same x) (sum_by-same xs same)
      ∙ sym (sum_by-cons g x xs)

  -- of two terms each
  sum_by-both : (xs : List X) → sum_by (λ x. f x + g x) xs ≡ sum_by f xs + sum_by g xs
  sum_by-both [] = omega arith
  sum_by-both (x ∷ xs) = omega (
    arith,
    sum_by-cons (λ x. f x + g x) x xs,
    sum_by-cons f x xs,
    sum_by-cons g x xs,
    sum_by-both xs,
  )

sum_by-zero : {X : Type 0} (xs : List X) → sum_by (λ x. 0) xs ≡ 0
sum_by-zero [] = refl
sum_by-zero (x ∷ xs) = omega (arith, sum_by-cons (λ _. 0) x xs, sum_by-zero xs)

-- ---- which number it is

abbrev pub is_it : ℕ → ℕ → ℕ
is_it k n = cond (k == n) 1 0

-- of numbers above it none,
none_above : (k a n : ℕ) → k < a → sum_by (is_it k) (range_with_len a n) ≡ 0
none_above k a zero above = refl
none_above k a (suc n) above =
    let apart : k ≢ a = λ q. omega arith in
    let not_it : is_it k a ≡ 0 = ap (λ b. cond b 1 0) (ne_eqb k a apart) in
    omega (
      arith,
      sum_by-cons (is_it k) a (range_with_len (a + 1) n),
      none_above k (a + 1) n (omega arith),
    )

-- of numbers that hold it one.
one_within : (k a n : ℕ) → a ≤ k → k < a + n → sum_by (is_it k) (range_with_len a n) ≡ 1
one_within k a zero from within = absurd (omega arith)
one_within k a (suc n) from within = elim (ℕ_discrete k a) [
  | yes q ↦
      let it : is_it k a ≡ 1 = ap (λ b. cond b 1 0) (eq-eqb k a q) in
      omega (
        arith,
        sum_by-cons (is_it k) a (range_with_len (a + 1) n),
        none_above k (a + 1) n (omega arith),
      )
  | no q ↦
      let not_it : is_it k a ≡ 0 = ap (λ b. cond b 1 0) (ne_eqb k a q) in
      omega (
        arith,
        sum_by-cons (is_it k) a (range_with_len (a + 1) n),
        one_within k (a + 1) n (omega arith) (omega arith),
      )
]

-- ---- a list, each member of which has a number

module _ {X : Type 0} (number : X → ℕ) where
  -- how many members have this number
  abbrev pub having : ℕ → List X → ℕ
  having k xs = length (filter (λ x. number x == k) xs)

  pub having-cons : (k : ℕ) (x : X) (xs : List X)
      → having k (x ∷ xs) ≡ is_it (number x) k + having k xs
  having-cons k x xs =
      let test : X → Bool = λ x. number x == k in
      length-filter test (x ∷ xs) ∙ sum_by-cons (λ y. cond (test y) 1 0) x xs
      ∙ ap (λ m. is_it (number x) k + m) (sym (length-filter test xs))

  module _ (n : ℕ) (below : (x : X) → number x < n) where
    -- Where all numbers are below n, those of each number are all of them together.
    pub counted_by : (xs : List X) → length xs ≡ sum_by (λ k. having k xs) (range_with_len 0 n)
    counted_by [] = sym (sum_by-zero (range_with_len 0 n))
    counted_by (x ∷ xs) =
        let all : List ℕ = range_with_len 0 n in
        let less = below x in
        omega (
          arith,
          counted_by xs,
          one_within (number x) 0 n (omega arith) (omega arith),
          sum_by-both (is_it (number x)) (λ k. having k xs) all,
          sum_by-same (λ k. having k (x ∷ xs)) (λ k. is_it (number x) k + having k xs) all
              (λ k. having-cons k x xs),
        )

module _ (setup : Setup) where
  -- how many packets there are of each lane
  of_lanes : (ps : List Packet)
      → length ps ≡ sum_by (λ lane. length (of_lane setup.lanes lane ps))
      (range_with_len 0 setup.lanes)
  of_lanes =
      let some : 0 < setup.lanes = setup.lanes_in_range.0 in
      counted_by (λ (p : Packet). lane_of setup.lanes p.station.0) setup.lanes
      (λ p. mod-lt p.station.0 some)

  -- A part has as many entries as its packets, since it has so lane by lane.
  pub part_counted : (part : List Entry) (packets : List Packet)
      → ((lane : ℕ) → of_lane setup.lanes lane (map packet_of part)
      ≡ of_lane setup.lanes lane packets)
      → length part ≡ length packets
  part_counted part packets holds =
      let all : List ℕ = range_with_len 0 setup.lanes in
      sym (length-map part packet_of) ∙ of_lanes (map packet_of part)
      ∙ sum_by-same (λ lane. length (of_lane setup.lanes lane (map packet_of part)))
      (λ lane. length (of_lane setup.lanes lane packets)) all (λ lane. ap length (holds lane))
      ∙ sym (of_lanes packets)

-- A valid history has as many entries as all lanes together.
pub lanes_counted : LanesCounted
lanes_counted setup stations history valid =
    sym (length-map history packet_of) ∙ of_lanes setup (map packet_of history)
    ∙ sum_by-same (λ lane. length (of_lane setup.lanes lane (map packet_of history)))
    (λ lane. length (entries_of_lane lane history)) (range_with_len 0 setup.lanes)
    (λ lane. ap length (sym (packets_by_lane setup stations lane history valid))
    ∙ length-map (entries_of_lane lane history) packet_of)
