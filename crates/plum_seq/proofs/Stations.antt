-- The kept packets by station: the greatest key of each, and the kept ones alone.
use Rattle.std.proofs.Common.{◌≡◌, ℕ, true, false, List, [], ◌∷◌, ◌++◌, Some, None, inl, inr, refl}
use Rattle.std.proofs.Common.{sym, ◌∙◌, ap, append-nil}
use Rattle.std.proofs.lemmas.Bool.{cases_Bool, eqb-true}
use Rattle.std.proofs.lemmas.List.{map-append}
use Rattle.std.proofs.lemmas.List.Elements.{filter-append}
use Rattle.std.specs.Prelude.{if◌then◌else◌, ◌==◌}
use Rattle.std.specs.Option.{option_map}
use Rattle.std.specs.List.{last_or}
use Rattle.plum_base.specs.declared.packet.Packet.{Packet}
use Rattle.plum_seq.specs.Keys.{of_station, keys_of, is_kept, kept_after, kept, greater_key}
use Rattle.plum_seq.specs.Keys.{greatest_key, is_fresh_after, is_fresh, with_fresh}
use Rattle.plum_seq.proofs.Greatest.{is_above, is_above_all-is_above, greatest_key-push}
use Rattle.plum_seq.proofs.Greatest.{greater_key-above, greater_key-not_above}
use Rattle.plum_seq.proofs.Kept.{kept-push, kept-push_repeat, with_fresh-push}
use Rattle.plum_seq.proofs.Kept.{with_fresh-push_repeat}
use Rattle.plum_base.proofs.Pushes.{by_push, last_or-push}

-- A packet is kept exactly where its key is above the greatest of its station.
is_kept-is_above : (ps : List Packet) (p : Packet)
    → is_kept ps p ≡ is_above (greatest_key (keys_of p.station.0 ps)) p.key
is_kept-is_above ps p = is_above_all-is_above (keys_of p.station.0 ps) p.key

module _ (station : ℕ) (ps : List Packet) (p : Packet) where
  -- the packets of a station, one packet more
  of_station-push : of_station station (ps ++ p ∷ [])
      ≡ of_station station ps ++ (if p.station.0 == station then p ∷ [] else [])
  of_station-push = filter-append (λ q. q.station.0 == station) ps (p ∷ [])

  -- where it is the station's own
  module _ (own : (p.station.0 == station) ≡ true) where
    -- It joins the station's packets.
    pub of_station-own : of_station station (ps ++ p ∷ []) ≡ of_station station ps ++ p ∷ []
    of_station-own = of_station-push ∙ rw own

    -- The greatest key is the greater of the one before and its own.
    greatest_key-own : greatest_key (keys_of station (ps ++ p ∷ []))
        ≡ greater_key (greatest_key (keys_of station ps)) p.key
    greatest_key-own =
        rw (of_station-own, map-append (λ q. q.key) (of_station station ps) (p ∷ []))
        (greatest_key-push (keys_of station ps) p.key)

    -- It is kept where it is above the station's greatest key.
    is_kept-own_above : is_kept ps p ≡ is_above (greatest_key (keys_of station ps)) p.key
    is_kept-own_above =
        rw (← eqb-true p.station.0 station own) (is_kept-is_above ps p)

    -- Where it is kept its key is the greatest.
    greatest_key-own_kept : is_kept ps p ≡ true
        → greatest_key (keys_of station (ps ++ p ∷ [])) ≡ Some p.key
    greatest_key-own_kept is =
        greatest_key-own
        ∙ greater_key-above _ p.key (sym is_kept-own_above ∙ is)

  -- where it is another's
  module _ (other : (p.station.0 == station) ≡ false) where
    -- The station's packets stay.
    pub of_station-other : of_station station (ps ++ p ∷ []) ≡ of_station station ps
    of_station-other = of_station-push ∙ rw other (append-nil (of_station station ps))

    -- So does their greatest key.
    greatest_key-other : greatest_key (keys_of station (ps ++ p ∷ []))
        ≡ greatest_key (keys_of station ps)
    greatest_key-other = rw of_station-other

  -- A repeat leaves the greatest key of each station.
  greatest_key-repeat : is_kept ps p ≡ false
      → greatest_key (keys_of station (ps ++ p ∷ [])) ≡ greatest_key (keys_of station ps)
  greatest_key-repeat is = elim (cases_Bool (p.station.0 == station)) [
    | inl own ↦
        greatest_key-own own
        ∙ greater_key-not_above _ p.key (sym (is_kept-own_above own) ∙ is)
    | inr other ↦ greatest_key-other other
  ]

-- The kept packets have the greatest key of each station.
abbrev SameGreatest : List Packet → Type 0
SameGreatest ps = (station : ℕ)
    → greatest_key (keys_of station (kept ps)) ≡ greatest_key (keys_of station ps)

-- the same, one kept packet more
greatest_key-kept_push : (ps : List Packet) (p : Packet) → is_kept ps p ≡ true
    → SameGreatest ps → SameGreatest (ps ++ p ∷ [])
greatest_key-kept_push ps p is same station = elim (cases_Bool (p.station.0 == station)) [
  | inl own ↦
      rw (kept-push ps p is, greatest_key-own station (kept ps) p own)
      (ap (λ o. greater_key o p.key) (same station) ∙ sym (greatest_key-own station ps p own))
  | inr other ↦
      rw (kept-push ps p is, greatest_key-other station (kept ps) p other)
      (same station ∙ sym (greatest_key-other station ps p other))
]

-- the same, of any packets
greatest_key-kept : (ps : List Packet) → SameGreatest ps
unfolding kept_after
greatest_key-kept = by_push SameGreatest (λ station. refl) (λ ps p same.
    elim (cases_Bool (is_kept ps p)) [
      | inl is ↦ greatest_key-kept_push ps p is same
      | inr is ↦ λ station.
          rw (kept-push_repeat ps p is) (same station ∙ sym (greatest_key-repeat station ps p is))
    ])

-- A packet is kept after the kept ones exactly where it is kept after all.
pub is_kept-kept : (ps : List Packet) (p : Packet) → is_kept (kept ps) p ≡ is_kept ps p
is_kept-kept ps p =
    is_kept-is_above (kept ps) p
    ∙ ap (λ o. is_above o p.key) (greatest_key-kept ps p.station.0)
    ∙ sym (is_kept-is_above ps p)

-- It is fresh after the kept ones exactly where it is fresh after all.
pub is_fresh-kept : (ps : List Packet) (p : Packet) → is_fresh (kept ps) p ≡ is_fresh ps p
is_fresh-kept ps p = ap (λ o. is_fresh_after o p.key) (greatest_key-kept ps p.station.0)

-- Of the kept packets alone all are kept.
pub kept-kept : (ps : List Packet) → kept (kept ps) ≡ kept ps
unfolding kept_after
kept-kept = by_push (λ ps. kept (kept ps) ≡ kept ps) refl (λ ps p same.
    elim (cases_Bool (is_kept ps p)) [
      | inl is ↦
          rw (kept-push ps p is, kept-push (kept ps) p (is_kept-kept ps p ∙ is))
          (ap (λ first. first ++ p ∷ []) same)
      | inr is ↦ rw (kept-push_repeat ps p is) same
    ])

-- Of the kept packets alone the same are fresh.
pub with_fresh-kept : (ps : List Packet) → with_fresh (kept ps) ≡ with_fresh ps
unfolding kept_after
with_fresh-kept = by_push (λ ps. with_fresh (kept ps) ≡ with_fresh ps) refl (λ ps p same.
    elim (cases_Bool (is_kept ps p)) [
      | inl is ↦
          rw (kept-push ps p is, with_fresh-push (kept ps) p (is_kept-kept ps p ∙ is))
          (ap (λ first. first ++ (is_fresh (kept ps) p, p.wave) ∷ []) same
          ∙ ap (λ fresh. with_fresh ps ++ (fresh, p.wave) ∷ []) (is_fresh-kept ps p)
          ∙ sym (with_fresh-push ps p is))
      | inr is ↦ rw (kept-push_repeat ps p is, with_fresh-push_repeat ps p is) same
    ])

-- The packets of a station are all of that station.
of_station-twice : (station : ℕ) (ps : List Packet)
    → of_station station (of_station station ps) ≡ of_station station ps
of_station-twice station [] = refl
of_station-twice station (p ∷ ps) = elim (cases_Bool (p.station.0 == station)) [
  | inl own ↦ rw (own, own) (ap (λ rest. p ∷ rest) (of_station-twice station ps))
  | inr other ↦ rw other (of_station-twice station ps)
]

-- Whether a packet is kept, its own station's packets alone decide.
pub is_kept-own : (ps : List Packet) (p : Packet)
    → is_kept (of_station p.station.0 ps) p ≡ is_kept ps p
is_kept-own ps p = rw (of_station-twice p.station.0 ps)

-- Whether it is fresh, they alone decide too.
pub is_fresh-own : (ps : List Packet) (p : Packet)
    → is_fresh (of_station p.station.0 ps) p ≡ is_fresh ps p
is_fresh-own ps p = rw (of_station-twice p.station.0 ps)

-- The kept packets of a station are the kept ones of its packets.
abbrev KeptApart : ℕ → List Packet → Type 0
KeptApart station ps = of_station station (kept ps) ≡ kept (of_station station ps)

module _ (station : ℕ) (ps : List Packet) (p : Packet) (apart : KeptApart station ps) where
  -- the same, one packet of the station more
  kept-of_station_own : (p.station.0 == station) ≡ true → KeptApart station (ps ++ p ∷ [])
  kept-of_station_own own =
      let same : is_kept (of_station station ps) p ≡ is_kept ps p =
      rw (← eqb-true p.station.0 station own) (is_kept-own ps p) in
      elim (cases_Bool (is_kept ps p)) [
        | inl is ↦
            rw (kept-push ps p is, of_station-own station (kept ps) p own)
            (ap (λ first. first ++ p ∷ []) apart
            ∙ sym (kept-push (of_station station ps) p (same ∙ is))
            ∙ ap kept (sym (of_station-own station ps p own)))
        | inr is ↦
            rw (kept-push_repeat ps p is, of_station-own station ps p own)
            (apart ∙ sym (kept-push_repeat (of_station station ps) p (same ∙ is)))
      ]

  -- one packet of another more
  kept-of_station_other : (p.station.0 == station) ≡ false → KeptApart station (ps ++ p ∷ [])
  kept-of_station_other other =
      rw (of_station-other station ps p other) (elim (cases_Bool (is_kept ps p)) [
        | inl is ↦ rw (kept-push ps p is) (of_station-other station (kept ps) p other ∙ apart)
        | inr is ↦ rw (kept-push_repeat ps p is) apart
      ])

-- the same, of any packets
pub kept-of_station : (station : ℕ) (ps : List Packet)
    → of_station station (kept ps) ≡ kept (of_station station ps)
unfolding kept_after
kept-of_station station = by_push (KeptApart station) refl (λ ps p apart.
    elim (cases_Bool (p.station.0 == station)) [
      | inl own ↦ kept-of_station_own station ps p apart own
      | inr other ↦ kept-of_station_other station ps p apart other
    ])

-- The last kept packet of a station has the greatest of its keys.
abbrev IsLastGreatest : ℕ → List Packet → Type 0
IsLastGreatest station ps = greatest_key (keys_of station ps)
    ≡ option_map (λ p. p.key) (last_or None (of_station station (kept ps)))

-- the same, one packet more
last-push : (station : ℕ) (ps : List Packet) (p : Packet)
    → IsLastGreatest station ps → IsLastGreatest station (ps ++ p ∷ [])
last-push station ps p before = elim (cases_Bool (is_kept ps p)) [
  | inl is ↦ rw (kept-push ps p is) (elim (cases_Bool (p.station.0 == station)) [
    | inl own ↦
        rw (of_station-own station (kept ps) p own, last_or-push None _ p)
        (greatest_key-own_kept station ps p own is)
    | inr other ↦
        rw (of_station-other station (kept ps) p other)
        (greatest_key-other station ps p other ∙ before)
  ])
  | inr is ↦ rw (kept-push_repeat ps p is) (greatest_key-repeat station ps p is ∙ before)
]

-- the same, of any packets
pub last-is_greatest : (station : ℕ) (ps : List Packet) → greatest_key (keys_of station ps)
    ≡ option_map (λ p. p.key) (last_or None (of_station station (kept ps)))
unfolding kept_after
last-is_greatest station = by_push (IsLastGreatest station) refl (last-push station)
