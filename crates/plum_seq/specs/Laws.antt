-- What the key rule keeps: the statements of its laws.
use Rattle.std.specs.Prelude.{◌≡◌, ℕ, true, false, List, [], ◌∷◌, ◌++◌, Some, None}
use Rattle.std.specs.Option.{option_map}
use Rattle.std.specs.List.{last_or}
use Rattle.plum_base.specs.declared.numbers.Key.{Key}
use Rattle.plum_base.specs.declared.packet.Packet.{Packet}
use Rattle.plum_seq.specs.Keys.{of_station, keys_of, is_kept, kept_after, kept, is_fresh}
use Rattle.plum_seq.specs.Keys.{with_fresh, greatest_key, IsGreatestKey}

-- A kept packet joins the kept ones, at their end.
abbrev pub KeptJoins : Type 0
KeptJoins = (packets : List Packet) (p : Packet) → is_kept packets p ≡ true
    → kept (packets ++ p ∷ []) ≡ kept packets ++ p ∷ []

-- A repeat leaves the kept ones as they are.
abbrev pub RepeatLeaves : Type 0
RepeatLeaves = (packets : List Packet) (p : Packet) → is_kept packets p ≡ false
    → kept (packets ++ p ∷ []) ≡ kept packets

-- The same, with whether each is fresh: what is said of those before stays.
abbrev pub FreshJoins : Type 0
FreshJoins = (packets : List Packet) (p : Packet) → is_kept packets p ≡ true
    → with_fresh (packets ++ p ∷ []) ≡ with_fresh packets ++ (is_fresh packets p, p.wave) ∷ []

abbrev pub FreshLeaves : Type 0
FreshLeaves = (packets : List Packet) (p : Packet) → is_kept packets p ≡ false
    → with_fresh (packets ++ p ∷ []) ≡ with_fresh packets

-- Packets in two parts: the kept ones of the first, and those of the second after it.
abbrev pub KeptInParts : Type 0
KeptInParts = (earlier first second : List Packet)
    → kept_after earlier (first ++ second)
    ≡ kept_after earlier first ++ kept_after (earlier ++ first) second

-- The kept packets of a station are the kept ones of its packets.
abbrev pub KeptByStation : Type 0
KeptByStation = (station : ℕ) (packets : List Packet)
    → of_station station (kept packets) ≡ kept (of_station station packets)

-- Of the kept packets alone all are kept, and what comes after them is kept, and is fresh, exactly
-- where it is so after all.
abbrev pub KeptAlone : Type 0
KeptAlone = (packets : List Packet) → kept (kept packets) ≡ kept packets

abbrev pub FreshAlone : Type 0
FreshAlone = (packets : List Packet) → with_fresh (kept packets) ≡ with_fresh packets

abbrev pub KeptAfterKept : Type 0
KeptAfterKept = (packets : List Packet) (p : Packet) → is_kept (kept packets) p ≡ is_kept packets p

abbrev pub FreshAfterKept : Type 0
FreshAfterKept = (packets : List Packet) (p : Packet)
    → is_fresh (kept packets) p ≡ is_fresh packets p

-- Whether a packet is kept, and is fresh, its own station's packets alone decide.
abbrev pub KeptByOwn : Type 0
KeptByOwn = (packets : List Packet) (p : Packet)
    → is_kept (of_station p.station.0 packets) p ≡ is_kept packets p

abbrev pub FreshByOwn : Type 0
FreshByOwn = (packets : List Packet) (p : Packet)
    → is_fresh (of_station p.station.0 packets) p ≡ is_fresh packets p

-- The last kept packet of a station has the greatest of its keys.
abbrev pub LastIsGreatest : Type 0
LastIsGreatest = (station : ℕ) (packets : List Packet)
    → greatest_key (keys_of station packets)
    ≡ option_map (λ p. p.key) (last_or None (of_station station (kept packets)))

-- The greatest key, as it is computed, is the greatest, and none where there is no key; there is
-- one greatest key.
abbrev pub GreatestIs : Type 0
GreatestIs = (keys : List Key) (key : Key) → greatest_key keys ≡ Some key → IsGreatestKey keys key

abbrev pub NoneGreatest : Type 0
NoneGreatest = (keys : List Key) → greatest_key keys ≡ None → keys ≡ []

abbrev pub OneGreatest : Type 0
OneGreatest = (keys : List Key) (a b : Key) → IsGreatestKey keys a → IsGreatestKey keys b → a ≡ b
