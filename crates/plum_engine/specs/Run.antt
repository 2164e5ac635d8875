-- The run of a station: its samples since the last gap.
use Rattle.std.specs.Prelude.{◌≡◌, Bool, true, false, if◌then◌else◌, ◌⊎◌, List, [], ◌∷◌, ◌++◌, All}
use Rattle.std.specs.List.{flat_map, list_any}
use Rattle.plum_base.specs.declared.packet.Packet.{Packet}
use Rattle.plum_base.specs.declared.wave.Sample.{Sample}
use Rattle.plum_seq.specs.Keys.{with_fresh}

-- the packets from the last fresh one on; all of them where none is fresh
abbrev pub since_gap : {W : Type 0} → List (Bool × W) → List (Bool × W)
since_gap [] = []
since_gap (p ∷ ps) = if list_any (λ q. q.0) ps then since_gap ps else p ∷ ps

-- the samples since the last gap, joined in order
abbrev pub samples_since_gap : List (Bool × List Sample) → List Sample
samples_since_gap given = flat_map (λ p. p.1) (since_gap given)

-- the samples of a station's kept packets from the last fresh one on
abbrev pub run_of : List Packet → List Sample
run_of packets = samples_since_gap (with_fresh packets)

-- None of these packets is fresh.
abbrev pub HasNoFresh : List (Bool × List Sample) → Type 0
HasNoFresh given = All (λ p. p.0 ≡ false) given

-- The packets since the last gap are a fresh packet and all after it, none of which is fresh.
abbrev pub SinceGapIs : Type 0
SinceGapIs = (front : List (Bool × List Sample)) (wave : List Sample)
    (after : List (Bool × List Sample)) → HasNoFresh after
    → since_gap (front ++ (true, wave) ∷ after) ≡ (true, wave) ∷ after

-- Where none is fresh they are all.
abbrev pub SinceNoGap : Type 0
SinceNoGap = (given : List (Bool × List Sample)) → HasNoFresh given → since_gap given ≡ given

-- a list split at its last fresh packet
pub record SplitsAtGap (given : List (Bool × List Sample)) : Type 0 where
  pub front : List (Bool × List Sample)
  pub wave : List Sample
  pub after : List (Bool × List Sample)
  pub joined : given ≡ front ++ (true, wave) ∷ after
  pub no_fresh : HasNoFresh after

-- One of the two it always is.
abbrev pub EachSplits : Type 0
EachSplits = (given : List (Bool × List Sample)) → HasNoFresh given ⊎ SplitsAtGap given
