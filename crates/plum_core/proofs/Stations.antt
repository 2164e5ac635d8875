-- The packets of a station, and a station at work, one more packet on.
use Rattle.std.proofs.Common.{◌≡◌, ℕ, Bool, true, false, List, [], ◌∷◌, ◌++◌, map, Option, refl}
use Rattle.std.proofs.Common.{sym, ◌∙◌, ap, subst, eq-eqb}
use Rattle.std.proofs.lemmas.List.{map-append}
use Rattle.std.proofs.lemmas.List.Elements.{filter-append}
use Rattle.std.specs.Prelude.{◌==◌}
use Rattle.plum_base.specs.declared.numbers.Key.{Key}
use Rattle.plum_base.specs.declared.numbers.Tenths.{Tenths}
use Rattle.plum_base.specs.declared.packet.Packet.{Packet}
use Rattle.plum_base.specs.declared.setup.Setup.{Setup}
use Rattle.plum_seq.specs.Keys.{of_station, keys_of, greatest_key, is_kept, is_fresh, with_fresh}
use Rattle.plum_seq.specs.Laws.{FreshJoins, FreshLeaves, KeptByOwn, FreshByOwn}
use Rattle.plum_seq.proofs.Stations.{of_station-own}
use Rattle.plum_engine.specs.Engine.{StandsFor, IsValueOf}
use Rattle.plum_engine.specs.Value.{IsValue}
use Rattle.plum_engine.specs.Run.{samples_since_gap}
use Rattle.plum_engine.specs.Signal.{amplitudes_of}
use Rattle.plum_core.specs.declared.station.Station.{Station}
use Rattle.plum_core.specs.Station.{Stands}

-- the packets of a station in two lists, one after the other
pub of_station-append : (s : ℕ) (ps qs : List Packet)
    → of_station s (ps ++ qs) ≡ of_station s ps ++ of_station s qs
of_station-append s ps qs = filter-append (λ (p : Packet). p.station.0 == s) ps qs

module _ (s : ℕ) (ps : List Packet) (p : Packet) where
  -- one more packet of the station
  pub of_station-push : p.station.0 ≡ s → of_station s (ps ++ p ∷ []) ≡ of_station s ps ++ p ∷ []
  of_station-push own = of_station-own s ps p (eq-eqb p.station.0 s own)

  -- its keys, one more packet of it on
  keys_of-push : p.station.0 ≡ s → keys_of s ps ++ p.key ∷ [] ≡ keys_of s (ps ++ p ∷ [])
  keys_of-push own =
      let key : Packet → Key = λ q. q.key in
      sym (ap (map key) (of_station-push own) ∙ map-append key (of_station s ps) (p ∷ []))

-- What was given to a station is told by its own packets.
pub Stands-same : (station : Station) (setup : Setup) (s : ℕ) (ps qs : List Packet)
    → of_station s ps ≡ of_station s qs → Stands station setup s ps → Stands station setup s qs
Stands-same station setup s ps qs same stands =
    let key : Packet → Key = λ p. p.key in
    record {
      keys = stands.keys ∙ ap (λ own. greatest_key (map key own)) same;
      engine = subst (λ own. StandsFor station.engine setup (with_fresh own)) same stands.engine;
    }

module _ (setup : Setup) (ps : List Packet) (p : Packet) where
  -- the station's packets
  abbrev own : List Packet
  own = of_station p.station.0 ps

  -- the same, one packet on
  abbrev more : List Packet
  more = of_station p.station.0 (ps ++ p ∷ [])

  module _ (after : Station)
      (keys : after.keys ≡ greatest_key (keys_of p.station.0 ps ++ p.key ∷ [])) where
    -- its keys, one packet on
    keys_after : after.keys ≡ greatest_key (keys_of p.station.0 (ps ++ p ∷ []))
    keys_after = keys ∙ ap greatest_key (keys_of-push p.station.0 ps p refl)

    -- A repeat changes no engine.
    pub Stands-repeat : FreshLeaves → KeptByOwn → (before : Station)
        → Stands before setup p.station.0 ps → is_kept ps p ≡ false → after.engine ≡ before.engine
        → Stands after setup p.station.0 (ps ++ p ∷ [])
    Stands-repeat leaves by_own before stands repeat same =
        let given_same : with_fresh more ≡ with_fresh own =
        ap with_fresh (of_station-push p.station.0 ps p refl)
        ∙ leaves own p (by_own ps p ∙ repeat) in
        record {
          keys = keys_after;
          engine = rw (given_same, same) stands.engine;
        }

  module _ (joins : FreshJoins) (kept_by_own : KeptByOwn) (fresh_by_own : FreshByOwn) (fresh : Bool)
      (judged : (is_kept ps p ≡ true) × (fresh ≡ is_fresh ps p)) where
    -- the engine was given the kept packets
    given : with_fresh own ++ (fresh, p.wave) ∷ [] ≡ with_fresh more
    given =
        ap (λ b. with_fresh own ++ (b, p.wave) ∷ []) (judged.1 ∙ sym (fresh_by_own ps p))
        ∙ sym (joins own p (kept_by_own ps p ∙ judged.0))
        ∙ ap with_fresh (sym (of_station-push p.station.0 ps p refl))

    -- A kept packet is given to the engine,
    pub Stands-kept : (after : Station)
        → after.keys ≡ greatest_key (keys_of p.station.0 ps ++ p.key ∷ [])
        → StandsFor after.engine setup (with_fresh own ++ (fresh, p.wave) ∷ [])
        → Stands after setup p.station.0 (ps ++ p ∷ [])
    Stands-kept after keys engine = record {
      keys = keys_after after keys;
      engine = rw given at engine;
    }

    -- which tells the station's value.
    pub IsValueOf-kept : (value : Option Tenths)
        → let run = samples_since_gap (with_fresh own ++ (fresh, p.wave) ∷ []) in
        IsValue setup.levels (amplitudes_of setup run) value → IsValueOf setup more value
    IsValueOf-kept value is_value = rw given at is_value
