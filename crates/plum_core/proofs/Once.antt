-- A valid history holds no key of a station twice: each is above those before it.
use Rattle.std.proofs.Common.{◌≡◌, ◌≢◌, ℕ, zero, suc, ◌<◌, Bool, true, false, true≢false}
use Rattle.std.proofs.Common.{cond}
use Rattle.std.proofs.Common.{List, [], ◌∷◌, length, map, get_or, refl, sym, ◌∙◌, ap, subst}
use Rattle.std.proofs.Common.{arith, eq-eqb}
use Rattle.std.proofs.lemmas.List.Quantifiers.{all_pairs_push}
use Rattle.std.proofs.lemmas.Bool.{and_parts}
use Rattle.std.proofs.lemmas.Bool.Decides.{nat_tests}
use Rattle.std.specs.Prelude.{◌==◌}
use Rattle.plum_base.specs.declared.entry.Entry.{Entry}
use Rattle.plum_base.specs.declared.numbers.Key.{Key}
use Rattle.plum_base.specs.declared.packet.Packet.{Packet}
use Rattle.plum_base.specs.declared.setup.Setup.{Setup}
use Rattle.plum_base.proofs.Pushes.{by_push}
use Rattle.plum_seq.specs.Keys.{of_station, is_below, is_above_all, is_kept}
use Rattle.plum_core.specs.History.{packet_of, IsEntryAfter, IsValidHistory, IsEachOnce}
use Rattle.plum_core.proofs.Joining.{IsValidHistory-front}

-- A key is not below itself.
apart : (a b : Key) → is_below a b ≡ true → a ≢ b
apart a b below is =
    let same : is_below b b ≡ true = subst (λ k. is_below k b ≡ true) is below in
    let not : is_below b b ≡ false = grind (arith, nat_tests) in
    true≢false (sym same ∙ not)

-- A key above those of some packets, the first of which may be left out.
above : (key : Key) (p : Packet) (ps : List Packet) (own : Bool)
    → is_above_all (map (λ (q : Packet). q.key) (cond own (p ∷ ps) ps)) key ≡ true
    → (own ≡ true → is_below p.key key ≡ true)
    × (is_above_all (map (λ (q : Packet). q.key) ps) key ≡ true)
above key p ps true is =
    let parts = and_parts (is_below p.key key) _ is in
    ((λ _. parts.0), parts.1)
above key p ps false is = ((λ own. absurd (true≢false (sym own))), is)

-- Each earlier key of the station is below that of a kept packet.
below : (p : Packet) (history : List Entry) → is_kept (map packet_of history) p ≡ true
    → (k : ℕ) (d : Entry) → k < length history → (get_or history k d).station ≡ p.station
    → is_below (get_or history k d).key p.key ≡ true
below p [] kept k d within own = absurd (omega arith)
below p (e ∷ es) kept zero d within own =
    let rest = of_station p.station.0 (map packet_of es) in
    (above p.key (packet_of e) rest (e.station.0 == p.station.0) kept).0
    (eq-eqb e.station.0 p.station.0 (ap (λ s. s.0) own))
below p (e ∷ es) kept (suc k) d within own =
    let rest = of_station p.station.0 (map packet_of es) in
    below p es (above p.key (packet_of e) rest (e.station.0 == p.station.0) kept).1 k d
    (omega arith) own

pub IsEachOnce-valid : (setup : Setup) (stations : ℕ) (history : List Entry)
    → IsValidHistory setup stations history → IsEachOnce history
IsEachOnce-valid setup stations =
    by_push (λ history. IsValidHistory setup stations history → IsEachOnce history)
    (λ valid i j d less within. absurd (omega arith))
    (λ history e before valid.
    let right : IsEntryAfter setup stations history e = valid history e [] refl in
    all_pairs_push (λ (a b : Entry). a.station ≡ b.station → a.key ≢ b.key) history e
    (before (IsValidHistory-front setup stations history (e ∷ []) valid))
    (λ k d within own. apart _ e.key (below (packet_of e) history right.kept k d within own)))
