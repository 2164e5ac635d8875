-- Parts of two journals with the same notes and, lane by lane, the same packets are the same.
use Rattle.std.proofs.Common.{◌≡◌, ℕ, ◌+◌, ◌<◌, Bool, List, [], ◌∷◌, ◌++◌, map, Option, refl, sym}
use Rattle.std.proofs.Common.{ap, ap₂, ◌∙◌, subst, arith}
use Rattle.std.specs.List.{AllByRecursion, AllZip}
use Rattle.plum_base.specs.declared.entry.Entry.{Entry}
use Rattle.plum_base.specs.declared.note.Note.{Note}
use Rattle.plum_base.specs.declared.numbers.Key.{Key}
use Rattle.plum_base.specs.declared.numbers.Tenths.{Tenths}
use Rattle.plum_base.specs.declared.packet.Packet.{Packet}
use Rattle.plum_base.specs.declared.wave.Sample.{Sample}
use Rattle.plum_base.specs.Lane.{lane_of}
use Rattle.plum_core.specs.History.{packet_of}
use Rattle.plum_core.specs.Transcript.{HoldsByLane}
use Rattle.plum_base.specs.Note.{note_of}
use Rattle.plum_text.specs.Texts.{notes_from}
use Rattle.plum_text.proofs.OneArea.{cons_same}
use Rattle.plum_replay.proofs.ByNumber.{SameByNumber, first_same, rest_same}

-- The note is of a later segment.
abbrev IsAfter : ℕ → ℕ × Note → Type 0
IsAfter segment note = segment < note.0

-- the notes of a part, each with its segment
abbrev notes_of : ℕ → List Entry → List (ℕ × Note)
notes_of segment part = map (λ e. (segment, note_of e)) part

-- the notes of later segments are after
after_part : (segment later : ℕ) (part : List Entry) (more : List (ℕ × Note)) → segment < later
    → AllByRecursion (IsAfter segment) more
    → AllByRecursion (IsAfter segment) (notes_of later part ++ more)
after_part segment later [] more h are = are
after_part segment later (e ∷ part) more h are = (h, after_part segment later part more h are)

after_parts : (segment later : ℕ) (parts : List (List Entry)) → segment < later
    → AllByRecursion (IsAfter segment) (notes_from later parts)
after_parts segment later [] h = tt
after_parts segment later (part ∷ parts) h =
    after_part segment later part (notes_from (later + 1) parts) h
    (after_parts segment (later + 1) parts (omega arith))

-- The notes of a part end where those of later segments begin.
same_part : (segment : ℕ) (part other : List Entry) (x y : List (ℕ × Note))
    → AllByRecursion (IsAfter segment) x → AllByRecursion (IsAfter segment) y
    → notes_of segment part ++ x ≡ notes_of segment other ++ y
    → (map note_of part ≡ map note_of other) × (x ≡ y)
same_part segment [] [] x y ax ay e = (refl, e)
same_part segment [] (f ∷ other) x y ax ay e =
    let first = (subst (AllByRecursion (IsAfter segment)) e ax).0 in absurd (omega arith)
same_part segment (f ∷ part) [] x y ax ay e =
    let first = (subst (AllByRecursion (IsAfter segment)) (sym e) ay).0 in absurd (omega arith)
same_part segment (d ∷ part) (f ∷ other) x y ax ay e =
    let cut =
    cons_same (segment, note_of d) (segment, note_of f) (notes_of segment part ++ x)
    (notes_of segment other ++ y) e in
    let more = same_part segment part other x y ax ay cut.1 in
    let note : note_of d ≡ note_of f = ap (λ n. n.1) cut.0 in
    let rest = more.0 in
    let both : note_of d ∷ map note_of part ≡ note_of f ∷ map note_of other = cc in
    (both, more.1)

-- an entry of these parts
entry_from : ℕ → ℕ → Key → Bool → List Sample → Option Tenths → Entry
entry_from station lane key fresh wave value = record {
  station = record { 0 = station };
  lane = record { 0 = lane };
  key = key;
  fresh = fresh;
  wave = wave;
  value = value;
}

-- the same entry, from the same parts
same_from : (s₁ s₂ l₁ l₂ : ℕ) (k₁ k₂ : Key) (f₁ f₂ : Bool) (w₁ w₂ : List Sample)
    (v₁ v₂ : Option Tenths) → s₁ ≡ s₂ → l₁ ≡ l₂ → k₁ ≡ k₂ → f₁ ≡ f₂ → w₁ ≡ w₂ → v₁ ≡ v₂
    → entry_from s₁ l₁ k₁ f₁ w₁ v₁ ≡ entry_from s₂ l₂ k₂ f₂ w₂ v₂
same_from s₁ s₂ l₁ l₂ k₁ k₂ f₁ f₂ w₁ w₂ v₁ v₂ s l k f w v = cc

module _ (lanes : ℕ) where
  -- The entry's lane is that of its station.
  abbrev pub IsInItsLane : Entry → Type 0
  IsInItsLane e = e.lane.0 ≡ lane_of lanes e.station.0

  -- An entry's note, packet and lane make it.
  same_entry : (d e : Entry) → IsInItsLane d → IsInItsLane e → note_of d ≡ note_of e
      → packet_of d ≡ packet_of e → d ≡ e
  unfolding entry_from
  same_entry d e ld le note packet =
      let station : d.station.0 ≡ e.station.0 = ap (λ n. n.station.0) note in
      same_from d.station.0 e.station.0 d.lane.0 e.lane.0 d.key e.key d.fresh e.fresh d.wave e.wave
      d.value e.value station (ld ∙ ap (λ s. lane_of lanes s) station ∙ sym le)
      (ap (λ n. n.key) note) (ap (λ n. n.fresh) note) (ap (λ p. p.wave) packet)
      (ap (λ n. n.value) note)

  -- the lane of a packet
  abbrev lane_in : Packet → ℕ
  lane_in p = lane_of lanes p.station.0

  -- The part's notes and, lane by lane, its packets make it: each note tells its station, and so
  -- of which lane the next packet is.
  same_entries : (part other : List Entry) → AllByRecursion IsInItsLane part
      → AllByRecursion IsInItsLane other → map note_of part ≡ map note_of other
      → SameByNumber lane_in (map packet_of part) (map packet_of other) → part ≡ other
  same_entries [] [] lp lo notes packets = refl
  same_entries [] (e ∷ other) lp lo notes packets = cc
  same_entries (d ∷ part) [] lp lo notes packets = cc
  same_entries (d ∷ part) (e ∷ other) lp lo notes packets =
      let cut = cons_same (note_of d) (note_of e) (map note_of part) (map note_of other) notes in
      let ps = map packet_of part in
      let qs = map packet_of other in
      let station : e.station.0 ≡ d.station.0 = ap (λ n. n.station.0) (sym cut.0) in
      let first =
      first_same lane_in (packet_of d) (packet_of e) ps qs (ap (λ s. lane_of lanes s) station)
      packets in
      let entry = same_entry d e lp.0 lo.0 cut.0 first in
      let later =
      subst (λ p. SameByNumber lane_in (packet_of d ∷ ps) (p ∷ qs)) (sym first) packets in
      let rest =
      same_entries part other lp.1 lo.1 cut.1 (rest_same lane_in (packet_of d) ps qs later) in
      ap₂ (λ x xs. x ∷ xs) entry rest

  -- Parts with the same notes, which hold the same packets lane by lane, are the same.
  pub same_parts : (segment : ℕ) (parts others : List (List Entry)) (kept : List (List Packet))
      → AllByRecursion (AllByRecursion IsInItsLane) parts
      → AllByRecursion (AllByRecursion IsInItsLane) others
      → AllZip (HoldsByLane lanes) parts kept → AllZip (HoldsByLane lanes) others kept
      → notes_from segment parts ≡ notes_from segment others → parts ≡ others
  same_parts segment [] [] [] lp lo hp ho e = refl
  same_parts segment [] others (packets ∷ kept) lp lo hp ho e = absurd hp
  same_parts segment [] (other ∷ others) [] lp lo hp ho e = absurd ho
  same_parts segment (part ∷ parts) others [] lp lo hp ho e = absurd hp
  same_parts segment (part ∷ parts) [] (packets ∷ kept) lp lo hp ho e = absurd ho
  same_parts segment (part ∷ parts) (other ∷ others) (packets ∷ kept) lp lo hp ho e =
      let cut =
      same_part segment part other (notes_from (segment + 1) parts)
      (notes_from (segment + 1) others) (after_parts segment (segment + 1) parts (omega arith))
      (after_parts segment (segment + 1) others (omega arith)) e in
      let first = same_entries part other lp.0 lo.0 cut.0 (λ lane. hp.0 lane ∙ sym (ho.0 lane)) in
      let rest = same_parts (segment + 1) parts others kept lp.1 lo.1 hp.1 ho.1 cut.1 in
      ap₂ (λ x xs. x ∷ xs) first rest
