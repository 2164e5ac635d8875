-- The lines of an output tell its sections and the length of its tail.
use Rattle.std.proofs.Common.{◌≡◌, ℕ, ◌+◌, List, [], ◌∷◌, ◌++◌, Option, refl, sym, ◌∙◌}
use Rattle.std.proofs.Common.{ap₂, subst, append_assoc}
use Rattle.std.specs.List.{AllByRecursion}
use Rattle.plum_base.specs.declared.answers.Reading.{Reading}
use Rattle.plum_base.specs.declared.packet.PacketFault.{PacketFault}
use Rattle.plum_base.specs.declared.packet.RefusedBody.{RefusedBody}
use Rattle.plum_base.specs.declared.rules.Alert.{Alert}
use Rattle.plum_base.specs.declared.sites.TargetSite.{TargetSite}
use Rattle.plum_base.specs.Sites.{areas_of}
use Rattle.plum_text.specs.declared.lines.OutLine.{OutLine}
use Rattle.plum_text.specs.declared.lines.OutLine.TheVariants.{Refused, Tail}
use Rattle.plum_text.specs.Texts.{Section, IsWhole, mark_line, refused_lines, areas_lines}
use Rattle.plum_text.specs.Texts.{section_lines, sections_lines}
use Rattle.plum_text.proofs.OneArea.{cons_same, NoAlertFirst, same_areas}

-- The first of these lines is no refused body.
abbrev NoRefusedFirst : List OutLine → Type 0
NoRefusedFirst [] = Unit {0}
NoRefusedFirst (Refused number fault ∷ ls) = ⊥
NoRefusedFirst (l ∷ ls) = Unit {0}

-- refused bodies up to a line that is none
same_refused : (rs qs : List RefusedBody) (x y : List OutLine) → NoRefusedFirst x
    → NoRefusedFirst y → refused_lines rs ++ x ≡ refused_lines qs ++ y → (rs ≡ qs) × (x ≡ y)
same_refused [] [] x y nx ny e = (refl, e)
same_refused [] (q ∷ qs) x y nx ny e = absurd (subst NoRefusedFirst e nx)
same_refused (r ∷ rs) [] x y nx ny e = absurd (subst NoRefusedFirst (sym e) ny)
same_refused (r ∷ rs) (q ∷ qs) x y nx ny e =
    let line_of : RefusedBody → OutLine = λ r. Refused r.number r.fault in
    let cut =
    cons_same (line_of r) (line_of q) (refused_lines rs ++ x) (refused_lines qs ++ y) e in
    let number : r.number ≡ q.number = let e = cut.0 in cc in
    let fault : r.fault ≡ q.fault = let e = cut.0 in cc in
    let made : ℕ → PacketFault → RefusedBody = λ n f. record { number = n; fault = f } in
    let first : r ≡ q = ap₂ made number fault in
    let more = same_refused rs qs x y nx ny cut.1 in
    let same : r ∷ rs ≡ q ∷ qs = let e = first in let f = more.0 in cc in
    (same, more.1)

-- areas begin with no refused body
NoRefusedFirst-areas : (targets : List TargetSite) (m : ℕ) (areas : List (List ℕ))
    (rs : List Reading) (alerts : List (Option Alert)) (x : List OutLine) → NoRefusedFirst x
    → NoRefusedFirst (areas_lines targets m areas rs alerts ++ x)
NoRefusedFirst-areas targets m [] rs alerts x nx = nx
NoRefusedFirst-areas targets m (area ∷ areas) [] alerts x nx = nx
NoRefusedFirst-areas targets m (area ∷ areas) (r ∷ rs) [] x nx = nx
NoRefusedFirst-areas targets m (area ∷ areas) (r ∷ rs) (a ∷ alerts) x nx = tt

-- a section of these parts
section_of : ℕ → ℕ → ℕ → ℕ → List RefusedBody → List Reading → List (Option Alert) → Section
section_of bodies kept repeats refused bad readings alerts = record {
  counts = record { bodies = bodies; kept = kept; repeats = repeats; refused = refused };
  refused = bad;
  readings = readings;
  alerts = alerts;
}

-- the same section, from the same parts
same_parts : (b₁ b₂ k₁ k₂ r₁ r₂ f₁ f₂ : ℕ) (bad₁ bad₂ : List RefusedBody)
    (read₁ read₂ : List Reading) (a₁ a₂ : List (Option Alert)) → b₁ ≡ b₂ → k₁ ≡ k₂ → r₁ ≡ r₂
    → f₁ ≡ f₂ → bad₁ ≡ bad₂ → read₁ ≡ read₂ → a₁ ≡ a₂
    → section_of b₁ k₁ r₁ f₁ bad₁ read₁ a₁ ≡ section_of b₂ k₂ r₂ f₂ bad₂ read₂ a₂
same_parts b₁ b₂ k₁ k₂ r₁ r₂ f₁ f₂ bad₁ bad₂ read₁ read₂ a₁ a₂ b k r f bad read a = cc

-- the same section, from the same mark and the same parts
same_made : (m : ℕ) (s q : Section) → mark_line m s.counts ≡ mark_line m q.counts
    → s.refused ≡ q.refused → s.readings ≡ q.readings → s.alerts ≡ q.alerts → s ≡ q
unfolding section_of
same_made m s q marks refused readings alerts =
    let bodies : s.counts.bodies ≡ q.counts.bodies = let e = marks in cc in
    let kept : s.counts.kept ≡ q.counts.kept = let e = marks in cc in
    let repeats : s.counts.repeats ≡ q.counts.repeats = let e = marks in cc in
    let bad : s.counts.refused ≡ q.counts.refused = let e = marks in cc in
    same_parts s.counts.bodies q.counts.bodies s.counts.kept q.counts.kept s.counts.repeats
    q.counts.repeats s.counts.refused q.counts.refused s.refused q.refused s.readings q.readings
    s.alerts q.alerts bodies kept repeats bad refused readings alerts

-- The first of these lines is a mark or the tail.
abbrev EndsSection : List OutLine → Type 0
EndsSection ls = NoAlertFirst ls × NoRefusedFirst ls

-- a section up to the next mark or the tail
same_section : (targets : List TargetSite) (m : ℕ) (s q : Section) (x y : List OutLine)
    → IsWhole targets s → IsWhole targets q → EndsSection x → EndsSection y
    → section_lines targets m s ++ x ≡ section_lines targets m q ++ y → (s ≡ q) × (x ≡ y)
same_section targets m s q x y ws wq nx ny e =
    let areas = areas_of targets in
    let told = areas_lines targets m areas s.readings s.alerts in
    let others = areas_lines targets m areas q.readings q.alerts in
    let cut =
    cons_same (mark_line m s.counts) (mark_line m q.counts) ((refused_lines s.refused ++ told) ++ x)
    ((refused_lines q.refused ++ others) ++ y) e in
    let rest : refused_lines s.refused ++ (told ++ x) ≡ refused_lines q.refused ++ (others ++ y) =
    sym (append_assoc (refused_lines s.refused) told x) ∙ cut.1
    ∙ append_assoc (refused_lines q.refused) others y in
    let refused =
    same_refused s.refused q.refused (told ++ x) (others ++ y)
    (NoRefusedFirst-areas targets m areas s.readings s.alerts x nx.1)
    (NoRefusedFirst-areas targets m areas q.readings q.alerts y ny.1) rest in
    let parts =
    same_areas targets m areas s.readings q.readings s.alerts q.alerts x y ws.answers wq.answers
    ws.alerts wq.alerts nx.0 ny.0 refused.1 in
    (same_made m s q cut.0 refused.0 parts.0 parts.1, parts.2)

-- sections and the tail end a section
EndsSection-tail : (targets : List TargetSite) (m : ℕ) (ss : List Section) (tail : ℕ)
    (z : List OutLine) → EndsSection (sections_lines targets m ss ++ Tail tail ∷ z)
EndsSection-tail targets m [] tail z = (tt, tt)
EndsSection-tail targets m (s ∷ ss) tail z = (tt, tt)

-- Whole sections up to the tail, and its length.
pub same_sections : (targets : List TargetSite) (m : ℕ) (ss qs : List Section) (tail other : ℕ)
    (z w : List OutLine) → AllByRecursion (IsWhole targets) ss → AllByRecursion (IsWhole targets) qs
    → sections_lines targets m ss ++ Tail tail ∷ z ≡ sections_lines targets m qs ++ Tail other ∷ w
    → (ss ≡ qs) × (tail ≡ other)
same_sections targets m [] [] tail other z w ws wq e =
    let cut = cons_same (Tail tail) (Tail other) z w e in
    let same : tail ≡ other = let e = cut.0 in cc in
    (refl, same)
same_sections targets m [] (q ∷ qs) tail other z w ws wq e = cc
same_sections targets m (s ∷ ss) [] tail other z w ws wq e = cc
same_sections targets m (s ∷ ss) (q ∷ qs) tail other z w ws wq e =
    let more = sections_lines targets (m + 1) ss in
    let others = sections_lines targets (m + 1) qs in
    let joined : section_lines targets m s ++ (more ++ Tail tail ∷ z)
    ≡ section_lines targets m q ++ (others ++ Tail other ∷ w) =
    sym (append_assoc (section_lines targets m s) more (Tail tail ∷ z)) ∙ e
    ∙ append_assoc (section_lines targets m q) others (Tail other ∷ w) in
    let first =
    same_section targets m s q (more ++ Tail tail ∷ z) (others ++ Tail other ∷ w) ws.0 wq.0
    (EndsSection-tail targets (m + 1) ss tail z) (EndsSection-tail targets (m + 1) qs other w)
    joined in
    let later = same_sections targets (m + 1) ss qs tail other z w ws.1 wq.1 first.1 in
    let same : s ∷ ss ≡ q ∷ qs = let e = first.0 in let f = later.0 in cc in
    (same, later.1)
