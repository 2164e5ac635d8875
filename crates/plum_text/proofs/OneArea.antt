-- What is told of areas tells their readings and their alerts.
use Rattle.std.proofs.Common.{◌≡◌, ℕ, List, [], ◌∷◌, ◌++◌, length, Option, Some, None}
use Rattle.std.proofs.Common.{refl, sym, ap, ◌∙◌, subst, arith, append_assoc}
use Rattle.std.specs.List.{AllZip}
use Rattle.plum_base.specs.declared.answers.Reading.{Reading}
use Rattle.plum_base.specs.declared.numbers.Tenths.{Tenths}
use Rattle.plum_base.specs.declared.rules.Alert.{Alert}
use Rattle.plum_base.specs.declared.sites.TargetSite.{TargetSite}
use Rattle.plum_base.specs.Sites.{targets_of}
use Rattle.plum_text.specs.declared.lines.OutLine.{OutLine}
use Rattle.plum_text.specs.declared.lines.OutLine.TheVariants.{Reading as ReadingLine}
use Rattle.plum_text.specs.declared.lines.OutLine.TheVariants.{Alert as AlertLine}
use Rattle.plum_text.specs.Texts.{answer_line, answer_lines, alert_lines, area_lines, areas_lines}

-- the first element and the others
pub cons_same : {X : Type 0} (x y : X) (xs ys : List X) → x ∷ xs ≡ y ∷ ys → (x ≡ y) × (xs ≡ ys)
cons_same x y xs ys e =
    let first : x ≡ y = cc in
    let others : xs ≡ ys = cc in
    (first, others)

-- answers for the same targets
same_answers : (m : ℕ) (ts : List TargetSite) (cs ds : List (Option Tenths)) (x y : List OutLine)
    → length cs ≡ length ts → length ds ≡ length ts
    → answer_lines m ts cs ++ x ≡ answer_lines m ts ds ++ y → (cs ≡ ds) × (x ≡ y)
same_answers m [] [] [] x y la lb e = (refl, e)
same_answers m (t ∷ ts) (c ∷ cs) (d ∷ ds) x y la lb e =
    let cut =
    cons_same (answer_line m t c) (answer_line m t d) (answer_lines m ts cs ++ x)
    (answer_lines m ts ds ++ y) e in
    let first : c ≡ d = let e = cut.0 in cc in
    let more = same_answers m ts cs ds x y (omega arith) (omega arith) cut.1 in
    let same : c ∷ cs ≡ d ∷ ds = let e = more.0 in cc in
    (same, more.1)
same_answers m ts cs ds x y la lb e = absurd (omega arith)

-- The first of these lines is no alert.
abbrev pub NoAlertFirst : List OutLine → Type 0
NoAlertFirst [] = Unit {0}
NoAlertFirst (AlertLine m area alert ∷ ls) = ⊥
NoAlertFirst (l ∷ ls) = Unit {0}

-- an alert or none
same_alerts : (m : ℕ) (area : List ℕ) (c d : Option Alert) (x y : List OutLine) → NoAlertFirst x
    → NoAlertFirst y → alert_lines m area c ++ x ≡ alert_lines m area d ++ y → (c ≡ d) × (x ≡ y)
same_alerts m area None None x y nx ny e = (refl, e)
same_alerts m area None (Some d) x y nx ny e = absurd (subst NoAlertFirst e nx)
same_alerts m area (Some c) None x y nx ny e = absurd (subst NoAlertFirst (sym e) ny)
same_alerts m area (Some c) (Some d) x y nx ny e =
    let cut = cons_same (AlertLine m area c) (AlertLine m area d) x y e in
    let first : c ≡ d = let e = cut.0 in cc in
    (ap Some first, cut.1)

-- areas begin with no alert
NoAlertFirst-areas : (targets : List TargetSite) (m : ℕ) (areas : List (List ℕ)) (rs : List Reading)
    (cs : List (Option Alert)) (x : List OutLine) → NoAlertFirst x
    → NoAlertFirst (areas_lines targets m areas rs cs ++ x)
NoAlertFirst-areas targets m [] rs cs x nx = nx
NoAlertFirst-areas targets m (area ∷ areas) [] cs x nx = nx
NoAlertFirst-areas targets m (area ∷ areas) (r ∷ rs) [] x nx = nx
NoAlertFirst-areas targets m (area ∷ areas) (r ∷ rs) (c ∷ cs) x nx = tt

-- three lists before a fourth
before : {X : Type 0} (a b c d : List X) → ((a ++ b) ++ c) ++ d ≡ a ++ (b ++ (c ++ d))
before a b c d = append_assoc (a ++ b) c d ∙ append_assoc a b (c ++ d)

-- a reading of this front and these answers
reading_of : ℕ → List (Option Tenths) → Reading
reading_of front answers = record { front = front; answers = answers }

-- the same reading, from the same parts
same_parts : (f g : ℕ) (cs ds : List (Option Tenths)) → f ≡ g → cs ≡ ds
    → reading_of f cs ≡ reading_of g ds
same_parts f g cs ds front answers = cc

same_reading : (r q : Reading) → r.front ≡ q.front → r.answers ≡ q.answers → r ≡ q
unfolding reading_of
same_reading r q front answers = same_parts r.front q.front r.answers q.answers front answers

-- what is told of one area, with an answer for each of its targets
same_area : (targets : List TargetSite) (m : ℕ) (area : List ℕ) (r q : Reading)
    (c d : Option Alert) (x y v w : List OutLine)
    → length r.answers ≡ length (targets_of area targets)
    → length q.answers ≡ length (targets_of area targets)
    → NoAlertFirst (x ++ v) → NoAlertFirst (y ++ w)
    → (area_lines targets m area r c ++ x) ++ v ≡ (area_lines targets m area q d ++ y) ++ w
    → (r ≡ q) × (c ≡ d) × (x ++ v ≡ y ++ w)
same_area targets m area r q c d x y v w lr lq nx ny e =
    let ts = targets_of area targets in
    let front_of : Reading → OutLine = λ r. ReadingLine m area r.front in
    let told = answer_lines m ts r.answers in
    let others = answer_lines m ts q.answers in
    let al = alert_lines m area c in
    let bl = alert_lines m area d in
    let cut =
    cons_same (front_of r) (front_of q) (((told ++ al) ++ x) ++ v) (((others ++ bl) ++ y) ++ w) e in
    let front : r.front ≡ q.front = let e = cut.0 in cc in
    let rest : told ++ (al ++ (x ++ v)) ≡ others ++ (bl ++ (y ++ w)) =
    sym (before told al x v) ∙ cut.1 ∙ before others bl y w in
    let answers =
    same_answers m ts r.answers q.answers (al ++ (x ++ v)) (bl ++ (y ++ w)) lr lq rest in
    let alerts = same_alerts m area c d (x ++ v) (y ++ w) nx ny answers.1 in
    (same_reading r q front answers.0, alerts.0, alerts.1)

-- These readings have an answer for each target of their areas.
abbrev pub AreAnswered : List TargetSite → List (List ℕ) → List Reading → Type 0
AreAnswered targets areas readings =
    AllZip (λ area reading. length reading.answers ≡ length (targets_of area targets)) areas
    readings

-- What is told of areas, each with a reading and an alert or none, up to a line that is no alert.
pub same_areas : (targets : List TargetSite) (m : ℕ) (areas : List (List ℕ)) (rs qs : List Reading)
    (cs ds : List (Option Alert)) (x y : List OutLine) → AreAnswered targets areas rs
    → AreAnswered targets areas qs → length cs ≡ length areas → length ds ≡ length areas
    → NoAlertFirst x → NoAlertFirst y
    → areas_lines targets m areas rs cs ++ x ≡ areas_lines targets m areas qs ds ++ y
    → (rs ≡ qs) × (cs ≡ ds) × (x ≡ y)
same_areas targets m [] [] [] [] [] x y ar aq la lb nx ny e = (refl, refl, e)
same_areas targets m (area ∷ areas) (r ∷ rs) (q ∷ qs) (c ∷ cs) (d ∷ ds) x y ar aq la lb nx ny e =
    let later = areas_lines targets m areas rs cs in
    let later_others = areas_lines targets m areas qs ds in
    let first =
    same_area targets m area r q c d later later_others x y ar.0 aq.0
    (NoAlertFirst-areas targets m areas rs cs x nx) (NoAlertFirst-areas targets m areas qs ds y ny)
    e in
    let more =
    same_areas targets m areas rs qs cs ds x y ar.1 aq.1 (omega arith) (omega arith) nx ny
    first.2 in
    let readings : r ∷ rs ≡ q ∷ qs = let e = first.0 in let f = more.0 in cc in
    let alerts : c ∷ cs ≡ d ∷ ds = let e = first.1 in let f = more.1 in cc in
    (readings, alerts, more.2)
same_areas targets m areas rs qs cs ds x y ar aq la lb nx ny e = grind arith
