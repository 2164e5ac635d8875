-- A filter's numbers, one input more.
use Rattle.std.proofs.Common.{◌≡◌, ℕ, ◌<◌, ℤ, pos, List, [], ◌∷◌, ◌++◌, length, get_or}
use Rattle.std.proofs.Common.{◌+◌, ◌≤◌, set, take, drop, refl, sym, ◌∙◌, ap, subst, arith, map}
use Rattle.std.proofs.lemmas.List.{append-nil, append_assoc, drop-set-lt, drop_more, take_more_set}
use Rattle.std.proofs.lemmas.List.{drop_all, take_all, take_at, get_or_default, length-map}
use Rattle.std.proofs.lemmas.List.Edits.{map_over_more}
use Rattle.std.specs.List.{refill}
use Rattle.plum_base.specs.declared.cascade.Stage.{Stage}
use Rattle.plum_filter.specs.declared.biquad.Biquad.{Biquad}
use Rattle.plum_filter.specs.Stage.{term, delayed, stage_output, cascade_output}
use Rattle.plum_filter.specs.Filter.{answer_of, moved_on, biquad_after, new_biquad, biquads_after}
use Rattle.plum_filter.specs.Filter.{StandsFor, JoinsInput}
use Rattle.plum_filter.proofs.Biquads.{biquad_at-same, answer_of-at}
use Rattle.plum_filter.proofs.Outputs.{stage_output-push, stage_output-none}

-- the last of what the stages answer to x, each of which is given the answer of the one before
abbrev pub answer_through : List Biquad → ℤ → ℤ
answer_through [] x = x
answer_through (b ∷ bs) x = answer_through bs (answer_of b x)

-- what they hold after that
abbrev pub moved_through : List Biquad → ℤ → List Biquad
moved_through [] x = []
moved_through (b ∷ bs) x = moved_on b x ∷ moved_through bs (answer_of b x)

-- the last term of a sequence that has one more
last_pushed : (before : ℤ) (xs : List ℤ) (x : ℤ)
    → term (before ∷ (xs ++ x ∷ [])) (length (xs ++ x ∷ [])) ≡ x
last_pushed before [] x = refl
last_pushed before (z ∷ zs) x = last_pushed z zs x

-- the last but one
last_but_one_pushed : (second first : ℤ) (xs : List ℤ) (x : ℤ)
    → term (second ∷ first ∷ (xs ++ x ∷ [])) (length (xs ++ x ∷ [])) ≡ term (first ∷ xs) (length xs)
last_but_one_pushed second first [] x = refl
last_but_one_pushed second first (z ∷ zs) x = last_but_one_pushed first z zs x

-- A stage that moves on holds what its longer past adds.
biquad_after-push : (s : Stage) (xs ys : List ℤ) (x : ℤ)
    → let b = biquad_after s xs ys in
    moved_on b x ≡ biquad_after s (xs ++ x ∷ []) (ys ++ answer_of b x ∷ [])
biquad_after-push s xs ys x =
    let y = answer_of (biquad_after s xs ys) x in
    let x1 = sym (last_pushed (pos 0) xs x) in
    let x2 = sym (last_but_one_pushed (pos 0) (pos 0) xs x) in
    let y1 = sym (last_pushed (pos 0) ys y) in
    let y2 = sym (last_but_one_pushed (pos 0) (pos 0) ys y) in
    biquad_at-same s _ _ _ _ _ _ _ _ x1 x2 y1 y2

-- What it answers is the next term of its output.
output-push : (s : Stage) (xs : List ℤ) (x : ℤ)
    → let ys = stage_output s xs in
    stage_output s (xs ++ x ∷ []) ≡ ys ++ answer_of (biquad_after s xs ys) x ∷ []
output-push s xs x =
    let ys = stage_output s xs in
    stage_output-push s xs x
    ∙ ap (λ y. ys ++ y ∷ []) (sym (answer_of-at s x (term (delayed xs) (length xs))
    (term (delayed (delayed xs)) (length xs)) (term (delayed ys) (length ys))
    (term (delayed (delayed ys)) (length ys))))

-- What stands for the inputs, moved on, stands for one more.
biquads_after-push : (ss : List Stage) (xs : List ℤ) (x : ℤ)
    → moved_through (biquads_after ss xs) x ≡ biquads_after ss (xs ++ x ∷ [])
biquads_after-push [] xs x = refl
biquads_after-push (s ∷ ss) xs x =
    let ys = stage_output s xs in
    let b = biquad_after s xs ys in
    subst (λ zs. moved_on b x ∷ moved_through (biquads_after ss ys) (answer_of b x)
    ≡ biquad_after s (xs ++ x ∷ []) zs ∷ biquads_after ss zs) (sym (output-push s xs x))
    (ap (λ c. c ∷ moved_through (biquads_after ss ys) (answer_of b x)) (biquad_after-push s xs ys x)
    ∙ ap (λ bs. biquad_after s (xs ++ x ∷ []) (ys ++ answer_of b x ∷ []) ∷ bs)
    (biquads_after-push ss ys (answer_of b x)))

-- The cascade's output over one input more is the one before and the last answer.
cascade_output-push : (ss : List Stage) (xs : List ℤ) (x : ℤ)
    → cascade_output ss (xs ++ x ∷ [])
    ≡ cascade_output ss xs ++ answer_through (biquads_after ss xs) x ∷ []
cascade_output-push [] xs x = refl
cascade_output-push (s ∷ ss) xs x =
    let ys = stage_output s xs in
    ap (cascade_output ss) (output-push s xs x)
    ∙ cascade_output-push ss ys (answer_of (biquad_after s xs ys) x)

-- Passing a term through all stages joins it to the inputs.
JoinsInput-through : (before after : List Biquad) (x y : ℤ)
    → after ≡ moved_through before x → y ≡ answer_through before x
    → JoinsInput before after x y
JoinsInput-through before after x y moved answered = record {
  stands = λ ss xs stands.
      moved ∙ ap (λ bs. moved_through bs x) stands ∙ biquads_after-push ss xs x;
  output = λ ss xs stands.
      cascade_output-push ss xs x
      ∙ ap (λ z. cascade_output ss xs ++ z ∷ [])
      (sym (answered ∙ ap (λ bs. answer_through bs x) stands));
}

-- A cascade before its first input: each of its stages is new.
pub biquads_after-none : (ss : List Stage) → biquads_after ss [] ≡ map new_biquad ss
unfolding new_biquad
biquads_after-none [] = refl
biquads_after-none (s ∷ ss) =
    subst (λ ys. biquad_after s [] ys ∷ biquads_after ss ys ≡ new_biquad s ∷ map new_biquad ss)
    (sym (stage_output-none s)) (ap (λ bs. new_biquad s ∷ bs) (biquads_after-none ss))

-- A filter whose stages are new again stands for no input.
StandsFor-restarted : (filter : List Biquad) (ss : List Stage) (xs : List ℤ)
    → StandsFor filter ss xs → StandsFor (map (λ b. new_biquad b.stage) filter) ss []
StandsFor-restarted filter ss xs stands =
    ap (map (λ b. new_biquad b.stage)) stands ∙ restarted ss xs ∙ sym (biquads_after-none ss)
  where
    restarted : (ss : List Stage) (xs : List ℤ)
        → map (λ b. new_biquad b.stage) (biquads_after ss xs) ≡ map new_biquad ss
    restarted [] xs = refl
    restarted (s ∷ ss) xs = ap (λ bs. new_biquad s ∷ bs) (restarted ss (stage_output s xs))

module _ (bs : List Biquad) (i : ℕ) (d b : Biquad) (x y : ℤ) (within : i < length bs)
    (moved : b ≡ moved_on (get_or bs i d) x) (answered : y ≡ answer_of (get_or bs i d) x) where
  -- those behind the stage at i
  rest : List Biquad
  rest = drop (i + 1) bs

  -- They are not written to.
  kept : drop (i + 1) (set bs i b) ≡ rest
  unfolding rest
  kept = drop-set-lt (i + 1) bs i b (omega arith)

  -- What the stages from i on answer is what those behind it answer to its answer.
  pub answer_through-more : answer_through (drop (i + 1) (set bs i b)) y
      ≡ answer_through (drop i bs) x
  unfolding rest
  answer_through-more =
      ap (λ cs. answer_through cs y) kept
      ∙ ap (answer_through rest) answered
      ∙ sym (ap (λ cs. answer_through cs x) (drop_more bs i d within))

  -- So is what they then hold, behind those that have moved on.
  pub moved_through-more : take (i + 1) (set bs i b) ++ moved_through (drop (i + 1) (set bs i b)) y
      ≡ take i bs ++ moved_through (drop i bs) x
  unfolding rest
  moved_through-more =
      let behind = moved_through (drop (i + 1) (set bs i b)) y in
      ap (λ cs. cs ++ behind) (take_more_set bs i b within)
      ∙ append_assoc (take i bs) (b ∷ []) behind
      ∙ ap (λ c. take i bs ++ c ∷ behind) moved
      ∙ ap (λ cs. take i bs ++ moved_on (get_or bs i d) x ∷ cs)
      (ap (λ cs. moved_through cs y) kept ∙ ap (moved_through rest) answered)
      ∙ sym (ap (λ cs. take i bs ++ moved_through cs x) (drop_more bs i d within))

-- Where no stage is left all have moved on, and the last answer is that of all.
pub JoinsInput-done : (before after : List Biquad) (i : ℕ) (x y : ℤ) → length after ≤ i
    → answer_through (drop i after) y ≡ answer_through before x
    → take i after ++ moved_through (drop i after) y ≡ moved_through before x
    → JoinsInput before after x y
JoinsInput-done before after i x y done answered moved =
    let none : drop i after ≡ [] = drop_all i after done in
    let all : take i after ≡ after = take_all i after done in
    JoinsInput-through before after x y
    (sym (ap (λ cs. take i after ++ moved_through cs y) none ∙ append-nil (take i after) ∙ all)
    ∙ moved)
    (sym (ap (λ cs. answer_through cs y) none) ∙ answered)

-- A slice that was written back as a whole is what was written.
refill_whole : (xs ws : List Biquad) → length ws ≡ length xs
    → refill (length xs) xs ws ≡ ws
refill_whole xs ws same = take_at ws (drop (length ws) xs) (length xs) same

-- Where its stages were written back, and are new again, a filter stands for no input.
pub refill_restarted : (ss : List Stage) (inputs : List ℤ) (items result after : List Biquad)
    → after ≡ map (λ b. new_biquad b.stage) result → result ≡ items
    → StandsFor items ss inputs → StandsFor (refill (length items) items after) ss []
refill_restarted ss inputs items result after is same stands =
    let f = λ (b : Biquad). new_biquad b.stage in
    let mapped : after ≡ map f items = is ∙ ap (map f) same in
    let long : length after ≡ length items = ap length mapped ∙ length-map items f in
    refill_whole items after long ∙ mapped ∙ StandsFor-restarted items ss inputs stands

-- One more stage is new again.
pub restarted_more : (xs ys : List Biquad) (i : ℕ) (d b : Biquad)
    → length ys ≡ length xs → i < length xs
    → ys ≡ map (λ c. new_biquad c.stage) (take i xs) ++ drop i xs
    → b ≡ new_biquad (get_or ys i d).stage
    → set ys i b ≡ map (λ c. new_biquad c.stage) (take (i + 1) xs) ++ drop (i + 1) xs
restarted_more xs ys i d b long within so_far is =
    let below : i < length ys = omega arith in
    ap (set ys i) is
    ∙ map_over_more (λ c. new_biquad c.stage) xs ys i (get_or ys i d) within so_far
    (get_or_default ys i d (get_or ys i d) below)
