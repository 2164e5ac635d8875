-- What a simple command of required positional words does with words that begin with no hyphen.
use Rattle.std.proofs.Common.{◌≡◌, ℕ, ◌+◌, ◌==◌, ◌&&◌, ◌||◌, false, true, Bool, not, List, []}
use Rattle.std.proofs.Common.{◌∷◌, ◌++◌, map, Bor, Option, None, refl, ap, ◌∙◌}
use Rattle.std.specs.List.{fold, list_all}
use Rattle.std.specs.Option.{option_map_or}
use Rattle.std.specs.Prelude.{⊤, if◌then◌else◌}
use Rattle.std.specs.Str.{bytes_eq}
use Rattle.clap.specs.Lexer.{long_of, short_of}
use Rattle.clap.specs.Simple.{App, Shape, argument_words, built, is_simple}
use Rattle.clap.specs.Takes.{bundle_passes, built_takes, default_passes, flag_word_passes, is_valid}
use Rattle.clap.specs.Takes.{level_passes, settle_passes, step_passes, turn_passes, walk_passes}
use Rattle.clap.specs.Takes.{takes, word_passes}
use Rattle.clap.specs.Walk.{Held, Rule, Step, Text, Walk, after_step, arg_by_index, finished, idle}
use Rattle.clap.specs.Walk.{long_or_other, nothing_held, short_or_plain, to_positional, trailing}
use Rattle.clap.specs.Walk.{value, walk, walked, word_met}
use Rattle.clap.specs.Words.{new_app, with_rule}
use Rattle.plum.specs.Job.{is_path}
use Rattle.plum.specs.Words.{app_with, required_word}
use Rattle.plum.proofs.Numbers.{two_true}

no_hyphen : (a : ℕ) (front : List ℕ) → is_path (a ∷ front) ≡ true → (a == 45) ≡ false
no_hyphen a front plain = go (a == 45) plain
  where
    go : (t : Bool) → not t ≡ true → t ≡ false
    go true h = cc
    go false h = refl

module _ (a : ℕ) (front : List ℕ) (e : (a == 45) ≡ false) where
  no_dashes : bytes_eq (a ∷ front) (45 ∷ 45 ∷ []) ≡ false
  no_dashes = rw e refl

  no_long : long_of (a ∷ front) ≡ None
  no_long = rw e refl

  no_short : short_of (a ∷ front) ≡ None
  no_short = rw e refl

  -- a word that begins with no hyphen goes to a positional
  met : (c : List Rule) (p : ℕ) (h : Held)
      → word_met c [] false idle p (a ∷ front) h ≡ (h, value)
  met c p h =
      let none : Held × Step = (h, trailing p) in
      ap (λ (t : Bool). if t then none
      else long_or_other c idle (a ∷ front) (long_of (a ∷ front)) h) no_dashes
      ∙ ap (λ (o : Option (Text × Option Text)). long_or_other c idle (a ∷ front) o h) no_long
      ∙ ap (λ (o : Option Text). short_or_plain c idle (a ∷ front) o h) no_short

  passes : (s : Shape) (h : Held) → word_passes s [] false idle (a ∷ front) h ≡ true
  passes s h =
      ap (λ (t : Bool). t || flag_word_passes s.rules s.args_override_self
      (long_of (a ∷ front)) (a ∷ front) h) no_dashes
      ∙ ap (λ (o : Option (Text × Option Text)).
      flag_word_passes s.rules s.args_override_self o (a ∷ front) h) no_long
      ∙ ap (λ (o : Option Text). option_map_or (λ flags.
      bundle_passes s.rules s.args_override_self flags h) o true) no_short

-- between two words, nothing waits
abbrev pub standing : ℕ → Held → Walk
standing p h = record {
  held = h;
  waiting = idle;
  position = p;
  is_trailing = false;
  stopped = None;
}

-- after a word for the positional at p
abbrev pub after_word : Shape → ℕ → Held → Text → Walk
after_word s p h word =
    to_positional s.rules (arg_by_index s.rules p) word (standing p h) h

-- what is held after words for the positionals from p on
abbrev pub after_words : Shape → ℕ → Held → List Text → Held
after_words s p h [] = h
after_words s p h (word ∷ words) = after_words s (p + 1) (after_word s p h word).held words

-- Each of these words finds its positional, from the one at p on.
abbrev pub Fit : Shape → ℕ → Held → List Text → Type 0
Fit s p h [] = ⊤
Fit s p h (word ∷ words) = (step_passes s p h value ≡ true)
    × (after_word s p h word ≡ standing (p + 1) (after_word s p h word).held)
    × Fit s (p + 1) (after_word s p h word).held words

-- Each begins with no hyphen.
abbrev pub ArePlain : List Text → Type 0
ArePlain [] = ⊤
ArePlain (word ∷ words) = (is_path word ≡ true) × ArePlain words

step : (s : Shape) (p : ℕ) (h : Held) (word : Text) → is_path word ≡ true
    → walked s.rules [] (standing p h) word ≡ after_word s p h word
unfolding walked
step s p h [] plain = cc
step s p h (a ∷ front) plain =
    let e : (a == 45) ≡ false = no_hyphen a front plain in
    ap (λ (m : Held × Step). after_step s.rules (a ∷ front) (standing p h) m.0 m.1)
    (met a front e s.rules p h)

turn : (s : Shape) (p : ℕ) (h : Held) (word : Text) → is_path word ≡ true
    → step_passes s p h value ≡ true → turn_passes s [] (standing p h) word ≡ true
turn s p h [] plain asks = cc
turn s p h (a ∷ front) plain asks =
    let e : (a == 45) ≡ false = no_hyphen a front plain in
    ap (λ (m : Held × Step). word_passes s [] false idle (a ∷ front) h
    && step_passes s p m.0 m.1) (met a front e s.rules p h)
    ∙ ap (λ (t : Bool). t && step_passes s p h value) (passes a front e s h) ∙ asks

pub walk_ends : (s : Shape) (p : ℕ) (h : Held) (words : List Text) → ArePlain words
    → Fit s p h words
    → (fold (walked s.rules []) (standing p h) words).held ≡ after_words s p h words
walk_ends s p h [] plain fit = refl
walk_ends s p h (word ∷ words) plain fit =
    ap (λ (w : Walk). (fold (walked s.rules []) w words).held)
    (step s p h word plain.0 ∙ fit.1)
    ∙ walk_ends s (p + 1) (after_word s p h word).held words plain.1 fit.2

pub all_turns : (s : Shape) (p : ℕ) (h : Held) (words : List Text) → ArePlain words
    → Fit s p h words → walk_passes s [] (standing p h) words ≡ true
unfolding walk_passes
all_turns s p h [] plain fit = refl
all_turns s p h (word ∷ words) plain fit =
    ap (λ (t : Bool). t && walk_passes s [] (walked s.rules [] (standing p h) word) words)
    (turn s p h word plain.0 fit.0)
    ∙ ap (λ (w : Walk). walk_passes s [] w words) (step s p h word plain.0 ∙ fit.1)
    ∙ all_turns s (p + 1) (after_word s p h word).held words plain.1 fit.2

-- what is asked of what is held behind the last word
abbrev pub settles : Shape → Held → Bool
settles s h = settle_passes s.rules s.args_override_self h
    && (list_all default_passes s.rules && is_valid s (finished s.rules h) false)

pub level : (s : Shape) (words : List Text) → ArePlain words → Fit s 1 nothing_held words
    → settles s (after_words s 1 nothing_held words) ≡ true
    → level_passes s [] nothing_held words false ≡ true
level s words plain fit ends =
    ap (λ (t : Bool). t && settles s (walk s.rules [] nothing_held words).held)
    (all_turns s 1 nothing_held words plain fit)
    ∙ ap (λ (h : Held). settles s h) (walk_ends s 1 nothing_held words plain fit) ∙ ends

-- what a command takes, it takes as a simple one
pub taken_is_simple : (a : App) (words : List Text) → takes a words ≡ true → is_simple a ≡ true
taken_is_simple a words h =
    (two_true (is_simple a) (built_takes (built a) nothing_held (argument_words a words)) h).0

-- one required word more
pub one_word_more : (name : Text) (ids : List (Bor Text)) (id : Bor Text)
    → app_with name (map (λ i. i.now) (ids ++ id ∷ []))
    ≡ with_rule (app_with name (map (λ i. i.now) ids)) (required_word id.now)
one_word_more name ids id = go (new_app name) ids
  where
    go : (a : App) (ids : List (Bor Text))
        → fold (λ app i. with_rule app (required_word i)) a (map (λ i. i.now) (ids ++ id ∷ []))
        ≡ with_rule (fold (λ app i. with_rule app (required_word i)) a (map (λ i. i.now) ids))
        (required_word id.now)
    go a [] = refl
    go a (first ∷ more) = go (with_rule a (required_word first.now)) more
