-- The setup of a drill, and a setup as the text of its file (the project's own). The stages are no
-- filter of any standard.
use Rattle.std.specs.Prelude.{ℕ, ◌+◌, ◌^◌, ℤ, pos, neg_ℤ, List, [], ◌∷◌, ◌++◌, map, codes, decimal}
use Rattle.std.specs.Fmt.{signed_decimal}
use Rattle.std.specs.List.{flat_map, range_with_len}
use Rattle.plum_base.specs.declared.cascade.Rounding.{Rounding}
use Rattle.plum_base.specs.declared.cascade.Rounding.TheVariants.{Floor, Nearest}
use Rattle.plum_base.specs.declared.cascade.Stage.{Stage}
use Rattle.plum_base.specs.declared.rules.Class.TheVariants.{C3, C4}
use Rattle.plum_base.specs.declared.rules.Rules.{Rules}
use Rattle.plum_base.specs.Levels.{LevelsView}
use Rattle.plum_scale.specs.Classes.{class_text}
use Rattle.plum_table.specs.Setup.{SetupFields}

-- a stage without b2 and a2, of 20 bits behind the point
abbrev pub stage : ℤ → ℤ → ℤ → Rounding → Stage
stage b0 b1 a1 round = record {
  b0 = b0;
  b1 = b1;
  b2 = pos 0;
  a1 = a1;
  a2 = pos 0;
  q = 20;
  round = round;
}

-- two high passes, three low passes, and one that passes all
abbrev pub drill_stages : List Stage
drill_stages = stage (pos 1048576) (neg_ℤ (pos 1048576)) (neg_ℤ (pos 1043333)) Nearest
    ∷ stage (pos 262144) (pos 0) (neg_ℤ (pos 786432)) Nearest
    ∷ stage (pos 524288) (pos 524288) (pos 0) Floor
    ∷ stage (pos 1048576) (neg_ℤ (pos 1048576)) (neg_ℤ (pos 1043333)) Nearest
    ∷ stage (pos 524288) (pos 0) (neg_ℤ (pos 524288)) Nearest
    ∷ stage (pos 1048576) (pos 0) (pos 0) Nearest
    ∷ []

-- 0, and fifty powers of two: entry i is 2^(i + 5)
abbrev pub drill_thresholds : List ℕ
drill_thresholds = 0 ∷ map (λ i. 2 ^ (i + 5)) (range_with_len 1 50)

-- the setup, with so many lanes
abbrev pub drill_setup : ℕ → SetupFields
drill_setup lanes = record {
  lanes = lanes;
  queue = 256;
  gain = record { g = 1; h = 0 };
  stages = drill_stages;
  levels = record { thresholds = drill_thresholds; base = record { 0 = pos 0 } };
  rules = record { raise = C4; cancel = C3; calm = 5 };
}

-- the name of a rounding
abbrev pub rounding_text : Rounding → List ℕ
rounding_text Floor = codes "floor"
rounding_text Nearest = codes "nearest"

-- a line of a table: `key = number`, or `key = "text"`
abbrev pub natural_line : List ℕ → ℕ → List ℕ
natural_line key n = key ++ codes " = " ++ decimal n ++ codes "\n"

abbrev pub integer_line : List ℕ → ℤ → List ℕ
integer_line key z = key ++ codes " = " ++ signed_decimal z ++ codes "\n"

abbrev pub text_line : List ℕ → List ℕ → List ℕ
text_line key text = key ++ codes " = \"" ++ text ++ codes "\"\n"

-- the lanes, the queue and the gain
abbrev pub head_text : SetupFields → List ℕ
head_text s = natural_line (codes "lanes") s.lanes
    ++ natural_line (codes "queue") s.queue
    ++ codes "\n[gain]\n"
    ++ natural_line (codes "g") s.gain.g
    ++ natural_line (codes "h") s.gain.h

-- a stage; a blank line stands before each table
abbrev pub stage_text : Stage → List ℕ
stage_text s = codes "\n[[stage]]\n"
    ++ integer_line (codes "b0") s.b0
    ++ integer_line (codes "b1") s.b1
    ++ integer_line (codes "b2") s.b2
    ++ integer_line (codes "a1") s.a1
    ++ integer_line (codes "a2") s.a2
    ++ natural_line (codes "q") s.q
    ++ text_line (codes "round") (rounding_text s.round)

-- numbers with a comma and a space between two
abbrev pub numbers_text : List ℕ → List ℕ
numbers_text [] = []
numbers_text (n ∷ more) = decimal n ++ flat_map (λ m. codes ", " ++ decimal m) more

-- the base and the thresholds
abbrev pub levels_text : LevelsView → List ℕ
levels_text levels = codes "\n[levels]\n"
    ++ integer_line (codes "base") levels.base.0
    ++ codes "thresholds = [" ++ numbers_text levels.thresholds ++ codes "]\n"

-- the rules of the alerts
abbrev pub rules_text : Rules → List ℕ
rules_text rules = codes "\n[rules]\n"
    ++ text_line (codes "raise") (class_text rules.raise)
    ++ text_line (codes "cancel") (class_text rules.cancel)
    ++ natural_line (codes "calm") rules.calm

-- a setup, as the text of its file
abbrev pub setup_text : SetupFields → List ℕ
setup_text s =
    head_text s ++ flat_map stage_text s.stages ++ levels_text s.levels ++ rules_text s.rules
