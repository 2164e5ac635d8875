-- The walk through a document never says that there is none.
use Rattle.std.proofs.Common.{◌↔◌, ◌≡◌, ℕ, ◌+◌, ℤ, pos, Bool}
use Rattle.std.proofs.Common.{true, false, List, [], ◌∷◌, Option, Some}
use Rattle.std.proofs.Common.{None, Result, Ok, Err, refl, ap}
use Rattle.std.specs.Prelude.{if◌then◌else◌, ok_or, nat_abs, neg_ℤ, codes}
use Rattle.std.specs.Str.{bytes_eq}
use Rattle.plum_base.specs.declared.bounds.Bounds.{Bounds}
use Rattle.plum_base.specs.declared.cascade.Rounding.TheVariants.{Floor, Nearest}
use Rattle.toml.specs.Data.{Data, Members, get_member, as_integer, as_str, as_table}
use Rattle.plum_base.specs.declared.rules.Class.{Class}
use Rattle.plum_base.specs.Cascade.{GREATEST_COEFFICIENT, STAGE_Q, MOST_STAGES}
use Rattle.plum_base.specs.Levels.{MOST_LEVELS, GREATEST_FACTOR, first_not_rising}
use Rattle.plum_base.specs.Setup.{CALM, GAIN_G, GAIN_H, LANES, QUEUE}
use Rattle.plum_scale.specs.Classes.{class_named}
use Rattle.plum_table.specs.declared.fault.Field.TheVariants as field
use Rattle.plum_table.specs.declared.fault.SetupKey.{SetupKey}
use Rattle.plum_table.specs.declared.fault.SetupFault.{SetupFault}
use Rattle.plum_table.specs.declared.fault.SetupFault.TheVariants.{NotToml, Kind, Range}
use Rattle.plum_table.specs.Keys.{name_of, setup_key, stage_key}
use Rattle.plum_table.specs.Kinds.{◌>>=◌, of_kind, value_at}
use Rattle.plum_table.specs.Kinds.{integer_at, integer_up_to, natural_at, array_at, walk_from}
use Rattle.plum_table.specs.Stages.{coefficient_at, rounding_of, stage_of, stages_of}
use Rattle.plum_table.specs.Levels.{threshold_of, from_zero, levels_of, unless_at}
use Rattle.plum_table.specs.Rules.{class_at, cancel_at, rules_of}
use Rattle.plum_table.specs.Setup.{gain_of, setup_in, document_of, setup_of}

-- a value, or another fault
pub record IsWalked {A : Type 0} (r : Result A SetupFault) : Type 0 where
  pub other : r ≡ Err NotToml → ⊥

value : {A : Type 0} (x : A) → IsWalked (Ok x)
value x = record { other = λ is. cc }

out : {A : Type 0} (key : SetupKey) → IsWalked {A = A} (Err (Range key))
out key = record { other = λ is. cc }

after : {A B : Type 0} (r : Result A SetupFault) (f : A → Result B SetupFault) → IsWalked r
    → ((x : A) → IsWalked (f x)) → IsWalked (r >>= f)
after (Ok x) f first next = next x
after (Err fault) f first next = record {
  other = λ is. let same : fault ≡ NotToml = cc in first.other (ap Err same);
}

choice : {A : Type 0} (b : Bool) (r s : Result A SetupFault) → IsWalked r → IsWalked s
    → IsWalked (if b then r else s)
choice true r s first second = first
choice false r s first second = second

kind_or : {A : Type 0} (o : Option A) (key : SetupKey) → IsWalked (ok_or o (Kind key))
kind_or None key = record { other = λ is. cc }
kind_or (Some x) key = value x

range_or : {A : Type 0} (o : Option A) (key : SetupKey) → IsWalked (ok_or o (Range key))
range_or None key = out key
range_or (Some x) key = value x

found : {A : Type 0} (kind : Data → Option A) (key : SetupKey) (o : Option Data)
    → IsWalked (of_kind kind key o)
found kind key None = record { other = λ is. cc }
found kind key (Some d) = kind_or (kind d) key

at_key : {A : Type 0} (kind : Data → Option A) (table : Members) (key : SetupKey)
    → IsWalked (value_at kind table key)
at_key kind table key = found kind key (get_member (name_of key.field) table)

integer : (table : Members) (key : SetupKey) (low high : ℤ)
    → IsWalked (integer_at table key low high)
integer table key low high =
    after _ _ (at_key as_integer table key) (λ z. choice _ _ _ (value z) (out key))

up_to : (table : Members) (key : SetupKey) (end : ℕ) → IsWalked (integer_up_to table key end)
up_to table key end = integer table key (neg_ℤ (pos end)) (pos end)

natural : (table : Members) (key : SetupKey) (bounds : Bounds)
    → IsWalked (natural_at table key bounds)
natural table key bounds =
    after _ _ (integer table key (pos bounds.low) (pos bounds.high)) (λ z. value (nat_abs z))

array : {A : Type 0} (kind : Data → Option A) (table : Members) (key : SetupKey) (most : ℕ)
    → IsWalked (array_at kind table key most)
array kind table key most =
    after _ _ (at_key _ table key) (λ xs. choice _ _ _ (value xs) (out key))

walked : {A B : Type 0} (read : ℕ → A → Result B SetupFault)
    → ((n : ℕ) (x : A) → IsWalked (read n x)) → (n : ℕ) (xs : List A)
    → IsWalked (walk_from read n xs)
walked read each n [] = value []
walked read each n (x ∷ xs) =
    after _ _ (each n x) (λ y. after _ _ (walked read each (n + 1) xs) (λ ys. value (y ∷ ys)))

unless : {A : Type 0} (o : Option ℕ) (x : A) → IsWalked (unless_at o x)
unless None x = value x
unless (Some n) x = record { other = λ is. cc }

class : (rules : Members) (key : SetupKey) → IsWalked (class_at rules key)
class rules key =
    after _ _ (at_key as_str rules key) (λ text. range_or (class_named text) key)

coefficient : (table : Members) (key : SetupKey) → IsWalked (coefficient_at table key)
coefficient table key = up_to table key GREATEST_COEFFICIENT

rounding : (key : SetupKey) (name : List ℕ) → IsWalked (rounding_of key name)
rounding key name =
    choice (bytes_eq name (codes "floor")) (Ok Floor) _ (value Floor)
    (choice (bytes_eq name (codes "nearest")) (Ok Nearest) (Err (Range key)) (value Nearest)
    (out key))

threshold : (z : ℤ) → IsWalked (threshold_of z)
threshold z =
    after _ _ (choice _ _ _ (value z) (out (setup_key field.Thresholds)))
    (λ t. value (nat_abs t))

first_zero : (ts : List ℕ) → IsWalked (from_zero ts)
first_zero ts = choice _ _ _ (value ts) (out (setup_key field.Thresholds))

cancel : (table : Members) (raise : Class) → IsWalked (cancel_at table raise)
cancel table raise =
    after _ _ (class table (setup_key field.Cancel))
    (λ c. choice _ _ _ (value c) (out (setup_key field.Cancel)))

stage : (n : ℕ) (table : Members) → IsWalked (stage_of n table)
stage n table =
    after _ _ (coefficient table (stage_key field.B0 n)) (λ b0.
    after _ _ (coefficient table (stage_key field.B1 n)) (λ b1.
    after _ _ (coefficient table (stage_key field.B2 n)) (λ b2.
    after _ _ (coefficient table (stage_key field.A1 n)) (λ a1.
    after _ _ (coefficient table (stage_key field.A2 n)) (λ a2.
    after _ _ (natural table (stage_key field.Q n) STAGE_Q) (λ q.
    after _ _ (after _ _ (at_key as_str table (stage_key field.Round n))
    (rounding (stage_key field.Round n))) (λ round.
    value (record { b0 = b0; b1 = b1; b2 = b2; a1 = a1; a2 = a2; q = q; round = round }))))))))

gain : (table : Members) → IsWalked (gain_of table)
gain table =
    after _ _ (natural table (setup_key field.GainG) GAIN_G) (λ g.
    after _ _ (natural table (setup_key field.GainH) GAIN_H) (λ h. value (record { g = g; h = h })))

stages : (file : Members) → IsWalked (stages_of file)
stages file =
    after _ _ (array as_table file (setup_key field.Stages) MOST_STAGES) (walked stage_of stage 0)

levels : (table : Members) → IsWalked (levels_of table)
levels table =
    after _ _ (up_to table (setup_key field.Base) GREATEST_FACTOR) (λ base.
    after _ _
    (after _ _
    (after _ _ (array as_integer table (setup_key field.Thresholds) MOST_LEVELS)
    (walked (λ _ z. threshold_of z) (λ _ z. threshold z) 0))
    first_zero)
    (λ ts. unless (first_not_rising ts) (record { thresholds = ts; base = record { 0 = base } })))

rules : (table : Members) → IsWalked (rules_of table)
rules table =
    after _ _ (class table (setup_key field.Raise)) (λ raise.
    after _ _ (cancel table raise) (λ cancel.
    after _ _ (natural table (setup_key field.Calm) CALM) (λ calm.
    value (record { raise = raise; cancel = cancel; calm = calm }))))

setup_in-walked : (file : Members) → IsWalked (setup_in file)
setup_in-walked file =
    after _ _ (natural file (setup_key field.Lanes) LANES) (λ lanes.
    after _ _ (natural file (setup_key field.Queue) QUEUE) (λ queue.
    after _ _ (after _ _ (at_key as_table file (setup_key field.Gain)) gain) (λ gain.
    after _ _ (stages file) (λ stages.
    after _ _ (after _ _ (at_key as_table file (setup_key field.Levels)) levels) (λ levels.
    after _ _ (after _ _ (at_key as_table file (setup_key field.Rules)) rules) (λ rules.
    value (record {
      lanes = lanes;
      queue = queue;
      gain = gain;
      stages = stages;
      levels = levels;
      rules = rules;
    })))))))

no_document : (o : Option Members) → (ok_or o NotToml >>= setup_in) ≡ Err NotToml → o ≡ None
no_document None is = refl
no_document (Some file) is = absurd ((setup_in-walked file).other is)

without_document : (o : Option Members) → o ≡ None → (ok_or o NotToml >>= setup_in) ≡ Err NotToml
without_document o none = rw none

-- `NotToml` is stated exactly where there is no document.
pub not_toml : (bytes : List ℕ) → (setup_of bytes ≡ Err NotToml) ↔ (document_of bytes ≡ None)
not_toml bytes = (no_document (document_of bytes), without_document (document_of bytes))
