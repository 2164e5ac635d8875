-- What stands at a key of the setup file: Missing, then Kind, then Range (the project's own rule).
use Rattle.std.specs.Prelude.{ℕ, ◌+◌, ℤ, pos, neg_ℤ, ◌&&◌, int_le, nat_le, nat_abs, List, [], ◌∷◌}
use Rattle.std.specs.Prelude.{length}
use Rattle.std.specs.Prelude.{Option, Some, None, if◌then◌else◌, ok_or, option_map, option_and_then}
use Rattle.std.specs.Prelude.{Result, Ok, Err}
use Rattle.toml.specs.Data.{Data, Items, no_items, item, Members, get_member}
use Rattle.toml.specs.Data.{as_integer, as_array}
use Rattle.plum_base.specs.declared.bounds.Bounds.{Bounds}
use Rattle.plum_table.specs.declared.fault.SetupKey.{SetupKey}
use Rattle.plum_table.specs.declared.fault.SetupFault.{SetupFault}
use Rattle.plum_table.specs.declared.fault.SetupFault.TheVariants.{Missing, Kind, Range}
use Rattle.plum_table.specs.Keys.{name_of}

-- goes on with the value, if there was no fault
infixl 10 ◌>>=◌
abbrev pub ◌>>=◌ : {A B : Type 0} → Result A SetupFault → (A → Result B SetupFault)
    → Result B SetupFault
Ok x >>= f = f x
Err fault >>= f = Err fault

-- what is there, read as its kind
abbrev pub of_kind : {A : Type 0} → (Data → Option A) → SetupKey → Option Data
    → Result A SetupFault
of_kind kind key None = Err (Missing key)
of_kind kind key (Some d) = ok_or (kind d) (Kind key)

-- the value at a key of a table, of this kind
abbrev pub value_at : {A : Type 0} → (Data → Option A) → Members → SetupKey → Result A SetupFault
value_at kind table key = of_kind kind key (get_member (name_of key.field) table)

-- the integer, if it lies from low to high, both included
abbrev pub in_range : SetupKey → ℤ → ℤ → ℤ → Result ℤ SetupFault
in_range key low high z = if int_le low z && int_le z high then Ok z else Err (Range key)

-- the integer at a key, from low to high, both included
abbrev pub integer_at : Members → SetupKey → ℤ → ℤ → Result ℤ SetupFault
integer_at table key low high = value_at as_integer table key >>= in_range key low high

-- the integer at a key, from the negative of a number to that number
abbrev pub integer_up_to : Members → SetupKey → ℕ → Result ℤ SetupFault
integer_up_to table key end = integer_at table key (neg_ℤ (pos end)) (pos end)

-- the natural number at a key, within bounds
abbrev pub natural_at : Members → SetupKey → Bounds → Result ℕ SetupFault
natural_at table key bounds =
    integer_at table key (pos bounds.low) (pos bounds.high) >>= (λ z. Ok (nat_abs z))

-- the items, if they are all of a kind
abbrev pub all_of : {A : Type 0} → (Data → Option A) → Items → Option (List A)
all_of kind no_items = Some []
all_of kind (item d ds) =
    option_and_then (λ x. option_map (λ xs. x ∷ xs) (all_of kind ds)) (kind d)

-- an array of a kind
abbrev pub as_array_of : {A : Type 0} → (Data → Option A) → Data → Option (List A)
as_array_of kind d = option_and_then (all_of kind) (as_array d)

-- the items, if there are one to so many
abbrev pub in_count : {A : Type 0} → SetupKey → ℕ → List A → Result (List A) SetupFault
in_count key most xs =
    if nat_le 1 (length xs) && nat_le (length xs) most then Ok xs else Err (Range key)

-- the array of a kind at a key, with one to so many items
abbrev pub array_at : {A : Type 0} → (Data → Option A) → Members → SetupKey → ℕ
    → Result (List A) SetupFault
array_at kind table key most = value_at (as_array_of kind) table key >>= in_count key most

-- Each member is read in turn, with its position.
abbrev pub walk_from : {A B : Type 0} → (ℕ → A → Result B SetupFault) → ℕ → List A
    → Result (List B) SetupFault
walk_from read n [] = Ok []
walk_from read n (x ∷ xs) =
    read n x >>= (λ y. walk_from read (n + 1) xs >>= (λ ys. Ok (y ∷ ys)))
