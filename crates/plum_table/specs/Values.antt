-- The items of an array that are all of a kind.
use Rattle.std.specs.Prelude.{List, Option, IsSome, All}
use Rattle.std.specs.List.{filter_map}
use Rattle.toml.specs.Data.{Data}
use Rattle.toml.specs.View.{view}
use Rattle.toml.specs.declared.value.Value.{Value}

-- each item is of the kind
abbrev pub AreAll : {A : Type 0} → (Data → Option A) → List Value → Type 0
AreAll kind values = All (λ v. IsSome (kind (view v))) values

-- what they say
abbrev pub values_as : {A : Type 0} → (Data → Option A) → List Value → List A
values_as kind values = filter_map (λ v. kind (view v)) values
