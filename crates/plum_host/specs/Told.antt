-- What a host tells. A host that does not tell a content claims nothing of it.
use Rattle.std.specs.Prelude.{◌≡◌, ℕ, ◌<◌, ◌≤◌, ⊤, List, ◌++◌, length, take, drop, Option, Some}
use Rattle.std.specs.Prelude.{None}
use Rattle.plum_host.specs.declared.host.In.{In}
use Rattle.plum_host.specs.declared.host.To.{To}

pub record HostView : Type 0 where
  -- what is left of each input, where the host tells it
  pub left : In → Option (List ℕ)
  -- what each output holds, where the host tells it
  pub held : To → Option (List ℕ)
  -- how often a read has failed; it never falls
  pub read_faults : ℕ
  -- how often a write has failed, or took nothing of a piece; it never falls
  pub write_faults : ℕ

-- a host that tells no content, and its counts alone
abbrev pub counts_alone : ℕ → ℕ → HostView
counts_alone read_faults write_faults = record {
  left = λ _. None;
  held = λ _. None;
  read_faults = read_faults;
  write_faults = write_faults;
}

-- Where the host tells what is left of this input, this holds of the bytes.
abbrev pub WhereTold : HostView → In → (List ℕ → Type 0) → Type 0
WhereTold host file P = (bytes : List ℕ) → host.left file ≡ Some bytes → P bytes

-- The first n bytes of the buffer are the next n of the input, and nothing else is taken.
abbrev pub Takes : Option (List ℕ) → Option (List ℕ) → ℕ → List ℕ → Type 0
Takes None after n buffer = ⊤
Takes (Some left) after n buffer =
    (n ≤ length left) × (take n buffer ≡ take n left) × (after ≡ Some (drop n left))

-- These bytes are appended.
abbrev pub Appends : Option (List ℕ) → Option (List ℕ) → List ℕ → Type 0
Appends None after bytes = ⊤
Appends (Some held) after bytes = after ≡ Some (held ++ bytes)

-- A front of the bytes is appended, and not all of them.
abbrev pub AppendsFront : Option (List ℕ) → Option (List ℕ) → List ℕ → Type 0
AppendsFront None after bytes = ⊤
AppendsFront (Some held) after bytes =
    (n : ℕ) × (n < length bytes) × (after ≡ Some (held ++ take n bytes))
