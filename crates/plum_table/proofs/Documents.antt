-- What bytes state that are a document, and that are none.
use Rattle.std.proofs.Common.{◌≡◌, ℕ, List, Some, None, Err, inl, inr}
use Rattle.std.proofs.lemmas.Bool.{cases_Bool}
use Rattle.std.proofs.str.Lossy.{IsUtf8-from_is_utf8, is_utf8-from_IsUtf8}
use Rattle.std.specs.Str.{IsUtf8, is_utf8}
use Rattle.toml.specs.Data.{Members}
use Rattle.toml.specs.Parse.{parse_document}
use Rattle.plum_table.specs.declared.fault.SetupFault.TheVariants.{NotToml}
use Rattle.plum_table.specs.Setup.{setup_in, setup_of}

pub of_document : (bytes : List ℕ) (file : Members) → IsUtf8 bytes
    → parse_document bytes ≡ Some file → setup_of bytes ≡ setup_in file
of_document bytes file text is = rw (is_utf8-from_IsUtf8 bytes text, is)

pub of_others : (bytes : List ℕ) → (IsUtf8 bytes → parse_document bytes ≡ None)
    → setup_of bytes ≡ Err NotToml
of_others bytes none =
    elim (cases_Bool (is_utf8 bytes)) [
      | inl text ↦ rw (text, none (IsUtf8-from_is_utf8 bytes text))
      | inr other ↦ rw other
    ]
