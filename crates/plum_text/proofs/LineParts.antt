-- The spaces of a line cut it into its kind and its fields.
use Rattle.std.proofs.Common.{◌≡◌, ◌≢◌, ◌∙◌, ℕ, ◌-◌, ◌<◌, List, [], ◌∷◌, ◌++◌, length, map, take}
use Rattle.std.proofs.Common.{get_or, All, Bor, nat_eq, false, refl, sym, ap, arith}
use Rattle.std.proofs.lemmas.Grind.{common_steps}
use Rattle.std.proofs.lemmas.List.{append-nil, get_or-map, length-map}
use Rattle.std.proofs.lemmas.List.Elements.{All-head, All-tail, All-weaker}
use Rattle.std.proofs.lemmas.List.Splits.{slice_split_none, slice_split_at}
use Rattle.std.specs.List.{slice_split}
use borrow.Author.Tests.{ne_eqb}
use Rattle.plum_text.specs.Fields.{line, fields, HasNoSpace}

-- the parts of a text
abbrev pub parts_of : List ℕ → List (List ℕ)
parts_of text = slice_split (λ b. nat_eq b 32) text

no_byte_is_one : (word : List ℕ) → HasNoSpace word → All (λ b. nat_eq b 32 ≡ false) word
no_byte_is_one word has =
    All-weaker (λ b. b ≢ 32) (λ b. nat_eq b 32 ≡ false) (λ b other. ne_eqb b 32 other) word has

-- A kind and fields that have no space are what the spaces between them cut.
parts_are : (kind : List ℕ) (more : List (List ℕ)) → HasNoSpace kind → All HasNoSpace more
    → parts_of (kind ++ fields more) ≡ kind ∷ more
parts_are kind [] has each =
    ap parts_of (append-nil kind)
    ∙ slice_split_none (λ b. nat_eq b 32) kind (no_byte_is_one kind has)
parts_are kind (field ∷ more) has each =
    let here = All-head HasNoSpace field more each in
    let later = All-tail HasNoSpace field more each in
    slice_split_at (λ b. nat_eq b 32) kind 32 (field ++ fields more) (no_byte_is_one kind has) refl
    ∙ ap (λ parts. kind ∷ parts) (parts_are field more here later)

-- a text without its last byte
front : (text : List ℕ) (last : ℕ)
    → take (length (text ++ last ∷ []) - 1) (text ++ last ∷ []) ≡ text
front text last = grind (arith, common_steps)

-- So a line without its line feed is cut into its words.
pub parts_of_line : (bytes kind : List ℕ) (more : List (List ℕ)) → HasNoSpace kind
    → All HasNoSpace more → bytes ≡ line kind more
    → parts_of (take (length bytes - 1) bytes) ≡ kind ∷ more
parts_of_line bytes kind more has each is =
    ap (λ bytes. parts_of (take (length bytes - 1) bytes)) is
    ∙ ap parts_of (front (kind ++ fields more) 10)
    ∙ parts_are kind more has each

-- the word at a place
pub word_at : (ws : List (Bor (List ℕ))) (words : List (List ℕ)) (k : ℕ) (d : Bor (List ℕ))
    → map (λ w. w.now) ws ≡ words → k < length words → (get_or ws k d).now ≡ get_or words k []
word_at ws words k d are inside =
    let count = length-map ws (λ (w : Bor (List ℕ)). w.now) in
    let same = ap length are in
    sym (get_or-map (λ (w : Bor (List ℕ)). w.now) ws k d [] (omega (arith, count, same)))
    ∙ ap (λ words. get_or words k []) are
