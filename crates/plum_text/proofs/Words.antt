-- Words: a line has one cut into them, and its kind and each of its fields is one.
use Rattle.std.proofs.Common.{◌≡◌, ◌≢◌, ℕ, suc, ◌<◌, ◌≤◌, ◌/◌, ◌%◌, ◌^◌, Bool, true, false, leb}
use Rattle.std.proofs.Common.{List, [], ◌∷◌, ◌++◌, Option, Some, None, All, codes, decimal, ℤ}
use Rattle.std.proofs.Common.{pos, negsuc, FitsSigned, w16, inl, inr, refl, arith, leb-true}
use Rattle.std.proofs.lemmas.Bool.{cases_Bool, false≢true}
use Rattle.std.proofs.lemmas.Fmt.{decimal_is_IsNumeral}
use Rattle.std.proofs.lemmas.List.{append_cancel_right}
use Rattle.std.proofs.lemmas.List.Elements.{All-from_recursion, recursion_from_All, All-weaker}
use Rattle.std.proofs.lemmas.Str.Parse.{digit_at}
use Rattle.std.specs.List.{AllByRecursion, list_all}
use Rattle.std.specs.Str.Parse.{AllDigits}
use Rattle.plum_base.specs.Name.{IsName, IsNameByte}
use Rattle.plum_base.specs.declared.numbers.Tenths.{Tenths}
use Rattle.plum_base.specs.declared.packet.PacketFault.{PacketFault}
use Rattle.plum_base.specs.declared.packet.PacketFault.TheVariants.{Short, Magic, Version, Flags}
use Rattle.plum_base.specs.declared.packet.PacketFault.TheVariants.{Station, Count, Length}
use Rattle.plum_base.specs.declared.rules.Alert.{Alert}
use Rattle.plum_base.specs.declared.rules.Alert.TheVariants.{Raise, Upgrade, Cancel}
use Rattle.plum_base.specs.declared.rules.Class.{Class}
use Rattle.plum_base.specs.declared.rules.Class.TheVariants.{C0}
use Rattle.plum_scale.specs.Classes.{class_text}
use Rattle.plum_scale.specs.Tenths.{magnitude_text, tenths_text}
use Rattle.plum_text.specs.declared.lines.JournalLine.{JournalLine}
use Rattle.plum_text.specs.declared.lines.OutLine.{OutLine}
use Rattle.plum_text.specs.declared.lines.OutLine.TheVariants.{Mark, Refused, Reading, Answer}
use Rattle.plum_text.specs.declared.lines.OutLine.TheVariants.{Alert as AlertLine, Tail, Totals}
use Rattle.plum_text.specs.Fields.{line, fields, HasNoSpace, FitsValue, FitsFault}
use Rattle.plum_text.specs.Fields.{value_text, class_or_none_text, run_text, fault_fields}
use Rattle.plum_text.specs.Fields.{alert_fields}
use Rattle.plum_text.specs.Lines.{journal_fields, FitsJournal, kind_of, out_fields, FitsOut}
use Rattle.plum_text.proofs.Cuts.{same_up_to, fields_begin, one_cut, lacks_each}

-- No line feed stands in the field, so that its line ends where the next begins.
abbrev pub HasNoLineFeed : List ℕ → Type 0
HasNoLineFeed field = All (λ b. b ≢ 10) field

-- A line has one cut into words.
pub one_line : (kind other : List ℕ) (more others : List (List ℕ)) → HasNoSpace kind
    → HasNoSpace other → All HasNoSpace more → All HasNoSpace others
    → line kind more ≡ line other others → (kind ≡ other) × (more ≡ others)
one_line kind other more others hk ho hm hos e =
    let cut = append_cancel_right (kind ++ fields more) (other ++ fields others) (10 ∷ []) e in
    let first =
    same_up_to 32 kind other (fields more) (fields others)
    (recursion_from_All (λ b. b ≢ 32) kind hk)
    (recursion_from_All (λ b. b ≢ 32) other ho) (fields_begin more) (fields_begin others) cut in
    (first.0, one_cut more others (lacks_each 32 more hm) (lacks_each 32 others hos) first.1)

-- Each byte of a word is above those of a space and of a line feed.
abbrev pub IsWord : List ℕ → Type 0
IsWord word = AllByRecursion (λ b. 33 ≤ b) word

-- two words after one another are one
IsWord-append : (a b : List ℕ) → IsWord a → IsWord b → IsWord (a ++ b)
IsWord-append [] b wa wb = wb
IsWord-append (c ∷ a) b wa wb = (wa.0, IsWord-append a b wa.1 wb)

-- a text that a test finds to be one
tested : (word : List ℕ) → list_all (λ b. leb 33 b) word ≡ true → IsWord word
tested [] is = tt
tested (c ∷ word) is = elim (cases_Bool (leb 33 c)) [
  | inl high ↦ (leb-true 33 c high, tested word (rw high at is))
  | inr low ↦ absurd (false≢true (rw low at is))
]

-- digits are one
digits : (ds : List ℕ) → AllDigits 10 ds → IsWord ds
digits [] are = tt
digits (d ∷ ds) are =
    let first = digit_at (d ∷ ds) 0 are (omega arith) in
    (omega (arith, first.0), digits ds are.1)

-- a number is one
pub decimal_word : (n : ℕ) → n < 2 ^ 64 → IsWord (decimal n)
decimal_word n fits = digits (decimal n) (decimal_is_IsNumeral n fits).0.1

-- a name is one
name_byte : (b : ℕ) → IsNameByte b → 33 ≤ b
name_byte b is = grind arith

pub name_word : (name : List ℕ) → IsName name → IsWord name
name_word name is =
    recursion_from_All (λ b. 33 ≤ b) name
    (All-weaker IsNameByte (λ b. 33 ≤ b) name_byte name is.each)

-- an intensity is one
magnitude_word : (n : ℕ) → n ≤ 2 ^ 15 → IsWord (magnitude_text n)
magnitude_word n fits =
    IsWord-append (decimal (n / 10)) (46 ∷ decimal (n % 10)) (decimal_word (n / 10) (omega arith))
    (omega arith, decimal_word (n % 10) (omega arith))

pub tenths_word : (t : ℤ) → FitsSigned w16 t → IsWord (tenths_text t)
tenths_word (pos n) fits = magnitude_word n (omega (arith, fits.sfits))
tenths_word (negsuc n) fits = (omega arith, magnitude_word (suc n) (omega (arith, fits.sfits)))

pub value_word : (value : Option Tenths) → FitsValue value → IsWord (value_text value)
value_word None fits = tested (codes "-") refl
value_word (Some t) fits = tenths_word t.0 fits

-- a class is one
class_word : (class : Class) → IsWord (class_text class)
class_word C0 = tested (class_text C0) refl
class_word class = tested (class_text class) refl

pub class_or_none_word : (class : Option Class) → IsWord (class_or_none_text class)
class_or_none_word None = tested (codes "-") refl
class_or_none_word (Some class) = class_word class

-- a run letter is one
run_word : (fresh : Bool) → IsWord (run_text fresh)
run_word true = tested (codes "F") refl
run_word false = tested (codes "C") refl

-- each field of a fault is one
fault_word : (fault : PacketFault) → FitsFault fault → AllByRecursion IsWord (fault_fields fault)
fault_word Short fits = (tested (codes "P1") refl, tt)
fault_word Magic fits = (tested (codes "P2") refl, tt)
fault_word (Version v) fits = (tested (codes "P3") refl, (decimal_word v (omega arith), tt))
fault_word (Flags f) fits = (tested (codes "P4") refl, (decimal_word f (omega arith), tt))
fault_word (Station code) fits = (tested (codes "P5") refl, (decimal_word code (omega arith), tt))
fault_word (Count n) fits = (tested (codes "P6") refl, (decimal_word n (omega arith), tt))
fault_word (Length expected found) fits = (
  tested (codes "P7") refl,
  (
    decimal_word expected (omega (arith, fits.0)),
    (decimal_word found (omega (arith, fits.1)), tt),
  ),
)

-- each field of an alert is one
alert_word : (alert : Alert) → AllByRecursion IsWord (alert_fields alert)
alert_word (Raise class) = (tested (codes "raise") refl, (class_word class, tt))
alert_word (Upgrade class) = (tested (codes "upgrade") refl, (class_word class, tt))
alert_word Cancel = (tested (codes "cancel") refl, tt)

-- each field of a journal line is a word
journal_word : (l : JournalLine) → FitsJournal l → AllByRecursion IsWord (journal_fields l)
journal_word l fits = (
  decimal_word l.n (omega (arith, fits.n)),
  (
    decimal_word l.segment (omega (arith, fits.segment)),
    (
      decimal_word l.station (omega (arith, fits.station)),
      (
        decimal_word l.key.boot (omega (arith, fits.key.0)),
        (
          decimal_word l.key.number (omega (arith, fits.key.1)),
          (run_word l.fresh, (value_word l.value fits.value, tt)),
        ),
      ),
    ),
  ),
)

-- each field of an output line is one
out_word : (l : OutLine) → FitsOut l → AllByRecursion IsWord (out_fields l)
out_word (Mark m bodies kept repeats refused) fits = (
  decimal_word m (omega (arith, fits.0)),
  (
    decimal_word bodies (omega (arith, fits.1)),
    (
      decimal_word kept (omega (arith, fits.2)),
      (
        decimal_word repeats (omega (arith, fits.3)),
        (decimal_word refused (omega (arith, fits.4)), tt),
      ),
    ),
  ),
)
out_word (Refused number fault) fits =
    (decimal_word number (omega (arith, fits.0)), fault_word fault fits.1)
out_word (Reading m area front) fits = (
  decimal_word m (omega (arith, fits.0)),
  (name_word area fits.1, (decimal_word front (omega (arith, fits.2)), tt)),
)
out_word (Answer m target value class) fits = (
  decimal_word m (omega (arith, fits.0)),
  (name_word target fits.1, (value_word value fits.2, (class_or_none_word class, tt))),
)
out_word (AlertLine m area alert) fits =
    (decimal_word m (omega (arith, fits.0)), (name_word area fits.1, alert_word alert))
out_word (Tail bytes) fits = (decimal_word bytes (omega (arith, fits)), tt)
out_word (Totals segments bodies kept repeats refused) fits = (
  decimal_word segments (omega (arith, fits.0)),
  (
    decimal_word bodies (omega (arith, fits.1)),
    (
      decimal_word kept (omega (arith, fits.2)),
      (
        decimal_word repeats (omega (arith, fits.3)),
        (decimal_word refused (omega (arith, fits.4)), tt),
      ),
    ),
  ),
)

-- A kind is one.
kind_is_word : (l : OutLine) → IsWord (kind_of l)
kind_is_word (Mark m bodies kept repeats refused) = tested (codes "M") refl
kind_is_word l = tested (kind_of l) refl

-- A word has neither a space nor a line feed.
pub no_space : (word : List ℕ) → IsWord word → HasNoSpace word
no_space word is =
    All-weaker (λ b. 33 ≤ b) (λ b. b ≢ 32) (λ b high same. omega arith) word
    (All-from_recursion (λ b. 33 ≤ b) word is)

pub no_line_feed : (word : List ℕ) → IsWord word → HasNoLineFeed word
no_line_feed word is =
    All-weaker (λ b. 33 ≤ b) (λ b. b ≢ 10) (λ b high same. omega arith) word
    (All-from_recursion (λ b. 33 ≤ b) word is)

no_spaces : (words : List (List ℕ)) → AllByRecursion IsWord words → All HasNoSpace words
no_spaces words are =
    All-weaker IsWord HasNoSpace no_space words (All-from_recursion IsWord words are)

no_line_feeds : (words : List (List ℕ)) → AllByRecursion IsWord words → All HasNoLineFeed words
no_line_feeds words are =
    All-weaker IsWord HasNoLineFeed no_line_feed words (All-from_recursion IsWord words are)

-- So none has a line's kind or a field of it.
pub journal_kind : HasNoSpace (codes "E")
journal_kind = no_space (codes "E") (tested (codes "E") refl)

pub journal_kind_no_line_feed : HasNoLineFeed (codes "E")
journal_kind_no_line_feed = no_line_feed (codes "E") (tested (codes "E") refl)

pub journal_words : (l : JournalLine) → FitsJournal l → All HasNoSpace (journal_fields l)
journal_words l fits = no_spaces (journal_fields l) (journal_word l fits)

pub journal_no_line_feed : (l : JournalLine) → FitsJournal l
    → All HasNoLineFeed (journal_fields l)
journal_no_line_feed l fits = no_line_feeds (journal_fields l) (journal_word l fits)

pub out_kind : (l : OutLine) → HasNoSpace (kind_of l)
out_kind l = no_space (kind_of l) (kind_is_word l)

pub out_kind_no_line_feed : (l : OutLine) → HasNoLineFeed (kind_of l)
out_kind_no_line_feed l = no_line_feed (kind_of l) (kind_is_word l)

pub out_words : (l : OutLine) → FitsOut l → All HasNoSpace (out_fields l)
out_words l fits = no_spaces (out_fields l) (out_word l fits)

pub out_no_line_feed : (l : OutLine) → FitsOut l → All HasNoLineFeed (out_fields l)
out_no_line_feed l fits = no_line_feeds (out_fields l) (out_word l fits)
