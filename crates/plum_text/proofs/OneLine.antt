-- The bytes of a line are those of one line.
use Rattle.std.proofs.Common.{◌≡◌, ℕ, Bool, Option, decimal, arith}
use Rattle.std.proofs.Common.{ap, codes}
use Rattle.std.proofs.lemmas.Fmt.{decimal_injective}
use Rattle.plum_base.specs.declared.numbers.Tenths.{Tenths}
use Rattle.plum_scale.specs.Laws.{OneClass, OneIntensity}
use Rattle.plum_text.specs.declared.lines.JournalLine.{JournalLine}
use Rattle.plum_text.specs.declared.lines.OutLine.{OutLine}
use Rattle.plum_text.specs.declared.lines.OutLine.TheVariants.{Mark, Refused, Reading, Answer}
use Rattle.plum_text.specs.declared.lines.OutLine.TheVariants.{Alert, Tail, Totals}
use Rattle.plum_text.specs.Fields.{Fits, run_text, value_text, class_or_none_text, fault_fields}
use Rattle.plum_text.specs.Fields.{alert_fields}
use Rattle.plum_text.specs.Lines.{journal_fields, journal_line, FitsJournal}
use Rattle.plum_text.specs.Lines.{kind_of, out_fields, out_line, FitsOut}
use Rattle.plum_text.proofs.Words.{one_line, journal_kind, journal_words, out_kind, out_words}
use Rattle.plum_text.proofs.Tellings.{first_of, same_decimal}
use Rattle.plum_text.proofs.Tellings.{same_value, same_class, same_alert, same_run, same_fault}

-- a journal line of these fields
journal_of : ℕ → ℕ → ℕ → ℕ → ℕ → Bool → Option Tenths → JournalLine
journal_of n segment station boot number fresh value = record {
  n = n;
  segment = segment;
  station = station;
  key = record { boot = boot; number = number };
  fresh = fresh;
  value = value;
}

-- the same line, from the same fields
same_made : (n₁ n₂ s₁ s₂ c₁ c₂ b₁ b₂ k₁ k₂ : ℕ) (f₁ f₂ : Bool) (v₁ v₂ : Option Tenths) → n₁ ≡ n₂
    → s₁ ≡ s₂ → c₁ ≡ c₂ → b₁ ≡ b₂ → k₁ ≡ k₂ → f₁ ≡ f₂ → v₁ ≡ v₂
    → journal_of n₁ s₁ c₁ b₁ k₁ f₁ v₁ ≡ journal_of n₂ s₂ c₂ b₂ k₂ f₂ v₂
same_made n₁ n₂ s₁ s₂ c₁ c₂ b₁ b₂ k₁ k₂ f₁ f₂ v₁ v₂ n s c b k f v = cc

module _ (one_intensity : OneIntensity) where
  -- The fields of a journal line tell it.
  same_journal_fields : (l k : JournalLine) → FitsJournal l → FitsJournal k
      → journal_fields l ≡ journal_fields k → l ≡ k
  unfolding journal_of
  same_journal_fields l k fl fk e =
      let n : decimal l.n ≡ decimal k.n = cc in
      let segment : decimal l.segment ≡ decimal k.segment = cc in
      let station : decimal l.station ≡ decimal k.station = cc in
      let boot : decimal l.key.boot ≡ decimal k.key.boot = cc in
      let number : decimal l.key.number ≡ decimal k.key.number = cc in
      let fresh : run_text l.fresh ≡ run_text k.fresh = cc in
      let value : value_text l.value ≡ value_text k.value = cc in
      same_made l.n k.n l.segment k.segment l.station k.station l.key.boot k.key.boot l.key.number
      k.key.number l.fresh k.fresh l.value k.value
      (same_decimal l.n k.n fl.n fk.n n)
      (same_decimal l.segment k.segment fl.segment fk.segment segment)
      (same_decimal l.station k.station (omega (arith, fl.station)) (omega (arith, fk.station))
      station)
      (same_decimal l.key.boot k.key.boot (omega (arith, fl.key.0)) (omega (arith, fk.key.0)) boot)
      (same_decimal l.key.number k.key.number fl.key.1 fk.key.1 number)
      (same_run l.fresh k.fresh fresh)
      (same_value one_intensity l.value k.value fl.value fk.value value)

  -- So do its bytes.
  pub same_journal_line : (l k : JournalLine) → FitsJournal l → FitsJournal k
      → journal_line l ≡ journal_line k → l ≡ k
  same_journal_line l k fl fk e =
      let cut =
      one_line (codes "E") (codes "E") (journal_fields l) (journal_fields k) journal_kind
      journal_kind (journal_words l fl) (journal_words k fk) e in
      same_journal_fields l k fl fk cut.1

-- the same counts, from the same texts
same_counts : (a b c d e f g h : ℕ) → Fits 32 a → Fits 32 b → Fits 32 c → Fits 32 d → Fits 32 e
    → Fits 32 f → Fits 32 g → Fits 32 h → decimal a ≡ decimal e → decimal b ≡ decimal f
    → decimal c ≡ decimal g → decimal d ≡ decimal h → (a ≡ e) × (b ≡ f) × (c ≡ g) × (d ≡ h)
same_counts a b c d e f g h fa fb fc fd fe ff fg fh ae bf cg dh = (
  same_decimal a e fa fe ae,
  same_decimal b f fb ff bf,
  same_decimal c g fc fg cg,
  same_decimal d h fd fh dh,
)

module _ (one_intensity : OneIntensity) (one_class : OneClass) where
  -- The letter and the fields of an output line tell it.
  same_out_fields : (l k : OutLine) → FitsOut l → FitsOut k → kind_of l ≡ kind_of k
      → out_fields l ≡ out_fields k → l ≡ k
  same_out_fields (Mark m a b c d) (Mark n e f g h) fl fk kinds is =
      let marks : decimal m ≡ decimal n = cc in
      let first : decimal a ≡ decimal e = cc in
      let second : decimal b ≡ decimal f = cc in
      let third : decimal c ≡ decimal g = cc in
      let fourth : decimal d ≡ decimal h = cc in
      let mark = same_decimal m n fl.0 fk.0 marks in
      let counts =
      same_counts a b c d e f g h fl.1 fl.2 fl.3 fl.4 fk.1 fk.2 fk.3 fk.4 first second third
      fourth in
      cc
  same_out_fields (Refused m f) (Refused n g) fl fk kinds is =
      let numbers : decimal m ≡ decimal n = cc in
      let faults : fault_fields f ≡ fault_fields g = cc in
      let number = same_decimal m n fl.0 fk.0 numbers in
      let fault = same_fault f g fl.1 fk.1 faults in
      cc
  same_out_fields (Reading m a f) (Reading n b g) fl fk kinds is =
      let marks : decimal m ≡ decimal n = cc in
      let fronts : decimal f ≡ decimal g = cc in
      let mark = same_decimal m n fl.0 fk.0 marks in
      let area : a ≡ b = cc in
      let front = decimal_injective f g fl.2 fk.2 fronts in
      cc
  same_out_fields (Answer m t v c) (Answer n u w d) fl fk kinds is =
      let marks : decimal m ≡ decimal n = cc in
      let values : value_text v ≡ value_text w = cc in
      let classes : class_or_none_text c ≡ class_or_none_text d = cc in
      let mark = same_decimal m n fl.0 fk.0 marks in
      let target : t ≡ u = cc in
      let value = same_value one_intensity v w fl.2 fk.2 values in
      let class = same_class one_class c d classes in
      cc
  same_out_fields (Alert m a f) (Alert n b g) fl fk kinds is =
      let marks : decimal m ≡ decimal n = cc in
      let alerts : alert_fields f ≡ alert_fields g = cc in
      let mark = same_decimal m n fl.0 fk.0 marks in
      let area : a ≡ b = cc in
      let alert = same_alert one_class f g alerts in
      cc
  same_out_fields (Tail a) (Tail b) fl fk kinds is =
      let lengths : decimal a ≡ decimal b = cc in
      ap Tail (same_decimal a b fl fk lengths)
  same_out_fields (Totals m a b c d) (Totals n e f g h) fl fk kinds is =
      let marks : decimal m ≡ decimal n = cc in
      let first : decimal a ≡ decimal e = cc in
      let second : decimal b ≡ decimal f = cc in
      let third : decimal c ≡ decimal g = cc in
      let fourth : decimal d ≡ decimal h = cc in
      let segments = same_decimal m n fl.0 fk.0 marks in
      let counts =
      same_counts a b c d e f g h fl.1 fl.2 fl.3 fl.4 fk.1 fk.2 fk.3 fk.4 first second third
      fourth in
      cc
  same_out_fields l k fl fk kinds is = absurd (omega (arith, ap first_of kinds))

  -- So do its bytes.
  pub same_out_line : (l k : OutLine) → FitsOut l → FitsOut k → out_line l ≡ out_line k → l ≡ k
  same_out_line l k fl fk e =
      let cut =
      one_line (kind_of l) (kind_of k) (out_fields l) (out_fields k) (out_kind l) (out_kind k)
      (out_words l fl) (out_words k fk) e in
      same_out_fields l k fl fk cut.0 cut.1
