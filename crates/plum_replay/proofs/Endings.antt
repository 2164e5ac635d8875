-- The end of a replay: the tail, and the totals.
use Rattle.std.proofs.Common.{◌≡◌, ℕ, List, [], ◌∷◌, ◌++◌, length, sym, ap, ap₂, subst, ◌∙◌}
use Rattle.std.proofs.Common.{append_assoc}
use Rattle.std.specs.List.{flat_map}
use Rattle.plum_base.specs.declared.counts.Counts.{Counts}
use Rattle.plum_base.specs.declared.setup.Setup.{Setup}
use Rattle.plum_base.specs.declared.sites.TargetSite.{TargetSite}
use Rattle.plum_base.specs.Sites.{SitesView}
use Rattle.plum_host.specs.declared.host.To.TheVariants.{Out, Journal}
use Rattle.plum_host.specs.Told.{HostView, Appends}
use Rattle.plum_host.proofs.Pieces.{appends-more}
use Rattle.plum_packet.specs.Segments.{Decoded}
use Rattle.plum_core.specs.Transcript.{with_readings}
use Rattle.plum_centre.specs.declared.centre.Centre.{Centre}
use Rattle.plum_centre.specs.Centre.{CentreId}
use Rattle.plum_text.specs.Lines.{out_line}
use Rattle.plum_text.specs.Texts.{Section, totals_of, end_lines, journal_text, out_text}
use Rattle.plum_replay.specs.declared.progress.Counted.{Counted}
use Rattle.plum_replay.specs.declared.progress.Progress.{Progress}
use Rattle.plum_replay.specs.declared.totals.Totals.{Totals}
use Rattle.plum_replay.specs.Parts.{sections_text}
use Rattle.plum_replay.specs.Progress.{EndsReplay}
use Rattle.plum_replay.specs.Replayed.{totals_in, counts_in_all}
use Rattle.plum_replay.specs.Written.{HasWritten, WritesEnd}
use Rattle.plum_replay.proofs.PartTexts.{out_text-parts}

-- what the output tells in the end
abbrev end_of : ℕ → Counts → ℕ → List ℕ
end_of segments counts tail = flat_map out_line (end_lines tail segments counts)

abbrev pub end_text : Totals → List ℕ
end_text totals = end_of totals.segments (counts_in_all totals) totals.tail

-- the totals by their parts
made : ℕ → Counts → ℕ → Totals
made segments counts tail = record {
  segments = segments;
  bodies = counts.bodies;
  kept = counts.kept;
  repeats = counts.repeats;
  refused = counts.refused;
  tail = tail;
}

module _ (sections : List Section) (totals : Totals) (tail : ℕ)
    (number : totals.segments ≡ length sections)
    (counts : counts_in_all totals ≡ totals_of sections) (is_tail : totals.tail ≡ tail) where
  -- The totals are those of the sections.
  totals_are : totals ≡ totals_in sections tail
  unfolding made
  totals_are =
      ap₂ (λ n c. made n c totals.tail) number counts
      ∙ ap (made (length sections) (totals_of sections)) is_tail

  -- The output ends with them.
  ends_with : (targets : List TargetSite)
      → out_text targets sections tail ≡ sections_text targets sections ++ end_text totals
  ends_with targets =
      out_text-parts targets sections tail
      ∙ ap (λ end. sections_text targets sections ++ end)
      (sym (ap₂ (λ n c. end_of n c totals.tail) number counts
      ∙ ap (end_of (length sections) (totals_of sections)) is_tail))

module _ (id : CentreId) (setup : Setup) (sites : SitesView) (done : List (List Decoded))
    (last : List Decoded) (progress after : Progress) (counted : Counted)
    (earlier centre : Centre) (before between : HostView)
    (was : HasWritten id setup sites done last progress counted earlier before between)
    (text : List ℕ)
    (more : EndsReplay id setup sites done last was.transcript was.sections text after centre)
    (totals : Totals) (tail : ℕ) (number : totals.segments ≡ after.segments)
    (counts : counts_in_all totals ≡ after.counts) (is_tail : totals.tail ≡ tail) where
  -- the sections of all marks
  abbrev all_sections : List Section
  all_sections = was.sections ++ more.section ∷ []

  -- The output ends with the totals.
  pub ends_so : out_text sites.targets all_sections tail
      ≡ sections_text sites.targets all_sections ++ end_text totals
  ends_so = ends_with all_sections totals tail (number ∙ more.number) (counts ∙ more.counts) is_tail
      sites.targets

  -- The section of the last mark is appended, with the tail and the totals.
  pub written-end : (now : HostView)
      → Appends (between.held Out) (now.held Out) (text ++ end_text totals)
      → now.held Journal ≡ between.held Journal
      → WritesEnd id setup sites (done ++ last ∷ []) tail totals centre before now
  written-end now out same_journal =
      let lines = journal_text sites.stations was.transcript.parts in
      let so_far = sections_text sites.targets was.sections in
      let joined : so_far ++ (text ++ end_text totals) ≡ out_text sites.targets all_sections tail =
      sym (append_assoc so_far text (end_text totals))
      ∙ ap (λ bytes. bytes ++ end_text totals) (sym more.output_more) ∙ sym ends_so in
      record {
        transcript = with_readings was.transcript more.readings;
        legal = more.legal;
        sections = all_sections;
        sections_are = more.sections_are;
        totals_are = totals_are all_sections totals tail (number ∙ more.number)
            (counts ∙ more.counts) is_tail;
        journal = subst (λ held. Appends (before.held Journal) held lines) (sym same_journal)
            was.journal;
        output = subst (Appends (before.held Out) (now.held Out)) joined
            (appends-more (before.held Out) (between.held Out) (now.held Out) so_far
            (text ++ end_text totals) was.output out);
        holds = more.holds;
      }
