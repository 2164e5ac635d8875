-- What a plain command has told, one record more and at the end.
use Rattle.std.proofs.Common.{◌≡◌, ℕ, ◌-◌, ◌<◌, List, [], ◌∷◌, ◌++◌, length, map, Option, Ok, Err}
use Rattle.std.proofs.Common.{refl, sym, ◌∙◌, ap, subst, arith, append-nil}
use Rattle.std.proofs.lemmas.List.{map-append}
use Rattle.std.proofs.lemmas.List.Concat.{flat_map-append}
use Rattle.std.specs.List.{flat_map}
use Rattle.std.specs.Option.{option_to_list}
use Rattle.plum_base.specs.declared.entry.Entry.{Entry}
use Rattle.plum_base.specs.declared.packet.Packet.{Packet as PacketOf}
use Rattle.plum_base.specs.declared.packet.RefusedBody.{RefusedBody}
use Rattle.plum_base.specs.declared.setup.Setup.{Setup}
use Rattle.plum_packet.specs.declared.bodies.Found.TheVariants.{Mark, Packet, Refused}
use Rattle.plum_packet.specs.Bodies.{bodies_of}
use Rattle.plum_packet.specs.Segments.{Decoded, packets_in, refused_in}
use Rattle.plum_text.specs.declared.lines.OutLine.{OutLine}
use Rattle.plum_text.specs.declared.lines.OutLine.TheVariants as told_lines
use Rattle.plum_text.specs.declared.lines.OutLine.TheVariants.{Tail}
use Rattle.plum_text.specs.declared.lines.PlainLine.{PlainLine}
use Rattle.plum_text.specs.declared.lines.PlainLine.TheVariants.{Counts}
use Rattle.plum_text.specs.Lines.{plain_line, out_line}
use Rattle.plum_text.specs.Texts.{refused_lines, totals_line}
use Rattle.plum.specs.declared.tally.Tally.{Tally}
use Rattle.plum.specs.declared.teller.Teller.TheVariants.{Watching, Counting}
use Rattle.plum.specs.declared.watch.Watch.{Watch}
use Rattle.plum.specs.Job.{replay, station, check, drill}
use Rattle.plum.specs.Plain.{value_line, packets_of, counts_line, totals_of_bodies}
use Rattle.plum.specs.Tallied.{HasTallied}
use Rattle.plum.specs.Telling.{TellsOneMore, TellsEnd}
use Rattle.plum.specs.Watched.{HasWatched, WatchesOneMore}
use Rattle.plum.proofs.Tallying.{packets-push, packets-refused, refused-push, refused-packet}

-- Texts of lines join.
module _ {L : Type 0} (line : L → List ℕ) where
  pub joined : (text told : List ℕ) (lines more : List L) → text ≡ flat_map line lines
      → told ≡ flat_map line more → text ++ told ≡ flat_map line (lines ++ more)
  joined text told lines more text_is told_is =
      ap (λ t. t ++ told) text_is ∙ ap (λ t. flat_map line lines ++ t) told_is
      ∙ sym (flat_map-append line lines more)

  nothing_joins : (text told : List ℕ) (lines : List L) → text ≡ flat_map line lines
      → told ≡ [] → text ++ told ≡ flat_map line lines
  nothing_joins text told lines text_is none =
      ap (λ t. text ++ t) none ∙ append-nil text ∙ text_is

  pub one_line : (told : List ℕ) (l : L) → told ≡ line l → told ≡ flat_map line (l ∷ [])
  one_line told l is = is ∙ sym (append-nil (line l))

-- The lines of refused bodies join.
pub refused_lines-append : (front rest : List RefusedBody)
    → refused_lines (front ++ rest) ≡ refused_lines front ++ refused_lines rest
refused_lines-append front rest =
    map-append (λ (r : RefusedBody). told_lines.Refused r.number r.fault) front rest

-- What a watch tells of a packet.
pub watched_packet : (old new : Watch) (p : PacketOf) (line : Option PlainLine) (told : List ℕ)
    → ((setup : Setup) (stations : ℕ) (packets : List PacketOf) (history : List Entry)
    → p.station.0 < stations → HasWatched old setup stations packets history
    → WatchesOneMore new setup stations packets history p line)
    → told ≡ flat_map plain_line (option_to_list line)
    → TellsOneMore (Watching old) (Watching new) (Packet p) told
watched_packet old new p line told takes is setup stations number bodies text listed
    (history, has, text_is) =
    let more = takes setup (length stations) (packets_in bodies) history listed has in
    let long = map-append value_line history more.0 in (
      history ++ more.0,
      subst (λ ps. HasWatched new setup (length stations) ps (history ++ more.0))
          (sym (packets-push bodies number p)) more.1,
      joined plain_line text told (map value_line history) (map value_line more.0) text_is
          (is ∙ ap (flat_map plain_line) (sym more.2))
          ∙ ap (flat_map plain_line) (sym long),
    )

pub watched_mark : (watch : Watch) (told : List ℕ) → told ≡ []
    → TellsOneMore (Watching watch) (Watching watch) Mark told
watched_mark watch told none setup stations number bodies text listed (history, has, text_is) = (
  history,
  subst (λ ps. HasWatched watch setup (length stations) (packets_in ps) history)
      (sym (append-nil bodies)) has,
  nothing_joins plain_line text told (map value_line history) text_is none,
)

pub watched_refused : (watch : Watch) (r : RefusedBody) (told : List ℕ) → told ≡ []
    → TellsOneMore (Watching watch) (Watching watch) (Refused r) told
watched_refused watch r told none setup stations number bodies text listed
    (history, has, text_is) = (
      history,
      subst (λ ps. HasWatched watch setup (length stations) ps history)
          (sym (packets-refused bodies r.number r.fault)) has,
      nothing_joins plain_line text told (map value_line history) text_is none,
    )

-- What a tally tells.
pub tallied_mark : (tally : Tally) (told : List ℕ) → told ≡ []
    → TellsOneMore (Counting tally) (Counting tally) Mark told
tallied_mark tally told none setup stations number bodies text listed (has, text_is) = (
  subst (λ bs. HasTallied tally (length stations) bs) (sym (append-nil bodies)) has,
  nothing_joins out_line text told (refused_lines (refused_in bodies)) text_is none
      ∙ ap (λ bs. flat_map out_line (refused_lines (refused_in bs)))
      (sym (append-nil bodies)),
)

pub tallied_packet : (old new : Tally) (p : PacketOf) (told : List ℕ)
    → ((stations number : ℕ) (bodies : List Decoded) → HasTallied old stations bodies
    → HasTallied new stations (bodies ++ (number, Ok p) ∷ [])) → told ≡ []
    → TellsOneMore (Counting old) (Counting new) (Packet p) told
tallied_packet old new p told takes none setup stations number bodies text listed
    (has, text_is) = (
      takes (length stations) number bodies has,
      nothing_joins out_line text told (refused_lines (refused_in bodies)) text_is none
          ∙ ap (λ rs. flat_map out_line (refused_lines rs))
          (sym (refused-packet bodies number p)),
    )

pub tallied_no_packet : (old new : Tally) (r : RefusedBody) (told : List ℕ)
    → ((stations : ℕ) (bodies : List Decoded) → HasTallied old stations bodies
    → HasTallied new stations (bodies ++ (r.number, Err r.fault) ∷ []))
    → told ≡ out_line (told_lines.Refused r.number r.fault)
    → TellsOneMore (Counting old) (Counting new) (Refused r) told
tallied_no_packet old new r told takes is setup stations number bodies text listed
    (has, text_is) =
    let more = refused-push bodies r.number r.fault in (
      takes (length stations) bodies has,
      joined out_line text told (refused_lines (refused_in bodies)) (refused_lines (r ∷ []))
          text_is (one_line out_line told (told_lines.Refused r.number r.fault) is)
          ∙ ap (flat_map out_line)
          (sym (ap refused_lines more ∙ refused_lines-append (refused_in bodies) (r ∷ []))),
    )

-- What is told at the end.
pub watch_ends : (watch : Watch) (told : List ℕ) (count tail : ℕ)
    → told ≡ plain_line (Counts watch.kept watch.repeats)
    → TellsEnd (Watching watch) count tail told
watch_ends watch told count tail is (replay s st t c j) setup stations segments text it long has =
    absurd it
watch_ends watch told count tail is (check s st t c) setup stations segments text it long has =
    absurd it
watch_ends watch told count tail is (drill n m k) setup stations segments text it long has =
    absurd it
watch_ends watch told count tail is (station s st c n) setup stations segments text it long
    (history, has, text_is) =
    let own = packets_of watch.number (packets_in (bodies_of segments)) in
    let repeats : watch.repeats ≡ length own - length history = omega (arith, has.came, has.kept)
    in
    let last : told ≡ plain_line (counts_line own history) =
    is ∙ ap (λ k. plain_line (Counts k watch.repeats)) has.kept
    ∙ ap (λ r. plain_line (Counts (length history) r)) repeats in (
      map value_line history ++ counts_line own history ∷ [],
      record {
        found = watch.number;
        found_at = it;
        history = history;
        history_is = has.history_is;
        lines_are = refl;
      },
      joined plain_line text told (map value_line history) (counts_line own history ∷ []) text_is
          (one_line plain_line told (counts_line own history) last),
    )

pub count_ends : (tally : Tally) (told : List ℕ) (count tail : ℕ) (totals : OutLine)
    → ((stations : ℕ) (bodies : List Decoded) → HasTallied tally stations bodies
    → totals ≡ totals_line count (totals_of_bodies bodies))
    → told ≡ out_line (Tail tail) ++ out_line totals → TellsEnd (Counting tally) count tail told
count_ends tally told count tail totals are is (replay s st t c j) setup stations segments text it
    long has = absurd it
count_ends tally told count tail totals are is (station s st c n) setup stations segments text it
    long has = absurd it
count_ends tally told count tail totals are is (drill n m k) setup stations segments text it
    long has = absurd it
count_ends tally told count tail totals are is (check s st t c) setup stations segments text it
    long (has, text_is) =
    let bodies = bodies_of segments in
    let line = are (length stations) bodies has
    ∙ ap (λ n. totals_line n (totals_of_bodies bodies)) long in
    let both : told ≡ flat_map out_line (Tail tail ∷ totals_line (length segments)
    (totals_of_bodies bodies) ∷ []) =
    is ∙ ap (λ l. out_line (Tail tail) ++ out_line l) line
    ∙ ap (λ l. out_line (Tail tail) ++ l) (sym (append-nil (out_line
    (totals_line (length segments) (totals_of_bodies bodies))))) in
    joined out_line text told (refused_lines (refused_in bodies))
    (Tail tail ∷ totals_line (length segments) (totals_of_bodies bodies) ∷ []) text_is both
