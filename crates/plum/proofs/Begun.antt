-- What a plain command has written where it stops begins its text.
use Rattle.std.proofs.Common.{◌≡◌, ℕ, List, [], ◌∷◌, ◌++◌, length, map, take, drop, Option, Some}
use Rattle.std.proofs.Common.{None, refl, sym, ap, subst, ◌∙◌, arith, append-nil}
use Rattle.std.proofs.Common.{append_assoc, take-append-drop}
use Rattle.std.proofs.Common.{length-append, pos}
use Rattle.std.specs.Prelude.{◌==◌}
use Rattle.std.proofs.lemmas.List.{length-map, map-append, nil_from_length}
use Rattle.std.proofs.lemmas.List.Concat.{flat_map-append}
use Rattle.std.proofs.lemmas.List.Elements.{filter-append, filter_map-append}
use Rattle.std.specs.List.{flat_map}
use Rattle.std.specs.Option.{option_map}
use Rattle.std.specs.Result.{result_ok, result_err}
use mathlib.Core.List.{IsPrefix}
use Rattle.plum_base.specs.declared.entry.Entry.{Entry}
use Rattle.plum_base.specs.declared.numbers.StationNo.{StationNo}
use Rattle.plum_base.specs.declared.packet.Packet.{Packet}
use Rattle.plum_base.specs.declared.setup.Setup.{Setup}
use Rattle.plum_base.specs.declared.sites.StationSite.{StationSite}
use Rattle.plum_base.specs.Sites.{AreCodesDistinct, HasCode, HasNoCode, IsFoundAt}
use Rattle.plum_core.specs.History.{packet_of, HoldsKept}
use Rattle.plum_core.specs.Laws.{HistoryBegins}
use Rattle.plum_host.specs.declared.host.In.TheVariants.{Capture}
use Rattle.plum_host.specs.declared.host.To.TheVariants.{Out}
use Rattle.plum_host.specs.Told.{HostView, Appends, AppendsFront}
use Rattle.plum_packet.specs.Bodies.{bodies_of, BodiesView, EndsBodies, FindsRecord, HasTold}
use Rattle.plum_packet.specs.Bodies.{IsOfListed, found_as}
use Rattle.plum_packet.specs.declared.bodies.Found.{Found}
use Rattle.plum_packet.specs.Laws.{DecodedInOneWay, GivenBegins}
use Rattle.plum_packet.specs.Records.{tail_of}
use Rattle.plum_packet.specs.Segments.{Decoded, IsCaptureOf, packets_in, refused_in}
use Rattle.plum_base.proofs.Coded.{listed_code}
use Rattle.plum_packet.proofs.OneBody.{same_station}
use Rattle.plum_replay.proofs.Stopping.{front_of}
use Rattle.plum_replay.proofs.Writings.{appends-same}
use Rattle.plum_seq.specs.Keys.{kept}
use Rattle.plum_text.specs.declared.lines.OutLine.TheVariants.{Tail}
use Rattle.plum_text.specs.declared.lines.PlainLine.{PlainLine}
use Rattle.plum_text.specs.Lines.{plain_line, out_line}
use Rattle.plum_text.specs.Texts.{refused_lines, totals_line}
use Rattle.plum.specs.declared.teller.Teller.{Teller}
use Rattle.plum.specs.declared.teller.Teller.TheVariants.{Watching, Counting}
use Rattle.plum.specs.Job.{Job, replay, station, check, drill}
use Rattle.plum.specs.Plain.{AppendsPlainBegun, AreStationLines, BeginsPlainText, IsHistoryOf}
use Rattle.plum.specs.Plain.{IsPlainText, IsTextOver, check_lines, counts_line, packets_of}
use Rattle.plum.specs.Plain.{totals_of_bodies, value_line}
use Rattle.plum.specs.Telling.{HasToldNothing, HasToldText, IsTellerOf, TellsEnd, TellsOneMore}
use Rattle.plum.proofs.Tellings.{refused_lines-append}
use Rattle.plum.proofs.Written.{HasRead, HasWritten, appended_more}

-- nothing begins all bytes
pub nothing_begins : (bytes : List ℕ) → IsPrefix [] bytes
nothing_begins bytes = (bytes, refl)

-- A front of what begins some bytes begins them.
front_begins : (front part bytes : List ℕ) (n : ℕ) → IsPrefix (front ++ part) bytes
    → IsPrefix (front ++ take n part) bytes
front_begins front part bytes n begins = (
  drop n part ++ begins.0,
  append_assoc front (take n part) (drop n part ++ begins.0)
      ∙ ap (λ l. front ++ l) (sym (append_assoc (take n part) (drop n part) begins.0)
      ∙ ap (λ l. l ++ begins.0) (take-append-drop n part))
      ∙ sym (append_assoc front part begins.0) ∙ begins.1,
)

-- The text of the first lines begins that of all.
lines_begin : {L : Type 0} (line : L → List ℕ) (text whole : List ℕ) (lines more all : List L)
    → text ≡ flat_map line lines → whole ≡ flat_map line all → all ≡ lines ++ more
    → IsPrefix text whole
lines_begin line text whole lines more all text_is whole_is is = (
  flat_map line more,
  ap (λ t. t ++ flat_map line more) text_is ∙ sym (flat_map-append line lines more)
      ∙ ap (flat_map line) (sym is) ∙ sym whole_is,
)

-- the packets and the refused bodies of bodies in two parts
packets-append : (front rest : List Decoded)
    → packets_in (front ++ rest) ≡ packets_in front ++ packets_in rest
packets-append front rest = filter_map-append (λ (d : Decoded). result_ok d.1) front rest

refused-append : (front rest : List Decoded)
    → refused_in (front ++ rest) ≡ refused_in front ++ refused_in rest
refused-append front rest =
    filter_map-append (λ (d : Decoded). option_map
    (λ fault. record { number = d.0; fault = fault }) (result_err d.1)) front rest

own-append : (number : Option StationNo) (front rest : List Packet)
    → packets_of number (front ++ rest) ≡ packets_of number front ++ packets_of number rest
own-append None front rest = refl
own-append (Some n) front rest =
    filter-append (λ (p : Packet). p.station.0 == n.0) front rest

-- a site, of no station
abbrev no_site : StationSite
no_site = record {
  code = 0;
  at = record { x = pos 0; y = pos 0 };
  factor = record { 0 = pos 0 };
}

-- No listed station has a code that none has.
pub none_has : (stations : List StationSite) (n code : ℕ) → HasNoCode stations code
    → HasCode stations n code → ⊥
none_has stations n code none has =
    let at = listed_code stations n code has in none n no_site at.0 (at.1 no_site)

-- Where codes are distinct, one station is found at a code, or none.
pub one_found : (stations : List StationSite) (code : ℕ) (some other : Option StationNo)
    → AreCodesDistinct stations → IsFoundAt stations code some → IsFoundAt stations code other
    → some ≡ other
one_found stations code None None distinct a b = refl
one_found stations code None (Some m) distinct a b = absurd (none_has stations m.0 code a b)
one_found stations code (Some n) None distinct a b = absurd (none_has stations n.0 code b a)
one_found stations code (Some n) (Some m) distinct a b =
    let number : ℕ → StationNo = λ k. record { 0 = k } in
    ap (λ k. Some (number k)) (same_station stations n.0 m.0 code distinct a b)

-- what is known of captures and of histories
pub record TextLaws : Type 0 where
  pub decoded : DecodedInOneWay
  pub given : GivenBegins
  pub histories : HistoryBegins

pub known : DecodedInOneWay → GivenBegins → HistoryBegins → TextLaws
known decoded given histories = record {
  decoded = decoded;
  given = given;
  histories = histories;
}

module _ (laws : TextLaws) (stations : List StationSite) (distinct : AreCodesDistinct stations)
  where
    -- The history of a station's packets in the first bodies begins that of those in all.
    history_goes_on : (setup : Setup) (number found : Option StationNo)
        (given rest all : List Decoded) (history other : List Entry) → given ++ rest ≡ all
        → found ≡ number
        → IsHistoryOf setup (length stations) (packets_of number (packets_in given)) history
        → IsHistoryOf setup (length stations) (packets_of found (packets_in all)) other
        → (more : List Entry) × (other ≡ history ++ more)
    history_goes_on setup number found given rest all history other joined same is other_is =
        let own = packets_of number (packets_in given) in
        let more = packets_of number (packets_in rest) in
        let whole : packets_of found (packets_in all) ≡ own ++ more =
        ap (λ o. packets_of o (packets_in all)) same
        ∙ ap (λ bs. packets_of number (packets_in bs)) (sym joined)
        ∙ ap (packets_of number) (packets-append given rest)
        ∙ own-append number (packets_in given) (packets_in rest) in
        laws.histories setup (length stations) history other own more is.valid is.holds
        other_is.valid (subst (HoldsKept other) whole other_is.holds)

    -- What was told of the first bodies begins the text.
    text_begins : (teller : Teller) (job : Job) (setup : Setup) (capture : List ℕ)
        (given : List Decoded) (text : List ℕ) (reader : BodiesView) (left : Option (List ℕ))
        → IsTellerOf teller job stations → HasTold stations capture given reader left
        → HasToldText teller setup stations given text
        → BeginsPlainText job setup stations capture text
    text_begins (Watching watch) (replay s st t c j) setup capture given text reader left of told
        has whole is = absurd of
    text_begins (Watching watch) (check s st t c) setup capture given text reader left of told has
        whole is = absurd of
    text_begins (Counting tally) (replay s st t c j) setup capture given text reader left of told
        has whole is = absurd of
    text_begins (Counting tally) (station s st c code) setup capture given text reader left of told
        has whole is = absurd of
    text_begins (Watching watch) (drill n m k) setup capture given text reader left of told has
        whole is = absurd of
    text_begins (Counting tally) (drill n m k) setup capture given text reader left of told has
        whole is = absurd of
    text_begins (Watching watch) (station s st c code) setup capture given text reader left of told
        has whole is =
        let bodies = bodies_of is.segments in
        let front = laws.given stations capture given reader left is.segments is.tail distinct told
        is.capture_is in
        let lines = is.text_is.1 in
        let same = one_found stations code lines.found watch.number distinct lines.found_at of in
        let more = history_goes_on setup watch.number lines.found given front.0 bodies has.0
        lines.history front.1 same has.1.history_is lines.history_is in
        let last = counts_line (packets_of lines.found (packets_in bodies)) lines.history ∷ [] in
        let all : is.text_is.0 ≡ map value_line has.0 ++ (map value_line more.0 ++ last) =
        lines.lines_are ∙ ap (λ h. map value_line h ++ last) more.1
        ∙ ap (λ l. l ++ last) (map-append value_line has.0 more.0)
        ∙ append_assoc (map value_line has.0) (map value_line more.0) last in
        lines_begin plain_line text whole (map value_line has.0) (map value_line more.0 ++ last)
        is.text_is.0 has.2 is.text_is.2 all
    text_begins (Counting tally) (check s st t c) setup capture given text reader left of told has
        whole is =
        let bodies = bodies_of is.segments in
        let front = laws.given stations capture given reader left is.segments is.tail distinct told
        is.capture_is in
        let first = refused_lines (refused_in given) in
        let others = refused_lines (refused_in front.0) in
        let last = Tail is.tail ∷ totals_line (length is.segments) (totals_of_bodies bodies) ∷ [] in
        let all : check_lines is.segments is.tail ≡ first ++ (others ++ last) =
        ap (λ bs. refused_lines (refused_in bs) ++ last) (sym front.1)
        ∙ ap (λ rs. refused_lines rs ++ last) (refused-append given front.0)
        ∙ ap (λ l. l ++ last) (refused_lines-append (refused_in given) (refused_in front.0))
        ∙ append_assoc first others last in
        lines_begin out_line text whole first (others ++ last) (check_lines is.segments is.tail)
        has.1 is.text_is all

    -- Of a station there is one text over these bodies.
    one_station_text : (setup : Setup) (code : ℕ) (bodies : List Decoded)
        (text whole : List ℕ) (some others : List PlainLine)
        → AreStationLines setup stations code (packets_in bodies) some
        → text ≡ flat_map plain_line some
        → AreStationLines setup stations code (packets_in bodies) others
        → whole ≡ flat_map plain_line others → whole ≡ text
    one_station_text setup code bodies text whole some others a text_is b whole_is =
        let packets = packets_in bodies in
        let same = one_found stations code b.found a.found distinct b.found_at a.found_at in
        let more = history_goes_on setup a.found b.found bodies [] bodies a.history b.history
        (append-nil bodies) same a.history_is b.history_is in
        let long : length b.history ≡ length a.history =
        sym (length-map b.history packet_of)
        ∙ ap length (b.history_is.holds ∙ ap (λ o. kept (packets_of o packets)) same
        ∙ sym a.history_is.holds) ∙ length-map a.history packet_of in
        let none = nil_from_length more.0
        (omega (arith, long, ap length more.1, length-append a.history more.0)) in
        let history : b.history ≡ a.history =
        more.1 ∙ ap (λ l. a.history ++ l) none ∙ append-nil a.history in
        whole_is
        ∙ ap (flat_map plain_line) (b.lines_are
        ∙ ap (λ h. map value_line h ++ counts_line (packets_of b.found packets) h ∷ []) history
        ∙ ap (λ o. map value_line a.history ++ counts_line (packets_of o packets) a.history ∷ [])
        same ∙ sym a.lines_are)
        ∙ sym text_is

    -- The text over the whole capture is the one that it has,
    pub one_whole_text : (job : Job) (setup : Setup) (capture : List ℕ)
        (segments : List (List Decoded)) (tail : ℕ) (text whole : List ℕ)
        → IsCaptureOf stations capture segments tail
        → IsTextOver job setup stations segments tail text
        → IsPlainText job setup stations capture whole → whole ≡ text
    one_whole_text (replay s st t c j) setup capture segments tail text whole of over is =
        absurd over
    one_whole_text (drill n m k) setup capture segments tail text whole of over is = absurd over
    one_whole_text (station s st c code) setup capture segments tail text whole of over is =
        let same = laws.decoded stations capture is.segments segments is.tail tail distinct
        is.capture_is of in
        let it : Job = station s st c code in
        let other : IsTextOver it setup stations segments is.tail whole =
        subst (λ ss. IsTextOver it setup stations ss is.tail whole) same.0 is.text_is in
        one_station_text setup code (bodies_of segments) text whole over.0 other.0 over.1
        over.2 other.1 other.2
    one_whole_text (check s st t c) setup capture segments tail text whole of over is =
        let same = laws.decoded stations capture is.segments segments is.tail tail distinct
        is.capture_is of in
        let lines : check_lines is.segments is.tail ≡ check_lines segments tail =
        ap (λ ss. check_lines ss is.tail) same.0 ∙ ap (check_lines segments) same.1 in
        is.text_is ∙ ap (flat_map out_line) lines ∙ sym over

    -- which begins with it.
    whole_text_begins : (job : Job) (setup : Setup) (capture : List ℕ)
        (segments : List (List Decoded)) (tail : ℕ) (text : List ℕ)
        → IsCaptureOf stations capture segments tail
        → IsTextOver job setup stations segments tail text
        → BeginsPlainText job setup stations capture text
    whole_text_begins job setup capture segments tail text of over whole is = (
      [],
      append-nil text ∙ sym (one_whole_text job setup capture segments tail text whole of over is),
    )

    module _ (first old : Teller) (capture : List ℕ) (reader : BodiesView)
        (before now read : HostView)
        (was : HasRead first old stations capture reader before now)
        (same : read.held Out ≡ now.held Out) (job : Job) (setup : Setup)
        (nothing : HasToldNothing first setup stations) where
      abbrev so_far : HasWritten old setup stations was.given before now
      so_far = was.written setup nothing

      -- between two records
      pub begun_between : IsTellerOf old job stations
          → AppendsPlainBegun job setup stations capture before read
      begun_between of = (
        so_far.text,
        text_begins old job setup capture was.given so_far.text reader
            (now.left Capture) of was.told
            so_far.told,
        subst (λ held. Appends (before.held Out) held so_far.text) (sym same) so_far.appended,
      )

      -- within what is told of a record
      pub begun_within : (new : Teller) (next : BodiesView) (found : Found) (told : List ℕ)
          (after : HostView)
          → FindsRecord stations reader (now.left Capture) next (read.left Capture) found
          → IsOfListed (length stations) found → TellsOneMore old new found told
          → AppendsFront (read.held Out) (after.held Out) told → IsTellerOf new job stations
          → AppendsPlainBegun job setup stations capture before after
      begun_within new next found told after finds listed tells front of =
          let part = front_of (read.held Out) (after.held Out) told front in
          let given = was.given ++ found_as next.records.given found in
          let text = so_far.text ++ told in
          let has = tells setup stations next.records.given was.given so_far.text listed so_far.told
          in
          let begins = text_begins new job setup capture given text next (read.left Capture) of
          (finds capture was.given was.told) has in (
            so_far.text ++ take part.0 told,
            λ whole is. front_begins so_far.text told whole part.0 (begins whole is),
            appended_more first old stations capture reader before now read was same setup nothing
                (take part.0 told) after part.1,
          )

      -- within what is told at the end
      pub begun_at_end : (next : BodiesView) (told : List ℕ) (after : HostView)
          → EndsBodies stations reader (now.left Capture) next (read.left Capture)
          → TellsEnd old next.segments (tail_of next.records) told
          → AppendsFront (read.held Out) (after.held Out) told → IsTellerOf old job stations
          → AppendsPlainBegun job setup stations capture before after
      begun_at_end next told after ends tells front of =
          let part = front_of (read.held Out) (after.held Out) told front in
          let end = ends capture was.given was.told in
          let over = tells job setup stations end.segments so_far.text of end.count
          (subst (λ given. HasToldText old setup stations given so_far.text) end.all so_far.told) in
          let begins = whole_text_begins job setup capture end.segments (tail_of next.records)
          (so_far.text ++ told) end.capture_is over in (
            so_far.text ++ take part.0 told,
            λ whole is. front_begins so_far.text told whole part.0 (begins whole is),
            appended_more first old stations capture reader before now read was same setup nothing
                (take part.0 told) after part.1,
          )

-- before anything is written
pub begun_nothing : (job : Job) (setup : Setup) (stations : List StationSite) (capture : List ℕ)
    (host : HostView) → AppendsPlainBegun job setup stations capture host host
begun_nothing job setup stations capture host =
    ([], λ whole is. nothing_begins whole, appends-same (host.held Out) (host.held Out) refl)
