-- What a plain command has read and written, one record more and at the end.
use Rattle.std.proofs.Common.{◌≡◌, ℕ, List, [], ◌++◌, length, Some}
use Rattle.std.proofs.Common.{refl, sym, subst}
use Rattle.plum_base.specs.declared.setup.Setup.{Setup}
use Rattle.plum_base.specs.declared.sites.StationSite.{StationSite}
use Rattle.plum_host.specs.declared.host.In.TheVariants.{Capture}
use Rattle.plum_host.specs.declared.host.To.TheVariants.{Out}
use Rattle.plum_host.specs.Told.{HostView, Appends}
use Rattle.plum_host.proofs.Pieces.{appends-more}
use Rattle.plum_packet.specs.declared.bodies.Found.{Found}
use Rattle.plum_packet.specs.Bodies.{BodiesView, HasTold, FindsRecord, EndsBodies}
use Rattle.plum_packet.specs.Bodies.{found_as, IsOfListed}
use Rattle.plum_packet.specs.Records.{tail_of}
use Rattle.plum_packet.specs.Reading.{IsReadToEnd, MOST_RECORDS}
use Rattle.plum_packet.specs.Segments.{Decoded}
use Rattle.plum_replay.proofs.Writings.{appends-same}
use Rattle.plum.specs.declared.teller.Teller.{Teller}
use Rattle.plum.specs.declared.teller.Teller.TheVariants.{Watching, Counting}
use Rattle.plum.specs.Job.{Job}
use Rattle.plum.specs.Plain.{AppendsPlain, LeavesJournal}
use Rattle.plum.specs.Telling.{HasPlaceFor, HasToldNothing, HasToldText, IsOver, IsTellerOf}
use Rattle.plum.specs.Telling.{TellsEnd, TellsOneMore}

-- Of these bodies it has told a text, and that is appended to the output.
pub record HasWritten (teller : Teller) (setup : Setup) (stations : List StationSite)
    (given : List Decoded) (before now : HostView) : Type 0 where
  pub text : List ℕ
  pub told : HasToldText teller setup stations given text
  pub appended : Appends (before.held Out) (now.held Out) text

-- So much of the capture is read; of these bodies all is written, where none was told at first.
pub record HasRead (first teller : Teller) (stations : List StationSite) (capture : List ℕ)
    (reader : BodiesView) (before now : HostView) : Type 0 where
  pub given : List Decoded
  pub told : HasTold stations capture given reader (now.left Capture)
  pub written : (setup : Setup) → HasToldNothing first setup stations
      → HasWritten teller setup stations given before now

-- a teller over all stations has a place for what is of one of them
pub has_place : (teller : Teller) (stations : ℕ) (found : Found) → IsOver teller stations
    → IsOfListed stations found → HasPlaceFor teller found
has_place (Watching watch) stations found over listed = tt
has_place (Counting tally) stations found over listed =
    subst (λ n. IsOfListed n found) (sym over) listed

-- before the first record
pub read_nothing : (first : Teller) (stations : List StationSite) (capture : List ℕ)
    (reader : BodiesView) (before : HostView) → before.left Capture ≡ Some capture
    → HasTold stations capture [] reader (Some capture)
    → HasRead first first stations capture reader before before
read_nothing first stations capture reader before is told = record {
  given = [];
  told = subst (HasTold stations capture [] reader) (sym is) told;
  written = λ setup nothing. record {
    text = [];
    told = nothing;
    appended = appends-same (before.held Out) (before.held Out) refl;
  };
}

module _ (first old : Teller) (stations : List StationSite) (capture : List ℕ)
    (reader : BodiesView) (before now read : HostView)
    (was : HasRead first old stations capture reader before now)
    (same : read.held Out ≡ now.held Out) where
  -- what is appended behind it
  pub appended_more : (setup : Setup) (nothing : HasToldNothing first setup stations)
      (part : List ℕ) (after : HostView) → Appends (read.held Out) (after.held Out) part
      → Appends (before.held Out) (after.held Out) ((was.written setup nothing).text ++ part)
  appended_more setup nothing part after more =
      let so_far = was.written setup nothing in
      appends-more (before.held Out) (now.held Out) (after.held Out) so_far.text part
      so_far.appended (subst (λ held. Appends held (after.held Out) part) same more)

  -- one record more, and what is told of it is written
  pub read_more : (new : Teller) (next : BodiesView) (found : Found) (told : List ℕ)
      (after : HostView)
      → FindsRecord stations reader (now.left Capture) next (read.left Capture) found
      → IsOfListed (length stations) found → TellsOneMore old new found told
      → after.left Capture ≡ read.left Capture → Appends (read.held Out) (after.held Out) told
      → HasRead first new stations capture next before after
  read_more new next found told after finds listed tells left more = record {
    given = was.given ++ found_as next.records.given found;
    told = subst (HasTold stations capture (was.given ++ found_as next.records.given found) next)
        (sym left) (finds capture was.given was.told);
    written = λ setup nothing.
        let so_far = was.written setup nothing in
        record {
          text = so_far.text ++ told;
          told = tells setup stations next.records.given was.given so_far.text listed so_far.told;
          appended = appended_more setup nothing told after more;
        };
  }

  -- the end of the capture, and what is told there is written
  pub tells_whole : (next : BodiesView) (told : List ℕ) (after : HostView)
      → EndsBodies stations reader (now.left Capture) next (read.left Capture)
      → TellsEnd old next.segments (tail_of next.records) told
      → after.left Capture ≡ read.left Capture → Appends (read.held Out) (after.held Out) told
      → LeavesJournal before after → (job : Job) (setup : Setup) → IsTellerOf old job stations
      → HasToldNothing first setup stations
      → AppendsPlain job setup stations capture before after
  tells_whole next told after ends tells left more journal job setup of nothing =
      let so_far = was.written setup nothing in
      let whole = ends capture was.given was.told in
      record {
        text = so_far.text ++ told;
        text_is = record {
          segments = whole.segments;
          tail = tail_of next.records;
          capture_is = whole.capture_is;
          text_is = tells job setup stations whole.segments so_far.text of whole.count
              (subst (λ given. HasToldText old setup stations given so_far.text) whole.all
              so_far.told);
        };
        appended = appended_more setup nothing told after more;
        journal = journal;
        read = subst (IsReadToEnd MOST_RECORDS capture) (sym left) whole.read;
      }
