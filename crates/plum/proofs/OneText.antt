-- The text of a plain command is a function of its files.
use Rattle.std.proofs.Common.{◌≡◌, ℕ, List, length, sym, ◌∙◌, subst, Ok, Result}
use Rattle.plum_base.specs.declared.setup.Setup.{Setup}
use Rattle.plum_base.specs.declared.sites.StationSite.{StationSite}
use Rattle.plum_base.specs.Sites.{AreCodesDistinct}
use Rattle.plum_packet.specs.Bodies.{bodies_of}
use Rattle.plum_packet.specs.Segments.{Decoded, packets_in}
use Rattle.plum_sites.specs.Laws.{StationsAreTold}
use Rattle.plum_table.specs.Setup.{SetupFields, fields_of}
use Rattle.plum_table.specs.declared.fault.SetupFault.{SetupFault}
use Rattle.plum.proofs.Begun.{TextLaws, one_whole_text}
use Rattle.plum.proofs.SameSetup.{history_by_fields}
use Rattle.plum.specs.Files.{IsStationFile}
use Rattle.plum.specs.Job.{Job, check, drill, replay, station}
use Rattle.plum.specs.Laws.{AppendsTextOfFiles, BeginsTextOfFiles, EachHasPlainText}
use Rattle.plum.specs.Laws.{OnePlainText}
use Rattle.plum.specs.Plain.{IsPlainText, IsTextOver, packets_of}

-- Setups of the same fields have the same texts.
text_by_fields : (job : Job) (a b : Setup) → fields_of a ≡ fields_of b
    → (stations : List StationSite) (segments : List (List Decoded)) (tail : ℕ) (text : List ℕ)
    → IsTextOver job a stations segments tail text → IsTextOver job b stations segments tail text
text_by_fields (replay s st t c j) a b same stations segments tail text is = absurd is
text_by_fields (drill seed drilled seconds) a b same stations segments tail text is = absurd is
text_by_fields (check s st t c) a b same stations segments tail text is = is
text_by_fields (station s st c code) a b same stations segments tail text is =
    let lines = is.1 in (
      is.0,
      record {
        found = lines.found;
        found_at = lines.found_at;
        history = lines.history;
        history_is = history_by_fields a b same (length stations)
            (packets_of lines.found (packets_in (bodies_of segments))) lines.history
            lines.history_is;
        lines_are = lines.lines_are;
      },
      is.2,
    )

-- a file states one setup, as what it holds
one_setup : (a b : SetupFields) → ◌≡◌ {A = Result SetupFields SetupFault} (Ok a) (Ok b) → a ≡ b
one_setup a b same = cc

-- a file of stations has no two of one code
distinct_codes : (stations : List StationSite) (bytes : List ℕ) → IsStationFile stations bytes
    → AreCodesDistinct stations
distinct_codes stations bytes is = is.1.2.3.codes

pub one_text_of_files : TextLaws → StationsAreTold → OnePlainText
one_text_of_files laws told job setup_file station_file capture text other a b =
    let distinct = distinct_codes a.stations station_file a.stations_are in
    let setups : fields_of b.setup ≡ fields_of a.setup =
    one_setup (fields_of b.setup) (fields_of a.setup) (sym b.setup_is.1 ∙ a.setup_is.1) in
    let stations : b.stations ≡ a.stations =
    (told station_file).sites b.stations a.stations b.stations_are.1 a.stations_are.1 in
    let second : IsPlainText job b.setup a.stations capture other =
    subst (λ ss. IsPlainText job b.setup ss capture other) stations b.text_is in
    let over : IsTextOver job a.setup a.stations second.segments second.tail other =
    text_by_fields job b.setup a.setup setups a.stations second.segments second.tail other
    second.text_is in
    one_whole_text laws a.stations distinct job a.setup capture second.segments second.tail other
    text second.capture_is over a.text_is

pub appends_text : AppendsTextOfFiles
appends_text job setup_file station_file capture before after told tells =
    let done = tells.tells capture told.capture_is in (
      done.text,
      record {
        setup = tells.setup;
        stations = tells.stations;
        setup_is = tells.setup_is setup_file told.setup_is;
        stations_are = tells.stations_are station_file told.stations_are;
        text_is = done.text_is;
      },
      done.appended,
    )

pub begins_text : EachHasPlainText → BeginsTextOfFiles
begins_text each job setup_file station_file capture before after plain are told begins =
    let begun = begins.begun capture told.capture_is in
    let whole = each job begins.setup begins.stations capture plain begins.table are in (
      whole.0,
      record {
        setup = begins.setup;
        stations = begins.stations;
        setup_is = begins.setup_is setup_file told.setup_is;
        stations_are = begins.stations_are station_file told.stations_are;
        text_is = whole.1;
      },
      (begun.0, begun.1 whole.0 whole.1, begun.2),
    )
