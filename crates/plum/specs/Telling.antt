-- A plain command at work: what it has told of the bodies so far.
use Rattle.std.specs.Prelude.{◌≡◌, ℕ, ⊤, List, [], ◌++◌, length, map}
use Rattle.std.specs.List.{flat_map}
use Rattle.plum_base.specs.declared.entry.Entry.{Entry}
use Rattle.plum_base.specs.declared.setup.Setup.{Setup}
use Rattle.plum_base.specs.declared.sites.StationSite.{StationSite}
use Rattle.plum_base.specs.Sites.{IsFoundAt}
use Rattle.plum_packet.specs.declared.bodies.Found.{Found}
use Rattle.plum_packet.specs.Bodies.{bodies_of, found_as, IsOfListed}
use Rattle.plum_packet.specs.Segments.{Decoded, packets_in, refused_in}
use Rattle.plum_text.specs.Lines.{plain_line, out_line}
use Rattle.plum_text.specs.Texts.{refused_lines}
use Rattle.plum.specs.declared.teller.Teller.{Teller}
use Rattle.plum.specs.declared.teller.Teller.TheVariants.{Watching, Counting}
use Rattle.plum.specs.Job.{Job, replay, station, check, drill}
use Rattle.plum.specs.Plain.{value_line, IsTextOver}
use Rattle.plum.specs.Tallied.{HasTallied, bodies_in}
use Rattle.plum.specs.Watched.{HasWatched}
use Rattle.plum.specs.Watched.{packets_in as packets_watched}

-- how many bodies it has counted
abbrev pub counted : Teller → ℕ
counted (Watching watch) = packets_watched watch
counted (Counting tally) = bodies_in tally

-- It counts over so many stations.
abbrev pub IsOver : Teller → ℕ → Type 0
IsOver (Watching watch) stations = ⊤
IsOver (Counting tally) stations = length tally.keys.items ≡ stations

-- It has a place for what was found: a packet is of a station that it counts over.
abbrev pub HasPlaceFor : Teller → Found → Type 0
HasPlaceFor (Watching watch) found = ⊤
HasPlaceFor (Counting tally) found = IsOfListed (length tally.keys.items) found

-- It is at work for this command, over these stations.
abbrev pub IsTellerOf : Teller → Job → List StationSite → Type 0
IsTellerOf (Watching watch) (replay setup stations_path targets capture journal) stations = ⊥
IsTellerOf (Watching watch) (station setup stations_path capture code) stations =
    IsFoundAt stations code watch.number
IsTellerOf (Watching watch) (check setup stations_path targets capture) stations = ⊥
IsTellerOf (Watching watch) (drill seed drilled seconds) stations = ⊥
IsTellerOf (Counting tally) (replay setup stations_path targets capture journal) stations = ⊥
IsTellerOf (Counting tally) (station setup stations_path capture code) stations = ⊥
IsTellerOf (Counting tally) (check setup stations_path targets capture) stations = ⊤
IsTellerOf (Counting tally) (drill seed drilled seconds) stations = ⊥

-- Of these bodies it has told this text.
abbrev pub HasToldText : Teller → Setup → List StationSite → List Decoded → List ℕ → Type 0
HasToldText (Watching watch) setup stations bodies text = (history : List Entry)
    × HasWatched watch setup (length stations) (packets_in bodies) history
    × (text ≡ flat_map plain_line (map value_line history))
HasToldText (Counting tally) setup stations bodies text = HasTallied tally (length stations) bodies
    × (text ≡ flat_map out_line (refused_lines (refused_in bodies)))

-- A record more was found, and this is told of it.
abbrev pub TellsOneMore : Teller → Teller → Found → List ℕ → Type 0
TellsOneMore old new found told = (setup : Setup) (stations : List StationSite) (number : ℕ)
    (bodies : List Decoded) (text : List ℕ) → IsOfListed (length stations) found
    → HasToldText old setup stations bodies text
    → HasToldText new setup stations (bodies ++ found_as number found) (text ++ told)

-- The capture has ended, after so many segments and before a tail of this length, and this is told
-- at its end.
abbrev pub TellsEnd : Teller → ℕ → ℕ → List ℕ → Type 0
TellsEnd teller count tail told = (job : Job) (setup : Setup) (stations : List StationSite)
    (segments : List (List Decoded)) (text : List ℕ) → IsTellerOf teller job stations
    → count ≡ length segments → HasToldText teller setup stations (bodies_of segments) text
    → IsTextOver job setup stations segments tail (text ++ told)

-- It has told nothing, of no bodies.
abbrev pub HasToldNothing : Teller → Setup → List StationSite → Type 0
HasToldNothing teller setup stations = HasToldText teller setup stations [] []
