-- Statuses: their numbers and texts, and what they count (the project's own).
use Rattle.std.specs.Prelude.{⊤, ℕ, List, [], ◌++◌, codes, decimal}
use Rattle.plum_host.specs.declared.host.In.{In}
use Rattle.plum_host.specs.declared.host.In.TheVariants as inputs
use Rattle.plum_host.specs.Told.{HostView}
use Rattle.plum_host.specs.Faults.{HasRisen}
use Rattle.plum_host.specs.Counting.{CountsNothing, CountsRead, CountsWrite}
use Rattle.plum_table.specs.declared.fault.SetupFault.{SetupFault}
use Rattle.plum_table.specs.declared.fault.SetupFault.TheVariants.{NotToml, Missing, Kind, Range}
use Rattle.plum_table.specs.declared.fault.SetupFault.TheVariants.{Order}
use Rattle.plum_table.specs.Keys.{key_text}
use Rattle.plum_sites.specs.declared.fault.SiteFault.{SiteFault}
use Rattle.plum_sites.specs.declared.fault.SiteFault.TheVariants as faults
use Rattle.plum_replay.specs.declared.fault.ReplayFault.{ReplayFault}
use Rattle.plum_replay.specs.declared.fault.ReplayFault.TheVariants as replays
use Rattle.plum.specs.declared.status.SitesFile.{SitesFile}
use Rattle.plum.specs.declared.status.SitesFile.TheVariants as sites
use Rattle.plum.specs.declared.status.LimitOf.{LimitOf}
use Rattle.plum.specs.declared.status.LimitOf.TheVariants.{File, Records}
use Rattle.plum.specs.declared.status.Status.{Status}
use Rattle.plum.specs.declared.status.Status.TheVariants.{Done, Usage, Setup, Sites, ReadFault}
use Rattle.plum.specs.declared.status.Status.TheVariants.{WriteFault, Limit, NoMemory}

-- the number with which the program ends
abbrev pub number_of : Status → ℕ
number_of Done = 0
number_of Usage = 2
number_of (Setup fault) = 3
number_of (Sites file fault) = 4
number_of ReadFault = 5
number_of WriteFault = 6
number_of (Limit of_what) = 7
number_of NoMemory = 8

-- a fault of the setup: its name, and the key or the position that it tells
abbrev pub setup_fault_text : SetupFault → List ℕ
setup_fault_text NotToml = codes "S1"
setup_fault_text (Missing key) = codes "S2 " ++ key_text key
setup_fault_text (Kind key) = codes "S3 " ++ key_text key
setup_fault_text (Range key) = codes "S4 " ++ key_text key
setup_fault_text (Order position) = codes "S5 " ++ decimal position

-- a fault of a file of sites: its name, and the row that it tells
abbrev pub site_fault_text : SiteFault → List ℕ
site_fault_text faults.Header = codes "C1"
site_fault_text (faults.Columns row) = codes "C2 " ++ decimal row
site_fault_text (faults.Number row) = codes "C3 " ++ decimal row
site_fault_text (faults.Range row) = codes "C4 " ++ decimal row
site_fault_text (faults.Twice row) = codes "C5 " ++ decimal row
site_fault_text (faults.TooMany row) = codes "C6 " ++ decimal row

-- a file of sites, in words
abbrev pub sites_file_text : SitesFile → List ℕ
sites_file_text sites.Stations = codes "stations"
sites_file_text sites.Targets = codes "targets"

-- an input, in words
abbrev pub input_text : In → List ℕ
input_text inputs.Setup = codes "setup"
input_text inputs.Stations = codes "stations"
input_text inputs.Targets = codes "targets"
input_text inputs.Capture = codes "capture"
input_text inputs.Journal = codes "journal"
input_text inputs.Output = codes "output"

-- that of which there is too much, in words
abbrev pub limit_text : LimitOf → List ℕ
limit_text (File input) = input_text input
limit_text Records = codes "records"

-- a line with its line feed, or nothing
abbrev pub text_of : Status → List ℕ
text_of Done = []
text_of Usage = codes "plum: usage: replay SETUP STATIONS TARGETS CAPTURE JOURNAL; "
    ++ codes "station SETUP STATIONS CAPTURE CODE; "
    ++ codes "check SETUP STATIONS TARGETS CAPTURE; "
    ++ codes "drill SEED STATIONS SECONDS\n"
text_of (Setup fault) = codes "plum: setup " ++ setup_fault_text fault ++ codes "\n"
text_of (Sites file fault) =
    codes "plum: " ++ sites_file_text file ++ codes " " ++ site_fault_text fault ++ codes "\n"
text_of ReadFault = codes "plum: read fault\n"
text_of WriteFault = codes "plum: write fault\n"
text_of (Limit of_what) = codes "plum: limit " ++ limit_text of_what ++ codes "\n"
text_of NoMemory = codes "plum: no memory\n"

-- how a call ends whose replay stopped
abbrev pub status_of : ReplayFault → Status
status_of replays.Read = ReadFault
status_of replays.Write = WriteFault
status_of replays.Limit = Limit Records
status_of replays.NoMemory = NoMemory

-- What is counted where a call ends so: the one fault that ended it, and nothing else.
abbrev pub CountsEnd : Status → HostView → HostView → Type 0
CountsEnd ReadFault before after = CountsRead before after
CountsEnd WriteFault before after = CountsWrite before after
CountsEnd status before after = CountsNothing before after

-- No read and no write fails.
pub record MeetsNoFault (before after : HostView) : Type 0 where
  pub reads : ¬ HasRisen before.read_faults after.read_faults
  pub writes : ¬ HasRisen before.write_faults after.write_faults

-- It is an answer to lawful words where no read and no write fails.
abbrev pub IsAnswerWithoutFault : Status → Type 0
IsAnswerWithoutFault Usage = ⊥
IsAnswerWithoutFault ReadFault = ⊥
IsAnswerWithoutFault WriteFault = ⊥
IsAnswerWithoutFault status = ⊤

-- It is one where the files are lawful too: the work is done, or the capture has too many records,
-- or memory is short.
abbrev pub IsAnswerOverLawfulFiles : Status → Type 0
IsAnswerOverLawfulFiles Done = ⊤
IsAnswerOverLawfulFiles (Limit Records) = ⊤
IsAnswerOverLawfulFiles NoMemory = ⊤
IsAnswerOverLawfulFiles status = ⊥
