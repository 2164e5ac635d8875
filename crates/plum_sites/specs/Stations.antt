-- The station file (the project's own format).
use Rattle.std.specs.Prelude.{◌≡◌, ◌≢◌, ℕ, ℤ, ◌-◌, ◌≤◌, ◌≤ℤ◌, pos, List, [], ◌∷◌, length, codes}
use Rattle.std.specs.Prelude.{All}
use Rattle.plum_base.specs.declared.sites.StationSite.{StationSite}
use Rattle.plum_base.specs.Levels.{IsFactor}
use Rattle.plum_base.specs.Sites.{IsPlace, CODES, MOST_STATIONS, IsCodeTaken, AreStations}
use Rattle.plum_sites.specs.declared.fault.SiteFault.{SiteFault}
use Rattle.plum_sites.specs.declared.fault.SiteFault.TheVariants as faults
use Rattle.plum_sites.specs.Fields.{Spells, IsNumber}
use Rattle.std.specs.List.{AllZip}
use Rattle.plum_sites.specs.Records.{AreRecordsOf}
use Rattle.plum_sites.specs.Files.{StateSites, HasFault}

-- the columns
abbrev pub station_header : List (List ℕ)
station_header = codes "code" ∷ codes "x" ∷ codes "y" ∷ codes "factor" ∷ []

-- a code stands in two bytes of a packet
abbrev pub IsCode : ℤ → Type 0
IsCode code = (pos 0 ≤ℤ code) × (code ≤ℤ pos (CODES - 1))

-- each number of a row is in its range
abbrev pub AreStationNumbers : ℤ → ℤ → ℤ → ℤ → Type 0
AreStationNumbers code x y factor =
    IsCode code × IsPlace (record { x = x; y = y }) × IsFactor (record { 0 = factor })

-- a row states a station: its fields spell the station's numbers, each in its range
pub record StatesStation (row : List (List ℕ)) (s : StationSite) : Type 0 where
  pub numbers : AllZip Spells row (pos s.code ∷ s.at.x ∷ s.at.y ∷ s.factor.0 ∷ [])
  pub ranges : AreStationNumbers (pos s.code) s.at.x s.at.y s.factor.0

-- what is wrong first with the n-th row, behind rows that state the stations before
abbrev pub IsFirstStationFault : List StationSite → List (List ℕ) → ℕ → SiteFault → Type 0
IsFirstStationFault before row n faults.Header = ⊥
IsFirstStationFault before row n (faults.Columns k) =
    (k ≡ n) × (length row ≢ length station_header)
IsFirstStationFault before row n (faults.Number k) =
    (k ≡ n) × (length row ≡ length station_header) × ¬ (All IsNumber row)
IsFirstStationFault before row n (faults.Range k) =
    (k ≡ n) × (code x y factor : ℤ) × AllZip Spells row (code ∷ x ∷ y ∷ factor ∷ [])
    × ¬ (AreStationNumbers code x y factor)
IsFirstStationFault before row n (faults.Twice k) =
    (k ≡ n) × (s : StationSite) × StatesStation row s × IsCodeTaken before s.code
IsFirstStationFault before row n (faults.TooMany k) =
    (k ≡ n) × (s : StationSite) × StatesStation row s × ¬ (IsCodeTaken before s.code)
    × (MOST_STATIONS ≤ length before)

-- records that state these stations
abbrev pub StateStations : List (List (List ℕ)) → List StationSite → Type 0
StateStations records stations =
    StateSites station_header StatesStation AreStations records stations

-- what is wrong first with records
abbrev pub HaveStationFault : List (List (List ℕ)) → SiteFault → Type 0
HaveStationFault records fault =
    HasFault station_header StatesStation AreStations IsFirstStationFault records fault

-- the bytes of a file that states these stations
abbrev pub AreStationsOf : List ℕ → List StationSite → Type 0
AreStationsOf bytes stations =
    (records : List (List (List ℕ))) × AreRecordsOf bytes records × StateStations records stations

-- what is wrong first with the bytes of a file
abbrev pub IsStationFaultOf : List ℕ → SiteFault → Type 0
IsStationFaultOf bytes fault =
    (records : List (List (List ℕ))) × AreRecordsOf bytes records × HaveStationFault records fault
