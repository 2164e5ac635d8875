-- What a session has seen, and what a read leaves.
use Rattle.std.specs.Prelude.{◌≡◌, ℕ, List, [], length, map, replicate, None}
use mathlib.Core.List.{IsPrefix}
use Rattle.plum_base.specs.declared.answers.Reading.{Reading}
use Rattle.plum_base.specs.declared.entry.Entry.{Entry}
use Rattle.plum_base.specs.Sites.{SitesView, areas_of, targets_of}
use Rattle.plum_core.specs.Transcript.{IsReadingOver}
use Rattle.plum_snap.specs.Fronts.{PublisherId}
use Rattle.plum_snap.specs.Doors.{Rose}

-- whose list it reads, of which sites and area, the front that it has seen, its last reading, and
-- how often it was shut out
pub record SessionView : Type 0 where
  pub publisher : PublisherId
  pub sites : SitesView
  pub area : List ℕ
  pub seen : List Entry
  pub last : Reading
  pub shut : ℕ

-- the reading before the first: front 0, and every answer none
abbrev pub first_reading : SitesView → List ℕ → Reading
first_reading sites area = record {
  front = 0;
  answers = replicate (length (targets_of area sites.targets)) None;
}

-- a session that has seen nothing
abbrev pub new_session : PublisherId → SitesView → List ℕ → SessionView
new_session publisher sites area = record {
  publisher = publisher;
  sites = sites;
  area = area;
  seen = [];
  last = first_reading sites area;
  shut = 0;
}

-- one for each area of these sites, in order
abbrev pub new_sessions : PublisherId → SitesView → List SessionView
new_sessions publisher sites = map (new_session publisher sites) (areas_of sites.targets)

-- The session has read one front of the list. It begins with all that the session had seen or
-- learned, and the reading is that front's, for the targets of the area. The session has then seen
-- it.
pub record HasRead (before after : SessionView) (reading : Reading) : Type 0 where
  pub goes_on : IsPrefix before.seen after.seen
  pub over : IsReadingOver before.sites after.seen before.area reading
  pub rest : after ≡ record before { seen = after.seen; last = reading }

-- It was shut out, which was counted. All else is as before.
pub record WasShutOut (before after : SessionView) : Type 0 where
  pub rose : Rose before.shut after.shut
  pub rest : after ≡ record before { shut = after.shut }
