-- A centre: its lanes, its feeder and its sessions (the project's own).
use Rattle.std.specs.Prelude.{◌≡◌, ℕ, ◌<◌, List, [], length, slice_index_or}
use Rattle.plum_base.specs.declared.setup.Setup.{Setup}
use Rattle.plum_base.specs.Sites.{SitesView, areas_of}
use Rattle.plum_lanes.specs.Opening.{Opening, basis_of}
use Rattle.plum_lanes.specs.Rounds.{AreWhole, AreNew}
use Rattle.plum_snap.specs.Fronts.{PublisherId}
use Rattle.plum_snap.specs.Sessions.{SessionView, new_sessions}
use Rattle.plum_centre.specs.declared.centre.Centre.{Centre}
use Rattle.plum_centre.specs.Feeder.{new_feeder}

-- Which centre it is: the opening of its lanes, the publisher of its board, and its sites.
pub record CentreId : Type 0 where
  pub opening : Opening
  pub publisher : PublisherId
  pub sites : SitesView

-- It is one of this setup and these sites.
pub record IsOf (setup : Setup) (sites : SitesView) (id : CentreId) : Type 0 where
  pub basis_is : id.opening.basis ≡ basis_of setup sites
  pub sites_are : id.sites ≡ sites

-- The session reads what this centre publishes, for the targets of this area.
pub record IsSessionOf (id : CentreId) (name : List ℕ) (session : SessionView) : Type 0 where
  pub publisher_is : session.publisher ≡ id.publisher
  pub sites_are : session.sites ≡ id.sites
  pub area_is : session.area ≡ name

-- These are the sessions of the centre: one for each area, in order.
pub record AreSessions (id : CentreId) (sessions : List SessionView) : Type 0 where
  pub all : length sessions ≡ length (areas_of id.sites.targets)
  pub each : (a : ℕ) (d : SessionView) → a < length sessions
      → IsSessionOf id (slice_index_or (areas_of id.sites.targets) a [])
      (slice_index_or sessions a d)

-- It is whole: its lanes are all the lanes of its feeder's queue, each once and in order, and its
-- sessions are those of its feeder's publisher, in the order of the areas.
pub record IsWhole (id : CentreId) (centre : Centre) : Type 0 where
  pub lanes_are : AreWhole id.opening centre.lanes.items centre.feeder.gather
  pub publisher_is : centre.feeder.publisher ≡ id.publisher
  pub sessions_are : AreSessions id centre.sessions.items

-- It is whole and new: nothing is taken, sent, gathered, published or read.
pub record IsNew (id : CentreId) (centre : Centre) : Type 0 where
  pub whole : IsWhole id centre
  pub lanes_new : AreNew id.opening centre.lanes.items centre.feeder.gather
  pub feeder_new : centre.feeder ≡ new_feeder centre.feeder.gather id.publisher
  pub sessions_new : centre.sessions.items ≡ new_sessions id.publisher id.sites
