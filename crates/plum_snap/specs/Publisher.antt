-- What a publisher has appended and published.
use Rattle.std.specs.Prelude.{Bool, false, List, []}
use Rattle.plum_base.specs.declared.entry.Entry.{Entry}
use Rattle.plum_snap.specs.Fronts.{PublisherId}

-- which publisher it is, all that was appended, the front of it that is published, and whether an
-- append was refused
pub record PublisherView : Type 0 where
  pub publisher : PublisherId
  pub appended : List Entry
  pub published : List Entry
  pub closed : Bool

-- one that has appended nothing
abbrev pub new_publisher : PublisherId → PublisherView
new_publisher publisher = record {
  publisher = publisher;
  appended = [];
  published = [];
  closed = false;
}
