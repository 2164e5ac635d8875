-- Fronts of a publisher's one list (the project's own).
use Rattle.std.specs.Prelude.{◌≡◌, ℕ, ◌^◌, List, ◌++◌, length, drop}
use mathlib.Core.List.{IsPrefix}
use Rattle.logbook.specs.Pages.{Book}
use Rattle.plum_base.specs.declared.entry.Entry.{Entry}

-- the most entries of a list
abbrev pub MOST_ENTRIES : ℕ
MOST_ENTRIES = 2 ^ 33

-- Which publisher it is: its list, and the limit up to which the list is published. All fronts
-- with one of these are of one list.
pub record PublisherId : Type 0 where
  pub list : Book
  pub limit : Book

-- which list it is, and the entries of a front of it
pub record FrontView : Type 0 where
  pub list : Book
  pub entries : List Entry

-- whose list it is, and the entries of a front that was published
pub record ReceiptView : Type 0 where
  pub publisher : PublisherId
  pub entries : List Entry

-- the receipt of a front that this publisher has published
abbrev pub receipt_of : PublisherId → List Entry → ReceiptView
receipt_of publisher published = record { publisher = publisher; entries = published }

-- The later list is the earlier with some entries more. (It is said in full, so that a type can
-- keep it.)
abbrev pub Extends : List Entry → List Entry → Type 0
Extends earlier later = later ≡ earlier ++ drop (length earlier) later

-- Who has published a list shows that these entries are a front of it, and stays as it was.
pub record ShowsFront {A : Type 0} (published entries : List Entry) (before after : A)
    : Type 0 where
  pub front : IsPrefix entries published
  pub same : after ≡ before
