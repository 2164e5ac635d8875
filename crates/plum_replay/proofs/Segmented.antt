-- A replay that reads a capture segment by segment.
use Rattle.std.proofs.Common.{◌≡◌, ◌≢◌, ℕ, List, [], ◌∷◌, ◌++◌, Option, Some, inl}
use Rattle.std.proofs.Common.{sym, subst, append-nil}
use Rattle.plum_base.specs.declared.setup.Setup.{Setup}
use Rattle.plum_base.specs.Sites.{SitesView}
use Rattle.plum_host.specs.declared.host.In.TheVariants.{Capture}
use Rattle.plum_host.specs.declared.host.To.TheVariants.{Out, Journal}
use Rattle.plum_host.specs.Frames.{LeavesInputs, LeavesOutputs}
use Rattle.plum_host.specs.Told.{HostView}
use Rattle.plum_packet.specs.declared.records.Progress.TheVariants.{Open, Ended, Over}
use Rattle.plum_packet.specs.declared.segment.Segment.{Segment}
use Rattle.plum_packet.specs.Reading.{MOST_RECORDS, HasGiven, IsGiven, GivesSegment, HoldsBodies}
use Rattle.plum_packet.specs.Reading.{IsReadToEnd, TakesRecords}
use Rattle.plum_packet.specs.Records.{RecordsView, tail_of}
use Rattle.plum_packet.specs.Segments.{Decoded}
use Rattle.plum_core.specs.Laws.{LegalAtStart}
use Rattle.plum_centre.specs.declared.centre.Centre.{Centre}
use Rattle.plum_centre.specs.Centre.{CentreId}
use Rattle.plum_replay.specs.declared.progress.Counted.{Counted}
use Rattle.plum_replay.specs.declared.progress.Progress.{Progress}
use Rattle.plum_replay.specs.Begun.{AreTaken, AppendsBegun}
use Rattle.plum_replay.specs.Written.{HasWritten, WritesCapture}
use Rattle.plum_replay.proofs.Capturing.{given_stay_cut, given_are_taken}
use Rattle.plum_replay.proofs.Stopping.{stops_at_first, stops_between, begun_from}
use Rattle.plum_replay.proofs.Writings.{appends-same, written-stays, written-from}

-- Of this capture segments were given so far.
pub record HasGone (sites : SitesView) (reader : RecordsView) (after : HostView)
    (capture : List ℕ) : Type 0 where
  pub segments : List (List Decoded)
  pub given : IsGiven sites.stations capture segments reader (after.left Capture)

-- One more was given.
pub goes_on : (sites : SitesView) (capture : List ℕ) (segments : List (List Decoded))
    (old reader : RecordsView) (left : Option (List ℕ)) (between now : HostView)
    (segment : Segment) → HasGiven sites.stations capture segments old left
    → GivesSegment sites.stations old left reader (between.left Capture) segment
    → LeavesInputs between now → HasGone sites reader now capture
goes_on sites capture segments old reader left between now segment was gives inputs =
    let more = gives capture segments was in
    record {
      segments = segments ++ more.0 ∷ [];
      given = subst (IsGiven sites.stations capture (segments ++ more.0 ∷ []) reader)
          (sym (inputs Capture)) more.2;
    }

-- Segments were given so far, and their texts are written, but for the section of
-- the last one's mark.
pub record HasRead (id : CentreId) (setup : Setup) (sites : SitesView) (progress : Progress)
    (counted : Counted) (centre : Centre) (reader : RecordsView) (before after : HostView)
    (capture : List ℕ) : Type 0 where
  pub done : List (List Decoded)
  pub last : List Decoded
  pub written : HasWritten id setup sites done last progress counted centre before after
  pub given : IsGiven sites.stations capture (done ++ last ∷ []) reader (after.left Capture)

module _ (id : CentreId) (setup : Setup) (sites : SitesView) (capture : List ℕ)
    (first : HostView) (told : first.left Capture ≡ Some capture) where
  -- Nothing was given yet.
  abbrev given_none : RecordsView → Type 0
  given_none reader = HasGiven sites.stations capture [] reader (Some capture)

  module _ (old reader : RecordsView) (start : given_none old) (between : HostView)
      (same : LeavesOutputs first between) where
    start_told : HasGiven sites.stations capture [] old (first.left Capture)
    start_told = subst (HasGiven sites.stations capture [] old) (sym told) start

    -- where the first segment is not given
    pub stops_unread : LegalAtStart
        → TakesRecords old (first.left Capture) reader (between.left Capture)
        → AppendsBegun setup sites capture (between.left Capture) first between
    stops_unread legal takes =
        stops_at_first setup sites capture (between.left Capture) legal []
        (inl (given_stay_cut sites.stations capture [] old (first.left Capture) reader
        (between.left Capture) start_told takes))
        first between (same Journal) (same Out)

    module _ (segment : Segment)
        (gives : GivesSegment sites.stations old (first.left Capture) reader
        (between.left Capture) segment) where
      -- where it is
      abbrev first_given : (decoded : List Decoded) × HoldsBodies segment decoded
          × IsGiven sites.stations capture (decoded ∷ []) reader (between.left Capture)
      first_given = gives capture [] start_told

      -- and is replayed
      pub read-first : (progress : Progress) (counted : Counted) (centre : Centre)
          (now : HostView)
          → ((decoded : List Decoded) → HoldsBodies segment decoded
          → HasWritten id setup sites [] decoded progress counted centre between now)
          → LeavesInputs between now
          → HasRead id setup sites progress counted centre reader first now capture
      read-first progress counted centre now writes inputs =
          let given = first_given in
          record {
            done = [];
            last = given.0;
            written = written-from id setup sites [] given.0 progress counted centre first between
                now (writes given.0 given.1) same;
            given = subst (IsGiven sites.stations capture (given.0 ∷ []) reader)
                (sym (inputs Capture)) given.2;
          }

      -- or is not replayed whole
      pub stops_first : reader.progress ≢ Over → reader.limit ≡ MOST_RECORDS → (now : HostView)
          → LeavesInputs between now
          → ((decoded : List Decoded) → HoldsBodies segment decoded
          → AreTaken sites.stations capture (now.left Capture) (decoded ∷ [])
          → AppendsBegun setup sites capture (now.left Capture) between now)
          → AppendsBegun setup sites capture (now.left Capture) first now
      stops_first within limit now inputs stops =
          let given = first_given in
          let left = now.left Capture in
          let taken : AreTaken sites.stations capture left (given.0 ∷ []) =
          subst (λ l. AreTaken sites.stations capture l (given.0 ∷ [])) (sym (inputs Capture))
          (given_are_taken sites.stations capture (given.0 ∷ []) reader (between.left Capture)
          within limit given.2) in
          begun_from setup sites capture left first between now
          (appends-same (first.held Journal) (between.held Journal) (same Journal)) (same Out)
          (stops given.0 given.1 taken)

  module _ (progress : Progress) (counted : Counted) (centre : Centre) (old : RecordsView)
      (before : HostView)
      (was : HasRead id setup sites progress counted centre old first before capture) where
    -- Behind the last one the capture is read to its end.
    pub read_all : old.progress ≡ Ended → old.limit ≡ MOST_RECORDS
        → WritesCapture id setup sites progress counted (tail_of old) centre first before capture
    read_all ended limit =
        let all = was.given.last ended in
        record {
          done = was.done;
          last = was.last;
          written = was.written;
          capture_is = all.0;
          read = subst (λ n. IsReadToEnd n capture (before.left Capture)) limit all.1;
        }

    module _ (reading : old.progress ≡ Open) (reader : RecordsView) (between : HostView)
        (same : LeavesOutputs before between) where
      -- what was given
      abbrev given_before : HasGiven sites.stations capture (was.done ++ was.last ∷ []) old
          (before.left Capture)
      given_before = was.given.more reading

      -- where the next segment is not given
      pub stops_reading : TakesRecords old (before.left Capture) reader (between.left Capture)
          → AppendsBegun setup sites capture (between.left Capture) first between
      stops_reading takes =
          let so_far = was.done ++ was.last ∷ [] in
          let left = between.left Capture in
          stops_between setup sites capture left id was.done was.last progress counted centre first
          before was.written []
          (subst (AreTaken sites.stations capture left) (sym (append-nil so_far))
          (inl (given_stay_cut sites.stations capture so_far old (before.left Capture) reader left
          given_before takes)))
          between (same Journal) (same Out)

      module _ (segment : Segment)
          (gives : GivesSegment sites.stations old (before.left Capture) reader
          (between.left Capture) segment) where
        -- where it is
        abbrev next_given : (decoded : List Decoded) × HoldsBodies segment decoded
            × IsGiven sites.stations capture ((was.done ++ was.last ∷ []) ++ decoded ∷ []) reader
            (between.left Capture)
        next_given = gives capture (was.done ++ was.last ∷ []) given_before

        -- what was written still is
        written_before : HasWritten id setup sites was.done was.last progress counted centre first
            between
        written_before = written-stays id setup sites was.done was.last progress counted centre
            first before between was.written same

        -- and is replayed
        pub read-more : (after : Progress) (next : Counted) (centre_after : Centre)
            (now : HostView)
            → ((decoded : List Decoded)
            → HasWritten id setup sites was.done was.last progress counted centre first between
            → HoldsBodies segment decoded
            → HasWritten id setup sites (was.done ++ was.last ∷ []) decoded after next centre_after
            first now)
            → LeavesInputs between now
            → HasRead id setup sites after next centre_after reader first now capture
        read-more after next centre_after now writes inputs =
            let given = next_given in
            let so_far = was.done ++ was.last ∷ [] in
            record {
              done = so_far;
              last = given.0;
              written = writes given.0 written_before given.1;
              given = subst (IsGiven sites.stations capture (so_far ++ given.0 ∷ []) reader)
                  (sym (inputs Capture)) given.2;
            }

        -- or is not replayed whole
        pub stops_next : reader.progress ≢ Over → reader.limit ≡ MOST_RECORDS → (now : HostView)
            → LeavesInputs between now
            → ((decoded : List Decoded)
            → HasWritten id setup sites was.done was.last progress counted centre first between
            → HoldsBodies segment decoded
            → AreTaken sites.stations capture (now.left Capture)
            ((was.done ++ was.last ∷ []) ++ decoded ∷ [])
            → AppendsBegun setup sites capture (now.left Capture) first now)
            → AppendsBegun setup sites capture (now.left Capture) first now
        stops_next within limit now inputs stops =
            let given = next_given in
            let all = (was.done ++ was.last ∷ []) ++ given.0 ∷ [] in
            stops given.0 written_before given.1
            (subst (λ l. AreTaken sites.stations capture l all) (sym (inputs Capture))
            (given_are_taken sites.stations capture all reader (between.left Capture) within
            limit given.2))
