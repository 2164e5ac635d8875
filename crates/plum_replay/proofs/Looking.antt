-- What sessions have read in a round, once they learned of what is published.
use Rattle.std.proofs.Common.{◌≡◌, ℕ, List, [], length, take, Some, sym, ap}
use Rattle.std.proofs.Common.{subst, ◌∙◌, arith, length-append, slice_index_or, refl, ◌+◌}
use Rattle.std.proofs.Common.{Option, None}
use Rattle.std.proofs.lemmas.List.{take_at, length-map}
use Rattle.std.proofs.lemmas.Option.{slice_get_within, get_or_from_slice_get, slice_get-map}
use Rattle.std.specs.Option.{option_map}
use Rattle.std.specs.Prelude.{slice_get, All}
use mathlib.Core.List.{IsPrefix}
use Rattle.plum_base.specs.declared.answers.Reading.{Reading}
use Rattle.plum_base.specs.declared.entry.Entry.{Entry}
use Rattle.plum_base.specs.Sites.{SitesView, areas_of, targets_of}
use Rattle.plum_core.specs.Transcript.{ArePredictions, IsReadingOver, IsReadingFrom}
use Rattle.plum_core.specs.Transcript.{AreReadingsFrom}
use Rattle.plum_snap.specs.Sessions.{SessionView}
use Rattle.plum_centre.specs.Centre.{CentreId, AreSessions}
use Rattle.plum_replay.specs.Between.{last_readings}
use Rattle.plum_replay.specs.Learning.{HaveLearned}
use Rattle.plum_replay.specs.Rounds.{HaveLooked}
use Rattle.plum_replay.proofs.Lists.{AllZip-by_index}

-- A reading over a front is one from what begins it.
reading_from : (sites : SitesView) (least seen all : List Entry) (area : List ℕ)
    (reading : Reading) → IsPrefix least seen → IsPrefix seen all
    → IsReadingOver sites seen area reading → IsReadingFrom sites (length least) all area reading
reading_from sites least seen all area reading begins ends over =
    let longer : length seen ≡ length least + length begins.0 =
    ap length (sym begins.1) ∙ length-append least begins.0 in
    let within : length all ≡ length seen + length ends.0 =
    ap length (sym ends.1) ∙ length-append seen ends.0 in
    let front : take reading.front all ≡ seen =
    ap (take reading.front) (sym ends.1) ∙ take_at seen ends.0 reading.front (sym over.front) in
    record {
      least_is = omega (arith, over.front, longer);
      within = omega (arith, over.front, within);
      answers = subst (λ h. ArePredictions sites.stations h (targets_of area sites.targets)
          reading.answers) (sym front) over.answers;
    }

-- what a map has at a place
mapped_at : {X Y : Type 0} (f : X → Y) (o : Option X) (y : Y) → option_map f o ≡ Some y
    → (x : X) × (o ≡ Some x) × (f x ≡ y)
mapped_at f None y e = absurd cc
mapped_at f (Some x) y e = (x, refl, cc)

module _ (id : CentreId) (least all : List Entry) (first looked learned : List SessionView)
    (are : AreSessions id first) (seen : All (λ s. s.seen ≡ least) first)
    (looking : HaveLooked first looked) (learning : HaveLearned all looked learned) where
  -- so has the session of an area
  reads_from : (a : ℕ) (area : List ℕ) (reading : Reading)
      → slice_get (areas_of id.sites.targets) a ≡ Some area
      → slice_get (last_readings learned) a ≡ Some reading
      → IsReadingFrom id.sites (length least) all area reading
  reads_from a area reading named found =
      let last_of : SessionView → Reading = λ s. s.last in
      let at = mapped_at last_of (slice_get learned a) reading
      (sym (slice_get-map last_of learned a) ∙ found) in
      let x = at.0 in
      let here : slice_index_or learned a x ≡ x = get_or_from_slice_get learned a x x at.1 in
      let within = slice_get_within learned a x at.1 in
      let l = slice_index_or looked a x in
      let f = slice_index_or first a x in
      let learns = learning.each a x (omega (arith, learning.long)) in
      let looks = looking.each a x (omega (arith, learning.long, looking.long)) in
      let is = are.each a x (omega (arith, learning.long, looking.long)) in
      let name : f.area ≡ area =
      is.area_is ∙ get_or_from_slice_get (areas_of id.sites.targets) a area [] named in
      let begins : IsPrefix least l.seen =
      subst (λ es. IsPrefix es l.seen)
      (seen a x (omega (arith, learning.long, looking.long))) looks.goes_on in
      let over : IsReadingOver id.sites l.seen area l.last =
      subst (λ n. IsReadingOver id.sites l.seen n l.last) name
      (subst (λ (s : SitesView). IsReadingOver s l.seen f.area l.last) is.sites_are looks.over) in
      let same : l.last ≡ reading =
      sym (ap last_of learns.after_is) ∙ ap last_of here ∙ at.2 in
      subst (IsReadingFrom id.sites (length least) all area) same
      (reading_from id.sites least l.seen all area l.last begins learns.goes_on over)

  -- Each session has read from what it had seen.
  pub readings_from : AreReadingsFrom id.sites (length least) all (last_readings learned)
  readings_from =
      AllZip-by_index (IsReadingFrom id.sites (length least) all) (areas_of id.sites.targets)
      (last_readings learned)
      (length-map learned (λ s. s.last) ∙ learning.long ∙ looking.long ∙ are.all) reads_from
