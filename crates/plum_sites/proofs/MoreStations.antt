-- One more station of a lawful list.
use Rattle.std.proofs.Common.{◌≡◌, ◌≢◌, ◌<◌, List, [], ◌∷◌, ◌++◌, length, get_or, Any, arith}
use Rattle.std.proofs.lemmas.List.{length_push}
use Rattle.std.proofs.lemmas.List.Elements.{All-push, Contains-get_or}
use Rattle.std.proofs.lemmas.List.Quantifiers.{all_pairs_push}
use Rattle.plum_base.specs.declared.sites.StationSite.{StationSite}
use Rattle.plum_base.specs.Levels.{IsFactor}
use Rattle.plum_base.specs.Sites.{IsPlace, AreStations}

pub stations_more : (xs : List StationSite) (s : StationSite) → AreStations xs
    → ¬ Any (λ b. b.code ≡ s.code) xs → length xs < 4096 → IsPlace s.at → IsFactor s.factor
    → AreStations (xs ++ s ∷ [])
stations_more xs s lawful fresh room place factor = record {
  few = omega (arith, length_push xs s);
  in_range = All-push (λ s. IsPlace s.at × IsFactor s.factor) xs s lawful.in_range (place, factor);
  codes = all_pairs_push (λ a b. a.code ≢ b.code) xs s lawful.codes
      (λ k d l same. let w = Contains-get_or xs k d l in
      fresh (w.0, get_or xs k d, w.1, w.2, same));
}
