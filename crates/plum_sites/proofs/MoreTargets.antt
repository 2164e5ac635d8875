-- One more target of a lawful list.
use Rattle.std.proofs.Common.{◌≡◌, ◌≢◌, ◌≤◌, ◌<◌, List, [], ◌∷◌, ◌++◌, length, get_or, Any, arith}
use Rattle.std.proofs.lemmas.List.{length_push}
use Rattle.std.proofs.lemmas.List.Elements.{All-push, Contains-get_or}
use Rattle.std.proofs.lemmas.List.Quantifiers.{all_pairs_push}
use Rattle.plum_base.specs.declared.sites.TargetSite.{TargetSite}
use Rattle.plum_base.specs.Levels.{IsFactor}
use Rattle.plum_base.specs.Sites.{IsPlace, areas_of, AreTargets}

pub targets_more : (xs : List TargetSite) (t : TargetSite) → AreTargets xs
    → ¬ Any (λ b. b.name ≡ t.name) xs → length xs < 8192
    → length (areas_of (xs ++ t ∷ [])) ≤ 64 → IsPlace t.at → IsFactor t.factor
    → AreTargets (xs ++ t ∷ [])
targets_more xs t lawful fresh room areas place factor = record {
  few = omega (arith, length_push xs t);
  in_range = All-push (λ t. IsPlace t.at × IsFactor t.factor) xs t lawful.in_range (place, factor);
  names = all_pairs_push (λ a b. a.name ≢ b.name) xs t lawful.names
      (λ k d l same. let w = Contains-get_or xs k d l in
      fresh (w.0, get_or xs k d, w.1, w.2, same));
  few_areas = areas;
}
