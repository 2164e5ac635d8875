-- The sessions of an opening are of its publisher.
use Rattle.std.proofs.Common.{◌≡◌, ℕ, List, [], ◌∷◌, ◌++◌, map, Option, Some, None, IfSome}
use Rattle.std.specs.Option.{option_to_list}
use Rattle.plum_base.specs.Sites.{SitesView}
use Rattle.plum_snap.specs.Fronts.{PublisherId}
use Rattle.plum_snap.specs.Sessions.{SessionView, new_session}

module _ (p : PublisherId) (sites : SitesView) where
  -- the sessions of some areas
  abbrev are_of : List (List ℕ) → List SessionView
  are_of areas = map (new_session p sites) areas

  -- the one that is taken off the end
  pub taken : (areas : List (List ℕ)) (rest : List SessionView) (o : Option SessionView)
      → are_of areas ≡ rest ++ option_to_list o → IfSome o (λ s. s.publisher ≡ p)
  taken areas rest None is = tt
  taken [] [] (Some s) is = absurd cc
  taken [] (r ∷ rest) (Some s) is = absurd cc
  taken (a ∷ areas) [] (Some s) is = cc is
  taken (a ∷ areas) (r ∷ rest) (Some s) is = taken areas rest (Some s) (cc is)

  -- and the one before
  pub taken_before : (areas : List (List ℕ)) (rest : List SessionView) (o last : Option SessionView)
      → are_of areas ≡ (rest ++ option_to_list o) ++ option_to_list last
      → IfSome o (λ s. s.publisher ≡ p)
  taken_before areas rest None last is = tt
  taken_before [] [] (Some s) last is = absurd cc
  taken_before [] (r ∷ rest) (Some s) last is = absurd cc
  taken_before (a ∷ areas) [] (Some s) last is = cc is
  taken_before (a ∷ areas) (r ∷ rest) (Some s) last is =
      taken_before areas rest (Some s) last (cc is)
