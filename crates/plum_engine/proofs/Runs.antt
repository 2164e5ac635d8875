-- A run, one more packet on.
use Rattle.std.proofs.Common.{◌≡◌, Bool, true, false, List, [], ◌∷◌, ◌++◌, sym, ap, append-nil}
use Rattle.std.proofs.lemmas.Grind.{flat_map-append}
use Rattle.std.proofs.lemmas.List.Elements.{All-nil}
use Rattle.std.specs.Prelude.{if◌then◌else◌}
use Rattle.plum_base.specs.declared.wave.Sample.{Sample}
use Rattle.plum_engine.specs.Run.{samples_since_gap}
use Rattle.plum_engine.proofs.Gaps.{since_gap-is, since_gap-continuing}

module _ (given : List (Bool × List Sample)) (wave : List Sample) where
  -- A fresh packet begins a run.
  samples_since_gap-fresh : samples_since_gap (given ++ (true, wave) ∷ []) ≡ wave
  samples_since_gap-fresh = rw (since_gap-is given wave [] (All-nil _)) (append-nil wave)

  -- Any other carries it on.
  samples_since_gap-continuing :
      samples_since_gap (given ++ (false, wave) ∷ []) ≡ samples_since_gap given ++ wave
  samples_since_gap-continuing =
      rw (since_gap-continuing, flat_map-append)
      (ap (λ xs. samples_since_gap given ++ xs) (append-nil wave))

  -- The packet's samples join the run before, of which a fresh one leaves nothing.
  pub samples_since_gap-more : (fresh : Bool)
      → (if fresh then [] else samples_since_gap given) ++ wave
      ≡ samples_since_gap (given ++ (fresh, wave) ∷ [])
  samples_since_gap-more true = sym samples_since_gap-fresh
  samples_since_gap-more false = sym samples_since_gap-continuing
