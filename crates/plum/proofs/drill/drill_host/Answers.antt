use Rattle.std.proofs.Common.{◌≡◌, ℕ, List, [], None, ap, ◌∙◌}
use Rattle.std.proofs.lemmas.Result.{IfOk-weaker}
use Rattle.plum_host.specs.declared.memory.MemFiles.{MemFiles}
use Rattle.plum_host.specs.Memory.{host_of}
use Rattle.plum.specs.DrillSetup.{setup_text}
use Rattle.plum.specs.DrillSites.{stations_text, targets_text}
use Rattle.plum.proofs.drill.drill_host.Goals as goal

-- four files, an earlier journal and an earlier output
files : List ℕ → List ℕ → List ℕ → List ℕ → List ℕ → List ℕ → MemFiles
files setup stations targets capture journal output = record {
  setup = setup;
  stations = stations;
  targets = targets;
  capture = capture;
  journal = journal;
  output = output;
}

same_host : (s t u v j o s' t' u' v' : List ℕ) → s ≡ s' → t ≡ t' → u ≡ u' → v ≡ v'
    → j ≡ [] → o ≡ []
    → host_of (files s t u v j o) None None ≡ host_of (files s' t' u' v' [] []) None None
unfolding files
same_host s t u v j o s' t' u' v' es et eu ev ej eo = cc

pub returns : goal.returns
unfolding files
returns c =
    let setup = c.in_ok-setup_text.ensures ∙ ap setup_text c.drill_setup-setup.ensures in
    let stations = c.in_ok-stations_text.ensures
    ∙ ap stations_text (c.as_slice.ensures.value ∙ c.in_ok-sites.ensures) in
    let targets = c.in_ok-targets_text.ensures
    ∙ ap targets_text (c.as_slice-2.ensures.value ∙ c.in_ok-targets.ensures) in
    IfOk-weaker c.sound.result _ _
    (λ host is. is ∙ same_host _ _ _ _ _ _ _ _ _ _ setup stations targets
    c.in_ok-drill_capture.ensures c.in_ok-new.ensures c.in_ok-new-2.ensures)
    c.sound.ensures
