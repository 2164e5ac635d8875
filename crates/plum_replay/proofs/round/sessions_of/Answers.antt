use Rattle.std.proofs.Common.{◌≡◌, true, [], ◌∷◌, ◌++◌, sym, ap, ◌∙◌}
use Rattle.std.proofs.lemmas.Bool.{not-false}
use Rattle.std.proofs.lemmas.List.{map-append}
use Rattle.std.proofs.lemmas.List.Elements.{All-push}
use Rattle.plum_replay.specs.Pieces.{session_in}
use Rattle.plum_replay.proofs.round.sessions_of.Goals as goal

pub loop-watch-preserved : goal.loop-watch-preserved
loop-watch-preserved c =
    let before = c.loop-watch.invariant in
    let watch = c.in-Some.watch in
    record {
      sessions =
          c.in_ok-push.ensures.items ∙ ap (λ ss. ss ++ watch.session ∷ []) before.sessions
          ∙ sym (map-append session_in c.loop-watch.yielded (watch ∷ []));
      done =
          All-push (λ w. w.done ≡ true) c.loop-watch.yielded watch before.done
          (not-false _ c.if-not-watch.false);
    }
