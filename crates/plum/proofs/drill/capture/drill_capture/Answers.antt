use Rattle.std.proofs.Common.{◌≡◌, ℕ, ◌+◌, ◌*◌, List, ap, ◌∙◌, arith}
use Rattle.std.specs.List.{flat_map, range_with_len}
use Rattle.plum.specs.Draws.{state_after}
use Rattle.plum.specs.DrillCapture.{PACKET_DRAWS, second_at, drill_capture}
use Rattle.plum.proofs.Drawing.{state_at_start, state_goes_on}
use Rattle.plum.proofs.Putting.{put_seconds}
use Rattle.plum.proofs.drill.capture.drill_capture.Goals as goal

pub loop-second-init : goal.loop-second-init
loop-second-init c =
    let none : 0 ≡ PACKET_DRAWS * c.args.stations * 0 = omega arith in
    record {
      bytes = c.in_ok-bytes.ensures;
      state = c.new-generator.ensures ∙ state_at_start c.args.seed
          ∙ ap (state_after c.args.seed) none;
    }

pub loop-second-preserved : goal.loop-second-preserved
loop-second-preserved c =
    let s = c.args.seed in
    let stations = c.args.stations in
    let k = c.loop-second.second in
    let so_far = c.loop-second.invariant in
    let put = c.in_ok-put_second.ensures in
    record {
      bytes = put.bytes ∙ put_seconds s stations k _ _ so_far.bytes
          (ap (λ (g : ℕ). second_at g 0 k stations) so_far.state);
      state = state_goes_on s _ _ (PACKET_DRAWS * stations * k) (PACKET_DRAWS * stations)
          (PACKET_DRAWS * stations * (k + 1)) so_far.state put.state (omega arith);
    }

pub returns : goal.returns
unfolding drill_capture
returns c =
    let stations = c.args.stations in
    let second_in : ℕ → List ℕ =
    λ t. second_at c.args.seed (PACKET_DRAWS * stations * t) t stations in
    let all : c.loop-second.second ≡ c.args.seconds = omega arith in
    c.loop-second.invariant.bytes
    ∙ ap (λ (n : ℕ). flat_map second_in (range_with_len 0 n)) all
