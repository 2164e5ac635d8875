-- What is gathered of lanes in which nothing waits.
use Rattle.std.proofs.Common.{◌<◌, [], ◌∷◌, ◌++◌, length, map, append-nil}
use Rattle.std.proofs.Common.{slice_index_or, sym, ◌∙◌, ap, subst, arith}
use Rattle.std.specs.Option.{option_to_list}
use Rattle.plum_core.specs.History.{packet_of}
use Rattle.plum_lanes.specs.declared.lanes.Lane.{Lane}
use Rattle.plum_lanes.specs.Laws.{GatheredAreKept}
use Rattle.plum_lanes.specs.Lanes.{sent}

-- Each lane sent the kept ones of its packets, and what it sent is gathered.
pub gathered_kept : GatheredAreKept
gathered_kept opening packets [] gather long have free all i less = absurd (omega arith)
gathered_kept opening packets (first ∷ lanes) gather long have free all i less =
    let within : i < length (first ∷ lanes) = subst (λ n. i < n) (sym long) less in
    let lane : Lane = slice_index_or (first ∷ lanes) i first in
    let nothing = ap (λ waiting. sent lane ++ option_to_list waiting) (free i first within)
    ∙ append-nil (sent lane) in
    ap (map packet_of) (sym (all i first within) ∙ sym nothing)
    ∙ (have i first within).backlog.kept
