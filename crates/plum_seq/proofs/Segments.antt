-- The kept packets, segment by segment.
use Rattle.std.proofs.Common.{◌≡◌, List, [], ◌∷◌, ◌++◌, length, refl, sym, ◌∙◌, ap, suc}
use Rattle.std.proofs.Common.{append-nil, append_assoc}
use Rattle.std.specs.List.{flat_map}
use Rattle.plum_base.specs.declared.packet.Packet.{Packet}
use Rattle.plum_seq.specs.Keys.{kept_after, kept_in_segments_after}

-- as many lists as segments
pub length-kept_in_segments : (earlier : List Packet) (segments : List (List Packet))
    → length (kept_in_segments_after earlier segments) ≡ length segments
length-kept_in_segments earlier [] = refl
length-kept_in_segments earlier (segment ∷ segments) =
    ap suc (length-kept_in_segments (earlier ++ segment) segments)

-- the kept packets of one segment more, which come after those of the others
pub kept_in_segments-push : (earlier : List Packet) (segments : List (List Packet))
    (segment : List Packet)
    → kept_in_segments_after earlier (segments ++ segment ∷ [])
    ≡ kept_in_segments_after earlier segments
    ++ kept_after (earlier ++ flat_map (λ ps. ps) segments) segment ∷ []
kept_in_segments-push earlier [] segment =
    ap (λ before. kept_after before segment ∷ []) (sym (append-nil earlier))
kept_in_segments-push earlier (first ∷ segments) segment =
    let rest = kept_in_segments_after (earlier ++ first) segments in
    ap (λ others. kept_after earlier first ∷ others)
    (kept_in_segments-push (earlier ++ first) segments segment
    ∙ ap (λ before. rest ++ kept_after before segment ∷ [])
    (append_assoc earlier first (flat_map (λ ps. ps) segments)))
