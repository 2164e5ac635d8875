use Rattle.std.proofs.Common.{◌≡◌, ◌<◌, ◌%◌, [], ◌∷◌, ◌++◌, length, get_or, sym, ap}
use Rattle.std.proofs.Common.{◌∙◌, subst}
use native.Mathlib.Nat.{mod-lt}
use Rattle.std.proofs.lemmas.List.{get_or_read}
use Rattle.plum_replay.proofs.Sharing.{AreShares-give, shares_long}
use Rattle.plum_replay.proofs.round.share_out.Goals as goal

pub loop-packet-preserved : goal.loop-packet-preserved
loop-packet-preserved c =
    let lanes = c.args.lanes.items in
    let shares = c.loop-packet.shares.items in
    let packet = c.in-Some.packet in
    let new = c.give.new.share in
    let before = c.loop-packet.invariant in
    let count : c.len-count.result ≡ length lanes =
    c.len-count.ensures ∙ c.in_ok-shares.shares.ok.0
    ∙ shares_long lanes _ c.in_ok-shares.ensures.lanes in
    let k = packet.station.0 % c.len-count.result in
    let own : k ≡ packet.station.0 % length lanes = ap (λ n. packet.station.0 % n) count in
    let within : k < length shares =
    subst (λ n. n < length shares) (sym own)
    (subst (λ n. packet.station.0 % length lanes < n)
    (sym (shares_long lanes shares before.lanes_are))
    (mod-lt packet.station.0 c.requires)) in
    let at : c.index_mut.result.now ≡ get_or shares k new =
    get_or_read shares k c.index_mut.result.now within c.index_mut.ensures.value new in
    AreShares-give lanes shares c.loop-packet.yielded packet k new within own
    (c.give.ensures.lane ∙ ap (λ s. s.lane) at)
    (c.in_ok-give.ensures.packets ∙ ap (λ s. s.packets.items ++ packet ∷ []) at) before
