-- The kept packets: packets in two parts, and one packet more.
use Rattle.std.proofs.Common.{◌≡◌, Bool, true, false, List, [], ◌∷◌, ◌++◌, refl}
use Rattle.plum_base.specs.declared.packet.Packet.{Packet}
use Rattle.plum_base.specs.declared.wave.Sample.{Sample}
use Rattle.plum_seq.specs.Keys.{is_kept, kept_after, kept, is_fresh, with_fresh}
use Rattle.plum_seq.proofs.Picked.{picked_from, picked, picked-append, picked-push}
use Rattle.plum_seq.proofs.Picked.{picked-push_other}

-- what a kept packet gives: itself
itself : List Packet → Packet → Packet
itself earlier p = p

-- what a kept packet gives: whether it is fresh, and its samples
its_samples : List Packet → Packet → Bool × List Sample
its_samples earlier p = (is_fresh earlier p, p.wave)

-- the kept packets are picked ones
kept_after-is : (earlier ps : List Packet)
    → kept_after earlier ps ≡ picked is_kept itself earlier ps
unfolding kept_after picked picked_from itself
kept_after-is earlier ps = refl

-- the same with whether each is fresh
with_fresh-is : (ps : List Packet) → with_fresh ps ≡ picked is_kept its_samples [] ps
unfolding with_fresh picked picked_from its_samples
with_fresh-is ps = refl

-- packets in two parts
pub kept_after-append : (earlier ps qs : List Packet)
    → kept_after earlier (ps ++ qs) ≡ kept_after earlier ps ++ kept_after (earlier ++ ps) qs
kept_after-append earlier ps qs = simp kept_after-is (picked-append is_kept itself earlier ps qs)

module _ (ps : List Packet) (p : Packet) where
  -- a packet more that is kept
  pub kept-push : is_kept ps p ≡ true → kept (ps ++ p ∷ []) ≡ kept ps ++ p ∷ []
  unfolding itself
  kept-push is = simp kept_after-is (picked-push is_kept itself ps p is)

  -- a repeat more
  pub kept-push_repeat : is_kept ps p ≡ false → kept (ps ++ p ∷ []) ≡ kept ps
  kept-push_repeat is = simp kept_after-is (picked-push_other is_kept itself ps p is)

  -- a packet more that is kept, with whether each is fresh
  pub with_fresh-push : is_kept ps p ≡ true
      → with_fresh (ps ++ p ∷ []) ≡ with_fresh ps ++ (is_fresh ps p, p.wave) ∷ []
  unfolding its_samples
  with_fresh-push is = simp with_fresh-is (picked-push is_kept its_samples ps p is)

  -- and a repeat more
  pub with_fresh-push_repeat : is_kept ps p ≡ false → with_fresh (ps ++ p ∷ []) ≡ with_fresh ps
  with_fresh-push_repeat is = simp with_fresh-is (picked-push_other is_kept its_samples ps p is)
