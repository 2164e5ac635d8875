-- A capture decodes in one way.
use Rattle.std.proofs.Common.{◌≡◌, ℕ, List, Ok, Err, sym, ap, subst, ◌∙◌}
use Rattle.std.proofs.Common.{length}
use Rattle.std.specs.List.{AllZip}
use Rattle.plum_base.specs.declared.sites.StationSite.{StationSite}
use Rattle.plum_base.specs.Sites.{AreCodesDistinct}
use Rattle.plum_base.proofs.Members.{each_one}
use Rattle.plum_packet.specs.Laws.{DecodedInOneWay}
use Rattle.plum_packet.specs.Segments.{Decoded, DecodesAs, IsDecodedSegment}
use Rattle.plum_packet.specs.Segments.{segments_of}
use Rattle.plum_packet.proofs.Captures.{only}
use Rattle.plum_packet.proofs.FirstFault.{one_first}
use Rattle.plum_packet.proofs.OneBody.{is_only_packet}

module _ (stations : List StationSite) (distinct : AreCodesDistinct stations) where
  -- a body decodes in one way
  pub one_body : (body : ℕ × List ℕ) (some other : Decoded)
      → (some.0 ≡ body.0) × DecodesAs stations body.1 some.1
      → (other.0 ≡ body.0) × DecodesAs stations body.1 other.1 → some ≡ other
  one_body body (n, Ok p) (m, Ok q) some other =
      let same = is_only_packet stations q body.1 distinct other.1 p some.1 in cc
  one_body body (n, Ok p) (m, Err g) some other = absurd (some.1.lawful g other.1.applies)
  one_body body (n, Err f) (m, Ok q) some other = absurd (other.1.lawful f some.1.applies)
  one_body body (n, Err f) (m, Err g) some other =
      let same = one_first stations body.1 f g some.1 other.1 in cc

  -- so do segments
  pub one_segment : (segment : List (ℕ × List ℕ)) (some other : List Decoded)
      → IsDecodedSegment stations segment some → IsDecodedSegment stations segment other
      → some ≡ other
  one_segment segment some other = each_one _ one_body segment some other

-- and a capture
pub decoded : DecodedInOneWay
decoded stations capture some others tail other distinct a b =
    let same = only capture a.bodies b.bodies a.rest b.rest a.capture_is b.capture_is in
    let again = subst (λ bodies. AllZip (IsDecodedSegment stations) (segments_of bodies) others)
    (sym same.0) b.decoded in (
      each_one _ (one_segment stations distinct) (segments_of a.bodies) some others a.decoded
          again,
      a.tail_is ∙ ap length same.1 ∙ sym b.tail_is,
    )
