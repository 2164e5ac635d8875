-- What the numbers of a body are, as the code makes them.
use Rattle.std.proofs.Common.{◌≡◌, ℕ, ◌-◌, zero, suc, List, [], ◌∷◌, length, take, drop}
use Rattle.std.proofs.Common.{get_or, get_or-drop, add-zero, ap, ◌∙◌, arith}
use Rattle.std.proofs.lemmas.List.{take_rest}
use Rattle.byteorder.specs.Endian.{big_number}
use Rattle.plum_base.specs.declared.sites.StationSite.{StationSite}
use Rattle.plum_base.specs.Sites.{HasCode, HasNoCode}
use Rattle.plum_packet.specs.Body.{number_at}

-- a number is made of the rest of the bytes
pub number_of-rest : (offset size : ℕ) (body : List ℕ)
    → big_number size (take (length body - offset) (drop offset body)) ≡ number_at offset size body
number_of-rest offset size body =
    ap (λ (rest : List ℕ). big_number size rest) (take_rest body offset)

-- a byte is a number of one byte
pub byte_of : (offset : ℕ) (body : List ℕ) → get_or body offset 0 ≡ number_at offset 1 body
byte_of offset body =
    let e = get_or-drop offset body 0 0 in let here = add-zero offset in grind (arith, e, here)

-- a station of that code is listed
pub listed : (stations : List StationSite) (n code found : ℕ) → found ≡ code
    → HasCode stations n found → ¬ HasNoCode stations code
listed [] n code found e h none = h
listed (s ∷ rest) zero code found e h none = none 0 s (omega arith) (h ∙ e)
listed (s ∷ rest) (suc n) code found e h none =
    listed rest n code found e h (λ k d below. none (suc k) d (omega arith))
