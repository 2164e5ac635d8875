-- A station that has a code.
use Rattle.std.proofs.Common.{◌≡◌, ℕ, zero, suc, ◌<◌, [], ◌∷◌, List, length, get_or, arith}
use Rattle.plum_base.specs.declared.sites.StationSite.{StationSite}
use Rattle.plum_base.specs.Sites.{HasCode}

-- It is listed, and this is its code.
pub listed_code : (stations : List StationSite) (n code : ℕ) → HasCode stations n code
    → (n < length stations) × ((d : StationSite) → (get_or stations n d).code ≡ code)
listed_code [] n code has = absurd has
listed_code (s ∷ stations) zero code has = (omega arith, λ d. has)
listed_code (s ∷ stations) (suc n) code has =
    let later = listed_code stations n code has in (omega (arith, later.0), later.1)
