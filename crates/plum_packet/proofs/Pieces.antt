-- Reads of one input, one after the other.
use Rattle.std.proofs.Common.{◌≡◌, ℕ, ◌+◌, ◌≤◌, List, ◌++◌, length, take, drop, Option, Some, None}
use Rattle.std.proofs.Common.{sym, ap, ◌∙◌, subst, append_assoc, take-append-drop}
use Rattle.std.proofs.lemmas.List.{length-take-le, take-append-le, take_at}
use Rattle.std.proofs.Math.Seq.{take-append-add}
use borrow.Rule.Slice.PartMut.{put_mid, post_of}
use Rattle.plum_host.specs.Told.{Takes}
use Rattle.plum_packet.specs.Record.{MovesFront}

-- the front of a buffer after a write to its part from `filled`
pub take-put_mid_front : (filled size count : ℕ) (buffer piece : List ℕ)
    → filled ≤ length buffer → count ≤ length piece
    → take (filled + count) (put_mid filled size buffer piece)
    ≡ take filled buffer ++ take count piece
take-put_mid_front filled size count buffer piece fits short =
    let front = take filled buffer in
    let long : length front ≡ filled = length-take-le filled buffer fits in
    let behind = piece ++ post_of filled size buffer in
    ap (λ (n : ℕ). take (n + count) (front ++ behind)) (sym long)
    ∙ take-append-add front behind count
    ∙ ap (λ (l : List ℕ). front ++ l)
    (take-append-le count piece (post_of filled size buffer) short)

-- that front alone
pub take_put_mid : (filled size : ℕ) (buffer piece : List ℕ) → filled ≤ length buffer
    → take filled (put_mid filled size buffer piece) ≡ take filled buffer
take_put_mid filled size buffer piece fits =
    let long : length (take filled buffer) ≡ filled = length-take-le filled buffer fits in
    take_at (take filled buffer) (piece ++ post_of filled size buffer) filled long

-- one read more of the input
pub MovesFront-more : (bytes taken piece : List ℕ) (count : ℕ) (left mid after : Option (List ℕ))
    → MovesFront bytes left taken mid → Takes mid after count piece
    → MovesFront bytes left (taken ++ take count piece) after
MovesFront-more bytes taken piece count None mid after moves takes = tt
MovesFront-more bytes taken piece count (Some left) mid after moves takes =
    let rest = moves.0 in
    let took : Takes (Some rest) after count piece =
    subst (λ m. Takes m after count piece) moves.1 takes in
    let joined : (taken ++ take count piece) ++ drop count rest ≡ bytes ++ left =
    append_assoc taken (take count piece) (drop count rest)
    ∙ ap (λ (l : List ℕ). taken ++ (l ++ drop count rest)) took.1
    ∙ ap (λ (l : List ℕ). taken ++ l) (take-append-drop count rest)
    ∙ moves.2 in
    (drop count rest, took.2, joined)
