-- Draws that come behind other draws.
use Rattle.std.proofs.Common.{◌≡◌, ℕ, zero, suc, ◌+◌, ◌*◌, ◌/◌, ◌%◌, ◌^◌, ℤ, pos, ◌-ℤ◌, List, []}
use Rattle.std.proofs.Common.{◌∷◌, ◌++◌, map, refl, sym, ap, ◌∙◌, arith}
use Rattle.std.proofs.Math.Nat.{add-suc, mod-add-mod}
use Rattle.std.specs.List.{flat_map, range_with_len}
use Rattle.plum_base.specs.declared.wave.Sample.{Sample}
use Rattle.plum_packet.specs.Capture.{record_of, mark_body}
use Rattle.plum_packet.specs.Encoding.{body_of}
use Rattle.plum.specs.Draws.{next_state, state_after, draw}
use Rattle.plum.specs.DrillCapture.{PACKET_SAMPLES, PACKET_DRAWS, amplitude_in}
use Rattle.plum.specs.DrillCapture.{component_at, sample_at, samples_at}
use Rattle.plum.specs.DrillCapture.{packet_record, second_at}

-- functions that agree give one list
pub map_same : {A B : Type 0} (f g : A → B) → ((x : A) → f x ≡ g x) → (xs : List A)
    → map f xs ≡ map g xs
map_same f g h [] = refl
map_same f g h (x ∷ xs) = let first = h x in let more = map_same f g h xs in cc

pub flat_map_same : {A B : Type 0} (f g : A → List B) → ((x : A) → f x ≡ g x) → (xs : List A)
    → flat_map f xs ≡ flat_map g xs
flat_map_same f g h [] = refl
flat_map_same f g h (x ∷ xs) = let first = h x in let more = flat_map_same f g h xs in cc

-- a state after m draws and n more
pub state_after-after : (s m n : ℕ) → state_after (state_after s m) n ≡ state_after s (m + n)
unfolding state_after
state_after-after s m zero = ap (state_after s) (let e : m ≡ m + 0 = omega arith in e)
state_after-after s m (suc n) =
    ap next_state (state_after-after s m n) ∙ ap (state_after s) (sym (add-suc m n))

-- the same, where the sum is known
pub state_after-sum : (s m n k : ℕ) → m + n ≡ k → state_after (state_after s m) n ≡ state_after s k
state_after-sum s m n k e = state_after-after s m n ∙ ap (state_after s) e

pub draw-after : (s m n : ℕ) → draw (state_after s m) n ≡ draw s (m + n)
unfolding draw
draw-after s m n =
    ap (λ (t : ℕ). t / 2 ^ 32) (state_after-sum s m (n + 1) (m + n + 1) (omega arith))

pub component-after : (s m a n : ℕ) → component_at (state_after s m) a n ≡ component_at s a (m + n)
unfolding component_at
component-after s m a n =
    ap (λ (d : ℕ). pos (d % (2 * a + 1)) -ℤ pos a) (draw-after s m n)

-- the same, where the sum is known
pub component-sum : (s m a n k : ℕ) → m + n ≡ k
    → component_at (state_after s m) a n ≡ component_at s a k
component-sum s m a n k e = component-after s m a n ∙ ap (component_at s a) e

-- a sample of three components
pub sample_is : (s a n : ℕ) (x y z : ℤ) → x ≡ component_at s a n → y ≡ component_at s a (n + 1)
    → z ≡ component_at s a (n + 2)
    → (let sample : Sample = record { x = x; y = y; z = z } in sample) ≡ sample_at s a n
unfolding sample_at
sample_is s a n x y z ex ey ez = cc

pub sample-sum : (s m a n k : ℕ) → m + n ≡ k → sample_at (state_after s m) a n ≡ sample_at s a k
unfolding sample_at
sample-sum s m a n k e =
    let x = component-sum s m a n k e in
    let y = component-sum s m a (n + 1) (k + 1) (omega arith) in
    let z = component-sum s m a (n + 2) (k + 2) (omega arith) in cc

pub samples-sum : (s m a n k count : ℕ) → m + n ≡ k
    → samples_at (state_after s m) a n count ≡ samples_at s a k count
unfolding samples_at
samples-sum s m a n k count e =
    map_same _ _ (λ i. sample-sum s m a (n + 3 * i) (k + 3 * i) (omega arith))
    (range_with_len 0 count)

pub packet-sum : (s m n k second station : ℕ) → m + n ≡ k
    → packet_record (state_after s m) n second station ≡ packet_record s k second station
unfolding packet_record
packet-sum s m n k second station e =
    ap (λ (wave : List Sample). record_of (body_of (station + 1) (record {
      station = record { 0 = station };
      key = record { boot = 1; number = second };
      wave = wave;
    }))) (samples-sum s m (amplitude_in second) n k PACKET_SAMPLES e)

pub second-sum : (s m n k second stations : ℕ) → m + n ≡ k
    → second_at (state_after s m) n second stations ≡ second_at s k second stations
unfolding second_at
second-sum s m n k second stations e =
    ap (λ (l : List ℕ). l ++ record_of mark_body)
    (flat_map_same _ _
    (λ i. packet-sum s m (n + PACKET_DRAWS * i) (k + PACKET_DRAWS * i) second i (omega arith))
    (range_with_len 0 stations))

-- the state behind this one, with a remainder for each step
pub next_state_is : (s : ℕ)
    → ((s * 6364136223846793005) % 2 ^ 64 + 1442695040888963407) % 2 ^ 64 ≡ next_state s
unfolding next_state
next_state_is s = mod-add-mod (s * 6364136223846793005) (2 ^ 64) 1442695040888963407

pub state_at_start : (s : ℕ) → s ≡ state_after s 0
unfolding state_after
state_at_start s = refl

-- the state after some draws more
pub state_goes_on : (s t u m n k : ℕ) → t ≡ state_after s m → u ≡ state_after t n → m + n ≡ k
    → u ≡ state_after s k
state_goes_on s t u m n k et eu e =
    eu ∙ ap (λ (v : ℕ). state_after v n) et ∙ state_after-sum s m n k e
