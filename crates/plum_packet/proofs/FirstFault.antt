-- A body has one first fault at most, and the first test of the header that fails tells it.
use Rattle.std.proofs.Common.{◌≡◌, ◌≢◌, ◌↔◌, ℕ, ◌+◌, ◌*◌, ◌<◌, ◌≤◌, ◌⊎◌, inl, inr, ◌∙◌, ap, sym}
use Rattle.std.proofs.Common.{subst}
use Rattle.std.proofs.Common.{refl, Result, Ok, Err, List, [], ◌∷◌, length, take, get_or, All}
use Rattle.std.proofs.Common.{arith}
use Rattle.std.proofs.lemmas.Bool.{cases_order}
use Rattle.plum_base.specs.declared.sites.StationSite.{StationSite}
use Rattle.plum_base.specs.declared.packet.PacketFault.{PacketFault}
use Rattle.plum_base.specs.declared.packet.PacketFault.TheVariants.{Short, Magic, Version, Flags}
use Rattle.plum_base.specs.declared.packet.PacketFault.TheVariants.{Station, Count, Length}
use Rattle.plum_base.specs.Sites.{HasNoCode}
use Rattle.plum_packet.specs.Body.{HEADER, SAMPLE, MOST_SAMPLES}
use Rattle.plum_packet.specs.Body.{Applies, order_of, IsFirstFault, HasNoFault, code_of, count_of}
use Rattle.plum_packet.proofs.Fields.{byte_of}

-- two faults of one kind that both apply are one
same_kind : (stations : List StationSite) (body : List ℕ) (f g : PacketFault)
    → Applies stations body f → Applies stations body g → order_of f ≡ order_of g → f ≡ g
same_kind stations body Short Short a b e = cc
same_kind stations body Magic Magic a b e = cc
same_kind stations body (Version v) (Version w) a b e = cc
same_kind stations body (Flags v) (Flags w) a b e = cc
same_kind stations body (Station v) (Station w) a b e = cc
same_kind stations body (Count v) (Count w) a b e = cc
same_kind stations body (Length v m) (Length w n) a b e = cc
same_kind stations body f g a b e = absurd (omega arith)

-- two first faults are one
pub one_first : (stations : List StationSite) (body : List ℕ) (f g : PacketFault)
    → IsFirstFault stations body f → IsFirstFault stations body g → f ≡ g
one_first stations body f g a b = elim (cases_order (order_of f) (order_of g)) [
  | inl e ↦ same_kind stations body f g a.applies b.applies e
  | inr apart ↦ elim apart [
    | inl lt ↦ absurd (b.first f lt a.applies)
    | inr gt ↦ absurd (a.first g gt b.applies)
  ]
]

-- a refusal by a first fault is by each first fault
pub err_exactly : {T : Type 0} (stations : List StationSite) (body : List ℕ) (f : PacketFault)
    → IsFirstFault stations body f → (g : PacketFault)
    → (◌≡◌ {A = Result T PacketFault} (Err f) (Err g)) ↔ IsFirstFault stations body g
err_exactly stations body f a g = (
  (λ e. let same : f ≡ g = cc in
      subst (λ (fault : PacketFault). IsFirstFault stations body fault) same a),
  (λ b. ap Err (one_first stations body f g a b)),
)

-- a body with no fault has no first one
pub ok_exactly : {T : Type 0} (stations : List StationSite) (body : List ℕ) (x : T)
    → HasNoFault stations body → (g : PacketFault)
    → (◌≡◌ {A = Result T PacketFault} (Ok x) (Err g)) ↔ IsFirstFault stations body g
ok_exactly stations body x none g = (λ e. cc, λ b. absurd (none g b.applies))

-- none of the faults before the n-th applies
abbrev IsClearBefore : List StationSite → List ℕ → ℕ → Type 0
IsClearBefore stations body n =
    (fault : PacketFault) → order_of fault < n → ¬ Applies stations body fault

-- The tests of the header, one within the other: where a test fails, its fault is the first, and
-- where it passes, the faults up to its own do not apply.
module _ (stations : List StationSite) (body : List ℕ) (long : HEADER ≤ length body) where
  -- there is a header
  past_short : IsClearBefore stations body 2
  past_short Short below a = omega arith
  past_short fault below a = omega arith

  -- it does not begin with `PL`
  pub is_magic : take 2 body ≢ 80 ∷ 76 ∷ [] → IsFirstFault stations body Magic
  is_magic h = record { applies = h; first = past_short }

  module _ (magic : take 2 body ≡ 80 ∷ 76 ∷ []) where
    -- it begins with `PL`
    past_magic : IsClearBefore stations body 3
    past_magic Magic below a = a magic
    past_magic fault below a = past_short fault (omega arith) a

    -- its version is another one
    pub is_version : get_or body 2 0 ≢ 1 → IsFirstFault stations body (Version (get_or body 2 0))
    is_version h = record { applies = (byte_of 2 body, h); first = past_magic }

    module _ (version : get_or body 2 0 ≡ 1) where
      -- its version is 1
      past_version : IsClearBefore stations body 4
      past_version (Version v) below a = a.1 (a.0 ∙ sym (byte_of 2 body) ∙ version)
      past_version fault below a = past_magic fault (omega arith) a

      -- it has flags
      pub is_flags : get_or body 3 0 ≢ 0 → IsFirstFault stations body (Flags (get_or body 3 0))
      is_flags h = record { applies = (byte_of 3 body, h); first = past_version }

      module _ (flags : get_or body 3 0 ≡ 0) where
        -- it has none
        past_flags : IsClearBefore stations body 5
        past_flags (Flags f) below a = a.1 (a.0 ∙ sym (byte_of 3 body) ∙ flags)
        past_flags fault below a = past_version fault (omega arith) a

        -- its station is not listed
        pub is_station : (code : ℕ) → code ≡ code_of body → HasNoCode stations code
            → IsFirstFault stations body (Station code)
        is_station code e h = record { applies = (e, h); first = past_flags }

        module _ (known : ¬ HasNoCode stations (code_of body)) where
          -- its station is listed
          past_station : IsClearBefore stations body 6
          past_station (Station code) below a =
              known (subst (λ (n : ℕ). All (λ s. s.code ≢ n) stations) a.0 a.1)
          past_station fault below a = past_flags fault (omega arith) a

          -- it has no samples, or too many
          pub is_count : (n : ℕ) → n ≡ count_of body → (n ≡ 0) ⊎ (MOST_SAMPLES < n)
              → IsFirstFault stations body (Count n)
          is_count n e h = record { applies = (e, h); first = past_station }

          module _ (some : 0 < count_of body) (few : count_of body ≤ MOST_SAMPLES) where
            -- its count is right
            past_count : IsClearBefore stations body 7
            past_count (Count n) below a =
                elim a.1 [ inl none ↦ omega arith | inr many ↦ omega arith ]
            past_count fault below a = past_station fault (omega arith) a

            -- its length is not what the count asks for
            pub is_length : (expected found : ℕ) → expected ≡ HEADER + SAMPLE * count_of body
                → found ≡ length body → expected ≢ found
                → IsFirstFault stations body (Length expected found)
            is_length expected found e l h = record { applies = (e, l, h); first = past_count }

            -- its length is, and it is a packet
            pub has_no_fault : HEADER + SAMPLE * count_of body ≡ length body
                → HasNoFault stations body
            has_no_fault whole (Length expected found) a = a.2 (a.0 ∙ whole ∙ sym a.1)
            has_no_fault whole fault a = past_count fault (omega arith) a

-- a packet has no more samples than the longest
pub few_samples : (stations : List StationSite) (body : List ℕ) → HasNoFault stations body
    → count_of body ≤ MOST_SAMPLES
few_samples stations body lawful =
    elim (cases_order (count_of body) MOST_SAMPLES) [
      | inl e ↦ omega arith
      | inr apart ↦ elim apart [
        | inl few ↦ omega arith
        | inr many ↦ absurd (lawful (Count (count_of body)) (refl, inr many))
      ]
    ]

-- a packet is as long as its count asks for
pub whole_length : (stations : List StationSite) (body : List ℕ) → HasNoFault stations body
    → length body ≡ HEADER + SAMPLE * count_of body
whole_length stations body lawful =
    let expected : ℕ = HEADER + SAMPLE * count_of body in
    let found = length body in
    elim (cases_order found expected) [
      | inl e ↦ e
      | inr apart ↦
          let differ : expected ≢ found =
          λ e. elim apart [ inl below ↦ omega arith | inr above ↦ omega arith ] in
          absurd (lawful (Length expected found) (refl, refl, differ))
    ]
