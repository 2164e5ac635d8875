-- What one mark more adds.
use Rattle.std.proofs.Common.{◌≡◌, ◌≢◌, ◌<◌, ◌+◌, ℕ, zero, suc, arith, refl, ap, sym}
use Rattle.std.proofs.Common.{◌∙◌, List, [], ◌∷◌, ◌++◌, Option, Some, None, length, map, set, subst}
use Rattle.std.proofs.Common.{get_or, get_or-set_same, get_or-set_other, length-set, inl, inr}
use Rattle.std.proofs.lemmas.Bool.{cases_eq}
use Rattle.std.proofs.lemmas.List.{append_assoc, length-map, length_push, map-append}
use Rattle.std.proofs.lemmas.List.Elements.{All-nil, All-push, filter_map-append}
use Rattle.std.specs.Option.{option_to_list}
use Rattle.std.specs.Prelude.{slice_get, filter_map}
use Rattle.plum_base.specs.declared.answers.Reading.{Reading}
use Rattle.plum_base.specs.declared.packet.Packet.{Packet}
use Rattle.plum_base.specs.declared.rules.Alert.{Alert}
use Rattle.plum_base.specs.declared.rules.Rules.{Rules}
use Rattle.plum_packet.specs.Counts.{counts_of, counts_in}
use Rattle.plum_packet.specs.Segments.{Decoded, refused_in}
use Rattle.plum_alert.specs.Alerts.{alerts_of}
use Rattle.plum_alert.specs.Desk.{DeskView}
use Rattle.plum_alert.specs.Desk.{StandsFor as DeskStandsFor}
use Rattle.plum_text.specs.Texts.{Section}
use Rattle.plum_replay.specs.Progress.{AreDesks, AreNext, given_with}
use Rattle.plum_replay.specs.Sections.{of_area, AreSections}

-- what stands at a place, as a list of one, or of none past the end
abbrev pub at_place : {X : Type 0} → List X → ℕ → List X
at_place xs n = option_to_list (slice_get xs n)

-- One more stands at its own place.
pub at_place-own : {X : Type 0} (xs : List X) (x : X) (n : ℕ) → n ≡ length xs
    → at_place (xs ++ x ∷ []) n ≡ at_place xs n ++ x ∷ []
at_place-own [] x zero is = refl
at_place-own [] x (suc n) is = cc
at_place-own (first ∷ xs) x zero is = cc
at_place-own (first ∷ xs) x (suc n) is = at_place-own xs x n (omega (arith, is))

-- One more changes no other place.
pub at_place-other : {X : Type 0} (xs : List X) (x : X) (n : ℕ) → n ≢ length xs
    → at_place (xs ++ x ∷ []) n ≡ at_place xs n
at_place-other [] x zero apart = absurd (apart refl)
at_place-other [] x (suc n) apart = refl
at_place-other (first ∷ xs) x zero apart = refl
at_place-other (first ∷ xs) x (suc n) apart = at_place-other xs x n (λ is. apart (ap suc is))

module _ (rules : Rules) (given : ℕ → List Reading) (so_far : List Reading)
    (reading : Reading) where
  -- what each desk was given before the reading
  abbrev before : ℕ → List Reading
  before = given_with given so_far

  -- what each was given with it
  abbrev after : ℕ → List Reading
  after = given_with given (so_far ++ reading ∷ [])

  -- The reading is given to the desk at its place.
  own : (a : ℕ) → a ≡ length so_far → after a ≡ before a ++ reading ∷ []
  own a is =
      ap (λ more. given a ++ more) (at_place-own so_far reading a is)
      ∙ sym (append_assoc (given a) (at_place so_far a) (reading ∷ []))

  -- No other desk is given more.
  other : (a : ℕ) → a ≢ length so_far → after a ≡ before a
  other a apart = ap (λ more. given a ++ more) (at_place-other so_far reading a apart)

  -- The desks, where that one is now so.
  pub AreDesks-more : (desks : List DeskView) (desk : DeskView) (n : ℕ)
      → n ≡ length so_far → n < length desks → AreDesks desks rules before
      → DeskStandsFor desk rules (before n ++ reading ∷ [])
      → AreDesks (set desks n desk) rules after
  AreDesks-more desks desk n is listed stand stands a d below =
      elim (cases_eq a n) [
        | inl here ↦
            let same : get_or (set desks n desk) a d ≡ desk =
            ap (λ m. get_or (set desks n desk) m d) here ∙ get_or-set_same desks n desk d listed in
            let given_it : after a ≡ before n ++ reading ∷ [] =
            own a (here ∙ is) ∙ ap (λ m. before m ++ reading ∷ []) here in
            rw (same, given_it) stands
        | inr apart ↦
            let same = get_or-set_other desks n a desk d apart in
            let within : a < length desks = omega (arith, length-set desks n desk) in
            rw (same, other a (λ at. apart (at ∙ sym is))) (stand a d within)
      ]

  -- The alert that it gives, or none, joins those of the areas before it.
  pub AreNext-more : (alerts : List (Option Alert)) (alert : Option Alert) (n : ℕ)
      → n ≡ length so_far → AreNext rules given so_far alerts
      → alerts_of rules (before n ++ reading ∷ []) ≡ alerts_of rules (before n) ++ alert ∷ []
      → AreNext rules given (so_far ++ reading ∷ []) (alerts ++ alert ∷ [])
  AreNext-more alerts alert n is next gives = record {
    one_each = length_push alerts alert ∙ ap (λ n. n + 1) next.one_each
        ∙ sym (length_push so_far reading);
    each = λ a.
        elim (cases_eq a n) [
          | inl here ↦
              ap (alerts_of rules) (own a (here ∙ is))
              ∙ subst (λ m. alerts_of rules (before m ++ reading ∷ [])
              ≡ alerts_of rules (before m) ++ alert ∷ []) (sym here) gives
              ∙ ap (λ alerts. alerts ++ alert ∷ []) (next.each a)
              ∙ append_assoc (alerts_of rules (given a)) (at_place alerts a) (alert ∷ [])
              ∙ ap (λ more. alerts_of rules (given a) ++ more)
              (sym (at_place-own alerts alert a (here ∙ is ∙ sym next.one_each)))
          | inr apart ↦
              ap (alerts_of rules) (other a (λ at. apart (at ∙ sym is))) ∙ next.each a
              ∙ ap (λ more. alerts_of rules (given a) ++ more)
              (sym (at_place-other alerts alert a (λ at. apart (at ∙ next.one_each ∙ sym is))))
        ];
  }

-- What an area has at one mark more is what it has there.
pub of_area-push : {X : Type 0} (a : ℕ) (marks : List (List X)) (of_mark : List X)
    → of_area a (marks ++ of_mark ∷ []) ≡ of_area a marks ++ option_to_list (slice_get of_mark a)
of_area-push {X} a marks of_mark =
    filter_map-append (λ of_mark. slice_get of_mark a) marks (of_mark ∷ [])
    ∙ ap (λ more. of_area a marks ++ more) (at_one (slice_get of_mark a))
  where
    at_one : (o : Option X) → filter_map (λ o. o) (o ∷ []) ≡ option_to_list o
    at_one None = refl
    at_one (Some x) = refl

-- Without segments there are no sections.
pub AreSections-nil : (rules : Rules) → AreSections rules [] [] []
AreSections-nil rules = record {
  counts = refl;
  refused = refl;
  read = refl;
  one_each = All-nil _;
  alerts = λ a. refl;
}

-- There is a section for each segment.
pub AreSections-length : (rules : Rules) (segments : List (List Decoded))
    (readings : List (List Reading)) (sections : List Section)
    → AreSections rules segments readings sections → length sections ≡ length segments
AreSections-length rules segments readings sections are =
    sym (length-map sections (λ s. s.refused)) ∙ ap length are.refused
    ∙ length-map segments refused_in

-- One segment more has one section more, where these packets of it are kept.
pub AreSections-push : (rules : Rules) (segments : List (List Decoded))
    (readings : List (List Reading)) (sections : List Section)
    (segment : List Decoded) (kept : List Packet) (at_mark : List Reading)
    (alerts : List (Option Alert))
    → AreSections rules segments readings sections
    → counts_of (segments ++ segment ∷ []) ≡ counts_of segments ++ counts_in segment kept ∷ []
    → AreNext rules (λ a. of_area a readings) at_mark alerts
    → AreSections rules (segments ++ segment ∷ []) (readings ++ at_mark ∷ [])
    (sections ++ record {
      counts = counts_in segment kept;
      refused = refused_in segment;
      readings = at_mark;
      alerts = alerts;
    } ∷ [])
AreSections-push rules segments readings sections segment kept at_mark alerts are go_on next =
    let section : Section = record {
      counts = counts_in segment kept;
      refused = refused_in segment;
      readings = at_mark;
      alerts = alerts;
    } in
    record {
      counts =
          map-append (λ s. s.counts) sections (section ∷ [])
          ∙ ap (λ counts. counts ++ counts_in segment kept ∷ []) are.counts ∙ sym go_on;
      refused =
          map-append (λ s. s.refused) sections (section ∷ [])
          ∙ ap (λ refused. refused ++ refused_in segment ∷ []) are.refused
          ∙ sym (map-append refused_in segments (segment ∷ []));
      read =
          map-append (λ s. s.readings) sections (section ∷ [])
          ∙ ap (λ readings. readings ++ at_mark ∷ []) are.read;
      one_each =
          All-push (λ s. length s.alerts ≡ length s.readings) sections section are.one_each
          next.one_each;
      alerts = λ a.
          ap (of_area a) (map-append (λ s. s.alerts) sections (section ∷ []))
          ∙ of_area-push a (map (λ s. s.alerts) sections) alerts
          ∙ ap (λ before. before ++ at_place alerts a) (are.alerts a)
          ∙ sym (next.each a)
          ∙ ap (alerts_of rules) (sym (of_area-push a readings at_mark));
    }
