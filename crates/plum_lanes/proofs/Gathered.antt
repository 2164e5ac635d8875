-- What a pop tells of all that was sent.
use Rattle.std.proofs.Common.{◌≡◌, true, List, [], ◌∷◌, ◌++◌, length, append-nil, Option, Some}
use Rattle.std.proofs.Common.{None}
use Rattle.std.proofs.Common.{refl, sym, ◌∙◌, ap, subst}
use Rattle.std.specs.Prelude.{MatchOption, IfNone}
use Rattle.crossbeam_queue.specs.Fifo.{Held}
use Rattle.crossbeam_queue.specs.Passes.{view}
use Rattle.plum_base.specs.declared.entry.Entry.{Entry}
use Rattle.plum_core.specs.History.{entries_of_lane}
use Rattle.plum_core.specs.Laws.{EachOnce}
use Rattle.plum_lanes.specs.declared.gatherer.Gather.{Gather}
use Rattle.plum_lanes.specs.declared.rule.Basis.{Basis}
use Rattle.plum_lanes.specs.declared.rule.View.{View}
use Rattle.plum_lanes.specs.Rule.{IsValid, Gathers, IsGatheredThen}
use Rattle.plum_lanes.specs.Gathering.{gathered, FoundEmpty}

-- what a pop tells: of the view before, of the view after, and of what it took
abbrev pub Popped : View → View → Option Entry → Type 0
Popped v w taken =
    MatchOption taken ((w ≡ v) × Held 0 (IsGatheredThen v)) (λ e. Gathers v e w)

-- a list of no entries is empty
none_left : (queued : List Entry) → length queued ≡ 0 → queued ≡ []
none_left [] is = refl
none_left (e ∷ es) is = cc

-- so the queue held none
at_empty : (v : View) → Held 0 (IsGatheredThen v) → IsGatheredThen v []
at_empty v held = subst (IsGatheredThen v) (none_left held.0 held.1) held.2

-- What is gathered is valid, whether it took an entry or not.
pub valid_after : (basis : Basis) (v w : View) (taken : Option Entry) → v.basis ≡ Some basis
    → Popped v w taken → IsValid basis w.gathered
valid_after basis v w None known told =
    subst (λ (u : View). IsValid basis u.gathered) (sym told.0)
    (subst (IsValid basis) (append-nil v.gathered) ((at_empty v told.1).valid basis known))
valid_after basis v w (Some e) known told =
    subst (λ (u : View). IsValid basis u.gathered) (sym told.view) (told.valid basis known)

-- The pass stays the gatherer's, with the basis and the lanes that it knew.
pub known_after : (v w : View) (taken : Option Entry) → v.gathers ≡ true → Popped v w taken
    → (w.gathers ≡ true) × (w.basis ≡ v.basis) × (w.out ≡ v.out)
known_after v w None may told = (
  ap (λ (u : View). u.gathers) told.0 ∙ may,
  ap (λ (u : View). u.basis) told.0,
  ap (λ (u : View). u.out) told.0,
)
known_after v w (Some e) may told = (
  ap (λ (u : View). u.gathers) told.view,
  ap (λ (u : View). u.basis) told.view,
  ap (λ (u : View). u.out) told.view,
)

-- Where it took none, and what the lanes sent is settled, all that they sent is gathered.
pub all_after : EachOnce → (before after : Gather) (taken : Option Entry)
    → Popped (view before.pass) (view after.pass) taken → IfNone taken (FoundEmpty before after)
all_after once before after None told = λ opening lanes is settled.
    let v = view before.pass in
    let then = at_empty v told.1 in
    let known = is.gather_of.basis_is in
    let valid = valid_after opening.basis v (view after.pass) None known told in
    record {
      each = λ i d within.
          let front = then.front i in
          let all : gathered after ≡ v.gathered ++ [] =
          ap (λ (u : View). u.gathered) told.0 ∙ sym (append-nil v.gathered) in (
            front.0,
            ap (λ es. es ++ front.0) (sym (settled i d within)) ∙ front.1
                ∙ ap (entries_of_lane i) (sym all),
          );
      once = once opening.basis.setup opening.basis.stations (gathered after) valid;
    }
all_after once before after (Some e) told = tt
