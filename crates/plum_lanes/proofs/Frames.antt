-- Two closings join: what one leaves as it was, and then another.
use Rattle.std.proofs.Common.{◌<◌, List, refl, sym, ◌∙◌, subst}
use Rattle.plum_lanes.specs.declared.gatherer.Gather.{Gather}
use Rattle.plum_lanes.specs.declared.lanes.Lane.{Lane}
use Rattle.plum_lanes.specs.Gathering.{KeepsOpening}
use Rattle.plum_lanes.specs.Rounds.{IsAsBefore, AreAsBefore, KeepWhole}

pub IsAsBefore-join : (a b c : Lane) → IsAsBefore a b → IsAsBefore b c → IsAsBefore a c
IsAsBefore-join a b c first then = record {
  sent_is = then.sent_is ∙ first.sent_is;
  waiting_is = then.waiting_is ∙ first.waiting_is;
  kept_is = then.kept_is ∙ first.kept_is;
  repeats_is = then.repeats_is ∙ first.repeats_is;
}

pub AreAsBefore-join : (xs ys zs : List Lane) → AreAsBefore xs ys → AreAsBefore ys zs
    → AreAsBefore xs zs
AreAsBefore-join xs ys zs first then = record {
  long = then.long ∙ first.long;
  each = λ i d less.
      IsAsBefore-join _ _ _ (first.each i d less)
      (then.each i d (subst (λ n. i < n) (sym first.long) less));
}

AreAsBefore-self : (lanes : List Lane) → AreAsBefore lanes lanes
AreAsBefore-self lanes = record {
  long = refl;
  each = λ i d less. record {
    sent_is = refl;
    waiting_is = refl;
    kept_is = refl;
    repeats_is = refl;
  };
}

-- The gatherer alone went on.
pub KeepWhole-gather : (lanes : List Lane) (before after : Gather)
    → KeepsOpening before after
    → KeepWhole lanes before lanes after
KeepWhole-gather lanes before after gather = record {
  whole = λ opening whole. record {
    lanes_are = whole.lanes_are;
    gather_is = gather opening whole.gather_is;
  };
  taken = λ opening whole i d taken less has. has;
  same = AreAsBefore-self lanes;
}

pub KeepWhole-join : (ls : List Lane) (a : Gather) (ms : List Lane) (b : Gather) (ns : List Lane)
    (c : Gather) → KeepWhole ls a ms b → KeepWhole ms b ns c → KeepWhole ls a ns c
KeepWhole-join ls a ms b ns c first then = record {
  whole = λ opening whole. then.whole opening (first.whole opening whole);
  taken = λ opening whole i d taken less has.
      then.taken opening (first.whole opening whole) i d taken
      (subst (λ n. i < n) (sym first.same.long) less)
      (first.taken opening whole i d taken less has);
  same = AreAsBefore-join ls ms ns first.same then.same;
}
