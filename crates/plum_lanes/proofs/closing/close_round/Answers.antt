use Rattle.std.proofs.Common.{◌≡◌, ℕ, ◌++◌, ◌<◌, length, length-append, slice_index_or, sym}
use Rattle.std.proofs.Common.{ap, ◌∙◌, subst, arith}
use Rattle.std.specs.Prelude.{sum_by}
use Rattle.std.specs.List.{range_with_len}
use Rattle.crossbeam_queue.specs.Passes.{view}
use Rattle.plum_core.specs.History.{entries_of_lane}
use Rattle.plum_lanes.specs.declared.lanes.Lane.{Lane}
use Rattle.plum_lanes.specs.Rule.{IsValid, settled_at}
use Rattle.plum_lanes.specs.Lanes.{sent}
use Rattle.plum_lanes.specs.Gathering.{gathered, settled_of, HoldsAllSent, AreGathered}
use Rattle.plum_lanes.specs.Opening.{Opening}
use Rattle.plum_lanes.specs.Rounds.{AreWhole, AreAsBefore, KeepTaken, IsClosed}
use Rattle.plum_lanes.proofs.Closed.{all_belong, IsSameGather-then, IsSameBut-then, IsAsBefore-same}
use Rattle.plum_lanes.proofs.Closed.{HasTaken-same, settled_is, all_gathered, sum_at}
use Rattle.plum_lanes.proofs.closing.close_round.Goals as goal
use Rattle.plum_lanes.proofs.closing.close_round.Goals.{After-reissue_all}

pub look-requires : goal.look-requires
look-requires c = (
  c.requires.0,
  c.recall_all.ensures.gather.gather_of c.requires.0 c.requires.1.gather_is.gather_of,
)

pub reissue_all-requires : goal.reissue_all-requires
reissue_all-requires c =
    let recall = c.recall_all.ensures in
    let look = c.look.ensures in (
      c.requires.0,
      (IsSameGather-then _ _ _ recall.gather look.gather).gather_of c.requires.0
          c.requires.1.gather_is.gather_of,
      look.out ∙ recall.out,
    )

-- They are all the lanes still,
stay_whole : (c : After-reissue_all) (opening : Opening)
    → AreWhole opening c.args.lanes.now c.args.gather.now
    → AreWhole opening c.reissue_all.new.lanes c.reissue_all.new.gather
stay_whole c opening whole =
    let recall = c.recall_all.ensures in
    let again = c.reissue_all.ensures in
    let is = whole.gather_is in
    let back = IsSameGather-then _ _ _ recall.gather c.look.ensures.gather in
    let same = IsSameGather-then _ _ _ back again.gather in
    let belong = all_belong opening c.args.lanes.now c.recall_all.new.lanes recall.count
    recall.lanes whole.lanes_are in
    record {
      lanes_are = record {
        all = again.count ∙ recall.count ∙ whole.lanes_are.all;
        each = λ i d less.
            again.lanes opening belong (back.gather_of opening is.gather_of) i d
            (subst (λ n. i < n) again.count less);
      };
      gather_is = record {
        gather_of = same.gather_of opening is.gather_of;
        out = again.out ∙ recall.count ∙ whole.lanes_are.all;
        valid = subst (IsValid opening.basis) (sym same.gathered) is.valid;
      };
    }

-- and sent what they did,
as_before : (c : After-reissue_all) → AreAsBefore c.args.lanes.now c.reissue_all.new.lanes
as_before c =
    let recall = c.recall_all.ensures in
    let again = c.reissue_all.ensures in
    record {
      long = again.count ∙ recall.count;
      each = λ i d less.
          let less' : i < length c.recall_all.new.lanes =
          subst (λ n. i < n) (sym recall.count) less in
          IsAsBefore-same _ _
          (IsSameBut-then _ _ _ (recall.lanes i d less) (again.same i d less'))
          (again.sent i d less' ∙ ap (λ lists. settled_at lists i) c.look.ensures.settled
          ∙ recall.settled i d less);
    }

-- of the packets that they took.
keep_taken : (c : After-reissue_all) (opening : Opening)
    → AreWhole opening c.args.lanes.now c.args.gather.now
    → KeepTaken opening c.args.lanes.now c.reissue_all.new.lanes
keep_taken c opening whole i d taken less has =
    let recall = c.recall_all.ensures in
    let again = c.reissue_all.ensures in
    let less' = subst (λ n. i < n) (sym recall.count) less in
    let less'' = subst (λ n. i < n) (sym again.count) less' in
    HasTaken-same opening i taken _ _
    (IsSameBut-then _ _ _ (recall.lanes i d less) (again.same i d less'))
    ((as_before c).each i d less).sent_is
    ((stay_whole c opening whole).lanes_are.each i d less'') has

-- What each sent is gathered or queued.
closed : (c : After-reissue_all) (opening : Opening)
    → AreWhole opening c.args.lanes.now c.args.gather.now
    → IsClosed opening c.reissue_all.new.lanes c.reissue_all.new.gather
closed c opening whole =
    let recall = c.recall_all.ensures in
    let look = c.look.ensures in
    let again = c.reissue_all.ensures in
    let v = view c.recall_all.new.gather.pass in
    let queued = look.fact.0 in
    let fact = look.fact.1 in
    let basis_is = (recall.gather.gather_of opening whole.gather_is.gather_of).basis_is in
    let all : gathered c.reissue_all.new.gather ≡ v.gathered =
    again.gather.gathered ∙ look.gather.gathered in
    let now = gathered c.reissue_all.new.gather in
    let valid = subst (λ es. IsValid opening.basis (es ++ queued)) (sym all)
    (fact.valid opening.basis basis_is) in
    let each : (i : ℕ) (d : Lane) → i < length c.reissue_all.new.lanes
    → sent (slice_index_or c.reissue_all.new.lanes i d)
    ≡ entries_of_lane i now ++ entries_of_lane i queued = λ i d less.
    settled_is c.histories.ensures.lane v queued fact recall.out i _ _
    (settled_of c.look.new.gather) (again.sent i d (subst (λ n. i < n) again.count less))
    look.settled all in
    record {
      queued = queued;
      bounded = fact.bounded opening.basis basis_is;
      valid = valid;
      each = each;
      counted =
          sym (length-append now queued)
          ∙ c.histories_by_lane.ensures.counted opening.basis.setup opening.basis.stations
          (now ++ queued) valid
          ∙ ap (λ n. sum_by (λ lane. length (entries_of_lane lane (now ++ queued)))
          (range_with_len 0 n)) (sym (again.count ∙ recall.count ∙ whole.lanes_are.all))
          ∙ sym (sum_at (λ (lane : Lane). length (sent lane))
          (λ lane. length (entries_of_lane lane (now ++ queued))) 0 c.reissue_all.new.lanes
          (λ i d less. ap length (each i d less ∙ sym (c.histories.ensures.lane i now queued))
          ∙ ap (λ m. length (entries_of_lane m (now ++ queued))) (omega arith)));
    }

-- Where all of that is gathered, nothing else is.
all : (c : After-reissue_all) → HoldsAllSent c.args.lanes.now c.args.gather.now
    → AreGathered c.reissue_all.new.lanes c.reissue_all.new.gather
all c holds i d less =
    let recall = c.recall_all.ensures in
    let look = c.look.ensures in
    let again = c.reissue_all.ensures in
    let v = view c.recall_all.new.gather.pass in
    let all = again.gather.gathered ∙ look.gather.gathered in
    let less' = subst (λ n. i < n) again.count less in
    let less'' = subst (λ n. i < n) recall.count less' in
    let is = settled_is c.histories.ensures.lane v look.fact.0 look.fact.1 recall.out i _ _
    (settled_of c.look.new.gather) (again.sent i d less') look.settled all in
    let sent_is = (as_before c).each i d less'' in
    let front = holds.each i d less'' in
    let same = all ∙ recall.gather.gathered in
    all_gathered i _ _ look.fact.0 is (
      front.0,
      ap (λ es. es ++ front.0) sent_is.sent_is ∙ front.1 ∙ ap (entries_of_lane i) (sym same),
    )

pub returns-clause-closes : goal.returns-clause-closes
returns-clause-closes c =
    let again = c.reissue_all.ensures in
    let then = (goal.at.returns-clause-closes c).After-reissue_all in
    record {
      keep = record { whole = stay_whole then; taken = keep_taken then; same = as_before then };
      same_gathered =
          again.gather.gathered ∙ c.look.ensures.gather.gathered
          ∙ c.recall_all.ensures.gather.gathered;
      settled = λ i d less.
          ap (λ lists. settled_at lists i) again.settled
          ∙ sym (again.sent i d (subst (λ n. i < n) again.count less));
      closed = closed then;
      all = all then;
    }
