use Rattle.plum_seq.proofs.Kept.{kept_after-append, kept-push, kept-push_repeat, with_fresh-push}
use Rattle.plum_seq.proofs.Kept.{with_fresh-push_repeat}
use Rattle.plum_seq.proofs.Stations.{is_kept-kept, is_fresh-kept, kept-kept, with_fresh-kept}
use Rattle.plum_seq.proofs.Stations.{is_kept-own, is_fresh-own, kept-of_station}
use Rattle.plum_seq.proofs.laws.kept_packets.Goals as goal

pub returns-clause-joins : goal.returns-clause-joins
returns-clause-joins c = kept-push

pub returns-clause-leaves : goal.returns-clause-leaves
returns-clause-leaves c = kept-push_repeat

pub returns-clause-fresh_joins : goal.returns-clause-fresh_joins
returns-clause-fresh_joins c = with_fresh-push

pub returns-clause-fresh_leaves : goal.returns-clause-fresh_leaves
returns-clause-fresh_leaves c = with_fresh-push_repeat

pub returns-clause-parts : goal.returns-clause-parts
returns-clause-parts c = kept_after-append

pub returns-clause-by_station : goal.returns-clause-by_station
returns-clause-by_station c = kept-of_station

pub returns-clause-alone : goal.returns-clause-alone
returns-clause-alone c = kept-kept

pub returns-clause-fresh_alone : goal.returns-clause-fresh_alone
returns-clause-fresh_alone c = with_fresh-kept

pub returns-clause-after_kept : goal.returns-clause-after_kept
returns-clause-after_kept c = is_kept-kept

pub returns-clause-fresh_after_kept : goal.returns-clause-fresh_after_kept
returns-clause-fresh_after_kept c = is_fresh-kept

pub returns-clause-by_own : goal.returns-clause-by_own
returns-clause-by_own c = is_kept-own

pub returns-clause-fresh_by_own : goal.returns-clause-fresh_by_own
returns-clause-fresh_by_own c = is_fresh-own
