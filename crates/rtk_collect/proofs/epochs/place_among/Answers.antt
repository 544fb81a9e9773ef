use Rattle.std.proofs.Common.{arith, rules, is_gt, nat_cmp}
use Rattle.std.proofs.lemmas.List.Sorted.{IsPartitionPoint-from_clause}
use Rattle.rtk_collect.specs.Accepted.{no_cells}
use Rattle.rtk_collect.specs.EpochSet.{EpochSetView}
use Rattle.rtk_collect.proofs.JoinsLemmas.{leading-between, epochs-partitioned, gt-past, gt-stop}
use Rattle.rtk_collect.proofs.epochs.place_among.Goals as goal
use Rattle.rtk_obs.specs.declared.cell.CellEntry.{CellEntry}

pub returns : goal.returns
returns c =
    let d = no_cells 0 in
    let parted = epochs-partitioned c.args.epoch c.args.sets.now.items c.requires in
    let point = IsPartitionPoint-from_clause (λ (x : EpochSetView CellEntry). is_gt (nat_cmp x.epoch c.args.epoch)) _ _ c.partition_point.ensures.partitioned parted (λ a r q k. search rules) in
    leading-between c.args.epoch c.partition_point.result d c.args.sets.now.items c.requires (omega (arith, c.partition_point.ensures.bound, c.args.sets.now.ok.0))
    (λ k l. gt-past _ _ (point.0 k d (omega arith) l)) (λ l. gt-stop _ _ (point.1 c.partition_point.result d (omega arith) l))
