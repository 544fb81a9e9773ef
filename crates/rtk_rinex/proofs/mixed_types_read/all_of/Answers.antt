use Rattle.std.proofs.Common.{arith}
use Rattle.rtk_rinex.proofs.MixedCodesLemmas.{all_of_system, letter_count}
use Rattle.rtk_rinex.proofs.mixed_types_read.all_of.Goals as goal

pub returns-clause-all : goal.returns-clause-all
returns-clause-all c = rw c.codes_of.ensures.value (all_of_system c.args.system c.requires)

pub returns-clause-few : goal.returns-clause-few
returns-clause-few c =
    let all = all_of_system c.args.system c.requires in
    let count = letter_count c.args.system c.requires in
    let size = all.length in
    rw c.codes_of.ensures.value (omega (arith, size, count), omega (arith, size, count))
