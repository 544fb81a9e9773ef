use Rattle.std.proofs.Common.{◌∷◌, sym, subst}
use Rattle.rtk_message.specs.declared.any_fault.AnyFault.{AnyFault}
use Rattle.rtk_survey.specs.Contents.{CountsFaults}
use Rattle.rtk_survey.proofs.FaultLemmas.{other-more, short-more, outside-more, cells-more}
use Rattle.rtk_survey.proofs.ResultLemmas.{both-ok}
use Rattle.rtk_survey.proofs.unread.Unread.count_fault.Goals as goal

pub returns-in-Other : goal.returns-in-Other
returns-in-Other c = both-ok c.count_number.result (λ own others fs had.
    subst (λ (f : AnyFault). CountsFaults (record c.args.self.now { others = c.count_number.new.counts }) (f ∷ fs)) (sym c.in-Other.is)
    (other-more c.args.self.now fs c.in-Other.number c.count_number.new.counts (own, others) had)) c.count_number.ensures.own c.count_number.ensures.others

pub returns-in-Short : goal.returns-in-Short
returns-in-Short c = both-ok c.count_number-in-Short.result (λ own others fs had.
    subst (λ (f : AnyFault). CountsFaults (record c.args.self.now { short = c.count_number-in-Short.new.counts }) (f ∷ fs)) (sym c.in-Short.is)
    (short-more c.args.self.now fs c.in-Short.number c.count_number-in-Short.new.counts (own, others) had)) c.count_number-in-Short.ensures.own c.count_number-in-Short.ensures.others

pub returns-in-EpochRange : goal.returns-in-EpochRange
returns-in-EpochRange c = both-ok c.count_number-in-EpochRange.result (λ own others fs had.
    subst (λ (f : AnyFault). CountsFaults (record c.args.self.now { outside_week = c.count_number-in-EpochRange.new.counts }) (f ∷ fs)) (sym c.in-EpochRange.is)
    (outside-more c.args.self.now fs c.in-EpochRange.number c.count_number-in-EpochRange.new.counts (own, others) had)) c.count_number-in-EpochRange.ensures.own c.count_number-in-EpochRange.ensures.others

pub returns-in-TooManyCells : goal.returns-in-TooManyCells
returns-in-TooManyCells c = both-ok c.count_number-in-TooManyCells.result (λ own others fs had.
    subst (λ (f : AnyFault). CountsFaults (record c.args.self.now { too_many_cells = c.count_number-in-TooManyCells.new.counts }) (f ∷ fs)) (sym c.in-TooManyCells.is)
    (cells-more c.args.self.now fs c.in-TooManyCells.number c.count_number-in-TooManyCells.new.counts (own, others) had)) c.count_number-in-TooManyCells.ensures.own c.count_number-in-TooManyCells.ensures.others
