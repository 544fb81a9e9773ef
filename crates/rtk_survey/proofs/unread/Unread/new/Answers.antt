use Rattle.std.proofs.Common.{refl}
use Rattle.rtk_survey.proofs.FreshLemmas.{nothing-counted}
use Rattle.rtk_survey.proofs.unread.Unread.new.Goals as goal

pub returns : goal.returns
returns c = record {
  no_number = refl;
  others = nothing-counted c.new.result c.new.ensures.empty;
  short = nothing-counted c.new-2.result c.new-2.ensures.empty;
  outside_week = nothing-counted c.new-3.result c.new-3.ensures.empty;
  too_many_cells = nothing-counted c.new-4.result c.new-4.ensures.empty;
}
