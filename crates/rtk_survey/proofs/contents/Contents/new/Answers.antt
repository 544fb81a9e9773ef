use Rattle.std.proofs.Common.{refl}
use Rattle.rtk_survey.proofs.FreshLemmas.{nothing-counted}
use Rattle.rtk_survey.proofs.StationLemmas.{no-stations}
use Rattle.rtk_survey.proofs.contents.Contents.new.Goals as goal

pub returns : goal.returns
returns c = record {
  frames = refl;
  framed = refl;
  stations = no-stations c.new.result c.new.ensures.empty;
  codes = c.new-2.ensures;
  system_signals = c.new-3.ensures;
  weeks = nothing-counted c.new-4.result c.new-4.ensures.empty;
  system_tellings = c.new-5.ensures;
  unread = c.new-6.ensures;
  beside = nothing-counted c.new-7.result c.new-7.ensures.empty;
  target = c.answer_to.ensures;
  dayless = nothing-counted c.new-8.result c.new-8.ensures.empty;
}
