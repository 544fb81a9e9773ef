use Rattle.rtk_commands.proofs.PassedLemmas.{too_long}
use Rattle.rtk_commands.proofs.ThroughLemmas.{done_through, nothing_through}
use Rattle.rtk_commands.specs.Show.{ShowsTextBy, IsBeforeOutput}
use Rattle.rtk_commands.specs.ShownBySet.{IsLineBy}
use Rattle.rtk_commands.specs.declared.showing.TheConstants.{SHOW_LIMIT}
use Rattle.rtk_commands.proofs.ShowThroughLemmas.{shown_part_through}
use Rattle.rtk_commands.proofs.showing.show_by.Goals as goal

pub returns : goal.returns
returns g c = record {
  told = done_through g.K.Before.had g.K.Before.held
      c.over-source.result.number c.show_accepted-shown.new.reader.number c.over-target.result.number c.show_accepted-shown.new.out.number
      (g.R.Read.remaining c.over-source.result.inner) (g.R.Read.remaining c.show_accepted-shown.new.reader.inner)
      (g.W.Write.contents c.over-target.result.inner) (g.W.Write.contents c.show_accepted-shown.new.out.inner) (g.W.Write.contents c.into_inner-writer.result)
      c.show_accepted-shown.result c.show_accepted-shown.new.reader.ended (ShowsTextBy (IsLineBy c.args.accepted) c.args.hex)
      c.over-source.ensures.number c.requires.one (rw c.over-source.ensures.inner c.requires.had) (rw c.over-target.ensures.inner c.requires.held)
      (rw c.into_inner-writer.ensures) c.show_accepted-shown.ensures.shown c.show_accepted-shown.ensures.whole.to_the_end;
  part = shown_part_through (IsLineBy c.args.accepted) c.args.hex g.K.Before.had g.K.Before.held
      c.over-source.result.number c.show_accepted-shown.new.reader.number c.over-target.result.number c.show_accepted-shown.new.out.number
      (g.R.Read.remaining c.over-source.result.inner) (g.R.Read.remaining c.show_accepted-shown.new.reader.inner)
      (g.W.Write.contents c.over-target.result.inner) (g.W.Write.contents c.show_accepted-shown.new.out.inner) (g.W.Write.contents c.into_inner-writer.result)
      c.show_accepted-shown.result c.show_accepted-shown.new.reader.ended
      c.over-source.ensures.number c.requires.one (rw c.over-source.ensures.inner c.requires.had) (rw c.over-target.ensures.inner c.requires.held)
      (rw c.into_inner-writer.ensures) c.show_accepted-shown.ensures.part c.show_accepted-shown.ensures.memory c.show_accepted-shown.ensures.whole.to_the_end;
  nothing = nothing_through g.K.Before.held c.over-target.result.number c.show_accepted-shown.new.out.number
      (g.W.Write.contents c.over-target.result.inner) (g.W.Write.contents c.show_accepted-shown.new.out.inner) (g.W.Write.contents c.into_inner-writer.result)
      c.show_accepted-shown.result IsBeforeOutput
      c.requires.one (rw c.over-target.ensures.inner c.requires.held) (rw c.into_inner-writer.ensures) c.show_accepted-shown.ensures.nothing;
  too_long = λ e. too_long g.K.Before.had c.over-source.result.number c.show_accepted-shown.new.reader.number
      (g.R.Read.remaining c.over-source.result.inner) (g.R.Read.remaining c.show_accepted-shown.new.reader.inner) SHOW_LIMIT
      c.over-source.ensures.number (rw c.over-source.ensures.inner c.requires.had) (c.show_accepted-shown.ensures.whole.too_long e);
}
