use Rattle.std.proofs.Common.{◌≡◌}
use Rattle.rtk_frame.specs.Stream.{with_more, TakesPart}
use Rattle.rtk_commands.specs.FileTable.{file_front}
use Rattle.rtk_commands.proofs.FileTableLemmas.{of-gps, of-mixed}
use Rattle.rtk_commands.proofs.ResultLemmas.{on_ok-map}
use Rattle.rtk_commands.proofs.any_table.AnyTable.write_front.Goals as goal

pub returns-in-Gps-clause-all : goal.returns-in-Gps-clause-all
returns-in-Gps-clause-all g c =
    on_ok-map c.write_front.result
    (of-gps (λ f. g.W.Sink.taken c.write_front.new.out ≡ with_more (g.W.Sink.taken c.args.out.now) (file_front c.args.label.now f)) c.args.self.now c.in-Gps.table c.in-Gps.is c.requires) c.write_front.ensures.all

pub returns-in-Gps-clause-first : goal.returns-in-Gps-clause-first
returns-in-Gps-clause-first g c =
    of-gps (λ f. TakesPart (g.W.Sink.taken c.args.out.now) (g.W.Sink.taken c.write_front.new.out) (file_front c.args.label.now f)) c.args.self.now c.in-Gps.table c.in-Gps.is c.requires c.write_front.ensures.first

pub returns-in-Mixed-clause-all : goal.returns-in-Mixed-clause-all
returns-in-Mixed-clause-all g c =
    on_ok-map c.write_front_mixed.result
    (of-mixed (λ f. g.W.Sink.taken c.write_front_mixed.new.out ≡ with_more (g.W.Sink.taken c.args.out.now) (file_front c.args.label.now f)) c.args.self.now c.in-Mixed.table c.in-Mixed.is c.requires) c.write_front_mixed.ensures.all

pub returns-in-Mixed-clause-first : goal.returns-in-Mixed-clause-first
returns-in-Mixed-clause-first g c =
    of-mixed (λ f. TakesPart (g.W.Sink.taken c.args.out.now) (g.W.Sink.taken c.write_front_mixed.new.out) (file_front c.args.label.now f)) c.args.self.now c.in-Mixed.table c.in-Mixed.is c.requires c.write_front_mixed.ensures.first
