use Rattle.std.proofs.Common.{◌≡◌, length}
use Rattle.std.proofs.lemmas.Result.{IfOk-weaker}
use Rattle.rtk_frame.specs.Stream.{with_more, TakesPart}
use Rattle.rtk_tracking.specs.Epochs.{capped}
use Rattle.rtk_cut.specs.CutWriting.{CountsPart, CountsMixedPart}
use Rattle.rtk_commands.specs.CutInput.{part_of_file, CountsPartOfFile}
use Rattle.rtk_commands.specs.FileTable.{file_text, file_epochs, text_of}
use Rattle.rtk_commands.proofs.FileTableLemmas.{of-gps, of-mixed}
use Rattle.rtk_commands.proofs.ResultLemmas.{on_ok-map, on_err-map}
use Rattle.rtk_commands.proofs.any_table.AnyTable.cut.Goals as goal

pub returns-in-Gps-clause-all : goal.returns-in-Gps-clause-all
returns-in-Gps-clause-all g c =
    on_ok-map c.cut.result
    (of-gps (λ f. g.W.Sink.taken c.cut.new.out ≡ with_more (g.W.Sink.taken c.args.out.now) (file_text (part_of_file c.args.part f))) c.args.self.now c.in-Gps.table c.in-Gps.is c.requires.letter) c.cut.ensures.all

pub returns-in-Gps-clause-counts : goal.returns-in-Gps-clause-counts
returns-in-Gps-clause-counts g c =
    IfOk-weaker c.cut.result (CountsPart c.in-Gps.table.text c.args.part) (CountsPartOfFile (text_of c.args.self.now) c.args.part)
    (λ counts. of-gps (λ f. (counts.records ≡ capped (length (file_epochs f))) × (counts.written ≡ capped (length (file_epochs (part_of_file c.args.part f))))) c.args.self.now c.in-Gps.table c.in-Gps.is c.requires.letter)
    c.cut.ensures.counts

pub returns-in-Gps-clause-first : goal.returns-in-Gps-clause-first
returns-in-Gps-clause-first g c =
    on_err-map c.cut.result
    (of-gps (λ f. TakesPart (g.W.Sink.taken c.args.out.now) (g.W.Sink.taken c.cut.new.out) (file_text (part_of_file c.args.part f))) c.args.self.now c.in-Gps.table c.in-Gps.is c.requires.letter) c.cut.ensures.part

pub returns-in-Mixed-clause-all : goal.returns-in-Mixed-clause-all
returns-in-Mixed-clause-all g c =
    on_ok-map c.cut_mixed.result
    (of-mixed (λ f. g.W.Sink.taken c.cut_mixed.new.out ≡ with_more (g.W.Sink.taken c.args.out.now) (file_text (part_of_file c.args.part f))) c.args.self.now c.in-Mixed.table c.in-Mixed.is c.requires.letter) c.cut_mixed.ensures.all

pub returns-in-Mixed-clause-counts : goal.returns-in-Mixed-clause-counts
returns-in-Mixed-clause-counts g c =
    IfOk-weaker c.cut_mixed.result (CountsMixedPart c.in-Mixed.table.text c.args.part) (CountsPartOfFile (text_of c.args.self.now) c.args.part)
    (λ counts. of-mixed (λ f. (counts.records ≡ capped (length (file_epochs f))) × (counts.written ≡ capped (length (file_epochs (part_of_file c.args.part f))))) c.args.self.now c.in-Mixed.table c.in-Mixed.is c.requires.letter)
    c.cut_mixed.ensures.counts

pub returns-in-Mixed-clause-first : goal.returns-in-Mixed-clause-first
returns-in-Mixed-clause-first g c =
    on_err-map c.cut_mixed.result
    (of-mixed (λ f. TakesPart (g.W.Sink.taken c.args.out.now) (g.W.Sink.taken c.cut_mixed.new.out) (file_text (part_of_file c.args.part f))) c.args.self.now c.in-Mixed.table c.in-Mixed.is c.requires.letter) c.cut_mixed.ensures.part
