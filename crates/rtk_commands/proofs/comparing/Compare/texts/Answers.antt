use Rattle.std.proofs.lemmas.Result.{IfOk-weaker}
use Rattle.rtk_commands.proofs.CompareLemmas.{read-mixed, read-mixed_refused}
use Rattle.rtk_commands.proofs.comparing.Compare.texts.Goals as goal

pub returns-in-Err : goal.returns-in-Err
returns-in-Err c = read-mixed_refused c.args.old.now c.in_ok-read_old.read_old c.in-Err.fault c.in-Err.is c.in_ok-read_old.ensures

pub returns-in-Err-read_new : goal.returns-in-Err-read_new
returns-in-Err-read_new c = read-mixed_refused c.args.new.now c.in_ok-read_new.read_new c.in-Err-read_new.fault c.in-Err-read_new.is c.in_ok-read_new.ensures

pub returns : goal.returns
returns c =
    IfOk-weaker c.files.result _ _ (λ compared h. h c.args.old.now c.args.new.now
    (read-mixed c.args.old.now c.in_ok-read_old.read_old c.in-Ok.file c.in-Ok.is c.in_ok-read_old.ensures)
    (read-mixed c.args.new.now c.in_ok-read_new.read_new c.in-Ok-read_new.file c.in-Ok-read_new.is c.in_ok-read_new.ensures)) c.files.ensures
