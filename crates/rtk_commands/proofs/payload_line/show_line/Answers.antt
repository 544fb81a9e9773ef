use Rattle.rtk_commands.proofs.KindLemmas.{line-of-show}
use Rattle.rtk_commands.proofs.payload_line.show_line.Goals as goal

pub returns : goal.returns
returns c =
    let decodes = rw c.only.ensures at c.decode_any.ensures in
    let put = rw c.new-line.ensures.items at c.in_ok-put_reading.ensures in
    line-of-show c.args.payload.now c.put_reading.new.lines.items (c.decode_any.result, decodes, put)
