use Rattle.std.proofs.Common.{◌<◌, ◌∙◌, length, arith}
use Rattle.rtk_survey.proofs.signals.Signals.mark_entry.Goals as goal

pub returns : goal.returns
returns c = λ es stands. record {
  satellites_size = c.mark.ensures.size ∙ stands.satellites_size;
  satellites = λ n lt.
      let size = c.mark.ensures.size in
      let inside : n < length c.args.self.now.satellites = omega (arith, lt, size) in
      c.mark.ensures.marked n inside ∙ rw (c.has_value.ensures, c.from.ensures, stands.satellites n inside);
  codes = c.mark_code.ensures es stands.codes;
}
