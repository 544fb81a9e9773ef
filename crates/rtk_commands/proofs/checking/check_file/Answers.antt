use Rattle.std.proofs.Common.{◌≡◌}
use Rattle.rtk_commands.proofs.ResultLemmas.{if-not-failed}
use Rattle.rtk_commands.proofs.VerdictLemmas.{tells, tells_part}
use Rattle.rtk_commands.proofs.checking.check_file.Goals as goal

pub returns-then-is_err-clause-part : goal.returns-then-is_err-clause-part
returns-then-is_err-clause-part g c e =
    let read = c.in_ok-text.ensures.whole in
    let text_is : read.0 ≡ c.as_slice.result.now = cc (read.2.0, c.as_slice.ensures.value) in (
      read.0,
      read.1,
      (
        read.2.1,
        rw text_is (tells_part c.as_slice.result.now c.in_ok-verdict.verdict.bytes.items c.in_ok-verdict.verdict.answer _ _
            c.in_ok-verdict.ensures (rw c.as_slice-2.ensures.value at c.write_all.ensures.part)),
      ),
    )

pub returns-clause-told : goal.returns-clause-told
returns-clause-told g c =
    let read = c.in_ok-text.ensures.whole in
    let text_is : read.0 ≡ c.as_slice.result.now = cc (read.2.0, c.as_slice.ensures.value) in (
      read.0,
      read.1,
      (
        read.2.1,
        rw text_is (tells c.as_slice.result.now c.in_ok-verdict.verdict.bytes.items c.in_ok-verdict.verdict.answer c.is_yes.result _ _
            c.is_yes.ensures c.in_ok-verdict.ensures
            (if-not-failed c.write_all.result c.is_err.result c.is_err.ensures.value c.if-is_err.false (rw c.as_slice-2.ensures.value at c.write_all.ensures.all))),
      ),
    )
