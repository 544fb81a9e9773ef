use Rattle.std.proofs.Common.{None, append_assoc, length}
use Rattle.rtk_survey.specs.FrameDates.{dates_in}
use Rattle.rtk_survey.specs.FrameEquipment.{equipment_among}
use Rattle.rtk_survey.specs.ReadFrames.{messages_in, faults_in}
use Rattle.rtk_survey.specs.Summary.{summary_text}
use Rattle.rtk_survey.specs.SystemTellings.{system_messages_in}
use Rattle.rtk_survey.proofs.LineLemmas.{all-codes-are, look-lines-are}
use Rattle.rtk_survey.proofs.lines.summary_lines.Goals as goal

pub returns : goal.returns
unfolding summary_text
returns c = λ bytes fs is.
    let ms = messages_in fs in
    let ds = dates_in fs in
    let es = equipment_among fs in
    let ts = system_messages_in fs in
    let held = is.contents in
    rw (
      c.in_ok-put_nothing.ensures,
      c.as_slice.ensures.value,
      c.in_ok-codes.ensures,
      all-codes-are c.args.survey.now.contents.codes c.args.survey.now.contents.system_signals ms held.codes held.system_signals,
      c.in_ok-put_unread.ensures (faults_in fs) held.unread,
      c.in_ok-put_system_weeks.ensures ts held.system_tellings,
      c.in_ok-put_weeks.ensures ds held.weeks,
      c.in_ok-put_stations.ensures ms ds es held.stations,
      c.in_ok-put_look.ensures,
      is.look,
      look-lines-are (length fs) bytes,
      c.in_ok-put_sizes.ensures None (length bytes) fs is.size held,
      c.new-lines.ensures.items,
    ) (simp append_assoc)
