use Rattle.std.proofs.Common.{arith}
use Rattle.std.specs.List.{cons_option}
use Rattle.rtk_bits.specs.Bits.{bits}
use Rattle.rtk_survey.specs.DateMessages.{date_in}
use Rattle.rtk_survey.specs.FrameDates.{dates_in}
use Rattle.rtk_survey.specs.FrameEquipment.{equipment_among}
use Rattle.rtk_survey.specs.ReadFrames.{messages_in, faults_in}
use Rattle.rtk_survey.specs.SystemTellings.{system_messages_in}
use Rattle.rtk_survey.proofs.ResultLemmas.{on-ok}
use Rattle.rtk_survey.proofs.contents.Contents.take_fault.Goals as goal

pub returns : goal.returns
returns c = on-ok c.take_equipment_in.result (λ took q before stands.
    let one = c.saturating_add-self.ensures in
    let more = c.saturating_add-self-2.ensures in
    let was = stands.frames in
    let had = stands.framed in
    let dates = c.in_ok-take_dates_in.ensures in
    let ms = messages_in before in
    let ds = dates_in before in
    let es = equipment_among before in
    record {
      frames = omega (arith, one, was);
      framed = omega (arith, more, had);
      stations = took ms (cons_option (date_in (bits c.args.payload.now)) ds) es (dates.stations ms ds es stands.stations);
      codes = stands.codes;
      system_signals = stands.system_signals;
      weeks = dates.weeks ds stands.weeks;
      system_tellings = c.in_ok-take_tellings_in.ensures (system_messages_in before) stands.system_tellings;
      unread = c.in_ok-count_fault.ensures (faults_in before) stands.unread;
      beside = stands.beside;
      target = c.take_target_fault.ensures q before c.args.fault stands.frames stands.target;
      dayless = stands.dayless;
    }) c.take_equipment_in.ensures
