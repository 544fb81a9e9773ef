use Rattle.std.specs.Prelude.{codes}
use Rattle.rtk_quality.specs.Quality.{totals_of}
use Rattle.rtk_quality.specs.QualityText.{each_code}
use Rattle.rtk_quality.specs.Shifts.{shift_entry, shifts_heading, shifts_text}
use Rattle.rtk_quality.proofs.ListTextLemmas.{list-is}
use Rattle.rtk_quality.proofs.shifts.put_shifts.Goals as goal

pub returns : goal.returns
unfolding shifts_text
returns c = λ most interval es stand.
    list-is c.args.form shifts_heading (codes ",\n\"doppler\":[") (each_code (λ place code. shift_entry c.args.form code (totals_of most interval es place).counts.shifts) 0 c.args.codes.now)
    c.args.text.now.items c.begin_list.new.text.items c.put_each_shift.new.text.items c.end_list.new.text.items _ _
    c.in_ok-start.ensures.text c.in_ok-start.ensures.list c.in_ok-start.ensures.entries (c.in_ok-put_each_shift.ensures most interval es stand) c.in_ok-end_list.ensures
