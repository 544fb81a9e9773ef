use Rattle.std.specs.Prelude.{codes}
use Rattle.rtk_quality.specs.Entries.{code_entry}
use Rattle.rtk_quality.specs.Quality.{code_of_station, satellites_in}
use Rattle.rtk_quality.specs.QualityText.{each_code, codes_heading, codes_text}
use Rattle.rtk_quality.proofs.ListTextLemmas.{list-is}
use Rattle.rtk_quality.proofs.sections.put_codes.Goals as goal

pub returns : goal.returns
unfolding codes_text
returns c = λ most interval es stand.
    list-is c.args.form codes_heading (codes ",\n\"codes\":[")
    (each_code (λ place code. code_entry c.args.form code (satellites_in most interval es) (code_of_station most interval es place)) 0 c.args.codes.now)
    c.args.text.now.items c.begin_list.new.text.items c.put_each_code.new.text.items c.end_list.new.text.items _ _
    c.in_ok-start.ensures.text c.in_ok-start.ensures.list c.in_ok-start.ensures.entries (c.in_ok-put_each_code.ensures most interval es stand) c.in_ok-end_list.ensures
