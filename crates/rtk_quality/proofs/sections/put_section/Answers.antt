use Rattle.std.proofs.Common.{◌++◌, ℕ, List, ap, ◌∙◌}
use Rattle.rtk_quality.specs.Lists.{opening}
use Rattle.rtk_quality.specs.QualityText.{section_heading, section_key, section_entries, section_text}
use Rattle.rtk_quality.proofs.ListTextLemmas.{list-is}
use Rattle.rtk_quality.proofs.sections.put_section.Goals as goal

pub returns : goal.returns
unfolding section_text
returns c = λ most interval es stand ended.
    let start : List ℕ = c.args.text.now.items in
    list-is c.args.form (section_heading c.args.section) (section_key c.args.section) (section_entries c.args.form c.args.section c.args.codes.now most interval es)
    start c.begin_list.new.text.items c.put_entries.new.text.items c.end_list.new.text.items _ _
    (c.in_ok-start.ensures.text
    ∙ ap (λ (heading : List ℕ). start ++ opening c.args.form heading c.section_key-key.result.now) c.section_heading-heading.ensures
    ∙ ap (λ (key : List ℕ). start ++ opening c.args.form (section_heading c.args.section) key) c.section_key-key.ensures)
    c.in_ok-start.ensures.list c.in_ok-start.ensures.entries (c.in_ok-put_entries.ensures most interval es stand ended) c.in_ok-end_list.ensures
