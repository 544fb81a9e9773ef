use Rattle.std.proofs.Common.{◌≡◌, ◌++◌, sym, subst}
use Rattle.rtk_quality.specs.QualityText.{marker_text}
use Rattle.rtk_quality.specs.declared.form.Form.{Form}
use Rattle.rtk_quality.proofs.TextLemmas.{json-marker}
use Rattle.rtk_quality.proofs.heading.put_marker.Goals as goal

pub returns-in_ok-extend_from_slice-in-Json-2 : goal.returns-in_ok-extend_from_slice-in-Json-2
returns-in_ok-extend_from_slice-in-Json-2 c =
    subst (λ (form : Form). c.extend_from_slice-in-Json-2.new.self.items ≡ c.args.text.now.items ++ marker_text form c.args.marker.now) (sym c.in-Json.is)
    (json-marker c.args.marker.now _ _ _ _ c.in_ok-extend_from_slice-in-Json.ensures.items c.in_ok-put_json_text-in-Json.ensures c.in_ok-extend_from_slice-in-Json-2.ensures.items)
