use Rattle.std.proofs.Common.{◌≡◌, ◌∙◌}
use Rattle.rtk_rinex.specs.Header.{IsMarker}
use Rattle.rtk_rinex.specs.declared.head_fault.HeadFault.TheVariants.{Marker}
use Rattle.rtk_rinex.proofs.HeaderShownLemmas.{marker_is, good_kept}
use Rattle.rtk_rinex.proofs.header_check.read_marker.Goals as goal

pub returns : goal.returns
returns c = λ m h line.
    let shown : c.split_at.result.0.now ≡ m = c.split_at.ensures.front ∙ c.trimmed_len.ensures.value ∙ rw c.columns_at-content.ensures.value (marker_is c.args.text.now line.0 m h line.1) in
    c.ok.ensures.value ∙ good_kept IsMarker (λ fault. fault ≡ Marker) c.new.result c.split_at.result.0.now m shown h c.new.ensures.name c.new.ensures.fault
