use Rattle.std.proofs.Common.{List, ℕ}
use Rattle.std.specs.Prelude.{codes}
use Rattle.rtk_chart.specs.SvgPicture.{svg_start, number_between, xml_text}
use Rattle.rtk_chart.specs.declared.svg_picture.TheConstants.{STYLE}
use Rattle.rtk_chart.proofs.ListLemmas.{and-then}
use Rattle.rtk_chart.proofs.svg_picture.put_start.Goals as goal

pub returns : goal.returns
unfolding svg_start
returns c =
    let l0 : List ℕ = c.args.text.now.items in
    let l1 : List ℕ = c.put_between.new.text.items in
    let l2 : List ℕ = c.put_xml.new.text.items in
    let l3 : List ℕ = c.extend_from_slice.new.self.items in
    let l4 : List ℕ = c.extend_from_slice-2.new.self.items in
    let l5 : List ℕ = c.put_between-2.new.text.items in
    let l6 : List ℕ = c.put_xml-2.new.text.items in
    let l7 : List ℕ = c.extend_from_slice-3.new.self.items in
    and-then l0 l6 l7 _ (codes "</text>\n") (and-then l0 l5 l6 _ (xml_text c.args.marker.now) (and-then l0 l4 l5 _ (number_between (codes "<rect class='page' width='1620' height='") c.args.height (codes "'/>\n<text class='marker' x='110' y='42'>")) (and-then l0 l3 l4 _ (STYLE.now) (and-then l0 l2 l3 _ (codes "</title>\n") (and-then l0 l1 l2 (number_between (codes "<svg xmlns='http://www.w3.org/2000/svg' viewBox='0 0 1620 ") c.args.height (codes "'>\n<title>")) (xml_text c.args.marker.now) (c.in_ok-put_between.ensures) (c.in_ok-put_xml.ensures)) (c.in_ok-extend_from_slice.ensures.items)) (c.in_ok-extend_from_slice-2.ensures.items)) (c.in_ok-put_between-2.ensures)) (c.in_ok-put_xml-2.ensures)) (c.in_ok-extend_from_slice-3.ensures.items)
