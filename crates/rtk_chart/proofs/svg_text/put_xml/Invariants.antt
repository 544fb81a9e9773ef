use Rattle.std.proofs.Common.{◌≡◌, ◌++◌, take}
use Rattle.std.specs.Prelude.{flat_map}
use Rattle.rtk_chart.specs.SvgPicture.{xml_character}
use Rattle.rtk_chart.proofs.svg_text.put_xml.Given as goal

abbrev pub invariant-loop-character : goal.invariant-loop-character
invariant-loop-character l = l.text.items ≡ l.fn.text.items ++ flat_map xml_character (take l.character-index l.words)
