use Rattle.std.proofs.Common.{◌≡◌, [], false, None, replicate}
use Rattle.rtk_frame.specs.ScannerView.{scanner_view}
use Rattle.rtk_convert.proofs.converter.new_links.Given as goal

abbrev pub invariant-loop : goal.invariant-loop
invariant-loop l = l.links.items ≡ replicate l.counter (record { scanner = scanner_view [] false; newest = None })
