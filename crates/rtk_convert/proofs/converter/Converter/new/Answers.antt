use Rattle.std.proofs.Common.{◌≡◌, ℕ, subst, sym, ap, ◌∙◌, List, [], length, ◌≤◌, false, None, replicate}
use Rattle.std.proofs.lemmas.List.{length-replicate}
use Rattle.rtk_frame.specs.ScannerView.{scanner_view}
use Rattle.rtk_convert.specs.Converter.{RepresentLinks}
use Rattle.rtk_convert.specs.History.{new_history}
use Rattle.rtk_setup.specs.Setup.{SetupView}
use Rattle.rtk_convert.specs.declared.link_state.LinkState.{LinkState}
use Rattle.rtk_convert.proofs.BoundsLemmas.{bounded-new}
use Rattle.rtk_convert.proofs.ConverterLemmas.{links-new}
use Rattle.rtk_convert.proofs.converter.Converter.new.Goals as goal

pub returns-clause-ok : goal.returns-clause-ok
returns-clause-ok c =
    let new = c.in_ok-conversion.ensures in
    let links : c.in_ok-links.links.items ≡ replicate c.args.links (record { scanner = scanner_view [] false; newest = None }) =
    c.in_ok-links.ensures.new ∙ ap (λ (n : ℕ). replicate n (record { scanner = scanner_view [] false; newest = None })) c.in_ok-count.ensures.links in
    record {
      represents = record {
        going = new.going;
        links = subst (λ (ls : List LinkState). RepresentLinks ls (new_history c.args.links).links 0 (new_history c.args.links).found) (sym links) (links-new c.args.links 0);
        found = new.represents;
      };
      same_setup = new.same_setup;
      as_many = ap length links ∙ length-replicate c.args.links _;
      bounds = bounded-new c.in_ok-conversion.conversion c.in_ok-links.links.items c.args.links links (subst (λ (s : SetupView). length c.in_ok-conversion.conversion.collector.sets ≤ s.window) (sym new.same_setup) new.few) ([], new.represents.kept);
    }
