use Rattle.rtk_compare.proofs.FindingLemmas.{push-lost, push-changed, push-explained}
use Rattle.rtk_compare.proofs.findings.Findings.push.Goals as goal

pub returns-in-Lost : goal.returns-in-Lost
returns-in-Lost c = push-lost c.args.self.now c.push.new.self c.args.class c.args.what c.args.place.now c.in-Lost.is c.push.ensures

pub returns-in-Changed : goal.returns-in-Changed
returns-in-Changed c = push-changed c.args.self.now c.push-in-Changed.new.self c.args.class c.args.what c.args.place.now c.in-Changed.is c.push-in-Changed.ensures

pub returns-in-Explained : goal.returns-in-Explained
returns-in-Explained c = push-explained c.args.self.now c.push-in-Explained.new.self c.args.class c.args.what c.args.place.now c.in-Explained.is c.push-in-Explained.ensures
