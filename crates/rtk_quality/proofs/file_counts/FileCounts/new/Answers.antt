use Rattle.std.proofs.Common.{◌+◌, List, None, ap}
use Rattle.rtk_quality.specs.Standing.{ended_of}
use Rattle.rtk_quality.specs.declared.file_counts.EndedPass.{EndedPass}
use Rattle.rtk_quality.proofs.FileLemmas.{fresh-satellites}
use Rattle.rtk_quality.proofs.file_counts.FileCounts.new.Goals as goal

pub returns-clause-codes : goal.returns-clause-codes
returns-clause-codes c = (c.in_ok-missing_codes.ensures None).size

pub returns-clause-counts : goal.returns-clause-counts
returns-clause-counts c = λ interval unit.
    record {
      records = c.new.ensures unit;
      satellites = fresh-satellites c.args.most c.in_ok-vec.field-0.items c.new-2.result interval (c.in_ok-vec.ensures.items_if_clones_equal (λ y same. same)) c.new-2.ensures;
      ended = λ place within. ap (λ (xs : List EndedPass). ended_of (place + 1) xs) c.new-3.ensures.items;
      hours = c.new-4.ensures;
      gaps = c.new-5.ensures;
      moments = c.new-6.ensures;
      outages = c.new-7.ensures.outages;
      runs = c.new-7.ensures.runs;
      bursts = c.new-7.ensures.bursts;
      codes = c.in_ok-missing_codes.ensures interval;
      missing = c.new-8.ensures;
    }
