use Rattle.std.proofs.Common.{ℕ, List, Option, ap}
use Rattle.rtk_cli.specs.Steps.Links.{AreLinksOf}
use Rattle.rtk_cli.proofs.LinkLemmas.{gathered, behind, done-by-bytes, at-read, part-by-bytes}
use Rattle.rtk_cli.proofs.converting.convert_by.Goals as goal

pub returns-clause-kept : goal.returns-clause-kept
returns-clause-kept g c =
    let held : ℕ → Option (List ℕ) = g.K.Before.held in
    let are : AreLinksOf c.as_mut_slice.result.now c.args.readers.items (λ link. link.number) (λ link. link.inner) = rw c.as_mut_slice.ensures.value c.in_ok-sources.ensures.sources in
    let file = behind held c.in-Ok.file.number c.run-done.new.out.number 0 (gathered g.O.Write.contents c.in-Ok.file.inner) (gathered g.O.Write.contents c.run-done.new.out.inner)
    (g.O.Write.contents c.args.out) (g.O.Write.contents c.flush_both.result.out) c.flush_both.result.is_out
    c.in-Ok.ensures.number c.in-Ok.ensures.held (ap (λ (h : ℕ → Option (List ℕ)). h 0) c.requires.held) c.flush_both.ensures.out in
    let log = behind held c.in-Ok-sink.log.number c.run-done.new.log.number 1 (gathered g.L.Write.contents c.in-Ok-sink.log.inner) (gathered g.L.Write.contents c.run-done.new.log.inner)
    (g.L.Write.contents c.args.report) (g.L.Write.contents c.flush_both.result.report) c.flush_both.result.is_out
    c.in-Ok-sink.ensures.number c.in-Ok-sink.ensures.held (ap (λ (h : ℕ → Option (List ℕ)). h 1) c.requires.held) c.flush_both.ensures.report in
    done-by-bytes g.R.Read.remaining g.K.Before.had _ _ c.args.setup c.run-done.new.sources c.run-done.result c.flush_both.result.done
    c.flush_both.ensures.done c.requires.had are (λ x end. end.1) file log c.run-done.ensures.kept

pub returns-clause-first_part : goal.returns-clause-first_part
returns-clause-first_part g c =
    let held : ℕ → Option (List ℕ) = g.K.Before.held in
    let are : AreLinksOf c.as_mut_slice.result.now c.args.readers.items (λ link. link.number) (λ link. link.inner) = rw c.as_mut_slice.ensures.value c.in_ok-sources.ensures.sources in
    let file = behind held c.in-Ok.file.number c.run-done.new.out.number 0 (gathered g.O.Write.contents c.in-Ok.file.inner) (gathered g.O.Write.contents c.run-done.new.out.inner)
    (g.O.Write.contents c.args.out) (g.O.Write.contents c.flush_both.result.out) c.flush_both.result.is_out
    c.in-Ok.ensures.number c.in-Ok.ensures.held (ap (λ (h : ℕ → Option (List ℕ)). h 0) c.requires.held) c.flush_both.ensures.out in
    let log = behind held c.in-Ok-sink.log.number c.run-done.new.log.number 1 (gathered g.L.Write.contents c.in-Ok-sink.log.inner) (gathered g.L.Write.contents c.run-done.new.log.inner)
    (g.L.Write.contents c.args.report) (g.L.Write.contents c.flush_both.result.report) c.flush_both.result.is_out
    c.in-Ok-sink.ensures.number c.in-Ok-sink.ensures.held (ap (λ (h : ℕ → Option (List ℕ)). h 1) c.requires.held) c.flush_both.ensures.report in
    part-by-bytes g.R.Read.remaining g.K.Before.had c.args.setup c.run-done.new.sources c.run-done.result c.flush_both.result.done
    c.flush_both.ensures.done c.requires.had are file log (at-read _ _ _ _ _ _ _ _ _ _ _ c.run-done.result c.run-done.ensures.read_failed c.run-done.ensures.endless)
