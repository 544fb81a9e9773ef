use Rattle.std.proofs.Common.{inl, inr, refl}
use Rattle.std.proofs.lemmas.Result.{IfOk-weaker}
use Rattle.rtk_commands.proofs.CompareLemmas.{read-mixed, read-mixed_refused}
use Rattle.rtk_commands.proofs.KeptPartLemmas.{parted-systems, text-all, text-first, refused-all}
use Rattle.rtk_commands.proofs.kept_part.KeptPartFileCommand.write.Goals as goal

pub cut_kept-requires-clause-some : goal.cut_kept-requires-clause-some
cut_kept-requires-clause-some g c =
    let file = c.in-Ok-read.file in
    parted-systems c.args.text.now file.table.text file.times file.label (read-mixed c.args.text.now c.in-Ok.read file c.in-Ok-read.is c.in-Ok.ensures)

pub returns-in-Ok-read-clause-all : goal.returns-in-Ok-read-clause-all
returns-in-Ok-read-clause-all g c =
    let file = c.in-Ok-read.file in
    IfOk-weaker c.cut_kept.result.1 _ _ (λ answer all. text-all c.args.self.now c.args.text.now file.table.text file.times file.label answer _ _
    (read-mixed c.args.text.now c.in-Ok.read file c.in-Ok-read.is c.in-Ok.ensures) all) c.cut_kept.ensures.all

pub returns-in-Ok-read-clause-part : goal.returns-in-Ok-read-clause-part
returns-in-Ok-read-clause-part g c e =
    let file = c.in-Ok-read.file in
    text-first c.args.self.now c.args.text.now file.table.text file.times file.label _ _ (read-mixed c.args.text.now c.in-Ok.read file c.in-Ok-read.is c.in-Ok.ensures) (c.cut_kept.ensures.part e)

pub returns-in-Ok-read-clause-memory : goal.returns-in-Ok-read-clause-memory
returns-in-Ok-read-clause-memory g c e = elim (c.cut_kept.ensures.memory e) [
  | inl none ↦ inl none
  | inr part ↦ inr (
    refl,
    text-first c.args.self.now c.args.text.now c.in-Ok-read.file.table.text c.in-Ok-read.file.times c.in-Ok-read.file.label _ _
        (read-mixed c.args.text.now c.in-Ok.read c.in-Ok-read.file c.in-Ok-read.is c.in-Ok.ensures) part,
  )
]

pub returns-in-Err-read-clause-all : goal.returns-in-Err-read-clause-all
returns-in-Err-read-clause-all g c =
    refused-all c.args.self.now c.args.text.now c.in-Err-read.fault _ (read-mixed_refused c.args.text.now c.in-Ok.read c.in-Err-read.fault c.in-Err-read.is c.in-Ok.ensures)
