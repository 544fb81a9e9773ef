use Rattle.rtk_label.proofs.labelled_file.put_front.Goals as goal

pub returns-clause-all : goal.returns-clause-all
returns-clause-all g c = rw (c.as_slice.ensures.value, c.filled-front.ensures.value) at c.write_all.ensures.all

pub returns-clause-part : goal.returns-clause-part
returns-clause-part g c = rw (c.as_slice.ensures.value, c.filled-front.ensures.value) at c.write_all.ensures.part
