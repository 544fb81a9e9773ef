use Rattle.rtk_survey.proofs.NamedLemmas.{named-most, named-greater, named-none}
use Rattle.rtk_survey.proofs.laws.most_epochs_are_named.Goals as goal

pub returns-clause-most : goal.returns-clause-most
returns-clause-most c = named-most

pub returns-clause-greater : goal.returns-clause-greater
returns-clause-greater c = named-greater

pub returns-clause-none : goal.returns-clause-none
returns-clause-none c = named-none
