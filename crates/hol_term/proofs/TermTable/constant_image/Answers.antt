use Rattle.std.proofs.Common.{◌∙◌, ap, Some}
use Rattle.std.proofs.lemmas.Result.{IfOk-weaker}
use Rattle.hol_spec.specs.Terms.{constant as constant_tree}
use Rattle.hol_term.specs.TableLaws.{Keeps-trans}
use Rattle.hol_term.proofs.TermTable.constant_image.Goals as goal

pub returns-clause-made : goal.returns-clause-made
returns-clause-made c = IfOk-weaker c.add.result _ _ (λ id h. h ∙ ap (λ t. Some (constant_tree c.args.name t)) c.in_ok-put.ensures.made) c.add.ensures.made

pub returns-clause-keeps : goal.returns-clause-keeps
returns-clause-keeps c = Keeps-trans c.type_image.ensures.keeps c.add.ensures.keeps
