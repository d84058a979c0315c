use Rattle.std.proofs.Common.{sym, ap, ◌∙◌, Some}
use Rattle.std.proofs.lemmas.Result.{IfOk-weaker}
use Rattle.hol_term.specs.TableLaws.{Keeps-trans, PartsBelow-more, tree_of_node-Stays}
use Rattle.hol_term.proofs.Typings.{made_entry}
use Rattle.hol_term.proofs.TermTable.add.Goals as goal

pub insert-requires-clause-parts : goal.insert-requires-clause-parts
insert-requires-clause-parts c = PartsBelow-more c.type_of_node.ensures.keeps.longer c.type_of_node.ensures.keeps.types.longer c.args.node c.requires

pub insert-requires-clause-measured : goal.insert-requires-clause-measured
insert-requires-clause-measured c =
    made_entry _ _ c.args.node _ _ _ c.in_ok-facts.ensures c.type_of_node.ensures.keeps c.requires c.measures-measures.ensures c.in_ok-ty.ensures.typed

pub returns-clause-made : goal.returns-clause-made
returns-clause-made c =
    IfOk-weaker c.insert.result _ _
    (λ id h. h ∙ ap Some (sym (tree_of_node-Stays _ _ c.type_of_node.ensures.keeps.types.stays c.type_of_node.ensures.keeps.stays c.args.node c.requires)))
    c.insert.ensures.made

pub returns-clause-keeps : goal.returns-clause-keeps
returns-clause-keeps c = Keeps-trans c.type_of_node.ensures.keeps c.insert.ensures.keeps
