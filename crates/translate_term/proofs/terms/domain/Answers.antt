use Rattle.std.proofs.Common.{◌∙◌, ap, Some}
use Rattle.std.proofs.lemmas.Result.{IfOk-weaker}
use Rattle.lp_spec.specs.Modules.{term_of}
use Rattle.lp_spec.specs.Trees.{lift}
use Rattle.lp_term.specs.TableLaws.{Holds-tree_at, Keeps-trans}
use Rattle.translate_term.specs.GrowLaws.{Grows-table, Grows-trans, IsTypeMemo-Keeps}
use Rattle.translate_term.proofs.EndsLaws.{OnOk-always}
use Rattle.translate_term.proofs.terms.domain.Goals as goal

pub returns-clause-noted : goal.returns-clause-noted
returns-clause-noted c = OnOk-always c.call.result
    (λ given s. IsTypeMemo-Keeps (Keeps-trans c.in_ok-lifted.ensures.keeps c.call.ensures.keeps) given _ _ (c.in_ok-tree.ensures.noted given s))

pub call-requires : goal.call-requires
call-requires c = (c.in_ok-lifted.ensures.known, tt {0})

pub returns-clause-made : goal.returns-clause-made
returns-clause-made c =
    let made = c.in_ok-tree.ensures.made in
    IfOk-weaker c.call.result _ _
    (λ r h given s. h ∙ ap (λ a. Some (term_of a))
    (Holds-tree_at _ c.in_ok-lifted.lifted.0 _ c.in_ok-lifted.ensures.made ∙ ap (lift c.args.depth) (Holds-tree_at _ c.in_ok-tree.tree.0 _ (made given s))))
    c.call.ensures.made

pub returns-clause-grows : goal.returns-clause-grows
returns-clause-grows c = Grows-trans c.in_ok-tree.ensures.grows
    (Grows-table c.type_in.new.target _ (Keeps-trans c.in_ok-lifted.ensures.keeps c.call.ensures.keeps))

pub returns-in_err-lifted-clause-grows : goal.returns-in_err-lifted-clause-grows
returns-in_err-lifted-clause-grows c = Grows-trans c.in_ok-tree.ensures.grows (Grows-table c.type_in.new.target _ c.lift.ensures.keeps)
