use Rattle.std.proofs.Common.{◌∙◌, ap, Some}
use Rattle.std.specs.Prelude.{replicate}
use Rattle.std.proofs.lemmas.Result.{IfOk-weaker}
use Rattle.lp_spec.specs.Modules.{abstractions, types}
use Rattle.lp_term.specs.TableLaws.{Holds-tree_at, Holds-within}
use Rattle.translate_term.specs.GrowLaws.{Grows-trans, Grows-table}
use Rattle.translate_rule.proofs.parts.under_types.Goals as goal

pub at_types-requires : goal.at_types-requires
at_types-requires c = Holds-within _ c.in_ok-body.body.0 _ (c.in_ok-body.ensures.made c.requires.told.0 c.requires.told.1 c.requires.told.2 c.requires.told.3)

pub returns-clause-made : goal.returns-clause-made
returns-clause-made c =
    IfOk-weaker c.at_types.result _ _
    (λ r h given stands whole told. h ∙ ap (λ t. Some (abstractions (replicate c.args.count types) t))
    (Holds-tree_at _ c.in_ok-body.body.0 _ (c.in_ok-body.ensures.made given stands whole told))) c.at_types.ensures.made

pub returns-clause-grows : goal.returns-clause-grows
returns-clause-grows c = Grows-trans c.type_part.ensures.grows (Grows-table _ _ c.at_types.ensures.keeps)
