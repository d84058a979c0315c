use Rattle.std.proofs.Common.{◌∙◌, ap, Some}
use Rattle.std.specs.Prelude.{replicate}
use Rattle.std.proofs.lemmas.Result.{IfOk-weaker}
use Rattle.lp_spec.specs.Modules.{products, types}
use Rattle.lp_term.specs.TableLaws.{Holds-tree_at, Keeps-trans}
use Rattle.translate_rule.proofs.generics.operator_type.Goals as goal

pub returns-clause-made : goal.returns-clause-made
returns-clause-made c =
    IfOk-weaker c.over_types.result _ _ (λ r h. h
    ∙ ap (λ t. Some (products (replicate c.args.arity types) t)) (Holds-tree_at _ c.in_ok-end.end.0 _ c.in_ok-end.ensures.made)) c.over_types.ensures.made

pub returns-clause-keeps : goal.returns-clause-keeps
returns-clause-keeps c = Keeps-trans c.simple_type.ensures.keeps c.over_types.ensures.keeps
