use Rattle.std.proofs.Common.{◌∙◌, sym, subst}
use Rattle.std.proofs.lemmas.Result.{IfOk-weaker}
use Rattle.hol_type.specs.Tables as type
use Rattle.holide_sig.specs.ModuleLaws.{IsHeld-Keeps, declarations_of-Keeps}
use Rattle.lp_term.specs.TableLaws.{Keeps-trans}
use Rattle.translate_term.specs.Told.{TellsType}
use Rattle.translate_rule.proofs.ItemLaws.{generic-made}
use Rattle.translate_rule.proofs.items.constant_type.Goals as goal

pub ty-requires-clause-held : goal.ty-requires-clause-held
ty-requires-clause-held c = IsHeld-Keeps c.args.target.now _ c.type_scope.ensures.keeps c.requires.held

pub ty-requires-clause-told : goal.ty-requires-clause-told
ty-requires-clause-told c = (
  c.requires.told.0,
  subst (λ ds. TellsType ds c.requires.told.0 (type.tree_at c.args.types.now c.args.id.0))
      (sym (declarations_of-Keeps c.args.target.now _ c.type_scope.ensures.keeps c.requires.held)) c.requires.told.1,
)

pub returns-clause-made : goal.returns-clause-made
returns-clause-made c =
    IfOk-weaker c.over_types.result _ _
    (λ r h tables told.
    generic-made tables (type.tree_at c.args.types.now c.args.id.0) _ _ _ _ _ c.deref.result.now c.len.result c.in_ok-tree.tree c.in_ok-inside.inside r
    (c.deref.ensures.value ∙ c.in_ok-names.ensures) (c.len.ensures ∙ sym c.deref.ensures.len) c.in_ok-scope.ensures.made
    (c.in_ok-tree.ensures.made tables
    (subst (λ ds. TellsType ds tables (type.tree_at c.args.types.now c.args.id.0))
    (sym (declarations_of-Keeps c.args.target.now _ c.type_scope.ensures.keeps c.requires.held)) told)) c.in_ok-inside.ensures.made h)
    c.over_types.ensures.made

pub returns-clause-grows : goal.returns-clause-grows
returns-clause-grows c = record {
  table = Keeps-trans c.type_scope.ensures.keeps (Keeps-trans c.ty.ensures.keeps (Keeps-trans c.terms.ensures.keeps c.over_types.ensures.keeps));
  decls =
      c.ty.ensures.decls;
}
