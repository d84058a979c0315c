use Rattle.std.proofs.Common.{◌∙◌, ap, sym, subst}
use Rattle.std.proofs.lemmas.Result.{IfOk-weaker}
use Rattle.hol_spec.specs.Types.{type_variables}
use Rattle.hol_type.specs.Tables as type
use Rattle.hol_term.specs.Tables.{term_at, type_at}
use Rattle.holide_sig.specs.ModuleLaws.{IsHeld-Keeps, declarations_of-Keeps}
use Rattle.lp_term.specs.TableLaws.{Keeps-trans}
use Rattle.translate_term.specs.Told.{TellsTerm, AreTermsKnown}
use Rattle.translate_rule.proofs.ItemLaws.{definition-made}
use Rattle.translate_rule.proofs.items.definition.Goals as goal

pub tm-requires-clause-held : goal.tm-requires-clause-held
tm-requires-clause-held c = IsHeld-Keeps c.args.target.now _ c.type_scope.ensures.keeps c.requires.held

pub tm-requires-clause-terms : goal.tm-requires-clause-terms
tm-requires-clause-terms c = subst (AreTermsKnown c.args.table.now.types c.type_scope.new.table) (sym c.in_ok-scope.ensures.terms) tt

pub tm-requires-clause-told : goal.tm-requires-clause-told
tm-requires-clause-told c = (
  c.requires.told.0,
  subst (λ ds. TellsTerm ds c.requires.told.0 (term_at c.args.table.now c.args.term.0))
      (sym (declarations_of-Keeps c.args.target.now _ c.type_scope.ensures.keeps c.requires.held)) c.requires.told.1,
)

pub returns-clause-made : goal.returns-clause-made
returns-clause-made c =
    IfOk-weaker c.at_types.result _ _
    (λ r h tables told.
    definition-made tables (type_at c.args.table.now c.args.id.0) (term_at c.args.table.now c.args.term.0) c.args.table.now.types _ _ _ _ _ c.deref.result.now
    c.len.result c.in_ok-body.body r (c.deref.ensures.value ∙ c.in_ok-names.ensures
    ∙ ap (λ ts. type_variables (type.tree_at ts c.args.id.0)) c.types.ensures.types) (c.len.ensures ∙ sym c.deref.ensures.len)
    c.in_ok-scope.ensures.made c.in_ok-scope.ensures.terms
    (c.in_ok-body.ensures.made tables
    (subst (λ ds. TellsTerm ds tables (term_at c.args.table.now c.args.term.0))
    (sym (declarations_of-Keeps c.args.target.now _ c.type_scope.ensures.keeps c.requires.held)) told)) h)
    c.at_types.ensures.made

pub returns-clause-grows : goal.returns-clause-grows
returns-clause-grows c = record
    { table = Keeps-trans c.type_scope.ensures.keeps (Keeps-trans c.tm.ensures.keeps c.at_types.ensures.keeps); decls = c.tm.ensures.decls }
