use Rattle.std.proofs.Common.{◌∙◌, sym, subst}
use Rattle.holide_sig.specs.Modules.{declarations_of}
use Rattle.hol_term.specs.Tables.{term_at}
use Rattle.hol_type.specs.Tables as type
use Rattle.lp_term.specs.Tables.{Holds}
use Rattle.translate_spec.specs.Scopes.{SymbolMap, generic_tree}
use Rattle.translate_term.specs.Told.{TellsTerm, TellsType}
use Rattle.translate_term.specs.GrowLaws.{IsHeld-Grows, declarations_of-Grows}
use Rattle.translate_rule.proofs.ItemLaws.{defined-declared}
use Rattle.translate_rule.proofs.items.constant.Goals as goal

pub constant_type-requires-clause-told : goal.constant_type-requires-clause-told
constant_type-requires-clause-told c = (
  c.requires.told.0,
  subst (λ ts. TellsType (declarations_of c.args.target.now) c.requires.told.0 (type.tree_at ts c.args.id.0)) (sym c.types.ensures.types) c.requires.told.1.0,
)

pub definition-requires-clause-held : goal.definition-requires-clause-held
definition-requires-clause-held c = IsHeld-Grows c.args.target.now _ c.constant_type.ensures.grows c.requires.held

pub definition-requires-clause-told : goal.definition-requires-clause-told
definition-requires-clause-told c = (
  c.requires.told.0,
  subst (λ ds. TellsTerm ds c.requires.told.0 (term_at c.args.table.now c.args.term.0))
      (sym (declarations_of-Grows c.args.target.now _ c.constant_type.ensures.grows c.requires.held)) c.requires.told.1.1,
)

pub returns-clause-made : goal.returns-clause-made
returns-clause-made c = λ tables told.
    let made =
    subst (λ ts. (tables : SymbolMap) → TellsType (declarations_of c.args.target.now) tables (type.tree_at ts c.args.id.0)
    → Holds c.constant_type.new.target.table c.in_ok-ty.ty.0 (generic_tree tables (type.tree_at ts c.args.id.0))) c.types.ensures.types
    c.in_ok-ty.ensures.made in
    defined-declared _ _ c.new-name.result c.in_ok-ty.ty c.in_ok-body.body _ _ (c.new-name.ensures ∙ c.in_ok-constant_name.ensures)
    (c.in_ok-body.ensures.grows.table.stays.each _ _ (made tables told.0))
    (c.in_ok-body.ensures.made tables
    (subst (λ ds. TellsTerm ds tables (term_at c.args.table.now c.args.term.0))
    (sym (declarations_of-Grows c.args.target.now _ c.constant_type.ensures.grows c.requires.held)) told.1))
