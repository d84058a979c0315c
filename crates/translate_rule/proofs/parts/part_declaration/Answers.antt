use Rattle.std.proofs.Common.{◌∙◌, arith, sym, subst}
use Rattle.hol_spec.specs.Proofs.{sequent_at}
use Rattle.hol_term.specs.Tables.{term_at, type_at}
use Rattle.image_items_laws.specs.Told.{TellsContent}
use Rattle.translate_rule.specs.ItemViews.{names_of_view}
use Rattle.translate_rule.specs.Parts.{part_at}
use Rattle.translate_term.specs.GrowLaws.{Grows-trans, IsHeld-Grows, declarations_of-Grows}
use Rattle.translate_rule.proofs.ItemLaws.{defined-declared}
use Rattle.translate_rule.proofs.PartLaws.{part-declared}
use Rattle.translate_rule.proofs.parts.part_declaration.Goals as goal

pub part_body-requires-clause-held : goal.part_body-requires-clause-held
part_body-requires-clause-held c = IsHeld-Grows c.args.target.now _ c.part_type.ensures.grows c.requires.held

pub part_body-requires-clause-told : goal.part_body-requires-clause-told
part_body-requires-clause-told c = (
  c.requires.told.0,
  subst (λ ds. TellsContent ds c.requires.told.0 (part_at c.args.proof.now c.args.part c.args.view c.args.one))
      (sym (declarations_of-Grows c.args.target.now _ c.part_type.ensures.grows c.requires.held)) c.requires.told.1,
)

pub returns-in_err-body-clause-grows : goal.returns-in_err-body-clause-grows
returns-in_err-body-clause-grows c = Grows-trans c.part_type.ensures.grows c.part_body.ensures.grows

pub returns-clause-made : goal.returns-clause-made
returns-clause-made c = λ tables told.
    let k = c.args.proof.now in
    let x = c.args.view in
    let later = subst (λ ds. TellsContent ds tables (part_at k c.args.part x c.args.one))
    (sym (declarations_of-Grows c.args.target.now _ c.part_type.ensures.grows c.requires.held)) told in
    defined-declared _ _ c.new-name.result c.in_ok-ty.ty c.in_ok-body.body _ _ (c.new-name.ensures ∙ c.in_ok-part_name.ensures)
    (c.part_body.ensures.grows.table.stays.each _ _ (c.in_ok-ty.ensures.made tables told)) (c.in_ok-body.ensures.made tables later)
    ∙ part-declared tables c.args.part (names_of_view x) (type_at k.trees x.whole.0) (term_at k.trees x.predicate.0) c.args.one.symbol
    (sequent_at k.made c.args.one.id)

pub returns-clause-known : goal.returns-clause-known
returns-clause-known c = record { ty = omega (arith, c.in_ok-ty.ensures.known, c.part_body.ensures.grows.table.longer); body = c.in_ok-body.ensures.known }

pub returns-clause-grows : goal.returns-clause-grows
returns-clause-grows c = Grows-trans c.part_type.ensures.grows c.part_body.ensures.grows
