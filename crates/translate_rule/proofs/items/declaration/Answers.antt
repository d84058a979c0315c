use Rattle.std.proofs.Common.{◌∙◌, ◌<◌, ap, subst, sym}
use Rattle.std.proofs.lemmas.Result.{IfOk-weaker}
use Rattle.hol_spec.specs.Proofs.{sequent_at}
use Rattle.hol_spec.specs.TypeDefinitions.{IsTypeDefinition}
use Rattle.hol_term.specs.Tables.{term_at, type_at}
use Rattle.hol_rules.specs.Kept.{step_count}
use Rattle.holide_sig.specs.Modules.{declarations_of}
use Rattle.translate_spec.specs.Items.{declaration_of}
use Rattle.image_items_laws.specs.Told.{TellsContent}
use Rattle.translate_rule.specs.ItemViews.{item_content, names_of, names_of_view, part_name, IsItemKnown}
use Rattle.translate_rule.specs.Steps.{content_at}
use Rattle.translate_rule.proofs.ItemLaws.{operator-named}
use Rattle.translate_rule.proofs.PartLaws.{part-content}
use Rattle.translate_rule.proofs.PushLaws.{told-content}
use Rattle.translate_rule.proofs.items.declaration.Goals as goal

pub step_with-requires-clause-told : goal.step_with-requires-clause-told
step_with-requires-clause-told c =
    let q = c.requires.told in (
      q.0,
      told-content (declarations_of c.args.target.now) q.0 (content_at c.args.numbers.now c.args.run.proof.now.made c.in-Step.id)
          (subst (λ i. TellsContent (declarations_of c.args.target.now) q.0 (item_content c.args.run.proof.now c.args.numbers.now i)) c.in-Step.is q.1),
    )

pub returns-in-InputConst-clause-made : goal.returns-in-InputConst-clause-made
returns-in-InputConst-clause-made c = rw c.in-InputConst.is
    (IfOk-weaker c.input_constant.result _ _ (λ d h tables told. h tables) c.input_constant.ensures.made)

pub returns-in_ok-text-in-InputOp-clause-made : goal.returns-in_ok-text-in-InputOp-clause-made
returns-in_ok-text-in-InputOp-clause-made c =
    rw c.in-InputOp.is
    (IfOk-weaker c.operator.result _ _
    (λ d h tables told. operator-named tables _ _ c.in-InputOp.name.now c.in-InputOp.arity (h c.in-InputOp.name.now tables) c.in_ok-text-in-InputOp.ensures)
    c.operator.ensures.made)

pub with_symbol-one-requires : goal.with_symbol-one-requires
with_symbol-one-requires c = (subst (IsItemKnown c.args.run.proof.now c.args.numbers.now) c.in-Part.is c.requires.known).earlier

pub part_declaration-requires-clause-known : goal.part_declaration-requires-clause-known
part_declaration-requires-clause-known c = (subst (IsItemKnown c.args.run.proof.now c.args.numbers.now) c.in-Part.is c.requires.known).operator

pub part_declaration-requires-clause-one : goal.part_declaration-requires-clause-one
part_declaration-requires-clause-one c =
    subst (λ j. j < step_count c.args.run.proof.now) (sym c.with_symbol-one.ensures.id)
    (subst (IsItemKnown c.args.run.proof.now c.args.numbers.now) c.in-Part.is c.requires.known).premise

pub part_declaration-requires-clause-defines : goal.part_declaration-requires-clause-defines
part_declaration-requires-clause-defines c =
    let k = c.args.run.proof.now in
    let x = c.in-Part.definition.view in
    subst (λ j. IsTypeDefinition (names_of_view x) (type_at k.trees x.whole.0) (term_at k.trees x.predicate.0) (sequent_at k.made j))
    (sym c.with_symbol-one.ensures.id) (subst (IsItemKnown k c.args.numbers.now) c.in-Part.is c.requires.known).defines

pub part_declaration-requires-clause-told : goal.part_declaration-requires-clause-told
part_declaration-requires-clause-told c =
    let k = c.args.run.proof.now in
    let q = c.requires.told in
    let here = subst (λ i. TellsContent (declarations_of c.args.target.now) q.0 (item_content k c.args.numbers.now i)) c.in-Part.is q.1 in
    let same = part-content k c.args.numbers.now c.in-Part.part c.in-Part.definition c.with_symbol-one.result c.with_symbol-one.ensures.id
    c.with_symbol-one.ensures.symbol in
    (q.0, subst (TellsContent (declarations_of c.args.target.now) q.0) (sym same) here)

pub returns-in-Part-clause-made : goal.returns-in-Part-clause-made
returns-in-Part-clause-made c =
    let k = c.args.run.proof.now in
    let part = c.in-Part.part in
    let definition = c.in-Part.definition in
    let same = part-content k c.args.numbers.now part definition c.with_symbol-one.result c.with_symbol-one.ensures.id c.with_symbol-one.ensures.symbol in
    rw c.in-Part.is
    (IfOk-weaker c.part_declaration.result _ _
    (λ d h tables told. h tables (subst (TellsContent (declarations_of c.args.target.now) tables) (sym same) told)
    ∙ ap (declaration_of tables (part_name part (names_of definition))) same) c.part_declaration.ensures.made)

pub returns-in_ok-note-in-Step-clause-made : goal.returns-in_ok-note-in-Step-clause-made
returns-in_ok-note-in-Step-clause-made c =
    rw c.in-Step.is
    (IfOk-weaker c.step_with.result _ _
    (λ d h tables told. h tables
    (told-content (declarations_of c.args.target.now) tables (content_at c.args.numbers.now c.args.run.proof.now.made c.in-Step.id) told))
    c.step_with.ensures.made)
