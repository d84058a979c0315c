use Rattle.std.proofs.Common.{◌∙◌, sym, ap}
use Rattle.holide_sig.specs.Modules.{declarations_of, symbol_number}
use Rattle.translate_term.proofs.ToldLaws.{differs, operator-input, operator-defined}
use Rattle.translate_term.proofs.symbols.operator.Goals as goal

pub returns-in-Some : goal.returns-in-Some
returns-in-Some c =
    let d = declarations_of c.args.source.now in
    let found = sym (ap (symbol_number d) (c.deref.ensures.value ∙ c.in_ok-spell_input_operator.ensures)) ∙ sym c.find.ensures in
    operator-input d c.args.name.now c.args.arity (differs _ _ _ c.is_single.ensures c.if-is_single.false)
    (differs _ _ _ c.is_single-2.ensures c.if-is_single-2.false) (differs _ _ _ c.is_single-3.ensures c.if-is_single-3.false) c.in-Some.symbol
    (found ∙ c.in-Some.is)

pub returns : goal.returns
returns c =
    let d = declarations_of c.args.source.now in
    let found = sym (ap (symbol_number d) (c.deref.ensures.value ∙ c.in_ok-spell_input_operator.ensures)) ∙ sym c.find.ensures in
    c.find-2.ensures ∙ ap (symbol_number d) (c.deref-2.ensures.value ∙ c.in_ok-spell.ensures)
    ∙ operator-defined d c.args.name.now c.args.arity (differs _ _ _ c.is_single.ensures c.if-is_single.false)
    (differs _ _ _ c.is_single-2.ensures c.if-is_single-2.false) (differs _ _ _ c.is_single-3.ensures c.if-is_single-3.false)
    (found ∙ c.in_default.is)
