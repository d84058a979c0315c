use Rattle.std.proofs.Common.{◌∙◌, sym, ap, slice_set}
use Rattle.holide_sig.specs.Modules.{declarations_of, symbol_number}
use Rattle.translate_term.proofs.ToldLaws.{differs, constant-input, constant-defined}
use Rattle.translate_term.proofs.symbols.constant.Goals as goal

pub returns-in-Some : goal.returns-in-Some
returns-in-Some c =
    let d = declarations_of c.args.source.now in
    let found = sym (ap (symbol_number d) (c.deref.ensures.value ∙ c.in_ok-spell.ensures)) ∙ sym c.find.ensures in
    constant-input d c.args.name.now (differs _ _ _ c.is_single.ensures c.if-is_single.false) (differs _ _ _ c.is_single-2.ensures c.if-is_single-2.false)
    c.in-Some.symbol (found ∙ c.in-Some.is)

pub returns : goal.returns
returns c =
    let d = declarations_of c.args.source.now in
    let found = sym (ap (symbol_number d) (c.deref.ensures.value ∙ c.in_ok-spell.ensures)) ∙ sym c.find.ensures in
    c.find-2.ensures ∙ ap (symbol_number d) (c.deref-2.ensures.value ∙ ap (λ text. slice_set text 0 99) c.in_ok-spell.ensures)
    ∙ constant-defined d c.args.name.now (differs _ _ _ c.is_single.ensures c.if-is_single.false) (differs _ _ _ c.is_single-2.ensures c.if-is_single-2.false)
    (found ∙ c.in_default.is)
