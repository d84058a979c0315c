use Rattle.std.proofs.Common.{◌∙◌, sym, ap, subst}
use Rattle.dk_read.specs.declared.terms.Meaning.TheVariants as meaning
use Rattle.dk_read.specs.Names.{Puts, looked}
use Rattle.dk_read.proofs.Symbols.{symbol_put, symbol_stays, not_free, nameless_keeps}
use Rattle.dk_read.proofs.signature_names.add_symbol.Goals as goal

pub returns-in-Nothing-clause-symbols : goal.returns-in-Nothing-clause-symbols
returns-in-Nothing-clause-symbols c =
    let ms = c.number.new.self in
    let e = c.in_ok-number.ensures in
    symbol_put c.args.symbol c.requires.name.0 c.args.names.now c.put.new.self c.args.name.now c.requires.name.1 ms e.same
    (ap (looked ms) (sym e.named) ∙ sym c.in-Nothing.ensures)
    (subst (λ x. Puts ms x (meaning.Symbol c.args.symbol) c.put.new.self) e.named c.put.ensures.puts)

pub returns-in-Symbol : goal.returns-in-Symbol
returns-in-Symbol c =
    let ms = c.number.new.self in
    let e = c.in_ok-number.ensures in
    record {
      nameless = λ n h. nameless_keeps c.args.names.now ms n e.keeps h;
      symbols = λ h. symbol_stays c.args.symbol c.requires.name.0 c.args.names.now ms c.args.name.now c.requires.name.1 e.same
          (not_free c.meaning.result (looked ms c.args.name.now) c.in-Symbol.is (c.meaning.ensures ∙ ap (looked ms) e.named)) h;
    }
