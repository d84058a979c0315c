use Rattle.std.proofs.Common.{ap, sym, ◌∙◌, ◌++◌, ◌∷◌, []}
use Rattle.hol_defs.specs.Symbols.{Taken, symbols_at}
use Rattle.hol_defs.specs.SymbolLaws.{symbols_at-append}
use Rattle.hol_defs.proofs.IndexLaws.{inputs-found}
use Rattle.hol_defs.proofs.UseLaws.{used_again, used_first}
use Rattle.hol_defs.proofs.Symbols.use_input.Goals as goal

pub returns-then-is_input-clause-takes : goal.returns-then-is_input-clause-takes
returns-then-is_input-clause-takes c = λ trees e. used_again (symbols_at trees c.args.self.now) c.args.name.now
    (inputs-found trees c.args.name.now c.args.self.now ∙ sym c.is_input.ensures ∙ c.if-is_input.true)

pub returns-clause-takes : goal.returns-clause-takes
returns-clause-takes c = λ trees e.
    ap (symbols_at trees) c.in_ok-take_input.ensures.takes ∙ symbols_at-append trees c.args.self.now (Taken.input_constant c.args.name.now ∷ [])
    ∙ ap (λ l. symbols_at trees c.args.self.now ++ l)
    (used_first (symbols_at trees c.args.self.now) c.args.name.now e
    (inputs-found trees c.args.name.now c.args.self.now ∙ sym c.is_input.ensures ∙ c.if-is_input.false))
