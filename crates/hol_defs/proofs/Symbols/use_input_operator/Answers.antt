use Rattle.std.proofs.Common.{ap, sym, ◌∙◌, ◌++◌, ◌∷◌, []}
use Rattle.hol_spec.specs.Lists.{is_in}
use Rattle.hol_defs.specs.Indexes.{same_use, uses_of}
use Rattle.hol_defs.specs.Symbols.{Taken, symbols_at}
use Rattle.hol_defs.specs.SymbolLaws.{symbols_at-append}
use Rattle.hol_defs.proofs.IndexLaws.{uses-found}
use Rattle.hol_defs.proofs.UseLaws.{operator_again, operator_first}
use Rattle.hol_defs.proofs.Symbols.use_input_operator.Goals as goal

pub returns-then-is_use-clause-takes : goal.returns-then-is_use-clause-takes
returns-then-is_use-clause-takes c = λ trees e. operator_again (symbols_at trees c.args.self.now) c.args.name.now c.args.arity (
    uses-found trees c.args.name.now c.args.arity c.args.self.now
    ∙ ap (λ n. is_in same_use (n, c.args.arity) (uses_of c.args.self.now)) (sym c.in_ok-clone.ensures.cases) ∙ sym c.is_use-is_use.ensures
    ∙ c.if-is_use.true)

pub take_input_operator-requires : goal.take_input_operator-requires
take_input_operator-requires c = ap (λ n. is_in same_use (n, c.args.arity) (uses_of c.args.self.now)) (sym c.in_ok-clone.ensures.cases) ∙ sym
    c.is_use-is_use.ensures ∙ c.if-is_use.false

pub returns-clause-takes : goal.returns-clause-takes
returns-clause-takes c = λ trees e.
    ap (symbols_at trees) c.in_ok-take_input_operator.ensures.takes
    ∙ symbols_at-append trees c.args.self.now (Taken.input_operator c.args.name.now c.args.arity ∷ [])
    ∙ ap (λ l. symbols_at trees c.args.self.now ++ l) (operator_first (symbols_at trees c.args.self.now) c.args.name.now c.args.arity e (
    uses-found trees c.args.name.now c.args.arity c.args.self.now
    ∙ ap (λ n. is_in same_use (n, c.args.arity) (uses_of c.args.self.now)) (sym c.in_ok-clone.ensures.cases) ∙ sym c.is_use-is_use.ensures
    ∙ c.if-is_use.false))
