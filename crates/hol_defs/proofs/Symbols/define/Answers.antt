use Rattle.std.proofs.Common.{ap, sym, subst, ◌∙◌, ◌∷◌, []}
use Rattle.hol_defs.specs.Symbols.{Taken, symbols_at, AreKnownSymbols}
use Rattle.hol_defs.specs.SymbolLaws.{symbols_at-append, AreKnownSymbols-append}
use Rattle.hol_spec.specs.Defining.{is_closed}
use Rattle.hol_spec.specs.Symbols.{is_taken_constant}
use Rattle.hol_term.specs.Tables.{term_at}
use Rattle.common.specs.declared.faults.Kind.TheVariants.{NameTaken, NotClosed, ExtraTypeVars}
use Rattle.hol_defs.specs.Faults.{has_own_variables}
use Rattle.hol_defs.proofs.IndexLaws.{undefined}
use Rattle.hol_defs.proofs.JudgeLaws.{first_holds, known_term}
use Rattle.hol_defs.proofs.Symbols.define.Goals as goal

pub take_const-requires : goal.take_const-requires
take_const-requires c = undefined c.args.table.now c.args.name.now c.args.self.now c.requires.known
    (first_holds (is_taken_constant (symbols_at c.args.table.now c.args.self.now) c.args.name.now) NameTaken
    ((is_closed (term_at c.args.table.now c.args.term.0), NotClosed) ∷ (has_own_variables (term_at c.args.table.now c.args.term.0), ExtraTypeVars) ∷ [])
    c.in-Ok.ensures.fits)

pub returns-in_ok-take_const-in-Ok-clause-known : goal.returns-in_ok-take_const-in-Ok-clause-known
returns-in_ok-take_const-in-Ok-clause-known c = subst (AreKnownSymbols c.args.table.now) (sym c.in_ok-take_const-in-Ok.ensures.takes) (
    AreKnownSymbols-append c.args.table.now c.args.self.now (Taken.constant c.args.name.now c.args.term c.type_of.result ∷ []) c.requires.known (
      record { term = known_term c.args.table.now c.args.term.0 c.requires.term; ty = c.type_of.ensures.known; typed = c.type_of.ensures.is },
      tt,
    ))

pub returns-in_ok-take_const-in-Ok-clause-takes : goal.returns-in_ok-take_const-in-Ok-clause-takes
returns-in_ok-take_const-in-Ok-clause-takes c =
    ap (symbols_at c.args.table.now) c.in_ok-take_const-in-Ok.ensures.takes
    ∙ symbols_at-append c.args.table.now c.args.self.now (Taken.constant c.args.name.now c.args.term c.type_of.result ∷ [])

pub returns-in_err-take_const-in-Ok-clause-known : goal.returns-in_err-take_const-in-Ok-clause-known
returns-in_err-take_const-in-Ok-clause-known c = subst (AreKnownSymbols c.args.table.now) (sym c.in_err-take_const-in-Ok.ensures.unchanged) c.requires.known
