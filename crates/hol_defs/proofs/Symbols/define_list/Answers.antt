use Rattle.std.proofs.Common.{ap, sym, subst, length, ◌∙◌, ◌++◌}
use Rattle.hol_term.specs.Tables.{terms_at, term_at}
use Rattle.hol_defs.specs.Lists.{pairs_at, constants_of}
use Rattle.hol_defs.specs.Symbols.{symbols_at, AreKnownSymbols}
use Rattle.hol_defs.specs.SymbolLaws.{symbols_at-append, AreKnownSymbols-append}
use Rattle.hol_defs.proofs.ListFaults.{list-new}
use Rattle.hol_defs.proofs.PairLaws.{as_many, constants-symbols, constants-known}
use Rattle.hol_defs.proofs.Symbols.define_list.Goals as goal

pub take_list-taken-requires-clause-same : goal.take_list-taken-requires-clause-same
take_list-taken-requires-clause-same c =
    let trees = c.args.table.now in
    let ps = c.args.pairs.now in
    let hs = terms_at trees c.args.hyps.now in
    let ts = c.in-Ok.terms.items in
    as_many trees (pairs_at trees ps) hs ps ts c.in-Ok.ensures.defined ∙ ap length (sym c.deref.ensures.value)

pub take_list-taken-requires-clause-new : goal.take_list-taken-requires-clause-new
take_list-taken-requires-clause-new c =
    list-new c.args.table.now c.args.self.now c.args.pairs.now
    (record { hypotheses = terms_at c.args.table.now c.args.hyps.now; conclusion = term_at c.args.table.now c.args.concl.0 }) c.requires.known
    c.in-Ok.ensures.fits

pub returns-in_ok-taken-in-Ok-clause-takes : goal.returns-in_ok-taken-in-Ok-clause-takes
returns-in_ok-taken-in-Ok-clause-takes c =
    let trees = c.args.table.now in
    let ps = c.args.pairs.now in
    let hs = terms_at trees c.args.hyps.now in
    let ts = c.in-Ok.terms.items in
    ap (symbols_at trees) (c.in_ok-taken-in-Ok.ensures.takes ∙ ap (λ l. c.args.self.now ++ constants_of ps l) c.deref.ensures.value)
    ∙ symbols_at-append trees c.args.self.now (constants_of ps ts)
    ∙ ap (λ l. symbols_at trees c.args.self.now ++ l) (constants-symbols trees (pairs_at trees ps) hs ps ts c.in-Ok.ensures.defined)

pub returns-in_ok-taken-in-Ok-clause-known : goal.returns-in_ok-taken-in-Ok-clause-known
returns-in_ok-taken-in-Ok-clause-known c =
    let trees = c.args.table.now in
    let ps = c.args.pairs.now in
    let hs = terms_at trees c.args.hyps.now in
    let ts = c.in-Ok.terms.items in
    subst (AreKnownSymbols trees) (sym (c.in_ok-taken-in-Ok.ensures.takes ∙ ap (λ l. c.args.self.now ++ constants_of ps l) c.deref.ensures.value)) (
    AreKnownSymbols-append trees c.args.self.now (constants_of ps ts) c.requires.known
    (constants-known trees (pairs_at trees ps) hs ps ts c.requires.pairs c.in-Ok.ensures.defined))

pub returns-in_err-taken-in-Ok-clause-known : goal.returns-in_err-taken-in-Ok-clause-known
returns-in_err-taken-in-Ok-clause-known c = subst (AreKnownSymbols c.args.table.now) (sym c.in_err-taken-in-Ok.ensures.unchanged) c.requires.known
