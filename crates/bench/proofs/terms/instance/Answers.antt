use Rattle.hol_term.specs.Tables.{type_at}
use Rattle.bench.proofs.Bodies.{body_fits}
use Rattle.bench.proofs.terms.instance.Goals as goal

pub inst-requires-clause-fits : goal.inst-requires-clause-fits
inst-requires-clause-fits c =
    body_fits c.args.table.now c.abs.new.self c.in-Lam.body.0 c.args.shared.argument.0 c.in_ok-abstraction.abstraction.0 c.args.id.0 c.in_ok-name.name
    (type_at c.args.table.now c.type_of-ty.result.0) (type_at c.abs.new.self c.in-Lam.field-0.0) c.in_ok-abstraction.ensures.keeps c.requires.term
    c.type_of-ty.ensures.is c.in_ok-abstraction.ensures.made c.in-Lam.ensures.is
