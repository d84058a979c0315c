use Rattle.std.proofs.Common.{arith, ◌<◌}
use Rattle.hol_spec.specs.TermBinding.{loose}
use Rattle.hol_term.specs.Tables.{term_at, type_at}
use Rattle.hol_term.specs.TableLaws.{Keeps-refl}
use Rattle.hol_term.proofs.Typings.{type_of-loose}
use Rattle.hol_term.proofs.TermTable.abstraction_type.Goals as goal

pub returns-then-measures_of-gt1-clause-typed : goal.returns-then-measures_of-gt1-clause-typed
returns-then-measures_of-gt1-clause-typed c =
    let h : 1 < loose (term_at c.args.self.now c.args.body.0) = omega (arith, c.measures_of.ensures.loose) in
    type_of-loose (type_at c.args.self.now c.args.ty.0) (term_at c.args.self.now c.args.body.0) h

pub returns-then-measures_of-gt1-clause-keeps : goal.returns-then-measures_of-gt1-clause-keeps
returns-then-measures_of-gt1-clause-keeps c = Keeps-refl c.args.self.now
