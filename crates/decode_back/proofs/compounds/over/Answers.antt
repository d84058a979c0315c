use Rattle.std.proofs.Common.{subst}
use Rattle.hol_spec.specs.Limits.{term_size, term_depth}
use Rattle.hol_type.specs.Refusals.{PassesLimit}
use Rattle.hol_spec.specs.Terms as term
use Rattle.hol_term.specs.Tables.{term_at, type_at}
use Rattle.hol_term.specs.TableLaws.{Keeps-trans}
use Rattle.hol_term.specs.Refusals.{RefusesTerm}
use Rattle.decode_back.proofs.AbstractionLemmas.{lam-made, lam-refused, lam-held}
use Rattle.decode_back.proofs.compounds.over.Goals as goal

pub returns-in-Err-Refused-clause-made : goal.returns-in-Err-Refused-clause-made
returns-in-Err-Refused-clause-made c named there left paid fresh =
    let t = type_at c.args.table.now c.args.variable.now.ty.0 in
    let k = c.in-Err-Refused.field-0-0 in
    lam-refused t (term_at c.args.table.now c.args.body.0) there left c.free.new.self k
    (subst (λ n. PassesLimit k (term_size (term.Term.free n t)) (term_depth (term.Term.free n t))) named
    (subst (λ f. RefusesTerm f (term.Term.free c.args.variable.now.name t)) c.in-Err-Refused.field-0-is c.in-Err-Refused.ensures.refusal))

pub returns-clause-made : goal.returns-clause-made
returns-clause-made c named there left paid fresh =
    lam-made (type_at c.args.table.now c.args.variable.now.ty.0) (term_at c.args.table.now c.args.body.0) there left c.raw_abstraction.new.self
    c.in_ok-made.made fresh
    (lam-held c.args.table.now c.free.new.self c.raw_instance.new.self c.raw_abstraction.new.self c.args.variable.now.ty c.args.variable.now.name c.args.body
    c.in-Ok.outside c.in_ok-open.open c.in_ok-made.made c.in-Ok.ensures.keeps c.in_ok-open.ensures.keeps
    c.requires.ty c.requires.body named c.in-Ok.ensures.made c.in_ok-open.ensures.made c.in_ok-made.ensures.made) paid

pub returns-in-Err-Memory-clause-keeps : goal.returns-in-Err-Memory-clause-keeps
returns-in-Err-Memory-clause-keeps c = c.free.ensures.keeps

pub returns-in-Err-Refused-clause-keeps : goal.returns-in-Err-Refused-clause-keeps
returns-in-Err-Refused-clause-keeps c = c.free.ensures.keeps

pub returns-in_err-open-clause-keeps : goal.returns-in_err-open-clause-keeps
returns-in_err-open-clause-keeps c = Keeps-trans c.free.ensures.keeps c.raw_instance.ensures.keeps

pub returns-in_err-made-clause-keeps : goal.returns-in_err-made-clause-keeps
returns-in_err-made-clause-keeps c = Keeps-trans (Keeps-trans c.free.ensures.keeps c.raw_instance.ensures.keeps) c.raw_abstraction.ensures.keeps

pub returns-clause-keeps : goal.returns-clause-keeps
returns-clause-keeps c = Keeps-trans (Keeps-trans c.free.ensures.keeps c.raw_instance.ensures.keeps) c.raw_abstraction.ensures.keeps

pub returns-clause-known : goal.returns-clause-known
returns-clause-known c = c.in_ok-made.ensures.known
