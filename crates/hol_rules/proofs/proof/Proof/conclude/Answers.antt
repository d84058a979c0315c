use Rattle.std.proofs.Common.{◌∙◌}
use Rattle.hol_rules.proofs.Concluded.{Grows-same, inferred-concludes, inferred-follows, refused-step, step-known, stopped}
use Rattle.hol_rules.proofs.proof.Proof.conclude.Goals as goal

pub judged-requires : goal.judged-requires
judged-requires c = c.requires.sequent

pub keep-requires-clause-known : goal.keep-requires-clause-known
keep-requires-clause-known c = step-known c.args.self.now c.judged.new.self c.judged.ensures.unchanged _ c.requires.parameters c.requires.sequent

pub keep-requires-clause-follows : goal.keep-requires-clause-follows
keep-requires-clause-follows c = inferred-follows c.args.self.now c.judged.new.self c.judged.ensures.unchanged c.args.kind c.args.premises.now
    c.new-inference.result c.new-inference.ensures c.args.parameters c.args.sequent c.requires.follows

pub returns-in_err-judged : goal.returns-in_err-judged
returns-in_err-judged c = refused-step (Grows-same c.judged.ensures.unchanged) _ c.from_residual.result c.in_err-judged.field-0.0 c.from_residual.ensures.1
    c.in_err-judged.ensures.refused

pub returns-in_err-id : goal.returns-in_err-id
returns-in_err-id c = stopped (Grows-same (c.in_err-id.ensures.unchanged ∙ c.judged.ensures.unchanged)) _ c.from_residual-in_err-id.result
    c.from_residual-in_err-id.ensures.1

pub returns : goal.returns
returns c = inferred-concludes c.args.self.now c.judged.new.self c.judged.ensures.unchanged c.args.kind c.args.premises.now
    c.new-inference.result c.new-inference.ensures c.args.parameters c.args.sequent
    c.keep.new.self c.in_ok-id.id c.in_ok-judged.ensures.within c.in_ok-id.ensures.number c.in_ok-id.ensures.kept
