use Rattle.std.proofs.Common.{◌∙◌, ◌∷◌, []}
use Rattle.hol_spec.specs.Definitions.{Definition}
use Rattle.hol_spec.specs.Symbols.{Symbol}
use Rattle.hol_spec.specs.declared.StepKind.TheVariants.{DefineConst}
use Rattle.hol_term.specs.Tables.{term_at}
use Rattle.hol_rules.specs.declared.made.Parameters.TheVariants as given
use Rattle.hol_rules.specs.Kept.{Kept}
use Rattle.hol_rules.specs.Views.{new_step}
use Rattle.hol_rules.proofs.SideLaws.{known_term}
use Rattle.hol_rules.proofs.Concluded.{Grows-same, step-known, refused-defined, same-defines, same-follows, stopped-definition}
use Rattle.hol_rules.proofs.proof.Proof.conclude_const.Goals as goal

pub judged-requires : goal.judged-requires
judged-requires c = c.requires.sequent

pub keep_const-requires-clause-term : goal.keep_const-requires-clause-term
keep_const-requires-clause-term c = rw c.judged.ensures.unchanged c.requires.term

pub keep_const-requires-clause-known : goal.keep_const-requires-clause-known
keep_const-requires-clause-known c = step-known c.args.self.now c.judged.new.self c.judged.ensures.unchanged _
    (known_term c.args.self.now.trees c.args.t.0 c.requires.term) c.requires.sequent

pub keep_const-requires-clause-follows : goal.keep_const-requires-clause-follows
keep_const-requires-clause-follows c = rw (c.new-inference.ensures, c.in_ok-own.ensures.cases)
    (same-follows c.args.self.now c.judged.new.self c.judged.ensures.unchanged
    (λ (k : Kept). Symbol.defined (Definition.constant c.args.name.now (term_at k.trees c.args.t.0)) ∷ [])
    (λ (k : Kept). new_step k.trees DefineConst [] (given.Const c.args.name.now c.args.t) c.args.sequent) c.requires.follows)

pub returns-in_err-judged : goal.returns-in_err-judged
returns-in_err-judged c = refused-defined _ (Grows-same c.judged.ensures.unchanged) _ c.from_residual.result c.in_err-judged.field-0.0
    c.from_residual.ensures.1 c.in_err-judged.ensures.refused

pub returns-in_err-own : goal.returns-in_err-own
returns-in_err-own c = stopped-definition _ (Grows-same c.judged.ensures.unchanged) _ c.from_residual-in_err-own.result c.from_residual-in_err-own.ensures.1

pub returns-in_err-id : goal.returns-in_err-id
returns-in_err-id c = stopped-definition _ (Grows-same (c.in_err-id.ensures.unchanged ∙ c.judged.ensures.unchanged)) _ c.from_residual-in_err-id.result
    c.from_residual-in_err-id.ensures.1

pub returns : goal.returns
returns c =
    let kept = rw (c.new-inference.ensures, c.in_ok-own.ensures.cases) at c.in_ok-id.ensures.kept in
    same-defines c.args.self.now c.judged.new.self c.judged.ensures.unchanged
    (λ (k : Kept). Symbol.defined (Definition.constant c.args.name.now (term_at k.trees c.args.t.0)) ∷ [])
    (λ (k : Kept). new_step k.trees DefineConst [] (given.Const c.args.name.now c.args.t) c.args.sequent) c.keep_const.new.self c.in_ok-id.id
    c.in_ok-judged.ensures.within c.in_ok-id.ensures.number kept
