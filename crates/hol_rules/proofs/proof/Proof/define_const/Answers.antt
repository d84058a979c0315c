use Rattle.std.proofs.Common.{refl, ap, subst}
use Rattle.hol_spec.specs.Terms.{HasType}
use Rattle.hol_term.specs.Tables.{Trees, term_at, type_at}
use Rattle.hol_rules.specs.Kept.{Kept}
use Rattle.hol_rules.proofs.FunctionEnds.{number-grown}
use Rattle.hol_rules.proofs.SideLaws.{known_term, number_term}
use Rattle.hol_rules.proofs.ConstantEnds.{const_at-term, const_at-concl, const_at-follows, const_at-ended}
use Rattle.hol_rules.proofs.Concluded.{Grows-refl, Grows-trans, refused-definition, stopped-definition}
use Rattle.hol_rules.proofs.proof.Proof.define_const.Goals as goal

pub equation-requires-clause-left : goal.equation-requires-clause-left
equation-requires-clause-left c = number_term c.constant_at.new.self.trees c.in_ok-constant.constant _ (type_at c.args.self.now.trees c.type_of-ty.result.0)
    c.in_ok-constant.ensures.made refl

pub equation-requires-clause-right : goal.equation-requires-clause-right
equation-requires-clause-right c =
    (number-grown c.constant_at.ensures.grows (record { known = known_term c.args.self.now.trees c.args.t.0 c.requires; is = refl })).known

pub conclude_const-requires-clause-term : goal.conclude_const-requires-clause-term
conclude_const-requires-clause-term c =
    const_at-term c.args.self.now c.constant_at.new.self c.equation.new.self c.constant_at.ensures.grows c.equation.ensures.grows c.args.name.now c.args.t
    c.requires c.in_ok-judge_const.ensures.fits (type_at c.args.self.now.trees c.type_of-ty.result.0)
    (subst (λ (u : Trees). HasType (term_at u c.args.t.0) (type_at u c.type_of-ty.result.0)) (ap (λ (k : Kept). k.trees) c.self.view_is)
    c.type_of-ty.ensures.is)
    c.in_ok-constant.constant c.in_ok-constant.ensures.made

pub conclude_const-requires-clause-sequent : goal.conclude_const-requires-clause-sequent
conclude_const-requires-clause-sequent c = (
  c.in_ok-hyps.ensures.known,
  const_at-concl c.args.self.now c.constant_at.new.self c.equation.new.self c.constant_at.ensures.grows c.equation.ensures.grows c.args.name.now c.args.t
      c.requires c.in_ok-judge_const.ensures.fits (type_at c.args.self.now.trees c.type_of-ty.result.0)
      (subst (λ (u : Trees). HasType (term_at u c.args.t.0) (type_at u c.type_of-ty.result.0)) (ap (λ (k : Kept). k.trees) c.self.view_is)
      c.type_of-ty.ensures.is)
      c.in_ok-constant.constant c.in_ok-constant.ensures.made c.in_ok-concl.concl c.in_ok-concl.ensures.made,
)

pub conclude_const-requires-clause-follows : goal.conclude_const-requires-clause-follows
conclude_const-requires-clause-follows c =
    const_at-follows c.args.self.now c.constant_at.new.self c.equation.new.self c.constant_at.ensures.grows c.equation.ensures.grows c.args.name.now c.args.t
    c.requires c.in_ok-judge_const.ensures.fits (type_at c.args.self.now.trees c.type_of-ty.result.0)
    (subst (λ (u : Trees). HasType (term_at u c.args.t.0) (type_at u c.type_of-ty.result.0)) (ap (λ (k : Kept). k.trees) c.self.view_is)
    c.type_of-ty.ensures.is)
    c.in_ok-constant.constant c.in_ok-constant.ensures.made c.in_ok-concl.concl c.in_ok-concl.ensures.made c.in_ok-hyps.hyps c.in_ok-hyps.ensures

pub returns : goal.returns
returns c =
    const_at-ended c.args.self.now c.constant_at.new.self c.equation.new.self c.constant_at.ensures.grows c.equation.ensures.grows c.args.name.now c.args.t
    c.requires c.in_ok-judge_const.ensures.fits (type_at c.args.self.now.trees c.type_of-ty.result.0)
    (subst (λ (u : Trees). HasType (term_at u c.args.t.0) (type_at u c.type_of-ty.result.0)) (ap (λ (k : Kept). k.trees) c.self.view_is)
    c.type_of-ty.ensures.is)
    c.in_ok-constant.constant c.in_ok-constant.ensures.made c.in_ok-concl.concl c.in_ok-concl.ensures.made c.in_ok-hyps.hyps c.in_ok-hyps.ensures
    c.conclude_const.new.self c.conclude_const.result c.conclude_const.ensures

pub returns-in_err-judge_const : goal.returns-in_err-judge_const
returns-in_err-judge_const c = refused-definition _ (Grows-refl c.args.self.now) _ c.from_residual.result c.in_err-judge_const.field-0.0
    c.from_residual.ensures.1 (c.in_err-judge_const.ensures.refused)

pub returns-in_err-constant : goal.returns-in_err-constant
returns-in_err-constant c = stopped-definition _ c.constant_at.ensures.grows _ c.from_residual-in_err-constant.result c.from_residual-in_err-constant.ensures.1

pub returns-in_err-concl : goal.returns-in_err-concl
returns-in_err-concl c = stopped-definition _ (Grows-trans c.constant_at.ensures.grows c.equation.ensures.grows) _ c.from_residual-in_err-concl.result
    c.from_residual-in_err-concl.ensures.1

pub returns-in_err-hyps : goal.returns-in_err-hyps
returns-in_err-hyps c = stopped-definition _ (Grows-trans c.constant_at.ensures.grows c.equation.ensures.grows) _ c.from_residual-in_err-hyps.result
    c.from_residual-in_err-hyps.ensures.1
