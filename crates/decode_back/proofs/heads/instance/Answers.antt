use Rattle.std.proofs.Common.{◌≡◌, ◌<◌, ◌-◌, ◌+◌, ap, subst, ◌∙◌}
use Rattle.std.specs.Prelude.{min, ◌^◌}
use Rattle.hol_spec.specs.Limits.{term_size}
use Rattle.hol_spec.specs.Substitution.{substitute}
use Rattle.hol_spec.specs.Terms as term
use Rattle.hol_type.specs.Tables.{pairs_at}
use Rattle.hol_type.specs.TableLaws.{Holds-tree_at}
use Rattle.hol_type.specs.Refusals.{RefusesType}
use Rattle.hol_term.specs.Tables.{type_at}
use Rattle.hol_term.specs.TableLaws.{Keeps-trans, Some-term_in}
use Rattle.hol_term.specs.Refusals.{RefusesTerm}
use Rattle.decode_back.proofs.ConstantTerms.{type_refused, constant_refused, constant_short, constant-made}
use Rattle.decode_back.proofs.heads.instance.Goals as goal

pub returns-in-Err-Refused-clause-made : goal.returns-in-Err-Refused-clause-made
returns-in-Err-Refused-clause-made c =
    type_refused c.args.constant.now.name
    (substitute (pairs_at c.args.table.now.types c.args.pairs.now) (type_at c.args.table.now c.args.constant.now.generic.0)) c.args.budget.now
    c.args.budget.now c.ty_subst.new.self c.in-Err-Refused.field-0-0
    (subst (λ f. RefusesType f (substitute (pairs_at c.args.table.now.types c.args.pairs.now) (type_at c.args.table.now c.args.constant.now.generic.0)))
    c.in-Err-Refused.field-0-is c.in-Err-Refused.ensures.refusal)

pub returns-in-Err-Refused-constant-clause-made : goal.returns-in-Err-Refused-constant-clause-made
returns-in-Err-Refused-constant-clause-made c =
    constant_refused c.args.constant.now.name
    (substitute (pairs_at c.args.table.now.types c.args.pairs.now) (type_at c.args.table.now c.args.constant.now.generic.0)) c.args.budget.now
    c.args.budget.now c.constant.new.self c.in-Err-Refused-constant.field-0-0 (type_at c.ty_subst.new.self c.in-Ok.instance.0)
    (Holds-tree_at c.ty_subst.new.self.types c.in-Ok.instance.0 _ c.in-Ok.ensures.made)
    (subst (λ f. RefusesTerm f (term.Term.constant c.args.constant.now.name (type_at c.ty_subst.new.self c.in-Ok.instance.0)))
    c.in-Err-Refused-constant.field-0-is c.in-Err-Refused-constant.ensures.refusal)

pub returns-then-not-spend-clause-made : goal.returns-then-not-spend-clause-made
returns-then-not-spend-clause-made c =
    constant_short c.args.constant.now.name
    (substitute (pairs_at c.args.table.now.types c.args.pairs.now) (type_at c.args.table.now c.args.constant.now.generic.0)) c.args.budget.now
    c.spend.new.budget c.constant.new.self (type_at c.ty_subst.new.self c.in-Ok.instance.0)
    (Holds-tree_at c.ty_subst.new.self.types c.in-Ok.instance.0 _ c.in-Ok.ensures.made)
    (subst (λ n. c.args.budget.now < n) (c.size.ensures
    ∙ ap (λ u. min (term_size u) (2 ^ 64 - 1)) (Some-term_in c.constant.new.self.terms c.in-Ok-constant.made.0 _ c.in-Ok-constant.ensures.made))
    (c.spend.ensures.short c.if-not-spend.true))

pub returns-clause-made : goal.returns-clause-made
returns-clause-made c =
    constant-made c.args.constant.now.name
    (substitute (pairs_at c.args.table.now.types c.args.pairs.now) (type_at c.args.table.now c.args.constant.now.generic.0)) c.args.budget.now
    c.spend.new.budget c.constant.new.self (type_at c.ty_subst.new.self c.in-Ok.instance.0) c.in-Ok-constant.made
    (Holds-tree_at c.ty_subst.new.self.types c.in-Ok.instance.0 _ c.in-Ok.ensures.made) c.requires.budget c.in-Ok-constant.ensures.made
    (subst (λ n. c.spend.new.budget + n ≡ c.args.budget.now)
    (c.size.ensures ∙ ap (λ u. min (term_size u) (2 ^ 64 - 1))
    (Some-term_in c.constant.new.self.terms c.in-Ok-constant.made.0 _ c.in-Ok-constant.ensures.made)) (c.spend.ensures.paid c.if-not-spend.false))

pub returns-clause-known : goal.returns-clause-known
returns-clause-known c = c.in-Ok-constant.ensures.known

pub returns-in-Err-Memory-clause-keeps : goal.returns-in-Err-Memory-clause-keeps
returns-in-Err-Memory-clause-keeps c = c.ty_subst.ensures.keeps

pub returns-in-Err-Refused-clause-keeps : goal.returns-in-Err-Refused-clause-keeps
returns-in-Err-Refused-clause-keeps c = c.ty_subst.ensures.keeps

pub returns-in-Err-Memory-constant-clause-keeps : goal.returns-in-Err-Memory-constant-clause-keeps
returns-in-Err-Memory-constant-clause-keeps c = Keeps-trans c.ty_subst.ensures.keeps c.constant.ensures.keeps

pub returns-in-Err-Refused-constant-clause-keeps : goal.returns-in-Err-Refused-constant-clause-keeps
returns-in-Err-Refused-constant-clause-keeps c = Keeps-trans c.ty_subst.ensures.keeps c.constant.ensures.keeps

pub returns-then-not-spend-clause-keeps : goal.returns-then-not-spend-clause-keeps
returns-then-not-spend-clause-keeps c = Keeps-trans c.ty_subst.ensures.keeps c.constant.ensures.keeps

pub returns-clause-keeps : goal.returns-clause-keeps
returns-clause-keeps c = Keeps-trans c.ty_subst.ensures.keeps c.constant.ensures.keeps
