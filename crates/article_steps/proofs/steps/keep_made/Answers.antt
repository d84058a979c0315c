use Rattle.std.proofs.Common.{ap, sym, subst}
use Rattle.article_lines.specs.NewSteps.{IsNewStep}
use Rattle.article_write_spec.specs.WrittenSteps.{keep_made}
use Rattle.article_steps.proofs.EachLaws.{adds-same}
use Rattle.article_steps.proofs.StepWriters.{made-plain, new-plain}
use Rattle.article_steps.proofs.steps.keep_made.Goals as goal

pub keep_defined-requires-clause-new : goal.keep_defined-requires-clause-new
keep_defined-requires-clause-new g c = subst (λ k. IsNewStep c.args.keys.now k c.args.id) c.in-DefineConst.is c.requires.new

pub keep_defined-requires-in-DefineConstList-clause-new : goal.keep_defined-requires-in-DefineConstList-clause-new
keep_defined-requires-in-DefineConstList-clause-new g c = subst (λ k. IsNewStep c.args.keys.now k c.args.id) c.in-DefineConstList.is c.requires.new

pub keep_laws-requires-clause-new : goal.keep_laws-requires-clause-new
keep_laws-requires-clause-new g c = subst (λ k. IsNewStep c.args.keys.now k c.args.id) c.in-FirstLaw.is c.requires.new

pub keep_theorem-requires-clause-new : goal.keep_theorem-requires-clause-new
keep_theorem-requires-clause-new g c = new-plain c.args.keys.now c.args.kind c.args.id c.in_default.not-FirstLaw c.requires.other c.requires.new

pub returns-in-DefineConst : goal.returns-in-DefineConst
returns-in-DefineConst g c = λ trees room o. adds-same trees _ _ _ _ _ _ _ _ _ _ (λ d. ap (λ k. keep_made k c.args.id d) (sym c.in-DefineConst.is))
    (c.keep_defined.ensures trees room o)

pub returns-in-DefineConstList : goal.returns-in-DefineConstList
returns-in-DefineConstList g c = λ trees room o. adds-same trees _ _ _ _ _ _ _ _ _ _ (λ d. ap (λ k. keep_made k c.args.id d) (sym c.in-DefineConstList.is))
    (c.keep_defined-in-DefineConstList.ensures trees room o)

pub returns-in-FirstLaw : goal.returns-in-FirstLaw
returns-in-FirstLaw g c = λ trees room o. adds-same trees _ _ _ _ _ _ _ _ _ _ (λ d. ap (λ k. keep_made k c.args.id d) (sym c.in-FirstLaw.is))
    (c.keep_laws.ensures trees room o)

pub returns-in_default : goal.returns-in_default
returns-in_default g c = λ trees room o.
    adds-same trees _ _ _ _ _ _ _ _ _ _
    (made-plain c.args.kind c.args.id c.in_default.not-DefineConst c.in_default.not-DefineConstList c.in_default.not-FirstLaw)
    (c.keep_theorem.ensures.adds trees room o)
