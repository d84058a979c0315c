use Rattle.std.proofs.Common.{sym, subst, IfOk}
use Rattle.hol_spec.specs.Sequents.{Sequent}
use Rattle.hol_type.specs.Tables as type
use Rattle.hol_term.specs.Substitutions.{term_pairs_at}
use Rattle.hol_rules.specs.Premises.{IsStated}
use Rattle.article_spec.specs.RuleSteps.{substituted}
use Rattle.hol_rules.proofs.Growth.{IsKept-Keeps, Grows-Keeps}
use Rattle.hol_rules.proofs.Pushed.{sequent_at-kept}
use Rattle.hol_rules.proofs.proof.Proof.image.Goals as goal

pub invariant_of-self : goal.invariant_of-self
invariant_of-self c = IsKept-Keeps c.image_of.ensures.keeps c.self.inside.symbols c.self.inside.steps.items c.self.inside.made.items c.self.invariant

pub returns-clause-made : goal.returns-clause-made
returns-clause-made c =
    let trees = c.self.inside.terms in
    let l = rw (← c.self.view_is) at c.requires.one in
    let same = sequent_at-kept trees c.self.inside.symbols c.self.inside.steps.items c.self.inside.made.items c.self.invariant c.args.one c.index.result.now l
    c.index.ensures in
    rw (← c.self.view_is) (
    subst (λ (s : Sequent). IfOk c.image_of.result
    (λ image. IsStated c.image_of.new.terms image
    (substituted (type.pairs_at trees.types c.args.put.now.types.items) (term_pairs_at trees c.args.put.now.terms.items) s))) (sym same)
    c.image_of.ensures.made
    )

pub returns-clause-grows : goal.returns-clause-grows
returns-clause-grows c = rw (← c.self.view_is)
    (Grows-Keeps c.image_of.ensures.keeps c.self.inside.symbols c.self.inside.steps.items c.self.inside.made.items c.self.invariant)
