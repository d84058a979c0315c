use Rattle.std.proofs.lemmas.Result.{IfOk-weaker}
use Rattle.hol_term.specs.TableLaws.{Keeps-refl}
use Rattle.hol_term.proofs.Remade.{leaf_alone, leaf_closed}
use Rattle.hol_term.proofs.TermTable.remade_leaf.Goals as goal

pub returns-then-is_closed_over-clause-made : goal.returns-then-is_closed_over-clause-made
returns-then-is_closed_over-clause-made c =
    let h = c.is_closed_over.ensures.0 c.if-is_closed_over.true in
    IfOk-weaker c.add_bound.result _ _ (λ id e. leaf_closed c.args.self.now c.add_bound.new.self c.args.args.now c.args.place id c.requires.closing h.0 h.1 e)
    c.add_bound.ensures.made

pub returns-else-is_closed_over-clause-keeps : goal.returns-else-is_closed_over-clause-keeps
returns-else-is_closed_over-clause-keeps c = Keeps-refl c.args.self.now

pub returns-else-is_closed_over-clause-made : goal.returns-else-is_closed_over-clause-made
returns-else-is_closed_over-clause-made c =
    leaf_alone c.args.self.now c.args.args.now c.args.place c.mark-distinct.ensures.distinct c.requires.place.0 c.requires.args c.requires.leaf
    c.requires.closing
    (λ h. let t = c.is_closed_over.ensures.1 h in cc (t, c.if-is_closed_over.false))
