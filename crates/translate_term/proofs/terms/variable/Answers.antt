use Rattle.std.proofs.Common.{◌∙◌, sym}
use Rattle.std.proofs.lemmas.Result.{IfOk-weaker}
use Rattle.translate_term.specs.GrowLaws.{Grows-refl}
use Rattle.translate_term.proofs.LeafLaws.{free-told, free-filled}
use Rattle.translate_term.proofs.terms.variable.Goals as goal

pub returns-in-Some-clause-made : goal.returns-in-Some-clause-made
returns-in-Some-clause-made c =
    let distinct = rw c.types.ensures.types at c.count-count.ensures.distinct in
    let found = rw c.in_ok-clone.ensures.cases at (sym c.find-told.ensures ∙ c.in-Some.is) in
    λ given s a. free-told given _ _ distinct _ c.args.name.now c.args.ty s.known.known a c.in-Some.tree found

pub returns-in-Some-clause-noted : goal.returns-in-Some-clause-noted
returns-in-Some-clause-noted c = λ given s. s.noted

pub returns-in-Some-clause-grows : goal.returns-in-Some-clause-grows
returns-in-Some-clause-grows c = Grows-refl _

pub some_term-requires : goal.some_term-requires
some_term-requires c = (c.requires.0, c.requires.1)

pub returns-in-None-clause-made : goal.returns-in-None-clause-made
returns-in-None-clause-made c =
    let distinct = rw c.types.ensures.types at c.count-count.ensures.distinct in
    let absent = rw c.in_ok-clone.ensures.cases at (sym c.find-told.ensures ∙ c.in-None.is) in
    IfOk-weaker c.some_term.result _ _
    (λ r h given s a. free-filled given _ _ distinct _ c.args.name.now c.args.ty s.known.known a _ r absent (h given s))
    c.some_term.ensures.made
