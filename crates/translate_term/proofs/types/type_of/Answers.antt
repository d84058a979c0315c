use Rattle.translate_term.specs.GrowLaws.{Grows-refl}
use Rattle.translate_term.proofs.MadeLaws.{is_some-unless, if_some}
use Rattle.translate_term.proofs.types.type_of.Goals as goal

pub returns-in-Some-clause-made : goal.returns-in-Some-clause-made
returns-in-Some-clause-made c = λ given s. s.noted _ _ c.in-Some.ensures.noted

pub returns-in-Some-clause-noted : goal.returns-in-Some-clause-noted
returns-in-Some-clause-noted c = λ given s. s.noted

pub returns-in-Some-clause-grows : goal.returns-in-Some-clause-grows
returns-in-Some-clause-grows c = Grows-refl _

pub unwrap-requires : goal.unwrap-requires
unwrap-requires c =
    let w = c.in_ok-make-in-None.ensures.ends c.requires.0 c.requires.1 in
    is_some-unless c.find-in-None.result c.find-in-None.ensures.absent (λ absent. absent w.ends.0 w.ends.1)

pub returns-in_ok-make-in-None-clause-made : goal.returns-in_ok-make-in-None-clause-made
returns-in_ok-make-in-None-clause-made c =
    λ given s. (c.in_ok-make-in-None.ensures.ends given s).noted _ _
    (if_some _ c.find-in-None.result c.unwrap.result c.unwrap.ensures c.find-in-None.ensures.noted)

pub returns-in_ok-make-in-None-clause-noted : goal.returns-in_ok-make-in-None-clause-noted
returns-in_ok-make-in-None-clause-noted c = λ given s. (c.in_ok-make-in-None.ensures.ends given s).noted
