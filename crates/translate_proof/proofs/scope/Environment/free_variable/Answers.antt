use Rattle.std.proofs.Common.{◌∙◌, sym, ap, Some}
use Rattle.std.proofs.lemmas.Result.{IfOk-weaker}
use Rattle.lp_term.specs.TableLaws.{Holds-tree_at, Holds-within}
use Rattle.translate_spec.specs.Scopes.{filler}
use Rattle.translate_proof.specs.Environments.{filled_terms}
use Rattle.translate_term.specs.GrowLaws.{IsHeld-Grows}
use Rattle.translate_proof.proofs.StandTrees.{variable-found, variable-absent}
use Rattle.translate_proof.proofs.scope.Environment.free_variable.Goals as goal

pub filler-requires-clause-held : goal.filler-requires-clause-held
filler-requires-clause-held c = IsHeld-Grows _ _ c.in_ok-filled-in-None.ensures.grows c.requires.told.1.held

pub filler-requires-clause-ty : goal.filler-requires-clause-ty
filler-requires-clause-ty c = Holds-within _ c.in_ok-filled-in-None.filled.0 _
    (c.in_ok-filled-in-None.ensures.made c.requires.told.0 c.requires.told.1 c.requires.told.2)

pub returns-in-Some-clause-made : goal.returns-in-Some-clause-made
returns-in-Some-clause-made c = λ given s told.
    variable-found c.args.proof.now.trees.types s.one_type _ c.args.variable.now c.requires.variable _ c.in-Some.tree
    (filled_terms given.symbols given.scope.types) given.scope.terms s.terms_told (sym c.find.ensures ∙ c.in-Some.is)

pub returns-in_ok-filled-in-None-clause-made : goal.returns-in_ok-filled-in-None-clause-made
returns-in_ok-filled-in-None-clause-made c =
    IfOk-weaker c.filler.result _ _
    (λ r h given s told.
    h ∙ ap (λ a. Some (filler a)) (Holds-tree_at _ c.in_ok-filled-in-None.filled.0 _ (c.in_ok-filled-in-None.ensures.made given s told))
    ∙ ap Some (variable-absent c.args.proof.now.trees.types s.one_type _ c.args.variable.now c.requires.variable _
    (filled_terms given.symbols given.scope.types) given.scope.terms s.terms_told (sym c.find.ensures ∙ c.in-None.is)))
    c.filler.ensures.made
