-- Two runs as proofs: each thing that they made follows from what was made before it, and what their steps say derives.
use Rattle.std.proofs.Common.{[], ◌∷◌, refl, arith}
use Rattle.std.specs.List.{IsDistinct}
use Rattle.hol_spec.specs.Terms.{term_eq}
use Rattle.hol_spec.specs.Sequents.{IsSequent}
use Rattle.hol_spec.specs.Definitions.{Definition}
use Rattle.hol_spec.specs.Symbols.{Symbol}
use Rattle.hol_spec.specs.Taking.{Takes}
use Rattle.hol_spec.specs.Rules.{IsDefining, Rule, Parameters}
use Rattle.hol_spec.specs.Derivations.{Follows, Derives, DerivesAll}
use Rattle.hol_spec.specs.Proofs.{Made, Each, IsProof}
use Rattle.hol_spec.specs.declared.StepKind.TheVariants.{Axiom, DefineConst, Restate}
use Rattle.spec_examples.proofs.DefinedConstant as defining
use Rattle.spec_examples.proofs.WeakenedRun as weakened

-- a constant is defined, and what the definition says is exported
is_defining : IsDefining defining.truths defining.identity
is_defining = record { typed = refl; closed = refl; variables = refl }

taken : Takes [] (Symbol.defined (Definition.constant defining.c defining.identity))
taken = Takes.constant refl is_defining

no_hypotheses : IsDistinct term_eq []
unfolding IsDistinct
no_hypotheses = tt

says_a_sequent : IsSequent defining.says
says_a_sequent = record { no_repeats = no_hypotheses; hypotheses = tt; conclusion = refl }

by_definition : Follows (Definition.constant defining.c defining.identity ∷ []) DefineConst [] (Parameters.constant defining.c defining.identity) defining.says
by_definition = record { rule = Rule.define_const is_defining refl; defined = ((0, (omega arith, refl)), tt) }

by_restating : Follows (Definition.constant defining.c defining.identity ∷ []) Restate (defining.says ∷ []) (Parameters.sequent defining.says) defining.says
by_restating = record { rule = Rule.restate says_a_sequent refl; defined = tt }

a_definition_is_a_proof : IsProof defining.run.made
a_definition_is_a_proof =
    Each.more (Made.step (record { kind = Restate; premises = 0 ∷ []; parameters = Parameters.sequent defining.says; sequent = defining.says }))
    (Each.more (Made.step
    (record { kind = DefineConst; premises = []; parameters = Parameters.constant defining.c defining.identity; sequent = defining.says }))
    (Each.more (Made.symbol (Symbol.defined (Definition.constant defining.c defining.identity))) Each.empty (tt {0}, taken) refl)
    (record { premises = []; earlier = tt; follows = by_definition; law = tt {0} }) refl)
    (record { premises = defining.says ∷ []; earlier = (refl, tt); follows = by_restating; law = tt {0} }) refl

it_derives : Derives (Definition.constant defining.c defining.identity ∷ []) [] defining.says
it_derives = Derives.inferred refl by_restating (DerivesAll.more (Derives.inferred refl by_definition DerivesAll.none) DerivesAll.none)

-- {q} |- p is assumed, and {q, r} |- p restated of it
assumed_a_sequent : IsSequent weakened.assumed
assumed_a_sequent = record { no_repeats = weakened.no_repeats; hypotheses = (refl, tt); conclusion = refl }

two_hypotheses : IsDistinct term_eq (weakened.q ∷ weakened.r ∷ [])
unfolding IsDistinct
two_hypotheses = ((refl, tt), (tt, tt))

exported_a_sequent : IsSequent weakened.exported
exported_a_sequent = record { no_repeats = two_hypotheses; hypotheses = (refl, (refl, tt)); conclusion = refl }

by_weakening : Follows [] Restate (weakened.assumed ∷ []) (Parameters.sequent weakened.exported) weakened.exported
by_weakening = record { rule = Rule.restate exported_a_sequent refl; defined = tt }

a_weakening_is_a_proof : IsProof weakened.run.made
a_weakening_is_a_proof =
    Each.more (Made.step (record { kind = Restate; premises = 0 ∷ []; parameters = Parameters.sequent weakened.exported; sequent = weakened.exported }))
    (Each.more (Made.step (record { kind = Axiom; premises = []; parameters = Parameters.sequent weakened.assumed; sequent = weakened.assumed })) Each.empty
    (record { premises = []; earlier = tt; follows = record { rule = Rule.recorded assumed_a_sequent; defined = tt }; law = tt {0} }) refl)
    (record { premises = weakened.assumed ∷ []; earlier = (refl, tt); follows = by_weakening; law = tt {0} }) refl

it_derives_from_its_assumption : Derives [] (weakened.assumed ∷ []) weakened.exported
it_derives_from_its_assumption = Derives.inferred refl by_weakening (DerivesAll.more (Derives.assumed (0, (omega arith, refl))) DerivesAll.none)
