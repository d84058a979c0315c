use Rattle.std.proofs.Common.{arith}
use Rattle.std.proofs.lemmas.List.{drop_all}
use Rattle.hol_spec.specs.NameEquality.{name_eq}
use Rattle.translate_proof.specs.Environments.{TellTypes}
use Rattle.translate_proof.proofs.ListSteps.{drop-item}
use Rattle.lp_term.specs.TableLaws.{Keeps-refl, Keeps-trans}
use Rattle.translate_proof.proofs.PlaceLaws.{places-begin, places-next, places-end}
use Rattle.translate_proof.proofs.TellLaws.{TellTypes-set}
use Rattle.translate_proof.specs.EnvironmentLaws.{TellTypes-Keeps}
use Rattle.translate_proof.proofs.scope.place_types.Goals as goal

pub loop-name-preserved : goal.loop-name-preserved
loop-name-preserved c =
    let keeps = c.in_ok-tree.ensures.keeps in
    record {
      keeps = Keeps-trans c.loop-name.invariant.keeps keeps;
      places = rw c.in_ok-set_type.ensures (
          places-next name_eq TellTypes _ c.loop-name.table _ _ c.loop-name.types _ _ _ _ _ _ c.loop-name.place _
          (drop-item c.args.names.now c.loop-name.name-index c.name-item.result c.name-item.is c.loop-name-test.true)
          c.saturating_sub-place.ensures
          (λ scope h. TellTypes-set _ _ c.in_ok-tree.tree _ c.loop-name.types scope c.in_ok-tree.ensures.made
          (TellTypes-Keeps keeps c.loop-name.types scope h)) c.loop-name.invariant.places);
    }

pub loop-name-init : goal.loop-name-init
loop-name-init c = record { keeps = Keeps-refl _; places = places-begin name_eq TellTypes _ _ _ _ }

pub returns-in_err-tree-clause-keeps : goal.returns-in_err-tree-clause-keeps
returns-in_err-tree-clause-keeps c = Keeps-trans c.loop-name.invariant.keeps c.node.ensures.keeps

pub returns-in_err-set_type-clause-keeps : goal.returns-in_err-set_type-clause-keeps
returns-in_err-set_type-clause-keeps c = Keeps-trans c.loop-name.invariant.keeps c.node.ensures.keeps

pub returns-clause-types : goal.returns-clause-types
returns-clause-types c = λ scope h.
    places-end name_eq TellTypes _ _ _ _ _ _ _ _ (drop_all c.loop-name.name-index c.args.names.now (omega (arith, c.loop-name-test.false)))
    c.loop-name.invariant.places scope h
