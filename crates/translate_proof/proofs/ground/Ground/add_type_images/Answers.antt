use Rattle.std.proofs.Common.{subst, arith}
use Rattle.std.proofs.lemmas.List.{drop_all}
use Rattle.std.specs.List.{AllByRecursion}
use Rattle.hol_spec.specs.Names.{Name}
use Rattle.hol_spec.specs.Substitution.{image}
use Rattle.translate_spec.specs.Scopes.{images}
use Rattle.translate_term.specs.Told.{TellsType}
use Rattle.translate_proof.specs.Environments.{Ready}
use Rattle.translate_proof.specs.Images.{type_pairs, term_pairs}
use Rattle.translate_proof.proofs.AddLaws.{adds-begin, adds-next, adds-end}
use Rattle.translate_term.specs.GrowLaws.{Grows-refl, Grows-trans}
use Rattle.translate_proof.proofs.ListSteps.{drop-item, drop-each}
use Rattle.translate_proof.specs.EnvironmentLaws.{Represents-Grows}
use Rattle.translate_proof.proofs.ground.Ground.add_type_images.Goals as goal

pub add_type_image-requires-clause-told : goal.add_type_image-requires-clause-told
add_type_image-requires-clause-told c =
    let split = drop-item c.args.names.now c.loop-name.name-index c.name-item.result c.name-item.is c.loop-name-test.true in
    let given = c.requires.told.0 in
    let P = λ (n : Name). TellsType given.declarations given.symbols (image (type_pairs c.args.self.proof.now.trees c.args.put.now) n) in (
      given,
      Represents-Grows c.loop-name.invariant.grows given c.args.self.proof.now.trees c.args.self.env.now c.requires.told.1,
      (subst (AllByRecursion P) split (drop-each P c.loop-name.name-index c.args.names.now c.requires.told.2)).0,
    )

pub loop-name-init : goal.loop-name-init
loop-name-init c = record {
  grows = Grows-refl _;
  adds =
      λ given told. adds-begin (images given.symbols _ (term_pairs c.args.self.proof.now.trees c.args.put.now) given.scope).types _ _;
}

pub loop-name-preserved : goal.loop-name-preserved
loop-name-preserved c =
    let split = drop-item c.args.names.now c.loop-name.name-index c.name-item.result c.name-item.is c.loop-name-test.true in
    let trees = c.args.self.proof.now.trees in
    record {
      grows = Grows-trans c.loop-name.invariant.grows c.add_type_image.ensures.grows;
      adds = λ given told.
          let P = λ (n : Name). TellsType given.declarations given.symbols (image (type_pairs trees c.args.put.now) n) in
          adds-next (images given.symbols (type_pairs trees c.args.put.now) (term_pairs trees c.args.put.now) given.scope).types _
          (Ready given c.loop-name.target trees c.args.self.env.now c.loop-name.args.items) _ _ _ _ _ split
          (λ made h. c.in_ok-add_type_image.ensures.ready given made h
          ((subst (AllByRecursion P) split (drop-each P c.loop-name.name-index c.args.names.now told)).0)) (c.loop-name.invariant.adds given told);
    }

pub returns-in_err-add_type_image-clause-grows : goal.returns-in_err-add_type_image-clause-grows
returns-in_err-add_type_image-clause-grows c = Grows-trans c.loop-name.invariant.grows c.add_type_image.ensures.grows

pub returns-clause-ready : goal.returns-clause-ready
returns-clause-ready c = λ given made h told.
    let trees = c.args.self.proof.now.trees in
    adds-end (images given.symbols (type_pairs trees c.args.put.now) (term_pairs trees c.args.put.now) given.scope).types _
    (Ready given c.loop-name.target trees c.args.self.env.now c.loop-name.args.items) _ _
    (drop_all c.loop-name.name-index c.args.names.now (omega (arith, c.loop-name-test.false))) (c.loop-name.invariant.adds given told) made h
