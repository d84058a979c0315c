use Rattle.std.proofs.Common.{◌∙◌, sym, ap, subst, [], ◌∷◌, ◌++◌}
use Rattle.std.specs.Map.{lookup}
use Rattle.std.proofs.lemmas.Result.{on_ok_weaker}
use Rattle.hol_spec.specs.NameEquality.{name_eq}
use Rattle.translate_spec.specs.Scopes.{type_tree}
use Rattle.translate_term.specs.Told.{TellsType}
use Rattle.translate_proof.specs.Environments.{Ready}
use Rattle.translate_proof.proofs.MatchLaws.{put-known, image-found, image-absent}
use Rattle.translate_proof.proofs.ground.Ground.add_type_image.Goals as goal

pub add_type-requires-clause-id : goal.add_type-requires-clause-id
add_type-requires-clause-id c =
    let found = ap (lookup (name_eq c.args.name.now)) (sym c.deref.ensures.value) ∙ sym c.put_type.ensures ∙ c.in-Some.is in
    put-known c.args.self.proof.now.trees.types c.args.name.now c.args.put.now.types.items c.in-Some.ty c.requires.put.known_types found

pub add_type-requires-clause-told : goal.add_type-requires-clause-told
add_type-requires-clause-told c =
    let found = ap (lookup (name_eq c.args.name.now)) (sym c.deref.ensures.value) ∙ sym c.put_type.ensures ∙ c.in-Some.is in
    let given = c.requires.told.0 in (
      given,
      c.requires.told.1,
      subst (TellsType given.declarations given.symbols)
          (image-found c.args.self.proof.now.trees.types c.args.name.now c.args.put.now.types.items c.in-Some.ty found) c.requires.told.2,
    )

pub returns-in-Some-clause-ready : goal.returns-in-Some-clause-ready
returns-in-Some-clause-ready c =
    let trees = c.args.self.proof.now.trees in
    let found = ap (lookup (name_eq c.args.name.now)) (sym c.deref.ensures.value) ∙ sym c.put_type.ensures ∙ c.in-Some.is in
    let is = image-found trees.types c.args.name.now c.args.put.now.types.items c.in-Some.ty found in
    on_ok_weaker c.add_type.result
    (λ ready given made h told.
    subst (λ a. Ready given c.add_type.new.target trees c.args.self.env.now c.add_type.new.args.items
    (made ++ type_tree given.symbols given.scope.types a ∷ [])) (sym is) (ready given made h (subst (TellsType given.declarations given.symbols) is told)))
    c.add_type.ensures.ready

pub returns-in-None-clause-ready : goal.returns-in-None-clause-ready
returns-in-None-clause-ready c =
    let trees = c.args.self.proof.now.trees in
    let absent = ap (lookup (name_eq c.args.name.now)) (sym c.deref.ensures.value) ∙ sym c.put_type.ensures ∙ c.in-None.is in
    on_ok_weaker c.add_type_variable.result
    (λ ready given made h told.
    subst (λ a. Ready given c.add_type_variable.new.target trees c.args.self.env.now c.add_type_variable.new.args.items
    (made ++ type_tree given.symbols given.scope.types a ∷ [])) (sym (image-absent trees.types c.args.name.now c.args.put.now.types.items absent))
    (ready given trees made h))
    c.add_type_variable.ensures.ready
