use Rattle.std.proofs.Common.{◌∙◌, sym, ap, subst, Some, [], ◌∷◌, ◌++◌}
use Rattle.std.specs.Option.{option_map}
use Rattle.std.proofs.lemmas.Result.{on_ok_weaker}
use Rattle.translate_proof.specs.Environments.{Ready}
use Rattle.translate_proof.proofs.ConstantLaws.{TellsConstants-found, constant-stands, declared-constant, scope_with-found, scope_with-absent}
use Rattle.translate_proof.proofs.StandTrees.{Ready-more}
use Rattle.translate_proof.proofs.ground.Ground.add_constant.Goals as goal

pub constant-requires-clause-told : goal.constant-requires-clause-told
constant-requires-clause-told c =
    let trees = c.args.self.proof.now.trees in
    let given = c.requires.told.0 in
    let stands = c.requires.told.1 in
    let name = c.in-Some.name.now in
    let found = sym c.put_constant.ensures ∙ ap (option_map (λ n. n.now)) c.in-Some.is in
    let told = TellsConstants-found trees stands.one_type c.args.variable.now c.requires.variable given c.args.pairs.now name c.requires.pairs c.requires.told.2
    found in
    rw c.types-types.ensures.types (rw c.terms.ensures (given.symbols, declared-constant given c.args.target.now trees c.args.self.env.now stands name _ told))

pub returns-in_ok-push-in-Some-clause-ready : goal.returns-in_ok-push-in-Some-clause-ready
returns-in_ok-push-in-Some-clause-ready c = λ given made h constants told.
    let trees = c.args.self.proof.now.trees in
    let env = c.args.self.env.now in
    let v = c.args.variable.now in
    let pairs = c.args.pairs.now in
    let name = c.in-Some.name.now in
    let found = sym c.put_constant.ensures ∙ ap (option_map (λ n. n.now)) c.in-Some.is in
    let constant_told = TellsConstants-found trees h.stands.one_type v c.requires.variable given pairs name c.requires.pairs constants found in
    let of_terms = rw c.types-types.ensures.types at c.in_ok-tree-in-Some.ensures.made in
    let of_proof = rw c.terms.ensures at of_terms in
    let is = of_proof given.symbols (declared-constant given c.args.target.now trees env h.stands name _ constant_told)
    ∙ ap Some (constant-stands given c.args.target.now trees env h.stands name _
    ∙ sym (scope_with-found trees h.stands.one_type v c.requires.variable given pairs c.requires.pairs name found)) in
    Ready-more (record { table = c.constant.ensures.keeps; decls = c.constant.ensures.decls }) given trees env c.args.args.now.items _ made
    c.in_ok-tree-in-Some.tree _ is c.in_ok-push-in-Some.ensures.items h

pub returns-in-None-clause-ready : goal.returns-in-None-clause-ready
returns-in-None-clause-ready c =
    let trees = c.args.self.proof.now.trees in
    let v = c.args.variable.now in
    let pairs = c.args.pairs.now in
    let absent = sym c.put_constant.ensures ∙ ap (option_map (λ n. n.now)) c.in-None.is in
    on_ok_weaker c.add_free_variable.result
    (λ ready given made h constants told.
    subst (λ x. Ready given c.add_free_variable.new.target trees c.args.self.env.now c.add_free_variable.new.args.items (made ++ x ∷ []))
    (sym (scope_with-absent trees h.stands.one_type v c.requires.variable given pairs c.requires.pairs absent)) (ready given made h told))
    c.add_free_variable.ensures.ready
