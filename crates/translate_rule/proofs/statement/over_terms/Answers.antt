use Rattle.std.proofs.Common.{◌∙◌, ◌-◌, refl, sym, ap, arith, length, take, Some}
use Rattle.std.proofs.lemmas.List.{length-take}
use Rattle.hol_spec.specs.Terms.{Variable}
use Rattle.hol_term.specs.Subterms.{variables_of}
use Rattle.hol_term.specs.Tables.{type_at}
use Rattle.lp_spec.specs.Modules.{term_symbol}
use Rattle.lp_term.specs.TableLaws.{Holds-tree_at, tree_at-Holds}
use Rattle.translate_spec.specs.Scopes.{type_tree}
use Rattle.translate_term.specs.GrowLaws.{Grows-refl, Grows-trans}
use Rattle.translate_term.specs.Told.{TellsType}
use Rattle.translate_proof.specs.EnvironmentLaws.{Represents-Grows}
use Rattle.translate_rule.proofs.OwnLaws.{variables-count}
use Rattle.translate_rule.proofs.StatementLaws.{front-item, no-item, types-split, variables-last, folded-last, folded-more, folded-end}
use Rattle.translate_rule.proofs.statement.over_terms.Goals as goal

pub loop-rest-init : goal.loop-rest-init
loop-rest-init c = record {
  grows = Grows-refl _;
  known = c.requires.inside;
  variables = c.requires.variables;
  folded =
      λ given stands told. record { each = told; is = refl };
  shorter = omega arith;
}

pub over_type-requires : goal.over_type-requires
over_type-requires c =
    let trees = c.args.proof.now.trees in
    let rest = c.loop-rest.rest.now in
    let front = take (length rest - 1) rest in
    let last = c.variable-item.result in
    let split = front-item rest last c.variable-item.is c.in-len1-up.len_at_least in
    let q = c.requires.told in
    let h = c.loop-rest.invariant in
    record {
      id = (types-split trees front rest last split h.variables).1;
      inside = h.known;
      told = (
        q.0,
        Represents-Grows h.grows q.0 trees c.args.env.now q.1,
        folded-last (λ (v : Variable). TellsType q.0.declarations q.0.symbols v.1) term_symbol (λ (v : Variable). type_tree q.0.symbols q.0.scope.types v.1)
            (variables_of trees rest) (variables_of trees front) (last.name, type_at trees last.ty.0) _ _
            (variables-last trees front rest last split) (h.folded q.0 q.1 q.2),
      );
    }

pub loop-rest-preserved : goal.loop-rest-preserved
loop-rest-preserved c =
    let trees = c.args.proof.now.trees in
    let rest = c.loop-rest.rest.now in
    let front = take (length rest - 1) rest in
    let last = c.variable-item.result in
    let split = front-item rest last c.variable-item.is c.in-len1-up.len_at_least in
    let h = c.loop-rest.invariant in
    record {
      grows = Grows-trans h.grows c.in_ok-product.ensures.grows;
      known = c.in_ok-product.ensures.known;
      variables = (types-split trees front rest last split h.variables).0;
      folded = λ given stands told.
          let P : Variable → Type 0 = (λ v. TellsType given.declarations given.symbols v.1) in
          let tree = λ (v : Variable). type_tree given.symbols given.scope.types v.1 in
          let whole = variables-last trees front rest last split in
          let f = h.folded given stands told in
          folded-more P term_symbol tree (variables_of trees rest) (variables_of trees front) (last.name, type_at trees last.ty.0) (length front) _ _ _ whole
          (sym (variables-count trees front))
          (Holds-tree_at _ c.in_ok-product.product.0 _
          (c.in_ok-product.ensures.made given (Represents-Grows h.grows given trees c.args.env.now stands)
          (folded-last P term_symbol tree (variables_of trees rest) (variables_of trees front) (last.name, type_at trees last.ty.0) _ _ whole f))) f;
      shorter = omega (arith, h.shorter, length-take (length rest - 1) rest);
    }

pub returns-clause-made : goal.returns-clause-made
returns-clause-made c = λ given stands told.
    let trees = c.args.proof.now.trees in
    let h = c.loop-rest.invariant in
    tree_at-Holds _ c.loop-rest.product.0 h.known
    ∙ ap Some
    (folded-end (λ (v : Variable). TellsType given.declarations given.symbols v.1) term_symbol (λ (v : Variable). type_tree given.symbols given.scope.types v.1)
    _ _ _ (ap (variables_of trees) (no-item c.loop-rest.rest.now c.in_default.len_below))
    (h.folded given stands told))
