use Rattle.std.proofs.Common.{◌∙◌, ◌-◌, refl, sym, ap, arith, length, take, get_or, Some}
use Rattle.std.proofs.lemmas.List.{length-take}
use Rattle.hol_term.specs.declared.TermId.{TermId}
use Rattle.hol_term.specs.Tables.{term_at, terms_at}
use Rattle.lp_spec.specs.Modules.{proof_symbol}
use Rattle.lp_term.specs.TableLaws.{Holds-tree_at, tree_at-Holds}
use Rattle.translate_spec.specs.Scopes.{term_tree}
use Rattle.translate_term.specs.GrowLaws.{Grows-refl, Grows-trans}
use Rattle.translate_proof.specs.EnvironmentLaws.{Represents-Grows}
use Rattle.translate_proof.specs.Environments.{IsTold}
use Rattle.translate_rule.proofs.OwnLaws.{terms-count}
use Rattle.translate_rule.proofs.StatementLaws.{front-last, no-item, known-split, terms-last, folded-last, folded-more, folded-end}
use Rattle.translate_rule.proofs.statement.over_formulas.Goals as goal

abbrev first : TermId
first = record { 0 = 0 }

pub loop-rest-init : goal.loop-rest-init
loop-rest-init c = record {
  grows = Grows-refl _;
  known = c.requires.inside;
  hyps = c.requires.hyps;
  folded =
      λ given stands told. record { each = told; is = refl };
  shorter = omega arith;
}

pub over_formula-requires : goal.over_formula-requires
over_formula-requires c =
    let trees = c.args.proof.now.trees in
    let rest = c.loop-rest.rest.now in
    let front = take (length rest - 1) rest in
    let last = get_or rest (length rest - 1) first in
    let split = front-last rest first c.in-len1-up.len_at_least in
    let q = c.requires.told in
    let h = c.loop-rest.invariant in
    record {
      id = (known-split trees front rest last split h.hyps).1;
      inside = h.known;
      told = (
        q.0,
        Represents-Grows h.grows q.0 trees c.args.env.now q.1,
        folded-last (IsTold q.0) proof_symbol (term_tree q.0.symbols q.0.scope) (terms_at trees rest) (terms_at trees front) (term_at trees last.0) _ _
            (terms-last trees front rest last split) (h.folded q.0 q.1 q.2),
      );
    }

pub loop-rest-preserved : goal.loop-rest-preserved
loop-rest-preserved c =
    let trees = c.args.proof.now.trees in
    let rest = c.loop-rest.rest.now in
    let front = take (length rest - 1) rest in
    let last = get_or rest (length rest - 1) first in
    let split = front-last rest first c.in-len1-up.len_at_least in
    let h = c.loop-rest.invariant in
    record {
      grows = Grows-trans h.grows c.in_ok-product.ensures.grows;
      known = c.in_ok-product.ensures.known;
      hyps = (known-split trees front rest last split h.hyps).0;
      folded = λ given stands told.
          let tree = term_tree given.symbols given.scope in
          let whole = terms-last trees front rest last split in
          let f = h.folded given stands told in
          folded-more (IsTold given) proof_symbol tree (terms_at trees rest) (terms_at trees front) (term_at trees last.0) (length front) _ _ _ whole
          (sym (terms-count trees front))
          (Holds-tree_at _ c.in_ok-product.product.0 _
          (c.in_ok-product.ensures.made given (Represents-Grows h.grows given trees c.args.env.now stands)
          (folded-last (IsTold given) proof_symbol tree (terms_at trees rest) (terms_at trees front) (term_at trees last.0) _ _ whole f))) f;
      shorter = omega (arith, h.shorter, length-take (length rest - 1) rest);
    }

pub returns-clause-made : goal.returns-clause-made
returns-clause-made c = λ given stands told.
    let trees = c.args.proof.now.trees in
    let h = c.loop-rest.invariant in
    tree_at-Holds _ c.loop-rest.product.0 h.known
    ∙ ap Some (folded-end (IsTold given) proof_symbol (term_tree given.symbols given.scope) _ _ _
    (ap (terms_at trees) (no-item c.loop-rest.rest.now c.in_default.len_below)) (h.folded given stands told))
