use Rattle.std.specs.Prelude.{IfSome}
use Rattle.std.proofs.lemmas.List.{length-append}
use Rattle.hol_term.specs.declared.TermId.{TermId}
use Rattle.std.proofs.Common.{[], ◌∷◌, ◌<◌, ◌+◌, length, drop, get_or, refl, sym, ap, subst, ◌∙◌, arith}
use Rattle.hol_spec.specs.Limits.{greatest_depth}
use Rattle.hol_term.specs.Tables.{AreKnown}
use Rattle.hol_term.specs.TableLaws.{Keeps-refl, Keeps-trans, AreKnown-Keeps}
use Rattle.lp_term.specs.Tables.{tree_at, trees_at}
use Rattle.holide_sig.specs.Modules.{declarations_of}
use Rattle.translate_spec.specs.TypeEnc.{place}
use Rattle.decode_spec.specs.Decode.{term_from}
use Rattle.decode_back.specs.TermWalks.{IsTermFound}
use Rattle.decode_back.proofs.TermLemmas.{AreVariables-Keeps}
use Rattle.decode_back.proofs.SourceLemmas.{IsSource-Keeps, IsSource-at}
use Rattle.decode_back.proofs.SequentLemmas.{HypothesesSoFar, next-tree, tree-known-at, no_tree, no_id, terms-known, hypotheses-none, hypotheses-all, hypothesis-none, hypothesis-more}
use Rattle.decode_back.proofs.sequents.decode_hypotheses.Goals as goal

pub loop-number-init : goal.loop-number-init
loop-number-init c = record {
  ids = subst (AreKnown c.args.table.now) (sym c.new-ids.ensures.items) (tt {0});
  many = ap length c.new-ids.ensures.items;
  budget = omega arith;
  keeps = Keeps-refl c.args.table.now;
  so_far = λ types vs. hypotheses-none (declarations_of c.args.source.base.now) types (trees_at c.args.source.base.now.table c.args.trees.now)
      c.args.source.place.type_variables c.args.source.place.free_variables c.args.budget.now c.args.budget.now c.args.table.now c.new-ids.result.items
      c.new-ids.ensures.items refl;
}

pub returns-in_default-clause-found : goal.returns-in_default-clause-found
returns-in_default-clause-found c types vs =
    hypothesis-none (declarations_of c.args.source.base.now) types (trees_at c.args.source.base.now.table c.args.trees.now)
    c.args.source.place.type_variables c.args.source.place.free_variables c.args.budget.now c.loop-number.number c.loop-number.budget
    c.decode_term.new.budget (tree_at c.args.source.base.now.table (get_or c.args.trees.now c.loop-number.number no_id).0)
    (trees_at c.args.source.base.now.table (drop (c.loop-number.number + 1) c.args.trees.now)) c.loop-number.table c.decode_term.new.table
    c.loop-number.ids.items
    (subst (λ l. HypothesesSoFar (declarations_of c.args.source.base.now) types (trees_at c.args.source.base.now.table c.args.trees.now) l
    c.args.source.place.type_variables c.args.source.place.free_variables c.loop-number.number c.args.budget.now c.loop-number.budget c.loop-number.table
    c.loop-number.ids.items) (next-tree c.args.source.base.now.table c.args.trees.now c.loop-number.number no_id c.loop-number-test.true)
    (c.loop-number.invariant.so_far types vs))
    (subst (IsTermFound greatest_depth types c.loop-number.budget c.decode_term.new.budget
    (term_from (declarations_of c.args.source.base.now) (tree_at c.args.source.base.now.table (get_or c.args.trees.now c.loop-number.number no_id).0)
    (place c.args.source.place.type_variables c.args.source.place.free_variables c.loop-number.number 0)) c.decode_term.new.table) c.in_default.is
    (c.in_ok-id.ensures.decoded types (AreVariables-Keeps c.args.source.variables.now types c.loop-number.invariant.keeps c.requires.source.variables vs)))

pub loop-number-preserved : goal.loop-number-preserved
loop-number-preserved c = record {
  ids = subst (AreKnown c.decode_term.new.table) (sym c.in_ok-push.ensures.items)
      (terms-known c.decode_term.new.table c.loop-number.ids.items c.in-Some.id
      (AreKnown-Keeps c.decode_term.ensures.keeps c.loop-number.ids.items c.loop-number.invariant.ids)
      (subst (λ o. IfSome o (λ (x : TermId). x.0 < length c.decode_term.new.table.terms)) c.in-Some.is c.in_ok-id.ensures.known));
  many = let l = ap length c.in_ok-push.ensures.items
      ∙ length-append c.loop-number.ids.items (c.in-Some.id ∷ []) in omega (arith, l, c.loop-number.invariant.many);
  budget = omega (arith, c.loop-number.invariant.budget, c.decode_term.ensures.budget);
  keeps = Keeps-trans c.loop-number.invariant.keeps c.decode_term.ensures.keeps;
  so_far = λ types vs. hypothesis-more (declarations_of c.args.source.base.now) types (trees_at c.args.source.base.now.table c.args.trees.now)
      c.args.source.place.type_variables c.args.source.place.free_variables c.args.budget.now c.loop-number.number (c.loop-number.number + 1)
      c.loop-number.budget c.decode_term.new.budget (tree_at c.args.source.base.now.table (get_or c.args.trees.now c.loop-number.number no_id).0)
      (trees_at c.args.source.base.now.table (drop (c.loop-number.number + 1) c.args.trees.now)) c.loop-number.table c.decode_term.new.table
      c.loop-number.ids.items c.push.new.self.items c.in-Some.id
      (subst (λ l. HypothesesSoFar (declarations_of c.args.source.base.now) types (trees_at c.args.source.base.now.table c.args.trees.now) l
      c.args.source.place.type_variables c.args.source.place.free_variables c.loop-number.number c.args.budget.now c.loop-number.budget
      c.loop-number.table c.loop-number.ids.items)
      (next-tree c.args.source.base.now.table c.args.trees.now c.loop-number.number no_id c.loop-number-test.true)
      (c.loop-number.invariant.so_far types vs))
      (subst (IsTermFound greatest_depth types c.loop-number.budget c.decode_term.new.budget
      (term_from (declarations_of c.args.source.base.now)
      (tree_at c.args.source.base.now.table (get_or c.args.trees.now c.loop-number.number no_id).0)
      (place c.args.source.place.type_variables c.args.source.place.free_variables c.loop-number.number 0)) c.decode_term.new.table) c.in-Some.is
      (c.in_ok-id.ensures.decoded types
      (AreVariables-Keeps c.args.source.variables.now types c.loop-number.invariant.keeps c.requires.source.variables vs)))
      c.decode_term.ensures.keeps c.loop-number.invariant.ids c.in_ok-push.ensures.items refl;
}

pub returns-clause-found : goal.returns-clause-found
returns-clause-found c types vs =
    hypotheses-all (declarations_of c.args.source.base.now) types (trees_at c.args.source.base.now.table c.args.trees.now)
    c.args.source.place.type_variables c.args.source.place.free_variables c.args.budget.now c.loop-number.number c.loop-number.budget c.loop-number.table
    c.loop-number.ids.items
    (subst (λ l. HypothesesSoFar (declarations_of c.args.source.base.now) types (trees_at c.args.source.base.now.table c.args.trees.now) l
    c.args.source.place.type_variables c.args.source.place.free_variables c.loop-number.number c.args.budget.now c.loop-number.budget c.loop-number.table
    c.loop-number.ids.items) (no_tree c.args.source.base.now.table c.args.trees.now c.loop-number.number c.loop-number-test.false)
    (c.loop-number.invariant.so_far types vs))

pub decode_term-requires-clause-source : goal.decode_term-requires-clause-source
decode_term-requires-clause-source c =
    IsSource-at c.loop-number.table c.args.source c.loop-number.number 0 (IsSource-Keeps c.args.source c.loop-number.invariant.keeps c.requires.source)

pub decode_term-requires-clause-known : goal.decode_term-requires-clause-known
decode_term-requires-clause-known c = tree-known-at c.args.source.base.now.table c.args.trees.now c.loop-number.number _ c.requires.known
    c.loop-number-test.true

pub returns-in_err-id-clause-keeps : goal.returns-in_err-id-clause-keeps
returns-in_err-id-clause-keeps c = Keeps-trans c.loop-number.invariant.keeps c.decode_term.ensures.keeps

pub returns-in_default-clause-keeps : goal.returns-in_default-clause-keeps
returns-in_default-clause-keeps c = Keeps-trans c.loop-number.invariant.keeps c.decode_term.ensures.keeps

pub returns-in_err-push-clause-keeps : goal.returns-in_err-push-clause-keeps
returns-in_err-push-clause-keeps c = Keeps-trans c.loop-number.invariant.keeps c.decode_term.ensures.keeps

pub returns-clause-keeps : goal.returns-clause-keeps
returns-clause-keeps c = c.loop-number.invariant.keeps

pub returns-clause-known : goal.returns-clause-known
returns-clause-known c = c.loop-number.invariant.ids

pub returns-in_err-id-clause-budget : goal.returns-in_err-id-clause-budget
returns-in_err-id-clause-budget c = omega (arith, c.loop-number.invariant.budget, c.decode_term.ensures.budget)

pub returns-in_default-clause-budget : goal.returns-in_default-clause-budget
returns-in_default-clause-budget c = omega (arith, c.loop-number.invariant.budget, c.decode_term.ensures.budget)

pub returns-in_err-push-clause-budget : goal.returns-in_err-push-clause-budget
returns-in_err-push-clause-budget c = omega (arith, c.loop-number.invariant.budget, c.decode_term.ensures.budget)

pub decode_term-requires-clause-budget : goal.decode_term-requires-clause-budget
decode_term-requires-clause-budget c = omega (arith, c.loop-number.invariant.budget, c.requires.budget)
