use Rattle.std.proofs.lemmas.List.{length-append}
use Rattle.std.proofs.Common.{[], ◌∷◌, ◌+◌, length, drop, get_or, refl, sym, ap, subst, ◌∙◌, arith}
use Rattle.hol_spec.specs.Limits.{greatest_depth, term_size, term_depth}
use Rattle.hol_spec.specs.Terms as term
use Rattle.hol_type.specs.Refusals.{PassesLimit}
use Rattle.hol_term.specs.Tables.{type_at, AreKnown, Holds}
use Rattle.hol_term.specs.TableLaws.{Keeps-refl, Keeps-trans, AreKnown-Keeps}
use Rattle.hol_term.specs.Refusals.{RefusesTerm}
use Rattle.lp_term.specs.Tables.{tree_at, trees_at}
use Rattle.holide_sig.specs.Modules.{declarations_of}
use Rattle.translate_spec.specs.TypeEnc.{place}
use Rattle.decode_spec.specs.Decode.{type_of_tree}
use Rattle.decode_back.specs.Walks.{IsTypeFound}
use Rattle.decode_back.proofs.SequentLemmas.{VariablesSoFar, next-tree, tree-known-at, no_tree, no_id, terms-known, variables-none, variables-all, variable-none, variable-refused, variable-more}
use Rattle.decode_back.proofs.sequents.free_variables.Goals as goal

pub loop-number-init : goal.loop-number-init
loop-number-init c = record {
  ids = subst (AreKnown c.args.table.now) (sym c.new-ids.ensures.items) (tt {0});
  many = ap length c.new-ids.ensures.items;
  keeps = Keeps-refl c.args.table.now;
  so_far = variables-none (declarations_of c.args.source.now) (trees_at c.args.source.now.table c.args.trees.now) c.args.count c.args.table.now
      c.new-ids.result.items c.new-ids.ensures.items;
}

pub returns-in_default-clause-found : goal.returns-in_default-clause-found
returns-in_default-clause-found c =
    variable-none (declarations_of c.args.source.now) (trees_at c.args.source.now.table c.args.trees.now) c.args.count c.loop-number.number
    (tree_at c.args.source.now.table (get_or c.args.trees.now c.loop-number.number no_id).0)
    (trees_at c.args.source.now.table (drop (c.loop-number.number + 1) c.args.trees.now)) c.loop-number.table c.decode_type.new.table
    c.loop-number.ids.items
    (subst (λ l. VariablesSoFar (declarations_of c.args.source.now) (trees_at c.args.source.now.table c.args.trees.now) l c.args.count c.loop-number.number
    c.loop-number.table c.loop-number.ids.items) (next-tree c.args.source.now.table c.args.trees.now c.loop-number.number no_id c.loop-number-test.true)
    c.loop-number.invariant.so_far)
    (subst (IsTypeFound greatest_depth
    (type_of_tree (declarations_of c.args.source.now) (place c.args.count c.loop-number.number 0 0)
    (tree_at c.args.source.now.table (get_or c.args.trees.now c.loop-number.number no_id).0)) c.decode_type.new.table) c.in_default.is
    c.in_ok-ty.ensures.decoded)

pub returns-in-Err-Refused-clause-found : goal.returns-in-Err-Refused-clause-found
returns-in-Err-Refused-clause-found c =
    variable-refused (declarations_of c.args.source.now) (trees_at c.args.source.now.table c.args.trees.now) c.args.count c.loop-number.number
    (tree_at c.args.source.now.table (get_or c.args.trees.now c.loop-number.number no_id).0)
    (trees_at c.args.source.now.table (drop (c.loop-number.number + 1) c.args.trees.now)) c.loop-number.table c.decode_type.new.table
    c.loop-number.ids.items c.in-Some.ty c.in-Err-Refused.field-0-0
    (subst (λ l. VariablesSoFar (declarations_of c.args.source.now) (trees_at c.args.source.now.table c.args.trees.now) l c.args.count c.loop-number.number
    c.loop-number.table c.loop-number.ids.items) (next-tree c.args.source.now.table c.args.trees.now c.loop-number.number no_id c.loop-number-test.true)
    c.loop-number.invariant.so_far)
    (subst (IsTypeFound greatest_depth
    (type_of_tree (declarations_of c.args.source.now) (place c.args.count c.loop-number.number 0 0)
    (tree_at c.args.source.now.table (get_or c.args.trees.now c.loop-number.number no_id).0)) c.decode_type.new.table) c.in-Some.is
    c.in_ok-ty.ensures.decoded)
    (subst (λ n. PassesLimit c.in-Err-Refused.field-0-0 (term_size (term.Term.free n (type_at c.decode_type.new.table c.in-Some.ty.0)))
    (term_depth (term.Term.free n (type_at c.decode_type.new.table c.in-Some.ty.0)))) c.in_ok-name.ensures
    (subst (λ f. RefusesTerm f (term.Term.free c.in_ok-name.name (type_at c.decode_type.new.table c.in-Some.ty.0))) c.in-Err-Refused.field-0-is
    c.in-Err-Refused.ensures.refusal))

pub loop-number-preserved : goal.loop-number-preserved
loop-number-preserved c = record {
  ids = subst (AreKnown c.free.new.self) (sym c.in_ok-push-in-Ok.ensures.items)
      (terms-known c.free.new.self c.loop-number.ids.items c.in-Ok.id
      (AreKnown-Keeps (Keeps-trans c.decode_type.ensures.keeps c.free.ensures.keeps) c.loop-number.ids.items c.loop-number.invariant.ids)
      c.in-Ok.ensures.known);
  many = let l = ap length c.in_ok-push-in-Ok.ensures.items
      ∙ length-append c.loop-number.ids.items (c.in-Ok.id ∷ []) in omega (arith, l, c.loop-number.invariant.many);
  keeps = Keeps-trans (Keeps-trans c.loop-number.invariant.keeps c.decode_type.ensures.keeps) c.free.ensures.keeps;
  so_far = variable-more (declarations_of c.args.source.now) (trees_at c.args.source.now.table c.args.trees.now) c.args.count c.loop-number.number
      (c.loop-number.number + 1) (tree_at c.args.source.now.table (get_or c.args.trees.now c.loop-number.number no_id).0)
      (trees_at c.args.source.now.table (drop (c.loop-number.number + 1) c.args.trees.now)) c.loop-number.table c.decode_type.new.table c.free.new.self
      c.loop-number.ids.items c.push.new.self.items c.in-Some.ty c.in-Ok.id
      (subst (λ l. VariablesSoFar (declarations_of c.args.source.now) (trees_at c.args.source.now.table c.args.trees.now) l c.args.count c.loop-number.number
      c.loop-number.table c.loop-number.ids.items) (next-tree c.args.source.now.table c.args.trees.now c.loop-number.number no_id c.loop-number-test.true)
      c.loop-number.invariant.so_far)
      (subst (IsTypeFound greatest_depth
      (type_of_tree (declarations_of c.args.source.now) (place c.args.count c.loop-number.number 0 0)
      (tree_at c.args.source.now.table (get_or c.args.trees.now c.loop-number.number no_id).0)) c.decode_type.new.table) c.in-Some.is
      c.in_ok-ty.ensures.decoded)
      (Keeps-trans c.decode_type.ensures.keeps c.free.ensures.keeps) c.loop-number.invariant.ids
      (subst (λ n. Holds c.free.new.self c.in-Ok.id.0 (term.Term.free n (type_at c.decode_type.new.table c.in-Some.ty.0))) c.in_ok-name.ensures
      c.in-Ok.ensures.made) c.in_ok-push-in-Ok.ensures.items refl;
}

pub returns-clause-found : goal.returns-clause-found
returns-clause-found c =
    variables-all (declarations_of c.args.source.now) (trees_at c.args.source.now.table c.args.trees.now) c.args.count c.loop-number.number c.loop-number.table
    c.loop-number.ids.items
    (subst (λ l. VariablesSoFar (declarations_of c.args.source.now) (trees_at c.args.source.now.table c.args.trees.now) l c.args.count c.loop-number.number
    c.loop-number.table c.loop-number.ids.items) (no_tree c.args.source.now.table c.args.trees.now c.loop-number.number c.loop-number-test.false)
    c.loop-number.invariant.so_far)

pub decode_type-requires-clause-known : goal.decode_type-requires-clause-known
decode_type-requires-clause-known c = tree-known-at c.args.source.now.table c.args.trees.now c.loop-number.number _ c.requires.known c.loop-number-test.true

pub returns-in_err-ty-clause-keeps : goal.returns-in_err-ty-clause-keeps
returns-in_err-ty-clause-keeps c = Keeps-trans c.loop-number.invariant.keeps c.decode_type.ensures.keeps

pub returns-in_default-clause-keeps : goal.returns-in_default-clause-keeps
returns-in_default-clause-keeps c = Keeps-trans c.loop-number.invariant.keeps c.decode_type.ensures.keeps

pub returns-in_err-name-clause-keeps : goal.returns-in_err-name-clause-keeps
returns-in_err-name-clause-keeps c = Keeps-trans c.loop-number.invariant.keeps c.decode_type.ensures.keeps

pub returns-in_err-push-in-Ok-clause-keeps : goal.returns-in_err-push-in-Ok-clause-keeps
returns-in_err-push-in-Ok-clause-keeps c = Keeps-trans (Keeps-trans c.loop-number.invariant.keeps c.decode_type.ensures.keeps) c.free.ensures.keeps

pub returns-in-Err-Memory-clause-keeps : goal.returns-in-Err-Memory-clause-keeps
returns-in-Err-Memory-clause-keeps c = Keeps-trans (Keeps-trans c.loop-number.invariant.keeps c.decode_type.ensures.keeps) c.free.ensures.keeps

pub returns-in-Err-Refused-clause-keeps : goal.returns-in-Err-Refused-clause-keeps
returns-in-Err-Refused-clause-keeps c = Keeps-trans (Keeps-trans c.loop-number.invariant.keeps c.decode_type.ensures.keeps) c.free.ensures.keeps

pub returns-clause-keeps : goal.returns-clause-keeps
returns-clause-keeps c = c.loop-number.invariant.keeps

pub returns-clause-known : goal.returns-clause-known
returns-clause-known c = c.loop-number.invariant.ids

pub returns-clause-many : goal.returns-clause-many
returns-clause-many c = omega (arith, c.loop-number.invariant.many, c.loop-number-test.false)
