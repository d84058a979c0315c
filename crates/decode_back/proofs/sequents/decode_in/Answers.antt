use Rattle.std.proofs.Common.{◌≡◌, None, Some, length, sym, ap, subst, ◌∙◌, arith}
use Rattle.std.specs.Prelude.{IfSome}
use Rattle.std.specs.declared.vec.Vec.{Vec}
use Rattle.std.specs.declared.alloc.Global.{Global}
use Rattle.hol_term.specs.declared.TermId.{TermId}
use Rattle.hol_term.specs.Tables.{AreKnown}
use Rattle.lp_term.specs.declared.LpId.{LpId}
use Rattle.lp_term.specs.Tables as lp
use Rattle.lp_term.specs.Tables.{tree_at, trees_at}
use Rattle.holide_sig.specs.Modules.{declarations_of}
use Rattle.decode_spec.specs.Decode.{variables_from}
use Rattle.decode_back.specs.TermWalks.{AreVariables}
use Rattle.decode_back.specs.SequentWalks.{AreVariablesFound}
use Rattle.decode_back.proofs.TypeWalk.{IfOk-weaker}
use Rattle.decode_back.proofs.TermLemmas.{length-map}
use Rattle.decode_back.proofs.PartsLemmas.{told-many, too_many_parts, no_variables}
use Rattle.decode_back.proofs.sequents.decode_in.Goals as goal

pub returns-then-not-are_few : goal.returns-then-not-are_few
returns-then-not-are_few c = record {
  found = λ p are.
      too_many_parts (declarations_of c.args.source.now) c.args.source.now.table p c.args.parts.now are c.len.result c.len-2.result
      (length-map (λ (id : LpId). tree_at c.args.source.now.table id.0) c.args.parts.now.variables.items
      ∙ sym (c.len.ensures ∙ c.args.parts.now.variables.ok.0))
      (length-map (λ (id : LpId). tree_at c.args.source.now.table id.0) c.args.parts.now.hypotheses.items
      ∙ sym (c.len-2.ensures ∙ c.args.parts.now.hypotheses.ok.0))
      (told-many c.are_few.result _ c.are_few.ensures c.if-not-are_few.true);
}

pub returns-in_default : goal.returns-in_default
returns-in_default c = record {
  found = λ p are.
      no_variables (declarations_of c.args.source.now) c.args.source.now.table p c.args.parts.now are c.free_variables.new.table
      (subst (λ xs. AreVariablesFound
      (variables_from (declarations_of c.args.source.now) (trees_at c.args.source.now.table xs) c.args.parts.now.type_variables 0)
      c.free_variables.new.table None) c.deref.ensures.value
      (subst (AreVariablesFound
      (variables_from (declarations_of c.args.source.now) (trees_at c.args.source.now.table c.deref.result.now) c.args.parts.now.type_variables 0)
      c.free_variables.new.table) c.in_default.is c.in_ok-variables.ensures.found));
}

pub decode_terms-found-requires-clause-few : goal.decode_terms-found-requires-clause-few
decode_terms-found-requires-clause-few c =
    let few = c.are_few.ensures.0 c.if-not-are_few.false in
    let many = subst (λ o. IfSome o (λ (ids : Vec TermId Global). length ids.items ≡ length c.deref.result.now)) c.in-Some.is c.in_ok-variables.ensures.many in
    omega (arith, few, many, ap length c.deref.ensures.value, ap length c.deref-2.ensures.value, c.len.ensures, c.len-2.ensures)

pub decode_terms-found-requires-clause-variables : goal.decode_terms-found-requires-clause-variables
decode_terms-found-requires-clause-variables c =
    subst (AreKnown c.free_variables.new.table) (sym c.deref-2.ensures.value)
    (subst (λ o. IfSome o (λ (ids : Vec TermId Global). AreKnown c.free_variables.new.table ids.items)) c.in-Some.is c.in_ok-variables.ensures.known)

pub returns : goal.returns
returns c = record {
  found =
      IfOk-weaker _ _ c.decode_terms-found.result c.decode_terms-found.ensures.found (λ found h p are.
      let v : AreVariablesFound
      (variables_from (declarations_of c.args.source.now) (trees_at c.args.source.now.table c.args.parts.now.variables.items)
      c.args.parts.now.type_variables 0) c.free_variables.new.table (Some c.in-Some.variables) =
      (subst (λ xs. AreVariablesFound
      (variables_from (declarations_of c.args.source.now) (trees_at c.args.source.now.table xs) c.args.parts.now.type_variables 0)
      c.free_variables.new.table (Some c.in-Some.variables)) c.deref.ensures.value
      (subst (AreVariablesFound
      (variables_from (declarations_of c.args.source.now) (trees_at c.args.source.now.table c.deref.result.now) c.args.parts.now.type_variables 0)
      c.free_variables.new.table) c.in-Some.is c.in_ok-variables.ensures.found)) in
      h v.0 (v.1, subst (λ ids. AreVariables c.free_variables.new.table ids v.0) (sym c.deref-2.ensures.value) v.2) p are);
}

pub free_variables-requires-clause-few : goal.free_variables-requires-clause-few
free_variables-requires-clause-few c = let few = c.are_few.ensures.0 c.if-not-are_few.false in omega (arith, few)

pub free_variables-requires-clause-many : goal.free_variables-requires-clause-many
free_variables-requires-clause-many c = let few = c.are_few.ensures.0 c.if-not-are_few.false in omega
    (arith, few, ap length c.deref.ensures.value, c.len.ensures)

pub free_variables-requires-clause-known : goal.free_variables-requires-clause-known
free_variables-requires-clause-known c = subst (lp.AreKnown c.args.source.now.table) (sym c.deref.ensures.value) c.requires.known.variables

pub decode_terms-found-requires-clause-innermost : goal.decode_terms-found-requires-clause-innermost
decode_terms-found-requires-clause-innermost c = c.free_variables.ensures.keeps.stays.each _ _ c.in_ok-innermost.ensures.held

pub decode_terms-found-requires-clause-known : goal.decode_terms-found-requires-clause-known
decode_terms-found-requires-clause-known c = c.requires.known
