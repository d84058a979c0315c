use Rattle.std.proofs.Common.{None, Some, length, refl, sym, subst, arith, ◌∙◌}
use Rattle.std.specs.Prelude.{IfSome}
use Rattle.std.specs.declared.vec.Vec.{Vec}
use Rattle.std.specs.declared.alloc.Global.{Global}
use Rattle.hol_spec.specs.ClosedForm.{ClosedSequent}
use Rattle.hol_spec.specs.Limits.{greatest_size, greatest_depth}
use Rattle.hol_term.specs.declared.TermId.{TermId}
use Rattle.hol_term.specs.Tables.{AreKnown}
use Rattle.hol_term.specs.TableLaws.{Keeps-trans, AreKnown-Keeps}
use Rattle.lp_term.specs.Tables as lp
use Rattle.lp_term.specs.Tables.{tree_at, trees_at}
use Rattle.holide_sig.specs.Modules.{declarations_of}
use Rattle.translate_spec.specs.TypeEnc.{place}
use Rattle.decode_spec.specs.Decode.{term_from, hypotheses_from}
use Rattle.decode_back.specs.TermWalks.{IsTermFound}
use Rattle.decode_back.specs.SequentWalks.{AreHypothesesFound, IsMade, IsJudged}
use Rattle.decode_back.proofs.TypeWalk.{IfOk-weaker}
use Rattle.decode_back.proofs.TermLemmas.{AreVariables-Keeps}
use Rattle.decode_back.proofs.PartsLemmas.{terms-no_hypotheses, terms-no_conclusion, terms-answer}
use Rattle.decode_back.proofs.sequents.decode_terms.Goals as goal

pub returns-in_default : goal.returns-in_default
returns-in_default c = record {
  found = λ types typed p are.
      terms-no_hypotheses (declarations_of c.args.base.now) c.args.base.now.table p c.args.parts.now are types typed.0 c.args.table.now c.args.variables.now
      typed.1 c.decode_hypotheses.new.budget c.decode_hypotheses.new.table
      (subst (λ xs. AreHypothesesFound types greatest_size c.decode_hypotheses.new.budget
      (hypotheses_from (declarations_of c.args.base.now) (trees_at c.args.base.now.table xs) c.args.parts.now.type_variables (length c.args.variables.now)
      0) c.decode_hypotheses.new.table None) c.deref.ensures.value
      (subst (AreHypothesesFound types greatest_size c.decode_hypotheses.new.budget
      (hypotheses_from (declarations_of c.args.base.now) (trees_at c.args.base.now.table c.deref.result.now) c.args.parts.now.type_variables
      (length c.args.variables.now) 0) c.decode_hypotheses.new.table) c.in_default.is (c.in_ok-found.ensures.found types typed.1)));
}

pub decode_hypotheses-requires-clause-source : goal.decode_hypotheses-requires-clause-source
decode_hypotheses-requires-clause-source c = record {
  readable = record { held = c.requires.held; few = omega (arith, c.requires.few) };
  variables = c.requires.variables;
  all = refl;
  innermost = c.requires.innermost;
}

pub decode_term-requires-clause-source : goal.decode_term-requires-clause-source
decode_term-requires-clause-source c = record {
  readable = record { held = c.requires.held; few = omega (arith, c.requires.few) };
  variables = AreKnown-Keeps c.decode_hypotheses.ensures.keeps c.args.variables.now c.requires.variables;
  all = refl;
  innermost = c.decode_hypotheses.ensures.keeps.stays.each _ _ c.requires.innermost;
}

pub returns-in_default-found : goal.returns-in_default-found
returns-in_default-found c = record {
  found = λ types typed p are.
      terms-no_conclusion (declarations_of c.args.base.now) c.args.base.now.table p c.args.parts.now are types typed.0 c.args.table.now c.args.variables.now
      typed.1 c.decode_hypotheses.new.budget c.decode_hypotheses.new.table c.in-Some.hyps
      (subst (λ xs. AreHypothesesFound types greatest_size c.decode_hypotheses.new.budget
      (hypotheses_from (declarations_of c.args.base.now) (trees_at c.args.base.now.table xs) c.args.parts.now.type_variables (length c.args.variables.now)
      0) c.decode_hypotheses.new.table (Some c.in-Some.hyps)) c.deref.ensures.value
      (subst (AreHypothesesFound types greatest_size c.decode_hypotheses.new.budget
      (hypotheses_from (declarations_of c.args.base.now) (trees_at c.args.base.now.table c.deref.result.now) c.args.parts.now.type_variables
      (length c.args.variables.now) 0) c.decode_hypotheses.new.table) c.in-Some.is (c.in_ok-found.ensures.found types typed.1)))
      c.len.result (c.len.ensures ∙ c.args.parts.now.hypotheses.ok.0) c.decode_term.new.budget c.decode_term.new.table
      (subst (IsTermFound greatest_depth types c.decode_hypotheses.new.budget c.decode_term.new.budget
      (term_from (declarations_of c.args.base.now) (tree_at c.args.base.now.table c.args.parts.now.conclusion.0)
      (place c.args.parts.now.type_variables (length c.args.variables.now) c.len.result 0)) c.decode_term.new.table) c.in_default-found.is
      (c.in_ok-found-2.ensures.decoded types
      (AreVariables-Keeps c.args.variables.now types c.decode_hypotheses.ensures.keeps c.requires.variables typed.1)));
}

pub check_sequent-requires-clause-variables : goal.check_sequent-requires-clause-variables
check_sequent-requires-clause-variables c = AreKnown-Keeps (Keeps-trans c.decode_hypotheses.ensures.keeps c.decode_term.ensures.keeps) c.args.variables.now
    c.requires.variables

pub check_sequent-requires-clause-ids : goal.check_sequent-requires-clause-ids
check_sequent-requires-clause-ids c =
    subst (AreKnown c.decode_term.new.table) (sym c.deref-2.ensures.value) (AreKnown-Keeps c.decode_term.ensures.keeps c.in-Some.hyps.items
    (subst (λ o. IfSome o (λ (ids : Vec TermId Global). AreKnown c.decode_hypotheses.new.table ids.items)) c.in-Some.is c.in_ok-found.ensures.known))

pub returns : goal.returns
returns c = record {
  found =
      IfOk-weaker _ _ c.check_sequent.result c.check_sequent.ensures.judged (λ closed judged types typed p are.
      terms-answer (declarations_of c.args.base.now) c.args.base.now.table p c.args.parts.now are types typed.0 c.args.table.now c.args.variables.now typed.1
      c.decode_hypotheses.new.budget c.decode_hypotheses.new.table c.in-Some.hyps
      (subst (λ xs. AreHypothesesFound types greatest_size c.decode_hypotheses.new.budget
      (hypotheses_from (declarations_of c.args.base.now) (trees_at c.args.base.now.table xs) c.args.parts.now.type_variables (length c.args.variables.now)
      0) c.decode_hypotheses.new.table (Some c.in-Some.hyps)) c.deref.ensures.value
      (subst (AreHypothesesFound types greatest_size c.decode_hypotheses.new.budget
      (hypotheses_from (declarations_of c.args.base.now) (trees_at c.args.base.now.table c.deref.result.now) c.args.parts.now.type_variables
      (length c.args.variables.now) 0) c.decode_hypotheses.new.table) c.in-Some.is (c.in_ok-found.ensures.found types typed.1)))
      c.len.result (c.len.ensures ∙ c.args.parts.now.hypotheses.ok.0) c.decode_term.new.budget c.decode_term.new.table c.in-Some-found.concl
      (subst (IsTermFound greatest_depth types c.decode_hypotheses.new.budget c.decode_term.new.budget
      (term_from (declarations_of c.args.base.now) (tree_at c.args.base.now.table c.args.parts.now.conclusion.0)
      (place c.args.parts.now.type_variables (length c.args.variables.now) c.len.result 0)) c.decode_term.new.table) c.in-Some-found.is
      (c.in_ok-found-2.ensures.decoded types
      (AreVariables-Keeps c.args.variables.now types c.decode_hypotheses.ensures.keeps c.requires.variables typed.1)))
      (Keeps-trans c.decode_hypotheses.ensures.keeps c.decode_term.ensures.keeps) c.decode_term.ensures.keeps c.requires.variables
      (subst (λ o. IfSome o (λ (ids : Vec TermId Global). AreKnown c.decode_hypotheses.new.table ids.items)) c.in-Some.is c.in_ok-found.ensures.known)
      c.requires.few closed
      (subst (λ ids. (s : ClosedSequent) → IsMade c.decode_term.new.table c.args.parts.now.type_variables c.args.variables.now ids c.in-Some-found.concl s
      → IsJudged s closed) c.deref-2.ensures.value judged));
}

pub decode_hypotheses-requires-clause-known : goal.decode_hypotheses-requires-clause-known
decode_hypotheses-requires-clause-known c = subst (lp.AreKnown c.args.base.now.table) (sym c.deref.ensures.value) c.requires.known.hypotheses
