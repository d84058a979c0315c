use Rattle.std.proofs.Common.{List, map, true, sym, ap, subst, ◌∙◌}
use Rattle.std.specs.List.{list_all}
use Rattle.hol_spec.specs.Defining.{is_closed, has_type_variables_of}
use Rattle.hol_defs.specs.declared.lists.Equation.{Equation}
use Rattle.hol_defs.specs.Lists.{equation_at, pairs_at, sequent_at, AreEquationsKnown}
use Rattle.hol_defs.proofs.JudgeLaws.{known_term}
use Rattle.hol_defs.proofs.ListFaults.{equations_fault-open, equations_fault-extra, equations_fault-no_list, equations_fault-none}
use Rattle.hol_defs.proofs.PairLaws.{equations-are, variables-known}
use Rattle.hol_defs.proofs.lists.judge_equations.Goals as goal

pub push_equations-requires-clause-variables : goal.push_equations-requires-clause-variables
push_equations-requires-clause-variables c = variables-known c.args.table.now c.args.pairs.now c.args.variables.now c.requires.variables c.requires.pairs

pub are_closed-requires : goal.are_closed-requires
are_closed-requires c = subst (AreEquationsKnown c.args.table.now) (sym c.deref.ensures.value) c.in_ok-push_equations.ensures.known

pub have_own_variables-requires : goal.have_own_variables-requires
have_own_variables-requires c = subst (AreEquationsKnown c.args.table.now) (sym c.deref-2.ensures.value) c.in_ok-push_equations.ensures.known

pub is_list-requires-clause-concl : goal.is_list-requires-clause-concl
is_list-requires-clause-concl c = known_term c.args.table.now c.args.concl.0 c.requires.concl

pub returns-clause-known : goal.returns-clause-known
returns-clause-known c = c.in_ok-push_equations.ensures.known

pub returns-clause-said : goal.returns-clause-said
returns-clause-said c = c.in_ok-push_equations.ensures.said ∙ equations-are c.args.table.now c.requires.distinct c.args.pairs.now c.args.variables.now
    c.requires.variables c.requires.pairs c.args.hyps.now

pub returns-then-not-branch-clause-refusal : goal.returns-then-not-branch-clause-refusal
returns-then-not-branch-clause-refusal c =
    let trees = c.args.table.now in
    let said = c.in_ok-push_equations.ensures.said
    ∙ equations-are trees c.requires.distinct c.args.pairs.now c.args.variables.now c.requires.variables c.requires.pairs c.args.hyps.now in
    let closed = c.in_ok-are_closed.ensures ∙ ap (λ (l : List Equation). list_all (λ e. is_closed e.1) (map (equation_at trees) l)) c.deref.ensures.value in
    equations_fault-open trees (pairs_at trees c.args.pairs.now) (sequent_at trees c.args.hyps.now c.args.concl) c.push_equations.new.all.items said _ true
    closed c.if-not-branch.true

pub returns-then-not-branch-2-clause-refusal : goal.returns-then-not-branch-2-clause-refusal
returns-then-not-branch-2-clause-refusal c =
    let trees = c.args.table.now in
    let said = c.in_ok-push_equations.ensures.said
    ∙ equations-are trees c.requires.distinct c.args.pairs.now c.args.variables.now c.requires.variables c.requires.pairs c.args.hyps.now in
    let closed = c.in_ok-are_closed.ensures ∙ ap (λ (l : List Equation). list_all (λ e. is_closed e.1) (map (equation_at trees) l)) c.deref.ensures.value in
    let own = c.in_ok-have_own_variables.ensures ∙ ap (λ (l : List Equation). list_all (λ e. has_type_variables_of e.0.1 e.1) (map (equation_at trees) l))
    c.deref-2.ensures.value in
    equations_fault-extra trees (pairs_at trees c.args.pairs.now) (sequent_at trees c.args.hyps.now c.args.concl) c.push_equations.new.all.items said _ _ closed
    own c.if-not-branch.false c.if-not-branch-2.true

pub returns-then-not-branch-3-clause-refusal : goal.returns-then-not-branch-3-clause-refusal
returns-then-not-branch-3-clause-refusal c =
    let trees = c.args.table.now in
    let said = c.in_ok-push_equations.ensures.said
    ∙ equations-are trees c.requires.distinct c.args.pairs.now c.args.variables.now c.requires.variables c.requires.pairs c.args.hyps.now in
    let closed = c.in_ok-are_closed.ensures ∙ ap (λ (l : List Equation). list_all (λ e. is_closed e.1) (map (equation_at trees) l)) c.deref.ensures.value in
    let own = c.in_ok-have_own_variables.ensures ∙ ap (λ (l : List Equation). list_all (λ e. has_type_variables_of e.0.1 e.1) (map (equation_at trees) l))
    c.deref-2.ensures.value in
    equations_fault-no_list trees (pairs_at trees c.args.pairs.now) (sequent_at trees c.args.hyps.now c.args.concl) c.push_equations.new.all.items said _ _
    closed own c.if-not-branch.false c.if-not-branch-2.false (sym c.in_ok-is_list.ensures ∙ c.if-not-branch-3.true)

pub returns-clause-fits : goal.returns-clause-fits
returns-clause-fits c =
    let trees = c.args.table.now in
    let said = c.in_ok-push_equations.ensures.said
    ∙ equations-are trees c.requires.distinct c.args.pairs.now c.args.variables.now c.requires.variables c.requires.pairs c.args.hyps.now in
    let closed = c.in_ok-are_closed.ensures ∙ ap (λ (l : List Equation). list_all (λ e. is_closed e.1) (map (equation_at trees) l)) c.deref.ensures.value in
    let own = c.in_ok-have_own_variables.ensures ∙ ap (λ (l : List Equation). list_all (λ e. has_type_variables_of e.0.1 e.1) (map (equation_at trees) l))
    c.deref-2.ensures.value in
    equations_fault-none trees (pairs_at trees c.args.pairs.now) (sequent_at trees c.args.hyps.now c.args.concl) c.push_equations.new.all.items said _ _ closed
    own c.if-not-branch.false c.if-not-branch-2.false (sym c.in_ok-is_list.ensures ∙ c.if-not-branch-3.false)
