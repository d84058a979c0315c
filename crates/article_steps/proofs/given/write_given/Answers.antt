use Rattle.std.proofs.Common.{◌∙◌, ap, sym, subst, refl}
use Rattle.hol_defs.specs.Lists.{pairs_at}
use Rattle.hol_rules.specs.Views.{parameters_view, AreParametersKnown}
use Rattle.article_write_spec.specs.Drafts.{say_name, write_list}
use Rattle.article_write_spec.specs.WrittenSteps.{write_given}
use Rattle.article_steps.specs.Given.{put_writer, constant_pair_writer, AreClosed}
use Rattle.article_steps.proofs.AddsLaws.{adds-nothing}
use Rattle.article_steps.proofs.EachLaws.{adds-same}
use Rattle.article_steps.proofs.given.write_given.Goals as goal

pub returns-in-Nothing : goal.returns-in-Nothing
returns-in-Nothing g c = adds-same c.args.terms.now _ _ _ _ _ _ _ _ _ _
    (λ d. ap (λ x. write_given c.args.number (parameters_view c.args.terms.now x) d) (sym c.in-Nothing.is))
    (adds-nothing c.args.terms.now c.args.keys.now c.args.room.now.room _ _ _ _ refl c.requires.ready)

pub returns-in-Term : goal.returns-in-Term
returns-in-Term g c = adds-same c.args.terms.now _ _ _ _ _ _ _ _ _ _
    (λ d. ap (λ x. write_given c.args.number (parameters_view c.args.terms.now x) d) (sym c.in-Term.is)) c.write_term.ensures

pub returns-in-Variable : goal.returns-in-Variable
returns-in-Variable g c = adds-same c.args.terms.now _ _ _ _ _ _ _ _ _ _
    (λ d. ap (λ x. write_given c.args.number (parameters_view c.args.terms.now x) d) (sym c.in-Variable.is)) c.write_variable.ensures

pub returns-in-Subst : goal.returns-in-Subst
returns-in-Subst g c =
    adds-same c.args.terms.now (put_writer c.args.terms.now c.args.number c.get.result.now) _ _ _ _ _ _ _ _ _
    (λ d. ap (λ p. put_writer c.args.terms.now c.args.number p d) c.get.ensures
    ∙ ap (λ x. write_given c.args.number (parameters_view c.args.terms.now x) d) (sym c.in-Subst.is)) c.write_substitution.ensures

pub returns-in-Sequent : goal.returns-in-Sequent
returns-in-Sequent g c = adds-same c.args.terms.now _ _ _ _ _ _ _ _ _ _
    (λ d. ap (λ x. write_given c.args.number (parameters_view c.args.terms.now x) d) (sym c.in-Sequent.is)) c.write_sequent.ensures

pub returns-in-Const : goal.returns-in-Const
returns-in-Const g c = adds-same c.args.terms.now _ _ _ _ _ _ _ _ _ _
    (λ d. ap (λ x. write_given c.args.number (parameters_view c.args.terms.now x) d) (sym c.in-Const.is)) c.write_constant.ensures

pub returns-in-List : goal.returns-in-List
returns-in-List g c =
    adds-same c.args.terms.now (write_list constant_pair_writer (pairs_at c.args.terms.now c.deref.result.now)) _ _ _ _ _ _ _ _ _
    (λ d. ap (λ ps. write_list constant_pair_writer (pairs_at c.args.terms.now ps) d) c.deref.ensures.value
    ∙ ap (λ x. write_given c.args.number (parameters_view c.args.terms.now x) d) (sym c.in-List.is)) c.write_constant_pairs.ensures

pub returns-in-TypeOp : goal.returns-in-TypeOp
returns-in-TypeOp g c =
    adds-same c.args.terms.now
    (λ d. write_list say_name c.deref-in-TypeOp.result.now (say_name c.get-new.result.now.rep (say_name c.get-new.result.now.abs (say_name c.get-new.result.now.op d)))) _ _ _ _ _ _ _
    _ _
    (λ d. ap (λ ns. write_list say_name ns (say_name c.get-new.result.now.rep (say_name c.get-new.result.now.abs (say_name c.get-new.result.now.op d)))) c.deref-in-TypeOp.ensures.value
    ∙ ap (λ o. write_list say_name o.names.items (say_name o.rep (say_name o.abs (say_name o.op d)))) c.get-new.ensures
    ∙ ap (λ x. write_given c.args.number (parameters_view c.args.terms.now x) d) (sym c.in-TypeOp.is)) c.write_operator.ensures

pub write_term-requires-clause-known : goal.write_term-requires-clause-known
write_term-requires-clause-known g c = (subst (AreParametersKnown c.args.terms.now) c.in-Term.is c.requires.known)

pub write_term-requires-clause-closed : goal.write_term-requires-clause-closed
write_term-requires-clause-closed g c = (subst (λ x. AreClosed (parameters_view c.args.terms.now x)) c.in-Term.is c.requires.closed)

pub write_variable-requires-clause-known : goal.write_variable-requires-clause-known
write_variable-requires-clause-known g c = (subst (AreParametersKnown c.args.terms.now) c.in-Variable.is c.requires.known)

pub write_sequent-requires-clause-known : goal.write_sequent-requires-clause-known
write_sequent-requires-clause-known g c = (subst (AreParametersKnown c.args.terms.now) c.in-Sequent.is c.requires.known)

pub write_sequent-requires-clause-closed : goal.write_sequent-requires-clause-closed
write_sequent-requires-clause-closed g c = (subst (λ x. AreClosed (parameters_view c.args.terms.now x)) c.in-Sequent.is c.requires.closed)

pub write_constant-requires-clause-known : goal.write_constant-requires-clause-known
write_constant-requires-clause-known g c = (subst (AreParametersKnown c.args.terms.now) c.in-Const.is c.requires.known)

pub write_constant-requires-clause-closed : goal.write_constant-requires-clause-closed
write_constant-requires-clause-closed g c = (subst (λ x. AreClosed (parameters_view c.args.terms.now x)) c.in-Const.is c.requires.closed)

pub write_constant_pairs-requires-clause-known : goal.write_constant_pairs-requires-clause-known
write_constant_pairs-requires-clause-known g c = rw c.deref.ensures.value (subst (AreParametersKnown c.args.terms.now) c.in-List.is c.requires.known)

pub write_substitution-requires-clause-closed : goal.write_substitution-requires-clause-closed
write_substitution-requires-clause-closed g c = rw c.get.ensures (subst (λ x. AreClosed (parameters_view c.args.terms.now x)) c.in-Subst.is c.requires.closed)

pub write_substitution-requires-clause-known : goal.write_substitution-requires-clause-known
write_substitution-requires-clause-known g c = rw c.get.ensures (subst (AreParametersKnown c.args.terms.now) c.in-Subst.is c.requires.known)
