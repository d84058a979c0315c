use Rattle.hol_type.specs.Tables.{pairs_at}
use Rattle.hol_term.specs.Substitutions.{term_pairs_at}
use Rattle.article_spec.specs.declared.commands.Word.TheVariants as word
use Rattle.article_write_spec.specs.Drafts.{Draft, say_word, conses, write_list}
use Rattle.article_steps.specs.Given.{type_pair_writer, term_pair_writer}
use Rattle.article_steps.proofs.SaidLaws.{appends-then, appends-list, appends-listed}
use Rattle.article_steps.proofs.GivenLaws.{appends-term_pair}
use Rattle.article_steps.proofs.AddsLaws.{adds-then, adds-stop}
use Rattle.article_steps.proofs.given.write_substitution.Goals as goal

pub write_type_pairs-requires-clause-known : goal.write_type_pairs-requires-clause-known
write_type_pairs-requires-clause-known g c = rw c.deref.ensures.value c.requires.known.known_types

pub write_term_pairs-requires-clause-known : goal.write_term_pairs-requires-clause-known
write_term_pairs-requires-clause-known g c = rw c.deref-2.ensures.value c.requires.known.known_terms

pub write_term_pairs-requires-clause-closed : goal.write_term_pairs-requires-clause-closed
write_term_pairs-requires-clause-closed g c = rw c.deref-2.ensures.value c.requires.closed

pub returns-in_err-write_type_pairs : goal.returns-in_err-write_type_pairs
returns-in_err-write_type_pairs g c =
    adds-stop c.args.terms.now (write_list type_pair_writer (pairs_at c.args.terms.now.types c.args.put.now.types.items))
    (λ d. (λ (d : Draft). conses 2 (say_word word.Nil d))
    ((write_list (term_pair_writer c.args.number) (term_pairs_at c.args.terms.now c.args.put.now.terms.items)) d)) _ _ _ _ _ _ _ _ _ _ _
    (appends-then (write_list (term_pair_writer c.args.number) (term_pairs_at c.args.terms.now c.args.put.now.terms.items))
    (λ (d : Draft). conses 2 (say_word word.Nil d))
    (appends-list (term_pair_writer c.args.number) (appends-term_pair c.args.number) (term_pairs_at c.args.terms.now c.args.put.now.terms.items))
    (appends-listed 2)) c.in_err-write_type_pairs.was c.from_residual.ensures.0 (rw c.deref.ensures.value at c.write_type_pairs.ensures)

pub returns-in_err-write_term_pairs : goal.returns-in_err-write_term_pairs
returns-in_err-write_term_pairs g c =
    adds-stop c.args.terms.now
    (λ d. (write_list (term_pair_writer c.args.number) (term_pairs_at c.args.terms.now c.args.put.now.terms.items))
    ((write_list type_pair_writer (pairs_at c.args.terms.now.types c.args.put.now.types.items)) d)) (λ (d : Draft). conses 2 (say_word word.Nil d)) _ _ _ _
    _ _ _ _ _ _ _ (appends-listed 2) c.in_err-write_term_pairs.was c.from_residual-in_err-write_term_pairs.ensures.0
    (adds-then c.args.terms.now (write_list type_pair_writer (pairs_at c.args.terms.now.types c.args.put.now.types.items))
    (write_list (term_pair_writer c.args.number) (term_pairs_at c.args.terms.now c.args.put.now.terms.items)) _ _ _ _ _ _ _ _ _ _ _ _ _ _
    (appends-list (term_pair_writer c.args.number) (appends-term_pair c.args.number) (term_pairs_at c.args.terms.now c.args.put.now.terms.items))
    c.in_ok-write_type_pairs.was (rw c.deref.ensures.value at c.write_type_pairs.ensures) (rw c.deref-2.ensures.value at c.write_term_pairs.ensures))

pub returns : goal.returns
returns g c =
    adds-then c.args.terms.now
    (λ d. (write_list (term_pair_writer c.args.number) (term_pairs_at c.args.terms.now c.args.put.now.terms.items))
    ((write_list type_pair_writer (pairs_at c.args.terms.now.types c.args.put.now.types.items)) d)) (λ (d : Draft). conses 2 (say_word word.Nil d)) _ _ _ _
    _ _ _ _ _ _ _ _ _ _ (appends-listed 2) c.in_ok-write_term_pairs.was
    (adds-then c.args.terms.now (write_list type_pair_writer (pairs_at c.args.terms.now.types c.args.put.now.types.items))
    (write_list (term_pair_writer c.args.number) (term_pairs_at c.args.terms.now c.args.put.now.terms.items)) _ _ _ _ _ _ _ _ _ _ _ _ _ _
    (appends-list (term_pair_writer c.args.number) (appends-term_pair c.args.number) (term_pairs_at c.args.terms.now c.args.put.now.terms.items))
    c.in_ok-write_type_pairs.was (rw c.deref.ensures.value at c.write_type_pairs.ensures) (rw c.deref-2.ensures.value at c.write_term_pairs.ensures))
    c.end_list.ensures
