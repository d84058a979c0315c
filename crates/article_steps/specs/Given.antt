-- Writers of pairs, and what is asked of terms that are written.
use Rattle.std.specs.Prelude.{ℕ, List}
use Rattle.hol_spec.specs.Names.{Name}
use Rattle.hol_spec.specs.Types.{HolType}
use Rattle.hol_spec.specs.Terms.{Term, Variable, IsTerm}
use Rattle.std.specs.List.{AllByRecursion}
use Rattle.hol_spec.specs.Substitution.{TypePairs}
use Rattle.hol_spec.specs.TermSubstitution.{TermPairs}
use Rattle.hol_spec.specs.Rules.{Parameters}
use Rattle.hol_spec.specs.Sequents.{Sequent}
use Rattle.hol_type.specs.declared.table.TypeId.{TypeId}
use Rattle.hol_type.specs.Tables as type
use Rattle.hol_term.specs.declared.TermId.{TermId}
use Rattle.hol_term.specs.declared.Variable.{Variable as AVariable}
use Rattle.hol_term.specs.Tables.{Trees, term_at, terms_at, type_at}
use Rattle.hol_term.specs.Substitutions.{term_pairs_at}
use Rattle.hol_defs.specs.Lists.{pairs_at}
use Rattle.hol_rules.specs.declared.made.Substitution.{Substitution}
use Rattle.article_write_spec.specs.Drafts.{Draft, say_name, write_list, write_pair}
use Rattle.article_write_spec.specs.WrittenTypes.{write_type, write_variable}
use Rattle.article_write_spec.specs.WrittenTerms.{write_term}
use Rattle.article_steps.specs.declared.given.Constant.{Constant}
use Rattle.article_steps.specs.declared.given.Operator.{Operator}

abbrev pub type_pair_writer : Name × HolType → Draft → Draft
type_pair_writer p = write_pair (say_name p.0) (write_type p.1)

abbrev pub term_pair_writer : ℕ → Variable × Term → Draft → Draft
term_pair_writer q p = write_pair (write_variable p.0) (write_term q p.1)

abbrev pub constant_pair_writer : Name × Variable → Draft → Draft
constant_pair_writer p = write_pair (say_name p.0) (write_variable p.1)

abbrev pub substitution_writer : ℕ → TypePairs → TermPairs → Draft → Draft
substitution_writer q types terms = write_pair (write_list type_pair_writer types) (write_list (term_pair_writer q) terms)

-- pairs by their numbers
module _ (trees : Trees) where
  abbrev pub type_pair_at : Name × TypeId → Name × HolType
  type_pair_at p = (p.0, type_at trees p.1.0)

  abbrev pub term_pair_at : AVariable × TermId → Variable × Term
  term_pair_at p = ((p.0.name, type_at trees p.0.ty.0), term_at trees p.1.0)

  -- what is written of lists of them, and of what a rule is given
  abbrev pub terms_writer : ℕ → List TermId → Draft → Draft
  terms_writer q ids = write_list (write_term q) (terms_at trees ids)

  abbrev pub type_pairs_writer : List (Name × TypeId) → Draft → Draft
  type_pairs_writer ps = write_list type_pair_writer (type.pairs_at trees.types ps)

  abbrev pub term_pairs_writer : ℕ → List (AVariable × TermId) → Draft → Draft
  term_pairs_writer q ps = write_list (term_pair_writer q) (term_pairs_at trees ps)

  abbrev pub constant_pairs_writer : List (Name × AVariable) → Draft → Draft
  constant_pairs_writer ps = write_list constant_pair_writer (pairs_at trees ps)

  abbrev pub put_writer : ℕ → Substitution → Draft → Draft
  put_writer q put = substitution_writer q (type.pairs_at trees.types put.types.items) (term_pairs_at trees put.terms.items)

  abbrev pub constant_writer : ℕ → Constant → Draft → Draft
  constant_writer q c d = write_term q (term_at trees c.id.0) (say_name c.name.now d)

abbrev pub operator_writer : Operator → Draft → Draft
operator_writer o d = write_list say_name o.names.now (say_name o.rep.now (say_name o.abs.now (say_name o.op.now d)))

-- the terms of a sequent, and those that a rule was given, are well typed, and no number is loose in them
pub record IsClosed (s : Sequent) : Type 0 where
  pub hypotheses : AllByRecursion IsTerm s.hypotheses
  pub conclusion : IsTerm s.conclusion

abbrev pub AreClosed : Parameters → Type 0
AreClosed Parameters.nothing = Unit {0}
AreClosed (Parameters.term t) = IsTerm t
AreClosed (Parameters.variable v) = Unit {0}
AreClosed (Parameters.substitution types terms) = AllByRecursion (λ p. IsTerm p.1) terms
AreClosed (Parameters.sequent s) = IsClosed s
AreClosed (Parameters.constant n t) = IsTerm t
AreClosed (Parameters.constants pairs) = Unit {0}
AreClosed (Parameters.type_operator names version) = Unit {0}
