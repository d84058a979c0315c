-- What the pairs of a list add that a rule was given.
use Rattle.std.specs.Prelude.{ℕ}
use Rattle.hol_spec.specs.Names.{Name}
use Rattle.hol_spec.specs.Types.{HolType}
use Rattle.hol_spec.specs.Terms.{Term, Variable}
use Rattle.hol_spec.specs.Rules.{Parameters}
use Rattle.hol_type.specs.Tables.{pairs_at}
use Rattle.hol_term.specs.Tables.{Trees}
use Rattle.hol_term.specs.Substitutions.{term_pairs_at}
use Rattle.hol_rules.specs.declared.made.Substitution.{Substitution}
use Rattle.article_write_spec.specs.Lengths.{name_length, Tally, add}
use Rattle.article_write_spec.specs.TermLengths.{count_type, count_variable, count_under}
use Rattle.article_write_spec.specs.ArticleLength.{count_pair}

-- a type variable, and the type that is put for it
abbrev pub type_pair : Name × HolType → Tally → Tally
type_pair p = count_pair (add (name_length p.0)) (count_type p.1)

-- a free variable, and the term that is put for it
abbrev pub term_pair : ℕ → Variable × Term → Tally → Tally
term_pair q p = count_pair (count_variable p.0.0 p.0.1) (count_under q 0 p.1)

-- a constant, and the variable for which it is put
abbrev pub constant_pair : Name × Variable → Tally → Tally
constant_pair p = count_pair (add (name_length p.0)) (count_variable p.1.0 p.1.1)

-- what a rule puts, by its numbers
abbrev pub put_at : Trees → Substitution → Parameters
put_at trees put = Parameters.substitution (pairs_at trees.types put.types.items) (term_pairs_at trees put.terms.items)
