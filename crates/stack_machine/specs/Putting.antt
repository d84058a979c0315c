-- What the lists of a substitution put, and what is remembered of them.
use Rattle.std.specs.Prelude.{◌≡◌, List, Result, Ok}
use Rattle.std.specs.List.{AllByRecursion}
use Rattle.common.specs.declared.faults.Kind.{Kind}
use Rattle.hol_spec.specs.Substitution.{TypePairs}
use Rattle.hol_spec.specs.TermSubstitution.{TermPairs}
use Rattle.hol_type.specs.Tables.{pairs_at, ArePairsKnown}
use Rattle.hol_term.specs.Substitutions.{term_pairs_at, AreTermPairs, ArePairsFitting}
use Rattle.hol_term.specs.Tables.{Trees}
use Rattle.hol_rules.specs.declared.made.Substitution.{Substitution}
use Rattle.article_spec.specs.RuleSteps.{pairs_fit}
use Rattle.article_spec.specs.State as state
use Rattle.article_spec.specs.Operands.{as_list, as_name, as_term, as_type, as_variable, each, pair_of}
use Rattle.article_spec.specs.Results.{◌>>=◌}
use Rattle.stack_machine.specs.declared.remembered.Lists.{Lists}
use Rattle.stack_machine.specs.Stored.{Stored, IsListKnown, list_view}

-- the two lists of an object
abbrev pub as_lists : state.Object → Result (state.Objects × state.Objects) Kind
as_lists x = pair_of as_list as_list x

abbrev pub lists_view : Stored → Lists → state.Objects × state.Objects
lists_view m lists = (list_view m lists.types, list_view m lists.terms)

pub record AreListsKnown (m : Stored) (lists : Lists) : Type 0 where
  pub types : IsListKnown m lists.types
  pub terms : IsListKnown m lists.terms

-- the pairs that two lists hold: for types, and then for terms
abbrev pub pairs_of : state.Objects × state.Objects → Result (TypePairs × TermPairs) Kind
pairs_of lists = do
  types ← each (pair_of as_name as_type) lists.0
  terms ← each (pair_of as_variable as_term) lists.1
  Ok (types, terms)

-- they hold pairs, and those for terms fit
abbrev pub lists_fit : state.Objects × state.Objects → Result (Unit {0}) Kind
lists_fit lists = do
  pairs ← pairs_of lists
  pairs_fit pairs.1

abbrev pub put_view : Trees → Substitution → TypePairs × TermPairs
put_view trees put = (pairs_at trees.types put.types.items, term_pairs_at trees put.terms.items)

-- the numbers are of the table, and each term has the type of its variable
pub record IsReady (trees : Trees) (put : Substitution) : Type 0 where
  pub types : ArePairsKnown trees.types put.types.items
  pub terms : AreTermPairs trees put.terms.items
  pub fits : ArePairsFitting trees put.terms.items

-- these lists hold what is put, and it is ready
pub record IsPutBy (m : Stored) (lists : Lists) (put : Substitution) : Type 0 where
  pub known : AreListsKnown m lists
  pub pairs : pairs_of (lists_view m lists) ≡ Ok (put_view m.trees put)
  pub ready : IsReady m.trees put

-- what is remembered of each two lists is what they put
abbrev pub AreRemembered : Stored → List (Lists × Substitution) → Type 0
AreRemembered m entries = AllByRecursion (λ e. IsPutBy m e.0 e.1) entries
