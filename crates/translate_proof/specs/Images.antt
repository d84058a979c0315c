-- What a substitution by numbers makes of variables and terms.
use Rattle.std.specs.Prelude.{◌≡◌, ℕ, List, map, None}
use Rattle.std.specs.Map.{lookup}
use Rattle.hol_spec.specs.Lists.{distinct, IsIn}
use Rattle.hol_spec.specs.Names.{Name}
use Rattle.hol_spec.specs.Proofs.{sequent_at}
use Rattle.hol_spec.specs.Substitution.{TypePairs, substitute}
use Rattle.hol_spec.specs.Terms.{Term, Variable, term_eq, variable_eq}
use Rattle.hol_spec.specs.TermSubstitution.{TermPairs, term_image, sub, AreFitting}
use Rattle.hol_type.specs.declared.table.TypeId.{TypeId}
use Rattle.hol_type.specs.Tables as type
use Rattle.hol_term.specs.declared.TermId.{TermId}
use Rattle.hol_term.specs.declared.Variable.{Variable as AVariable}
use Rattle.hol_term.specs.Subterms.{variables_of}
use Rattle.hol_term.specs.Substitutions.{term_pairs_at}
use Rattle.hol_term.specs.Tables.{Trees, term_at, type_at}
use Rattle.hol_rules.specs.Kept.{Kept}
use Rattle.hol_rules.specs.declared.made.Substitution.{Substitution}

-- the pairs that it has
abbrev pub type_pairs : Trees → Substitution → TypePairs
type_pairs trees put = type.pairs_at trees.types put.types.items

abbrev pub term_pairs : Trees → Substitution → TermPairs
term_pairs trees put = term_pairs_at trees put.terms.items

-- the variable of a name and a type once its type is changed
abbrev pub retyped : Trees → Substitution → Name → TypeId → Variable
retyped trees put n ty = (n, substitute (type_pairs trees put) (type_at trees ty.0))

-- what it makes of a term
abbrev pub made_term : Trees → Substitution → TermId → Term
made_term trees put id = sub (type_pairs trees put) (term_pairs trees put) (term_at trees id.0)

-- and of a variable: what is put for what it becomes
abbrev pub variable_image : Trees → Substitution → Variable → Term
variable_image trees put v = term_image (term_pairs trees put) (v.0, substitute (type_pairs trees put) v.1)

-- where nothing is put for what a variable becomes, it becomes one of these
abbrev pub HasOwnVariable : Trees → Substitution → List AVariable → Variable → Type 0
HasOwnVariable trees put own v =
    let w : Variable = (v.0, substitute (type_pairs trees put) v.1) in
    lookup (variable_eq w) (term_pairs trees put) ≡ None → IsIn (variables_of trees own) w

-- a step is what a fitting substitution makes of another
pub record IsSubstituted (k : Kept) (put : Substitution) (id one : ℕ) : Type 0 where
  pub fitting : AreFitting (term_pairs k.trees put)
  pub hypotheses : (sequent_at k.made id).hypotheses
      ≡ distinct term_eq (map (sub (type_pairs k.trees put) (term_pairs k.trees put)) (sequent_at k.made one).hypotheses)
  pub conclusion : (sequent_at k.made id).conclusion ≡ sub (type_pairs k.trees put) (term_pairs k.trees put) (sequent_at k.made one).conclusion
