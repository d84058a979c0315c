-- An environment at first, and what the one that is made of the parameters of a sequent stands for.
use Rattle.std.specs.Prelude.{◌≡◌, ℕ, ◌+◌, List, [], length}
use Rattle.hol_spec.specs.Names.{Name}
use Rattle.hol_spec.specs.NameEquality.{name_eq}
use Rattle.hol_spec.specs.Terms.{Term, Variable, variable_eq, term_eq}
use Rattle.hol_type.specs.Tables as type
use Rattle.hol_term.specs.declared.TermId.{TermId}
use Rattle.hol_term.specs.declared.Variable.{Variable as AVariable}
use Rattle.hol_term.specs.Subterms.{HaveTypes, variables_of}
use Rattle.hol_term.specs.Tables.{Trees, terms_at, AreKnown, IsDistinct}
use Rattle.lp_spec.specs.Modules.{bools}
use Rattle.holide_sig.specs.declared.module.Module.{Module}
use Rattle.holide_sig.specs.Modules.{declarations_of, IsHeld}
use Rattle.translate_proof.specs.declared.scope.Environment.{Environment}
use Rattle.translate_proof.specs.Environments.{Given, filled_terms, unproved}
use Rattle.translate_proof.specs.Placed.{placed}

-- an environment tells nothing
pub record TellsNothing (env : Environment) : Type 0 where
  pub types : env.scope.types ≡ []
  pub terms : env.scope.terms ≡ []
  pub proofs : env.proofs ≡ []

-- the binders outside `inside` more stand for these parameters in the scope that is given
pub record IsPlaced (given : Given) (m : Module) (trees : Trees) (names : List Name) (variables : List AVariable) (hyps : List TermId) (inside : ℕ) : Type 0
  where
    pub held : IsHeld m
    pub declared : declarations_of m ≡ given.declarations
    pub one_type : type.IsDistinct trees.types
    pub one_term : IsDistinct trees.terms
    pub variables_known : HaveTypes trees variables
    pub hyps_known : AreKnown trees hyps
    pub types : (n : Name) → placed name_eq (inside + length hyps + length variables + length names) names (λ m. bools) n ≡ given.scope.types n
    pub terms : (v : Variable)
        → placed variable_eq (inside + length hyps + length variables) (variables_of trees variables) (filled_terms given.symbols given.scope.types) v
        ≡ given.scope.terms v
    pub proofs : (h : Term) → placed term_eq (inside + length hyps) (terms_at trees hyps) unproved h ≡ given.scope.proofs h
