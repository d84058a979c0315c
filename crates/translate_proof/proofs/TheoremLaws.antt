-- A premise as a theorem: the arguments that its symbol is applied to.
use Rattle.std.proofs.Common.{◌≡◌, refl, sym, subst, List, [], ◌++◌, map}
use Rattle.hol_spec.specs.Names.{Name}
use Rattle.hol_spec.specs.Terms.{Term, Variable}
use Rattle.hol_spec.specs.Sequents.{Sequent, type_variables_of, free_variables_of}
use Rattle.hol_term.specs.Tables.{Trees}
use Rattle.holide_sig.specs.declared.module.Module.{Module}
use Rattle.lp_term.specs.declared.LpId.{LpId}
use Rattle.translate_spec.specs.Scopes.{Scope}
use Rattle.translate_proof.specs.declared.scope.Environment.{Environment}
use Rattle.translate_proof.specs.Environments.{Given, Represents, Ready}

-- no argument is made at first
pub Ready-start : (given : Given) (m : Module) (terms : Trees) (env : Environment) (args : List LpId) → args ≡ [] → Represents given m terms env
    → Ready given m terms env args []
Ready-start given m terms env args e h = subst (λ l. Ready given m terms env l []) (sym e) (record { stands = h; known = tt; are = refl })

pub theorem-args : (scope : Scope) (s : Sequent) (names : List Name) (variables : List Variable) (hyps : List Term) → names ≡ type_variables_of s → variables
    ≡ free_variables_of s → hyps ≡ s.hypotheses
    → ([] ++ map scope.types names) ++ map scope.terms variables ++ map scope.proofs hyps ≡ map scope.types (type_variables_of s)
    ++ map scope.terms (free_variables_of s) ++ map scope.proofs s.hypotheses
theorem-args scope s names variables hyps a b c = λ i. map scope.types (a i) ++ map scope.terms (b i) ++ map scope.proofs (c i)
