-- An environment stands for what its binders were placed for.
use Rattle.std.proofs.Common.{◌≡◌, ℕ, ◌+◌, refl, sym, subst, ◌∙◌, List, [], length}
use Rattle.hol_spec.specs.Names.{Name}
use Rattle.hol_spec.specs.Types.{HolType}
use Rattle.hol_spec.specs.Terms.{Term, Variable}
use Rattle.hol_term.specs.declared.TermId.{TermId}
use Rattle.hol_term.specs.declared.Variable.{Variable as AVariable}
use Rattle.hol_term.specs.Tables.{Trees}
use Rattle.lp_spec.specs.Trees.{Tree}
use Rattle.lp_spec.specs.Modules.{bools}
use Rattle.lp_term.specs.declared.LpId.{LpId}
use Rattle.lp_term.specs.Tables.{Keeps}
use Rattle.holide_sig.specs.declared.module.Module.{Module}
use Rattle.translate_term.specs.Walks.{Grows}
use Rattle.translate_proof.specs.declared.scope.Environment.{Environment}
use Rattle.translate_proof.specs.Environments.{Given, Represents, Ready, TellTypes, TellTerms, TellProofs, filled_terms, unproved}
use Rattle.translate_proof.specs.Binding.{PlacesTypes, PlacesTerms, PlacesProofs}
use Rattle.translate_proof.specs.Placing.{IsPlaced, TellsNothing}
use Rattle.translate_term.specs.GrowLaws.{IsHeld-Grows, declarations_of-Grows}
use Rattle.lp_term.specs.TableLaws.{trees_at-Keeps, AreKnown-Keeps, Keeps-trans}
use Rattle.translate_proof.proofs.TellLaws.{TellTypes-same, TellTerms-same, TellProofs-same}
use Rattle.translate_proof.specs.EnvironmentLaws.{TellTypes-Keeps, TellTerms-Keeps}

-- arguments stay, for another environment too
pub Ready-other : {m n : Module} → Grows m n → (given other : Given) (terms : Trees) (env next : Environment) (args : List LpId) (made : List Tree)
    → Ready given m terms env args made → Represents other n terms next → Ready other n terms next args made
Ready-other g given other terms env next args made h s = record {
  stands = s;
  known = AreKnown-Keeps g.table args h.known;
  are = trees_at-Keeps g.table args h.known ∙ h.are;
}

-- nothing is told at first
pub nothing-types : (trees : List Tree) (es : List (Name × LpId)) → es ≡ [] → TellTypes trees es (λ n. bools)
nothing-types trees es e = subst (λ l. TellTypes trees l (λ n. bools)) (sym e) (record { known = tt; each = λ n. refl })

pub nothing-terms : (types : List HolType) (trees : List Tree) (es : List (AVariable × LpId)) (other : Variable → Tree) → es ≡ []
    → TellTerms types trees es other other
nothing-terms types trees es other e = subst (λ l. TellTerms types trees l other other) (sym e) (record { known = tt; each = λ v. refl })

pub nothing-proofs : (terms : Trees) (trees : List Tree) (es : List (TermId × LpId)) (other : Term → Tree) → es ≡ [] → TellProofs terms trees es other other
nothing-proofs terms trees es other e = subst (λ l. TellProofs terms trees l other other) (sym e) (record { known = tt; each = λ h. refl })

-- binders placed for the parameters
pub stands-placed : (given : Given) (trees : Trees) (m last : Module) (one two : List Tree) (none env : Environment) (names : List Name)
    (variables : List AVariable) (hyps : List TermId) (inside : ℕ) → IsPlaced given m trees names variables hyps inside → TellsNothing none
    → PlacesTypes m.table one none.scope.types names (inside + length hyps + length variables + length names) env.scope.types
    → PlacesTerms one two none.scope.terms variables (inside + length hyps + length variables) env.scope.terms → Keeps one two
    → PlacesProofs two last.table none.proofs hyps (inside + length hyps) env.proofs → Keeps two last.table → Grows m last → Represents given last trees env
stands-placed given trees m last one two none env names variables hyps inside is nothing types terms h proofs k grows =
    let other = filled_terms given.symbols given.scope.types in
    record {
      held = IsHeld-Grows m last grows is.held;
      declared = declarations_of-Grows m last grows is.held ∙ is.declared;
      one_type = is.one_type;
      one_term = is.one_term;
      types = TellTypes-same last.table env.scope.types _ given.scope.types is.types (TellTypes-Keeps (Keeps-trans h k) env.scope.types _
          (types (λ n. bools) (nothing-types m.table none.scope.types nothing.types)));
      terms_told = TellTerms-same trees.types last.table env.scope.terms other _ given.scope.terms is.terms
          (TellTerms-Keeps k trees.types env.scope.terms other _
          (terms trees other other is.one_type is.variables_known (nothing-terms trees.types one none.scope.terms other nothing.terms)));
      proofs = TellProofs-same trees last.table env.proofs unproved _ given.scope.proofs is.proofs
          (proofs trees unproved unproved is.one_term is.hyps_known (nothing-proofs trees two none.proofs unproved nothing.proofs));
    }
