-- What an environment stands for lasts while the table of a module grows.
use Rattle.std.proofs.Common.{◌≡◌, refl, sym, ap, ◌∙◌, arith, List, [], ◌∷◌}
use Rattle.std.specs.Map.{lookup}
use Rattle.std.specs.Option.{unwrap_or}
use Rattle.std.proofs.Math.Path.{ap₂}
use Rattle.hol_spec.specs.Names.{Name}
use Rattle.hol_spec.specs.Types.{HolType}
use Rattle.hol_spec.specs.Terms.{Term, Variable, variable_eq, term_eq}
use Rattle.hol_term.specs.declared.TermId.{TermId}
use Rattle.hol_term.specs.declared.Variable.{Variable as AVariable}
use Rattle.hol_term.specs.Tables.{Trees, term_at}
use Rattle.lp_spec.specs.Trees.{Tree}
use Rattle.lp_term.specs.declared.LpId.{LpId}
use Rattle.lp_term.specs.Tables.{Keeps}
use Rattle.lp_term.specs.TableLaws.{tree_at-Stays}
use Rattle.holide_sig.specs.declared.module.Module.{Module}
use Rattle.translate_spec.specs.Scopes.{TypeScope}
use Rattle.translate_laws.specs.ListedScopes.{told_types}
use Rattle.translate_term.specs.GrowLaws.{IsHeld-Grows, declarations_of-Grows, AreTypesKnown-Keeps, types_in-Keeps, AreTermsKnown-Keeps, terms_in-Keeps}
use Rattle.translate_term.specs.Walks.{Grows}
use Rattle.translate_proof.specs.declared.scope.Environment.{Environment}
use Rattle.translate_proof.specs.Environments.{Given, Represents, TellTypes, TellTerms, TellProofs, proofs_in, AreProofsKnown, filled_terms, unproved}

pub TellTypes-Keeps : {old new : List Tree} → Keeps old new → (es : List (Name × LpId)) (scope : TypeScope) → TellTypes old es scope → TellTypes new es scope
TellTypes-Keeps k es scope h = record {
  known = AreTypesKnown-Keeps k es h.known;
  each = λ n. ap (λ l. told_types l n) (types_in-Keeps k es h.known) ∙ h.each n;
}

pub TellTerms-Keeps : {old new : List Tree} → Keeps old new → (types : List HolType) (es : List (AVariable × LpId)) (other scope : Variable → Tree)
    → TellTerms types old es other scope → TellTerms types new es other scope
TellTerms-Keeps k types es other scope h = record {
  known = AreTermsKnown-Keeps k types es h.known;
  each = λ v. ap (λ l. unwrap_or (lookup (variable_eq v) l) (other v)) (terms_in-Keeps k types es h.known) ∙ h.each v;
}

proofs_in-Keeps : {old new : List Tree} → Keeps old new → (terms : Trees) (es : List (TermId × LpId)) → AreProofsKnown terms old es
    → proofs_in terms new es ≡ proofs_in terms old es
proofs_in-Keeps k terms [] h = refl
proofs_in-Keeps k terms (e ∷ es) h = ap₂ (λ t l. (term_at terms e.0.0, t) ∷ l) (sym (tree_at-Stays k.stays e.1.0 h.1)) (proofs_in-Keeps k terms es h.2)

AreProofsKnown-Keeps : {old new : List Tree} → Keeps old new → (terms : Trees) (es : List (TermId × LpId)) → AreProofsKnown terms old es
    → AreProofsKnown terms new es
AreProofsKnown-Keeps k terms [] h = tt
AreProofsKnown-Keeps k terms (e ∷ es) h = (h.0, omega (arith, k.longer, h.1), AreProofsKnown-Keeps k terms es h.2)

pub TellProofs-Keeps : {old new : List Tree} → Keeps old new → (terms : Trees) (es : List (TermId × LpId)) (other scope : Term → Tree)
    → TellProofs terms old es other scope → TellProofs terms new es other scope
TellProofs-Keeps k terms es other scope h = record {
  known = AreProofsKnown-Keeps k terms es h.known;
  each = λ g. ap (λ l. unwrap_or (lookup (term_eq g) l) (other g)) (proofs_in-Keeps k terms es h.known) ∙ h.each g;
}

-- so it stands for the same
pub Represents-Grows : {m n : Module} → Grows m n → (given : Given) (terms : Trees) (env : Environment) → Represents given m terms env
    → Represents given n terms env
Represents-Grows {m = m} {n = n} g given terms env h = record {
  held = IsHeld-Grows m n g h.held;
  declared = declarations_of-Grows m n g h.held ∙ h.declared;
  one_type = h.one_type;
  one_term = h.one_term;
  types = TellTypes-Keeps g.table env.scope.types given.scope.types h.types;
  terms_told = TellTerms-Keeps g.table terms.types env.scope.terms (filled_terms given.symbols given.scope.types) given.scope.terms h.terms_told;
  proofs = TellProofs-Keeps g.table terms env.proofs unproved given.scope.proofs h.proofs;
}
