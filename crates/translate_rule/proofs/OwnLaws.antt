-- The binders of a step's own sequent are placed for its parameters, in its scope and under more binders; a step in a module that grew.
use Rattle.std.proofs.Common.{◌≡◌, ℕ, suc, ◌+◌, refl, sym, ap, subst, ◌∙◌, arith, List, [], ◌∷◌, length}
use Rattle.hol_spec.specs.Names.{Name}
use Rattle.hol_spec.specs.NameEquality.{name_eq}
use Rattle.hol_spec.specs.Proofs.{sequent_at}
use Rattle.hol_spec.specs.Sequents.{Sequent, type_variables_of, free_variables_of}
use Rattle.hol_spec.specs.Terms.{Term, Variable, variable_eq, term_eq}
use Rattle.hol_term.specs.declared.TermId.{TermId}
use Rattle.hol_term.specs.declared.Variable.{Variable as AVariable}
use Rattle.hol_term.specs.Subterms.{variables_of}
use Rattle.hol_type.specs.Tables as type
use Rattle.hol_term.specs.Tables.{Trees, terms_at, AreKnown, IsDistinct}
use Rattle.hol_rules.specs.Kept.{Kept}
use Rattle.lp_spec.specs.Modules.{Declaration, bools}
use Rattle.lp_spec.specs.Trees.{lift}
use Rattle.lp_binding_laws.specs.Composition.{lift_zero}
use Rattle.holide_sig.specs.declared.module.Module.{Module}
use Rattle.holide_sig.specs.Modules.{declarations_of, IsHeld}
use Rattle.translate_spec.specs.Scopes.{SymbolMap, Scope, filled, scope_of, scope_of_terms, lifted, under_terms, under_types, unfilled}
use Rattle.translate_proof.specs.Environments.{filled_terms, unproved}
use Rattle.translate_proof.specs.Placed.{placed}
use Rattle.translate_proof.specs.Placing.{IsPlaced}
use Rattle.translate_proof.specs.Rescoped.{over_types, with_scope}
use Rattle.translate_proof.specs.declared.scope.Environment.{Environment}
use Rattle.translate_proof.specs.EnvironmentLaws.{Represents-Grows}
use Rattle.translate_rule.specs.declared.own.OwnStep.{OwnStep}
use Rattle.translate_rule.specs.OwnSteps.{own_scope, proof_in, IsReady, StandsFor}
use Rattle.translate_rule.specs.Steps.{given_at, given_over, AreParams}
use Rattle.translate_term.specs.GrowLaws.{declarations_of-Grows, IsHeld-Grows}
use Rattle.translate_term.specs.Walks.{Grows}
use Rattle.translate_rule.proofs.StatementLaws.{without_hypotheses, type_variables-joined, free_variables-joined}
use Rattle.translate_proof.specs.PlacedLaws.{placed-under_types, types-placed, terms-placed, proofs-placed}

-- as many terms and variables as numbers
pub terms-count : (trees : Trees) (hs : List TermId) → length (terms_at trees hs) ≡ length hs
terms-count trees [] = refl
terms-count trees (h ∷ hs) = ap suc (terms-count trees hs)

pub variables-count : (trees : Trees) (vs : List AVariable) → length (variables_of trees vs) ≡ length vs
variables-count trees [] = refl
variables-count trees (v ∷ vs) = ap suc (variables-count trees vs)

module _ (k : Kept) (id : ℕ) (d : List Declaration) (symbols : SymbolMap) (m : Module) (held : IsHeld m) (declared : declarations_of m ≡ d) (names : List Name)
    (variables : List AVariable) (params : AreParams k id names variables) (hyps : List TermId) (known : AreKnown k.trees hyps)
    (are : terms_at k.trees hyps ≡ (sequent_at k.made id).hypotheses) where
  abbrev s : Sequent
  s = sequent_at k.made id

  placed-in : (inside : ℕ) (scope : Scope) → ((n : Name) → lift inside ((scope_of symbols s).types n) ≡ scope.types n)
      → ((v : Variable) → lift inside ((scope_of symbols s).terms v) ≡ scope.terms v)
      → ((h : Term) → lift inside ((scope_of symbols s).proofs h) ≡ scope.proofs h)
      → IsPlaced (with_scope (given_at d symbols s) scope) m k.trees names variables hyps inside
  placed-in inside scope types terms proofs =
      let a : length hyps ≡ length s.hypotheses = sym (terms-count k.trees hyps) ∙ ap length are in
      let b : length variables ≡ length (free_variables_of s) = sym (variables-count k.trees variables) ∙ ap length params.free_vars in
      record {
        held = held;
        declared = declared;
        one_type = params.one_type;
        one_term = params.one_term;
        variables_known = params.known;
        hyps_known = known;
        types = λ n. (λ i. placed name_eq (inside + a i + b i + length (params.type_vars i)) (params.type_vars i) (λ w. bools) n)
            ∙ sym (types-placed symbols s inside n) ∙ types n;
        terms = λ v. (λ i. placed variable_eq (inside + a i + b i) (params.free_vars i) (filled_terms symbols (λ n. sym (types n) i)) v)
            ∙ sym (terms-placed symbols s inside v) ∙ terms v;
        proofs = λ g. (λ i. placed term_eq (inside + a i) (are i) unproved g) ∙ sym (proofs-placed symbols s inside g) ∙ proofs g;
      }

  pub placed-own : IsPlaced (given_at d symbols s) m k.trees names variables hyps 0
  placed-own = placed-in 0 (scope_of symbols s) (λ n. lift_zero ((scope_of symbols s).types n)) (λ v. lift_zero ((scope_of symbols s).terms v))
      (λ h. lift_zero ((scope_of symbols s).proofs h))

  pub placed-under : IsPlaced (with_scope (given_at d symbols s) (lifted (scope_of symbols s))) m k.trees names variables hyps 1
  placed-under = placed-in 1 (lifted (scope_of symbols s)) (λ n. refl) (λ v. refl) (λ h. refl)

  -- the binders of its type variables alone, under all the others
  pub placed-outer : (inside : ℕ) → inside ≡ length hyps + length variables → IsPlaced (over_types (given_at d symbols s)) m k.trees names [] [] inside
  placed-outer inside e =
      let a : length hyps ≡ length s.hypotheses = sym (terms-count k.trees hyps) ∙ ap length are in
      let b : length variables ≡ length (free_variables_of s) = sym (variables-count k.trees variables) ∙ ap length params.free_vars in
      let count : inside + 0 + 0 ≡ 0 + length s.hypotheses + length (free_variables_of s) = omega (arith, e, a, b) in
      record {
        held = held;
        declared = declared;
        one_type = params.one_type;
        one_term = params.one_term;
        variables_known = tt;
        hyps_known = tt;
        types = λ n. (λ i. placed name_eq (count i + length (params.type_vars i)) (params.type_vars i) (λ w. bools) n) ∙ sym (types-placed symbols s 0 n)
            ∙ lift_zero ((scope_of symbols s).types n);
        terms = λ v. refl;
        proofs = λ h. refl;
      }

-- the binders of its type variables and its free variables alone
pub placed-variables : (k : Kept) (id : ℕ) (d : List Declaration) (symbols : SymbolMap) (m : Module) → IsHeld m → declarations_of m ≡ d
    → (names : List Name) (variables : List AVariable) → AreParams k id names variables
    → IsPlaced (with_scope (given_at d symbols (sequent_at k.made id)) (scope_of_terms symbols (sequent_at k.made id))) m k.trees names variables [] 0
placed-variables k id d symbols m held declared names variables params =
    let s = sequent_at k.made id in
    let j = without_hypotheses s in
    let n : names ≡ type_variables_of j = params.type_vars ∙ sym (type_variables-joined s) in
    let v : variables_of k.trees variables ≡ free_variables_of j = params.free_vars ∙ sym (free_variables-joined s) in
    let b : length variables ≡ length (free_variables_of j) = sym (variables-count k.trees variables) ∙ ap length v in
    let same : scope_of symbols j ≡ scope_of_terms symbols s =
    (λ i. under_terms (free_variables-joined s i) (filled symbols (under_types (type_variables-joined s i) unfilled))) in
    let types : (x : Name) → lift 0 ((scope_of symbols j).types x) ≡ (scope_of_terms symbols s).types x =
    (λ x. lift_zero ((scope_of symbols j).types x) ∙ ap (λ (w : Scope). w.types x) same) in
    record {
      held = held;
      declared = declared;
      one_type = params.one_type;
      one_term = params.one_term;
      variables_known = params.known;
      hyps_known = tt;
      types = λ x. (λ i. placed name_eq (0 + 0 + b i + length (n i)) (n i) (λ w. bools) x) ∙ sym (types-placed symbols j 0 x) ∙ types x;
      terms = λ x. (λ i. placed variable_eq (0 + 0 + b i) (v i) (filled_terms symbols (λ y. sym (types y) i)) x) ∙ sym (terms-placed symbols j 0 x)
          ∙ lift_zero ((scope_of symbols j).terms x) ∙ ap (λ (w : Scope). w.terms x) same;
      proofs = λ h. sym (proofs-placed symbols j 0 h) ∙ lift_zero ((scope_of symbols j).proofs h) ∙ ap (λ (w : Scope). w.proofs h) same;
    }

-- the binders of type variables alone
pub placed-over : (trees : Trees) (d : List Declaration) (symbols : SymbolMap) (m : Module) → IsHeld m → declarations_of m ≡ d → type.IsDistinct trees.types
    → IsDistinct trees.terms → (names : List Name) → IsPlaced (given_over d symbols names) m trees names [] [] 0
placed-over trees d symbols m held declared one_type one_term names = record {
  held = held;
  declared = declared;
  one_type = one_type;
  one_term = one_term;
  variables_known = tt;
  hyps_known = tt;
  types = placed-under_types names;
  terms = λ v. refl;
  proofs = λ h. refl;
}

-- over a module that grew
module _ {old new : Module} (grows : Grows old new) where
  -- an environment that was made while it grew stands there
  pub StandsFor-Made : (k : Kept) (scope : SymbolMap → Scope) (env : Environment) → IsHeld old → StandsFor k scope old new env → StandsFor k scope new new env
  StandsFor-Made k scope env held h d symbols e = h d symbols (sym (declarations_of-Grows _ _ grows held) ∙ e)

  -- an environment stands for what it stood for
  pub StandsFor-Grows : (k : Kept) (scope : SymbolMap → Scope) (env : Environment) → IsHeld old → StandsFor k scope old old env → StandsFor k scope new new env
  StandsFor-Grows k scope env held h d symbols e =
      Represents-Grows grows (record { declarations = d; symbols = symbols; scope = scope symbols }) k.trees env
      (h d symbols (sym (declarations_of-Grows _ _ grows held) ∙ e))

  -- what a module tells it tells still
  pub told-Grows : (Told : List Declaration → Type 0) → IsHeld old → Told (declarations_of old) → Told (declarations_of new)
  told-Grows Told held h = subst Told (sym (declarations_of-Grows _ _ grows held)) h

  -- a step is as ready as before
  pub IsReady-Grows : (step : OwnStep) → IsReady step old → IsReady step new
  IsReady-Grows step h = record {
    id = h.id;
    params = h.params;
    kept = h.kept;
    held = IsHeld-Grows _ _ grows h.held;
    stands = StandsFor-Grows (proof_in step) (own_scope (proof_in step) step.id) step.ground.env.now h.held h.stands;
  }
