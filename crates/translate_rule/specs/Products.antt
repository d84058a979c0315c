-- The products over formulas and over variables, which are made in one environment.
use Rattle.std.specs.Prelude.{ℕ, List}
use Rattle.std.specs.List.{AllByRecursion}
use Rattle.hol_spec.specs.Terms.{Variable}
use Rattle.hol_rules.specs.Kept.{Kept}
use Rattle.hol_term.specs.declared.TermId.{TermId}
use Rattle.hol_term.specs.declared.Variable.{Variable as AVariable}
use Rattle.hol_term.specs.Subterms.{variables_of}
use Rattle.hol_term.specs.Tables.{term_at, terms_at, type_at}
use Rattle.hol_type.specs.declared.table.TypeId.{TypeId}
use Rattle.holide_sig.specs.declared.module.Module.{Module}
use Rattle.lp_spec.specs.Modules.{products, proof_of, proof_symbol, term_of, term_symbol}
use Rattle.lp_spec.specs.Trees.{Tree, lift, Pi}
use Rattle.lp_term.specs.declared.LpId.{LpId}
use Rattle.lp_term.specs.Tables.{Holds}
use Rattle.translate_spec.specs.Scopes.{term_tree, type_tree}
use Rattle.translate_proof.specs.declared.scope.Environment.{Environment}
use Rattle.translate_proof.specs.Environments.{Given, IsTold, Represents}
use Rattle.translate_proof.specs.Grounds.{TellsTermAt, TellsTypeAt, TellsVariables}
use Rattle.translate_rule.specs.Domains.{lifted_domains}

-- a tree is this one for what is given, where that is told
abbrev pub IsGivenTree : Kept → Environment → (Given → Type 0) → (Given → Tree) → Module → Module → LpId → Type 0
IsGivenTree k env Tells tree old new r = (given : Given) → Represents given old k.trees env → Tells given → Holds new.table r.0 (tree given)

-- formulas are told
abbrev pub TellsFormulas : Kept → List TermId → Given → Type 0
TellsFormulas k hyps given = AllByRecursion (IsTold given) (terms_at k.trees hyps)

-- the product over the proofs of a formula, which are lifted, and over the proofs of formulas
abbrev pub formula_product : Kept → TermId → ℕ → Tree → Given → Tree
formula_product k id outside inside given = Pi (proof_of (lift outside (term_tree given.symbols given.scope (term_at k.trees id.0)))) inside

abbrev pub formulas_product : Kept → List TermId → Tree → Given → Tree
formulas_product k hyps inside given = products (lifted_domains proof_symbol (term_tree given.symbols given.scope) 0 (terms_at k.trees hyps)) inside

-- the product over the terms of a type, which are lifted, and over the terms of the types of variables
abbrev pub type_product : Kept → TypeId → ℕ → Tree → Given → Tree
type_product k id outside inside given = Pi (term_of (lift outside (type_tree given.symbols given.scope.types (type_at k.trees id.0)))) inside

abbrev pub types_product : Kept → List AVariable → Tree → Given → Tree
types_product k variables inside given =
    products (lifted_domains term_symbol (λ (v : Variable). type_tree given.symbols given.scope.types v.1) 0 (variables_of k.trees variables)) inside

-- a tree is such a product
abbrev pub IsOverFormula : Kept → Environment → TermId → ℕ → Tree → Module → Module → LpId → Type 0
IsOverFormula k env id outside inside old new r = IsGivenTree k env (TellsTermAt k id) (formula_product k id outside inside) old new r

abbrev pub AreOverFormulas : Kept → Environment → List TermId → Tree → Module → Module → LpId → Type 0
AreOverFormulas k env hyps inside old new r = IsGivenTree k env (TellsFormulas k hyps) (formulas_product k hyps inside) old new r

abbrev pub IsOverType : Kept → Environment → TypeId → ℕ → Tree → Module → Module → LpId → Type 0
IsOverType k env id outside inside old new r = IsGivenTree k env (TellsTypeAt k id) (type_product k id outside inside) old new r

abbrev pub AreOverTypes : Kept → Environment → List AVariable → Tree → Module → Module → LpId → Type 0
AreOverTypes k env variables inside old new r = IsGivenTree k env (TellsVariables k variables) (types_product k variables inside) old new r
