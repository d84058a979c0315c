-- The scope of a sequent is typed under its binders, so that its product is a type; and a theorem in such a scope proves its conclusion there.
use Rattle.std.proofs.Common.{◌≡◌, ℕ, List, [], ◌∷◌, Some, refl, ap}
use Rattle.std.specs.List.{AllByRecursion, flat_map}
use Rattle.std.proofs.Math.Path.{ap₂}
use Rattle.hol_spec.specs.Terms.{Term, free, bound, constant, app, lam, variable_eq, free_places}
use Rattle.hol_laws.specs.TermLaws.{variable_eq-Decides}
use Rattle.hol_spec.specs.Sequents.{Sequent, IsSequent, terms_of, free_variables_of}
use Rattle.lp_spec.specs.Trees.{Tree, App, Lam, lift}
use Rattle.lp_spec.specs.Modules.{Declaration, types, term_of, arr_of, symbol_type}
use Rattle.lp_spec.specs.Conversion.{rule, same, back}
use Rattle.lp_typing_laws.specs.ConversionLaws.{IsClosed}
use Rattle.lp_spec.specs.Typing.{Typed, is_type, of_product, of_abstraction, of_conversion}
use Rattle.lp_typing_laws.specs.TypingLaws.{weaken}
use Rattle.lp_typing_laws.specs.Telescopes.{under}
use Rattle.lp_typing_laws.specs.SignatureForms.{Typed-arr_of, Typed-term_of}
use Rattle.hol_laws.specs.Members.{IsIn-distinct_of, All-each, All-at, All-append, All-weaker}
use Rattle.translate_spec.specs.Scopes.{SymbolMap, type_tree, Scope, inside, term_tree, domains_of, sequent_tree}
use Rattle.translate_laws.specs.TermScopeLaws.{AreInstances}
use Rattle.translate_laws.specs.ScopeTyping.{TypeOver, TermOver, AreInstances-over}
use Rattle.translate_laws.specs.TheoremTyping.{HasInstances}

-- the context under a sequent's binders
abbrev pub context_of : SymbolMap → Sequent → List Tree
context_of symbols s = under [] (domains_of symbols s)

-- each symbol of a sequent is declared
pub record SequentOver (m : List Declaration) (symbols : SymbolMap) (s : Sequent) : Type 0 where
  pub hypotheses : AllByRecursion (TermOver m symbols) s.hypotheses
  pub conclusion : TermOver m symbols s.conclusion

-- a symbol of the module is declared as the theorem of a sequent over the symbols
pub record IsPremise (m : List Declaration) (symbols : SymbolMap) (symbol : ℕ) (s : Sequent) : Type 0 where
  pub declared : symbol_type m symbol ≡ Some (sequent_tree symbols s)
  pub is : IsSequent s
  pub over : SequentOver m symbols s

-- a term owes nothing to what stands for hypotheses
abbrev pub with_proofs : (Term → Tree) → Scope → Scope
with_proofs proofs scope = record { types = scope.types; terms = scope.terms; proofs = proofs; bounds = scope.bounds }

pub term_tree-proofs : (symbols : SymbolMap) (proofs : Term → Tree) (scope : Scope) (t : Term)
    → term_tree symbols scope t ≡ term_tree symbols (with_proofs proofs scope) t
term_tree-proofs symbols proofs scope (free n t) = refl
term_tree-proofs symbols proofs scope (bound k) = refl
term_tree-proofs symbols proofs scope (constant n t) = refl
term_tree-proofs symbols proofs scope (app f x) = ap₂ App (term_tree-proofs symbols proofs scope f) (term_tree-proofs symbols proofs scope x)
term_tree-proofs symbols proofs scope (lam t b) = ap (Lam (term_of (type_tree symbols scope.types t)))
    (term_tree-proofs symbols (λ h. lift 1 (proofs h)) (inside scope) b)

-- the free variables of a term over the symbols have types over them
free_types-over : (m : List Declaration) (symbols : SymbolMap) (t : Term) → TermOver m symbols t → AllByRecursion (λ v. TypeOver m symbols v.1) (free_places t)
free_types-over m symbols (free n t) h = (h, tt {0})
free_types-over m symbols (bound k) h = tt
free_types-over m symbols (constant n t) h = tt
free_types-over m symbols (app f x) h = All-append _ (free_places f) (free_places x) (free_types-over m symbols f h.0) (free_types-over m symbols x h.1)
free_types-over m symbols (lam t b) h = free_types-over m symbols b h.1

all_free_types-over : (m : List Declaration) (symbols : SymbolMap) (ts : List Term) → AllByRecursion (TermOver m symbols) ts
    → AllByRecursion (λ v. TypeOver m symbols v.1) (flat_map free_places ts)
all_free_types-over m symbols [] h = tt
all_free_types-over m symbols (t ∷ ts) h = All-append _ (free_places t) (flat_map free_places ts) (free_types-over m symbols t h.0)
    (all_free_types-over m symbols ts h.1)

module _ (m : List Declaration) (symbols : SymbolMap) (s : Sequent) (over : SequentOver m symbols s) where
  pub terms-over : AllByRecursion (TermOver m symbols) (terms_of s)
  terms-over = All-append (TermOver m symbols) s.hypotheses (s.conclusion ∷ []) over.hypotheses (over.conclusion, tt {0})

  pub variables-over : AllByRecursion (λ v. TypeOver m symbols v.1) (free_variables_of s)
  variables-over =
      All-each _ (free_variables_of s) (λ v i. All-at _ (flat_map free_places (terms_of s)) v (all_free_types-over m symbols (terms_of s) terms-over)
      (IsIn-distinct_of variable_eq variable_eq-Decides (flat_map free_places (terms_of s)) v i))

  pub SequentOver-instances : HasInstances symbols s
  SequentOver-instances = record {
    hypotheses = All-weaker (TermOver m symbols) (AreInstances symbols) (AreInstances-over m symbols) s.hypotheses over.hypotheses;
    conclusion = AreInstances-over m symbols s.conclusion over.conclusion;
  }

module _ (m : List Declaration) (closed : IsClosed m) where
  -- an abstraction over the terms of a type is a term of a type of functions
  pub Typed-abstraction : {G : List Tree} {t : Tree} (a b : Tree) → Typed m G a types → Typed m G b types → Typed m (term_of a ∷ G) t (lift 1 (term_of b))
      → Typed m G (Lam (term_of a) t) (term_of (arr_of a b))
  Typed-abstraction a b ha hb ht =
      of_conversion (of_abstraction (of_product (Typed-term_of m ha) (weaken m closed (Typed-term_of m hb)) is_type) is_type ht) (back (rule refl) same)
      (Typed-term_of m (Typed-arr_of m ha hb)) is_type
