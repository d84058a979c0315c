-- The laws of shapes, as statements.
use Rattle.std.specs.Prelude.{◌⊎◌, ◌≡◌, ℕ, true, false, List, [], slice_get, Some}
use Rattle.hol_spec.specs.Types.{HolType}
use Rattle.hol_spec.specs.Terms.{Term, HasType}
use Rattle.hol_spec.specs.Sequents.{Sequent, IsSequent}
use Rattle.lp_spec.specs.Trees.{Tree}
use Rattle.lp_spec.specs.Modules.{Declaration, symbol_type, proof_of}
use Rattle.lp_typing_laws.specs.ConversionLaws.{IsClosed}
use Rattle.lp_spec.specs.Typing.{WellTyped}
use Rattle.lp_spec.specs.Shaped.{IsTerm, IsProof}
use Rattle.lp_check_laws.specs.ShapedPasses.{AreShaped}
use Rattle.translate_spec.specs.Scopes.{SymbolMap, type_tree, Scope, term_tree, scope_of, sequent_tree, theorem_tree}
use Rattle.translate_laws.specs.ScopeTyping.{TermOver}
use Rattle.translate_laws.specs.TheoremTyping.{HasInstances}
use Rattle.translate_laws.specs.SequentScope.{context_of, SequentOver}
use Rattle.translate_laws.specs.Bodies.{HasLemmas}
use Rattle.hol_spec.specs.Rules.{Rule, Parameters}
use Rattle.hol_spec.specs.declared.StepKind.{StepKind}
use Rattle.translate_spec.specs.Rows.{proof_tree, has_row}
use Rattle.translate_laws.specs.BodyTyping.{ArePremises, Defined}
use Rattle.translate_spec.specs.Reach.{Key, reached}
use Rattle.translate_spec.specs.Items.{Item}
use Rattle.translate_laws.specs.WantedItems.{AreMadeInOrder}
use Rattle.translate_laws.specs.ShapedScopes.{ShapedScope, term_tree-shaped}
use Rattle.translate_laws.specs.ShapedTheorems.{ShapedFits, theorem_tree-shaped}
use Rattle.translate_laws.specs.ShapedSequents.{OwnShape, own_shape}
use Rattle.translate_laws.specs.ComputingRows.{Shown}
use Rattle.translate_laws.specs.RuleShapes.{step-shaped}
use Rattle.translate_laws.specs.PartRows.{ShownLaw}
use Rattle.translate_laws.specs.ItemShapes.{reached-shaped, reached-WellTyped}
use Rattle.lp_check_laws.specs.PricedModules.{IsPriced}
use Rattle.translate_laws.specs.PricedModules.{reached-priced}

-- Translated terms are shaped.
abbrev pub TermsShaped : Type 0
TermsShaped =
    (m : List Declaration) → IsClosed m → (symbols : SymbolMap) (G : List Tree) (scope : Scope) → ShapedScope m symbols G scope → (t : Term) (a : HolType)
    → TermOver m symbols t → HasType t a → IsTerm m G (term_tree symbols scope t) (type_tree symbols scope.types a)

pub terms_shaped : TermsShaped
terms_shaped m closed symbols G scope is t a o h = term_tree-shaped m closed symbols G scope [] is (λ k b e. absurd (cc)) (λ k b e. absurd (cc)) t a o h

-- The telescope of a sequent is declared, and its scope is shaped.
abbrev pub SequentsShaped : Type 0
SequentsShaped = (m : List Declaration) → IsClosed m → (symbols : SymbolMap) (s : Sequent) → IsSequent s → SequentOver m symbols s → OwnShape m symbols s

pub sequents_shaped : SequentsShaped
sequents_shaped m closed symbols s is over = own_shape m closed symbols s is over

-- A theorem in a scope is a shaped proof of its conclusion.
abbrev pub TheoremsShaped : Type 0
TheoremsShaped =
    (m : List Declaration) (symbols : SymbolMap) (G : List Tree) (scope : Scope) (s : Sequent) (symbol : ℕ)
    → symbol_type m symbol ≡ Some (sequent_tree symbols s) → IsSequent s → HasInstances symbols s → ShapedFits m symbols G scope s
    → IsProof m false G (theorem_tree scope symbol s) (proof_of (term_tree symbols scope s.conclusion))

pub theorems_shaped : TheoremsShaped
theorems_shaped m symbols G scope s symbol declared is instances fits = theorem_tree-shaped m symbols G scope s symbol declared is instances fits

-- The proof of a step, by its rule, is a shaped proof in the scope of its sequent, whose found type is near its conclusion, or that of a law of a
-- type definition, whose found type is close to it.
abbrev pub RulesShaped : Type 0
RulesShaped =
    (m : List Declaration) → IsClosed m → HasLemmas m
    → (symbols : SymbolMap) (kind : StepKind) (js : List ℕ) (premises : List Sequent) (given : Parameters) (s : Sequent)
    → Rule kind premises given s → has_row kind ≡ true → ArePremises m symbols js premises → Defined m symbols kind js premises given → IsSequent s
    → SequentOver m symbols s
    → Shown m (context_of symbols s) (proof_tree symbols (scope_of symbols s) kind js premises given) (term_tree symbols (scope_of symbols s) s.conclusion)
    ⊎ ShownLaw m (context_of symbols s) (proof_tree symbols (scope_of symbols s) kind js premises given) (term_tree symbols (scope_of symbols s) s.conclusion)

pub rules_shaped : RulesShaped
rules_shaped m closed lemmas symbols kind js premises given s r row p d is over = step-shaped m closed lemmas symbols kind js premises given s r row p d is over

-- The module of what the roots reach, of what was made, is shaped.
abbrev pub ModulesShaped : Type 0
ModulesShaped = (roots : List Key) (made : List Item) → AreMadeInOrder [] made → AreShaped [] (reached roots made)

pub modules_shaped : ModulesShaped
modules_shaped roots made h = reached-shaped roots made h

-- It is well typed.
abbrev pub ModulesTyped : Type 0
ModulesTyped = (roots : List Key) (made : List Item) → AreMadeInOrder [] made → WellTyped (reached roots made)

pub modules_typed : ModulesTyped
modules_typed roots made h = reached-WellTyped roots made h

-- Its check says yes, each declaration within 64 times the square of its weight.
abbrev pub ModulesPriced : Type 0
ModulesPriced =
    (roots : List Key) (made : List Item) → AreMadeInOrder [] made → (i : ℕ) (d : Declaration) → slice_get (reached roots made) i ≡ Some d
    → IsPriced (reached roots made) i d

pub modules_priced : ModulesPriced
modules_priced roots made h i d e = reached-priced roots made h i d e
