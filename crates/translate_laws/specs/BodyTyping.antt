-- Bodies typed: the proof of a step, by its rule, has the type that its sequent says.
use Rattle.std.proofs.Common.{◌≡◌, ℕ, List, [], ◌∷◌, map, Bool, true, false, cond, not, ◌⊎◌, inl, inr, refl, sym, ap, subst, ◌∙◌}
use Rattle.std.specs.Prelude.{IsTrue}
use Rattle.std.specs.List.{AllByRecursion, filter, list_all}
use Rattle.std.proofs.lemmas.Bool.{and_parts}
use Rattle.hol_spec.specs.Lists.{is_in, without, IsIn}
use Rattle.hol_spec.specs.Terms.{Term, term_eq}
use Rattle.hol_laws.specs.TermLaws.{term_eq-Decides}
use Rattle.hol_spec.specs.Sequents.{Sequent, free_variables_of}
use Rattle.lp_spec.specs.Trees.{Tree}
use Rattle.lp_spec.specs.Modules.{Declaration}
use Rattle.lp_spec.specs.Typing.{Typed}
use Rattle.hol_laws.specs.Members.{is_in-IsIn}
use Rattle.translate_spec.specs.Scopes.{SymbolMap, Scope, scope_of, conclusion_tree}
use Rattle.translate_laws.specs.SequentScope.{context_of, IsPremise}
use Rattle.translate_laws.specs.ComputingBodies.{IsDefinition, DefinesPart, DefinesConstant, StandsForVariable}
use Rattle.hol_spec.specs.Rules.{Parameters}
use Rattle.hol_spec.specs.declared.StepKind.{StepKind}
use Rattle.hol_spec.specs.declared.StepKind.TheVariants as kinds
use Rattle.translate_spec.specs.Rows.{type_or}
use Rattle.hol_spec.specs.DefinitionLists.{constants_put}

-- these symbols are declared as the theorems of these sequents
abbrev pub ArePremises : List Declaration → SymbolMap → List ℕ → List Sequent → Type 0
ArePremises m symbols [] [] = Unit {0}
ArePremises m symbols (k ∷ ks) (s ∷ ss) = IsPremise m symbols k s × ArePremises m symbols ks ss
ArePremises m symbols [] (s ∷ ss) = ⊥
ArePremises m symbols (k ∷ ks) [] = ⊥

-- what an inference that defines asks of the module
abbrev pub Defined : List Declaration → SymbolMap → StepKind → List ℕ → List Sequent → Parameters → Type 0
Defined m symbols kinds.DefineConst js premises (Parameters.constant n t) = IsDefinition m symbols n (type_or t) t
Defined m symbols kinds.DefineConstList js (one ∷ []) (Parameters.constants pairs) =
    AllByRecursion (DefinesConstant m symbols (constants_put pairs)) one.hypotheses
    × AllByRecursion (StandsForVariable m symbols (constants_put pairs)) (free_variables_of one)
Defined m symbols kinds.FirstLaw (j ∷ []) (one ∷ []) (Parameters.type_operator names version) = DefinesPart m symbols names j one
Defined m symbols kinds.SecondLaw (j ∷ []) (one ∷ []) (Parameters.type_operator names version) = DefinesPart m symbols names j one
Defined m symbols kind js premises given = Unit {0}

pub record One (m : List Declaration) (symbols : SymbolMap) (js : List ℕ) (one : Sequent) : Type 0 where
  pub j : ℕ
  pub is : js ≡ j ∷ []
  pub first : IsPremise m symbols j one

pub record Two (m : List Declaration) (symbols : SymbolMap) (js : List ℕ) (one two : Sequent) : Type 0 where
  pub j : ℕ
  pub k : ℕ
  pub is : js ≡ j ∷ k ∷ []
  pub first : IsPremise m symbols j one
  pub second : IsPremise m symbols k two

pub one_premise : (m : List Declaration) (symbols : SymbolMap) (js : List ℕ) (one : Sequent) → ArePremises m symbols js (one ∷ []) → One m symbols js one
one_premise m symbols [] one h = absurd h
one_premise m symbols (j ∷ []) one h = record { j = j; is = refl; first = h.0 }
one_premise m symbols (j ∷ k ∷ js) one h = absurd h.1

pub two_premises : (m : List Declaration) (symbols : SymbolMap) (js : List ℕ) (one two : Sequent) → ArePremises m symbols js (one ∷ two ∷ [])
    → Two m symbols js one two
two_premises m symbols [] one two h = absurd h
two_premises m symbols (j ∷ []) one two h = absurd h.1
two_premises m symbols (j ∷ k ∷ []) one two h = record { j = j; k = k; is = refl; first = h.0; second = h.1.0 }
two_premises m symbols (j ∷ k ∷ l ∷ js) one two h = absurd h.1.1

-- an element of a list is the one that is left out or is among the rest
pub IsIn-without : (xs : List Term) (p h : Term) → IsIn xs h → (h ≡ p) ⊎ IsIn (without term_eq xs p) h
IsIn-without [] p h k = absurd k
IsIn-without (x ∷ xs) p h (inl e) = go (term_eq p x) (term_eq-Decides p x).0
  where
    go : (b : Bool) → (b ≡ true → p ≡ x) → (h ≡ p) ⊎ IsIn (cond (not b) (x ∷ filter (λ y. not (term_eq p y)) xs) (filter (λ y. not (term_eq p y)) xs)) h
    go true f = inl (e ∙ sym (f refl))
    go false f = inr (inl e)
IsIn-without (x ∷ xs) p h (inr k) = go (term_eq p x) (IsIn-without xs p h k)
  where
    go : (b : Bool) → (h ≡ p) ⊎ IsIn (filter (λ y. not (term_eq p y)) xs) h → (h ≡ p)
        ⊎ IsIn (cond (not b) (x ∷ filter (λ y. not (term_eq p y)) xs) (filter (λ y. not (term_eq p y)) xs)) h
    go b (inl e) = inl e
    go true (inr i) = inr i
    go false (inr i) = inr (inr i)

pub IsIn-map : {A B : Type 0} (f : A → B) (xs : List A) (x : A) → IsIn xs x → IsIn (map f xs) (f x)
IsIn-map f [] x k = absurd k
IsIn-map f (y ∷ ys) x (inl e) = inl (ap f e)
IsIn-map f (y ∷ ys) x (inr k) = inr (IsIn-map f ys x k)

-- what within says
pub all_are_in : (gs hs : List Term) (h : Term) → IsTrue (list_all (λ h. is_in term_eq h gs) hs) → IsIn hs h → IsIn gs h
all_are_in gs [] h e k = absurd k
all_are_in gs (g ∷ hs) h e (inl is) = subst (IsIn gs) (sym is)
    (is_in-IsIn term_eq term_eq-Decides gs g (and_parts (is_in term_eq g gs) (list_all (λ h. is_in term_eq h gs) hs) e).0)
all_are_in gs (g ∷ hs) h e (inr k) = all_are_in gs hs h (and_parts (is_in term_eq g gs) (list_all (λ h. is_in term_eq h gs) hs) e).1 k

-- a proof in the scope of its sequent
abbrev pub HasBody : List Declaration → SymbolMap → (Scope → Tree) → Sequent → Type 0
HasBody m symbols t s = Typed m (context_of symbols s) (t (scope_of symbols s)) (conclusion_tree symbols s)
