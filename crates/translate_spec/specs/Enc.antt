-- Which closed sequent a type of a module stands for: the product over its type variables, its free variables and its
-- hypotheses, which ends in the proofs of its conclusion (Assaf and Burel, "Translating HOL to Dedukti", 3).
use Rattle.std.specs.Prelude.{ℕ, ◌≡◌, ◌+◌, ◌<◌, suc, List, [], ◌∷◌, ◌++◌, map, length, replicate}
use Rattle.hol_spec.specs.Names.{Name}
use Rattle.hol_spec.specs.Sequents.{Sequent, IsSequent}
use Rattle.hol_spec.specs.Limits.{SequentWithin}
use Rattle.hol_spec.specs.ClosedForm as closed
use Rattle.hol_spec.specs.ClosedForm.{ClosedType, ClosedTypes, ClosedTerm, ClosedSequent, closed_form}
use Rattle.lp_spec.specs.Trees.{Tree, Var, Sym, App, Lam}
use Rattle.lp_spec.specs.Modules.{Declaration, applied, products, types, term_of, proof_of}
use Rattle.translate_spec.specs.TypeEnc.{Place, place, depth_of, inside, StandsForType, StandForTypes, parameter}
use Rattle.translate_spec.specs.ConstantMeaning.{MeansConstant, instance_of}

-- The symbol of a constant, applied to the trees of types for the variables of its generic type, stands for the constant at
-- the instance with these types.
pub record StandsForConstant (declarations : List Declaration) (name : Name) (ty : ClosedType) (at : Place) (A : Tree) : Type 0 where
  pub symbol : ℕ
  pub args : List Tree
  pub generic : ClosedType
  pub means : MeansConstant declarations symbol name (length args) generic
  pub arguments : ClosedTypes
  pub args_stand : StandForTypes declarations arguments at args
  pub is_instance : ty ≡ instance_of arguments generic
  pub tree : A ≡ applied (Sym symbol) args

-- A tree stands for a closed term: application for application, and an abstraction over the terms of a type for an abstraction.
abbrev pub StandsForTerm : List Declaration → ClosedTerm → Place → Tree → Type 0
StandsForTerm declarations (closed.ClosedTerm.parameter j) at A = (j < at.free_variables) × (A ≡ parameter (depth_of at) (at.type_variables + j))
StandsForTerm declarations (closed.ClosedTerm.bound k) at A = (k < at.binders) × (A ≡ Var k)
StandsForTerm declarations (closed.ClosedTerm.constant n t) at A = StandsForConstant declarations n t at A
StandsForTerm declarations (closed.ClosedTerm.app f x) at A =
    (F : Tree) × (X : Tree) × StandsForTerm declarations f at F × StandsForTerm declarations x at X × (A ≡ App F X)
StandsForTerm declarations (closed.ClosedTerm.lam t b) at A =
    (T : Tree) × (B : Tree) × StandsForType declarations t at T × StandsForTerm declarations b (inside at) B × (A ≡ Lam (term_of T) B)

-- the types of free variables, each under the binders of those before it
abbrev pub StandForVariables : List Declaration → List ClosedType → ℕ → ℕ → List Tree → Type 0
StandForVariables declarations [] n m [] = Unit {0}
StandForVariables declarations [] n m (A ∷ As) = ⊥
StandForVariables declarations (t ∷ ts) n m [] = ⊥
StandForVariables declarations (t ∷ ts) n m (A ∷ As) = StandsForType declarations t (place n m 0 0) A × StandForVariables declarations ts n (suc m) As

-- hypotheses, each under the binders of those before it
abbrev pub StandForHypotheses : List Declaration → List ClosedTerm → ℕ → ℕ → ℕ → List Tree → Type 0
StandForHypotheses declarations [] n m l [] = Unit {0}
StandForHypotheses declarations [] n m l (A ∷ As) = ⊥
StandForHypotheses declarations (h ∷ hs) n m l [] = ⊥
StandForHypotheses declarations (h ∷ hs) n m l (A ∷ As) = StandsForTerm declarations h (place n m l 0) A × StandForHypotheses declarations hs n m (suc l) As

-- The domains of the product: `type` for each type variable, `term a` for each free variable, `proof h` for each hypothesis.
abbrev pub domains : ℕ → List Tree → List Tree → List Tree
domains n variables hypotheses = replicate n types ++ map term_of variables ++ map proof_of hypotheses

-- the closed form of a sequent within the limits
pub record IsClosedForm (s : ClosedSequent) : Type 0 where
  pub sequent : Sequent
  pub is_sequent : IsSequent sequent
  pub within : SequentWithin sequent
  pub closed : s ≡ closed_form sequent

-- A type of a module stands for a closed sequent.
pub record Enc (declarations : List Declaration) (s : ClosedSequent) (A : Tree) : Type 0 where
  pub closed : IsClosedForm s
  pub variables : List Tree
  pub hypotheses : List Tree
  pub conclusion : Tree
  pub product : A ≡ products (domains s.type_variable_count variables hypotheses) (proof_of conclusion)
  pub variables_stand : StandForVariables declarations s.free_variable_types s.type_variable_count 0 variables
  pub hypotheses_stand : StandForHypotheses declarations s.hypotheses s.type_variable_count (length variables) 0 hypotheses
  pub conclusion_stands : StandsForTerm declarations s.conclusion (place s.type_variable_count (length variables) (length hypotheses) 0) conclusion

-- The law: a type of a module stands for at most one closed sequent.
abbrev pub OneEncoding : Type 0
OneEncoding = (declarations : List Declaration) (s t : ClosedSequent) (A : Tree) → Enc declarations s A → Enc declarations t A → s ≡ t
