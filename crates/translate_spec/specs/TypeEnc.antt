-- Which closed type a tree stands for, under the binders of a sequent's parameters (Assaf and Burel, "Translating HOL to Dedukti", 3).
use Rattle.std.specs.Prelude.{ℕ, ◌≡◌, ◌+◌, ◌-◌, ◌<◌, suc, List, [], ◌∷◌, length}
use Rattle.hol_spec.specs.ClosedForm as closed
use Rattle.hol_spec.specs.ClosedForm.{ClosedType, ClosedTypes}
use Rattle.lp_spec.specs.Trees.{Tree, Var, Sym}
use Rattle.lp_spec.specs.Modules.{Declaration, applied}
use Rattle.translate_spec.specs.OperatorMeaning.{MeansOperator}

-- The binders round a part of the product over a sequent's parameters, from without: those of the type variables, of the free variables and of the
-- hypotheses, and then the binders of its own term.
pub record Place : Type 0 where
  pub type_variables : ℕ
  pub free_variables : ℕ
  pub hypotheses : ℕ
  pub binders : ℕ

abbrev pub place : ℕ → ℕ → ℕ → ℕ → Place
place type_variables free_variables hypotheses binders = record {
  type_variables = type_variables;
  free_variables = free_variables;
  hypotheses = hypotheses;
  binders = binders;
}

abbrev pub depth_of : Place → ℕ
depth_of at = at.type_variables + at.free_variables + at.hypotheses + at.binders

-- under one binder more of a term
abbrev pub inside : Place → Place
inside at = place at.type_variables at.free_variables at.hypotheses (suc at.binders)

-- the binder of the parameter at a place, seen under so many binders
abbrev pub parameter : ℕ → ℕ → Tree
parameter depth place = Var (depth - suc place)

-- A tree stands for a closed type: a variable for the type variable of that binder, and the symbol of an operator, applied to
-- the trees of its arguments, for the operator at these.
abbrev mutual
  pub StandsForType : List Declaration → ClosedType → Place → Tree → Type 0
  StandsForType declarations (closed.ClosedType.parameter i) at A = (i < at.type_variables) × (A ≡ parameter (depth_of at) i)
  StandsForType declarations (closed.ClosedType.operator n ts) at A =
      (s : ℕ) × (args : List Tree) × MeansOperator declarations s n (length args) × StandForTypes declarations ts at args × (A ≡ applied (Sym s) args)

  pub StandForTypes : List Declaration → ClosedTypes → Place → List Tree → Type 0
  StandForTypes declarations closed.ClosedTypes.none at [] = Unit {0}
  StandForTypes declarations closed.ClosedTypes.none at (A ∷ As) = ⊥
  StandForTypes declarations (closed.ClosedTypes.more t ts) at [] = ⊥
  StandForTypes declarations (closed.ClosedTypes.more t ts) at (A ∷ As) = StandsForType declarations t at A × StandForTypes declarations ts at As
