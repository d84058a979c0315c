-- A symbol past those of a module stands for nothing.
use Rattle.std.proofs.Common.{◌≡◌, ◌≤◌, ◌⊎◌, inl, inr, ℕ, ◌+◌, List, ◌++◌, length, length-append, Option, Some, None, sym, ap, ◌∙◌, arith}
use Rattle.std.proofs.lemmas.Option.{slice_get_past}
use Rattle.std.specs.Option.{option_map}
use Rattle.hol_spec.specs.Names.{Name}
use Rattle.hol_spec.specs.ClosedForm.{ClosedType}
use Rattle.lp_spec.specs.Trees.{Tree}
use Rattle.lp_spec.specs.Modules.{Declaration, signature, symbol_declaration, symbol_type}
use Rattle.translate_spec.specs.OperatorMeaning.{MeansOperator}
use Rattle.translate_spec.specs.OperatorMeaning as operators
use Rattle.translate_spec.specs.ConstantMeaning.{MeansConstant}
use Rattle.translate_spec.specs.ConstantMeaning as constants
use Rattle.decode_spec.specs.Decode.{operator_at, Constant, constant_at}
use Rattle.decode_laws.specs.OptionLaws.{Some-or_None}
use Rattle.decode_laws.specs.SymbolLaws.{operator_at-is}
use Rattle.decode_laws.specs.ConstantLaws.{constant_at-is}

module _ (d : List Declaration) (s : ℕ) (l : length (signature ++ d) ≤ s) where
  no_declaration : symbol_declaration d s ≡ None
  no_declaration = slice_get_past (signature ++ d) s l

  no_type : symbol_type d s ≡ None
  no_type = ap (option_map (λ (x : Declaration). x.ty)) no_declaration

  typeless : (A : Tree) → symbol_type d s ≡ Some A → ⊥
  typeless A e = let f : ◌≡◌ {A = Option Tree} None (Some A) = sym no_type ∙ e in cc

  long : length (signature ++ d) ≡ length signature + length d
  long = length-append signature d

  no_operator : (n : Name) (k : ℕ) → MeansOperator d s n k → ⊥
  no_operator n k (operators.MeansOperator.arrow e) = let m = long in omega (arith, e, l, m)
  no_operator n k (operators.MeansOperator.truth_values e) = let m = long in omega (arith, e, l, m)
  no_operator n k (operators.MeansOperator.individuals e) = let m = long in omega (arith, e, l, m)
  no_operator n k (operators.MeansOperator.input h) = typeless _ h.ty
  no_operator n k (operators.MeansOperator.defined h) = typeless _ h.ty

  no_constant : (n : Name) (k : ℕ) (t : ClosedType) → MeansConstant d s n k t → ⊥
  no_constant n k t (constants.MeansConstant.equality e) = let m = long in omega (arith, e, l, m)
  no_constant n k t (constants.MeansConstant.choice e) = let m = long in omega (arith, e, l, m)
  no_constant n k t (constants.MeansConstant.input h e) = typeless _ e
  no_constant n k t (constants.MeansConstant.defined h g) = typeless _ g.ty

  pub operator_at-undeclared : (k : ℕ) → operator_at d s k ≡ None
  operator_at-undeclared k = go (Some-or_None (operator_at d s k))
    where
      go : ((n : Name) × (operator_at d s k ≡ Some n)) ⊎ (operator_at d s k ≡ None) → operator_at d s k ≡ None
      go (inl p) = absurd (no_operator p.0 k (operator_at-is d s k p.0 p.1))
      go (inr e) = e

  pub constant_at-undeclared : constant_at d s ≡ None
  constant_at-undeclared = go (Some-or_None (constant_at d s))
    where
      go : ((c : Constant) × (constant_at d s ≡ Some c)) ⊎ (constant_at d s ≡ None) → constant_at d s ≡ None
      go (inl p) = absurd (no_constant p.0.name p.0.variables p.0.generic (constant_at-is d s p.0 p.1))
      go (inr e) = e
