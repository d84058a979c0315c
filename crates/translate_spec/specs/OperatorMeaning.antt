-- Which symbols of a module stand for which type operators: those of the signature for the primitive ones, and the others by
-- their names and types (Assaf and Burel, "Translating HOL to Dedukti", 3).
use Rattle.std.specs.Prelude.{ℕ, ◌≡◌, List, ◌++◌, replicate, Some, None, codes}
use Rattle.hol_spec.specs.Names.{Name}
use Rattle.hol_spec.specs.Primitives.{arrow_name, bool_name, ind_name, primitive_arity}
use Rattle.lp_spec.specs.Modules.{Declaration, arr_symbol, bool_symbol, ind_symbol, symbol_name, symbol_type, products, types}
use Rattle.hol_spec.specs.Mangling.{mangled, IsName}
use Rattle.lp_spec.specs.Numerals.{numeral}

-- A symbol is named by this text and the mangled name of an operator that isn't primitive, and its type is
-- `type -> .. -> type` with so many arguments.
pub record NamesOperator (declarations : List Declaration) (s : ℕ) (front : List ℕ) (name : Name) (arity : ℕ) : Type 0 where
  pub is_name : IsName name
  pub not_primitive : primitive_arity name ≡ None
  pub text : symbol_name declarations s ≡ front ++ mangled name
  pub ty : symbol_type declarations s ≡ Some (products (replicate arity types) types)

-- A symbol stands for the type operator with this name and so many arguments: `t<k>_` begins the name of an input operator
-- of k arguments, and `o_` that of a defined one.
pub data MeansOperator (declarations : List Declaration) (s : ℕ) : Name → ℕ → Type 0 where
  arrow : s ≡ arr_symbol → MeansOperator declarations s arrow_name 2
  truth_values : s ≡ bool_symbol → MeansOperator declarations s bool_name 0
  individuals : s ≡ ind_symbol → MeansOperator declarations s ind_name 0
  input : {name : Name} {arity : ℕ} → NamesOperator declarations s (codes "t" ++ numeral arity ++ codes "_") name arity
      → MeansOperator declarations s name arity
  defined : {name : Name} {arity : ℕ} → NamesOperator declarations s (codes "o_") name arity → MeansOperator declarations s name arity
