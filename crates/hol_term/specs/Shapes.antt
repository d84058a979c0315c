-- Equations and redexes.
-- Source: HOL Light's kernel, `mk_eq` and `BETA`.
use Rattle.std.specs.Prelude.{◌≡◌, unwrap_or}
use Rattle.hol_spec.specs.Types.{HolType}
use Rattle.hol_spec.specs.Primitives.{bool, equality_name, equality_type}
use Rattle.hol_spec.specs.Terms.{Term, constant, app, lam, type_of, equation}

-- the equation of two terms, at the type of the first
abbrev pub equation_of : Term → Term → Term
equation_of l r = equation (unwrap_or (type_of l) bool) l r

-- the tree is the equation of these two, at some type
abbrev pub IsEquation : Term → Term → Term → Type 0
IsEquation t l r = (a : HolType) × (t ≡ equation a l r)

-- the tree is an abstraction applied to an argument
abbrev pub IsRedex : Term → Type 0
IsRedex t = (a : HolType) × ((b : Term) × ((x : Term) × (t ≡ app (lam a b) x)))

-- the type is that of the relations over some type
abbrev pub IsRelation : HolType → Type 0
IsRelation t = (a : HolType) × (t ≡ equality_type a)

-- the tree is the constant of equality over some type
abbrev pub IsEquality : Term → Type 0
IsEquality t = (a : HolType) × (t ≡ constant equality_name (equality_type a))
