-- Size and depth of types, terms and sequents, and the limits on them.
-- Source: the limits are this bridge's own.
use Rattle.std.specs.Prelude.{ℕ, ◌+◌, ◌≤◌, max, List, [], ◌∷◌}
use Rattle.std.specs.List.{sum_by}
use Rattle.hol_spec.specs.Types.{HolType, HolTypes, variable, operator, none, more, count}
use Rattle.hol_spec.specs.Terms.{Term, free, bound, constant, app, lam}
use Rattle.hol_spec.specs.Sequents.{Sequent, terms_of, parameter_count}

abbrev pub greatest_size : ℕ
greatest_size = 1048576

abbrev pub greatest_depth : ℕ
greatest_depth = 16384

abbrev pub greatest_parameter_count : ℕ
greatest_parameter_count = 16384

abbrev mutual
  pub type_size : HolType → ℕ
  type_size (variable n) = 1
  type_size (operator n ts) = 1 + types_size ts

  pub types_size : HolTypes → ℕ
  types_size none = 0
  types_size (more t ts) = type_size t + types_size ts

-- An operator of k arguments lies exactly max 1 k above the deepest of them.
abbrev mutual
  pub type_depth : HolType → ℕ
  type_depth (variable n) = 1
  type_depth (operator n ts) = max 1 (count ts) + types_depth ts

  pub types_depth : HolTypes → ℕ
  types_depth none = 0
  types_depth (more t ts) = max (type_depth t) (types_depth ts)

abbrev pub term_size : Term → ℕ
term_size (free n t) = 1 + type_size t
term_size (bound k) = 1
term_size (constant n t) = 1 + type_size t
term_size (app f x) = 1 + term_size f + term_size x
term_size (lam t b) = 1 + type_size t + term_size b

abbrev pub term_depth : Term → ℕ
term_depth (free n t) = 1 + type_depth t
term_depth (bound k) = 1
term_depth (constant n t) = 1 + type_depth t
term_depth (app f x) = 1 + max (term_depth f) (term_depth x)
term_depth (lam t b) = 1 + max (type_depth t) (term_depth b)

abbrev pub greatest_by : {A : Type 0} → (A → ℕ) → List A → ℕ
greatest_by measure [] = 0
greatest_by measure (x ∷ xs) = max (measure x) (greatest_by measure xs)

abbrev pub sequent_size : Sequent → ℕ
sequent_size s = sum_by term_size (terms_of s)

abbrev pub sequent_depth : Sequent → ℕ
sequent_depth s = greatest_by term_depth (terms_of s)

pub record TypeWithin (t : HolType) : Type 0 where
  pub size : type_size t ≤ greatest_size
  pub depth : type_depth t ≤ greatest_depth

pub record TermWithin (t : Term) : Type 0 where
  pub size : term_size t ≤ greatest_size
  pub depth : term_depth t ≤ greatest_depth

pub record SequentWithin (s : Sequent) : Type 0 where
  pub size : sequent_size s ≤ greatest_size
  pub depth : sequent_depth s ≤ greatest_depth
  pub parameters : parameter_count s ≤ greatest_parameter_count
