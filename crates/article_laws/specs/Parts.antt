-- What is true of an object where it is said of its parts: of names, types, variables, terms and the numbers of steps.
use Rattle.std.specs.Prelude.{ℕ}
use Rattle.hol_spec.specs.Names.{Name}
use Rattle.hol_spec.specs.Types.{HolType}
use Rattle.hol_spec.specs.Terms.{Term, Variable}
use Rattle.article_spec.specs.State.{Object, Objects}
use Rattle.article_spec.specs.State as object

pub record Parts : Type 1 where
  pub name : Name → Type 0
  pub type : HolType → Type 0
  pub variable : Variable → Type 0
  pub term : Term → Type 0
  pub step : ℕ → Type 0

abbrev mutual
  pub IsOf : Parts → Object → Type 0
  IsOf p (object.number z) = Unit {0}
  IsOf p (object.name n) = p.name n
  IsOf p (object.list xs) = AreOf p xs
  IsOf p (object.type_operator n) = p.name n
  IsOf p (object.type t) = p.type t
  IsOf p (object.constant n) = p.name n
  IsOf p (object.variable v) = p.variable v
  IsOf p (object.term t) = p.term t
  IsOf p (object.theorem i) = p.step i

  pub AreOf : Parts → Objects → Type 0
  AreOf p object.none = Unit {0}
  AreOf p (object.more x xs) = IsOf p x × AreOf p xs
