-- The state of the stack machine.
-- Source: the OpenTheory article file format, versions 5 and 6, "The Virtual Machine".
use Rattle.hol_spec.specs.declared.Version.{Version}
use Rattle.hol_spec.specs.declared.Version.TheVariants.{Five, Six}
use Rattle.std.specs.Prelude.{ℕ, ℤ, List, []}
use Rattle.std.specs.Ordering.{int_cmp}
use Rattle.std.specs.FinMap.{FinMap, empty}
use Rattle.hol_spec.specs.Names.{Name}
use Rattle.hol_spec.specs.Types.{HolType}
use Rattle.hol_spec.specs.Terms.{Term, Variable}
use Rattle.hol_spec.specs.Proofs.{Made}

-- What the stack and the dictionary hold. A theorem is the number of the step that made it.
mutual
  pub data Object : Type 0 where
    number : ℤ → Object
    name : Name → Object
    list : Objects → Object
    type_operator : Name → Object
    type : HolType → Object
    constant : Name → Object
    variable : Variable → Object
    term : Term → Object
    theorem : ℕ → Object

  pub data Objects : Type 0 where
    none : Objects
    more : Object → Objects → Objects

-- Where an article is: before its first command, after an article of this version; after the number 6 as its first; or later, in an article of
-- version 5 or of version 6. Before the first article it is as after one of version 6.
pub data Stage : Type 0 where
  start : Version → Stage
  version : Stage
  body : Version → Stage

-- The version of an article so far.
abbrev pub version_at : Stage → Version
version_at (start v) = Five
version_at version = Five
version_at (body v) = v

-- The version of the last article that has begun, and 6 where none has.
abbrev pub last_version : Stage → Version
last_version (start v) = v
last_version version = Five
last_version (body v) = v

pub record State : Type 0 where
  -- of the article: the objects from the top, what the numbers stand for, and the place
  pub stack : List Object
  pub dictionary : FinMap int_cmp Object
  pub place : Stage
  -- of the run: symbols and steps in order of making; the steps that are assumptions, that are exports, and that earlier articles exported
  pub made : List Made
  pub assumptions : List ℕ
  pub exports : List ℕ
  pub pool : List ℕ

abbrev pub initial : State
initial = record { stack = []; dictionary = empty; place = start Six; made = []; assumptions = []; exports = []; pool = [] }
