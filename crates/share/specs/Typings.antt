-- Questions for types, as trees: a product of a context and a tree asks for the type of the tree as a term there, any other tree for what is
-- left of its type as a constant. A context is a product too: of a type, whose terms its innermost variable stands for, and of the rest.
use Rattle.std.specs.Prelude.{◌≡◌, ◌&&◌, ℕ, zero, suc, ◌<◌, Bool, true, false, List, [], ◌∷◌, length, Option, None, Some, IfSome, option_map, option_and_then}
use Rattle.std.specs.Option.{is_some}
use Rattle.lp_spec.specs.Trees.{tree_eq, Tree, Sym, App, Pi}
use Rattle.lp_spec.specs.Modules.{arr_of, arr_symbol, term_of, types, Declaration}
use Rattle.lp_term.specs.declared.LpId.{LpId}
use Rattle.lp_term.specs.Tables.{tree_at}
use Rattle.holide_sig.specs.Modules.{IsBodyKnown}
use Rattle.share_spec.specs.Abbreviations.{provided, constant_type, is_simple, simple_part, term_type, value_type}
use Rattle.share.specs.declared.typing.Turn.{Turn}
use Rattle.share.specs.declared.typing.Turn.TheVariants as turn

-- the types of a context's variables
abbrev pub context : Tree → List Tree
context (Pi a c) = term_of a ∷ context c
context _ = []

-- the type whose terms a variable stands for
abbrev pub entry : Tree → ℕ → Option Tree
entry (Pi a c) zero = Some a
entry (Pi a c) (suc n) = entry c n
entry _ n = None

-- the types of a context are simple
abbrev pub IsContext : List Declaration → Tree → Type 0
IsContext m (Pi a c) = (is_simple m [] a ≡ true) × IsContext m c
IsContext m _ = Unit {0}

-- in the second context, of simple types too, a tree has the type that it has in the first
abbrev pub IsSameFor : List Declaration → Tree → Tree → Tree → Type 0
IsSameFor m c t d = IsContext m d × (term_type m (context d) t ≡ term_type m (context c) t)

-- what the answer to a question is
abbrev pub answer : List Declaration → Tree → Option Tree
answer m (Pi c t) = term_type m (context c) t
answer m t = constant_type m [] t

-- a question in a context of simple types, or in none
abbrev pub IsAsked : List Declaration → Tree → Type 0
IsAsked m (Pi c t) = IsContext m c
IsAsked m _ = Unit {0}

-- the type that is told, if there is one
abbrev pub told : List Tree → Option LpId → Option Tree
told trees r = option_map (λ id. tree_at trees id.0) r

-- this is told, and has a number
abbrev pub Tells : List Tree → Option LpId → Option Tree → Type 0
Tells trees r o = IsBodyKnown trees r × (told trees r ≡ o)

-- each answer that is noted is the answer to its question
pub record AreAnswers (m : List Declaration) (trees : List Tree) (noted : ℕ → Option (Option LpId)) : Type 0 where
  pub each : (n : ℕ) (r : Option LpId) → noted n ≡ Some r → (n < length trees) × Tells trees r (answer m (tree_at trees n))

-- a further question that can be asked
abbrev pub IsQuestion : List Declaration → List Tree → LpId → Type 0
IsQuestion m trees q = (q.0 < length trees) × IsAsked m (tree_at trees q.0)

-- the turn tells this, or asks a further question first
abbrev pub Turns : List Declaration → List Tree → Turn → Option Tree → Type 0
Turns m trees (turn.Known r) o = Tells trees r o
Turns m trees (turn.Needs q) o = IsQuestion m trees q

-- what is left of a constant's type, where it is `term a` with a simple type a
abbrev pub constant_part : List Declaration → Tree → Option Tree
constant_part m t = option_and_then (simple_part m []) (constant_type m [] t)

abbrev pub is_application : Tree → Bool
is_application (App f x) = true
is_application _ = false

-- the type of the value of functions of a type at an argument in a context
abbrev pub value_of : List Declaration → Tree → Tree → Tree → Option Tree
value_of m c functions x = option_and_then (value_type functions) (term_type m (context c) x)

-- the type of an application of a function in a context, where it is no constant
abbrev pub values_of : List Declaration → Tree → Tree → Tree → Option Tree
values_of m c f x = option_and_then (λ t. value_of m c t x) (term_type m (context c) f)

-- the tree is that of functions, without the type of their values, from the second
abbrev pub is_from_type : Tree → Tree → Bool
is_from_type (App f a) c = tree_eq f (Sym arr_symbol) && tree_eq a c
is_from_type _ c = false

-- the type of functions from a type whose values are what a tree is in a context with a variable of that type
abbrev pub under_type : List Declaration → Tree → Tree → Tree → Option Tree
under_type m a c t = option_map (arr_of a) (term_type m (context (Pi a c)) t)

-- each of these can be asked
abbrev pub AreQuestions : List Declaration → List Tree → List LpId → Type 0
AreQuestions m trees [] = Unit {0}
AreQuestions m trees (q ∷ qs) = IsQuestion m trees q × AreQuestions m trees qs

abbrev pub is_product : Tree → Bool
is_product (Pi a b) = true
is_product _ = false

-- a type is told, and is that of types
abbrev pub is_types_told : Option Tree → Bool
is_types_told o = is_some (option_and_then (λ t. provided (tree_eq t types) t) o)

-- What comes of a turn, by what is noted over the trees before it
module _ (old new : List Tree) (noted : ℕ → Option (Option LpId)) where
  -- a turn towards this
  abbrev pub TurnsBy : (List Declaration → Option Tree) → Turn → Type 0
  TurnsBy what turn = (m : List Declaration) → AreAnswers m old noted → Turns m new turn (what m)

  -- the same in a context of simple types
  abbrev pub TurnsIn : LpId → (List Declaration → Tree → Option Tree) → Turn → Type 0
  TurnsIn c what turn = (m : List Declaration) → IsContext m (tree_at old c.0) → AreAnswers m old noted → Turns m new turn (what m (tree_at old c.0))

  -- the same under a binder of a simple type
  abbrev pub TurnsUnder : LpId → LpId → LpId → Turn → Type 0
  TurnsUnder a c t turn =
      (m : List Declaration) → is_simple m [] (tree_at old a.0) ≡ true → IsContext m (tree_at old c.0) → AreAnswers m old noted
      → Turns m new turn (under_type m (tree_at old a.0) (tree_at old c.0) (tree_at old t.0))

abbrev pub CanTurnUnder : List Tree → (ℕ → Option (Option LpId)) → LpId → LpId → Type 0
CanTurnUnder trees noted a c = (m : List Declaration) × (is_simple m [] (tree_at trees a.0) ≡ true) × IsContext m (tree_at trees c.0) × AreAnswers m trees noted

-- what is noted tells what is left of a constant's type, if it tells anything
abbrev pub TellsNoted : List Tree → (ℕ → Option (Option LpId)) → LpId → Option (Option LpId) → Type 0
TellsNoted trees noted id result =
    (m : List Declaration) → AreAnswers m trees noted → IfSome result (λ r. Tells trees r (constant_type m [] (tree_at trees id.0)))

-- the new context is as good for the tree
abbrev pub IsSameContext : List Tree → List Tree → LpId → LpId → LpId → Type 0
IsSameContext old new c t d = (m : List Declaration) → IsContext m (tree_at old c.0) → IsSameFor m (tree_at old c.0) (tree_at old t.0) (tree_at new d.0)

-- a question that can be asked, and others that wait, are so again
abbrev pub AreAskedAgain : LpId → List LpId → LpId → List LpId → Type 0
AreAskedAgain q waiting r rest =
    (m : List Declaration) (trees : List Tree) → IsQuestion m trees q → AreQuestions m trees waiting → IsQuestion m trees r × AreQuestions m trees rest
