-- Worked examples of the definitions.
use Rattle.std.specs.Prelude.{ℕ, ◌+◌, pos, List, [], ◌∷◌, ◌++◌, ◌≡◌, true, false, Result, Ok, Err, length, codes, Some, None}
use Rattle.std.proofs.Common.{refl}
use Rattle.hol_spec.specs.Types.{HolType}
use Rattle.hol_spec.specs.Primitives.{bool, function, equality_type}
use Rattle.hol_spec.specs.Substitution.{is_instance}
use Rattle.hol_spec.specs.Sequents.{Sequent}
use Rattle.hol_spec.specs.Rules.{Parameters}
use Rattle.hol_spec.specs.ClosedForm.{ClosedType, ClosedTypes, ClosedTerm, close_type, closed_form}
use Rattle.hol_spec.specs.declared.StepKind.{StepKind}
use Rattle.hol_spec.specs.Terms.{Term, type_of, equation}
use Rattle.hol_spec.specs.Limits.{term_size, term_depth}
use Rattle.hol_spec.specs.Proofs.{Made}
use Rattle.hol_spec.specs.Symbols.{Symbol}
use Rattle.article_spec.specs.Contents.{content, faulty}
use Rattle.common.specs.declared.faults.Kind.{Kind}
use Rattle.common.specs.declared.faults.Kind.TheVariants.{BadLine, StackShort, WrongKind, VersionPlace, EmptyList, NoSuchKey, NumberRange}
use Rattle.article_spec.specs.declared.commands.Command.{Command}
use Rattle.article_spec.specs.declared.commands.Item.{Item}
use Rattle.article_spec.specs.declared.commands.Item.TheVariants as item
use Rattle.article_spec.specs.declared.commands.Word.{Word}
use Rattle.article_spec.specs.declared.commands.Word.TheVariants as word
use Rattle.std.specs.FinMap as entries
use Rattle.hol_spec.specs.declared.Version.TheVariants.{Five}
use Rattle.article_spec.specs.State.{Object, Objects, State, initial, start}
use Rattle.article_spec.specs.Step.{step}
use Rattle.article_spec.specs.Results.{◌>>=◌}
use Rattle.article_spec.specs.Run.{machine, obey_article, at_line}
use Rattle.article_spec.specs.Lines.{End}

-- p = p, where p is a truth value
abbrev p : Term
p = Term.free (codes "p" ∷ []) bool

type_of_equation : type_of (equation bool p p) ≡ Some bool
type_of_equation = refl

-- an application of a truth value has no type
no_type : type_of (Term.app p p) ≡ None
no_type = refl

-- what binds is a number: the identity's type, and a loose number has none
identity_type : type_of (Term.lam bool (Term.bound 0)) ≡ Some (function bool bool)
identity_type = refl

loose : type_of (Term.lam bool (Term.bound 1)) ≡ None
loose = refl

-- g : bool -> bool -> bool has size 6, and g p p has 2 * 2 + 8
abbrev g : Term
g = Term.constant (codes "g" ∷ []) (function bool (function bool bool))

size_of_g : term_size g ≡ 6
size_of_g = refl

size_of_application : term_size (Term.app (Term.app g p) p) ≡ 12
size_of_application = refl

-- f : bool -> bool, applied once to p, has depth 4 + 1
depth_of_application : term_depth (Term.app (Term.constant (codes "f" ∷ []) (function bool bool)) p) ≡ 5
depth_of_application = refl

-- the closed form of |- p = p has one free variable
closed : closed_form (record { hypotheses = []; conclusion = equation bool p p })
    ≡ record {
      type_variable_count = 0;
      free_variable_types = ClosedType.operator (codes "bool" ∷ []) ClosedTypes.none ∷ [];
      hypotheses = [];
      conclusion = ClosedTerm.app (ClosedTerm.app (ClosedTerm.constant (codes "=" ∷ []) (close_type [] (equality_type bool))) (ClosedTerm.parameter 0))
          (ClosedTerm.parameter 0);
    }
closed = refl

-- equality stands at bool -> bool -> bool, and not at bool -> bool
instance : is_instance (equality_type (HolType.variable (codes "A" ∷ []))) (function bool (function bool bool)) ≡ true
instance = refl

no_instance : is_instance (equality_type (HolType.variable (codes "A" ∷ []))) (function bool bool) ≡ false
no_instance = refl

-- articles
abbrev lines : ℕ → List Item → List Command
lines n [] = []
lines n (i ∷ is) = record { line = n; «item» = i } ∷ lines (n + 1) is

abbrev w : Word → Item
w x = item.Word x

abbrev header : List Item
header = item.Number (pos 6) ∷ w word.Version ∷ []

abbrev bool_lines : List Item
bool_lines = item.Name (codes "bool" ∷ []) ∷ w word.TypeOp ∷ w word.Nil ∷ w word.OpType ∷ []

abbrev p_lines : List Item
p_lines = item.Name (codes "p" ∷ []) ∷ bool_lines ++ w word.Var ∷ w word.VarTerm ∷ []

abbrev arrow_lines : List Item
arrow_lines = item.Name (codes "->" ∷ []) ∷ w word.TypeOp ∷ []

abbrev equality_lines : List Item
equality_lines = item.Name (codes "=" ∷ []) ∷ w word.Const
    ∷ arrow_lines ++ bool_lines ++ arrow_lines ++ bool_lines ++ bool_lines ++ w word.Nil ∷ w word.Cons ∷ w word.Cons ∷ w word.OpType
    ∷ w word.Nil ∷ w word.Cons ∷ w word.Cons ∷ w word.OpType ∷ w word.ConstTerm ∷ []

-- |- p = p by reflexivity, and exported
abbrev first_article : List Item
first_article = header ++ p_lines ++ w word.Refl ∷ w word.Nil ∷ equality_lines ++ p_lines ++ w word.AppTerm ∷ p_lines ++ w word.AppTerm ∷ w word.Thm ∷ []

abbrev made_of : Result State (ℕ × Kind) → List Made × List ℕ × List ℕ
made_of (Ok s) = (s.made, s.exports, s.pool)
made_of (Err r) = ([], [], [])

abbrev p_equals_p : Sequent
p_equals_p = record { hypotheses = []; conclusion = equation bool p p }

first_run : made_of (obey_article machine initial (lines 1 first_article) (End.ended 60))
    ≡ (
      Made.step (record { kind = StepKind.Refl; premises = []; parameters = Parameters.term p; sequent = p_equals_p })
          ∷ Made.step (record { kind = StepKind.Restate; premises = 0 ∷ []; parameters = Parameters.sequent p_equals_p; sequent = p_equals_p }) ∷ [],
      1 ∷ [],
      1 ∷ [],
    )
first_run = refl

-- the kinds, as `step` gives them
abbrev kinds : State → List Item → Result State (ℕ × Kind)
kinds s [] = Ok s
kinds s (i ∷ is) = at_line (length is) (step s (record { line = 0; «item» = i })) >>= λ t. kinds t is

abbrev after_header : List Item → Result State (ℕ × Kind)
after_header is = kinds initial (header ++ is)

no_operand : after_header (w word.Ref ∷ []) ≡ Err (0, StackShort)
no_operand = refl

wrong_operand : after_header (w word.Nil ∷ w word.Ref ∷ []) ≡ Err (0, WrongKind)
wrong_operand = refl

version_again : after_header (w word.Version ∷ []) ≡ Err (0, VersionPlace)
version_again = refl

other_version : kinds initial (item.Number (pos 5) ∷ w word.Version ∷ []) ≡ Err (0, VersionPlace)
other_version = refl

six_alone : obey_article machine initial (lines 1 (item.Number (pos 6) ∷ [])) (End.ended 2) ≡ Ok (record initial { place = start Five })
six_alone = refl

-- what `def` keeps, `ref` gives back
abbrev stack_of : Result State (ℕ × Kind) → List Object
stack_of (Ok s) = s.stack
stack_of (Err r) = []

kept_object : stack_of (after_header (item.Name (codes "x" ∷ []) ∷ item.Number (pos 7) ∷ w word.Def ∷ item.Number (pos 7) ∷ w word.Ref ∷ []))
    ≡ Object.name (codes "x" ∷ []) ∷ Object.name (codes "x" ∷ []) ∷ []
kept_object = simp entries.gets

-- an empty list has no head
no_head : after_header (w word.Nil ∷ w word.HdTl ∷ []) ≡ Err (0, EmptyList)
no_head = refl

-- the tail comes on top of the head
head_below_tail : stack_of (after_header (item.Number (pos 1) ∷ w word.Nil ∷ w word.Cons ∷ w word.HdTl ∷ []))
    ≡ Object.list Objects.none ∷ Object.number (pos 1) ∷ []
head_below_tail = refl

-- what `remove` gave back isn't kept any more
removed_object : after_header
    (item.Name (codes "x" ∷ []) ∷ item.Number (pos 7) ∷ w word.Def ∷ item.Number (pos 7) ∷ w word.Remove ∷ item.Number (pos 7) ∷ w word.Ref ∷ [])
    ≡ Err (0, NoSuchKey)
removed_object = simp entries.gets

dropped_objects : stack_of (after_header (item.Number (pos 1) ∷ item.Number (pos 2) ∷ item.Number (pos 3) ∷ w word.Pop ∷ w word.Pragma ∷ []))
    ≡ Object.number (pos 1) ∷ []
dropped_objects = refl

-- the identity: the variable becomes the number of its binder
identity_object : stack_of (after_header (item.Name (codes "p" ∷ []) ∷ bool_lines ++ w word.Var ∷ p_lines ++ w word.AbsTerm ∷ []))
    ≡ Object.term (Term.lam bool (Term.bound 0)) ∷ []
identity_object = refl

-- a name that is no primitive operator becomes an input operator
abbrev symbols_after : Result State (ℕ × Kind) → List Made
symbols_after (Ok s) = s.made
symbols_after (Err r) = []

input_operator : symbols_after
    (after_header (item.Name (codes "list" ∷ []) ∷ w word.TypeOp ∷ item.Name (codes "a" ∷ []) ∷ w word.VarType ∷ w word.Nil ∷ w word.Cons ∷ w word.OpType ∷ []))
    ≡ Made.symbol (Symbol.input_operator (codes "list" ∷ []) 1) ∷ []
input_operator = refl

-- the kinds of lines at fault
no_number : content (codes "-") ≡ faulty BadLine
no_number = refl

too_great : content (codes "9223372036854775808") ≡ faulty NumberRange
too_great = refl
