-- Cases at the edges of the definitions, computed: lines, names, measures, the order of refusals.
use Rattle.hol_spec.specs.declared.Version.TheVariants.{Five, Six}
use Rattle.std.specs.Prelude.{ℕ, ◌+◌, pos, negsuc, List, [], ◌∷◌, ◌++◌, ◌≡◌, true, false, Result, Ok, Err, length, codes, Some, None, Option}
use Rattle.std.proofs.Common.{refl}
use Rattle.hol_spec.specs.Names.{Name}
use Rattle.hol_spec.specs.NameOf.{name_of}
use Rattle.hol_spec.specs.Types.{HolType, HolTypes, types_of}
use Rattle.hol_spec.specs.Primitives.{bool, function, equality_type}
use Rattle.hol_spec.specs.Substitution.{is_instance}
use Rattle.hol_spec.specs.Sequents.{Sequent, type_variables_of, free_variables_of, same, within}
use Rattle.hol_spec.specs.Limits.{term_size, term_depth, type_depth, type_size}
use Rattle.hol_spec.specs.Lists.{union, without, distinct}
use Rattle.hol_spec.specs.Rules.{Parameters}
use Rattle.hol_spec.specs.declared.StepKind.{StepKind}
use Rattle.hol_spec.specs.Terms.{Term, type_of, equation, term_eq}
use Rattle.hol_spec.specs.Proofs.{Made}
use Rattle.hol_spec.specs.Symbols.{Symbol}
use Rattle.article_spec.specs.Contents.{Content, content, faulty, command, skipped}
use Rattle.common.specs.declared.faults.Kind.{Kind}
use Rattle.common.specs.declared.faults.Kind.TheVariants.{BadLine, StackShort, WrongKind, VersionPlace, EmptyList, NoSuchKey, NumberRange, NotBool, NotTheSequent, BadArity, BadConstType, TypeMismatch}
use Rattle.article_spec.specs.declared.commands.Command.{Command}
use Rattle.article_spec.specs.declared.commands.Item.{Item}
use Rattle.article_spec.specs.declared.commands.Item.TheVariants as item
use Rattle.article_spec.specs.declared.commands.Word.{Word}
use Rattle.article_spec.specs.declared.commands.Word.TheVariants as word
use Rattle.article_spec.specs.State.{Object, Objects, State, initial, body}
use Rattle.article_spec.specs.Step.{step}
use Rattle.article_spec.specs.Results.{◌>>=◌}
use Rattle.article_spec.specs.Run.{obey_article, at_line}
use Rattle.article_spec.specs.Lines.{End}

-- lines
comment_after_blanks : content (32 ∷ 9 ∷ 35 ∷ 32 ∷ []) ≡ skipped
comment_after_blanks = refl

number_between_blanks : content (9 ∷ 32 ∷ 48 ∷ 48 ∷ 55 ∷ 32 ∷ 13 ∷ []) ≡ command (item.Number (pos 7))
number_between_blanks = refl

minus_zero : content (codes "-0") ≡ command (item.Number (pos 0))
minus_zero = refl

least_number : content (codes "-9223372036854775808") ≡ command (item.Number (negsuc 9223372036854775807))
least_number = refl

below_least_number : content (codes "-9223372036854775809") ≡ faulty NumberRange
below_least_number = refl

two_signs : content (codes "--1") ≡ faulty BadLine
two_signs = refl

other_blank_before_number : content (12 ∷ 55 ∷ []) ≡ faulty BadLine
other_blank_before_number = refl

blank_after_sign : content (codes "- 1") ≡ faulty BadLine
blank_after_sign = refl

two_words : content (codes "nil nil") ≡ faulty BadLine
two_words = refl

word_before_comment : content (codes "nil#") ≡ faulty BadLine
word_before_comment = refl

unknown_word : content (codes "assumes") ≡ faulty BadLine
unknown_word = refl

carriage_returns_alone : content (13 ∷ 13 ∷ []) ≡ skipped
carriage_returns_alone = refl

other_blank_alone : content (11 ∷ []) ≡ faulty BadLine
other_blank_alone = refl

zero_byte : content (0 ∷ []) ≡ faulty BadLine
zero_byte = refl

leading_zeros : content (codes "00000000000000000000009223372036854775807") ≡ command (item.Number (pos 9223372036854775807))
leading_zeros = refl

-- names
empty_name : name_of (34 ∷ 34 ∷ []) ≡ Some ([] ∷ [])
empty_name = refl

quote_alone : name_of (34 ∷ []) ≡ None
quote_alone = refl

two_empty_components : name_of (34 ∷ 46 ∷ 34 ∷ []) ≡ Some ([] ∷ [] ∷ [])
two_empty_components = refl

empty_last_component : name_of (34 ∷ 97 ∷ 46 ∷ 34 ∷ []) ≡ Some ((97 ∷ []) ∷ [] ∷ [])
empty_last_component = refl

plain_dot : name_of (34 ∷ 92 ∷ 46 ∷ 34 ∷ []) ≡ Some ((46 ∷ []) ∷ [])
plain_dot = refl

escaped_end : name_of (34 ∷ 92 ∷ 34 ∷ []) ≡ None
escaped_end = refl

escaped_letter : name_of (34 ∷ 92 ∷ 97 ∷ 34 ∷ []) ≡ Some ((97 ∷ []) ∷ [])
escaped_letter = refl

byte_after_end : name_of (34 ∷ 34 ∷ 34 ∷ []) ≡ None
byte_after_end = refl

escaped_backslash : name_of (34 ∷ 92 ∷ 92 ∷ 34 ∷ []) ≡ Some ((92 ∷ []) ∷ [])
escaped_backslash = refl

name_before_blank : content (34 ∷ 97 ∷ 34 ∷ 32 ∷ []) ≡ command (item.Name ((97 ∷ []) ∷ []))
name_before_blank = refl

name_without_end : content (34 ∷ 97 ∷ 92 ∷ 32 ∷ []) ≡ faulty BadLine
name_without_end = refl

-- measures
abbrev a : HolType
a = HolType.variable (codes "a" ∷ [])

abbrev b : HolType
b = HolType.variable (codes "b" ∷ [])

depth_of_three_arguments : type_depth (HolType.operator (codes "t" ∷ []) (types_of (a ∷ b ∷ a ∷ []))) ≡ 4
depth_of_three_arguments = refl

depth_of_no_argument : type_depth bool ≡ 1
depth_of_no_argument = refl

depth_of_two_arguments : type_depth (function bool bool) ≡ 3
depth_of_two_arguments = refl

depth_of_one_argument : type_depth (HolType.operator (codes "list" ∷ []) (types_of (a ∷ []))) ≡ 2
depth_of_one_argument = refl

size_of_abstraction : term_size (Term.lam (function a b) (Term.bound 0)) ≡ 5
size_of_abstraction = refl

depth_of_abstraction : term_depth (Term.lam (function a b) (Term.bound 0)) ≡ 4
depth_of_abstraction = refl

-- the walk: a binder's type before its body; the same name at two types
abbrev xa : Term
xa = Term.free (codes "x" ∷ []) a

abbrev xb : Term
xb = Term.free (codes "x" ∷ []) b

binder_type_first : type_variables_of (record { hypotheses = []; conclusion = Term.lam b xa }) ≡ (codes "b" ∷ []) ∷ (codes "a" ∷ []) ∷ []
binder_type_first = refl

one_name_at_two_types : free_variables_of (record { hypotheses = xb ∷ []; conclusion = Term.app xa xb }) ≡ (codes "x" ∷ [], b) ∷ (codes "x" ∷ [], a) ∷ []
one_name_at_two_types = refl

-- union, removal
union_in_order : union term_eq (xa ∷ xb ∷ []) (xb ∷ Term.bound 0 ∷ xa ∷ []) ≡ xa ∷ xb ∷ Term.bound 0 ∷ []
union_in_order = refl

removal_in_order : without term_eq (xa ∷ xb ∷ Term.bound 0 ∷ []) xb ≡ xa ∷ Term.bound 0 ∷ []
removal_in_order = refl

-- instances
two_images_of_one_variable : is_instance (equality_type a) (function bool (function a bool)) ≡ false
two_images_of_one_variable = refl

images_of_two_variables : is_instance (function a b) (function bool bool) ≡ true
images_of_two_variables = refl

operator_and_variable : is_instance bool a ≡ false
operator_and_variable = refl

-- the machine
abbrev w : Word → Item
w x = item.Word x

abbrev header : List Item
header = item.Number (pos 6) ∷ w word.Version ∷ []

abbrev nm : List ℕ → Item
nm bytes = item.Name (bytes ∷ [])

abbrev kinds : State → List Item → Result State (ℕ × Kind)
kinds s [] = Ok s
kinds s (i ∷ is) = at_line (length is) (step s (record { line = 0; «item» = i })) >>= λ t. kinds t is

abbrev after_header : List Item → Result State (ℕ × Kind)
after_header is = kinds initial (header ++ is)

abbrev bool_lines : List Item
bool_lines = nm (codes "bool") ∷ w word.TypeOp ∷ w word.Nil ∷ w word.OpType ∷ []

abbrev p_lines : List Item
p_lines = nm (codes "p") ∷ bool_lines ++ w word.Var ∷ w word.VarTerm ∷ []

-- elements of a list are judged before the operand under it is missed
element_before_missing_operand : after_header (nm (codes "n") ∷ w word.Nil ∷ w word.Cons ∷ w word.OpType ∷ []) ≡ Err (0, WrongKind)
element_before_missing_operand = refl

missing_operand_below : after_header (w word.Nil ∷ w word.OpType ∷ []) ≡ Err (0, StackShort)
missing_operand_below = refl

missing_object_below_key : after_header (item.Number (pos 7) ∷ w word.Def ∷ []) ≡ Err (0, StackShort)
missing_object_below_key = refl

key_of_wrong_kind : after_header (w word.Nil ∷ w word.Def ∷ []) ≡ Err (0, WrongKind)
key_of_wrong_kind = refl

-- version needs its place; without it an article is of version 5
word_in_place_of_version : kinds initial (item.Number (pos 6) ∷ w word.Nil ∷ [])
    ≡ Ok (record initial { place = body Five; stack = Object.list Objects.none ∷ Object.number (pos 6) ∷ [] })
word_in_place_of_version = refl

version_in_first_place : kinds initial (w word.Version ∷ []) ≡ Err (0, VersionPlace)
version_in_first_place = refl

-- an input constant named bool, an input operator named select
abbrev made_after : Result State (ℕ × Kind) → List Made
made_after (Ok s) = s.made
made_after (Err r) = []

input_constant_named_bool : made_after (after_header (nm (codes "bool") ∷ w word.Const ∷ bool_lines ++ w word.ConstTerm ∷ []))
    ≡ Made.symbol (Symbol.input_constant (codes "bool" ∷ [])) ∷ []
input_constant_named_bool = refl

input_operator_named_select : made_after (after_header (nm (codes "select") ∷ w word.TypeOp ∷ w word.Nil ∷ w word.OpType ∷ []))
    ≡ Made.symbol (Symbol.input_operator (codes "select" ∷ []) 0) ∷ []
input_operator_named_select = refl

arrow_without_arguments : after_header (nm (codes "->") ∷ w word.TypeOp ∷ w word.Nil ∷ w word.OpType ∷ []) ≡ Err (0, BadArity)
arrow_without_arguments = refl

choice_at_truth_values : after_header (nm (codes "select") ∷ w word.Const ∷ bool_lines ++ w word.ConstTerm ∷ []) ≡ Err (0, BadConstType)
choice_at_truth_values = refl

-- a second use takes nothing
second_use_takes_nothing : made_after
    (after_header (nm (codes "l") ∷ w word.TypeOp ∷ w word.Nil ∷ w word.OpType ∷ nm (codes "l") ∷ w word.TypeOp ∷ w word.Nil ∷ w word.OpType ∷ []))
    ≡ Made.symbol (Symbol.input_operator (codes "l" ∷ []) 0) ∷ []
second_use_takes_nothing = refl

application_of_truth_value : after_header (p_lines ++ p_lines ++ w word.AppTerm ∷ []) ≡ Err (0, TypeMismatch)
application_of_truth_value = refl

-- theorems
abbrev exports_after : Result State (ℕ × Kind) → List Made × List ℕ × List Object
exports_after (Ok s) = (s.made, s.exports, s.stack)
exports_after (Err r) = ([], [], [])

abbrev p : Term
p = Term.free (codes "p" ∷ []) bool

abbrev eqp : Term
eqp = equation bool p p

abbrev at_body : List Object → State
at_body stack = record initial { place = body Six; stack = stack }

abbrev thm_on : List Object → List Item → Result State (ℕ × Kind)
thm_on stack is = kinds (at_body stack) (w word.Refl ∷ is)

abbrev refl_state : List Object → State
refl_state below = record initial {
  place = body Six;
  stack = below;
  made =
      Made.step (record { kind = StepKind.Refl; premises = []; parameters = Parameters.term p; sequent = record { hypotheses = []; conclusion = eqp } }) ∷ [];
}

abbrev listed : List Term → Objects
listed [] = Objects.none
listed (t ∷ ts) = Objects.more (Object.term t) (listed ts)

abbrev thm_state : Term → List Term → State
thm_state c hs = refl_state (Object.term c ∷ Object.list (listed hs) ∷ Object.theorem 0 ∷ [])

hypothesis_in_place_of_conclusion : kinds (thm_state p (p ∷ [])) (w word.Thm ∷ []) ≡ Err (0, NotTheSequent)
hypothesis_in_place_of_conclusion = refl

-- not a truth value, and not the sequent: the first kind
no_truth_value_first : kinds (thm_state p (xa ∷ [])) (w word.Thm ∷ []) ≡ Err (0, NotBool)
no_truth_value_first = refl

-- repeats are dropped, the first of each stays
repeated_hypotheses_dropped : exports_after (kinds (thm_state eqp (p ∷ eqp ∷ p ∷ [])) (w word.Thm ∷ []))
    ≡ (
      Made.step (record { kind = StepKind.Refl; premises = []; parameters = Parameters.term p; sequent = record { hypotheses = []; conclusion = eqp } })
          ∷ Made.step
          (record {
            kind = StepKind.Restate;
            premises = 0 ∷ [];
            parameters =
                Parameters.sequent (record { hypotheses = p ∷ eqp ∷ []; conclusion = eqp });
            sequent = record { hypotheses = p ∷ eqp ∷ []; conclusion = eqp };
          })
          ∷ [],
      1 ∷ [],
      [],
    )
repeated_hypotheses_dropped = refl

-- the same sequent in another order is no second export, and the three operands are gone
same_sequent_exported_once : exports_after
    (kinds (record (thm_state eqp (p ∷ eqp ∷ [])) { stack = (thm_state eqp (p ∷ eqp ∷ [])).stack ++ (thm_state eqp (eqp ∷ p ∷ [])).stack })
    (w word.Thm ∷ w word.Thm ∷ [])) ≡ exports_after (kinds (thm_state eqp (p ∷ eqp ∷ [])) (w word.Thm ∷ []))
same_sequent_exported_once = refl

-- the operands: a list with a wrong element before the theorem that isn't there
wrong_element_before_missing_theorem : kinds (refl_state (Object.term p ∷ Object.list (Objects.more (Object.number (pos 1)) Objects.none) ∷ []))
    (w word.Thm ∷ []) ≡ Err (0, WrongKind)
wrong_element_before_missing_theorem = refl
