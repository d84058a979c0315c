-- The words that build objects and keep them in the dictionary.
-- Source: the OpenTheory article file format, version 6, "Commands".
use Rattle.std.specs.Prelude.{◌∷◌, length, is_some, Result, Ok}
use Rattle.std.specs.Option.{ok_or}
use Rattle.std.specs.FinMap as entries
use Rattle.hol_spec.specs.Types.{HolType, types_of}
use Rattle.hol_spec.specs.Terms.{Term, type_of}
use Rattle.common.specs.declared.faults.Kind.{Kind}
use Rattle.common.specs.declared.faults.Kind.TheVariants.{NoSuchKey, TypeMismatch}
use Rattle.hol_spec.specs.Symbols.{generic_type, operator_arity, new_constant, new_operator}
use Rattle.hol_spec.specs.Rules.{abstraction}
use Rattle.hol_spec.specs.Proofs.{symbols_of}
use Rattle.article_spec.specs.State.{list, type_operator, type, constant, variable, term, none, more, State}
use Rattle.article_spec.specs.Results.{◌>>=◌, ◌>>◌}
use Rattle.article_spec.specs.Operands.{as_number, as_name, as_list, as_type_operator, as_type, as_types, as_constant, as_variable, as_term, any_object, head_and_tail, pop}
use Rattle.article_spec.specs.Conditions.{demand, type_in_limits, term_in_limits, arity_fits, generic_fits}
use Rattle.article_spec.specs.Changes.{with_stack, with_symbols}

abbrev pub nil : State → Result State Kind
nil s = Ok (with_stack s (list none ∷ s.stack))

abbrev pub cons : State → Result State Kind
cons s = do
  (tail, below) ← pop as_list s.stack
  (head, rest) ← pop any_object below
  Ok (with_stack s (list (more head tail) ∷ rest))

abbrev pub hd_tl : State → Result State Kind
hd_tl s = do
  (xs, rest) ← pop as_list s.stack
  (head, tail) ← head_and_tail xs
  Ok (with_stack s (list tail ∷ head ∷ rest))

abbrev pub type_op : State → Result State Kind
type_op s = do
  (n, rest) ← pop as_name s.stack
  Ok (with_stack s (type_operator n ∷ rest))

abbrev pub var_type : State → Result State Kind
var_type s = do
  (n, rest) ← pop as_name s.stack
  Ok (with_stack s (type (HolType.variable n) ∷ rest))

-- An operator that is neither primitive nor defined is taken as an input, at this arity.
abbrev pub op_type : State → Result State Kind
op_type s = do
  (arguments, below) ← pop as_types s.stack
  (n, rest) ← pop as_type_operator below
  arity_fits (operator_arity (symbols_of s.made) n) (length arguments)
  type_in_limits (HolType.operator n (types_of arguments))
  Ok (with_symbols (with_stack s (type (HolType.operator n (types_of arguments)) ∷ rest)) (new_operator (symbols_of s.made) n (length arguments)))

abbrev pub const : State → Result State Kind
const s = do
  (n, rest) ← pop as_name s.stack
  Ok (with_stack s (constant n ∷ rest))

-- A constant that is neither primitive nor defined is taken as an input.
abbrev pub const_term : State → Result State Kind
const_term s = do
  (a, below) ← pop as_type s.stack
  (n, rest) ← pop as_constant below
  generic_fits (generic_type (symbols_of s.made) n) a
  term_in_limits (Term.constant n a)
  Ok (with_symbols (with_stack s (term (Term.constant n a) ∷ rest)) (new_constant (symbols_of s.made) n))

abbrev pub var : State → Result State Kind
var s = do
  (a, below) ← pop as_type s.stack
  (n, rest) ← pop as_name below
  Ok (with_stack s (variable (n, a) ∷ rest))

abbrev pub var_term : State → Result State Kind
var_term s = do
  (v, rest) ← pop as_variable s.stack
  term_in_limits (Term.free v.0 v.1)
  Ok (with_stack s (term (Term.free v.0 v.1) ∷ rest))

abbrev pub app_term : State → Result State Kind
app_term s = do
  (x, below) ← pop as_term s.stack
  (f, rest) ← pop as_term below
  demand (is_some (type_of (Term.app f x))) TypeMismatch
  term_in_limits (Term.app f x)
  Ok (with_stack s (term (Term.app f x) ∷ rest))

abbrev pub abs_term : State → Result State Kind
abs_term s = do
  (t, below) ← pop as_term s.stack
  (v, rest) ← pop as_variable below
  term_in_limits (abstraction v t)
  Ok (with_stack s (term (abstraction v t) ∷ rest))

-- The object stays on the stack.
abbrev pub def : State → Result State Kind
def s = do
  (k, below) ← pop as_number s.stack
  (x, rest) ← pop any_object below
  Ok (record s { stack = below; dictionary = entries.insert s.dictionary k x })

abbrev pub ref : State → Result State Kind
ref s = do
  (k, rest) ← pop as_number s.stack
  x ← ok_or (entries.get s.dictionary k) NoSuchKey
  Ok (with_stack s (x ∷ rest))

abbrev pub remove : State → Result State Kind
remove s = do
  (k, rest) ← pop as_number s.stack
  x ← ok_or (entries.get s.dictionary k) NoSuchKey
  Ok (record s { stack = x ∷ rest; dictionary = entries.remove s.dictionary k })

-- `pop` and `pragma` both drop an object.
abbrev pub drop_object : State → Result State Kind
drop_object s = do
  (x, rest) ← pop any_object s.stack
  Ok (with_stack s rest)
