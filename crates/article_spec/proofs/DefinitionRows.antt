-- Worked rows of definitions, and of several articles.
use Rattle.std.specs.Prelude.{ℕ, List, [], ◌∷◌, ◌++◌, ◌≡◌, Result, Ok, Err, codes}
use Rattle.std.proofs.Common.{refl}
use Rattle.hol_spec.specs.Types.{HolType, types_of}
use Rattle.hol_spec.specs.Primitives.{bool, function}
use Rattle.hol_spec.specs.Terms.{Term, equation}
use Rattle.common.specs.declared.faults.Kind.{Kind}
use Rattle.common.specs.declared.faults.Kind.TheVariants.{NameTaken, NotClosed, ExtraTypeVars, BadDefinitionList, BadTypeVars, EmptyList}
use Rattle.article_spec.specs.Results.{◌>>=◌}
use Rattle.article_spec.specs.declared.commands.Item.{Item}
use Rattle.article_spec.specs.declared.commands.Word.TheVariants as word
use Rattle.hol_spec.specs.declared.StepKind.TheVariants.{Refl, Axiom, Restate, DefineConstList, FirstLaw, SecondLaw}
use Rattle.hol_spec.specs.Definitions.{Definition}
use Rattle.hol_spec.specs.Symbols.{Symbol}
use Rattle.hol_spec.specs.Rules.{derived}
use Rattle.article_spec.specs.State.{State, initial, Object}
use Rattle.article_spec.specs.Lines.{End}
use Rattle.article_spec.specs.Run.{machine, obey_article}
use Rattle.article_spec.proofs.SmallArticles.{lines, w, n, header, obeyed, listed, bool_type, type_variable, to, variable, free, constant, applied, abstracted, equals, W, V, sequents, kinds, symbols, numbers, named, boolean}

abbrev identity : HolType → Term
identity a = Term.lam a (Term.bound 0)

abbrev truths : HolType
truths = function bool bool

abbrev identity_lines : List ℕ → List Item
identity_lines x = abstracted (W x) (V x)

abbrev name_of : List ℕ → List (List ℕ)
name_of text = text ∷ []

-- the newer constant: c as \x. x, then d as c
abbrev newer : List Item
newer = n (codes "c") ∷ identity_lines (codes "x") ++ w word.DefineConst ∷ n (codes "d") ∷ constant (codes "c") (to bool_type bool_type)
    ++ w word.DefineConst ∷ []

abbrev c : Term
c = Term.constant (named (codes "c")) truths

abbrev d : Term
d = Term.constant (named (codes "d")) truths

newer_sequents : sequents (obeyed newer) ≡ derived [] (equation truths c (identity bool)) ∷ derived [] (equation truths d c) ∷ []
newer_sequents = refl

newer_symbols : symbols (obeyed newer) ≡ Symbol.defined (Definition.constant (named (codes "c")) (identity bool)) ∷ Symbol.defined
    (Definition.constant (named (codes "d")) c) ∷ []
newer_symbols = refl

-- refused definitions
taken_name : obeyed (constant (codes "n") bool_type ++ w word.Pop ∷ n (codes "n") ∷ abstracted (W (codes "x")) (V (codes "x")) ++ w word.DefineConst ∷ [])
    ≡ Err (26, NameTaken)
taken_name = refl

abbrev a_type : List Item
a_type = type_variable (codes "a")

abbrev z_identity : List Item
z_identity = abstracted (variable (codes "z") a_type) (free (codes "z") a_type)

abbrev kind_of : Result State (ℕ × Kind) → List Kind
kind_of (Ok s) = []
kind_of (Err r) = r.1 ∷ []

extra_type_variables : kind_of (obeyed (n (codes "n") ∷ equals (to a_type a_type) z_identity z_identity ++ w word.DefineConst ∷ [])) ≡ ExtraTypeVars ∷ []
extra_type_variables = refl

not_closed : kind_of (obeyed (n (codes "n") ∷ V (codes "p") ++ w word.DefineConst ∷ [])) ≡ NotClosed ∷ []
not_closed = refl

-- a list of constants: {v = I, w = I} |- v = I
abbrev truths_lines : List Item
truths_lines = to bool_type bool_type

abbrev is_identity : List ℕ → List Item
is_identity v = equals truths_lines (free v truths_lines) (identity_lines (codes "x"))

abbrev list_premise : List Item
list_premise = listed (is_identity (codes "v") ∷ is_identity (codes "w") ∷ []) ++ is_identity (codes "v") ++ w word.Axiom ∷ []

abbrev pair_lines : List ℕ → List ℕ → List Item
pair_lines name v = listed ((n name ∷ []) ∷ variable v truths_lines ∷ [])

abbrev both_constants : List Item
both_constants = listed (pair_lines (codes "c") (codes "v") ∷ pair_lines (codes "d") (codes "w") ∷ []) ++ list_premise ++ w word.DefineConstList ∷ []

abbrev v : Term
v = Term.free (named (codes "v")) truths

abbrev w_term : Term
w_term = Term.free (named (codes "w")) truths

listed_sequents : sequents (obeyed both_constants)
    ≡ derived (equation truths v (identity bool) ∷ equation truths w_term (identity bool) ∷ []) (equation truths v (identity bool)) ∷ derived []
    (equation truths c (identity bool)) ∷ []
listed_sequents = refl

listed_kinds : kinds (obeyed both_constants) ≡ Axiom ∷ DefineConstList ∷ []
listed_kinds = refl

listed_symbols : symbols (obeyed both_constants) ≡ Symbol.defined (Definition.constant (named (codes "c")) (identity bool)) ∷ Symbol.defined
    (Definition.constant (named (codes "d")) (identity bool)) ∷ []
listed_symbols = refl

one_constant : kind_of (obeyed (listed (pair_lines (codes "c") (codes "v") ∷ []) ++ list_premise ++ w word.DefineConstList ∷ [])) ≡ BadDefinitionList ∷ []
one_constant = refl

-- a name that stands twice is no taken one, but a bad list
twice : kind_of (obeyed (listed (pair_lines (codes "c") (codes "v") ∷ pair_lines (codes "c") (codes "w") ∷ []) ++ list_premise ++ w word.DefineConstList ∷ []))
    ≡ BadDefinitionList ∷ []
twice = refl

-- the empty list with a closed conclusion
empty_list : kinds (obeyed (w word.Nil ∷ identity_lines (codes "x") ++ w word.Refl ∷ w word.DefineConstList ∷ [])) ≡ Refl ∷ DefineConstList ∷ []
empty_list = refl

-- a type definition: |- (\r. r = r) g, with r, g : a -> b
abbrev b_type : List Item
b_type = type_variable (codes "b")

abbrev ab_lines : List Item
ab_lines = to a_type b_type

abbrev predicate_lines : List Item
predicate_lines = abstracted (variable (codes "r") ab_lines) (equals ab_lines (free (codes "r") ab_lines) (free (codes "r") ab_lines))

abbrev type_lines : List (List Item) → List Item
type_lines names = n (codes "two") ∷ n (codes "mk") ∷ n (codes "dest") ∷ listed names ++ w word.Nil ∷ applied predicate_lines (free (codes "g") ab_lines)
    ++ w word.Axiom ∷ w word.DefineTypeOp ∷ []

abbrev a : HolType
a = HolType.variable (named (codes "a"))

abbrev b : HolType
b = HolType.variable (named (codes "b"))

abbrev ab : HolType
ab = function a b

abbrev two : HolType
two = HolType.operator (named (codes "two")) (types_of (b ∷ a ∷ []))

abbrev mk : Term → Term
mk t = Term.app (Term.constant (named (codes "mk")) (function ab two)) t

abbrev dest : Term → Term
dest t = Term.app (Term.constant (named (codes "dest")) (function two ab)) t

abbrev predicate : Term
predicate = Term.lam ab (equation ab (Term.bound 0) (Term.bound 0))

abbrev typed_run : Result State (ℕ × Kind)
typed_run = obeyed (type_lines ((n (codes "b") ∷ []) ∷ (n (codes "a") ∷ []) ∷ []))

type_sequents : sequents typed_run
    ≡ derived [] (Term.app predicate (Term.free (named (codes "g")) ab))
    ∷ derived [] (equation (function two two) (Term.lam two (mk (dest (Term.bound 0)))) (Term.lam two (Term.bound 0)))
    ∷ derived [] (equation (function ab bool) (Term.lam ab (equation ab (dest (mk (Term.bound 0))) (Term.bound 0)))
    (Term.lam ab (Term.app predicate (Term.bound 0)))) ∷ []
type_sequents = refl

type_kinds : kinds typed_run ≡ Axiom ∷ FirstLaw ∷ SecondLaw ∷ []
type_kinds = refl

abbrev stack_of : Result State (ℕ × Kind) → List Object
stack_of (Ok s) = s.stack
stack_of (Err r) = []

type_stack : stack_of typed_run ≡ Object.theorem 2 ∷ Object.theorem 1 ∷ Object.constant (named (codes "dest")) ∷ Object.constant (named (codes "mk")) ∷
    Object.type_operator (named (codes "two")) ∷ []
type_stack = refl

bad_type_variables : kind_of (obeyed (type_lines ((n (codes "a") ∷ []) ∷ []))) ≡ BadTypeVars ∷ []
bad_type_variables = refl

no_head : obeyed (w word.Nil ∷ w word.HdTl ∷ []) ≡ Err (4, EmptyList)
no_head = refl

-- two articles: {p, q} |- (\y. y) = (\y. y) is exported; it meets the axiom of the second
abbrev identities : List ℕ → List Item
identities y = equals truths_lines (identity_lines y) (identity_lines y)

abbrev first_article : List Item
first_article = header ++ identity_lines (codes "y") ++ w word.Refl ∷ listed (V (codes "p") ∷ V (codes "q") ∷ []) ++ identities (codes "y") ++ w word.Thm ∷ []

abbrev second_article : List Item
second_article = header ++ listed (V (codes "q") ∷ V (codes "p") ∷ []) ++ identities (codes "z")
    ++ w word.Axiom ∷ listed (V (codes "q") ∷ V (codes "p") ∷ V (codes "r") ∷ []) ++ identities (codes "z") ++ w word.Thm ∷ []

abbrev in_order : List Item → List Item → Result State (ℕ × Kind)
in_order x y = obey_article machine initial (lines 1 x) (End.ended 1) >>= λ s. obey_article machine s (lines 1 y) (End.ended 1)

abbrev I : Term
I = equation truths (identity bool) (identity bool)

abbrev p : Term
p = boolean (codes "p")

abbrev q : Term
q = boolean (codes "q")

abbrev r : Term
r = boolean (codes "r")

two_articles : sequents (in_order first_article second_article)
    ≡ derived [] I ∷ derived (p ∷ q ∷ []) I ∷ derived (q ∷ p ∷ []) I ∷ derived (q ∷ p ∷ r ∷ []) I ∷ []
two_articles = refl

two_articles_kinds : kinds (in_order first_article second_article) ≡ Refl ∷ Restate ∷ Restate ∷ Restate ∷ []
two_articles_kinds = refl

two_articles_numbers : numbers (in_order first_article second_article) ≡ ([], 1 ∷ 3 ∷ [], 1 ∷ 3 ∷ [])
two_articles_numbers = refl

-- in swapped order the axiom is recorded
swapped_kinds : kinds (in_order second_article first_article) ≡ Axiom ∷ Restate ∷ Refl ∷ Restate ∷ []
swapped_kinds = refl

swapped_numbers : numbers (in_order second_article first_article) ≡ (0 ∷ [], 1 ∷ 3 ∷ [], 1 ∷ 3 ∷ [])
swapped_numbers = refl
