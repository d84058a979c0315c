-- Which trees can be abbreviated: a closed application or abstraction that is a simple type, or a term of one, by the declared types of
-- its symbols. An abbreviation of a simple type has the type `type`, and one of a term of a has the type `term a`.
use Rattle.std.specs.Prelude.{nat_le, suc, ◌&&◌, Bool, true, false, List, [], ◌∷◌, slice_get, if◌then◌else◌, Option, Some, None, option_map, option_and_then}
use Rattle.std.specs.Option.{is_some}
use Rattle.lp_spec.specs.Trees.{Tree, Var, Sym, App, Lam, Pi, lift, put, tree_eq, depth}
use Rattle.lp_spec.specs.Reading.{max_depth}
use Rattle.lp_spec.specs.Modules.{Declaration, symbol_type, types, arr_symbol, term_symbol, arr_of, term_of}

-- the tree, where the test passes
abbrev pub provided : Bool → Tree → Option Tree
provided true t = Some t
provided false t = None

-- the first tree, if there is one, or else the second
abbrev pub or_else : Option Tree → Option Tree → Option Tree
or_else (Some t) o = Some t
or_else None o = o

-- what a type ends in, after its products, is no variable
abbrev pub is_solid : Tree → Bool
is_solid (Var n) = false
is_solid (Pi a b) = is_solid b
is_solid _ = true

-- the type a of which `term a` speaks
abbrev pub type_of_terms : Tree → Option Tree
type_of_terms (App f a) = provided (tree_eq f (Sym term_symbol)) a
type_of_terms _ = None

-- what remains of a product over `type` at a type
abbrev pub at_a_type : Option Tree → Tree → Option Tree
at_a_type (Some (Pi t b)) a = provided (tree_eq t types) (put a b)
at_a_type _ a = None

-- what remains of the declared type of a symbol that is applied to simple types; a simple type is such a tree with `type` left, or a variable of it
abbrev pub constant_type : List Declaration → List Tree → Tree → Option Tree
constant_type m G (Var n) = option_and_then (λ t. provided (tree_eq t types) types) (slice_get G n)
constant_type m G (Sym s) = option_and_then (λ t. provided (is_solid t) t) (symbol_type m s)
constant_type m G (App f a) = option_and_then (λ t. if tree_eq t types then at_a_type (constant_type m G f) a else None) (constant_type m G a)
constant_type m G t = None

abbrev pub is_simple : List Declaration → List Tree → Tree → Bool
is_simple m G a = is_some (option_and_then (λ t. provided (tree_eq t types) t) (constant_type m G a))

-- the type of a constant at simple types, and of a variable
abbrev pub simple_part : List Declaration → List Tree → Tree → Option Tree
simple_part m G t = option_and_then (λ a. provided (is_simple m G a) a) (type_of_terms t)

-- the values of functions from a
abbrev pub value_type : Tree → Tree → Option Tree
value_type (App (App f a) b) c = provided (tree_eq f (Sym arr_symbol) && tree_eq a c) b
value_type _ c = None

-- the type of functions from a to the type c, which stands under a binder
abbrev pub function_type : List Declaration → List Tree → Tree → Tree → Option Tree
function_type m G a c = let b = put a c in provided (tree_eq (lift 1 b) c && is_simple m G b) (arr_of a b)

-- the simple type of a term: of a variable, a constant, an application, or an abstraction over the terms of a type
abbrev pub term_type : List Declaration → List Tree → Tree → Option Tree
term_type m G (Var n) = option_and_then (λ t. simple_part m G (lift (suc n) t)) (slice_get G n)
term_type m G (Sym s) = option_and_then (simple_part m G) (constant_type m G (Sym s))
term_type m G (App f x) =
    or_else (option_and_then (simple_part m G) (constant_type m G (App f x)))
    (option_and_then (λ t. option_and_then (value_type t) (term_type m G x)) (term_type m G f))
term_type m G (Lam d t) = option_and_then (λ a. option_and_then (function_type m G a) (term_type m (term_of a ∷ G) t)) (simple_part m G d)
term_type m G t = None

-- the type of an abbreviation of a tree, if it can be abbreviated
abbrev pub type_of_abbreviation : List Declaration → Tree → Option Tree
type_of_abbreviation m t = if is_simple m [] t then Some types else option_map term_of (term_type m [] t)

-- the same, where a declaration can have that type
abbrev pub written_type : Option Tree → Option Tree
written_type o = option_and_then (λ a. provided (nat_le (depth a) max_depth) a) o

abbrev pub abbreviation : List Declaration → Tree → Option Tree
abbreviation m (App f x) = written_type (type_of_abbreviation m (App f x))
abbreviation m (Lam a t) = written_type (type_of_abbreviation m (Lam a t))
abbreviation m t = None
