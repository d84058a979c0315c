-- Modules: declarations after the signature of higher order logic (Assaf and Burel, Translating HOL to Dedukti, 2015), with the part of a
-- type in which a predicate holds that has a witness.
use Rattle.std.specs.Prelude.{ℕ, List, [], ◌∷◌, ◌++◌, slice_get, Option, None, option_map, codes}
use Rattle.std.specs.Option.{option_map_or}
use Rattle.lp_spec.specs.declared.form.Form.{Form}
use Rattle.lp_spec.specs.declared.form.Form.TheVariants.{Symbol}
use Rattle.lp_spec.specs.Trees.{Tree, SortType, Var, Sym, App, Lam, Pi}

-- a name and its type, with the body that it has where it isn't a mere symbol
pub record Declaration : Type 0 where
  pub name : List ℕ
  pub form : Form
  pub ty : Tree
  pub body : Option Tree

-- the symbols of the signature, numbered in its order

abbrev pub type_symbol : ℕ
type_symbol = 0

abbrev pub bool_symbol : ℕ
bool_symbol = 1

abbrev pub ind_symbol : ℕ
ind_symbol = 2

abbrev pub arr_symbol : ℕ
arr_symbol = 3

abbrev pub term_symbol : ℕ
term_symbol = 4

abbrev pub eq_symbol : ℕ
eq_symbol = 5

abbrev pub select_symbol : ℕ
select_symbol = 6

abbrev pub proof_symbol : ℕ
proof_symbol = 7

abbrev pub refl_symbol : ℕ
refl_symbol = 8

abbrev pub fun_ext_symbol : ℕ
fun_ext_symbol = 9

abbrev pub app_thm_symbol : ℕ
app_thm_symbol = 10

abbrev pub prop_ext_symbol : ℕ
prop_ext_symbol = 11

abbrev pub eq_mp_symbol : ℕ
eq_mp_symbol = 12

abbrev pub sub_symbol : ℕ
sub_symbol = 13

abbrev pub sub_abs_symbol : ℕ
sub_abs_symbol = 14

abbrev pub sub_rep_symbol : ℕ
sub_rep_symbol = 15

abbrev pub sub_abs_rep_symbol : ℕ
sub_abs_rep_symbol = 16

abbrev pub sub_rep_abs_symbol : ℕ
sub_rep_abs_symbol = 17

-- a tree applied to arguments, the first innermost
abbrev pub applied : Tree → List Tree → Tree
applied f [] = f
applied f (x ∷ xs) = applied (App f x) xs

-- the product over these domains, each under those before it
abbrev pub products : List Tree → Tree → Tree
products [] t = t
products (a ∷ domains) t = Pi a (products domains t)

-- the abstraction over these domains, each under those before it
abbrev pub abstractions : List Tree → Tree → Tree
abstractions [] t = t
abstractions (a ∷ domains) t = Lam a (abstractions domains t)

-- `type`, the type of the simple types
abbrev pub types : Tree
types = Sym type_symbol

-- `bool`
abbrev pub bools : Tree
bools = Sym bool_symbol

-- `arr a b`, the functions from a to b
abbrev pub arr_of : Tree → Tree → Tree
arr_of a b = App (App (Sym arr_symbol) a) b

-- `term a`, the terms of type a
abbrev pub term_of : Tree → Tree
term_of a = App (Sym term_symbol) a

-- `eq a x y`, the equation of x and y of type a
abbrev pub eq_of : Tree → Tree → Tree → Tree
eq_of a x y = App (App (App (Sym eq_symbol) a) x) y

-- `proof p`, the proofs of p
abbrev pub proof_of : Tree → Tree
proof_of p = App (Sym proof_symbol) p

-- `refl a x`, the proof that x of type a is x
abbrev pub refl_of : Tree → Tree → Tree
refl_of a x = App (App (Sym refl_symbol) a) x

-- arr : type -> type -> type
abbrev pub arr_type : Tree
arr_type = Pi types (Pi types types)

-- term : type -> Type
abbrev pub term_type : Tree
term_type = Pi types SortType

-- eq : a : type -> term (arr a (arr a bool))
abbrev pub eq_type : Tree
eq_type = Pi types (term_of (arr_of (Var 0) (arr_of (Var 0) bools)))

-- select : a : type -> term (arr (arr a bool) a)
abbrev pub select_type : Tree
select_type = Pi types (term_of (arr_of (arr_of (Var 0) bools) (Var 0)))

-- proof : term bool -> Type
abbrev pub proof_type : Tree
proof_type = Pi (term_of bools) SortType

-- refl : a : type -> x : term a -> proof (eq a x x)
abbrev pub refl_type : Tree
refl_type = Pi types (Pi (term_of (Var 0)) (proof_of (eq_of (Var 1) (Var 0) (Var 0))))

-- a : type -> b : type -> f : term (arr a b) -> g : term (arr a b) -> ..
abbrev pub two_functions : List Tree
two_functions = types ∷ types ∷ term_of (arr_of (Var 1) (Var 0)) ∷ term_of (arr_of (Var 2) (Var 1)) ∷ []

-- x : term a -> proof (eq b (f x) (g x)), under a, b, f and g
abbrev pub pointwise_equal : Tree
pointwise_equal = Pi (term_of (Var 3)) (proof_of (eq_of (Var 3) (App (Var 2) (Var 0)) (App (Var 1) (Var 0))))

-- fun_ext : .. -> (x : term a -> proof (eq b (f x) (g x))) -> proof (eq (arr a b) f g)
abbrev pub fun_ext_type : Tree
fun_ext_type = products two_functions (Pi pointwise_equal (proof_of (eq_of (arr_of (Var 4) (Var 3)) (Var 2) (Var 1))))

-- app_thm : .. -> x : term a -> y : term a -> proof (eq (arr a b) f g) -> proof (eq a x y) -> proof (eq b (f x) (g y))
abbrev pub app_thm_type : Tree
app_thm_type =
    products two_functions (products
    (term_of (Var 3) ∷ term_of (Var 4) ∷ proof_of (eq_of (arr_of (Var 5) (Var 4)) (Var 3) (Var 2)) ∷ proof_of (eq_of (Var 6) (Var 2) (Var 1)) ∷ [])
    (proof_of (eq_of (Var 6) (App (Var 5) (Var 3)) (App (Var 4) (Var 2)))))

-- prop_ext : p : term bool -> q : term bool -> (proof p -> proof q) -> (proof q -> proof p) -> proof (eq bool p q)
abbrev pub prop_ext_type : Tree
prop_ext_type =
    products
    (term_of bools ∷ term_of bools ∷ Pi (proof_of (Var 1)) (proof_of (Var 1)) ∷ Pi (proof_of (Var 1)) (proof_of (Var 3)) ∷ [])
    (proof_of (eq_of bools (Var 3) (Var 2)))

-- eq_mp : p : term bool -> q : term bool -> proof (eq bool p q) -> proof p -> proof q
abbrev pub eq_mp_type : Tree
eq_mp_type =
    products
    (term_of bools ∷ term_of bools ∷ proof_of (eq_of bools (Var 1) (Var 0)) ∷ proof_of (Var 2) ∷ [])
    (proof_of (Var 2))

-- a : type -> p : term (arr a bool) -> w : term a -> h : proof (p w) -> ..
abbrev pub part_domains : List Tree
part_domains = types ∷ term_of (arr_of (Var 0) bools) ∷ term_of (Var 1) ∷ proof_of (App (Var 1) (Var 0)) ∷ []

-- a, p, w and h, and these under a binder more
abbrev pub part_arguments : List Tree
part_arguments = Var 3 ∷ Var 2 ∷ Var 1 ∷ Var 0 ∷ []

abbrev pub part_arguments_inside : List Tree
part_arguments_inside = Var 4 ∷ Var 3 ∷ Var 2 ∷ Var 1 ∷ []

-- sub : .. -> type, the part of a in which p holds
abbrev pub sub_type : Tree
sub_type = products part_domains types

-- sub_abs : .. -> term (arr a (sub a p w h))
abbrev pub sub_abs_type : Tree
sub_abs_type = products part_domains (term_of (arr_of (Var 3) (applied (Sym sub_symbol) part_arguments)))

-- sub_rep : .. -> term (arr (sub a p w h) a)
abbrev pub sub_rep_type : Tree
sub_rep_type = products part_domains (term_of (arr_of (applied (Sym sub_symbol) part_arguments) (Var 3)))

-- x : term (sub a p w h) -> proof (eq (sub a p w h) (sub_abs a p w h (sub_rep a p w h x)) x), under a, p, w and h
abbrev pub abstraction_undoes : Tree
abstraction_undoes =
    Pi (term_of (applied (Sym sub_symbol) part_arguments))
    (proof_of (eq_of (applied (Sym sub_symbol) part_arguments_inside)
    (App (applied (Sym sub_abs_symbol) part_arguments_inside) (App (applied (Sym sub_rep_symbol) part_arguments_inside) (Var 0))) (Var 0)))

-- sub_abs_rep : .. -> x : term (sub a p w h) -> proof (eq (sub a p w h) (sub_abs a p w h (sub_rep a p w h x)) x)
abbrev pub sub_abs_rep_type : Tree
sub_abs_rep_type = products part_domains abstraction_undoes

-- x : term a -> proof (eq bool (eq a (sub_rep a p w h (sub_abs a p w h x)) x) (p x)), under a, p, w and h
abbrev pub part_holds : Tree
part_holds =
    Pi (term_of (Var 3))
    (proof_of (eq_of bools
    (eq_of (Var 4) (App (applied (Sym sub_rep_symbol) part_arguments_inside) (App (applied (Sym sub_abs_symbol) part_arguments_inside) (Var 0))) (Var 0))
    (App (Var 3) (Var 0))))

-- sub_rep_abs : .. -> x : term a -> proof (eq bool (eq a (sub_rep a p w h (sub_abs a p w h x)) x) (p x))
abbrev pub sub_rep_abs_type : Tree
sub_rep_abs_type = products part_domains part_holds

abbrev pub symbol : List ℕ → Tree → Declaration
symbol name ty = record { name = name; form = Symbol; ty = ty; body = None }

-- the declarations with which every module begins; the rewriting rule of term stands with conversion
abbrev pub signature : List Declaration
signature =
    symbol (codes "type") SortType
    ∷ symbol (codes "bool") types
    ∷ symbol (codes "ind") types
    ∷ symbol (codes "arr") arr_type
    ∷ symbol (codes "term") term_type
    ∷ symbol (codes "eq") eq_type
    ∷ symbol (codes "select") select_type
    ∷ symbol (codes "proof") proof_type
    ∷ symbol (codes "refl") refl_type
    ∷ symbol (codes "fun_ext") fun_ext_type
    ∷ symbol (codes "app_thm") app_thm_type
    ∷ symbol (codes "prop_ext") prop_ext_type
    ∷ symbol (codes "eq_mp") eq_mp_type
    ∷ symbol (codes "sub") sub_type
    ∷ symbol (codes "sub_abs") sub_abs_type
    ∷ symbol (codes "sub_rep") sub_rep_type
    ∷ symbol (codes "sub_abs_rep") sub_abs_rep_type
    ∷ symbol (codes "sub_rep_abs") sub_rep_abs_type
    ∷ []

-- the declaration of a symbol: the signature's come first, then the module's own
abbrev pub symbol_declaration : List Declaration → ℕ → Option Declaration
symbol_declaration declarations s = slice_get (signature ++ declarations) s

-- the name of a symbol
abbrev pub symbol_name : List Declaration → ℕ → List ℕ
symbol_name declarations s = option_map_or (λ d. d.name) (symbol_declaration declarations s) []

-- the declared type of a symbol
abbrev pub symbol_type : List Declaration → ℕ → Option Tree
symbol_type declarations s = option_map (λ d. d.ty) (symbol_declaration declarations s)
