-- The one text of a module, in Dedukti's syntax: how it is written.
use Rattle.std.specs.Prelude.{ℕ, suc, ◌-◌, Bool, true, false, not, if◌then◌else◌, List, [], ◌∷◌, ◌++◌, Option, Some, None, codes, decimal}
use Rattle.std.specs.List.{flat_map}
use Rattle.lp_spec.specs.declared.form.Form.{Form}
use Rattle.lp_spec.specs.declared.form.Form.TheVariants.{Symbol, Def, Thm}
use Rattle.lp_spec.specs.Trees.{Tree, SortType, SortKind, Var, Sym, App, Lam, Pi}
use Rattle.lp_spec.specs.Modules.{Declaration, symbol_name}
use Rattle.lp_spec.specs.ShortNames.{shortened_after}

-- A line of the prelude. It declares a symbol, given by its name and what stands behind the name, or a symbol that a rule rewrites; or
-- it is the rule, given by its two sides, over the variables a and b.
pub data Line : Type 0 where
  SymbolLine : List ℕ → List ℕ → Line
  RewrittenLine : List ℕ → List ℕ → Line
  RuleLine : List ℕ → List ℕ → Line

-- the bytes of a line
abbrev pub line_text : Line → List ℕ
line_text (SymbolLine name rest) = name ++ rest ++ codes "\n"
line_text (RewrittenLine name rest) = codes "def " ++ name ++ rest ++ codes "\n"
line_text (RuleLine left right) = codes "[a, b] " ++ left ++ codes " --> " ++ right ++ codes ".\n"

-- the lines with which every module begins: they declare its signature, and its rewriting rule stands for that of conversion
abbrev pub prelude_lines : List Line
prelude_lines =
    SymbolLine (codes "type") (codes " : Type.")
    ∷ SymbolLine (codes "bool") (codes " : type.")
    ∷ SymbolLine (codes "ind") (codes " : type.")
    ∷ SymbolLine (codes "arr") (codes " : type -> type -> type.")
    ∷ RewrittenLine (codes "term") (codes " : type -> Type.")
    ∷ RuleLine (codes "term (arr a b)") (codes "term a -> term b")
    ∷ SymbolLine (codes "eq") (codes " : a : type -> term (arr a (arr a bool)).")
    ∷ SymbolLine (codes "select") (codes " : a : type -> term (arr (arr a bool) a).")
    ∷ SymbolLine (codes "proof") (codes " : term bool -> Type.")
    ∷ SymbolLine (codes "refl") (codes " : a : type -> x : term a -> proof (eq a x x).")
    ∷ SymbolLine (codes "fun_ext")
    (codes " : a : type -> b : type -> f : term (arr a b) -> g : term (arr a b) -> (x : term a -> proof (eq b (f x) (g x))) -> proof (eq (arr a b) f g).")
    ∷ SymbolLine (codes "app_thm")
    (codes
    " : a : type -> b : type -> f : term (arr a b) -> g : term (arr a b) -> x : term a -> y : term a -> proof (eq (arr a b) f g) -> proof (eq a x y) -> proof (eq b (f x) (g y)).")
    ∷ SymbolLine (codes "prop_ext") (codes " : p : term bool -> q : term bool -> (proof p -> proof q) -> (proof q -> proof p) -> proof (eq bool p q).")
    ∷ SymbolLine (codes "eq_mp") (codes " : p : term bool -> q : term bool -> proof (eq bool p q) -> proof p -> proof q.")
    ∷ SymbolLine (codes "sub") (codes " : a : type -> p : term (arr a bool) -> w : term a -> proof (p w) -> type.")
    ∷ SymbolLine (codes "sub_abs") (codes " : a : type -> p : term (arr a bool) -> w : term a -> h : proof (p w) -> term (arr a (sub a p w h)).")
    ∷ SymbolLine (codes "sub_rep") (codes " : a : type -> p : term (arr a bool) -> w : term a -> h : proof (p w) -> term (arr (sub a p w h) a).")
    ∷ SymbolLine (codes "sub_abs_rep")
    (codes
    " : a : type -> p : term (arr a bool) -> w : term a -> h : proof (p w) -> x : term (sub a p w h) -> proof (eq (sub a p w h) (sub_abs a p w h (sub_rep a p w h x)) x).")
    ∷ SymbolLine (codes "sub_rep_abs")
    (codes
    " : a : type -> p : term (arr a bool) -> w : term a -> h : proof (p w) -> x : term a -> proof (eq bool (eq a (sub_rep a p w h (sub_abs a p w h x)) x) (p x)).")
    ∷ []

-- the bytes with which every module begins
abbrev pub prelude : List ℕ
prelude = flat_map line_text prelude_lines

abbrev pub is_binder : Tree → Bool
is_binder (Lam a b) = true
is_binder (Pi a b) = true
is_binder _ = false

-- the tree is written as a single word
abbrev pub is_word : Tree → Bool
is_word (App f x) = false
is_word (Lam a b) = false
is_word (Pi a b) = false
is_word _ = true

-- a text in parentheses where they are wanted
abbrev pub enclosed : Bool → List ℕ → List ℕ
enclosed wanted text = if wanted then (codes "(" ++ text ++ codes ")") else text

-- the name of the binder under so many others
abbrev pub binder_name : ℕ → List ℕ
binder_name d = codes "v" ++ decimal d

-- a tree under d binders, with the names of these declarations for the symbols; the sort of kinds has no text of its own
abbrev pub tree_text : List Declaration → ℕ → Tree → List ℕ
tree_text m d SortType = codes "Type"
tree_text m d SortKind = []
tree_text m d (Var n) = binder_name (d - suc n)
tree_text m d (Sym s) = symbol_name m s
tree_text m d (App f x) = enclosed (is_binder f) (tree_text m d f) ++ codes " " ++ enclosed (not (is_word x)) (tree_text m d x)
tree_text m d (Lam a b) =
    binder_name d ++ codes " : " ++ enclosed (is_binder a) (tree_text m d a) ++ codes " => " ++ tree_text m (suc d) b
tree_text m d (Pi a b) =
    binder_name d ++ codes " : " ++ enclosed (is_binder a) (tree_text m d a) ++ codes " -> " ++ tree_text m (suc d) b

-- what stands before the name of a declaration with this bound
abbrev pub opening : Form → ℕ → List ℕ
opening Symbol bound = []
opening Def bound = codes "def "
opening Thm bound = codes "(; bound " ++ decimal bound ++ codes " ;)\nthm "

abbrev pub body_text : List Declaration → Option Tree → List ℕ
body_text m None = []
body_text m (Some t) = codes " := " ++ tree_text m 0 t

-- the line of a declaration, for a theorem with the line of its bound before it
abbrev pub declaration_text : List Declaration → Declaration → ℕ → List ℕ
declaration_text m d bound = opening d.form bound ++ d.name ++ codes " : " ++ tree_text m 0 d.ty ++ body_text m d.body ++ codes ".\n"

-- the lines of declarations, one bound for each
abbrev pub declarations_text : List Declaration → List Declaration → List ℕ → List ℕ
declarations_text m (d ∷ ds) (bound ∷ bounds) = declaration_text m d bound ++ declarations_text m ds bounds
declarations_text m _ _ = []

-- the text of a module and of its bounds, each tree by the short names that are declared before it
abbrev pub written : List Declaration → List ℕ → List ℕ
written m bounds = prelude ++ declarations_text m (shortened_after [] m) bounds
