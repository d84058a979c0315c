-- The rules of typing of the lambda-Pi calculus modulo (Cousineau and Dowek, 2007), over the signature of higher order logic and the
-- declarations after it (Assaf and Burel, 2015). A context is the list of the types of the loose variables, the innermost first, each
-- over those after it.
use Rattle.std.specs.Prelude.{◌≡◌, ℕ, suc, List, [], ◌∷◌, ◌++◌, slice_get, Option, Some, None}
use Rattle.lp_spec.specs.declared.form.Form.{Form}
use Rattle.lp_spec.specs.declared.form.Form.TheVariants.{Symbol, Def, Thm}
use Rattle.lp_spec.specs.Trees.{Tree, SortType, SortKind, Var, Sym, App, Lam, Pi, lift, put}
use Rattle.lp_spec.specs.Modules.{Declaration, symbol_type}
use Rattle.lp_spec.specs.Conversion.{Conv}

-- the two sorts
pub data IsSort : Tree → Type 0 where
  is_type : IsSort SortType
  is_kind : IsSort SortKind

-- Typed m G t A: in the context G the tree t has the type A.
-- Type has the sort Kind; a variable and a symbol have their declared types; a product whose domain is a type has the sort of its body;
-- an abstraction has the product of its domain and the type of its body, if that product has a sort; an application has the codomain of
-- its function with its argument put in; and what has a type has each type that is convertible to it and has a sort.
pub data Typed (m : List Declaration) : List Tree → Tree → Tree → Type 0 where
  of_type : {G : List Tree} → Typed m G SortType SortKind
  of_variable : {G : List Tree} {n : ℕ} {A B : Tree} → slice_get G n ≡ Some A → lift (suc n) A ≡ B → Typed m G (Var n) B
  of_symbol : {G : List Tree} {s : ℕ} {A : Tree} → symbol_type m s ≡ Some A → Typed m G (Sym s) A
  of_product : {G : List Tree} {A B s : Tree} → Typed m G A SortType → Typed m (A ∷ G) B s → IsSort s → Typed m G (Pi A B) s
  of_abstraction : {G : List Tree} {A B b s : Tree} → Typed m G (Pi A B) s → IsSort s → Typed m (A ∷ G) b B → Typed m G (Lam A b) (Pi A B)
  of_application : {G : List Tree} {f x A B C : Tree} → Typed m G f (Pi A B) → Typed m G x A → put x B ≡ C → Typed m G (App f x) C
  of_conversion : {G : List Tree} {t A B s : Tree} → Typed m G t A → Conv m A B → Typed m G B s → IsSort s → Typed m G t B

-- each entry of the context is a type over those outside it
pub data IsContext (m : List Declaration) : List Tree → Type 0 where
  nothing : IsContext m []
  entry : {G : List Tree} {A : Tree} → IsContext m G → Typed m G A SortType → IsContext m (A ∷ G)

-- the tree has a sort
pub record IsSorted (m : List Declaration) (G : List Tree) (t : Tree) : Type 0 where
  pub sort : Tree
  pub is : IsSort sort
  pub by : Typed m G t sort

-- a symbol has no body, and the body of every other declaration has the declared type
abbrev pub IsBodyOf : List Declaration → Form → Option Tree → Tree → Type 0
IsBodyOf m Symbol body A = body ≡ None
IsBodyOf m Def None A = ⊥
IsBodyOf m Def (Some t) A = Typed m [] t A
IsBodyOf m Thm None A = ⊥
IsBodyOf m Thm (Some t) A = Typed m [] t A

-- the declaration is typed over the signature and these before it
pub record IsTypedAfter (before : List Declaration) (d : Declaration) : Type 0 where
  pub ty : Typed before [] d.ty SortType
  pub body : IsBodyOf before d.form d.body d.ty

-- each of the declarations is typed over the signature, these and those before it
abbrev pub AreTypedAfter : List Declaration → List Declaration → Type 0
AreTypedAfter before [] = Unit {0}
AreTypedAfter before (d ∷ ds) = IsTypedAfter before d × AreTypedAfter (before ++ d ∷ []) ds

-- each declaration of the module is typed over the signature and those before it
abbrev pub WellTyped : List Declaration → Type 0
WellTyped m = AreTypedAfter [] m
