-- What a module says for its run: it is a well-typed module, it leaves unproved only what the run gave, it defines only what the run
-- defined, its theorems bear no symbol's name, and its exports are the run's.
use Rattle.std.specs.Prelude.{ℕ, suc, ◌≡◌, ◌+◌, ◌&&◌, ◌||◌, Bool, true, false, List, [], ◌∷◌, ◌++◌, length, nat_eq, replicate, slice_get, Some, None, codes}
use Rattle.std.specs.List.{filter, IsAmong}
use Rattle.std.specs.Option.{option_map_or}
use Rattle.hol_spec.specs.Names.{Name}
use Rattle.hol_spec.specs.Types.{HolType, type_variables}
use Rattle.hol_spec.specs.Terms.{Term, HasType}
use Rattle.hol_spec.specs.Definitions.{Definition, TypeNames}
use Rattle.hol_spec.specs.NewTypes.{abstraction_type, representation_type}
use Rattle.hol_spec.specs.Symbols.{Symbol}
use Rattle.hol_spec.specs.ClosedForm.{close_type, close_term, closed_form}
use Rattle.hol_spec.specs.Sequents.{Sequent}
use Rattle.hol_spec.specs.TypeDefinitions.{IsTypeDefinition}
use Rattle.hol_spec.specs.Proofs.{symbols_of, sequent_at, Accepted}
use Rattle.lp_spec.specs.declared.form.Form.TheVariants.{Thm, Def}
use Rattle.lp_spec.specs.Trees.{Tree, SortType, SortKind, Var, Sym, App, Lam, Pi}
use Rattle.lp_spec.specs.Modules.{Declaration, signature, symbol, symbol_type, applied, products, abstractions, types, term_of, sub_symbol, sub_abs_symbol, sub_rep_symbol}
use Rattle.lp_spec.specs.ModuleOrder.{IsModule}
use Rattle.lp_spec.specs.Typing.{WellTyped}
use Rattle.lp_spec.specs.Numerals.{numeral, is_numeral}
use Rattle.translate_spec.specs.TypeEnc.{place, StandsForType}
use Rattle.translate_spec.specs.Enc.{Enc, StandsForTerm}
use Rattle.translate_spec.specs.Image.{input_constant_name, input_operator_name, constant_name, operator_name}

-- the name of an export: `E` and a number
pub record IsExportName (name : List ℕ) : Type 0 where
  pub number : ℕ
  pub is : name ≡ codes "E" ++ numeral number

-- the name of a theorem: that of one of the two lemmas, or `T`, `L` (a law of a type definition) or `E` and a number; a symbol of
-- higher-order logic has another
pub data IsTheoremName (name : List ℕ) : Type 0 where
  symmetry : name ≡ codes "sym" → IsTheoremName name
  transitivity : name ≡ codes "trans" → IsTheoremName name
  step : (i : ℕ) → name ≡ codes "T" ++ numeral i → IsTheoremName name
  law : (i : ℕ) → name ≡ codes "L" ++ numeral i → IsTheoremName name
  export : IsExportName name → IsTheoremName name

-- Whether a name is that of an export; 69 is `E`. That it decides it is `is_export_name-Decides`.
abbrev pub is_export_name : List ℕ → Bool
is_export_name [] = false
is_export_name (b ∷ text) = nat_eq b 69 && is_numeral text

-- a symbol stands in a tree
abbrev pub occurs : ℕ → Tree → Bool
occurs s SortType = false
occurs s SortKind = false
occurs s (Var n) = false
occurs s (Sym r) = nat_eq s r
occurs s (App f x) = occurs s f || occurs s x
occurs s (Lam a b) = occurs s a || occurs s b
occurs s (Pi a b) = occurs s a || occurs s b

-- a declaration uses a symbol in its type or in its body
abbrev pub uses : Declaration → ℕ → Bool
uses d s = occurs s d.ty || option_map_or (occurs s) d.body false

-- the declaration with this number is an export, or one that is reached uses it
pub data IsReached (m : List Declaration) : ℕ → Type 0 where
  export : {i : ℕ} (d : Declaration) → slice_get m i ≡ Some d → is_export_name d.name ≡ true → IsReached m i
  used : {i : ℕ} (j : ℕ) (d : Declaration) → IsReached m j → slice_get m j ≡ Some d → uses d (length signature + i) ≡ true → IsReached m i

-- the type of a constant of this generic type
pub record IsConstantType (m : List Declaration) (generic : HolType) (A : Tree) : Type 0 where
  pub tree : Tree
  pub stands : StandsForType m (close_type (type_variables generic) generic) (place (length (type_variables generic)) 0 0 0) tree
  pub is : A ≡ products (replicate (length (type_variables generic)) types) (term_of tree)

-- why a declaration may have no body
pub data IsGiven (m : List Declaration) (run : Accepted) : Declaration → Type 0 where
  input_constant : (n : Name) → IsAmong (symbols_of run.made) (Symbol.input_constant n)
      → IsGiven m run (symbol (input_constant_name n) (Pi types (term_of (Var 0))))
  input_operator : (n : Name) (k : ℕ) → IsAmong (symbols_of run.made) (Symbol.input_operator n k)
      → IsGiven m run (symbol (input_operator_name k n) (products (replicate k types) types))
  assumption : (k i : ℕ) (A : Tree) → slice_get run.assumptions k ≡ Some i → Enc m (closed_form (sequent_at run.made i)) A
      → IsGiven m run (symbol (codes "A" ++ numeral k) A)

-- a declaration defines a constant of a run by its term, over the type variables of its type
pub record DefinesConstant (m : List Declaration) (run : Accepted) (d : Declaration) : Type 0 where
  pub name : Name
  pub term : Term
  pub ty : HolType
  pub among : IsAmong (symbols_of run.made) (Symbol.defined (Definition.constant name term))
  pub typed : HasType term ty
  pub A : Tree
  pub B : Tree
  pub type_stands : IsConstantType m ty A
  pub term_stands : StandsForTerm m (close_term (type_variables ty) [] term) (place (length (type_variables ty)) 0 0 0) B
  pub is : d ≡ record { name = constant_name name; form = Def; ty = A; body = Some (abstractions (replicate (length (type_variables ty)) types) B) }

-- the arguments of a symbol of parts, under these type variables: the type and the predicate of a type definition of a run, a term, and a proof by
-- a theorem |- f t from which the definition can be made
pub record IsPartOf (m : List Declaration) (run : Accepted) (names : TypeNames) (c : HolType) (f : Term) (variables : List Name) (arguments : List Tree) : Type
    0 where
  pub among : IsAmong (symbols_of run.made) (Symbol.defined (Definition.type_operator names c f))
  pub one : Sequent
  pub defines : IsTypeDefinition names c f one
  pub C : Tree
  pub F : Tree
  pub W : Tree
  pub symbol : ℕ
  pub parameters : List Tree
  pub A : Tree
  pub type_stands : StandsForType m (close_type variables c) (place (length variables) 0 0 0) C
  pub predicate_stands : StandsForTerm m (close_term variables [] f) (place (length variables) 0 0 0) F
  pub theorem : symbol_type m symbol ≡ Some A
  pub says : Enc m (closed_form one) A
  pub are : arguments ≡ C ∷ F ∷ W ∷ applied (Sym symbol) parameters ∷ []

-- a definition by a symbol of parts, under so many type variables
abbrev pub part_definition : List ℕ → Tree → ℕ → ℕ → List Tree → Declaration
part_definition name A variables s arguments = record
    { name = name; form = Def; ty = A; body = Some (abstractions (replicate variables types) (applied (Sym s) arguments)) }

-- a declaration defines what its run defined: a constant by its term, or the operator or a constant of a type definition by a part of its type
pub data IsDefined (m : List Declaration) (run : Accepted) : Declaration → Type 0 where
  constant : {d : Declaration} → DefinesConstant m run d → IsDefined m run d
  type_operator : (names : TypeNames) (c : HolType) (f : Term) (arguments : List Tree) → IsPartOf m run names c f names.variables arguments
      → IsDefined m run
      (part_definition (operator_name names.operator) (products (replicate (length names.variables) types) types) (length names.variables) sub_symbol
      arguments)
  abstraction : (names : TypeNames) (c : HolType) (f : Term) (A : Tree) (arguments : List Tree) → IsConstantType m (abstraction_type names c) A
      → IsPartOf m run names c f (type_variables (abstraction_type names c)) arguments
      → IsDefined m run (part_definition (constant_name names.abstraction) A (length (type_variables (abstraction_type names c))) sub_abs_symbol arguments)
  representation : (names : TypeNames) (c : HolType) (f : Term) (A : Tree) (arguments : List Tree) → IsConstantType m (representation_type names c) A
      → IsPartOf m run names c f (type_variables (representation_type names c)) arguments
      → IsDefined m run
      (part_definition (constant_name names.representation) A (length (type_variables (representation_type names c))) sub_rep_symbol arguments)

-- the declarations are E and the places from k on, each the theorem of the export at its place
pub data AreExports (m : List Declaration) (run : Accepted) : ℕ → List ℕ → List Declaration → Type 0 where
  none : {k : ℕ} → AreExports m run k [] []
  more : {k i : ℕ} {is : List ℕ} {d : Declaration} {ds : List Declaration} → d.name ≡ codes "E" ++ numeral k → d.form ≡ Thm
      → Enc m (closed_form (sequent_at run.made i)) d.ty
      → AreExports m run (suc k) is ds → AreExports m run k (i ∷ is) (d ∷ ds)

-- a declaration without a body is given, and an export reaches it
pub record IsUnproved (m : List Declaration) (run : Accepted) (i : ℕ) (d : Declaration) : Type 0 where
  pub given : IsGiven m run d
  pub reached : IsReached m i

pub record StandsForRun (m : List Declaration) (run : Accepted) : Type 0 where
  pub is_module : IsModule m
  pub typed : WellTyped m
  pub unproved : (i : ℕ) (d : Declaration) → slice_get m i ≡ Some d → d.body ≡ None → IsUnproved m run i d
  pub definitions : (i : ℕ) (d : Declaration) → slice_get m i ≡ Some d → d.form ≡ Def → IsDefined m run d
  pub theorems : (i : ℕ) (d : Declaration) → slice_get m i ≡ Some d → d.form ≡ Thm → IsTheoremName d.name
  pub exports : AreExports m run 0 run.exports (filter (λ d. is_export_name d.name) m)
