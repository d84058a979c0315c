-- The symbols that are taken, by the numbers of a table of terms, and the symbols that they are by the table's trees.
-- Source: HOL Light's kernel, `the_definitions`, `the_term_constants` and `the_type_constants`.
use Rattle.std.specs.Prelude.{◌≡◌, ℕ, ◌<◌, ◌++◌, List, [], ◌∷◌, length, map, refl}
use Rattle.std.specs.Coded.{code_by, coded_ℕ}
use base.Stored.{Coded, Gv, gnum, gcons}
use Rattle.std.specs.List.{AllByRecursion}
use Rattle.hol_spec.specs.Names.{Name}
use Rattle.hol_spec.specs.Types.{HolType}
use Rattle.hol_spec.specs.Terms.{HasType}
use Rattle.hol_spec.specs.Definitions.{Definition, TypeNames}
use Rattle.hol_spec.specs.NewTypes.{abstraction_type, representation_type}
use Rattle.hol_spec.specs.Symbols.{Symbol}
use Rattle.hol_laws.specs.TypeLaws.{coded_name}
use Rattle.hol_proof_laws.specs.ProofCodes.{coded_type_names}
use Rattle.hol_type.specs.declared.table.TypeId.{TypeId}
use Rattle.hol_type.specs.Tables.{tree_at}
use Rattle.hol_term.specs.declared.TermId.{TermId}
use Rattle.hol_term.specs.Tables.{Trees, term_at, type_at}
use Rattle.hol_defs.specs.declared.operators.NewNames.{NewNames}

pub data Taken : Type 0 where
  input_constant : Name → Taken
  input_operator : Name → ℕ → Taken
  -- a constant: the term that it stands for, and its generic type
  constant : Name → TermId → TypeId → Taken
  -- an operator: the type of which it is a part, the predicate that holds in the part, and the generic types of abstraction and representation
  type_operator : TypeNames → TypeId → TermId → TypeId → TypeId → Taken

-- the symbol that is taken
abbrev pub symbol_at : Trees → Taken → Symbol
symbol_at trees (input_constant n) = Symbol.input_constant n
symbol_at trees (input_operator n k) = Symbol.input_operator n k
symbol_at trees (constant n t a) = Symbol.defined (Definition.constant n (term_at trees t.0))
symbol_at trees (type_operator names c f abs rep) = Symbol.defined (Definition.type_operator names (type_at trees c.0) (term_at trees f.0))

abbrev pub symbols_at : Trees → List Taken → List Symbol
symbols_at trees taken = map (symbol_at trees) taken

-- the numbers of a constant are of the table, and the type is the term's
pub record IsConstantKnown (trees : Trees) (t : TermId) (a : TypeId) : Type 0 where
  pub term : t.0 < length trees.terms
  pub ty : a.0 < length trees.types
  pub typed : HasType (term_at trees t.0) (type_at trees a.0)

-- the names that a definition of a type operator gives
abbrev pub named : Name → Name → Name → List Name → TypeNames
named op abs rep names = record { operator = op; abstraction = abs; representation = rep; variables = names }

abbrev pub named_by : NewNames → TypeNames
named_by names = named names.op.now names.abs.now names.rep.now names.variables.now

-- these types have the numbers of the generic types of an operator's constants
pub record AreConstantTypes (types : List HolType) (names : TypeNames) (c : HolType) (abs rep : TypeId) : Type 0 where
  pub abstraction : abs.0 < length types
  pub representation : rep.0 < length types
  pub from : tree_at types abs.0 ≡ abstraction_type names c
  pub to : tree_at types rep.0 ≡ representation_type names c

-- the numbers of an operator are of the table, and the types are those of its constants
pub record IsOperatorKnown (trees : Trees) (names : TypeNames) (c : TypeId) (f : TermId) (abs rep : TypeId) : Type 0 where
  pub ty : c.0 < length trees.types
  pub predicate : f.0 < length trees.terms
  pub constants : AreConstantTypes trees.types names (type_at trees c.0) abs rep

-- the table has each number of the symbol, with the tree that it had where the symbol was taken
abbrev pub IsKnownSymbol : Trees → Taken → Type 0
IsKnownSymbol trees (input_constant n) = Unit {0}
IsKnownSymbol trees (input_operator n k) = Unit {0}
IsKnownSymbol trees (constant n t a) = IsConstantKnown trees t a
IsKnownSymbol trees (type_operator names c f abs rep) = IsOperatorKnown trees names c f abs rep

abbrev pub AreKnownSymbols : Trees → List Taken → Type 0
AreKnownSymbols trees taken = AllByRecursion (IsKnownSymbol trees) taken

-- the symbols have one more: an operator with its constants, whose types are among these
pub record TakesOperator (types : List HolType) (old new : List Taken) (names : TypeNames) (c : HolType) (whole : TypeId) (predicate : TermId) : Type 0 where
  pub abstraction : TypeId
  pub representation : TypeId
  pub is : new ≡ old ++ type_operator names whole predicate abstraction representation ∷ []
  pub constants : AreConstantTypes types names c abstraction representation

abbrev coded_type_id : Coded TypeId
coded_type_id = code_by ℕ coded_ℕ (λ a. a.0) (λ i. record { 0 = i }) (λ _. refl)

abbrev coded_term_id : Coded TermId
coded_term_id = code_by ℕ coded_ℕ (λ t. t.0) (λ i. record { 0 = i }) (λ _. refl)

pub taken_code : Taken → Gv
taken_code (input_constant n) = gcons (gnum 0) (coded_name.code n)
taken_code (input_operator n k) = gcons (gnum 1) (gcons (coded_name.code n) (coded_ℕ.code k))
taken_code (constant n t a) = gcons (gnum 2) (gcons (coded_name.code n) (gcons (coded_term_id.code t) (coded_type_id.code a)))
taken_code (type_operator names c f abs rep) =
    gcons (gnum 3) (gcons (coded_type_names.code names)
    (gcons (coded_type_id.code c) (gcons (coded_term_id.code f) (gcons (coded_type_id.code abs) (coded_type_id.code rep)))))

pub taken_inj : (x y : Taken) → taken_code x ≡ taken_code y → x ≡ y
unfolding taken_code
taken_inj (input_constant m) (input_constant n) e = let f : m ≡ n = coded_name.inj m n (cc) in cc
taken_inj (input_operator m j) (input_operator n k) e = let f : m ≡ n = coded_name.inj m n (cc) in let g : j ≡ k = coded_ℕ.inj j k (cc) in cc
taken_inj (constant m t a) (constant n u b) e =
    let f : m ≡ n = coded_name.inj m n (cc) in
    let g : t ≡ u = coded_term_id.inj t u (cc) in
    let h : a ≡ b = coded_type_id.inj a b (cc) in
    cc
taken_inj (type_operator m a t x y) (type_operator n b u v w) e =
    let f : m ≡ n = coded_type_names.inj m n (cc) in
    let g : a ≡ b = coded_type_id.inj a b (cc) in
    let h : t ≡ u = coded_term_id.inj t u (cc) in
    let k : x ≡ v = coded_type_id.inj x v (cc) in
    let l : y ≡ w = coded_type_id.inj y w (cc) in
    cc
taken_inj x y e = cc

abbrev pub coded_taken : Coded Taken
coded_taken = record { code = taken_code; inj = taken_inj }
