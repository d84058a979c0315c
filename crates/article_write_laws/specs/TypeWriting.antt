-- What is written of a type builds it.
use Rattle.std.proofs.Common.{◌≡◌, ℕ, suc, ◌+◌, ◌≤◌, nat_le, true, List, [], ◌∷◌, ◌++◌, map, length, Ok, refl, sym, ap, subst, ◌∙◌, arith}
use Rattle.std.proofs.lemmas.Bool.Decides.{nat_tests}
use Rattle.hol_spec.specs.Names.{Name}
use Rattle.hol_spec.specs.Types.{HolType, HolTypes, listed, types_of, count}
use Rattle.hol_spec.specs.Limits.{TypeWithin, TermWithin, SequentWithin, type_size, types_size, type_depth, types_depth, greatest_size, greatest_depth, greatest_parameter_count}
use Rattle.hol_spec.specs.Terms.{Term, Variable}
use Rattle.hol_spec.specs.Sequents.{Sequent}
use Rattle.hol_spec.specs.Symbols.{operator_arity, new_operator}
use Rattle.hol_spec.specs.Proofs.{Made, symbols_of}
use Rattle.article_spec.specs.declared.commands.Item.TheVariants as item
use Rattle.article_spec.specs.declared.commands.Word.TheVariants as word
use Rattle.article_spec.specs.State.{Object, list, none}
use Rattle.article_spec.specs.Operands.{as_type}
use Rattle.article_spec.specs.Conditions.{in_limits, type_in_limits, term_in_limits, sequent_in_limits, arity_fits}
use Rattle.article_spec.specs.Building.{op_type}
use Rattle.article_trial_laws.specs.TrialSteps.{Dictionary}
use Rattle.article_write_spec.specs.Drafts.{Kept, Draft, say_name, say_word, conses}
use Rattle.article_write_spec.specs.WrittenTypes.{write_type, write_types, write_variable}
use Rattle.article_write_laws.specs.SymbolUses.{TypeUses, TypesUse, AreNew, operator-fits, operator-new}
use Rattle.article_write_laws.specs.Scenes.{Scene, body_state, Ready, Wrote, wrote-none, wrote-then, wrote-said, wrote-taking, wrote-once}
use Rattle.article_write_laws.specs.Listings.{pushed, listing, wrote-list, Writes, each-listing}

-- Within the limits
one-measure : (size depth parameters : ℕ) → size ≤ greatest_size → depth ≤ greatest_depth → parameters ≤ greatest_parameter_count
    → in_limits (record { size = size; depth = depth; parameters = parameters } ∷ []) ≡ Ok tt
one-measure size depth parameters s d p =
    let a : nat_le size greatest_size ≡ true = grind (arith, nat_tests, s) in
    let b : nat_le depth greatest_depth ≡ true = grind (arith, nat_tests, d) in
    let c : nat_le parameters greatest_parameter_count ≡ true = grind (arith, nat_tests, p) in
    rw (a, b, c) refl

pub type-in_limits : (t : HolType) → TypeWithin t → type_in_limits t ≡ Ok tt
type-in_limits t h = one-measure (type_size t) (type_depth t) 0 h.size h.depth (omega arith)

pub term-in_limits : (t : Term) → TermWithin t → term_in_limits t ≡ Ok tt
term-in_limits t h = one-measure _ _ 0 h.size h.depth (omega arith)

pub sequent-in_limits : (s : Sequent) → SequentWithin s → sequent_in_limits s ≡ Ok tt
sequent-in_limits s h = one-measure _ _ _ h.size h.depth h.parameters

-- the parts of a type are within them
abbrev pub TypesWithin : HolTypes → Type 0
TypesWithin HolTypes.none = Unit {0}
TypesWithin (HolTypes.more t ts) = TypeWithin t × TypesWithin ts

types-within : (ts : HolTypes) → types_size ts ≤ greatest_size → types_depth ts ≤ greatest_depth → TypesWithin ts
types-within HolTypes.none s d = tt
types-within (HolTypes.more t ts) s d = (record { size = omega (arith, s); depth = omega (arith, d) }, types-within ts (omega (arith, s)) (omega (arith, d)))

arguments-within : (n : Name) (ts : HolTypes) → TypeWithin (HolType.operator n ts) → TypesWithin ts
arguments-within n ts h = types-within ts (omega (arith, h.size)) (omega (arith, h.depth))

-- The word opType
length-listed : (ts : HolTypes) → length (listed ts) ≡ count ts
length-listed HolTypes.none = refl
length-listed (HolTypes.more t ts) = ap suc (length-listed ts) ∙ (let e : suc (count ts) ≡ count ts + 1 = omega arith in e)

types_of-listed : (ts : HolTypes) → types_of (listed ts) ≡ ts
types_of-listed HolTypes.none = refl
types_of-listed (HolTypes.more t ts) = ap (HolTypes.more t) (types_of-listed ts)

abbrev type_objects : HolTypes → List Object
type_objects ts = map Object.type (listed ts)

length-objects : (ts : HolTypes) → length (type_objects ts) ≡ count ts
length-objects HolTypes.none = refl
length-objects (HolTypes.more t ts) = ap suc (length-objects ts) ∙ (let e : suc (count ts) ≡ count ts + 1 = omega arith in e)

op_type-step : (c : Scene) (d : Dictionary) (m : List Made) (n : Name) (us : List HolType) (stack : List Object)
    → arity_fits (operator_arity (symbols_of m) n) (length us) ≡ Ok tt
    → type_in_limits (HolType.operator n (types_of us)) ≡ Ok tt
    → op_type (body_state c d m (list (listing (map Object.type us) none) ∷ Object.type_operator n ∷ stack))
    ≡ Ok (body_state c d (m ++ map Made.symbol (new_operator (symbols_of m) n (length us))) (Object.type (HolType.operator n (types_of us)) ∷ stack))
op_type-step c d m n us stack arity limits = rw (each-listing as_type Object.type (λ u. refl) us, arity, limits) refl

-- the arguments as a list, and the operator before them
op_type-writes : (c : Scene) (d : Draft) (made : List Made) (stack : List Object) (n : Name) (ts : HolTypes)
    → Ready c d made (list (listing (type_objects ts) none) ∷ Object.type_operator n ∷ stack)
    → TypeUses c.symbols (HolType.operator n ts) → TypeWithin (HolType.operator n ts)
    → Wrote c d.kept made (say_word word.OpType d) (Object.type (HolType.operator n ts) ∷ stack)
op_type-writes c d made stack n ts r uses within =
    let us = listed ts in
    let counts : length us ≡ count ts = length-listed ts in
    let same : types_of us ≡ ts = types_of-listed ts in
    let arity = subst (λ k. arity_fits (operator_arity (symbols_of made) n) k ≡ Ok tt) (sym counts)
    (operator-fits c.symbols (symbols_of made) n (count ts) r.among uses.0) in
    let limits = subst (λ vs. type_in_limits (HolType.operator n vs) ≡ Ok tt) (sym same) (type-in_limits (HolType.operator n ts) within) in
    let new = subst (λ k. AreNew c.symbols (symbols_of made) (new_operator (symbols_of made) n k)) (sym counts)
    (operator-new c.symbols (symbols_of made) n (count ts) r.among uses.0) in
    subst (λ vs. Wrote c d.kept made (say_word word.OpType d) (Object.type (HolType.operator n vs) ∷ stack)) same
    (wrote-taking (item.Word word.OpType) r (new_operator (symbols_of made) n (length us)) (op_type-step c r.dictionary made n us stack arity limits) new.inputs
    new.among)

-- A type
mutual
  pub type-writes : (c : Scene) (t : HolType) → TypeUses c.symbols t → TypeWithin t → Writes c (write_type t) (Object.type t)
  type-writes c (HolType.variable n) uses within d made stack r =
      wrote-once (Kept.type (HolType.variable n)) (λ e. say_word word.VarType (say_name n e)) r
      (wrote-said (item.Word word.VarType) (wrote-said {next = Object.name n ∷ stack} (item.Name n) (wrote-none r) (λ m e. refl)) (λ m e. refl))
  type-writes c (HolType.operator n ts) uses within d made stack r =
      let start : Wrote c d.kept made (say_word word.TypeOp (say_name n d)) (Object.type_operator n ∷ stack) =
      wrote-said (item.Word word.TypeOp) (wrote-said {next = Object.name n ∷ stack} (item.Name n) (wrote-none r) (λ m e. refl)) (λ m e. refl) in
      let parts = wrote-then start
      (λ m s. types-write c ts uses.1 (arguments-within n ts within) (say_word word.TypeOp (say_name n d)) m (Object.type_operator n ∷ stack) s) in
      let whole = subst
      (λ k. Wrote c d.kept made (conses k (say_word word.Nil (write_types ts (say_word word.TypeOp (say_name n d)))))
      (list (listing (type_objects ts) none) ∷ Object.type_operator n ∷ stack)) (length-objects ts)
      (wrote-list (type_objects ts) parts) in
      wrote-once (Kept.type (HolType.operator n ts))
      (λ e. say_word word.OpType (conses (count ts) (say_word word.Nil (write_types ts (say_word word.TypeOp (say_name n e)))))) r
      (wrote-then whole
      (λ m s. op_type-writes c (conses (count ts) (say_word word.Nil (write_types ts (say_word word.TypeOp (say_name n d))))) m stack n ts s uses within))

  types-write : (c : Scene) (ts : HolTypes) → TypesUse c.symbols ts → TypesWithin ts → (d : Draft) (made : List Made) (stack : List Object)
      → Ready c d made stack
      → Wrote c d.kept made (write_types ts d) (pushed (type_objects ts) stack)
  types-write c HolTypes.none uses within d made stack r = wrote-none r
  types-write c (HolTypes.more t ts) uses within d made stack r =
      wrote-then (type-writes c t uses.0 within.0 d made stack r) (λ m s. types-write c ts uses.1 within.1 (write_type t d) m (Object.type t ∷ stack) s)

-- A variable
pub variable-writes : (c : Scene) (v : Variable) → TypeUses c.symbols v.1 → TypeWithin v.1 → Writes c (write_variable v) (Object.variable v)
variable-writes c v uses within d made stack r =
    wrote-said (item.Word word.Var)
    (wrote-then (wrote-said {next = Object.name v.0 ∷ stack} (item.Name v.0) (wrote-none r) (λ m e. refl))
    (λ m s. type-writes c v.1 uses within (say_name v.0 d) m (Object.name v.0 ∷ stack) s))
    (λ m e. refl)

pub name-writes : (c : Scene) (n : Name) → Writes c (say_name n) (Object.name n)
name-writes c n d made stack r = wrote-said {next = Object.name n ∷ stack} (item.Name n) (wrote-none r) (λ m e. refl)
