-- What the definition of a type operator makes.
use Rattle.std.proofs.Common.{◌≡◌, ◌<◌, ◌≤◌, ℕ, ◌+◌, refl, sym, ap, subst, ◌∙◌, arith, List, [], ◌∷◌, ◌++◌, map, length, Bool, true, false, cond, Option, None, Some}
use Rattle.std.specs.Prelude.{◌&&◌, max, min, nat_le, IsSome}
use Rattle.std.specs.List.{list_all}
use Rattle.std.proofs.lemmas.Bool.Decides.{nat_tests}
use Rattle.std.proofs.Math.Path.{ap₂}
use Rattle.std.proofs.lemmas.List.{map-append, append-nil}
use Rattle.std.proofs.lemmas.Grind.{flat_map-append}
use Rattle.hol_defs.specs.Indexes.{inputs_in, inputs_of, generics_in, uses_in, uses_of, arities_in, is_used, IsIndexed}
use Rattle.std.specs.Map.{lookup}
use Rattle.hol_spec.specs.Names.{Name}
use Rattle.hol_spec.specs.NameEquality.{name_eq}
use Rattle.hol_spec.specs.Types.{HolType, variable, types_of, count}
use Rattle.hol_spec.specs.Limits.{greatest_size, greatest_depth, type_size, types_size, type_depth, types_depth}
use Rattle.hol_spec.specs.Definitions.{Definition, TypeNames}
use Rattle.hol_spec.specs.Symbols.{Symbol}
use Rattle.hol_spec.specs.Terms.{Term, app, type_of, application_type, IsTerm}
use Rattle.hol_term.specs.declared.TermId.{TermId}
use Rattle.hol_defs.specs.Symbols.{Taken, symbols_at, AreConstantTypes, AreKnownSymbols, TakesOperator}
use Rattle.hol_defs.specs.SymbolLaws.{symbols_at-append, symbols_at-Keeps, AreKnownSymbols-append, AreKnownSymbols-Keeps}
use Rattle.hol_spec.specs.NewTypes.{new_type, abstraction_type, representation_type}
use Rattle.hol_spec.specs.Primitives.{function}
use Rattle.common.specs.declared.faults.Kind.TheVariants.{TooLarge, TooDeep}
use Rattle.hol_defs.specs.Faults.{first_failing, limit_fault, types_made}
use Rattle.hol_defs.proofs.JudgeLaws.{failing, passing}
use Rattle.hol_type.specs.declared.table.TypeId.{TypeId}
use Rattle.hol_type.specs.Tables as type
use Rattle.hol_type.specs.TableLaws as type_law
use Rattle.hol_term.specs.Tables.{Trees, term_at, type_at, Keeps}
use Rattle.hol_term.specs.TableLaws.{Keeps-refl, Keeps-trans, term_in-Stays}

-- a table that has kept what it had has the type variables of these names
pub record AreVariables (old new : Trees) (names : List Name) (ids : List TypeId) : Type 0 where
  pub keeps : Keeps old new
  pub known : type.AreKnown new.types ids
  pub made : type.types_at new.types ids ≡ map variable names

pub AreVariables-none : (a : Trees) → AreVariables a a [] []
AreVariables-none a = record { keeps = Keeps-refl a; known = tt; made = refl }

known-append : (types : List HolType) (ids : List TypeId) (id : TypeId) → type.AreKnown types ids → id.0 < length types → type.AreKnown types (ids ++ id ∷ [])
known-append types [] id h k = (k, tt)
known-append types (i ∷ ids) id h k = (h.0, known-append types ids id h.1 k)

-- and one more
pub AreVariables-more : {a b c : Trees} (names : List Name) (ids : List TypeId) (name : Name) (id : TypeId) → AreVariables a b names ids → Keeps b c
    → id.0 < length c.types → type.Holds c.types id.0 (variable name)
    → AreVariables a c (names ++ name ∷ []) (ids ++ id ∷ [])
AreVariables-more {a = a} {b = b} {c = c} names ids name id h k known made = record {
  keeps = Keeps-trans h.keeps k;
  known = known-append c.types ids id (type_law.AreKnown-Keeps k.types ids h.known) known;
  made =
      map-append (λ (i : TypeId). type.tree_at c.types i.0) ids (id ∷ [])
      ∙ ap₂ (λ l t. l ++ t ∷ []) (sym (type_law.types_at-Stays k.types.stays ids h.known) ∙ h.made)
      (type_law.Holds-tree_at c.types id.0 (variable name) made)
      ∙ sym (map-append variable names (name ∷ []));
}

-- the types of the constants, made one after the other
pub AreConstantTypes-made : {a b c d : Trees} → Keeps a b → Keeps b c → Keeps c d → (names : TypeNames) (whole part abs rep : TypeId) → whole.0 < length a.types
    → part.0 < length b.types → type_at b part.0 ≡ new_type names → abs.0 < length c.types
    → type_at c abs.0 ≡ function (type_at b whole.0) (type_at b part.0) → rep.0 < length d.types → type_at d rep.0
    ≡ function (type_at c part.0) (type_at c whole.0) → AreConstantTypes d.types names (type_at a whole.0) abs rep
AreConstantTypes-made {a = a} {b = b} {c = c} {d = d} k l m names whole part abs rep w p new ka from kr to =
    let wb : whole.0 < length b.types = omega (arith, w, k.types.longer) in
    let first : type_at a whole.0 ≡ type_at b whole.0 = type_law.tree_at-Stays k.types.stays whole.0 w in
    let second : type_at b whole.0 ≡ type_at c whole.0 = type_law.tree_at-Stays l.types.stays whole.0 wb in
    let same : type_at b part.0 ≡ type_at c part.0 = type_law.tree_at-Stays l.types.stays part.0 p in
    record {
      abstraction = omega (arith, ka, m.types.longer);
      representation = kr;
      from = sym (type_law.tree_at-Stays m.types.stays abs.0 ka) ∙ from ∙ ap₂ function (sym first) new;
      to = to ∙ ap₂ function (sym same ∙ new) (sym second ∙ sym first);
    }

is_le : (a b : ℕ) → a ≤ b → nat_le a b ≡ true
is_le a b h = grind (arith, nat_tests)

not_le : (a b : ℕ) → b < a → nat_le a b ≡ false
not_le a b h = grind (arith, nat_tests)

second_fails : (a b c : Bool) → b ≡ false → (a && (b && c)) ≡ false
second_fails true b c e = ap (λ d. d && c) e
second_fails false b c e = refl

all_hold : (a b c : Bool) → a ≡ true → b ≡ true → c ≡ true → (a && (b && (c && true))) ≡ true
all_hold a b c e f g = rw (e, f, g) refl

size_of_variables : (ns : List Name) → types_size (types_of (map variable ns)) ≡ length ns
size_of_variables [] = refl
size_of_variables (n ∷ ns) = let e = size_of_variables ns in omega (arith, e)

count_of_variables : (ns : List Name) → count (types_of (map variable ns)) ≡ length ns
count_of_variables [] = refl
count_of_variables (n ∷ ns) = let e = count_of_variables ns in omega (arith, e)

depth_of_variables : (ns : List Name) → types_depth (types_of (map variable ns)) ≡ min (length ns) 1
depth_of_variables [] = refl
depth_of_variables (n ∷ ns) = let e = depth_of_variables ns in omega (arith, e)

module _ (names : TypeNames) (c : HolType) where
  size_of_part : type_size (new_type names) ≡ length names.variables + 1
  size_of_part = let e = size_of_variables names.variables in omega (arith, e)

  size_of_abstraction : type_size (abstraction_type names c) ≡ type_size c + length names.variables + 2
  size_of_abstraction = let e = size_of_part in omega (arith, e)

  size_of_representation : type_size (representation_type names c) ≡ type_size c + length names.variables + 2
  size_of_representation = let e = size_of_part in omega (arith, e)

  -- how deep the new type is
  abbrev pub part_depth : ℕ
  part_depth = max (length names.variables) 1 + min (length names.variables) 1

  depth_of_part : type_depth (new_type names) ≡ part_depth
  depth_of_part = let e = count_of_variables names.variables in let f = depth_of_variables names.variables in omega (arith, e, f)

  depth_of_abstraction : type_depth (abstraction_type names c) ≡ max (type_depth c) part_depth + 2
  depth_of_abstraction = let e = depth_of_part in omega (arith, e)

  depth_of_representation : type_depth (representation_type names c) ≡ max (type_depth c) part_depth + 2
  depth_of_representation = let e = depth_of_part in omega (arith, e)

  -- what is too large
  pub limit-large : greatest_size < type_size c + length names.variables + 2 → limit_fault (types_made names c) ≡ Some TooLarge
  limit-large h =
      let e = size_of_abstraction in
      let f : greatest_size < type_size (abstraction_type names c) = omega (arith, e, h) in
      failing (list_all (λ t. nat_le (type_size t) greatest_size) (types_made names c)) TooLarge
      ((list_all (λ t. nat_le (type_depth t) greatest_depth) (types_made names c), TooDeep) ∷ [])
      (second_fails (nat_le (type_size (new_type names)) greatest_size) (nat_le (type_size (abstraction_type names c)) greatest_size)
      (nat_le (type_size (representation_type names c)) greatest_size && true)
      (not_le (type_size (abstraction_type names c)) greatest_size f))

  small : type_size c + length names.variables + 2 ≤ greatest_size → list_all (λ t. nat_le (type_size t) greatest_size) (types_made names c) ≡ true
  small h =
      let e = size_of_part in
      let f = size_of_abstraction in
      let g = size_of_representation in
      let i : type_size (new_type names) ≤ greatest_size = omega (arith, e, h) in
      let j : type_size (abstraction_type names c) ≤ greatest_size = omega (arith, f, h) in
      let k : type_size (representation_type names c) ≤ greatest_size = omega (arith, g, h) in
      all_hold (nat_le (type_size (new_type names)) greatest_size) (nat_le (type_size (abstraction_type names c)) greatest_size)
      (nat_le (type_size (representation_type names c)) greatest_size)
      (is_le (type_size (new_type names)) greatest_size i) (is_le (type_size (abstraction_type names c)) greatest_size j)
      (is_le (type_size (representation_type names c)) greatest_size k)

  not_large : type_size c + length names.variables + 2 ≤ greatest_size → limit_fault (types_made names c)
      ≡ first_failing ((list_all (λ t. nat_le (type_depth t) greatest_depth) (types_made names c), TooDeep) ∷ [])
  not_large k = passing (list_all (λ t. nat_le (type_size t) greatest_size) (types_made names c)) TooLarge
      ((list_all (λ t. nat_le (type_depth t) greatest_depth) (types_made names c), TooDeep) ∷ []) (small k)

  -- what isn't, and is too deep
  pub limit-deep : type_size c + length names.variables + 2 ≤ greatest_size → greatest_depth < max (type_depth c) part_depth + 2
      → limit_fault (types_made names c) ≡ Some TooDeep
  limit-deep k h =
      let e = depth_of_abstraction in
      let f : greatest_depth < type_depth (abstraction_type names c) = omega (arith, e, h) in
      not_large k
      ∙ failing (list_all (λ t. nat_le (type_depth t) greatest_depth) (types_made names c)) TooDeep []
      (second_fails (nat_le (type_depth (new_type names)) greatest_depth) (nat_le (type_depth (abstraction_type names c)) greatest_depth)
      (nat_le (type_depth (representation_type names c)) greatest_depth && true)
      (not_le (type_depth (abstraction_type names c)) greatest_depth f))

  -- what is neither
  pub limit-none : type_size c + length names.variables + 2 ≤ greatest_size → max (type_depth c) part_depth + 2 ≤ greatest_depth
      → limit_fault (types_made names c) ≡ None
  limit-none k h =
      let e = depth_of_part in
      let f = depth_of_abstraction in
      let g = depth_of_representation in
      let i : type_depth (new_type names) ≤ greatest_depth = omega (arith, e, h) in
      let j : type_depth (abstraction_type names c) ≤ greatest_depth = omega (arith, f, h) in
      let l : type_depth (representation_type names c) ≤ greatest_depth = omega (arith, g, h) in
      not_large k
      ∙ passing (list_all (λ t. nat_le (type_depth t) greatest_depth) (types_made names c)) TooDeep []
      (all_hold (nat_le (type_depth (new_type names)) greatest_depth) (nat_le (type_depth (abstraction_type names c)) greatest_depth)
      (nat_le (type_depth (representation_type names c)) greatest_depth)
      (is_le (type_depth (new_type names)) greatest_depth i) (is_le (type_depth (abstraction_type names c)) greatest_depth j)
      (is_le (type_depth (representation_type names c)) greatest_depth l))

-- what the symbols are with an operator more
module _ (a b : Trees) (k : Keeps a b) (old new : List Taken) (names : TypeNames) (whole : TypeId) (predicate : TermId) (known : AreKnownSymbols a old)
    (w : whole.0 < length a.types) (p : predicate.0 < length a.terms)
    (h : TakesOperator b.types old new names (type_at a whole.0) whole predicate) where
  same_type : type_at a whole.0 ≡ type_at b whole.0
  same_type = type_law.tree_at-Stays k.types.stays whole.0 w

  same_term : term_at a predicate.0 ≡ term_at b predicate.0
  same_term = term_in-Stays k.stays predicate.0 p

  pub operator-symbols : symbols_at b new ≡ symbols_at a old ++ Symbol.defined (Definition.type_operator names (type_at a whole.0) (term_at a predicate.0)) ∷ []
  operator-symbols =
      ap (symbols_at b) h.is ∙ symbols_at-append b old (Taken.type_operator names whole predicate h.abstraction h.representation ∷ [])
      ∙ ap₂ (λ l x. l ++ x ∷ []) (sym (symbols_at-Keeps k old known))
      (ap₂ (λ c f. Symbol.defined (Definition.type_operator names c f)) (sym same_type) (sym same_term))

  pub operator-known : AreKnownSymbols b new
  operator-known = subst (AreKnownSymbols b) (sym h.is)
      (AreKnownSymbols-append b old (Taken.type_operator names whole predicate h.abstraction h.representation ∷ []) (AreKnownSymbols-Keeps k old known) (
        record {
          ty = omega (arith, w, k.types.longer);
          predicate = omega (arith, p, k.longer);
          constants = subst (λ c. AreConstantTypes b.types names c h.abstraction h.representation) same_type h.constants;
        },
        tt,
      ))

-- the parts of one application are the same
pub same_function : {f g t u : Term} → app f t ≡ app g u → f ≡ g
same_function e = cc

pub same_argument : {f g t u : Term} → app f t ≡ app g u → t ≡ u
same_argument e = cc

-- the argument of an application that is a term is a term
pub argument_term : (f t : Term) → IsTerm (app f t) → IsTerm t
argument_term f t h = go (type_of f) (type_of t) h
  where
    go : (o p : Option HolType) → IsSome (application_type o p) → IsSome p
    go None p h = absurd (cc)
    go (Some a) None h = absurd (cc)
    go (Some a) (Some b) h = refl

lookup-behind : {A : Type 0} (b : Bool) (y : A) (o p : Option A) → cond b (Some y) o ≡ None → (o ≡ None → p ≡ None) → cond b (Some y) p ≡ None
lookup-behind true y o p h f = absurd (cc)
lookup-behind false y o p h f = f h

-- a name that isn't in a list is not there with another name behind it
pub lookup-last : {A : Type 0} (es : List (Name × A)) (n : Name) (x : A) (m : Name) → lookup (name_eq m) es ≡ None → name_eq m n ≡ false
    → lookup (name_eq m) (es ++ (n, x) ∷ []) ≡ None
lookup-last [] n x m h e = ap (λ b. cond b (Some x) None) e
lookup-last (y ∷ es) n x m h e = lookup-behind (name_eq m y.0) y.1 (lookup (name_eq m) es) (lookup (name_eq m) (es ++ (n, x) ∷ [])) h
    (λ k. lookup-last es n x m k e)

-- the tables have an operator more, with its constants
pub IsIndexed-operator : (xs ys : List Taken) (i : List Name) (g h : List (Name × TypeId)) (u : List (Name × ℕ)) (ns : List Name) (a b : List (Name × ℕ))
    (names : TypeNames) (c : TypeId) (f : TermId) (abs rep : TypeId) → IsIndexed xs i g u ns a
    → ys ≡ xs ++ Taken.type_operator names c f abs rep ∷ [] → h ≡ g ++ (names.abstraction, abs) ∷ (names.representation, rep) ∷ [] → b ≡ a
    ++ (names.operator, length names.variables) ∷ [] → IsIndexed ys i h u ns b
IsIndexed-operator xs ys i g h u ns a b names c f abs rep was e eh eb =
    let last = Taken.type_operator names c f abs rep ∷ [] in
    rw (e, eh, eb) (record {
      inputs_are = was.inputs_are ∙ sym (append-nil (inputs_of xs)) ∙ sym (flat_map-append inputs_in xs last);
      generics_are = ap (λ l. l ++ (names.abstraction, abs) ∷ (names.representation, rep) ∷ []) was.generics_are ∙ sym (flat_map-append generics_in xs last);
      uses_are = was.uses_are ∙ sym (append-nil (uses_of xs)) ∙ sym (flat_map-append uses_in xs last);
      names_are = λ n. was.names_are n ∙ ap (is_used n) (sym (append-nil (uses_of xs)) ∙ sym (flat_map-append uses_in xs last));
      arities_are = ap (λ l. l ++ (names.operator, length names.variables) ∷ []) was.arities_are ∙ sym (flat_map-append arities_in xs last);
    })
