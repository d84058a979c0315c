-- The trees of the laws of a new type.
use Rattle.std.proofs.Common.{◌≡◌, ◌<◌, refl, sym, ap, subst, ◌∙◌, arith, List, [], ◌∷◌, ◌++◌, map, length, true, Result, Ok, Err, IfOk}
use Rattle.std.proofs.lemmas.List.{map-append}
use Rattle.std.proofs.Math.Path.{ap₂}
use Rattle.hol_spec.specs.Names.{Name}
use Rattle.hol_spec.specs.Types.{HolType, variable}
use Rattle.hol_spec.specs.Primitives.{bool, function}
use Rattle.hol_spec.specs.Rules.{abstraction, derived}
use Rattle.hol_spec.specs.Definitions.{TypeNames}
use Rattle.hol_spec.specs.NewTypes.{new_type, abstraction_type, representation_type}
use Rattle.hol_spec.specs.TypeDefinitions.{first_law_of, second_law_of}
use Rattle.hol_spec.specs.declared.Version.{Version}
use Rattle.hol_spec.specs.declared.Version.TheVariants.{Five, Six}
use Rattle.hol_spec.specs.Terms.{Term, Variable as AVariable, free, constant, app, equation, variable_eq}
use Rattle.hol_laws.specs.TermLaws.{variable_eq-Decides}
use Rattle.hol_type.specs.declared.table.TypeId.{TypeId}
use Rattle.hol_type.specs.Tables as type
use Rattle.hol_type.specs.TableLaws as type_law
use Rattle.hol_term.specs.declared.TermId.{TermId}
use Rattle.hol_term.specs.declared.Variable.{Variable}
use Rattle.hol_term.specs.Tables.{Trees, term_at, terms_at, type_at, AreKnown, Holds, Keeps}
use Rattle.hol_term.specs.TableLaws.{Keeps-refl, Keeps-trans, term_in-Stays, Some-term_in}
use Rattle.hol_rules.specs.declared.laws.NewPart.{NewPart}
use Rattle.hol_rules.specs.Laws.{part_constants, first_tree, first_tree_of, second_tree, second_tree_of, IsNewPart, IsPartKnown, IsTypeOf, IsWithoutVariables}
use Rattle.hol_rules.specs.Premises.{IsNumberOf, IsStated}
use Rattle.hol_rules.specs.Views.{variable_view}
use Rattle.hol_rules.proofs.ClosedTerms.{close_at-closed}

-- a number keeps its type, and its tree
pub type-kept : {a b : Trees} → Keeps a b → {id : TypeId} {t : HolType} → IsTypeOf a id t → IsTypeOf b id t
type-kept k {id = id} n = record { known = omega (arith, k.types.longer, n.known); is = sym (type_law.tree_at-Stays k.types.stays id.0 n.known) ∙ n.is }

pub number-kept : {a b : Trees} → Keeps a b → {id : TermId} {t : Term} → IsNumberOf a id t → IsNumberOf b id t
number-kept k {id = id} n = record { known = omega (arith, k.longer, n.known); is = sym (term_in-Stays k.stays id.0 n.known) ∙ n.is }

pub variable-kept : {a b : Trees} → Keeps a b → (v : Variable) → v.ty.0 < length a.types → variable_view b v ≡ variable_view a v
variable-kept k v h = ap (λ t. (v.name, t)) (sym (type_law.tree_at-Stays k.types.stays v.ty.0 h))

pub own-type : (a : Trees) (id : TypeId) → id.0 < length a.types → IsTypeOf a id (type_at a id.0)
own-type a id h = record { known = h; is = refl }

pub own-number : (a : Trees) (id : TermId) → id.0 < length a.terms → IsNumberOf a id (term_at a id.0)
own-number a id h = record { known = h; is = refl }

-- a table that has kept what it had has the type variables of these names
pub record AreVariables (old new : Trees) (names : List Name) (ids : List TypeId) : Type 0 where
  pub keeps : Keeps old new
  pub known : type.AreKnown new.types ids
  pub made : type.types_at new.types ids ≡ map variable names

pub AreVariables-none : (a : Trees) → AreVariables a a [] []
AreVariables-none a = record { keeps = Keeps-refl a; known = tt; made = refl }

known-append : (types : List HolType) (ids : List TypeId) (id : TypeId) → type.AreKnown types ids → id.0 < length types → type.AreKnown types (ids ++ id ∷ [])
known-append types [] id h k = (k, tt)
known-append types (i ∷ ids) id h k = (h.0, known-append types ids id h.1 k)

-- and one more
pub AreVariables-more : {a b c : Trees} (names : List Name) (ids : List TypeId) (name : Name) (id : TypeId) → AreVariables a b names ids → Keeps b c
    → id.0 < length c.types → type.Holds c.types id.0 (variable name)
    → AreVariables a c (names ++ name ∷ []) (ids ++ id ∷ [])
AreVariables-more {a = a} {b = b} {c = c} names ids name id h k known made = record {
  keeps = Keeps-trans h.keeps k;
  known = known-append c.types ids id (type_law.AreKnown-Keeps k.types ids h.known) known;
  made =
      map-append (λ (i : TypeId). type.tree_at c.types i.0) ids (id ∷ [])
      ∙ ap₂ (λ l t. l ++ t ∷ []) (sym (type_law.types_at-Stays k.types.stays ids h.known) ∙ h.made)
      (type_law.Holds-tree_at c.types id.0 (variable name) made)
      ∙ sym (map-append variable names (name ∷ []));
}

-- an application, and an equation, of what numbers stand for
pub applied : (a b : Trees) (f x id : TermId) (F X : Term) → IsNumberOf a f F → IsNumberOf a x X → id.0 < length b.terms
    → Holds b id.0 (app (term_at a f.0) (term_at a x.0)) → IsNumberOf b id (app F X)
applied a b f x id F X m n l h = record { known = l; is = Some-term_in b.terms id.0 _ h ∙ ap₂ app m.is n.is }

pub equated : (a b : Trees) (ty : TypeId) (f x id : TermId) (T : HolType) (F X : Term) → IsTypeOf a ty T → IsNumberOf a f F → IsNumberOf a x X
    → id.0 < length b.terms → Holds b id.0 (equation (type_at a ty.0) (term_at a f.0) (term_at a x.0)) → IsNumberOf b id (equation T F X)
equated a b ty f x id T F X t m n l h = record { known = l; is = Some-term_in b.terms id.0 _ h ∙ (λ i. equation (t.is i) (m.is i) (n.is i)) }

-- the same of an answer
pub IfOk-applied : {E : Type 0} (a b : Trees) (f x : TermId) (r : Result TermId E) (F X : Term) → IsNumberOf a f F → IsNumberOf a x X
    → IfOk r (λ id. id.0 < length b.terms) → IfOk r (λ id. Holds b id.0 (app (term_at a f.0) (term_at a x.0))) → IfOk r (λ id. IsNumberOf b id (app F X))
IfOk-applied a b f x (Ok id) F X m n l h = applied a b f x id F X m n l h
IfOk-applied a b f x (Err e) F X m n l h = tt

pub IfOk-equated : {E : Type 0} (a b : Trees) (ty : TypeId) (f x : TermId) (r : Result TermId E) (T : HolType) (F X : Term) → IsTypeOf a ty T → IsNumberOf a f F
    → IsNumberOf a x X → IfOk r (λ id. id.0 < length b.terms)
    → IfOk r (λ id. Holds b id.0 (equation (type_at a ty.0) (term_at a f.0) (term_at a x.0))) → IfOk r (λ id. IsNumberOf b id (equation T F X))
IfOk-equated a b ty f x (Ok id) T F X t m n l h = equated a b ty f x id T F X t m n l h
IfOk-equated a b ty f x (Err e) T F X t m n l h = tt

own-variable : (v : AVariable) → variable_eq v v ≡ true
own-variable v = (variable_eq-Decides v v).1 refl

-- a constant has no variable
constant-without : (n : Name) (c : HolType) → IsWithoutVariables (constant n c)
constant-without n c = record { free = refl; loose = omega (arith) }

-- the numbers of a new type and its constants are of the table
pub IsNewPart-known : {trees : Trees} {names : TypeNames} {c : HolType} {part : NewPart} → IsNewPart trees names c part → IsPartKnown trees part
IsNewPart-known h = record {
  ty = h.ty.known;
  abs = h.abs.known;
  rep = h.rep.known;
  abs_closed = subst IsWithoutVariables (sym h.abs.is) (constant-without _ _);
  rep_closed = subst IsWithoutVariables (sym h.rep.is) (constant-without _ _);
}

-- they stay what they are
pub IsNewPart-kept : {a b : Trees} → Keeps a b → {names : TypeNames} {c : HolType} {part : NewPart} → IsNewPart a names c part → IsNewPart b names c part
IsNewPart-kept k h = record { ty = type-kept k h.ty; abs = number-kept k h.abs; rep = number-kept k h.rep }

-- one constant after another, under a binder
module _ (v : AVariable) (m n : Term) (p : IsWithoutVariables m) (q : IsWithoutVariables n) where
  pub first-closed : equation (function v.1 v.1) (abstraction v (app m (app n (free v.0 v.1)))) (abstraction v (free v.0 v.1)) ≡ first_tree v.1 (m, n)
  first-closed = rw (own-variable v, close_at-closed 0 v m p.free p.loose, close_at-closed 0 v n q.free q.loose) refl

  pub second-closed : (f : Term) → IsWithoutVariables f
      → equation (function v.1 bool) (abstraction v (equation v.1 (app n (app m (free v.0 v.1))) (free v.0 v.1))) (abstraction v (app f (free v.0 v.1)))
      ≡ second_tree v.1 (m, n) f
  second-closed f h = rw (own-variable v, close_at-closed 0 v m p.free p.loose, close_at-closed 0 v n q.free q.loose, close_at-closed 0 v f h.free h.loose) refl

-- an equation of abstractions of what numbers stand for
pub abstracted : (a b : Trees) (v : Variable) (w : AVariable) (f x id : TermId) (ty : TypeId) (T : HolType) (F X : Term) → variable_view a v ≡ w
    → IsTypeOf a ty T → IsNumberOf a f F → IsNumberOf a x X
    → IsNumberOf b id (equation (type_at a ty.0) (abstraction (variable_view a v) (term_at a f.0)) (abstraction (variable_view a v) (term_at a x.0)))
    → IsNumberOf b id (equation T (abstraction w F) (abstraction w X))
abstracted a b v w f x id ty T F X e t m n h = record
    { known = h.known; is = h.is ∙ (λ i. equation (t.is i) (abstraction (e i) (m.is i)) (abstraction (e i) (n.is i))) }

pub IfOk-abstracted : {E : Type 0} (a b : Trees) (v : Variable) (w : AVariable) (f x : TermId) (r : Result TermId E) (ty : TypeId) (T : HolType) (F X : Term)
    → variable_view a v ≡ w → IsTypeOf a ty T → IsNumberOf a f F → IsNumberOf a x X
    → (t : Term) → equation T (abstraction w F) (abstraction w X) ≡ t
    → IfOk r (λ id. IsNumberOf b id
    (equation (type_at a ty.0) (abstraction (variable_view a v) (term_at a f.0)) (abstraction (variable_view a v) (term_at a x.0))))
    → IfOk r (λ id. IsNumberOf b id t)
IfOk-abstracted a b v w f x (Ok id) ty T F X e s m n t q h = subst (IsNumberOf b id) q (abstracted a b v w f x id ty T F X e s m n h)
IfOk-abstracted a b v w f x (Err u) ty T F X e s m n t q h = tt

-- a law without hypotheses
pub law-stated : (trees : Trees) (hyps : List TermId) (concl : TermId) (t : Term) → hyps ≡ [] → IsNumberOf trees concl t
    → IsStated trees (record { hyps = hyps; concl = concl }) (derived [] t)
law-stated trees hyps concl t e n = record
    { known = (subst (AreKnown trees) (sym e) (tt {0}), n.known); is = λ i. record { hypotheses = terms_at trees (e i); conclusion = n.is i } }

-- the constants of a definition
abbrev constants_of : TypeNames → HolType → Term × Term
constants_of names c = (constant names.abstraction (abstraction_type names c), constant names.representation (representation_type names c))

constants-are : {trees : Trees} {names : TypeNames} {c : HolType} {part : NewPart} → IsNewPart trees names c part → part_constants trees part
    ≡ constants_of names c
constants-are h = λ i. (h.abs.is i, h.rep.is i)

first_tree_of-law : (version : Version) (names : TypeNames) (c : HolType) → derived [] (first_tree_of version (new_type names) (constants_of names c))
    ≡ first_law_of version names c
first_tree_of-law Five names c = refl
first_tree_of-law Six names c = refl

second_tree_of-law : (version : Version) (names : TypeNames) (c : HolType) (f : Term) → derived [] (second_tree_of version c (constants_of names c) f)
    ≡ second_law_of version names c f
second_tree_of-law Five names c f = refl
second_tree_of-law Six names c f = refl

-- the laws in an article of a version, by their trees
pub first-law : (version : Version) {trees : Trees} {names : TypeNames} {c : HolType} {part : NewPart} → IsNewPart trees names c part
    → derived [] (first_tree_of version (type_at trees part.ty.0) (part_constants trees part)) ≡ first_law_of version names c
first-law version {names = names} {c = c} h = ap₂ (λ n k. derived [] (first_tree_of version n k)) h.ty.is (constants-are h) ∙ first_tree_of-law version names c

pub second-law : (version : Version) {trees : Trees} {names : TypeNames} {c : HolType} {part : NewPart} → IsNewPart trees names c part
    → {whole : HolType} {f g : Term} → whole ≡ c → g ≡ f
    → derived [] (second_tree_of version whole (part_constants trees part) g) ≡ second_law_of version names c f
second-law version {names = names} {c = c} h {f = f} e d =
    (λ i. derived [] (second_tree_of version (e i) (constants-are h i) (d i))) ∙ second_tree_of-law version names c f
