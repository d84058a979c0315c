-- A constant whose type is put for a variable.
use Rattle.std.proofs.Common.{◌≡◌, ◌<◌, sym, ap, subst, ◌∙◌, arith, List, [], ◌∷◌, length, Some, None, cond, Result, Ok, Err, IfOk}
use Rattle.std.specs.Prelude.{unwrap_or}
use Rattle.std.proofs.Math.Path.{ap₂}
use Rattle.hol_spec.specs.Names.{Name}
use Rattle.hol_spec.specs.Types.{HolType, variable}
use Rattle.hol_spec.specs.Terms.{Term, constant}
use Rattle.hol_type.specs.declared.table.TypeId.{TypeId}
use Rattle.hol_type.specs.Tables as type
use Rattle.hol_type.specs.TableLaws as type_law
use Rattle.hol_term.specs.declared.TermId.{TermId}
use Rattle.hol_term.specs.Substitutions.{image_of, AreKnownPairs}
use Rattle.hol_term.specs.Tables.{Trees, term_at, type_at, Holds, Keeps}
use Rattle.hol_term.specs.TableLaws.{Some-term_in}
use Rattle.hol_rules.specs.Premises.{IsNumberOf}
use Rattle.hol_laws.specs.NameEqualityLaws.{name_eq-refl}

-- a number has the term that it holds
pub held : (a : Trees) (id : TermId) (t : Term) → id.0 < length a.terms → Holds a id.0 t → IsNumberOf a id t
held a id t l h = record { known = l; is = Some-term_in a.terms id.0 t h }

-- the same of a type
pub IfOk-type : {E : Type 0} (types : List HolType) (t : HolType) (r : Result TypeId E) → IfOk r (λ id. type.Holds types id.0 t)
    → IfOk r (λ id. type.tree_at types id.0 ≡ t)
IfOk-type types t (Ok id) h = type_law.Holds-tree_at types id.0 t h
IfOk-type types t (Err x) h = tt

-- the same of an answer
pub IfOk-held : {E : Type 0} (a : Trees) (t u : Term) → t ≡ u → (r : Result TermId E) → IfOk r (λ id. id.0 < length a.terms) → IfOk r (λ id. Holds a id.0 t)
    → IfOk r (λ id. IsNumberOf a id u)
IfOk-held a t u e (Ok id) l h = record { known = l; is = Some-term_in a.terms id.0 t h ∙ e }
IfOk-held a t u e (Err x) l h = tt

-- a constant of a type that is put for a variable
pub constant-image : (a b : Trees) (k : Keeps a b) (pairs : List (Name × TypeId)) (v n : Name) (ty : TypeId) (id : TermId) → ty.0 < length a.types → pairs
    ≡ (v, ty) ∷ [] → term_at b id.0 ≡ constant n (variable v)
    → image_of b pairs [] (term_at b id.0) ≡ constant n (type_at a ty.0)
constant-image a b k pairs v n ty id l e f =
    let t = type_at b ty.0 in
    ap₂ (λ ps u. image_of b ps [] u) e f ∙ ap (λ r. constant n (unwrap_or (cond r (Some t) None) (variable v))) (name_eq-refl v)
    ∙ ap (constant n) (sym (type_law.tree_at-Stays k.types.stays ty.0 l))

-- a type and its variable are a known pair
pub known-pair : (a b : Trees) (k : Keeps a b) (pairs : List (Name × TypeId)) (v : Name) (ty : TypeId) → ty.0 < length a.types → pairs ≡ (v, ty) ∷ []
    → AreKnownPairs b pairs []
known-pair a b k pairs v ty l e = record
    { known_types = subst (type.ArePairsKnown b.types) (sym e) (omega (arith, l, k.types.longer), tt {0}); known_terms = tt }
