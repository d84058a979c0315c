-- What a call that makes a term answers, once its tree is made and judged.
use Rattle.std.proofs.Common.{◌≡◌, ℕ, ◌<◌, ◌≤◌, refl, sym, ap, ◌∙◌, subst, arith, Option, Some, None, Result, Ok, Err, cond, length, List, [], ◌∷◌, get_or, ◌⊎◌, inl, inr}
use Rattle.std.specs.Prelude.{IfErr, OnOk, IsSome, slice_get, unwrap_or}
use Rattle.std.proofs.lemmas.Option.{slice_get_cases}
use Rattle.std.proofs.Math.Path.{ap₂}
use Rattle.hol_spec.specs.Types.{HolType, type_eq}
use Rattle.hol_spec.specs.Names.{Name}
use Rattle.hol_spec.specs.Primitives.{bool, function, equality_name, equality_type}
use Rattle.hol_spec.specs.Terms.{Term, free, bound, constant, app, lam, IsTerm, HasType, type_of, equation}
use Rattle.hol_laws.specs.TermLaws.{type_eq-refl, type_of-equation}
use Rattle.hol_spec.specs.TermBinding.{close}
use Rattle.hol_spec.specs.Limits.{TermWithin, greatest_size, greatest_depth}
use Rattle.common.specs.declared.faults.Fault.{Fault}
use Rattle.common.specs.declared.faults.Fault.TheVariants.{Refused, Memory}
use Rattle.common.specs.declared.faults.Kind.TheVariants.{TooLarge, TooDeep}
use Rattle.hol_type.specs.Refusals.{Refuses}
use Rattle.hol_type.specs.declared.table.TypeId.{TypeId}
use Rattle.hol_type.specs.Tables.{tree_at}
use Rattle.hol_type.specs.Tables as type
use Rattle.hol_type.specs.TableLaws as type_law
use Rattle.hol_term.specs.declared.memo.Change.TheVariants.{Close}
use Rattle.hol_term.specs.declared.node.Measures.{Measures}
use Rattle.hol_term.specs.Tables.{Trees, term_at, type_at, Holds, Keeps, IsTermAt, IsTypeNumber}
use Rattle.hol_term.specs.TableLaws.{Some-term_in, Stays-trans, term_in-Stays}
use Rattle.hol_term.specs.Shapes.{equation_of}
use Rattle.hol_term.specs.Walks.{changed}
use Rattle.hol_term.proofs.Typings.{not_equal}
use Rattle.hol_term.specs.Nodes.{AreMeasures}
use Rattle.hol_term.specs.Refusals.{RefusesTerm, RefusesTyped}

pub IfErr-map : {T E : Type 0} {P Q : E → Type 0} (r : Result T E) → ((e : E) → P e → Q e) → IfErr r P → IfErr r Q
IfErr-map (Ok v) f h = tt
IfErr-map (Err e) f h = f e h

-- what holds in any case holds where a call succeeds
pub OnOk-always : {T E P : Type 0} (r : Result T E) → P → OnOk r P
OnOk-always (Ok v) h = h
OnOk-always (Err e) h = tt

-- a table lacks a number that has no term
pub known_term : (trees : Trees) (id : ℕ) → IsTermAt trees id → id < length trees.terms
known_term trees id h = go (slice_get_cases trees.terms id).1
  where
    go : ((x : Term) × (id < length trees.terms) × (slice_get trees.terms id ≡ Some x) × (get_or trees.terms id x ≡ x))
        ⊎ ((length trees.terms ≤ id) × (slice_get trees.terms id ≡ None)) → id < length trees.terms
    go (inl w) = w.1
    go (inr w) = absurd (let e = ap (λ o. unwrap_or o (bound 0)) w.1 in let f = subst IsTerm e h in cc)

-- measures within the limits are of a tree within them
pub within : (m : Measures) (t : Term) → AreMeasures m t → m.size ≤ greatest_size → m.depth ≤ greatest_depth → TermWithin t
within m t a s d = record { size = omega (arith, a.size, s); depth = omega (arith, a.depth, d) }

pub refused : (m : Measures) (t : Term) → AreMeasures m t → (fault : Fault) → Refuses fault m.size m.depth → RefusesTerm fault t
refused m t a (Refused TooLarge) h = omega (arith, a.size, h)
refused m t a (Refused TooDeep) h = (omega (arith, a.size, h.0), omega (arith, a.depth, h.1))
refused m t a (Refused kind) h = absurd h
refused m t a Memory h = tt

-- a term is refused for a limit alone
pub typed_refusal : (t : Term) → IsTerm t → (fault : Fault) → RefusesTerm fault t → RefusesTyped fault t
typed_refusal t it (Refused TooLarge) h = (it, h)
typed_refusal t it (Refused TooDeep) h = (it, h)
typed_refusal t it (Refused kind) h = absurd h
typed_refusal t it Memory h = tt

pub type_number : (types : List HolType) (ty : Option TypeId) (t : Term) → IsTerm t → IsTypeNumber types ty (type_of t) → IsSome ty
type_number types None t it n = absurd (let e = subst IsSome n it in cc)
type_number types (Some id) t it n = refl

pub IsTerm-HasType : (t : Term) (a : HolType) → HasType t a → IsTerm t
IsTerm-HasType t a h = subst IsSome (sym h) refl

pub number_term : (types : List HolType) (id : TypeId) (t : Term) → IsTypeNumber types (Some id) (type_of t) → IsTerm t
number_term types id t h = IsTerm-HasType t (tree_at types id.0) h.1

-- the equation of two terms, where the first has this type
module _ (l r : Term) (a b : HolType) (hl : HasType l a) (hr : HasType r b) where
  pub equation_is : equation a l r ≡ equation_of l r
  equation_is = ap (λ o. equation (unwrap_or o bool) l r) (sym hl)

  typed_parts : (t : HolType) → t ≡ a → type_of (equation a l r) ≡ cond (type_eq a b) (Some bool) None
  typed_parts t e = rw (hl, hr, type_eq-refl a) refl

  pub equation_mismatch : (a ≡ b → ⊥) → type_of (equation_of l r) ≡ None
  equation_mismatch n = ap type_of (sym equation_is) ∙ typed_parts a refl ∙ ap (λ c. cond c (Some bool) None) (not_equal a b n)

  pub equation_term : b ≡ a → IsTerm (equation_of l r)
  equation_term e = subst IsTerm equation_is (IsTerm-HasType (equation a l r) bool (type_of-equation a l r hl (hr ∙ ap Some e)))

-- types with different numbers differ
pub types_apart : (types : List HolType) → type.IsDistinct types → (t u : TypeId) → t.0 < length types → u.0 < length types → (t.0 ≡ u.0 → ⊥)
    → tree_at types t.0 ≡ tree_at types u.0 → ⊥
types_apart types c t u ht hu n e = n (ap (λ (i : TypeId). i.0) (type_law.tree_at-same c t u ht hu e))

-- a body that is closed over a variable of the table
pub made_closed : (a b d : Trees) (v ty body id : ℕ) (name : Name) → Keeps a b → id < length a.terms → Holds b v (free name (type_at a ty))
    → Holds d body (changed (term_at b v ∷ []) Close 0 (term_at b id)) → Holds d body (close (name, type_at a ty) (term_at a id))
made_closed a b d v ty body id name k lt hv hb =
    let vt = Some-term_in b.terms v (free name (type_at a ty)) hv in
    hb ∙ ap Some (ap₂ (λ w u. changed (w ∷ []) Close 0 u) vt (sym (term_in-Stays k.stays id lt)))

-- an abstraction whose body is closed
pub made_abs : (a d g : Trees) (ty body r : ℕ) (t : Term) → Keeps a d → ty < length a.types → Holds d body t → Holds g r (lam (type_at d ty) (term_at d body))
    → Holds g r (lam (type_at a ty) t)
made_abs a d g ty body r t k lt hb h = h ∙ ap Some (ap₂ lam (sym (type_law.tree_at-Stays k.types.stays ty lt)) (Some-term_in d.terms body t hb))

-- an equation whose sides are of the table
pub made_equation : (a b d g : Trees) (e l m r id : ℕ) (t : HolType) → Keeps a b → Keeps b d → l < length a.terms → r < length a.terms
    → Holds b e (constant equality_name (equality_type t)) → Holds d m (app (term_at b e) (term_at b l)) → Holds g id (app (term_at d m) (term_at d r))
    → Holds g id (equation t (term_at a l) (term_at a r))
made_equation a b d g e l m r id t k k' hl hr he hm h =
    let sign : term_at b e ≡ constant equality_name (equality_type t) = Some-term_in b.terms e (constant equality_name (equality_type t)) he in
    let left : term_at d m ≡ app (constant equality_name (equality_type t)) (term_at a l)
    = Some-term_in d.terms m (app (term_at b e) (term_at b l)) hm ∙ ap₂ app sign (sym (term_in-Stays k.stays l hl)) in
    h ∙ ap Some (ap₂ app left (sym (term_in-Stays (Stays-trans k.stays k'.stays) r hr)))

-- the type of the relations over a type of the table
pub relation_at : (a b d : Trees) (ty truth predicate : ℕ) → Keeps a b → Keeps b d → ty < length a.types → type_at b truth ≡ bool → type_at d predicate
    ≡ function (type_at b ty) (type_at b truth) → function (type_at d ty) (type_at d predicate) ≡ equality_type (type_at a ty)
relation_at a b d ty truth predicate k l lt is_bool is =
    let first : type_at b ty ≡ type_at a ty = sym (type_law.tree_at-Stays k.types.stays ty lt) in
    let last : type_at d ty ≡ type_at a ty = sym (type_law.tree_at-Stays (type_law.Stays-trans k.types.stays l.types.stays) ty lt) in
    ap₂ function last (is ∙ ap₂ function first is_bool)
