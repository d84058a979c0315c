-- The types of trees, as they are found.
use Rattle.std.proofs.Common.{◌≡◌, ℕ, zero, suc, ◌<◌, ◌≤◌, refl, sym, ap, ◌∙◌, subst, arith, List, [], ◌∷◌, length, Option, Some, None, Bool, true, false, cond}
use Rattle.std.specs.Prelude.{slice_get}
use Rattle.std.specs.Option.{option_map}
use Rattle.std.proofs.Math.Path.{ap₂}
use Rattle.std.proofs.lemmas.List.{append-nil}
use Rattle.hol_spec.specs.Types.{HolType, type_eq}
use Rattle.hol_laws.specs.TypeLaws.{type_eq-Decides}
use Rattle.hol_spec.specs.Primitives.{function, function_parts}
use Rattle.hol_spec.specs.Terms.{Term, free, bound, constant, app, lam, type_under, type_of, application_type, result_type}
use Rattle.hol_laws.specs.TermLaws.{type_eq-refl}
use Rattle.hol_spec.specs.TermBinding.{loose}
use Rattle.hol_laws.specs.TermClosed.{lift_at-closed}
use Rattle.hol_laws.specs.TermTyping.{type_under-lift_at, loose-typed}
use Rattle.hol_type.specs.declared.table.TypeId.{TypeId}
use Rattle.hol_type.specs.Tables.{tree_at, two_at, types_at}
use Rattle.hol_type.specs.Tables as type
use Rattle.hol_type.specs.TableLaws as type_law
use Rattle.hol_term.specs.declared.node.Node.{Node}
use Rattle.hol_term.specs.declared.node.Measures.{Measures}
use Rattle.hol_term.specs.declared.node.Facts.{Facts}
use Rattle.hol_term.specs.Tables.{Trees, term_at, type_at, Keeps, IsTypeNumber}
use Rattle.hol_term.specs.TableLaws.{term_in-Stays, tree_of_node-Stays, IsTypeNumber-Keeps}
use Rattle.hol_term.specs.Nodes.{tree_of_node, PartsBelow, AreMeasures, IsMeasured}
use Rattle.hol_term.specs.Parts.{IsLeaf}
use Rattle.hol_term.specs.Typing.{type_in}

-- types that are not one fail their test
pub not_equal : (t u : HolType) → (t ≡ u → ⊥) → type_eq t u ≡ false
not_equal t u n = go (type_eq t u) refl
  where
    go : (b : Bool) → type_eq t u ≡ b → b ≡ false
    go true e = absurd (n ((type_eq-Decides t u).0 e))
    go false e = refl

-- an application, from the numbers of its parts' types
module _ (types : List HolType) (function_id argument : Option TypeId) (f x d r : TypeId) (is_f : function_id ≡ Some f) (is_x : argument ≡ Some x)
    (parts : option_map (two_at types) (Some (d, r)) ≡ function_parts (tree_at types f.0)) (o p : Option HolType) (ho : IsTypeNumber types function_id o)
    (hp : IsTypeNumber types argument p) where
  hf : IsTypeNumber types (Some f) o
  hf = subst (λ w. IsTypeNumber types w o) is_f ho

  hx : IsTypeNumber types (Some x) p
  hx = subst (λ w. IsTypeNumber types w p) is_x hp

  on_types : application_type o p ≡ cond (type_eq (tree_at types d.0) (tree_at types x.0)) (Some (tree_at types r.0)) None
  on_types = ap₂ application_type hf.1 hx.1 ∙ ap (λ w. result_type w (tree_at types x.0)) (sym parts)

  pub applied_alike : r.0 < f.0 → d.0 ≡ x.0 → (r.0 < length types) × (application_type o p ≡ Some (tree_at types r.0))
  applied_alike lt e = (
    omega (arith, lt, hf.0),
    on_types ∙ ap (λ b. cond b (Some (tree_at types r.0)) None) (ap (λ n. type_eq (tree_at types n) (tree_at types x.0)) e ∙ type_eq-refl (tree_at types x.0)),
  )

  pub applied_apart : type.IsDistinct types → d.0 < f.0 → (d.0 ≡ x.0 → ⊥) → application_type o p ≡ None
  applied_apart c lt n =
      let w : d.0 < length types = omega (arith, lt, hf.0) in
      on_types ∙ ap (λ b. cond b (Some (tree_at types r.0)) None)
      (not_equal (tree_at types d.0) (tree_at types x.0) (λ e. n (ap (λ (i : TypeId). i.0) (type_law.tree_at-same c d x w hx.0 e))))

-- without loose numbers, a tree has under binders the type that it has under none
pub type_under-closed : (binders : List HolType) (t : Term) → loose t ≤ 0 → type_under binders t ≡ type_of t
type_under-closed binders t h =
    ap₂ (λ bs u. type_under bs u) (sym (append-nil binders)) (sym (lift_at-closed 0 (length binders) t h)) ∙ type_under-lift_at [] binders [] t

pub type_under-leaf : (binders : List HolType) (t : Term) → IsLeaf t → type_under binders t ≡ type_of t
type_under-leaf binders (free n a) h = refl
type_under-leaf binders (bound n) h = absurd h
type_under-leaf binders (constant n a) h = refl
type_under-leaf binders (app f x) h = absurd h
type_under-leaf binders (lam a b) h = absurd h

-- a tree with a number that passes its binders has no type
pub type_of-loose : (a : HolType) (t : Term) → 1 < loose t → option_map (function a) (type_under (a ∷ []) t) ≡ None
type_of-loose a t h = go (type_under (a ∷ []) t) refl
  where
    go : (o : Option HolType) → type_under (a ∷ []) t ≡ o → option_map (function a) o ≡ None
    go None e = refl
    go (Some b) e = absurd (omega (arith, h, loose-typed (a ∷ []) t b e))

-- the types of known binders have numbers
pub at_number : (types : List HolType) (binders : List TypeId) (n : ℕ) → type.AreKnown types binders
    → IsTypeNumber types (slice_get binders n) (slice_get (types_at types binders) n)
at_number types [] n h = refl
at_number types (b ∷ bs) zero h = (h.0, refl)
at_number types (b ∷ bs) (suc n) h = at_number types bs n h.1

-- a longer table gives a tree the same type
pub type_in-Keeps : (a b : Trees) (binders : List TypeId) (id : ℕ) → Keeps a b → type.AreKnown a.types binders → id < length a.terms → type_in a binders id
    ≡ type_in b binders id
type_in-Keeps a b binders id k h lt = ap₂ type_under (type_law.types_at-Stays k.types.stays binders h) (term_in-Stays k.stays id lt)

pub in_closed : (a : Trees) (binders : List TypeId) (id : ℕ) (ty : Option TypeId) → loose (term_at a id) ≤ 0 → IsTypeNumber a.types ty (type_of (term_at a id))
    → IsTypeNumber a.types ty (type_in a binders id)
in_closed a binders id ty h n = subst (IsTypeNumber a.types ty) (sym (type_under-closed (types_at a.types binders) (term_at a id) h)) n

pub in_leaf : (a : Trees) (binders : List TypeId) (id : ℕ) (ty : Option TypeId) → IsLeaf (term_at a id) → IsTypeNumber a.types ty (type_of (term_at a id))
    → IsTypeNumber a.types ty (type_in a binders id)
in_leaf a binders id ty h n = subst (IsTypeNumber a.types ty) (sym (type_under-leaf (types_at a.types binders) (term_at a id) h)) n

pub in_bound : (a : Trees) (binders : List TypeId) (id n : ℕ) (ty : Option TypeId) → type.AreKnown a.types binders → term_at a id ≡ bound n → ty
    ≡ slice_get binders n → IsTypeNumber a.types ty (type_in a binders id)
in_bound a binders id n ty h e at =
    subst (λ w. IsTypeNumber a.types w (type_in a binders id)) (sym at)
    (subst (λ t. IsTypeNumber a.types (slice_get binders n) (type_under (types_at a.types binders) t)) (sym e) (at_number a.types binders n h))

pub in_app : (a b d : Trees) (binders binders' : List TypeId) (id : ℕ) (f x : ℕ) (fn arg r : Option TypeId) → Keeps a b → Keeps b d
    → type.AreKnown a.types binders → x < length a.terms → term_at a id ≡ app (term_at a f) (term_at a x) → IsTypeNumber b.types fn (type_in a binders f)
    → binders' ≡ binders → IsTypeNumber d.types arg (type_in b binders' x)
    → ((o p : Option HolType) → IsTypeNumber d.types fn o → IsTypeNumber d.types arg p → IsTypeNumber d.types r (application_type o p))
    → IsTypeNumber d.types r (type_in a binders id)
in_app a b d binders binders' id f x fn arg r k l h lt e hf same hx step =
    let hf' = IsTypeNumber-Keeps l.types fn (type_in a binders f) hf in
    let hx' = subst (IsTypeNumber d.types arg) (ap (λ bs. type_in b bs x) same ∙ sym (type_in-Keeps a b binders x k h lt)) hx in
    subst (λ t. IsTypeNumber d.types r (type_under (types_at a.types binders) t)) (sym e) (step (type_in a binders f) (type_in a binders x) hf' hx')

pub in_lam : (a b d : Trees) (binders binders' : List TypeId) (id : ℕ) (ty : TypeId) (part : ℕ) (inner r : Option TypeId) → Keeps a b → ty.0 < length a.types
    → term_at a id ≡ lam (type_at a ty.0) (term_at a part) → binders' ≡ ty ∷ binders → IsTypeNumber b.types inner (type_in a binders' part)
    → ((o : Option HolType) → IsTypeNumber b.types inner o → IsTypeNumber d.types r (option_map (function (type_at b ty.0)) o))
    → IsTypeNumber d.types r (type_in a binders id)
in_lam a b d binders binders' id ty part inner r k lt e same hb step =
    let hb' = subst (λ bs. IsTypeNumber b.types inner (type_in a bs part)) same hb in
    let s = step (type_in a (ty ∷ binders) part) hb' in
    subst (λ t. IsTypeNumber d.types r (type_under (types_at a.types binders) t)) (sym e)
    (subst (λ t. IsTypeNumber d.types r (option_map (function t) (type_in a (ty ∷ binders) part))) (sym (type_law.tree_at-Stays k.types.stays ty.0 lt)) s)

-- an entry that is made has the measures and the type of its tree
pub made_entry : (a b : Trees) (n : Node) (m : Measures) (ty : Option TypeId) (facts : Facts) → facts ≡ record { measures = m; ty = ty } → Keeps a b
    → PartsBelow (length a.terms) (length a.types) n
    → AreMeasures m (tree_of_node a n) → IsTypeNumber b.types ty (type_of (tree_of_node a n))
    → IsMeasured b.types (record { node = n; facts = facts }) (tree_of_node b n)
made_entry a b n m ty facts same k p am h =
    let e = tree_of_node-Stays a b k.types.stays k.stays n p in
    record {
      measures = subst (λ (f : Facts). AreMeasures f.measures (tree_of_node b n)) (sym same) (subst (AreMeasures m) e am);
      typed = subst (λ (f : Facts). IsTypeNumber b.types f.ty (type_of (tree_of_node b n))) (sym same)
          (subst (λ t. IsTypeNumber b.types ty (type_of t)) e h);
    }
