-- The sides of a premise, and terms with their types.
use Rattle.std.proofs.Common.{◌≡◌, ℕ, ◌<◌, ◌≤◌, ◌⊎◌, inl, inr, refl, sym, ap, subst, ◌∙◌, arith, List, length, Bool, true, Option, Some, None, IsSome, slice_get, get_or, Result, Ok, Err, IfOk, ◌↔◌, IsTrue}
use Rattle.std.specs.Prelude.{unwrap_or, if◌then◌else◌}
use Rattle.std.specs.Option.{ok_or}
use Rattle.std.proofs.lemmas.Bool.Decides.{Decides-eqb, Decides-like, same_from_decides}
use Rattle.std.specs.Cmp.Lexicographic.{pointwise}
use Rattle.std.proofs.lemmas.Slice.Eq.{slice_eq-Decides}
use Rattle.sequent.specs.Sequents.{same_id}
use Rattle.std.proofs.lemmas.Option.{slice_get_cases}
use Rattle.common.specs.declared.faults.Memory.{Memory}
use Rattle.common.specs.declared.faults.Kind.TheVariants.{NotEquation}
use Rattle.hol_spec.specs.Types.{HolType, type_eq}
use Rattle.hol_laws.specs.TypeLaws.{type_eq-Decides}
use Rattle.hol_spec.specs.Primitives.{bool, equality_type}
use Rattle.hol_spec.specs.Lists.{distinct}
use Rattle.hol_spec.specs.Terms.{Term, bound, term_eq, HasType, IsTerm, equation}
use Rattle.hol_spec.specs.Equations.{Equation, equation_parts}
use Rattle.hol_spec.specs.Proofs.{sequent_at}
use Rattle.hol_proof_laws.specs.EquationLaws.{equation-sides, equation_parts-is}
use Rattle.article_spec.specs.Conditions.{has_type, is_of_type}
use Rattle.hol_term.specs.declared.TermId.{TermId}
use Rattle.hol_term.specs.Shapes.{IsEquation}
use Rattle.hol_term.specs.Tables.{Trees, term_at, terms_at, AreKnown, IsDistinct, IsTermAt}
use Rattle.hol_rules.specs.Kept.{Kept}
use Rattle.hol_rules.specs.Premises.{AreNumbersOf, IsNumberOf, AreSides}

-- a table has the number of a term
pub known_term : (trees : Trees) (id : ℕ) → IsTermAt trees id → id < length trees.terms
known_term trees id h = go (slice_get_cases trees.terms id).1
  where
    go : ((x : Term) × (id < length trees.terms) × (slice_get trees.terms id ≡ Some x) × (get_or trees.terms id x ≡ x))
        ⊎ ((length trees.terms ≤ id) × (slice_get trees.terms id ≡ None)) → id < length trees.terms
    go (inl w) = w.1
    go (inr w) = absurd (let e = ap (λ o. unwrap_or o (bound 0)) w.1 in let f = subst IsTerm e h in cc)

-- what has a type is a term
pub term_of : (t : Term) (a : HolType) → HasType t a → IsTerm t
term_of t a h = subst IsSome (sym h) refl

pub number_term : (trees : Trees) (id : TermId) (t : Term) (a : HolType) → IsNumberOf trees id t → HasType t a → IsTermAt trees id.0
number_term trees id t a n h = subst IsTerm (sym n.is) (term_of t a h)

-- an equation is taken apart
equation_parts-equation : (a : HolType) (l r : Term) → equation_parts (equation a l r) ≡ Some (record { ty = a; left = l; right = r })
equation_parts-equation a l r = ap (λ b. if b then Some (record { ty = a; left = l; right = r }) else None)
    ((type_eq-Decides (equality_type a) (equality_type a)).1 refl)

pub sides_are : (k : Kept) (id : ℕ) (concl left right : TermId) → IsNumberOf k.trees concl (sequent_at k.made id).conclusion
    → HasType (sequent_at k.made id).conclusion bool
    → IsEquation (term_at k.trees concl.0) (term_at k.trees left.0) (term_at k.trees right.0) → left.0 < concl.0 → right.0 < concl.0
    → AreSides k id (record { left = left; right = right })
sides_are k id concl left right n t e l r =
    let l-tree = term_at k.trees left.0 in
    let r-tree = term_at k.trees right.0 in
    let is : (sequent_at k.made id).conclusion ≡ equation e.0 l-tree r-tree = sym n.is ∙ e.1 in
    let typed = equation-sides e.0 l-tree r-tree (sequent_at k.made id).conclusion is t in
    record {
      equation = record { ty = e.0; left = l-tree; right = r-tree };
      parts = ap (λ u. ok_or (equation_parts u) NotEquation) is ∙ ap (λ o. ok_or o NotEquation) (equation_parts-equation e.0 l-tree r-tree);
      left = record { known = omega (arith, l, n.known); is = refl };
      right = record { known = omega (arith, r, n.known); is = refl };
      left_typed = typed.left;
      right_typed = typed.right;
    }

pub no_sides : (trees : Trees) (concl : TermId) (t : Term) → IsNumberOf trees concl t → ((l r : Term) → IsEquation (term_at trees concl.0) l r → ⊥)
    → ok_or (equation_parts t) NotEquation ≡ Err NotEquation
no_sides trees concl t n none = go (equation_parts t) refl
  where
    go : (o : Option Equation) → equation_parts t ≡ o → ok_or (equation_parts t) NotEquation ≡ Err NotEquation
    go None e = ap (λ o. ok_or o NotEquation) e
    go (Some q) e = absurd (none q.left q.right (q.ty, n.is ∙ equation_parts-is t q e))

-- whether a term is a truth value, by a test of its type
pub truth_value : (r : Bool) (t : Term) (b : HolType) → HasType t b → (IsTrue r ↔ (b ≡ bool)) → r ≡ is_of_type bool t
truth_value r t b h d = same_from_decides r (type_eq b bool) d (type_eq-Decides b bool) ∙ sym (ap (λ o. has_type o bool) h)

-- hypotheses that were taken from a list
pub numbered : (trees : Trees) (ids : List TermId) (r : Result (List TermId) Memory) → IsDistinct trees.terms → AreKnown trees ids
    → IfOk r (λ hyps. (ts : Trees) → IsDistinct ts.terms → AreKnown ts ids → terms_at ts hyps ≡ distinct term_eq (terms_at ts ids))
    → IfOk r (λ hyps. (ts : Trees) → AreKnown ts ids → AreKnown ts hyps)
    → IfOk r (λ hyps. AreNumbersOf trees hyps (distinct term_eq (terms_at trees ids)))
numbered trees ids (Ok hyps) d k f g = record { known = g trees k; are = f trees d k }
numbered trees ids (Err e) d k f g = tt

-- lists of numbers are equal where the test says so
pub ids_equal : (xs ys : List TermId) (r : Bool) → r ≡ pointwise same_id xs ys → r ≡ true → xs ≡ ys
ids_equal xs ys r e t =
    (slice_eq-Decides (λ p q. Decides-like (same_id p q) (λ f i. record { 0 = f i }) (ap (λ (id : TermId). id.0)) (Decides-eqb p.0 q.0)) xs ys r e).0 t
