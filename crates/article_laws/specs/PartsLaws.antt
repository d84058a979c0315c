-- What is of parts with a property is of parts with a weaker one: objects, and the steps of rules.
use Rattle.std.proofs.Common.{ℕ, List}
use Rattle.hol_spec.specs.Names.{Name}
use Rattle.hol_spec.specs.Types.{HolType}
use Rattle.hol_spec.specs.Terms.{Term, Variable}
use Rattle.hol_spec.specs.Proofs.{Made, Step}
use Rattle.hol_laws.specs.Members.{All-weaker}
use Rattle.article_spec.specs.State.{Object, Objects, number, name, list, type_operator, type, constant, variable, term, theorem, none, more}
use Rattle.article_laws.specs.Inferred.{Inferred}
use Rattle.article_laws.specs.Inferred.Inferred.{by_refl, by_assume, by_eq_mp, by_abs_thm, by_app_thm, by_deduct_antisym, by_beta_conv, by_sym, by_trans, by_prove_hyp, by_subst}
use Rattle.article_laws.specs.OperandParts.{IsTypePair, IsTermPair}
use Rattle.article_laws.specs.Parts.{Parts, IsOf, AreOf}

-- each part that has the one property has the other
pub record Weakens (p q : Parts) : Type 0 where
  pub names : (n : Name) → p.name n → q.name n
  pub types : (a : HolType) → p.type a → q.type a
  pub variables : (v : Variable) → p.variable v → q.variable v
  pub terms : (t : Term) → p.term t → q.term t
  pub steps : (i : ℕ) → p.step i → q.step i

module _ (p q : Parts) (w : Weakens p q) where
  mutual
    pub object-weaker : (x : Object) → IsOf p x → IsOf q x
    object-weaker (number z) h = tt
    object-weaker (name n) h = w.names n h
    object-weaker (list xs) h = objects-weaker xs h
    object-weaker (type_operator n) h = w.names n h
    object-weaker (type a) h = w.types a h
    object-weaker (constant n) h = w.names n h
    object-weaker (variable v) h = w.variables v h
    object-weaker (term t) h = w.terms t h
    object-weaker (theorem i) h = w.steps i h

    objects-weaker : (xs : Objects) → AreOf p xs → AreOf q xs
    objects-weaker none h = tt
    objects-weaker (more x xs) h = (object-weaker x h.0, objects-weaker xs h.1)

  -- A rule's step.
  pub inferred-weaker : (m : List Made) (x : Step) → Inferred p m x → Inferred q m x
  inferred-weaker m x (by_refl t h e) = by_refl t (w.terms t h) e
  inferred-weaker m x (by_assume t h e) = by_assume t (w.terms t h) e
  inferred-weaker m x (by_eq_mp j i h k e) = by_eq_mp j i (w.steps j h) (w.steps i k) e
  inferred-weaker m x (by_abs_thm i v h k e) = by_abs_thm i v (w.steps i h) (w.variables v k) e
  inferred-weaker m x (by_app_thm j i h k e) = by_app_thm j i (w.steps j h) (w.steps i k) e
  inferred-weaker m x (by_deduct_antisym j i h k e) = by_deduct_antisym j i (w.steps j h) (w.steps i k) e
  inferred-weaker m x (by_beta_conv t h e) = by_beta_conv t (w.terms t h) e
  inferred-weaker m x (by_sym i h e) = by_sym i (w.steps i h) e
  inferred-weaker m x (by_trans j i h k e) = by_trans j i (w.steps j h) (w.steps i k) e
  inferred-weaker m x (by_prove_hyp j i h k e) = by_prove_hyp j i (w.steps j h) (w.steps i k) e
  inferred-weaker m x (by_subst i r h k e) = by_subst i r (w.steps i h) (
    All-weaker (IsTypePair p) (IsTypePair q) (λ z h. (w.names z.0 h.0, w.types z.1 h.1)) r.0 k.0,
    All-weaker (IsTermPair p) (IsTermPair q) (λ z h. (w.variables z.0 h.0, w.terms z.1 h.1)) r.1 k.1,
  ) e
