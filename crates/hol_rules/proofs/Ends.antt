-- Each rule, at its end: the step is the one that is wanted, and it follows.
use Rattle.std.proofs.Common.{◌≡◌, ℕ, ◌<◌, refl, sym, ap, subst, ◌∙◌, List, [], ◌∷◌, length, Bool, true, false, Option, Some, None, IsSome, Result, Ok, Err}
use Rattle.common.specs.declared.faults.Fault.{Fault}
use Rattle.common.specs.declared.faults.Kind.{Kind}
use Rattle.common.specs.declared.faults.Kind.TheVariants.{NotAlike}
use Rattle.hol_spec.specs.Types.{HolType}
use Rattle.hol_spec.specs.Primitives.{bool}
use Rattle.hol_spec.specs.Terms.{Term, term_eq, type_of, HasType, equation}
use Rattle.hol_laws.specs.TermLaws.{term_eq-Decides}
use Rattle.hol_spec.specs.Rules.{derived, joined}
use Rattle.hol_spec.specs.Rules as rule
use Rattle.hol_spec.specs.Proofs.{Step, steps_of, sequent_at, IsStep, IsProof}
use Rattle.hol_spec.specs.declared.StepKind.{StepKind}
use Rattle.hol_spec.specs.declared.StepKind.TheVariants as by_rule
use Rattle.article_spec.specs.Conditions.{is_of_type}
use Rattle.hol_term.specs.declared.TermId.{TermId}
use Rattle.hol_term.specs.Tables.{Trees, term_at, IsDistinct, IsTermAt}
use Rattle.hol_term.specs.TableLaws.{term_in-Stays, term_in-same}
use Rattle.hol_rules.specs.declared.made.Parameters.{Parameters}
use Rattle.hol_rules.specs.declared.made.Parameters.TheVariants as parameters
use Rattle.hol_rules.specs.declared.premises.Sides.{Sides}
use Rattle.hol_rules.specs.Kept.{Kept, Grows, step_count}
use Rattle.hol_rules.specs.Views.{parameters_view, new_step}
use Rattle.hol_rules.specs.Conclusions.{Concludes}
use Rattle.hol_rules.specs.Premises.{AreNumbersOf, IsNumberOf, AreSides}
use Rattle.article_spec.specs.RuleSteps.{refl_step, assume_step, eq_mp_step, sym_step, trans_step}
use Rattle.hol_rules.proofs.Concluded.{Grows-refl, concludes}
use Rattle.hol_rules.proofs.RuleSteps.{Makes, unmet, refl-makes, assume-makes, eq_mp-makes, sym-makes, trans-makes}
use Rattle.hol_rules.proofs.SideLaws.{known_term, number_term}
use Rattle.std.proofs.Math.Path.{ap₂}

-- after types and terms came, the step is what the rule wants, and it follows
pub record Ends (old : Kept) (wanted : Result Step Kind) (mid : Kept) (y : Step) : Type 0 where
  pub grows : Grows old mid
  pub is : wanted ≡ Ok y
  pub follows : IsStep mid.made y

pub ended : {old mid : Kept} {wanted : Result Step Kind} {y : Step} → Ends old wanted mid y → (new : Kept) (result : Result ℕ Fault)
    → Concludes mid (Ok y) new result → Concludes old wanted new result
ended {wanted = wanted} {y = y} h new result c = concludes h.grows wanted y h.is new result c

pub ends_by : {old mid : Kept} → Grows old mid → {wanted : Result Step Kind} {x : Step} → Makes old.made wanted x → (y : Step) → y ≡ x → Ends old wanted mid y
ends_by {old = old} g m y e = record {
  grows = g;
  is = m.is ∙ ap Ok (sym e);
  follows = subst (λ made. IsStep made y) (sym g.made) (subst (IsStep old.made) (sym e) m.follows);
}

-- a step of numbers is the step of what they stand for
pub stepped : (trees : Trees) (kind : StepKind) (ns : List ℕ) (p : Parameters) (q : rule.Parameters) → parameters_view trees p ≡ q
    → (hyps : List TermId) (hs : List Term) → AreNumbersOf trees hyps hs → (concl : TermId) (c : Term) → IsNumberOf trees concl c
    → new_step trees kind ns p (record { hyps = hyps; concl = concl }) ≡ record { kind = kind; premises = ns; parameters = q; sequent = derived hs c }
stepped trees kind ns p q e hyps hs h concl c n = λ i. record { kind = kind; premises = ns; parameters = e i; sequent = derived (h.are i) (n.is i) }

pub some_of : {A : Type 0} (o : Option A) → IsSome o → (a : A) × (o ≡ Some a)
some_of None h = absurd (cc)
some_of (Some a) h = (a, refl)

-- numbers that differ have terms that do
pub not_alike : (trees : Trees) → IsDistinct trees.terms → (p q : TermId) (t u : Term) → IsNumberOf trees p t → IsNumberOf trees q u → (p.0 ≡ q.0 → ⊥)
    → term_eq t u ≡ false
not_alike trees d p q t u n m apart = go (term_eq t u) refl
  where
    go : (b : Bool) → term_eq t u ≡ b → term_eq t u ≡ false
    go true e = absurd (apart (ap (λ (id : TermId). id.0) (term_in-same d p q n.known m.known (n.is ∙ (term_eq-Decides t u).0 e ∙ sym m.is))))
    go false e = e

alike : (trees : Trees) (p q : TermId) (t u : Term) → IsNumberOf trees p t → IsNumberOf trees q u → p.0 ≡ q.0 → t ≡ u
alike trees p q t u n m e = sym n.is ∙ ap (term_at trees) e ∙ m.is

-- the equation of a term and itself has a number
pub refl-concl : (old : Kept) (t : TermId) → IsTermAt old.trees t.0 → (mid : Kept) (concl : TermId)
    → ((a : HolType) → HasType (term_at old.trees t.0) a → IsNumberOf mid.trees concl (equation a (term_at old.trees t.0) (term_at old.trees t.0)))
    → concl.0 < length mid.trees.terms
refl-concl old t h mid concl n = let a = some_of (type_of (term_at old.trees t.0)) h in (n a.0 a.1).known

pub refl-ends : (old mid : Kept) → Grows old mid → (t : TermId) → IsTermAt old.trees t.0 → (concl : TermId)
    → ((a : HolType) → HasType (term_at old.trees t.0) a → IsNumberOf mid.trees concl (equation a (term_at old.trees t.0) (term_at old.trees t.0)))
    → (hyps : List TermId) → AreNumbersOf mid.trees hyps []
    → Ends old (refl_step (term_at old.trees t.0)) mid (new_step mid.trees by_rule.Refl [] (parameters.Term t) (record { hyps = hyps; concl = concl }))
refl-ends old mid g t h concl n hyps k =
    let tree = term_at old.trees t.0 in
    let a = some_of (type_of tree) h in
    let stays : term_at mid.trees t.0 ≡ tree = sym (term_in-Stays g.trees.stays t.0 (known_term old.trees t.0 h)) in
    ends_by g (refl-makes old.made tree a.0 a.1) _
    (stepped mid.trees by_rule.Refl [] (parameters.Term t) _ (ap rule.Parameters.term stays) hyps [] k concl _ (n a.0 a.1))

pub assume-ends : (k : Kept) (p : TermId) → p.0 < length k.trees.terms → is_of_type bool (term_at k.trees p.0) ≡ true → (hyps : List TermId)
    → AreNumbersOf k.trees hyps (term_at k.trees p.0 ∷ [])
    → Ends k (assume_step (term_at k.trees p.0)) k (new_step k.trees by_rule.Assume [] (parameters.Term p) (record { hyps = hyps; concl = p }))
assume-ends k p known truth hyps h =
    ends_by (Grows-refl k) (assume-makes k.made (term_at k.trees p.0) truth) _
    (stepped k.trees by_rule.Assume [] (parameters.Term p) _ refl hyps (term_at k.trees p.0 ∷ []) h p (term_at k.trees p.0)
    (record { known = known; is = refl }))

-- the number of a step is one after types and terms came
pub step-grown : {old mid : Kept} → Grows old mid → (i : ℕ) → i < step_count old → i < step_count mid
step-grown g i l = subst (λ made. i < length (steps_of made)) (sym g.made) l

-- the sides of a premise have its type
module _ (k : Kept) (i : ℕ) (sides : Sides) (s : AreSides k i sides) where
  pub left_side-typed : HasType (term_at k.trees sides.left.0) s.equation.ty
  left_side-typed = subst (λ t. HasType t s.equation.ty) (sym s.left.is) s.left_typed

  pub right_side-typed : HasType (term_at k.trees sides.right.0) s.equation.ty
  right_side-typed = subst (λ t. HasType t s.equation.ty) (sym s.right.is) s.right_typed

  pub left_side-term : IsTermAt k.trees sides.left.0
  left_side-term = number_term k.trees sides.left s.equation.left s.equation.ty s.left s.left_typed

  pub right_side-term : IsTermAt k.trees sides.right.0
  right_side-term = number_term k.trees sides.right s.equation.right s.equation.ty s.right s.right_typed

module _ (k : Kept) (proof : IsProof k.made) (i : ℕ) (l : i < length (steps_of k.made)) (sides : Sides) (s : AreSides k i sides) where
  pub sym-ends : (mid : Kept) → Grows k mid → (concl : TermId)
      → ((a : HolType) → HasType (term_at k.trees sides.right.0) a
      → IsNumberOf mid.trees concl (equation a (term_at k.trees sides.right.0) (term_at k.trees sides.left.0)))
      → (hyps : List TermId) → AreNumbersOf mid.trees hyps (sequent_at mid.made i).hypotheses
      → Ends k (sym_step k.made i) mid (new_step mid.trees by_rule.Sym (i ∷ []) parameters.Nothing (record { hyps = hyps; concl = concl }))
  sym-ends mid g concl n hyps h =
      let e = s.equation in
      let typed = right_side-typed k i sides s in
      let c : IsNumberOf mid.trees concl (equation e.ty e.right e.left) =
      subst (IsNumberOf mid.trees concl) (ap₂ (equation e.ty) s.right.is s.left.is) (n e.ty typed) in
      let hs = subst (λ made. AreNumbersOf mid.trees hyps (sequent_at made i).hypotheses) g.made h in
      ends_by g (sym-makes k.made proof i l e s.parts) _
      (stepped mid.trees by_rule.Sym (i ∷ []) parameters.Nothing _ refl hyps (sequent_at k.made i).hypotheses hs concl _ c)

  module _ (j : ℕ) (m : j < length (steps_of k.made)) where
    pub eq_mp-ends : (two : TermId) → IsNumberOf k.trees two (sequent_at k.made j).conclusion → two.0 ≡ sides.left.0 → (hyps : List TermId)
        → AreNumbersOf k.trees hyps (joined (sequent_at k.made i).hypotheses (sequent_at k.made j).hypotheses)
        → Ends k (eq_mp_step k.made i j) k (new_step k.trees by_rule.EqMp (i ∷ j ∷ []) parameters.Nothing (record { hyps = hyps; concl = sides.right }))
    eq_mp-ends two n same hyps h =
        ends_by (Grows-refl k)
        (eq_mp-makes k.made proof i l s.equation s.parts j m (alike k.trees two sides.left (sequent_at k.made j).conclusion s.equation.left n s.left same))
        _
        (stepped k.trees by_rule.EqMp (i ∷ j ∷ []) parameters.Nothing _ refl hyps _ h sides.right s.equation.right s.right)

    pub eq_mp-apart : IsDistinct k.trees.terms → (two : TermId) → IsNumberOf k.trees two (sequent_at k.made j).conclusion → (two.0 ≡ sides.left.0 → ⊥)
        → eq_mp_step k.made i j ≡ Err NotAlike
    eq_mp-apart d two n apart = rw s.parts
        (unmet (term_eq (sequent_at k.made j).conclusion s.equation.left) NotAlike _
        (not_alike k.trees d two sides.left (sequent_at k.made j).conclusion s.equation.left n s.left apart))

    module _ (more : Sides) (r : AreSides k j more) where
      pub trans-ends : more.left.0 ≡ sides.right.0 → (mid : Kept) → Grows k mid → (concl : TermId)
          → ((a : HolType) → HasType (term_at k.trees sides.left.0) a
          → IsNumberOf mid.trees concl (equation a (term_at k.trees sides.left.0) (term_at k.trees more.right.0)))
          → (hyps : List TermId) → AreNumbersOf mid.trees hyps (joined (sequent_at mid.made i).hypotheses (sequent_at mid.made j).hypotheses)
          → Ends k (trans_step k.made i j) mid (new_step mid.trees by_rule.Trans (i ∷ j ∷ []) parameters.Nothing (record { hyps = hyps; concl = concl }))
      trans-ends same mid g concl n hyps h =
          let e = s.equation in
          let f = r.equation in
          let typed = left_side-typed k i sides s in
          let c : IsNumberOf mid.trees concl (equation e.ty e.left f.right) =
          subst (IsNumberOf mid.trees concl) (ap₂ (equation e.ty) s.left.is r.right.is) (n e.ty typed) in
          let hs = subst (λ made. AreNumbersOf mid.trees hyps (joined (sequent_at made i).hypotheses (sequent_at made j).hypotheses)) g.made h in
          ends_by g (trans-makes k.made proof i l e s.parts j m f r.parts (alike k.trees more.left sides.right f.left e.right r.left s.right same)) _
          (stepped mid.trees by_rule.Trans (i ∷ j ∷ []) parameters.Nothing _ refl hyps _ hs concl _ c)

      pub trans-apart : IsDistinct k.trees.terms → (more.left.0 ≡ sides.right.0 → ⊥) → trans_step k.made i j ≡ Err NotAlike
      trans-apart d apart = rw (s.parts, r.parts)
          (unmet (term_eq r.equation.left s.equation.right) NotAlike _
          (not_alike k.trees d more.left sides.right r.equation.left s.equation.right r.left s.right apart))
