-- The definition of a type operator: what is judged, and what it comes to.
use Rattle.std.proofs.Common.{◌≡◌, ◌<◌, ◌≤◌, arith, refl, sym, ap, subst, ◌∙◌, List, [], ◌∷◌, length, Bool, true, false, None, Some, Result, Ok, Err, ℕ}
use Rattle.std.specs.Prelude.{nat_eq, if◌then◌else◌}
use Rattle.std.proofs.lemmas.Bool.Decides.{nat_tests}
use Rattle.std.proofs.lemmas.List.{length-map}
use Rattle.std.proofs.lemmas.Option.{same_Some}
use Rattle.std.proofs.lemmas.Bool.{or_parts, not-true}
use Rattle.common.specs.declared.faults.Fault.{Fault}
use Rattle.common.specs.declared.faults.Fault.TheVariants.{Memory, Refused}
use Rattle.common.specs.declared.faults.Kind.{Kind}
use Rattle.common.specs.declared.faults.Kind.TheVariants.{NameTaken, NotClosed, BadTypeVars, NotTheSequent}
use Rattle.hol_spec.specs.Terms.{Term, app}
use Rattle.hol_spec.specs.Definitions.{TypeNames}
use Rattle.hol_spec.specs.Defining.{is_closed}
use Rattle.hol_spec.specs.TypeDefinitions.{are_type_variables_of}
use Rattle.hol_spec.specs.Sequents.{Sequent as ASequent}
use Rattle.hol_spec.specs.Symbols.{Symbol}
use Rattle.hol_spec.specs.Taking.{AreNew}
use Rattle.hol_spec.specs.declared.Version.{Version}
use Rattle.hol_spec.specs.Proofs.{Made, symbols_of, sequent_at}
use Rattle.article_spec.specs.Results.{◌>>◌, Fails}
use Rattle.article_spec.specs.Conditions.{demand, in_limits}
use Rattle.article_spec.specs.RuleSteps.{application_parts, NewType, made_of_type, type_laws, type_measures}
use Rattle.hol_defs.specs.Faults.{first_failing, are_new, operator_fault, Refuses}
use Rattle.hol_term.specs.declared.TermId.{TermId}
use Rattle.hol_term.specs.declared.TermView.{TermView}
use Rattle.hol_term.specs.declared.TermView.TheVariants as view
use Rattle.hol_term.specs.Tables.{Trees, term_at, type_at, Holds}
use Rattle.hol_term.specs.TableLaws.{Some-term_in}
use Rattle.hol_term.specs.Views.{tree_of_view}
use Rattle.sequent.specs.declared.Sequent.{Sequent}
use Rattle.sequent.specs.Sequents as numbers
use Rattle.hol_rules.specs.declared.type_definitions.TypeParts.{TypeParts}
use Rattle.hol_rules.specs.Kept.{Kept}
use Rattle.hol_rules.specs.Laws.{AreTypeParts}
use Rattle.hol_rules.specs.Premises.{IsNumberOf}

-- the names are judged first
named_first : (b : Bool) (r : Result NewType Kind) → b ≡ false → (demand b NameTaken >> r) ≡ Err NameTaken
named_first false r e = refl
named_first true r e = absurd (cc)

-- three conditions, the last two together
three-refused : (b c d : Bool) (r : Result NewType Kind) (k : Kind) → first_failing ((b, NameTaken) ∷ (c, NotClosed) ∷ (d, BadTypeVars) ∷ []) ≡ Some k
    → (demand b NameTaken >> ((demand c NotClosed >> demand d BadTypeVars) >> r)) ≡ Err k
three-refused false c d r k e = ap Err (same_Some _ _ e)
three-refused true false d r k e = ap Err (same_Some _ _ e)
three-refused true true false r k e = ap Err (same_Some _ _ e)
three-refused true true true r k e = absurd (cc)

three-hold : (b c d : Bool) → first_failing ((b, NameTaken) ∷ (c, NotClosed) ∷ (d, BadTypeVars) ∷ []) ≡ None → (b ≡ true) × ((c ≡ true) × (d ≡ true))
three-hold false c d e = absurd (cc)
three-hold true false d e = absurd (cc)
three-hold true true false e = absurd (cc)
three-hold true true true e = (refl, (refl, refl))

new-names : (symbols : List Symbol) (names : TypeNames) → are_new symbols names ≡ true → AreNew symbols names
new-names symbols names e =
    let none = not-true _ e in
    let a = or_parts _ _ none in
    let b = or_parts _ _ a.0 in
    let c = or_parts _ _ b.0 in
    record { operator = c.0; abstraction = c.1; representation = b.1; apart = a.1 }

module _ (made : List Made) (names : TypeNames) (i : ℕ) where
  abbrev concl : Term
  concl = (sequent_at made i).conclusion

  -- where the conclusion is no application
  pub without_application : (version : Version) → application_parts concl ≡ None → type_laws version made names i
      ≡ Err (if are_new (symbols_of made) names then NotTheSequent else NameTaken)
  without_application version e = rw e (go (are_new (symbols_of made) names) (nat_eq (length (sequent_at made i).hypotheses) 0))
    where
      go : (b h : Bool) → ◌≡◌ {A = Result NewType Kind} (demand b NameTaken >> (Ok (tt {0}) >> (demand h NotTheSequent >> Err NotTheSequent)))
          (Err (if b then NotTheSequent else NameTaken))
      go false h = refl
      go true true = refl
      go true false = refl

  pub default-fails : (version : Version) (fault : Fault) → fault ≡ Refused (if are_new (symbols_of made) names then NotTheSequent else NameTaken)
      → application_parts concl ≡ None → Fails fault (type_laws version made names i)
  default-fails version fault e none = subst (λ g. Fails g (type_laws version made names i)) (sym e) (without_application version none)

  module _ (f t : Term) (is : concl ≡ app f t) where
    pub type-fails : (version : Version) (fault : Fault) → Refuses fault (operator_fault (symbols_of made) names f)
        → Fails fault (type_laws version made names i)
    type-fails version Memory h = tt
    type-fails version (Refused k) h = rw is (three-refused (are_new (symbols_of made) names) (is_closed f) (are_type_variables_of names.variables f) _ k h)

    module _ (none : operator_fault (symbols_of made) names f ≡ None) where
      holds : (are_new (symbols_of made) names ≡ true) × ((is_closed f ≡ true) × (are_type_variables_of names.variables f ≡ true))
      holds = three-hold (are_new (symbols_of made) names) (is_closed f) (are_type_variables_of names.variables f) none

      pub type-names : AreNew (symbols_of made) names
      type-names = new-names (symbols_of made) names holds.0

      pub type-closed : is_closed f ≡ true
      type-closed = holds.1.0

      pub type-variables : are_type_variables_of names.variables f ≡ true
      type-variables = holds.1.1

      pub type-hypotheses : (version : Version) → nat_eq (length (sequent_at made i).hypotheses) 0 ≡ false → type_laws version made names i ≡ Err NotTheSequent
      type-hypotheses version e = rw (is, holds.0, holds.1.0, holds.1.1, e) refl

-- the parts of a view that is no application
pub no-application : (trees : Trees) (v : TermView) → ((f x : TermId) → v ≡ view.App f x → ⊥) → application_parts (tree_of_view trees v) ≡ None
no-application trees (view.Free m ty) h = refl
no-application trees (view.Bound k) h = refl
no-application trees (view.Const m ty) h = refl
no-application trees (view.App f x) h = absurd (h f x refl)
no-application trees (view.Lam ty b) h = refl

-- the conclusion of a step, by its number
pub concl-view : (k : Kept) (i : ℕ) (concl : TermId) (v : TermView) (t : Trees) → t ≡ k.trees → IsNumberOf k.trees concl (sequent_at k.made i).conclusion
    → Holds t concl.0 (tree_of_view t v) → (sequent_at k.made i).conclusion ≡ tree_of_view k.trees v
concl-view k i concl v t e n h = sym n.is ∙ Some-term_in k.trees.terms concl.0 (tree_of_view k.trees v)
    (subst (λ (u : Trees). Holds u concl.0 (tree_of_view u v)) e h)

-- and its hypotheses
module _ (k : Kept) (i : ℕ) (s : Sequent) (ids : List TermId) (e : numbers.sequent_at k.trees s ≡ sequent_at k.made i) (f : ids ≡ s.hyps) where
  as_many : length (sequent_at k.made i).hypotheses ≡ length ids
  as_many = ap (λ (t : ASequent). length t.hypotheses) (sym e) ∙ length-map s.hyps (λ (id : TermId). term_at k.trees id.0) ∙ ap length (sym f)

  pub some-hypotheses : 0 < length ids → nat_eq (length (sequent_at k.made i).hypotheses) 0 ≡ false
  some-hypotheses l = some (length (sequent_at k.made i).hypotheses) (omega (arith, l, as_many))
    where
      some : (n : ℕ) → 0 < n → nat_eq n 0 ≡ false
      some n h = grind (arith, nat_tests)

  pub no-hypotheses : length ids ≤ 0 → (sequent_at k.made i).hypotheses ≡ []
  no-hypotheses l = none (sequent_at k.made i).hypotheses (omega (arith, l, as_many))
    where
      none : (ts : List Term) → length ts ≤ 0 → ts ≡ []
      none [] h = refl
      none (t ∷ ts) h = absurd (omega (arith, h))

-- what is left to be judged are the limits
pub type-limits : (version : Version) (k : Kept) (names : TypeNames) (i : ℕ) (parts : TypeParts) → AreTypeParts k names i parts
    → type_laws version k.made names i
    ≡ (in_limits (type_measures version names (type_at k.trees parts.whole.0) (term_at k.trees parts.predicate.0)) >> Ok
    (made_of_type version names i (type_at k.trees parts.whole.0) (term_at k.trees parts.predicate.0)))
type-limits version k names i parts h = rw
    (h.holds, h.no_hypotheses, h.typed, h.new.operator, h.new.abstraction, h.new.representation, h.new.apart, h.closed, h.variables) refl
