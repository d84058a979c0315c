-- In a list of constants that is accepted, every hypothesis defines a variable of the list, as there are as many of them: none is left over.
use Rattle.std.proofs.Common.{◌≡◌, suc, ◌≤◌, List, [], ◌∷◌, length, Bool, true, false, ◌||◌, cond, Option, None, Some, refl, sym, ap, subst, ◌∙◌, arith}
use Rattle.std.specs.Prelude.{is_some, not}
use Rattle.std.specs.Cmp.{IsEquivalence}
use Rattle.std.specs.List.{AllByRecursion, IsDistinct, filter, filter_map, cons_option, list_all, list_any}
use Rattle.std.proofs.lemmas.Bool.Decides.{Decides-eqb, same_from_decides}
use Rattle.std.proofs.lemmas.Map.Keys.{IsDistinct-cons}
use Rattle.std.proofs.lemmas.Map.Steps.{length-le_from_keys}
use Rattle.std.proofs.lemmas.List.{length-map}
use Rattle.std.proofs.lemmas.Option.{same_Some}
use Rattle.std.proofs.lemmas.Bool.{and_parts, or_parts, not-true}
use Rattle.hol_spec.specs.Lists.{is_in}
use Rattle.hol_spec.specs.Primitives.{bool}
use Rattle.hol_spec.specs.Terms.{Term, Variable, free, variable_eq, HasType, equation}
use Rattle.hol_laws.specs.TermLaws.{variable_eq-Decides}
use Rattle.hol_spec.specs.TermSubstitution.{TermPairs}
use Rattle.hol_spec.specs.Sequents.{Sequent, IsSequent}
use Rattle.hol_spec.specs.Repeats.{no_repeats}
use Rattle.hol_spec.specs.Equations.{Equation, equation_parts}
use Rattle.hol_proof_laws.specs.EquationLaws.{equation_parts-is, equation-sides}
use Rattle.hol_spec.specs.DefinitionLists.{ConstantPairs, variables_of, variable_side, of_equation, variable_equation, defining_equations, definiens, is_definition_list}
use Rattle.hol_proof_laws.specs.RuleTaken.{list_parts}

-- no repeats, by the test
none-alike : (x : Variable) (xs : List Variable) → is_in variable_eq x xs ≡ false → AllByRecursion (λ y. variable_eq x y ≡ false) xs
none-alike x [] e = tt
none-alike x (y ∷ ys) e = let h = or_parts (variable_eq x y) (is_in variable_eq x ys) e in (h.0, none-alike x ys h.1)

pub distinct_variables : (xs : List Variable) → no_repeats variable_eq xs ≡ true → IsDistinct variable_eq xs
unfolding IsDistinct
distinct_variables [] e = tt
distinct_variables (x ∷ xs) e =
    let h = and_parts (not (is_in variable_eq x xs)) (no_repeats variable_eq xs) e in
    IsDistinct-cons variable_eq x xs (none-alike x xs (not-true (is_in variable_eq x xs) h.0)) (distinct_variables xs h.1)

-- the test of variables as an equivalence
pub equivalence : IsEquivalence variable_eq
equivalence = record {
  refl = λ x. (variable_eq-Decides x x).1 refl;
  symm = λ x y. same_from_decides (variable_eq x y) (variable_eq y x) (variable_eq-Decides x y)
      (λ h. sym ((variable_eq-Decides y x).0 h), λ h. (variable_eq-Decides y x).1 (sym h));
  congr = λ x y z e. ap (λ v. variable_eq v z) ((variable_eq-Decides x y).0 e);
}

-- what passes a test that all pass passes
pub passes : (f : Variable → Bool) (xs : List Variable) → list_all f xs ≡ true → (q : Variable) → list_any (variable_eq q) xs ≡ true → f q ≡ true
passes f [] e q h = absurd (cc)
passes f (x ∷ xs) e q h =
    let parts = and_parts (f x) (list_all f xs) e in
    go (variable_eq q x) (variable_eq-Decides q x).0 h parts.0 (passes f xs parts.1 q)
  where
    go : (b : Bool) → (b ≡ true → q ≡ x) → (b || list_any (variable_eq q) xs) ≡ true → f x ≡ true → (list_any (variable_eq q) xs ≡ true → f q ≡ true)
        → f q ≡ true
    go true same h k later = ap f (same refl) ∙ k
    go false same h k later = later h

-- at most as many give a pair that passes, and all do where as many do
module _ (f : Term → Option (Variable × Term)) (p : Variable × Term → Bool) where
  abbrev pub Passes : Term → Type 0
  Passes h = (e : Variable × Term) × ((f h ≡ Some e) × (p e ≡ true))

  abbrev pub kept : List Term → TermPairs
  kept hs = filter p (filter_map f hs)

  pub record Counted (hs : List Term) : Type 0 where
    pub at_most : length (kept hs) ≤ length hs
    pub all : length hs ≤ length (kept hs) → AllByRecursion Passes hs

  pub counted : (hs : List Term) → Counted hs
  counted [] = record { at_most = omega arith; all = λ l. tt {0} }
  counted (h ∷ hs) = by_option (f h) refl (counted hs)
    where
      by_test : (e : Variable × Term) → f h ≡ Some e → (b : Bool) → p e ≡ b → Counted hs
          → (length (cond b (e ∷ kept hs) (kept hs)) ≤ suc (length hs))
          × (suc (length hs) ≤ length (cond b (e ∷ kept hs) (kept hs)) → AllByRecursion Passes (h ∷ hs))
      by_test e is true q c = (let l = c.at_most in omega (arith, l), λ l. ((e, (is, q)), c.all (omega (arith, l))))
      by_test e is false q c = (let l = c.at_most in omega (arith, l), λ l. absurd (let m = c.at_most in omega (arith, l, m)))

      by_option : (o : Option (Variable × Term)) → f h ≡ o → Counted hs → Counted (h ∷ hs)
      by_option None is c =
          let same : kept (h ∷ hs) ≡ kept hs = ap (λ o. filter p (cons_option o (filter_map f hs))) is in
          record {
            at_most = subst (λ (l : TermPairs). length l ≤ suc (length hs)) (sym same) (let l = c.at_most in omega (arith, l));
            all = λ l. absurd (let m = c.at_most in let n : suc (length hs) ≤ length (kept hs) =
                subst (λ (l : TermPairs). suc (length hs) ≤ length l) same l in omega (arith, m, n));
          }
      by_option (Some e) is c =
          let same : kept (h ∷ hs) ≡ cond (p e) (e ∷ kept hs) (kept hs) = ap (λ o. filter p (cons_option o (filter_map f hs))) is in
          let r = by_test e is (p e) refl c in
          record {
            at_most = subst (λ (l : TermPairs). length l ≤ suc (length hs)) (sym same) r.0;
            all = λ l. r.1 (subst (λ (l : TermPairs). suc (length hs) ≤ length l) same l);
          }

-- an equation v = t, taken apart
of_side : (l r : Term) (v : Variable) (t : Term) → variable_side l r ≡ Some (v, t) → (l ≡ free v.0 v.1) × (r ≡ t)
of_side (free n b) r v t e = let p : ((n, b), r) ≡ (v, t) =
    same_Some _ _ e in (ap (λ (q : Variable × Term). free q.0.0 q.0.1) p, ap (λ (q : Variable × Term). q.1) p)
of_side l r v t e = absurd (cc)

of_parts : (h : Term) (o : Option Equation) → equation_parts h ≡ o → HasType h bool → (v : Variable) (t : Term) → of_equation o ≡ Some (v, t)
    → h ≡ equation v.1 (free v.0 v.1) t
of_parts h None is typed v t e = absurd (cc)
of_parts h (Some q) is typed v t e =
    let whole = equation_parts-is h q is in
    let sides = of_side q.left q.right v t e in
    let left : HasType q.left q.ty = (equation-sides q.ty q.left q.right h whole typed).left in
    let ty : v.1 ≡ q.ty = same_Some _ _ (subst (λ u. HasType u q.ty) sides.0 left) in
    whole ∙ (λ i. equation (sym ty i) (sides.0 i) (sides.1 i))

-- Every hypothesis of an accepted list is an equation v = t of a variable of the list.
pub every-hypothesis : (pairs : ConstantPairs) (one : Sequent) → IsSequent one → is_definition_list pairs one ≡ true
    → AllByRecursion (λ h. (e : Variable × Term) × ((variable_equation h ≡ Some e) × (is_in variable_eq e.0 (variables_of pairs) ≡ true))) one.hypotheses
every-hypothesis pairs one is good =
    let parts = list_parts pairs one good in
    let vs = variables_of pairs in
    let count = counted variable_equation (λ e. is_in variable_eq e.0 vs) one.hypotheses in
    let enough : length vs ≤ length (defining_equations pairs one.hypotheses)
    = length-le_from_keys equivalence vs (defining_equations pairs one.hypotheses) (distinct_variables vs parts.variables)
    (passes (λ v. is_some (definiens pairs one.hypotheses v)) vs parts.defined) in
    let as_many : length one.hypotheses ≡ length pairs = (Decides-eqb (length one.hypotheses) (length pairs)).0 parts.as_many in
    let same : length vs ≡ length pairs = length-map pairs (λ p. p.1) in
    count.all (omega (arith, enough, as_many, same))

-- with its parts
pub hypothesis-is : (h : Term) (e : Variable × Term) → HasType h bool → variable_equation h ≡ Some e → h ≡ equation e.0.1 (free e.0.0 e.0.1) e.1
hypothesis-is h e typed is = of_parts h (equation_parts h) refl typed e.0 e.1 is
