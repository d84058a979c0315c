-- What a rule concludes is a sequent, where its premises are.
use Rattle.std.proofs.Common.{◌≡◌, List, [], ◌∷◌, map, false, not, Some, refl, sym, ap, subst, ◌∙◌}
use Rattle.std.specs.Option.{option_map}
use Rattle.std.specs.List.{AllByRecursion, IsDistinct}
use Rattle.std.proofs.lemmas.Option.{same_Some}
use Rattle.hol_spec.specs.Types.{HolType}
use Rattle.hol_spec.specs.Lists.{union, without, distinct}
use Rattle.hol_laws.specs.ListLaws.{union-All, union-IsDistinct, distinct-IsDistinct, IsDistinct-filter, All-filter}
use Rattle.hol_spec.specs.Primitives.{bool, function}
use Rattle.hol_spec.specs.Terms.{Term, bound, constant, app, lam, Variable, term_eq, type_of, type_under, HasType, equation}
use Rattle.hol_laws.specs.TermLaws.{term_eq-Decides, type_of-equation, type_under-app, type_under-lam}
use Rattle.hol_spec.specs.TermBinding.{put, close}
use Rattle.hol_laws.specs.TermTyping.{type_of-close, type_of-put}
use Rattle.hol_spec.specs.TermSubstitution.{sub, AreFitting}
use Rattle.hol_laws.specs.TermSubstitutionLaws.{type_of-sub, type_under-any, application_type-is, abstraction_type-is}
use Rattle.hol_spec.specs.Sequents.{Sequent, IsSequent}
use Rattle.hol_spec.specs.Definitions.{TypeNames}
use Rattle.hol_spec.specs.NewTypes.{new_type, abstraction_type, representation_type}
use Rattle.hol_spec.specs.DefinitionLists.{ConstantPairs, constants_put}
use Rattle.hol_spec.specs.TypeDefinitions.{IsTypeDefinition, abstracted, represented}
use Rattle.hol_spec.specs.TypeDefinitions as type_definition
use Rattle.hol_laws.specs.Members.{All-mapped, All-weaker}
use Rattle.hol_proof_laws.specs.EquationLaws.{equation-sides, type_under-equation, first_argument, second_argument}
use Rattle.hol_proof_laws.specs.SymbolGrowth.{symmetric}
use Rattle.hol_spec.specs.Rules.{Parameters, Rule}
use Rattle.hol_spec.specs.Rules as rule
use Rattle.hol_spec.specs.declared.StepKind.{StepKind}

term_eq-symmetric : (x y : Term) → term_eq x y ≡ false → term_eq y x ≡ false
term_eq-symmetric = symmetric term_eq term_eq-Decides

united : (gs hs : List Term) → IsDistinct term_eq gs → IsDistinct term_eq (union term_eq gs hs)
united gs hs h = union-IsDistinct term_eq term_eq-symmetric hs gs h

-- a sequent of these parts
made : (hs : List Term) (c : Term) (s : Sequent) → s ≡ record { hypotheses = hs; conclusion = c } → IsDistinct term_eq hs
    → AllByRecursion (λ h. HasType h bool) hs → HasType c bool → IsSequent s
made hs c s e d h t = subst IsSequent (sym e) (record { no_repeats = d; hypotheses = h; conclusion = t })

abbrev are_bool : Term → Type 0
are_bool h = HasType h bool

IsDistinct-none : IsDistinct term_eq []
unfolding IsDistinct
IsDistinct-none = tt

IsDistinct-alone : (p : Term) → IsDistinct term_eq (p ∷ [])
unfolding IsDistinct
IsDistinct-alone p = (tt {0}, tt {0})

left_out : (hs : List Term) (p : Term) → IsDistinct term_eq hs → IsDistinct term_eq (without term_eq hs p)
left_out hs p h = IsDistinct-filter term_eq (λ y. not (term_eq p y)) hs h

-- an abstraction of a typed term
abstraction-typed : (v : Variable) (t : Term) (b : HolType) → HasType t b → HasType (lam v.1 (close v t)) (function v.1 b)
abstraction-typed v t b h = type_of-close v t ∙ ap (option_map (function v.1)) h

-- a contracted redex
contracted-typed : (a b : HolType) (t u : Term) → HasType (app (lam a t) u) b → HasType (put u t) b
contracted-typed a b t u h =
    let p = application_type-is (type_of (lam a t)) (type_of u) b h in
    let q = abstraction_type-is a (type_under (a ∷ []) t) (function p.0 b) p.1.0 in
    let domain : p.0 ≡ a = ap first_argument q.1.1 in
    let codomain : b ≡ q.0 = ap second_argument q.1.1 in
    type_of-put a b u t (p.1.1 ∙ ap Some domain) (q.1.0 ∙ ap Some (sym codomain))

-- constants fit their variables
pub constants-fit : (pairs : ConstantPairs) → AreFitting (constants_put pairs)
constants-fit [] = tt
constants-fit (p ∷ ps) = (refl, constants-fit ps)

-- the predicate of a type definition is one of the type
pub predicate-typed : (names : TypeNames) (c : HolType) (f : Term) (one : Sequent) → IsTypeDefinition names c f one → HasType one.conclusion bool
    → HasType f (function c bool)
predicate-typed names c f one d h =
    let p = application_type-is (type_of f) (type_of d.witness) bool (subst (λ t. HasType t bool) d.holds h) in
    let same : p.0 ≡ c = same_Some _ _ (sym p.1.1 ∙ d.typed) in
    p.1.0 ∙ ap (λ a. Some (function a bool)) same

-- the two constants under a binder
represented-typed : (names : TypeNames) (c : HolType) (t : Term) (binders : List HolType) → type_under binders t ≡ Some (new_type names)
    → type_under binders (represented names c t) ≡ Some c
represented-typed names c t binders h = type_under-app binders (constant names.representation (representation_type names c)) t (new_type names) c refl h

abstracted-typed : (names : TypeNames) (c : HolType) (t : Term) (binders : List HolType) → type_under binders t ≡ Some c
    → type_under binders (abstracted names c t) ≡ Some (new_type names)
abstracted-typed names c t binders h = type_under-app binders (constant names.abstraction (abstraction_type names c)) t c (new_type names) refl h

first_law-typed : (names : TypeNames) (c : HolType) → HasType (type_definition.first_law names c).conclusion bool
first_law-typed names c =
    let n = new_type names in
    let own = n ∷ [] in
    type_of-equation (function n n) (lam n (abstracted names c (represented names c (bound 0)))) (lam n (bound 0))
    (type_under-lam [] n (abstracted names c (represented names c (bound 0))) n
    (abstracted-typed names c (represented names c (bound 0)) own (represented-typed names c (bound 0) own refl)))
    (type_under-lam [] n (bound 0) n refl)

second_law-typed : (names : TypeNames) (c : HolType) (f : Term) → HasType f (function c bool) → HasType (type_definition.second_law names c f).conclusion bool
second_law-typed names c f h =
    let own = c ∷ [] in
    let back = represented names c (abstracted names c (bound 0)) in
    type_of-equation (function c bool) (lam c (equation c back (bound 0))) (lam c (app f (bound 0)))
    (type_under-lam [] c (equation c back (bound 0)) bool
    (type_under-equation own c back (bound 0) (represented-typed names c (abstracted names c (bound 0)) own (abstracted-typed names c (bound 0) own refl))
    refl))
    (type_under-lam [] c (app f (bound 0)) bool (type_under-app own f (bound 0) c bool (type_under-any own f (function c bool) h) refl))

first_law_free-typed : (names : TypeNames) (c : HolType) → HasType (type_definition.first_law_free names c).conclusion bool
first_law_free-typed names c =
    let n = new_type names in
    let v = type_definition.new_variable names in
    type_of-equation n (abstracted names c (represented names c v)) v
    (abstracted-typed names c (represented names c v) [] (represented-typed names c v [] refl)) refl

second_law_free-typed : (names : TypeNames) (c : HolType) (f : Term) → HasType f (function c bool)
    → HasType (type_definition.second_law_free names c f).conclusion bool
second_law_free-typed names c f h =
    let v = type_definition.old_variable c in
    let back = represented names c (abstracted names c v) in
    type_of-equation bool (app f v) (equation c back v) (type_under-app [] f v c bool h refl)
    (type_of-equation c back v (represented-typed names c (abstracted names c v) [] (abstracted-typed names c v [] refl)) refl)

-- The law of rules.
pub rule-IsSequent : (kind : StepKind) (premises : List Sequent) (given : Parameters) (s : Sequent) → Rule kind premises given s
    → AllByRecursion IsSequent premises → IsSequent s
rule-IsSequent kind premises given s (rule.refl {t = t} {a = a} h e) p = made [] (equation a t t) s e IsDistinct-none (tt {0}) (type_of-equation a t t h h)
rule-IsSequent kind premises given s (rule.assume {p = q} h e) p = made (q ∷ []) q s e (IsDistinct-alone q) (h, tt {0}) h
rule-IsSequent kind premises given s (rule.eq_mp {p = x} {q = y} {one = one} {two = two} e f i) p =
    made (union term_eq one.hypotheses two.hypotheses) y s i (united one.hypotheses two.hypotheses p.0.no_repeats)
    (union-All are_bool term_eq two.hypotheses one.hypotheses p.0.hypotheses p.1.0.hypotheses) (equation-sides bool x y one.conclusion e p.0.conclusion).right
rule-IsSequent kind premises given s (rule.abs_thm {v = v} {b = b} {t = t} {u = u} {one = one} e fresh i) p =
    let w = equation-sides b t u one.conclusion e p.0.conclusion in
    made one.hypotheses (equation (function v.1 b) (lam v.1 (close v t)) (lam v.1 (close v u))) s i p.0.no_repeats p.0.hypotheses
    (type_of-equation (function v.1 b) (lam v.1 (close v t)) (lam v.1 (close v u)) (abstraction-typed v t b w.left) (abstraction-typed v u b w.right))
rule-IsSequent kind premises given s (rule.app_thm {a = a} {b = b} {f = f} {g = g} {x = x} {y = y} {one = one} {two = two} e i l) p =
    let w = equation-sides (function a b) f g one.conclusion e p.0.conclusion in
    let z = equation-sides a x y two.conclusion i p.1.0.conclusion in
    made (union term_eq one.hypotheses two.hypotheses) (equation b (app f x) (app g y)) s l (united one.hypotheses two.hypotheses p.0.no_repeats)
    (union-All are_bool term_eq two.hypotheses one.hypotheses p.0.hypotheses p.1.0.hypotheses)
    (type_of-equation b (app f x) (app g y) (type_under-app [] f x a b w.left z.left) (type_under-app [] g y a b w.right z.right))
rule-IsSequent kind premises given s (rule.deduct_antisym {one = one} {two = two} i) p =
    let gs = without term_eq one.hypotheses two.conclusion in
    let hs = without term_eq two.hypotheses one.conclusion in
    made (union term_eq gs hs) (equation bool one.conclusion two.conclusion) s i (united gs hs (left_out one.hypotheses two.conclusion p.0.no_repeats))
    (union-All are_bool term_eq hs gs (All-filter are_bool (λ y. not (term_eq two.conclusion y)) one.hypotheses p.0.hypotheses)
    (All-filter are_bool (λ y. not (term_eq one.conclusion y)) two.hypotheses p.1.0.hypotheses))
    (type_of-equation bool one.conclusion two.conclusion p.0.conclusion p.1.0.conclusion)
rule-IsSequent kind premises given s (rule.beta_conv {a = a} {b = b} {t = t} {u = u} h e) p =
    made [] (equation b (app (lam a t) u) (put u t)) s e IsDistinct-none (tt {0})
    (type_of-equation b (app (lam a t) u) (put u t) h (contracted-typed a b t u h))
rule-IsSequent kind premises given s (rule.sym {a = a} {x = x} {y = y} {one = one} e i) p =
    let w = equation-sides a x y one.conclusion e p.0.conclusion in
    made one.hypotheses (equation a y x) s i p.0.no_repeats p.0.hypotheses (type_of-equation a y x w.right w.left)
rule-IsSequent kind premises given s (rule.trans {a = a} {x = x} {y = y} {z = z} {one = one} {two = two} e f i) p =
    let w = equation-sides a x y one.conclusion e p.0.conclusion in
    let v = equation-sides a y z two.conclusion f p.1.0.conclusion in
    made (union term_eq one.hypotheses two.hypotheses) (equation a x z) s i (united one.hypotheses two.hypotheses p.0.no_repeats)
    (union-All are_bool term_eq two.hypotheses one.hypotheses p.0.hypotheses p.1.0.hypotheses) (type_of-equation a x z w.left v.right)
rule-IsSequent kind premises given s (rule.prove_hyp {one = one} {two = two} i) p =
    let hs = without term_eq two.hypotheses one.conclusion in
    made (union term_eq one.hypotheses hs) two.conclusion s i (united one.hypotheses hs p.0.no_repeats)
    (union-All are_bool term_eq hs one.hypotheses p.0.hypotheses (All-filter are_bool (λ y. not (term_eq one.conclusion y)) two.hypotheses p.1.0.hypotheses))
    p.1.0.conclusion
rule-IsSequent kind premises given s (rule.subst {types = pairs} {terms = terms} {one = one} fitting i) p =
    let images = map (sub pairs terms) one.hypotheses in
    made (distinct term_eq images) (sub pairs terms one.conclusion) s i (distinct-IsDistinct term_eq term_eq-symmetric images)
    (union-All are_bool term_eq images [] (tt {0})
    (All-mapped are_bool (sub pairs terms) one.hypotheses
    (All-weaker are_bool (λ h. are_bool (sub pairs terms h)) (λ h k. type_of-sub pairs terms h bool fitting k) one.hypotheses p.0.hypotheses)))
    (type_of-sub pairs terms one.conclusion bool fitting p.0.conclusion)
rule-IsSequent kind premises given s (rule.recorded is) p = is
rule-IsSequent kind premises given s (rule.restate is i) p = is
rule-IsSequent kind premises given s (rule.define_const {n = n} {t = t} {a = a} h e) p =
    made [] (equation a (constant n a) t) s e IsDistinct-none (tt {0}) (type_of-equation a (constant n a) t refl h.typed)
rule-IsSequent kind premises given s (rule.define_const_list {pairs = pairs} {one = one} defining list e) p =
    made [] (sub [] (constants_put pairs) one.conclusion) s e IsDistinct-none (tt {0})
    (type_of-sub [] (constants_put pairs) one.conclusion bool (constants-fit pairs) p.0.conclusion)
rule-IsSequent kind premises given s (rule.first_law {names = names} {c = c} {f = f} {one = one} d e) p =
    made [] (type_definition.first_law names c).conclusion s e IsDistinct-none (tt {0}) (first_law-typed names c)
rule-IsSequent kind premises given s (rule.second_law {names = names} {c = c} {f = f} {one = one} d e) p =
    made [] (type_definition.second_law names c f).conclusion s e IsDistinct-none (tt {0})
    (second_law-typed names c f (predicate-typed names c f one d p.0.conclusion))
rule-IsSequent kind premises given s (rule.first_law_free {names = names} {c = c} {f = f} {one = one} d e) p =
    made [] (type_definition.first_law_free names c).conclusion s e IsDistinct-none (tt {0}) (first_law_free-typed names c)
rule-IsSequent kind premises given s (rule.second_law_free {names = names} {c = c} {f = f} {one = one} d e) p =
    made [] (type_definition.second_law_free names c f).conclusion s e IsDistinct-none (tt {0})
    (second_law_free-typed names c f (predicate-typed names c f one d p.0.conclusion))
