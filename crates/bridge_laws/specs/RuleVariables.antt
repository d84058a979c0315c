-- A rule brings no variable of its own: the names of the free variables of what it concludes are those of its premises, of what it is given, and
-- the two of which the laws of a type operator speak in version 5.
use Rattle.std.proofs.Common.{◌≡◌, ℕ, suc, List, [], ◌∷◌, map, Bool, true, false, cond, Some, sym, subst}
use Rattle.std.specs.Prelude.{nat_lt, nat_eq, ◌-◌, codes}
use Rattle.std.specs.Option.{unwrap_or}
use Rattle.std.specs.Map.{lookup}
use Rattle.std.specs.List.{AllByRecursion}
use Rattle.hol_spec.specs.Names.{Name}
use Rattle.hol_spec.specs.Types.{HolType}
use Rattle.hol_spec.specs.Lists.{union, without, distinct}
use Rattle.hol_laws.specs.ListLaws.{union-All, All-filter}
use Rattle.hol_laws.specs.Members.{All-append, All-mapped, All-weaker}
use Rattle.hol_spec.specs.Primitives.{bool, function}
use Rattle.hol_spec.specs.Substitution.{TypePairs, substitute}
use Rattle.hol_spec.specs.Terms as term
use Rattle.hol_spec.specs.Terms.{Term, Variable, variable_eq, term_eq, equation, free_places}
use Rattle.hol_spec.specs.TermBinding.{lift_at, lift, put_at, put, close_at, close}
use Rattle.hol_spec.specs.TermSubstitution.{TermPairs, term_image, sub}
use Rattle.hol_spec.specs.Sequents.{Sequent}
use Rattle.hol_spec.specs.Definitions.{TypeNames}
use Rattle.hol_spec.specs.DefinitionLists.{ConstantPairs, constants_put}
use Rattle.hol_spec.specs.TypeDefinitions.{IsTypeDefinition}
use Rattle.hol_spec.specs.TypeDefinitions as type_definition
use Rattle.hol_spec.specs.Rules.{Parameters, Rule}
use Rattle.hol_spec.specs.Rules as rule
use Rattle.hol_spec.specs.declared.StepKind.{StepKind}

-- the names of the free variables of a term have a property
abbrev pub TermIn : (Name → Type 0) → Term → Type 0
TermIn P (term.Term.free n a) = P n
TermIn P (term.Term.bound k) = Unit {0}
TermIn P (term.Term.constant n a) = Unit {0}
TermIn P (term.Term.app f x) = TermIn P f × TermIn P x
TermIn P (term.Term.lam a b) = TermIn P b

pub record SequentIn (P : Name → Type 0) (s : Sequent) : Type 0 where
  pub hypotheses : AllByRecursion (TermIn P) s.hypotheses
  pub conclusion : TermIn P s.conclusion

-- so have those that a rule is given
abbrev pub GivenIn : (Name → Type 0) → Parameters → Type 0
GivenIn P Parameters.nothing = Unit {0}
GivenIn P (Parameters.term t) = TermIn P t
GivenIn P (Parameters.variable v) = P v.0
GivenIn P (Parameters.substitution types terms) = AllByRecursion (λ (p : Variable × Term). P p.0.0 × TermIn P p.1) terms
GivenIn P (Parameters.sequent s) = SequentIn P s
GivenIn P (Parameters.constant n t) = TermIn P t
GivenIn P (Parameters.constants pairs) = AllByRecursion (λ (p : Name × Variable). P p.1.0) pairs
GivenIn P (Parameters.type_operator names version) = Unit {0}

module _ (P : Name → Type 0) where
  -- the places of the free variables
  pub TermIn-places : (t : Term) → TermIn P t → AllByRecursion (λ (v : Variable). P v.0) (free_places t)
  TermIn-places (term.Term.free n a) h = (h, tt {0})
  TermIn-places (term.Term.bound k) h = tt
  TermIn-places (term.Term.constant n a) h = tt
  TermIn-places (term.Term.app f x) h = All-append (λ (v : Variable). P v.0) (free_places f) (free_places x) (TermIn-places f h.0) (TermIn-places x h.1)
  TermIn-places (term.Term.lam a b) h = TermIn-places b h

  either : (b : Bool) (x y : Term) → TermIn P x → TermIn P y → TermIn P (cond b x y)
  either true x y hx hy = hx
  either false x y hx hy = hy

  close_at-In : (d : ℕ) (v : Variable) (t : Term) → TermIn P t → TermIn P (close_at d v t)
  close_at-In d v (term.Term.free n t) h = either (variable_eq (n, t) v) (term.Term.bound d) (term.Term.free n t) (tt {0}) h
  close_at-In d v (term.Term.bound k) h = tt
  close_at-In d v (term.Term.constant n t) h = tt
  close_at-In d v (term.Term.app f x) h = (close_at-In d v f h.0, close_at-In d v x h.1)
  close_at-In d v (term.Term.lam t b) h = close_at-In (suc d) v b h

  lift_at-In : (c k : ℕ) (t : Term) → TermIn P t → TermIn P (lift_at c k t)
  lift_at-In c k (term.Term.free n t) h = h
  lift_at-In c k (term.Term.bound j) h = tt
  lift_at-In c k (term.Term.constant n t) h = tt
  lift_at-In c k (term.Term.app f x) h = (lift_at-In c k f h.0, lift_at-In c k x h.1)
  lift_at-In c k (term.Term.lam t b) h = lift_at-In (suc c) k b h

  put_at-In : (d : ℕ) (u t : Term) → TermIn P u → TermIn P t → TermIn P (put_at d u t)
  put_at-In d u (term.Term.free n t) hu h = h
  put_at-In d u (term.Term.bound j) hu h =
      either (nat_lt j d) (term.Term.bound j) (cond (nat_eq j d) (lift d u) (term.Term.bound (j - 1))) (tt {0})
      (either (nat_eq j d) (lift d u) (term.Term.bound (j - 1)) (lift_at-In 0 d u hu) (tt {0}))
  put_at-In d u (term.Term.constant n t) hu h = tt
  put_at-In d u (term.Term.app f x) hu h = (put_at-In d u f hu h.0, put_at-In d u x hu h.1)
  put_at-In d u (term.Term.lam t b) hu h = put_at-In (suc d) u b hu h

  term_image-In : (qs : TermPairs) (v : Variable) → P v.0 → AllByRecursion (λ (p : Variable × Term). TermIn P p.1) qs → TermIn P (term_image qs v)
  term_image-In [] v o h = o
  term_image-In (q ∷ qs) v o h = go (variable_eq v q.0) (term_image-In qs v o h.1)
    where
      go : (b : Bool) → TermIn P (term_image qs v) → TermIn P (unwrap_or (cond b (Some q.1) (lookup (variable_eq v) qs)) (term.Term.free v.0 v.1))
      go true k = h.0
      go false k = k

  sub-In : (types : TypePairs) (terms : TermPairs) → AllByRecursion (λ (p : Variable × Term). TermIn P p.1) terms → (t : Term) → TermIn P t
      → TermIn P (sub types terms t)
  sub-In types terms all (term.Term.free n t) h = term_image-In terms (n, substitute types t) h all
  sub-In types terms all (term.Term.bound k) h = tt
  sub-In types terms all (term.Term.constant n t) h = tt
  sub-In types terms all (term.Term.app f x) h = (sub-In types terms all f h.0, sub-In types terms all x h.1)
  sub-In types terms all (term.Term.lam t b) h = sub-In types terms all b h

  constants_put-In : (pairs : ConstantPairs) → AllByRecursion (λ (p : Variable × Term). TermIn P p.1) (constants_put pairs)
  constants_put-In [] = tt
  constants_put-In (p ∷ pairs) = (tt {0}, constants_put-In pairs)

  -- the sides of an equation
  sides : (a : HolType) (x y t : Term) → t ≡ equation a x y → TermIn P t → TermIn P x × TermIn P y
  sides a x y t e h = let k : TermIn P (equation a x y) = subst (TermIn P) e h in (k.0.1, k.1)

  of_equation : (x y : Term) (a : HolType) → TermIn P x → TermIn P y → TermIn P (equation a x y)
  of_equation x y a hx hy = ((tt {0}, hx), hy)

  concludes : (hs : List Term) (c : Term) (s : Sequent) → s ≡ record { hypotheses = hs; conclusion = c } → AllByRecursion (TermIn P) hs → TermIn P c
      → SequentIn P s
  concludes hs c s e h k = subst (SequentIn P) (sym e) (record { hypotheses = h; conclusion = k })

  joined-In : (gs hs : List Term) → AllByRecursion (TermIn P) gs → AllByRecursion (TermIn P) hs → AllByRecursion (TermIn P) (union term_eq gs hs)
  joined-In gs hs h k = union-All (TermIn P) term_eq hs gs h k

  removed-In : (hs : List Term) (c : Term) → AllByRecursion (TermIn P) hs → AllByRecursion (TermIn P) (without term_eq hs c)
  removed-In hs c h = All-filter (TermIn P) _ hs h

  predicate-In : (names : TypeNames) (c : HolType) (f : Term) (one : Sequent) → IsTypeDefinition names c f one → SequentIn P one → TermIn P f
  predicate-In names c f one d h = let k : TermIn P (term.Term.app f d.witness) = subst (TermIn P) d.holds h.conclusion in k.0

  -- The names of what a rule concludes
  pub rule-In : P (codes "a" ∷ []) → P (codes "r" ∷ []) → (kind : StepKind) (premises : List Sequent) (given : Parameters) (s : Sequent)
      → Rule kind premises given s → AllByRecursion (SequentIn P) premises → GivenIn P given → SequentIn P s
  rule-In new old kind premises given s (rule.refl {t = t} {a = a} h e) p g = concludes [] (equation a t t) s e (tt {0}) (of_equation t t a g g)
  rule-In new old kind premises given s (rule.assume {p = q} h e) p g = concludes (q ∷ []) q s e (g, tt {0}) g
  rule-In new old kind premises given s (rule.eq_mp {p = x} {q = y} {one = one} {two = two} e f i) p g =
      concludes (union term_eq one.hypotheses two.hypotheses) y s i (joined-In one.hypotheses two.hypotheses p.0.hypotheses p.1.0.hypotheses)
      (sides bool x y one.conclusion e p.0.conclusion).1
  rule-In new old kind premises given s (rule.abs_thm {v = v} {b = b} {t = t} {u = u} {one = one} e fresh i) p g =
      let w = sides b t u one.conclusion e p.0.conclusion in
      concludes one.hypotheses (equation (function v.1 b) (term.Term.lam v.1 (close v t)) (term.Term.lam v.1 (close v u))) s i p.0.hypotheses
      (of_equation (term.Term.lam v.1 (close v t)) (term.Term.lam v.1 (close v u)) (function v.1 b) (close_at-In 0 v t w.0) (close_at-In 0 v u w.1))
  rule-In new old kind premises given s (rule.app_thm {a = a} {b = b} {f = f} {g = h} {x = x} {y = y} {one = one} {two = two} e i l) p g =
      let w = sides (function a b) f h one.conclusion e p.0.conclusion in
      let z = sides a x y two.conclusion i p.1.0.conclusion in
      concludes (union term_eq one.hypotheses two.hypotheses) (equation b (term.Term.app f x) (term.Term.app h y)) s l
      (joined-In one.hypotheses two.hypotheses p.0.hypotheses p.1.0.hypotheses)
      (of_equation (term.Term.app f x) (term.Term.app h y) b (w.0, z.0) (w.1, z.1))
  rule-In new old kind premises given s (rule.deduct_antisym {one = one} {two = two} i) p g =
      concludes (union term_eq (without term_eq one.hypotheses two.conclusion) (without term_eq two.hypotheses one.conclusion))
      (equation bool one.conclusion two.conclusion) s i
      (joined-In (without term_eq one.hypotheses two.conclusion) (without term_eq two.hypotheses one.conclusion)
      (removed-In one.hypotheses two.conclusion p.0.hypotheses) (removed-In two.hypotheses one.conclusion p.1.0.hypotheses))
      (of_equation one.conclusion two.conclusion bool p.0.conclusion p.1.0.conclusion)
  rule-In new old kind premises given s (rule.beta_conv {a = a} {b = b} {t = t} {u = u} h e) p g =
      concludes [] (equation b (term.Term.app (term.Term.lam a t) u) (put u t)) s e (tt {0})
      (of_equation (term.Term.app (term.Term.lam a t) u) (put u t) b g (put_at-In 0 u t g.1 g.0))
  rule-In new old kind premises given s (rule.sym {a = a} {x = x} {y = y} {one = one} e i) p g =
      let w = sides a x y one.conclusion e p.0.conclusion in
      concludes one.hypotheses (equation a y x) s i p.0.hypotheses (of_equation y x a w.1 w.0)
  rule-In new old kind premises given s (rule.trans {a = a} {x = x} {y = y} {z = z} {one = one} {two = two} e f i) p g =
      concludes (union term_eq one.hypotheses two.hypotheses) (equation a x z) s i (joined-In one.hypotheses two.hypotheses p.0.hypotheses p.1.0.hypotheses)
      (of_equation x z a (sides a x y one.conclusion e p.0.conclusion).0 (sides a y z two.conclusion f p.1.0.conclusion).1)
  rule-In new old kind premises given s (rule.prove_hyp {one = one} {two = two} i) p g =
      concludes (union term_eq one.hypotheses (without term_eq two.hypotheses one.conclusion)) two.conclusion s i
      (joined-In one.hypotheses (without term_eq two.hypotheses one.conclusion) p.0.hypotheses (removed-In two.hypotheses one.conclusion p.1.0.hypotheses))
      p.1.0.conclusion
  rule-In new old kind premises given s (rule.subst {types = types} {terms = terms} {one = one} fitting i) p g =
      let all : AllByRecursion (λ (q : Variable × Term). TermIn P q.1) terms = All-weaker _ _ (λ q h. h.1) terms g in
      concludes (distinct term_eq (map (sub types terms) one.hypotheses)) (sub types terms one.conclusion) s i
      (joined-In [] (map (sub types terms) one.hypotheses) (tt {0})
      (All-mapped (TermIn P) (sub types terms) one.hypotheses (All-weaker _ _ (sub-In types terms all) one.hypotheses p.0.hypotheses)))
      (sub-In types terms all one.conclusion p.0.conclusion)
  rule-In new old kind premises given s (rule.recorded is) p g = g
  rule-In new old kind premises given s (rule.restate is i) p g = g
  rule-In new old kind premises given s (rule.define_const {n = n} {t = t} {a = a} h e) p g =
      concludes [] (equation a (term.Term.constant n a) t) s e (tt {0}) (of_equation (term.Term.constant n a) t a (tt {0}) g)
  rule-In new old kind premises given s (rule.define_const_list {pairs = pairs} {one = one} defining list e) p g =
      concludes [] (sub [] (constants_put pairs) one.conclusion) s e (tt {0})
      (sub-In [] (constants_put pairs) (constants_put-In pairs) one.conclusion p.0.conclusion)
  rule-In new old kind premises given s (rule.first_law {names = names} {c = c} {f = f} {one = one} t e) p g =
      concludes [] (type_definition.first_law names c).conclusion s e (tt {0}) ((tt {0}, (tt {0}, (tt {0}, tt {0}))), tt {0})
  rule-In new old kind premises given s (rule.second_law {names = names} {c = c} {f = f} {one = one} t e) p g =
      concludes [] (type_definition.second_law names c f).conclusion s e (tt {0})
      ((tt {0}, ((tt {0}, (tt {0}, (tt {0}, tt {0}))), tt {0})), (predicate-In names c f one t p.0, tt {0}))
  rule-In new old kind premises given s (rule.first_law_free {names = names} {c = c} {f = f} {one = one} t e) p g =
      concludes [] (type_definition.first_law_free names c).conclusion s e (tt {0}) ((tt {0}, (tt {0}, (tt {0}, new))), new)
  rule-In new old kind premises given s (rule.second_law_free {names = names} {c = c} {f = f} {one = one} t e) p g =
      concludes [] (type_definition.second_law_free names c f).conclusion s e (tt {0})
      ((tt {0}, (predicate-In names c f one t p.0, old)), ((tt {0}, (tt {0}, (tt {0}, old))), old))
