-- Shaped constants and terms under an entry more, and calls at arguments that are told after a substitution.
use Rattle.std.proofs.Common.{◌≡◌, ℕ, zero, suc, true, false, List, [], ◌∷◌, ◌++◌, map, Some, refl, sym, ap, subst, ◌∙◌}
use Rattle.std.specs.Prelude.{slice_get, replicate, length}
use Rattle.std.specs.List.{AllByRecursion}
use Rattle.std.proofs.Math.Path.{subst₂}
use Rattle.hol_spec.specs.Names.{Name}
use Rattle.lp_spec.specs.Trees.{Tree, Var, App, Pi, lift, put, put_at}
use Rattle.lp_spec.specs.Substitution.{sub, cons, up, ren}
use Rattle.lp_binding_laws.specs.Composition.{suc_lift}
use Rattle.lp_binding_laws.specs.SubstitutionLaws.{ren-lift, lift_one}
use Rattle.lp_spec.specs.Modules.{Declaration, applied, products, abstractions, types, term_of, eq_of, proof_of, refl_of}
use Rattle.lp_typing_laws.specs.ConversionLaws.{IsClosed}
use Rattle.lp_typing_laws.specs.Telescopes.{under}
use Rattle.lp_spec.specs.HeadSteps.{head_step}
use Rattle.lp_spec.specs.Shaped.{Solid, IsConstant, at_type, IsSimple, IsTerm, of_entry, of_constant, of_function, of_binder, IsDeclared, of_products, Near, near_same, near_product, IsProof, at_a_type, at_a_term, at_a_proof, at_a_definition, hypothesis, under_binder}
use Rattle.lp_check_laws.specs.SizedTerms.{Weakens, outside, inside, moved, constant-ren}
use Rattle.translate_spec.specs.Scopes.{TypeScope}
use Rattle.translate_laws.specs.SimultaneousArguments.{after, put-ups}

module _ (m : List Declaration) (closed : IsClosed m) where
  pub term-ren : {r : ℕ → ℕ} {G D : List Tree} {t a : Tree} → Weakens r G D → IsTerm m G t a → IsTerm m D (ren r t) (ren r a)
  term-ren {r = r} v (of_entry {n = n} {b = b} e q s) =
      let h = moved v n (term_of b) e in
      of_entry h.at (term-part h.is ∙ ap (ren r) q) (constant-ren m closed v s)
    where
      term-part : {x y : Tree} → term_of x ≡ term_of y → x ≡ y
      term-part e = cc
  term-ren v (of_constant h s) = of_constant (constant-ren m closed v h) (constant-ren m closed v s)
  term-ren {r = r} v (of_function f x) = of_function (term-ren v f) (term-ren v x)
  term-ren {r = r} {D = D} v (of_binder {t = t} {a = a} {b = b} ha hb h) =
      of_binder (constant-ren m closed v ha) (constant-ren m closed v hb)
      (subst (IsTerm m (term_of (ren r a) ∷ D) (ren (up r) t)) (ren-lift r b) (term-ren {r = up r} (inside v) h))

  pub term-weaken : {G : List Tree} {C t a : Tree} → IsTerm m G t a → IsTerm m (C ∷ G) (lift 1 t) (lift 1 a)
  term-weaken {G = G} {C = C} {t = t} {a = a} h = subst₂ (IsTerm m (C ∷ G)) (sym (lift_one t)) (sym (lift_one a)) (term-ren outside h)

-- an entry of the context that proves a formula
pub record IsEntry (G : List Tree) (t p : Tree) : Type 0 where
  pub number : ℕ
  pub declared : Tree
  pub is : t ≡ Var number
  pub at : slice_get G number ≡ Some (proof_of declared)
  pub lifted : lift (suc number) (proof_of declared) ≡ proof_of p

pub entry-weaken : {G : List Tree} {t p : Tree} (C : Tree) → IsEntry G t p → IsEntry (C ∷ G) (lift 1 t) (lift 1 p)
entry-weaken {t = t} {p = p} C h = record {
  number = suc h.number;
  declared = h.declared;
  is = lift_one t ∙ ap (ren suc) h.is;
  at = h.at;
  lifted = sym (suc_lift (suc h.number) (proof_of h.declared)) ∙ ap (ren suc) h.lifted ∙ sym (lift_one (proof_of p));
}

pub entry-proof : (m : List Declaration) {G : List Tree} {t p : Tree} → IsEntry G t p → IsProof m false G t (proof_of p)
entry-proof m {G = G} {p = p} h = subst (λ t. IsProof m false G t (proof_of p)) (sym h.is) (hypothesis h.at h.lifted)

-- what a product ends in
pub Solid-products : (ds : List Tree) (B : Tree) → Solid B → Solid (products ds B)
Solid-products [] B h = h
Solid-products (d ∷ ds) B h = Solid-products ds B h

-- the tree is a shaped argument where this type is expected; reflexivity may stand for the equation of a defined constant with its body
pub data Argument (m : List Declaration) (G : List Tree) : Tree → Tree → Type 0 where
  a_type : {x : Tree} → IsSimple m G x → Argument m G x types
  a_term : {x a : Tree} → IsTerm m G x a → Argument m G x (term_of a)
  a_proof : {x E : Tree} → IsProof m false G x E → Argument m G x E
  a_definition : {a c t : Tree} → IsConstant m G c (term_of a) → IsTerm m G t a → head_step m c ≡ Some t
      → IsProof m false G (refl_of a t) (proof_of (eq_of a t t)) → Argument m G (refl_of a t) (proof_of (eq_of a c t))

-- the trees are shaped arguments for the domains after the substitution, each with those before it put in
abbrev pub AreAfter : List Declaration → List Tree → (ℕ → Tree) → List Tree → List Tree → Type 0
AreAfter m G s [] [] = Unit {0}
AreAfter m G s (a ∷ domains) (x ∷ xs) = Argument m G x (sub s a) × AreAfter m G (cons x s) domains xs
AreAfter m G s [] (x ∷ xs) = ⊥
AreAfter m G s (a ∷ domains) [] = ⊥

module _ (m : List Declaration) (G : List Tree) where
  pub AreAfter-append : (s : ℕ → Tree) (ds es xs ys : List Tree) → AreAfter m G s ds xs → AreAfter m G (after s xs) es ys → AreAfter m G s (ds ++ es) (xs ++ ys)
  AreAfter-append s [] es [] ys h k = k
  AreAfter-append s [] es (x ∷ xs) ys h k = absurd h
  AreAfter-append s (d ∷ ds) es [] ys h k = absurd h
  AreAfter-append s (d ∷ ds) es (x ∷ xs) ys h k = (h.0, AreAfter-append (cons x s) ds es xs ys h.1 k)

  at_one : {f x E A B : Tree} → IsProof m true G f (Pi E A) → Argument m G x E → put x A ≡ B → IsProof m true G (App f x) B
  at_one h (a_type k) e = at_a_type h k e
  at_one h (a_term k) e = at_a_term h k e
  at_one h (a_proof k) e = at_a_proof h k e
  at_one h (a_definition c t s r) e = at_a_definition h c t s r e

  -- a call at arguments
  pub shaped-at : (s : ℕ → Tree) (domains xs : List Tree) (f B : Tree) → IsProof m true G f (sub s (products domains B)) → AreAfter m G s domains xs
      → IsProof m true G (applied f xs) (sub (after s xs) B)
  shaped-at s [] [] f B h k = h
  shaped-at s [] (x ∷ xs) f B h k = absurd k
  shaped-at s (a ∷ domains) [] f B h k = absurd k
  shaped-at s (a ∷ domains) (x ∷ xs) f B h k = shaped-at (cons x s) domains xs (App f x) B (at_one h k.0 (put-ups s x (products domains B))) k.1

  -- a constant at simple types, for the binders of type variables
  pub constant-at : (other : TypeScope) (ns : List Name) (s : ℕ → Tree) (f B : Tree) → IsConstant m G f (sub s (products (map (λ n. types) ns) B))
      → AllByRecursion (λ n. IsSimple m G (other n)) ns
      → IsConstant m G (applied f (map other ns)) (sub (after s (map other ns)) B)
  constant-at other [] s f B h k = h
  constant-at other (n ∷ ns) s f B h k = constant-at other ns (cons (other n) s) (App f (other n)) B
      (at_type h k.0 (put-ups s (other n) (products (map (λ n. types) ns) B))) k.1

  put_at-types : (d : ℕ) (x : Tree) (k : ℕ) → put_at d x (products (replicate k types) types) ≡ products (replicate k types) types
  put_at-types d x zero = refl
  put_at-types d x (suc k) = ap (Pi types) (put_at-types (suc d) x k)

  -- an operator at simple types is one
  pub operator-at : (f : Tree) (xs : List Tree) → IsConstant m G f (products (replicate (length xs) types) types) → AllByRecursion (λ x. IsSimple m G x) xs
      → IsSimple m G (applied f xs)
  operator-at f [] h k = h
  operator-at f (x ∷ xs) h k = operator-at (App f x) xs (at_type h k.0 (put_at-types 0 x (length xs))) k.1

-- each of the domains is declared under those before it
abbrev pub AreDeclared : List Declaration → List Tree → List Tree → Type 0
AreDeclared m G [] = Unit {0}
AreDeclared m G (a ∷ domains) = IsDeclared m G a × AreDeclared m (a ∷ G) domains

pub AreDeclared-append : (m : List Declaration) (G ds es : List Tree) → AreDeclared m G ds → AreDeclared m (under G ds) es → AreDeclared m G (ds ++ es)
AreDeclared-append m G [] es h k = k
AreDeclared-append m G (d ∷ ds) es h k = (h.0, AreDeclared-append m (d ∷ G) ds es h.1 k)

module _ (m : List Declaration) where
  pub declared-products : {G : List Tree} (domains : List Tree) {t : Tree} → AreDeclared m G domains → IsDeclared m (under G domains) t
      → IsDeclared m G (products domains t)
  declared-products [] h ht = ht
  declared-products (a ∷ domains) h ht = of_products h.0 (declared-products domains h.1 ht)

  pub proof-abstractions : {G : List Tree} (domains : List Tree) {t A : Tree} → AreDeclared m G domains → IsProof m false (under G domains) t A
      → IsProof m false G (abstractions domains t) (products domains A)
  proof-abstractions [] h ht = ht
  proof-abstractions (a ∷ domains) h ht = under_binder h.0 (proof-abstractions domains h.1 ht)

  pub near-products : (domains : List Tree) {A F : Tree} → Near m A F → Near m (products domains A) (products domains F)
  near-products [] h = h
  near-products (a ∷ domains) h = near_product near_same (near-products domains h)
