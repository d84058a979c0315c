-- The bodies of steps are shaped: each proves the conclusion of its sequent, in a shaped scope in which the hypotheses are entries.
use Rattle.std.proofs.Common.{◌≡◌, ℕ, List, [], ◌∷◌, Bool, true, false, cond, ◌⊎◌, inl, inr, ⊎_elim, refl, sym, ap, subst, ◌∙◌}
use Rattle.hol_spec.specs.Types.{HolType}
use Rattle.hol_spec.specs.Primitives.{bool, function}
use Rattle.hol_spec.specs.Terms.{Term, app, term_eq, HasType, equation}
use Rattle.hol_laws.specs.TermLaws.{term_eq-Decides}
use Rattle.hol_spec.specs.Sequents.{Sequent}
use Rattle.lp_spec.specs.Trees.{Tree, Var, Sym, Lam, Pi, lift}
use Rattle.lp_binding_laws.specs.Composition.{lift_zero}
use Rattle.lp_spec.specs.Modules.{Declaration, applied, bools, term_of, proof_of, eq_of, refl_of, prop_ext_symbol}
use Rattle.lp_spec.specs.Lemmas.{sym_domains, trans_domains}
use Rattle.lp_typing_laws.specs.ConversionLaws.{IsClosed}
use Rattle.lp_spec.specs.Shaped.{IsSimple, IsTerm, of_proofs, IsProof, called, under_binder}
use Rattle.lp_check_laws.specs.ShapedCalls.{a_type, a_term, a_proof, shaped-call, shaped-refl, shaped-eq_mp, shaped-app_thm}
use Rattle.hol_spec.specs.Lists.{IsIn}
use Rattle.translate_spec.specs.Scopes.{SymbolMap, type_tree, Scope, lifted, term_tree, under_proof, set_proof, theorem_tree}
use Rattle.translate_laws.specs.ScopeLaws.{term_tree-lift}
use Rattle.translate_laws.specs.ScopeTyping.{TypeOver, TermOver}
use Rattle.translate_spec.specs.ProofTrees.{sym_symbol, trans_symbol, trans_tree, eq_mp_tree, sym_tree, app_thm_tree, prop_ext_tree, prove_hyp_tree}
use Rattle.translate_laws.specs.SequentScope.{IsPremise, term_tree-proofs}
use Rattle.translate_laws.specs.Bodies.{equation-sides, equation-over, HasLemmas}
use Rattle.translate_laws.specs.ShapeLaws as laws
use Rattle.translate_laws.specs.ShapeLaws.{entry-proof, Argument}
use Rattle.translate_laws.specs.ShapedScopes.{ShapedScope, type_tree-shaped, term_tree-shaped}
use Rattle.translate_laws.specs.ShapedSequents.{HasEntry, under_proof-shaped, under_proof-HasEntry, premise-shaped}

module _ (m : List Declaration) where
  -- `prop_ext p q h k` proves p = q, from h of q under p and k of p under q
  pub shaped-prop_ext : {G : List Tree} {p q h k : Tree} → IsTerm m G p bools → IsTerm m G q bools → IsProof m false G h (Pi (proof_of p) (proof_of (lift 1 q)))
      → IsProof m false G k (Pi (proof_of q) (proof_of (lift 1 p)))
      → IsProof m false G (applied (Sym prop_ext_symbol) (p ∷ q ∷ h ∷ k ∷ [])) (proof_of (eq_of bools p q))
  shaped-prop_ext {G = G} {p = p} {q = q} {h = h} {k = k} hp hq hh hk =
      let domains = term_of bools ∷ term_of bools ∷ Pi (proof_of (Var 1)) (proof_of (Var 1)) ∷ Pi (proof_of (Var 1)) (proof_of (Var 3)) ∷ [] in
      let c = shaped-call m G domains (p ∷ q ∷ h ∷ k ∷ []) prop_ext_symbol (proof_of (eq_of bools (Var 3) (Var 2))) refl tt refl
      (a_term hp, (a_term hq, (a_proof (simp lift_zero hh), (a_proof (simp lift_zero hk), tt {0})))) in
      called (simp lift_zero at c)

  module _ (lemmas : HasLemmas m) where
    pub shaped-sym_of : {G : List Tree} {a x y h : Tree} → IsSimple m G a → IsTerm m G x a → IsTerm m G y a → IsProof m false G h (proof_of (eq_of a x y))
        → IsProof m false G (applied (Sym sym_symbol) (a ∷ x ∷ y ∷ h ∷ [])) (proof_of (eq_of a y x))
    shaped-sym_of {G = G} {a = a} {x = x} {y = y} {h = h} ha hx hy hh =
        let c = shaped-call m G sym_domains (a ∷ x ∷ y ∷ h ∷ []) sym_symbol (proof_of (eq_of (Var 3) (Var 1) (Var 2))) lemmas.symmetry tt refl
        (a_type ha, (a_term (simp lift_zero hx), (a_term (simp lift_zero hy), (a_proof (simp lift_zero hh), tt {0})))) in
        called (simp lift_zero at c)

    pub shaped-trans_of : {G : List Tree} {a x y z g h : Tree} → IsSimple m G a → IsTerm m G x a → IsTerm m G y a → IsTerm m G z a
        → IsProof m false G g (proof_of (eq_of a x y)) → IsProof m false G h (proof_of (eq_of a y z))
        → IsProof m false G (applied (Sym trans_symbol) (a ∷ x ∷ y ∷ z ∷ g ∷ h ∷ [])) (proof_of (eq_of a x z))
    shaped-trans_of {G = G} {a = a} {x = x} {y = y} {z = z} {g = g} {h = h} ha hx hy hz hg hh =
        let c = shaped-call m G trans_domains (a ∷ x ∷ y ∷ z ∷ g ∷ h ∷ []) trans_symbol (proof_of (eq_of (Var 5) (Var 4) (Var 2))) lemmas.transitivity tt refl (
          a_type ha,
          (
            a_term (simp lift_zero hx),
            (a_term (simp lift_zero hy), (a_term (simp lift_zero hz), (a_proof (simp lift_zero hg), (a_proof (simp lift_zero hh), tt {0})))),
          ),
        ) in
        called (simp lift_zero at c)

-- Under the binders of a sequent: a shaped scope, in which each of these hypotheses is an entry.
pub record HasHypotheses (m : List Declaration) (symbols : SymbolMap) (G : List Tree) (scope : Scope) (hypotheses : List Term) : Type 0 where
  pub is : ShapedScope m symbols G scope
  pub proofs : (h : Term) → IsIn hypotheses h → HasEntry symbols G scope h

module _ (m : List Declaration) (closed : IsClosed m) (symbols : SymbolMap) (G : List Tree) (scope : Scope) (hypotheses : List Term)
    (stands : HasHypotheses m symbols G scope hypotheses) where
  -- what proves a formula here
  abbrev pub Proves : Tree → Term → Type 0
  Proves t p = IsProof m false G t (proof_of (term_tree symbols scope p))

  -- a term of a type
  pub term-here : (t : Term) (a : HolType) → TermOver m symbols t → HasType t a → IsTerm m G (term_tree symbols scope t) (type_tree symbols scope.types a)
  term-here t a o h = term_tree-shaped m closed symbols G scope [] stands.is (λ k b e. absurd (cc)) (λ k b e. absurd (cc)) t a o h

  pub type-here : (a : HolType) → TypeOver m symbols a → IsSimple m G (type_tree symbols scope.types a)
  type-here a o = type_tree-shaped m G symbols scope.types stands.is.types a o

  -- a premise whose hypotheses are all here
  pub premise-here : (k : ℕ) (one : Sequent) → IsPremise m symbols k one → ((h : Term) → IsIn one.hypotheses h → IsIn hypotheses h)
      → Proves (theorem_tree scope k one) one.conclusion
  premise-here k one p inside = premise-shaped m closed symbols G scope stands.is k one p
      (λ h i. laws.Argument.a_proof (entry-proof m (stands.proofs h (inside h i))))

  -- refl
  pub refl-row : (a : HolType) (t : Term) → TypeOver m symbols a → TermOver m symbols t → HasType t a
      → Proves (refl_of (type_tree symbols scope.types a) (term_tree symbols scope t)) (equation a t t)
  refl-row a t oa ot h = shaped-refl m (type-here a oa) (term-here t a ot h)

  -- assume
  pub assume-row : (p : Term) → IsIn hypotheses p → Proves (scope.proofs p) p
  assume-row p i = entry-proof m (stands.proofs p i)

  module _ (lemmas : HasLemmas m) where
    -- trans
    pub trans-row : (a : HolType) (x y z : Term) (j k : ℕ) (one two : Sequent) → IsPremise m symbols j one → IsPremise m symbols k two
        → one.conclusion ≡ equation a x y → two.conclusion ≡ equation a y z
        → ((h : Term) → IsIn one.hypotheses h → IsIn hypotheses h) → ((h : Term) → IsIn two.hypotheses h → IsIn hypotheses h)
        → Proves (trans_tree symbols scope a x y z (j, one) (k, two)) (equation a x z)
    trans-row a x y z j k one two p q e f i l =
        let first = equation-over m symbols a x y (subst (TermOver m symbols) e p.over.conclusion) in
        let second = equation-over m symbols a y z (subst (TermOver m symbols) f q.over.conclusion) in
        let left = equation-sides a x y (subst (λ t. HasType t bool) e p.is.conclusion) in
        let right = equation-sides a y z (subst (λ t. HasType t bool) f q.is.conclusion) in
        shaped-trans_of m lemmas (type-here a first.ty) (term-here x a first.left left.left) (term-here y a first.right left.right)
        (term-here z a second.right right.right)
        (subst (Proves (theorem_tree scope j one)) e (premise-here j one p i))
        (subst (Proves (theorem_tree scope k two)) f (premise-here k two q l))

    -- sym
    pub sym-row : (a : HolType) (x y : Term) (j : ℕ) (one : Sequent) → IsPremise m symbols j one → one.conclusion ≡ equation a x y
        → ((h : Term) → IsIn one.hypotheses h → IsIn hypotheses h)
        → Proves (sym_tree symbols scope a x y (j, one)) (equation a y x)
    sym-row a x y j one p e i =
        let parts = equation-over m symbols a x y (subst (TermOver m symbols) e p.over.conclusion) in
        let sides = equation-sides a x y (subst (λ t. HasType t bool) e p.is.conclusion) in
        shaped-sym_of m lemmas (type-here a parts.ty) (term-here x a parts.left sides.left) (term-here y a parts.right sides.right)
        (subst (Proves (theorem_tree scope j one)) e (premise-here j one p i))

  -- eqMp
  pub eq_mp-row : (p q : Term) (j k : ℕ) (one two : Sequent) → IsPremise m symbols j one → IsPremise m symbols k two → one.conclusion ≡ equation bool p q
      → two.conclusion ≡ p
      → ((h : Term) → IsIn one.hypotheses h → IsIn hypotheses h) → ((h : Term) → IsIn two.hypotheses h → IsIn hypotheses h)
      → Proves (eq_mp_tree symbols scope p q (j, one) (k, two)) q
  eq_mp-row p q j k one two a b e f i l =
      let parts = equation-over m symbols bool p q (subst (TermOver m symbols) e a.over.conclusion) in
      let sides = equation-sides bool p q (subst (λ t. HasType t bool) e a.is.conclusion) in
      shaped-eq_mp m (term-here p bool parts.left sides.left) (term-here q bool parts.right sides.right)
      (subst (Proves (theorem_tree scope j one)) e (premise-here j one a i))
      (subst (Proves (theorem_tree scope k two)) f (premise-here k two b l))

  -- appThm
  pub app_thm-row : (a b : HolType) (f g x y : Term) (j k : ℕ) (one two : Sequent) → IsPremise m symbols j one → IsPremise m symbols k two
      → one.conclusion ≡ equation (function a b) f g → two.conclusion ≡ equation a x y
      → ((h : Term) → IsIn one.hypotheses h → IsIn hypotheses h) → ((h : Term) → IsIn two.hypotheses h → IsIn hypotheses h)
      → Proves (app_thm_tree symbols scope a b f g x y (j, one) (k, two)) (equation b (app f x) (app g y))
  app_thm-row a b f g x y j k one two p q d e i l =
      let first = equation-over m symbols (function a b) f g (subst (TermOver m symbols) d p.over.conclusion) in
      let second = equation-over m symbols a x y (subst (TermOver m symbols) e q.over.conclusion) in
      let functions = equation-sides (function a b) f g (subst (λ t. HasType t bool) d p.is.conclusion) in
      let arguments = equation-sides a x y (subst (λ t. HasType t bool) e q.is.conclusion) in
      shaped-app_thm m (type-here a second.ty) (type-here b first.ty.1.1.0)
      (term-here f (function a b) first.left functions.left) (term-here g (function a b) first.right functions.right)
      (term-here x a second.left arguments.left) (term-here y a second.right arguments.right)
      (subst (Proves (theorem_tree scope j one)) d (premise-here j one p i))
      (subst (Proves (theorem_tree scope k two)) e (premise-here k two q l))

  -- restate
  pub restate-row : (j : ℕ) (one : Sequent) → IsPremise m symbols j one → ((h : Term) → IsIn one.hypotheses h → IsIn hypotheses h)
      → Proves (theorem_tree scope j one) one.conclusion
  restate-row j one p i = premise-here j one p i

  -- under a hypothesis more, a premise proves what it says outside
  under-hypothesis : (p q : Term) (k : ℕ) (two : Sequent) → IsPremise m symbols k two → two.conclusion ≡ q → TermOver m symbols p → HasType p bool
      → ((h : Term) → IsIn two.hypotheses h → (h ≡ p) ⊎ IsIn hypotheses h)
      → IsProof m false G (Lam (proof_of (term_tree symbols scope p)) (theorem_tree (under_proof p scope) k two))
      (Pi (proof_of (term_tree symbols scope p)) (proof_of (lift 1 (term_tree symbols scope q))))
  under-hypothesis p q k two w e op tp i =
      let A = proof_of (term_tree symbols scope p) in
      let inner = premise-shaped m closed symbols (A ∷ G) (under_proof p scope) (under_proof-shaped m closed symbols G A p scope stands.is) k two w
      (λ h a. laws.Argument.a_proof
      (entry-proof m (under_proof-HasEntry m closed symbols G p scope h (⊎_elim (λ l. inl l) (λ r. inr (stands.proofs h r)) (i h a))))) in
      let same : term_tree symbols (under_proof p scope) two.conclusion ≡ lift 1 (term_tree symbols scope q) =
      ap (term_tree symbols (under_proof p scope)) e
      ∙ sym (term_tree-lift symbols scope q ∙ term_tree-proofs symbols (under_proof p scope).proofs (lifted scope) q) in
      under_binder (of_proofs (term-here p bool op tp))
      (subst (λ t. IsProof m false (A ∷ G) (theorem_tree (under_proof p scope) k two) (proof_of t)) same inner)

  -- deductAntisym
  pub prop_ext-row : (p q : Term) (j k : ℕ) (one two : Sequent) → IsPremise m symbols j one → IsPremise m symbols k two → one.conclusion ≡ p
      → two.conclusion ≡ q
      → ((h : Term) → IsIn one.hypotheses h → (h ≡ q) ⊎ IsIn hypotheses h) → ((h : Term) → IsIn two.hypotheses h → (h ≡ p) ⊎ IsIn hypotheses h)
      → Proves (prop_ext_tree symbols scope p q (j, one) (k, two)) (equation bool p q)
  prop_ext-row p q j k one two a b e f i l =
      let op = subst (TermOver m symbols) e a.over.conclusion in
      let oq = subst (TermOver m symbols) f b.over.conclusion in
      let tp = subst (λ t. HasType t bool) e a.is.conclusion in
      let tq = subst (λ t. HasType t bool) f b.is.conclusion in
      shaped-prop_ext m (term-here p bool op tp) (term-here q bool oq tq) (under-hypothesis p q k two b f op tp l) (under-hypothesis q p j one a e oq tq i)

  -- proveHyp: in the scope of premise 2 the proof of p is premise 1
  set_proof-Argument : (p : Term) (x : Tree) (h : Term) → Proves x p → ((h ≡ p) ⊎ HasEntry symbols G scope h)
      → Argument m G ((set_proof p x scope).proofs h) (proof_of (term_tree symbols (set_proof p x scope) h))
  set_proof-Argument p x h hx either = go (term_eq h p) (term_eq-Decides h p).0 (term_eq-Decides h p).1 either
    where
      is : (g : Term) → proof_of (term_tree symbols scope g) ≡ proof_of (term_tree symbols (set_proof p x scope) g)
      is g = ap proof_of (term_tree-proofs symbols (set_proof p x scope).proofs scope g)

      go : (b : Bool) → (b ≡ true → h ≡ p) → (h ≡ p → b ≡ true) → ((h ≡ p) ⊎ HasEntry symbols G scope h)
          → Argument m G (cond b x (scope.proofs h)) (proof_of (term_tree symbols (set_proof p x scope) h))
      go true e f either = subst (Argument m G x) (is p ∙ ap (λ g. proof_of (term_tree symbols (set_proof p x scope) g)) (sym (e refl)))
          (laws.Argument.a_proof hx)
      go false e f (inl k) = absurd (let yes = f k in cc)
      go false e f (inr k) = subst (Argument m G (scope.proofs h)) (is h) (laws.Argument.a_proof (entry-proof m k))

  pub prove_hyp-row : (p : Term) (j k : ℕ) (one two : Sequent) → IsPremise m symbols j one → IsPremise m symbols k two → one.conclusion ≡ p
      → ((h : Term) → IsIn one.hypotheses h → IsIn hypotheses h) → ((h : Term) → IsIn two.hypotheses h → (h ≡ p) ⊎ IsIn hypotheses h)
      → Proves (prove_hyp_tree symbols scope p (j, one) (k, two)) two.conclusion
  prove_hyp-row p j k one two a b e i l =
      let first = subst (Proves (theorem_tree scope j one)) e (premise-here j one a i) in
      let inner = set_proof p (theorem_tree scope j one) scope in
      let shaped : ShapedScope m symbols G inner = record { types = stands.is.types; terms = stands.is.terms } in
      subst (λ t. IsProof m false G (theorem_tree inner k two) (proof_of t)) (sym (term_tree-proofs symbols inner.proofs scope two.conclusion))
      (premise-shaped m closed symbols G inner shaped k two b
      (λ h c. set_proof-Argument p (theorem_tree scope j one) h first (⊎_elim (λ z. inl z) (λ r. inr (stands.proofs h r)) (l h c))))
