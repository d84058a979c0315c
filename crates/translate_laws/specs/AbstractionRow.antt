-- The row of absThm: the premise stands under the binder, whose variable is free in it.
use Rattle.std.proofs.Common.{◌≡◌, ℕ, List, [], ◌∷◌, false, cond, refl, sym, ap, subst, ◌∙◌, arith}
use Rattle.std.specs.List.{AllByRecursion}
use Rattle.hol_spec.specs.Types.{HolType}
use Rattle.hol_spec.specs.Primitives.{bool, function}
use Rattle.hol_spec.specs.Terms.{Term, lam, Variable, variable_eq, HasType, equation, type_variable_places}
use Rattle.hol_spec.specs.TermBinding.{close, loose}
use Rattle.hol_spec.specs.Sequents.{Sequent}
use Rattle.lp_spec.specs.Trees.{Tree, Var, Sym, App, Lam, lift}
use Rattle.lp_spec.specs.Modules.{Declaration, term_of, proof_of, arr_of, eq_of}
use Rattle.lp_typing_laws.specs.ConversionLaws.{IsClosed}
use Rattle.lp_spec.specs.Shaped.{IsTerm, IsProof}
use Rattle.lp_check_laws.specs.ShapedRows.{shaped-fun_ext}
use Rattle.hol_spec.specs.Lists.{IsIn}
use Rattle.hol_laws.specs.Members.{All-each, All-at}
use Rattle.translate_spec.specs.Scopes.{SymbolMap, type_tree, Scope, lifted, term_tree, under_term, theorem_tree}
use Rattle.translate_laws.specs.ScopeLaws.{type_tree-lift, term_tree-lift}
use Rattle.translate_laws.specs.TermScopeLaws.{term_tree-close, term_tree-agrees, Agrees}
use Rattle.translate_laws.specs.ScopeTyping.{TermOver, AreInstances-over}
use Rattle.translate_spec.specs.ProofTrees.{fun_ext_tree}
use Rattle.translate_laws.specs.SequentScope.{IsPremise}
use Rattle.translate_laws.specs.Bodies.{equation-over, equation-sides}
use Rattle.translate_laws.specs.AbstractionBody.{IsFresh}
use Rattle.translate_laws.specs.ShapeLaws as laws
use Rattle.translate_laws.specs.ShapeLaws.{IsEntry, entry-weaken, entry-proof}
use Rattle.translate_laws.specs.ShapedScopes.{term_tree-shaped}
use Rattle.translate_laws.specs.ShapedSequents.{HasEntry, under_term-shaped, premise-shaped}
use Rattle.translate_laws.specs.ShapedRows.{HasHypotheses, type-here}

module _ (m : List Declaration) (closed : IsClosed m) (symbols : SymbolMap) (G : List Tree) (scope : Scope) (hypotheses : List Term)
    (stands : HasHypotheses m symbols G scope hypotheses) where
  -- under the binder of a variable that isn't free in it, a hypothesis keeps its entry
  fresh-HasEntry : (v : Variable) (h : Term) → TermOver m symbols h → IsFresh v h → HasEntry symbols G scope h
      → HasEntry symbols (term_of (type_tree symbols scope.types v.1) ∷ G) (under_term v scope) h
  fresh-HasEntry v h o fresh p =
      subst (λ t. IsEntry (term_of (type_tree symbols scope.types v.1) ∷ G) (lift 1 (scope.proofs h)) t)
      (term_tree-lift symbols scope h
      ∙ term_tree-agrees symbols (λ n. Unit {0}) (λ w. variable_eq w v ≡ false) (loose h) (lifted scope) (under_term v scope) agrees h
      (AreInstances-over m symbols h o) (All-each _ (type_variable_places h) (λ n i. tt)) fresh (omega arith))
      (entry-weaken (term_of (type_tree symbols scope.types v.1)) p)
    where
      agrees : Agrees symbols (λ n. Unit {0}) (λ w. variable_eq w v ≡ false) (loose h) (lifted scope) (under_term v scope)
      agrees = record { types = λ n p. refl; terms = λ w e. sym (ap (λ b. cond b (Var 0) (lift 1 (scope.terms w))) e); bounds = λ k l. refl }

  abbrev abstracted : Variable → HolType → Term → Term → Term
  abstracted v b t u = equation (function v.1 b) (lam v.1 (close v t)) (lam v.1 (close v u))

  pub abs_thm-row : (v : Variable) (b : HolType) (t u : Term) (j : ℕ) (one : Sequent) → IsPremise m symbols j one → one.conclusion ≡ equation b t u
      → ((h : Term) → IsIn one.hypotheses h → IsIn hypotheses h) → AllByRecursion (IsFresh v) one.hypotheses
      → TermOver m symbols (abstracted v b t u)
      → IsProof m false G (fun_ext_tree symbols scope v b t u (j, one)) (proof_of (term_tree symbols scope (abstracted v b t u)))
  abs_thm-row v b t u j one p e i fresh over =
      let A = type_tree symbols scope.types v.1 in
      let B = type_tree symbols scope.types b in
      let inner = under_term v scope in
      let T = term_tree symbols inner t in
      let U = term_tree symbols inner u in
      let D : List Tree = term_of A ∷ G in
      let whole = equation-over m symbols (function v.1 b) (lam v.1 (close v t)) (lam v.1 (close v u)) over in
      let parts = equation-over m symbols b t u (subst (TermOver m symbols) e p.over.conclusion) in
      let sides = equation-sides b t u (subst (λ q. HasType q bool) e p.is.conclusion) in
      let hA = type-here m closed symbols G scope hypotheses stands v.1 whole.ty.1.0 in
      let hB = type-here m closed symbols G scope hypotheses stands b parts.ty in
      let shaped = under_term-shaped m closed symbols G v scope whole.ty.1.0 stands.is in
      let left : term_tree symbols scope (lam v.1 (close v t)) ≡ Lam (term_of A) T = ap (Lam (term_of A)) (term_tree-close symbols v scope t) in
      let right : term_tree symbols scope (lam v.1 (close v u)) ≡ Lam (term_of A) U = ap (Lam (term_of A)) (term_tree-close symbols v scope u) in
      let hT : IsTerm m D T (lift 1 B) = subst (IsTerm m D T) (sym (type_tree-lift symbols scope.types b))
      (term_tree-shaped m closed symbols D inner [] shaped (λ k a q. absurd (cc)) (λ k a q. absurd (cc)) t b parts.left sides.left) in
      let hU : IsTerm m D U (lift 1 B) = subst (IsTerm m D U) (sym (type_tree-lift symbols scope.types b))
      (term_tree-shaped m closed symbols D inner [] shaped (λ k a q. absurd (cc)) (λ k a q. absurd (cc)) u b parts.right sides.right) in
      let premise : IsProof m false D (theorem_tree inner j one) (proof_of (eq_of (lift 1 B) T U)) =
      subst (λ w. IsProof m false D (theorem_tree inner j one) (proof_of (eq_of w T U))) (sym (type_tree-lift symbols scope.types b))
      (subst (λ w. IsProof m false D (theorem_tree inner j one) (proof_of (term_tree symbols inner w))) e
      (premise-shaped m closed symbols D inner shaped j one p
      (λ h k. laws.Argument.a_proof
      (entry-proof m (fresh-HasEntry v h (All-at _ one.hypotheses h p.over.hypotheses k) (All-at _ one.hypotheses h fresh k) (stands.proofs h (i h k)))))))
      in
      let c = shaped-fun_ext m hA hB hT hU premise in
      subst (λ w. IsProof m false G (fun_ext_tree symbols scope v b t u (j, one))
      (proof_of (App (App (App (Sym 5) (arr_of A B)) w) (term_tree symbols scope (lam v.1 (close v u)))))) (sym left)
      (subst (λ w. IsProof m false G (fun_ext_tree symbols scope v b t u (j, one)) (proof_of (App (App (App (Sym 5) (arr_of A B)) (Lam (term_of A) T)) w)))
      (sym right) c)
