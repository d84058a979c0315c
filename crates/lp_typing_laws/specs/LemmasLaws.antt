-- The two lemmas with which every module begins are a well-typed module.
use Rattle.std.proofs.Common.{refl, List, [], ◌∷◌, codes}
use Rattle.lp_spec.specs.CalculusLaws.{LemmasTyped}
use Rattle.lp_spec.specs.Trees.{Tree, Var, Sym, App}
use Rattle.lp_spec.specs.Modules.{Declaration, types, bools, arr_of, term_of, eq_of, proof_of, eq_symbol}
use Rattle.lp_spec.specs.Lemmas.{sym_domains, sym_functions, sym_proof, sym_lemma, trans_domains, trans_proof, trans_lemma}
use Rattle.lp_typing_laws.specs.ConversionLaws.{IsClosed}
use Rattle.lp_spec.specs.Typing.{Typed, of_variable, IsTypedAfter}
use Rattle.lp_typing_laws.specs.SignatureForms.{Typed-types, Typed-bools, Typed-arr_of, Typed-term_of, Typed-eq, Typed-proof_of, Typed-apply, Typed-eq_of}
use Rattle.lp_typing_laws.specs.SignatureCalls.{Typed-refl_of, Typed-app_thm, Typed-eq_mp}
use Rattle.lp_typing_laws.specs.Telescopes.{AreDomains, IsTypedAfter-theorem}
use Rattle.lp_typing_laws.specs.WellTypedLaws.{WellTyped-IsClosed}

module _ (m : List Declaration) (closed : IsClosed m) where
  -- `eq a x` is a predicate of a
  equals : {G : List Tree} {a x : Tree} → Typed m G a types → Typed m G x (term_of a) → Typed m G (App (App (Sym eq_symbol) a) x) (term_of (arr_of a bools))
  equals {a = a} ha hx = Typed-apply m closed a (arr_of a bools) ha (Typed-arr_of m ha (Typed-bools m)) (Typed-eq m ha) hx

  -- from x = y to that `eq a x` is `eq a y`
  sym_functions-typed : {G : List Tree} {a x y h : Tree} → Typed m G a types → Typed m G x (term_of a) → Typed m G y (term_of a)
      → Typed m G h (proof_of (eq_of a x y))
      → Typed m G (sym_functions a x y h) (proof_of (eq_of (arr_of a bools) (App (App (Sym eq_symbol) a) x) (App (App (Sym eq_symbol) a) y)))
  sym_functions-typed ha hx hy hh =
      let predicates = Typed-arr_of m ha (Typed-bools m) in
      Typed-app_thm m ha predicates (Typed-eq m ha) (Typed-eq m ha) hx hy (Typed-refl_of m (Typed-arr_of m ha predicates) (Typed-eq m ha)) hh

  -- from x = y to y = x
  pub sym_proof-typed : {G : List Tree} {a x y h : Tree} → Typed m G a types → Typed m G x (term_of a) → Typed m G y (term_of a)
      → Typed m G h (proof_of (eq_of a x y))
      → Typed m G (sym_proof a x y h) (proof_of (eq_of a y x))
  sym_proof-typed ha hx hy hh =
      Typed-eq_mp m (Typed-eq_of m closed ha hx hx) (Typed-eq_of m closed ha hy hx)
      (Typed-app_thm m ha (Typed-bools m) (equals ha hx) (equals ha hy) hx hx (sym_functions-typed ha hx hy hh) (Typed-refl_of m ha hx))
      (Typed-refl_of m ha hx)

  -- from x = y and y = z to x = z
  pub trans_proof-typed : {G : List Tree} {a x y z g h : Tree} → Typed m G a types → Typed m G x (term_of a) → Typed m G y (term_of a) → Typed m G z (term_of a)
      → Typed m G g (proof_of (eq_of a x y)) → Typed m G h (proof_of (eq_of a y z)) → Typed m G (trans_proof a x y z g h) (proof_of (eq_of a x z))
  trans_proof-typed ha hx hy hz hg hh =
      Typed-eq_mp m (Typed-eq_of m closed ha hx hy) (Typed-eq_of m closed ha hx hz)
      (Typed-app_thm m ha (Typed-bools m) (equals ha hx) (equals ha hx) hy hz (Typed-refl_of m (Typed-arr_of m ha (Typed-bools m)) (equals ha hx)) hh)
      hg

  -- a : type, x : term a, y : term a, h : proof (eq a x y)
  sym_domains-typed : AreDomains m [] sym_domains
  sym_domains-typed = (
    Typed-types m,
    (
      Typed-term_of m (of_variable refl refl),
      (
        Typed-term_of m (of_variable refl refl),
        (Typed-proof_of m (Typed-eq_of m closed (of_variable refl refl) (of_variable refl refl) (of_variable refl refl)), tt {0}),
      ),
    ),
  )

  -- the lemma of symmetry is typed over every closed module
  pub sym_lemma-typed : IsTypedAfter m sym_lemma
  sym_lemma-typed = IsTypedAfter-theorem m (codes "sym") sym_domains (proof_of (eq_of (Var 3) (Var 1) (Var 2))) (sym_proof (Var 3) (Var 2) (Var 1) (Var 0))
      sym_domains-typed
      (Typed-proof_of m (Typed-eq_of m closed (of_variable refl refl) (of_variable refl refl) (of_variable refl refl)))
      (sym_proof-typed (of_variable refl refl) (of_variable refl refl) (of_variable refl refl) (of_variable refl refl))

  -- a : type, x : term a, y : term a, z : term a, g : proof (eq a x y), h : proof (eq a y z)
  trans_domains-typed : AreDomains m [] trans_domains
  trans_domains-typed = (
    Typed-types m,
    (
      Typed-term_of m (of_variable refl refl),
      (
        Typed-term_of m (of_variable refl refl),
        (
          Typed-term_of m (of_variable refl refl),
          (
            Typed-proof_of m (Typed-eq_of m closed (of_variable refl refl) (of_variable refl refl) (of_variable refl refl)),
            (Typed-proof_of m (Typed-eq_of m closed (of_variable refl refl) (of_variable refl refl) (of_variable refl refl)), tt {0}),
          ),
        ),
      ),
    ),
  )

  -- the lemma of transitivity is typed over every closed module
  pub trans_lemma-typed : IsTypedAfter m trans_lemma
  trans_lemma-typed = IsTypedAfter-theorem m (codes "trans") trans_domains (proof_of (eq_of (Var 5) (Var 4) (Var 2)))
      (trans_proof (Var 5) (Var 4) (Var 3) (Var 2) (Var 1) (Var 0)) trans_domains-typed
      (Typed-proof_of m (Typed-eq_of m closed (of_variable refl refl) (of_variable refl refl) (of_variable refl refl)))
      (trans_proof-typed (of_variable refl refl) (of_variable refl refl) (of_variable refl refl) (of_variable refl refl) (of_variable refl refl)
      (of_variable refl refl))

-- the law of lemmas holds
pub lemmas_typed : LemmasTyped
lemmas_typed =
    let first : IsTypedAfter [] sym_lemma = sym_lemma-typed [] (WellTyped-IsClosed [] (tt {0})) in
    (first, (trans_lemma-typed (sym_lemma ∷ []) (WellTyped-IsClosed (sym_lemma ∷ []) (first, tt {0})), tt {0}))
