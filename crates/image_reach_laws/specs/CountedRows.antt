-- The proof of a step applies each premise to as many arguments as the premise's sequent has parameters, row by row.
use Rattle.hol_spec.specs.declared.Version.TheVariants.{Five, Six}
use Rattle.std.proofs.Common.{◌≡◌, ℕ, ◌+◌, ◌<◌, List, [], ◌∷◌, ◌++◌, map, length, ◌∙◌, arith}
use Rattle.std.proofs.lemmas.List.{length-append, length-map}
use Rattle.hol_spec.specs.Types as type
use Rattle.hol_spec.specs.Types.{HolType}
use Rattle.hol_spec.specs.TermSubstitution.{TermPairs}
use Rattle.hol_spec.specs.DefinitionLists.{constants_put}
use Rattle.hol_spec.specs.Terms as term
use Rattle.hol_spec.specs.Terms.{Term, Variable}
use Rattle.hol_spec.specs.Sequents.{Sequent, type_variables_of, free_variables_of, parameter_count}
use Rattle.hol_spec.specs.Rules.{Parameters}
use Rattle.hol_spec.specs.declared.StepKind.{StepKind}
use Rattle.hol_spec.specs.declared.StepKind.TheVariants as kinds
use Rattle.hol_laws.specs.Members.{All-append, All-mapped, All-each}
use Rattle.lp_spec.specs.Trees.{Tree, Sym, Lam, Var, App}
use Rattle.lp_spec.specs.Modules.{signature, term_of, proof_of, fun_ext_symbol, app_thm_symbol, prop_ext_symbol, eq_mp_symbol, types, sub_rep_abs_symbol}
use Rattle.translate_spec.specs.Scopes.{SymbolMap, type_tree, Scope, term_tree, under_term, under_proof, set_proof, images, lifted, filled}
use Rattle.translate_spec.specs.ProofTrees.{sym_symbol, trans_symbol, Premise, premise_tree, refl_tree, eq_mp_tree, abs_tree, fun_ext_tree, app_thm_tree, prop_ext_tree, sym_tree, trans_tree, prove_hyp_tree, self_proof, constants_scope, predicate, witness, part_tree, law_tree, part_arguments_of, first_law_tree, second_law_tree, first_law_free_tree, second_law_free_tree}
use Rattle.translate_spec.specs.Rows.{equated_type, left_side, right_side, argument_type, result_type, contracted, of_one, of_two, type_or, proof_tree}
use Rattle.image_reach_laws.specs.PlaceCounts.{IsAppliedTo, lacking-applied, applied-applied}
use Rattle.image_reach_laws.specs.LackingTrees.{IsApart, ScopeApplies, unlike, term_of-lacks, proof_of-lacks, type_tree-lacks, term_tree-lacks, under_term-applies, under_proof-applies, set_proof-applies, images-applies, lifted-applies, filled-applies}
use Rattle.hol_spec.specs.NewTypes.{new_type}
use Rattle.hol_spec.specs.TypeDefinitions.{abstracted, represented, new_variable, old_variable}
use Rattle.hol_spec.specs.Primitives.{bool}
use Rattle.hol_spec.specs.Definitions.{TypeNames}

-- a premise with this symbol has n parameters
abbrev pub Fits : ℕ → ℕ → Premise → Type 0
Fits s n one = s ≡ one.0 → parameter_count one.1 ≡ n

abbrev pub AllFit : ℕ → ℕ → List ℕ → List Sequent → Type 0
AllFit s n [] qs = Unit {0}
AllFit s n (j ∷ js) [] = Unit {0}
AllFit s n (j ∷ js) (q ∷ qs) = Fits s n (j, q) × AllFit s n js qs

-- a symbol stands for no operator and no constant; where it is a lemma's, n is how many arguments the lemma has
pub record IsCounted (symbols : SymbolMap) (s n : ℕ) : Type 0 where
  pub apart : IsApart symbols s
  pub symmetry : s ≡ sym_symbol → 4 ≡ n
  pub transitivity : s ≡ trans_symbol → 6 ≡ n

module _ (symbols : SymbolMap) (s n : ℕ) (counted : IsCounted symbols s n) where
  abbrev Applies : Scope → Type 0
  Applies scope = ScopeApplies s n scope

  abbrev Right : Tree → Type 0
  Right t = IsAppliedTo s n 0 t

  -- types and terms, and symbols of the signature
  ty-right : (scope : Scope) → Applies scope → (a : HolType) → Right (type_tree symbols scope.types a)
  ty-right scope h a = lacking-applied s n 0 _ (type_tree-lacks symbols s counted.apart scope.types h.types a)

  tm-right : (scope : Scope) → Applies scope → (t : Term) → Right (term_tree symbols scope t)
  tm-right scope h t = lacking-applied s n 0 _ (term_tree-lacks symbols s counted.apart n scope h t)

  -- what isn't there
  no_row : Right (Sym 0)
  no_row e = absurd (unlike symbols s counted.apart 0 (omega arith) e)

  pub refl-right : (scope : Scope) → Applies scope → (a : HolType) (t : Term) → Right (refl_tree symbols scope a t)
  refl-right scope h a t = (((λ e. absurd (unlike symbols s counted.apart 8 (omega arith) e)), ty-right scope h a), tm-right scope h t)

  -- A premise
  pub premise-right : (scope : Scope) → Applies scope → (one : Premise) → Fits s n one → Right (premise_tree scope one)
  premise-right scope h one fits =
      let q = one.1 in
      let ts = map scope.types (type_variables_of q) in
      let vs = map scope.terms (free_variables_of q) in
      let hs = map scope.proofs q.hypotheses in
      let all : length (ts ++ vs ++ hs) ≡ length (ts ++ vs) + length hs = length-append (ts ++ vs) hs in
      let rest : length (ts ++ vs) ≡ length ts + length vs = length-append ts vs in
      let a = length-map (type_variables_of q) scope.types in
      let b = length-map (free_variables_of q) scope.terms in
      let c = length-map q.hypotheses scope.proofs in
      let count : 0 + length (ts ++ vs ++ hs) ≡ parameter_count q = omega (arith, all, rest, a, b, c) in
      applied-applied s n 0 (Sym one.0) (ts ++ vs ++ hs) (λ e. count ∙ fits e)
      (All-append Right (ts ++ vs) hs
      (All-append Right ts vs
      (All-mapped Right scope.types (type_variables_of q) (All-each _ (type_variables_of q) (λ m i. lacking-applied s n 0 (scope.types m) (h.types m))))
      (All-mapped Right scope.terms (free_variables_of q) (All-each _ (free_variables_of q) (λ v i. lacking-applied s n 0 (scope.terms v) (h.terms v)))))
      (All-mapped Right scope.proofs q.hypotheses (All-each _ q.hypotheses (λ p i. h.proofs p))))

  -- what isn't s is applied to any number of arguments
  other-right : (r k : ℕ) → r < length signature → IsAppliedTo s n k (Sym r)
  other-right r k l e = absurd (unlike symbols s counted.apart r l e)

  -- A part, at so many arguments more
  pub part-right : (scope : Scope) → Applies scope → (k r : ℕ) → r < length signature → (c : HolType) (one : Premise) → Fits s n one
      → IsAppliedTo s n k (part_tree symbols scope r c one)
  part-right scope h k r l c one fits =
      applied-applied s n k (Sym r) (part_arguments_of symbols scope c one) (other-right r _ l) (
        ty-right scope h c,
        (tm-right scope h (predicate one.1.conclusion), (tm-right scope h (witness one.1.conclusion), (premise-right scope h one fits, tt {0}))),
      )

  module _ (scope : Scope) (h : Applies scope) where
    ty-of : (a : HolType) → Right (type_tree symbols scope.types a)
    ty-of a = ty-right scope h a

    tm-of : (t : Term) → Right (term_tree symbols scope t)
    tm-of t = tm-right scope h t

    eq_mp-right : (p q : Term) (one two : Premise) → Fits s n one → Fits s n two → Right (eq_mp_tree symbols scope p q one two)
    eq_mp-right p q one two f g =
        applied-applied s n 0 (Sym eq_mp_symbol) (term_tree symbols scope p ∷ term_tree symbols scope q ∷ premise_tree scope one ∷ premise_tree scope two ∷ [])
        (other-right 12 _ (omega arith))
        (tm-of p, (tm-of q, (premise-right scope h one f, (premise-right scope h two g, tt {0}))))

    domain-right : (v : Variable) → Right (term_of (type_tree symbols scope.types v.1))
    domain-right v =
        lacking-applied s n 0 (term_of (type_tree symbols scope.types v.1))
        (term_of-lacks symbols s counted.apart (type_tree symbols scope.types v.1) (type_tree-lacks symbols s counted.apart scope.types h.types v.1))

    under : (v : Variable) → Applies (under_term v scope)
    under v = under_term-applies symbols s counted.apart n v scope h

    abs-right : (v : Variable) (t : Term) → Right (abs_tree symbols scope v t)
    abs-right v t = (domain-right v, tm-right (under_term v scope) (under v) t)

    fun_ext-right : (v : Variable) (b : HolType) (t u : Term) (one : Premise) → Fits s n one → Right (fun_ext_tree symbols scope v b t u one)
    fun_ext-right v b t u one f =
        applied-applied s n 0 (Sym fun_ext_symbol)
        (type_tree symbols scope.types v.1 ∷ type_tree symbols scope.types b ∷ abs_tree symbols scope v t ∷ abs_tree symbols scope v u
        ∷ Lam (term_of (type_tree symbols scope.types v.1)) (premise_tree (under_term v scope) one) ∷ []) (other-right 9 _ (omega arith))
        (ty-of v.1, (ty-of b, (abs-right v t, (abs-right v u, ((domain-right v, premise-right (under_term v scope) (under v) one f), tt {0})))))

    app_thm-right : (a b : HolType) (f g x y : Term) (one two : Premise) → Fits s n one → Fits s n two → Right (app_thm_tree symbols scope a b f g x y one two)
    app_thm-right a b f g x y one two k l =
        applied-applied s n 0 (Sym app_thm_symbol)
        (type_tree symbols scope.types a ∷ type_tree symbols scope.types b ∷ term_tree symbols scope f ∷ term_tree symbols scope g ∷ term_tree symbols scope x ∷
        term_tree symbols scope y
        ∷ premise_tree scope one ∷ premise_tree scope two ∷ []) (other-right 10 _ (omega arith))
        (ty-of a, (ty-of b, (tm-of f, (tm-of g, (tm-of x, (tm-of y, (premise-right scope h one k, (premise-right scope h two l, tt {0}))))))))

    formula-right : (p : Term) → Right (proof_of (term_tree symbols scope p))
    formula-right p =
        lacking-applied s n 0 (proof_of (term_tree symbols scope p))
        (proof_of-lacks symbols s counted.apart (term_tree symbols scope p) (term_tree-lacks symbols s counted.apart n scope h p))

    given : (p : Term) → Applies (under_proof p scope)
    given p = under_proof-applies symbols s counted.apart n p scope h

    prop_ext-right : (p q : Term) (one two : Premise) → Fits s n one → Fits s n two → Right (prop_ext_tree symbols scope p q one two)
    prop_ext-right p q one two f g =
        applied-applied s n 0 (Sym prop_ext_symbol)
        (term_tree symbols scope p ∷ term_tree symbols scope q ∷ Lam (proof_of (term_tree symbols scope p)) (premise_tree (under_proof p scope) two)
        ∷ Lam (proof_of (term_tree symbols scope q)) (premise_tree (under_proof q scope) one) ∷ []) (other-right 11 _ (omega arith)) (
          tm-of p,
          (
            tm-of q,
            (
              (formula-right p, premise-right (under_proof p scope) (given p) two g),
              ((formula-right q, premise-right (under_proof q scope) (given q) one f), tt {0}),
            ),
          ),
        )

    sym-right : (a : HolType) (x y : Term) (one : Premise) → Fits s n one → Right (sym_tree symbols scope a x y one)
    sym-right a x y one f =
        applied-applied s n 0 (Sym sym_symbol)
        (type_tree symbols scope.types a ∷ term_tree symbols scope x ∷ term_tree symbols scope y ∷ premise_tree scope one ∷ []) (λ e. counted.symmetry e)
        (ty-of a, (tm-of x, (tm-of y, (premise-right scope h one f, tt {0}))))

    trans-right : (a : HolType) (x y z : Term) (one two : Premise) → Fits s n one → Fits s n two → Right (trans_tree symbols scope a x y z one two)
    trans-right a x y z one two f g =
        applied-applied s n 0 (Sym trans_symbol)
        (type_tree symbols scope.types a ∷ term_tree symbols scope x ∷ term_tree symbols scope y ∷ term_tree symbols scope z ∷ premise_tree scope one ∷
        premise_tree scope two ∷ [])
        (λ e. counted.transitivity e) (ty-of a, (tm-of x, (tm-of y, (tm-of z, (premise-right scope h one f, (premise-right scope h two g, tt {0}))))))

    prove_hyp-right : (p : Term) (one two : Premise) → Fits s n one → Fits s n two → Right (prove_hyp_tree symbols scope p one two)
    prove_hyp-right p one two f g =
        premise-right (set_proof p (premise_tree scope one) scope)
        (set_proof-applies symbols s counted.apart n p (premise_tree scope one) scope (premise-right scope h one f) h) two g

    self-right : (t : Term) → Right (self_proof symbols scope t)
    self-right (term.Term.app (term.Term.app (term.Term.constant m (type.HolType.operator f (type.HolTypes.more a ts))) x) t) = refl-right scope h a t
    self-right t = no_row

    constants-apply : (terms : TermPairs) → Applies (constants_scope symbols scope terms)
    constants-apply terms =
        let i = images-applies symbols s counted.apart n [] terms scope h in record { types = i.types; terms = i.terms; proofs = self-right; bounds = i.bounds }

    -- A law
    law-right : (a b : HolType) (t u : Term) (r : ℕ) → r < length signature → (c : HolType) (one : Premise) → Fits s n one
        → Right (law_tree symbols scope a b t u r c one)
    law-right a b t u r l c one fits =
        let A = type_tree symbols scope.types a in
        applied-applied s n 0 (Sym fun_ext_symbol)
        (A ∷ type_tree symbols scope.types b ∷ term_tree symbols scope (term.Term.lam a t) ∷ term_tree symbols scope (term.Term.lam a u) ∷ Lam (term_of A)
        (App (part_tree symbols (lifted scope) r c one) (Var 0)) ∷ []) (other-right 9 _ (omega arith)) (
          ty-of a,
          (
            ty-of b,
            (
              tm-of (term.Term.lam a t),
              (
                tm-of (term.Term.lam a u),
                (
                  (
                    lacking-applied s n 0 (term_of A) (term_of-lacks symbols s counted.apart A (type_tree-lacks symbols s counted.apart scope.types h.types a)),
                    (part-right (lifted scope) (lifted-applies symbols s counted.apart n scope h) 1 r l c one fits, tt {0}),
                  ),
                  tt {0},
                ),
              ),
            ),
          ),
        )

    -- the laws in version 5
    first-right : (names : TypeNames) (c : HolType) (one : Premise) → Fits s n one → Right (first_law_free_tree symbols scope names c one)
    first-right names c one fits = (
      part-right (filled symbols scope.types) (filled-applies symbols s counted.apart n scope.types h.types) 1 16 (omega arith) c one fits,
      tm-of (new_variable names),
    )

    second-right : (names : TypeNames) (c : HolType) (one : Premise) → Fits s n one → Right (second_law_free_tree symbols scope names c one)
    second-right names c one fits =
        let r = old_variable c in
        let x = term.equation c (represented names c (abstracted names c r)) r in
        let y = term.Term.app (predicate one.1.conclusion) r in
        applied-applied s n 0 (Sym sym_symbol)
        (type_tree symbols scope.types bool ∷ term_tree symbols scope x ∷ term_tree symbols scope y ∷ App
        (part_tree symbols (filled symbols scope.types) sub_rep_abs_symbol c one) (term_tree symbols scope r) ∷ []) (λ e. counted.symmetry e) (
          ty-of bool,
          (
            tm-of x,
            (
              tm-of y,
              (
                (
                  part-right (filled symbols scope.types) (filled-applies symbols s counted.apart n scope.types h.types) 1 17 (omega arith) c
                      one fits,
                  tm-of r,
                ),
                tt {0},
              ),
            ),
          ),
        )

    -- one premise, and two
    one-right : (row : Premise → Tree) → ((one : Premise) → Fits s n one → Right (row one)) → (js : List ℕ) (qs : List Sequent) → AllFit s n js qs
        → Right (of_one row js qs)
    one-right row f (j ∷ []) (q ∷ []) fit = f (j, q) fit.0
    one-right row f js qs fit = no_row

    two-right : (row : Premise → Premise → Tree) → ((one two : Premise) → Fits s n one → Fits s n two → Right (row one two)) → (js : List ℕ) (qs : List Sequent)
        → AllFit s n js qs → Right (of_two row js qs)
    two-right row f (j ∷ k ∷ []) (q ∷ r ∷ []) fit = f (j, q) (k, r) fit.0 fit.1.0
    two-right row f js qs fit = no_row

    -- Each row
    pub proof-right : (kind : StepKind) (js : List ℕ) (qs : List Sequent) (g : Parameters) → AllFit s n js qs → Right (proof_tree symbols scope kind js qs g)
    proof-right kinds.Refl js qs (Parameters.term t) fit = refl-right scope h (type_or t) t
    proof-right kinds.Refl js qs g fit = no_row
    proof-right kinds.Assume js qs (Parameters.term t) fit = h.proofs t
    proof-right kinds.Assume js qs g fit = no_row
    proof-right kinds.EqMp js qs g fit = two-right (λ one two. eq_mp_tree symbols scope (left_side one.1.conclusion) (right_side one.1.conclusion) one two)
        (λ one two. eq_mp-right (left_side one.1.conclusion) (right_side one.1.conclusion) one two) js qs fit
    proof-right kinds.AbsThm js qs (Parameters.variable v) fit =
        one-right (λ one. fun_ext_tree symbols scope v (equated_type one.1.conclusion) (left_side one.1.conclusion) (right_side one.1.conclusion) one)
        (λ one. fun_ext-right v (equated_type one.1.conclusion) (left_side one.1.conclusion) (right_side one.1.conclusion) one) js qs fit
    proof-right kinds.AbsThm js qs g fit = one-right (λ one. Sym 0) (λ one f. no_row) js qs fit
    proof-right kinds.AppThm js qs g fit =
        two-right (λ one two. app_thm_tree symbols scope (argument_type (equated_type one.1.conclusion)) (result_type (equated_type one.1.conclusion))
        (left_side one.1.conclusion) (right_side one.1.conclusion) (left_side two.1.conclusion) (right_side two.1.conclusion) one two)
        (λ one two. app_thm-right (argument_type (equated_type one.1.conclusion)) (result_type (equated_type one.1.conclusion)) (left_side one.1.conclusion)
        (right_side one.1.conclusion) (left_side two.1.conclusion) (right_side two.1.conclusion) one two) js qs fit
    proof-right kinds.DeductAntisym js qs g fit = two-right (λ one two. prop_ext_tree symbols scope one.1.conclusion two.1.conclusion one two)
        (λ one two. prop_ext-right one.1.conclusion two.1.conclusion one two) js qs fit
    proof-right kinds.BetaConv js qs (Parameters.term t) fit = refl-right scope h (type_or t) (contracted t)
    proof-right kinds.BetaConv js qs g fit = no_row
    proof-right kinds.Sym js qs g fit = one-right
        (λ one. sym_tree symbols scope (equated_type one.1.conclusion) (left_side one.1.conclusion) (right_side one.1.conclusion) one)
        (λ one. sym-right (equated_type one.1.conclusion) (left_side one.1.conclusion) (right_side one.1.conclusion) one) js qs fit
    proof-right kinds.Trans js qs g fit =
        two-right (λ one two. trans_tree symbols scope (equated_type one.1.conclusion) (left_side one.1.conclusion) (right_side one.1.conclusion)
        (right_side two.1.conclusion) one two)
        (λ one two. trans-right (equated_type one.1.conclusion) (left_side one.1.conclusion) (right_side one.1.conclusion) (right_side two.1.conclusion) one
        two) js qs fit
    proof-right kinds.ProveHyp js qs g fit = two-right (λ one two. prove_hyp_tree symbols scope one.1.conclusion one two)
        (λ one two. prove_hyp-right one.1.conclusion one two) js qs fit
    proof-right kinds.Subst js qs (Parameters.substitution pairs terms) fit =
        one-right (λ one. premise_tree (images symbols pairs terms scope) one)
        (λ one. premise-right (images symbols pairs terms scope) (images-applies symbols s counted.apart n pairs terms scope h) one) js qs fit
    proof-right kinds.Subst js qs g fit = one-right (λ one. Sym 0) (λ one f. no_row) js qs fit
    proof-right kinds.Restate js qs g fit = one-right (premise_tree scope) (λ one. premise-right scope h one) js qs fit
    proof-right kinds.DefineConst js qs (Parameters.constant m t) fit = refl-right scope h (type_or t) t
    proof-right kinds.DefineConst js qs g fit = no_row
    proof-right kinds.DefineConstList js qs (Parameters.constants pairs) fit =
        one-right (λ one. premise_tree (constants_scope symbols scope (constants_put pairs)) one)
        (λ one. premise-right (constants_scope symbols scope (constants_put pairs)) (constants-apply (constants_put pairs)) one) js qs fit
    proof-right kinds.DefineConstList js qs g fit = one-right (λ one. Sym 0) (λ one f. no_row) js qs fit
    proof-right kinds.Axiom js qs g fit = no_row
    proof-right kinds.FirstLaw js qs (Parameters.type_operator names Six) fit =
        one-right (λ one. first_law_tree symbols scope names (type_or (witness one.1.conclusion)) one)
        (λ one. let c = type_or (witness one.1.conclusion) in
        law-right (new_type names) (new_type names) (abstracted names c (represented names c (term.Term.bound 0))) (term.Term.bound 0) 16 (omega arith) c one)
        js qs fit
    proof-right kinds.FirstLaw js qs (Parameters.type_operator names Five) fit =
        one-right (λ one. first_law_free_tree symbols scope names (type_or (witness one.1.conclusion)) one)
        (λ one. first-right names (type_or (witness one.1.conclusion)) one) js qs fit
    proof-right kinds.FirstLaw js qs g fit = one-right (λ one. Sym 0) (λ one f. no_row) js qs fit
    proof-right kinds.SecondLaw js qs (Parameters.type_operator names Six) fit =
        one-right (λ one. second_law_tree symbols scope names (type_or (witness one.1.conclusion)) one)
        (λ one. let c = type_or (witness one.1.conclusion) in
        law-right c bool (term.equation c (represented names c (abstracted names c (term.Term.bound 0))) (term.Term.bound 0))
        (term.Term.app (predicate one.1.conclusion) (term.Term.bound 0)) 17 (omega arith) c one) js qs fit
    proof-right kinds.SecondLaw js qs (Parameters.type_operator names Five) fit =
        one-right (λ one. second_law_free_tree symbols scope names (type_or (witness one.1.conclusion)) one)
        (λ one. second-right names (type_or (witness one.1.conclusion)) one) js qs fit
    proof-right kinds.SecondLaw js qs g fit = one-right (λ one. Sym 0) (λ one f. no_row) js qs fit
