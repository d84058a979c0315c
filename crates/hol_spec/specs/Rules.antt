-- The inference rules. A rule says which sequent follows from which premises, for the parameters that its command is given beside the premises.
-- Source: HOL Light's kernel; the OpenTheory article file format, versions 5 and 6, "Commands".
use Rattle.std.specs.Prelude.{◌≡◌, List, [], ◌∷◌, map, Bool, false, IsTrue}
use Rattle.std.specs.List.{AllByRecursion, flat_map}
use Rattle.hol_spec.specs.Names.{Name}
use Rattle.hol_spec.specs.Lists.{is_in, union, distinct, without}
use Rattle.hol_spec.specs.Types.{HolType}
use Rattle.hol_spec.specs.Primitives.{bool, function}
use Rattle.hol_spec.specs.Substitution.{TypePairs}
use Rattle.hol_spec.specs.Terms.{Term, app, lam, Variable, HasType, equation, term_eq, variable_eq, free_places}
use Rattle.hol_spec.specs.TermBinding.{close, put}
use Rattle.hol_spec.specs.TermSubstitution.{TermPairs, sub, AreFitting}
use Rattle.hol_spec.specs.Sequents.{Sequent, IsSequent, within}
use Rattle.hol_spec.specs.Definitions.{TypeNames}
use Rattle.hol_spec.specs.Defining.{is_closed, has_type_variables_of}
use Rattle.hol_spec.specs.DefinitionLists.{ConstantPairs, defining_equations, is_definition_list, constants_put}
use Rattle.hol_spec.specs.TypeDefinitions.{IsTypeDefinition}
use Rattle.hol_spec.specs.TypeDefinitions as type_definition
use Rattle.hol_spec.specs.declared.StepKind.{StepKind}
use Rattle.hol_spec.specs.declared.Version.{Version}
use Rattle.hol_spec.specs.declared.Version.TheVariants.{Five, Six}
use Rattle.hol_spec.specs.declared.StepKind.TheVariants.{Refl, Assume, EqMp, AbsThm, AppThm, DeductAntisym, BetaConv, Sym, Trans, ProveHyp, Subst, Axiom, Restate, DefineConst, DefineConstList, FirstLaw, SecondLaw}

-- What a rule is given beside its premises.
pub data Parameters : Type 0 where
  nothing : Parameters
  term : Term → Parameters
  variable : Variable → Parameters
  substitution : TypePairs → TermPairs → Parameters
  sequent : Sequent → Parameters
  constant : Name → Term → Parameters
  constants : ConstantPairs → Parameters
  type_operator : TypeNames → Version → Parameters

-- The sequent G |- p.
abbrev pub derived : List Term → Term → Sequent
derived hypotheses conclusion = record { hypotheses = hypotheses; conclusion = conclusion }

-- The hypotheses G u D, and G - {p}.
abbrev pub joined : List Term → List Term → List Term
joined gs ds = union term_eq gs ds

abbrev pub removed : List Term → Term → List Term
removed gs p = without term_eq gs p

-- The abstraction \v. t.
abbrev pub abstraction : Variable → Term → Term
abstraction v t = lam v.1 (close v t)

abbrev pub is_free_in : Variable → List Term → Bool
is_free_in v ts = is_in variable_eq v (flat_map free_places ts)

-- A term that can define a constant of this type.
pub record IsDefining (a : HolType) (t : Term) : Type 0 where
  pub typed : HasType t a
  pub closed : IsTrue (is_closed t)
  pub variables : IsTrue (has_type_variables_of a t)

pub data Rule : StepKind → List Sequent → Parameters → Sequent → Type 0 where
  -- |- t = t
  refl : {t : Term} {a : HolType} {s : Sequent} → HasType t a → s ≡ derived [] (equation a t t) → Rule Refl [] (term t) s
  -- {p} |- p
  assume : {p : Term} {s : Sequent} → HasType p bool → s ≡ derived (p ∷ []) p → Rule Assume [] (term p) s
  -- from G |- p = q and D |- p: G u D |- q
  eq_mp : {p q : Term} {one two s : Sequent} → one.conclusion ≡ equation bool p q → two.conclusion ≡ p
      → s ≡ derived (joined one.hypotheses two.hypotheses) q → Rule EqMp (one ∷ two ∷ []) nothing s
  -- from G |- t = u, where v is not free in G: G |- (\v. t) = (\v. u)
  abs_thm : {v : Variable} {b : HolType} {t u : Term} {one s : Sequent} → one.conclusion ≡ equation b t u → is_free_in v one.hypotheses ≡ false
      → s ≡ derived one.hypotheses (equation (function v.1 b) (abstraction v t) (abstraction v u)) → Rule AbsThm (one ∷ []) (variable v) s
  -- from G |- f = g and D |- x = y: G u D |- f x = g y
  app_thm : {a b : HolType} {f g x y : Term} {one two s : Sequent} → one.conclusion ≡ equation (function a b) f g → two.conclusion ≡ equation a x y
      → s ≡ derived (joined one.hypotheses two.hypotheses) (equation b (app f x) (app g y)) → Rule AppThm (one ∷ two ∷ []) nothing s
  -- from G |- p and D |- q: (G - {q}) u (D - {p}) |- p = q
  deduct_antisym : {one two s : Sequent}
      → s ≡ derived (joined (removed one.hypotheses two.conclusion) (removed two.hypotheses one.conclusion)) (equation bool one.conclusion two.conclusion)
      → Rule DeductAntisym (one ∷ two ∷ []) nothing s
  -- |- (\v. t) u = t[u/v]
  beta_conv : {a b : HolType} {t u : Term} {s : Sequent} → HasType (app (lam a t) u) b
      → s ≡ derived [] (equation b (app (lam a t) u) (put u t)) → Rule BetaConv [] (term (app (lam a t) u)) s
  -- from G |- x = y: G |- y = x
  sym : {a : HolType} {x y : Term} {one s : Sequent} → one.conclusion ≡ equation a x y → s ≡ derived one.hypotheses (equation a y x)
      → Rule Sym (one ∷ []) nothing s
  -- from G |- x = y and D |- y = z: G u D |- x = z
  trans : {a : HolType} {x y z : Term} {one two s : Sequent} → one.conclusion ≡ equation a x y → two.conclusion ≡ equation a y z
      → s ≡ derived (joined one.hypotheses two.hypotheses) (equation a x z) → Rule Trans (one ∷ two ∷ []) nothing s
  -- from G |- p and D |- q: G u (D - {p}) |- q
  prove_hyp : {one two s : Sequent} → s ≡ derived (joined one.hypotheses (removed two.hypotheses one.conclusion)) two.conclusion
      → Rule ProveHyp (one ∷ two ∷ []) nothing s
  -- the premise with types put, then terms; hypotheses that become equal are one, the first
  subst : {types : TypePairs} {terms : TermPairs} {one s : Sequent} → AreFitting terms
      → s ≡ derived (distinct term_eq (map (sub types terms) one.hypotheses)) (sub types terms one.conclusion)
      → Rule Subst (one ∷ []) (substitution types terms) s
  -- what an article assumes
  recorded : {s : Sequent} → IsSequent s → Rule Axiom [] (sequent s) s
  -- the premise's conclusion, under its hypotheses and perhaps more
  restate : {one s : Sequent} → IsSequent s → IsTrue (within one s) → Rule Restate (one ∷ []) (sequent s) s
  -- |- n = t
  define_const : {n : Name} {t : Term} {a : HolType} {s : Sequent} → IsDefining a t → s ≡ derived [] (equation a (Term.constant n a) t)
      → Rule DefineConst [] (constant n t) s
  -- from the hypotheses v = t, .. and p: p[c/v, ..], where each t can define its c
  define_const_list : {pairs : ConstantPairs} {one s : Sequent}
      → AllByRecursion (λ e. IsDefining e.0.1 e.1) (defining_equations pairs one.hypotheses) → IsTrue (is_definition_list pairs one)
      → s ≡ derived [] (sub [] (constants_put pairs) one.conclusion) → Rule DefineConstList (one ∷ []) (constants pairs) s
  -- from |- f t: |- (\a. abs (rep a)) = (\a. a)
  first_law : {names : TypeNames} {c : HolType} {f : Term} {one s : Sequent} → IsTypeDefinition names c f one
      → s ≡ type_definition.first_law names c → Rule FirstLaw (one ∷ []) (type_operator names Six) s
  -- from |- f t: |- (\r. rep (abs r) = r) = (\r. f r)
  second_law : {names : TypeNames} {c : HolType} {f : Term} {one s : Sequent} → IsTypeDefinition names c f one
      → s ≡ type_definition.second_law names c f → Rule SecondLaw (one ∷ []) (type_operator names Six) s
  -- the same two, in an article of version 5
  first_law_free : {names : TypeNames} {c : HolType} {f : Term} {one s : Sequent} → IsTypeDefinition names c f one
      → s ≡ type_definition.first_law_free names c → Rule FirstLaw (one ∷ []) (type_operator names Five) s
  second_law_free : {names : TypeNames} {c : HolType} {f : Term} {one s : Sequent} → IsTypeDefinition names c f one
      → s ≡ type_definition.second_law_free names c f → Rule SecondLaw (one ∷ []) (type_operator names Five) s
