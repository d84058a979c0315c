-- What a rule concludes is over the symbols over which its premises, its parameters and its definitions are.
use Rattle.std.proofs.Common.{◌≡◌, List, [], ◌∷◌, map, length, Bool, true, false, cond, ◌&&◌, Option, Some, None, refl, sym, subst}
use Rattle.std.specs.Prelude.{is_some, nat_eq}
use Rattle.std.specs.Option.{option_map, option_to_list}
use Rattle.std.specs.Map.{lookup}
use Rattle.std.specs.List.{AllByRecursion, filter_map, cons_option, list_all}
use Rattle.std.proofs.lemmas.Bool.{and_parts}
use Rattle.hol_spec.specs.Names.{Name}
use Rattle.hol_spec.specs.Types as type
use Rattle.hol_spec.specs.NameEquality.{name_eq}
use Rattle.hol_spec.specs.Types.{HolType, HolTypes, types_of}
use Rattle.hol_spec.specs.Lists.{union, without, distinct, is_in}
use Rattle.hol_laws.specs.ListLaws.{union-All, All-filter}
use Rattle.hol_spec.specs.Primitives.{bool, function}
use Rattle.hol_spec.specs.Terms as term
use Rattle.hol_spec.specs.Terms.{Term, Variable, variable_eq, term_eq, HasType, type_of, equation, free_places}
use Rattle.hol_laws.specs.TermLaws.{variable_eq-Decides}
use Rattle.hol_spec.specs.TermBinding.{put, close}
use Rattle.hol_spec.specs.TermSubstitution.{TermPairs, sub}
use Rattle.hol_spec.specs.Sequents.{Sequent}
use Rattle.hol_spec.specs.Definitions.{Definition, TypeNames}
use Rattle.hol_spec.specs.NewTypes.{new_type, abstraction_type, representation_type}
use Rattle.hol_spec.specs.DefinitionLists.{ConstantPairs, names_of, variables_of, defining_equations, definiens, constants_put, is_definition_list}
use Rattle.hol_spec.specs.Repeats.{no_repeats}
use Rattle.hol_spec.specs.TypeDefinitions.{IsTypeDefinition, abstracted, represented}
use Rattle.hol_spec.specs.TypeDefinitions as type_definition
use Rattle.hol_laws.specs.Members.{All-mapped, All-weaker}
use Rattle.hol_laws.specs.TypeLaws.{count-variables}
use Rattle.hol_spec.specs.Symbols.{Symbol}
use Rattle.hol_spec.specs.Rules.{Parameters, Rule, IsDefining}
use Rattle.hol_spec.specs.Rules as rule
use Rattle.hol_spec.specs.Derivations.{definitions_used, type_definition_in}
use Rattle.hol_spec.specs.declared.StepKind.{StepKind}
use Rattle.hol_spec.specs.Taken.{OperatorTaken, ConstantTaken, TypeTaken, TypesTaken, TermTaken, TermsTaken, ParametersTaken, DefinitionTaken}
use Rattle.hol_proof_laws.specs.TakenTerms.{function-taken, bool-taken, type_of-taken, equation-taken, sides, close-taken, put-taken, sub-taken}

-- what a look-up finds is one of the pairs
pub lookup-All : (P : Variable × Term → Type 0) (es : TermPairs) (v : Variable) (t : Term) → AllByRecursion P es → lookup (variable_eq v) es ≡ Some t → P (v, t)
lookup-All P [] v t h e = absurd (cc)
lookup-All P (x ∷ es) v t h e = go (variable_eq v x.0) (variable_eq-Decides v x.0).0 e (lookup-All P es v t h.1)
  where
    go : (b : Bool) → (b ≡ true → v ≡ x.0) → cond b (Some x.1) (lookup (variable_eq v) es) ≡ Some t → (lookup (variable_eq v) es ≡ Some t → P (v, t)) → P (v, t)
    go true f e later = let p : x.0 ≡ v = sym (f refl) in let q : x.1 ≡ t = cc in subst P (λ i. (p i, q i)) h.0
    go false f e later = later e

-- the parts of what is judged of a definition list
pub record ListParts (pairs : ConstantPairs) (one : Sequent) : Type 0 where
  pub names : no_repeats name_eq (names_of pairs) ≡ true
  pub variables : no_repeats variable_eq (variables_of pairs) ≡ true
  pub as_many : nat_eq (length one.hypotheses) (length pairs) ≡ true
  pub defined : list_all (λ v. is_some (definiens pairs one.hypotheses v)) (variables_of pairs) ≡ true
  pub no_others : list_all (λ v. is_in variable_eq v (variables_of pairs)) (free_places one.conclusion) ≡ true

pub list_parts : (pairs : ConstantPairs) (one : Sequent) → is_definition_list pairs one ≡ true → ListParts pairs one
list_parts pairs one e =
    let a = and_parts _ _ e in
    let b = and_parts _ _ a.0 in
    let c = and_parts _ _ b.0 in
    let d = and_parts _ _ c.0 in
    record { names = d.0; variables = d.1; as_many = c.1; defined = b.1; no_others = a.1 }

module _ (symbols : List Symbol) where
  concludes : (hs : List Term) (c : Term) (s : Sequent) → s ≡ record { hypotheses = hs; conclusion = c } → AllByRecursion (TermTaken symbols) hs
      → TermTaken symbols c → TermsTaken symbols s
  concludes hs c s e h k = subst (TermsTaken symbols) (sym e) (record { hypotheses = h; conclusion = k })

  joined-taken : (gs hs : List Term) → AllByRecursion (TermTaken symbols) gs → AllByRecursion (TermTaken symbols) hs
      → AllByRecursion (TermTaken symbols) (union term_eq gs hs)
  joined-taken gs hs h k = union-All (TermTaken symbols) term_eq hs gs h k

  -- constants that the list defines
  constants-taken : (d : Variable → Option Term) → ((v : Variable) (t : Term) → d v ≡ Some t → HasType t v.1) → (ps : ConstantPairs)
      → list_all (λ v. is_some (d v)) (variables_of ps) ≡ true
      → AllByRecursion (DefinitionTaken symbols) (filter_map (λ p. option_map (Definition.constant p.0) (d p.1)) ps)
      → AllByRecursion (λ (p : Name × Variable). TypeTaken symbols p.1.1) ps
      → AllByRecursion (λ (p : Variable × Term). TermTaken symbols p.1) (constants_put ps)
  constants-taken d typed [] e h k = tt
  constants-taken d typed (p ∷ ps) e h k = go (d p.1) (typed p.1) e h (λ e h. constants-taken d typed ps e h k.1)
    where
      go : (o : Option Term) → ((t : Term) → o ≡ Some t → HasType t p.1.1) → (is_some o && list_all (λ v. is_some (d v)) (variables_of ps)) ≡ true
          → AllByRecursion (DefinitionTaken symbols)
          (cons_option (option_map (Definition.constant p.0) o) (filter_map (λ p. option_map (Definition.constant p.0) (d p.1)) ps))
          → (list_all (λ v. is_some (d v)) (variables_of ps) ≡ true
          → AllByRecursion (DefinitionTaken symbols) (filter_map (λ p. option_map (Definition.constant p.0) (d p.1)) ps)
          → AllByRecursion (λ (p : Variable × Term). TermTaken symbols p.1) (constants_put ps))
          → AllByRecursion (λ (p : Variable × Term). TermTaken symbols p.1) (constants_put (p ∷ ps))
      go None f e h rest = absurd (cc)
      go (Some t) f e h rest = ((h.0 p.1.1 (f t refl), k.0), rest e h.1)

  -- the new type of a type definition
  variables-taken : (ns : List Name) → TypesTaken symbols (types_of (map type.HolType.variable ns))
  variables-taken [] = tt
  variables-taken (n ∷ ns) = (tt {0}, variables-taken ns)

  pub new_type-taken : (names : TypeNames) → OperatorTaken symbols names.operator (length names.variables) → TypeTaken symbols (new_type names)
  new_type-taken names h = (subst (OperatorTaken symbols names.operator) (sym (count-variables names.variables)) h, variables-taken names.variables)

  record TypeDefinitionParts (names : TypeNames) (c : HolType) (f : Term) : Type 0 where
    predicate : TermTaken symbols f
    whole : TypeTaken symbols c
    part : TypeTaken symbols (new_type names)
    abstraction : ConstantTaken symbols names.abstraction (abstraction_type names c)
    representation : ConstantTaken symbols names.representation (representation_type names c)

  type_definition-parts : (names : TypeNames) (c : HolType) (f : Term) (one : Sequent) → IsTypeDefinition names c f one → TermTaken symbols one.conclusion
      → AllByRecursion (DefinitionTaken symbols) (type_definition_in names one.conclusion) → TypeDefinitionParts names c f
  type_definition-parts names c f one d h k =
      let application : TermTaken symbols (term.Term.app f d.witness) = subst (TermTaken symbols) d.holds h in
      let used : AllByRecursion (DefinitionTaken symbols) (type_definition_in names (term.Term.app f d.witness)) =
      subst (λ t. AllByRecursion (DefinitionTaken symbols) (type_definition_in names t)) d.holds k in
      let one_used : AllByRecursion (DefinitionTaken symbols) (Definition.type_operator names c f ∷ []) =
      subst (λ o. AllByRecursion (DefinitionTaken symbols) (option_to_list (option_map (λ c. Definition.type_operator names c f) o))) d.typed used in
      record {
        predicate = application.0;
        whole = type_of-taken symbols d.witness c application.1 d.typed;
        part = new_type-taken names one_used.0.0;
        abstraction = one_used.0.1;
        representation = one_used.0.2;
      }

  represented-taken : (names : TypeNames) (c : HolType) (f t : Term) → TypeDefinitionParts names c f → TermTaken symbols t
      → TermTaken symbols (represented names c t)
  represented-taken names c f t p h = ((p.representation, function-taken symbols (new_type names) c p.part p.whole), h)

  abstracted-taken : (names : TypeNames) (c : HolType) (f t : Term) → TypeDefinitionParts names c f → TermTaken symbols t
      → TermTaken symbols (abstracted names c t)
  abstracted-taken names c f t p h = ((p.abstraction, function-taken symbols c (new_type names) p.whole p.part), h)

  -- The law of symbols.
  pub rule-taken : (kind : StepKind) (premises : List Sequent) (given : Parameters) (s : Sequent) → Rule kind premises given s
      → AllByRecursion (TermsTaken symbols) premises → ParametersTaken symbols given
      → AllByRecursion (DefinitionTaken symbols) (definitions_used kind premises given) → TermsTaken symbols s
  rule-taken kind premises given s (rule.refl {t = t} {a = a} h e) p g d =
      concludes [] (equation a t t) s e (tt {0}) (equation-taken symbols a t t (type_of-taken symbols t a g h) g g)
  rule-taken kind premises given s (rule.assume {p = q} h e) p g d = concludes (q ∷ []) q s e (g, tt {0}) g
  rule-taken kind premises given s (rule.eq_mp {p = x} {q = y} {one = one} {two = two} e f i) p g d =
      concludes (union term_eq one.hypotheses two.hypotheses) y s i (joined-taken one.hypotheses two.hypotheses p.0.hypotheses p.1.0.hypotheses)
      (sides symbols bool x y one.conclusion e p.0.conclusion).right
  rule-taken kind premises given s (rule.abs_thm {v = v} {b = b} {t = t} {u = u} {one = one} e fresh i) p g d =
      let w = sides symbols b t u one.conclusion e p.0.conclusion in
      concludes one.hypotheses (equation (function v.1 b) (term.Term.lam v.1 (close v t)) (term.Term.lam v.1 (close v u))) s i p.0.hypotheses
      (equation-taken symbols (function v.1 b) (term.Term.lam v.1 (close v t)) (term.Term.lam v.1 (close v u)) (function-taken symbols v.1 b g w.ty)
      (g, close-taken symbols 0 v t w.left) (g, close-taken symbols 0 v u w.right))
  rule-taken kind premises given s (rule.app_thm {a = a} {b = b} {f = f} {g = h} {x = x} {y = y} {one = one} {two = two} e i l) p g d =
      let w = sides symbols (function a b) f h one.conclusion e p.0.conclusion in
      let z = sides symbols a x y two.conclusion i p.1.0.conclusion in
      concludes (union term_eq one.hypotheses two.hypotheses) (equation b (term.Term.app f x) (term.Term.app h y)) s l
      (joined-taken one.hypotheses two.hypotheses p.0.hypotheses p.1.0.hypotheses)
      (equation-taken symbols b (term.Term.app f x) (term.Term.app h y) w.ty.1.1.0 (w.left, z.left) (w.right, z.right))
  rule-taken kind premises given s (rule.deduct_antisym {one = one} {two = two} i) p g d =
      concludes (union term_eq (without term_eq one.hypotheses two.conclusion) (without term_eq two.hypotheses one.conclusion))
      (equation bool one.conclusion two.conclusion) s i
      (joined-taken (without term_eq one.hypotheses two.conclusion) (without term_eq two.hypotheses one.conclusion)
      (All-filter (TermTaken symbols) _ one.hypotheses p.0.hypotheses) (All-filter (TermTaken symbols) _ two.hypotheses p.1.0.hypotheses))
      (equation-taken symbols bool one.conclusion two.conclusion (bool-taken symbols) p.0.conclusion p.1.0.conclusion)
  rule-taken kind premises given s (rule.beta_conv {a = a} {b = b} {t = t} {u = u} h e) p g d =
      concludes [] (equation b (term.Term.app (term.Term.lam a t) u) (put u t)) s e (tt {0})
      (equation-taken symbols b (term.Term.app (term.Term.lam a t) u) (put u t) (type_of-taken symbols (term.Term.app (term.Term.lam a t) u) b g h) g
      (put-taken symbols 0 u t g.1 g.0.1))
  rule-taken kind premises given s (rule.sym {a = a} {x = x} {y = y} {one = one} e i) p g d =
      let w = sides symbols a x y one.conclusion e p.0.conclusion in
      concludes one.hypotheses (equation a y x) s i p.0.hypotheses (equation-taken symbols a y x w.ty w.right w.left)
  rule-taken kind premises given s (rule.trans {a = a} {x = x} {y = y} {z = z} {one = one} {two = two} e f i) p g d =
      let w = sides symbols a x y one.conclusion e p.0.conclusion in
      let v = sides symbols a y z two.conclusion f p.1.0.conclusion in
      concludes (union term_eq one.hypotheses two.hypotheses) (equation a x z) s i (joined-taken one.hypotheses two.hypotheses p.0.hypotheses p.1.0.hypotheses)
      (equation-taken symbols a x z w.ty w.left v.right)
  rule-taken kind premises given s (rule.prove_hyp {one = one} {two = two} i) p g d =
      concludes (union term_eq one.hypotheses (without term_eq two.hypotheses one.conclusion)) two.conclusion s i
      (joined-taken one.hypotheses (without term_eq two.hypotheses one.conclusion) p.0.hypotheses
      (All-filter (TermTaken symbols) _ two.hypotheses p.1.0.hypotheses)) p.1.0.conclusion
  rule-taken kind premises given s (rule.subst {types = types} {terms = terms} {one = one} fitting i) p g d =
      let put_taken : AllByRecursion (λ (q : Variable × Term). TermTaken symbols q.1) terms = All-weaker _ _ (λ q h. h.1) terms g.1 in
      concludes (distinct term_eq (map (sub types terms) one.hypotheses)) (sub types terms one.conclusion) s i
      (joined-taken [] (map (sub types terms) one.hypotheses) (tt {0})
      (All-mapped (TermTaken symbols) (sub types terms) one.hypotheses
      (All-weaker _ _ (sub-taken symbols types terms g.0 put_taken) one.hypotheses p.0.hypotheses)))
      (sub-taken symbols types terms g.0 put_taken one.conclusion p.0.conclusion)
  rule-taken kind premises given s (rule.recorded is) p g d = g
  rule-taken kind premises given s (rule.restate is i) p g d = g
  rule-taken kind premises given s (rule.define_const {n = n} {t = t} {a = a} h e) p g d =
      let o = type_of-taken symbols t a g h.typed in
      concludes [] (equation a (term.Term.constant n a) t) s e (tt {0}) (equation-taken symbols a (term.Term.constant n a) t o (d.0 a h.typed, o) g)
  rule-taken kind premises given s (rule.define_const_list {pairs = pairs} {one = one} defining list e) p g d =
      let parts = list_parts pairs one list in
      let constants = constants-taken (definiens pairs one.hypotheses)
      (λ v t k. (lookup-All (λ q. IsDefining q.0.1 q.1) (defining_equations pairs one.hypotheses) v t defining k).typed) pairs parts.defined d g in
      concludes [] (sub [] (constants_put pairs) one.conclusion) s e (tt {0})
      (sub-taken symbols [] (constants_put pairs) (tt {0}) constants one.conclusion p.0.conclusion)
  rule-taken kind premises given s (rule.first_law {names = names} {c = c} {f = f} {one = one} t e) p g d =
      let parts = type_definition-parts names c f one t p.0.conclusion d in
      let n = new_type names in
      let b = term.Term.bound 0 in
      concludes [] (type_definition.first_law names c).conclusion s e (tt {0})
      (equation-taken symbols (function n n) (term.Term.lam n (abstracted names c (represented names c b))) (term.Term.lam n b)
      (function-taken symbols n n parts.part parts.part)
      (parts.part, abstracted-taken names c f (represented names c b) parts (represented-taken names c f b parts (tt {0}))) (parts.part, tt {0}))
  rule-taken kind premises given s (rule.second_law {names = names} {c = c} {f = f} {one = one} t e) p g d =
      let parts = type_definition-parts names c f one t p.0.conclusion d in
      let b = term.Term.bound 0 in
      let back = represented names c (abstracted names c b) in
      concludes [] (type_definition.second_law names c f).conclusion s e (tt {0})
      (equation-taken symbols (function c bool) (term.Term.lam c (equation c back b)) (term.Term.lam c (term.Term.app f b))
      (function-taken symbols c bool parts.whole (bool-taken symbols)) (
        parts.whole,
        equation-taken symbols c back b parts.whole
            (represented-taken names c f (abstracted names c b) parts (abstracted-taken names c f b parts (tt {0}))) (tt {0}),
      )
      (parts.whole, (parts.predicate, tt {0})))
  rule-taken kind premises given s (rule.first_law_free {names = names} {c = c} {f = f} {one = one} t e) p g d =
      let parts = type_definition-parts names c f one t p.0.conclusion d in
      let n = new_type names in
      let v = type_definition.new_variable names in
      concludes [] (type_definition.first_law_free names c).conclusion s e (tt {0})
      (equation-taken symbols n (abstracted names c (represented names c v)) v parts.part
      (abstracted-taken names c f (represented names c v) parts (represented-taken names c f v parts parts.part)) parts.part)
  rule-taken kind premises given s (rule.second_law_free {names = names} {c = c} {f = f} {one = one} t e) p g d =
      let parts = type_definition-parts names c f one t p.0.conclusion d in
      let v = type_definition.old_variable c in
      let back = represented names c (abstracted names c v) in
      concludes [] (type_definition.second_law_free names c f).conclusion s e (tt {0})
      (equation-taken symbols bool (term.Term.app f v) (equation c back v) (bool-taken symbols) (parts.predicate, parts.whole)
      (equation-taken symbols c back v parts.whole (represented-taken names c f (abstracted names c v) parts (abstracted-taken names c f v parts parts.whole))
      parts.whole))
