-- Depths of sequents and of proofs: the telescope of a sequent, a theorem in a scope, and each row of the table of bodies.
use Rattle.std.proofs.Common.{◌≡◌, ℕ, suc, ◌+◌, ◌*◌, ◌≤◌, List, [], ◌∷◌, ◌++◌, map, length, Bool, true, false, cond, refl, sym, ap, subst, ◌∙◌, arith}
use Rattle.std.specs.List.{AllByRecursion}
use Rattle.std.proofs.lemmas.List.{length-map, length-append}
use Rattle.hol_spec.specs.Names.{Name}
use Rattle.hol_spec.specs.Types.{HolType, operator, more}
use Rattle.hol_spec.specs.Limits.{type_depth, term_depth, greatest_depth, greatest_parameter_count, SequentWithin}
use Rattle.hol_spec.specs.Substitution.{TypePairs, image, substitute}
use Rattle.hol_spec.specs.Primitives.{bool, function}
use Rattle.hol_spec.specs.Definitions.{TypeNames}
use Rattle.hol_spec.specs.NewTypes.{new_type}
use Rattle.hol_spec.specs.TypeDefinitions.{IsTypeDefinition, abstracted, represented}
use Rattle.hol_spec.specs.TypeDefinitions as type_definition
use Rattle.hol_spec.specs.Terms.{Term, bound, constant, app, lam, Variable, term_eq, equation}
use Rattle.hol_spec.specs.TermBinding.{put}
use Rattle.hol_spec.specs.TermSubstitution.{TermPairs, term_image, sub, AreFitting}
use Rattle.hol_spec.specs.DefinitionLists.{ConstantPairs, constants_put}
use Rattle.hol_spec.specs.Sequents.{Sequent, terms_of, type_variables_of, free_variables_of}
use Rattle.hol_spec.specs.Lists.{IsIn}
use Rattle.hol_spec.specs.Rules.{Rule, Parameters}
use Rattle.hol_spec.specs.Rules as rule
use Rattle.hol_spec.specs.declared.StepKind.{StepKind}
use Rattle.hol_laws.specs.TermLaws.{term_eq-Decides}
use Rattle.hol_laws.specs.Members.{All-weaker, All-append, All-mapped, All-left, All-right, All-each, All-at, IsIn-distinct}
use Rattle.hol_laws.specs.TermInstances.{substitute-nothing}
use Rattle.lp_spec.specs.Trees.{Tree, Var, Sym, App, Lam, depth}
use Rattle.lp_spec.specs.Modules.{types, term_of, fun_ext_symbol, sub_abs_rep_symbol, sub_rep_abs_symbol}
use Rattle.translate_spec.specs.Scopes.{SymbolMap, type_tree, Scope, term_tree, lifted, under_term, under_proof, under_types, set_proof, unfilled, term_domains, proof_domains, scope_of_types, scope_of_terms, scope_of, domains_of, conclusion_tree, theorem_tree, images, filled}
use Rattle.translate_spec.specs.ProofTrees.{Premise, premise_tree, refl_tree, eq_mp_tree, fun_ext_tree, app_thm_tree, prop_ext_tree, sym_tree, trans_tree, prove_hyp_tree, subst_tree, self_proof, constants_scope, abs_tree, predicate, witness, part_tree, law_tree, sym_symbol, first_law_tree, second_law_tree, first_law_free_tree, second_law_free_tree}
use Rattle.translate_spec.specs.Rows.{type_or, equated_type, left_side, right_side, argument_type, result_type, of_one, of_two, proof_tree}
use Rattle.translate_laws.specs.BodyTyping.{IsIn-map}
use Rattle.translate_laws.specs.DefinitionsHeld.{type_or-is}
use Rattle.image_bound_laws.specs.Depths.{AreShallowTrees, applied-depth}
use Rattle.image_bound_laws.specs.ShallowScopes.{HasFewArguments, IsShallowScope, type_tree-depth, under_term-shallow, lifted-shallow, under_proof-shallow, under_types-shallow, under_terms-shallow, under_proofs-shallow, filled-shallow, term_tree-depth}
use Rattle.image_bound_laws.specs.TermMeasures.{AreShallowTerms, HasType-depth, sequent-depth, free_variables-depth, type_images-depth, term_images_of-depth, constants_put-depth}

-- the trees of a term, of a type that is put in a substitution, of a premise and of the proof of a step are no deeper than this
abbrev pub deepest_term : ℕ
deepest_term = greatest_depth + greatest_parameter_count + 2

abbrev pub deepest_argument : ℕ
deepest_argument = 3 * greatest_depth + 1

abbrev pub deepest_premise : ℕ
deepest_premise = deepest_argument + greatest_parameter_count

abbrev pub deepest_proof : ℕ
deepest_proof = deepest_premise + greatest_parameter_count + 20

-- parts of terms and of types
left_side-depth : (t : Term) → term_depth (left_side t) ≤ term_depth t
left_side-depth (app (app e x) y) = omega arith
left_side-depth t = omega arith

right_side-depth : (t : Term) → term_depth (right_side t) ≤ term_depth t
right_side-depth (app (app e x) y) = omega arith
right_side-depth t = omega arith

equated_type-depth : (t : Term) → type_depth (equated_type t) ≤ term_depth t
equated_type-depth (app (app (constant n (operator f (more a ts))) x) y) = omega arith
equated_type-depth t = omega arith

predicate-depth : (t : Term) → term_depth (predicate t) ≤ term_depth t
predicate-depth (app f x) = omega arith
predicate-depth t = omega arith

witness-depth : (t : Term) → term_depth (witness t) ≤ term_depth t
witness-depth (app f x) = omega arith
witness-depth t = omega arith

-- the type of the term in which a type definition's predicate holds
pub part-type : (names : TypeNames) (c : HolType) (f : Term) (one : Sequent) → IsTypeDefinition names c f one → type_or (witness one.conclusion) ≡ c
part-type names c f one d = ap (λ t. type_or (witness t)) d.holds ∙ type_or-is d.witness c d.typed

argument_type-depth : (t : HolType) → type_depth (argument_type t) ≤ type_depth t
argument_type-depth (operator n (more a ts)) = omega arith
argument_type-depth t = omega arith

result_type-depth : (t : HolType) → type_depth (result_type t) ≤ type_depth t
result_type-depth (operator n (more a (more b ts))) = omega arith
result_type-depth t = omega arith

-- a theorem in a scope, where what stands for its parameters has at most this depth
pub record AreShallowArguments (d : ℕ) (scope : Scope) (s : Sequent) : Type 0 where
  pub types : AllByRecursion (λ n. depth (scope.types n) ≤ d) (type_variables_of s)
  pub terms : AllByRecursion (λ v. depth (scope.terms v) ≤ d) (free_variables_of s)
  pub proofs : AllByRecursion (λ h. depth (scope.proofs h) ≤ d) s.hypotheses

pub theorem_tree-depth : (d : ℕ) (scope : Scope) (k : ℕ) (s : Sequent) → 1 ≤ d → SequentWithin s → AreShallowArguments d scope s
    → depth (theorem_tree scope k s) ≤ d + greatest_parameter_count
theorem_tree-depth d scope k s l within h =
    let ts = map scope.types (type_variables_of s) in
    let us = map scope.terms (free_variables_of s) in
    let ps = map scope.proofs s.hypotheses in
    let all = All-append (λ t. depth t ≤ d) (ts ++ us) ps
    (All-append (λ t. depth t ≤ d) ts us (All-mapped (λ t. depth t ≤ d) scope.types (type_variables_of s) h.types)
    (All-mapped (λ t. depth t ≤ d) scope.terms (free_variables_of s) h.terms))
    (All-mapped (λ t. depth t ≤ d) scope.proofs s.hypotheses h.proofs) in
    let whole = applied-depth (Sym k) ((ts ++ us) ++ ps) d l all in
    let one = length-append (ts ++ us) ps in
    let two = length-append ts us in
    let three = length-map (type_variables_of s) scope.types in
    let four = length-map (free_variables_of s) scope.terms in
    let five = length-map s.hypotheses scope.proofs in
    let most = within.parameters in
    omega (arith, whole, one, two, three, four, five, most)

-- a type definition's type
pub part-shallow : (names : TypeNames) (c : HolType) (f : Term) (one : Sequent) → IsTypeDefinition names c f one → term_depth one.conclusion ≤ greatest_depth
    → type_depth c ≤ 3 * greatest_depth
part-shallow names c f one d l = let same = ap term_depth d.holds in HasType-depth greatest_depth d.witness c (omega (arith, same, l)) d.typed

pub every : {A : Type 0} (P : A → Type 0) → ((x : A) → P x) → (xs : List A) → AllByRecursion P xs
every P f [] = tt
every P f (x ∷ xs) = (f x, every P f xs)

-- in a shallow scope
own_arguments : (scope : Scope) → IsShallowScope scope → (s : Sequent) → SequentWithin s → AreShallowArguments deepest_argument scope s
own_arguments scope h s within = record {
  types = every _ (λ n. let l = h.types n in omega (arith, l)) (type_variables_of s);
  terms = All-weaker (λ (v : Variable). type_depth v.1 ≤ greatest_depth) (λ v. depth (scope.terms v) ≤ deepest_argument)
      (λ v k. let l = h.terms v in omega (arith, l, k)) (free_variables_of s) (free_variables-depth s greatest_depth (sequent-depth s within));
  proofs = every _ (λ g. let l = h.proofs g in omega (arith, l)) s.hypotheses;
}

premise-depth : (scope : Scope) → IsShallowScope scope → (p : Premise) → SequentWithin p.1 → depth (premise_tree scope p) ≤ deepest_premise
premise-depth scope h p within = theorem_tree-depth deepest_argument scope p.0 p.1 (omega arith) within (own_arguments scope h p.1 within)

pub conclusion-depth : (s : Sequent) → SequentWithin s → term_depth s.conclusion ≤ greatest_depth
conclusion-depth s h = (All-right (λ t. term_depth t ≤ greatest_depth) s.hypotheses (s.conclusion ∷ []) (sequent-depth s h)).0

hypotheses-depth : (s : Sequent) → SequentWithin s → AreShallowTerms greatest_depth s.hypotheses
hypotheses-depth s h = All-left (λ t. term_depth t ≤ greatest_depth) s.hypotheses (s.conclusion ∷ []) (sequent-depth s h)

module _ (symbols : SymbolMap) where
  -- a sequent has few parameters, and its scope is shallow
  pub length-term_domains : (vs : List Variable) (scope : Scope) → length (term_domains symbols vs scope) ≡ length vs
  length-term_domains [] scope = refl
  length-term_domains (v ∷ vs) scope = ap suc (length-term_domains vs (under_term v scope))

  pub length-proof_domains : (hs : List Term) (scope : Scope) → length (proof_domains symbols hs scope) ≡ length hs
  length-proof_domains [] scope = refl
  length-proof_domains (h ∷ hs) scope = ap suc (length-proof_domains hs (under_proof h scope))

  pub length-domains : (s : Sequent) → SequentWithin s → length (domains_of symbols s) ≤ greatest_parameter_count
  length-domains s within =
      let ts = map (λ (n : Name). types) (type_variables_of s) in
      let us = term_domains symbols (free_variables_of s) (scope_of_types symbols s) in
      let ps = proof_domains symbols s.hypotheses (scope_of_terms symbols s) in
      let one = length-append (ts ++ us) ps in
      let two = length-append ts us in
      let three = length-map (type_variables_of s) (λ (n : Name). types) in
      let four = length-term_domains (free_variables_of s) (scope_of_types symbols s) in
      let five = length-proof_domains s.hypotheses (scope_of_terms symbols s) in
      let most = within.parameters in
      omega (arith, one, two, three, four, five, most)

  pub scope_of-shallow : (s : Sequent) → IsShallowScope (scope_of symbols s)
  scope_of-shallow s =
      under_proofs-shallow s.hypotheses (scope_of_terms symbols s) (under_terms-shallow (free_variables_of s) (scope_of_types symbols s)
      (filled-shallow symbols (under_types (type_variables_of s) unfilled) (under_types-shallow (type_variables_of s) unfilled (λ n. omega arith))))

module _ (symbols : SymbolMap) (few : HasFewArguments symbols) where
  -- the telescope of a sequent
  term_domains-depth : (vs : List Variable) (scope : Scope) → IsShallowScope scope → AllByRecursion (λ (v : Variable). type_depth v.1 ≤ greatest_depth) vs
      → AreShallowTrees deepest_term (term_domains symbols vs scope)
  term_domains-depth [] scope h k = tt
  term_domains-depth (v ∷ vs) scope h k =
      let l = type_tree-depth symbols scope.types h.types v.1 in
      (omega (arith, l, k.0), term_domains-depth vs (under_term v scope) (under_term-shallow v scope h) k.1)

  proof_domains-depth : (hs : List Term) (scope : Scope) → IsShallowScope scope → AreShallowTerms greatest_depth hs
      → AreShallowTrees deepest_term (proof_domains symbols hs scope)
  proof_domains-depth [] scope h k = tt
  proof_domains-depth (g ∷ gs) scope h k =
      let l = term_tree-depth symbols few scope h g in
      (omega (arith, l, k.0), proof_domains-depth gs (under_proof g scope) (under_proof-shallow g scope h) k.1)

  pub domains-depth : (s : Sequent) → SequentWithin s → AreShallowTrees deepest_term (domains_of symbols s)
  domains-depth s within =
      let scope = scope_of_types symbols s in
      let h = filled-shallow symbols (under_types (type_variables_of s) unfilled) (under_types-shallow (type_variables_of s) unfilled (λ n. omega arith)) in
      let ts = map (λ (n : Name). types) (type_variables_of s) in
      let us = term_domains symbols (free_variables_of s) scope in
      All-append (λ t. depth t ≤ deepest_term) (ts ++ us) (proof_domains symbols s.hypotheses (scope_of_terms symbols s))
      (All-append (λ t. depth t ≤ deepest_term) ts us
      (All-mapped (λ t. depth t ≤ deepest_term) (λ (n : Name). types) (type_variables_of s)
      (every (λ n. depth types ≤ deepest_term) (λ n. omega arith) (type_variables_of s)))
      (term_domains-depth (free_variables_of s) scope h (free_variables-depth s greatest_depth (sequent-depth s within))))
      (proof_domains-depth s.hypotheses (scope_of_terms symbols s) (under_terms-shallow (free_variables_of s) scope h) (hypotheses-depth s within))

  pub conclusion_tree-depth : (s : Sequent) → SequentWithin s → depth (conclusion_tree symbols s) ≤ deepest_term
  conclusion_tree-depth s within =
      let l = term_tree-depth symbols few (scope_of symbols s) (scope_of-shallow symbols s) s.conclusion in
      let k = conclusion-depth s within in
      omega (arith, l, k)

  -- rows in a shallow scope
  module _ (scope : Scope) (h : IsShallowScope scope) where
    ty-depth : (a : HolType) (d : ℕ) → type_depth a ≤ d → depth (type_tree symbols scope.types a) ≤ d + 1
    ty-depth a d l = let k = type_tree-depth symbols scope.types h.types a in omega (arith, k, l)

    tm-depth : (t : Term) → term_depth t ≤ greatest_depth → depth (term_tree symbols scope t) ≤ deepest_term
    tm-depth t l = let k = term_tree-depth symbols few scope h t in omega (arith, k, l)

    refl-depth : (a : HolType) (t : Term) → type_depth a ≤ greatest_depth → term_depth t ≤ greatest_depth → depth (refl_tree symbols scope a t) ≤ deepest_proof
    refl-depth a t k l = let b = ty-depth a greatest_depth k in let u = tm-depth t l in omega (arith, b, u)

    eq_mp-depth : (p q : Term) (one two : Premise) → term_depth p ≤ greatest_depth → term_depth q ≤ greatest_depth → SequentWithin one.1 → SequentWithin two.1
        → depth (eq_mp_tree symbols scope p q one two) ≤ deepest_proof
    eq_mp-depth p q one two k l v w =
        let a = tm-depth p k in
        let b = tm-depth q l in
        let c = premise-depth scope h one v in
        let d = premise-depth scope h two w in
        omega (arith, a, b, c, d)

    app_thm-depth : (a b : HolType) (f g x y : Term) (one two : Premise) → type_depth a ≤ greatest_depth → type_depth b ≤ greatest_depth
        → term_depth f ≤ greatest_depth → term_depth g ≤ greatest_depth → term_depth x ≤ greatest_depth → term_depth y ≤ greatest_depth
        → SequentWithin one.1 → SequentWithin two.1 → depth (app_thm_tree symbols scope a b f g x y one two) ≤ deepest_proof
    app_thm-depth a b f g x y one two i j k l m n v w =
        let a = ty-depth a greatest_depth i in
        let b = ty-depth b greatest_depth j in
        let f = tm-depth f k in
        let g = tm-depth g l in
        let x = tm-depth x m in
        let y = tm-depth y n in
        let c = premise-depth scope h one v in
        let d = premise-depth scope h two w in
        omega (arith, a, b, f, g, x, y, c, d)

    sym-depth : (a : HolType) (x y : Term) (one : Premise) → type_depth a ≤ greatest_depth → term_depth x ≤ greatest_depth → term_depth y ≤ greatest_depth
        → SequentWithin one.1 → depth (sym_tree symbols scope a x y one) ≤ deepest_proof
    sym-depth a x y one i k l v =
        let a = ty-depth a greatest_depth i in
        let x = tm-depth x k in
        let y = tm-depth y l in
        let c = premise-depth scope h one v in
        omega (arith, a, x, y, c)

    trans-depth : (a : HolType) (x y z : Term) (one two : Premise) → type_depth a ≤ greatest_depth → term_depth x ≤ greatest_depth
        → term_depth y ≤ greatest_depth → term_depth z ≤ greatest_depth → SequentWithin one.1 → SequentWithin two.1
        → depth (trans_tree symbols scope a x y z one two) ≤ deepest_proof
    trans-depth a x y z one two i k l m v w =
        let a = ty-depth a greatest_depth i in
        let x = tm-depth x k in
        let y = tm-depth y l in
        let z = tm-depth z m in
        let c = premise-depth scope h one v in
        let d = premise-depth scope h two w in
        omega (arith, a, x, y, z, c, d)

    prove_hyp-depth : (p : Term) (one two : Premise) → SequentWithin one.1 → SequentWithin two.1
        → depth (prove_hyp_tree symbols scope p one two) ≤ deepest_proof
    prove_hyp-depth p one two v w =
        let x = premise_tree scope one in
        let own = own_arguments scope h two.1 w in
        let first = premise-depth scope h one v in
        let whole = theorem_tree-depth deepest_premise (set_proof p x scope) two.0 two.1 (omega arith) w (record {
          types = All-weaker (λ n. depth (scope.types n) ≤ deepest_argument) (λ n. depth (scope.types n) ≤ deepest_premise) (λ n k. omega arith)
              (type_variables_of two.1) own.types;
          terms = All-weaker (λ v. depth (scope.terms v) ≤ deepest_argument) (λ v. depth (scope.terms v) ≤ deepest_premise) (λ v k. omega arith)
              (free_variables_of two.1) own.terms;
          proofs = every _ (λ g. choice (term_eq g p) x (scope.proofs g) first (let l = h.proofs g in omega (arith, l))) two.1.hypotheses;
        }) in
        omega (arith, whole)
      where
        choice : (b : Bool) (x y : Tree) → depth x ≤ deepest_premise → depth y ≤ deepest_premise → depth (cond b x y) ≤ deepest_premise
        choice true x y k l = k
        choice false x y k l = l

    subst-depth : (pairs : TypePairs) (terms : TermPairs) (one : Premise) → AreFitting terms → SequentWithin one.1
        → AllByRecursion (λ t. term_depth (sub pairs terms t) ≤ greatest_depth) (terms_of one.1)
        → depth (subst_tree symbols scope pairs terms one) ≤ deepest_proof
    subst-depth pairs terms one fitting v all =
        let whole = theorem_tree-depth deepest_argument (images symbols pairs terms scope) one.0 one.1 (omega arith) v (record {
          types = All-weaker (λ n. type_depth (image pairs n) ≤ 3 * greatest_depth)
              (λ n. depth (type_tree symbols scope.types (image pairs n)) ≤ deepest_argument) (λ n k. ty-depth (image pairs n) (3 * greatest_depth) k)
              (type_variables_of one.1) (type_images-depth pairs terms fitting greatest_depth one.1 all);
          terms = All-weaker (λ v. term_depth (term_image terms (v.0, substitute pairs v.1)) ≤ greatest_depth)
              (λ v. depth (term_tree symbols scope (term_image terms (v.0, substitute pairs v.1))) ≤ deepest_argument)
              (λ v k. let l = tm-depth (term_image terms (v.0, substitute pairs v.1)) k in omega (arith, l)) (free_variables_of one.1)
              (term_images_of-depth pairs terms greatest_depth one.1 all);
          proofs = every _ (λ g. let l = h.proofs (sub pairs terms g) in omega (arith, l)) one.1.hypotheses;
        }) in
        omega (arith, whole)

    self_proof-depth : (t : Term) → term_depth t ≤ greatest_depth → depth (self_proof symbols scope t) ≤ deepest_argument
    self_proof-depth (app (app (constant n (operator f (more a ts))) x) u) l =
        let b = ty-depth a greatest_depth (omega (arith, l)) in
        let c = tm-depth u (omega (arith, l)) in
        omega (arith, b, c)
    self_proof-depth t l = omega arith

    list-depth : (pairs : ConstantPairs) (one : Premise) → SequentWithin one.1
        → depth (premise_tree (constants_scope symbols scope (constants_put pairs)) one) ≤ deepest_proof
    list-depth pairs one v =
        let whole = theorem_tree-depth deepest_argument (constants_scope symbols scope (constants_put pairs)) one.0 one.1 (omega arith) v (record {
          types = every _ (λ n. let l = h.types n in omega (arith, l)) (type_variables_of one.1);
          terms = All-weaker (λ (v : Variable). type_depth v.1 ≤ greatest_depth)
              (λ v. depth (term_tree symbols scope (term_image (constants_put pairs) (v.0, substitute [] v.1))) ≤ deepest_argument)
              (λ v k.
              let c = constants_put-depth pairs (v.0, substitute [] v.1) in
              let same = ap type_depth (substitute-nothing v.1) in
              let l = term_tree-depth symbols few scope h (term_image (constants_put pairs) (v.0, substitute [] v.1)) in
              omega (arith, c, same, l, k)) (free_variables_of one.1) (free_variables-depth one.1 greatest_depth (sequent-depth one.1 v));
          proofs = All-weaker (λ t. term_depth t ≤ greatest_depth) (λ t. depth (self_proof symbols scope t) ≤ deepest_argument) self_proof-depth
              one.1.hypotheses (hypotheses-depth one.1 v);
        }) in
        omega (arith, whole)

    abs_tree-depth : (v : Variable) (t : Term) → type_depth v.1 ≤ greatest_depth → term_depth t ≤ greatest_depth
        → depth (abs_tree symbols scope v t) ≤ deepest_term
    abs_tree-depth v t k l =
        let a = ty-depth v.1 greatest_depth k in
        let u = term_tree-depth symbols few (under_term v scope) (under_term-shallow v scope h) t in
        omega (arith, a, u, l)

    fun_ext-depth : (v : Variable) (b : HolType) (t u : Term) (one : Premise) → type_depth v.1 ≤ greatest_depth → type_depth b ≤ greatest_depth
        → term_depth t ≤ greatest_depth → term_depth u ≤ greatest_depth → SequentWithin one.1
        → depth (fun_ext_tree symbols scope v b t u one) ≤ deepest_proof
    fun_ext-depth v b t u one i j k l w =
        let a = ty-depth v.1 greatest_depth i in
        let c = ty-depth b greatest_depth j in
        let x = abs_tree-depth v t i k in
        let y = abs_tree-depth v u i l in
        let p = premise-depth (under_term v scope) (under_term-shallow v scope h) one w in
        omega (arith, a, c, x, y, p)

    prop_ext-depth : (p q : Term) (one two : Premise) → term_depth p ≤ greatest_depth → term_depth q ≤ greatest_depth → SequentWithin one.1
        → SequentWithin two.1 → depth (prop_ext_tree symbols scope p q one two) ≤ deepest_proof
    prop_ext-depth p q one two k l v w =
        let a = tm-depth p k in
        let b = tm-depth q l in
        let c = premise-depth (under_proof q scope) (under_proof-shallow q scope h) one v in
        let d = premise-depth (under_proof p scope) (under_proof-shallow p scope h) two w in
        omega (arith, a, b, c, d)

    -- a symbol of parts at a premise
    pub part-depth : (i : ℕ) (c : HolType) (j : ℕ) (one : Sequent) → type_depth c ≤ 3 * greatest_depth → SequentWithin one
        → depth (part_tree symbols scope i c (j, one)) ≤ deepest_premise + 16
    part-depth i c j one l w =
        let a = ty-depth c (3 * greatest_depth) l in
        let own = conclusion-depth one w in
        let f = tm-depth (predicate one.conclusion) (let k = predicate-depth one.conclusion in omega (arith, k, own)) in
        let x = tm-depth (witness one.conclusion) (let k = witness-depth one.conclusion in omega (arith, k, own)) in
        let p = premise-depth scope h (j, one) w in
        omega (arith, a, f, x, p)

  -- a law of a type definition
  module _ (scope : Scope) (h : IsShallowScope scope) where
    law-depth : (a b : HolType) (t u : Term) (i : ℕ) (c : HolType) (j : ℕ) (one : Sequent) → term_depth (lam a t) ≤ greatest_depth
        → type_depth b ≤ greatest_depth → term_depth (lam a u) ≤ greatest_depth → type_depth c ≤ 3 * greatest_depth → SequentWithin one
        → depth (law_tree symbols scope a b t u i c (j, one)) ≤ deepest_proof
    law-depth a b t u i c j one k l m n w =
        let x = ty-depth scope h a greatest_depth (omega (arith, k)) in
        let y = ty-depth scope h b greatest_depth l in
        let f = tm-depth scope h (lam a t) k in
        let g = tm-depth scope h (lam a u) m in
        let p = part-depth (lifted scope) (lifted-shallow scope h) i c j one n w in
        let A = type_tree symbols scope.types a in
        let body : depth (Lam (term_of A) (App (part_tree symbols (lifted scope) i c (j, one)) (Var 0))) ≤ deepest_premise + 20 =
        body-depth A (part_tree symbols (lifted scope) i c (j, one)) (omega (arith, x)) p in
        let whole = applied-depth (Sym fun_ext_symbol)
        (A ∷ type_tree symbols scope.types b ∷ term_tree symbols scope (lam a t) ∷ term_tree symbols scope (lam a u) ∷ Lam (term_of A)
        (App (part_tree symbols (lifted scope) i c (j, one)) (Var 0)) ∷ []) (deepest_premise + 20) (omega arith)
        (omega (arith, x), (omega (arith, y), (omega (arith, f), (omega (arith, g), (body, tt {0}))))) in
        omega (arith, whole)
      where
        body-depth : (A p : Tree) → depth A ≤ greatest_depth + 1 → depth p ≤ deepest_premise + 16
            → depth (Lam (term_of A) (App p (Var 0))) ≤ deepest_premise + 20
        body-depth A p x y = omega (arith, x, y)

    first_law-depth : (names : TypeNames) (c : HolType) (f : Term) (one s : Sequent) (j : ℕ) → IsTypeDefinition names c f one
        → s ≡ type_definition.first_law names c → SequentWithin one → SequentWithin s
        → depth (first_law_tree symbols scope names (type_or (witness one.conclusion)) (j, one)) ≤ deepest_proof
    first_law-depth names c f one s j d e v w =
        let own = conclusion-depth s w in
        let is = ap (λ (x : Sequent). term_depth x.conclusion) e in
        let deep = part-shallow names c f one d (conclusion-depth one v) in
        subst (λ c. depth (first_law_tree symbols scope names c (j, one)) ≤ deepest_proof) (sym (part-type names c f one d))
        (law-depth (new_type names) (new_type names) (abstracted names c (represented names c (bound 0))) (bound 0) sub_abs_rep_symbol c j one
        (omega (arith, own, is)) (omega (arith, own, is)) (omega (arith, own, is)) deep v)

    sides-depth : (a : HolType) (x y : Term) → term_depth (equation a x y) ≤ greatest_depth → (term_depth x ≤ greatest_depth) × (term_depth y ≤ greatest_depth)
    sides-depth a x y l = (omega (arith, l), omega (arith, l))

    second_law-depth : (names : TypeNames) (c : HolType) (f : Term) (one s : Sequent) (j : ℕ) → IsTypeDefinition names c f one
        → s ≡ type_definition.second_law names c f → SequentWithin one → SequentWithin s
        → depth (second_law_tree symbols scope names (type_or (witness one.conclusion)) (j, one)) ≤ deepest_proof
    second_law-depth names c f one s j d e v w =
        let own = conclusion-depth s w in
        let is = ap (λ (x : Sequent). x.conclusion) e in
        let sides = sides-depth (function c bool) (lam c (equation c (represented names c (abstracted names c (bound 0))) (bound 0))) (lam c (app f (bound 0)))
        (subst (λ t. term_depth t ≤ greatest_depth) is own) in
        let right = subst (λ p. term_depth (lam c (app p (bound 0))) ≤ greatest_depth) (sym (ap predicate d.holds)) sides.1 in
        let deep = part-shallow names c f one d (conclusion-depth one v) in
        subst (λ c. depth (second_law_tree symbols scope names c (j, one)) ≤ deepest_proof) (sym (part-type names c f one d))
        (law-depth c bool (equation c (represented names c (abstracted names c (bound 0))) (bound 0)) (app (predicate one.conclusion) (bound 0))
        sub_rep_abs_symbol c j one sides.0 (omega arith) right deep v)

    -- the laws in version 5
    call-depth : (i : ℕ) (c : HolType) (x : Term) (j : ℕ) (one : Sequent) → type_depth c ≤ 3 * greatest_depth → SequentWithin one
        → term_depth x ≤ greatest_depth
        → depth (App (part_tree symbols (filled symbols scope.types) i c (j, one)) (term_tree symbols scope x)) ≤ deepest_premise + 20
    call-depth i c x j one l w k =
        let p = part-depth (filled symbols scope.types) (filled-shallow symbols scope.types h.types) i c j one l w in
        let q = tm-depth scope h x k in
        omega (arith, p, q)

    first_free-depth : (names : TypeNames) (c : HolType) (f : Term) (one s : Sequent) (j : ℕ) → IsTypeDefinition names c f one
        → s ≡ type_definition.first_law_free names c → SequentWithin one → SequentWithin s
        → depth (first_law_free_tree symbols scope names (type_or (witness one.conclusion)) (j, one)) ≤ deepest_proof
    first_free-depth names c f one s j d e v w =
        let own = conclusion-depth s w in
        let is = ap (λ (x : Sequent). x.conclusion) e in
        let sides = sides-depth (new_type names) (abstracted names c (represented names c (type_definition.new_variable names)))
        (type_definition.new_variable names) (subst (λ t. term_depth t ≤ greatest_depth) is own) in
        let deep = part-shallow names c f one d (conclusion-depth one v) in
        let whole = call-depth sub_abs_rep_symbol c (type_definition.new_variable names) j one deep v sides.1 in
        subst (λ c. depth (first_law_free_tree symbols scope names c (j, one)) ≤ deepest_proof) (sym (part-type names c f one d)) (omega (arith, whole))

    second_free-depth : (names : TypeNames) (c : HolType) (f : Term) (one s : Sequent) (j : ℕ) → IsTypeDefinition names c f one
        → s ≡ type_definition.second_law_free names c f → SequentWithin one → SequentWithin s
        → depth (second_law_free_tree symbols scope names (type_or (witness one.conclusion)) (j, one)) ≤ deepest_proof
    second_free-depth names c f one s j d e v w =
        let own = conclusion-depth s w in
        let is = ap (λ (x : Sequent). x.conclusion) e in
        let r = type_definition.old_variable c in
        let right = equation c (represented names c (abstracted names c r)) r in
        let sides = sides-depth bool (app f r) right (subst (λ t. term_depth t ≤ greatest_depth) is own) in
        let inner = sides-depth c (represented names c (abstracted names c r)) r sides.1 in
        let left = subst (λ p. term_depth (app p r) ≤ greatest_depth) (sym (ap predicate d.holds)) sides.0 in
        let deep = part-shallow names c f one d (conclusion-depth one v) in
        let x = ty-depth scope h bool greatest_depth (omega arith) in
        let y = tm-depth scope h right sides.1 in
        let z = tm-depth scope h (app (predicate one.conclusion) r) left in
        let last = call-depth sub_rep_abs_symbol c r j one deep v inner.1 in
        let whole = applied-depth (Sym sym_symbol)
        (type_tree symbols scope.types bool ∷ term_tree symbols scope right ∷ term_tree symbols scope (app (predicate one.conclusion) r) ∷ App
        (part_tree symbols (filled symbols scope.types) sub_rep_abs_symbol c (j, one)) (term_tree symbols scope r) ∷ []) (deepest_premise + 20)
        (omega arith) (omega (arith, x), (omega (arith, y), (omega (arith, z), (last, tt {0})))) in
        subst (λ c. depth (second_law_free_tree symbols scope names c (j, one)) ≤ deepest_proof) (sym (part-type names c f one d)) (omega (arith, whole))

  of_one-depth : (d : ℕ) (row : Premise → Tree) (js : List ℕ) (one : Sequent) → 1 ≤ d → ((j : ℕ) → depth (row (j, one)) ≤ d)
      → depth (of_one row js (one ∷ [])) ≤ d
  of_one-depth d row [] one l f = l
  of_one-depth d row (j ∷ []) one l f = f j
  of_one-depth d row (j ∷ k ∷ js) one l f = l

  of_two-depth : (d : ℕ) (row : Premise → Premise → Tree) (js : List ℕ) (one two : Sequent) → 1 ≤ d → ((j k : ℕ) → depth (row (j, one) (k, two)) ≤ d)
      → depth (of_two row js (one ∷ two ∷ [])) ≤ d
  of_two-depth d row [] one two l f = l
  of_two-depth d row (j ∷ []) one two l f = l
  of_two-depth d row (j ∷ k ∷ []) one two l f = f j k
  of_two-depth d row (j ∷ k ∷ i ∷ js) one two l f = l

  -- The proof of a step: by its rule, in a shallow scope
  module _ (scope : Scope) (h : IsShallowScope scope) where
    pub proof_tree-depth : (kind : StepKind) (js : List ℕ) (premises : List Sequent) (given : Parameters) (s : Sequent) → Rule kind premises given s
        → AllByRecursion SequentWithin premises → SequentWithin s
        → depth (proof_tree symbols scope kind js premises given) ≤ deepest_proof
    proof_tree-depth kind js premises given s (rule.refl {t = t} {a = a} typed e) p w =
        let c = conclusion-depth s w in
        let is = ap (λ (x : Sequent). term_depth x.conclusion) e in
        let same = ap type_depth (type_or-is t a typed) in
        refl-depth scope h (type_or t) t (omega (arith, c, is, same)) (omega (arith, c, is))
    proof_tree-depth kind js premises given s (rule.assume {p = q} typed e) p w = let l = h.proofs q in omega (arith, l)
    proof_tree-depth kind js premises given s (rule.eq_mp {p = a} {q = b} {one = one} {two = two} e f i) p w =
        of_two-depth deepest_proof (λ one two. eq_mp_tree symbols scope (left_side one.1.conclusion) (right_side one.1.conclusion) one two) js one two
        (omega arith) (λ j k.
        let c = conclusion-depth one p.0 in
        let l = left_side-depth one.conclusion in
        let r = right_side-depth one.conclusion in
        eq_mp-depth scope h (left_side one.conclusion) (right_side one.conclusion) (j, one) (k, two) (omega (arith, c, l)) (omega (arith, c, r)) p.0 p.1.0)
    proof_tree-depth kind js premises given s (rule.abs_thm {v = v} {b = b} {t = t} {u = u} {one = one} e fresh i) p w =
        of_one-depth deepest_proof
        (λ one. fun_ext_tree symbols scope v (equated_type one.1.conclusion) (left_side one.1.conclusion) (right_side one.1.conclusion) one) js one
        (omega arith) (λ j.
        let c = conclusion-depth one p.0 in
        let l = left_side-depth one.conclusion in
        let r = right_side-depth one.conclusion in
        let q = equated_type-depth one.conclusion in
        let own = conclusion-depth s w in
        let is = ap (λ (x : Sequent). term_depth x.conclusion) i in
        fun_ext-depth scope h v (equated_type one.conclusion) (left_side one.conclusion) (right_side one.conclusion) (j, one) (omega (arith, own, is))
        (omega (arith, c, q)) (omega (arith, c, l)) (omega (arith, c, r)) p.0)
    proof_tree-depth kind js premises given s (rule.app_thm {one = one} {two = two} e i l) p w =
        of_two-depth deepest_proof
        (λ one two. app_thm_tree symbols scope (argument_type (equated_type one.1.conclusion)) (result_type (equated_type one.1.conclusion))
        (left_side one.1.conclusion) (right_side one.1.conclusion) (left_side two.1.conclusion) (right_side two.1.conclusion) one two) js one two
        (omega arith) (λ j k.
        let c = conclusion-depth one p.0 in
        let l = left_side-depth one.conclusion in
        let r = right_side-depth one.conclusion in
        let q = equated_type-depth one.conclusion in
        let a = argument_type-depth (equated_type one.conclusion) in
        let b = result_type-depth (equated_type one.conclusion) in
        let d = conclusion-depth two p.1.0 in
        let x = left_side-depth two.conclusion in
        let y = right_side-depth two.conclusion in
        app_thm-depth scope h (argument_type (equated_type one.conclusion)) (result_type (equated_type one.conclusion)) (left_side one.conclusion)
        (right_side one.conclusion) (left_side two.conclusion) (right_side two.conclusion) (j, one) (k, two)
        (omega (arith, c, q, a)) (omega (arith, c, q, b)) (omega (arith, c, l)) (omega (arith, c, r)) (omega (arith, d, x)) (omega (arith, d, y)) p.0 p.1.0)
    proof_tree-depth kind js premises given s (rule.deduct_antisym {one = one} {two = two} i) p w =
        of_two-depth deepest_proof (λ one two. prop_ext_tree symbols scope one.1.conclusion two.1.conclusion one two) js one two (omega arith) (λ j k.
        prop_ext-depth scope h one.conclusion two.conclusion (j, one) (k, two) (conclusion-depth one p.0) (conclusion-depth two p.1.0) p.0 p.1.0)
    proof_tree-depth kind js premises given s (rule.beta_conv {a = a} {b = b} {t = t} {u = u} typed e) p w =
        let c = conclusion-depth s w in
        let is = ap (λ (x : Sequent). term_depth x.conclusion) e in
        let same = ap type_depth (type_or-is (app (lam a t) u) b typed) in
        refl-depth scope h (type_or (app (lam a t) u)) (put u t) (omega (arith, c, is, same)) (omega (arith, c, is))
    proof_tree-depth kind js premises given s (rule.sym {one = one} e i) p w =
        of_one-depth deepest_proof
        (λ one. sym_tree symbols scope (equated_type one.1.conclusion) (left_side one.1.conclusion) (right_side one.1.conclusion) one) js one (omega arith)
        (λ j.
        let c = conclusion-depth one p.0 in
        let l = left_side-depth one.conclusion in
        let r = right_side-depth one.conclusion in
        let q = equated_type-depth one.conclusion in
        sym-depth scope h (equated_type one.conclusion) (left_side one.conclusion) (right_side one.conclusion) (j, one) (omega (arith, c, q))
        (omega (arith, c, l)) (omega (arith, c, r)) p.0)
    proof_tree-depth kind js premises given s (rule.trans {one = one} {two = two} e f i) p w =
        of_two-depth deepest_proof
        (λ one two. trans_tree symbols scope (equated_type one.1.conclusion) (left_side one.1.conclusion) (right_side one.1.conclusion)
        (right_side two.1.conclusion) one two) js one two (omega arith) (λ j k.
        let c = conclusion-depth one p.0 in
        let l = left_side-depth one.conclusion in
        let r = right_side-depth one.conclusion in
        let q = equated_type-depth one.conclusion in
        let d = conclusion-depth two p.1.0 in
        let z = right_side-depth two.conclusion in
        trans-depth scope h (equated_type one.conclusion) (left_side one.conclusion) (right_side one.conclusion) (right_side two.conclusion) (j, one) (k, two)
        (omega (arith, c, q)) (omega (arith, c, l)) (omega (arith, c, r)) (omega (arith, d, z)) p.0 p.1.0)
    proof_tree-depth kind js premises given s (rule.prove_hyp {one = one} {two = two} i) p w =
        of_two-depth deepest_proof (λ one two. prove_hyp_tree symbols scope one.1.conclusion one two) js one two (omega arith)
        (λ j k. prove_hyp-depth scope h one.conclusion (j, one) (k, two) p.0 p.1.0)
    proof_tree-depth kind js premises given s (rule.subst {types = pairs} {terms = terms} {one = one} fitting i) p w =
        of_one-depth deepest_proof (λ one. subst_tree symbols scope pairs terms one) js one (omega arith)
        (λ j. subst-depth scope h pairs terms (j, one) fitting p.0
        (All-append (λ t. term_depth (sub pairs terms t) ≤ greatest_depth) one.hypotheses (one.conclusion ∷ [])
        (All-each (λ t. term_depth (sub pairs terms t) ≤ greatest_depth) one.hypotheses
        (λ t k. All-at (λ u. term_depth u ≤ greatest_depth) s.hypotheses (sub pairs terms t) (hypotheses-depth s w)
        (subst (λ l. IsIn l (sub pairs terms t)) (sym (ap (λ (x : Sequent). x.hypotheses) i))
        (IsIn-distinct term_eq term_eq-Decides (map (sub pairs terms) one.hypotheses) (sub pairs terms t)
        (IsIn-map (sub pairs terms) one.hypotheses t k)))))
        (subst (λ t. term_depth t ≤ greatest_depth) (ap (λ (x : Sequent). x.conclusion) i) (conclusion-depth s w), tt {0})))
    proof_tree-depth kind js premises given s (rule.recorded is) p w = omega arith
    proof_tree-depth kind js premises given s (rule.restate {one = one} is e) p w =
        of_one-depth deepest_proof (premise_tree scope) js one (omega arith) (λ j. let l = premise-depth scope h (j, one) p.0 in omega (arith, l))
    proof_tree-depth kind js premises given s (rule.define_const {n = n} {t = t} {a = a} d e) p w =
        let c = conclusion-depth s w in
        let is = ap (λ (x : Sequent). term_depth x.conclusion) e in
        let same = ap type_depth (type_or-is t a d.typed) in
        refl-depth scope h (type_or t) t (omega (arith, c, is, same)) (omega (arith, c, is))
    proof_tree-depth kind js premises given s (rule.define_const_list {pairs = pairs} {one = one} d good e) p w =
        of_one-depth deepest_proof (λ one. premise_tree (constants_scope symbols scope (constants_put pairs)) one) js one (omega arith)
        (λ j. list-depth scope h pairs (j, one) p.0)
    proof_tree-depth kind js premises given s (rule.first_law {names = names} {c = c} {f = f} {one = one} d e) p w =
        of_one-depth deepest_proof (λ one. first_law_tree symbols scope names (type_or (witness one.1.conclusion)) one) js one (omega arith)
        (λ j. first_law-depth scope h names c f one s j d e p.0 w)
    proof_tree-depth kind js premises given s (rule.second_law {names = names} {c = c} {f = f} {one = one} d e) p w =
        of_one-depth deepest_proof (λ one. second_law_tree symbols scope names (type_or (witness one.1.conclusion)) one) js one (omega arith)
        (λ j. second_law-depth scope h names c f one s j d e p.0 w)
    proof_tree-depth kind js premises given s (rule.first_law_free {names = names} {c = c} {f = f} {one = one} d e) p w =
        of_one-depth deepest_proof (λ one. first_law_free_tree symbols scope names (type_or (witness one.1.conclusion)) one) js one (omega arith)
        (λ j. first_free-depth scope h names c f one s j d e p.0 w)
    proof_tree-depth kind js premises given s (rule.second_law_free {names = names} {c = c} {f = f} {one = one} d e) p w =
        of_one-depth deepest_proof (λ one. second_law_free_tree symbols scope names (type_or (witness one.1.conclusion)) one) js one (omega arith)
        (λ j. second_free-depth scope h names c f one s j d e p.0 w)
