-- The tree of a sequent stands for its closed form, over all symbols that mean what they stand for.
use Rattle.std.proofs.Common.{◌≡◌, ℕ, zero, suc, ◌+◌, ◌<◌, ◌≤◌, List, [], ◌∷◌, ◌++◌, map, length, Bool, true, false, cond, Some, inl, inr, ⊎_elim, refl, sym, ap, subst, ◌∙◌, arith}
use Rattle.std.specs.Prelude.{replicate}
use Rattle.std.specs.Option.{unwrap_or}
use Rattle.std.specs.Bool.{Decides}
use Rattle.std.specs.List.{AllByRecursion, flat_map, position_or_len}
use Rattle.std.specs.Map.{lookup}
use Rattle.hol_spec.specs.Names.{Name}
use Rattle.hol_spec.specs.NameEquality.{name_eq}
use Rattle.hol_laws.specs.NameEqualityLaws.{name_eq-Decides}
use Rattle.hol_spec.specs.Types as type
use Rattle.hol_spec.specs.Types.{HolType, HolTypes, count, variable_places, variable_places_of_all, type_variables}
use Rattle.hol_laws.specs.ListLaws.{distinct-IsDistinct}
use Rattle.hol_spec.specs.Substitution.{Instance, type_arguments}
use Rattle.hol_spec.specs.Terms as term
use Rattle.hol_spec.specs.Terms.{Term, Variable, variable_eq, type_variable_places, free_places, HasType}
use Rattle.hol_laws.specs.TermLaws.{variable_eq-Decides}
use Rattle.hol_spec.specs.TermBinding.{loose}
use Rattle.hol_spec.specs.Limits.{SequentWithin}
use Rattle.hol_spec.specs.Sequents.{Sequent, IsSequent, terms_of, type_variables_of, free_variables_of}
use Rattle.hol_spec.specs.ClosedForm.{ClosedType, ClosedTypes, close_type, close_types, close_term, closed_form}
use Rattle.lp_spec.specs.Trees.{Tree, Var, lift}
use Rattle.lp_spec.specs.Modules.{Declaration, products, types, bools, term_of, proof_of}
use Rattle.translate_spec.specs.TypeEnc.{parameter, Place, place, depth_of, inside, StandsForType, StandForTypes}
use Rattle.translate_laws.specs.ListedScopes.{parameters}
use Rattle.translate_spec.specs.OperatorMeaning.{MeansOperator}
use Rattle.translate_spec.specs.ConstantMeaning.{MeansConstant, argument, instance_of, instances_of}
use Rattle.translate_spec.specs.Enc.{StandsForConstant, StandsForTerm, StandForVariables, StandForHypotheses, Enc}
use Rattle.hol_spec.specs.Lists.{IsIn}
use Rattle.hol_laws.specs.Members.{IsIn-left, IsIn-right, IsIn-either, IsIn-distinct, IsIn-distinct_of, All-each, All-at, All-left, All-right, All-append, All-mapped}
use Rattle.hol_laws.specs.GenericInstances.{filled_in, filled_in_all, Instance-filled_in, type_arguments-filled_in}
use Rattle.translate_spec.specs.Scopes.{SymbolMap, operator_symbol, constant_symbol, generic_type, TypeScope, type_tree, type_trees, Scope, constant_tree, term_tree, under_term, under_proof, under_proofs, term_domains, proof_domains, scope_of_types, scope_of_terms, scope_of, sequent_tree}
use Rattle.translate_spec.specs.Scopes as scopes
use Rattle.translate_laws.specs.TheoremTyping.{IsFormula, HasInstances, term-IsFormula}
use Rattle.translate_laws.specs.ToldParameters.{TypesTold, TypesTold-lifted, TypesTold-own, TypesTold-terms, TermsTold, TermsTold-lifted, TermsTold-own, parameter-lift}
use Rattle.translate_laws.specs.ScopeTyping.{length-type_trees}
use Rattle.hol_laws.specs.PositionLaws.{position-cons}
use Rattle.hol_laws.specs.RenamedSequents.{free_variables-known}
use Rattle.std.proofs.lemmas.List.{length-map}
use Rattle.hol_proof_laws.specs.SymbolGrowth.{symmetric}

-- where the element of a list stands in it, and what its parameters tell
pub record At {A : Type 0} (same : A → A → Bool) (d from : ℕ) (xs : List A) (y : A) : Type 0 where
  pub within : position_or_len (same y) xs < length xs
  pub told : lookup (same y) (parameters d from xs) ≡ Some (parameter d (from + position_or_len (same y) xs))

pub told-at : {A : Type 0} (same : A → A → Bool) → ((x y : A) → Decides (same x y) (x ≡ y)) → (d from : ℕ) (xs : List A) (y : A) → IsIn xs y
    → At same d from xs y
told-at same decides d from [] y k = absurd k
told-at same decides d from (x ∷ xs) y k = go (same y x) refl (decides y x).1 (λ i. told-at same decides d (suc from) xs y i) k
  where
    go : (b : Bool) → same y x ≡ b → (y ≡ x → same y x ≡ true) → (IsIn xs y → At same d (suc from) xs y) → IsIn (x ∷ xs) y → At same d from (x ∷ xs) y
    go true e f later k =
        let p : position_or_len (same y) (x ∷ xs) ≡ 0 = position-cons (same y) x xs true e in
        let z : from ≡ from + position_or_len (same y) (x ∷ xs) = omega (arith, p) in
        record {
          within = omega (arith, p);
          told =
              ap (λ b. cond b (Some (parameter d from)) (lookup (same y) (parameters d (suc from) xs))) e ∙ ap (λ i. Some (parameter d i)) z;
        }
    go false e f later (inl is) = absurd (let yes = f is in cc)
    go false e f later (inr i) =
        let r = later i in
        let p : position_or_len (same y) (x ∷ xs) ≡ suc (position_or_len (same y) xs) = position-cons (same y) x xs false e in
        let z : suc from + position_or_len (same y) xs ≡ from + position_or_len (same y) (x ∷ xs) = omega (arith, p) in
        record {
          within = omega (arith, p, r.within);
          told =
              ap (λ b. cond b (Some (parameter d from)) (lookup (same y) (parameters d (suc from) xs))) e ∙ r.told ∙ ap (λ i. Some (parameter d i)) z;
        }

-- a list of types as closed types
abbrev closed_list : List Name → List HolType → ClosedTypes
closed_list names [] = ClosedTypes.none
closed_list names (t ∷ ts) = ClosedTypes.more (close_type names t) (closed_list names ts)

-- the argument for a variable is what is filled in for it
argument-at : (names vs : List Name) (f : Name → HolType) (n : Name) → IsIn vs n
    → argument (closed_list names (map f vs)) (position_or_len (name_eq n) vs) ≡ close_type names (f n)
argument-at names [] f n k = absurd k
argument-at names (v ∷ vs) f n k = go (name_eq n v) refl (name_eq-Decides n v) (λ i. argument-at names vs f n i) k
  where
    go : (b : Bool) → name_eq n v ≡ b → Decides (name_eq n v) (n ≡ v)
        → (IsIn vs n → argument (closed_list names (map f vs)) (position_or_len (name_eq n) vs) ≡ close_type names (f n)) → IsIn (v ∷ vs) n
        → argument (closed_list names (map f (v ∷ vs))) (position_or_len (name_eq n) (v ∷ vs)) ≡ close_type names (f n)
    go true e d later k = ap (argument (closed_list names (map f (v ∷ vs)))) (position-cons (name_eq n) v vs true e) ∙ ap (λ u. close_type names (f u))
        (sym (d.0 e))
    go false e d later (inl is) = absurd (let yes = d.1 is in cc)
    go false e d later (inr i) = ap (argument (closed_list names (map f (v ∷ vs)))) (position-cons (name_eq n) v vs false e) ∙ later i

module _ (names vs : List Name) (f : Name → HolType) where
  mutual
    -- the closed form of an instance is the instance of the closed form
    instance-closed : (g : HolType) → AllByRecursion (IsIn vs) (variable_places g)
        → close_type names (filled_in f g) ≡ instance_of (closed_list names (map f vs)) (close_type vs g)
    instance-closed (type.HolType.variable n) h = sym (argument-at names vs f n h.0)
    instance-closed (type.HolType.operator n ts) h = ap (ClosedType.operator n) (instances-closed ts h)

    instances-closed : (gs : HolTypes) → AllByRecursion (IsIn vs) (variable_places_of_all gs)
        → close_types names (filled_in_all f gs) ≡ instances_of (closed_list names (map f vs)) (close_types vs gs)
    instances-closed type.HolTypes.none h = refl
    instances-closed (type.HolTypes.more g gs) h =
        λ i. ClosedTypes.more (instance-closed g (All-left (IsIn vs) (variable_places g) (variable_places_of_all gs) h) i)
        (instances-closed gs (All-right (IsIn vs) (variable_places g) (variable_places_of_all gs) h) i)

-- the symbols of a type and of a term mean what they stand for
abbrev mutual
  pub TypeMeant : List Declaration → SymbolMap → HolType → Type 0
  TypeMeant d symbols (type.HolType.variable n) = Unit {0}
  TypeMeant d symbols (type.HolType.operator n ts) = MeansOperator d (operator_symbol symbols n (count ts)) n (count ts) × TypesMeant d symbols ts

  pub TypesMeant : List Declaration → SymbolMap → HolTypes → Type 0
  TypesMeant d symbols type.HolTypes.none = Unit {0}
  TypesMeant d symbols (type.HolTypes.more t ts) = TypeMeant d symbols t × TypesMeant d symbols ts

pub record ConstantMeant (d : List Declaration) (symbols : SymbolMap) (n : Name) (t : HolType) : Type 0 where
  pub means : MeansConstant d (constant_symbol symbols n) n (length (type_variables (generic_type symbols n)))
      (close_type (type_variables (generic_type symbols n)) (generic_type symbols n))
  pub instance : Instance (generic_type symbols n) t
  pub ty : TypeMeant d symbols t

abbrev pub TermMeant : List Declaration → SymbolMap → Term → Type 0
TermMeant d symbols (term.Term.free n t) = TypeMeant d symbols t
TermMeant d symbols (term.Term.bound k) = Unit {0}
TermMeant d symbols (term.Term.constant n t) = ConstantMeant d symbols n t
TermMeant d symbols (term.Term.app f x) = TermMeant d symbols f × TermMeant d symbols x
TermMeant d symbols (term.Term.lam t b) = TypeMeant d symbols t × TermMeant d symbols b

module _ (d : List Declaration) (symbols : SymbolMap) (names : List Name) where
  -- what stands for each of these type variables is the binder of its place
  abbrev pub TypesPlaced : Place → TypeScope → Type 0
  TypesPlaced at scope = (n : Name) → IsIn names n → (position_or_len (name_eq n) names < at.type_variables)
      × (scope n ≡ parameter (depth_of at) (position_or_len (name_eq n) names))

  mutual
    pub type_stands : (at : Place) (scope : TypeScope) → TypesPlaced at scope → (t : HolType) → TypeMeant d symbols t
        → AllByRecursion (IsIn names) (variable_places t) → StandsForType d (close_type names t) at (type_tree symbols scope t)
    type_stands at scope p (type.HolType.variable n) m h = p n h.0
    type_stands at scope p (type.HolType.operator n ts) m h = (
      operator_symbol symbols n (count ts),
      type_trees symbols scope ts,
      subst (MeansOperator d (operator_symbol symbols n (count ts)) n) (length-type_trees symbols scope ts) m.0,
      types_stand at scope p ts m.1 h,
      refl,
    )

    types_stand : (at : Place) (scope : TypeScope) → TypesPlaced at scope → (ts : HolTypes) → TypesMeant d symbols ts
        → AllByRecursion (IsIn names) (variable_places_of_all ts) → StandForTypes d (close_types names ts) at (type_trees symbols scope ts)
    types_stand at scope p type.HolTypes.none m h = tt
    types_stand at scope p (type.HolTypes.more t ts) m h = (
      type_stands at scope p t m.0 (All-left (IsIn names) (variable_places t) (variable_places_of_all ts) h),
      types_stand at scope p ts m.1 (All-right (IsIn names) (variable_places t) (variable_places_of_all ts) h),
    )

  mutual
    -- the types filled in one
    meant-filled_in : (f : Name → HolType) (t : HolType) (n : Name) → IsIn (variable_places t) n → TypeMeant d symbols (filled_in f t)
        → AllByRecursion (IsIn names) (variable_places (filled_in f t)) → TypeMeant d symbols (f n) × AllByRecursion (IsIn names) (variable_places (f n))
    meant-filled_in f (type.HolType.variable k) n (inl e) m h =
        subst (λ k. TypeMeant d symbols (f k) × AllByRecursion (IsIn names) (variable_places (f k))) (sym e) (m, h)
    meant-filled_in f (type.HolType.variable k) n (inr i) m h = absurd i
    meant-filled_in f (type.HolType.operator k ts) n i m h = all_meant-filled_in f ts n i m.1 h

    all_meant-filled_in : (f : Name → HolType) (ts : HolTypes) (n : Name) → IsIn (variable_places_of_all ts) n → TypesMeant d symbols (filled_in_all f ts)
        → AllByRecursion (IsIn names) (variable_places_of_all (filled_in_all f ts))
        → TypeMeant d symbols (f n) × AllByRecursion (IsIn names) (variable_places (f n))
    all_meant-filled_in f type.HolTypes.none n i m h = absurd i
    all_meant-filled_in f (type.HolTypes.more t ts) n i m h =
        ⊎_elim
        (λ l. meant-filled_in f t n l m.0 (All-left (IsIn names) (variable_places (filled_in f t)) (variable_places_of_all (filled_in_all f ts)) h))
        (λ r. all_meant-filled_in f ts n r m.1 (All-right (IsIn names) (variable_places (filled_in f t)) (variable_places_of_all (filled_in_all f ts)) h))
        (IsIn-either (variable_places t) (variable_places_of_all ts) n i)

  list_stands : (at : Place) (scope : TypeScope) → TypesPlaced at scope → (ts : List HolType)
      → AllByRecursion (λ t. TypeMeant d symbols t × AllByRecursion (IsIn names) (variable_places t)) ts
      → StandForTypes d (closed_list names ts) at (map (type_tree symbols scope) ts)
  list_stands at scope p [] h = tt
  list_stands at scope p (t ∷ ts) h = (type_stands at scope p t h.0.0 h.0.1, list_stands at scope p ts h.1)

  constant_stands : (at : Place) (scope : TypeScope) → TypesPlaced at scope → (n : Name) (t : HolType) → ConstantMeant d symbols n t
      → AllByRecursion (IsIn names) (variable_places t) → StandsForConstant d n (close_type names t) at (constant_tree symbols scope n t)
  constant_stands at scope p n t m h =
      let g = generic_type symbols n in
      let vs = type_variables g in
      let w = Instance-filled_in g t m.instance in
      let own : type_arguments g t ≡ map w.0 vs = ap (type_arguments g) (sym w.1) ∙ type_arguments-filled_in w.0 g in
      let meant : TypeMeant d symbols (filled_in w.0 g) = subst (TypeMeant d symbols) (sym w.1) m.ty in
      let known : AllByRecursion (IsIn names) (variable_places (filled_in w.0 g)) = subst (λ u. AllByRecursion (IsIn names) (variable_places u)) (sym w.1) h in
      let arguments : AllByRecursion (λ u. TypeMeant d symbols u × AllByRecursion (IsIn names) (variable_places u)) (map w.0 vs) =
      All-mapped (λ u. TypeMeant d symbols u × AllByRecursion (IsIn names) (variable_places u)) w.0 vs
      (All-each _ vs (λ k i. meant-filled_in w.0 g k (IsIn-distinct_of name_eq name_eq-Decides (variable_places g) k i) meant known)) in
      let size : length vs ≡ length (map (type_tree symbols scope) (type_arguments g t)) =
      sym (length-map (type_arguments g t) (type_tree symbols scope) ∙ ap length own ∙ length-map vs w.0) in
      record {
        symbol = constant_symbol symbols n;
        args = map (type_tree symbols scope) (type_arguments g t);
        generic = close_type vs g;
        means = subst (λ k. MeansConstant d (constant_symbol symbols n) n k (close_type vs g)) size m.means;
        arguments = closed_list names (map w.0 vs);
        args_stand = subst (λ ts. StandForTypes d (closed_list names (map w.0 vs)) at (map (type_tree symbols scope) ts)) (sym own)
            (list_stands at scope p (map w.0 vs) arguments);
        is_instance = ap (close_type names) (sym w.1) ∙ instance-closed names vs w.0 g
            (All-each _ (variable_places g) (λ k i. IsIn-distinct name_eq name_eq-Decides (variable_places g) k i));
        tree = refl;
      }

  module _ (variables : List Variable) where
    -- and what stands for each of these free variables, and for the numbers of a term's own binders
    pub record Placed (at : Place) (scope : Scope) : Type 0 where
      pub types : TypesPlaced at scope.types
      pub terms : (v : Variable) → IsIn variables v
          → (position_or_len (variable_eq v) variables < at.free_variables)
          × (scope.terms v ≡ parameter (depth_of at) (at.type_variables + position_or_len (variable_eq v) variables))
      pub bounds : (k : ℕ) → k < at.binders → scope.bounds k ≡ Var k

    Placed-inside : (at : Place) (scope : Scope) → Placed at scope → Placed (inside at) (scopes.inside scope)
    Placed-inside at scope p = record {
      types = λ n i. let h = p.types n i in (
        h.0,
        ap (lift 1) h.1 ∙ parameter-lift (depth_of at) (position_or_len (name_eq n) names) (omega (arith, h.0))
            ∙ ap (λ k. parameter k (position_or_len (name_eq n) names)) deeper,
      );
      terms = λ v i. let h = p.terms v i in (
        h.0,
        ap (lift 1) h.1 ∙ parameter-lift (depth_of at) (at.type_variables + position_or_len (variable_eq v) variables) (omega (arith, h.0))
            ∙ ap (λ k. parameter k (at.type_variables + position_or_len (variable_eq v) variables)) deeper,
      );
      bounds = go;
    }
      where
        deeper : suc (depth_of at) ≡ depth_of (inside at)
        deeper = omega arith

        go : (k : ℕ) → k < suc at.binders → (scopes.inside scope).bounds k ≡ Var k
        go zero l = refl
        go (suc k) l = ap (lift 1) (p.bounds k (omega (arith, l))) ∙ grind arith

    pub term_stands : (at : Place) (scope : Scope) → Placed at scope → (t : Term) → TermMeant d symbols t → AllByRecursion (IsIn names) (type_variable_places t)
        → AllByRecursion (IsIn variables) (free_places t) → loose t ≤ at.binders
        → StandsForTerm d (close_term names variables t) at (term_tree symbols scope t)
    term_stands at scope p (term.Term.free n t) m h k l = p.terms (n, t) k.0
    term_stands at scope p (term.Term.bound j) m h k l = let w : j < at.binders = omega (arith, l) in (w, p.bounds j w)
    term_stands at scope p (term.Term.constant n t) m h k l = constant_stands at scope.types p.types n t m h
    term_stands at scope p (term.Term.app f x) m h k l = (
      term_tree symbols scope f,
      term_tree symbols scope x,
      term_stands at scope p f m.0 (All-left (IsIn names) (type_variable_places f) (type_variable_places x) h)
          (All-left (IsIn variables) (free_places f) (free_places x) k) (omega (arith, l)),
      term_stands at scope p x m.1 (All-right (IsIn names) (type_variable_places f) (type_variable_places x) h)
          (All-right (IsIn variables) (free_places f) (free_places x) k) (omega (arith, l)),
      refl,
    )
    term_stands at scope p (term.Term.lam t b) m h k l = (
      type_tree symbols scope.types t,
      term_tree symbols (scopes.inside scope) b,
      type_stands at scope.types p.types t m.0 (All-left (IsIn names) (variable_places t) (type_variable_places b) h),
      term_stands (inside at) (scopes.inside scope) (Placed-inside at scope p) b m.1 (All-right (IsIn names) (variable_places t) (type_variable_places b) h) k
          (omega (arith, l)),
      refl,
    )

-- the free variables of a term whose symbols mean what they stand for have such types
free_types-meant : (d : List Declaration) (symbols : SymbolMap) (t : Term) → TermMeant d symbols t
    → AllByRecursion (λ (v : Variable). TypeMeant d symbols v.1) (free_places t)
free_types-meant d symbols (term.Term.free n t) h = (h, tt {0})
free_types-meant d symbols (term.Term.bound k) h = tt
free_types-meant d symbols (term.Term.constant n t) h = tt
free_types-meant d symbols (term.Term.app f x) h =
    All-append _ (free_places f) (free_places x) (free_types-meant d symbols f h.0) (free_types-meant d symbols x h.1)
free_types-meant d symbols (term.Term.lam t b) h = free_types-meant d symbols b h.1

all_free_types-meant : (d : List Declaration) (symbols : SymbolMap) (ts : List Term) → AllByRecursion (TermMeant d symbols) ts
    → AllByRecursion (λ (v : Variable). TypeMeant d symbols v.1) (flat_map free_places ts)
all_free_types-meant d symbols [] h = tt
all_free_types-meant d symbols (t ∷ ts) h = All-append _ (free_places t) (flat_map free_places ts) (free_types-meant d symbols t h.0)
    (all_free_types-meant d symbols ts h.1)

-- the trees of the domains
abbrev variable_trees : SymbolMap → List Variable → Scope → List Tree
variable_trees symbols [] scope = []
variable_trees symbols (v ∷ vs) scope = type_tree symbols scope.types v.1 ∷ variable_trees symbols vs (under_term v scope)

abbrev formula_trees : SymbolMap → List Term → Scope → List Tree
formula_trees symbols [] scope = []
formula_trees symbols (h ∷ hs) scope = term_tree symbols scope h ∷ formula_trees symbols hs (under_proof h scope)

term_domains-are : (symbols : SymbolMap) (vs : List Variable) (scope : Scope) → term_domains symbols vs scope ≡ map term_of (variable_trees symbols vs scope)
term_domains-are symbols [] scope = refl
term_domains-are symbols (v ∷ vs) scope = ap (λ l. term_of (type_tree symbols scope.types v.1) ∷ l) (term_domains-are symbols vs (under_term v scope))

proof_domains-are : (symbols : SymbolMap) (hs : List Term) (scope : Scope) → proof_domains symbols hs scope ≡ map proof_of (formula_trees symbols hs scope)
proof_domains-are symbols [] scope = refl
proof_domains-are symbols (h ∷ hs) scope = ap (λ l. proof_of (term_tree symbols scope h) ∷ l) (proof_domains-are symbols hs (under_proof h scope))

pub types-are : (ns : List Name) → map (λ n. types) ns ≡ replicate (length ns) types
types-are [] = refl
types-are (n ∷ ns) = ap (λ l. types ∷ l) (types-are ns)

length-variable_trees : (symbols : SymbolMap) (vs : List Variable) (scope : Scope) → length vs ≡ length (variable_trees symbols vs scope)
length-variable_trees symbols [] scope = refl
length-variable_trees symbols (v ∷ vs) scope = ap suc (length-variable_trees symbols vs (under_term v scope))

length-formula_trees : (symbols : SymbolMap) (hs : List Term) (scope : Scope) → length hs ≡ length (formula_trees symbols hs scope)
length-formula_trees symbols [] scope = refl
length-formula_trees symbols (h ∷ hs) scope = ap suc (length-formula_trees symbols hs (under_proof h scope))

module _ (d : List Declaration) (symbols : SymbolMap) (names : List Name) where
  pub placed-types : (at : Place) (scope : TypeScope) → at.type_variables ≡ length names → TypesTold names (depth_of at) scope
      → TypesPlaced d symbols names at scope
  placed-types at scope many told n k =
      let t = told-at name_eq name_eq-Decides (depth_of at) 0 names n k in
      let z : 0 + position_or_len (name_eq n) names ≡ position_or_len (name_eq n) names = omega arith in
      (omega (arith, many, t.within), told n ∙ ap (λ o. unwrap_or o bools) t.told ∙ ap (parameter (depth_of at)) z)

  variables_stand : (vs : List Variable) (m : ℕ) (scope : Scope) → TypesTold names (length names + m) scope.types
      → AllByRecursion (λ (v : Variable). TypeMeant d symbols v.1) vs → AllByRecursion (λ (v : Variable). AllByRecursion (IsIn names) (variable_places v.1)) vs
      → StandForVariables d (map (λ (v : Variable). close_type names v.1) vs) (length names) m (variable_trees symbols vs scope)
  variables_stand [] m scope told meant known = tt
  variables_stand (v ∷ vs) m scope told meant known =
      let n = length names in
      let own : n + m ≡ depth_of (place n m 0 0) = omega arith in
      let next : suc (n + m) ≡ n + suc m = omega arith in
      let low : n ≤ n + m = omega arith in (
        type_stands d symbols names (place n m 0 0) scope.types
            (placed-types (place n m 0 0) scope.types refl (subst (λ k. TypesTold names k scope.types) own told)) v.1 meant.0 known.0,
        variables_stand vs (suc m) (under_term v scope)
            (subst (λ k. TypesTold names k (under_term v scope).types) next (TypesTold-lifted names (n + m) scope.types low told)) meant.1 known.1,
      )

  module _ (variables : List Variable) where
    placed-scope : (l : ℕ) (scope : Scope) → TypesTold names (length names + length variables + l) scope.types
        → TermsTold names variables (length names + length variables + l) scope
        → Placed d symbols names variables (place (length names) (length variables) l 0) scope
    placed-scope l scope told terms = record {
      types = placed-types at scope.types refl (subst (λ k. TypesTold names k scope.types) own told);
      terms = λ v k. let t = told-at variable_eq variable_eq-Decides (depth_of at) (length names) variables v k in (
        t.within,
        terms v k bools ∙ ap (λ j. unwrap_or (lookup (variable_eq v) (parameters j (length names) variables)) bools) own ∙ ap (λ o. unwrap_or o bools) t.told,
      );
      bounds = λ k none. absurd (omega (arith, none));
    }
      where
        at : Place
        at = place (length names) (length variables) l 0

        own : length names + length variables + l ≡ length names + length variables + l + 0
        own = omega arith

    formula_stands : (l : ℕ) (scope : Scope) → TypesTold names (length names + length variables + l) scope.types
        → TermsTold names variables (length names + length variables + l) scope → (t : Term) → TermMeant d symbols t
        → IsFormula symbols (IsIn names) (IsIn variables) t
        → StandsForTerm d (close_term names variables t) (place (length names) (length variables) l 0) (term_tree symbols scope t)
    formula_stands l scope told terms t m f = term_stands d symbols names variables (place (length names) (length variables) l 0) scope
        (placed-scope l scope told terms) t m f.type_variables f.free_variables f.closed

    under-types : (l : ℕ) (h : Term) (scope : Scope) → TypesTold names (length names + length variables + l) scope.types
        → TypesTold names (length names + length variables + suc l) (under_proof h scope).types
    under-types l h scope told =
        let low : length names ≤ length names + length variables + l = omega arith in
        let next : suc (length names + length variables + l) ≡ length names + length variables + suc l = omega arith in
        subst (λ k. TypesTold names k (under_proof h scope).types) next (TypesTold-lifted names (length names + length variables + l) scope.types low told)

    under-terms : (l : ℕ) (h : Term) (scope : Scope) → TermsTold names variables (length names + length variables + l) scope
        → TermsTold names variables (length names + length variables + suc l) (under_proof h scope)
    under-terms l h scope terms =
        let low : length names + length variables ≤ length names + length variables + l = omega arith in
        let next : suc (length names + length variables + l) ≡ length names + length variables + suc l = omega arith in
        subst (λ k. TermsTold names variables k (under_proof h scope)) next
        (TermsTold-lifted names variables (length names + length variables + l) scope (under_proof h scope) low terms (λ v. refl))

    hypotheses_stand : (hs : List Term) (l : ℕ) (scope : Scope) → TypesTold names (length names + length variables + l) scope.types
        → TermsTold names variables (length names + length variables + l) scope
        → AllByRecursion (TermMeant d symbols) hs → AllByRecursion (IsFormula symbols (IsIn names) (IsIn variables)) hs
        → StandForHypotheses d (map (close_term names variables) hs) (length names) (length variables) l (formula_trees symbols hs scope)
    hypotheses_stand [] l scope told terms m f = tt
    hypotheses_stand (h ∷ hs) l scope told terms m f = (
      formula_stands l scope told terms h m.0 f.0,
      hypotheses_stand hs (suc l) (under_proof h scope) (under-types l h scope told) (under-terms l h scope terms) m.1 f.1,
    )

    conclusion_stands : (hs : List Term) (l : ℕ) (scope : Scope) (c : Term) → TypesTold names (length names + length variables + l) scope.types
        → TermsTold names variables (length names + length variables + l) scope → TermMeant d symbols c → IsFormula symbols (IsIn names) (IsIn variables) c
        → StandsForTerm d (close_term names variables c) (place (length names) (length variables) (l + length hs) 0)
        (term_tree symbols (under_proofs hs scope) c)
    conclusion_stands [] l scope c told terms m f =
        let z : l ≡ l + 0 = omega arith in
        subst (λ k. StandsForTerm d (close_term names variables c) (place (length names) (length variables) k 0) (term_tree symbols scope c)) z
        (formula_stands l scope told terms c m f)
    conclusion_stands (h ∷ hs) l scope c told terms m f =
        let z : suc l + length hs ≡ l + suc (length hs) = omega arith in
        subst (λ k. StandsForTerm d (close_term names variables c) (place (length names) (length variables) k 0)
        (term_tree symbols (under_proofs (h ∷ hs) scope) c)) z
        (conclusion_stands hs (suc l) (under_proof h scope) c (under-types l h scope told) (under-terms l h scope terms) m f)

-- The tree of a sequent stands for its closed form
pub sequent_tree-Enc : (d : List Declaration) (symbols : SymbolMap) (s : Sequent) → IsSequent s → SequentWithin s → HasInstances symbols s
    → AllByRecursion (TermMeant d symbols) (terms_of s) → Enc d (closed_form s) (sequent_tree symbols s)
sequent_tree-Enc d symbols s is within instances meant =
    let names = type_variables_of s in
    let variables = free_variables_of s in
    let n = length names in
    let inner = scope_of_types symbols s in
    let outer = scope_of_terms symbols s in
    let trees = variable_trees symbols variables inner in
    let formulas = formula_trees symbols s.hypotheses outer in
    let l : n ≤ n = omega arith in
    let none : n ≡ n + 0 = omega arith in
    let z : n + length variables ≡ n + length variables + 0 = omega arith in
    let first = TypesTold-own names (distinct-IsDistinct name_eq (symmetric name_eq name_eq-Decides) (flat_map type_variable_places (terms_of s))) in
    let second = subst (λ k. TypesTold names k outer.types) z (TypesTold-terms names variables n inner l first) in
    let terms = subst (λ k. TermsTold names variables k outer) z
    (TermsTold-own names variables inner (distinct-IsDistinct variable_eq (symmetric variable_eq variable_eq-Decides) (flat_map free_places (terms_of s))))
    in
    let hypotheses_meant = All-left (TermMeant d symbols) s.hypotheses (s.conclusion ∷ []) meant in
    let conclusion_meant = (All-right (TermMeant d symbols) s.hypotheses (s.conclusion ∷ []) meant).0 in
    let formulas_are : AllByRecursion (IsFormula symbols (IsIn names) (IsIn variables)) s.hypotheses =
    All-each _ s.hypotheses
    (λ h i. term-IsFormula s symbols h (IsIn-left s.hypotheses (s.conclusion ∷ []) h i) (All-at _ s.hypotheses h instances.hypotheses i)
    (All-at _ s.hypotheses h is.hypotheses i)) in
    let conclusion_is = term-IsFormula s symbols s.conclusion (IsIn-right s.hypotheses (s.conclusion ∷ []) s.conclusion (inl refl)) instances.conclusion
    is.conclusion in
    let variables_meant : AllByRecursion (λ (v : Variable). TypeMeant d symbols v.1) variables =
    All-each _ variables
    (λ v i. All-at _ (flat_map free_places (terms_of s)) v (all_free_types-meant d symbols (terms_of s) meant)
    (IsIn-distinct_of variable_eq variable_eq-Decides (flat_map free_places (terms_of s)) v i)) in
    let many = length-variable_trees symbols variables inner in
    let more = length-formula_trees symbols s.hypotheses outer in
    let e = types-are names in
    let f = term_domains-are symbols variables inner in
    let g = proof_domains-are symbols s.hypotheses outer in
    let zero_more : 0 + length s.hypotheses ≡ length formulas = omega (arith, more) in
    let closed_conclusion = close_term names variables s.conclusion in
    let conclusion = term_tree symbols (scope_of symbols s) s.conclusion in
    record {
      closed = record { sequent = s; is_sequent = is; within = within; closed = refl };
      variables = trees;
      hypotheses = formulas;
      conclusion = conclusion;
      product = λ i. products (e i ++ f i ++ g i) (proof_of conclusion);
      variables_stand = variables_stand d symbols names variables 0 inner (subst (λ k. TypesTold names k inner.types) none first) variables_meant
          (free_variables-known s);
      hypotheses_stand = subst (λ m. StandForHypotheses d (map (close_term names variables) s.hypotheses) n m 0 formulas) many
          (hypotheses_stand d symbols names variables s.hypotheses 0 outer second terms hypotheses_meant formulas_are);
      conclusion_stands = subst (λ m. StandsForTerm d closed_conclusion (place n m (length formulas) 0) conclusion) many
          (subst (λ k. StandsForTerm d closed_conclusion (place n (length variables) k 0) conclusion) zero_more
          (conclusion_stands d symbols names variables s.hypotheses 0 outer s.conclusion second terms conclusion_meant conclusion_is));
    }
