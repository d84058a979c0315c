-- The trees of parts in a scope: what a substitution makes of them, and that the operator and the constants of a type definition become them by
-- a head step.
use Rattle.hol_laws.specs.Members.{All-left, All-right}
use Rattle.hol_spec.specs.Terms.{Term, Variable, free_places}
use Rattle.hol_spec.specs.Terms as term
use Rattle.std.specs.List.{AllByRecursion}
use Rattle.std.proofs.Common.{◌≡◌, ◌<◌, ◌≤◌, ap₂, ℕ, zero, suc, List, [], ◌∷◌, ◌++◌, map, length, append_assoc, Bool, true, false, cond, Some, ◌⊎◌, inl, inr, refl, sym, ap, ◌∙◌, arith}
use Rattle.std.proofs.Math.Path.{fun_ext}
use Rattle.std.proofs.lemmas.List.{append-nil, map-append}
use Rattle.hol_spec.specs.Names.{Name}
use Rattle.hol_spec.specs.NameEquality.{name_eq}
use Rattle.hol_laws.specs.NameEqualityLaws.{name_eq-Decides}
use Rattle.hol_spec.specs.Types.{HolType, variable, types_of, type_variables}
use Rattle.hol_laws.specs.TypeLaws.{count-variables}
use Rattle.hol_spec.specs.Substitution.{image, type_arguments}
use Rattle.hol_laws.specs.TermInstances.{substitute-nothing}
use Rattle.hol_laws.specs.GenericInstances.{type_arguments-filled_in, substitute-is}
use Rattle.hol_spec.specs.TermBinding.{loose}
use Rattle.hol_spec.specs.Sequents.{Sequent, type_variables_of, free_variables_of}
use Rattle.hol_spec.specs.Definitions.{TypeNames}
use Rattle.hol_spec.specs.NewTypes.{new_type}
use Rattle.hol_spec.specs.Lists.{IsIn}
use Rattle.hol_laws.specs.Members.{map-twice}
use Rattle.lp_spec.specs.Trees.{Tree, Var, Sym, App, Lam, lift, put_all}
use Rattle.lp_spec.specs.Substitution.{sub}
use Rattle.lp_binding_laws.specs.SubstitutionLaws.{sub-lift}
use Rattle.lp_spec.specs.Modules.{Declaration, applied, abstractions, types, bools, term_of, eq_of, select_symbol}
use Rattle.lp_spec.specs.Conversion.{symbol_definition}
use Rattle.lp_spec.specs.HeadSteps.{given, spine_step, head_step}
use Rattle.lp_check_laws.specs.ShapedParts.{part_of}
use Rattle.translate_spec.specs.Scopes.{SymbolMap, operator_symbol, constant_symbol, generic_type, TypeScope, type_tree, type_trees, Scope, lifted_types, lifted, constant_tree, term_tree, under_type, under_types, filler, unfilled, filled, theorem_tree, inside, under_term, under_terms, under_proof, under_proofs}
use Rattle.translate_spec.specs.ProofTrees.{Premise, predicate, witness, part_tree}
use Rattle.translate_spec.specs.Items.{part_definition_tree}
use Rattle.translate_laws.specs.ScopeLaws.{sub-applied, lift_sub, through, same_scope, type_tree-sub, type_tree-lift, term_tree-sub}
use Rattle.translate_laws.specs.ScopeTyping.{types-agree}
use Rattle.translate_laws.specs.TermScopeLaws.{with_bounds, term_tree-bounds}
use Rattle.translate_laws.specs.PuttingLaws.{put_all-after}
use Rattle.translate_laws.specs.SimultaneousArguments.{after}
use Rattle.translate_laws.specs.ComputingRows.{spine-applied, symbol_step-defined}

-- a filler after a substitution, and under a binder more
filler-sub : (s : ℕ → Tree) (a : Tree) → sub s (filler a) ≡ filler (sub s a)
filler-sub s a i = applied (Sym select_symbol) (sub s a ∷ Lam (term_of (sub s a)) (eq_of (sub-lift s a i) (Var 0) (Var 0)) ∷ [])

filler-lift : (a : Tree) → lift 1 (filler a) ≡ filler (lift 1 a)
filler-lift a = lift_sub (filler a) ∙ filler-sub (λ n. Var (suc n)) a ∙ ap filler (sym (lift_sub a))

-- the parts of a premise |- f t have no loose number
pub record IsShut (one : Sequent) : Type 0 where
  pub predicate : loose (predicate one.conclusion) ≡ 0
  pub witness : loose (witness one.conclusion) ≡ 0

module _ (symbols : SymbolMap) where
  theorem_tree-sub : (s : ℕ → Tree) (scope : Scope) (j : ℕ) (one : Sequent) → sub s (theorem_tree scope j one) ≡ theorem_tree (through s scope) j one
  theorem_tree-sub s scope j one =
      let A = map scope.types (type_variables_of one) in
      let B = map scope.terms (free_variables_of one) in
      let C = map scope.proofs one.hypotheses in
      sub-applied s (Sym j) ((A ++ B) ++ C)
      ∙ ap (applied (Sym j))
      (map-append (sub s) (A ++ B) C ∙ ap (λ l. l ++ map (sub s) C) (map-append (sub s) A B)
      ∙ (λ i. (map-twice (sub s) scope.types (type_variables_of one) i ++ map-twice (sub s) scope.terms (free_variables_of one) i)
      ++ map-twice (sub s) scope.proofs one.hypotheses i))

  -- a part after a substitution, and under a binder more
  pub part_tree-sub : (s : ℕ → Tree) (scope : Scope) (r : ℕ) (c : HolType) (p : Premise)
      → sub s (part_tree symbols scope r c p) ≡ part_tree symbols (through s scope) r c p
  part_tree-sub s scope r c p i =
      part_of r (type_tree-sub symbols s scope.types c i) (term_tree-sub symbols s scope (predicate p.1.conclusion) i)
      (term_tree-sub symbols s scope (witness p.1.conclusion) i) (theorem_tree-sub s scope p.0 p.1 i)

  pub part_tree-lift : (scope : Scope) (r : ℕ) (c : HolType) (p : Premise) → lift 1 (part_tree symbols scope r c p) ≡ part_tree symbols (lifted scope) r c p
  part_tree-lift scope r c p =
      lift_sub (part_tree symbols scope r c p) ∙ part_tree-sub (λ n. Var (suc n)) scope r c p
      ∙ ap (λ w. part_tree symbols w r c p)
      (same_scope (through (λ n. Var (suc n)) scope) (lifted scope) (λ n. sym (lift_sub (scope.types n))) (λ v. sym (lift_sub (scope.terms v)))
      (λ h. sym (lift_sub (scope.proofs h))) (λ k. sym (lift_sub (scope.bounds k))))

  -- a part owes nothing to bound numbers
  part_tree-bounds : (scope : Scope) (bounds : ℕ → Tree) (r : ℕ) (c : HolType) (p : Premise) → IsShut p.1
      → part_tree symbols scope r c p ≡ part_tree symbols (with_bounds bounds scope) r c p
  part_tree-bounds scope bounds r c p shut =
      let f = term_tree-bounds symbols 0 scope bounds (λ k l. absurd (omega (arith, l))) (predicate p.1.conclusion) (omega (arith, shut.predicate)) in
      let w = term_tree-bounds symbols 0 scope bounds (λ k l. absurd (omega (arith, l))) (witness p.1.conclusion) (omega (arith, shut.witness)) in
      λ i. part_of r (type_tree symbols scope.types c) (f i) (w i) (theorem_tree scope p.0 p.1)

  -- in a filled scope
  pub part_tree-filled : (s : ℕ → Tree) (scope other : TypeScope) → ((n : Name) → sub s (scope n) ≡ other n) → (r : ℕ) (c : HolType) (p : Premise) → IsShut p.1
      → sub s (part_tree symbols (filled symbols scope) r c p) ≡ part_tree symbols (filled symbols other) r c p
  part_tree-filled s scope other e r c p shut =
      part_tree-sub s (filled symbols scope) r c p ∙ part_tree-bounds (through s (filled symbols scope)) Var r c p shut
      ∙ ap (λ w. part_tree symbols w r c p)
      (same_scope (with_bounds Var (through s (filled symbols scope))) (filled symbols other) e
      (λ v. filler-sub s (type_tree symbols scope v.1) ∙ ap filler (type_tree-sub symbols s scope v.1 ∙ ap (λ w. type_tree symbols w v.1) (fun_ext e)))
      (λ h. refl) (λ k. refl))

  pub part_tree-lifted : (scope : TypeScope) (r : ℕ) (c : HolType) (p : Premise) → IsShut p.1
      → part_tree symbols (lifted (filled symbols scope)) r c p ≡ part_tree symbols (filled symbols (lifted_types scope)) r c p
  part_tree-lifted scope r c p shut =
      part_tree-bounds (lifted (filled symbols scope)) Var r c p shut
      ∙ ap (λ w. part_tree symbols w r c p)
      (same_scope (with_bounds Var (lifted (filled symbols scope))) (filled symbols (lifted_types scope)) (λ n. refl)
      (λ v. filler-lift (type_tree symbols scope v.1) ∙ ap filler (type_tree-lift symbols scope v.1)) (λ h. refl) (λ k. refl))

-- a term without free variables and loose numbers is alike in scopes that are alike in types
module _ (symbols : SymbolMap) where
  pub closed-agree : (d : ℕ) (scope other : Scope) → scope.types ≡ other.types → ((k : ℕ) → k < d → scope.bounds k ≡ other.bounds k) → (t : Term)
      → AllByRecursion (λ (v : Variable). ⊥) (free_places t) → loose t ≤ d
      → term_tree symbols scope t ≡ term_tree symbols other t
  closed-agree d scope other e b (term.Term.free n t) h l = absurd h.0
  closed-agree d scope other e b (term.Term.bound k) h l = b k (omega (arith, l))
  closed-agree d scope other e b (term.Term.constant n t) h l = ap (λ s. constant_tree symbols s n t) e
  closed-agree d scope other e b (term.Term.app f x) h l =
      ap₂ App (closed-agree d scope other e b f (All-left (λ (v : Variable). ⊥) (free_places f) (free_places x) h) (omega (arith, l)))
      (closed-agree d scope other e b x (All-right (λ (v : Variable). ⊥) (free_places f) (free_places x) h) (omega (arith, l)))
  closed-agree d scope other e b (term.Term.lam a t) h l =
      ap₂ Lam (ap (λ s. term_of (type_tree symbols s a)) e)
      (closed-agree (suc d) (inside scope) (inside other) (ap lifted_types e) inner t h (omega (arith, l)))
    where
      inner : (k : ℕ) → k < suc d → (inside scope).bounds k ≡ (inside other).bounds k
      inner zero l = refl
      inner (suc k) l = ap (lift 1) (b k (omega (arith, l)))

-- where there is no argument for a type variable, it is `bool`
abbrev pub Covers : List Name → TypeScope → Type 0
Covers ns other = (n : Name) → IsIn ns n ⊎ (bools ≡ other n)

pub Covers-lifted : (ns : List Name) (other : TypeScope) → Covers ns other → Covers ns (lifted_types other)
Covers-lifted ns other h n = go (h n)
  where
    go : IsIn ns n ⊎ (bools ≡ other n) → IsIn ns n ⊎ (bools ≡ lift 1 (other n))
    go (inl i) = inl i
    go (inr e) = inr (ap (lift 1) e)

pub Covers-more : (ms ns : List Name) (other : TypeScope) → ((n : Name) → IsIn ms n → IsIn ns n) → Covers ms other → Covers ns other
Covers-more ms ns other f h n = go (h n)
  where
    go : IsIn ms n ⊎ (bools ≡ other n) → IsIn ns n ⊎ (bools ≡ other n)
    go (inl i) = inl (f n i)
    go (inr e) = inr e

-- under the binders of type variables the others are as before
pub Covers-under : (ns : List Name) → Covers ns (under_types ns unfilled)
Covers-under ns n = from ns unfilled refl
  where
    from : (ns : List Name) (scope : TypeScope) → bools ≡ scope n → IsIn ns n ⊎ (bools ≡ under_types ns scope n)
    from [] scope e = inr e
    from (k ∷ ns) scope e = go (name_eq n k) refl (name_eq-Decides n k).0 (from ns (under_type k scope))
      where
        later : IsIn ns n ⊎ (bools ≡ under_types ns (under_type k scope) n) → IsIn (k ∷ ns) n ⊎ (bools ≡ under_types ns (under_type k scope) n)
        later (inl i) = inl (inr i)
        later (inr f) = inr f

        go : (b : Bool) → name_eq n k ≡ b → (b ≡ true → n ≡ k) → (bools ≡ under_type k scope n → IsIn ns n ⊎ (bools ≡ under_types ns (under_type k scope) n))
            → IsIn (k ∷ ns) n ⊎ (bools ≡ under_types ns (under_type k scope) n)
        go true is f rest = inl (inl (f refl))
        go false is f rest = later (rest (ap (lift 1) e ∙ ap (λ b. cond b (Var 0) (lift 1 (scope n))) (sym is)))

-- a definition by a symbol of parts takes as many arguments at once as there are binders
given-part : (r : ℕ) (C F W H : Tree) (other : TypeScope) (ns : List Name) (before rest : List Tree)
    → given before (abstractions (map (λ n. types) ns) (part_of r C F W H)) (map other ns ++ rest)
    ≡ Some (applied (put_all (before ++ map other ns) (part_of r C F W H)) rest)
given-part r C F W H other [] before rest = ap (λ l. Some (applied (put_all l (part_of r C F W H)) rest)) (sym (append-nil before))
given-part r C F W H other (n ∷ ns) before rest =
    given-part r C F W H other ns (before ++ other n ∷ []) rest
    ∙ ap (λ l. Some (applied (put_all l (part_of r C F W H)) rest)) (append_assoc before (other n ∷ []) (map other ns))

variable_trees : (symbols : SymbolMap) (other : TypeScope) (ns : List Name) → type_trees symbols other (types_of (map variable ns)) ≡ map other ns
variable_trees symbols other [] = refl
variable_trees symbols other (n ∷ ns) = ap (λ l. other n ∷ l) (variable_trees symbols other ns)

module _ (m : List Declaration) (symbols : SymbolMap) (c : HolType) (j : ℕ) (one : Sequent) (shut : IsShut one) where
  -- the definition with types put for its binders
  part-put : (ns : List Name) (other : TypeScope) → Covers ns other → (r : ℕ)
      → put_all (map other ns) (part_tree symbols (filled symbols (under_types ns unfilled)) r c (j, one))
      ≡ part_tree symbols (filled symbols other) r c (j, one)
  part-put ns other covers r =
      put_all-after (map other ns) (part_tree symbols (filled symbols (under_types ns unfilled)) r c (j, one))
      ∙ part_tree-filled symbols (after Var (map other ns)) (under_types ns unfilled) other (λ n. types-agree m [] other ns unfilled Var n (covers n)) r c
      (j, one) shut

  -- a symbol that is defined by a part, at types and at what follows them
  part-head : (s : ℕ) (ns : List Name) (r : ℕ) → symbol_definition m s ≡ Some (part_definition_tree symbols ns r c j one) → (other : TypeScope)
      → Covers ns other → (rest : List Tree)
      → spine_step m (applied (Sym s) (map other ns)) rest ≡ Some (applied (part_tree symbols (filled symbols other) r c (j, one)) rest)
  part-head s ns r d other covers rest =
      let outer = filled symbols (under_types ns unfilled) in
      spine-applied m (Sym s) (map other ns) rest
      ∙ symbol_step-defined m s (map other ns ++ rest) (part_definition_tree symbols ns r c j one) d
      ∙ given-part r (type_tree symbols outer.types c) (term_tree symbols outer (predicate one.conclusion)) (term_tree symbols outer (witness one.conclusion))
      (theorem_tree outer j one) other ns [] rest
      ∙ ap (λ t. Some (applied t rest)) (part-put ns other covers r)

  -- the new type
  pub operator-head : (names : TypeNames) (r : ℕ)
      → symbol_definition m (operator_symbol symbols names.operator (length names.variables)) ≡ Some (part_definition_tree symbols names.variables r c j one)
      → (other : TypeScope) → Covers names.variables other → head_step m (type_tree symbols other (new_type names))
      ≡ Some (part_tree symbols (filled symbols other) r c (j, one))
  operator-head names r d other covers =
      ap (λ k. head_step m (applied (Sym (operator_symbol symbols names.operator k)) (type_trees symbols other (types_of (map variable names.variables)))))
      (count-variables names.variables)
      ∙ ap (λ l. head_step m (applied (Sym (operator_symbol symbols names.operator (length names.variables))) l)) (variable_trees symbols other names.variables)
      ∙ part-head (operator_symbol symbols names.operator (length names.variables)) names.variables r d other covers []

  -- a constant at its generic type and at a term
  generic-arguments : (n : Name) (a : HolType) → generic_type symbols n ≡ a → (other : TypeScope)
      → map (type_tree symbols other) (type_arguments (generic_type symbols n) a) ≡ map other (type_variables a)
  generic-arguments n a generic other =
      ap (λ g. map (type_tree symbols other) (type_arguments g a)) generic
      ∙ ap (λ u. map (type_tree symbols other) (type_arguments a u)) (sym (substitute-nothing a) ∙ substitute-is [] a)
      ∙ ap (map (type_tree symbols other)) (type_arguments-filled_in (image []) a)
      ∙ map-twice (type_tree symbols other) (image []) (type_variables a)

  pub constant-part : (n : Name) (a : HolType) (r : ℕ) → generic_type symbols n ≡ a
      → symbol_definition m (constant_symbol symbols n) ≡ Some (part_definition_tree symbols (type_variables a) r c j one)
      → (other : TypeScope) → Covers (type_variables a) other → (y : Tree) → head_step m (App (constant_tree symbols other n a) y)
      ≡ Some (App (part_tree symbols (filled symbols other) r c (j, one)) y)
  constant-part n a r generic d other covers y =
      ap (λ l. head_step m (App (applied (Sym (constant_symbol symbols n)) l) y)) (generic-arguments n a generic other)
      ∙ part-head (constant_symbol symbols n) (type_variables a) r d other covers (y ∷ [])

-- they are covered under binders of terms and of proofs too
pub Covers-terms : (ns : List Name) (vs : List Variable) (scope : Scope) → Covers ns scope.types → Covers ns (under_terms vs scope).types
Covers-terms ns [] scope h = h
Covers-terms ns (v ∷ vs) scope h = Covers-terms ns vs (under_term v scope) (Covers-lifted ns scope.types h)

pub Covers-proofs : (ns : List Name) (hs : List Term) (scope : Scope) → Covers ns scope.types → Covers ns (under_proofs hs scope).types
Covers-proofs ns [] scope h = h
Covers-proofs ns (p ∷ ps) scope h = Covers-proofs ns ps (under_proof p scope) (Covers-lifted ns scope.types h)
