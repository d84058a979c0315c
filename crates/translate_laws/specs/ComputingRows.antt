-- The rows of betaConv, defineConst and defineConstList: reflexivity proves an equation whose left side becomes its right side by a head step.
use Rattle.std.proofs.Common.{◌≡◌, ℕ, zero, suc, false, List, [], ◌∷◌, ◌++◌, append_assoc, map, Some, None, inl, refl, sym, ap, subst, ◌∙◌, arith}
use Rattle.std.proofs.lemmas.List.{append-nil}
use Rattle.std.specs.List.{AllByRecursion}
use Rattle.hol_spec.specs.Names.{Name}
use Rattle.hol_spec.specs.Types.{HolType, type_variables}
use Rattle.hol_spec.specs.Primitives.{bool, equality_name, equality_type}
use Rattle.hol_spec.specs.Substitution.{substitute}
use Rattle.hol_laws.specs.TermInstances.{substitute-nothing}
use Rattle.hol_spec.specs.Terms.{Term, free, constant, app, lam, Variable, HasType, equation}
use Rattle.hol_spec.specs.TermBinding as binding
use Rattle.hol_laws.specs.TermTyping.{loose-typed}
use Rattle.hol_spec.specs.TermSubstitution.{TermPairs, term_image, sub, AreFitting}
use Rattle.hol_laws.specs.TermSubstitutionLaws.{type_under-term_image}
use Rattle.hol_spec.specs.Sequents.{Sequent, type_variables_of, free_variables_of}
use Rattle.lp_spec.specs.Trees.{Tree, Var, Sym, App, put_all}
use Rattle.lp_spec.specs.Substitution as trees
use Rattle.lp_spec.specs.Modules.{Declaration, applied, abstractions, types, proof_of, eq_of, refl_of}
use Rattle.lp_spec.specs.Conversion.{symbol_definition}
use Rattle.lp_typing_laws.specs.ConversionLaws.{IsClosed}
use Rattle.lp_spec.specs.HeadSteps.{given, unfolded, symbol_step, spine_step, head_step}
use Rattle.lp_spec.specs.Shaped.{IsConstant, type_variable, constant, at_type, IsSimple, IsTerm, of_entry, of_constant, of_function, of_binder, Near, near_same, IsProof}
use Rattle.lp_spec.specs.Shaped as shape
use Rattle.lp_check_laws.specs.ShapedCalls.{shaped-refl}
use Rattle.lp_check_laws.specs.ShapedRows.{near-definition}
use Rattle.hol_spec.specs.Lists.{IsIn}
use Rattle.hol_laws.specs.Members.{All-each, All-at}
use Rattle.translate_spec.specs.Scopes.{SymbolMap, TypeScope, type_tree, Scope, constant_symbol, constant_tree, term_tree, under_types, unfilled, filled, theorem_tree, images}
use Rattle.translate_laws.specs.ScopeLaws.{through, term_tree-sub, type_tree-substitute}
use Rattle.translate_laws.specs.TermScopeLaws.{AreInstances, AreClosed, Agrees, term_tree-agrees, term_tree-substitution}
use Rattle.translate_laws.specs.SimultaneousArguments.{after}
use Rattle.translate_laws.specs.ScopeTyping.{TermOver, AreInstances-over, types-agree}
use Rattle.translate_spec.specs.ProofTrees.{self_proof, constants_scope}
use Rattle.translate_laws.specs.SequentScope.{SequentOver-instances, IsPremise, term_tree-proofs, variables-over}
use Rattle.translate_laws.specs.Bodies.{equation-over, equation-sides}
use Rattle.translate_spec.specs.Items.{definition_tree}
use Rattle.translate_laws.specs.ComputingBodies.{IsDefinition, own_arguments, sub-closed, constant-over, DefinesConstant, StandsForVariable}
use Rattle.translate_laws.specs.PuttingLaws.{term_tree-put, put_all-after}
use Rattle.translate_laws.specs.ShapeLaws as laws
use Rattle.translate_laws.specs.ShapeLaws.{Argument}
use Rattle.translate_laws.specs.ShapedScopes.{constant_tree-shaped, term_tree-shaped}
use Rattle.translate_laws.specs.ShapedSequents.{under_types-shaped, filled-shaped}
use Rattle.translate_laws.specs.ShapedTheorems.{ShapedFits, theorem_tree-shaped}
use Rattle.translate_laws.specs.ShapedRows.{HasHypotheses, term-here, type-here}

-- a proof whose found type is near the proofs of a formula's tree
pub record Shown (m : List Declaration) (G : List Tree) (t p : Tree) : Type 0 where
  pub found : Tree
  pub proof : IsProof m false G t found
  pub near : Near m (proof_of p) found

pub shown : {m : List Declaration} {G : List Tree} {t p : Tree} → IsProof m false G t (proof_of p) → Shown m G t p
shown {p = p} h = record { found = proof_of p; proof = h; near = near_same }

-- the head step of a symbol at arguments
pub spine-applied : (m : List Declaration) (f : Tree) (xs args : List Tree) → spine_step m (applied f xs) args ≡ spine_step m f (xs ++ args)
spine-applied m f [] args = refl
spine-applied m f (x ∷ xs) args = spine-applied m (App f x) xs args

-- a symbol with a definition takes its head step by it
pub symbol_step-defined : (m : List Declaration) (s : ℕ) (args : List Tree) (t : Tree) → symbol_definition m s ≡ Some t
    → symbol_step m s args ≡ unfolded (Some t) args
symbol_step-defined m zero args t d = ap (λ o. unfolded o args) d
symbol_step-defined m (suc zero) args t d = ap (λ o. unfolded o args) d
symbol_step-defined m (suc (suc zero)) args t d = ap (λ o. unfolded o args) d
symbol_step-defined m (suc (suc (suc zero))) args t d = ap (λ o. unfolded o args) d
symbol_step-defined m (suc (suc (suc (suc zero)))) args t d = absurd (let no : None ≡ Some t = d in cc)
symbol_step-defined m (suc (suc (suc (suc (suc s))))) args t d = ap (λ o. unfolded o args) d

-- a term is no abstraction over `type`
given-term : {m : List Declaration} {G : List Tree} {t a : Tree} (before : List Tree) → IsTerm m G t a → given before t [] ≡ Some (put_all before t)
given-term before (of_entry e q s) = refl
given-term before (of_constant (shape.IsConstant.constant e k) s) = refl
given-term before (of_constant (at_type f h e) s) = refl
given-term before (of_function f x) = refl
given-term before (of_binder ha hb h) = refl

-- abstractions over `type` take as many arguments at once
given-abstractions : {m : List Declaration} {G : List Tree} {t a : Tree} (other : TypeScope) (ns : List Name) (before : List Tree) → IsTerm m G t a
    → given before (abstractions (map (λ n. types) ns) t) (map other ns) ≡ Some (put_all (before ++ map other ns) t)
given-abstractions {t = t} other [] before h = given-term before h ∙ ap (λ l. Some (put_all l t)) (sym (append-nil before))
given-abstractions {t = t} other (n ∷ ns) before h =
    given-abstractions other ns (before ++ other n ∷ []) h ∙ ap (λ l. Some (put_all l t)) (append_assoc before (other n ∷ []) (map other ns))

-- the definition of a constant, under the binders of its type variables, is a term
module _ (m : List Declaration) (closed : IsClosed m) (symbols : SymbolMap) (n : Name) (a : HolType) (t : Term) (d : IsDefinition m symbols n a t) where
  -- the constant at its generic type becomes its definition by a head step
  pub constant-head : (scope : Scope) → head_step m (constant_tree symbols scope.types n a) ≡ Some (term_tree symbols scope t)
  constant-head scope =
      let names = type_variables a in
      let outer = filled symbols (under_types names unfilled) in
      let put_in = after Var (map scope.types names) in
      let agrees : Agrees symbols (IsIn names) (λ v. ⊥) 0 (through put_in outer) scope =
      record { types = λ k i. types-agree m [] scope.types names unfilled Var k (inl i); terms = λ v no. absurd no; bounds = λ k l. absurd (omega (arith, l)) }
      in
      let becomes : trees.sub put_in (term_tree symbols outer t) ≡ term_tree symbols scope t =
      term_tree-sub symbols put_in outer t ∙ term_tree-agrees symbols (IsIn names) (λ v. ⊥) 0 (through put_in outer) scope agrees t
      (AreInstances-over m symbols t d.over) d.type_variables d.no_free (loose-typed [] t a d.typed) in
      let own = under_types-shaped m closed symbols names [] unfilled (λ k. shape.IsConstant.constant refl tt) in
      let term = term_tree-shaped m closed symbols _ outer [] (filled-shaped m closed symbols _ (under_types names unfilled) own) (λ k b e. absurd (cc))
      (λ k b e. absurd (cc)) t a d.over d.typed in
      let s = constant_symbol symbols n in
      let xs = map scope.types names in
      ap (λ l. head_step m (applied (Sym s) l)) (own_arguments m symbols scope n a t d)
      ∙ spine-applied m (Sym s) xs []
      ∙ ap (symbol_step m s) (append-nil xs)
      ∙ symbol_step-defined m s xs (definition_tree symbols a t) d.definition
      ∙ given-abstractions scope.types names [] term
      ∙ ap Some (put_all-after xs (term_tree symbols outer t) ∙ becomes)

module _ (m : List Declaration) (closed : IsClosed m) (symbols : SymbolMap) (G : List Tree) (scope : Scope) (hypotheses : List Term)
    (stands : HasHypotheses m symbols G scope hypotheses) where
  -- reflexivity of what the left side becomes
  refl-computed : (a : HolType) (x y : Term) → TermOver m symbols (equation a x y) → HasType (equation a x y) bool
      → head_step m (term_tree symbols scope x) ≡ Some (term_tree symbols scope y)
      → Shown m G (refl_of (type_tree symbols scope.types a) (term_tree symbols scope y)) (term_tree symbols scope (equation a x y))
  refl-computed a x y o h step =
      let parts = equation-over m symbols a x y o in
      let sides = equation-sides a x y h in
      let A = type_tree symbols scope.types a in
      let Y = term_tree symbols scope y in
      record {
        found = proof_of (eq_of A Y Y);
        proof = shaped-refl m (type-here m closed symbols G scope hypotheses stands a parts.ty)
            (term-here m closed symbols G scope hypotheses stands y a parts.right sides.right);
        near = near-definition m A (term_tree symbols scope x) Y step;
      }

  -- betaConv
  pub beta-row : (a b : HolType) (t u : Term) → TermOver m symbols (equation b (app (lam a t) u) (binding.put u t))
      → HasType (equation b (app (lam a t) u) (binding.put u t)) bool
      → Shown m G (refl_of (type_tree symbols scope.types b) (term_tree symbols scope (binding.put u t)))
      (term_tree symbols scope (equation b (app (lam a t) u) (binding.put u t)))
  beta-row a b t u o h = refl-computed b (app (lam a t) u) (binding.put u t) o h (ap Some (term_tree-put symbols u scope t))

  -- defineConst
  pub define_const-row : (n : Name) (a : HolType) (t : Term) → IsDefinition m symbols n a t → TermOver m symbols (equation a (constant n a) t)
      → HasType (equation a (constant n a) t) bool
      → Shown m G (refl_of (type_tree symbols scope.types a) (term_tree symbols scope t)) (term_tree symbols scope (equation a (constant n a) t))
  define_const-row n a t d o h = refl-computed a (constant n a) t o h (constant-head m closed symbols n a t d scope)

  -- defineConstList: the constants stand for the variables, and reflexivity proves the defining equations
  pub define_const_list-row : (terms : TermPairs) → AreFitting terms → (j : ℕ) (one : Sequent) → IsPremise m symbols j one
      → AllByRecursion (DefinesConstant m symbols terms) one.hypotheses → AllByRecursion (StandsForVariable m symbols terms) (free_variables_of one)
      → IsProof m false G (theorem_tree (constants_scope symbols scope terms) j one) (proof_of (term_tree symbols scope (sub [] terms one.conclusion)))
  define_const_list-row terms fitting j one p defines stand =
      let shut : AreClosed terms = λ v. loose-typed [] (term_image terms v) v.1 (type_under-term_image [] terms v fitting) in
      let inner = constants_scope symbols scope terms in
      let same : (h : Term) → AreInstances symbols h → term_tree symbols scope (sub [] terms h) ≡ term_tree symbols inner h =
      λ h i. term_tree-substitution symbols [] terms shut scope h i ∙ term_tree-proofs symbols (self_proof symbols scope) (images symbols [] terms scope) h in
      let over : (v : Variable) → IsIn (free_variables_of one) v → TermOver m symbols (term_image terms (v.0, substitute [] v.1)) =
      λ v k. let w = All-at _ (free_variables_of one) v stand k in
      subst (TermOver m symbols) (sym (ap (λ a. term_image terms (v.0, a)) (substitute-nothing v.1) ∙ w.image))
      (constant-over m symbols w.name v.1 w.term w.declared w.definition (All-at _ (free_variables_of one) v (variables-over m symbols one p.over) k)) in
      let fits : ShapedFits m symbols G inner one = record {
        types = All-each _ (type_variables_of one) (λ n k. stands.is.types n);
        terms = All-each _ (free_variables_of one) (λ v k.
            subst (λ w. IsTerm m G (term_tree symbols scope (term_image terms (v.0, substitute [] v.1))) w) (type_tree-substitute symbols [] scope.types v.1)
            (term-here m closed symbols G scope hypotheses stands (term_image terms (v.0, substitute [] v.1)) (substitute [] v.1) (over v k)
            (type_under-term_image [] terms (v.0, substitute [] v.1) fitting)));
        proofs = All-each _ one.hypotheses (λ h k.
            proof h (All-at _ one.hypotheses h p.over.hypotheses k) (All-at _ one.hypotheses h defines k)
            (same h (AreInstances-over m symbols h (All-at _ one.hypotheses h p.over.hypotheses k))));
      } in
      subst (λ w. IsProof m false G (theorem_tree inner j one) (proof_of w))
      (sym (same one.conclusion (AreInstances-over m symbols one.conclusion p.over.conclusion)))
      (theorem_tree-shaped m symbols G inner one j p.declared p.is (SequentOver-instances m symbols one p.over) fits)
    where
      proof : (h : Term) → TermOver m symbols h → (d : DefinesConstant m symbols terms h)
          → term_tree symbols scope (sub [] terms h) ≡ term_tree symbols (constants_scope symbols scope terms) h
          → Argument m G ((constants_scope symbols scope terms).proofs h) (proof_of (term_tree symbols (constants_scope symbols scope terms) h))
      proof h o d e =
          let a = d.variable.1 in
          let left = free d.variable.0 a in
          let own : TermOver m symbols (equation a left d.term) = subst (TermOver m symbols) d.is o in
          let parts = equation-over m symbols a left d.term own in
          let says = equation a (constant d.name a) d.term in
          let equality : substitute [] (equality_type a) ≡ equality_type a = substitute-nothing (equality_type a) in
          let image : term_image terms (d.variable.0, substitute [] a) ≡ constant d.name a =
          ap (λ b. term_image terms (d.variable.0, b)) (substitute-nothing a) ∙ d.image in
          let substituted : sub [] terms (equation a left d.term) ≡ says =
          λ i. app (app (constant equality_name (equality i)) (image i)) (sub-closed terms d.term d.definition.no_free i) in
          let A = type_tree symbols scope.types a in
          let T = term_tree symbols scope d.term in
          let hA = type-here m closed symbols G scope hypotheses stands a parts.ty in
          let hT : IsTerm m G T A = term-here m closed symbols G scope hypotheses stands d.term a parts.right d.definition.typed in
          let hC = constant_tree-shaped m closed symbols G scope.types stands.is.types d.name a
          (constant-over m symbols d.name a d.term d.declared d.definition parts.ty) in
          let t : Argument m G (refl_of A T) (proof_of (term_tree symbols scope says)) =
          laws.Argument.a_definition hC hT (constant-head m closed symbols d.name a d.term d.definition scope) (shaped-refl m hA hT) in
          subst (λ g. Argument m G (self_proof symbols scope g) (proof_of (term_tree symbols (constants_scope symbols scope terms) h))) (sym d.is)
          (subst (λ w. Argument m G (refl_of A T) (proof_of w)) (ap (term_tree symbols scope) (sym (ap (sub [] terms) d.is ∙ substituted)) ∙ e) t)
