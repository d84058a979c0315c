-- What a tree stands for, it stands for where its symbols have other numbers.
use Rattle.std.proofs.Common.{◌≡◌, ℕ, zero, suc, refl, sym, ap, subst, ◌∙◌, List, [], ◌∷◌, ◌++◌, length, map, Some}
use Rattle.std.specs.Prelude.{option_map, replicate}
use Rattle.std.proofs.Math.Path.{ap₂, subst₂}
use Rattle.std.proofs.lemmas.List.{length-map, map-append}
use Rattle.hol_spec.specs.Names.{Name}
use Rattle.hol_spec.specs.ClosedForm as closed
use Rattle.hol_spec.specs.ClosedForm.{ClosedType, ClosedTypes, ClosedTerm, ClosedSequent}
use Rattle.lp_spec.specs.Trees.{Tree, Sym}
use Rattle.lp_spec.specs.Modules.{Declaration, symbol_type, products, types, term_of, proof_of}
use Rattle.translate_spec.specs.OperatorMeaning.{NamesOperator, MeansOperator, arrow, truth_values, individuals}
use Rattle.translate_spec.specs.OperatorMeaning as operators
use Rattle.translate_spec.specs.TypeEnc.{Place, place, inside, StandsForType, StandForTypes}
use Rattle.translate_spec.specs.ConstantMeaning.{NamesConstant, HasGenericType, MeansConstant, equality, choice}
use Rattle.translate_spec.specs.ConstantMeaning as constants
use Rattle.translate_spec.specs.Enc.{StandsForConstant, StandsForTerm, StandForVariables, StandForHypotheses, domains, Enc}
use Rattle.translate_spec.specs.Stands.{IsConstantType}
use Rattle.share_spec.specs.MovedTrees.{moved_symbol, moved}
use Rattle.share_laws.specs.MovedLaws.{moved-applied, moved-products, IsMoved, moved-symbol_type, moved-symbol_name}

module _ (g : ℕ → ℕ) where
  pub moved-types : (k : ℕ) → map (moved g) (replicate k types) ≡ replicate k types
  moved-types zero = refl
  moved-types (suc k) = ap (λ l. types ∷ l) (moved-types k)

  map-terms : (ts : List Tree) → map (moved g) (map term_of ts) ≡ map term_of (map (moved g) ts)
  map-terms [] = refl
  map-terms (t ∷ ts) = ap (λ l. term_of (moved g t) ∷ l) (map-terms ts)

  map-proofs : (ts : List Tree) → map (moved g) (map proof_of ts) ≡ map proof_of (map (moved g) ts)
  map-proofs [] = refl
  map-proofs (t ∷ ts) = ap (λ l. proof_of (moved g t) ∷ l) (map-proofs ts)

  moved-domains : (n : ℕ) (vs hs : List Tree) → map (moved g) (domains n vs hs) ≡ domains n (map (moved g) vs) (map (moved g) hs)
  moved-domains n vs hs =
      map-append (moved g) (replicate n types ++ map term_of vs) (map proof_of hs)
      ∙ ap₂ (λ a b. a ++ b) (map-append (moved g) (replicate n types) (map term_of vs) ∙ ap₂ (λ a b. a ++ b) (moved-types n) (map-terms vs)) (map-proofs hs)

  -- the type of an operator
  pub moved-operator : (k : ℕ) → moved g (products (replicate k types) types) ≡ products (replicate k types) types
  moved-operator k = moved-products g (replicate k types) types ∙ ap (λ l. products l types) (moved-types k)

module _ (g : ℕ → ℕ) (m n : List Declaration) (h : IsMoved g m n) where
  type-told : (s : ℕ) (A B : Tree) → symbol_type m s ≡ Some A → moved g A ≡ B → symbol_type n (moved_symbol g s) ≡ Some B
  type-told s A B e f = moved-symbol_type g m n h s ∙ ap (option_map (moved g)) e ∙ ap Some f

  names_operator-moved : {s : ℕ} {front : List ℕ} {name : Name} {k : ℕ} → NamesOperator m s front name k → NamesOperator n (moved_symbol g s) front name k
  names_operator-moved {s = s} {k = k} r = record {
    is_name = r.is_name;
    not_primitive = r.not_primitive;
    text = moved-symbol_name g m n h s ∙ r.text;
    ty = type-told s _ _ r.ty (moved-operator g k);
  }

  operator-moved : {s : ℕ} {name : Name} {k : ℕ} → MeansOperator m s name k → MeansOperator n (moved_symbol g s) name k
  operator-moved (arrow e) = arrow (ap (moved_symbol g) e)
  operator-moved (truth_values e) = truth_values (ap (moved_symbol g) e)
  operator-moved (individuals e) = individuals (ap (moved_symbol g) e)
  operator-moved (operators.MeansOperator.input r) = operators.MeansOperator.input (names_operator-moved r)
  operator-moved (operators.MeansOperator.defined r) = operators.MeansOperator.defined (names_operator-moved r)

  mutual
    pub type-moved : (t : ClosedType) (at : Place) (A : Tree) → StandsForType m t at A → StandsForType n t at (moved g A)
    type-moved (closed.ClosedType.parameter i) at A (l, e) = (l, ap (moved g) e)
    type-moved (closed.ClosedType.operator name ts) at A (s, args, o, k, e) = (
      moved_symbol g s,
      map (moved g) args,
      subst (MeansOperator n (moved_symbol g s) name) (sym (length-map args (moved g))) (operator-moved o),
      types-moved ts at args k,
      ap (moved g) e ∙ moved-applied g (Sym s) args,
    )

    types-moved : (ts : ClosedTypes) (at : Place) (As : List Tree) → StandForTypes m ts at As → StandForTypes n ts at (map (moved g) As)
    types-moved closed.ClosedTypes.none at [] k = tt
    types-moved closed.ClosedTypes.none at (A ∷ As) k = absurd k
    types-moved (closed.ClosedTypes.more t ts) at [] k = absurd k
    types-moved (closed.ClosedTypes.more t ts) at (A ∷ As) k = (type-moved t at A k.0, types-moved ts at As k.1)

  names_constant-moved : {s : ℕ} {front : List ℕ} {name : Name} → NamesConstant m s front name → NamesConstant n (moved_symbol g s) front name
  names_constant-moved {s = s} r = record { is_name = r.is_name; not_primitive = r.not_primitive; text = moved-symbol_name g m n h s ∙ r.text }

  generic-moved : {s k : ℕ} {generic : ClosedType} → HasGenericType m s k generic → HasGenericType n (moved_symbol g s) k generic
  generic-moved {s = s} {k = k} {generic = generic} r = record {
    tree = moved g r.tree;
    ty = type-told s _ _ r.ty (moved-products g (replicate k types) (term_of r.tree) ∙ ap (λ l. products l (term_of (moved g r.tree))) (moved-types g k));
    stands = type-moved generic (place k 0 0 0) r.tree r.stands;
    in_order = r.in_order;
  }

  constant-moved : {s : ℕ} {name : Name} {k : ℕ} {generic : ClosedType} → MeansConstant m s name k generic → MeansConstant n (moved_symbol g s) name k generic
  constant-moved (equality e) = equality (ap (moved_symbol g) e)
  constant-moved (choice e) = choice (ap (moved_symbol g) e)
  constant-moved {s = s} (constants.MeansConstant.input r e) = constants.MeansConstant.input (names_constant-moved r) (type-told s _ _ e refl)
  constant-moved (constants.MeansConstant.defined r q) = constants.MeansConstant.defined (names_constant-moved r) (generic-moved q)

  stands_constant-moved : {name : Name} {ty : ClosedType} {at : Place} {A : Tree} → StandsForConstant m name ty at A
      → StandsForConstant n name ty at (moved g A)
  stands_constant-moved {name = name} {at = at} r = record {
    symbol = moved_symbol g r.symbol;
    args = map (moved g) r.args;
    generic = r.generic;
    means = subst (λ k. MeansConstant n (moved_symbol g r.symbol) name k r.generic) (sym (length-map r.args (moved g))) (constant-moved r.means);
    arguments = r.arguments;
    args_stand = types-moved r.arguments at r.args r.args_stand;
    is_instance = r.is_instance;
    tree = ap (moved g) r.tree ∙ moved-applied g (Sym r.symbol) r.args;
  }

  pub term-moved : (t : ClosedTerm) (at : Place) (A : Tree) → StandsForTerm m t at A → StandsForTerm n t at (moved g A)
  term-moved (closed.ClosedTerm.parameter j) at A (l, e) = (l, ap (moved g) e)
  term-moved (closed.ClosedTerm.bound k) at A (l, e) = (l, ap (moved g) e)
  term-moved (closed.ClosedTerm.constant name t) at A r = stands_constant-moved r
  term-moved (closed.ClosedTerm.app f x) at A (F, X, a, b, e) = (moved g F, moved g X, term-moved f at F a, term-moved x at X b, ap (moved g) e)
  term-moved (closed.ClosedTerm.lam t b) at A (T, B, a, c, e) = (moved g T, moved g B, type-moved t at T a, term-moved b (inside at) B c, ap (moved g) e)

  variables-moved : (ts : List ClosedType) (k l : ℕ) (As : List Tree) → StandForVariables m ts k l As → StandForVariables n ts k l (map (moved g) As)
  variables-moved [] k l [] r = tt
  variables-moved [] k l (A ∷ As) r = absurd r
  variables-moved (t ∷ ts) k l [] r = absurd r
  variables-moved (t ∷ ts) k l (A ∷ As) r = (type-moved t (place k l 0 0) A r.0, variables-moved ts k (suc l) As r.1)

  hypotheses-moved : (ps : List ClosedTerm) (k l j : ℕ) (As : List Tree) → StandForHypotheses m ps k l j As → StandForHypotheses n ps k l j (map (moved g) As)
  hypotheses-moved [] k l j [] r = tt
  hypotheses-moved [] k l j (A ∷ As) r = absurd r
  hypotheses-moved (p ∷ ps) k l j [] r = absurd r
  hypotheses-moved (p ∷ ps) k l j (A ∷ As) r = (term-moved p (place k l j 0) A r.0, hypotheses-moved ps k l (suc j) As r.1)

  -- A type stands for the same closed sequent
  pub Enc-moved : (s : ClosedSequent) (A : Tree) → Enc m s A → Enc n s (moved g A)
  Enc-moved s A r =
      let count : length (map (moved g) r.variables) ≡ length r.variables = length-map r.variables (moved g) in
      let more : length (map (moved g) r.hypotheses) ≡ length r.hypotheses = length-map r.hypotheses (moved g) in
      record {
        closed = r.closed;
        variables = map (moved g) r.variables;
        hypotheses = map (moved g) r.hypotheses;
        conclusion = moved g r.conclusion;
        product = ap (moved g) r.product ∙ moved-products g (domains s.type_variable_count r.variables r.hypotheses) (proof_of r.conclusion)
            ∙ ap (λ l. products l (proof_of (moved g r.conclusion))) (moved-domains g s.type_variable_count r.variables r.hypotheses);
        variables_stand = variables-moved s.free_variable_types s.type_variable_count 0 r.variables r.variables_stand;
        hypotheses_stand = subst (λ k. StandForHypotheses n s.hypotheses s.type_variable_count k 0 (map (moved g) r.hypotheses)) (sym count)
            (hypotheses-moved s.hypotheses s.type_variable_count (length r.variables) 0 r.hypotheses r.hypotheses_stand);
        conclusion_stands = subst₂ (λ k l. StandsForTerm n s.conclusion (place s.type_variable_count k l 0) (moved g r.conclusion)) (sym count) (sym more)
            (term-moved s.conclusion (place s.type_variable_count (length r.variables) (length r.hypotheses) 0) r.conclusion r.conclusion_stands);
      }

  pub constant_type-moved : (t : _) (A : Tree) → IsConstantType m t A → IsConstantType n t (moved g A)
  constant_type-moved t A r = record {
    tree = moved g r.tree;
    stands = type-moved _ _ r.tree r.stands;
    is = ap (moved g) r.is ∙ moved-products g _ (term_of r.tree) ∙ ap (λ l. products l (term_of (moved g r.tree))) (moved-types g _);
  }
