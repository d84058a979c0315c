-- A type of a module is decoded to the closed sequent that it stands for, and to nothing exactly where it stands for none.
use Rattle.std.proofs.Common.{◌≡◌, ℕ, suc, List, [], ◌∷◌, ◌++◌, map, length, ◌⊎◌, inl, inr, Option, Some, None, refl, sym, ap, subst, ◌∙◌}
use Rattle.std.specs.Prelude.{replicate}
use Rattle.std.specs.Option.{option_map}
use Rattle.hol_spec.specs.ClosedForm.{ClosedType, ClosedTerm, ClosedSequent}
use Rattle.lp_spec.specs.Trees.{Tree, SortType, SortKind, Var, Sym, App, Lam, Pi}
use Rattle.lp_spec.specs.Modules.{Declaration, term_symbol, proof_symbol, products, types, term_of, proof_of}
use Rattle.translate_spec.specs.TypeEnc.{place}
use Rattle.translate_spec.specs.Enc.{StandsForTerm, StandForVariables, StandForHypotheses, domains, IsClosedForm, Enc, OneEncoding}
use Rattle.decode_spec.specs.Options.{bind, both, provided}
use Rattle.decode_laws.specs.OptionLaws.{some-injective, bind-is, both-is, provided-is, provided-true, Some-or_None}
use Rattle.decode_spec.specs.Opened.{own_name, AreApart}
use Rattle.decode_spec.specs.ClosedFormTest.{is_closed_form}
use Rattle.decode_laws.specs.ClosedFormTestLaws.{is_closed_form-Decides}
use Rattle.decode_spec.specs.Decode.{symbol_argument, proof_part, peel_types, peel_on, peel, type_of_tree, term_from, variables_from, hypotheses_from, closed_sequent, Parts, parts, sequent_from, decode}
use Rattle.decode_laws.specs.TypeLaws.{type_of_tree-is, type_of_tree-stands}
use Rattle.decode_laws.specs.ConstantLaws.{symbol_argument-is, symbol_argument-of, peel_types-is, peel_types-products}
use Rattle.decode_laws.specs.TermLaws.{term_from-is, term_from-stands}
use Rattle.decode_spec.specs.DecodeStatements.{DecodedExactly}
use Rattle.lp_binding_laws.specs.LookUps.{option_map-some}

-- the names of numbers are apart
own_name-apart : AreApart own_name
own_name-apart i j e = cc

abbrev headed : ℕ → List Tree → List Tree
headed s xs = map (λ a. App (Sym s) a) xs

peel_on-is : (s : ℕ) (o : Option Tree) (a b : Tree) (rest : List Tree × Tree) → ((x : Tree) → o ≡ Some x → a ≡ App (Sym s) x)
    → b ≡ products (headed s rest.0) rest.1
    → Pi a b ≡ products (headed s (peel_on o (Pi a b) rest).0) (peel_on o (Pi a b) rest).1
peel_on-is s None a b rest f e = refl
peel_on-is s (Some x) a b rest f e = λ i. Pi (f x refl i) (e i)

peel-is : (s : ℕ) (A : Tree) → A ≡ products (headed s (peel s A).0) (peel s A).1
peel-is s SortType = refl
peel-is s SortKind = refl
peel-is s (Var v) = refl
peel-is s (Sym r) = refl
peel-is s (App f x) = refl
peel-is s (Lam a b) = refl
peel-is s (Pi a b) = peel_on-is s (symbol_argument s a) a b (peel s b) (symbol_argument-is s a) (peel-is s b)

peel-products : (s : ℕ) (xs : List Tree) (B : Tree) → ◌≡◌ {A = List Tree × Tree} (peel s B) ([], B)
    → ◌≡◌ {A = List Tree × Tree} (peel s (products (headed s xs) B)) (xs, B)
peel-products s [] B e = e
peel-products s (x ∷ xs) B e =
    ap (λ o. peel_on o (products (headed s (x ∷ xs)) B) (peel s (products (headed s xs) B))) (symbol_argument-of s x)
    ∙ ap (λ (r : List Tree × Tree). (x ∷ r.0, r.1)) (peel-products s xs B e)

products-append : (xs ys : List Tree) (c : Tree) → products (xs ++ ys) c ≡ products xs (products ys c)
products-append [] ys c = refl
products-append (x ∷ xs) ys c = ap (Pi x) (products-append xs ys c)

products-domains : (n : ℕ) (vs hs : List Tree) (c : Tree)
    → products (domains n vs hs) c ≡ products (replicate n types) (products (map term_of vs) (products (map proof_of hs) c))
products-domains n vs hs c = products-append (replicate n types ++ map term_of vs) (map proof_of hs) c ∙ products-append (replicate n types) (map term_of vs)
    (products (map proof_of hs) c)

-- the parts are those of the product
parts-is : (A : Tree) → A ≡ products (domains (parts A).type_variables (parts A).variables (parts A).hypotheses) (parts A).end
parts-is A =
    let p = parts A in
    let rest = (peel_types A).1 in
    let last = (peel term_symbol rest).1 in
    peel_types-is A
    ∙ ap (products (replicate p.type_variables types)) (peel-is term_symbol rest ∙ ap (products (map term_of p.variables)) (peel-is proof_symbol last))
    ∙ sym (products-domains p.type_variables p.variables p.hypotheses p.end)

no_types : (vs hs : List Tree) (c : Tree) → ◌≡◌ {A = ℕ × Tree} (peel_types (products (map term_of vs) (products (map proof_of hs) (proof_of c))))
    (0, products (map term_of vs) (products (map proof_of hs) (proof_of c)))
no_types [] [] c = refl
no_types [] (h ∷ hs) c = refl
no_types (v ∷ vs) hs c = refl

no_terms : (hs : List Tree) (c : Tree) → ◌≡◌ {A = List Tree × Tree} (peel term_symbol (products (map proof_of hs) (proof_of c)))
    ([], products (map proof_of hs) (proof_of c))
no_terms [] c = refl
no_terms (h ∷ hs) c = refl

abbrev parts_after_types : ℕ × Tree → Parts
parts_after_types r = record {
  type_variables = r.0;
  variables = (peel term_symbol r.1).0;
  hypotheses = (peel proof_symbol (peel term_symbol r.1).1).0;
  end = (peel proof_symbol (peel term_symbol r.1).1).1;
}

abbrev parts_after_terms : ℕ → List Tree × Tree → Parts
parts_after_terms n r = record { type_variables = n; variables = r.0; hypotheses = (peel proof_symbol r.1).0; end = (peel proof_symbol r.1).1 }

abbrev parts_after_proofs : ℕ → List Tree → List Tree × Tree → Parts
parts_after_proofs n vs r = record { type_variables = n; variables = vs; hypotheses = r.0; end = r.1 }

abbrev parts_with : ℕ → List Tree → List Tree → Tree → Parts
parts_with n vs hs e = record { type_variables = n; variables = vs; hypotheses = hs; end = e }

parts-of : (n : ℕ) (vs hs : List Tree) (c : Tree) → parts (products (domains n vs hs) (proof_of c)) ≡ parts_with n vs hs (proof_of c)
parts-of n vs hs c =
    ap parts (products-domains n vs hs (proof_of c))
    ∙ ap parts_after_types (peel_types-products n (products (map term_of vs) (products (map proof_of hs) (proof_of c))) (no_types vs hs c))
    ∙ ap (parts_after_terms n) (peel-products term_symbol vs (products (map proof_of hs) (proof_of c)) (no_terms hs c))
    ∙ ap (parts_after_proofs n vs) (peel-products proof_symbol hs (proof_of c) refl)

module _ (d : List Declaration) where
  variables_from-is : (As : List Tree) (n m : ℕ) (ts : List ClosedType) → variables_from d As n m ≡ Some ts → StandForVariables d ts n m As
  variables_from-is [] n m ts e = subst (λ us. StandForVariables d us n m []) (some-injective e) (tt {0})
  variables_from-is (A ∷ As) n m ts e =
      let p = both-is (λ (t : ClosedType) (us : List ClosedType). t ∷ us) (type_of_tree d (place n m 0 0) A) (variables_from d As n (suc m)) ts e in
      subst (λ us. StandForVariables d us n m (A ∷ As)) (sym p.4) (type_of_tree-is d (place n m 0 0) A p.0 p.2, variables_from-is As n (suc m) p.1 p.3)

  variables_from-stand : (ts : List ClosedType) (As : List Tree) (n m : ℕ) → StandForVariables d ts n m As → variables_from d As n m ≡ Some ts
  variables_from-stand [] [] n m h = refl
  variables_from-stand [] (A ∷ As) n m h = absurd h
  variables_from-stand (t ∷ ts) [] n m h = absurd h
  variables_from-stand (t ∷ ts) (A ∷ As) n m h =
      ap (λ o. both (λ (t : ClosedType) (us : List ClosedType). t ∷ us) o (variables_from d As n (suc m))) (type_of_tree-stands d (place n m 0 0) t A h.0)
      ∙ ap (both (λ (t : ClosedType) (us : List ClosedType). t ∷ us) (Some t)) (variables_from-stand ts As n (suc m) h.1)

  hypotheses_from-is : (As : List Tree) (n m l : ℕ) (ts : List ClosedTerm) → hypotheses_from d As n m l ≡ Some ts → StandForHypotheses d ts n m l As
  hypotheses_from-is [] n m l ts e = subst (λ us. StandForHypotheses d us n m l []) (some-injective e) (tt {0})
  hypotheses_from-is (A ∷ As) n m l ts e =
      let p = both-is (λ (t : ClosedTerm) (us : List ClosedTerm). t ∷ us) (term_from d A (place n m l 0)) (hypotheses_from d As n m (suc l)) ts e in
      subst (λ us. StandForHypotheses d us n m l (A ∷ As)) (sym p.4) (term_from-is d A (place n m l 0) p.0 p.2, hypotheses_from-is As n m (suc l) p.1 p.3)

  hypotheses_from-stand : (ts : List ClosedTerm) (As : List Tree) (n m l : ℕ) → StandForHypotheses d ts n m l As → hypotheses_from d As n m l ≡ Some ts
  hypotheses_from-stand [] [] n m l h = refl
  hypotheses_from-stand [] (A ∷ As) n m l h = absurd h
  hypotheses_from-stand (t ∷ ts) [] n m l h = absurd h
  hypotheses_from-stand (t ∷ ts) (A ∷ As) n m l h =
      ap (λ o. both (λ (t : ClosedTerm) (us : List ClosedTerm). t ∷ us) o (hypotheses_from d As n m (suc l))) (term_from-stands d t (place n m l 0) A h.0)
      ∙ ap (both (λ (t : ClosedTerm) (us : List ClosedTerm). t ∷ us) (Some t)) (hypotheses_from-stand ts As n m (suc l) h.1)

  -- the parts stand for a sequent, of whatever size and type
  pub record PartsStand (s : ClosedSequent) (p : Parts) : Type 0 where
    pub conclusion : Tree
    pub count : s.type_variable_count ≡ p.type_variables
    pub end : p.end ≡ proof_of conclusion
    pub variables_stand : StandForVariables d s.free_variable_types p.type_variables 0 p.variables
    pub hypotheses_stand : StandForHypotheses d s.hypotheses p.type_variables (length p.variables) 0 p.hypotheses
    pub conclusion_stands : StandsForTerm d s.conclusion (place p.type_variables (length p.variables) (length p.hypotheses) 0) conclusion

  abbrev with_conclusion : Parts → List ClosedType → List ClosedTerm → Tree → Option ClosedSequent
  with_conclusion p vs hs C = option_map (closed_sequent p.type_variables vs hs)
      (term_from d C (place p.type_variables (length p.variables) (length p.hypotheses) 0))

  abbrev with_hypotheses : Parts → List ClosedType → List ClosedTerm → Option ClosedSequent
  with_hypotheses p vs hs = bind (proof_part p.end) (with_conclusion p vs hs)

  abbrev with_variables : Parts → List ClosedType → Option ClosedSequent
  with_variables p vs = bind (hypotheses_from d p.hypotheses p.type_variables (length p.variables) 0) (with_hypotheses p vs)

  sequent_from-is : (p : Parts) (s : ClosedSequent) → sequent_from d p ≡ Some s → PartsStand s p
  sequent_from-is p s e =
      let v = bind-is (variables_from d p.variables p.type_variables 0) (with_variables p) s e in
      let h = bind-is (hypotheses_from d p.hypotheses p.type_variables (length p.variables) 0) (with_hypotheses p v.0) s v.2 in
      let c = bind-is (proof_part p.end) (with_conclusion p v.0 h.0) s h.2 in
      let t = option_map-some (closed_sequent p.type_variables v.0 h.0) (term_from d c.0 (place p.type_variables (length p.variables) (length p.hypotheses) 0))
      s c.2 in
      subst (λ z. PartsStand z p) t.2 (record {
        conclusion = c.0;
        count = refl;
        end = symbol_argument-is proof_symbol p.end c.0 c.1;
        variables_stand = variables_from-is p.variables p.type_variables 0 v.0 v.1;
        hypotheses_stand = hypotheses_from-is p.hypotheses p.type_variables (length p.variables) 0 h.0 h.1;
        conclusion_stands = term_from-is d c.0 (place p.type_variables (length p.variables) (length p.hypotheses) 0) t.0 t.1;
      })

  sequent_from-stands : (s : ClosedSequent) (vs hs : List Tree) (c : Tree) → StandForVariables d s.free_variable_types s.type_variable_count 0 vs
      → StandForHypotheses d s.hypotheses s.type_variable_count (length vs) 0 hs
      → StandsForTerm d s.conclusion (place s.type_variable_count (length vs) (length hs) 0) c
      → sequent_from d (parts_with s.type_variable_count vs hs (proof_of c)) ≡ Some s
  sequent_from-stands s vs hs c v h t =
      let p = parts_with s.type_variable_count vs hs (proof_of c) in
      ap (λ o. bind o (with_variables p)) (variables_from-stand s.free_variable_types vs s.type_variable_count 0 v)
      ∙ ap (λ o. bind o (with_hypotheses p s.free_variable_types)) (hypotheses_from-stand s.hypotheses hs s.type_variable_count (length vs) 0 h)
      ∙ ap (λ o. bind o (with_conclusion p s.free_variable_types s.hypotheses)) (symbol_argument-of proof_symbol c)
      ∙ ap (option_map (closed_sequent s.type_variable_count s.free_variable_types s.hypotheses))
      (term_from-stands d s.conclusion (place s.type_variable_count (length vs) (length hs) 0) c t)

  abbrev tested : ClosedSequent → Option ClosedSequent
  tested s = provided (is_closed_form own_name s) (Some s)

  -- a closed form for which the parts of a type stand is what the type stands for
  pub parts-Enc : (A : Tree) (s : ClosedSequent) → sequent_from d (parts A) ≡ Some s → IsClosedForm s → Enc d s A
  parts-Enc A s e closed =
      let h = sequent_from-is (parts A) s e in
      let n : (parts A).type_variables ≡ s.type_variable_count = sym h.count in
      let vs = (parts A).variables in
      let hs = (parts A).hypotheses in
      record {
        closed = closed;
        variables = vs;
        hypotheses = hs;
        conclusion = h.conclusion;
        product = parts-is A ∙ ap (products (domains (parts A).type_variables vs hs)) h.end ∙ ap (λ k. products (domains k vs hs) (proof_of h.conclusion)) n;
        variables_stand = subst (λ k. StandForVariables d s.free_variable_types k 0 vs) n h.variables_stand;
        hypotheses_stand = subst (λ k. StandForHypotheses d s.hypotheses k (length vs) 0 hs) n h.hypotheses_stand;
        conclusion_stands = subst (λ k. StandsForTerm d s.conclusion (place k (length vs) (length hs) 0) h.conclusion) n h.conclusion_stands;
      }

  -- and the parts stand for what the type stands for
  pub Enc-parts : (A : Tree) (s : ClosedSequent) → Enc d s A → sequent_from d (parts A) ≡ Some s
  Enc-parts A s h =
      ap (λ B. sequent_from d (parts B)) h.product
      ∙ ap (sequent_from d) (parts-of s.type_variable_count h.variables h.hypotheses h.conclusion)
      ∙ sequent_from-stands s h.variables h.hypotheses h.conclusion h.variables_stand h.hypotheses_stand h.conclusion_stands

  -- what is decoded is what the type stands for
  pub decode-is : (A : Tree) (s : ClosedSequent) → decode d A ≡ Some s → Enc d s A
  decode-is A s e =
      let p = bind-is (sequent_from d (parts A)) tested s e in
      let q = provided-is (is_closed_form own_name p.0) (Some p.0) s p.2 in
      subst (λ z. Enc d z A) (some-injective q.1) (parts-Enc A p.0 p.1 ((is_closed_form-Decides own_name own_name-apart p.0).0 q.0))

  -- what a type stands for is decoded
  pub decode-Enc : (A : Tree) (s : ClosedSequent) → Enc d s A → decode d A ≡ Some s
  decode-Enc A s h = ap (λ o. bind o tested) (Enc-parts A s h) ∙ provided-true (is_closed_form own_name s) (Some s)
      ((is_closed_form-Decides own_name own_name-apart s).1 h.closed)

  -- nothing is decoded exactly where the type stands for nothing
  pub decode-None : (A : Tree) → decode d A ≡ None → (s : ClosedSequent) → Enc d s A → ⊥
  decode-None A e s h = let f : ◌≡◌ {A = Option ClosedSequent} None (Some s) = sym e ∙ decode-Enc A s h in cc

  pub None-decode : (A : Tree) → ((s : ClosedSequent) → Enc d s A → ⊥) → decode d A ≡ None
  None-decode A f = go (Some-or_None (decode d A))
    where
      go : ((s : ClosedSequent) × (decode d A ≡ Some s)) ⊎ (decode d A ≡ None) → decode d A ≡ None
      go (inl p) = absurd (f p.0 (decode-is A p.0 p.1))
      go (inr e) = e

pub decoded_exactly : DecodedExactly
decoded_exactly d A = (λ s. (decode-is d A s, decode-Enc d A s), decode-None d A, None-decode d A)

-- a type stands for the one closed sequent that it is decoded to
pub one_encoding : OneEncoding
one_encoding d s t A p q = some-injective (sym (decode-Enc d A s p) ∙ decode-Enc d A t q)
