-- The module is shaped: by induction on its items, each declaration is shaped over those before it.
use Rattle.std.proofs.Common.{◌≡◌, ◌⊎◌, inl, ℕ, zero, suc, ◌+◌, List, [], ◌∷◌, ◌++◌, append_assoc, map, length, false, Some, refl, sym, ap, subst, ◌∙◌, arith, inr}
use Rattle.std.specs.Prelude.{replicate}
use Rattle.std.specs.List.{AllByRecursion}
use Rattle.std.proofs.lemmas.List.{append-nil, length-append}
use Rattle.hol_spec.specs.Names.{Name}
use Rattle.hol_spec.specs.Types.{HolType, type_variables}
use Rattle.hol_spec.specs.Terms.{Term, HasType}
use Rattle.lp_spec.specs.Trees.{Tree, Sym, App}
use Rattle.lp_spec.specs.Modules.{Declaration, signature, symbol_declaration, products, abstractions, types, bools, arr_of, term_of, proof_of, eq_of, eq_symbol, sub_symbol, sub_abs_symbol, sub_rep_symbol}
use Rattle.lp_binding_laws.specs.Composition.{lift_zero}
use Rattle.lp_spec.specs.Lemmas.{lemmas, trans_lemma, trans_proof}
use Rattle.lp_typing_laws.specs.LemmasLaws.{lemmas_typed}
use Rattle.lp_typing_laws.specs.ConversionLaws.{IsClosed, symbol_type-append}
use Rattle.lp_spec.specs.Typing.{WellTyped}
use Rattle.lp_typing_laws.specs.Soundness.{IsSound, IsSound-closed, IsSound-after}
use Rattle.lp_typing_laws.specs.WellTypedLaws.{WellTyped-IsSound}
use Rattle.lp_typing_laws.specs.Telescopes.{under}
use Rattle.lp_spec.specs.Shaped.{type_variable, constant, at_type, IsSimple, IsTerm, of_entry, of_constant, of_function, IsDeclared, of_types, of_terms, of_proofs, of_products, near_same, IsProof, hypothesis, under_binder, IsDefinition, defined, under_type, Close, close_same, close_product, IsLaw, law_under, IsProofBody, IsLawBody, IsShaped}
use Rattle.lp_check_laws.specs.ShapedCalls.{shaped-equation, shaped-refl, shaped-app_thm, shaped-eq_mp, sym_lemma-shaped}
use Rattle.lp_check_laws.specs.ShapedPasses.{AreShaped, shaped-WellTyped}
use Rattle.hol_laws.specs.Members.{All-append, All-weaker}
use Rattle.translate_spec.specs.Scopes.{SymbolMap, generic_tree, under_types, unfilled, filled, domains_of, scope_of, term_tree, sequent_tree}
use Rattle.translate_laws.specs.ScopeTyping.{TypeOver, TermOver, TypeOver-type_under}
use Rattle.translate_spec.specs.ProofTrees.{sym_symbol, trans_symbol}
use Rattle.translate_laws.specs.Bodies.{HasLemmas}
use Rattle.translate_spec.specs.Items.{definition_tree, Content, operator, defined_constant, type_operator, type_abstraction, type_representation, unproved, step, Item, declaration_of, declaration, module_of, symbols_of}
use Rattle.translate_laws.specs.ItemConditions.{IsContent, AreItems, IsPart}
use Rattle.translate_laws.specs.ModuleTyping.{HoldsItem, Holds-append, TypeOver-taken, TermOver-taken, SequentOver-taken, ArePremises-among, defined_among, slice_get-last, content-holds, held}
use Rattle.translate_laws.specs.MadeModules.{AreMade, items-made}
use Rattle.translate_spec.specs.Reach.{Key, image_items, keep_of, reached}
use Rattle.translate_laws.specs.KeptModules.{image-made}
use Rattle.translate_laws.specs.WantedItems.{AreMadeInOrder, made-numbered}
use Rattle.translate_laws.specs.ShapeLaws.{declared-products, proof-abstractions, near-products, AreDeclared}
use Rattle.translate_laws.specs.ShapedScopes.{type_tree-shaped, term_tree-shaped}
use Rattle.translate_laws.specs.ShapedSequents.{under_types-shaped, types-AreDeclared, filled-shaped, own_shape, OwnShape}
use Rattle.translate_laws.specs.ShapesTyped.{shaped-IsTypedAfter}
use Rattle.translate_laws.specs.RuleShapes.{step-shaped}
use Rattle.translate_laws.specs.PartRows.{ShownLaw, part_definition-big, operator-shaped, abstraction-shaped, representation-shaped}
use Rattle.hol_spec.specs.Definitions.{TypeNames}
use Rattle.hol_spec.specs.NewTypes.{abstraction_type, representation_type}
use Rattle.translate_spec.specs.Items as item
use Rattle.hol_spec.specs.Sequents.{Sequent}
use Rattle.translate_laws.specs.ComputingBodies.{IsPartPremise}
use Rattle.hol_spec.specs.declared.StepKind.{StepKind}
use Rattle.hol_spec.specs.Rules.{Parameters}
use Rattle.translate_laws.specs.ComputingRows.{Shown}
use Rattle.translate_laws.specs.SequentScope.{context_of}
use Rattle.translate_spec.specs.Rows.{proof_tree}

module _ (m : List Declaration) where
  -- from x = y and y = z to x = z
  shaped-trans_proof : {G : List Tree} {a x y z g h : Tree} → IsSimple m G a → IsTerm m G x a → IsTerm m G y a → IsTerm m G z a
      → IsProof m false G g (proof_of (eq_of a x y)) → IsProof m false G h (proof_of (eq_of a y z))
      → IsProof m false G (trans_proof a x y z g h) (proof_of (eq_of a x z))
  shaped-trans_proof {G = G} {a = a} {x = x} ha hx hy hz hg hh =
      let bool : IsSimple m G bools = constant refl tt in
      let predicates : IsSimple m G (arr_of a bools) = at_type (at_type (constant refl tt) ha refl) bool refl in
      let relations : IsSimple m G (arr_of a (arr_of a bools)) = at_type (at_type (constant refl tt) ha refl) predicates refl in
      let equality : IsTerm m G (App (Sym eq_symbol) a) (arr_of a (arr_of a bools)) =
      of_constant (at_type (constant refl tt) ha (ap (λ w. term_of (arr_of w (arr_of w bools))) (lift_zero a))) relations in
      let equals_x : IsTerm m G (App (App (Sym eq_symbol) a) x) (arr_of a bools) = of_function equality hx in
      shaped-eq_mp m (shaped-equation m ha hx hy) (shaped-equation m ha hx hz)
      (shaped-app_thm m ha bool equals_x equals_x hy hz (shaped-refl m predicates equals_x) hh) hg

  -- the lemma of transitivity is shaped over every module
  pub trans_lemma-shaped : IsShaped m trans_lemma
  trans_lemma-shaped =
      record {
        ty = of_products of_types
            (of_products (of_terms (type_variable refl)) (of_products (of_terms (type_variable refl)) (of_products (of_terms (type_variable refl))
            (of_products
            (of_proofs (shaped-equation m (type_variable refl) (of_entry refl refl (type_variable refl)) (of_entry refl refl (type_variable refl))))
            (of_products
            (of_proofs (shaped-equation m (type_variable refl) (of_entry refl refl (type_variable refl)) (of_entry refl refl (type_variable refl))))
            (of_proofs (shaped-equation m (type_variable refl) (of_entry refl refl (type_variable refl)) (of_entry refl refl (type_variable refl)))))))));
        body = inl (record {
          found = _;
          proof = under_binder of_types
              (under_binder (of_terms (type_variable refl)) (under_binder (of_terms (type_variable refl)) (under_binder (of_terms (type_variable refl))
              (under_binder
              (of_proofs (shaped-equation m (type_variable refl) (of_entry refl refl (type_variable refl)) (of_entry refl refl (type_variable refl))))
              (under_binder
              (of_proofs (shaped-equation m (type_variable refl) (of_entry refl refl (type_variable refl)) (of_entry refl refl (type_variable refl))))
              (shaped-trans_proof (type_variable refl) (of_entry refl refl (type_variable refl)) (of_entry refl refl (type_variable refl))
              (of_entry refl refl (type_variable refl)) (hypothesis refl refl) (hypothesis refl refl)))))));
          near = near_same;
        });
      }

  pub definition-abstractions : {G : List Tree} (ns : List Name) {t A : Tree} → IsDefinition m (under G (map (λ n. types) ns)) t A
      → IsDefinition m G (abstractions (map (λ n. types) ns) t) (products (map (λ n. types) ns) A)
  definition-abstractions [] h = h
  definition-abstractions (n ∷ ns) h = under_type (definition-abstractions ns h)

  -- a law under its binders
  law-abstractions : {G : List Tree} (domains : List Tree) {t A : Tree} → AreDeclared m G domains → IsLaw m (under G domains) t A
      → IsLaw m G (abstractions domains t) (products domains A)
  law-abstractions [] h ht = ht
  law-abstractions (a ∷ domains) h ht = law_under h.0 (law-abstractions domains h.1 ht)

  close-products : (domains : List Tree) {A F : Tree} → Close m 3 A F → Close m 3 (products domains A) (products domains F)
  close-products [] h = h
  close-products (a ∷ domains) h = close_product close_same (close-products domains h)

  operator_type-shaped : (k : ℕ) {G : List Tree} → IsDeclared m G (products (replicate k types) types)
  operator_type-shaped zero = of_types
  operator_type-shaped (suc k) = of_products of_types (operator_type-shaped k)

module _ (m : List Declaration) (symbols : SymbolMap) (before : List Item) (holds : AllByRecursion (HoldsItem m symbols) before) (closed : IsClosed m)
    (has : HasLemmas m) where
  -- the type of a constant is declared
  generic_tree-shaped : (a : HolType) → TypeOver m symbols a → IsDeclared m [] (generic_tree symbols a)
  generic_tree-shaped a o =
      let names = type_variables a in
      let D = under [] (map (λ n. types) names) in
      declared-products m (map (λ n. types) names) (types-AreDeclared m closed symbols names [])
      (of_terms (type_tree-shaped m D symbols (under_types names unfilled) (under_types-shaped m closed symbols names [] unfilled (λ n. constant refl tt)) a o))

  -- the definition of a constant is a term under its type variables
  definition-shaped : (a : HolType) (t : Term) → TermOver m symbols t → HasType t a → IsDefinition m [] (definition_tree symbols a t) (generic_tree symbols a)
  definition-shaped a t o h =
      let names = type_variables a in
      let D = under [] (map (λ n. types) names) in
      let shaped = under_types-shaped m closed symbols names [] unfilled (λ n. constant refl tt) in
      definition-abstractions m names
      (defined (term_tree-shaped m closed symbols D (filled symbols (under_types names unfilled)) []
      (filled-shaped m closed symbols D (under_types names unfilled) shaped) (λ k b e. absurd (cc)) (λ k b e. absurd (cc)) t a o h))

  part-premise : (names : TypeNames) (c : HolType) (u : Term) (j : ℕ) (one : Sequent) → IsPart before names c u j one → IsPartPremise m symbols names c j one
  part-premise names c u j one h =
      record {
        f = u;
        defines = h.defines;
        premise = (ArePremises-among m symbols before holds (j ∷ []) (one ∷ []) h.among).0;
        ty =
            TypeOver-taken m symbols before holds c h.ty;
      }

  -- The declaration of an item is shaped
  pub content-shaped : (name : List ℕ) (c : Content) → IsContent before c → IsShaped m (declaration_of symbols name c)
  content-shaped name (operator n k) h = record { ty = operator_type-shaped m k; body = refl }
  content-shaped name (item.Content.constant n a) h = record { ty = generic_tree-shaped a (TypeOver-taken m symbols before holds a h); body = refl }
  content-shaped name (defined_constant n a t) h =
      let o = TermOver-taken m symbols before holds t h.taken in
      record {
        ty = generic_tree-shaped a (TypeOver-type_under m symbols [] (λ k b e. absurd (cc)) t a o h.typed);
        body =
            inl (definition-shaped a t o h.typed);
      }
  content-shaped name (type_operator names c u j one) h =
      let d = part-premise names c u j one h in record {
        ty = operator_type-shaped m (length names.variables);
        body =
            inr (operator-shaped m closed symbols names c j one d, part_definition-big m closed symbols names c j one d names.variables sub_symbol);
      }
  content-shaped name (type_abstraction names c u j one) h =
      let d = part-premise names c u j one h.0 in
      let op = held m symbols before holds (type_operator names c u j one) h.2 in
      let a = abstraction_type names c in
      record {
        ty = generic_tree-shaped a (TypeOver-taken m symbols before holds a h.1);
        body = inr (
          abstraction-shaped m closed symbols names c j one d op,
          part_definition-big m closed symbols names c j one d (type_variables a) sub_abs_symbol,
        );
      }
  content-shaped name (type_representation names c u j one) h =
      let d = part-premise names c u j one h.0 in
      let op = held m symbols before holds (type_operator names c u j one) h.2 in
      let a = representation_type names c in
      record {
        ty = generic_tree-shaped a (TypeOver-taken m symbols before holds a h.1);
        body = inr (
          representation-shaped m closed symbols names c j one d op,
          part_definition-big m closed symbols names c j one d (type_variables a) sub_rep_symbol,
        );
      }
  content-shaped name (unproved s) h =
      let own = own_shape m closed symbols s h.is (SequentOver-taken m symbols before holds s h) in
      record { ty = declared-products m (domains_of symbols s) own.domains own.conclusion; body = refl }
  content-shaped name (step kind js premises given s) h =
      let over = SequentOver-taken m symbols before holds s h.0.taken in
      let own = own_shape m closed symbols s h.0.taken.is over in
      let row = step-shaped m closed has symbols kind js premises given s h.0.rule h.0.row (ArePremises-among m symbols before holds js premises h.0.among)
      (defined_among m symbols before holds kind js premises given h.1) h.0.taken.is over in
      record { ty = declared-products m (domains_of symbols s) own.domains own.conclusion; body = body s kind js premises given own row }
    where
      body : (s : Sequent) (kind : StepKind) (js : List ℕ) (premises : List Sequent) (given : Parameters) → OwnShape m symbols s
          → Shown m (context_of symbols s) (proof_tree symbols (scope_of symbols s) kind js premises given)
          (term_tree symbols (scope_of symbols s) s.conclusion)
          ⊎ ShownLaw m (context_of symbols s) (proof_tree symbols (scope_of symbols s) kind js premises given)
          (term_tree symbols (scope_of symbols s) s.conclusion)
          → IsProofBody m (abstractions (domains_of symbols s) (proof_tree symbols (scope_of symbols s) kind js premises given)) (sequent_tree symbols s)
          ⊎ IsLawBody m (abstractions (domains_of symbols s) (proof_tree symbols (scope_of symbols s) kind js premises given)) (sequent_tree symbols s)
      body s kind js premises given own (inl row) = inl (record {
        found = products (domains_of symbols s) row.found;
        proof = proof-abstractions m (domains_of symbols s) own.domains row.proof;
        near = near-products m (domains_of symbols s) row.near;
      })
      body s kind js premises given own (inr row) = inr (record {
        found = products (domains_of symbols s) row.found;
        law = law-abstractions m (domains_of symbols s) own.domains row.law;
        close = close-products m (domains_of symbols s) row.close;
      })

AreShaped-append : (before ds es : List Declaration) → AreShaped before ds → AreShaped (before ++ ds) es → AreShaped before (ds ++ es)
AreShaped-append before [] es h k = subst (λ b. AreShaped b es) (append-nil before) k
AreShaped-append before (d ∷ ds) es h k =
    (h.0, AreShaped-append (before ++ d ∷ []) ds es h.1 (subst (λ b. AreShaped b es) (sym (append_assoc before (d ∷ []) ds)) k))

module _ (symbols : SymbolMap) where
  -- each of the items is shaped after those before it
  items-shaped : (m : List Declaration) (before xs : List Item) → IsSound m → HasLemmas m → length m ≡ length lemmas + length before
      → AllByRecursion (HoldsItem m symbols) before → AreItems symbols before xs
      → AreShaped m (map (declaration symbols) xs)
  items-shaped m before [] sound has size holds h = tt
  items-shaped m before (x ∷ xs) sound has size holds h =
      let d = declaration symbols x in
      let closed = IsSound-closed m sound in
      let shaped : IsShaped m d = content-shaped m symbols before holds closed has x.name x.content h.2 in
      let place : x.symbol ≡ length signature + length m = h.0 ∙ ap (λ k. length signature + k) (sym size) in
      let declared : symbol_declaration (m ++ d ∷ []) x.symbol ≡ Some d = ap (symbol_declaration (m ++ d ∷ [])) place ∙ slice_get-last signature m d in
      let new : HoldsItem (m ++ d ∷ []) symbols x = content-holds symbols m before x.symbol x.name x.content holds h.2 h.1 declared in
      let old : AllByRecursion (HoldsItem (m ++ d ∷ []) symbols) before =
      All-weaker (HoldsItem m symbols) (HoldsItem (m ++ d ∷ []) symbols) (λ y k. Holds-append m (d ∷ []) symbols y.symbol y.content k) before holds in
      let longer : length (m ++ d ∷ []) ≡ length lemmas + length (before ++ x ∷ []) =
      omega (arith, length-append m (d ∷ []), length-append before (x ∷ []), size) in (
        shaped,
        items-shaped (m ++ d ∷ []) (before ++ x ∷ []) xs (IsSound-after m d sound (shaped-IsTypedAfter m sound d shaped))
            (record {
              symmetry = symbol_type-append m (d ∷ []) sym_symbol _ has.symmetry;
              transitivity =
                  symbol_type-append m (d ∷ []) trans_symbol _ has.transitivity;
            })
            longer (All-append (HoldsItem (m ++ d ∷ []) symbols) before (x ∷ []) old (new, tt {0})) h.3,
      )

  -- The module of items is shaped
  pub module-shaped : (xs : List Item) → AreItems symbols [] xs → AreShaped [] (module_of symbols xs)
  module-shaped xs h =
      AreShaped-append [] lemmas (map (declaration symbols) xs) (sym_lemma-shaped [], (trans_lemma-shaped _, tt {0}))
      (items-shaped lemmas [] xs (WellTyped-IsSound lemmas lemmas_typed) (record { symmetry = refl; transitivity = refl }) refl (tt {0}) h)

-- The module of what was made is shaped
pub made-shaped : (xs : List Item) → AreMade [] xs → AreShaped [] (module_of (symbols_of xs) xs)
made-shaped xs h = module-shaped (symbols_of xs) xs (items-made [] xs h)

-- it is shaped
pub reached-shaped : (roots : List Key) (made : List Item) → AreMadeInOrder [] made → AreShaped [] (reached roots made)
reached-shaped roots made h = made-shaped (image_items (keep_of roots made) made)
    (image-made (keep_of roots made) [] made refl (made-numbered roots [] made (tt {0}) h))

-- Well typed, by the shapes alone
pub reached-WellTyped : (roots : List Key) (made : List Item) → AreMadeInOrder [] made → WellTyped (reached roots made)
reached-WellTyped roots made h = shaped-WellTyped (reached roots made) (reached-shaped roots made h)
