-- Wherever a body of a run's module uses a declaration whose type stands for a closed sequent, it applies it to exactly as many arguments
-- as the sequent has parameters: what vanishes is filled, and hypotheses that became one are passed for each that they were.
use Rattle.std.proofs.Common.{◌≡◌, ℕ, zero, suc, ◌+◌, ◌<◌, ◌≤◌, inl, inr, List, [], ◌∷◌, map, length, Bool, true, false, cond, Some, slice_get, refl, sym, ap, subst, ◌∙◌, arith}
use Rattle.article_spec.specs.Run.{accepted, Run}
use Rattle.hol_spec.specs.Names.{Name}
use Rattle.hol_spec.specs.NameEquality.{name_eq}
use Rattle.hol_spec.specs.Types.{type_variables, HolType}
use Rattle.hol_spec.specs.Primitives.{arrow_name, bool_name, ind_name, equality_name, select_name}
use Rattle.hol_spec.specs.Sequents.{Sequent, parameter_count}
use Rattle.hol_spec.specs.ClosedForm.{ClosedSequent}
use Rattle.hol_spec.specs.Proofs.{Accepted}
use Rattle.hol_spec.specs.Lists.{IsIn}
use Rattle.lp_spec.specs.Trees.{Tree, Var}
use Rattle.lp_spec.specs.Modules.{Declaration, signature, abstractions, types, sub_symbol, sub_abs_symbol, sub_rep_symbol}
use Rattle.lp_spec.specs.ModuleOrder as order
use Rattle.lp_spec.specs.Lemmas.{sym_lemma, trans_lemma, sym_domains, sym_proof, trans_domains, trans_proof}
use Rattle.translate_spec.specs.Scopes.{SymbolMap, under_types, unfilled, filled, term_tree, scope_of, domains_of}
use Rattle.translate_spec.specs.Enc.{Enc}
use Rattle.translate_spec.specs.Items.{Content, operator, constant, defined_constant, type_operator, type_abstraction, type_representation, unproved, step, Item, says, declaration, declaration_of, is_operator, is_constant, first_symbol, symbols_of, module_of, part_definition_tree}
use Rattle.translate_spec.specs.Rows.{proof_tree}
use Rattle.translate_spec.specs.MadeItems.{items_of, roots_of}
use Rattle.translate_spec.specs.Reach.{keep_of, image_items}
use Rattle.translate_spec.specs.Image.{name_in, image}
use Rattle.translate_laws.specs.ItemConditions.{ArePremisesAmong, IsContent}
use Rattle.translate_laws.specs.KeptModules.{image-made}
use Rattle.translate_laws.specs.MadeModules.{AreMade}
use Rattle.translate_laws.specs.WantedItems.{made-numbered}
use Rattle.image_laws.specs.AcceptedRuns.{runs_are_carried}
use Rattle.image_reach_laws.specs.ModuleItems.{item-placed, item-asked}
use Rattle.image_reach_laws.specs.PlaceCounts.{IsAppliedTo, lacking-applied, lacking-all, small-lacks, abstracted-applied}
use Rattle.image_reach_laws.specs.LackingTrees.{IsApart, under_types-lack, unfilled-lack, filled-applies, term_tree-lacks, types-lack, domains_of-lack, scope_of-applies}
use Rattle.image_reach_laws.specs.CountedRows.{AllFit, IsCounted, proof-right, part-right}
use Rattle.image_reach_laws.specs.ParameterCounts.{closed_parameter_count, Enc-domain_count, SaysCounted, declared-says}
use Rattle.std.proofs.lemmas.Option.{same_Some}
use Rattle.hol_spec.specs.NewTypes.{abstraction_type, representation_type}
use Rattle.translate_spec.specs.ProofTrees.{part_tree}
use Rattle.image_laws.specs.Standing.{roots}

-- the symbol of the first item that passes a test
data FirstSymbol (test : Content → Bool) (xs : List Item) (s : ℕ) : Type 0 where
  an_item : (x : Item) → IsIn xs x → test x.content ≡ true → s ≡ x.symbol → FirstSymbol test xs s
  no_item : s ≡ 0 → FirstSymbol test xs s

first-symbol : (test : Content → Bool) (xs : List Item) (s : ℕ) → s ≡ first_symbol test xs → FirstSymbol test xs s
first-symbol test [] s e = FirstSymbol.no_item e
first-symbol test (x ∷ xs) s e = go (test x.content) refl e (first-symbol test xs s)
  where
    later : FirstSymbol test xs s → FirstSymbol test (x ∷ xs) s
    later (FirstSymbol.an_item y i t n) = FirstSymbol.an_item y (inr i) t n
    later (FirstSymbol.no_item n) = FirstSymbol.no_item n

    go : (b : Bool) → test x.content ≡ b → s ≡ cond b x.symbol (first_symbol test xs) → (s ≡ first_symbol test xs → FirstSymbol test xs s)
        → FirstSymbol test (x ∷ xs) s
    go true t n rest = FirstSymbol.an_item x (inl refl) t n
    go false t n rest = later (rest n)

-- what says a sequent is no operator and no constant
no-operator : (n : Name) (k : ℕ) (c : Content) (q : Sequent) → is_operator n k c ≡ true → says c ≡ Some q → ⊥
no-operator n k (operator m j) q t e = absurd (cc)
no-operator n k (constant m a) q t e = absurd (cc)
no-operator n k (defined_constant m a u) q t e = absurd (cc)
no-operator n k (type_operator names c f j one) q t e = absurd (cc)
no-operator n k (type_abstraction names c f j one) q t e = absurd (cc)
no-operator n k (type_representation names c f j one) q t e = absurd (cc)
no-operator n k (unproved r) q t e = absurd (cc)
no-operator n k (step kind js ss g r) q t e = absurd (cc)

no-constant : (n : Name) (c : Content) (q : Sequent) → is_constant n c ≡ true → says c ≡ Some q → ⊥
no-constant n (operator m j) q t e = absurd (cc)
no-constant n (constant m a) q t e = absurd (cc)
no-constant n (defined_constant m a u) q t e = absurd (cc)
no-constant n (type_operator names c f j one) q t e = absurd (cc)
no-constant n (type_abstraction names c f j one) q t e = absurd (cc)
no-constant n (type_representation names c f j one) q t e = absurd (cc)
no-constant n (unproved r) q t e = absurd (cc)
no-constant n (step kind js ss g r) q t e = absurd (cc)

-- a declaration of a module is a lemma or an item's
data IsOf (xs : List Item) (d : Declaration) : Type 0 where
  first_lemma : sym_lemma ≡ d → IsOf xs d
  second_lemma : trans_lemma ≡ d → IsOf xs d
  an_item : (z : Item) → IsIn xs z → declaration (symbols_of xs) z ≡ d → IsOf xs d

item-at : (symbols : SymbolMap) (xs : List Item) (i : ℕ) (d : Declaration) → slice_get (map (declaration symbols) xs) i ≡ Some d
    → (z : Item) × IsIn xs z × (declaration symbols z ≡ d)
item-at symbols [] i d e = absurd (cc)
item-at symbols (x ∷ xs) zero d e = (x, inl refl, same_Some _ _ e)
item-at symbols (x ∷ xs) (suc i) d e = let r = item-at symbols xs i d e in (r.0, inr r.1, r.2)

declared-of : (xs : List Item) (i : ℕ) (d : Declaration) → slice_get (module_of (symbols_of xs) xs) i ≡ Some d → IsOf xs d
declared-of xs zero d e = IsOf.first_lemma (same_Some _ _ e)
declared-of xs (suc zero) d e = IsOf.second_lemma (same_Some _ _ e)
declared-of xs (suc (suc i)) d e = let r = item-at (symbols_of xs) xs i d e in IsOf.an_item r.0 r.1 r.2

-- the symbols of the bodies of the lemmas
abbrev sym_body : Tree
sym_body = abstractions sym_domains (sym_proof (Var 3) (Var 2) (Var 1) (Var 0))

abbrev trans_body : Tree
trans_body = abstractions trans_domains (trans_proof (Var 5) (Var 4) (Var 3) (Var 2) (Var 1) (Var 0))

sym_body-small : order.symbols sym_body ≤ 13
sym_body-small = omega arith

trans_body-small : order.symbols trans_body ≤ 13
trans_body-small = omega arith

module _ (xs : List Item) (made : AreMade [] xs) (j : ℕ) (e : Declaration) (closed : ClosedSequent) (at : slice_get (module_of (symbols_of xs) xs) j ≡ Some e)
    (stands : Enc (module_of (symbols_of xs) xs) closed e.ty) where
  abbrev m : List Declaration
  m = module_of (symbols_of xs) xs

  abbrev symbols : SymbolMap
  symbols = symbols_of xs

  abbrev s : ℕ
  s = length signature + j

  abbrev n : ℕ
  n = closed_parameter_count closed

  -- the item of the symbol says a sequent of as many parameters
  told : (y : Item) → IsIn xs y → s ≡ y.symbol → SaysCounted y.content n
  told y i same =
      let p = item-placed xs made y i in
      let place = p.symbol in
      let number : p.number ≡ j = omega (arith, place, same) in
      let is : e ≡ declaration symbols y = same_Some _ _ (sym at ∙ ap (slice_get m) (sym number) ∙ p.at) in
      declared-says m symbols closed y.name y.content (subst (λ (d : Declaration). Enc m closed d.ty) is stands)

  -- so it stands for no operator and no constant
  not-operator : (o : Name) (k : ℕ) → s ≡ first_symbol (is_operator o k) xs → ⊥
  not-operator o k same = elim (first-symbol (is_operator o k) xs s same) [
    | FirstSymbol.an_item x i t number ↦ let q = told x i number in no-operator o k x.content q.sequent t q.said
    | FirstSymbol.no_item number ↦ absurd (omega (arith, number))
  ]

  not-constant : (o : Name) → s ≡ first_symbol (is_constant o) xs → ⊥
  not-constant o same = elim (first-symbol (is_constant o) xs s same) [
    | FirstSymbol.an_item x i t number ↦ let q = told x i number in no-constant o x.content q.sequent t q.said
    | FirstSymbol.no_item number ↦ absurd (omega (arith, number))
  ]

  apart : IsApart symbols s
  apart = record {
    high = omega arith;
    operator = λ o k. operator-apart o k (name_eq o arrow_name) (name_eq o bool_name) (name_eq o ind_name);
    constant = λ o. constant-apart o (name_eq o equality_name) (name_eq o select_name);
  }
    where
      operator-apart : (o : Name) (k : ℕ) (a b c : Bool) → s ≡ cond a 3 (cond b 1 (cond c 2 (first_symbol (is_operator o k) xs))) → ⊥
      operator-apart o k true b c same = absurd (omega (arith, same))
      operator-apart o k false true c same = absurd (omega (arith, same))
      operator-apart o k false false true same = absurd (omega (arith, same))
      operator-apart o k false false false same = not-operator o k same

      constant-apart : (o : Name) (a b : Bool) → s ≡ cond a 5 (cond b 6 (first_symbol (is_constant o) xs)) → ⊥
      constant-apart o true b same = absurd (omega (arith, same))
      constant-apart o false true same = absurd (omega (arith, same))
      constant-apart o false false same = not-constant o same

  -- the lemmas
  lemma-count : (i k : ℕ) (d : Declaration) → slice_get m i ≡ Some d → (Enc m closed d.ty → k ≡ n) → s ≡ length signature + i → k ≡ n
  lemma-count i k d there f same =
      let number : i ≡ j = omega (arith, same) in
      let is : e ≡ d = same_Some _ _ (sym at ∙ ap (slice_get m) (sym number) ∙ there) in
      f (subst (λ (d : Declaration). Enc m closed d.ty) is stands)

  counted : IsCounted symbols s n
  counted = record {
    apart = apart;
    symmetry = λ same. lemma-count 0 4 sym_lemma refl (λ h. Enc-domain_count m closed sym_lemma.ty h) (omega (arith, same));
    transitivity = λ same. lemma-count 1 6 trans_lemma refl (λ h. Enc-domain_count m closed trans_lemma.ty h) (omega (arith, same));
  }

  -- premises fit
  premises-fit : (before : List Item) → ((x : Item) → IsIn before x → IsIn xs x) → (js : List ℕ) (qs : List Sequent) → ArePremisesAmong before js qs
      → AllFit s n js qs
  premises-fit before among [] qs h = tt
  premises-fit before among (i ∷ js) [] h = tt
  premises-fit before among (i ∷ js) (q ∷ qs) h = (
    λ same.
        let w = h.0 in
        let r = told w.0 (among w.0 w.1) (same ∙ sym w.2) in
        ap parameter_count (same_Some _ _ (sym w.3 ∙ r.said)) ∙ r.count,
    premises-fit before among js qs h.1,
  )

  -- what a type definition makes
  part-applied : (before : List Item) → ((x : Item) → IsIn before x → IsIn xs x) → (names : List Name) (r : ℕ) → r < length signature
      → (c : HolType) (i : ℕ) (one : Sequent) → ArePremisesAmong before (i ∷ []) (one ∷ []) → (t : Tree)
      → Some (part_definition_tree symbols names r c i one) ≡ Some t → IsAppliedTo s n 0 t
  part-applied before among names r l c i one h t b =
      let scope = under_types names unfilled in
      let fine = filled-applies symbols s apart n scope (under_types-lack symbols s apart names unfilled (unfilled-lack symbols s apart)) in
      subst (IsAppliedTo s n 0) (same_Some _ _ b)
      (abstracted-applied s n (map (λ m. types) names) (part_tree symbols (filled symbols scope) r c (i, one))
      (lacking-all s n (map (λ m. types) names) (types-lack symbols s apart n names))
      (part-right symbols s n counted (filled symbols scope) fine 0 r l c (i, one) (premises-fit before among (i ∷ []) (one ∷ []) h).0))

  content-applied : (before : List Item) → ((x : Item) → IsIn before x → IsIn xs x) → (name : List ℕ) (c : Content) → IsContent before c → (t : Tree)
      → (declaration_of symbols name c).body ≡ Some t
      → IsAppliedTo s n 0 t
  content-applied before among name (operator o k) h t b = absurd (cc)
  content-applied before among name (constant o a) h t b = absurd (cc)
  content-applied before among name (defined_constant o a u) h t b =
      let scope = under_types (type_variables a) unfilled in
      let fine = filled-applies symbols s apart n scope (under_types-lack symbols s apart (type_variables a) unfilled (unfilled-lack symbols s apart)) in
      subst (IsAppliedTo s n 0) (same_Some _ _ b)
      (abstracted-applied s n (map (λ m. types) (type_variables a)) (term_tree symbols (filled symbols scope) u)
      (lacking-all s n (map (λ m. types) (type_variables a)) (types-lack symbols s apart n (type_variables a)))
      (lacking-applied s n 0 (term_tree symbols (filled symbols scope) u) (term_tree-lacks symbols s apart n (filled symbols scope) fine u)))
  content-applied before among name (type_operator names c f i one) h t b =
      part-applied before among names.variables sub_symbol (omega arith) c i one h.among t b
  content-applied before among name (type_abstraction names c f i one) h t b =
      part-applied before among (type_variables (abstraction_type names c)) sub_abs_symbol (omega arith) c i one h.0.among t b
  content-applied before among name (type_representation names c f i one) h t b =
      part-applied before among (type_variables (representation_type names c)) sub_rep_symbol (omega arith) c i one h.0.among t b
  content-applied before among name (unproved q) h t b = absurd (cc)
  content-applied before among name (step kind js qs g q) h t b =
      subst (IsAppliedTo s n 0) (same_Some _ _ b)
      (abstracted-applied s n (domains_of symbols q) (proof_tree symbols (scope_of symbols q) kind js qs g)
      (lacking-all s n (domains_of symbols q) (domains_of-lack symbols s apart n q))
      (proof-right symbols s n counted (scope_of symbols q) (scope_of-applies symbols s apart n q) kind js qs g (premises-fit before among js qs h.0.among)))

  -- Each body applies it to so many arguments
  pub body-applied : (i : ℕ) (d : Declaration) (t : Tree) → slice_get m i ≡ Some d → d.body ≡ Some t → IsAppliedTo s n 0 t
  body-applied i d t there b = elim (declared-of xs i d there) [
    | IsOf.first_lemma is ↦
        subst (IsAppliedTo s n 0) (same_Some _ _ (ap (λ (d : Declaration). d.body) is ∙ b))
        (lacking-applied s n 0 sym_body (small-lacks s sym_body (let l = sym_body-small in omega (arith, l))))
    | IsOf.second_lemma is ↦
        subst (IsAppliedTo s n 0) (same_Some _ _ (ap (λ (d : Declaration). d.body) is ∙ b))
        (lacking-applied s n 0 trans_body (small-lacks s trans_body (let l = trans_body-small in omega (arith, l))))
    | IsOf.an_item z k is ↦
        let asked = item-asked xs made z k in
        content-applied asked.before asked.among z.name z.content asked.content t (ap (λ (d : Declaration). d.body) is ∙ b)
  ]

-- The law: wherever a body uses a theorem, it applies it to as many arguments as the theorem's closed form has parameters
-- (for the type of what is used is the product over these, in their order: type variables, free variables, hypotheses)
abbrev pub FilledAndMerged : Type 0
FilledAndMerged =
    (articles : List (List ℕ)) (run : Accepted) → Run articles (accepted run) → (j : ℕ) (e : Declaration) (closed : ClosedSequent) → slice_get (image run) j
    ≡ Some e → Enc (image run) closed e.ty
    → (i : ℕ) (d : Declaration) (body : Tree) → slice_get (image run) i ≡ Some d → d.body ≡ Some body
    → IsAppliedTo (length signature + j) (closed_parameter_count closed) 0 body

pub filled_and_merged : FilledAndMerged
filled_and_merged articles run r j e closed at stands i d body there b =
    let items = items_of (name_in run) run.made in
    let roots = roots_of (name_in run) run.made run.exports in
    let keep = keep_of roots items in
    let order = (runs_are_carried (name_in run) articles run r).in_order in
    let made = image-made keep [] items refl (made-numbered roots [] items (tt {0}) order) in
    body-applied (image_items keep items) made j e closed at stands i d body there b
