-- The module of every accepted run is small: no declaration weighs more than 2^40, so no bound is cut off, and the check of each ends within
-- its bound.
use Rattle.std.proofs.Common.{◌≡◌, ℕ, zero, suc, ◌+◌, ◌*◌, ◌≤◌, ◌^◌, List, [], ◌∷◌, ◌++◌, append_assoc, map, length, Some, refl, sym, ap, subst, ◌∙◌, arith}
use Rattle.std.specs.Prelude.{replicate, slice_get}
use Rattle.std.specs.List.{AllByRecursion}
use Rattle.std.proofs.lemmas.List.{length-append, append-nil}
use Rattle.std.proofs.lemmas.Nat.{mul-le}
use Rattle.hol_spec.specs.Names.{Name}
use Rattle.hol_spec.specs.Types.{HolType, type_variables}
use Rattle.hol_spec.specs.Limits.{term_size, greatest_parameter_count, SequentWithin}
use Rattle.hol_spec.specs.Terms.{Term, Variable}
use Rattle.hol_spec.specs.Sequents.{Sequent, type_variables_of, free_variables_of}
use Rattle.hol_spec.specs.Definitions.{TypeNames}
use Rattle.hol_spec.specs.NewTypes.{abstraction_type, representation_type}
use Rattle.hol_spec.specs.TypeDefinitions.{IsTypeDefinition}
use Rattle.hol_spec.specs.Proofs.{Accepted}
use Rattle.hol_laws.specs.Members.{All-append, All-left, All-weaker}
use Rattle.hol_proof_laws.specs.ProofGrowth.{All-get}
use Rattle.article_spec.specs.Run.{accepted, Run}
use Rattle.lp_spec.specs.Trees.{size}
use Rattle.lp_spec.specs.Modules.{Declaration, signature, symbol_declaration, types, term_of, sub_symbol, sub_abs_symbol, sub_rep_symbol}
use Rattle.lp_spec.specs.Lemmas.{lemmas, sym_lemma, trans_lemma}
use Rattle.lp_spec.specs.Weight.{weight, greatest, bound}
use Rattle.lp_spec.specs.Check.{Found, Check}
use Rattle.translate_spec.specs.Scopes.{SymbolMap, type_tree, Scope, term_tree, under_term, under_proof, under_types, unfilled, filled, term_domains, proof_domains, scope_of_types, scope_of_terms, scope_of, domains_of, conclusion_tree, generic_tree}
use Rattle.translate_spec.specs.ProofTrees.{part_tree}
use Rattle.translate_spec.specs.Rows.{proof_tree}
use Rattle.translate_spec.specs.Items.{Content, Item, operator, constant, defined_constant, type_operator, type_abstraction, type_representation, unproved, step, definition_tree, part_definition_tree, declaration_of, declaration, symbols_of}
use Rattle.translate_spec.specs.Image.{name_in, image}
use Rattle.translate_laws.specs.ScopeTyping.{TypeOver, TermOver, TypeOver-type_under}
use Rattle.translate_laws.specs.SequentScope.{SequentOver, variables-over}
use Rattle.translate_laws.specs.Bodies.{HasLemmas}
use Rattle.translate_laws.specs.ItemConditions.{IsContent, AreItems, ArePremisesAmong}
use Rattle.translate_laws.specs.MadeModules.{items-made}
use Rattle.translate_laws.specs.ModuleTyping.{HoldsItem, Holds-append, TypeOver-taken, TermOver-taken, SequentOver-taken, ArePremises-among, defined_among, slice_get-last, content-holds}
use Rattle.lp_check_laws.specs.PricedModules.{IsPriced-bound}
use Rattle.image_laws.specs.AcceptedRuns.{runs_are_carried}
use Rattle.image_bound_laws.specs.SymbolLimits.{DefinitionWithin, GenericWithin}
use Rattle.image_bound_laws.specs.FittingItems.{ContentFits, AreFittingItems, kept_items, kept-made, kept-fit}
use Rattle.image_bound_laws.specs.Sums.{sums}
use Rattle.image_bound_laws.specs.TermSizes.{variable_size, variables-size, terms-size}
use Rattle.image_bound_laws.specs.Costs.{Plain, cost, total, total-append, cost-products, cost-abstractions, plain-cost}
use Rattle.image_bound_laws.specs.SmallScopes.{IsPlainScope, under_term-plain, under_proof-plain, under_types-plain, under_terms-plain, filled-plain, scope_of_types-plain, scope_of-plain, type_tree-cost, term_tree-cost}
use Rattle.image_bound_laws.specs.SmallTheorems.{part_cost}
use Rattle.image_bound_laws.specs.HeadCosts.{IsPartBound, sub-cost, sub_abs-cost, sub_rep-cost}
use Rattle.image_bound_laws.specs.SmallParts.{named_part_cost, part_tree-cost}
use Rattle.image_bound_laws.specs.SmallPremises.{IsSmallPremise, conclusion-small, tm-cost}
use Rattle.image_bound_laws.specs.SmallProofs.{proof_tree-cost}

-- what a declaration weighs at most
abbrev pub greatest_weight : ℕ
greatest_weight = 2 ^ 40

-- binders of `type`
types-total : (m : List Declaration) (ns : List Name) → total m (map (λ (n : Name). types) ns) ≤ 3 * length ns
types-total m [] = omega arith
types-total m (n ∷ ns) =
    let one = plain-cost m [] types Plain.nothing in
    let rest = types-total m ns in
    omega (arith, one, rest)

replicate-total : (m : List Declaration) (k : ℕ) → total m (replicate k types) ≤ 3 * k
replicate-total m zero = omega arith
replicate-total m (suc k) =
    let one = plain-cost m [] types Plain.nothing in
    let rest = replicate-total m k in
    omega (arith, one, rest)

module _ (m : List Declaration) (symbols : SymbolMap) where
  variables-total : (vs : List Variable) (scope : Scope) → IsPlainScope symbols scope → AllByRecursion (λ v. TypeOver m symbols v.1) vs
      → total m (term_domains symbols vs scope) ≤ 4 * sums variable_size vs
  variables-total [] scope h o = omega arith
  variables-total (v ∷ vs) scope h o =
      let one = type_tree-cost m symbols scope.types h.types [] v.1 o.0 in
      let rest = variables-total vs (under_term v scope) (under_term-plain symbols v scope h) o.1 in
      omega (arith, one, rest)

  proofs-total : (hs : List Term) (scope : Scope) → IsPlainScope symbols scope → AllByRecursion (TermOver m symbols) hs
      → total m (proof_domains symbols hs scope) ≤ 24 * sums term_size hs + 7 * length hs
  proofs-total [] scope h o = omega arith
  proofs-total (p ∷ ps) scope h o =
      let one = term_tree-cost m symbols [] scope h p o.0 in
      let rest = proofs-total ps (under_proof p scope) (under_proof-plain symbols p scope h) o.1 in
      omega (arith, one, rest)

  -- the telescope of a sequent, and its conclusion
  domains-total : (s : Sequent) → SequentOver m symbols s → SequentWithin s → total m (domains_of symbols s) ≤ 2 * part_cost
  domains-total s over within =
      let scope = scope_of_types symbols s in
      let h = scope_of_types-plain symbols s in
      let ts = map (λ (n : Name). types) (type_variables_of s) in
      let us = term_domains symbols (free_variables_of s) scope in
      let ps = proof_domains symbols s.hypotheses (scope_of_terms symbols s) in
      let one = total-append m (ts ++ us) ps in
      let two = total-append m ts us in
      let of_types = types-total m (type_variables_of s) in
      let of_terms = variables-total (free_variables_of s) scope h (variables-over m symbols s over) in
      let of_proofs = proofs-total s.hypotheses (scope_of_terms symbols s) (under_terms-plain symbols (free_variables_of s) scope h) over.hypotheses in
      let variables = variables-size s in
      let sizes = terms-size s in
      let size = within.size in
      let most = within.parameters in
      omega (arith, one, two, of_types, of_terms, of_proofs, variables, sizes, size, most)

  conclusion-cost : (s : Sequent) → SequentOver m symbols s → SequentWithin s → cost m [] (conclusion_tree symbols s) ≤ part_cost
  conclusion-cost s over within = let l = tm-cost m symbols (scope_of symbols s) (scope_of-plain symbols s) s.conclusion
      (conclusion-small m symbols s over within) in omega (arith, l)

  under_types-here : (a : HolType) (n : Name) → Plain (under_types (type_variables a) unfilled n)
  under_types-here a n = under_types-plain symbols (type_variables a) unfilled (λ k. Plain.truth) n

  generic_tree-cost : (a : HolType) → TypeOver m symbols a → GenericWithin a → cost m [] (generic_tree symbols a) ≤ part_cost
  generic_tree-cost a o h =
      let scope = under_types (type_variables a) unfilled in
      let own = type_tree-cost m symbols scope (under_types-here a) [] a o in
      let whole = cost-products m (map (λ (n : Name). types) (type_variables a)) (term_of (type_tree symbols scope a)) in
      let front = types-total m (type_variables a) in
      let size = h.size in
      let most = h.variables in
      omega (arith, own, whole, front, size, most)

  definition_tree-cost : (a : HolType) (t : Term) → TermOver m symbols t → GenericWithin a → DefinitionWithin t
      → cost m [] (definition_tree symbols a t) ≤ 2 * part_cost
  definition_tree-cost a t o h d =
      let scope = filled symbols (under_types (type_variables a) unfilled) in
      let own = term_tree-cost m symbols [] scope (filled-plain symbols (under_types (type_variables a) unfilled) (under_types-here a)) t o in
      let whole = cost-abstractions m (map (λ (n : Name). types) (type_variables a)) (term_tree symbols scope t) in
      let front = types-total m (type_variables a) in
      let size = d.within.size in
      let most = h.variables in
      omega (arith, own, whole, front, size, most)

  part_definition-cost : (ns : List Name) (i : ℕ) → IsPartBound m part_cost [] i → (names : TypeNames) (c : HolType) (f : Term) (j : ℕ) (one : Sequent)
      → length ns ≤ greatest_parameter_count → IsTypeDefinition names c f one → IsSmallPremise m symbols j one
      → cost m [] (part_definition_tree symbols ns i c j one) ≤ part_cost + named_part_cost
  part_definition-cost ns i b names c f j one l d v =
      let scope = filled symbols (under_types ns unfilled) in
      let own = part_tree-cost m symbols names c f j one d v scope
      (filled-plain symbols (under_types ns unfilled) (λ n. under_types-plain symbols ns unfilled (λ k. Plain.truth) n)) [] i b in
      let whole = cost-abstractions m (map (λ (n : Name). types) ns) (part_tree symbols scope i c (j, one)) in
      let front = types-total m ns in
      omega (arith, own, whole, front, l)

  -- The declaration of an item
  module _ (has : HasLemmas m) (before : List Item) (holds : AllByRecursion (HoldsItem m symbols) before) where
    premise-here : (j : ℕ) (one : Sequent) → ArePremisesAmong before (j ∷ []) (one ∷ []) → SequentWithin one → IsSmallPremise m symbols j one
    premise-here j one a w = record { is = (ArePremises-among m symbols before holds (j ∷ []) (one ∷ []) a).0; within = w }

    content-weight : (name : List ℕ) (c : Content) → IsContent before c → ContentFits c → weight m (declaration_of symbols name c) ≤ greatest_weight
    content-weight name (operator n k) i h =
        let whole = cost-products m (replicate k types) types in
        let front = replicate-total m k in
        let last = plain-cost m [] types Plain.nothing in
        omega (arith, whole, front, last, h)
    content-weight name (constant n a) i h = let l = generic_tree-cost a (TypeOver-taken m symbols before holds a i) h in omega (arith, l)
    content-weight name (defined_constant n a t) i h =
        let o = TermOver-taken m symbols before holds t i.taken in
        let l = generic_tree-cost a (TypeOver-type_under m symbols [] (λ k b e. absurd (cc)) t a o i.typed) h.0 in
        let k = definition_tree-cost a t o h.0 h.1 in
        omega (arith, l, k)
    content-weight name (type_operator names c f j one) i h =
        let whole = cost-products m (replicate (length names.variables) types) types in
        let front = replicate-total m (length names.variables) in
        let last = plain-cost m [] types Plain.nothing in
        let body = part_definition-cost names.variables sub_symbol (sub-cost m part_cost) names c f j one h.0 h.1 (premise-here j one i.among h.2) in
        let few = h.0 in
        omega (arith, whole, front, last, few, body)
    content-weight name (type_abstraction names c f j one) i h =
        let l = generic_tree-cost (abstraction_type names c) (TypeOver-taken m symbols before holds (abstraction_type names c) i.1) h.0 in
        let body = part_definition-cost (type_variables (abstraction_type names c)) sub_abs_symbol (sub_abs-cost m part_cost) names c f j one h.0.variables h.1
        (premise-here j one i.0.among h.2) in
        omega (arith, l, body)
    content-weight name (type_representation names c f j one) i h =
        let l = generic_tree-cost (representation_type names c) (TypeOver-taken m symbols before holds (representation_type names c) i.1) h.0 in
        let body = part_definition-cost (type_variables (representation_type names c)) sub_rep_symbol (sub_rep-cost m part_cost) names c f j one h.0.variables
        h.1 (premise-here j one i.0.among h.2) in
        omega (arith, l, body)
    content-weight name (unproved s) i h =
        let over = SequentOver-taken m symbols before holds s i in
        let whole = cost-products m (domains_of symbols s) (conclusion_tree symbols s) in
        let front = domains-total s over h in
        let last = conclusion-cost s over h in
        omega (arith, whole, front, last)
    content-weight name (step kind js premises given s) i h =
        let over = SequentOver-taken m symbols before holds s i.0.taken in
        let front = domains-total s over h.2 in
        let last = conclusion-cost s over h.2 in
        let whole = cost-products m (domains_of symbols s) (conclusion_tree symbols s) in
        let row = proof_tree-cost m has symbols (scope_of symbols s) (scope_of-plain symbols s) kind js premises given s h.0
        (ArePremises-among m symbols before holds js premises i.0.among) (defined_among m symbols before holds kind js premises given i.1) over h.1 h.2 in
        let body = cost-abstractions m (domains_of symbols s) (proof_tree symbols (scope_of symbols s) kind js premises given) in
        omega (arith, whole, front, last, row, body)

module _ (symbols : SymbolMap) where
  -- the module has what each of its items says
  items-hold : (m : List Declaration) (before xs : List Item) → length m ≡ length lemmas + length before → AllByRecursion (HoldsItem m symbols) before
      → AreItems symbols before xs
      → AllByRecursion (HoldsItem (m ++ map (declaration symbols) xs) symbols) (before ++ xs)
  items-hold m before [] size holds h = subst (λ l. AllByRecursion (HoldsItem l symbols) (before ++ [])) (sym (append-nil m))
      (subst (AllByRecursion (HoldsItem m symbols)) (sym (append-nil before)) holds)
  items-hold m before (x ∷ xs) size holds h =
      let d = declaration symbols x in
      let place : x.symbol ≡ length signature + length m = h.0 ∙ ap (λ k. length signature + k) (sym size) in
      let declared : symbol_declaration (m ++ d ∷ []) x.symbol ≡ Some d = ap (symbol_declaration (m ++ d ∷ [])) place ∙ slice_get-last signature m d in
      let new : HoldsItem (m ++ d ∷ []) symbols x = content-holds symbols m before x.symbol x.name x.content holds h.2 h.1 declared in
      let old : AllByRecursion (HoldsItem (m ++ d ∷ []) symbols) before =
      All-weaker (HoldsItem m symbols) (HoldsItem (m ++ d ∷ []) symbols) (λ y k. Holds-append m (d ∷ []) symbols y.symbol y.content k) before holds in
      let longer : length (m ++ d ∷ []) ≡ length lemmas + length (before ++ x ∷ []) =
      omega (arith, length-append m (d ∷ []), length-append before (x ∷ []), size) in
      subst (λ l. AllByRecursion (HoldsItem l symbols) (before ++ x ∷ xs)) (append_assoc m (d ∷ []) (map (declaration symbols) xs))
      (subst (AllByRecursion (HoldsItem ((m ++ d ∷ []) ++ map (declaration symbols) xs) symbols)) (append_assoc before (x ∷ []) xs)
      (items-hold (m ++ d ∷ []) (before ++ x ∷ []) xs longer (All-append (HoldsItem (m ++ d ∷ []) symbols) before (x ∷ []) old (new, tt {0})) h.3))

  declarations-weight : (m : List Declaration) → HasLemmas m → (before xs : List Item) → AllByRecursion (HoldsItem m symbols) (before ++ xs)
      → AreItems symbols before xs → AreFittingItems xs
      → AllByRecursion (λ d. weight m d ≤ greatest_weight) (map (declaration symbols) xs)
  declarations-weight m has before [] holds h k = tt
  declarations-weight m has before (x ∷ xs) holds h k = (
    content-weight m symbols has before (All-left (HoldsItem m symbols) before (x ∷ xs) holds) x.name x.content h.2 k.0,
    declarations-weight m has (before ++ x ∷ []) xs (subst (AllByRecursion (HoldsItem m symbols)) (sym (append_assoc before (x ∷ []) xs)) holds) h.3 k.1,
  )

-- the two lemmas weigh little in every module
lemmas-weight : (m : List Declaration) → (weight m sym_lemma ≤ greatest_weight) × (weight m trans_lemma ≤ greatest_weight)
lemmas-weight m = (omega arith, omega arith)

pub run-weights : (articles : List (List ℕ)) (run : Accepted) → Run articles (accepted run)
    → AllByRecursion (λ d. weight (image run) d ≤ greatest_weight) (image run)
run-weights articles run r =
    let items = kept_items run in
    let symbols = symbols_of items in
    let made = items-made [] items (kept-made articles run r) in
    let two = lemmas-weight (image run) in (
      two.0,
      (
        two.1,
        declarations-weight symbols (image run) (record { symmetry = refl; transitivity = refl }) [] items
            (items-hold symbols lemmas [] items refl (tt {0}) made) made (kept-fit articles run r),
      ),
    )

-- 64 times the cube of such a weight is no u128 too great
cube : (w : ℕ) → w ≤ greatest_weight → 64 * (w * w * w) ≤ greatest
cube w l =
    let two = mul-le w w (2 ^ 40) (2 ^ 40) l l in
    let three = mul-le (w * w) w (2 ^ 80) (2 ^ 40) two l in
    omega (arith, three)

-- The law: no bound is cut off
abbrev pub RunsAreBounded : Type 0
RunsAreBounded = (articles : List (List ℕ)) (run : Accepted) → Run articles (accepted run) → (i : ℕ) (d : Declaration) → slice_get (image run) i ≡ Some d
    → 64 * (weight (image run) d * weight (image run) d * weight (image run) d) ≤ greatest

pub runs_are_bounded : RunsAreBounded
runs_are_bounded articles run r i d e = cube (weight (image run) d)
    (All-get (λ d. weight (image run) d ≤ greatest_weight) (image run) i d (run-weights articles run r) e)

-- the check of a declaration finds its type, within the bound that is written
pub record IsWithinBound (m : List Declaration) (i : ℕ) (d : Declaration) : Type 0 where
  pub price : ℕ
  pub check : Check m i (Found d.ty) price
  pub within : price ≤ bound m d

-- The law: each check ends within its bound
abbrev pub RunsAreWithinBounds : Type 0
RunsAreWithinBounds = (articles : List (List ℕ)) (run : Accepted) → Run articles (accepted run) → (i : ℕ) (d : Declaration) → slice_get (image run) i ≡ Some d
    → IsWithinBound (image run) i d

pub runs_are_within_bounds : RunsAreWithinBounds
runs_are_within_bounds articles run r i d e =
    let p = (runs_are_carried (name_in run) articles run r).priced i d e in
    record { price = p.price; check = p.check; within = IsPriced-bound (image run) i d p (runs_are_bounded articles run r i d e) }
