-- What is declared so far of a run's module tells each symbol that the next item mentions.
use Rattle.std.proofs.Common.{◌≡◌, ℕ, zero, suc, List, [], ◌∷◌, ◌++◌, true, Some, slice_get, refl, sym, ap, subst, subst₂, ◌∙◌}
use Rattle.std.specs.List.{AllByRecursion}
use Rattle.std.proofs.lemmas.Option.{same_Some}
use Rattle.hol_spec.specs.DefinitionLists.{ConstantPairs, is_definition_list, constants_put}
use Rattle.hol_spec.specs.Lists.{IsIn}
use Rattle.hol_spec.specs.Names.{Name}
use Rattle.hol_spec.specs.Primitives.{function}
use Rattle.hol_spec.specs.Proofs.{Made, IsProof, Accepted}
use Rattle.hol_spec.specs.Proofs as proof
use Rattle.hol_spec.specs.NewTypes.{abstraction_type, representation_type}
use Rattle.hol_spec.specs.Rules.{Rule, Parameters}
use Rattle.hol_spec.specs.Rules as rule
use Rattle.hol_spec.specs.Sequents.{Sequent, free_variables_of}
use Rattle.hol_spec.specs.Substitution.{Instance}
use Rattle.hol_spec.specs.Terms as term
use Rattle.hol_spec.specs.Terms.{Term, Variable, type_under}
use Rattle.hol_spec.specs.Types as type
use Rattle.hol_spec.specs.Types.{HolType, HolTypes, count}
use Rattle.hol_spec.specs.declared.StepKind.{StepKind}
use Rattle.hol_laws.specs.Members.{All-at, All-each, All-weaker}
use Rattle.hol_laws.specs.TermSubstitutionLaws.{application_type-is, abstraction_type-is}
use Rattle.lp_spec.specs.Modules.{Declaration}
use Rattle.translate_laws.specs.ItemConditions.{Has, OperatorTaken, ConstantTaken, TypeTaken, TypesTaken, TermTaken, SequentTaken, ArePremisesAmong, IsDefining, IsDefinedBy, DefinesAmong, IsContent}
use Rattle.translate_laws.specs.ItemConditions as items
use Rattle.translate_laws.specs.MadeModules.{AreMade, items-made}
use Rattle.translate_laws.specs.ModuleTyping.{HoldsItem, held, TermOver-taken}
use Rattle.translate_spec.specs.Items.{Content, operator, constant, defined_constant, type_operator, type_abstraction, type_representation, unproved, step, Item, says, symbols_of, module_of}
use Rattle.translate_spec.specs.Scopes.{SymbolMap, operator_symbol, constant_symbol}
use Rattle.hol_proof_laws.specs.RuleTaken.{list_parts}
use Rattle.hol_proof_laws.specs.SymbolGrowth.{Instance-own}
use Rattle.image_laws.specs.NewNames.{constant_named}
use Rattle.image_laws.specs.Origins.{made-origins}
use Rattle.image_laws.specs.RunModules.{items-named}
use Rattle.image_reach_laws.specs.ListedVariables.{listed-free, listed-variable, constant-put, put-from}
use Rattle.image_reach_laws.specs.ModuleItems.{item-asked}
use Rattle.translate_laws.specs.HeldItems.{items-front, module-holds}
use Rattle.image_items_laws.specs.ItemNames.{HasItemName, kept-named}
use Rattle.image_items_laws.specs.MadeInOrder.{kept-made, next-made}
use Rattle.image_items_laws.specs.Making.{made_items, is_kept, kept_items, NextTells}
use Rattle.translate_term.specs.Told.{told_operator, told_constant, TellsType, TellsTypes, TellsTerm}
use Rattle.image_items_laws.specs.Told.{TellsSequent, TellsGiven, TellsContent}
use Rattle.image_items_laws.specs.ToldKeys.{operator-primitive, constant-primitive, operator-told, part-told, constant-told, order-before}

-- the type of a term whose symbols are told
module _ (m : List Declaration) (symbols : SymbolMap) where
  type_under-told : (binders : List HolType) → ((k : ℕ) (a : HolType) → slice_get binders k ≡ Some a → TellsType m symbols a) → (t : Term) (a : HolType)
      → TellsTerm m symbols t → type_under binders t ≡ Some a → TellsType m symbols a
  type_under-told binders b (term.Term.free n t) a h e = subst (TellsType m symbols) (same_Some _ _ e) h
  type_under-told binders b (term.Term.bound k) a h e = b k a e
  type_under-told binders b (term.Term.constant n t) a h e = subst (TellsType m symbols) (same_Some _ _ e) h.ty
  type_under-told binders b (term.Term.app f x) a h e =
      let p = application_type-is (type_under binders f) (type_under binders x) a e in
      (type_under-told binders b f (function p.0 a) h.0 p.1.0).1.1.0
  type_under-told binders b (term.Term.lam t c) a h e =
      let p = abstraction_type-is t (type_under (t ∷ binders) c) a e in
      subst (TellsType m symbols) (sym p.1.1) (refl, (h.0, (type_under-told (t ∷ binders) (under t b h.0) c p.0 h.1 p.1.0, tt {0})))
    where
      under : (t : HolType) → ((k : ℕ) (a : HolType) → slice_get binders k ≡ Some a → TellsType m symbols a) → TellsType m symbols t → (k : ℕ) (a : HolType)
          → slice_get (t ∷ binders) k ≡ Some a → TellsType m symbols a
      under t b h zero a e = subst (TellsType m symbols) (same_Some _ _ e) h
      under t b h (suc k) a e = b k a e

-- what an item says asks for nothing but what is before it
said-taken : (before : List Item) (c : Content) (s : Sequent) → says c ≡ Some s → IsContent before c → SequentTaken before s
said-taken before (operator n k) s e h = absurd (cc)
said-taken before (constant n a) s e h = absurd (cc)
said-taken before (defined_constant n a t) s e h = absurd (cc)
said-taken before (type_operator names c u j one) s e h = absurd (cc)
said-taken before (type_abstraction names c u j one) s e h = absurd (cc)
said-taken before (type_representation names c u j one) s e h = absurd (cc)
said-taken before (unproved r) s e h = subst (SequentTaken before) (same_Some _ _ e) h
said-taken before (step kind js ss g r) s e h = subst (SequentTaken before) (same_Some _ _ e) h.0.taken

same_constant : (m n : Name) (t : HolType) → term.Term.constant m t ≡ term.Term.constant n t → m ≡ n
same_constant m n t e = cc

module _ (made : List Made) (is_proof : IsProof made) (xs before rest : List Item) (whole : xs ≡ before ++ rest) (order : AreMade [] xs)
    (named : AllByRecursion (HasItemName (proof.symbols_of made)) xs) where
  abbrev symbols : SymbolMap
  symbols = symbols_of xs

  abbrev m : List Declaration
  m = module_of symbols before

  here : AreMade [] before
  here = order-before made is_proof xs before rest whole order named

  holds : AllByRecursion (HoldsItem m symbols) before
  holds = module-holds symbols before (items-front symbols [] before rest (subst (items.AreItems symbols []) whole (items-made [] xs order)))

  -- what is over some of the items so far is told
  module _ (earlier : List Item) (among : (x : Item) → IsIn earlier x → IsIn before x) where
    held_earlier : AllByRecursion (HoldsItem m symbols) earlier
    held_earlier = All-each (HoldsItem m symbols) earlier (λ x i. All-at (HoldsItem m symbols) before x holds (among x i))

    operator-taken : (n : Name) (k : ℕ) → OperatorTaken earlier n k → told_operator m n k ≡ Some (operator_symbol symbols n k)
    operator-taken n k (items.OperatorTaken.primitive e) = operator-primitive m symbols n k k e
    operator-taken n k (items.OperatorTaken.declared h) = operator-told made is_proof xs before rest whole order named n k h.0 (among h.0 h.1) h.2
    operator-taken n k (items.OperatorTaken.part names c u j one h e f) =
        subst₂ (λ o l. told_operator m o l ≡ Some (operator_symbol symbols o l)) (sym e) (sym f)
        (part-told made is_proof xs before rest whole order named names c u j one h.0 (among h.0 h.1) h.2)

    constant-has : (n : Name) (c : Content) → constant_named c ≡ Some n → Has earlier c → told_constant m n ≡ Some (constant_symbol symbols n)
    constant-has n c e h = constant-told made is_proof xs before rest whole order named n h.0 (among h.0 h.1) (ap constant_named h.2 ∙ e)

    constant-taken : (n : Name) (t : HolType) → ConstantTaken earlier n t → told_constant m n ≡ Some (constant_symbol symbols n)
    constant-taken n t (items.ConstantTaken.primitive g e i) = constant-primitive m symbols n g e
    constant-taken n t (items.ConstantTaken.declared a h i) = constant-has n (constant n a) refl h
    constant-taken n t (items.ConstantTaken.defined a u h i) = constant-has n (defined_constant n a u) refl h
    constant-taken n t (items.ConstantTaken.abstraction names c u j one h e i) = constant-has n (type_abstraction names c u j one) (ap Some (sym e)) h
    constant-taken n t (items.ConstantTaken.representation names c u j one h e i) = constant-has n (type_representation names c u j one) (ap Some (sym e)) h

    mutual
      type-told : (t : HolType) → TypeTaken earlier t → TellsType m symbols t
      type-told (type.HolType.variable n) h = tt
      type-told (type.HolType.operator n ts) h = (operator-taken n (count ts) h.0, types-told ts h.1)

      types-told : (ts : HolTypes) → TypesTaken earlier ts → TellsTypes m symbols ts
      types-told type.HolTypes.none h = tt
      types-told (type.HolTypes.more t ts) h = (type-told t h.0, types-told ts h.1)

    term-told : (t : Term) → TermTaken earlier t → TellsTerm m symbols t
    term-told (term.Term.free n t) h = type-told t h
    term-told (term.Term.bound k) h = tt
    term-told (term.Term.constant n t) h =
        let over = TermOver-taken m symbols earlier held_earlier (term.Term.constant n t) h in
        record { named = constant-taken n t h.0; declared = over.declared; instance = over.instance; ty = type-told t h.1 }
    term-told (term.Term.app f x) h = (term-told f h.0, term-told x h.1)
    term-told (term.Term.lam t b) h = (type-told t h.0, term-told b h.1)

    sequent-told : (s : Sequent) → SequentTaken earlier s → TellsSequent m symbols s
    sequent-told s h = record {
      hypotheses = All-weaker (TermTaken earlier) (TellsTerm m symbols) term-told s.hypotheses h.hypotheses;
      conclusion =
          term-told s.conclusion h.conclusion;
    }

    -- the type of a term that defines a constant
    defined-told : (a : HolType) (t : Term) → IsDefining earlier a t → TellsType m symbols a
    defined-told a t h = type_under-told m symbols [] (λ k b e. absurd (cc)) t a (term-told t h.taken) h.typed

  -- the premises of a step, which items so far say
  premises-told : (js : List ℕ) (ss : List Sequent) → ArePremisesAmong before js ss → AllByRecursion (TellsSequent m symbols) ss
  premises-told [] [] h = tt
  premises-told [] (s ∷ ss) h = absurd h
  premises-told (j ∷ js) [] h = absurd h
  premises-told (j ∷ js) (s ∷ ss) h =
      let x = h.0.0 in
      let asked = item-asked before here x h.0.1 in
      (sequent-told asked.before asked.among s (said-taken asked.before x.content s h.0.3 asked.content), premises-told js ss h.1)

  -- a constant that is defined among them
  constant-defined : (n : Name) (a : HolType) (t : Term) → Has before (defined_constant n a t) → TellsTerm m symbols (term.Term.constant n a)
  constant-defined n a t h =
      let d = held m symbols before holds (defined_constant n a t) h in
      let asked = item-asked before here h.0 h.1 in
      record {
        named = constant-has before (λ x i. i) n (defined_constant n a t) refl h;
        declared = d.0;
        instance = subst (λ (g : HolType). Instance g a) (sym d.1.generic) (Instance-own a);
        ty = defined-told asked.before asked.among a t (subst (IsContent asked.before) h.2 asked.content);
      }

  -- the constants of a list are defined among them
  list-told : (pairs : ConstantPairs) (one : Sequent) → is_definition_list pairs one ≡ true
      → AllByRecursion (λ v. (t : Term) × IsDefinedBy before (constants_put pairs) v t) (free_variables_of one)
      → TellsGiven m symbols (Parameters.constants pairs)
  list-told pairs one good defines = All-each (λ (w : Variable × Term). TellsTerm m symbols w.1) (constants_put pairs) each
    where
      each : (w : Variable × Term) → IsIn (constants_put pairs) w → TellsTerm m symbols w.1
      each w i =
          let p = put-from pairs w i in
          let n = p.0.0 in
          let v = p.0.1 in
          let d = All-at (λ v. (t : Term) × IsDefinedBy before (constants_put pairs) v t) (free_variables_of one) v defines
          (listed-free pairs one good v (listed-variable pairs p.0 p.1)) in
          let put = constant-put pairs (list_parts pairs one good).variables p.0 p.1 in
          let same : d.1.name ≡ n = same_constant d.1.name n v.1 (sym d.1.image ∙ put) in
          subst (λ (u : Variable × Term). TellsTerm m symbols u.1) (sym p.2)
          (subst (λ (k : Name). TellsTerm m symbols (term.Term.constant k v.1)) same (constant-defined d.1.name v.1 d.0 d.1.has))

  given-told : (kind : StepKind) (js : List ℕ) (premises : List Sequent) (given : Parameters) (s : Sequent) → Rule kind premises given s
      → DefinesAmong before kind js premises given → TellsGiven m symbols given
  given-told kind js premises given s (rule.define_const_list {pairs = pairs} {one = one} d l e) defines = list-told pairs one l defines.1
  given-told kind js premises given s (rule.define_const d e) defines = tt
  given-told kind js premises given s (rule.refl h e) defines = tt
  given-told kind js premises given s (rule.assume h e) defines = tt
  given-told kind js premises given s (rule.eq_mp e f g) defines = tt
  given-told kind js premises given s (rule.abs_thm e f g) defines = tt
  given-told kind js premises given s (rule.app_thm e f g) defines = tt
  given-told kind js premises given s (rule.deduct_antisym e) defines = tt
  given-told kind js premises given s (rule.beta_conv h e) defines = tt
  given-told kind js premises given s (rule.sym e f) defines = tt
  given-told kind js premises given s (rule.trans e f g) defines = tt
  given-told kind js premises given s (rule.prove_hyp e) defines = tt
  given-told kind js premises given s (rule.subst h e) defines = tt
  given-told kind js premises given s (rule.recorded h) defines = tt
  given-told kind js premises given s (rule.restate h w) defines = tt
  given-told kind js premises given s (rule.first_law d e) defines = tt
  given-told kind js premises given s (rule.second_law d e) defines = tt
  given-told kind js premises given s (rule.first_law_free d e) defines = tt
  given-told kind js premises given s (rule.second_law_free d e) defines = tt

  -- What is declared so far tells what asks for nothing but the items so far
  pub content-told : (c : Content) → IsContent before c → TellsContent m symbols c
  content-told (operator n k) h = tt
  content-told (constant n a) h = type-told before (λ x i. i) a h
  content-told (defined_constant n a t) h = (defined-told before (λ x i. i) a t h, term-told before (λ x i. i) t h.taken)
  content-told (type_operator names c u j one) h = (type-told before (λ x i. i) c h.ty, (premises-told (j ∷ []) (one ∷ []) h.among).0)
  content-told (type_abstraction names c u j one) h =
      (type-told before (λ x i. i) (abstraction_type names c) h.1, type-told before (λ x i. i) c h.0.ty, (premises-told (j ∷ []) (one ∷ []) h.0.among).0)
  content-told (type_representation names c u j one) h =
      (type-told before (λ x i. i) (representation_type names c) h.1, type-told before (λ x i. i) c h.0.ty, (premises-told (j ∷ []) (one ∷ []) h.0.among).0)
  content-told (unproved s) h = sequent-told before (λ x i. i) s h
  content-told (step kind js premises given s) h =
      (sequent-told before (λ x i. i) s h.0.taken, premises-told js premises h.0.among, given-told kind js premises given s h.0.rule h.1)

-- The law: what is declared so far tells the next item
pub next-tells : NextTells
next-tells run sound names before after x whole =
    let named = kept-named run (is_kept run) (made_items run) (items-named run names sound [] (made_items run) (made-origins run run.made)) in
    content-told run.made sound.proof (kept_items run) before (x ∷ after) whole (kept-made run sound) named x.content
    (next-made run sound before after x whole).content
