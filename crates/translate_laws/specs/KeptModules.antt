-- The module of what is kept of what was made: where all that a kept item needs is kept, the kept items, renumbered, are a well-typed module.
use Rattle.hol_spec.specs.declared.Version.TheVariants.{Six}
use Rattle.std.proofs.Common.{◌≡◌, ℕ, suc, ◌+◌, List, [], ◌∷◌, ◌++◌, map, length, Bool, true, false, cond, ◌||◌, Some, inl, inr, ⊎_elim, refl, sym, ap, subst, ◌∙◌, arith}
use Rattle.std.specs.Option.{unwrap_or}
use Rattle.std.specs.Map.{lookup}
use Rattle.std.specs.List.{AllByRecursion, flat_map}
use Rattle.std.proofs.lemmas.List.{length-append, length-map, map-append, append-nil}
use Rattle.hol_spec.specs.Names.{Name}
use Rattle.hol_spec.specs.Types as type
use Rattle.hol_spec.specs.Types.{HolType, HolTypes, count}
use Rattle.hol_spec.specs.Terms as term
use Rattle.hol_spec.specs.Terms.{Term, Variable, variable_eq}
use Rattle.hol_spec.specs.TermSubstitution.{TermPairs, term_image}
use Rattle.hol_spec.specs.Sequents.{Sequent, free_variables_of}
use Rattle.lp_spec.specs.Modules.{signature}
use Rattle.lp_spec.specs.Lemmas.{lemmas}
use Rattle.hol_spec.specs.Lists.{IsIn}
use Rattle.hol_laws.specs.Members.{IsIn-left, IsIn-right, All-weaker}
use Rattle.translate_laws.specs.BodyTyping.{IsIn-map}
use Rattle.hol_spec.specs.Rules.{Parameters}
use Rattle.hol_spec.specs.declared.StepKind.{StepKind}
use Rattle.hol_spec.specs.declared.StepKind.TheVariants as kinds
use Rattle.translate_spec.specs.Rows.{type_or}
use Rattle.translate_spec.specs.Items.{Content, operator, constant, defined_constant, type_operator, type_abstraction, type_representation, unproved, step, Item, is_operator, is_constant}
use Rattle.translate_laws.specs.ItemConditions.{Has, OperatorTaken, ConstantTaken, TypeTaken, TypesTaken, TermTaken, SequentTaken, ArePremisesAmong, IsDefinedBy, IsDefiningEquation, IsPart, HasPart, DefinesAmong, IsContent}
use Rattle.translate_laws.specs.ItemConditions as items
use Rattle.translate_laws.specs.MadeModules.{any_content, IsNew, AreMade}
use Rattle.translate_laws.specs.SaidItems.{says-gives_of, says-renumbered}
use Rattle.translate_spec.specs.Reach.{Key, operator_key, constant_key, number_key, type_keys, types_keys, term_keys, sequent_keys, given_keys, needs, gives_of, gives, kept, renumbered_content, renumbered, count_kept, symbol_of, image_items}
use Rattle.hol_spec.specs.DefinitionLists.{constants_put}
use Rattle.hol_spec.specs.Primitives.{function, arrow_name}
use Rattle.hol_spec.specs.Definitions.{TypeNames}
use Rattle.hol_spec.specs.NewTypes.{new_type, abstraction_type, representation_type}
use Rattle.hol_laws.specs.TypeLaws.{count-variables}

-- all that is needed is kept
abbrev pub AreKept : (ℕ → Bool) → List Item → List Key → Type 0
AreKept keep before keys = (x : Item) → IsIn before x → IsIn keys (gives x) → keep x.symbol ≡ true

pub IsIn-kept : (keep : ℕ → Bool) (xs : List Item) (x : Item) → IsIn xs x → keep x.symbol ≡ true → IsIn (kept keep xs) x
IsIn-kept keep [] x k e = absurd k
IsIn-kept keep (y ∷ ys) x (inl is) e = subst (λ b. IsIn (cond b (y ∷ kept keep ys) (kept keep ys)) x) (sym (ap (λ (z : Item). keep z.symbol) (sym is) ∙ e))
    (inl is)
IsIn-kept keep (y ∷ ys) x (inr k) e = go (keep y.symbol) (IsIn-kept keep ys x k e)
  where
    go : (b : Bool) → IsIn (kept keep ys) x → IsIn (cond b (y ∷ kept keep ys) (kept keep ys)) x
    go true i = inr i
    go false i = i

module _ (keep : ℕ → Bool) (before : List Item) where
  AreKept-left : (xs ys : List Key) → AreKept keep before (xs ++ ys) → AreKept keep before xs
  AreKept-left xs ys h x i k = h x i (IsIn-left xs ys (gives x) k)

  AreKept-right : (xs ys : List Key) → AreKept keep before (xs ++ ys) → AreKept keep before ys
  AreKept-right xs ys h x i k = h x i (IsIn-right xs ys (gives x) k)

  Has-kept : (c : Content) (keys : List Key) → ((i : ℕ) → IsIn keys (gives_of i c)) → AreKept keep before keys → Has before c → Has (kept keep before) c
  Has-kept c keys needed h (x, i, e) = (x, IsIn-kept keep before x i (h x i (subst (λ d. IsIn keys (gives_of x.symbol d)) (sym e) (needed x.symbol))), e)

  operator-kept : (n : Name) (k : ℕ) (keys : List Key) → IsIn keys (operator_key n k) → AreKept keep before keys → OperatorTaken before n k
      → OperatorTaken (kept keep before) n k
  operator-kept n k keys i h (items.OperatorTaken.primitive e) = items.OperatorTaken.primitive e
  operator-kept n k keys i h (items.OperatorTaken.declared t) = items.OperatorTaken.declared (Has-kept (operator n k) keys (λ j. i) h t)
  operator-kept n k keys i h (items.OperatorTaken.part names c u j one t e f) =
      items.OperatorTaken.part names c u j one
      (Has-kept (type_operator names c u j one) keys (λ l. subst (λ q. IsIn keys q) (λ w. operator_key (e w) (f w)) i) h t) e f

  constant-kept : (n : Name) (a : HolType) (keys : List Key) → IsIn keys (constant_key n) → AreKept keep before keys → ConstantTaken before n a
      → ConstantTaken (kept keep before) n a
  constant-kept n a keys i h (items.ConstantTaken.primitive g e w) = items.ConstantTaken.primitive g e w
  constant-kept n a keys i h (items.ConstantTaken.declared g t w) = items.ConstantTaken.declared g (Has-kept (constant n g) keys (λ j. i) h t) w
  constant-kept n a keys i h (items.ConstantTaken.defined g u t w) = items.ConstantTaken.defined g u (Has-kept (defined_constant n g u) keys (λ j. i) h t) w
  constant-kept n a keys i h (items.ConstantTaken.abstraction names c u j one t e w) =
      items.ConstantTaken.abstraction names c u j one (Has-kept (type_abstraction names c u j one) keys (λ l. subst (λ q. IsIn keys (constant_key q)) e i) h t)
      e w
  constant-kept n a keys i h (items.ConstantTaken.representation names c u j one t e w) =
      items.ConstantTaken.representation names c u j one
      (Has-kept (type_representation names c u j one) keys (λ l. subst (λ q. IsIn keys (constant_key q)) e i) h t) e w

  mutual
    type-kept : (t : HolType) → AreKept keep before (type_keys t) → TypeTaken before t → TypeTaken (kept keep before) t
    type-kept (type.HolType.variable n) h o = tt
    type-kept (type.HolType.operator n ts) h o =
        (operator-kept n (count ts) (operator_key n (count ts) ∷ types_keys ts) (inl refl) h o.0, types-kept ts (λ x i k. h x i (inr k)) o.1)

    types-kept : (ts : HolTypes) → AreKept keep before (types_keys ts) → TypesTaken before ts → TypesTaken (kept keep before) ts
    types-kept type.HolTypes.none h o = tt
    types-kept (type.HolTypes.more t ts) h o =
        (type-kept t (AreKept-left (type_keys t) (types_keys ts) h) o.0, types-kept ts (AreKept-right (type_keys t) (types_keys ts) h) o.1)

  term-kept : (t : Term) → AreKept keep before (term_keys t) → TermTaken before t → TermTaken (kept keep before) t
  term-kept (term.Term.free n t) h o = type-kept t h o
  term-kept (term.Term.bound k) h o = tt
  term-kept (term.Term.constant n t) h o = (constant-kept n t (constant_key n ∷ type_keys t) (inl refl) h o.0, type-kept t (λ x i k. h x i (inr k)) o.1)
  term-kept (term.Term.app f x) h o =
      (term-kept f (AreKept-left (term_keys f) (term_keys x) h) o.0, term-kept x (AreKept-right (term_keys f) (term_keys x) h) o.1)
  term-kept (term.Term.lam t b) h o =
      (type-kept t (AreKept-left (type_keys t) (term_keys b) h) o.0, term-kept b (AreKept-right (type_keys t) (term_keys b) h) o.1)

  terms-kept : (ts : List Term) → AreKept keep before (flat_map term_keys ts) → AllByRecursion (TermTaken before) ts
      → AllByRecursion (TermTaken (kept keep before)) ts
  terms-kept [] h o = tt
  terms-kept (t ∷ ts) h o =
      (term-kept t (AreKept-left (term_keys t) (flat_map term_keys ts) h) o.0, terms-kept ts (AreKept-right (term_keys t) (flat_map term_keys ts) h) o.1)

  sequent-kept : (s : Sequent) → AreKept keep before (sequent_keys s) → SequentTaken before s → SequentTaken (kept keep before) s
  sequent-kept s h o = record {
    is = o.is;
    hypotheses = terms-kept s.hypotheses (AreKept-left (flat_map term_keys s.hypotheses) (term_keys s.conclusion) h) o.hypotheses;
    conclusion = term-kept s.conclusion (AreKept-right (flat_map term_keys s.hypotheses) (term_keys s.conclusion) h) o.conclusion;
  }

  premises-kept : (js : List ℕ) (ss : List Sequent) → AreKept keep before (map number_key js) → ArePremisesAmong before js ss
      → ArePremisesAmong (kept keep before) js ss
  premises-kept [] [] h o = tt
  premises-kept [] (s ∷ ss) h o = absurd o
  premises-kept (j ∷ js) [] h o = absurd o
  premises-kept (j ∷ js) (s ∷ ss) h ((x, i, e, f), rest) = (
    (x, IsIn-kept keep before x i (h x i (inl (says-gives_of x.symbol x.content s f ∙ ap number_key e))), e, f),
    premises-kept js ss (λ y k l. h y k (inr l)) rest,
  )

  -- a constant that stands for a variable is among the terms that are put
  image-key : (terms : TermPairs) (v : Variable) (n : Name) (a : HolType) → term_image terms v ≡ term.Term.constant n a
      → IsIn (flat_map (λ (p : Variable × Term). term_keys p.1) terms) (constant_key n)
  image-key [] v n a e = absurd (cc)
  image-key (p ∷ ps) v n a e = go (variable_eq v p.0) (λ f. image-key ps v n a f) e
    where
      go : (b : Bool) → (term_image ps v ≡ term.Term.constant n a → IsIn (flat_map (λ (p : Variable × Term). term_keys p.1) ps) (constant_key n))
          → unwrap_or (cond b (Some p.1) (lookup (variable_eq v) ps)) (term.Term.free v.0 v.1) ≡ term.Term.constant n a
          → IsIn (term_keys p.1 ++ flat_map (λ (p : Variable × Term). term_keys p.1) ps) (constant_key n)
      go true later e = IsIn-left (term_keys p.1) (flat_map (λ (p : Variable × Term). term_keys p.1) ps) (constant_key n)
          (subst (λ t. IsIn (term_keys t) (constant_key n)) (sym e) (inl refl))
      go false later e = IsIn-right (term_keys p.1) (flat_map (λ (p : Variable × Term). term_keys p.1) ps) (constant_key n) (later e)

  defined-kept : (terms : TermPairs) (v : Variable) (t : Term) → AreKept keep before (flat_map (λ p. term_keys p.1) terms) → IsDefinedBy before terms v t
      → IsDefinedBy (kept keep before) terms v t
  defined-kept terms v t h d = record {
    name = d.name;
    image = d.image;
    has = Has-kept (defined_constant d.name v.1 t) (flat_map (λ p. term_keys p.1) terms) (λ i. image-key terms v d.name v.1 d.image) h d.has;
  }

  equation-kept : (terms : TermPairs) → AreKept keep before (flat_map (λ p. term_keys p.1) terms) → (p : Term) → IsDefiningEquation before terms p
      → IsDefiningEquation (kept keep before) terms p
  equation-kept terms h p d = record { variable = d.variable; term = d.term; is = d.is; defined = defined-kept terms d.variable d.term h d.defined }

  list-kept : (js : List ℕ) (premises : List Sequent) (given : Parameters) → AreKept keep before (given_keys given)
      → DefinesAmong before kinds.DefineConstList js premises given → DefinesAmong (kept keep before) kinds.DefineConstList js premises given
  list-kept js (one ∷ []) (Parameters.constants pairs) h d = (
    All-weaker _ _ (equation-kept (constants_put pairs) h) one.hypotheses d.0,
    All-weaker _ _ (λ (v : Variable) (w : (t : Term) × IsDefinedBy before (constants_put pairs) v t). (w.0, defined-kept (constants_put pairs) v w.0 h w.1))
        (free_variables_of one) d.1,
  )
  list-kept js [] given h d = tt
  list-kept js (one ∷ two ∷ ss) given h d = tt
  list-kept js (one ∷ []) Parameters.nothing h d = tt
  list-kept js (one ∷ []) (Parameters.term t) h d = tt
  list-kept js (one ∷ []) (Parameters.variable v) h d = tt
  list-kept js (one ∷ []) (Parameters.substitution ps ts) h d = tt
  list-kept js (one ∷ []) (Parameters.constant n t) h d = tt
  list-kept js (one ∷ []) (Parameters.sequent s) h d = tt
  list-kept js (one ∷ []) (Parameters.type_operator names version) h d = tt

  one-kept : (js : List ℕ) (premises : List Sequent) (given : Parameters) → AreKept keep before (given_keys given)
      → DefinesAmong before kinds.DefineConst js premises given → DefinesAmong (kept keep before) kinds.DefineConst js premises given
  one-kept js premises (Parameters.constant n t) h d = Has-kept (defined_constant n (type_or t) t) (constant_key n ∷ []) (λ i. inl refl) h d
  one-kept js premises Parameters.nothing h d = tt
  one-kept js premises (Parameters.term t) h d = tt
  one-kept js premises (Parameters.variable v) h d = tt
  one-kept js premises (Parameters.substitution ps ts) h d = tt
  one-kept js premises (Parameters.constants ts) h d = tt
  one-kept js premises (Parameters.sequent s) h d = tt
  one-kept js premises (Parameters.type_operator names version) h d = tt

  part-kept : (names : TypeNames) (c : HolType) (u : Term) (j : ℕ) (one : Sequent) → AreKept keep before (number_key j ∷ type_keys c)
      → IsPart before names c u j one → IsPart (kept keep before) names c u j one
  part-kept names c u j one h o = record {
    defines = o.defines;
    among = premises-kept (j ∷ []) (one ∷ []) (AreKept-left (number_key j ∷ []) (type_keys c) h) o.among;
    ty = type-kept c (AreKept-right (number_key j ∷ []) (type_keys c) h) o.ty;
  }

  -- the type from which a type definition is made occurs in the types of its constants
  type-of-function : (a b : HolType) → AreKept keep before (type_keys (function a b)) → AreKept keep before (type_keys a) × AreKept keep before (type_keys b)
  type-of-function a b h =
      let both = AreKept-right (operator_key arrow_name 2 ∷ []) (type_keys a ++ (type_keys b ++ [])) h in
      (AreKept-left (type_keys a) (type_keys b ++ []) both, AreKept-left (type_keys b) [] (AreKept-right (type_keys a) (type_keys b ++ []) both))

  operator-of-new : (names : TypeNames) → AreKept keep before (type_keys (new_type names))
      → AreKept keep before (operator_key names.operator (length names.variables) ∷ [])
  operator-of-new names h x i (inl e) = h x i (inl (e ∙ ap (operator_key names.operator) (sym (count-variables names.variables))))
  operator-of-new names h x i (inr n) = absurd n

  law-kept : (names : TypeNames) (j : ℕ) (one : Sequent) → AreKept keep before (given_keys (Parameters.type_operator names Six)) → HasPart before names j one
      → HasPart (kept keep before) names j one
  law-kept names j one h o = record {
    c = o.c;
    f = o.f;
    defines = o.defines;
    operator = Has-kept (type_operator names o.c o.f j one) (given_keys (Parameters.type_operator names Six)) (λ i. inl refl) h o.operator;
    abstraction = Has-kept (type_abstraction names o.c o.f j one) (given_keys (Parameters.type_operator names Six)) (λ i. inr (inl refl)) h o.abstraction;
    representation = Has-kept (type_representation names o.c o.f j one) (given_keys (Parameters.type_operator names Six)) (λ i. inr (inr (inl refl))) h
        o.representation;
  }

  defines-kept : (kind : StepKind) (js : List ℕ) (premises : List Sequent) (given : Parameters) → AreKept keep before (given_keys given)
      → DefinesAmong before kind js premises given → DefinesAmong (kept keep before) kind js premises given
  defines-kept kinds.DefineConst js premises given h d = one-kept js premises given h d
  defines-kept kinds.DefineConstList js premises given h d = list-kept js premises given h d
  defines-kept kinds.Refl js premises given h d = tt
  defines-kept kinds.Assume js premises given h d = tt
  defines-kept kinds.EqMp js premises given h d = tt
  defines-kept kinds.AbsThm js premises given h d = tt
  defines-kept kinds.AppThm js premises given h d = tt
  defines-kept kinds.DeductAntisym js premises given h d = tt
  defines-kept kinds.BetaConv js premises given h d = tt
  defines-kept kinds.Sym js premises given h d = tt
  defines-kept kinds.Trans js premises given h d = tt
  defines-kept kinds.ProveHyp js premises given h d = tt
  defines-kept kinds.Subst js premises given h d = tt
  defines-kept kinds.Restate js premises given h d = tt
  defines-kept kinds.Axiom js premises given h d = tt
  defines-kept kinds.FirstLaw (j ∷ []) (one ∷ []) (Parameters.type_operator names version) h d = law-kept names j one h d
  defines-kept kinds.FirstLaw [] premises given h d = tt
  defines-kept kinds.FirstLaw (j ∷ k ∷ js) premises given h d = tt
  defines-kept kinds.FirstLaw (j ∷ []) [] given h d = tt
  defines-kept kinds.FirstLaw (j ∷ []) (one ∷ two ∷ ss) given h d = tt
  defines-kept kinds.FirstLaw (j ∷ []) (one ∷ []) Parameters.nothing h d = tt
  defines-kept kinds.FirstLaw (j ∷ []) (one ∷ []) (Parameters.term t) h d = tt
  defines-kept kinds.FirstLaw (j ∷ []) (one ∷ []) (Parameters.variable v) h d = tt
  defines-kept kinds.FirstLaw (j ∷ []) (one ∷ []) (Parameters.substitution ps ts) h d = tt
  defines-kept kinds.FirstLaw (j ∷ []) (one ∷ []) (Parameters.constant n t) h d = tt
  defines-kept kinds.FirstLaw (j ∷ []) (one ∷ []) (Parameters.sequent s) h d = tt
  defines-kept kinds.FirstLaw (j ∷ []) (one ∷ []) (Parameters.constants ps) h d = tt
  defines-kept kinds.SecondLaw (j ∷ []) (one ∷ []) (Parameters.type_operator names version) h d = law-kept names j one h d
  defines-kept kinds.SecondLaw [] premises given h d = tt
  defines-kept kinds.SecondLaw (j ∷ k ∷ js) premises given h d = tt
  defines-kept kinds.SecondLaw (j ∷ []) [] given h d = tt
  defines-kept kinds.SecondLaw (j ∷ []) (one ∷ two ∷ ss) given h d = tt
  defines-kept kinds.SecondLaw (j ∷ []) (one ∷ []) Parameters.nothing h d = tt
  defines-kept kinds.SecondLaw (j ∷ []) (one ∷ []) (Parameters.term t) h d = tt
  defines-kept kinds.SecondLaw (j ∷ []) (one ∷ []) (Parameters.variable v) h d = tt
  defines-kept kinds.SecondLaw (j ∷ []) (one ∷ []) (Parameters.substitution ps ts) h d = tt
  defines-kept kinds.SecondLaw (j ∷ []) (one ∷ []) (Parameters.constant n t) h d = tt
  defines-kept kinds.SecondLaw (j ∷ []) (one ∷ []) (Parameters.sequent s) h d = tt
  defines-kept kinds.SecondLaw (j ∷ []) (one ∷ []) (Parameters.constants ps) h d = tt

  -- what an item asks of those before it, it has among those that are kept
  content-kept : (c : Content) → AreKept keep before (needs c) → IsContent before c → IsContent (kept keep before) c
  content-kept (operator n k) h o = tt
  content-kept (constant n a) h o = type-kept a h o
  content-kept (defined_constant n a t) h o = record { typed = o.typed; taken = term-kept t h o.taken; no_free = o.no_free; type_variables = o.type_variables }
  content-kept (type_operator names c u j one) h o = part-kept names c u j one h o
  content-kept (type_abstraction names c u j one) h o =
      let all = AreKept-right (number_key j ∷ []) (type_keys (abstraction_type names c)) h in
      let parts = type-of-function c (new_type names) all in (
        part-kept names c u j one (λ x i. ⊎_elim (λ e. h x i (inl e)) (λ k. parts.0 x i k)) o.0,
        type-kept (abstraction_type names c) all o.1,
        Has-kept (type_operator names c u j one) (operator_key names.operator (length names.variables) ∷ []) (λ i. inl refl) (operator-of-new names parts.1)
            o.2,
      )
  content-kept (type_representation names c u j one) h o =
      let all = AreKept-right (number_key j ∷ []) (type_keys (representation_type names c)) h in
      let parts = type-of-function (new_type names) c all in (
        part-kept names c u j one (λ x i. ⊎_elim (λ e. h x i (inl e)) (λ k. parts.1 x i k)) o.0,
        type-kept (representation_type names c) all o.1,
        Has-kept (type_operator names c u j one) (operator_key names.operator (length names.variables) ∷ []) (λ i. inl refl) (operator-of-new names parts.0)
            o.2,
      )
  content-kept (unproved s) h o = sequent-kept s h o
  content-kept (step kind js premises given s) h o =
      let front = AreKept-left (sequent_keys s ++ map number_key js) (given_keys given) h in (
        record {
          rule = o.0.rule;
          row = o.0.row;
          among = premises-kept js premises (AreKept-right (sequent_keys s) (map number_key js) front) o.0.among;
          taken = sequent-kept s (AreKept-left (sequent_keys s) (map number_key js) front) o.0.taken;
        },
        defines-kept kind js premises given (AreKept-right (sequent_keys s ++ map number_key js) (given_keys given) h) o.1,
      )

  any-kept : (test : Content → Bool) (xs : List Item) → any_content test xs ≡ false → any_content test (kept keep xs) ≡ false
  any-kept test [] h = refl
  any-kept test (x ∷ xs) h = go (keep x.symbol) (both (test x.content) h).0 (any-kept test xs (both (test x.content) h).1)
    where
      both : (b : Bool) → (b || any_content test xs) ≡ false → (b ≡ false) × (any_content test xs ≡ false)
      both true h = absurd (cc)
      both false h = (refl, h)

      go : (k : Bool) → test x.content ≡ false → any_content test (kept keep xs) ≡ false → any_content test (cond k (x ∷ kept keep xs) (kept keep xs)) ≡ false
      go true e f = ap (λ b. b || any_content test (kept keep xs)) e ∙ f
      go false e f = f

  new-kept : (c : Content) → IsNew before c → IsNew (kept keep before) c
  new-kept (operator n k) h = (h.0, any-kept (is_operator n k) before h.1)
  new-kept (constant n a) h = (h.0, any-kept (is_constant n) before h.1)
  new-kept (defined_constant n a t) h = (h.0, any-kept (is_constant n) before h.1)
  new-kept (type_operator names c u j one) h = (h.0, any-kept (is_operator names.operator (length names.variables)) before h.1)
  new-kept (type_abstraction names c u j one) h = (h.0, any-kept (is_constant names.abstraction) before h.1)
  new-kept (type_representation names c u j one) h = (h.0, any-kept (is_constant names.representation) before h.1)
  new-kept (unproved s) h = tt
  new-kept (step kind js premises given s) h = tt

module _ (number : ℕ → ℕ) (xs : List Item) where
  abbrev ys : List Item
  ys = map (renumbered number) xs

  Has-renumbered : (c : Content) → Has xs c → Has ys (renumbered_content number c)
  Has-renumbered c (x, i, e) = (renumbered number x, IsIn-map (renumbered number) xs x i, ap (renumbered_content number) e)

  operator-renumbered : (n : Name) (k : ℕ) → OperatorTaken xs n k → OperatorTaken ys n k
  operator-renumbered n k (items.OperatorTaken.primitive e) = items.OperatorTaken.primitive e
  operator-renumbered n k (items.OperatorTaken.declared t) = items.OperatorTaken.declared (Has-renumbered (operator n k) t)
  operator-renumbered n k (items.OperatorTaken.part names c u j one t e f) =
      items.OperatorTaken.part names c u (number j) one (Has-renumbered (type_operator names c u j one) t) e f

  constant-renumbered : (n : Name) (a : HolType) → ConstantTaken xs n a → ConstantTaken ys n a
  constant-renumbered n a (items.ConstantTaken.primitive g e w) = items.ConstantTaken.primitive g e w
  constant-renumbered n a (items.ConstantTaken.declared g t w) = items.ConstantTaken.declared g (Has-renumbered (constant n g) t) w
  constant-renumbered n a (items.ConstantTaken.defined g u t w) = items.ConstantTaken.defined g u (Has-renumbered (defined_constant n g u) t) w
  constant-renumbered n a (items.ConstantTaken.abstraction names c u j one t e w) =
      items.ConstantTaken.abstraction names c u (number j) one (Has-renumbered (type_abstraction names c u j one) t) e w
  constant-renumbered n a (items.ConstantTaken.representation names c u j one t e w) =
      items.ConstantTaken.representation names c u (number j) one (Has-renumbered (type_representation names c u j one) t) e w

  mutual
    type-renumbered : (t : HolType) → TypeTaken xs t → TypeTaken ys t
    type-renumbered (type.HolType.variable n) o = tt
    type-renumbered (type.HolType.operator n ts) o = (operator-renumbered n (count ts) o.0, types-renumbered ts o.1)

    types-renumbered : (ts : HolTypes) → TypesTaken xs ts → TypesTaken ys ts
    types-renumbered type.HolTypes.none o = tt
    types-renumbered (type.HolTypes.more t ts) o = (type-renumbered t o.0, types-renumbered ts o.1)

  term-renumbered : (t : Term) → TermTaken xs t → TermTaken ys t
  term-renumbered (term.Term.free n t) o = type-renumbered t o
  term-renumbered (term.Term.bound k) o = tt
  term-renumbered (term.Term.constant n t) o = (constant-renumbered n t o.0, type-renumbered t o.1)
  term-renumbered (term.Term.app f x) o = (term-renumbered f o.0, term-renumbered x o.1)
  term-renumbered (term.Term.lam t b) o = (type-renumbered t o.0, term-renumbered b o.1)

  sequent-renumbered : (s : Sequent) → SequentTaken xs s → SequentTaken ys s
  sequent-renumbered s o = record
      { is = o.is; hypotheses = All-weaker _ _ term-renumbered s.hypotheses o.hypotheses; conclusion = term-renumbered s.conclusion o.conclusion }

  premises-renumbered : (js : List ℕ) (ss : List Sequent) → ArePremisesAmong xs js ss → ArePremisesAmong ys (map number js) ss
  premises-renumbered [] [] o = tt
  premises-renumbered [] (s ∷ ss) o = absurd o
  premises-renumbered (j ∷ js) [] o = absurd o
  premises-renumbered (j ∷ js) (s ∷ ss) ((x, i, e, f), rest) =
      ((renumbered number x, IsIn-map (renumbered number) xs x i, ap number e, says-renumbered number x.content ∙ f), premises-renumbered js ss rest)

  defined-renumbered : (terms : TermPairs) (v : Variable) (t : Term) → IsDefinedBy xs terms v t → IsDefinedBy ys terms v t
  defined-renumbered terms v t d = record { name = d.name; image = d.image; has = Has-renumbered (defined_constant d.name v.1 t) d.has }

  list-renumbered : (js : List ℕ) (premises : List Sequent) (given : Parameters) → DefinesAmong xs kinds.DefineConstList js premises given
      → DefinesAmong ys kinds.DefineConstList (map number js) premises given
  list-renumbered js (one ∷ []) (Parameters.constants pairs) d = (
    All-weaker _ _ (λ (p : Term) (w : IsDefiningEquation xs (constants_put pairs) p). record
        { variable = w.variable; term = w.term; is = w.is; defined = defined-renumbered (constants_put pairs) w.variable w.term w.defined }) one.hypotheses d.0,
    All-weaker _ _ (λ (v : Variable) (w : (t : Term) × IsDefinedBy xs (constants_put pairs) v t). (w.0, defined-renumbered (constants_put pairs) v w.0 w.1))
        (free_variables_of one) d.1,
  )
  list-renumbered js [] given d = tt
  list-renumbered js (one ∷ two ∷ ss) given d = tt
  list-renumbered js (one ∷ []) Parameters.nothing d = tt
  list-renumbered js (one ∷ []) (Parameters.term t) d = tt
  list-renumbered js (one ∷ []) (Parameters.variable v) d = tt
  list-renumbered js (one ∷ []) (Parameters.substitution ps ts) d = tt
  list-renumbered js (one ∷ []) (Parameters.constant n t) d = tt
  list-renumbered js (one ∷ []) (Parameters.sequent s) d = tt
  list-renumbered js (one ∷ []) (Parameters.type_operator names version) d = tt

  one-renumbered : (js : List ℕ) (premises : List Sequent) (given : Parameters) → DefinesAmong xs kinds.DefineConst js premises given
      → DefinesAmong ys kinds.DefineConst (map number js) premises given
  one-renumbered js premises (Parameters.constant n t) d = Has-renumbered (defined_constant n (type_or t) t) d
  one-renumbered js premises Parameters.nothing d = tt
  one-renumbered js premises (Parameters.term t) d = tt
  one-renumbered js premises (Parameters.variable v) d = tt
  one-renumbered js premises (Parameters.substitution ps ts) d = tt
  one-renumbered js premises (Parameters.constants ts) d = tt
  one-renumbered js premises (Parameters.sequent s) d = tt
  one-renumbered js premises (Parameters.type_operator names version) d = tt

  part-renumbered : (names : TypeNames) (c : HolType) (u : Term) (j : ℕ) (one : Sequent) → IsPart xs names c u j one → IsPart ys names c u (number j) one
  part-renumbered names c u j one o = record { defines = o.defines; among = premises-renumbered (j ∷ []) (one ∷ []) o.among; ty = type-renumbered c o.ty }

  law-renumbered : (names : TypeNames) (j : ℕ) (one : Sequent) → HasPart xs names j one → HasPart ys names (number j) one
  law-renumbered names j one o = record {
    c = o.c;
    f = o.f;
    defines = o.defines;
    operator = Has-renumbered (type_operator names o.c o.f j one) o.operator;
    abstraction = Has-renumbered (type_abstraction names o.c o.f j one) o.abstraction;
    representation = Has-renumbered (type_representation names o.c o.f j one) o.representation;
  }

  defines-renumbered : (kind : StepKind) (js : List ℕ) (premises : List Sequent) (given : Parameters) → DefinesAmong xs kind js premises given
      → DefinesAmong ys kind (map number js) premises given
  defines-renumbered kinds.DefineConst js premises given d = one-renumbered js premises given d
  defines-renumbered kinds.DefineConstList js premises given d = list-renumbered js premises given d
  defines-renumbered kinds.Refl js premises given d = tt
  defines-renumbered kinds.Assume js premises given d = tt
  defines-renumbered kinds.EqMp js premises given d = tt
  defines-renumbered kinds.AbsThm js premises given d = tt
  defines-renumbered kinds.AppThm js premises given d = tt
  defines-renumbered kinds.DeductAntisym js premises given d = tt
  defines-renumbered kinds.BetaConv js premises given d = tt
  defines-renumbered kinds.Sym js premises given d = tt
  defines-renumbered kinds.Trans js premises given d = tt
  defines-renumbered kinds.ProveHyp js premises given d = tt
  defines-renumbered kinds.Subst js premises given d = tt
  defines-renumbered kinds.Restate js premises given d = tt
  defines-renumbered kinds.Axiom js premises given d = tt
  defines-renumbered kinds.FirstLaw (j ∷ []) (one ∷ []) (Parameters.type_operator names version) d = law-renumbered names j one d
  defines-renumbered kinds.FirstLaw [] premises given d = tt
  defines-renumbered kinds.FirstLaw (j ∷ k ∷ js) premises given d = tt
  defines-renumbered kinds.FirstLaw (j ∷ []) [] given d = tt
  defines-renumbered kinds.FirstLaw (j ∷ []) (one ∷ two ∷ ss) given d = tt
  defines-renumbered kinds.FirstLaw (j ∷ []) (one ∷ []) Parameters.nothing d = tt
  defines-renumbered kinds.FirstLaw (j ∷ []) (one ∷ []) (Parameters.term t) d = tt
  defines-renumbered kinds.FirstLaw (j ∷ []) (one ∷ []) (Parameters.variable v) d = tt
  defines-renumbered kinds.FirstLaw (j ∷ []) (one ∷ []) (Parameters.substitution ps ts) d = tt
  defines-renumbered kinds.FirstLaw (j ∷ []) (one ∷ []) (Parameters.constant n t) d = tt
  defines-renumbered kinds.FirstLaw (j ∷ []) (one ∷ []) (Parameters.sequent s) d = tt
  defines-renumbered kinds.FirstLaw (j ∷ []) (one ∷ []) (Parameters.constants ps) d = tt
  defines-renumbered kinds.SecondLaw (j ∷ []) (one ∷ []) (Parameters.type_operator names version) d = law-renumbered names j one d
  defines-renumbered kinds.SecondLaw [] premises given d = tt
  defines-renumbered kinds.SecondLaw (j ∷ k ∷ js) premises given d = tt
  defines-renumbered kinds.SecondLaw (j ∷ []) [] given d = tt
  defines-renumbered kinds.SecondLaw (j ∷ []) (one ∷ two ∷ ss) given d = tt
  defines-renumbered kinds.SecondLaw (j ∷ []) (one ∷ []) Parameters.nothing d = tt
  defines-renumbered kinds.SecondLaw (j ∷ []) (one ∷ []) (Parameters.term t) d = tt
  defines-renumbered kinds.SecondLaw (j ∷ []) (one ∷ []) (Parameters.variable v) d = tt
  defines-renumbered kinds.SecondLaw (j ∷ []) (one ∷ []) (Parameters.substitution ps ts) d = tt
  defines-renumbered kinds.SecondLaw (j ∷ []) (one ∷ []) (Parameters.constant n t) d = tt
  defines-renumbered kinds.SecondLaw (j ∷ []) (one ∷ []) (Parameters.sequent s) d = tt
  defines-renumbered kinds.SecondLaw (j ∷ []) (one ∷ []) (Parameters.constants ps) d = tt

  content-renumbered : (c : Content) → IsContent xs c → IsContent ys (renumbered_content number c)
  content-renumbered (operator n k) o = tt
  content-renumbered (constant n a) o = type-renumbered a o
  content-renumbered (defined_constant n a t) o = record
      { typed = o.typed; taken = term-renumbered t o.taken; no_free = o.no_free; type_variables = o.type_variables }
  content-renumbered (type_operator names c u j one) o = part-renumbered names c u j one o
  content-renumbered (type_abstraction names c u j one) o =
      (part-renumbered names c u j one o.0, type-renumbered (abstraction_type names c) o.1, Has-renumbered (type_operator names c u j one) o.2)
  content-renumbered (type_representation names c u j one) o =
      (part-renumbered names c u j one o.0, type-renumbered (representation_type names c) o.1, Has-renumbered (type_operator names c u j one) o.2)
  content-renumbered (unproved s) o = sequent-renumbered s o
  content-renumbered (step kind js premises given s) o = (
    record {
      rule = o.0.rule;
      row = o.0.row;
      among = premises-renumbered js premises o.0.among;
      taken = sequent-renumbered s o.0.taken;
    },
    defines-renumbered kind js premises given o.1,
  )

  is_operator-renumbered : (n : Name) (k : ℕ) (c : Content) → is_operator n k (renumbered_content number c) ≡ is_operator n k c
  is_operator-renumbered n k (operator m j) = refl
  is_operator-renumbered n k (constant m a) = refl
  is_operator-renumbered n k (defined_constant m a t) = refl
  is_operator-renumbered n k (type_operator names c u j one) = refl
  is_operator-renumbered n k (type_abstraction names c u j one) = refl
  is_operator-renumbered n k (type_representation names c u j one) = refl
  is_operator-renumbered n k (unproved s) = refl
  is_operator-renumbered n k (step kind js premises given s) = refl

  is_constant-renumbered : (n : Name) (c : Content) → is_constant n (renumbered_content number c) ≡ is_constant n c
  is_constant-renumbered n (operator m j) = refl
  is_constant-renumbered n (constant m a) = refl
  is_constant-renumbered n (defined_constant m a t) = refl
  is_constant-renumbered n (type_operator names c u j one) = refl
  is_constant-renumbered n (type_abstraction names c u j one) = refl
  is_constant-renumbered n (type_representation names c u j one) = refl
  is_constant-renumbered n (unproved s) = refl
  is_constant-renumbered n (step kind js premises given s) = refl

any-renumbered : (number : ℕ → ℕ) (test : Content → Bool) → ((c : Content) → test (renumbered_content number c) ≡ test c) → (xs : List Item)
    → any_content test (map (renumbered number) xs) ≡ any_content test xs
any-renumbered number test e [] = refl
any-renumbered number test e (x ∷ xs) = λ i. e x.content i || any-renumbered number test e xs i

new-renumbered : (number : ℕ → ℕ) (xs : List Item) (c : Content) → IsNew xs c → IsNew (map (renumbered number) xs) (renumbered_content number c)
new-renumbered number xs (operator n k) h = (h.0, any-renumbered number (is_operator n k) (is_operator-renumbered number xs n k) xs ∙ h.1)
new-renumbered number xs (constant n a) h = (h.0, any-renumbered number (is_constant n) (is_constant-renumbered number xs n) xs ∙ h.1)
new-renumbered number xs (defined_constant n a t) h = (h.0, any-renumbered number (is_constant n) (is_constant-renumbered number xs n) xs ∙ h.1)
new-renumbered number xs (type_operator names c u j one) h = (
  h.0,
  any-renumbered number (is_operator names.operator (length names.variables)) (is_operator-renumbered number xs names.operator (length names.variables))
      xs ∙ h.1,
)
new-renumbered number xs (type_abstraction names c u j one) h =
    (h.0, any-renumbered number (is_constant names.abstraction) (is_constant-renumbered number xs names.abstraction) xs ∙ h.1)
new-renumbered number xs (type_representation names c u j one) h =
    (h.0, any-renumbered number (is_constant names.representation) (is_constant-renumbered number xs names.representation) xs ∙ h.1)
new-renumbered number xs (unproved s) h = tt
new-renumbered number xs (step kind js premises given s) h = tt

-- items numbered from 0 in order of making, each new, and asking for nothing but what was made before it; and of each that is kept all that it
-- needs is kept
abbrev pub AreNumbered : (ℕ → Bool) → List Item → List Item → Type 0
AreNumbered keep before [] = Unit {0}
AreNumbered keep before (x ∷ xs) =
    (x.symbol ≡ length before) × IsNew before x.content × IsContent before x.content × (keep x.symbol ≡ true → AreKept keep before (needs x.content))
    × AreNumbered keep (before ++ x ∷ []) xs

kept-last : (keep : ℕ → Bool) (before : List Item) (x : Item) → kept keep (before ++ x ∷ []) ≡ kept keep before ++ kept keep (x ∷ [])
kept-last keep [] x = refl
kept-last keep (y ∷ ys) x = go (keep y.symbol) (kept-last keep ys x)
  where
    go : (b : Bool) → kept keep (ys ++ x ∷ []) ≡ kept keep ys ++ kept keep (x ∷ [])
        → cond b (y ∷ kept keep (ys ++ x ∷ [])) (kept keep (ys ++ x ∷ [])) ≡ cond b (y ∷ kept keep ys) (kept keep ys) ++ kept keep (x ∷ [])
    go true e = ap (λ l. y ∷ l) e
    go false e = e

pub image-made : (keep : ℕ → Bool) (before xs : List Item) → length (kept keep before) ≡ count_kept keep (length before) → AreNumbered keep before xs
    → AreMade (image_items keep before) (image_items keep xs)
image-made keep before [] c h = tt
image-made keep before (x ∷ xs) c h = go (keep x.symbol) refl (λ size. image-made keep (before ++ x ∷ []) xs size h.4)
  where
    number : ℕ → ℕ
    number = symbol_of keep

    longer : length (before ++ x ∷ []) ≡ suc (length before)
    longer = omega (arith, length-append before (x ∷ []))

    one_more : (n : ℕ) → n + 1 ≡ suc n
    one_more n = omega arith

    same : keep x.symbol ≡ keep (length before)
    same = ap keep h.0

    go : (b : Bool) → keep x.symbol ≡ b
        → (length (kept keep (before ++ x ∷ [])) ≡ count_kept keep (length (before ++ x ∷ []))
        → AreMade (image_items keep (before ++ x ∷ [])) (image_items keep xs))
        → AreMade (image_items keep before) (map (renumbered number) (cond b (x ∷ kept keep xs) (kept keep xs)))
    go true e later =
        let one : kept keep (x ∷ []) ≡ x ∷ [] = ap (λ b. cond b (x ∷ []) []) e in
        let front : kept keep (before ++ x ∷ []) ≡ kept keep before ++ x ∷ [] = kept-last keep before x ∙ ap (λ l. kept keep before ++ l) one in
        let size : length (kept keep (before ++ x ∷ [])) ≡ count_kept keep (length (before ++ x ∷ [])) =
        ap length front ∙ length-append (kept keep before) (x ∷ []) ∙ ap (λ n. n + 1) c ∙ one_more (count_kept keep (length before))
        ∙ ap (λ b. cond b (suc (count_kept keep (length before))) (count_kept keep (length before))) (sym (sym same ∙ e))
        ∙ ap (count_kept keep) (sym longer) in
        let images : image_items keep (before ++ x ∷ []) ≡ image_items keep before ++ renumbered number x ∷ [] =
        ap (map (renumbered number)) front ∙ map-append (renumbered number) (kept keep before) (x ∷ []) in
        let place : number x.symbol ≡ length signature + (length lemmas + length (image_items keep before)) =
        ap number h.0 ∙ ap (λ n. length signature + (length lemmas + n)) (sym c ∙ sym (length-map (kept keep before) (renumbered number))) in (
          place,
          new-renumbered number (kept keep before) x.content (new-kept keep before x.content h.1),
          content-renumbered number (kept keep before) x.content (content-kept keep before x.content (h.3 e) h.2),
          subst (λ l. AreMade l (image_items keep xs)) images (later size),
        )
    go false e later =
        let one : kept keep (x ∷ []) ≡ [] = ap (λ b. cond b (x ∷ []) []) e in
        let front : kept keep (before ++ x ∷ []) ≡ kept keep before =
        kept-last keep before x ∙ ap (λ l. kept keep before ++ l) one ∙ append-nil (kept keep before) in
        let size : length (kept keep (before ++ x ∷ [])) ≡ count_kept keep (length (before ++ x ∷ [])) =
        ap length front ∙ c ∙ ap (λ b. cond b (suc (count_kept keep (length before))) (count_kept keep (length before))) (sym (sym same ∙ e))
        ∙ ap (count_kept keep) (sym longer) in
        subst (λ l. AreMade (map (renumbered number) l) (image_items keep xs)) front (later size)
