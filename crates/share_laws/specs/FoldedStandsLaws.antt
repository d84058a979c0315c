-- A folded module stands for the run for which the module stands.
use Rattle.std.proofs.Common.{◌≡◌, ◌⊎◌, ℕ, zero, suc, ◌+◌, inl, inr, refl, sym, ap, subst, ◌∙◌, append_assoc, Bool, true, false, List, [], ◌∷◌, ◌++◌, length, map, Option, Some, None, arith}
use Rattle.std.specs.Prelude.{◌||◌, if◌then◌else◌, slice_get, option_map, take, replicate, nat_eq}
use Rattle.std.specs.List.{filter}
use Rattle.std.specs.Option.{option_map_or}
use Rattle.std.proofs.Math.Path.{ap₂, subst₂}
use Rattle.std.proofs.Math.Seq.{take-append_seam}
use Rattle.std.proofs.lemmas.List.{length-append, append-nil}
use Rattle.std.proofs.lemmas.Option.{same_Some}
use Rattle.hol_spec.specs.Names.{Name}
use Rattle.hol_spec.specs.Types.{HolType, type_variables}
use Rattle.hol_spec.specs.Terms.{Term}
use Rattle.hol_spec.specs.Definitions.{TypeNames}
use Rattle.hol_spec.specs.NewTypes.{abstraction_type, representation_type}
use Rattle.hol_spec.specs.Proofs.{Accepted}
use Rattle.lp_spec.specs.declared.form.Form.TheVariants.{Thm, Def}
use Rattle.lp_spec.specs.Trees.{Tree, SortType, SortKind, Var, Sym, App, Lam, Pi}
use Rattle.lp_spec.specs.ShortNames.{NoneShort}
use Rattle.lp_spec.specs.Modules.{Declaration, signature, symbol, applied, types, products, abstractions, sub_symbol, sub_abs_symbol, sub_rep_symbol}
use Rattle.lp_binding_laws.specs.LookUps.{slice_get-seam}
use Rattle.lp_check_laws.specs.ShapedPasses.{AreShaped}
use Rattle.translate_spec.specs.Stands.{is_export_name, occurs, uses, IsReached, export, used, IsConstantType, IsGiven, IsUnproved, DefinesConstant, IsPartOf, part_definition, IsDefined, IsTheoremName, AreExports, none, more, StandsForRun}
use Rattle.translate_spec.specs.Image.{constant_name, operator_name}
use Rattle.translate_spec.specs.Stands as stands
use Rattle.share_spec.specs.MovedTrees.{moved_symbol, moved, moved_declaration}
use Rattle.share_spec.specs.Folded.{Entry, kept, abbreviated, entries_of, place_in, declarations, folded}
use Rattle.share_spec.specs.FoldedStands.{IsAbbreviated, of_type, of_term, IsAbbreviation, FoldedStands}
use Rattle.share_laws.specs.AbbreviationLaws.{abbreviation-IsAbbreviated}
use Rattle.share_laws.specs.MovedLaws.{moved-applied, moved-abstractions, moved_symbol-high, IsMoved, moved-symbol_type}
use Rattle.share_laws.specs.MovedShapes.{constant-moved as simple-moved, term-moved as shape-moved}
use Rattle.share_laws.specs.MovedMeanings.{moved-types, moved-operator, type-moved, Enc-moved, constant_type-moved, term-moved}
use Rattle.share_laws.specs.FoldedShapes.{IsPlaced, IsPlaced-IsMoved, IsPlaced-kept, IsPlaced-abbreviated, IsPlaced-first, AreEntries, entries_of-AreEntries, folded-WellTyped}
use Rattle.share_laws.specs.FoldedModules.{abbreviation_name, kept_of, kept_of-entries_of, folded-IsModule}

in_parts : (f x k y : Bool) → (f ≡ true → k ≡ true) → (x ≡ true → y ≡ true) → (f || x) ≡ true → (k || y) ≡ true
in_parts true x k y h i e = ap (λ b. b || y) (h refl)
in_parts false x k y h i e = go k y (i e)
  where
    go : (k y : Bool) → y ≡ true → (k || y) ≡ true
    go true y e = refl
    go false y e = e

-- where a declaration of a folded module comes from
data IsFrom (g : ℕ → ℕ) (m n : List Declaration) (i : ℕ) (d : Declaration) : Type 0 where
  from_kept : (j : ℕ) (c : Declaration) → slice_get m j ≡ Some c → i ≡ g j → moved_declaration g c ≡ d → IsFrom g m n i d
  from_abbreviation : IsAbbreviation (take i n) d → IsFrom g m n i d

module _ (g : ℕ → ℕ) where
  abbreviated-moved : (m n : List Declaration) (h : IsMoved g m n) (t a : Tree) → IsAbbreviated m t a → IsAbbreviated n (moved g t) (moved g a)
  abbreviated-moved m n h t _ (of_type s) = of_type (simple-moved g m n h s)
  abbreviated-moved m n h t a (of_term s) = of_term (shape-moved g m n h s)

  declarations-IsFrom : (before after : List Declaration) (es : List Entry) (k : ℕ) → IsPlaced g before after es → AreEntries before es
      → (i : ℕ) (d : Declaration) → slice_get (declarations g k es) i ≡ Some d
      → IsFrom g (before ++ kept_of es) (after ++ declarations g k es) (length after + i) d
  declarations-IsFrom before after [] k p h i d e = absurd (cc)
  declarations-IsFrom before after (kept c ∷ es) k p h zero d e =
      from_kept (length before) c (slice_get-seam before (kept_of es) c)
      (let z : length before + 0 ≡ length before = omega arith in sym (p.high 0) ∙ ap g z)
      (same_Some _ _ e)
  declarations-IsFrom before after (kept c ∷ es) k p h (suc i) d e =
      let x = moved_declaration g c in
      let count : length (after ++ x ∷ []) + i ≡ length after + suc i = omega (arith, length-append after (x ∷ [])) in
      subst (λ j. IsFrom g (before ++ c ∷ kept_of es) (after ++ x ∷ declarations g k es) j d) count
      (subst₂ (λ v w. IsFrom g v w (length (after ++ x ∷ []) + i) d) (append_assoc before (c ∷ []) (kept_of es))
      (append_assoc after (x ∷ []) (declarations g k es))
      (declarations-IsFrom (before ++ c ∷ []) (after ++ x ∷ []) es k (IsPlaced-kept g before after c es p) h.1 i d e))
  declarations-IsFrom before after (abbreviated t a ∷ es) k p h zero d e =
      let x : Declaration = record { name = abbreviation_name k; form = Def; ty = moved g a; body = Some (moved g t) } in
      let at : take (length after + 0) (after ++ x ∷ declarations g (suc k) es) ≡ after = let z : length after + 0 ≡ length after =
      omega arith in ap (λ j. take j (after ++ x ∷ declarations g (suc k) es)) z ∙ take-append_seam after (x ∷ declarations g (suc k) es) in
      from_abbreviation (subst (λ l. IsAbbreviation l d) (sym at) (record {
        number = k;
        body = moved g t;
        ty = moved g a;
        abbreviates = abbreviated-moved before after (IsPlaced-IsMoved g before after (abbreviated t a ∷ es) p) t a (abbreviation-IsAbbreviated before t a h.0);
        is = sym (same_Some _ _ e);
      }))
  declarations-IsFrom before after (abbreviated t a ∷ es) k p h (suc i) d e =
      let x : Declaration = record { name = abbreviation_name k; form = Def; ty = moved g a; body = Some (moved g t) } in
      let count : length (after ++ x ∷ []) + i ≡ length after + suc i = omega (arith, length-append after (x ∷ [])) in
      subst (λ j. IsFrom g (before ++ kept_of es) (after ++ x ∷ declarations g (suc k) es) j d) count
      (subst (λ w. IsFrom g (before ++ kept_of es) w (length (after ++ x ∷ []) + i) d) (append_assoc after (x ∷ []) (declarations g (suc k) es))
      (declarations-IsFrom before (after ++ x ∷ []) es (suc k) (IsPlaced-abbreviated g before after t a x es p) h.1 i d e))

  -- all are at their places at the end
  declarations-IsPlaced : (before after : List Declaration) (es : List Entry) (k : ℕ) → IsPlaced g before after es
      → IsPlaced g (before ++ kept_of es) (after ++ declarations g k es) []
  declarations-IsPlaced before after [] k p = subst₂ (λ v w. IsPlaced g v w []) (sym (append-nil before)) (sym (append-nil after)) p
  declarations-IsPlaced before after (kept c ∷ es) k p =
      let x = moved_declaration g c in
      subst₂ (λ v w. IsPlaced g v w []) (append_assoc before (c ∷ []) (kept_of es)) (append_assoc after (x ∷ []) (declarations g k es))
      (declarations-IsPlaced (before ++ c ∷ []) (after ++ x ∷ []) es k (IsPlaced-kept g before after c es p))
  declarations-IsPlaced before after (abbreviated t a ∷ es) k p =
      subst (λ w. IsPlaced g (before ++ kept_of es) w []) (append_assoc after (_ ∷ []) (declarations g (suc k) es))
      (declarations-IsPlaced before (after ++ _ ∷ []) es (suc k) (IsPlaced-abbreviated g before after t a _ es p))

pub folded-IsMoved : (m : List Declaration) → IsMoved (place_in (entries_of m)) m (folded m)
folded-IsMoved m =
    let es = entries_of m in
    subst (λ l. IsMoved (place_in es) l (folded m)) (kept_of-entries_of m)
    (IsPlaced-IsMoved (place_in es) (kept_of es) (folded m) [] (declarations-IsPlaced (place_in es) [] [] es 0 (IsPlaced-first es)))

folded-IsFrom : (m : List Declaration) → AreShaped [] m → (i : ℕ) (d : Declaration) → slice_get (folded m) i ≡ Some d
    → IsFrom (place_in (entries_of m)) m (folded m) i d
folded-IsFrom m s i d e =
    let es = entries_of m in
    let z : 0 + i ≡ i = omega arith in
    subst₂ (λ l j. IsFrom (place_in es) l (folded m) j d) (kept_of-entries_of m) z
    (declarations-IsFrom (place_in es) [] [] es 0 (IsPlaced-first es) (entries_of-AreEntries m s) i d e)

module _ (g : ℕ → ℕ) where
  occurs-moved : (s : ℕ) (t : Tree) → occurs s t ≡ true → occurs (moved_symbol g s) (moved g t) ≡ true
  occurs-moved s (Sym r) e = let same : s ≡ r = grind arith in subst (λ k. nat_eq (moved_symbol g s) (moved_symbol g k) ≡ true) same (grind arith)
  occurs-moved s (App f x) e = in_parts (occurs s f) (occurs s x) (occurs (moved_symbol g s) (moved g f)) (occurs (moved_symbol g s) (moved g x))
      (occurs-moved s f) (occurs-moved s x) e
  occurs-moved s (Lam f x) e = in_parts (occurs s f) (occurs s x) (occurs (moved_symbol g s) (moved g f)) (occurs (moved_symbol g s) (moved g x))
      (occurs-moved s f) (occurs-moved s x) e
  occurs-moved s (Pi f x) e = in_parts (occurs s f) (occurs s x) (occurs (moved_symbol g s) (moved g f)) (occurs (moved_symbol g s) (moved g x))
      (occurs-moved s f) (occurs-moved s x) e
  occurs-moved s SortType e = absurd (cc)
  occurs-moved s SortKind e = absurd (cc)
  occurs-moved s (Var n) e = absurd (cc)

  uses-moved : (d : Declaration) (s : ℕ) → uses d s ≡ true → uses (moved_declaration g d) (moved_symbol g s) ≡ true
  uses-moved d s e = in_parts (occurs s d.ty) (option_map_or (occurs s) d.body false) (occurs (moved_symbol g s) (moved g d.ty))
      (option_map_or (occurs (moved_symbol g s)) (option_map (moved g) d.body) false) (occurs-moved s d.ty) (body d.body) e
    where
      body : (o : Option Tree) → option_map_or (occurs s) o false ≡ true → option_map_or (occurs (moved_symbol g s)) (option_map (moved g) o) false ≡ true
      body None e = absurd (cc)
      body (Some t) e = occurs-moved s t e

module _ (g : ℕ → ℕ) (m n : List Declaration) (h : IsMoved g m n) (run : Accepted) where
  at-moved : (i : ℕ) (d : Declaration) → slice_get m i ≡ Some d → slice_get n (g i) ≡ Some (moved_declaration g d)
  at-moved i d e = h.each i ∙ ap (option_map (moved_declaration g)) e

  reached-moved : (i : ℕ) → IsReached m i → IsReached n (g i)
  reached-moved i (export d e f) = export (moved_declaration g d) (at-moved i d e) f
  reached-moved i (used j d r e f) =
      used (g j) (moved_declaration g d) (reached-moved j r) (at-moved j d e)
      (subst (λ s. uses (moved_declaration g d) s ≡ true) (moved_symbol-high g i) (uses-moved g d (length signature + i) f))

  operator_symbol : (name : List ℕ) (k : ℕ)
      → moved_declaration g (symbol name (products (replicate k types) types)) ≡ symbol name (products (replicate k types) types)
  operator_symbol name k = ap (symbol name) (moved-operator g k)

  given-moved : (d : Declaration) → IsGiven m run d → IsGiven n run (moved_declaration g d)
  given-moved d (stands.IsGiven.input_constant c a) = stands.IsGiven.input_constant c a
  given-moved d (stands.IsGiven.input_operator c k a) = subst (IsGiven n run) (sym (operator_symbol _ k)) (stands.IsGiven.input_operator c k a)
  given-moved d (stands.IsGiven.assumption k i A e r) = stands.IsGiven.assumption k i (moved g A) e (Enc-moved g m n h _ A r)

  constant-moved : (d : Declaration) → DefinesConstant m run d → DefinesConstant n run (moved_declaration g d)
  constant-moved d r = record {
    name = r.name;
    term = r.term;
    ty = r.ty;
    among = r.among;
    typed = r.typed;
    A = moved g r.A;
    B = moved g r.B;
    type_stands = constant_type-moved g m n h r.ty r.A r.type_stands;
    term_stands = term-moved g m n h _ _ r.B r.term_stands;
    is = ap (moved_declaration g) r.is ∙ ap (λ t. record { name = constant_name r.name; form = Def; ty = moved g r.A; body = Some t })
        (moved-abstractions g (replicate _ types) r.B ∙ ap (λ l. abstractions l (moved g r.B)) (moved-types g _));
  }

  -- the arguments of a symbol of parts
  part-moved : (names : TypeNames) (c : HolType) (f : Term) (variables : List Name) (arguments : List Tree) → IsPartOf m run names c f variables arguments
      → IsPartOf n run names c f variables (map (moved g) arguments)
  part-moved names c f variables arguments r = record {
    among = r.among;
    one = r.one;
    defines = r.defines;
    C = moved g r.C;
    F = moved g r.F;
    W = moved g r.W;
    symbol = moved_symbol g r.symbol;
    parameters = map (moved g) r.parameters;
    A = moved g r.A;
    type_stands = type-moved g m n h _ _ r.C r.type_stands;
    predicate_stands = term-moved g m n h _ _ r.F r.predicate_stands;
    theorem = moved-symbol_type g m n h r.symbol ∙ ap (option_map (moved g)) r.theorem;
    says = Enc-moved g m n h _ r.A r.says;
    are = ap (map (moved g)) r.are ∙ ap (λ t. moved g r.C ∷ moved g r.F ∷ moved g r.W ∷ t ∷ []) (moved-applied g (Sym r.symbol) r.parameters);
  }

  part_body-moved : (k s : ℕ) (arguments : List Tree)
      → moved g (abstractions (replicate k types) (applied (Sym s) arguments))
      ≡ abstractions (replicate k types) (applied (Sym (moved_symbol g s)) (map (moved g) arguments))
  part_body-moved k s arguments = moved-abstractions g (replicate k types) (applied (Sym s) arguments) ∙ ap₂ abstractions (moved-types g k)
      (moved-applied g (Sym s) arguments)

  part_definition-moved : (name : List ℕ) (A : Tree) (k s : ℕ) (arguments : List Tree)
      → moved_declaration g (part_definition name A k s arguments) ≡ part_definition name (moved g A) k (moved_symbol g s) (map (moved g) arguments)
  part_definition-moved name A k s arguments = ap (λ t. record { name = name; form = Def; ty = moved g A; body = Some t }) (part_body-moved k s arguments)

  defined-moved : (d : Declaration) → IsDefined m run d → IsDefined n run (moved_declaration g d)
  defined-moved d (stands.IsDefined.constant r) = stands.IsDefined.constant (constant-moved d r)
  defined-moved _ (stands.IsDefined.type_operator names c f arguments r) =
      subst (IsDefined n run)
      (sym (part_definition-moved _ _ _ sub_symbol arguments
      ∙ ap (λ A. part_definition (operator_name names.operator) A (length names.variables) sub_symbol (map (moved g) arguments))
      (moved-operator g (length names.variables))))
      (stands.IsDefined.type_operator names c f (map (moved g) arguments) (part-moved names c f names.variables arguments r))
  defined-moved _ (stands.IsDefined.abstraction names c f A arguments t r) =
      subst (IsDefined n run) (sym (part_definition-moved _ A _ sub_abs_symbol arguments))
      (stands.IsDefined.abstraction names c f (moved g A) (map (moved g) arguments) (constant_type-moved g m n h _ A t)
      (part-moved names c f (type_variables (abstraction_type names c)) arguments r))
  defined-moved _ (stands.IsDefined.representation names c f A arguments t r) =
      subst (IsDefined n run) (sym (part_definition-moved _ A _ sub_rep_symbol arguments))
      (stands.IsDefined.representation names c f (moved g A) (map (moved g) arguments) (constant_type-moved g m n h _ A t)
      (part-moved names c f (type_variables (representation_type names c)) arguments r))

  exports-moved : (k : ℕ) (is : List ℕ) (ds : List Declaration) → AreExports m run k is ds → AreExports n run k is (map (moved_declaration g) ds)
  exports-moved k [] [] none = none
  exports-moved k [] (d ∷ ds) e = elim e [ ]
  exports-moved k (i ∷ is) [] e = elim e [ ]
  exports-moved k (i ∷ is) (d ∷ ds) (more a f r s) = more a f (Enc-moved g m n h _ d.ty r) (exports-moved (suc k) is ds s)

-- the exports are those that are kept
exports-kept : (g : ℕ → ℕ) (k : ℕ) (es : List Entry) → filter (λ (d : Declaration). is_export_name d.name) (declarations g k es)
    ≡ map (moved_declaration g) (filter (λ (d : Declaration). is_export_name d.name) (kept_of es))
exports-kept g k [] = refl
exports-kept g k (kept d ∷ es) = go (is_export_name d.name) (exports-kept g k es)
  where
    go : (b : Bool) → filter (λ (c : Declaration). is_export_name c.name) (declarations g k es)
        ≡ map (moved_declaration g) (filter (λ (c : Declaration). is_export_name c.name) (kept_of es))
        → (if b then moved_declaration g d ∷ filter (λ (c : Declaration). is_export_name c.name) (declarations g k es) else filter
        (λ (c : Declaration). is_export_name c.name) (declarations g k es))
        ≡ map (moved_declaration g)
        (if b then d ∷ filter (λ (c : Declaration). is_export_name c.name) (kept_of es) else filter (λ (c : Declaration). is_export_name c.name) (kept_of es))
    go true e = ap (λ l. moved_declaration g d ∷ l) e
    go false e = e
exports-kept g k (abbreviated t a ∷ es) = exports-kept g (suc k) es

no_body : (g : ℕ → ℕ) (o : Option Tree) → option_map (moved g) o ≡ None → o ≡ None
no_body g None e = refl
no_body g (Some t) e = absurd (cc)

-- What a module stands for, its folded module stands for
pub folded-FoldedStands : (m : List Declaration) (run : Accepted) → NoneShort m → AreShaped [] m → StandsForRun m run → FoldedStands (folded m) run
folded-FoldedStands m run u s h =
    let es = entries_of m in
    let g = place_in es in
    let k = folded-IsMoved m in
    record {
      is_module = folded-IsModule m h.is_module u s;
      typed = folded-WellTyped m s;
      unproved = λ i d e b. unproved i d b (folded-IsFrom m s i d e);
      definitions = λ i d e f. definitions i d f (folded-IsFrom m s i d e);
      theorems = λ i d e f. theorems i d f (folded-IsFrom m s i d e);
      exports = subst (AreExports (folded m) run 0 run.exports)
          (sym (exports-kept g 0 es ∙ ap (λ l. map (moved_declaration g) (filter (λ (d : Declaration). is_export_name d.name) l)) (kept_of-entries_of m)))
          (exports-moved g m (folded m) k run 0 run.exports _ h.exports);
    }
  where
    unproved : (i : ℕ) (d : Declaration) → d.body ≡ None → IsFrom (place_in (entries_of m)) m (folded m) i d → IsUnproved (folded m) run i d
    unproved i d b (from_kept j c at is moves) =
        let g = place_in (entries_of m) in
        let k = folded-IsMoved m in
        let r = h.unproved j c at (no_body g c.body (ap (λ (x : Declaration). x.body) moves ∙ b)) in
        subst₂ (IsUnproved (folded m) run) (sym is) moves
        (record { given = given-moved g m (folded m) k run c r.given; reached = reached-moved g m (folded m) k run j r.reached })
    unproved i d b (from_abbreviation a) = absurd (let e = ap (λ (x : Declaration). x.body) a.is in cc)

    definitions : (i : ℕ) (d : Declaration) → d.form ≡ Def → IsFrom (place_in (entries_of m)) m (folded m) i d
        → IsDefined (folded m) run d ⊎ IsAbbreviation (take i (folded m)) d
    definitions i d f (from_kept j c at is moves) =
        let g = place_in (entries_of m) in
        let k = folded-IsMoved m in
        inl (subst (IsDefined (folded m) run) moves (defined-moved g m (folded m) k run c (h.definitions j c at (ap (λ (x : Declaration). x.form) moves ∙ f))))
    definitions i d f (from_abbreviation a) = inr a

    theorems : (i : ℕ) (d : Declaration) → d.form ≡ Thm → IsFrom (place_in (entries_of m)) m (folded m) i d → IsTheoremName d.name
    theorems i d f (from_kept j c at is moves) =
        subst IsTheoremName (ap (λ (x : Declaration). x.name) moves) (h.theorems j c at (ap (λ (x : Declaration). x.form) moves ∙ f))
    theorems i d f (from_abbreviation a) = absurd (let e = sym (ap (λ (x : Declaration). x.form) a.is) ∙ f in cc)
