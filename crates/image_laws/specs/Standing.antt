-- The theorems of a run's module stand for what the run's steps say; and what its declarations are.
use Rattle.std.proofs.Common.{◌≡◌, ℕ, zero, suc, ◌+◌, List, [], ◌∷◌, ◌++◌, map, length, Bool, true, false, cond, Some, None, inl, inr, slice_get, refl, sym, ap, subst, ◌∙◌, append_assoc, arith}
use Rattle.std.specs.List.{AllByRecursion}
use Rattle.std.proofs.lemmas.List.{append-nil, map-append, length-append, length-map}
use Rattle.std.proofs.lemmas.Option.{same_Some}
use Rattle.hol_spec.specs.Terms as term
use Rattle.hol_spec.specs.Terms.{Term}
use Rattle.hol_spec.specs.Limits.{SequentWithin}
use Rattle.hol_spec.specs.Sequents.{Sequent, IsSequent, terms_of}
use Rattle.hol_spec.specs.ClosedForm.{closed_form}
use Rattle.hol_spec.specs.Symbols.{Symbol}
use Rattle.hol_spec.specs.Proofs.{Made, Step, symbols_of, steps_of, sequents_of, Accepted}
use Rattle.hol_spec.specs.Proofs as made
use Rattle.hol_spec.specs.Over.{IsOver}
use Rattle.hol_proof_laws.specs.ProofGrowth.{sequents_of-append, proof-sequents, All-get}
use Rattle.article_spec.specs.SoundRuns.{IsSoundRun}
use Rattle.hol_spec.specs.Lists.{IsIn}
use Rattle.hol_laws.specs.Members.{All-at, All-each, All-left, All-right, All-append, All-weaker, All-mapped}
use Rattle.hol_laws.specs.PlaceLaws.{slice_get-mapped}
use Rattle.lp_spec.specs.Modules.{Declaration, signature, symbol_declaration}
use Rattle.lp_spec.specs.Lemmas.{lemmas, sym_lemma, trans_lemma}
use Rattle.translate_spec.specs.Scopes.{SymbolMap, sequent_tree}
use Rattle.translate_spec.specs.Enc.{Enc}
use Rattle.translate_spec.specs.Items.{Content, operator, constant, defined_constant, type_operator, type_abstraction, type_representation, unproved, step, Item, says, declaration, declaration_of, module_of}
use Rattle.translate_spec.specs.Items as item
use Rattle.translate_spec.specs.MadeItems.{items_of, roots_of}
use Rattle.translate_spec.specs.Reach.{Key, kept, renumbered, renumbered_content, keep_of, symbol_of, image_items}
use Rattle.translate_spec.specs.Image.{name_in, image}
use Rattle.translate_laws.specs.ItemConditions.{AreItems}
use Rattle.translate_laws.specs.MadeModules.{AreMade, items-made}
use Rattle.translate_laws.specs.BodyTyping.{IsIn-map}
use Rattle.hol_spec.specs.Names.{Name}
use Rattle.translate_laws.specs.KeptModules.{IsIn-kept, image-made}
use Rattle.translate_laws.specs.WantedItems.{AreMadeInOrder, made-numbered}
use Rattle.translate_laws.specs.TermScopeLaws.{AreInstances}
use Rattle.translate_laws.specs.TheoremTyping.{HasInstances}
use Rattle.translate_laws.specs.SequentEncoding.{TermMeant, sequent_tree-Enc}
use Rattle.translate_laws.specs.SaidItems.{says-renumbered}
use Rattle.image_laws.specs.Origins.{Origin, HaveOrigins}
use Rattle.image_laws.specs.Named.{HasNames}
use Rattle.image_laws.specs.NewNames.{constant_named, IsSymbolName}
use Rattle.image_laws.specs.RunModules.{IsItemName, content-says, item_name-is}
use Rattle.image_laws.specs.Meanings.{ItemMeant, ContentMeant, content-meant, symbol-meant}
use Rattle.lp_binding_laws.specs.LookUps.{slice_get-seam}

-- sequents of a run are within the limits
within-all : (m : List Made) → IsOver m → AllByRecursion SequentWithin (sequents_of m)
within-all m made.Each.empty = tt
within-all m (made.Each.more {made = before} (Made.symbol x) p h is) =
    subst (AllByRecursion SequentWithin) (sym (ap sequents_of is ∙ sequents_of-append before (Made.symbol x ∷ []) ∙ append-nil (sequents_of before)))
    (within-all before p)
within-all m (made.Each.more {made = before} (Made.type_definition names c f i) p h is) =
    subst (AllByRecursion SequentWithin)
    (sym (ap sequents_of is ∙ sequents_of-append before (Made.type_definition names c f i ∷ []) ∙ append-nil (sequents_of before))) (within-all before p)
within-all m (made.Each.more {made = before} (Made.step x) p h is) =
    subst (AllByRecursion SequentWithin) (sym (ap sequents_of is ∙ sequents_of-append before (Made.step x ∷ [])))
    (All-append SequentWithin (sequents_of before) (x.sequent ∷ []) (within-all before p) (h.within, tt {0}))

pub skip : {A : Type 0} (xs ys : List A) (k : ℕ) → slice_get (xs ++ ys) (length xs + k) ≡ slice_get ys k
skip [] ys k = let z : 0 + k ≡ k = omega arith in ap (slice_get ys) z
skip (x ∷ xs) ys k = let z : suc (length xs) + k ≡ suc (length xs + k) = omega arith in ap (slice_get (x ∷ (xs ++ ys))) z ∙ skip xs ys k

-- an item of a run comes from a symbol, and has its name, or says what a step says
pub data IsKind (run : Accepted) (z : Item) : Type 0 where
  naming : IsSymbolName (symbols_of run.made) z.content z.name → IsKind run z
  saying : (i : ℕ) (x : Step) → slice_get (steps_of run.made) i ≡ Some x → says z.content ≡ Some x.sequent → IsKind run z

module _ (number : ℕ → ℕ) where
  constant_named-renumbered : (c : Content) → constant_named (renumbered_content number c) ≡ constant_named c
  constant_named-renumbered (operator n k) = refl
  constant_named-renumbered (constant n a) = refl
  constant_named-renumbered (defined_constant n a t) = refl
  constant_named-renumbered (type_operator names c u j one) = refl
  constant_named-renumbered (type_abstraction names c u j one) = refl
  constant_named-renumbered (type_representation names c u j one) = refl
  constant_named-renumbered (unproved s) = refl
  constant_named-renumbered (step kind js ss g s) = refl

  name-renumbered : (ss : List Symbol) (c : Content) (name : List ℕ) → IsSymbolName ss c name → IsSymbolName ss (renumbered_content number c) name
  name-renumbered ss c name (IsSymbolName.an_input n is e w) = IsSymbolName.an_input n is (ap (renumbered_content number) e) w
  name-renumbered ss c name (IsSymbolName.an_input_operator n k is e w) = IsSymbolName.an_input_operator n k is (ap (renumbered_content number) e) w
  name-renumbered ss c name (IsSymbolName.a_constant n is e w) = IsSymbolName.a_constant n is (constant_named-renumbered c ∙ e) w
  name-renumbered ss c name (IsSymbolName.an_operator names a f j one is among e w) =
      IsSymbolName.an_operator names a f (number j) one is among (ap (renumbered_content number) e) w

  kind-renumbered : (run : Accepted) (z : Item) → IsKind run z → IsKind run (renumbered number z)
  kind-renumbered run z (IsKind.naming h) = IsKind.naming (name-renumbered (symbols_of run.made) z.content z.name h)
  kind-renumbered run z (IsKind.saying i x at e) = IsKind.saying i x at (says-renumbered number z.content ∙ e)

kind-of : (run : Accepted) (P : ℕ → Type 0) (z : Item) → IsItemName run P z → IsKind run z
kind-of run P z (IsItemName.by_symbol h) = IsKind.naming h
kind-of run P z (IsItemName.by_step i x p at told h) = IsKind.saying i x at (content-says x z.content told)

-- the origins of items, without their numbers
abbrev pub Always : ℕ → Type 0
Always i = Unit {0}

pub origin-of : (run : Accepted) (P : ℕ → Type 0) (z : Item) → Origin run run.made P z → Origin run run.made Always z
origin-of run P z (Origin.of_symbol x among i e) = Origin.of_symbol x among i e
origin-of run P z (Origin.of_definition names c f one among i e) = Origin.of_definition names c f one among i e
origin-of run P z (Origin.of_step i x kind js ss g p at e f) = Origin.of_step i x kind js ss g (tt {0}) at e f

pub origins-all : (run : Accepted) (before xs : List Item) → HaveOrigins run run.made before xs → AllByRecursion (Origin run run.made Always) xs
origins-all run before [] h = tt
origins-all run before (z ∷ zs) h = (origin-of run _ z h.0, origins-all run (before ++ z ∷ []) zs h.1)

-- a kept item is one of those
pub IsIn-kept_of : (keep : ℕ → Bool) (xs : List Item) (x : Item) → IsIn (kept keep xs) x → IsIn xs x × (keep x.symbol ≡ true)
IsIn-kept_of keep [] x k = absurd k
IsIn-kept_of keep (y ∷ ys) x k = go (keep y.symbol) refl k (IsIn-kept_of keep ys x)
  where
    go : (b : Bool) → keep y.symbol ≡ b → IsIn (cond b (y ∷ kept keep ys) (kept keep ys)) x → (IsIn (kept keep ys) x → IsIn ys x × (keep x.symbol ≡ true))
        → IsIn (y ∷ ys) x × (keep x.symbol ≡ true)
    go true e (inl is) rest = (inl is, ap (λ (z : Item). keep z.symbol) is ∙ e)
    go true e (inr i) rest = let r = rest i in (inr r.0, r.1)
    go false e i rest = let r = rest i in (inr r.0, r.1)

pub IsIn-map_of : {A B : Type 0} (f : A → B) (xs : List A) (y : B) → IsIn (map f xs) y → (x : A) × IsIn xs x × (y ≡ f x)
IsIn-map_of f [] y k = absurd k
IsIn-map_of f (x ∷ xs) y (inl e) = (x, inl refl, e)
IsIn-map_of f (x ∷ xs) y (inr k) = let r = IsIn-map_of f xs y k in (r.0, inr r.1, r.2)

module _ (run : Accepted) (named : HasNames run) (sound : IsSoundRun run) where
  abbrev pub items : List Item
  items = items_of (name_in run) run.made

  abbrev pub roots : List Key
  roots = roots_of (name_in run) run.made run.exports

  abbrev pub keep : ℕ → Bool
  keep = keep_of roots items

  abbrev pub number : ℕ → ℕ
  number = symbol_of keep

  abbrev pub stays : List Item
  stays = image_items keep items

  abbrev pub symbols : SymbolMap
  symbols = item.symbols_of stays

  abbrev pub m : List Declaration
  m = image run

  abbrev pub declared : Item → Declaration
  declared z = declaration symbols (renumbered number z)

  located : (before xs : List Item) (z : Item) → stays ≡ before ++ z ∷ xs → z.symbol ≡ length signature + (length lemmas + length before)
      → symbol_declaration m z.symbol ≡ Some (declaration symbols z)
  located before xs z whole e =
      let D = declaration symbols in
      ap (symbol_declaration m) e ∙ skip signature m (length lemmas + length before) ∙ skip lemmas (map D stays) (length before)
      ∙ ap (λ l. slice_get (map D l) (length before)) whole ∙ ap (λ l. slice_get l (length before)) (map-append D before (z ∷ xs))
      ∙ ap (slice_get (map D before ++ map D (z ∷ xs))) (sym (length-map before D)) ∙ slice_get-seam (map D before) (map D xs) (D z)

  abbrev pub BothMeant : Item → Type 0
  BothMeant z = ItemMeant m symbols z.content × ContentMeant m symbols z.content

  sayer-meant : (c : Content) (s : Sequent) → says c ≡ Some s → ItemMeant m symbols c
  sayer-meant (operator n k) s e = absurd (cc)
  sayer-meant (constant n a) s e = absurd (cc)
  sayer-meant (defined_constant n a t) s e = absurd (cc)
  sayer-meant (type_operator names c u j one) s e = absurd (cc)
  sayer-meant (type_abstraction names c u j one) s e = absurd (cc)
  sayer-meant (type_representation names c u j one) s e = absurd (cc)
  sayer-meant (unproved r) s e = tt
  sayer-meant (step kind js ss g r) s e = tt

  all-meant : (before xs : List Item) → stays ≡ before ++ xs → AreMade before xs → AreItems symbols before xs → AllByRecursion (IsKind run) xs
      → AllByRecursion BothMeant before → AllByRecursion BothMeant stays
  all-meant before [] whole h k kinds meant = subst (AllByRecursion BothMeant) (sym (whole ∙ append-nil before)) meant
  all-meant before (z ∷ zs) whole h k kinds meant =
      all-meant (before ++ z ∷ []) zs (whole ∙ sym (append_assoc before (z ∷ []) zs)) h.3 k.3 kinds.1
      (All-append BothMeant before (z ∷ []) meant ((one kinds.0, made_from), tt {0}))
    where
      made_from : ContentMeant m symbols z.content
      made_from = content-meant m symbols before (All-weaker BothMeant (λ (y : Item). ItemMeant m symbols y.content) (λ y b. b.0) before meant) z.content h.2

      one : IsKind run z → ItemMeant m symbols z.content
      one (IsKind.naming a) = symbol-meant m symbols (symbols_of run.made) z.symbol z.name before z.content a h.1 k.1 made_from (located before zs z whole h.0)
      one (IsKind.saying i x at e) = sayer-meant z.content x.sequent e

  -- what an item says
  pub content-terms : (c : Content) (s : Sequent) → says c ≡ Some s → ContentMeant m symbols c → AllByRecursion (TermMeant m symbols) (terms_of s)
  content-terms (operator n k) s e h = absurd (cc)
  content-terms (constant n a) s e h = absurd (cc)
  content-terms (defined_constant n a t) s e h = absurd (cc)
  content-terms (type_operator names c u j one) s e h = absurd (cc)
  content-terms (type_abstraction names c u j one) s e h = absurd (cc)
  content-terms (type_representation names c u j one) s e h = absurd (cc)
  content-terms (unproved r) s e h = subst (λ q. AllByRecursion (TermMeant m symbols) (terms_of q)) (same_Some _ _ e) h
  content-terms (step kind js ss g r) s e h = subst (λ q. AllByRecursion (TermMeant m symbols) (terms_of q)) (same_Some _ _ e) h

  pub content-type : (name : List ℕ) (c : Content) (s : Sequent) → says c ≡ Some s → (declaration_of symbols name c).ty ≡ sequent_tree symbols s
  content-type name (operator n k) s e = absurd (cc)
  content-type name (constant n a) s e = absurd (cc)
  content-type name (defined_constant n a t) s e = absurd (cc)
  content-type name (type_operator names c u j one) s e = absurd (cc)
  content-type name (type_abstraction names c u j one) s e = absurd (cc)
  content-type name (type_representation names c u j one) s e = absurd (cc)
  content-type name (unproved r) s e = ap (sequent_tree symbols) (same_Some _ _ e)
  content-type name (step kind js ss g r) s e = ap (sequent_tree symbols) (same_Some _ _ e)

  meant-instances : (t : Term) → TermMeant m symbols t → AreInstances symbols t
  meant-instances (term.Term.free n t) h = tt
  meant-instances (term.Term.bound k) h = tt
  meant-instances (term.Term.constant n t) h = h.instance
  meant-instances (term.Term.app f x) h = (meant-instances f h.0, meant-instances x h.1)
  meant-instances (term.Term.lam t b) h = meant-instances b h.1

  has-instances : (s : Sequent) → AllByRecursion (TermMeant m symbols) (terms_of s) → HasInstances symbols s
  has-instances s h = record {
    hypotheses = All-weaker (TermMeant m symbols) (AreInstances symbols) meant-instances s.hypotheses
        (All-left (TermMeant m symbols) s.hypotheses (s.conclusion ∷ []) h);
    conclusion = meant-instances s.conclusion (All-right (TermMeant m symbols) s.hypotheses (s.conclusion ∷ []) h).0;
  }

  module _ (order : AreMadeInOrder [] items) (origins : AllByRecursion (Origin run run.made Always) items) where
    pub kinds : AllByRecursion (IsKind run) items
    kinds = All-weaker (Origin run run.made Always) (IsKind run) (λ z o. kind-of run Always z (item_name-is run named sound.assumptions Always z o)) items
        origins

    pub stays-made : AreMade [] stays
    stays-made = image-made keep [] items refl (made-numbered roots [] items (tt {0}) order)

    kept-kinds : (xs : List Item) → AllByRecursion (IsKind run) xs → AllByRecursion (IsKind run) (map (renumbered number) (kept keep xs))
    kept-kinds xs h = All-mapped (IsKind run) (renumbered number) (kept keep xs)
        (All-each (λ z. IsKind run (renumbered number z)) (kept keep xs)
        (λ z i. kind-renumbered number run z (All-at (IsKind run) xs z h (IsIn-kept_of keep xs z i).0)))

    -- each symbol of the module means what it stands for
    pub stays-meant : AllByRecursion BothMeant stays
    stays-meant = all-meant [] stays refl stays-made (items-made [] stays stays-made) (kept-kinds items kinds) (tt {0})

    -- each declaration of an item that says something stands for what it says
    stand : (z : Item) → BothMeant z → IsKind run z → (s : Sequent) → says z.content ≡ Some s → Enc m (closed_form s) (declaration symbols z).ty
    stand z meant (IsKind.naming h) s e = absurd (silent (symbols_of run.made) z.content z.name h s e)
      where
        silent-constant : (n : Name) (c : Content) → constant_named c ≡ Some n → (s : Sequent) → says c ≡ Some s → ⊥
        silent-constant n (operator o k) e s f = absurd (cc)
        silent-constant n (constant o a) e s f = absurd (cc)
        silent-constant n (defined_constant o a t) e s f = absurd (cc)
        silent-constant n (type_operator names c u j one) e s f = absurd (cc)
        silent-constant n (type_abstraction names c u j one) e s f = absurd (cc)
        silent-constant n (type_representation names c u j one) e s f = absurd (cc)
        silent-constant n (unproved r) e s f = absurd (cc)
        silent-constant n (step kind js ss g r) e s f = absurd (cc)

        silent : (ss : List Symbol) (c : Content) (name : List ℕ) → IsSymbolName ss c name → (s : Sequent) → says c ≡ Some s → ⊥
        silent ss c name (IsSymbolName.an_input n is e w) s f = let g : None ≡ Some s = sym (ap says e) ∙ f in absurd (cc)
        silent ss c name (IsSymbolName.an_input_operator n k is e w) s f = let g : None ≡ Some s = sym (ap says e) ∙ f in absurd (cc)
        silent ss c name (IsSymbolName.a_constant n is e w) s f = silent-constant n c e s f
        silent ss c name (IsSymbolName.an_operator names a g j one is among e w) s f = let g : None ≡ Some s = sym (ap says e) ∙ f in absurd (cc)
    stand z meant (IsKind.saying i x at e) s f =
        let same : x.sequent ≡ s = same_Some _ _ (sym e ∙ f) in
        let got : slice_get (sequents_of run.made) i ≡ Some x.sequent = slice_get-mapped (λ (y : Step). y.sequent) (steps_of run.made) i x at in
        let is : IsSequent x.sequent = All-get IsSequent (sequents_of run.made) i x.sequent (proof-sequents run.made sound.proof) got in
        let within : SequentWithin x.sequent = All-get SequentWithin (sequents_of run.made) i x.sequent (within-all run.made sound.over) got in
        let terms = content-terms z.content s f meant.1 in
        subst (Enc m (closed_form s)) (sym (content-type z.name z.content s f))
        (sequent_tree-Enc m symbols s (subst IsSequent same is) (subst SequentWithin same within) (has-instances s terms) terms)

    pub item-stands : (z : Item) → IsIn items z → keep z.symbol ≡ true → (s : Sequent) → says z.content ≡ Some s → Enc m (closed_form s) (declared z).ty
    item-stands z i k s e =
        let there : IsIn stays (renumbered number z) = IsIn-map (renumbered number) (kept keep items) z (IsIn-kept keep items z i k) in
        stand (renumbered number z) (All-at BothMeant stays (renumbered number z) stays-meant there)
        (kind-renumbered number run z (All-at (IsKind run) items z kinds i)) s (says-renumbered number z.content ∙ e)

    -- what holds of the two lemmas and of the declaration of each kept item holds of each declaration
    each-stays : (P : ℕ → Declaration → Type 0) (before xs : List Item) → AreMade before xs
        → ((z : Item) → IsIn xs z → (i : ℕ) → length signature + i ≡ z.symbol → P i (declaration symbols z))
        → (i : ℕ) (d : Declaration) → slice_get (map (declaration symbols) xs) i ≡ Some d → P (length lemmas + (length before + i)) d
    each-stays P before [] h f i d e = absurd (cc)
    each-stays P before (z ∷ zs) h f zero d e =
        let n : length before + 0 ≡ length before = omega arith in
        subst (P (length lemmas + (length before + 0))) (same_Some _ _ e)
        (subst (λ k. P (length lemmas + k) (declaration symbols z)) (sym n) (f z (inl refl) (length lemmas + length before) (sym h.0)))
    each-stays P before (z ∷ zs) h f (suc i) d e =
        let l = length-append before (z ∷ []) in
        let n : length (before ++ z ∷ []) + i ≡ length before + suc i = omega (arith, l) in
        subst (λ k. P (length lemmas + k) d) n (each-stays P (before ++ z ∷ []) zs h.3 (λ y k. f y (inr k)) i d e)

    pub each-declaration : (P : ℕ → Declaration → Type 0) → P 0 sym_lemma → P 1 trans_lemma
        → ((z : Item) → IsIn items z → keep z.symbol ≡ true → (i : ℕ) → length signature + i ≡ number z.symbol → P i (declared z))
        → (i : ℕ) (d : Declaration) → slice_get m i ≡ Some d → P i d
    each-declaration P one two f zero d e = subst (P 0) (same_Some _ _ e) one
    each-declaration P one two f (suc zero) d e = subst (P 1) (same_Some _ _ e) two
    each-declaration P one two f (suc (suc i)) d e =
        let n : length lemmas + (0 + i) ≡ suc (suc i) = omega arith in
        subst (λ k. P k d) n
        (each-stays P [] stays stays-made
        (λ y k j at.
        let w = IsIn-map_of (renumbered number) (kept keep items) y k in
        let v = IsIn-kept_of keep items w.0 w.1 in
        subst (λ z. P j (declaration symbols z)) (sym w.2) (f w.0 v.0 v.1 j (at ∙ ap (λ (z : Item). z.symbol) w.2))) i d e)
