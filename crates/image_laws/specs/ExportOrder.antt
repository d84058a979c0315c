-- The declarations of a run's module that are named as exports are its exports, in order.
use Rattle.std.proofs.Common.{◌≡◌, ℕ, zero, suc, ◌<◌, ◌≤◌, ◌⊎◌, inl, inr, List, [], ◌∷◌, ◌++◌, map, length, Bool, true, false, ◌&&◌, ◌||◌, cond, Some, None, slice_get, refl, sym, ap, subst, ◌∙◌, append_assoc, arith}
use Rattle.std.specs.Prelude.{nat_eq, slice_index_or, codes}
use Rattle.std.specs.Cmp.{unsigned_Decides}
use Rattle.std.specs.List.{AllByRecursion, filter, position_or_len}
use Rattle.std.proofs.lemmas.List.{append-nil, length-append}
use Rattle.std.proofs.lemmas.Option.{slice_get_within, same_Some}
use Rattle.std.proofs.lemmas.Bool.{ne_eqb}
use Rattle.article_spec.specs.Ascending.{Ascend}
use Rattle.article_spec.specs.SoundRuns.{IsSoundRun}
use Rattle.hol_spec.specs.Names.{Name}
use Rattle.hol_spec.specs.Terms.{bound}
use Rattle.hol_spec.specs.Sequents.{Sequent}
use Rattle.hol_spec.specs.Symbols.{Symbol}
use Rattle.hol_spec.specs.ClosedForm.{closed_form}
use Rattle.hol_spec.specs.Rules.{Parameters}
use Rattle.hol_spec.specs.declared.StepKind.{StepKind}
use Rattle.hol_spec.specs.Proofs.{Step, symbols_of, steps_of, sequent_at, Accepted}
use Rattle.hol_spec.specs.Lists.{IsIn}
use Rattle.hol_laws.specs.Members.{IsIn-right, All-append, All-weaker}
use Rattle.hol_laws.specs.PositionLaws.{position-cons}
use Rattle.lp_spec.specs.declared.form.Form.TheVariants.{Thm}
use Rattle.lp_spec.specs.Modules.{Declaration}
use Rattle.translate_laws.specs.BodyTyping.{IsIn-map}
use Rattle.translate_laws.specs.WantedItems.{AreMadeInOrder, keep-wanted}
use Rattle.translate_laws.specs.AcceptedItems.{made-said}
use Rattle.translate_spec.specs.Scopes.{SymbolMap}
use Rattle.translate_spec.specs.Rows.{has_row}
use Rattle.translate_spec.specs.Items.{Content, operator, constant, defined_constant, type_operator, type_abstraction, type_representation, unproved, step, Item, says, declaration, declaration_of}
use Rattle.translate_spec.specs.Items as item
use Rattle.translate_spec.specs.MadeItems.{said_by, content_by, premise_at, items_of, roots_of}
use Rattle.translate_spec.specs.Reach.{Key, number_key, gives, kept, renumbered, renumbered_content, keep_of, symbol_of, image_items}
use Rattle.translate_spec.specs.Enc.{Enc}
use Rattle.translate_spec.specs.Image.{is_one_of, name_in, image}
use Rattle.lp_spec.specs.Numerals.{numeral, is_numeral}
use Rattle.translate_spec.specs.Stands.{is_export_name, AreExports}
use Rattle.translate_laws.specs.ExportNames.{export-named}
use Rattle.translate_laws.specs.SaidItems.{says-gives_of, silent-length, telling-length, premise_at-said}
use Rattle.image_laws.specs.ExportsKept.{numbered-from}
use Rattle.image_laws.specs.Named.{IsStepName, self-one}
use Rattle.image_laws.specs.NewNames.{constant_named, IsSymbolName}
use Rattle.image_laws.specs.RunModules.{content-says, IsItemName, HaveNames, declared-name}
use Rattle.article_laws.specs.SoundSteps.{Ascend-bounds}

-- only `E` begins the name of an export
no_front : (b : ℕ) (ds : List ℕ) → nat_eq b 69 ≡ false → is_export_name (b ∷ ds) ≡ false
no_front b ds e = ap (λ is_e. is_e && is_numeral ds) e

pub other_first : (b : ℕ) (ds name : List ℕ) → nat_eq b 69 ≡ false → name ≡ b ∷ ds → is_export_name name ≡ false
other_first b ds name e w = ap is_export_name w ∙ no_front b ds e

pub symbol-unexported : (symbols : List Symbol) (c : Content) (name : List ℕ) → IsSymbolName symbols c name → is_export_name name ≡ false
symbol-unexported symbols c name (IsSymbolName.an_input n is e w) = other_first 105 _ name refl w
symbol-unexported symbols c name (IsSymbolName.an_input_operator n k is e w) = other_first 116 _ name refl w
symbol-unexported symbols c name (IsSymbolName.a_constant n is e w) = other_first 99 _ name refl w
symbol-unexported symbols c name (IsSymbolName.an_operator names a f j one is among e w) = other_first 111 _ name refl w

constant-silent : (n : Name) (c : Content) → constant_named c ≡ Some n → says c ≡ None
constant-silent n (operator m k) e = refl
constant-silent n (constant m a) e = refl
constant-silent n (defined_constant m a t) e = refl
constant-silent n (type_operator names c u j one) e = refl
constant-silent n (type_abstraction names c u j one) e = refl
constant-silent n (type_representation names c u j one) e = refl
constant-silent n (unproved s) e = absurd (cc)
constant-silent n (step kind js ss g s) e = absurd (cc)

-- the items of symbols say nothing
pub symbol-silent : (symbols : List Symbol) (c : Content) (name : List ℕ) → IsSymbolName symbols c name → says c ≡ None
symbol-silent symbols c name (IsSymbolName.an_input n is e w) = ap says e
symbol-silent symbols c name (IsSymbolName.an_input_operator n k is e w) = ap says e
symbol-silent symbols c name (IsSymbolName.a_constant n is e w) = constant-silent n c e
symbol-silent symbols c name (IsSymbolName.an_operator names a f j one is among e w) = ap says e

-- a number is the first of ascending ones that don't begin before it, or not among them
data Head (i high : ℕ) (is : List ℕ) : Type 0 where
  here : (rest : List ℕ) → is ≡ i ∷ rest → Ascend (suc i) high rest → Head i high is
  later : is_one_of i is ≡ false → Ascend (suc i) high is → Head i high is

below-none : (i low high : ℕ) (is : List ℕ) → i < low → Ascend low high is → is_one_of i is ≡ false
below-none i low high [] l h = refl
below-none i low high (j ∷ is) l h =
    ap (λ b. b || is_one_of i is) (ne_eqb i j (λ e. let m = h.0 in omega (arith, l, m, e)))
    ∙ (let m = h.0 in below-none i (suc j) high is (omega (arith, l, m)) h.1)

is_or_less : (i r : ℕ) → i ≤ r → (i ≡ r) ⊎ (i < r)
is_or_less i r h = grind arith

head : (i high : ℕ) (is : List ℕ) → i < high → Ascend i high is → Head i high is
head i high [] l h = Head.later refl (omega (arith, l))
head i high (r ∷ is) l h = elim (is_or_less i r h.0) [
  | inl e ↦ Head.here is (ap (λ n. n ∷ is) (sym e)) (subst (λ n. Ascend (suc n) high is) (sym e) h.1)
  | inr less ↦ Head.later (below-none i (suc i) high (r ∷ is) (omega arith) (less, h.1)) (less, h.1)
]

passed-none : (i : ℕ) (done : List ℕ) → AllByRecursion (λ j. j < i) done → (rest : List ℕ) → is_one_of i (done ++ rest) ≡ is_one_of i rest
passed-none i [] h rest = refl
passed-none i (j ∷ done) h rest = ap (λ b. b || is_one_of i (done ++ rest)) (ne_eqb i j (λ e. let m = h.0 in omega (arith, m, e))) ∙ passed-none i done h.1 rest

passed-place : (i : ℕ) (done rest : List ℕ) → AllByRecursion (λ j. j < i) done → position_or_len (nat_eq i) (done ++ i ∷ rest) ≡ length done
passed-place i [] rest h = position-cons (nat_eq i) i rest true ((unsigned_Decides i i).1 refl)
passed-place i (j ∷ done) rest h =
    position-cons (nat_eq i) j (done ++ i ∷ rest) false (ne_eqb i j (λ e. let m = h.0 in omega (arith, m, e))) ∙ ap suc (passed-place i done rest h.1)

no_more : (i high : ℕ) (is : List ℕ) → high ≤ i → Ascend i high is → is ≡ []
no_more i high [] e h = refl
no_more i high (r ∷ is) e h = let l = Ascend-bounds (suc r) high is h.1 in let m = h.0 in absurd (omega (arith, l, m, e))

-- the sequent of a step
pub sequent-step : (steps : List Step) (i : ℕ) (x : Step) (d : Sequent) → slice_get steps i ≡ Some x → slice_index_or (map (λ (y : Step). y.sequent) steps) i d
    ≡ x.sequent
sequent-step [] i x d e = absurd (cc)
sequent-step (y ∷ steps) zero x d e = ap (λ (y : Step). y.sequent) (same_Some _ _ e)
sequent-step (y ∷ steps) (suc i) x d e = sequent-step steps i x d e

-- what every export is a step with a proof means
abbrev pub HaveRows : Accepted → Type 0
HaveRows run = (i : ℕ) (x : Step) → is_one_of i run.exports ≡ true → slice_get (steps_of run.made) i ≡ Some x → has_row x.kind ≡ true

module _ (run : Accepted) (sound : IsSoundRun run) (rows : HaveRows run) where
  abbrev items : List Item
  items = items_of (name_in run) run.made

  abbrev roots : List Key
  roots = roots_of (name_in run) run.made run.exports

  abbrev keep : ℕ → Bool
  keep = keep_of roots items

  abbrev number : ℕ → ℕ
  number = symbol_of keep

  abbrev symbols : SymbolMap
  symbols = item.symbols_of (image_items keep items)

  abbrev declared : Item → Declaration
  declared z = declaration symbols (renumbered number z)

  -- the declarations of these items that are kept, and of them the exports
  abbrev exports_among : List Item → List Declaration
  exports_among zs = filter (λ (d : Declaration). is_export_name d.name) (map (declaration symbols) (map (renumbered number) (kept keep zs)))

  unexported : (z : Item) (zs : List Item) → is_export_name z.name ≡ false → exports_among (z ∷ zs) ≡ exports_among zs
  unexported z zs e = go (keep z.symbol)
    where
      go : (b : Bool) → filter (λ (d : Declaration). is_export_name d.name)
          (map (declaration symbols) (map (renumbered number) (cond b (z ∷ kept keep zs) (kept keep zs)))) ≡ exports_among zs
      go true = ap (λ b. cond b (declared z ∷ exports_among zs) (exports_among zs)) (ap is_export_name (declared-name symbols number z) ∙ e)
      go false = refl

  exported : (z : Item) (zs : List Item) → is_export_name z.name ≡ true → keep z.symbol ≡ true → exports_among (z ∷ zs) ≡ declared z ∷ exports_among zs
  exported z zs e k =
      ap (λ b. filter (λ (d : Declaration). is_export_name d.name)
      (map (declaration symbols) (map (renumbered number) (cond b (z ∷ kept keep zs) (kept keep zs))))) k
      ∙ ap (λ b. cond b (declared z ∷ exports_among zs) (exports_among zs)) (ap is_export_name (declared-name symbols number z) ∙ e)

  one_of-IsIn : (i : ℕ) (is : List ℕ) → is_one_of i is ≡ true → IsIn is i
  one_of-IsIn i [] e = absurd (cc)
  one_of-IsIn i (j ∷ is) e = go (nat_eq i j) (unsigned_Decides i j).0 e (one_of-IsIn i is)
    where
      go : (b : Bool) → (b ≡ true → i ≡ j) → (b || is_one_of i is) ≡ true → (is_one_of i is ≡ true → IsIn is i) → IsIn (j ∷ is) i
      go true f e rest = inl (f refl)
      go false f e rest = inr (rest e)

  -- the item of an export is kept
  pub export-kept : AreMadeInOrder [] items → (before zs : List Item) (z : Item) (s : Sequent) → items ≡ before ++ z ∷ zs → says z.content ≡ Some s
      → is_one_of (length (said_by before)) run.exports ≡ true
      → keep z.symbol ≡ true
  export-kept order before zs z s whole e one =
      let i = length (said_by before) in
      let key : gives z ≡ number_key (premise_at items i).0 =
      says-gives_of z.symbol z.content s e ∙ ap (λ (p : ℕ × Sequent). number_key p.0) (sym (premise_at-said items before zs z s whole e)) in
      let root : IsIn roots (gives z) = subst (IsIn roots) (sym key)
      (IsIn-map (λ k. number_key (premise_at items k).0) run.exports i (one_of-IsIn i run.exports one)) in
      let there : IsIn items z = subst (λ l. IsIn l z) (sym whole) (IsIn-right before (z ∷ zs) z (inl refl)) in
      subst (λ l. keep_of roots l z.symbol ≡ true) (append-nil items) (keep-wanted roots 0 items [] z (numbered-from [] items order) there root)

  -- a step with a proof is a theorem
  form-step : (name : List ℕ) (b : Bool) → b ≡ true → (kind : StepKind) (js : List ℕ) (ss : List Sequent) (g : Parameters) (s : Sequent)
      → (declaration_of symbols name (renumbered_content number (content_by b kind js ss g s))).form ≡ Thm
  form-step name true e kind js ss g s = refl
  form-step name false e kind js ss g s = absurd (cc)

  -- each item's declaration stands for what it says
  abbrev pub AllStand : Type 0
  AllStand = (z : Item) → IsIn items z → keep z.symbol ≡ true → (s : Sequent) → says z.content ≡ Some s → Enc (image run) (closed_form s) (declared z).ty

  module _ (order : AreMadeInOrder [] items) (stand : AllStand) where
    exports-left : (before zs : List Item) (done rest : List ℕ) → items ≡ before ++ zs → run.exports ≡ done ++ rest
        → AllByRecursion (λ j. j < length (said_by before)) done
        → Ascend (length (said_by before)) (length (steps_of run.made)) rest → HaveNames run before zs
        → AreExports (image run) run (length done) rest (exports_among zs)
    exports-left before [] done rest whole split low up names =
        let n = ap (λ l. length (said_by l)) (whole ∙ append-nil before) in
        let none : rest ≡ [] = no_more (length (said_by before)) (length (steps_of run.made)) rest
        (omega (arith, n, made-said (name_in run) run.made sound.proof sound.over)) up in
        subst (λ l. AreExports (image run) run (length done) l []) (sym none) AreExports.none
    exports-left before (z ∷ zs) done rest whole split low up names =
        at names.0 (λ n r s l u. exports-left (before ++ z ∷ []) zs n r (whole ∙ sym (append_assoc before (z ∷ []) zs)) s l u names.1)
      where
        at : IsItemName run (λ i. i ≡ length (said_by before)) z
            → ((done2 rest2 : List ℕ) → run.exports ≡ done2 ++ rest2 → AllByRecursion (λ j. j < length (said_by (before ++ z ∷ []))) done2
            → Ascend (length (said_by (before ++ z ∷ []))) (length (steps_of run.made)) rest2
            → AreExports (image run) run (length done2) rest2 (exports_among zs))
            → AreExports (image run) run (length done) rest (exports_among (z ∷ zs))
        at (IsItemName.by_symbol h) next =
            let same = silent-length before z (symbol-silent (symbols_of run.made) z.content z.name h) in
            subst (AreExports (image run) run (length done) rest) (sym (unexported z zs (symbol-unexported (symbols_of run.made) z.content z.name h)))
            (next done rest split (subst (λ n. AllByRecursion (λ j. j < n) done) same low) (subst (λ n. Ascend n (length (steps_of run.made)) rest) same up))
        at (IsItemName.by_step i x p got told name) next =
            elim (head n (length (steps_of run.made)) rest (omega (arith, p, within)) up) [
              | Head.later out more ↦ other name (passed-none n done low rest ∙ out)
                  (next done rest split wider (subst (λ k. Ascend k (length (steps_of run.made)) rest) longer more))
              | Head.here rest2 is more ↦
                  let split2 : run.exports ≡ (done ++ n ∷ []) ++ rest2 = split ∙ ap (λ l. done ++ l) is ∙ sym (append_assoc done (n ∷ []) rest2) in
                  let one : is_one_of n run.exports ≡ true =
                  ap (is_one_of n) (split ∙ ap (λ l. done ++ l) is) ∙ passed-none n done low (n ∷ rest2) ∙ self-one n rest2 in
                  let tail = next (done ++ n ∷ []) rest2 split2
                  (All-append (λ j. j < length (said_by (before ++ z ∷ []))) done (n ∷ []) wider (omega (arith, longer), tt {0}))
                  (subst (λ k. Ascend k (length (steps_of run.made)) rest2) longer more) in
                  let size : length (done ++ n ∷ []) ≡ suc (length done) = let l = length-append done (n ∷ []) in omega (arith, l) in
                  let place : position_or_len (nat_eq n) run.exports ≡ length done =
                  ap (position_or_len (nat_eq n)) (split ∙ ap (λ l. done ++ l) is) ∙ passed-place n done rest2 low in
                  let stays : keep z.symbol ≡ true = export-kept order before zs z x.sequent whole (content-says x z.content told) one in
                  let there : IsIn items z = subst (λ l. IsIn l z) (sym whole) (IsIn-right before (z ∷ zs) z (inl refl)) in
                  let row : has_row x.kind ≡ true = rows n x one (ap (slice_get (steps_of run.made)) (sym p) ∙ got) in
                  let text : z.name ≡ codes "E" ++ numeral (length done) =
                  named-export name one ∙ ap (λ k. codes "E" ++ numeral k) (ap (λ k. position_or_len (nat_eq k) run.exports) p ∙ place) in
                  let said : sequent_at run.made n ≡ x.sequent =
                  sequent-step (steps_of run.made) n x (record { hypotheses = []; conclusion = bound 0 }) (ap (slice_get (steps_of run.made)) (sym p) ∙ got)
                  in
                  subst (λ l. AreExports (image run) run (length done) l (exports_among (z ∷ zs))) (sym is)
                  (subst (AreExports (image run) run (length done) (n ∷ rest2))
                  (sym (exported z zs (ap is_export_name text ∙ export-named (length done)) stays))
                  (AreExports.more (declared-name symbols number z ∙ text)
                  (ap (λ c. (declaration_of symbols z.name (renumbered_content number c)).form) told.is
                  ∙ form-step z.name (has_row x.kind) row told.kind told.premises told.sequents told.parameters x.sequent)
                  (subst (λ s. Enc (image run) (closed_form s) (declared z).ty) (sym said) (stand z there stays x.sequent (content-says x z.content told)))
                  (subst (λ k. AreExports (image run) run k rest2 (exports_among zs)) size tail)))
            ]
          where
            n : ℕ
            n = length (said_by before)

            within : i < length (steps_of run.made)
            within = slice_get_within (steps_of run.made) i x got

            longer : suc n ≡ length (said_by (before ++ z ∷ []))
            longer = telling-length before z x.sequent (content-says x z.content told)

            wider : AllByRecursion (λ j. j < length (said_by (before ++ z ∷ []))) done
            wider = All-weaker (λ j. j < n) (λ j. j < length (said_by (before ++ z ∷ []))) (λ j l. omega (arith, l, longer)) done low

            differ : {A : Type 0} → is_one_of i run.exports ≡ true → is_one_of i run.exports ≡ false → A
            differ e f = let g : true ≡ false = sym e ∙ f in absurd (cc)

            at_n : (b : Bool) → is_one_of n run.exports ≡ b → is_one_of i run.exports ≡ b
            at_n b e = ap (λ k. is_one_of k run.exports) p ∙ e

            named-export : IsStepName run i x.kind z.name → is_one_of n run.exports ≡ true
                → z.name ≡ codes "E" ++ numeral (position_or_len (nat_eq i) run.exports)
            named-export (IsStepName.an_export e w) one = w
            named-export (IsStepName.an_assumption e f k w) one = differ (at_n true one) e
            named-export (IsStepName.a_law e k w) one = differ (at_n true one) e
            named-export (IsStepName.a_theorem e k w) one = differ (at_n true one) e

            other : IsStepName run i x.kind z.name → is_one_of n (done ++ rest) ≡ false → AreExports (image run) run (length done) rest (exports_among zs)
                → AreExports (image run) run (length done) rest (exports_among (z ∷ zs))
            other (IsStepName.an_export e w) out h = differ e (at_n false (ap (is_one_of n) split ∙ out))
            other (IsStepName.an_assumption e f k w) out h =
                subst (AreExports (image run) run (length done) rest) (sym (unexported z zs (other_first 65 _ z.name refl w))) h
            other (IsStepName.a_law e k w) out h =
                subst (AreExports (image run) run (length done) rest) (sym (unexported z zs (other_first 76 _ z.name refl w))) h
            other (IsStepName.a_theorem e k w) out h =
                subst (AreExports (image run) run (length done) rest) (sym (unexported z zs (other_first 84 _ z.name refl w))) h

    -- The exports of the module are the run's
    pub exports-are : HaveNames run [] items → AreExports (image run) run 0 run.exports (filter (λ (d : Declaration). is_export_name d.name) (image run))
    exports-are names = exports-left [] items [] run.exports refl refl (tt {0}) sound.ascend names
