-- The module of an accepted run is a module: its declarations have new names, and are over what is declared before.
use Rattle.std.proofs.Common.{◌≡◌, ℕ, ◌<◌, ◌≤◌, inl, List, [], ◌∷◌, ◌++◌, map, length, Bool, true, false, ◌||◌, cond, Some, slice_get, refl, sym, ap, subst, ◌∙◌, append_assoc, arith}
use Rattle.std.specs.Prelude.{nat_le, bytes_eq}
use Rattle.std.specs.List.{AllByRecursion}
use Rattle.std.proofs.lemmas.List.{append-nil}
use Rattle.std.proofs.lemmas.Slice.Eq.{bytes_eq-Decides}
use Rattle.hol_spec.specs.Symbols.{Symbol}
use Rattle.hol_spec.specs.Definitions.{Definition}
use Rattle.hol_spec.specs.Sequents.{Sequent}
use Rattle.hol_spec.specs.Rules.{Parameters}
use Rattle.hol_spec.specs.declared.StepKind.{StepKind}
use Rattle.hol_spec.specs.Proofs.{Step, symbols_of, steps_of, IsProof, Accepted}
use Rattle.article_spec.specs.SoundRuns.{assumed_from, IsSoundRun}
use Rattle.article_spec.specs.Run.{accepted, Run}
use Rattle.article_laws.specs.SoundSteps.{runs_are_sound}
use Rattle.hol_spec.specs.Lists.{IsIn}
use Rattle.hol_laws.specs.Members.{IsIn-left, IsIn-right, All-at, All-each, All-weaker, All-append}
use Rattle.lp_spec.specs.Modules.{Declaration, signature}
use Rattle.lp_spec.specs.Lemmas.{lemmas}
use Rattle.lp_spec.specs.ModuleOrder.{is_declared, IsModule}
use Rattle.lp_spec.specs.ModuleOrder as order
use Rattle.lp_typing_laws.specs.Soundness.{IsSound}
use Rattle.lp_typing_laws.specs.Soundness.{IsSound-after}
use Rattle.lp_typing_laws.specs.WellTypedLaws.{WellTyped-IsSound}
use Rattle.lp_check_laws.specs.ShapedPasses.{AreShaped}
use Rattle.translate_laws.specs.ShapesTyped.{shaped-IsTypedAfter}
use Rattle.translate_laws.specs.OrderedModules.{shaped-over}
use Rattle.article_laws.specs.SoundStates.{list_all-All, at_most, zero-plus}
use Rattle.translate_laws.specs.MadeModules.{IsNew}
use Rattle.translate_laws.specs.WantedItems.{AreMadeInOrder}
use Rattle.translate_spec.specs.Rows.{has_row}
use Rattle.translate_spec.specs.Scopes.{SymbolMap}
use Rattle.translate_spec.specs.Items.{Content, operator, constant, defined_constant, type_operator, type_abstraction, type_representation, unproved, step, Item, says, declaration, declaration_of}
use Rattle.translate_spec.specs.Items as item
use Rattle.translate_spec.specs.MadeItems.{said_by, content_by, items_of, roots_of}
use Rattle.translate_spec.specs.Reach.{kept, renumbered_content, renumbered, keep_of, symbol_of, image_items}
use Rattle.translate_spec.specs.Image.{is_one_of, name_in, image}
use Rattle.image_laws.specs.Origins.{Origin, HaveOrigins, made-origins}
use Rattle.image_laws.specs.Named.{SymbolHasName, HasNames, first_byte, second_byte, IsStepName, step_name-is, step_name-low, same-step, is-assumed}
use Rattle.image_laws.specs.NewNames.{IsSymbolName, symbol_name-is, definition_name-is, symbols-apart, symbol_name-high}
use Rattle.image_laws.specs.AcceptedRuns.{IsCarried, runs_are_carried}
use Rattle.translate_laws.specs.AcceptedItems.{says-step}
use Rattle.translate_laws.specs.SaidItems.{length-said_by, length-said_by_one}

-- the content of a step
pub record IsStepContent (x : Step) (c : Content) : Type 0 where
  pub kind : StepKind
  pub premises : List ℕ
  pub sequents : List Sequent
  pub parameters : Parameters
  pub is : c ≡ content_by (has_row x.kind) kind premises sequents parameters x.sequent

-- the name of an item, by where it comes from
pub data IsItemName (run : Accepted) (P : ℕ → Type 0) (z : Item) : Type 0 where
  by_symbol : IsSymbolName (symbols_of run.made) z.content z.name → IsItemName run P z
  by_step : (i : ℕ) (x : Step) → P i → slice_get (steps_of run.made) i ≡ Some x → IsStepContent x z.content → IsStepName run i x.kind z.name
      → IsItemName run P z

pub content-says : (x : Step) (c : Content) → IsStepContent x c → says c ≡ Some x.sequent
content-says x c h = ap says h.is ∙ says-step (has_row x.kind) h.kind h.premises h.sequents h.parameters x.sequent

pub item_name-is : (run : Accepted) → HasNames run → run.assumptions ≡ assumed_from 0 (steps_of run.made) → (P : ℕ → Type 0) (z : Item)
    → Origin run run.made P z → IsItemName run P z
item_name-is run named assumed P z (Origin.of_symbol x among i e) =
    IsItemName.by_symbol
    (subst (IsSymbolName (symbols_of run.made) z.content) (sym e)
    (symbol_name-is (symbols_of run.made) x among (All-at SymbolHasName (symbols_of run.made) x named.symbols among) z.content i))
item_name-is run named assumed P z (Origin.of_definition names c f one among i e) =
    IsItemName.by_symbol
    (subst (IsSymbolName (symbols_of run.made) z.content) (sym e)
    (definition_name-is (symbols_of run.made) names c f one among
    (All-at SymbolHasName (symbols_of run.made) (Symbol.defined (Definition.type_operator names c f)) named.symbols among) z.content i))
item_name-is run named assumed P z (Origin.of_step i x kind js ss g p at e f) =
    IsItemName.by_step i x p at (record { kind = kind; premises = js; sequents = ss; parameters = g; is = e })
    (subst (IsStepName run i x.kind) (sym f)
    (step_name-is run i x.kind (λ idle. ap (is_one_of i) assumed
    ∙ subst (λ k. is_one_of k (assumed_from 0 (steps_of run.made)) ≡ true) (zero-plus i) (is-assumed 0 (steps_of run.made) i x at idle))))

-- each item has another name than those before it
abbrev AreApart : List Item → List Item → Type 0
AreApart before [] = Unit {0}
AreApart before (z ∷ zs) = AllByRecursion (λ (y : Item). y.name ≡ z.name → ⊥) before × AreApart (before ++ z ∷ []) zs

-- items that are named, each by the next number
abbrev pub HaveNames : Accepted → List Item → List Item → Type 0
HaveNames run before [] = Unit {0}
HaveNames run before (z ∷ zs) = IsItemName run (λ i. i ≡ length (said_by before)) z × HaveNames run (before ++ z ∷ []) zs

-- what is known of an item once it is passed
module _ (run : Accepted) where
  abbrev Passed : List Item → Item → Type 0
  Passed before = IsItemName run (λ i. i < length (said_by before))

  abbrev Next : List Item → Item → Type 0
  Next before = IsItemName run (λ i. i ≡ length (said_by before))

  still-passed : (before : List Item) (y z : Item) → Passed before y → Passed (before ++ z ∷ []) y
  still-passed before y z (IsItemName.by_symbol h) = IsItemName.by_symbol h
  still-passed before y z (IsItemName.by_step i x l at told h) = let n =
      length-said_by before (z ∷ []) in IsItemName.by_step i x (omega (arith, l, n)) at told h

  now-passed : (before : List Item) (z : Item) → Next before z → Passed (before ++ z ∷ []) z
  now-passed before z (IsItemName.by_symbol h) = IsItemName.by_symbol h
  now-passed before z (IsItemName.by_step i x e at told h) =
      let n = length-said_by before (z ∷ []) in let one =
      length-said_by_one z x.sequent (content-says x z.content told) in IsItemName.by_step i x (omega (arith, e, n, one)) at told h

  high-low : (a : ℕ) → 97 ≤ a → a ≤ 84 → ⊥
  high-low a h l = omega (arith, h, l)

  module _ (proof : IsProof run.made) where
    item-apart : (before : List Item) (y z : Item) → IsNew before z.content → IsIn before y → Passed before y → Next before z → y.name ≡ z.name → ⊥
    item-apart before y z new i (IsItemName.by_symbol h) (IsItemName.by_symbol k) e =
        symbols-apart run.made proof before y z.content z.name new i (subst (IsSymbolName (symbols_of run.made) y.content) e h) k
    item-apart before y z new i (IsItemName.by_symbol h) (IsItemName.by_step j x p at told k) e =
        high-low (first_byte z.name) (symbol_name-high (symbols_of run.made) y.content z.name (subst (IsSymbolName (symbols_of run.made) y.content) e h)).0
        (step_name-low run j x.kind z.name k).0
    item-apart before y z new i (IsItemName.by_step j x p at told k) (IsItemName.by_symbol h) e =
        high-low (first_byte z.name) (symbol_name-high (symbols_of run.made) z.content z.name h).0
        (step_name-low run j x.kind z.name (subst (IsStepName run j x.kind) e k)).0
    item-apart before y z new i (IsItemName.by_step j x p at told k) (IsItemName.by_step l w q there told_other r) e =
        let same = same-step run j l x.kind w.kind z.name (subst (IsStepName run j x.kind) e k) r in
        omega (arith, p, q, same)

    items-apart : (before xs : List Item) → AllByRecursion (Passed before) before → AreMadeInOrder before xs → HaveNames run before xs → AreApart before xs
    items-apart before [] h o k = tt
    items-apart before (z ∷ zs) h o k = (
      All-each (λ (y : Item). y.name ≡ z.name → ⊥) before (λ y i. item-apart before y z o.1 i (All-at (Passed before) before y h i) k.0),
      items-apart (before ++ z ∷ []) zs
          (All-append (Passed (before ++ z ∷ [])) before (z ∷ [])
          (All-weaker (Passed before) (Passed (before ++ z ∷ [])) (λ y p. still-passed before y z p) before h) (now-passed before z k.0, tt {0}))
          o.3 k.1,
    )

-- each item has another name than those after it
abbrev AreDistinct : List Item → Type 0
AreDistinct [] = Unit {0}
AreDistinct (z ∷ zs) = AllByRecursion (λ (y : Item). z.name ≡ y.name → ⊥) zs × AreDistinct zs

later-apart : (before zs : List Item) (z : Item) → IsIn before z → AreApart before zs → AllByRecursion (λ (y : Item). z.name ≡ y.name → ⊥) zs
later-apart before [] z i h = tt
later-apart before (y ∷ zs) z i h =
    (All-at (λ (x : Item). x.name ≡ y.name → ⊥) before z h.0 i, later-apart (before ++ y ∷ []) zs z (IsIn-left before (y ∷ []) z i) h.1)

apart-distinct : (before zs : List Item) → AreApart before zs → AreDistinct zs
apart-distinct before [] h = tt
apart-distinct before (z ∷ zs) h = (later-apart (before ++ z ∷ []) zs z (IsIn-right before (z ∷ []) z (inl refl)) h.1, apart-distinct (before ++ z ∷ []) zs h.1)

-- and so do those that are kept
pub All-kept : (keep : ℕ → Bool) (P : Item → Type 0) (xs : List Item) → AllByRecursion P xs → AllByRecursion P (kept keep xs)
All-kept keep P [] h = tt
All-kept keep P (x ∷ xs) h = go (keep x.symbol) (All-kept keep P xs h.1)
  where
    go : (b : Bool) → AllByRecursion P (kept keep xs) → AllByRecursion P (cond b (x ∷ kept keep xs) (kept keep xs))
    go true k = (h.0, k)
    go false k = k

kept-distinct : (keep : ℕ → Bool) (xs : List Item) → AreDistinct xs → AreDistinct (kept keep xs)
kept-distinct keep [] h = tt
kept-distinct keep (x ∷ xs) h = go (keep x.symbol) (kept-distinct keep xs h.1)
  where
    go : (b : Bool) → AreDistinct (kept keep xs) → AreDistinct (cond b (x ∷ kept keep xs) (kept keep xs))
    go true k = (All-kept keep (λ (y : Item). x.name ≡ y.name → ⊥) xs h.0, k)
    go false k = k

-- declarations
pub declaration-name : (symbols : SymbolMap) (name : List ℕ) (c : Content) → (declaration_of symbols name c).name ≡ name
declaration-name symbols name (operator n k) = refl
declaration-name symbols name (constant n a) = refl
declaration-name symbols name (defined_constant n a t) = refl
declaration-name symbols name (type_operator names c u j one) = refl
declaration-name symbols name (type_abstraction names c u j one) = refl
declaration-name symbols name (type_representation names c u j one) = refl
declaration-name symbols name (unproved s) = refl
declaration-name symbols name (step kind js premises given s) = refl

abbrev HaveOtherNames : List Declaration → Type 0
HaveOtherNames [] = Unit {0}
HaveOtherNames (d ∷ ds) = AllByRecursion (λ (e : Declaration). d.name ≡ e.name → ⊥) ds × HaveOtherNames ds

module _ (symbols : SymbolMap) (number : ℕ → ℕ) where
  abbrev declared : Item → Declaration
  declared x = declaration symbols (renumbered number x)

  -- a declaration has its item's name
  pub declared-name : (x : Item) → (declared x).name ≡ x.name
  declared-name x = declaration-name symbols x.name (renumbered_content number x.content)

  pub All-declared : (P : List ℕ → Type 0) (xs : List Item) → AllByRecursion (λ (x : Item). P x.name) xs
      → AllByRecursion (λ (d : Declaration). P d.name) (map (declaration symbols) (map (renumbered number) xs))
  All-declared P [] h = tt
  All-declared P (x ∷ xs) h = (subst P (sym (declared-name x)) h.0, All-declared P xs h.1)

  declared-other : (xs : List Item) → AreDistinct xs → HaveOtherNames (map (declaration symbols) (map (renumbered number) xs))
  declared-other [] h = tt
  declared-other (x ∷ xs) h = (
    subst (λ n. AllByRecursion (λ (e : Declaration). n ≡ e.name → ⊥) (map (declaration symbols) (map (renumbered number) xs))) (sym (declared-name x))
        (All-declared (λ n. x.name ≡ n → ⊥) xs h.0),
    declared-other xs h.1,
  )

-- names that are new, each after those before it
abbrev HaveNewNames : List Declaration → List Declaration → Type 0
HaveNewNames before [] = Unit {0}
HaveNewNames before (d ∷ ds) = (is_declared before d.name ≡ false) × HaveNewNames (before ++ d ∷ []) ds

none-named : (bs : List Declaration) (name : List ℕ) → AllByRecursion (λ (b : Declaration). b.name ≡ name → ⊥) bs → is_declared bs name ≡ false
none-named [] name h = refl
none-named (b ∷ bs) name h = go (bytes_eq b.name name) (bytes_eq-Decides b.name name).0 (none-named bs name h.1)
  where
    go : (t : Bool) → (t ≡ true → b.name ≡ name) → is_declared bs name ≡ false → (t || is_declared bs name) ≡ false
    go true f k = absurd (h.0 (f refl))
    go false f k = k

new-names : (before ds : List Declaration) → AllByRecursion (λ (d : Declaration). AllByRecursion (λ (b : Declaration). b.name ≡ d.name → ⊥) before) ds
    → HaveOtherNames ds → HaveNewNames before ds
new-names before [] h k = tt
new-names before (d ∷ ds) h k = (
  none-named before d.name h.0,
  new-names (before ++ d ∷ []) ds
      (All-each (λ (e : Declaration). AllByRecursion (λ (b : Declaration). b.name ≡ e.name → ⊥) (before ++ d ∷ [])) ds
      (λ e i. All-append (λ (b : Declaration). b.name ≡ e.name → ⊥) before (d ∷ [])
      (All-at (λ (e : Declaration). AllByRecursion (λ (b : Declaration). b.name ≡ e.name → ⊥) before) ds e h.1 i)
      (All-at (λ (e : Declaration). d.name ≡ e.name → ⊥) ds e k.0 i, tt {0})))
      k.1,
)

names-append : (before ds es : List Declaration) → HaveNewNames before ds → HaveNewNames (before ++ ds) es → HaveNewNames before (ds ++ es)
names-append before [] es h k = subst (λ b. HaveNewNames b es) (append-nil before) k
names-append before (d ∷ ds) es h k =
    (h.0, names-append (before ++ d ∷ []) ds es h.1 (subst (λ b. HaveNewNames b es) (sym (append_assoc before (d ∷ []) ds)) k))

pub reserved-high : AllByRecursion (λ (b : Declaration). 97 ≤ second_byte b.name) (signature ++ lemmas)
reserved-high = list_all-All (λ (b : Declaration). nat_le 97 (second_byte b.name)) (λ b. 97 ≤ second_byte b.name) (λ b e. at_most 97 (second_byte b.name) e)
    (signature ++ lemmas) refl

reserved-other : (name : List ℕ) → second_byte name ≤ 95 → AllByRecursion (λ (b : Declaration). b.name ≡ name → ⊥) (signature ++ lemmas)
reserved-other name l = All-weaker (λ (b : Declaration). 97 ≤ second_byte b.name) (λ b. b.name ≡ name → ⊥)
    (λ b h e. let s = ap second_byte e in omega (arith, h, l, s)) (signature ++ lemmas) reserved-high

-- shaped declarations with new names are a module's
shaped-module : (m ds : List Declaration) → IsSound m → AreShaped m ds → HaveNewNames (signature ++ m) ds → order.AreDeclared (signature ++ m) ds
shaped-module m [] sound h k = tt
shaped-module m (d ∷ ds) sound h k =
    let o = shaped-over m d sound h.0 in (
      record { new_name = k.0; ty = o.0; body = o.1 },
      subst (λ b. order.AreDeclared b ds) (sym (append_assoc signature m (d ∷ [])))
          (shaped-module (m ++ d ∷ []) ds (IsSound-after m d sound (shaped-IsTypedAfter m sound d h.0)) h.1
          (subst (λ b. HaveNewNames b ds) (append_assoc signature m (d ∷ [])) k.1)),
    )

module _ (run : Accepted) (named : HasNames run) (sound : IsSoundRun run) where
  pub items-named : (before xs : List Item) → HaveOrigins run run.made before xs → HaveNames run before xs
  items-named before [] h = tt
  items-named before (z ∷ zs) h = (item_name-is run named sound.assumptions (λ i. i ≡ length (said_by before)) z h.0, items-named (before ++ z ∷ []) zs h.1)

  -- the second bytes of their names are no small letters
  item-low : (P : ℕ → Type 0) (z : Item) → IsItemName run P z → second_byte z.name ≤ 95
  item-low P z (IsItemName.by_symbol h) = (symbol_name-high (symbols_of run.made) z.content z.name h).1
  item-low P z (IsItemName.by_step i x p at told h) = let l = (step_name-low run i x.kind z.name h).1 in omega (arith, l)

  items-low : (before xs : List Item) → HaveNames run before xs → AllByRecursion (λ (z : Item). second_byte z.name ≤ 95) xs
  items-low before [] h = tt
  items-low before (z ∷ zs) h = (item-low (λ i. i ≡ length (said_by before)) z h.0, items-low (before ++ z ∷ []) zs h.1)

  pub image-IsModule : IsCarried (name_in run) run → IsModule (image run)
  image-IsModule carried =
      let items = items_of (name_in run) run.made in
      let keep = keep_of (roots_of (name_in run) run.made run.exports) items in
      let symbols = item.symbols_of (image_items keep items) in
      let ds = map (declaration symbols) (image_items keep items) in
      let names = items-named [] items (made-origins run run.made) in
      let distinct = apart-distinct [] items (items-apart run sound.proof [] items (tt {0}) carried.in_order names) in
      let other : HaveOtherNames ds = declared-other symbols (symbol_of keep) (kept keep items) (kept-distinct keep items distinct) in
      let low : AllByRecursion (λ (d : Declaration). second_byte d.name ≤ 95) ds =
      All-declared symbols (symbol_of keep) (λ n. second_byte n ≤ 95) (kept keep items)
      (All-kept keep (λ (z : Item). second_byte z.name ≤ 95) items (items-low [] items names)) in
      shaped-module [] (lemmas ++ ds) (WellTyped-IsSound [] (tt {0})) carried.shaped
      (names-append signature lemmas ds (refl, (refl, tt {0}))
      (new-names (signature ++ lemmas) ds (All-weaker (λ (d : Declaration). second_byte d.name ≤ 95) _ (λ d l. reserved-other d.name l) ds low) other))

-- The law: of a run whose names are of bytes
abbrev pub RunsAreModules : Type 0
RunsAreModules = (articles : List (List ℕ)) (run : Accepted) → Run articles (accepted run) → HasNames run → IsModule (image run)

pub runs_are_modules : RunsAreModules
runs_are_modules articles run r named = image-IsModule run named (runs_are_sound articles run r) (runs_are_carried (name_in run) articles run r)
