-- One turn of the loop over what was made: what the module on its way is after a step and after a symbol.
use Rattle.std.proofs.Common.{◌≡◌, ℕ, zero, suc, ◌+◌, ◌<◌, Bool, refl, sym, ap, ◌∙◌, subst, arith, List, [], ◌∷◌, ◌++◌, length, map, Some, slice_get}
use Rattle.std.specs.List.{AllByRecursion}
use Rattle.std.proofs.lemmas.List.{length-map, length-append}
use Rattle.std.proofs.lemmas.Option.{same_Some}
use Rattle.article_spec.specs.SoundRuns.{IsSoundRun}
use Rattle.hol_defs.specs.Symbols.{Taken, symbol_at, symbols_at, IsKnownSymbol}
use Rattle.hol_spec.specs.Definitions.{Definition}
use Rattle.hol_spec.specs.Proofs.{Made, Step, made_symbol, steps_of, symbols_of, Accepted}
use Rattle.hol_spec.specs.Symbols.{Symbol}
use Rattle.hol_term.specs.Tables.{Trees}
use Rattle.hol_rules.specs.declared.made.Made.{Made as OneMade}
use Rattle.hol_rules.specs.declared.made.Made.TheVariants as one
use Rattle.holide_sig.specs.Modules.{declarations_of, declaration_in}
use Rattle.lp_spec.specs.Modules.{signature}
use Rattle.translate_reach.specs.MadeItems.{IsNoted}
use Rattle.translate_reach.specs.Reached.{flag}
use Rattle.translate_spec.specs.Image.{name_in, image}
use Rattle.translate_spec.specs.Items.{Item}
use Rattle.image_items_laws.specs.Making.{items_made, is_kept, kept_of, declared}
use Rattle.translate_rule.specs.declared.items.Item.TheVariants as item
use Rattle.translate_rule.specs.declared.builder.ModuleBuilder.{ModuleBuilder}
use Rattle.translate_rule.specs.declared.run.Run.{Run}
use Rattle.translate_rule.specs.ItemViews.{accepted}
use Rattle.translate_rule.specs.Building.{IsRun, IsStep, AreDeclared, AreCounted, HaveNumbers, IsBuilt, IsNextItem, IsSameKind}
use Rattle.translate_rule.specs.Steps.{symbol_in}
use Rattle.translate_rule.proofs.RunLaws.{symbol-there, symbol-within, symbols-more, symbols-same, steps-more, steps-same}
use Rattle.translate_rule.proofs.NextItems.{next-step, next-number, numbers-more}

-- an item is flagged where it is kept
pub flag-kept : (r : Run) (flags : List Bool) → IsRun r flags → (b v : Bool) (i n : ℕ) → b ≡ flag flags i → i ≡ n → b ≡ v → is_kept (accepted r) n ≡ v
flag-kept r flags h b v i n e same is = sym (h.reach.each (name_in (accepted r)) n) ∙ ap (flag flags) (sym same) ∙ sym e ∙ is

-- an item that isn't kept adds nothing
pub declared-gone : (run : Accepted) (items grown : List Item) (now : ModuleBuilder) → AreCounted run items now → kept_of run grown ≡ kept_of run items
    → AreDeclared run grown now.target
declared-gone run items grown now h e = record { held = h.declared.held; declared = h.declared.declared ∙ ap (declared run) (sym e) }

-- The next symbol, by what is kept of it
get-map : {X Y : Type 0} (f : X → Y) (xs : List X) (i : ℕ) (x : X) → slice_get xs i ≡ Some x → slice_get (map f xs) i ≡ Some (f x)
get-map f [] i x e = absurd (cc)
get-map f (y ∷ xs) zero x e = ap Some (ap f (same_Some _ _ e))
get-map f (y ∷ xs) (suc i) x e = get-map f xs i x e

All-get : {X : Type 0} (P : X → Type 0) (xs : List X) (i : ℕ) (x : X) → AllByRecursion P xs → slice_get xs i ≡ Some x → P x
All-get P [] i x h e = absurd (cc)
All-get P (y ∷ xs) zero x h e = subst P (same_Some _ _ e) h.0
All-get P (y ∷ xs) (suc i) x h e = All-get P xs i x h.1 e

pub taken-known : (trees : Trees) (symbols : List Taken) (i : ℕ) (t : Taken) → AllByRecursion (IsKnownSymbol trees) symbols → slice_get symbols i ≡ Some t
    → IsKnownSymbol trees t
taken-known trees symbols i t h e = All-get (IsKnownSymbol trees) symbols i t h e

-- what is noted of a symbol gives one
pub noted-symbol : (y : Made) (m : OneMade) → IsNoted y m → (x : Symbol) × (made_symbol y ≡ Some x)
noted-symbol (Made.symbol x) m h = (x, refl)
noted-symbol (Made.type_definition names c f i) m h = (Symbol.defined (Definition.type_operator names c f), refl)
noted-symbol (Made.step x) m h = absurd h

pub taken-here : (trees : Trees) (symbols : List Taken) (made earlier later : List Made) (y : Made) (m : OneMade) (i : ℕ) (t : Taken) → symbols_at trees symbols
    ≡ symbols_of made → made ≡ earlier ++ y ∷ later → IsNoted y m → i ≡ length (symbols_of earlier)
    → slice_get symbols i ≡ Some t → made_symbol y ≡ Some (symbol_at trees t)
taken-here trees symbols made earlier later y m i t are whole noted place e =
    let x = noted-symbol y m noted in
    x.1 ∙ sym (symbol-there made earlier later y x.0 x.1 whole) ∙ sym (ap (slice_get (symbols_of made)) place) ∙ sym (ap (λ l. slice_get l i) are)
    ∙ get-map (symbol_at trees) symbols i t e

pub taken-within : (trees : Trees) (symbols : List Taken) (made earlier later : List Made) (y : Made) (m : OneMade) (i : ℕ) → symbols_at trees symbols
    ≡ symbols_of made → made ≡ earlier ++ y ∷ later → IsNoted y m → i ≡ length (symbols_of earlier) → i < length symbols
taken-within trees symbols made earlier later y m i are whole noted place =
    let x = noted-symbol y m noted in
    let within = symbol-within made earlier later y x.0 x.1 whole in
    let long : length symbols ≡ length (symbols_of made) = sym (length-map symbols (symbol_at trees)) ∙ ap length are in
    omega (arith, within, long, place)

-- After a symbol
pub symbol-made : (run : Accepted) (earlier : List Made) (y : Made) (x : Symbol) → made_symbol y ≡ Some x → (old new : ModuleBuilder) (next : ℕ)
    → IsBuilt run earlier old → AreCounted run (items_made run (earlier ++ y ∷ [])) new → new.numbers ≡ old.numbers → next ≡ old.symbol + 1
    → IsBuilt run (earlier ++ y ∷ []) (record new { symbol = next })
symbol-made run earlier y x one old new next h counted numbers is =
    let count = steps-same earlier y x one in
    record {
      counted = record { declared = counted.declared; item = counted.item };
      symbol = is ∙ ap (λ n. n + 1) h.symbol ∙ sym (symbols-more earlier y x one);
      steps = ap (λ v. length v.items) numbers ∙ h.steps ∙ sym count;
      numbers = λ k l keep. ap (λ v. symbol_in v.items k) numbers ∙ h.numbers k (omega (arith, l, count)) keep;
    }

-- After a step
module _ (r : Run) (sound : IsSoundRun (accepted r)) (earlier later : List Made) (x : Step) (whole : r.proof.now.made ≡ earlier ++ Made.step x ∷ later) where
  abbrev run : Accepted
  run = accepted r

  pub step-numbers : (old : ModuleBuilder) → IsBuilt run earlier old → (n : ℕ) (more : List ℕ) → n ≡ length signature + length old.target.decls → more
      ≡ old.numbers.items ++ n ∷ []
      → HaveNumbers run (earlier ++ Made.step x ∷ []) more
  step-numbers old h n more is put =
      numbers-more r sound earlier later x whole old.numbers.items more n put h.steps
      (next-number r sound earlier later x whole (declarations_of old.target) h.counted.declared.declared n
      (is ∙ ap (λ m. length signature + m) (sym (length-map old.target.decls (declaration_in old.target.table)))))
      h.numbers

  pub steps-counted : (old : ModuleBuilder) → IsBuilt run earlier old → (n : ℕ) (more : List ℕ) → more ≡ old.numbers.items ++ n ∷ [] → length more
      ≡ length (steps_of (earlier ++ Made.step x ∷ []))
  steps-counted old h n more put =
      let count = steps-more earlier x in
      let long = ap length put ∙ length-append old.numbers.items (n ∷ []) in
      let steps = h.steps in
      omega (arith, count, long, steps)

-- The next thing is a step, or what is noted of a symbol
pub kind-step : {j : ℕ} (m : OneMade) (y : Made) → m ≡ one.Step j → IsSameKind m y → (x : Step) × (y ≡ Made.step x)
kind-step {j = j} m y e h = go y (subst (λ n. IsSameKind n y) e h)
  where
    go : (y : Made) → IsSameKind (one.Step j) y → (x : Step) × (y ≡ Made.step x)
    go (Made.step x) h = (x, refl)
    go (Made.symbol x) h = absurd h
    go (Made.type_definition names c f i) h = absurd h

pub kind-noted : (m : OneMade) (y : Made) → ((j : ℕ) → m ≡ one.Step j → ⊥) → IsSameKind m y → IsNoted y m
kind-noted (one.InputConst n) y other h = h
kind-noted (one.InputOp n k) y other h = h
kind-noted (one.Const n) y other h = h
kind-noted (one.TypeOp n i) y other h = h
kind-noted (one.Step j) y other h = absurd (other j refl)

-- the next step, as the next item and when it is added
module _ (r : Run) (sound : IsSoundRun (accepted r)) (earlier later : List Made) (y : Made) (whole : r.proof.now.made ≡ earlier ++ y ∷ later) (is : IsStep y)
    (old : ModuleBuilder) (h : IsBuilt (accepted r) earlier old) where
  abbrev up_to : Made → List Item
  up_to z = items_made (accepted r) (earlier ++ z ∷ [])

  pub step-next : (id : ℕ) → id ≡ length old.numbers.items
      → IsNextItem (accepted r) (items_made (accepted r) earlier) (up_to y) r.proof.now old.numbers.items (item.Step id)
  step-next id e =
      subst (λ (z : Made). r.proof.now.made ≡ earlier ++ z ∷ later
      → IsNextItem (accepted r) (items_made (accepted r) earlier) (up_to z) r.proof.now old.numbers.items (item.Step id)) (sym is.1)
      (λ w. subst (λ i. IsNextItem (accepted r) (items_made (accepted r) earlier) (up_to (Made.step is.0)) r.proof.now old.numbers.items (item.Step i))
      (sym (e ∙ h.steps))
      (next-step r sound earlier later is.0 w old.numbers.items h.steps h.numbers))
      whole

  pub step-made : (new : ModuleBuilder) (n : ℕ) → AreCounted (accepted r) (up_to y) new → n ≡ length signature + length old.target.decls → new.numbers.items
      ≡ old.numbers.items ++ n ∷ [] → new.symbol ≡ old.symbol → IsBuilt (accepted r) (earlier ++ y ∷ []) new
  step-made new n counted number put symbol =
      subst (λ (z : Made). r.proof.now.made ≡ earlier ++ z ∷ later → AreCounted (accepted r) (up_to z) new → IsBuilt (accepted r) (earlier ++ z ∷ []) new)
      (sym is.1)
      (λ w all. record {
        counted = all;
        symbol = symbol ∙ h.symbol ∙ sym (symbols-same earlier is.0);
        steps = steps-counted r sound earlier later is.0 w old h n new.numbers.items put;
        numbers = step-numbers r sound earlier later is.0 w old h n new.numbers.items number put;
      })
      whole counted

-- a module on its way whose numbers alone changed
pub counted-with : (run : Accepted) (items : List Item) (a b : ModuleBuilder) → AreCounted run items a → b.target ≡ a.target → b.item ≡ a.item
    → AreCounted run items b
counted-with run items a b h t i = record { declared = subst (AreDeclared run items) (sym t) h.declared; item = i ∙ h.item }

-- When all is made the module is the image
pub all-declared : (run : Accepted) (earlier : List Made) (now : ModuleBuilder) → earlier ≡ run.made → IsBuilt run earlier now → declarations_of now.target
    ≡ image run
all-declared run earlier now e h = h.counted.declared.declared ∙ ap (λ l. declared run (kept_of run (items_made run l))) e
