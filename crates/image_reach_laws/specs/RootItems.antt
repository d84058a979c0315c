-- The item that gives a root is an export of the run, and is named as one.
use Rattle.std.proofs.Common.{◌≡◌, ℕ, suc, ◌<◌, ◌≤◌, ◌⊎◌, List, [], ◌∷◌, ◌++◌, length, Bool, true, false, ◌||◌, Option, Some, None, inl, inr, refl, sym, ap, subst, ◌∙◌, append_assoc, arith}
use Rattle.std.specs.Prelude.{nat_eq}
use Rattle.std.specs.Cmp.{unsigned_Decides}
use Rattle.std.specs.List.{position_or_len}
use Rattle.std.proofs.lemmas.List.{append-nil}
use Rattle.std.proofs.lemmas.Bool.{both_ways}
use Rattle.hol_spec.specs.Sequents.{Sequent}
use Rattle.hol_spec.specs.Proofs.{symbols_of, Accepted}
use Rattle.hol_spec.specs.declared.StepKind.{StepKind}
use Rattle.hol_spec.specs.Lists.{IsIn}
use Rattle.hol_laws.specs.Members.{IsIn-right, All-at}
use Rattle.article_spec.specs.SoundRuns.{IsSoundRun, IsDerived}
use Rattle.translate_spec.specs.Items.{Content, operator, constant, defined_constant, type_operator, type_abstraction, type_representation, unproved, step, Item, says}
use Rattle.translate_spec.specs.MadeItems.{said_by, premise_at, items_of, roots_of}
use Rattle.translate_spec.specs.Reach.{Key, number_key, gives, gives_of, key_eq}
use Rattle.translate_spec.specs.Image.{is_one_of, name_in}
use Rattle.translate_spec.specs.Stands.{is_export_name}
use Rattle.translate_laws.specs.AcceptedItems.{made-said}
use Rattle.translate_laws.specs.WantedItems.{NumberedFrom, AreMadeInOrder, at-least}
use Rattle.translate_laws.specs.ExportNames.{export-named}
use Rattle.translate_laws.specs.SaidItems.{silent-length, telling-length, premise_at-said}
use Rattle.image_laws.specs.Named.{HasNames, IsStepName}
use Rattle.image_laws.specs.Origins.{made-origins}
use Rattle.image_laws.specs.ExportsKept.{numbered-from}
use Rattle.image_laws.specs.ExportOrder.{symbol-silent}
use Rattle.image_laws.specs.RunModules.{IsItemName, HaveNames, items-named}
use Rattle.image_laws.specs.Standing.{IsIn-map_of}
use Rattle.image_reach_laws.specs.Keys.{key_eq-is}

symbol-apart : (i : ℕ) (xs : List Item) (y z : Item) → y.symbol ≡ i → NumberedFrom (suc i) xs → IsIn xs z → y.symbol ≡ z.symbol → ⊥
symbol-apart i xs y z e h k same = let l = All-at (λ (x : Item). suc i ≤ x.symbol) xs z (at-least (suc i) xs h) k in omega (arith, l, e, same)

one-number : (i : ℕ) (xs : List Item) → NumberedFrom i xs → (y z : Item) → IsIn xs y → IsIn xs z → y.symbol ≡ z.symbol → y ≡ z
one-number i [] h y z j k e = absurd j
one-number i (x ∷ xs) h y z (inl a) (inl b) e = a ∙ sym b
one-number i (x ∷ xs) h y z (inl a) (inr k) e = absurd (symbol-apart i xs y z (ap (λ (u : Item). u.symbol) a ∙ h.0) h.1 k e)
one-number i (x ∷ xs) h y z (inr j) (inl b) e = absurd (symbol-apart i xs z y (ap (λ (u : Item). u.symbol) b ∙ h.0) h.1 j (sym e))
one-number i (x ∷ xs) h y z (inr j) (inr k) e = one-number (suc i) xs h.1 y z j k e

-- the number of what an item says
number-of : (i : ℕ) (c : Content) (j : ℕ) → gives_of i c ≡ number_key j → i ≡ j
number-of i (operator n k) j e = absurd (cc)
number-of i (constant n a) j e = absurd (cc)
number-of i (defined_constant n a t) j e = absurd (cc)
number-of i (type_operator names c f l one) j e = absurd (cc)
number-of i (type_abstraction names c f l one) j e = absurd (cc)
number-of i (type_representation names c f l one) j e = absurd (cc)
number-of i (unproved s) j e = cc
number-of i (step kind js ss g s) j e = cc

-- the item that says the j-th sequent, with its name
record IsSaidAt (run : Accepted) (items : List Item) (j : ℕ) : Type 0 where
  pub before : List Item
  pub item : Item
  pub after : List Item
  pub whole : items ≡ before ++ item ∷ after
  pub place : length (said_by before) ≡ j
  pub sequent : Sequent
  pub said : says item.content ≡ Some sequent
  pub name : IsItemName run (λ i. i ≡ length (said_by before)) item

is_or_less : (i j : ℕ) → i ≤ j → (i ≡ j) ⊎ (suc i ≤ j)
is_or_less i j h = grind arith

said-at : (run : Accepted) (items : List Item) (j : ℕ) (before zs : List Item) → items ≡ before ++ zs → HaveNames run before zs → length (said_by before) ≤ j
    → j < length (said_by items) → IsSaidAt run items j
said-at run items j before [] whole names low high = let e = ap (λ l. length (said_by l)) (whole ∙ append-nil before) in absurd (omega (arith, e, low, high))
said-at run items j before (z ∷ zs) whole names low high =
    go (says z.content) refl (is_or_less (length (said_by before)) j low)
    (λ l. said-at run items j (before ++ z ∷ []) zs (whole ∙ sym (append_assoc before (z ∷ []) zs)) names.1 l high)
  where
    go : (o : Option Sequent) → says z.content ≡ o → (length (said_by before) ≡ j) ⊎ (suc (length (said_by before)) ≤ j)
        → (length (said_by (before ++ z ∷ [])) ≤ j → IsSaidAt run items j) → IsSaidAt run items j
    go None e l next = let n = silent-length before z e in next (omega (arith, n, low))
    go (Some s) e (inl is) next = record { before = before; item = z; after = zs; whole = whole; place = is; sequent = s; said = e; name = names.0 }
    go (Some s) e (inr l) next = let n = telling-length before z s e in next (omega (arith, n, l))

in-one_of : (i : ℕ) (is : List ℕ) → IsIn is i → is_one_of i is ≡ true
in-one_of i [] h = absurd h
in-one_of i (j ∷ is) (inl e) = ap (λ b. b || is_one_of i is) ((unsigned_Decides i j).1 e)
in-one_of i (j ∷ is) (inr h) = go (nat_eq i j) (in-one_of i is h)
  where
    go : (b : Bool) → is_one_of i is ≡ true → (b || is_one_of i is) ≡ true
    go true e = refl
    go false e = e

-- the name of a step that is exported
exported-name : (run : Accepted) (i : ℕ) (kind : StepKind) (name : List ℕ) → IsStepName run i kind name → is_one_of i run.exports ≡ true
    → is_export_name name ≡ true
exported-name run i kind name (IsStepName.an_export e w) one = ap is_export_name w ∙ export-named (position_or_len (nat_eq i) run.exports)
exported-name run i kind name (IsStepName.an_assumption e f k w) one = absurd (both_ways (is_one_of i run.exports) e one)
exported-name run i kind name (IsStepName.a_law e k w) one = absurd (both_ways (is_one_of i run.exports) e one)
exported-name run i kind name (IsStepName.a_theorem e k w) one = absurd (both_ways (is_one_of i run.exports) e one)

said-name : (run : Accepted) (j : ℕ) (before : List Item) (z : Item) (s : Sequent) → says z.content ≡ Some s → length (said_by before) ≡ j
    → is_one_of j run.exports ≡ true
    → IsItemName run (λ i. i ≡ length (said_by before)) z → is_export_name z.name ≡ true
said-name run j before z s said place one (IsItemName.by_symbol h) = let f : None ≡ Some s =
    sym (symbol-silent (symbols_of run.made) z.content z.name h) ∙ said in absurd (cc)
said-name run j before z s said place one (IsItemName.by_step i x p at told h) =
    exported-name run i x.kind z.name h (ap (λ k. is_one_of k run.exports) (p ∙ place) ∙ one)

module _ (run : Accepted) (named : HasNames run) (sound : IsSoundRun run) where
  abbrev items : List Item
  items = items_of (name_in run) run.made

  place-named : AreMadeInOrder [] items → (z : Item) → IsIn items z → (j : ℕ) → IsIn run.exports j → gives z ≡ number_key (premise_at items j).0
      → is_export_name z.name ≡ true
  place-named order z i j exported key =
      let short = (All-at (IsDerived run) run.exports j sound.exports exported).step in
      let count = made-said (name_in run) run.made sound.proof sound.over in
      let q = said-at run items j [] items refl (items-named run named sound [] items (made-origins run run.made)) (omega arith) (omega (arith, short, count))
      in
      let there : IsIn items q.item = subst (λ l. IsIn l q.item) (sym q.whole) (IsIn-right q.before (q.item ∷ q.after) q.item (inl refl)) in
      let place : premise_at items j ≡ (q.item.symbol, q.sequent) =
      ap (premise_at items) (sym q.place) ∙ premise_at-said items q.before q.after q.item q.sequent q.whole q.said in
      let number : z.symbol ≡ q.item.symbol = number-of z.symbol z.content (premise_at items j).0 key ∙ ap (λ (p : ℕ × Sequent). p.0) place in
      let same : z ≡ q.item = one-number 0 items (numbered-from [] items order) z q.item i there number in
      ap (λ (u : Item). is_export_name u.name) same ∙ said-name run j q.before q.item q.sequent q.said q.place (in-one_of j run.exports exported) q.name

  -- What gives a root is named as an export
  pub root-named : AreMadeInOrder [] items → (z : Item) → IsIn items z → (k : Key) → IsIn (roots_of (name_in run) run.made run.exports) k
      → key_eq (gives z) k ≡ true → is_export_name z.name ≡ true
  root-named order z i k root e =
      let w = IsIn-map_of (λ j. number_key (premise_at items j).0) run.exports k root in
      place-named order z i w.0 w.1 (key_eq-is (gives z) k e ∙ w.2)
