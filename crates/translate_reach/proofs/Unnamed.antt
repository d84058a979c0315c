-- Names play no part in what is reached.
use Rattle.std.proofs.Common.{◌≡◌, ℕ, suc, ◌+◌, List, [], ◌∷◌, ◌++◌, map, length, cond, refl, sym, ap, ◌∙◌}
use Rattle.std.specs.Prelude.{slice_index_or, ◌==◌}
use Rattle.std.specs.Option.{option_map}
use Rattle.std.specs.List.{cons_option}
use Rattle.std.proofs.Math.Path.{ap₂}
use Rattle.hol_spec.specs.Terms.{bound}
use Rattle.hol_spec.specs.Sequents.{Sequent}
use Rattle.hol_spec.specs.Proofs.{Made, Step}
use Rattle.translate_spec.specs.Rows.{has_row}
use Rattle.translate_spec.specs.Items.{Content, Item, says}
use Rattle.translate_spec.specs.MadeItems.{Naming, contents_of, type_contents, said_by, content_by, needed, contents, numbered, items_after, items_of, roots_of}
use Rattle.translate_spec.specs.Reach.{Key, number_key, needs, is_wanted, wanted_after, wanted_from, keep_of}

-- items with the same numbers and contents
abbrev pub AreAlike : List Item → List Item → Type 0
AreAlike [] [] = Unit {0}
AreAlike (x ∷ xs) (y ∷ ys) = (x.symbol ≡ y.symbol) × (x.content ≡ y.content) × AreAlike xs ys
AreAlike [] (y ∷ ys) = ⊥
AreAlike (x ∷ xs) [] = ⊥

pub length-alike : (xs ys : List Item) → AreAlike xs ys → length xs ≡ length ys
length-alike [] [] h = refl
length-alike (x ∷ xs) (y ∷ ys) h = ap suc (length-alike xs ys h.2)
length-alike [] (y ∷ ys) h = absurd h
length-alike (x ∷ xs) [] h = absurd h

said-alike : (xs ys : List Item) → AreAlike xs ys → said_by xs ≡ said_by ys
said-alike [] [] h = refl
said-alike (x ∷ xs) (y ∷ ys) h =
    ap₂ (λ i c. cons_option (option_map (λ (s : Sequent). (i, s)) (says c)) (said_by xs)) h.0 h.1
    ∙ ap (λ l. cons_option (option_map (λ (s : Sequent). (y.symbol, s)) (says y.content)) l) (said-alike xs ys h.2)
said-alike [] (y ∷ ys) h = absurd h
said-alike (x ∷ xs) [] h = absurd h

append-alike : (xs ys us vs : List Item) → AreAlike xs ys → AreAlike us vs → AreAlike (xs ++ us) (ys ++ vs)
append-alike [] [] us vs h k = k
append-alike (x ∷ xs) (y ∷ ys) us vs h k = (h.0, h.1, append-alike xs ys us vs h.2 k)
append-alike [] (y ∷ ys) us vs h k = absurd h
append-alike (x ∷ xs) [] us vs h k = absurd h

numbered-alike : (f g : Content → List ℕ) (i j : ℕ) (cs ds : List Content) → i ≡ j → cs ≡ ds → AreAlike (numbered f i cs) (numbered g j ds)
numbered-alike f g i j [] [] e w = tt
numbered-alike f g i j (c ∷ cs) (d ∷ ds) e w =
    let first : c ≡ d = cc in
    let rest : cs ≡ ds = cc in
    (e, first, numbered-alike f g (i + 1) (j + 1) cs ds (ap (λ k. k + 1) e) rest)
numbered-alike f g i j [] (d ∷ ds) e w = absurd (cc)
numbered-alike f g i j (c ∷ cs) [] e w = absurd (cc)

-- the contents of what is made, from what was said before it
abbrev said_at : List (ℕ × Sequent) → ℕ → ℕ × Sequent
said_at said k = slice_index_or said k (0, record { hypotheses = []; conclusion = bound 0 })

abbrev shown_from : List (ℕ × Sequent) → Step → Content
shown_from said y = content_by (has_row y.kind) y.kind (map (λ k. (said_at said k).0) y.premises) (map (λ k. (said_at said k).1) y.premises) y.parameters
    y.sequent

abbrev contents_from : List (ℕ × Sequent) → Made → List Content
contents_from said (Made.symbol x) = contents_of x
contents_from said (Made.type_definition names c f i) = type_contents names c f (said_at said i)
contents_from said (Made.step x) = shown_from said (needed (map (λ k. (said_at said k).1) x.premises) x) ∷ []

contents-from : (before : List Item) (x : Made) → contents before x ≡ contents_from (said_by before) x
contents-from before (Made.symbol x) = refl
contents-from before (Made.type_definition names c f i) = refl
contents-from before (Made.step x) = refl

contents-alike : (xs ys : List Item) (x : Made) → AreAlike xs ys → contents xs x ≡ contents ys x
contents-alike xs ys x h = contents-from xs x ∙ ap (λ said. contents_from said x) (said-alike xs ys h) ∙ sym (contents-from ys x)

after-alike : (m n : Naming) (xs ys : List Item) (made : List Made) → AreAlike xs ys → AreAlike (items_after m xs made) (items_after n ys made)
after-alike m n xs ys [] h = h
after-alike m n xs ys (x ∷ made) h =
    let f = m (length (said_by xs)) x in
    let g = n (length (said_by ys)) x in
    after-alike m n (xs ++ numbered f (length xs) (contents xs x)) (ys ++ numbered g (length ys) (contents ys x)) made
    (append-alike xs ys (numbered f (length xs) (contents xs x)) (numbered g (length ys) (contents ys x)) h
    (numbered-alike f g (length xs) (length ys) (contents xs x) (contents ys x) (length-alike xs ys h) (contents-alike xs ys x h)))

wanted-alike : (roots : List Key) (xs ys : List Item) → AreAlike xs ys → wanted_from roots xs ≡ wanted_from roots ys
wanted-alike roots [] [] h = refl
wanted-alike roots (x ∷ xs) (y ∷ ys) h =
    ap (λ w. wanted_after w x) (wanted-alike roots xs ys h.2)
    ∙ ap₂ (λ i c. let w = wanted_from roots ys in cond (is_wanted w (record { symbol = i; name = []; content = c })) (w ++ needs c) w) h.0 h.1
wanted-alike roots [] (y ∷ ys) h = absurd h
wanted-alike roots (x ∷ xs) [] h = absurd h

keep-alike : (roots : List Key) (xs ys : List Item) (i : ℕ) → AreAlike xs ys → keep_of roots xs i ≡ keep_of roots ys i
keep-alike roots [] [] i h = refl
keep-alike roots (x ∷ xs) (y ∷ ys) i h =
    ap₂ (λ w r. cond (i == x.symbol) (is_wanted w x) r) (wanted-alike roots xs ys h.2) (keep-alike roots xs ys i h.2)
    ∙ ap₂ (λ j c. cond (i == j) (is_wanted (wanted_from roots ys) (record { symbol = j; name = []; content = c })) (keep_of roots ys i)) h.0 h.1
keep-alike roots [] (y ∷ ys) i h = absurd h
keep-alike roots (x ∷ xs) [] i h = absurd h

module _ (m n : Naming) (made : List Made) where
  items-alike : AreAlike (items_of m made) (items_of n made)
  items-alike = after-alike m n [] [] made (tt {0})

  -- There are as many items, whatever the names
  pub count-unnamed : length (items_of m made) ≡ length (items_of n made)
  count-unnamed = length-alike (items_of m made) (items_of n made) items-alike

  -- And the same are reached
  pub keep-unnamed : (exports : List ℕ) (i : ℕ) → keep_of (roots_of m made exports) (items_of m made) i ≡ keep_of (roots_of n made exports) (items_of n made) i
  keep-unnamed exports i =
      ap (λ said. keep_of (map (λ k. number_key (said_at said k).0) exports) (items_of m made) i) (said-alike (items_of m made) (items_of n made) items-alike)
      ∙ keep-alike (roots_of n made exports) (items_of m made) (items_of n made) i items-alike
