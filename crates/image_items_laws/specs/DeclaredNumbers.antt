-- Which number a name has among what is declared so far of a run's module.
use Rattle.std.proofs.Common.{◌≡◌, ℕ, ◌≤◌, inl, List, [], ◌∷◌, ◌++◌, map, length, Bool, true, false, bytes_eq, position, Some, None, refl, sym, ap, subst, ◌∙◌, append_assoc, arith}
use Rattle.std.specs.List.{AllByRecursion}
use Rattle.std.proofs.lemmas.List.{length-append, length-map, map-append, append-nil}
use Rattle.std.proofs.lemmas.Slice.Eq.{bytes_eq-Decides}
use Rattle.hol_spec.specs.Lists.{IsIn}
use Rattle.hol_spec.specs.Names.{Name}
use Rattle.hol_spec.specs.Proofs.{Made, symbols_of, IsProof}
use Rattle.hol_spec.specs.Symbols.{Symbol}
use Rattle.hol_laws.specs.Members.{IsIn-right, All-append, All-left, All-mapped, All-right, All-weaker}
use Rattle.holide_sig.specs.Modules.{symbol_number}
use Rattle.lp_spec.specs.Lemmas.{lemmas}
use Rattle.lp_spec.specs.Modules.{Declaration, signature}
use Rattle.translate_laws.specs.MadeModules.{AreMade}
use Rattle.translate_spec.specs.Items.{Item, declaration, module_of, is_operator}
use Rattle.translate_spec.specs.Scopes.{SymbolMap}
use Rattle.image_laws.specs.Named.{second_byte}
use Rattle.image_laws.specs.NewNames.{IsSymbolName, symbol_name-high}
use Rattle.image_laws.specs.RunModules.{declaration-name, reserved-high}
use Rattle.image_items_laws.specs.ItemNames.{HasItemName, before-apart, after-apart, operator-before, operator-after, same-name}
use Rattle.image_items_laws.specs.Positions.{IsSplit, member-split, position-none, position-after}

-- items made in order, in two parts
pub made-front : (before ps rest : List Item) → AreMade before (ps ++ rest) → AreMade before ps
made-front before [] rest h = tt
made-front before (x ∷ ps) rest h = (h.0, h.1, h.2, made-front (before ++ x ∷ []) ps rest h.3)

pub made-back : (before ps rest : List Item) → AreMade before (ps ++ rest) → AreMade (before ++ ps) rest
made-back before [] rest h = subst (λ l. AreMade l rest) (sym (append-nil before)) h
made-back before (x ∷ ps) rest h = subst (λ l. AreMade l rest) (append_assoc before (x ∷ []) ps) (made-back (before ++ x ∷ []) ps rest h.3)

-- no declaration of this name
not-named : (name : List ℕ) (ds : List Declaration) → AllByRecursion (λ (d : Declaration). d.name ≡ name → ⊥) ds
    → AllByRecursion (λ (d : Declaration). bytes_eq d.name name ≡ false) ds
not-named name ds h = All-weaker (λ (d : Declaration). d.name ≡ name → ⊥) (λ (d : Declaration). bytes_eq d.name name ≡ false)
    (λ d other. go (bytes_eq d.name name) (bytes_eq-Decides d.name name).0 other) ds h
  where
    go : {d : List ℕ} (b : Bool) → (b ≡ true → d ≡ name) → (d ≡ name → ⊥) → b ≡ false
    go true f other = absurd (other (f refl))
    go false f other = refl

module _ (symbols : SymbolMap) where
  abbrev D : Item → Declaration
  D = declaration symbols

  -- what is declared before an item, and then what stands from it on
  abbrev reserved : List Item → List Declaration
  reserved ps = (signature ++ lemmas) ++ map D ps

  declared-items : (ps : List Item) → reserved ps ≡ signature ++ module_of symbols ps
  declared-items ps = append_assoc signature lemmas (map D ps)

  declared-split : (ps bs : List Item) (z : Item) → reserved ps ++ D z ∷ map D bs ≡ signature ++ module_of symbols (ps ++ z ∷ bs)
  declared-split ps bs z =
      append_assoc (signature ++ lemmas) (map D ps) (D z ∷ map D bs) ∙ ap (λ l. (signature ++ lemmas) ++ l) (sym (map-append D ps (z ∷ bs)))
      ∙ append_assoc signature lemmas (map D (ps ++ z ∷ bs))

  not-declared : (name : List ℕ) (ps : List Item) → AllByRecursion (λ (y : Item). y.name ≡ name → ⊥) ps
      → AllByRecursion (λ (d : Declaration). d.name ≡ name → ⊥) (map D ps)
  not-declared name ps h =
      All-mapped (λ (d : Declaration). d.name ≡ name → ⊥) D ps
      (All-weaker (λ (y : Item). y.name ≡ name → ⊥) (λ (y : Item). (D y).name ≡ name → ⊥)
      (λ y other e. other (sym (declaration-name symbols y.name y.content) ∙ e)) ps h)

  module _ (made : List Made) (proof : IsProof made) where
    abbrev ss : List Symbol
    ss = symbols_of made

    abbrev Named : List Item → Type 0
    Named xs = AllByRecursion (HasItemName ss) xs

    -- no declaration of the signature or of the lemmas has a name whose second byte is no small letter
    no-reserved : (name : List ℕ) → second_byte name ≤ 95 → AllByRecursion (λ (d : Declaration). bytes_eq d.name name ≡ false) (signature ++ lemmas)
    no-reserved name low =
        not-named name (signature ++ lemmas)
        (All-weaker (λ (d : Declaration). 97 ≤ second_byte d.name) (λ (d : Declaration). d.name ≡ name → ⊥)
        (λ d high e. let same = ap second_byte e in omega (arith, high, low, same)) (signature ++ lemmas) reserved-high)

    -- none of some items has it
    none-has : (name : List ℕ) → second_byte name ≤ 95 → (ps : List Item) → AllByRecursion (λ (y : Item). y.name ≡ name → ⊥) ps
        → AllByRecursion (λ (d : Declaration). bytes_eq d.name name ≡ false) (reserved ps)
    none-has name low ps apart =
        All-append (λ (d : Declaration). bytes_eq d.name name ≡ false) (signature ++ lemmas) (map D ps) (no-reserved name low)
        (not-named name (map D ps) (not-declared name ps apart))

    -- The name of a symbol's item has the item's number
    pub item-number : (xs : List Item) → AreMade [] xs → Named xs → (z : Item) → IsIn xs z → (name : List ℕ) → IsSymbolName ss z.content name → z.name ≡ name
        → symbol_number (module_of symbols xs) name ≡ Some z.symbol
    item-number xs order named z i name own is = go (member-split xs z i)
      where
        go : IsSplit xs z → symbol_number (module_of symbols xs) name ≡ Some z.symbol
        go s =
            let ps = s.front in
            let bs = s.back in
            let here : AreMade ps (z ∷ bs) = made-back [] ps (z ∷ bs) (subst (AreMade []) s.whole order) in
            let fronts : Named ps = All-left (HasItemName ss) ps (z ∷ bs) (subst Named s.whole named) in
            let apart = before-apart made proof (λ (y : Item). y.name ≡ name) z name own (λ y h e. same-name made proof z y name own h e) ps here.1 fronts in
            let none = none-has name (symbol_name-high ss z.content name own).1 ps apart in
            let it : bytes_eq (D z).name name ≡ true = (bytes_eq-Decides (D z).name name).1 (declaration-name symbols z.name z.content ∙ is) in
            let long : length (reserved ps) ≡ z.symbol = omega (arith, length-append (signature ++ lemmas) (map D ps), length-map ps D, here.0) in
            ap (λ l. symbol_number (module_of symbols l) name) s.whole
            ∙ sym (ap (position (λ (d : Declaration). bytes_eq d.name name)) (declared-split ps bs z))
            ∙ position-after (λ (d : Declaration). bytes_eq d.name name) (reserved ps) (map D bs) (D z) none it ∙ ap Some long

    -- A name that no other item could have without being this one, which hasn't it, has no number
    pub other-number : (xs : List Item) → AreMade [] xs → Named xs → (z : Item) → IsIn xs z → (name other : List ℕ) → IsSymbolName ss z.content name
        → ((y : Item) → HasItemName ss y → y.name ≡ other → IsSymbolName ss y.content name) → (z.name ≡ other → ⊥) → second_byte other ≤ 95
        → symbol_number (module_of symbols xs) other ≡ None
    other-number xs order named z i name other own could differs low = go (member-split xs z i)
      where
        go : IsSplit xs z → symbol_number (module_of symbols xs) other ≡ None
        go s =
            let ps = s.front in
            let bs = s.back in
            let Q : Item → Type 0 = λ (y : Item). y.name ≡ other in
            let here : AreMade ps (z ∷ bs) = made-back [] ps (z ∷ bs) (subst (AreMade []) s.whole order) in
            let all : Named (ps ++ z ∷ bs) = subst Named s.whole named in
            let fronts = before-apart made proof Q z name own could ps here.1 (All-left (HasItemName ss) ps (z ∷ bs) all) in
            let backs = after-apart made proof Q z name own could (ps ++ z ∷ []) bs (IsIn-right ps (z ∷ []) z (inl refl)) here.3
            (All-right (HasItemName ss) ps (z ∷ bs) all).1 in
            let apart : AllByRecursion (λ (y : Item). y.name ≡ other → ⊥) xs =
            subst (AllByRecursion (λ (y : Item). y.name ≡ other → ⊥)) (sym s.whole)
            (All-append (λ (y : Item). y.name ≡ other → ⊥) ps (z ∷ bs) fronts (differs, backs)) in
            sym (ap (position (λ (d : Declaration). bytes_eq d.name other)) (declared-items xs))
            ∙ position-none (λ (d : Declaration). bytes_eq d.name other) (reserved xs) (none-has other low xs apart)

    -- A name that only the same operator could have, which hasn't it, has no number
    pub other-operator : (xs : List Item) → AreMade [] xs → Named xs → (z : Item) → IsIn xs z → (n : Name) (k : ℕ) (other : List ℕ)
        → is_operator n k z.content ≡ true
        → ((y : Item) → HasItemName ss y → y.name ≡ other → is_operator n k y.content ≡ true) → (z.name ≡ other → ⊥) → second_byte other ≤ 95
        → symbol_number (module_of symbols xs) other ≡ None
    other-operator xs order named z i n k other own could differs low = go (member-split xs z i)
      where
        go : IsSplit xs z → symbol_number (module_of symbols xs) other ≡ None
        go s =
            let ps = s.front in
            let bs = s.back in
            let Q : Item → Type 0 = λ (y : Item). y.name ≡ other in
            let here : AreMade ps (z ∷ bs) = made-back [] ps (z ∷ bs) (subst (AreMade []) s.whole order) in
            let all : Named (ps ++ z ∷ bs) = subst Named s.whole named in
            let fronts = operator-before made proof Q z n k own could ps here.1 (All-left (HasItemName ss) ps (z ∷ bs) all) in
            let backs = operator-after made proof Q z n k own could (ps ++ z ∷ []) bs (IsIn-right ps (z ∷ []) z (inl refl)) here.3
            (All-right (HasItemName ss) ps (z ∷ bs) all).1 in
            let apart : AllByRecursion (λ (y : Item). y.name ≡ other → ⊥) xs =
            subst (AllByRecursion (λ (y : Item). y.name ≡ other → ⊥)) (sym s.whole)
            (All-append (λ (y : Item). y.name ≡ other → ⊥) ps (z ∷ bs) fronts (differs, backs)) in
            sym (ap (position (λ (d : Declaration). bytes_eq d.name other)) (declared-items xs))
            ∙ position-none (λ (d : Declaration). bytes_eq d.name other) (reserved xs) (none-has other low xs apart)
