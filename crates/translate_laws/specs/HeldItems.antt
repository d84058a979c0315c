-- What is declared so far of a module of items holds those items.
use Rattle.std.proofs.Common.{◌≡◌, ◌+◌, List, [], ◌∷◌, ◌++◌, append-nil, append_assoc, map, length, Some, refl, sym, ap, subst, ◌∙◌, arith}
use Rattle.std.specs.List.{AllByRecursion}
use Rattle.std.proofs.lemmas.List.{length-append}
use Rattle.hol_laws.specs.Members.{All-append, All-weaker}
use Rattle.lp_spec.specs.Lemmas.{lemmas}
use Rattle.lp_spec.specs.Modules.{Declaration, signature, symbol_declaration}
use Rattle.translate_laws.specs.ItemConditions.{AreItems}
use Rattle.translate_laws.specs.ModuleTyping.{HoldsItem, Holds-append, slice_get-last, content-holds}
use Rattle.translate_spec.specs.Items.{Item, declaration, module_of}
use Rattle.translate_spec.specs.Scopes.{SymbolMap}

module _ (symbols : SymbolMap) where
  abbrev D : Item → Declaration
  D = declaration symbols

  -- the first of some items
  pub items-front : (before xs rest : List Item) → AreItems symbols before (xs ++ rest) → AreItems symbols before xs
  items-front before [] rest h = tt
  items-front before (x ∷ xs) rest h = (h.0, h.1, h.2, items-front (before ++ x ∷ []) xs rest h.3)

  items-hold : (m : List Declaration) (before xs : List Item) → length m ≡ length lemmas + length before → AllByRecursion (HoldsItem m symbols) before
      → AreItems symbols before xs
      → AllByRecursion (HoldsItem (m ++ map D xs) symbols) (before ++ xs)
  items-hold m before [] size holds h = subst (λ l. AllByRecursion (HoldsItem l symbols) (before ++ [])) (sym (append-nil m))
      (subst (AllByRecursion (HoldsItem m symbols)) (sym (append-nil before)) holds)
  items-hold m before (x ∷ xs) size holds h =
      let d = D x in
      let place : x.symbol ≡ length signature + length m = h.0 ∙ ap (λ k. length signature + k) (sym size) in
      let declared : symbol_declaration (m ++ d ∷ []) x.symbol ≡ Some d = ap (symbol_declaration (m ++ d ∷ [])) place ∙ slice_get-last signature m d in
      let new : HoldsItem (m ++ d ∷ []) symbols x = content-holds symbols m before x.symbol x.name x.content holds h.2 h.1 declared in
      let old : AllByRecursion (HoldsItem (m ++ d ∷ []) symbols) before =
      All-weaker (HoldsItem m symbols) (HoldsItem (m ++ d ∷ []) symbols) (λ y k. Holds-append m (d ∷ []) symbols y.symbol y.content k) before holds in
      let longer : length (m ++ d ∷ []) ≡ length lemmas + length (before ++ x ∷ []) =
      omega (arith, length-append m (d ∷ []), length-append before (x ∷ []), size) in
      subst (λ l. AllByRecursion (HoldsItem l symbols) (before ++ x ∷ xs)) (append_assoc m (d ∷ []) (map D xs))
      (subst (AllByRecursion (HoldsItem ((m ++ d ∷ []) ++ map D xs) symbols)) (append_assoc before (x ∷ []) xs)
      (items-hold (m ++ d ∷ []) (before ++ x ∷ []) xs longer (All-append (HoldsItem (m ++ d ∷ []) symbols) before (x ∷ []) old (new, tt {0})) h.3))

  -- The module of items holds them
  pub module-holds : (xs : List Item) → AreItems symbols [] xs → AllByRecursion (HoldsItem (module_of symbols xs) symbols) xs
  module-holds xs h = items-hold lemmas [] xs refl (tt {0}) h
