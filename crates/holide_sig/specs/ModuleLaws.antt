-- What follows from the words for modules.
use Rattle.std.proofs.Common.{◌≡◌, ℕ, zero, suc, ◌+◌, ◌-◌, ◌<◌, ◌≤◌, Bool, true, false, refl, sym, ap, subst, ◌∙◌, arith, List, [], ◌∷◌, ◌++◌, length, length-append, map, Option, None, Some, position, get_or}
use Rattle.std.specs.List.{list_any}
use Rattle.std.specs.Str.{bytes_eq}
use Rattle.std.specs.Option.{option_map_or}
use Rattle.std.proofs.lemmas.List.Quantifiers.{position-Some}
use Rattle.std.proofs.lemmas.List.{length-map}
use Rattle.std.proofs.lemmas.Option.{slice_get-get_or, slice_get-map, slice_get_past, same_Some}
use Rattle.std.specs.Cmp.Lexicographic.{same_text}
use Rattle.std.specs.Prelude.{◌||◌, IsFalse, option_map, slice_get}
use Rattle.common.specs.Binding.{Pairwise}
use Rattle.lp_spec.specs.Trees.{Tree, SortType}
use Rattle.lp_spec.specs.Modules.{Declaration, signature, symbol, symbol_declaration, symbol_name}
use Rattle.lp_spec.specs.ModuleOrder.{is_declared}
use Rattle.lp_spec.specs.Text.{prelude}
use Rattle.lp_term.specs.declared.LpId.{LpId}
use Rattle.lp_term.specs.Tables.{tree_at, Holds, Stays, Keeps}
use Rattle.lp_term.specs.TableLaws.{tree_at-Stays}
use Rattle.holide_sig.specs.declared.decls.Decl.{Decl}
use Rattle.holide_sig.specs.declared.module.Module.{Module}
use Rattle.holide_sig.specs.declared.signature.TheConstants.{PRELUDE}
use Rattle.holide_sig.specs.Modules.{declaration_in, declarations_of, symbol_number, signature_ids, IsBodyKnown, IsKnown, AreDeclsKnown, IsHeld}

-- the bytes of the constant are those with which the text of every module begins
pub PRELUDE-prelude : PRELUDE.now ≡ prelude
PRELUDE-prelude = refl

Pairwise-Stays : {old new : List Tree} → Stays old new → (is : List ℕ) (ts : List Tree) → Pairwise (Holds old) is ts → Pairwise (Holds new) is ts
Pairwise-Stays s [] [] h = tt
Pairwise-Stays s (i ∷ is) (t ∷ ts) h = (s.each i t h.0, Pairwise-Stays s is ts h.1)
Pairwise-Stays s [] (t ∷ ts) h = absurd h
Pairwise-Stays s (i ∷ is) [] h = absurd h

IsBodyKnown-Keeps : {old new : List Tree} → Keeps old new → (body : Option LpId) → IsBodyKnown old body → IsBodyKnown new body
IsBodyKnown-Keeps k None h = tt
IsBodyKnown-Keeps k (Some id) h = omega (arith, k.longer, h)

-- what a table knows, it knows when it has grown
pub IsKnown-Keeps : {old new : List Tree} → Keeps old new → (d : Decl) → IsKnown old d → IsKnown new d
IsKnown-Keeps k d h = record { ty = omega (arith, k.longer, h.ty); body = IsBodyKnown-Keeps k d.body h.body }

AreDeclsKnown-Keeps : {old new : List Tree} → Keeps old new → (ds : List Decl) → AreDeclsKnown old ds → AreDeclsKnown new ds
AreDeclsKnown-Keeps k [] h = tt
AreDeclsKnown-Keeps k (d ∷ ds) h = (IsKnown-Keeps k d h.0, AreDeclsKnown-Keeps k ds h.1)

-- each of the known declarations is known
pub AreDeclsKnown-slice_get : (ts : List Tree) (ds : List Decl) (i : ℕ) (d : Decl) → AreDeclsKnown ts ds → slice_get ds i ≡ Some d → IsKnown ts d
AreDeclsKnown-slice_get ts [] i d h e = absurd (cc)
AreDeclsKnown-slice_get ts (x ∷ xs) zero d h e = subst (IsKnown ts) (same_Some _ _ e) h.0
AreDeclsKnown-slice_get ts (x ∷ xs) (suc i) d h e = AreDeclsKnown-slice_get ts xs i d h.1 e

-- a module holds what it should when its table has grown
pub IsHeld-Keeps : (m : Module) (new : List Tree) → Keeps m.table new → IsHeld m → IsHeld (record { table = new; decls = m.decls })
IsHeld-Keeps m new k h = record {
  types = Pairwise-Stays k.stays signature_ids (map (λ d. d.ty) signature) h.types;
  decls = AreDeclsKnown-Keeps k m.decls h.decls;
  distinct = k.distinct h.distinct;
}

body-Keeps : {old new : List Tree} → Keeps old new → (body : Option LpId) → IsBodyKnown old body
    → option_map (λ id. tree_at new id.0) body ≡ option_map (λ id. tree_at old id.0) body
body-Keeps k None h = refl
body-Keeps k (Some id) h = ap Some (sym (tree_at-Stays k.stays id.0 h))

-- and its declarations stay
pub declaration_in-Keeps : {old new : List Tree} → Keeps old new → (d : Decl) → IsKnown old d → declaration_in new d ≡ declaration_in old d
declaration_in-Keeps k d h = cc (tree_at-Stays k.stays d.ty.0 h.ty, body-Keeps k d.body h.body)

map-Keeps : {old new : List Tree} → Keeps old new → (ds : List Decl) → AreDeclsKnown old ds → map (declaration_in new) ds ≡ map (declaration_in old) ds
map-Keeps k [] h = refl
map-Keeps k (d ∷ ds) h = cc (declaration_in-Keeps k d h.0, map-Keeps k ds h.1)

pub declarations_of-Keeps : (m : Module) (new : List Tree) → Keeps m.table new → IsHeld m → declarations_of (record { table = new; decls = m.decls })
    ≡ declarations_of m
declarations_of-Keeps m new k h = map-Keeps k m.decls h.decls

slice_get-behind : {X : Type 0} (xs ys : List X) (i j : ℕ) → length xs + j ≡ i → slice_get (xs ++ ys) i ≡ slice_get ys j
slice_get-behind [] ys i j e = ap (slice_get ys) (let h : i ≡ j = omega arith in h)
slice_get-behind (x ∷ xs) ys zero j e = absurd (omega arith)
slice_get-behind (x ∷ xs) ys (suc i) j e = slice_get-behind xs ys i j (omega arith)

-- a symbol behind the signature is that of the declaration at its place
pub symbol_declaration-behind : (ts : List Tree) (ds : List Decl) (s : ℕ) → length signature ≤ s
    → symbol_declaration (map (declaration_in ts) ds) s ≡ option_map (declaration_in ts) (slice_get ds (s - length signature))
symbol_declaration-behind ts ds s h =
    slice_get-behind signature (map (declaration_in ts) ds) s (s - length signature) (omega (arith, h))
    ∙ slice_get-map (declaration_in ts) ds (s - length signature)

-- how many symbols a module has
pub symbols-length : (ts : List Tree) (ds : List Decl) → length (signature ++ map (declaration_in ts) ds) ≡ length signature + length ds
symbols-length ts ds = length-append signature (map (declaration_in ts) ds) ∙ ap (λ n. length signature + n) (length-map ds (declaration_in ts))

-- a symbol beyond them has no declaration
pub symbol_declaration-beyond : (ts : List Tree) (ds : List Decl) (s : ℕ) → length signature + length ds ≤ s
    → symbol_declaration (map (declaration_in ts) ds) s ≡ None
symbol_declaration-beyond ts ds s h = slice_get_past (signature ++ map (declaration_in ts) ds) s (omega (arith, symbols-length ts ds, h))

module _ {X : Type 0} (p : X → Bool) where
  none_cons : (x : X) (xs : List X) (b : Bool) → p x ≡ b → position p (x ∷ xs) ≡ None → (p x ≡ false) × (position p xs ≡ None)
  none_cons x xs true h e = absurd (grind (arith, h, e))
  none_cons x xs false h e = (h, grind (arith, h, e))

  -- where the test has no first place, it never passes
  position-None : (xs : List X) → position p xs ≡ None → list_any p xs ≡ false
  position-None [] e = refl
  position-None (x ∷ xs) e = let t = none_cons x xs (p x) refl e in ap (λ b. b || list_any p xs) t.0 ∙ position-None xs t.1

-- a name that no symbol has is new
pub symbol_number-None : (ds : List Declaration) (name : List ℕ) → symbol_number ds name ≡ None → IsFalse (is_declared (signature ++ ds) name)
symbol_number-None ds name e = position-None (λ d. bytes_eq d.name name) (signature ++ ds) e

-- the symbol of a name is one of the module's
pub symbol_number-within : (ds : List Declaration) (name : List ℕ) (s : ℕ) → symbol_number ds name ≡ Some s → s < length (signature ++ ds)
symbol_number-within ds name s e = (position-Some (λ d. bytes_eq d.name name) (signature ++ ds) s (symbol [] SortType) e).0

-- and has it
pub symbol_name-symbol_number : (ds : List Declaration) (name : List ℕ) (s : ℕ) → symbol_number ds name ≡ Some s → symbol_name ds s ≡ name
symbol_name-symbol_number ds name s e =
    let none = symbol [] SortType in
    let t = position-Some (λ d. bytes_eq d.name name) (signature ++ ds) s none e in
    ap (λ o. option_map_or (λ d. d.name) o []) (slice_get-get_or (signature ++ ds) s none t.0)
    ∙ same_text (get_or (signature ++ ds) s none).name name (sym t.1)
