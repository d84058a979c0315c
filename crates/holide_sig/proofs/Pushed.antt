-- What a declaration more does to the words for modules.
use Rattle.std.proofs.Common.{◌≡◌, ℕ, ◌+◌, Bool, true, false, refl, sym, ap, subst, ◌∙◌, arith, List, [], ◌∷◌, ◌++◌, length, map, position, Some, None, append_assoc}
use Rattle.std.proofs.lemmas.List.{append-nil}
use Rattle.std.specs.Prelude.{◌||◌, option_map, Result, Ok, Err, OnOk, OnErr}
use Rattle.std.specs.List.{list_any}
use Rattle.std.specs.Str.{bytes_eq}
use Rattle.std.proofs.lemmas.List.Folds.{list_any-append}
use Rattle.lp_spec.specs.Trees.{Tree}
use Rattle.lp_spec.specs.Modules.{Declaration, signature}
use Rattle.lp_spec.specs.ModuleOrder.{MayFollow, AreDeclared, IsModule, is_declared}
use Rattle.holide_sig.specs.declared.decls.Decl.{Decl}
use Rattle.holide_sig.specs.declared.module.Module.{Module}
use Rattle.holide_sig.specs.Modules.{declaration_in, declarations_of, IsKnown, IsHeld, AreDeclsKnown}
use Rattle.name_table.specs.Positions.{position-first, first-append-Some, first-append-None, first-map}

-- one more known declaration
pub AreDeclsKnown-push : (ts : List Tree) (ds : List Decl) (d : Decl) → AreDeclsKnown ts ds → IsKnown ts d → AreDeclsKnown ts (ds ++ d ∷ [])
AreDeclsKnown-push ts [] d h k = (k, tt)
AreDeclsKnown-push ts (x ∷ xs) d h k = (h.0, AreDeclsKnown-push ts xs d h.1 k)

-- one more declaration that may follow the others
pub AreDeclared-push : (before ds : List Declaration) (d : Declaration) → AreDeclared before ds → MayFollow (before ++ ds) d → AreDeclared before (ds ++ d ∷ [])
AreDeclared-push before [] d h k = (subst (λ l. MayFollow l d) (append-nil before) k, tt)
AreDeclared-push before (x ∷ xs) d h k =
    (h.0, AreDeclared-push (before ++ x ∷ []) xs d h.1 (subst (λ l. MayFollow l d) (sym (append_assoc before (x ∷ []) xs)) k))

pub declarations-push : (ts : List Tree) (ds : List Decl) (d : Decl) → map (declaration_in ts) (ds ++ d ∷ []) ≡ map (declaration_in ts) ds
    ++ declaration_in ts d ∷ []
declarations-push ts [] d = refl
declarations-push ts (x ∷ xs) d = ap (λ l. declaration_in ts x ∷ l) (declarations-push ts xs d)

second : (a b : Bool) → (a || b) ≡ false → b ≡ false
second true b h = absurd (cc)
second false b h = h

list_any-declared : (ts : List Tree) (name : List ℕ) (ds : List Decl) → is_declared (map (declaration_in ts) ds) name ≡ list_any (λ d. bytes_eq d.name name) ds
list_any-declared ts name [] = refl
list_any-declared ts name (d ∷ ds) = ap (λ b. bytes_eq d.name name || b) (list_any-declared ts name ds)

-- a name that is new to a module is new to its declarations
pub new_among : (before : List Declaration) (ts : List Tree) (name : List ℕ) (ds : List Decl) → is_declared (before ++ map (declaration_in ts) ds) name ≡ false
    → list_any (λ d. bytes_eq d.name name) ds ≡ false
new_among before ts name ds h =
    sym (list_any-declared ts name ds)
    ∙ second (is_declared before name) (is_declared (map (declaration_in ts) ds) name)
    (sym (list_any-append (λ d. bytes_eq d.name name) before (map (declaration_in ts) ds)) ∙ h)

-- the symbol of a name in a first part
module _ (ts : List Tree) (name : List ℕ) (ds : List Decl) where
  pub found_first : (before : List Declaration) (s : ℕ) → Some s ≡ position (λ d. bytes_eq d.name name) before → Some s
      ≡ position (λ d. bytes_eq d.name name) (before ++ map (declaration_in ts) ds)
  found_first before s e =
      sym (position-first (λ d. bytes_eq d.name name) (before ++ map (declaration_in ts) ds)
      ∙ first-append-Some (λ d. bytes_eq d.name name) before (map (declaration_in ts) ds) s (sym (position-first (λ d. bytes_eq d.name name) before) ∙ sym e))

  -- and behind it
  pub found_later : (before : List Declaration) → None ≡ position (λ d. bytes_eq d.name name) before
      → position (λ d. bytes_eq d.name name) (before ++ map (declaration_in ts) ds)
      ≡ option_map (λ n. length before + n) (position (λ d. bytes_eq d.name name) ds)
  found_later before e =
      position-first (λ d. bytes_eq d.name name) (before ++ map (declaration_in ts) ds)
      ∙ first-append-None (λ d. bytes_eq d.name name) before (map (declaration_in ts) ds) (sym (position-first (λ d. bytes_eq d.name name) before) ∙ sym e)
      ∙ ap (option_map (λ n. length before + n)) (first-map (λ d. bytes_eq d.name name) (declaration_in ts) ds
      ∙ sym (position-first (λ d. bytes_eq d.name name) ds))

-- after a push that may have failed
module _ (m : Module) (decls : List Decl) (d : Decl) {E : Type 0} (result : Result (Unit {0}) E) where
  pub push_held : IsHeld m → IsKnown m.table d → OnOk result (decls ≡ m.decls ++ d ∷ []) → OnErr result (decls ≡ m.decls)
      → IsHeld (record { table = m.table; decls = decls })
  push_held held known ok err = record { types = held.types; decls = by result ok err; distinct = held.distinct }
    where
      by : (r : Result (Unit {0}) E) → OnOk r (decls ≡ m.decls ++ d ∷ []) → OnErr r (decls ≡ m.decls) → AreDeclsKnown m.table decls
      by (Ok u) e _ = subst (AreDeclsKnown m.table) (sym e) (AreDeclsKnown-push m.table m.decls d held.decls known)
      by (Err x) _ e = subst (AreDeclsKnown m.table) (sym e) held.decls

  pub push_module : MayFollow (signature ++ declarations_of m) (declaration_in m.table d) → OnOk result (decls ≡ m.decls ++ d ∷ [])
      → OnErr result (decls ≡ m.decls)
      → IsModule (declarations_of m) → IsModule (map (declaration_in m.table) decls)
  push_module follows ok err is_module = by result ok err
    where
      by : (r : Result (Unit {0}) E) → OnOk r (decls ≡ m.decls ++ d ∷ []) → OnErr r (decls ≡ m.decls) → IsModule (map (declaration_in m.table) decls)
      by (Ok u) e _ =
          subst IsModule (sym (ap (map (declaration_in m.table)) e ∙ declarations-push m.table m.decls d))
          (AreDeclared-push signature (declarations_of m) (declaration_in m.table d) is_module follows)
      by (Err x) _ e = subst (λ ds. IsModule (map (declaration_in m.table) ds)) (sym e) is_module
