-- Trees that may be declared.
use Rattle.std.proofs.Common.{◌≡◌, ℕ, suc, ◌≤◌, refl, sym, subst, arith, List, length, Bool, true, false, IsFalse, Some, None}
use Rattle.std.specs.Prelude.{◌||◌}
use Rattle.lp_spec.specs.declared.form.Form.TheVariants.{Symbol, Def}
use Rattle.lp_spec.specs.Trees.{Tree, Sym, App, Pi, loose}
use Rattle.lp_spec.specs.Modules.{Declaration}
use Rattle.lp_spec.specs.ModuleOrder.{has_kind, symbols, is_declared, IsOver, MayFollow}
use Rattle.lp_term.specs.declared.LpId.{LpId}
use Rattle.lp_term.specs.Tables.{tree_at, Holds, Keeps}
use Rattle.lp_term.specs.TableLaws.{Holds-tree_at, Holds-within, tree_at-Stays}
use Rattle.holide_sig.specs.Modules.{declaration_in}
use Rattle.lp_tests.specs.Open.{IsOpen}

-- a tree that a number has
pub open-Holds : (binders count : ℕ) (ts : List Tree) (id : LpId) (t : Tree) → Holds ts id.0 t → loose t ≤ binders → IsFalse (has_kind t) → symbols t ≤ count
    → IsOpen binders count ts id
open-Holds binders count ts id t h l k s =
    let e : t ≡ tree_at ts id.0 = sym (Holds-tree_at ts id.0 t h) in
    record {
      known = Holds-within ts id.0 t h;
      loose = subst (λ u. loose u ≤ binders) e l;
      kindless = subst (λ u. IsFalse (has_kind u)) e k;
      symbols = subst (λ u. symbols u ≤ count) e s;
    }

-- a tree that stays
pub open-Keeps : (binders count : ℕ) {old new : List Tree} (id : LpId) → Keeps old new → IsOpen binders count old id → IsOpen binders count new id
open-Keeps binders count {old = old} {new = new} id k h =
    let e : tree_at old id.0 ≡ tree_at new id.0 = tree_at-Stays k.stays id.0 h.known in
    record {
      known = omega (arith, h.known, k.longer);
      loose = subst (λ u. loose u ≤ binders) e h.loose;
      kindless = subst (λ u. IsFalse (has_kind u)) e h.kindless;
      symbols = subst (λ u. symbols u ≤ count) e h.symbols;
    }

either-false : (a b : Bool) → IsFalse a → IsFalse b → IsFalse (a || b)
either-false false false h k = h
either-false false true h k = k
either-false true b h k = h

-- a tree is doubled
pub open-doubled : (binders count : ℕ) (old new : List Tree) (id to : LpId) → 4 ≤ count
    → Holds new to.0 (App (App (Sym 3) (tree_at old id.0)) (tree_at old id.0)) → IsOpen binders count old id → IsOpen binders count new to
open-doubled binders count old new id to le h o =
    let t = tree_at old id.0 in
    open-Holds binders count new to (App (App (Sym 3) t) t) h (omega (arith, o.loose))
    (either-false (false || has_kind t) (has_kind t) (either-false false (has_kind t) refl o.kindless) o.kindless) (omega (arith, o.symbols, le))

IsOver-open : (count : ℕ) (ts : List Tree) (id : LpId) → IsOpen 0 count ts id → IsOver count (tree_at ts id.0)
IsOver-open count ts id h = record { closed = omega (arith, h.loose); kindless = h.kindless; known = h.symbols }

pub definition-follows : (before : List Declaration) (ts : List Tree) (name : List ℕ) (ty body : LpId) → IsFalse (is_declared before name)
    → IsOpen 0 (length before) ts ty → IsOpen 0 (length before) ts body
    → MayFollow before (declaration_in ts (record { name = name; form = Def; ty = ty; body = Some body }))
definition-follows before ts name ty body n h k = record
    { new_name = n; ty = IsOver-open (length before) ts ty h; body = IsOver-open (length before) ts body k }

pub symbol-follows : (before : List Declaration) (ts : List Tree) (name : List ℕ) (ty : LpId) → IsFalse (is_declared before name)
    → IsOpen 0 (length before) ts ty
    → MayFollow before (declaration_in ts (record { name = name; form = Symbol; ty = ty; body = None }))
symbol-follows before ts name ty n h = record { new_name = n; ty = IsOver-open (length before) ts ty h; body = refl }

pub open-application : (binders count : ℕ) (old new : List Tree) (f x to : LpId) → Holds new to.0 (App (tree_at old f.0) (tree_at old x.0))
    → IsOpen binders count old f → IsOpen binders count old x → IsOpen binders count new to
open-application binders count old new f x to h of ox =
    let t = tree_at old f.0 in
    let u = tree_at old x.0 in
    open-Holds binders count new to (App t u) h (omega (arith, of.loose, ox.loose)) (either-false (has_kind t) (has_kind u) of.kindless ox.kindless)
    (omega (arith, of.symbols, ox.symbols))

pub open-product : (binders count : ℕ) (old new : List Tree) (a b to : LpId) → Holds new to.0 (Pi (tree_at old a.0) (tree_at old b.0))
    → IsOpen binders count old a → IsOpen (suc binders) count old b → IsOpen binders count new to
open-product binders count old new a b to h oa ob =
    let t = tree_at old a.0 in
    let u = tree_at old b.0 in
    open-Holds binders count new to (Pi t u) h (omega (arith, oa.loose, ob.loose)) (either-false (has_kind t) (has_kind u) oa.kindless ob.kindless)
    (omega (arith, oa.symbols, ob.symbols))
