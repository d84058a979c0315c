-- What the definitions of the module that is timed ask of it.
use Rattle.std.proofs.Common.{◌≡◌, ℕ, ◌≤◌, ◌-◌, refl, sym, subst, arith, List, [], ◌∷◌, length, Option, None, Some}
use Rattle.std.specs.Prelude.{false, IsFalse}
use Rattle.std.specs.Option.{is_some}
use Rattle.lp_spec.specs.declared.form.Form.TheVariants.{Def}
use Rattle.lp_spec.specs.Trees.{Tree}
use Rattle.lp_spec.specs.Modules.{Declaration, signature, types}
use Rattle.lp_spec.specs.ModuleOrder.{IsOver, MayFollow, is_declared}
use Rattle.lp_term.specs.declared.LpId.{LpId}
use Rattle.lp_term.specs.Tables.{tree_at, AreKnown, Keeps}
use Rattle.holide_sig.specs.Modules.{declaration_in}

-- a tree over the signature is one over more declarations
over_more : (count : ℕ) (t : Tree) → length signature ≤ count → IsOver (length signature) t → IsOver count t
over_more count t h o = record { closed = o.closed; kindless = o.kindless; known = omega (arith, h, o.known) }

-- a definition of a new name by a tree over the signature
pub may_define : (before : List Declaration) (ts : List Tree) (bytes name : List ℕ) (ty body : LpId) → length signature ≤ length before
    → IsFalse (is_declared before name) → bytes ≡ name
    → tree_at ts ty.0 ≡ types → IsOver (length signature) (tree_at ts body.0)
    → MayFollow before (declaration_in ts (record { name = bytes; form = Def; ty = ty; body = Some body }))
may_define before ts bytes name ty body h new e f o = record {
  new_name = subst (λ n. IsFalse (is_declared before n)) (sym e) new;
  ty = subst (IsOver (length before)) (sym f) (record { closed = refl; kindless = refl; known = omega (arith, h) });
  body = over_more (length before) (tree_at ts body.0) h o;
}

-- an option that has no value is None
pub no_some : {X : Type 0} (o : Option X) → false ≡ is_some o → o ≡ None
no_some None h = refl
no_some (Some x) h = absurd (cc)

-- numbers that a table knows, it knows when it has grown
pub AreKnown-Keeps : {old new : List Tree} → Keeps old new → (ids : List LpId) → AreKnown old ids → AreKnown new ids
AreKnown-Keeps k [] h = tt
AreKnown-Keeps k (id ∷ ids) h = (omega (arith, k.longer, h.0), AreKnown-Keeps k ids h.1)
