-- What is found is typed.
use Rattle.std.proofs.Common.{◌≡◌, refl, sym, subst, ℕ, List, take-append-drop, Bool}
use Rattle.std.specs.Prelude.{take, drop}
use Rattle.lp_spec.specs.Trees.{Tree}
use Rattle.lp_spec.specs.Modules.{Declaration}
use Rattle.lp_spec.specs.ModuleOrder.{IsModule}
use Rattle.lp_spec.specs.Typing.{Typed}
use Rattle.lp_term.specs.declared.LpId.{LpId}
use Rattle.lp_term.specs.Tables.{tree_at, trees_at}
use Rattle.holide_sig.specs.declared.module.Module.{Module}
use Rattle.holide_sig.specs.Modules.{declarations_of}
use Rattle.lp_spec.specs.Check.{Infer, Reply, Found, infer, alone, Ends, said, refused, asked}
use Rattle.lp_check_laws.specs.CheckLaws.{Found-injective}
use Rattle.lp_fast_laws.specs.FastModules.{infer-typed}
use Rattle.lp_check_laws.specs.EarlierDeclarations.{infer-longer, IsModule-IsSelfContained, IsModule-take}
use Rattle.lp_kernel.specs.declared.inference.Inferred.{Inferred}
use Rattle.lp_kernel.specs.declared.inference.Inferred.TheVariants as inferred
use Rattle.lp_kernel.specs.Inference.{IsContextOf, IsInferred, IsTypeOf}

-- what the rules find over the whole module, they find over its first declarations, and so it is the type
found-sound : (rechecks : Bool) (ds : List Declaration) (G : List Tree) (t A : Tree) (n : ℕ) → IsModule ds → (count : ℕ) → IsContextOf (take count ds) G t
    → Ends ds rechecks (infer ds rechecks G t) (Found A) n → Typed (take count ds) G t A
found-sound rechecks ds G t A n a count c h =
    let before = take count ds in
    let whole = subst (λ l. Ends l rechecks (infer l rechecks G t) (Found A) n) (sym (take-append-drop count ds)) h in
    let over = (infer-longer before (IsModule-IsSelfContained before (IsModule-take ds count a)) (drop count ds) rechecks G t c.types_over c.tree_over (Found A)
    n).0 whole in
    infer-typed rechecks before c.well_typed G t A n c.types over

alone-sound : (rechecks : Bool) (ds : List Declaration) (G : List Tree) (t A : Tree) (reply : Reply) (n : ℕ) → IsModule ds → (count : ℕ)
    → IsContextOf (take count ds) G t → Ends ds rechecks (alone (Infer G t)) reply n → reply ≡ Found A → Typed (take count ds) G t A
alone-sound rechecks ds G t A reply n a count c (refused h) e = absurd (cc)
alone-sound rechecks ds G t A reply n a count c (asked {t = B} {n = k} h said) e =
    found-sound rechecks ds G t A k a count c (subst (λ u. Ends ds rechecks (infer ds rechecks G t) (Found u) k) (Found-injective e) h)

-- what is found by the rules is the type
pub inferred-sound : (rechecks : Bool) (m : Module) (c : List LpId) (id : LpId) (ts : List Tree) (old new : ℕ) (r : Inferred)
    → IsInferred rechecks m c id ts old new r → IsTypeOf m c id ts r
inferred-sound rechecks m c id ts old new (inferred.Found r) h =
    λ a count o. alone-sound rechecks (declarations_of m) (trees_at m.table c) (tree_at m.table id.0) (tree_at ts r.0) (Found (tree_at ts r.0)) h.price a count
    o h.ends refl
inferred-sound rechecks m c id ts old new inferred.No h = tt
inferred-sound rechecks m c id ts old new inferred.Over h = tt
