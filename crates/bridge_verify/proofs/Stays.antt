-- A translation whose table has grown.
use Rattle.std.proofs.Common.{◌≡◌, ℕ, ◌≤◌, sym, ap, subst, ◌∙◌, map, slice_get, Bool, Option, None, Some, Result, Ok, Err, OnOk}
use Rattle.hol_spec.specs.Proofs.{Accepted}
use Rattle.lp_spec.specs.Trees.{Tree, depth}
use Rattle.lp_term.specs.declared.LpId.{LpId}
use Rattle.lp_term.specs.Tables.{Keeps}
use Rattle.lp_term.specs.TableLaws.{tree_at-Stays}
use Rattle.holide_sig.specs.declared.module.Module.{Module}
use Rattle.holide_sig.specs.Modules.{declaration_in, declarations_of, IsHeld, IsBodyKnown}
use Rattle.holide_sig.specs.ModuleLaws.{IsHeld-Keeps, declarations_of-Keeps, AreDeclsKnown-slice_get}
use Rattle.dk_write.specs.Shallow.{IsBodyWithin, AreWithin}
use Rattle.bridge_translate.specs.Translations.{IsTranslationOf, counts_in}
use Rattle.bridge_translate.specs.declared.translation.Translation.{Translation}

module _ (m n : Module) (k : Keeps m.table n.table) (e : n.decls ≡ m.decls) (h : IsHeld m) where
  -- it has the same declarations
  pub stays-declared : declarations_of n ≡ declarations_of m
  stays-declared = ap (map (declaration_in n.table)) e ∙ declarations_of-Keeps m n.table k h

  -- its table holds them
  pub stays-held : IsHeld n
  stays-held = subst (λ ds. IsHeld (record { table = n.table; decls = ds })) (sym e) (IsHeld-Keeps m n.table k h)

  body-within : (most : ℕ) (body : Option LpId) → IsBodyKnown m.table body → IsBodyWithin most m.table body → IsBodyWithin most n.table body
  body-within most None b w = tt
  body-within most (Some id) b w = subst (λ (t : Tree). depth t ≤ most) (tree_at-Stays k.stays id.0 b) w

  -- its declarations are as deep as before
  pub stays-within : (most : ℕ) → AreWithin most m.table m.decls → AreWithin most n.table n.decls
  stays-within most w = λ i d g.
      let there : slice_get m.decls i ≡ Some d = ap (λ ds. slice_get ds i) (sym e) ∙ g in
      let known = AreDeclsKnown-slice_get m.table m.decls i d h.decls there in
      let one = w i d there in
      record { ty = subst (λ (t : Tree). depth t ≤ most) (tree_at-Stays k.stays d.ty.0 known.ty) one.ty; body = body-within most d.body known.body one.body }

-- it is the translation of what it was
pub stays-translated : (share : Bool) (articles : ℕ) (run : Accepted) (t u : Translation) → Keeps t.module.table u.module.table → u.module.decls
    ≡ t.module.decls
    → u.bounds ≡ t.bounds → u.counts ≡ t.counts → IsTranslationOf share articles run t → IsTranslationOf share articles run u
stays-translated share articles run t u k d b c h = record {
  held = stays-held t.module u.module k d h.held;
  declared = stays-declared t.module u.module k d h.held ∙ h.declared;
  bounds = ap (λ bounds. bounds.items) b ∙ h.bounds;
  counts = ap counts_in c ∙ h.counts;
}

-- what follows of two facts about a result that went well
pub both_ok : {T E P Q R : Type 0} (r : Result T E) → OnOk r P → OnOk r Q → (P → Q → R) → OnOk r R
both_ok (Ok x) p q f = f p q
both_ok (Err e) p q f = tt
