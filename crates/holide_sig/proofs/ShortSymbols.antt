-- The first symbol whose name is short for a tree, by the number of the tree.
use Rattle.std.proofs.Common.{◌≡◌, ◌<◌, ℕ, suc, ◌+◌, refl, sym, ap, subst, ◌∙◌, Bool, true, false, cond, List, [], ◌∷◌, ◌++◌, length, map, Option, Some, None, position, arith}
use Rattle.std.specs.Prelude.{nat_eq, option_map, IfSome}
use Rattle.std.proofs.lemmas.Bool.{eqb-true, false_from_ne_true}
use Rattle.lp_spec.specs.Trees.{Tree, tree_eq}
use Rattle.lp_spec.specs.Modules.{Declaration, signature}
use Rattle.lp_spec.specs.ShortNames.{short_body, is_tree, short}
use Rattle.lp_binding_laws.specs.TreeEquality.{tree_eq-refl, tree_eq-true}
use Rattle.lp_term.specs.declared.LpId.{LpId}
use Rattle.lp_term.specs.Tables.{tree_at, Holds, IsDistinct}
use Rattle.lp_term.specs.TableLaws.{tree_at-Holds}
use Rattle.holide_sig.specs.declared.decls.Decl.{Decl}
use Rattle.holide_sig.specs.Modules.{declaration_in, IsKnown, AreDeclsKnown}
use Rattle.holide_sig.specs.ShortIds.{is_id, short_id}
use Rattle.name_table.specs.Positions.{first, position-first}
use Rattle.holide_sig.proofs.ShortBodies.{short_id-tree, short_id-known}

-- a tree is that of a number exactly where the numbers are one
module _ (ts : List Tree) (distinct : IsDistinct ts) (id : LpId) (known : id.0 < length ts) where
  same_number : (b : LpId) → b.0 < length ts → tree_at ts b.0 ≡ tree_at ts id.0 → b.0 ≡ id.0
  same_number b l e = distinct.each b.0 id.0 (tree_at ts id.0) (subst (Holds ts b.0) e (tree_at-Holds ts b.0 l)) (tree_at-Holds ts id.0 known)

  tree_eq-number : (b : LpId) → b.0 < length ts → tree_eq (tree_at ts b.0) (tree_at ts id.0) ≡ nat_eq b.0 id.0
  tree_eq-number b l = go (nat_eq b.0 id.0) refl
    where
      go : (c : Bool) → nat_eq b.0 id.0 ≡ c → tree_eq (tree_at ts b.0) (tree_at ts id.0) ≡ c
      go true e = ap (λ i. tree_eq (tree_at ts i) (tree_at ts id.0)) (eqb-true b.0 id.0 e) ∙ tree_eq-refl (tree_at ts id.0)
      go false e = false_from_ne_true (tree_eq (tree_at ts b.0) (tree_at ts id.0))
          (λ h. let same = same_number b l (tree_eq-true (tree_at ts b.0) (tree_at ts id.0) h) in absurd (grind (arith, e, same)))

  is_tree-is_id : (o : Option LpId) → IfSome o (λ b. b.0 < length ts) → is_tree (option_map (λ (b : LpId). tree_at ts b.0) o) (tree_at ts id.0) ≡ is_id o id
  is_tree-is_id None h = refl
  is_tree-is_id (Some b) h = tree_eq-number b h

  abbrev wanted : Declaration → Bool
  wanted d = is_tree (short_body d) (tree_at ts id.0)

  abbrev told : Decl → Bool
  told d = is_id (short_id d) id

  wanted-told : (d : Decl) → IsKnown ts d → wanted (declaration_in ts d) ≡ told d
  wanted-told d h = ap (λ o. is_tree o (tree_at ts id.0)) (sym (short_id-tree ts d)) ∙ is_tree-is_id (short_id d) (short_id-known ts d h)

  first-told : (ds : List Decl) → AreDeclsKnown ts ds → first wanted (map (declaration_in ts) ds) ≡ first told ds
  first-told [] h = refl
  first-told (d ∷ ds) h = ap (λ b. cond b (Some 0) (option_map suc (first wanted (map (declaration_in ts) ds)))) (wanted-told d h.0) ∙ ap
      (λ o. cond (told d) (Some 0) (option_map suc o)) (first-told ds h.1)

  after_signature : (o : Option ℕ) → option_map suc
      (option_map suc (option_map suc
      (option_map suc (option_map suc
      (option_map suc (option_map suc
      (option_map suc (option_map suc
      (option_map suc (option_map suc
      (option_map suc (option_map suc (option_map suc (option_map suc (option_map suc (option_map suc (option_map suc o)))))))))))))))))
      ≡ option_map (λ n. 18 + n) o
  after_signature None = refl
  after_signature (Some n) = ap Some (omega arith)

  pub short-number : (ds : List Decl) → AreDeclsKnown ts ds → option_map (λ n. 18 + n) (position told ds) ≡ short (map (declaration_in ts) ds) (tree_at ts id.0)
  short-number ds h =
      ap (option_map (λ n. 18 + n)) (position-first told ds ∙ sym (first-told ds h))
      ∙ sym (after_signature (first wanted (map (declaration_in ts) ds)))
      ∙ sym (position-first wanted (signature ++ map (declaration_in ts) ds))
