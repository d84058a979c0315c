-- A table into which an entry is put.
use Rattle.std.proofs.Common.{◌≡◌, ℕ, ◌<◌, refl, sym, ap, ◌∙◌, subst, arith, List, [], ◌∷◌, ◌++◌, length, get_or, Some, ⊎_elim, inl, inr, Bool, true, false}
use Rattle.std.specs.Prelude.{slice_get}
use Rattle.std.proofs.lemmas.Option.{slice_get_within, slice_get-get_or, same_Some}
use Rattle.std.proofs.Math.Path.{subst₂}
use Rattle.hol_spec.specs.Types.{HolType}
use Rattle.hol_type.specs.declared.node.Entry.{Entry}
use Rattle.hol_type.specs.contracts.node.NodeOrd.TheImpl.Laws.{matches_eq-law}
use Rattle.hol_type.specs.Tables.{Holds, Keeps, Adds}
use Rattle.hol_type.specs.TableLaws.{Holds-within, Adds-Keeps}
use Rattle.hol_type.specs.Measured.{IsMeasured}
use Rattle.hol_type.specs.Entries.{tree_of_node, PartsBelow, trees_of, IsTable}
use Rattle.hol_type.specs.Numbered.{AreAlike, IsInserted}
use Rattle.hol_type.proofs.EntryLaws.{trees_from-append, length-trees_of, trees_of-Holds, tree_of_node-Stays, PartsBelow-more, node_eq-true, node_same}
use Rattle.hol_type.proofs.Numbering.{AreAlike-refl}
use Rattle.hol_laws.specs.PlaceLaws.{slice_get-last, slice_get-one_more}

-- an entry whose node the table lacks
module _ (es : List Entry) (e : Entry) (t : IsTable es) (p : PartsBelow (length (trees_of es)) e.node)
    (m : IsMeasured e.measures (tree_of_node (trees_of es) e.node)) (absent : (j : ℕ) (o : Entry) → slice_get es j ≡ Some o → AreAlike o.node e.node → ⊥) where
  low : (i : ℕ) (o : Entry) → slice_get (es ++ e ∷ []) i ≡ Some o → PartsBelow i o.node
  low i o at = ⊎_elim (λ h. t.lower i o h) (λ h. subst₂ (λ n w. PartsBelow n w.node) (length-trees_of es ∙ sym h.0) h.1 p) (slice_get-one_more es e o i at)

  clash : (i : ℕ) → Holds (trees_of es) i (tree_of_node (trees_of es) e.node) → ⊥
  clash i held =
      let lt : i < length es = omega (arith, length-trees_of es, Holds-within (trees_of es) i (tree_of_node (trees_of es) e.node) held) in
      let at = slice_get-get_or es i e lt in
      let o = get_or es i e in
      let below = t.lower i o at in
      let same = node_same t.distinct o.node e.node (PartsBelow-more (omega (arith, length-trees_of es)) o.node below) p
      (same_Some _ _ (sym (trees_of-Holds es i o below at) ∙ held)) in
      absent i o at (sym (matches_eq-law o.node e.node) ∙ same)

  distinct : (i j : ℕ) (u : HolType) → Holds (trees_of (es ++ e ∷ [])) i u → Holds (trees_of (es ++ e ∷ [])) j u → i ≡ j
  distinct i j u hi hj =
      let g = trees_from-append [] es e in
      let wi = slice_get-one_more (trees_of es) (tree_of_node (trees_of es) e.node) u i (ap (λ w. slice_get w i) (sym g) ∙ hi) in
      let wj = slice_get-one_more (trees_of es) (tree_of_node (trees_of es) e.node) u j (ap (λ w. slice_get w j) (sym g) ∙ hj) in
      ⊎_elim
      (λ a. ⊎_elim (λ b. t.distinct.each i j u a b) (λ b. absurd (clash i (a ∙ ap Some (sym b.1)))) wj)
      (λ a. ⊎_elim (λ b. absurd (clash j (b ∙ ap Some (sym a.1)))) (λ b. a.0 ∙ sym b.0) wj)
      wi

  measured : (i : ℕ) (o : Entry) (u : HolType) → slice_get (es ++ e ∷ []) i ≡ Some o → Holds (trees_of (es ++ e ∷ [])) i u → IsMeasured o.measures u
  measured i o u at held =
      let g = trees_from-append [] es e in
      let w = slice_get-one_more (trees_of es) (tree_of_node (trees_of es) e.node) u i (ap (λ w. slice_get w i) (sym g) ∙ held) in
      ⊎_elim
      (λ a. ⊎_elim (λ b. t.measured i o u a b) (λ b. absurd (let h = slice_get_within es i o a in omega (arith, h, b.0, length-trees_of es))) w)
      (λ a. ⊎_elim (λ b. absurd (let h = Holds-within (trees_of es) i u b in omega (arith, h, a.0, length-trees_of es)))
      (λ b. subst₂ (λ w v. IsMeasured w.measures v) a.1 b.1 m) w)
      (slice_get-one_more es e o i at)

  pub grown_table : IsTable (es ++ e ∷ [])
  grown_table = record { lower = low; distinct = record { each = distinct }; measured = measured }

-- a table after an entry was put
pub record Inserted (es new : List Entry) (e : Entry) : Type 0 where
  pub table : IsTable new
  pub adds : Adds (trees_of es) (trees_of new) (tree_of_node (trees_of es) e.node)

pub unchanged : (es new : List Entry) (e : Entry) → IsTable es → new ≡ es → Inserted es new e
unchanged es new e t same = subst (λ w. Inserted es w e) (sym same) (record { table = t; adds = inl refl })

pub inserted : (es new : List Entry) (e : Entry) (r : ℕ) (b : Bool) → IsTable es → PartsBelow (length (trees_of es)) e.node
    → IsMeasured e.measures (tree_of_node (trees_of es) e.node) → IsInserted es new e r b → Inserted es new e
inserted es new e r true t p m h = subst (λ w. Inserted es w e) (sym h.0)
    (record { table = grown_table es e t p m h.2; adds = inr (trees_from-append [] es e) })
inserted es new e r false t p m h = unchanged es new e t h.0

-- the entry that has the number
stored : (es new : List Entry) (e : Entry) (r : ℕ) (b : Bool) → IsInserted es new e r b → (o : Entry) × (slice_get new r ≡ Some o) × AreAlike o.node e.node
stored es new e r true h = (e, ap (λ w. slice_get w r) h.0 ∙ ap (slice_get (es ++ e ∷ [])) h.1 ∙ slice_get-last es e, AreAlike-refl e.node)
stored es new e r false h = (h.1.0, ap (λ w. slice_get w r) h.0 ∙ h.1.1, h.1.2)

pub inserted_keeps : (es new : List Entry) (e : Entry) → Inserted es new e → Keeps (trees_of es) (trees_of new)
inserted_keeps es new e ins = Adds-Keeps (trees_of es) (trees_of new) (tree_of_node (trees_of es) e.node) ins.adds ins.table.distinct

-- the tree that is stored at the number given
pub stored_tree : (es new : List Entry) (e : Entry) (r : ℕ) (b : Bool) → Inserted es new e → PartsBelow (length (trees_of es)) e.node → IsInserted es new e r b
    → Holds (trees_of new) r (tree_of_node (trees_of es) e.node)
stored_tree es new e r b ins p h =
    let k = stored es new e r b h in
    trees_of-Holds new r k.0 (ins.table.lower r k.0 k.1) k.1
    ∙ ap Some (node_eq-true (trees_of new) k.0.node e.node (matches_eq-law k.0.node e.node ∙ k.2))
    ∙ ap Some (sym (tree_of_node-Stays (inserted_keeps es new e ins).stays e.node p))
