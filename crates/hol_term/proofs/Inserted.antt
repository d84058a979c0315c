-- A table into which an entry is put.
use Rattle.std.proofs.Common.{◌≡◌, ℕ, ◌<◌, refl, sym, ap, ◌∙◌, subst, arith, List, [], ◌∷◌, ◌++◌, length, get_or, Some, ⊎_elim, inl, inr, ◌⊎◌, Bool, true, false, length-append}
use Rattle.std.specs.Prelude.{slice_get}
use Rattle.std.proofs.lemmas.Option.{slice_get_within, slice_get-get_or, same_Some}
use Rattle.std.proofs.Math.Path.{subst₂}
use Rattle.hol_spec.specs.Types.{HolType}
use Rattle.hol_spec.specs.Terms.{Term}
use Rattle.hol_type.specs.TableLaws as type_law
use Rattle.hol_term.specs.declared.node.Node.{Node}
use Rattle.hol_term.specs.declared.node.Entry.{Entry}
use Rattle.hol_term.specs.Tables.{Stays, Keeps}
use Rattle.hol_term.specs.TableLaws.{Stays-refl, Stays-append, tree_of_node-Stays, PartsBelow-more}
use Rattle.hol_term.specs.Nodes.{tree_of_node, PartsBelow, IsMeasured, terms_of, IsTable}
use Rattle.hol_term.specs.Indexed.{greater_part, IsInserted}
use Rattle.hol_term.proofs.EntryLaws.{over, terms_from-append, length-terms_of, slice_get-last, slice_get-one_more, terms_of-Some, tree_of_node-same}
use Rattle.hol_term.proofs.Indexing.{greater_part-below}

-- the tree of an entry over a table's entries
abbrev pub tree_over : List HolType → List Entry → Entry → Term
tree_over types es e = tree_of_node (over types (terms_of types es)) e.node

-- an entry whose node the table lacks
module _ (types : List HolType) (es : List Entry) (e : Entry) (t : IsTable types es) (p : PartsBelow (length (terms_of types es)) (length types) e.node)
    (m : IsMeasured types e (tree_over types es e)) (absent : (j : ℕ) (o : Entry) → slice_get es j ≡ Some o → o.node ≡ e.node → ⊥) where
  low : (i : ℕ) (o : Entry) → slice_get (es ++ e ∷ []) i ≡ Some o → PartsBelow i (length types) o.node
  low i o at = ⊎_elim (λ h. t.lower i o h) (λ h. subst₂ (λ n w. PartsBelow n (length types) w.node) (length-terms_of types es ∙ sym h.0) h.1 p)
      (slice_get-one_more es e o i at)

  clash : (i : ℕ) → slice_get (terms_of types es) i ≡ Some (tree_over types es e) → ⊥
  clash i held =
      let lt : i < length es = omega (arith, length-terms_of types es, slice_get_within (terms_of types es) i (tree_over types es e) held) in
      let at = slice_get-get_or es i e lt in
      let o = get_or es i e in
      let below = t.lower i o at in
      let same = tree_of_node-same (over types (terms_of types es)) t.one_each t.distinct o.node e.node
      (PartsBelow-more (omega (arith, length-terms_of types es)) (omega arith) o.node below) p
      (same_Some _ _ (sym (terms_of-Some types es i o below at) ∙ held)) in
      absent i o at same

  distinct : (i j : ℕ) (u : Term) → slice_get (terms_of types (es ++ e ∷ [])) i ≡ Some u → slice_get (terms_of types (es ++ e ∷ [])) j ≡ Some u → i ≡ j
  distinct i j u hi hj =
      let g = terms_from-append types [] es e in
      let wi = slice_get-one_more (terms_of types es) (tree_over types es e) u i (ap (λ w. slice_get w i) (sym g) ∙ hi) in
      let wj = slice_get-one_more (terms_of types es) (tree_over types es e) u j (ap (λ w. slice_get w j) (sym g) ∙ hj) in
      ⊎_elim
      (λ a. ⊎_elim (λ b. t.distinct.each i j u a b) (λ b. absurd (clash i (a ∙ ap Some (sym b.1)))) wj)
      (λ a. ⊎_elim (λ b. absurd (clash j (b ∙ ap Some (sym a.1)))) (λ b. a.0 ∙ sym b.0) wj)
      wi

  measured : (i : ℕ) (o : Entry) (u : Term) → slice_get (es ++ e ∷ []) i ≡ Some o → slice_get (terms_of types (es ++ e ∷ [])) i ≡ Some u → IsMeasured types o u
  measured i o u at held =
      let g = terms_from-append types [] es e in
      let w = slice_get-one_more (terms_of types es) (tree_over types es e) u i (ap (λ w. slice_get w i) (sym g) ∙ held) in
      ⊎_elim
      (λ a. ⊎_elim (λ b. t.measured i o u a b) (λ b. absurd (let h = slice_get_within es i o a in omega (arith, h, b.0, length-terms_of types es))) w)
      (λ a. ⊎_elim (λ b. absurd (let h = slice_get_within (terms_of types es) i u b in omega (arith, h, a.0, length-terms_of types es)))
      (λ b. subst₂ (IsMeasured types) a.1 b.1 m) w)
      (slice_get-one_more es e o i at)

  pub grown_table : IsTable types (es ++ e ∷ [])
  grown_table = record { one_each = t.one_each; lower = low; distinct = record { each = distinct }; measured = measured }

-- a table after an entry was put
pub record Inserted (types : List HolType) (es new : List Entry) (e : Entry) : Type 0 where
  pub table : IsTable types new
  pub adds : (terms_of types new ≡ terms_of types es) ⊎ (terms_of types new ≡ terms_of types es ++ tree_over types es e ∷ [])

pub unchanged : (types : List HolType) (es new : List Entry) (e : Entry) → IsTable types es → new ≡ es → Inserted types es new e
unchanged types es new e t same = subst (λ w. Inserted types es w e) (sym same) (record { table = t; adds = inl refl })

pub inserted : (types : List HolType) (es new : List Entry) (e : Entry) (r : ℕ) (b : Bool) → IsTable types es
    → PartsBelow (length (terms_of types es)) (length types) e.node → IsMeasured types e (tree_over types es e) → IsInserted es new e r b
    → Inserted types es new e
inserted types es new e r true t p m h = subst (λ w. Inserted types es w e) (sym h.0)
    (record { table = grown_table types es e t p m h.2; adds = inr (terms_from-append types [] es e) })
inserted types es new e r false t p m h = unchanged types es new e t h.0

-- the entry that has the number
stored : (es new : List Entry) (e : Entry) (r : ℕ) (b : Bool) → IsInserted es new e r b → (o : Entry) × (slice_get new r ≡ Some o) × (o.node ≡ e.node)
stored es new e r true h = (e, ap (λ w. slice_get w r) h.0 ∙ ap (slice_get (es ++ e ∷ [])) h.1 ∙ slice_get-last es e, refl)
stored es new e r false h = (h.1.0, ap (λ w. slice_get w r) h.0 ∙ h.1.1, h.1.2)

pub inserted_keeps : (types : List HolType) (es new : List Entry) (e : Entry) → Inserted types es new e
    → Keeps (over types (terms_of types es)) (over types (terms_of types new))
inserted_keeps types es new e ins = ⊎_elim
    (λ same. record {
      types = type_law.Keeps-refl types;
      stays = subst (Stays (terms_of types es)) (sym same) (Stays-refl (terms_of types es));
      longer =
          omega (arith, ap length same);
      distinct = λ _. ins.table.distinct;
    })
    (λ more. record {
      types = type_law.Keeps-refl types;
      stays = subst (Stays (terms_of types es)) (sym more) (Stays-append (terms_of types es) (tree_over types es e ∷ []));
      longer = let q = ap length more in omega (arith, q, length-append (terms_of types es) (tree_over types es e ∷ []));
      distinct = λ _. ins.table.distinct;
    })
    ins.adds

-- the tree that is stored at the number given
pub stored_tree : (types : List HolType) (es new : List Entry) (e : Entry) (r : ℕ) (b : Bool) → Inserted types es new e
    → PartsBelow (length (terms_of types es)) (length types) e.node → IsInserted es new e r b → slice_get (terms_of types new) r ≡ Some (tree_over types es e)
stored_tree types es new e r b ins p h =
    let k = stored es new e r b h in
    terms_of-Some types new r k.0 (ins.table.lower r k.0 k.1) k.1
    ∙ ap (λ w. Some (tree_of_node (over types (terms_of types new)) w)) k.2
    ∙ ap Some (sym (tree_of_node-Stays (over types (terms_of types es)) (over types (terms_of types new)) (type_law.Stays-refl types)
    (inserted_keeps types es new e ins).stays e.node p))

-- the greatest part of the entry's node has a number already
pub greater_part-known : (types : List HolType) (es : List Entry) (s : Node) → PartsBelow (length (terms_of types es)) (length types) s → (p : ℕ)
    → greater_part s ≡ Some p → p < length es
greater_part-known types es s h p g = omega (arith, greater_part-below (length (terms_of types es)) (length types) s p h g, length-terms_of types es)
