-- What the order of numbers tells of a tree: its parts have lower numbers, and what has a greater one is not in it.
use Rattle.std.proofs.Common.{◌≡◌, ℕ, ◌<◌, sym, ap, ◌∙◌, arith, List, length, Some}
use Rattle.std.specs.Prelude.{slice_get}
use Rattle.std.proofs.lemmas.Option.{slice_get_within, same_Some}
use Rattle.hol_spec.specs.Names.{Name}
use Rattle.hol_spec.specs.Types.{HolType}
use Rattle.hol_spec.specs.Terms.{Term, free, bound, constant, app, lam, Variable}
use Rattle.hol_type.specs.declared.table.TypeId.{TypeId}
use Rattle.hol_type.specs.Tables.{tree_at}
use Rattle.hol_term.specs.declared.node.Node.{Node}
use Rattle.hol_term.specs.declared.node.Node.TheVariants as node
use Rattle.hol_term.specs.declared.node.Entry.{Entry}
use Rattle.hol_term.specs.Tables.{Trees, term_at, Holds}
use Rattle.hol_term.specs.TableLaws.{term_in-Some, PartsBelow-more}
use Rattle.hol_term.specs.Nodes.{tree_of_node, PartsBelow, terms_of, IsTable}
use Rattle.hol_term.specs.Masks.{IsWithout}
use Rattle.hol_term.specs.Indexed.{nodes_of, Has, Lacks}
use Rattle.hol_term.proofs.EntryLaws.{over, length-terms_of, terms_of-Some, tree_of_node-same}
use Rattle.hol_term.proofs.Indexing.{nodes_of-Some, Some-nodes_of}
use Rattle.hol_term.proofs.Retyped.{item_at}

-- the parts of a tree
left_of : Term → Term
left_of (app f x) = f
left_of _ = bound 0

right_of : Term → Term
right_of (app f x) = x
right_of (lam t x) = x
right_of _ = bound 0

module _ (types : List HolType) (es : List Entry) (t : IsTable types es) where
  abbrev trees : Trees
  trees = over types (terms_of types es)

  -- a tree of the table under a lower number
  abbrev IsLower : ℕ → Term → Type 0
  IsLower i s = (j : ℕ) × (j < i) × Holds trees j s

  -- the entry of a tree
  entry_of : (i : ℕ) (s : Term) → Holds trees i s → (e : Entry) × (slice_get es i ≡ Some e) × (tree_of_node trees e.node ≡ s)
  entry_of i s held =
      let e = item_at es i (omega (arith, length-terms_of types es, slice_get_within (terms_of types es) i s held)) in
      (e.0, e.1, same_Some _ _ (sym (terms_of-Some types es i e.0 (t.lower i e.0 e.1) e.1) ∙ held))

  known : (i j : ℕ) (s : Term) → Holds trees i s → j < i → j < length (terms_of types es)
  known i j s held lt = omega (arith, slice_get_within (terms_of types es) i s held, lt)

  -- the parts of an application and of an abstraction
  app-parts : (i : ℕ) (f x : Term) → Holds trees i (app f x) → IsLower i f × IsLower i x
  unfolding left_of right_of
  app-parts i f x held = let e = entry_of i (app f x) held in go e.0.node (t.lower i e.0 e.1) e.2
    where
      go : (n : Node) → PartsBelow i (length types) n → tree_of_node trees n ≡ app f x → IsLower i f × IsLower i x
      go (node.App g y) low is = (
        (g.0, low.0, term_in-Some (terms_of types es) g.0 (known i g.0 (app f x) held low.0) ∙ ap Some (ap left_of is)),
        (y.0, low.1, term_in-Some (terms_of types es) y.0 (known i y.0 (app f x) held low.1) ∙ ap Some (ap right_of is)),
      )
      go (node.Free m ty) low is = absurd (cc)
      go (node.Bound k) low is = absurd (cc)
      go (node.Const m ty) low is = absurd (cc)
      go (node.Lam ty b) low is = absurd (cc)

  lam-part : (i : ℕ) (a : HolType) (b : Term) → Holds trees i (lam a b) → IsLower i b
  unfolding right_of
  lam-part i a b held = let e = entry_of i (lam a b) held in go e.0.node (t.lower i e.0 e.1) e.2
    where
      go : (n : Node) → PartsBelow i (length types) n → tree_of_node trees n ≡ lam a b → IsLower i b
      go (node.Lam ty y) low is = (y.0, low.1, term_in-Some (terms_of types es) y.0 (known i y.0 (lam a b) held low.1) ∙ ap Some (ap right_of is))
      go (node.Free m ty) low is = absurd (cc)
      go (node.Bound k) low is = absurd (cc)
      go (node.Const m ty) low is = absurd (cc)
      go (node.App g y) low is = absurd (cc)

  -- each number of the variable is greater
  abbrev IsLater : Variable → ℕ → Type 0
  IsLater v i = (k : ℕ) → Holds trees k (free v.0 v.1) → i < k

  lower-later : (v : Variable) (i j : ℕ) → j < i → IsLater v i → IsLater v j
  lower-later v i j lt later k h = let l = later k h in omega (arith, lt, l)

  -- a variable that has no number up to the tree's is not in it
  without-later : (v : Variable) (s : Term) (i : ℕ) → Holds trees i s → IsLater v i → IsWithout v s
  without-later v (free n a) i held later = λ e. let l = later i (held ∙ ap (λ (w : Variable). Some (free w.0 w.1)) e) in absurd (omega (arith, l))
  without-later v (bound k) i held later = tt
  without-later v (constant n a) i held later = tt
  without-later v (app f x) i held later =
      let p = app-parts i f x held in (
        without-later v f p.0.0 p.0.2 (lower-later v i p.0.0 p.0.1 later),
        without-later v x p.1.0 p.1.2 (lower-later v i p.1.0 p.1.1 later),
      )
  without-later v (lam a b) i held later = let p = lam-part i a b held in without-later v b p.0 p.2 (lower-later v i p.0 p.1 later)

  -- so it is where the variable has a greater number
  pub without-before : (v : Variable) (i j : ℕ) → i < length (terms_of types es) → i < j → Holds trees j (free v.0 v.1) → IsWithout v (term_at trees i)
  without-before v i j lt before own =
      without-later v (term_at trees i) i (term_in-Some (terms_of types es) i lt)
      (λ k h. let same = t.distinct.each k j (free v.0 v.1) h own in omega (arith, same, before))

  module _ (name : Name) (ty : TypeId) (i : ℕ) (lt : i < length (terms_of types es)) where
    -- and where its node has a greater one, or none
    pub without-found : (n : ℕ) → i < n → Has (nodes_of es) n (node.Free name ty) → IsWithout (name, tree_at types ty.0) (term_at trees i)
    without-found n before h =
        let e = Some-nodes_of es n (node.Free name ty) h in
        without-before (name, tree_at types ty.0) i n lt before
        (terms_of-Some types es n e.0 (t.lower n e.0 e.1) e.1 ∙ ap (λ m. Some (tree_of_node trees m)) e.2)

    pub without-lacking : ty.0 < length types → Lacks (nodes_of es) (node.Free name ty) → IsWithout (name, tree_at types ty.0) (term_at trees i)
    without-lacking own lacks = without-later (name, tree_at types ty.0) (term_at trees i) i (term_in-Some (terms_of types es) i lt)
        (λ k h. absurd (lacks k (node_at k h)))
      where
        node_at : (k : ℕ) → Holds trees k (free name (tree_at types ty.0)) → Has (nodes_of es) k (node.Free name ty)
        node_at k h =
            let e = entry_of k (free name (tree_at types ty.0)) h in
            let few = slice_get_within (terms_of types es) k (free name (tree_at types ty.0)) h in
            let same : e.0.node ≡ node.Free name ty
            = tree_of_node-same trees t.one_each t.distinct e.0.node (node.Free name ty)
            (PartsBelow-more (omega (arith, few)) (omega arith) e.0.node (t.lower k e.0 e.1)) own e.2 in
            nodes_of-Some es k e.0 e.1 ∙ ap Some same
