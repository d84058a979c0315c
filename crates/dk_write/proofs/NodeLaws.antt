-- Nodes of trees as they are written.
use Rattle.std.proofs.Common.{◌≡◌, ℕ, ◌+◌, ◌<◌, Bool, refl, sym, ap, ◌∙◌, arith, List, take, Some, None}
use Rattle.lp_spec.specs.Trees.{Tree, SortType, SortKind, Var, Sym, App, Lam, Pi, size, depth}
use Rattle.lp_spec.specs.Modules.{Declaration}
use Rattle.lp_spec.specs.ShortNames.{short, by_name, shortened}
use Rattle.lp_spec.specs.Text.{is_binder, is_word}
use Rattle.lp_term.specs.declared.LpId.{LpId}
use Rattle.lp_term.specs.declared.LpNode.{LpNode}
use Rattle.lp_term.specs.declared.LpNode.TheVariants as node
use Rattle.lp_term.specs.Tables.{tree_at, tree_of_node, Holds, PartsBelow}
use Rattle.lp_term.specs.TableLaws.{Holds-tree_at}
use Rattle.holide_sig.specs.declared.module.Module.{Module}
use Rattle.holide_sig.specs.Modules.{declarations_of}
use Rattle.dk_write.specs.Nodes.{written_tree, tree_written, is_binder_node, is_word_node, AreParts, IsWritten}
use Rattle.dk_write.proofs.ShortPlaces.{shortened-short}

module _ (m : Module) (n : ℕ) where
  abbrev earlier : List Declaration
  earlier = take n (declarations_of m)

  -- a tree for which a name is short is written as that symbol
  pub short-IsWritten : (id : LpId) (s : ℕ) → short earlier (tree_at m.table id.0) ≡ Some s → IsWritten m n id (node.Sym s)
  short-IsWritten id s e = record { tree = shortened-short earlier (tree_at m.table id.0) s e; parts = tt }

  -- a tree for which no name is short is written by its parts
  by_parts : (id : LpId) (t parts : Tree) → Holds m.table id.0 t → short earlier (tree_at m.table id.0) ≡ None → shortened earlier t
      ≡ by_name (short earlier t) parts → written_tree m n id ≡ parts
  by_parts id t parts h e f =
      let is = Holds-tree_at m.table id.0 t h in
      ap (shortened earlier) is ∙ f ∙ ap (λ o. by_name o parts) (sym (ap (short earlier) is) ∙ e)

  part_facts : (id a b : LpId) (t : Tree) → Holds m.table id.0 t → size t ≡ 1 + size (tree_at m.table a.0) + size (tree_at m.table b.0)
      → depth (tree_at m.table a.0) < depth t → depth (tree_at m.table b.0) < depth t → a.0 < id.0 → b.0 < id.0 → AreParts m.table id a b
  part_facts id a b t h s da db ka kb =
      let is = Holds-tree_at m.table id.0 t h in
      record {
        first_below = ka;
        second_below = kb;
        first_depth = rw is da;
        second_depth = rw is db;
        sizes = rw is (omega (arith, s));
      }

  pub view-IsWritten : (id : LpId) (v : LpNode) → short earlier (tree_at m.table id.0) ≡ None → Holds m.table id.0 (tree_of_node m.table v)
      → PartsBelow id.0 v → IsWritten m n id v
  view-IsWritten id node.SortType k h b = record { tree = by_parts id SortType SortType h k refl; parts = tt }
  view-IsWritten id node.SortKind k h b = record { tree = by_parts id SortKind SortKind h k refl; parts = tt }
  view-IsWritten id (node.Var i) k h b = record { tree = by_parts id (Var i) (Var i) h k refl; parts = tt }
  view-IsWritten id (node.Sym s) k h b = record { tree = by_parts id (Sym s) (Sym s) h k refl; parts = tt }
  view-IsWritten id (node.App f x) k h b =
      let t : Tree = App (tree_at m.table f.0) (tree_at m.table x.0) in
      record {
        tree = by_parts id t (App (written_tree m n f) (written_tree m n x)) h k refl;
        parts = part_facts id f x t h refl (omega arith) (omega arith) b.0 b.1;
      }
  view-IsWritten id (node.Lam x y) k h b =
      let t : Tree = Lam (tree_at m.table x.0) (tree_at m.table y.0) in
      record {
        tree = by_parts id t (Lam (written_tree m n x) (written_tree m n y)) h k refl;
        parts = part_facts id x y t h refl (omega arith) (omega arith) b.0 b.1;
      }
  view-IsWritten id (node.Pi x y) k h b =
      let t : Tree = Pi (tree_at m.table x.0) (tree_at m.table y.0) in
      record {
        tree = by_parts id t (Pi (written_tree m n x) (written_tree m n y)) h k refl;
        parts = part_facts id x y t h refl (omega arith) (omega arith) b.0 b.1;
      }

  binder_of : (v : LpNode) → is_binder_node v ≡ is_binder (tree_written m n v)
  binder_of node.SortType = refl
  binder_of node.SortKind = refl
  binder_of (node.Var i) = refl
  binder_of (node.Sym s) = refl
  binder_of (node.App f x) = refl
  binder_of (node.Lam x y) = refl
  binder_of (node.Pi x y) = refl

  word_of : (v : LpNode) → is_word_node v ≡ is_word (tree_written m n v)
  word_of node.SortType = refl
  word_of node.SortKind = refl
  word_of (node.Var i) = refl
  word_of (node.Sym s) = refl
  word_of (node.App f x) = refl
  word_of (node.Lam x y) = refl
  word_of (node.Pi x y) = refl

  -- the node of a tree tells whether it is written as a binder, or as a single word
  pub is_binder-written : (id : LpId) (v : LpNode) (b : Bool) → IsWritten m n id v → b ≡ is_binder_node v → b ≡ is_binder (written_tree m n id)
  is_binder-written id v b w e = e ∙ binder_of v ∙ sym (ap is_binder w.tree)

  pub is_word-written : (id : LpId) (v : LpNode) (b : Bool) → IsWritten m n id v → b ≡ is_word_node v → b ≡ is_word (written_tree m n id)
  is_word-written id v b w e = e ∙ word_of v ∙ sym (ap is_word w.tree)
