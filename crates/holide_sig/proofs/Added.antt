-- Nodes that are added to a table, none of whose trees it has.
use Rattle.std.proofs.Common.{◌≡◌, ℕ, zero, suc, ◌<◌, ◌≤◌, Bool, true, false, not, refl, sym, ap, subst, ◌∙◌, List, [], ◌∷◌, ◌++◌, length, drop, inl, inr, true≢false, IsTrue, ◌+◌, get_or, drop-cons, add-one}
use Rattle.std.proofs.lemmas.Bool.{ltb-true}
use Rattle.std.proofs.lemmas.List.{drop_all}
use Rattle.std.specs.Prelude.{◌&&◌, ◌||◌, nat_lt}
use Rattle.std.specs.List.{list_any}
use Rattle.std.proofs.lemmas.Option.{same_Some}
use Rattle.lp_spec.specs.Trees.{Tree, tree_eq}
use Rattle.lp_binding_laws.specs.TreeEquality.{tree_eq-refl}
use Rattle.lp_term.specs.declared.LpNode.{LpNode}
use Rattle.lp_term.specs.declared.LpNode.TheVariants as node
use Rattle.lp_term.specs.Tables.{tree_of_node, PartsBelow, Holds, Adds}
use Rattle.holide_sig.specs.Nodes.{parts_below, are_new, trees_with}

found_later : (a : Bool) {b : Bool} → b ≡ true → (a || b) ≡ true
found_later true h = refl
found_later false h = h

-- a tree that a table holds is found in it
holds_found : (ts : List Tree) (i : ℕ) (t : Tree) → Holds ts i t → list_any (tree_eq t) ts ≡ true
holds_found [] i t h = absurd (cc)
holds_found (u ∷ ts) zero t h =
    let same : tree_eq t u ≡ true = ap (tree_eq t) (same_Some _ _ h) ∙ tree_eq-refl t in
    ap (λ b. b || list_any (tree_eq t) ts) same
holds_found (u ∷ ts) (suc i) t h = found_later (tree_eq t u) (holds_found ts i t h)

-- a node whose tree is new is the table's last
pub added_last : (ts us : List Tree) (t : Tree) (i : ℕ) → list_any (tree_eq t) ts ≡ false → Adds ts us t → Holds us i t → us ≡ ts ++ t ∷ []
added_last ts us t i new (inl same) held = absurd (true≢false (sym (holds_found ts i t (subst (λ l. Holds l i t) same held)) ∙ new))
added_last ts us t i new (inr more) held = more

pub record Turn (ts : List Tree) (n : LpNode) (ns : List LpNode) : Type 0 where
  pub parts : PartsBelow (length ts) n
  pub new : list_any (tree_eq (tree_of_node ts n)) ts ≡ false
  pub rest : IsTrue (are_new (ts ++ tree_of_node ts n ∷ []) ns)

both : (a b : Bool) → IsTrue (a && b) → IsTrue a × IsTrue b
both true b h = (refl, h)
both false b h = absurd (cc)

negated : (a : Bool) → IsTrue (not a) → a ≡ false
negated true h = absurd (cc)
negated false h = refl

below : (n : ℕ) (node : LpNode) → IsTrue (parts_below n node) → PartsBelow n node
below n node.SortType h = tt
below n node.SortKind h = tt
below n (node.Var m) h = tt
below n (node.Sym m) h = tt
below n (node.App f x) h = let t = both (nat_lt f.0 n) (nat_lt x.0 n) h in (ltb-true f.0 n t.0, ltb-true x.0 n t.1)
below n (node.Lam f x) h = let t = both (nat_lt f.0 n) (nat_lt x.0 n) h in (ltb-true f.0 n t.0, ltb-true x.0 n t.1)
below n (node.Pi f x) h = let t = both (nat_lt f.0 n) (nat_lt x.0 n) h in (ltb-true f.0 n t.0, ltb-true x.0 n t.1)

-- what the test says of the first node
pub first_of : (ts : List Tree) (n : LpNode) (ns : List LpNode) → IsTrue (are_new ts (n ∷ ns)) → Turn ts n ns
unfolding are_new
first_of ts n ns h =
    let parts = parts_below (length ts) n in
    let found = not (list_any (tree_eq (tree_of_node ts n)) ts) in
    let t = both (parts && found) (are_new (ts ++ tree_of_node ts n ∷ []) ns) h in
    let p = both parts found t.0 in
    record { parts = below (length ts) n p.0; new = negated (list_any (tree_eq (tree_of_node ts n)) ts) p.1; rest = t.1 }

pub drop_step : (ns : List LpNode) (i : ℕ) (n : LpNode) → i < length ns → drop i ns ≡ get_or ns i n ∷ drop (i + 1) ns
drop_step ns i n h = rw add-one (drop-cons ns i n h)

-- a turn of the loop
pub after_turn : (ts us : List Tree) (i : ℕ) (n : LpNode) (ns rest : List LpNode) → ns ≡ n ∷ rest → IsTrue (are_new ts ns)
    → Adds ts us (tree_of_node ts n) → Holds us i (tree_of_node ts n) → IsTrue (are_new us rest) × (trees_with us rest ≡ trees_with ts ns)
unfolding trees_with
after_turn ts us i n ns rest e new adds held =
    let t = first_of ts n rest (subst (λ l. IsTrue (are_new ts l)) e new) in
    let last = added_last ts us (tree_of_node ts n) i t.new adds held in
    (subst (λ l. IsTrue (are_new l rest)) (sym last) t.rest, ap (λ l. trees_with l rest) last ∙ sym (ap (trees_with ts) e))

-- the parts of the first node come before it
pub first_parts : (ts : List Tree) (n : LpNode) (ns rest : List LpNode) → ns ≡ n ∷ rest → IsTrue (are_new ts ns) → PartsBelow (length ts) n
first_parts ts n ns rest e new = (first_of ts n rest (subst (λ l. IsTrue (are_new ts l)) e new)).parts

-- no node is left
pub trees_with-nil : (ts : List Tree) (ns : List LpNode) (i : ℕ) → length ns ≤ i → trees_with ts (drop i ns) ≡ ts
unfolding trees_with
trees_with-nil ts ns i h = ap (trees_with ts) (drop_all i ns h)
