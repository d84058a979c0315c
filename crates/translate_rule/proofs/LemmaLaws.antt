-- Trees that are added to a table by nodes, each with its parts by their places.
use Rattle.std.proofs.Common.{◌≡◌, ℕ, zero, suc, ◌+◌, ◌<◌, ◌&&◌, Bool, true, false, refl, sym, ap, subst, ◌∙◌, arith, List, [], ◌∷◌, ◌++◌, length, get_or, drop, IsTrue, Some, lit≤}
use Rattle.std.specs.Prelude.{nat_lt, codes}
use Rattle.std.proofs.lemmas.Bool.{ltb-true}
use Rattle.std.proofs.lemmas.List.{drop_more}
use Rattle.std.proofs.Math.Path.{ap₂}
use Rattle.lp_spec.specs.Trees.{Tree}
use Rattle.lp_term.specs.declared.LpId.{LpId}
use Rattle.lp_term.specs.declared.LpNode.{LpNode}
use Rattle.lp_term.specs.declared.LpNode.TheVariants as node
use Rattle.lp_term.specs.Tables.{tree_at, trees_at, tree_of_node, AreKnown, Holds, Keeps, PartsBelow}
use Rattle.lp_term.specs.TableLaws.{Holds-tree_at, Keeps-refl, Keeps-trans, tree_at-Stays}
use Rattle.holide_sig.specs.Modules.{declaration_in, IsKnown}
use Rattle.holide_sig.specs.Nodes.{parts_below, trees_with}
use Rattle.lp_spec.specs.declared.form.Form.TheVariants.{Thm}
use Rattle.lp_spec.specs.Lemmas.{lemmas, sym_lemma, trans_lemma}
use Rattle.lp_spec.specs.ModuleOrder.{MayFollow}
use Rattle.lp_spec.specs.Modules.{Declaration, signature}
use Rattle.translate_rule.specs.declared.lemmas.TheConstants.{NODES}
use Rattle.translate_rule.specs.LemmaNodes.{are_ordered, theorem_at}

-- the number at a place has the tree at the place
pub place-tree : (trees : List Tree) (ids : List LpId) (k : ℕ) (d : LpId) → AreKnown trees ids → k < length ids → ((get_or ids k d).0 < length trees)
    × (tree_at trees (get_or ids k d).0 ≡ tree_at (trees_at trees ids) k)
place-tree trees [] k d h l = absurd (omega (arith, l))
place-tree trees (id ∷ ids) zero d h l = (h.0, refl)
place-tree trees (id ∷ ids) (suc k) d h l = place-tree trees ids k d h.1 (omega (arith, l))

-- of two parts
pub places-known : (trees : List Tree) (ids : List LpId) (j k : ℕ) (d : LpId) → (j < length ids) × (k < length ids) → AreKnown trees ids
    → ((get_or ids j d).0 < length trees) × ((get_or ids k d).0 < length trees)
places-known trees ids j k d l h = ((place-tree trees ids j d h l.0).0, (place-tree trees ids k d h l.1).0)

pub places-trees : (make : Tree → Tree → Tree) (trees : List Tree) (ids : List LpId) (j k : ℕ) (d : LpId) → (j < length ids) × (k < length ids)
    → AreKnown trees ids
    → make (tree_at trees (get_or ids j d).0) (tree_at trees (get_or ids k d).0) ≡ make (tree_at (trees_at trees ids) j) (tree_at (trees_at trees ids) k)
places-trees make trees ids j k d l h = ap₂ make (place-tree trees ids j d h l.0).1 (place-tree trees ids k d h l.1).1

both : (a b : Bool) → IsTrue (a && b) → IsTrue a × IsTrue b
both true b h = (refl, h)
both false b h = absurd (cc)

below : (n : ℕ) (x : LpNode) → IsTrue (parts_below n x) → PartsBelow n x
below n node.SortType h = tt
below n node.SortKind h = tt
below n (node.Var m) h = tt
below n (node.Sym m) h = tt
below n (node.App f x) h = let t = both (nat_lt f.0 n) (nat_lt x.0 n) h in (ltb-true f.0 n t.0, ltb-true x.0 n t.1)
below n (node.Lam f x) h = let t = both (nat_lt f.0 n) (nat_lt x.0 n) h in (ltb-true f.0 n t.0, ltb-true x.0 n t.1)
below n (node.Pi f x) h = let t = both (nat_lt f.0 n) (nat_lt x.0 n) h in (ltb-true f.0 n t.0, ltb-true x.0 n t.1)

trees_at-append : (trees : List Tree) (ids js : List LpId) → trees_at trees (ids ++ js) ≡ trees_at trees ids ++ trees_at trees js
trees_at-append trees [] js = refl
trees_at-append trees (id ∷ ids) js = ap (λ l. tree_at trees id.0 ∷ l) (trees_at-append trees ids js)

trees_at-Keeps : {old new : List Tree} → Keeps old new → (ids : List LpId) → AreKnown old ids → trees_at new ids ≡ trees_at old ids
trees_at-Keeps k [] h = refl
trees_at-Keeps k (id ∷ ids) h = ap₂ (λ t l. t ∷ l) (sym (tree_at-Stays k.stays id.0 h.0)) (trees_at-Keeps k ids h.1)

AreKnown-more : {old new : List Tree} → Keeps old new → (ids : List LpId) (id : LpId) → AreKnown old ids → id.0 < length new → AreKnown new (ids ++ id ∷ [])
AreKnown-more k [] id h l = (l, tt {0})
AreKnown-more k (x ∷ ids) id h l = (omega (arith, k.longer, h.0), AreKnown-more k ids id h.1 l)

-- how far nodes were added: these are their numbers, and those nodes are left
pub record AreAdded (old now : List Tree) (ids : List LpId) (nodes left : List LpNode) : Type 0 where
  pub keeps : Keeps old now
  pub known : AreKnown now ids
  pub ordered : IsTrue (are_ordered (length ids) left)
  pub trees : trees_with (trees_at now ids) left ≡ trees_with [] nodes

length-more : (ids : List LpId) (id : LpId) → length (ids ++ id ∷ []) ≡ length ids + 1
length-more [] id = refl
length-more (x ∷ ids) id = let e = length-more ids id in omega (arith, e)

pub next-parts : (old now : List Tree) (ids : List LpId) (nodes left rest : List LpNode) (n : LpNode) → left ≡ n ∷ rest → AreAdded old now ids nodes left
    → PartsBelow (length ids) n
next-parts old now ids nodes left rest n e h =
    let ordered : IsTrue (are_ordered (length ids) (n ∷ rest)) = subst (λ l. IsTrue (are_ordered (length ids) l)) e h.ordered in
    below (length ids) n (both (parts_below (length ids) n) (are_ordered (length ids + 1) rest) ordered).0

pub added-more : (old now new : List Tree) (ids : List LpId) (nodes left rest : List LpNode) (n m : LpNode) (id : LpId) → left ≡ n ∷ rest
    → AreAdded old now ids nodes left
    → tree_of_node now m ≡ tree_of_node (trees_at now ids) n → Keeps now new → id.0 < length new → Holds new id.0 (tree_of_node now m)
    → AreAdded old new (ids ++ id ∷ []) nodes rest
unfolding trees_with
added-more old now new ids nodes left rest n m id e h is keeps known holds =
    let ordered : IsTrue (are_ordered (length ids) (n ∷ rest)) = subst (λ l. IsTrue (are_ordered (length ids) l)) e h.ordered in
    record {
      keeps = Keeps-trans h.keeps keeps;
      known = AreKnown-more keeps ids id h.known known;
      ordered = subst (λ k. IsTrue (are_ordered k rest)) (sym (length-more ids id))
          (both (parts_below (length ids) n) (are_ordered (length ids + 1) rest) ordered).1;
      trees =
          ap (λ l. trees_with l rest)
          (trees_at-append new ids (id ∷ []) ∙ ap₂ (λ l t. l ++ t ∷ []) (trees_at-Keeps keeps ids h.known)
          (Holds-tree_at new id.0 (tree_of_node now m) holds ∙ is))
          ∙ sym (ap (trees_with (trees_at now ids)) e)
          ∙ h.trees;
    }

pub added-all : (old now : List Tree) (ids : List LpId) (nodes left : List LpNode) → left ≡ [] → AreAdded old now ids nodes left → trees_at now ids
    ≡ trees_with [] nodes
unfolding trees_with
added-all old now ids nodes left e h = sym (ap (trees_with (trees_at now ids)) e) ∙ h.trees

pub drop-next : (ns : List LpNode) (i : ℕ) (n : LpNode) → i < length ns → drop i ns ≡ get_or ns i n ∷ drop (i + 1) ns
drop-next ns i n h = drop_more ns i n h

pub added-none : (trees : List Tree) (nodes : List LpNode) (ids : List LpId) → ids ≡ [] → IsTrue (are_ordered 0 nodes) → AreAdded trees trees ids nodes nodes
added-none trees nodes ids e h = subst (λ l. AreAdded trees trees l nodes nodes) (sym e)
    (record { keeps = Keeps-refl trees; known = tt; ordered = h; trees = refl })

-- a node with numbers has the tree of the one with places
pub numbered-tree : (trees : List Tree) (seen ids : List LpId) (n m : LpNode) → seen ≡ ids → AreKnown trees ids
    → (AreKnown trees seen → tree_of_node trees m ≡ tree_of_node (trees_at trees seen) n) → tree_of_node trees m ≡ tree_of_node (trees_at trees ids) n
numbered-tree trees seen ids n m e h is = is (subst (AreKnown trees) (sym e) h) ∙ ap (λ l. tree_of_node (trees_at trees l) n) e

-- a declared theorem by its places
pub declared-theorem : (trees : List Tree) (ids : List LpId) (name text : List ℕ) (a b : ℕ) (d : LpId) → AreKnown trees ids → a < length ids → b < length ids
    → name ≡ text
    → declaration_in trees (record { name = name; form = Thm; ty = get_or ids a d; body = Some (get_or ids b d) }) ≡ theorem_at (trees_at trees ids) text a b
declared-theorem trees ids name text a b d h l m e =
    let p = (place-tree trees ids a d h l).1 in
    let q = (place-tree trees ids b d h m).1 in
    λ i. record { name = e i; form = Thm; ty = p i; body = Some (q i) }

pub theorem-known : (trees : List Tree) (ids : List LpId) (name : List ℕ) (a b : ℕ) (d : LpId) → AreKnown trees ids → a < length ids → b < length ids
    → IsKnown trees (record { name = name; form = Thm; ty = get_or ids a d; body = Some (get_or ids b d) })
theorem-known trees ids name a b d h l m = record { ty = (place-tree trees ids a d h l).0; body = (place-tree trees ids b d h m).0 }

-- The nodes make the lemmas
pub nodes-ordered : are_ordered 0 NODES ≡ true
nodes-ordered = refl

abbrev pub made_trees : List Tree
made_trees = trees_with [] NODES

pub made-count : length made_trees ≡ 101
unfolding trees_with
made-count = refl

pub made-sym : theorem_at made_trees (codes "sym") 28 60 ≡ sym_lemma
unfolding trees_with
made-sym = refl

pub made-trans : theorem_at made_trees (codes "trans") 77 100 ≡ trans_lemma
unfolding trees_with
made-trans = refl

length-trees_at : (trees : List Tree) (ids : List LpId) → length (trees_at trees ids) ≡ length ids
length-trees_at trees [] = refl
length-trees_at trees (id ∷ ids) = ap suc (length-trees_at trees ids)

pub ids-count : (trees : List Tree) (ids : List LpId) → trees_at trees ids ≡ made_trees → length ids ≡ 101
ids-count trees ids e = sym (length-trees_at trees ids) ∙ ap length e ∙ made-count

-- Each of the lemmas may follow
pub sym-follows : MayFollow signature sym_lemma
sym-follows = record {
  new_name = refl;
  ty = record { closed = refl; kindless = refl; known = lit≤ tt };
  body = record { closed = refl; kindless = refl; known = lit≤ tt };
}

pub trans-follows : MayFollow (signature ++ sym_lemma ∷ []) trans_lemma
trans-follows = record {
  new_name = refl;
  ty = record { closed = refl; kindless = refl; known = lit≤ tt };
  body = record { closed = refl; kindless = refl; known = lit≤ tt };
}

-- at a table that holds the trees of the nodes
pub sym-follows-at : (trees : List Tree) (ids seen : List LpId) → seen ≡ ids → trees_at trees ids ≡ made_trees → (ds : List Declaration) → ds ≡ []
    → MayFollow (signature ++ ds) (theorem_at (trees_at trees seen) (codes "sym") 28 60)
sym-follows-at trees ids seen e is ds none =
    subst (λ l. MayFollow (signature ++ l) (theorem_at (trees_at trees seen) (codes "sym") 28 60)) (sym none)
    (subst (MayFollow (signature ++ [])) (sym (ap (λ l. theorem_at l (codes "sym") 28 60) (ap (trees_at trees) e ∙ is) ∙ made-sym)) sym-follows)

pub declared-sym : (trees : List Tree) (ids seen : List LpId) → seen ≡ ids → trees_at trees ids ≡ made_trees → (ds es : List Declaration) → ds ≡ [] → es ≡ ds
    ++ theorem_at (trees_at trees seen) (codes "sym") 28 60 ∷ [] → es ≡ sym_lemma ∷ []
declared-sym trees ids seen e is ds es none more =
    more ∙ ap₂ (λ l d. l ++ d ∷ []) none (ap (λ l. theorem_at l (codes "sym") 28 60) (ap (trees_at trees) e ∙ is) ∙ made-sym)

pub trans-follows-at : (trees : List Tree) (ids seen : List LpId) → seen ≡ ids → trees_at trees ids ≡ made_trees → (ds : List Declaration) → ds ≡ sym_lemma ∷ []
    → MayFollow (signature ++ ds) (theorem_at (trees_at trees seen) (codes "trans") 77 100)
trans-follows-at trees ids seen e is ds one =
    subst (λ l. MayFollow (signature ++ l) (theorem_at (trees_at trees seen) (codes "trans") 77 100)) (sym one)
    (subst (MayFollow (signature ++ sym_lemma ∷ [])) (sym (ap (λ l. theorem_at l (codes "trans") 77 100) (ap (trees_at trees) e ∙ is) ∙ made-trans))
    trans-follows)

pub declared-trans : (trees : List Tree) (ids seen : List LpId) → seen ≡ ids → trees_at trees ids ≡ made_trees → (ds es : List Declaration) → ds
    ≡ sym_lemma ∷ [] → es ≡ ds ++ theorem_at (trees_at trees seen) (codes "trans") 77 100 ∷ [] → es ≡ lemmas
declared-trans trees ids seen e is ds es one more =
    more ∙ ap₂ (λ l d. l ++ d ∷ []) one (ap (λ l. theorem_at l (codes "trans") 77 100) (ap (trees_at trees) e ∙ is) ∙ made-trans)

pub count-at : (trees : List Tree) (ids seen : List LpId) → seen ≡ ids → trees_at trees ids ≡ made_trees → length seen ≡ 101
count-at trees ids seen e is = ap length e ∙ ids-count trees ids is
