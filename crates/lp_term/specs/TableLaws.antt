-- What follows from the words for tables.
use Rattle.std.proofs.Common.{◌≡◌, ℕ, suc, ◌<◌, ◌≤◌, refl, sym, ap, ◌∙◌, subst, arith, List, [], ◌∷◌, ◌++◌, length, Some, ⊎_elim, length-append}
use Rattle.std.specs.Prelude.{unwrap_or, take}
use Rattle.std.proofs.lemmas.Option.{slice_get_within, slice_get-get_or, unwrap_or-slice_get, same_Some}
use Rattle.std.proofs.Math.Path.{ap₂}
use Rattle.lp_spec.specs.Trees.{Tree, SortType, App, Lam, Pi}
use Rattle.lp_binding_laws.specs.LookUps.{slice_get-append}
use Rattle.lp_term.specs.declared.LpId.{LpId}
use Rattle.lp_term.specs.declared.LpNode.{LpNode}
use Rattle.lp_term.specs.declared.LpNode.TheVariants as node
use Rattle.lp_term.specs.Tables.{tree_at, trees_at, AreKnown, Holds, tree_of_node, PartsBelow, IsDistinct, Stays, Keeps, Adds}

-- a number that the table has, has its tree
pub tree_at-Holds : (ts : List Tree) (i : ℕ) → i < length ts → Holds ts i (tree_at ts i)
tree_at-Holds ts i h = slice_get-get_or ts i SortType h ∙ ap Some (sym (unwrap_or-slice_get ts i SortType))

-- a tree that the number has is the number's
pub Holds-tree_at : (ts : List Tree) (i : ℕ) (t : Tree) → Holds ts i t → tree_at ts i ≡ t
Holds-tree_at ts i t e = ap (λ o. unwrap_or o SortType) e

-- a number with a tree is one that the table has
pub Holds-within : (ts : List Tree) (i : ℕ) (t : Tree) → Holds ts i t → i < length ts
Holds-within ts i t e = slice_get_within ts i t e

pub Stays-refl : (ts : List Tree) → Stays ts ts
Stays-refl ts = record { each = λ i t e. e }

pub Stays-trans : {a b c : List Tree} → Stays a b → Stays b c → Stays a c
Stays-trans h k = record { each = λ i t e. k.each i t (h.each i t e) }

pub Stays-append : (ts us : List Tree) → Stays ts (ts ++ us)
Stays-append ts us = record { each = slice_get-append ts us }

pub Keeps-refl : (ts : List Tree) → Keeps ts ts
Keeps-refl ts = record { stays = Stays-refl ts; longer = omega arith; distinct = λ d. d }

pub Keeps-trans : {a b c : List Tree} → Keeps a b → Keeps b c → Keeps a c
Keeps-trans h k = record { stays = Stays-trans h.stays k.stays; longer = omega (arith, h.longer, k.longer); distinct = λ d. k.distinct (h.distinct d) }

-- a number's tree stays
pub tree_at-Stays : {ts us : List Tree} → Stays ts us → (i : ℕ) → i < length ts → tree_at ts i ≡ tree_at us i
tree_at-Stays {ts = ts} {us = us} k i h = sym (Holds-tree_at us i (tree_at ts i) (k.each i (tree_at ts i) (tree_at-Holds ts i h)))

-- a node's tree stays
pub tree_of_node-Stays : {ts us : List Tree} → Stays ts us → (n : LpNode) → PartsBelow (length ts) n → tree_of_node ts n ≡ tree_of_node us n
tree_of_node-Stays k node.SortType h = refl
tree_of_node-Stays k node.SortKind h = refl
tree_of_node-Stays k (node.Var n) h = refl
tree_of_node-Stays k (node.Sym n) h = refl
tree_of_node-Stays k (node.App f x) h = ap₂ App (tree_at-Stays k f.0 h.0) (tree_at-Stays k x.0 h.1)
tree_of_node-Stays k (node.Lam a b) h = ap₂ Lam (tree_at-Stays k a.0 h.0) (tree_at-Stays k b.0 h.1)
tree_of_node-Stays k (node.Pi a b) h = ap₂ Pi (tree_at-Stays k a.0 h.0) (tree_at-Stays k b.0 h.1)

-- parts below a number are below a greater one
pub PartsBelow-more : {a b : ℕ} → a ≤ b → (n : LpNode) → PartsBelow a n → PartsBelow b n
PartsBelow-more h node.SortType p = tt
PartsBelow-more h node.SortKind p = tt
PartsBelow-more h (node.Var n) p = tt
PartsBelow-more h (node.Sym n) p = tt
PartsBelow-more h (node.App f x) p = (omega (arith, p.0), omega (arith, p.1))
PartsBelow-more h (node.Lam f x) p = (omega (arith, p.0), omega (arith, p.1))
PartsBelow-more h (node.Pi f x) p = (omega (arith, p.0), omega (arith, p.1))

-- a table that has a tree more keeps what it had, if no tree stands twice
pub Adds-Keeps : (old new : List Tree) (t : Tree) → Adds old new t → IsDistinct new → Keeps old new
Adds-Keeps old new t a d = ⊎_elim
    (λ same. subst (Keeps old) (sym same) (Keeps-refl old))
    (λ more. record {
      stays = subst (Stays old) (sym more) (Stays-append old (t ∷ []));
      longer = let e = ap length more in omega (arith, e, length-append old (t ∷ []));
      distinct = λ _. d;
    })
    a

-- the front of a table that kept an older one is the older one
pub take-Stays : (ts us : List Tree) → Stays ts us → take (length ts) us ≡ ts
take-Stays [] us k = refl
take-Stays (t ∷ ts) [] k = absurd (let h = slice_get_within [] 0 t (k.each 0 t refl) in omega arith)
take-Stays (t ∷ ts) (u ∷ us) k = ap₂ (λ x l. x ∷ l) (same_Some _ _ (k.each 0 t refl)) (take-Stays ts us (record { each = λ i v e. k.each (suc i) v e }))

-- the trees of numbers stay, and the numbers are known
pub trees_at-Keeps : {old new : List Tree} → Keeps old new → (ids : List LpId) → AreKnown old ids → trees_at new ids ≡ trees_at old ids
trees_at-Keeps k [] h = refl
trees_at-Keeps k (id ∷ ids) h = ap₂ (λ t l. t ∷ l) (sym (tree_at-Stays k.stays id.0 h.0)) (trees_at-Keeps k ids h.1)

pub AreKnown-Keeps : {old new : List Tree} → Keeps old new → (ids : List LpId) → AreKnown old ids → AreKnown new ids
AreKnown-Keeps k [] h = tt
AreKnown-Keeps k (id ∷ ids) h = (omega (arith, k.longer, h.0), AreKnown-Keeps k ids h.1)
