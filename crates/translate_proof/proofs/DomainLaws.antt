-- The domains of products, read off a table, and abstractions over them.
use Rattle.std.proofs.Common.{◌≡◌, ℕ, zero, suc, ◌+◌, ◌<◌, ◌≤◌, refl, sym, ap, ◌∙◌, subst, arith, List, [], ◌∷◌, ◌++◌, length, Some, get_or}
use Rattle.std.specs.Prelude.{drop}
use Rattle.std.proofs.lemmas.List.{append_assoc, append-nil, drop_all, drop_more}
use Rattle.std.proofs.lemmas.Option.{same_Some}
use Rattle.lp_spec.specs.Trees.{Tree, SortType, Pi, Lam}
use Rattle.lp_spec.specs.Modules.{products, abstractions}
use Rattle.lp_term.specs.declared.LpId.{LpId}
use Rattle.lp_term.specs.declared.LpNode.{LpNode}
use Rattle.lp_term.specs.declared.LpNode.TheVariants as node
use Rattle.lp_term.specs.Tables.{tree_at, trees_at, AreKnown, Holds, Keeps, tree_of_node}
use Rattle.lp_term.specs.TableLaws.{Holds-tree_at, tree_at-Holds, tree_at-Stays, Keeps-trans}
use Rattle.translate_proof.proofs.KeepLaws.{trees_at-append}

-- how far the domains of some products are read off: these are the first, and what is left of the type
pub record AreRead (trees : List Tree) (domains : List Tree) (inside : Tree) (i : ℕ) (ids : List LpId) (rest : LpId) : Type 0 where
  pub front : trees_at trees ids ++ drop i domains ≡ domains
  pub holds : Holds trees rest.0 (products (drop i domains) inside)

-- a domain more
pub read_more : (trees domains : List Tree) (inside : Tree) (i : ℕ) (ids : List LpId) (rest domain next : LpId) → domain.0 < length trees
    → next.0 < length trees → AreRead trees domains inside i ids rest → i < length domains
    → Holds trees rest.0 (Pi (tree_at trees domain.0) (tree_at trees next.0)) → AreRead trees domains inside (i + 1) (ids ++ domain ∷ []) next
read_more trees domains inside i ids rest domain next dk nk h l is =
    go (drop i domains) (get_or domains i SortType, drop_more domains i SortType l) h.front h.holds
  where
    go : (left : List Tree) → (x : Tree) × (left ≡ x ∷ drop (i + 1) domains) → trees_at trees ids ++ left ≡ domains → Holds trees rest.0 (products left inside)
        → AreRead trees domains inside (i + 1) (ids ++ domain ∷ []) next
    go left w front holds =
        let whole : Holds trees rest.0 (Pi w.0 (products (drop (i + 1) domains) inside)) = subst (λ l. Holds trees rest.0 (products l inside)) w.1 holds in
        let same : Pi (tree_at trees domain.0) (tree_at trees next.0) ≡ Pi w.0 (products (drop (i + 1) domains) inside) = same_Some _ _ (sym is ∙ whole) in
        let first : tree_at trees domain.0 ≡ w.0 = cc in
        let second : tree_at trees next.0 ≡ products (drop (i + 1) domains) inside = cc in
        record {
          front = ap (λ l. l ++ drop (i + 1) domains) (trees_at-append trees ids (domain ∷ []))
              ∙ append_assoc (trees_at trees ids) (tree_at trees domain.0 ∷ []) (drop (i + 1) domains)
              ∙ ap (λ y. trees_at trees ids ++ (y ∷ drop (i + 1) domains)) first ∙ ap (λ l. trees_at trees ids ++ l) (sym w.1) ∙ front;
          holds = tree_at-Holds trees next.0 nk ∙ ap Some second;
        }

-- where a domain is left, the type is a product
pub read_stops : (trees domains : List Tree) (inside : Tree) (i : ℕ) (ids : List LpId) (rest : LpId) (n : LpNode) → AreRead trees domains inside i ids rest
    → i < length domains → Holds trees rest.0 (tree_of_node trees n) → ((a b : LpId) → n ≡ node.Pi a b → ⊥) → ⊥
read_stops trees domains inside i ids rest n h l is other = go n (drop i domains) (more domains i l) h.holds is other
  where
    more : (xs : List Tree) (i : ℕ) → i < length xs → (x : Tree) × ((ys : List Tree) × (drop i xs ≡ x ∷ ys))
    more [] i l = absurd (omega arith)
    more (x ∷ xs) zero l = (x, (xs, refl))
    more (x ∷ xs) (suc i) l = more xs i (omega (arith, l))

    go : (n : LpNode) (left : List Tree) → (x : Tree) × ((ys : List Tree) × (left ≡ x ∷ ys)) → Holds trees rest.0 (products left inside)
        → Holds trees rest.0 (tree_of_node trees n) → ((a b : LpId) → n ≡ node.Pi a b → ⊥) → ⊥
    go n left w holds is other = by n (same_Some _ _ (sym is ∙ subst (λ l. Holds trees rest.0 (products l inside)) w.1.1 holds)) other
      where
        by : (n : LpNode) → tree_of_node trees n ≡ Pi w.0 (products w.1.0 inside) → ((a b : LpId) → n ≡ node.Pi a b → ⊥) → ⊥
        by node.SortType e other = absurd (cc)
        by node.SortKind e other = absurd (cc)
        by (node.Var k) e other = absurd (cc)
        by (node.Sym s) e other = absurd (cc)
        by (node.App f x) e other = absurd (cc)
        by (node.Lam f x) e other = absurd (cc)
        by (node.Pi f x) e other = other f x refl

-- all of them
pub read_all : (trees domains : List Tree) (inside : Tree) (i : ℕ) (ids : List LpId) (rest : LpId) → AreRead trees domains inside i ids rest
    → length domains ≤ i → trees_at trees ids ≡ domains
read_all trees domains inside i ids rest h l =
    sym (append-nil (trees_at trees ids)) ∙ ap (λ r. trees_at trees ids ++ r) (sym (drop_all i domains l)) ∙ h.front

-- an abstraction over one domain more
abstractions-append : (xs : List Tree) (y t : Tree) → abstractions (xs ++ y ∷ []) t ≡ abstractions xs (Lam y t)
abstractions-append [] y t = refl
abstractions-append (x ∷ xs) y t = ap (Lam x) (abstractions-append xs y t)

AreKnown-left : (trees : List Tree) (ids js : List LpId) → AreKnown trees (ids ++ js) → AreKnown trees ids
AreKnown-left trees [] js h = tt
AreKnown-left trees (id ∷ ids) js h = (h.0, AreKnown-left trees ids js h.1)

AreKnown-right : (trees : List Tree) (ids js : List LpId) → AreKnown trees (ids ++ js) → AreKnown trees js
AreKnown-right trees [] js h = h
AreKnown-right trees (id ∷ ids) js h = AreKnown-right trees ids js h.1

-- how far a body is abstracted: what is made, over what is left, is what is wanted
pub record IsOver (old now : List Tree) (left : List LpId) (made : LpId) (wanted : Tree) : Type 0 where
  pub keeps : Keeps old now
  pub known : AreKnown old left
  pub made_known : made.0 < length now
  pub is : abstractions (trees_at old left) (tree_at now made.0) ≡ wanted

pub over_known : (old now : List Tree) (left front : List LpId) (last made : LpId) (wanted : Tree) → front ++ last ∷ [] ≡ left → IsOver old now left made wanted
    → last.0 < length now
over_known old now left front last made wanted e h = let own =
    (AreKnown-right old front (last ∷ []) (subst (AreKnown old) (sym e) h.known)).0 in omega (arith, own, h.keeps.longer)

pub over_more : (old now new : List Tree) (left front : List LpId) (last made next : LpId) (wanted : Tree) → front ++ last ∷ [] ≡ left
    → IsOver old now left made wanted → Keeps now new → next.0 < length new
    → Holds new next.0 (Lam (tree_at now last.0) (tree_at now made.0)) → IsOver old new front next wanted
over_more old now new left front last made next wanted e h k l is =
    let both = subst (AreKnown old) (sym e) h.known in
    let own = (AreKnown-right old front (last ∷ []) both).0 in
    record {
      keeps = Keeps-trans h.keeps k;
      known = AreKnown-left old front (last ∷ []) both;
      made_known = l;
      is =
          ap (abstractions (trees_at old front)) (Holds-tree_at new next.0 _ is
          ∙ ap (λ a. Lam a (tree_at now made.0)) (sym (tree_at-Stays h.keeps.stays last.0 own)))
          ∙ sym (abstractions-append (trees_at old front) (tree_at old last.0) (tree_at now made.0))
          ∙ ap (λ xs. abstractions xs (tree_at now made.0)) (sym (trees_at-append old front (last ∷ [])) ∙ ap (trees_at old) e)
          ∙ h.is;
    }

pub over_end : (old now : List Tree) (left : List LpId) (made : LpId) (wanted : Tree) → left ≡ [] → IsOver old now left made wanted → Holds now made.0 wanted
over_end old now left made wanted e h = tree_at-Holds now made.0 h.made_known ∙ ap Some
    (ap (λ xs. abstractions (trees_at old xs) (tree_at now made.0)) (sym e) ∙ h.is)
