-- A table that gets more types, and one that gives up its last types and terms.
use Rattle.std.proofs.Common.{◌≡◌, ℕ, zero, suc, ◌<◌, ◌≤◌, refl, sym, ap, ◌∙◌, subst, arith, List, [], ◌∷◌, length, Option, Some, None}
use Rattle.std.specs.Prelude.{slice_get, take}
use Rattle.std.proofs.lemmas.Option.{slice_get_within, same_Some}
use Rattle.hol_spec.specs.Types.{HolType}
use Rattle.hol_spec.specs.Terms.{Term, type_of}
use Rattle.hol_type.specs.declared.table.TypeId.{TypeId}
use Rattle.hol_type.specs.Tables.{tree_at}
use Rattle.hol_type.specs.Tables as type
use Rattle.hol_type.specs.TableLaws as type_law
use Rattle.hol_term.specs.declared.Mark.{Mark}
use Rattle.hol_term.specs.declared.node.Node.{Node}
use Rattle.hol_term.specs.declared.node.Node.TheVariants as node
use Rattle.hol_term.specs.declared.node.Entry.{Entry}
use Rattle.hol_term.specs.Tables.{Trees, Holds, IsDistinct, Stays, Keeps, IsTypeNumber}
use Rattle.hol_term.specs.TableLaws.{Stays-refl, PartsBelow-more, take-Stays, IsTypeNumber-Keeps}
use Rattle.hol_term.specs.Nodes.{tree_of_node, PartsBelow, terms_of, IsTable}
use Rattle.hol_term.specs.Owned.{HasHeadTypes, HasItsTypes, IsEarlier}
use Rattle.hol_term.proofs.EntryLaws.{over, length-terms_of, terms_of-Some, terms_of-types}
use Rattle.hol_term.proofs.Cut.{terms_of-take, IsTable-take}

-- with more types a table has the same terms
module _ (a b : List HolType) (k : type.Keeps a b) (es : List Entry) (t : IsTable a es) where
  pub same_terms : terms_of a es ≡ terms_of b es
  same_terms = terms_of-types k.stays es t.lower

  pub retyped_table : IsTable b es
  retyped_table = record {
    one_each = k.distinct t.one_each;
    lower = λ i e at. PartsBelow-more (omega arith) k.longer e.node (t.lower i e at);
    distinct = subst IsDistinct same_terms t.distinct;
    measured = λ i e u at held. let m = t.measured i e u at (ap (λ l. slice_get l i) same_terms ∙ held) in record
        { measures = m.measures; typed = IsTypeNumber-Keeps k e.facts.ty (type_of u) m.typed };
  }

  pub retyped_keeps : Keeps (over a (terms_of a es)) (over b (terms_of b es))
  retyped_keeps = record {
    types = k;
    stays = subst (Stays (terms_of a es)) same_terms (Stays-refl (terms_of a es));
    longer = omega (arith, ap length same_terms);
    distinct = λ d. subst IsDistinct same_terms d;
  }

pub item_at : {X : Type 0} (xs : List X) (i : ℕ) → i < length xs → (x : X) × (slice_get xs i ≡ Some x)
item_at [] i h = absurd (omega arith)
item_at (x ∷ xs) zero h = (x, refl)
item_at (x ∷ xs) (suc i) h = item_at xs i (omega arith)

head_types : (trees : Trees) (n : ℕ) (m : Node) → PartsBelow n (length trees.types) m → HasHeadTypes trees.types (tree_of_node trees m)
head_types trees n (node.Free m t) p = (t.0, type_law.tree_at-Holds trees.types t.0 p)
head_types trees n (node.Bound k) p = tt
head_types trees n (node.Const m t) p = (t.0, type_law.tree_at-Holds trees.types t.0 p)
head_types trees n (node.App f x) p = tt
head_types trees n (node.Lam t x) p = (t.0, type_law.tree_at-Holds trees.types t.0 p.0)

numbered : (types : List HolType) (ty : Option TypeId) (o : Option HolType) (a : HolType) → IsTypeNumber types ty o → o ≡ Some a → (k : ℕ)
    × type.Holds types k a
numbered types None o a h e = absurd (cc)
numbered types (Some id) o a h e = (id.0, type_law.tree_at-Holds types id.0 h.0 ∙ sym h.1 ∙ e)

-- a table has the types of its terms
pub owned : (types : List HolType) (es : List Entry) → IsTable types es → HasItsTypes (over types (terms_of types es))
owned types es t = record {
  heads = λ i u held. let e = entry i u held in subst (HasHeadTypes types) (same_Some _ _ (sym (terms_of-Some types es i e.0 (t.lower i e.0 e.1) e.1) ∙ held))
      (head_types (over types (terms_of types es)) i e.0.node (t.lower i e.0 e.1));
  typed = λ i u a held typed. let e = entry i u held in numbered types e.0.facts.ty (type_of u) a (t.measured i e.0 u e.1 held).typed typed;
}
  where
    entry : (i : ℕ) (u : Term) → slice_get (terms_of types es) i ≡ Some u → (e : Entry) × (slice_get es i ≡ Some e)
    entry i u held = item_at es i (omega (arith, length-terms_of types es, slice_get_within (terms_of types es) i u held))

-- a table that was longer, cut to what it was before
module _ (types : List HolType) (es : List Entry) (t : IsTable types es) (before : Trees) (mark : Mark)
    (h : IsEarlier before (over types (terms_of types es)) mark) where
  below : (k : ℕ) (id : TypeId) (a : HolType) → type.Holds before.types k a → id.0 < length types → tree_at types id.0 ≡ a → id.0 < length before.types
  below k id a held lt e =
      let same = t.one_each.each k id.0 a (h.keeps.types.stays.each k a held) (type_law.tree_at-Holds types id.0 lt ∙ ap Some e) in
      omega (arith, same, type_law.Holds-within before.types k a held)

  lower_node : (i : ℕ) (n : Node) → PartsBelow i (length types) n → HasHeadTypes before.types (tree_of_node (over types (terms_of types es)) n)
      → PartsBelow i (length before.types) n
  lower_node i (node.Free m ty) p q = below q.0 ty (tree_at types ty.0) q.1 p refl
  lower_node i (node.Bound k) p q = p
  lower_node i (node.Const m ty) p q = below q.0 ty (tree_at types ty.0) q.1 p refl
  lower_node i (node.App f x) p q = p
  lower_node i (node.Lam ty x) p q = (below q.0 ty (tree_at types ty.0) q.1 p.0 refl, p.1)

  count : mark.terms ≤ length es
  count = omega (arith, h.terms, h.keeps.longer, length-terms_of types es)

  length_take : {X : Type 0} (n : ℕ) (l : List X) → length (take n l) ≤ n
  length_take zero l = omega arith
  length_take (suc n) [] = omega arith
  length_take (suc n) (x ∷ l) = omega (arith, length_take n l)

  whole : {X : Type 0} (n : ℕ) (l : List X) (i : ℕ) (x : X) → slice_get (take n l) i ≡ Some x → slice_get l i ≡ Some x
  whole zero l i x e = absurd (let w = slice_get_within (take 0 l) i x e in omega (arith, length_take 0 l))
  whole (suc n) [] i x e = e
  whole (suc n) (y ∷ l) zero x e = e
  whole (suc n) (y ∷ l) (suc i) x e = whole n l i x e

  -- what stands in front has its types among the earlier ones
  lower : (i : ℕ) (e : Entry) → slice_get (take mark.terms es) i ≡ Some e → PartsBelow i (length before.types) e.node
  lower i e at =
      let all : slice_get es i ≡ Some e = whole mark.terms es i e at in
      let lt : i < length before.terms = omega (arith, h.terms, slice_get_within (take mark.terms es) i e at, length_take mark.terms es) in
      let u = item_at before.terms i lt in
      let is = same_Some _ _ (sym (h.keeps.stays.each i u.0 u.1) ∙ terms_of-Some types es i e (t.lower i e all) all) in
      lower_node i e.node (t.lower i e all) (subst (HasHeadTypes before.types) is (h.own.heads i u.0 u.1))

  front : take mark.types types ≡ before.types
  front = ap (λ n. take n types) h.types ∙ type_law.take-Stays before.types types h.keeps.types.stays

  same_front : terms_of before.types (take mark.terms es) ≡ terms_of types (take mark.terms es)
  same_front = terms_of-types h.keeps.types.stays (take mark.terms es) lower

  terms_before : terms_of before.types (take mark.terms es) ≡ before.terms
  terms_before = same_front ∙ terms_of-take types mark.terms es count ∙ ap (λ n. take n (terms_of types es)) h.terms
      ∙ take-Stays before.terms (terms_of types es) h.keeps.stays

  fewer_types : (ty : Option TypeId) (i : ℕ) (u : Term) → Holds before i u → IsTypeNumber types ty (type_of u) → IsTypeNumber before.types ty (type_of u)
  fewer_types None i u held m = m
  fewer_types (Some id) i u held m =
      let k = h.own.typed i u (tree_at types id.0) held m.1 in
      let lt = below k.0 id (tree_at types id.0) k.1 m.0 refl in
      (lt, m.1 ∙ ap Some (sym (type_law.tree_at-Stays h.keeps.types.stays id.0 lt)))

  earlier_table : IsTable before.types (take mark.terms es)
  earlier_table =
      let c = IsTable-take types mark.terms es t in
      record {
        one_each = record { each = λ i j a x y. t.one_each.each i j a (h.keeps.types.stays.each i a x) (h.keeps.types.stays.each j a y) };
        lower = lower;
        distinct = subst IsDistinct (sym same_front) c.distinct;
        measured = λ i e u at held.
            let m = c.measured i e u at (ap (λ l. slice_get l i) (sym same_front) ∙ held) in
            record { measures = m.measures; typed = fewer_types e.facts.ty i u (ap (λ l. slice_get l i) (sym terms_before) ∙ held) m.typed };
      }

  pub cut_table : IsTable (take mark.types types) (take mark.terms es)
  cut_table = subst (λ ts. IsTable ts (take mark.terms es)) (sym front) earlier_table

  pub cut_is : over (take mark.types types) (terms_of (take mark.types types) (take mark.terms es)) ≡ before
  cut_is = ap (λ ts. over ts (terms_of ts (take mark.terms es))) front ∙ (λ i. record { types = before.types; terms = terms_before i })
