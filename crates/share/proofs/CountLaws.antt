-- Counts of places by numbers: what one more place, and a pass over a table's numbers, make of them.
use Rattle.std.proofs.Common.{◌≡◌, ◌⊎◌, inl, inr, ℕ, zero, suc, ◌+◌, ◌<◌, ◌≤◌, refl, sym, ap, subst, ◌∙◌, Bool, true, false, List, [], ◌∷◌, ◌++◌, length, map, drop, Option, Some, None, arith}
use Rattle.std.specs.Prelude.{min, if◌then◌else◌, option_map, slice_get, get_or, set, replicate}
use Rattle.std.specs.List.{flat_map}
use Rattle.std.specs.Option.{option_map_or}
use Rattle.std.proofs.lemmas.List.{get_or-set_same, get_or-set_other, get_or-replicate, length-set}
use Rattle.std.proofs.lemmas.Option.{same_Some, slice_get_within}
use Rattle.lp_spec.specs.Trees.{Tree, App, Lam, Pi, tree_eq}
use Rattle.lp_binding_laws.specs.TreeEquality.{tree_eq-refl, tree_eq-true}
use Rattle.lp_term.specs.declared.LpId.{LpId}
use Rattle.lp_term.specs.declared.LpNode.{LpNode}
use Rattle.lp_term.specs.declared.LpNode.TheVariants as node
use Rattle.lp_term.specs.Tables.{tree_at, tree_of_node, Holds, IsDistinct, PartsBelow}
use Rattle.lp_term.specs.TableLaws.{tree_at-Holds, Holds-tree_at}
use Rattle.holide_sig.specs.declared.decls.Decl.{Decl}
use Rattle.holide_sig.specs.Modules.{declaration_in}
use Rattle.share_spec.specs.Folded.{places, is_in}
use Rattle.share_laws.specs.WrittenOnceLaws.{places-append, in-one, in-either}
use Rattle.share_laws.specs.PlacesByNodes.{direct, handed, passed, roots_in, roots-parts}
use Rattle.share_laws.specs.NumberedTrees.{counted-places, down}
use Rattle.share.specs.NodeParts.{parts_of}
use Rattle.share.specs.Counts.{Agrees, AreBelow, AreCounted, AreLower, IsBelow, IsBodyBelow, IsLower, IsMore}

-- A number above those of declarations
abbrev pub FirstBelow : ℕ → ℕ → List Decl → Type 0
FirstBelow count top ds = (j : ℕ) (d : Decl) → j < count → slice_get ds j ≡ Some d → IsBelow top d

body-more : (a b : ℕ) (body : Option LpId) → a ≤ b → IsBodyBelow a body → IsBodyBelow b body
body-more a b None l h = tt
body-more a b (Some id) l h = omega (arith, l, h)

pub below-more : (a b : ℕ) (d : Decl) → a ≤ b → IsBelow a d → IsBelow b d
below-more a b d l h = record { ty = (let t = h.ty in omega (arith, t, l)); body = body-more a b d.body l h.body }

pub one_below : (count a b : ℕ) (ds : List Decl) (d : Decl) → slice_get ds count ≡ Some d → IsBelow b d → a ≤ b → FirstBelow count a ds
    → FirstBelow (count + 1) b ds
one_below count a b ds d e h l first j x lt f = go (cases j count lt)
  where
    cases : (j count : ℕ) → j < count + 1 → (j < count) ⊎ (j ≡ count)
    cases j count lt = grind arith

    go : (j < count) ⊎ (j ≡ count) → IsBelow b x
    go (inl less) = below-more a b x l (first j x less f)
    go (inr same) = subst (IsBelow b) (same_Some _ _ (sym e ∙ subst (λ n. slice_get ds n ≡ Some x) same f)) h

pub all_below : (count top : ℕ) (ds : List Decl) → length ds ≤ count → FirstBelow count top ds → AreBelow top ds
all_below count top ds l h i d e = let w = slice_get_within ds i d e in h i d (omega (arith, w, l)) e

-- One more
module _ (ts : List Tree) (distinct : IsDistinct ts) where
  -- a count that a number is handed is that of its tree
  pub hand_at : (counts : List ℕ) (id n i : ℕ) (t : Tree) → id < length counts → length counts ≤ length ts → Holds ts i t → i < length counts
      → get_or (set counts id (min 2 (get_or counts id 0 + n))) i 0 ≡ (if tree_eq t (tree_at ts id) then min 2 (get_or counts i 0 + n) else get_or counts i 0)
  hand_at counts id n i t l w h m = go (tree_eq t (tree_at ts id)) refl
    where
      go : (b : Bool) → tree_eq t (tree_at ts id) ≡ b → get_or (set counts id (min 2 (get_or counts id 0 + n))) i 0
          ≡ (if b then min 2 (get_or counts i 0 + n) else get_or counts i 0)
      go true e =
          let s : i ≡ id = distinct.each i id t h (tree_at-Holds ts id (omega (arith, l, w)) ∙ ap Some (sym (tree_eq-true t (tree_at ts id) e))) in
          ap (λ j. get_or (set counts id (min 2 (get_or counts id 0 + n))) j 0) s ∙ get_or-set_same counts id (min 2 (get_or counts id 0 + n)) 0 l
          ∙ ap (λ j. min 2 (get_or counts j 0 + n)) (sym s)
      go false e = get_or-set_other counts id i (min 2 (get_or counts id 0 + n)) 0 (λ s. apart s)
        where
          apart : i ≡ id → ⊥
          apart s =
              let u : tree_at ts id ≡ t = Holds-tree_at ts id t (subst (λ j. Holds ts j t) s h) in
              let v : tree_eq t (tree_at ts id) ≡ true = ap (tree_eq t) u ∙ tree_eq-refl t in
              cc

  pub hand_agrees : (counts : List ℕ) (c : Tree → ℕ) (id n : ℕ) → id < length counts → length counts ≤ length ts → Agrees ts counts c
      → Agrees ts (set counts id (min 2 (get_or counts id 0 + n))) (λ t. if tree_eq t (tree_at ts id) then min 2 (c t + n) else c t)
  hand_agrees counts c id n l w a i t h m =
      let m' : i < length counts = omega (arith, m, length-set counts id (min 2 (get_or counts id 0 + n))) in
      hand_at counts id n i t l w h m' ∙ ap (λ k. if tree_eq t (tree_at ts id) then min 2 (k + n) else k) (a i t h m')

  -- a root has one place more
  pub hand_root : (counts : List ℕ) (id i k : ℕ) (t : Tree) → id < length counts → length counts ≤ length ts → Holds ts i t → i < length counts
      → get_or counts i 0 ≡ min 2 k
      → get_or (set counts id (min 2 (get_or counts id 0 + 1))) i 0 ≡ min 2 (k + places t (tree_at ts id ∷ []))
  hand_root counts id i k t l w h m e = hand_at counts id 1 i t l w h m ∙ go (tree_eq t (tree_at ts id))
    where
      go : (b : Bool) → (if b then min 2 (get_or counts i 0 + 1) else get_or counts i 0) ≡ min 2 (k + (if b then suc 0 else 0))
      go true = omega (arith, e)
      go false = omega (arith, e)

-- Counts of declarations
abbrev pub roots_of : List Tree → List Decl → List Tree
roots_of ts ds = flat_map roots_in (map (declaration_in ts) ds)

-- each count is, up to two, that of the places in the declarations between two numbers
abbrev pub CountedTo : List Tree → List Decl → ℕ → ℕ → List ℕ → Type 0
CountedTo ts ds first i counts = (j : ℕ) (t : Tree) → Holds ts j t → j < length counts → (k : ℕ) × (get_or counts j 0 ≡ min 2 k)
    × (k + places t (roots_of ts (drop i ds)) ≡ places t (roots_of ts (drop first ds)))

pub drop-next : {X : Type 0} (xs : List X) (i : ℕ) (x : X) → slice_get xs i ≡ Some x → drop i xs ≡ x ∷ drop (suc i) xs
drop-next [] i x e = absurd (cc)
drop-next (y ∷ ys) zero x e = ap (λ z. z ∷ ys) (same_Some _ _ e)
drop-next (y ∷ ys) (suc i) x e = drop-next ys i x e

pub drop-past : {X : Type 0} (xs : List X) (i : ℕ) → length xs ≤ i → drop i xs ≡ []
drop-past [] zero l = refl
drop-past [] (suc i) l = refl
drop-past (x ∷ xs) zero l = absurd (omega (arith, l))
drop-past (x ∷ xs) (suc i) l = drop-past xs i (omega (arith, l))

pub none_counted : (ts : List Tree) (ds : List Decl) (first : ℕ) (counts : List ℕ) → counts ≡ replicate (length counts) 0 → CountedTo ts ds first first counts
none_counted ts ds first counts e j t h l = (0, subst (λ xs. get_or xs j 0 ≡ 0) (sym e) (get_or-replicate (length counts) j 0 0 l), omega arith)

pub one_counted : (ts : List Tree) (ds : List Decl) (first i : ℕ) (old new : List ℕ) (d : Decl) → slice_get ds i ≡ Some d → length new ≡ length old
    → IsMore ts d old new → CountedTo ts ds first i old → CountedTo ts ds first (i + 1) new
one_counted ts ds first i old new d e l more h j t holds m =
    let c = h j t holds (omega (arith, m, l)) in
    let n : suc i ≡ i + 1 = omega arith in
    let r : roots_of ts (drop i ds) ≡ roots_in (declaration_in ts d) ++ roots_of ts (drop (i + 1) ds) =
    ap (roots_of ts) (drop-next ds i d e) ∙ ap (λ q. roots_in (declaration_in ts d) ++ roots_of ts (drop q ds)) n in
    let p = ap (places t) r ∙ places-append t (roots_in (declaration_in ts d)) (roots_of ts (drop (i + 1) ds)) in
    (c.0 + places t (roots_in (declaration_in ts d)), more j t c.0 holds (omega (arith, m, l)) c.1, omega (arith, p, c.2))

pub all_counted : (ts : List Tree) (ds : List Decl) (first i : ℕ) (counts : List ℕ) → length ds ≤ i → CountedTo ts ds first i counts
    → Agrees ts counts (λ t. min 2 (places t (roots_of ts (drop first ds))))
all_counted ts ds first i counts l h j t holds m =
    let c = h j t holds m in
    let p = ap (λ xs. places t (roots_of ts xs)) (drop-past ds i l) in
    c.1 ∙ ap (λ k. min 2 k) (omega (arith, p, c.2))

-- the roots of declarations have numbers below the top
body-root : (ts : List Tree) (top : ℕ) (body : Option LpId) (r : Tree) → top ≤ length ts → IsBodyBelow top body
    → is_in r (option_map_or (λ t. t ∷ []) (option_map (λ (id : LpId). tree_at ts id.0) body) []) ≡ true → (i : ℕ) × (i < top) × Holds ts i r
body-root ts top None r l h e = absurd (cc)
body-root ts top (Some id) r l h e =
    (id.0, h, tree_at-Holds ts id.0 (omega (arith, h, l)) ∙ ap Some (sym (tree_eq-true r (tree_at ts id.0) (in-one r (tree_at ts id.0) e))))

decl-root : (ts : List Tree) (top : ℕ) (d : Decl) (r : Tree) → top ≤ length ts → IsBelow top d → is_in r (roots_in (declaration_in ts d)) ≡ true → (i : ℕ)
    × (i < top) × Holds ts i r
decl-root ts top d r l h e = go (in-either r (tree_at ts d.ty.0 ∷ []) (option_map_or (λ t. t ∷ []) (option_map (λ (id : LpId). tree_at ts id.0) d.body) []) e)
  where
    go : (is_in r (tree_at ts d.ty.0 ∷ []) ≡ true) ⊎ (is_in r (option_map_or (λ t. t ∷ []) (option_map (λ (id : LpId). tree_at ts id.0) d.body) []) ≡ true)
        → (i : ℕ) × (i < top) × Holds ts i r
    go (inl p) = (
      d.ty.0,
      h.ty,
      (let t = h.ty in tree_at-Holds ts d.ty.0 (omega (arith, t, l)))
          ∙ ap Some (sym (tree_eq-true r (tree_at ts d.ty.0) (in-one r (tree_at ts d.ty.0) p))),
    )
    go (inr p) = body-root ts top d.body r l h.body p

pub roots-below : (ts : List Tree) (top : ℕ) (ds : List Decl) (r : Tree) → top ≤ length ts → AreBelow top ds → is_in r (roots_of ts ds) ≡ true → (i : ℕ)
    × (i < top) × Holds ts i r
roots-below ts top [] r l h e = absurd (cc)
roots-below ts top (d ∷ ds) r l h e = go (in-either r (roots_in (declaration_in ts d)) (roots_of ts ds) e)
    (λ p. roots-below ts top ds r l (λ i x f. h (suc i) x f) p)
  where
    go : (is_in r (roots_in (declaration_in ts d)) ≡ true) ⊎ (is_in r (roots_of ts ds) ≡ true)
        → (is_in r (roots_of ts ds) ≡ true → (i : ℕ) × (i < top) × Holds ts i r) → (i : ℕ) × (i < top) × Holds ts i r
    go (inl p) k = decl-root ts top d r l (h zero d refl) p
    go (inr p) k = k p

pub slice_get-drop : {X : Type 0} (xs : List X) (n i j : ℕ) → n + i ≡ j → slice_get (drop n xs) i ≡ slice_get xs j
slice_get-drop [] zero i j e = refl
slice_get-drop [] (suc n) i j e = refl
slice_get-drop (x ∷ xs) zero i j e = ap (slice_get (x ∷ xs)) (let s : i ≡ j = omega arith in s)
slice_get-drop (x ∷ xs) (suc n) i zero e = absurd (omega arith)
slice_get-drop (x ∷ xs) (suc n) i (suc j) e = slice_get-drop xs n i j (omega arith)

-- A pass over the numbers, downwards, makes counts of places of counts of roots
pub places_counted : (ts : List Tree) (ds : List Decl) (first : ℕ) (counts : List ℕ) → IsDistinct ts → length counts ≤ length ts → AreBelow (length counts) ds
    → AreLower ts (length counts)
    → (new : List ℕ) → Agrees ts new (passed (down ts (length counts)) (λ t. min 2 (places t (roots_of ts (drop first ds)))))
    → AreCounted ts (drop first ds) new
places_counted ts ds first counts distinct l below lower new a i t h m =
    a i t h m
    ∙ counted-places ts (length counts) (record { within = l; distinct = distinct.each; lower = λ i t p k e d. lower i k t p e d })
    (roots_of ts (drop first ds))
    (λ r e. roots-below ts (length counts) (drop first ds) r l (λ j d f. below (first + j) d (sym (slice_get-drop ds first j (first + j) refl) ∙ f)) e) t
    ∙ ap (λ xs. min 2 (places t xs)) (roots-parts (map (declaration_in ts) (drop first ds)))

-- The pass, as far as it has come: what it makes of the first counts is what the rest of it makes of these
pub record IsPassing (ts : List Tree) (top left : ℕ) (old new : List ℕ) : Type 0 where
  pub within : left ≤ top
  pub length : length new ≡ top
  pub lower : (i : ℕ) → left ≤ i → i < top → IsLower ts i
  pub handed : IsDistinct ts → (c : Tree → ℕ) → Agrees ts old c → (d : Tree → ℕ) × Agrees ts new d
      × ((t : Tree) → passed (down ts left) d t ≡ passed (down ts top) c t)

pub pass_begins : (ts : List Tree) (counts : List ℕ) → IsPassing ts (length counts) (length counts) counts counts
pass_begins ts counts = record { within = omega arith; length = refl; lower = λ i l m. absurd (omega (arith, l, m)); handed = λ e c a. (c, a, λ t. refl) }

pub pass_step : (ts : List Tree) (top left next : ℕ) (old counts new : List ℕ) → next + 1 ≡ left → length new ≡ length counts → IsLower ts next
    → (IsDistinct ts → (c : Tree → ℕ) → Agrees ts counts c → Agrees ts new (handed (direct (tree_at ts next)) (c (tree_at ts next)) c))
    → IsPassing ts top left old counts → IsPassing ts top next old new
pass_step ts top left next old counts new e l lower hand p = record {
  within = (let w = p.within in omega (arith, w, e));
  length = l ∙ p.length;
  lower = λ i m n. go i m n (at_or_above i m);
  handed = λ distinct c a.
      let h = p.handed distinct c a in (
        handed (direct (tree_at ts next)) (h.0 (tree_at ts next)) h.0,
        hand distinct h.0 h.1,
        λ t. subst (λ k. passed (down ts k) h.0 t ≡ passed (down ts top) c t) (let s : left ≡ suc next = omega (arith, e) in s) (h.2 t),
      );
}
  where
    at_or_above : (i : ℕ) → next ≤ i → (i ≡ next) ⊎ (left ≤ i)
    at_or_above i m = grind (arith, m, e)

    go : (i : ℕ) → next ≤ i → i < top → (i ≡ next) ⊎ (left ≤ i) → IsLower ts i
    go i m n (inl s) = subst (IsLower ts) (sym s) lower
    go i m n (inr k) = p.lower i k n

-- The parts of a node
part-lower : (ts : List Tree) (t f x p : Tree) (i a b : ℕ) → direct t ≡ f ∷ x ∷ [] → a < i → b < i → Holds ts a f → Holds ts b x → is_in p (direct t) ≡ true
    → (j : ℕ) × (j < i) × Holds ts j p
part-lower ts t f x p i a b d l m h k e = go (in-either p (f ∷ []) (x ∷ []) (subst (λ xs. is_in p xs ≡ true) d e))
  where
    go : (is_in p (f ∷ []) ≡ true) ⊎ (is_in p (x ∷ []) ≡ true) → (j : ℕ) × (j < i) × Holds ts j p
    go (inl q) = (a, l, h ∙ ap Some (sym (tree_eq-true p f (in-one p f q))))
    go (inr q) = (b, m, k ∙ ap Some (sym (tree_eq-true p x (in-one p x q))))

pub is_lower : (ts : List Tree) (i : ℕ) (n : LpNode) → i < length ts → Holds ts i (tree_of_node ts n) → PartsBelow i n → IsLower ts i
is_lower ts i n l h p t q holds e = go n p (subst (λ u. is_in q (direct u) ≡ true) (same_Some _ _ (sym holds ∙ h)) e)
  where
    go : (n : LpNode) → PartsBelow i n → is_in q (direct (tree_of_node ts n)) ≡ true → (j : ℕ) × (j < i) × Holds ts j q
    go (node.App f x) p e = part-lower ts (App (tree_at ts f.0) (tree_at ts x.0)) _ _ q i f.0 x.0 refl p.0 p.1 (tree_at-Holds ts f.0 (omega (arith, l, p.0)))
        (tree_at-Holds ts x.0 (omega (arith, l, p.1))) e
    go (node.Lam f x) p e = part-lower ts (Lam (tree_at ts f.0) (tree_at ts x.0)) _ _ q i f.0 x.0 refl p.0 p.1 (tree_at-Holds ts f.0 (omega (arith, l, p.0)))
        (tree_at-Holds ts x.0 (omega (arith, l, p.1))) e
    go (node.Pi f x) p e = part-lower ts (Pi (tree_at ts f.0) (tree_at ts x.0)) _ _ q i f.0 x.0 refl p.0 p.1 (tree_at-Holds ts f.0 (omega (arith, l, p.0)))
        (tree_at-Holds ts x.0 (omega (arith, l, p.1))) e
    go node.SortType p e = absurd (cc)
    go node.SortKind p e = absurd (cc)
    go (node.Var k) p e = absurd (cc)
    go (node.Sym k) p e = absurd (cc)

-- the direct parts of a node's tree
pub parts-direct : (ts : List Tree) (n : LpNode) (r : LpId × LpId) → parts_of n ≡ Some r → direct (tree_of_node ts n) ≡ tree_at ts r.0.0 ∷ tree_at ts r.1.0 ∷ []
parts-direct ts (node.App f x) r e = subst (λ (q : LpId × LpId). tree_at ts f.0 ∷ tree_at ts x.0 ∷ [] ≡ tree_at ts q.0.0 ∷ tree_at ts q.1.0 ∷ [])
    (same_Some _ _ e) refl
parts-direct ts (node.Lam f x) r e = subst (λ (q : LpId × LpId). tree_at ts f.0 ∷ tree_at ts x.0 ∷ [] ≡ tree_at ts q.0.0 ∷ tree_at ts q.1.0 ∷ [])
    (same_Some _ _ e) refl
parts-direct ts (node.Pi f x) r e = subst (λ (q : LpId × LpId). tree_at ts f.0 ∷ tree_at ts x.0 ∷ [] ≡ tree_at ts q.0.0 ∷ tree_at ts q.1.0 ∷ [])
    (same_Some _ _ e) refl
parts-direct ts node.SortType r e = absurd (cc)
parts-direct ts node.SortKind r e = absurd (cc)
parts-direct ts (node.Var n) r e = absurd (cc)
parts-direct ts (node.Sym n) r e = absurd (cc)

pub parts-below : (i : ℕ) (n : LpNode) (r : LpId × LpId) → parts_of n ≡ Some r → PartsBelow i n → (r.0.0 < i) × (r.1.0 < i)
parts-below i (node.App f x) r e p = subst (λ (q : LpId × LpId). (q.0.0 < i) × (q.1.0 < i)) (same_Some _ _ e) p
parts-below i (node.Lam f x) r e p = subst (λ (q : LpId × LpId). (q.0.0 < i) × (q.1.0 < i)) (same_Some _ _ e) p
parts-below i (node.Pi f x) r e p = subst (λ (q : LpId × LpId). (q.0.0 < i) × (q.1.0 < i)) (same_Some _ _ e) p
parts-below i node.SortType r e p = absurd (cc)
parts-below i node.SortKind r e p = absurd (cc)
parts-below i (node.Var n) r e p = absurd (cc)
parts-below i (node.Sym n) r e p = absurd (cc)

pub no-parts-direct : (ts : List Tree) (n : LpNode) → parts_of n ≡ None → direct (tree_of_node ts n) ≡ []
no-parts-direct ts (node.App f x) e = absurd (cc)
no-parts-direct ts (node.Lam f x) e = absurd (cc)
no-parts-direct ts (node.Pi f x) e = absurd (cc)
no-parts-direct ts node.SortType e = refl
no-parts-direct ts node.SortKind e = refl
no-parts-direct ts (node.Var n) e = refl
no-parts-direct ts (node.Sym n) e = refl

-- two parts are handed a count
pub two_handed : (ts : List Tree) (counts one two : List ℕ) (c : Tree → ℕ) (i f x : ℕ) (t : Tree) → IsDistinct ts → length counts ≤ length ts → Holds ts i t
    → direct t ≡ tree_at ts f ∷ tree_at ts x ∷ [] → i < length counts → f < i → x < i
    → one ≡ set counts f (min 2 (get_or counts f 0 + get_or counts i 0)) → two ≡ set one x (min 2 (get_or one x 0 + get_or counts i 0)) → Agrees ts counts c
    → Agrees ts two (handed (direct t) (c t) c)
two_handed ts counts one two c i f x t distinct l h d m k n e g a =
    let s : get_or counts i 0 ≡ c t = a i t h m in
    let lone : length one ≡ length counts = ap length e ∙ length-set counts f (min 2 (get_or counts f 0 + get_or counts i 0)) in
    let first : Agrees ts one (λ u. if tree_eq u (tree_at ts f) then min 2 (c u + get_or counts i 0) else c u) =
    subst (λ xs. Agrees ts xs (λ u. if tree_eq u (tree_at ts f) then min 2 (c u + get_or counts i 0) else c u)) (sym e)
    (hand_agrees ts distinct counts c f (get_or counts i 0) (omega (arith, m, k)) l a) in
    let second : Agrees ts two (handed (tree_at ts f ∷ tree_at ts x ∷ []) (get_or counts i 0) c) =
    subst (λ xs. Agrees ts xs (handed (tree_at ts f ∷ tree_at ts x ∷ []) (get_or counts i 0) c)) (sym g)
    (hand_agrees ts distinct one (λ u. if tree_eq u (tree_at ts f) then min 2 (c u + get_or counts i 0) else c u) x (get_or counts i 0)
    (omega (arith, m, n, lone)) (omega (arith, l, lone)) first) in
    subst (λ xs. Agrees ts two (handed xs (c t) c)) (sym d) (subst (λ k. Agrees ts two (handed (tree_at ts f ∷ tree_at ts x ∷ []) k c)) s second)

-- a leaf hands nothing
pub none_handed : (ts : List Tree) (counts : List ℕ) (c : Tree → ℕ) (t : Tree) → direct t ≡ [] → Agrees ts counts c
    → Agrees ts counts (handed (direct t) (c t) c)
none_handed ts counts c t d a = subst (λ xs. Agrees ts counts (handed xs (c t) c)) (sym d) a

-- A declaration's roots have one place more
abbrev roots_with : List Tree → Decl → Option LpId → List Tree
roots_with ts d body = tree_at ts d.ty.0 ∷ option_map_or (λ t. t ∷ []) (option_map (λ (id : LpId). tree_at ts id.0) body) []

pub more_type : (d : Decl) (old new : List ℕ) → d.ty.0 < length old → d.body ≡ None → new ≡ set old d.ty.0 (min 2 (get_or old d.ty.0 0 + 1)) → (ts : List Tree)
    → IsDistinct ts → length old ≤ length ts → IsMore ts d old new
more_type d old new l none e ts distinct w i t k h m g =
    ap (λ xs. get_or xs i 0) e ∙ hand_root ts distinct old d.ty.0 i k t l w h m g ∙ ap (λ b. min 2 (k + places t (roots_with ts d b))) (sym none)

pub more_both : (d : Decl) (body : LpId) (old one new : List ℕ) → d.ty.0 < length old → body.0 < length old → d.body ≡ Some body → one
    ≡ set old d.ty.0 (min 2 (get_or old d.ty.0 0 + 1)) → new ≡ set one body.0 (min 2 (get_or one body.0 0 + 1))
    → (ts : List Tree) → IsDistinct ts → length old ≤ length ts → IsMore ts d old new
more_both d body old one new l n some e f ts distinct w i t k h m g =
    let lone : length one ≡ length old = ap length e ∙ length-set old d.ty.0 (min 2 (get_or old d.ty.0 0 + 1)) in
    let first : get_or one i 0 ≡ min 2 (k + places t (tree_at ts d.ty.0 ∷ [])) =
    ap (λ xs. get_or xs i 0) e ∙ hand_root ts distinct old d.ty.0 i k t l w h m g in
    let second = ap (λ xs. get_or xs i 0) f ∙ hand_root ts distinct one body.0 i (k + places t (tree_at ts d.ty.0 ∷ [])) t (omega (arith, n, lone))
    (omega (arith, w, lone)) h (omega (arith, m, lone)) first in
    let p = places-append t (tree_at ts d.ty.0 ∷ []) (tree_at ts body.0 ∷ []) in
    second ∙ ap (λ j. min 2 j) (omega (arith, p)) ∙ ap (λ b. min 2 (k + places t (roots_with ts d b))) (sym some)

pub pass_ends : (ts : List Tree) (top left : ℕ) (old new : List ℕ) → left ≡ 0 → IsPassing ts top left old new → IsDistinct ts → (c : Tree → ℕ) → Agrees ts old c
    → Agrees ts new (passed (down ts top) c)
pass_ends ts top left old new e p distinct c a i t h m =
    let g = p.handed distinct c a in
    g.1 i t h m ∙ subst (λ k. passed (down ts k) g.0 t ≡ passed (down ts top) c t) e (g.2 t)
