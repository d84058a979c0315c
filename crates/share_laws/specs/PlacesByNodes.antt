-- Places counted in one pass over distinct trees, from those that are parts of others to their parts: each tree hands what was counted of it,
-- at most two, to its direct parts. This is how a fold that looks at each tree once learns what stands at two places.
use Rattle.std.proofs.Common.{◌≡◌, ℕ, suc, ◌+◌, ◌*◌, refl, sym, ap, subst, ◌∙◌, append_assoc, Bool, true, false, List, [], ◌∷◌, ◌++◌, Option, Some, None, arith}
use Rattle.std.specs.Prelude.{min, ◌||◌, if◌then◌else◌}
use Rattle.std.specs.List.{flat_map}
use Rattle.std.specs.Option.{option_map_or}
use Rattle.std.proofs.Math.Nat.{mul-zero, zero-mul, suc-mul, mul_comm}
use Rattle.std.proofs.lemmas.List.{append-nil}
use Rattle.lp_spec.specs.Trees.{Tree, SortType, SortKind, Var, Sym, App, Lam, Pi, tree_eq}
use Rattle.lp_spec.specs.Modules.{Declaration}
use Rattle.lp_binding_laws.specs.TreeEquality.{tree_eq-refl, tree_eq-true}
use Rattle.share_spec.specs.Folded.{parts, parts_in, places, is_in}
use Rattle.share_laws.specs.WrittenOnceLaws.{places-append, in-left, in-right}

-- the parts of which a tree is made at once
abbrev pub direct : Tree → List Tree
direct (App f x) = f ∷ x ∷ []
direct (Lam a b) = a ∷ b ∷ []
direct (Pi a b) = a ∷ b ∷ []
direct t = []

-- a count handed to trees, at most two
abbrev pub handed : List Tree → ℕ → (Tree → ℕ) → Tree → ℕ
handed [] n c = c
handed (k ∷ ks) n c = handed ks n (λ t. if tree_eq t k then min 2 (c t + n) else c t)

-- The pass
abbrev pub passed : List Tree → (Tree → ℕ) → Tree → ℕ
passed [] c = c
passed (v ∷ vs) c = passed vs (handed (direct v) (c v) c)

-- in a list, how many of the trees it is a direct part of
abbrev pub total : Tree → List Tree → ℕ
total t [] = 0
total t (u ∷ us) = places t (direct u) + total t us

total-append : (t : Tree) (xs ys : List Tree) → total t (xs ++ ys) ≡ total t xs + total t ys
total-append t [] ys = omega arith
total-append t (x ∷ xs) ys = omega (arith, total-append t xs ys)

-- a tree stands where it is the whole, and where it is a direct part of what stands there
node_places : (t u f x : Tree) → parts u ≡ parts f ++ parts x ++ u ∷ [] → direct u ≡ f ∷ x ∷ []
    → places t (parts f) ≡ places t (f ∷ []) + total t (parts f) → places t (parts x) ≡ places t (x ∷ []) + total t (parts x) → places t (parts u)
    ≡ places t (u ∷ []) + total t (parts u)
node_places t u f x e d i j =
    let p = places-append t (parts f ++ parts x) (u ∷ []) in
    let q = places-append t (parts f) (parts x) in
    let r = total-append t (parts f ++ parts x) (u ∷ []) in
    let s = total-append t (parts f) (parts x) in
    let k = ap (places t) d in
    let l = places-append t (f ∷ []) (x ∷ []) in
    ap (places t) e ∙ omega (arith, p, q, r, s, k, l, i, j, ap (total t) e)

one_places : (t u : Tree) → places t (parts u) ≡ places t (u ∷ []) + total t (parts u)
one_places t (App f x) = node_places t (App f x) f x refl refl (one_places t f) (one_places t x)
one_places t (Lam a b) = node_places t (Lam a b) a b refl refl (one_places t a) (one_places t b)
one_places t (Pi a b) = node_places t (Pi a b) a b refl refl (one_places t a) (one_places t b)
one_places t SortType = omega arith
one_places t SortKind = omega arith
one_places t (Var n) = omega arith
one_places t (Sym s) = omega arith

all_places : (t : Tree) (roots : List Tree) → places t (flat_map parts roots) ≡ places t roots + total t (flat_map parts roots)
all_places t [] = omega arith
all_places t (u ∷ us) =
    let p = places-append t (parts u) (flat_map parts us) in
    let q = places-append t (u ∷ []) us in
    let r = total-append t (parts u) (flat_map parts us) in
    omega (arith, p, q, r, one_places t u, all_places t us)

-- sums over distinct trees
abbrev sum : (Tree → ℕ) → List Tree → ℕ
sum f [] = 0
sum f (v ∷ vs) = f v + sum f vs

sum-plus : (f g h : Tree → ℕ) → ((v : Tree) → f v ≡ g v + h v) → (vs : List Tree) → sum f vs ≡ sum g vs + sum h vs
sum-plus f g h e [] = omega arith
sum-plus f g h e (v ∷ vs) = omega (arith, e v, sum-plus f g h e vs)

sum-append : (f : Tree → ℕ) (xs ys : List Tree) → sum f (xs ++ ys) ≡ sum f xs + sum f ys
sum-append f [] ys = omega arith
sum-append f (x ∷ xs) ys = omega (arith, sum-append f xs ys)

abbrev at_tree : (Tree → ℕ) → Tree → Tree → ℕ
at_tree f u v = if tree_eq v u then f v else 0

-- each tree of a list is another, and what it is a direct part of comes before it
abbrev pub AreDescending : List Tree → Type 0
AreDescending [] = Unit {0}
AreDescending (v ∷ vs) = (is_in v vs ≡ false) × (total v (v ∷ vs) ≡ 0) × AreDescending vs

absent-sum : (f : Tree → ℕ) (u : Tree) (vs : List Tree) → is_in u vs ≡ false → sum (at_tree f u) vs ≡ 0
absent-sum f u [] h = refl
absent-sum f u (v ∷ vs) h = go (tree_eq v u) refl (λ i. absent-sum f u vs i)
  where
    go : (b : Bool) → tree_eq v u ≡ b → (is_in u vs ≡ false → sum (at_tree f u) vs ≡ 0) → (if b then f v else 0) + sum (at_tree f u) vs ≡ 0
    go true e k = absurd (let s = tree_eq-true v u e in let r = ap (λ w. tree_eq u w) s ∙ tree_eq-refl u in cc)
    go false e k = omega (arith, k (rest (tree_eq u v) h))
      where
        rest : (b : Bool) → (b || is_in u vs) ≡ false → is_in u vs ≡ false
        rest true i = absurd (cc)
        rest false i = i

own-sum : (f : Tree → ℕ) (u : Tree) (vs : List Tree) → AreDescending vs → is_in u vs ≡ true → sum (at_tree f u) vs ≡ f u
own-sum f u [] d h = absurd (cc)
own-sum f u (v ∷ vs) d h = go (tree_eq v u) refl (λ i. own-sum f u vs d.2 i)
  where
    go : (b : Bool) → tree_eq v u ≡ b → (is_in u vs ≡ true → sum (at_tree f u) vs ≡ f u) → (if b then f v else 0) + sum (at_tree f u) vs ≡ f u
    go true e k =
        let s = tree_eq-true v u e in
        let z = absent-sum f u vs (subst (λ w. is_in w vs ≡ false) s d.0) in
        omega (arith, z, ap f s)
    go false e k = omega (arith, k (rest (tree_eq u v) refl h))
      where
        rest : (b : Bool) → tree_eq u v ≡ b → (b || is_in u vs) ≡ true → is_in u vs ≡ true
        rest true i j = absurd (let s = tree_eq-true u v i in let r = ap (λ w. tree_eq v w) s ∙ tree_eq-refl v in cc)
        rest false i j = j

-- what a list of trees hands to a tree, counted by the trees that are distinct
total-sum : (t : Tree) (vs us : List Tree) → AreDescending vs → ((w : Tree) → is_in w us ≡ true → is_in w vs ≡ true) → total t us
    ≡ sum (λ v. places v us * places t (direct v)) vs
total-sum t vs [] d h = sym (zeros vs)
  where
    zeros : (ws : List Tree) → sum (λ v. 0 * places t (direct v)) ws ≡ 0
    zeros [] = refl
    zeros (w ∷ ws) = omega (arith, zeros ws, zero-mul (places t (direct w)))
total-sum t vs (u ∷ us) d h =
    let f : Tree → ℕ = λ v. places t (direct v) in
    let both = sum-plus (λ v. places v (u ∷ us) * f v) (at_tree f u) (λ v. places v us * f v) (λ v. go v (tree_eq v u) (places v us) (f v)) vs in
    let own = own-sum f u vs d (h u (in-left u (u ∷ []) us (one u))) in
    omega (arith, both, own, total-sum t vs us d (λ w i. h w (in-right w (u ∷ []) us i)))
  where
    one : (w : Tree) → is_in w (w ∷ []) ≡ true
    one w = ap (λ b. b || false) (tree_eq-refl w)

    go : (v : Tree) (b : Bool) (p k : ℕ) → (if b then suc p else p) * k ≡ (if b then k else 0) + p * k
    go v true p k = omega (arith, suc-mul p k)
    go v false p k = omega arith

-- what is handed to trees, counted up to two
handed-is : (ks : List Tree) (n most : ℕ) (c d : Tree → ℕ) → n ≡ min 2 most → ((t : Tree) → c t ≡ min 2 (d t)) → (t : Tree)
    → handed ks n c t ≡ min 2 (d t + places t ks * most)
handed-is [] n most c d e h t = h t ∙ ap (λ k. min 2 k) (omega (arith, zero-mul most))
handed-is (k ∷ ks) n most c d e h t =
    handed-is ks n most (λ u. if tree_eq u k then min 2 (c u + n) else c u) (λ u. if tree_eq u k then d u + most else d u) e (λ u. now u (tree_eq u k)) t
    ∙ ap (λ j. min 2 j) (after (tree_eq t k) (places t ks) (d t))
  where
    now : (u : Tree) (b : Bool) → (if b then min 2 (c u + n) else c u) ≡ min 2 (if b then d u + most else d u)
    now u true = omega (arith, h u, e)
    now u false = h u

    after : (b : Bool) (p m : ℕ) → (if b then m + most else m) + p * most ≡ m + (if b then suc p else p) * most
    after true p m = omega (arith, suc-mul p most)
    after false p m = refl

-- what these roots hand to a tree by the trees of a list
module _ (roots : List Tree) where
  abbrev count : Tree → ℕ
  count t = places t (flat_map parts roots)

  abbrev from : Tree → List Tree → ℕ
  from t vs = sum (λ v. count v * places t (direct v)) vs

  none-from : (t : Tree) (vs : List Tree) → total t vs ≡ 0 → from t vs ≡ 0
  none-from t [] h = refl
  none-from t (v ∷ vs) h =
      let z : places t (direct v) ≡ 0 = omega (arith, h) in
      let r = none-from t vs (omega (arith, h)) in
      omega (arith, r, ap (λ k. count v * k) z ∙ mul-zero (count v))

  passed-from : (ps vs : List Tree) (c : Tree → ℕ) → ((t : Tree) → count t ≡ places t roots + from t (ps ++ vs)) → AreDescending vs
      → ((t : Tree) → c t ≡ min 2 (places t roots + from t ps)) → (t : Tree) → passed vs c t ≡ min 2 (count t)
  passed-from ps [] c all d h t = h t ∙ ap (λ k. min 2 k) (omega (arith, all t, sum-append (λ v. count v * places t (direct v)) ps []))
  passed-from ps (v ∷ vs) c all d h t =
      let own : count v ≡ places v roots + from v ps =
      omega (arith, all v, sum-append (λ w. count w * places v (direct w)) ps (v ∷ vs), none-from v (v ∷ vs) d.1) in
      passed-from (ps ++ v ∷ []) vs (handed (direct v) (c v) c) (λ u. all u ∙ ap (λ l. places u roots + from u l) (sym (append_assoc ps (v ∷ []) vs))) d.2
      (λ u. handed-is (direct v) (c v) (count v) c (λ w. places w roots + from w ps) (h v ∙ ap (λ k. min 2 k) (sym own)) h u
      ∙ ap (λ k. min 2 k) (omega (arith, sum-append (λ w. count w * places u (direct w)) ps (v ∷ []), mul_comm (count v) (places u (direct v))))) t

-- The pass counts places, up to two: over the roots' parts, each once, from those that are parts of others no more.
pub passed-places : (roots vs : List Tree) → AreDescending vs → ((w : Tree) → is_in w (flat_map parts roots) ≡ true → is_in w vs ≡ true)
    → (t : Tree) → passed vs (λ u. min 2 (places u roots)) t ≡ min 2 (places t (flat_map parts roots))
passed-places roots vs d h t =
    passed-from roots [] vs (λ u. min 2 (places u roots)) (λ u. all_places u roots ∙ ap (λ k. places u roots + k) (total-sum u vs (flat_map parts roots) d h)) d
    (λ u. ap (λ k. min 2 k) (omega arith)) t

-- the roots of declarations
abbrev pub roots_in : Declaration → List Tree
roots_in d = d.ty ∷ option_map_or (λ t. t ∷ []) d.body []

pub roots-parts : (ds : List Declaration) → flat_map parts (flat_map roots_in ds) ≡ flat_map parts_in ds
roots-parts [] = refl
roots-parts (d ∷ ds) = go d.body ∙ ap (λ l. parts_in d ++ l) (roots-parts ds)
  where
    go : (o : Option Tree)
        → flat_map parts ((d.ty ∷ option_map_or (λ t. t ∷ []) o []) ++ flat_map roots_in ds) ≡ (parts d.ty ++ option_map_or parts o [])
        ++ flat_map parts (flat_map roots_in ds)
    go None = ap (λ l. l ++ flat_map parts (flat_map roots_in ds)) (sym (append-nil (parts d.ty)))
    go (Some b) = sym (append_assoc (parts d.ty) (parts b) (flat_map parts (flat_map roots_in ds)))
