-- The trees that were not met before, by a walk that doesn't go into a tree that it has met: so a fold looks at each tree once.
use Rattle.std.proofs.Common.{◌≡◌, ◌<◌, ◌≤◌, suc, inl, inr, refl, sym, ap, subst, ◌∙◌, append_assoc, Bool, true, false, List, [], ◌∷◌, ◌++◌, arith}
use Rattle.std.specs.Prelude.{◌||◌, ◌⊎◌, if◌then◌else◌}
use Rattle.std.proofs.Math.Path.{ap₂}
use Rattle.std.proofs.lemmas.List.{append-nil}
use Rattle.lp_spec.specs.Trees.{Tree, SortType, SortKind, Var, Sym, App, Lam, Pi, tree_eq, size}
use Rattle.lp_binding_laws.specs.TreeEquality.{tree_eq-refl, tree_eq-true}
use Rattle.share_spec.specs.Folded.{parts, places, is_in, firsts}
use Rattle.share_laws.specs.WrittenOnceLaws.{in-left, in-right, in-either, in-one, is_in-append, larger-places}

-- The walk: what was met, and then what is first met in a tree
abbrev pub visit : List Tree → Tree → List Tree
visit met (App f x) = if is_in (App f x) met then met else visit (visit met f) x ++ App f x ∷ []
visit met (Lam a b) = if is_in (Lam a b) met then met else visit (visit met a) b ++ Lam a b ∷ []
visit met (Pi a b) = if is_in (Pi a b) met then met else visit (visit met a) b ++ Pi a b ∷ []
visit met t = if is_in t met then met else met ++ t ∷ []

-- lists in which the same trees are
abbrev pub Alike : List Tree → List Tree → Type 0
Alike xs ys = (w : Tree) → is_in w xs ≡ is_in w ys

-- a list in which the parts are of each tree in it
abbrev pub IsClosed : List Tree → Type 0
IsClosed met = (u w : Tree) → is_in u met ≡ true → is_in w (parts u) ≡ true → is_in w met ≡ true

alike-append : (xs ys us : List Tree) → Alike xs ys → Alike (xs ++ us) (ys ++ us)
alike-append xs ys us h w = is_in-append w xs us ∙ ap (λ b. b || is_in w us) (h w) ∙ sym (is_in-append w ys us)

firsts-alike : (xs ys us : List Tree) → Alike xs ys → firsts xs us ≡ firsts ys us
firsts-alike xs ys [] h = refl
firsts-alike xs ys (u ∷ us) h =
    ap (λ b. if b then firsts xs us else u ∷ firsts (xs ++ u ∷ []) us) (h u)
    ∙ ap₂ (λ l m. if is_in u ys then l else u ∷ m) (firsts-alike xs ys us h) (firsts-alike (xs ++ u ∷ []) (ys ++ u ∷ []) us (alike-append xs ys (u ∷ []) h))

-- with a tree that is there, the list is alike
alike-met : (met us : List Tree) (u : Tree) → is_in u met ≡ true → Alike (met ++ us) (met ++ u ∷ us)
alike-met met us u h w = is_in-append w met us ∙ go (tree_eq w u) refl ∙ sym (is_in-append w met (u ∷ us))
  where
    go : (b : Bool) → tree_eq w u ≡ b → (is_in w met || is_in w us) ≡ (is_in w met || (tree_eq w u || is_in w us))
    go true e =
        let i : is_in w met ≡ true = subst (λ y. is_in y met ≡ true) (sym (tree_eq-true w u e)) h in
        ap (λ b. b || is_in w us) i ∙ sym (ap (λ b. b || (tree_eq w u || is_in w us)) i)
    go false e = sym (ap (λ b. is_in w met || (b || is_in w us)) e)

pub firsts-append : (met xs ys : List Tree) → firsts met (xs ++ ys) ≡ firsts met xs ++ firsts (met ++ xs) ys
firsts-append met [] ys = ap (λ l. firsts l ys) (sym (append-nil met))
firsts-append met (x ∷ xs) ys = go (is_in x met) refl (firsts-append met xs ys) (firsts-append (met ++ x ∷ []) xs ys)
  where
    go : (b : Bool) → is_in x met ≡ b → firsts met (xs ++ ys) ≡ firsts met xs ++ firsts (met ++ xs) ys
        → firsts (met ++ x ∷ []) (xs ++ ys) ≡ firsts (met ++ x ∷ []) xs ++ firsts ((met ++ x ∷ []) ++ xs) ys
        → (if b then firsts met (xs ++ ys) else x ∷ firsts (met ++ x ∷ []) (xs ++ ys)) ≡ (if b then firsts met xs else x ∷ firsts (met ++ x ∷ []) xs)
        ++ firsts (met ++ x ∷ xs) ys
    go true e i j = i ∙ ap (λ l. firsts met xs ++ l) (firsts-alike (met ++ xs) (met ++ x ∷ xs) ys (alike-met met xs x e))
    go false e i j = ap (λ l. x ∷ l) (j ∙ ap (λ l. firsts (met ++ x ∷ []) xs ++ firsts l ys) (append_assoc met (x ∷ []) xs))

-- nothing is first met where all was met
firsts-none : (met us : List Tree) → ((w : Tree) → is_in w us ≡ true → is_in w met ≡ true) → firsts met us ≡ []
firsts-none met [] h = refl
firsts-none met (u ∷ us) h =
    let i : is_in u met ≡ true = h u (in-left u (u ∷ []) us (ap (λ b. b || false) (tree_eq-refl u))) in
    ap (λ b. if b then firsts met us else u ∷ firsts (met ++ u ∷ []) us) i ∙ firsts-none met us (λ w k. h w (in-right w (u ∷ []) us k))

-- what was met and what is first met are what was met and the rest
firsts-in : (w : Tree) (met us : List Tree) → is_in w (met ++ firsts met us) ≡ is_in w (met ++ us)
firsts-in w met [] = refl
firsts-in w met (u ∷ us) = go (is_in u met) refl (firsts-in w met us) (firsts-in w (met ++ u ∷ []) us)
  where
    go : (b : Bool) → is_in u met ≡ b → is_in w (met ++ firsts met us) ≡ is_in w (met ++ us)
        → is_in w ((met ++ u ∷ []) ++ firsts (met ++ u ∷ []) us) ≡ is_in w ((met ++ u ∷ []) ++ us)
        → is_in w (met ++ (if b then firsts met us else u ∷ firsts (met ++ u ∷ []) us)) ≡ is_in w (met ++ u ∷ us)
    go true e i j = i ∙ alike-met met us u e w
    go false e i j = ap (λ l. is_in w l) (sym (append_assoc met (u ∷ []) (firsts (met ++ u ∷ []) us))) ∙ j ∙ ap (λ l. is_in w l) (append_assoc met (u ∷ []) us)

-- parts of parts
part-of-parts : (w u t f x : Tree) → parts t ≡ parts f ++ parts x ++ t ∷ [] → is_in u (parts t) ≡ true → is_in w (parts u) ≡ true
    → (is_in u (parts f) ≡ true → is_in w (parts f) ≡ true) → (is_in u (parts x) ≡ true → is_in w (parts x) ≡ true) → is_in w (parts t) ≡ true
part-of-parts w u t f x e h k p q = node (in-either u (parts f ++ parts x) (t ∷ []) (subst (λ l. is_in u l ≡ true) e h))
  where
    two : (is_in u (parts f) ≡ true) ⊎ (is_in u (parts x) ≡ true) → is_in w (parts f ++ parts x) ≡ true
    two (inl i) = in-left w (parts f) (parts x) (p i)
    two (inr i) = in-right w (parts f) (parts x) (q i)

    node : (is_in u (parts f ++ parts x) ≡ true) ⊎ (is_in u (t ∷ []) ≡ true) → is_in w (parts t) ≡ true
    node (inl i) = subst (λ l. is_in w l ≡ true) (sym e) (in-left w (parts f ++ parts x) (t ∷ []) (two (in-either u (parts f) (parts x) i)))
    node (inr i) = subst (λ y. is_in w (parts y) ≡ true) (tree_eq-true u t (in-one u t i)) k

parts-closed : (w u t : Tree) → is_in u (parts t) ≡ true → is_in w (parts u) ≡ true → is_in w (parts t) ≡ true
parts-closed w u (App f x) h k = part-of-parts w u (App f x) f x refl h k (λ i. parts-closed w u f i k) (λ i. parts-closed w u x i k)
parts-closed w u (Lam a b) h k = part-of-parts w u (Lam a b) a b refl h k (λ i. parts-closed w u a i k) (λ i. parts-closed w u b i k)
parts-closed w u (Pi a b) h k = part-of-parts w u (Pi a b) a b refl h k (λ i. parts-closed w u a i k) (λ i. parts-closed w u b i k)
parts-closed w u SortType h k = subst (λ y. is_in w (parts y) ≡ true) (tree_eq-true u SortType (in-one u SortType h)) k
parts-closed w u SortKind h k = subst (λ y. is_in w (parts y) ≡ true) (tree_eq-true u SortKind (in-one u SortKind h)) k
parts-closed w u (Var n) h k = subst (λ y. is_in w (parts y) ≡ true) (tree_eq-true u (Var n) (in-one u (Var n) h)) k
parts-closed w u (Sym s) h k = subst (λ y. is_in w (parts y) ≡ true) (tree_eq-true u (Sym s) (in-one u (Sym s) h)) k

pub closed-more : (met : List Tree) (t : Tree) → IsClosed met → IsClosed (met ++ parts t)
closed-more met t c u w h k = go (in-either u met (parts t) h)
  where
    go : (is_in u met ≡ true) ⊎ (is_in u (parts t) ≡ true) → is_in w (met ++ parts t) ≡ true
    go (inl i) = in-left w met (parts t) (c u w i k)
    go (inr i) = in-right w met (parts t) (parts-closed w u t i k)

own-part : (t : Tree) → is_in t (parts t) ≡ true
own-part (App f x) = in-right (App f x) (parts f ++ parts x) (App f x ∷ []) (ap (λ b. b || false) (tree_eq-refl (App f x)))
own-part (Lam a b) = in-right (Lam a b) (parts a ++ parts b) (Lam a b ∷ []) (ap (λ c. c || false) (tree_eq-refl (Lam a b)))
own-part (Pi a b) = in-right (Pi a b) (parts a ++ parts b) (Pi a b ∷ []) (ap (λ c. c || false) (tree_eq-refl (Pi a b)))
own-part SortType = refl
own-part SortKind = refl
own-part (Var n) = ap (λ b. b || false) (tree_eq-refl (Var n))
own-part (Sym s) = ap (λ b. b || false) (tree_eq-refl (Sym s))

-- a tree is in no smaller one
in-place : (t : Tree) (us : List Tree) → is_in t us ≡ true → 1 ≤ places t us
in-place t [] h = absurd (cc)
in-place t (u ∷ us) h = go (tree_eq t u) h (λ i. in-place t us i)
  where
    go : (b : Bool) → (b || is_in t us) ≡ true → (is_in t us ≡ true → 1 ≤ places t us) → 1 ≤ (if b then suc (places t us) else places t us)
    go true e k = omega arith
    go false e k = k e

not_smaller : (t u : Tree) → size u < size t → is_in t (parts u) ≡ false
not_smaller t u h = go (is_in t (parts u)) refl
  where
    go : (b : Bool) → is_in t (parts u) ≡ b → b ≡ false
    go true e = absurd (omega (arith, in-place t (parts u) e, larger-places t u h))
    go false e = refl

-- a node that was not met is first met after its parts
last_met : (t f x : Tree) (met : List Tree) → size f < size t → size x < size t → is_in t met ≡ false → firsts ((met ++ parts f) ++ parts x) (t ∷ []) ≡ t ∷ []
last_met t f x met l m h =
    let e : is_in t ((met ++ parts f) ++ parts x) ≡ false =
    is_in-append t (met ++ parts f) (parts x) ∙ ap₂ (λ b c. b || c) (is_in-append t met (parts f) ∙ ap₂ (λ b c. b || c) h (not_smaller t f l))
    (not_smaller t x m) in
    ap (λ b. if b then [] else t ∷ []) e

met_node : (t : Tree) (done met : List Tree) → IsClosed met → is_in t met ≡ true → done ≡ done ++ firsts met (parts t)
met_node t done met c e = sym (append-nil done) ∙ ap (λ l. done ++ l) (sym (firsts-none met (parts t) (λ w i. c t w e i)))

new_node : (t f x : Tree) (done one two met : List Tree) → parts t ≡ parts f ++ parts x ++ t ∷ [] → size f < size t → size x < size t → is_in t met ≡ false
    → one ≡ done ++ firsts met (parts f) → two ≡ one ++ firsts (met ++ parts f) (parts x) → two ++ t ∷ [] ≡ done ++ firsts met (parts t)
new_node t f x done one two met e l m h p q =
    let a = firsts-append met (parts f ++ parts x) (t ∷ []) in
    let b = firsts-append met (parts f) (parts x) in
    let c = ap (λ l. firsts l (t ∷ [])) (sym (append_assoc met (parts f) (parts x))) ∙ last_met t f x met l m h in
    let all : firsts met (parts t) ≡ firsts met (parts f) ++ firsts (met ++ parts f) (parts x) ++ t ∷ [] = ap (firsts met) e ∙ a ∙ ap₂ (λ u v. u ++ v) b c in
    ap (λ l. l ++ t ∷ []) (q ∙ ap (λ l. l ++ firsts (met ++ parts f) (parts x)) p)
    ∙ ap (λ l. l ++ t ∷ []) (append_assoc done (firsts met (parts f)) (firsts (met ++ parts f) (parts x)))
    ∙ append_assoc done (firsts met (parts f) ++ firsts (met ++ parts f) (parts x)) (t ∷ [])
    ∙ ap (λ l. done ++ l) (sym all)

-- what was met after the walk of a tree
alike-visited : (one done met : List Tree) (t : Tree) → Alike done met → one ≡ done ++ firsts met (parts t) → Alike one (met ++ parts t)
alike-visited one done met t h e w = ap (is_in w) e ∙ alike-append done met (firsts met (parts t)) h w ∙ firsts-in w met (parts t)

by_met : (t f x : Tree) (done met : List Tree) → parts t ≡ parts f ++ parts x ++ t ∷ [] → size f < size t → size x < size t → Alike done met → IsClosed met
    → visit done f ≡ done ++ firsts met (parts f) → ((one : List Tree) → Alike one (met ++ parts f) → visit one x ≡ one ++ firsts (met ++ parts f) (parts x))
    → (if is_in t done then done else visit (visit done f) x ++ t ∷ []) ≡ done ++ firsts met (parts t)
by_met t f x done met e l m h c p q = go (is_in t met) refl ∙ refl
  where
    go : (b : Bool) → is_in t met ≡ b → (if is_in t done then done else visit (visit done f) x ++ t ∷ []) ≡ done ++ firsts met (parts t)
    go true i = ap (λ b. if b then done else visit (visit done f) x ++ t ∷ []) (h t ∙ i) ∙ met_node t done met c i
    go false i =
        ap (λ b. if b then done else visit (visit done f) x ++ t ∷ []) (h t ∙ i)
        ∙ new_node t f x done (visit done f) (visit (visit done f) x) met e l m i p (q (visit done f) (alike-visited (visit done f) done met f h p))

leaf : (t : Tree) (done met : List Tree) → parts t ≡ t ∷ [] → Alike done met → (if is_in t done then done else done ++ t ∷ []) ≡ done ++ firsts met (parts t)
leaf t done met e h = ap (λ b. if b then done else done ++ t ∷ []) (h t) ∙ go (is_in t met) refl ∙ ap (λ l. done ++ firsts met l) (sym e)
  where
    go : (b : Bool) → is_in t met ≡ b → (if b then done else done ++ t ∷ []) ≡ done ++ (if b then [] else t ∷ [])
    go true i = sym (append-nil done)
    go false i = refl

-- The walk meets the firsts, in order, where the parts of what was met were met.
pub visited : (t : Tree) (done met : List Tree) → Alike done met → IsClosed met → visit done t ≡ done ++ firsts met (parts t)
visited (App f x) done met h c = by_met (App f x) f x done met refl (omega arith) (omega arith) h c (visited f done met h c)
    (λ one k. visited x one (met ++ parts f) k (closed-more met f c))
visited (Lam a b) done met h c = by_met (Lam a b) a b done met refl (omega arith) (omega arith) h c (visited a done met h c)
    (λ one k. visited b one (met ++ parts a) k (closed-more met a c))
visited (Pi a b) done met h c = by_met (Pi a b) a b done met refl (omega arith) (omega arith) h c (visited a done met h c)
    (λ one k. visited b one (met ++ parts a) k (closed-more met a c))
visited SortType done met h c = leaf SortType done met refl h
visited SortKind done met h c = leaf SortKind done met refl h
visited (Var n) done met h c = leaf (Var n) done met refl h
visited (Sym s) done met h c = leaf (Sym s) done met refl h

-- It leaves what was met alike, with the tree's parts.
pub visited-alike : (t : Tree) (done met : List Tree) → Alike done met → IsClosed met → Alike (visit done t) (met ++ parts t)
visited-alike t done met h c = alike-visited (visit done t) done met t h (visited t done met h c)
