-- A walk that meets trees: each of its turns brings it nearer to what the walk by trees meets.
use Rattle.std.proofs.Common.{◌≡◌, ℕ, zero, suc, ◌<◌, ◌≤◌, refl, sym, ap, subst, ◌∙◌, append_assoc, Bool, true, false, List, [], ◌∷◌, ◌++◌, length, Option, Some, None, arith}
use Rattle.std.specs.Prelude.{◌||◌, if◌then◌else◌, get_or, set, replicate}
use Rattle.std.specs.Option.{option_map_or}
use Rattle.std.proofs.Math.Path.{ap₂}
use Rattle.std.proofs.lemmas.List.{get_or-set_same, get_or-set_other, get_or-replicate, length-append, length-map, length-set, map-append, append-nil}
use Rattle.std.proofs.lemmas.Option.{same_Some}
use Rattle.lp_spec.specs.Trees.{Tree, SortType, SortKind, Var, Sym, App, Lam, Pi, tree_eq, size}
use Rattle.lp_spec.specs.Modules.{Declaration}
use Rattle.lp_binding_laws.specs.TreeEquality.{tree_eq-refl, tree_eq-true}
use Rattle.lp_term.specs.declared.LpId.{LpId}
use Rattle.lp_term.specs.Tables.{tree_at, trees_at, Holds, IsDistinct, Keeps}
use Rattle.lp_term.specs.TableLaws.{tree_at-Holds, tree_at-Stays, Holds-tree_at}
use Rattle.share_spec.specs.Folded.{firsts, is_in, parts, parts_in}
use Rattle.share_laws.specs.WrittenOnceLaws.{is_in-append}
use Rattle.share_laws.specs.PlacesByNodes.{direct}
use Rattle.share_laws.specs.FirstsByNodes.{closed-more, firsts-append, visit, visited, visited-alike, Alike, IsClosed}
use Rattle.share.specs.Meetings.{entered, visited_in, AreIdsBelow, IsMeeting}

-- a tree that was met isn't entered, and another is
pub visit-met : (done : List Tree) (t : Tree) → is_in t done ≡ true → visit done t ≡ done
visit-met done (App f x) e = ap (λ b. if b then done else visit (visit done f) x ++ App f x ∷ []) e
visit-met done (Lam f x) e = ap (λ b. if b then done else visit (visit done f) x ++ Lam f x ∷ []) e
visit-met done (Pi f x) e = ap (λ b. if b then done else visit (visit done f) x ++ Pi f x ∷ []) e
visit-met done SortType e = ap (λ b. if b then done else done ++ SortType ∷ []) e
visit-met done SortKind e = ap (λ b. if b then done else done ++ SortKind ∷ []) e
visit-met done (Var n) e = ap (λ b. if b then done else done ++ Var n ∷ []) e
visit-met done (Sym n) e = ap (λ b. if b then done else done ++ Sym n ∷ []) e

pub visit-new : (done : List Tree) (t : Tree) → is_in t done ≡ false → visit done t ≡ entered done t
visit-new done (App f x) e = ap (λ b. if b then done else visit (visit done f) x ++ App f x ∷ []) e
visit-new done (Lam f x) e = ap (λ b. if b then done else visit (visit done f) x ++ Lam f x ∷ []) e
visit-new done (Pi f x) e = ap (λ b. if b then done else visit (visit done f) x ++ Pi f x ∷ []) e
visit-new done SortType e = ap (λ b. if b then done else done ++ SortType ∷ []) e
visit-new done SortKind e = ap (λ b. if b then done else done ++ SortKind ∷ []) e
visit-new done (Var n) e = ap (λ b. if b then done else done ++ Var n ∷ []) e
visit-new done (Sym n) e = ap (λ b. if b then done else done ++ Sym n ∷ []) e

pub entered-two : (done : List Tree) (t a b : Tree) → direct t ≡ a ∷ b ∷ [] → entered done t ≡ visit (visit done a) b ++ t ∷ []
entered-two done (App f x) a b e = let p : f ≡ a = cc in let q : x ≡ b = cc in ap₂ (λ u v. visit (visit done u) v ++ App f x ∷ []) p q
entered-two done (Lam f x) a b e = let p : f ≡ a = cc in let q : x ≡ b = cc in ap₂ (λ u v. visit (visit done u) v ++ Lam f x ∷ []) p q
entered-two done (Pi f x) a b e = let p : f ≡ a = cc in let q : x ≡ b = cc in ap₂ (λ u v. visit (visit done u) v ++ Pi f x ∷ []) p q
entered-two done SortType a b e = absurd (cc)
entered-two done SortKind a b e = absurd (cc)
entered-two done (Var n) a b e = absurd (cc)
entered-two done (Sym n) a b e = absurd (cc)

pub entered-none : (done : List Tree) (t : Tree) → direct t ≡ [] → entered done t ≡ done ++ t ∷ []
entered-none done (App f x) e = absurd (cc)
entered-none done (Lam f x) e = absurd (cc)
entered-none done (Pi f x) e = absurd (cc)
entered-none done SortType e = refl
entered-none done SortKind e = refl
entered-none done (Var n) e = refl
entered-none done (Sym n) e = refl

pub size-some : (t : Tree) → 1 ≤ size t
size-some (App f x) = omega arith
size-some (Lam f x) = omega arith
size-some (Pi f x) = omega arith
size-some SortType = omega arith
size-some SortKind = omega arith
size-some (Var n) = omega arith
size-some (Sym n) = omega arith

or-true : (b : Bool) → (b || (true || false)) ≡ true
or-true true = refl
or-true false = refl

or-false : (b : Bool) → (b || (false || false)) ≡ b
or-false true = refl
or-false false = refl

ids-more : (n k : ℕ) (ids : List LpId) (id : LpId) → n ≤ k → id.0 < n → AreIdsBelow n ids → AreIdsBelow k (ids ++ id ∷ [])
ids-more n k [] id e l h = (omega (arith, e, l), tt)
ids-more n k (x ∷ xs) id e l h = (omega (arith, e, h.0), ids-more n k xs id e l h.1)

-- a tree that is left is met
pub left-meeting : (ts : List Tree) (met met' : List Bool) (order order' : List LpId) (id : LpId) → id.0 < length met → met' ≡ set met id.0 true → order'
    ≡ order ++ id ∷ [] → IsMeeting ts met order → IsMeeting ts met' order'
left-meeting ts met met' order order' id l e f m =
    subst (λ xs. IsMeeting ts xs order') (sym e) (subst (λ xs. IsMeeting ts (set met id.0 true) xs) (sym f) record {
      distinct = m.distinct;
      within = (let w = m.within in omega (arith, w, length-set met id.0 true));
      known = ids-more (length met) (length (set met id.0 true)) order id (omega (arith, length-set met id.0 true)) l m.known;
      flags = λ i t h k.
          let k' : i < length met = omega (arith, k, length-set met id.0 true) in
          let held : is_in t (trees_at ts (order ++ id ∷ [])) ≡ (is_in t (trees_at ts order) || (tree_eq t (tree_at ts id.0) || false)) =
          ap (is_in t) (map-append (λ (x : LpId). tree_at ts x.0) order (id ∷ [])) ∙ is_in-append t (trees_at ts order) (tree_at ts id.0 ∷ []) in
          go i t h (m.flags i t h k') (tree_eq t (tree_at ts id.0)) refl ∙ sym held;
    })
  where
    go : (i : ℕ) (t : Tree) → Holds ts i t → get_or met i false ≡ is_in t (trees_at ts order) → (b : Bool) → tree_eq t (tree_at ts id.0) ≡ b
        → get_or (set met id.0 true) i false ≡ (is_in t (trees_at ts order) || (tree_eq t (tree_at ts id.0) || false))
    go i t h g true p =
        let same : i ≡ id.0 = m.distinct.each i id.0 t h
        (tree_at-Holds ts id.0 (let w = m.within in omega (arith, l, w)) ∙ ap Some (sym (tree_eq-true t (tree_at ts id.0) p))) in
        ap (λ j. get_or (set met id.0 true) j false) same ∙ get_or-set_same met id.0 true false l
        ∙ sym (ap (λ b. is_in t (trees_at ts order) || (b || false)) p ∙ or-true (is_in t (trees_at ts order)))
    go i t h g false p = get_or-set_other met id.0 i true false (λ s. apart s) ∙ g ∙ sym
        (ap (λ b. is_in t (trees_at ts order) || (b || false)) p ∙ or-false (is_in t (trees_at ts order)))
      where
        apart : i ≡ id.0 → ⊥
        apart s =
            let u : tree_at ts id.0 ≡ t = Holds-tree_at ts id.0 t (subst (λ j. Holds ts j t) s h) in
            let v : tree_eq t (tree_at ts id.0) ≡ true = ap (tree_eq t) u ∙ tree_eq-refl t in
            cc

-- the trees in order, once one is left
pub left-order : (ts : List Tree) (order order' : List LpId) (id : LpId) → order' ≡ order ++ id ∷ [] → trees_at ts order' ≡ trees_at ts order
    ++ tree_at ts id.0 ∷ []
left-order ts order order' id f = ap (trees_at ts) f ∙ map-append (λ (x : LpId). tree_at ts x.0) order (id ∷ [])

any-default : {X : Type 0} (xs : List X) (i : ℕ) (d e : X) → i < length xs → get_or xs i d ≡ get_or xs i e
any-default [] i d e l = absurd (omega arith)
any-default (x ∷ xs) zero d e l = refl
any-default (x ∷ xs) (suc i) d e l = any-default xs i d e (omega arith)

-- a flag tells whether the tree was met
pub flag-met : (ts : List Tree) (met : List Bool) (order : List LpId) (i : ℕ) (b r : Bool) → IsMeeting ts met order → i < length met → r ≡ get_or met i r → r
    ≡ b → is_in (tree_at ts i) (trees_at ts order) ≡ b
flag-met ts met order i b r m l e f = sym (m.flags i (tree_at ts i) (tree_at-Holds ts i (let w = m.within in omega (arith, l, w))) l) ∙ any-default met i false
    r l ∙ sym e ∙ f

-- A declaration's trees
pub visited-declaration : (done met : List Tree) (d : Declaration) → Alike done met → IsClosed met → visited_in done d ≡ done ++ firsts met (parts_in d)
visited-declaration done met d h c = body d.body ∙ refl
  where
    one : visit done d.ty ≡ done ++ firsts met (parts d.ty)
    one = visited d.ty done met h c

    body : (o : Option Tree) → option_map_or (visit (visit done d.ty)) o (visit done d.ty) ≡ done ++ firsts met (parts d.ty ++ option_map_or parts o [])
    body None = one ∙ ap (λ l. done ++ firsts met l) (sym (append-nil (parts d.ty)))
    body (Some t) =
        visited t (visit done d.ty) (met ++ parts d.ty) (visited-alike d.ty done met h c) (closed-more met d.ty c)
        ∙ ap (λ l. l ++ firsts (met ++ parts d.ty) (parts t)) one
        ∙ append_assoc done (firsts met (parts d.ty)) (firsts (met ++ parts d.ty) (parts t))
        ∙ ap (λ l. done ++ l) (sym (firsts-append met (parts d.ty) (parts t)))

pub alike-declaration : (done met : List Tree) (d : Declaration) → Alike done met → IsClosed met → Alike (visited_in done d) (met ++ parts_in d)
alike-declaration done met d h c = body d.body
  where
    body : (o : Option Tree) → Alike (option_map_or (visit (visit done d.ty)) o (visit done d.ty)) (met ++ (parts d.ty ++ option_map_or parts o []))
    body None = subst (λ l. Alike (visit done d.ty) (met ++ l)) (sym (append-nil (parts d.ty))) (visited-alike d.ty done met h c)
    body (Some t) = subst (λ l. Alike (visit (visit done d.ty) t) l) (append_assoc met (parts d.ty) (parts t))
        (visited-alike t (visit done d.ty) (met ++ parts d.ty) (visited-alike d.ty done met h c) (closed-more met d.ty c))

pub closed-declaration : (met : List Tree) (d : Declaration) → IsClosed met → IsClosed (met ++ parts_in d)
closed-declaration met d c = body d.body
  where
    body : (o : Option Tree) → IsClosed (met ++ (parts d.ty ++ option_map_or parts o []))
    body None = subst (λ l. IsClosed (met ++ l)) (sym (append-nil (parts d.ty))) (closed-more met d.ty c)
    body (Some t) = subst IsClosed (append_assoc met (parts d.ty) (parts t)) (closed-more (met ++ parts d.ty) t (closed-more met d.ty c))

-- A grown table
pub trees-stay : (old new : List Tree) (n : ℕ) (ids : List LpId) → Keeps old new → n ≤ length old → AreIdsBelow n ids → trees_at new ids ≡ trees_at old ids
trees-stay old new n [] k l h = refl
trees-stay old new n (id ∷ ids) k l h = ap₂ (λ x xs. x ∷ xs) (sym (tree_at-Stays k.stays id.0 (omega (arith, h.0, l)))) (trees-stay old new n ids k l h.1)

pub meeting-after : (old new : List Tree) (met : List Bool) (order : List LpId) → Keeps old new → IsMeeting old met order → IsMeeting new met order
meeting-after old new met order k m = record {
  distinct = k.distinct m.distinct;
  within = (let w = m.within in let l = k.longer in omega (arith, w, l));
  known = m.known;
  flags = λ i t h l.
      let here : Holds old i (tree_at old i) = tree_at-Holds old i (let w = m.within in omega (arith, l, w)) in
      let same : tree_at old i ≡ t = same_Some _ _ (sym (k.stays.each i (tree_at old i) here) ∙ h) in
      m.flags i t (subst (Holds old i) same here) l ∙ ap (is_in t) (sym (trees-stay old new (length met) order k m.within m.known));
}

-- Nothing is met at first
pub none-met : (ts : List Tree) (met : List Bool) (order : List LpId) → IsDistinct ts → length met ≤ length ts → met ≡ replicate (length met) false → order ≡ []
    → IsMeeting ts met order
none-met ts met order d l e f = subst (λ o. IsMeeting ts met o) (sym f) record {
  distinct = d;
  within = l;
  known = tt;
  flags = λ i t h m. subst (λ xs. get_or xs i false ≡ false) (sym e) (get_or-replicate (length met) i false false m);
}

pub none-closed : IsClosed []
none-closed u w h k = absurd (cc)

-- Nothing goes
longer-one : (done : List Tree) (t : Tree) → length done ≤ length (if is_in t done then done else done ++ t ∷ [])
longer-one done t = go (is_in t done)
  where
    go : (b : Bool) → length done ≤ length (if b then done else done ++ t ∷ [])
    go true = omega arith
    go false = omega (arith, length-append done (t ∷ []))

longer-two : (done both : List Tree) (t : Tree) → length done ≤ length both → length done ≤ length (if is_in t done then done else both ++ t ∷ [])
longer-two done both t l = go (is_in t done)
  where
    go : (b : Bool) → length done ≤ length (if b then done else both ++ t ∷ [])
    go true = omega arith
    go false = omega (arith, l, length-append both (t ∷ []))

visit-longer : (t : Tree) (done : List Tree) → length done ≤ length (visit done t)
visit-longer (App f x) done = longer-two done (visit (visit done f) x) (App f x) (omega (arith, visit-longer f done, visit-longer x (visit done f)))
visit-longer (Lam f x) done = longer-two done (visit (visit done f) x) (Lam f x) (omega (arith, visit-longer f done, visit-longer x (visit done f)))
visit-longer (Pi f x) done = longer-two done (visit (visit done f) x) (Pi f x) (omega (arith, visit-longer f done, visit-longer x (visit done f)))
visit-longer SortType done = longer-one done SortType
visit-longer SortKind done = longer-one done SortKind
visit-longer (Var n) done = longer-one done (Var n)
visit-longer (Sym n) done = longer-one done (Sym n)

visited-longer : (done : List Tree) (d : Declaration) → length done ≤ length (visited_in done d)
visited-longer done d = body d.body
  where
    body : (o : Option Tree) → length done ≤ length (option_map_or (visit (visit done d.ty)) o (visit done d.ty))
    body None = visit-longer d.ty done
    body (Some t) = omega (arith, visit-longer d.ty done, visit-longer t (visit done d.ty))

pub order-longer : (ts : List Tree) (order order' : List LpId) (d : Declaration) → trees_at ts order' ≡ visited_in (trees_at ts order) d
    → length order ≤ length order'
order-longer ts order order' d e =
    let a = length-map order (λ (id : LpId). tree_at ts id.0) in
    let b = length-map order' (λ (id : LpId). tree_at ts id.0) in
    let c = ap length e in
    omega (arith, a, b, c, visited-longer (trees_at ts order) d)
