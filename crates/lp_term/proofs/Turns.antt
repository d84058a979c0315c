-- What a turn does to a walk.
use Rattle.std.proofs.Common.{◌≡◌, ℕ, zero, suc, ◌+◌, ◌-◌, ◌*◌, ◌<◌, ◌≤◌, ◌^◌, refl, sym, ap, ◌∙◌, subst, arith, List, [], ◌∷◌, ◌++◌, map, length, Some, ◌⊎◌, ⊎_elim, reverse}
use Rattle.std.specs.Prelude.{slice_get}
use Rattle.std.specs.Option.{option_map, option_map_or}
use Rattle.std.proofs.lemmas.Option.{slice_get-map, same_Some}
use Rattle.std.proofs.lemmas.List.{length-map, map-append, reverse-append}
use Rattle.std.proofs.Math.Path.{ap₂}
use Rattle.lp_spec.specs.Trees.{Tree, SortType, SortKind, Var, Sym, App, Lam, Pi, size, loose, lift, put_all_at}
use Rattle.lp_binding_laws.specs.Composition.{put_all_var-high}
use Rattle.lp_binding_laws.specs.Closed.{lift_at-closed, lift_at-zero, put_all_at-closed}
use Rattle.lp_binding_laws.specs.Binding.{size-positive}
use Rattle.lp_term.specs.declared.LpId.{LpId}
use Rattle.lp_term.specs.declared.LpNode.{LpNode}
use Rattle.lp_term.specs.declared.LpNode.TheVariants as node
use Rattle.lp_term.specs.declared.memo.Change.{Change}
use Rattle.lp_term.specs.declared.memo.Change.TheVariants.{Raise, Replace}
use Rattle.lp_term.specs.declared.memo.Place.{Place}
use Rattle.lp_term.specs.declared.walk.Task.{Task}
use Rattle.lp_term.specs.declared.walk.Task.TheVariants.{Visit, Join}
use Rattle.lp_term.specs.declared.walk.Variable.TheVariants.{Renamed, Argument}
use Rattle.lp_term.specs.Tables.{tree_at, trees_at, tree_of_node, PartsBelow, AreKnown, Holds, Keeps}
use Rattle.lp_term.specs.TableLaws.{tree_at-Holds, tree_at-Stays, Holds-tree_at, Holds-within, Keeps-refl}
use Rattle.tree_map.specs.Noted.{IsNoted}
use Rattle.lp_term.specs.Walks.{changed, wanted, with_parts, joined, Makes, IsPlace, ArePlaces, IsMemo, IsLeftAlone, IsReplaced, IsWalk, sizes, price, work}

-- a longer table does the same
module _ {ts us : List Tree} (keeps : Keeps ts us) where
  wanted-Keeps : (args : List Tree) (p : Place) → p.id.0 < length ts → wanted args ts p ≡ wanted args us p
  wanted-Keeps args p h = ap (λ t. changed args p.change p.depth t) (tree_at-Stays keeps.stays p.id.0 h)

  AreKnown-Keeps : (ids : List LpId) → AreKnown ts ids → AreKnown us ids
  AreKnown-Keeps [] h = tt
  AreKnown-Keeps (id ∷ ids) h = (omega (arith, keeps.longer, h.0), AreKnown-Keeps ids h.1)

  trees_at-Keeps : (ids : List LpId) → AreKnown ts ids → trees_at ts ids ≡ trees_at us ids
  trees_at-Keeps [] h = refl
  trees_at-Keeps (id ∷ ids) h = ap₂ (λ t l. t ∷ l) (tree_at-Stays keeps.stays id.0 h.0) (trees_at-Keeps ids h.1)

  ArePlaces-Keeps : (tasks : List Task) → ArePlaces ts tasks → ArePlaces us tasks
  ArePlaces-Keeps [] h = tt
  ArePlaces-Keeps (t ∷ tasks) h = ((omega (arith, keeps.longer, h.0.0), h.0.1), ArePlaces-Keeps tasks h.1)

  IsMemo-Keeps : (args : List Tree) (memo : List (Place × LpId)) → IsMemo args ts memo → IsMemo args us memo
  IsMemo-Keeps args memo h p r n = let w = h p r n in
      (omega (arith, keeps.longer, w.0), keeps.stays.each r.0 (wanted args ts p) w.1 ∙ ap Some (wanted-Keeps args p w.0))

  Makes-Keeps : (args : List Tree) (tasks : List Task) (made : List Tree) (goal : Tree) → ArePlaces ts tasks → Makes args ts tasks made goal
      → Makes args us tasks made goal
  Makes-Keeps args [] made goal h m = m
  Makes-Keeps args (Visit p ∷ tasks) made goal h m =
      Makes-Keeps args tasks (wanted args us p ∷ made) goal h.1 (subst (λ t. Makes args ts tasks (t ∷ made) goal) (wanted-Keeps args p h.0.0) m)
  Makes-Keeps args (Join p ∷ tasks) (x ∷ f ∷ made) goal h m = (
    ap (λ t. joined t f x) (sym (tree_at-Stays keeps.stays p.id.0 h.0.0)) ∙ m.0 ∙ wanted-Keeps args p h.0.0,
    Makes-Keeps args tasks (wanted args us p ∷ made) goal h.1 (subst (λ t. Makes args ts tasks (t ∷ made) goal) (wanted-Keeps args p h.0.0) m.1),
  )
  Makes-Keeps args (Join p ∷ tasks) (x ∷ []) goal h m = m
  Makes-Keeps args (Join p ∷ tasks) [] goal h m = m

  sizes-Keeps : (ids : List LpId) → AreKnown ts ids → sizes ts ids ≡ sizes us ids
  sizes-Keeps [] h = refl
  sizes-Keeps (id ∷ ids) h = ap₂ (λ t n. size t + n) (tree_at-Stays keeps.stays id.0 h.0) (sizes-Keeps ids h.1)

  pub work-Keeps : (ids : List LpId) (tasks : List Task) → AreKnown ts ids → ArePlaces ts tasks → work ts ids tasks ≡ work us ids tasks
  work-Keeps ids [] g h = refl
  work-Keeps ids (Visit p ∷ tasks) g h =
      ap₂ (λ a b. a + b) (ap₂ (λ n t. price n p.change * size t) (sizes-Keeps ids g) (tree_at-Stays keeps.stays p.id.0 h.0.0)) (work-Keeps ids tasks g h.1)
  work-Keeps ids (Join p ∷ tasks) g h = ap (λ n. 1 + n) (work-Keeps ids tasks g h.1)

price_two : (n : ℕ) (c : Change) → 2 ≤ price n c
price_two n (Raise k) = omega arith
price_two n Replace = omega arith

price_pos : (n : ℕ) (c : Change) (t : Tree) → 0 < price n c * size t
price_pos n (Raise k) t = omega (arith, size-positive t)
price_pos n Replace t = omega (arith, size-positive t)

-- a visit that gives a tree
module _ {ts us : List Tree} (keeps : Keeps ts us) (ids : List LpId) (place : Place) (tasks : List Task) (made : List LpId) (memo : List (Place × LpId)) where
  -- the tree that is given is the one that is wanted
  abbrev pub IsWanted : LpId → Type 0
  IsWanted id = (args : List Tree) (goal : Tree) → IsWalk args goal ts ids (Visit place ∷ tasks) made memo → Holds us id.0 (wanted args ts place)

  pub visit_given : (id : LpId) → IsWanted id → (args : List Tree) (goal : Tree) → IsWalk args goal ts ids (Visit place ∷ tasks) made memo
      → IsWalk args goal us ids tasks (id ∷ made) memo
  visit_given id is args goal w =
      let e = is args goal w in
      record {
        given = AreKnown-Keeps keeps ids w.given;
        arguments = sym (trees_at-Keeps keeps ids w.given) ∙ w.arguments;
        places = ArePlaces-Keeps keeps tasks w.places.1;
        known = (Holds-within us id.0 (wanted args ts place) e, AreKnown-Keeps keeps made w.known);
        noted = IsMemo-Keeps keeps args memo w.noted;
        makes = Makes-Keeps keeps args tasks (trees_at us (id ∷ made)) goal w.places.1
            (subst (λ l. Makes args ts tasks l goal)
            (ap₂ (λ t l. t ∷ l) (sym (Holds-tree_at us id.0 (wanted args ts place) e)) (trees_at-Keeps keeps made w.known)) w.makes);
      }

  pub visit_less : (args : List Tree) (goal : Tree) → IsWalk args goal ts ids (Visit place ∷ tasks) made memo
      → work us ids tasks < work ts ids (Visit place ∷ tasks)
  visit_less args goal w = omega (arith, work-Keeps keeps ids tasks w.given w.places.1, price_pos (sizes ts ids) place.change (tree_at ts place.id.0))

changed-closed : (args : List Tree) (c : Change) (d : ℕ) (t : Tree) → loose t ≤ d → changed args c d t ≡ t
changed-closed args (Raise k) d t h = lift_at-closed d k t h
changed-closed args Replace d t h = put_all_at-closed d args t h

-- what is left alone, or made already, is what is wanted
pub already_wanted : {ts : List Tree} (ids : List LpId) (place : Place) (tasks : List Task) (made : List LpId) (memo : List (Place × LpId)) (id : LpId)
    → ((id ≡ place.id) × IsLeftAlone ts place) ⊎ IsNoted memo place id → IsWanted (Keeps-refl ts) ids place tasks made memo id
already_wanted {ts = ts} ids place tasks made memo id h args goal w = ⊎_elim
    (λ alone. let b : place.depth < 2 ^ 64 = omega (arith, w.places.0.1) in
    let e : wanted args ts place ≡ tree_at ts place.id.0 = ⊎_elim
    (λ zero. ap (λ c. changed args c place.depth (tree_at ts place.id.0)) zero ∙ lift_at-zero place.depth (tree_at ts place.id.0))
    (λ closed. changed-closed args place.change place.depth (tree_at ts place.id.0) (closed b))
    alone.1 in
    ap (λ i. slice_get ts i.0) alone.0 ∙ tree_at-Holds ts place.id.0 w.places.0.0 ∙ ap Some (sym e))
    (λ noted. (w.noted place id noted).1)
    h

-- a tree that the change leaves alone is the one that is wanted
pub left_alone : (ts args : List Tree) (place : Place) → IsPlace ts place → IsLeftAlone ts place → Holds ts place.id.0 (wanted args ts place)
left_alone ts args place here alone =
    let b : place.depth < 2 ^ 64 = omega (arith, here.1) in
    let e : wanted args ts place ≡ tree_at ts place.id.0 = ⊎_elim
    (λ zero. ap (λ c. changed args c place.depth (tree_at ts place.id.0)) zero ∙ lift_at-zero place.depth (tree_at ts place.id.0))
    (λ closed. changed-closed args place.change place.depth (tree_at ts place.id.0) (closed b))
    alone in
    tree_at-Holds ts place.id.0 here.0 ∙ ap Some (sym e)

-- a leaf that no change alters
pub leaf_wanted : {ts : List Tree} (ids : List LpId) (place : Place) (tasks : List Task) (made : List LpId) (memo : List (Place × LpId)) (t : Tree)
    → Holds ts place.id.0 t → loose t ≡ 0 → IsWanted (Keeps-refl ts) ids place tasks made memo place.id
leaf_wanted {ts = ts} ids place tasks made memo t h z args goal w =
    let b : loose t ≤ place.depth = omega (arith, z) in
    h ∙ ap Some (sym (ap (changed args place.change place.depth) (Holds-tree_at ts place.id.0 t h) ∙ changed-closed args place.change place.depth t b))

-- the variable that stands for a variable is wanted
pub renamed_wanted : {ts us : List Tree} (keeps : Keeps ts us) (ids : List LpId) (place : Place) (tasks : List Task) (made : List LpId)
    (memo : List (Place × LpId)) (n m : ℕ) (id : LpId) → Holds ts place.id.0 (Var n) → IsReplaced ids place n (Renamed m) → Holds us id.0 (Var m)
    → IsWanted keeps ids place tasks made memo id
renamed_wanted {ts = ts} keeps ids place tasks made memo n m id h r e args goal w =
    let len : length args ≡ length ids = sym (ap length w.arguments) ∙ length-map ids (λ i. tree_at ts i.0) in
    e ∙ ap Some (sym (ap (changed args place.change place.depth) (Holds-tree_at ts place.id.0 (Var n) h) ∙ r args len))

AreKnown-at : (ts : List Tree) (ids : List LpId) (i : ℕ) (id : LpId) → slice_get ids i ≡ Some id → AreKnown ts ids → id.0 < length ts
AreKnown-at ts [] i id e h = absurd (cc)
AreKnown-at ts (x ∷ ids) zero id e h = subst (λ y. y.0 < length ts) (same_Some _ _ e) h.0
AreKnown-at ts (x ∷ ids) (suc i) id e h = AreKnown-at ts ids i id e h.1

sizes-at : (ts : List Tree) (ids : List LpId) (i : ℕ) (id : LpId) → slice_get ids i ≡ Some id → size (tree_at ts id.0) ≤ sizes ts ids
sizes-at ts [] i id e = absurd (cc)
sizes-at ts (x ∷ ids) zero id e = omega (arith, ap (λ y. size (tree_at ts y.0)) (same_Some _ _ e))
sizes-at ts (x ∷ ids) (suc i) id e = omega (arith, sizes-at ts ids i id e)

map-reverse : {X Y : Type 0} (f : X → Y) (xs : List X) → map f (reverse xs) ≡ reverse (map f xs)
map-reverse f [] = refl
map-reverse f (x ∷ xs) =
    ap (map f) (reverse-append (x ∷ []) xs) ∙ map-append f (reverse xs) (x ∷ []) ∙ ap (λ l. l ++ f x ∷ []) (map-reverse f xs)
    ∙ sym (reverse-append (f x ∷ []) (map f xs))

-- an argument that is lifted stands for the variable
module _ (ts : List Tree) (ids : List LpId) (place : Place) (tasks : List Task) (made : List LpId) (memo : List (Place × LpId)) (n : ℕ) (id : LpId)
    (small : length ts < 2 ^ 63) (h : Holds ts place.id.0 (Var n)) (r : IsReplaced ids place n (Argument id)) where
  pub argument_walk : (args : List Tree) (goal : Tree) → IsWalk args goal ts ids (Visit place ∷ tasks) made memo
      → IsWalk args goal ts ids (Visit (record { id = id; depth = 0; change = Raise place.depth }) ∷ tasks) made memo
  argument_walk args goal w =
      let lt = AreKnown-at ts ids r.3.0 id r.3.1 w.given in
      let at = ap (λ l. slice_get l (n - place.depth)) (ap reverse (sym w.arguments) ∙ sym (map-reverse (λ i. tree_at ts i.0) ids))
      ∙ slice_get-map (λ i. tree_at ts i.0) (reverse ids) (n - place.depth) ∙ ap (option_map (λ i. tree_at ts i.0)) r.2 in
      let e : wanted args ts place ≡ lift place.depth (tree_at ts id.0) =
      ap (λ c. changed args c place.depth (tree_at ts place.id.0)) r.0
      ∙ ap (put_all_at place.depth args) (Holds-tree_at ts place.id.0 (Var n) h)
      ∙ put_all_var-high place.depth args n r.1
      ∙ ap (λ o. option_map_or (lift place.depth) o (Var (n - length args))) at in
      record {
        given = w.given;
        arguments = w.arguments;
        places = ((lt, omega (arith, lt, small)), w.places.1);
        known = w.known;
        noted = w.noted;
        makes = subst (λ t. Makes args ts tasks (t ∷ trees_at ts made) goal) e w.makes;
      }

  pub argument_less : work ts ids (Visit (record { id = id; depth = 0; change = Raise place.depth }) ∷ tasks) < work ts ids (Visit place ∷ tasks)
  argument_less =
      let s = sizes-at ts ids r.3.0 id r.3.1 in
      let p : price (sizes ts ids) place.change * size (tree_at ts place.id.0) ≡ (2 * sizes ts ids + 2) * 1 =
      ap₂ (λ c t. price (sizes ts ids) c * size t) r.0 (Holds-tree_at ts place.id.0 (Var n) h) in
      omega (arith, s, p)

-- a place that is set out to be made of its parts
module _ (ts : List Tree) (ids : List LpId) (place : Place) (tasks : List Task) (made : List LpId) (memo : List (Place × LpId)) (first second : LpId)
    (depth : ℕ) where
  abbrev pub two_parts : List Task
  two_parts = Visit (record place { id = first; depth = place.depth }) ∷ Visit (record place { id = second; depth = depth }) ∷ Join place ∷ tasks

  parts_walk : first.0 < place.id.0 → second.0 < place.id.0 → depth ≤ suc place.depth
      → ((args : List Tree) → joined (tree_at ts place.id.0) (changed args place.change place.depth (tree_at ts first.0))
      (changed args place.change depth (tree_at ts second.0)) ≡ wanted args ts place) → (args : List Tree) (goal : Tree)
      → IsWalk args goal ts ids (Visit place ∷ tasks) made memo → IsWalk args goal ts ids two_parts made memo
  parts_walk f x d join args goal w = record {
    given = w.given;
    arguments = w.arguments;
    places = (
      (omega (arith, f, w.places.0.0), omega (arith, f, w.places.0.1)),
      ((omega (arith, x, w.places.0.0), omega (arith, x, d, w.places.0.1)), (w.places.0, w.places.1)),
    );
    known = w.known;
    noted = w.noted;
    makes = (join args, w.makes);
  }

  parts_less : size (tree_at ts place.id.0) ≡ 1 + size (tree_at ts first.0) + size (tree_at ts second.0)
      → work ts ids two_parts < work ts ids (Visit place ∷ tasks)
  parts_less s =
      let p = price_two (sizes ts ids) place.change in
      let e : price (sizes ts ids) place.change * size (tree_at ts place.id.0)
      ≡ price (sizes ts ids) place.change * (1 + size (tree_at ts first.0) + size (tree_at ts second.0)) =
      ap (λ n. price (sizes ts ids) place.change * n) s in
      omega (arith, p, e)

joined-App : (args : List Tree) (c : Change) (d : ℕ) (f x : Tree) → joined (App f x) (changed args c d f) (changed args c d x) ≡ changed args c d (App f x)
joined-App args (Raise k) d f x = refl
joined-App args Replace d f x = refl

joined-Lam : (args : List Tree) (c : Change) (d : ℕ) (a b : Tree) → joined (Lam a b) (changed args c d a) (changed args c (suc d) b)
    ≡ changed args c d (Lam a b)
joined-Lam args (Raise k) d a b = refl
joined-Lam args Replace d a b = refl

joined-Pi : (args : List Tree) (c : Change) (d : ℕ) (a b : Tree) → joined (Pi a b) (changed args c d a) (changed args c (suc d) b) ≡ changed args c d (Pi a b)
joined-Pi args (Raise k) d a b = refl
joined-Pi args Replace d a b = refl

-- of an application, an abstraction or a product
module _ (ts : List Tree) (ids : List LpId) (place : Place) (tasks : List Task) (made : List LpId) (memo : List (Place × LpId)) (f x : LpId) where
  pub app_walk : Holds ts place.id.0 (App (tree_at ts f.0) (tree_at ts x.0)) → (f.0 < place.id.0) × (x.0 < place.id.0) → (args : List Tree) (goal : Tree)
      → IsWalk args goal ts ids (Visit place ∷ tasks) made memo → IsWalk args goal ts ids (two_parts ts ids place tasks made memo f x place.depth) made memo
  app_walk h low = parts_walk ts ids place tasks made memo f x place.depth low.0 low.1 (omega arith)
      (λ args. subst (λ t. joined t (changed args place.change place.depth (tree_at ts f.0)) (changed args place.change place.depth (tree_at ts x.0))
      ≡ changed args place.change place.depth t) (sym (Holds-tree_at ts place.id.0 (App (tree_at ts f.0) (tree_at ts x.0)) h))
      (joined-App args place.change place.depth (tree_at ts f.0) (tree_at ts x.0)))

  pub app_less : Holds ts place.id.0 (App (tree_at ts f.0) (tree_at ts x.0))
      → work ts ids (two_parts ts ids place tasks made memo f x place.depth) < work ts ids (Visit place ∷ tasks)
  app_less h = parts_less ts ids place tasks made memo f x place.depth (ap size (Holds-tree_at ts place.id.0 (App (tree_at ts f.0) (tree_at ts x.0)) h))

  next : place.depth + 1 ≡ suc place.depth
  next = omega arith

  pub lam_walk : Holds ts place.id.0 (Lam (tree_at ts f.0) (tree_at ts x.0)) → (f.0 < place.id.0) × (x.0 < place.id.0) → (args : List Tree) (goal : Tree)
      → IsWalk args goal ts ids (Visit place ∷ tasks) made memo
      → IsWalk args goal ts ids (two_parts ts ids place tasks made memo f x (place.depth + 1)) made memo
  lam_walk h low = parts_walk ts ids place tasks made memo f x (place.depth + 1) low.0 low.1 (omega arith)
      (λ args. subst (λ t. joined t (changed args place.change place.depth (tree_at ts f.0)) (changed args place.change (place.depth + 1) (tree_at ts x.0))
      ≡ changed args place.change place.depth t) (sym (Holds-tree_at ts place.id.0 (Lam (tree_at ts f.0) (tree_at ts x.0)) h))
      (ap (λ d. Lam (changed args place.change place.depth (tree_at ts f.0)) (changed args place.change d (tree_at ts x.0))) next
      ∙ joined-Lam args place.change place.depth (tree_at ts f.0) (tree_at ts x.0)))

  pub lam_less : Holds ts place.id.0 (Lam (tree_at ts f.0) (tree_at ts x.0))
      → work ts ids (two_parts ts ids place tasks made memo f x (place.depth + 1)) < work ts ids (Visit place ∷ tasks)
  lam_less h = parts_less ts ids place tasks made memo f x (place.depth + 1) (ap size (Holds-tree_at ts place.id.0 (Lam (tree_at ts f.0) (tree_at ts x.0)) h))

  pub pi_walk : Holds ts place.id.0 (Pi (tree_at ts f.0) (tree_at ts x.0)) → (f.0 < place.id.0) × (x.0 < place.id.0) → (args : List Tree) (goal : Tree)
      → IsWalk args goal ts ids (Visit place ∷ tasks) made memo
      → IsWalk args goal ts ids (two_parts ts ids place tasks made memo f x (place.depth + 1)) made memo
  pi_walk h low = parts_walk ts ids place tasks made memo f x (place.depth + 1) low.0 low.1 (omega arith)
      (λ args. subst (λ t. joined t (changed args place.change place.depth (tree_at ts f.0)) (changed args place.change (place.depth + 1) (tree_at ts x.0))
      ≡ changed args place.change place.depth t) (sym (Holds-tree_at ts place.id.0 (Pi (tree_at ts f.0) (tree_at ts x.0)) h))
      (ap (λ d. Pi (changed args place.change place.depth (tree_at ts f.0)) (changed args place.change d (tree_at ts x.0))) next
      ∙ joined-Pi args place.change place.depth (tree_at ts f.0) (tree_at ts x.0)))

  pub pi_less : Holds ts place.id.0 (Pi (tree_at ts f.0) (tree_at ts x.0))
      → work ts ids (two_parts ts ids place tasks made memo f x (place.depth + 1)) < work ts ids (Visit place ∷ tasks)
  pi_less h = parts_less ts ids place tasks made memo f x (place.depth + 1) (ap size (Holds-tree_at ts place.id.0 (Pi (tree_at ts f.0) (tree_at ts x.0)) h))

  -- an abstraction or a product, as a node
  module _ (n : LpNode) (h : Holds ts place.id.0 (tree_of_node ts n)) (is : (n ≡ node.Lam f x) ⊎ (n ≡ node.Pi f x)) where
    pub binder_walk : PartsBelow place.id.0 n → (args : List Tree) (goal : Tree) → IsWalk args goal ts ids (Visit place ∷ tasks) made memo
        → IsWalk args goal ts ids (two_parts ts ids place tasks made memo f x (place.depth + 1)) made memo
    binder_walk low = ⊎_elim
        (λ e. lam_walk (h ∙ ap (λ m. Some (tree_of_node ts m)) e) (subst (PartsBelow place.id.0) e low))
        (λ e. pi_walk (h ∙ ap (λ m. Some (tree_of_node ts m)) e) (subst (PartsBelow place.id.0) e low))
        is

    pub binder_less : work ts ids (two_parts ts ids place tasks made memo f x (place.depth + 1)) < work ts ids (Visit place ∷ tasks)
    binder_less = ⊎_elim (λ e. lam_less (h ∙ ap (λ m. Some (tree_of_node ts m)) e)) (λ e. pi_less (h ∙ ap (λ m. Some (tree_of_node ts m)) e)) is

-- a node made of two trees is theirs joined
tree_of_node-with_parts : (ts : List Tree) (n : LpNode) (f x : LpId) → tree_of_node ts (with_parts n f x)
    ≡ joined (tree_of_node ts n) (tree_at ts f.0) (tree_at ts x.0)
tree_of_node-with_parts ts node.SortType f x = refl
tree_of_node-with_parts ts node.SortKind f x = refl
tree_of_node-with_parts ts (node.Var n) f x = refl
tree_of_node-with_parts ts (node.Sym s) f x = refl
tree_of_node-with_parts ts (node.App a b) f x = refl
tree_of_node-with_parts ts (node.Lam a b) f x = refl
tree_of_node-with_parts ts (node.Pi a b) f x = refl

-- the parts of such a node are below a number that both are, and the node's own are
pub with_parts_below : (k : ℕ) (n : LpNode) (f x : LpId) → f.0 < k → x.0 < k → PartsBelow k (with_parts n f x)
with_parts_below k node.SortType f x a b = tt
with_parts_below k node.SortKind f x a b = tt
with_parts_below k (node.Var n) f x a b = tt
with_parts_below k (node.Sym s) f x a b = tt
with_parts_below k (node.App p q) f x a b = (a, b)
with_parts_below k (node.Lam p q) f x a b = (a, b)
with_parts_below k (node.Pi p q) f x a b = (a, b)

-- a place whose parts are made
module _ {ts us : List Tree} (keeps : Keeps ts us) (ids : List LpId) (place : Place) (tasks : List Task) (made rest : List LpId)
    (memo noted : List (Place × LpId)) (first second id : LpId) (n : LpNode) where
  pub join_walk : made ≡ second ∷ first ∷ rest → Holds ts place.id.0 (tree_of_node ts n) → Holds us id.0 (tree_of_node ts (with_parts n first second))
      → ((p : Place) (r : LpId) → IsNoted noted p r → IsNoted memo p r ⊎ ((p ≡ place) × (r ≡ id))) → (args : List Tree) (goal : Tree)
      → IsWalk args goal ts ids (Join place ∷ tasks) made memo → IsWalk args goal us ids tasks (id ∷ rest) noted
  join_walk em h e notes args goal w =
      let known = subst (AreKnown ts) em w.known in
      let makes = subst (λ m. Makes args ts (Join place ∷ tasks) (trees_at ts m) goal) em w.makes in
      let is : Holds us id.0 (wanted args ts place) =
      e ∙ ap Some (tree_of_node-with_parts ts n first second
      ∙ ap (λ t. joined t (tree_at ts first.0) (tree_at ts second.0)) (sym (Holds-tree_at ts place.id.0 (tree_of_node ts n) h)) ∙ makes.0) in
      record {
        given = AreKnown-Keeps keeps ids w.given;
        arguments = sym (trees_at-Keeps keeps ids w.given) ∙ w.arguments;
        places = ArePlaces-Keeps keeps tasks w.places.1;
        known = (Holds-within us id.0 (wanted args ts place) is, AreKnown-Keeps keeps rest known.1.1);
        noted = λ p r q. ⊎_elim (λ old. IsMemo-Keeps keeps args memo w.noted p r old) (λ new. here args is w.places.0.0 p r new.0 new.1) (notes p r q);
        makes = Makes-Keeps keeps args tasks (trees_at us (id ∷ rest)) goal w.places.1
            (subst (λ l. Makes args ts tasks l goal)
            (ap₂ (λ t l. t ∷ l) (sym (Holds-tree_at us id.0 (wanted args ts place) is)) (trees_at-Keeps keeps rest known.1.1)) makes.1);
      }
    where
      here : (args : List Tree) → Holds us id.0 (wanted args ts place) → place.id.0 < length ts → (p : Place) (r : LpId) → p ≡ place → r ≡ id
          → (p.id.0 < length us) × Holds us r.0 (wanted args us p)
      here args is lt p r ep er =
          let both : (place.id.0 < length us) × Holds us id.0 (wanted args us place) =
          (omega (arith, keeps.longer, lt), is ∙ ap Some (wanted-Keeps keeps args place lt)) in
          subst (λ q. (q.id.0 < length us) × Holds us r.0 (wanted args us q)) (sym ep)
          (subst (λ s. (place.id.0 < length us) × Holds us s.0 (wanted args us place)) (sym er) both)

  pub join_less : (args : List Tree) (goal : Tree) → IsWalk args goal ts ids (Join place ∷ tasks) made memo
      → work us ids tasks < work ts ids (Join place ∷ tasks)
  join_less args goal w = omega (arith, work-Keeps keeps ids tasks w.given w.places.1)

-- where no task is left, the tree on top is the one that is wanted
pub walk_done : (args : List Tree) (goal : Tree) (ts : List Tree) (ids : List LpId) (tasks : List Task) (made : List LpId) (memo : List (Place × LpId))
    (r : LpId) (rest : List LpId) → tasks ≡ [] → made ≡ r ∷ rest → IsWalk args goal ts ids tasks made memo → Holds ts r.0 goal
walk_done args goal ts ids tasks made memo r rest et em w =
    let known = subst (AreKnown ts) em w.known in
    let makes = subst (λ m. Makes args ts [] (trees_at ts m) goal) em (subst (λ t. Makes args ts t (trees_at ts made) goal) et w.makes) in
    tree_at-Holds ts r.0 known.0 ∙ ap Some (first makes)
  where
    top : List Tree → Tree
    top [] = SortType
    top (x ∷ xs) = x

    first : {a b : Tree} {xs ys : List Tree} → (a ∷ xs) ≡ (b ∷ ys) → a ≡ b
    first e = ap top e

-- a walk at its beginning
pub walk_begins : (ts : List Tree) (ids : List LpId) (root : Place) (memo : List (Place × LpId)) → IsPlace ts root → AreKnown ts ids
    → ((p : Place) (r : LpId) → IsNoted memo p r → ⊥) → IsWalk (trees_at ts ids) (wanted (trees_at ts ids) ts root) ts ids (Visit root ∷ []) [] memo
walk_begins ts ids root memo p g none = record {
  given = g;
  arguments = refl;
  places = (p, tt);
  known = tt;
  noted = λ q r n. absurd (none q r n);
  makes = refl;
}
