-- What a turn does to a walk over terms.
use Rattle.std.proofs.Common.{◌≡◌, ◌⊎◌, ℕ, suc, ◌+◌, ◌-◌, ◌<◌, ◌≤◌, Bool, true, false, cond, refl, sym, ap, ◌∙◌, subst, arith, List, [], ◌∷◌, length, Some, ⊎_elim, inl, inr}
use Rattle.std.specs.Prelude.{nat_lt}
use Rattle.std.proofs.Math.Path.{fun_ext, ap₂}
use Rattle.hol_spec.specs.Names.{Name}
use Rattle.hol_spec.specs.Types.{HolType}
use Rattle.hol_spec.specs.Terms.{Term, free, bound, constant, app, lam}
use Rattle.hol_spec.specs.Limits.{term_size}
use Rattle.hol_type.specs.declared.table.TypeId.{TypeId}
use Rattle.hol_term.specs.declared.TermId.{TermId}
use Rattle.hol_term.specs.declared.Variable.{Variable as AVariable}
use Rattle.hol_term.specs.Tables.{Trees, term_at, type_at, Holds, IsDistinct}
use Rattle.hol_term.specs.TableLaws.{term_in-same, Some-term_in}
use Rattle.lp_spec.specs.Trees.{Tree, Var, Lam, lift}
use Rattle.lp_spec.specs.Modules.{term_of}
use Rattle.lp_binding_laws.specs.Composition.{lift_zero, lift_is, ren_is_sub}
use Rattle.lp_term.specs.declared.LpId.{LpId}
use Rattle.lp_term.specs.Tables as lp
use Rattle.holide_sig.specs.declared.module.Module.{Module}
use Rattle.translate_spec.specs.Scopes.{SymbolMap, constant_tree, type_tree, term_tree}
use Rattle.translate_laws.specs.DeepScopes.{deep, deep-suc}
use Rattle.translate_laws.specs.ListedScopes.{told_types, told}
use Rattle.translate_laws.specs.ScopeLaws.{type_tree-sub, term_tree-sub}
use Rattle.lp_spec.specs.Substitution.{sub}
use Rattle.translate_term.specs.declared.memo.Place.{Place}
use Rattle.translate_term.specs.declared.tasks.Task.{Task}
use Rattle.translate_term.specs.declared.tasks.Task.TheVariants.{Visit, Join}
use Rattle.translate_term.specs.Tasks.{IsNoted, IsDone, AreAll, OrIs, visits, work, PartsAre}
use Rattle.translate_term.specs.Told.{TellsType, TellsTerm}
use Rattle.translate_term.specs.Walks.{Grows, Given, IsGiven, IsTypeMemo, IsTypeStart, IsLeafAt, IsLeafMade, IsMadeAt, IsTermKnown, IsTermMemo, IsTermStart, IsTermWalk, IsApplication, IsAbstraction, HasParts, is_leaf, type_wanted, term_wanted, place_size}
use Rattle.translate_term.proofs.EndsLaws.{Ends-done, Ends-more, Ends-noted, Ends-set_out, noted-sound}
use Rattle.translate_term.specs.GrowLaws.{IsGiven-Grows, AreGiven-Grows, IsTermMemo-Keeps}
use Rattle.std.proofs.lemmas.Option.{same_Some}

-- To lift is to substitute.
lift-sub : (d : ℕ) (t : Tree) → lift d t ≡ sub (λ n. Var (n + d)) t
lift-sub d t = lift_is d t ∙ ren_is_sub (λ n. n + d) t

pub type-lift : (symbols : SymbolMap) (scope : Name → Tree) (d : ℕ) (t : HolType) → lift d (type_tree symbols scope t)
    ≡ type_tree symbols (λ n. lift d (scope n)) t
type-lift symbols scope d t = lift-sub d (type_tree symbols scope t) ∙ type_tree-sub symbols (λ n. Var (n + d)) scope t ∙ ap (λ w. type_tree symbols w t)
    (fun_ext (λ n. sym (lift-sub d (scope n))))

-- a constant and a free variable under binders are lifted from under none
pub constant-lift : (given : Given) (d : ℕ) (n : Name) (t : HolType) → lift d (term_wanted given 0 (constant n t)) ≡ term_wanted given d (constant n t)
constant-lift given d n t =
    lift-sub d (term_wanted given 0 (constant n t))
    ∙ term_tree-sub given.symbols (λ k. Var (k + d)) (deep 0 (told given.symbols given.types given.terms)) (constant n t)
    ∙ ap (λ w. constant_tree given.symbols w n t)
    (fun_ext (λ m. sym (lift-sub d (lift 0 (told_types given.types m))) ∙ ap (lift d) (lift_zero (told_types given.types m))))

pub free-lift : (given : Given) (d : ℕ) (n : Name) (t : HolType) → lift d (term_wanted given 0 (free n t)) ≡ term_wanted given d (free n t)
free-lift given d n t = ap (lift d) (lift_zero ((told given.symbols given.types given.terms).terms (n, t)))

pub leaf-lift : (given : Given) (d : ℕ) (t : Term) → is_leaf t ≡ true → lift d (term_wanted given 0 t) ≡ term_wanted given d t
leaf-lift given d (free n t) h = free-lift given d n t
leaf-lift given d (constant n t) h = constant-lift given d n t
leaf-lift given d (bound k) h = absurd cc
leaf-lift given d (app f x) h = absurd cc
leaf-lift given d (lam t b) h = absurd cc

-- a number is its binder's
pub bound-wanted : (given : Given) (d k : ℕ) → term_wanted given d (bound k) ≡ Var k
bound-wanted given d k = go (nat_lt k d) refl
  where
    back : nat_lt k d ≡ false → k - d + d ≡ k
    back e = let l : d ≤ k = grind (arith, e) in omega (arith, l)

    go : (b : Bool) → nat_lt k d ≡ b → cond b (Var k) (lift d (Var (k - d))) ≡ Var k
    go true e = refl
    go false e = lift_is d (Var (k - d)) ∙ ap Var (back e)

-- an abstraction's domain and body
pub lam-wanted : (given : Given) (d : ℕ) (t : HolType) (b : Term) → term_wanted given d (lam t b)
    ≡ Lam (term_of (lift d (type_wanted given t))) (term_wanted given (d + 1) b)
lam-wanted given d t b =
    ap₂ (λ a c. Lam (term_of a) c) (sym (type-lift given.symbols (told_types given.types) d t))
    (ap (λ w. term_tree given.symbols w b) (deep-suc d (told given.symbols given.types given.terms))
    ∙ ap (λ j. term_wanted given j b) (let e : suc d ≡ d + 1 = omega arith in e))

-- a term whose parts stand otherwise under binders is no such term
pub no-leaf : (trees : Trees) (id : TermId) (t : Term) → Holds trees id.0 t → is_leaf t ≡ false → IsLeafAt trees id → ⊥
no-leaf trees id t h other l = let e = ap is_leaf (same_Some _ _ (sym h ∙ l.is)) in let yes = l.leaf in cc

-- what stands for a term was noted for one of its places
pub leaf_noted : (key : Place) (old new : List (Place × LpId)) (trees : List Tree) (tree : Tree) (mark : LpId) → lp.Holds trees mark.0 (lift key.depth tree)
    → ((i : Place) (r : LpId) → IsNoted new i r → IsNoted old i r ⊎ ((i ≡ key) × (r ≡ mark))) → IsNoted new key mark
    → ((i : Place) (r : LpId) → IsNoted old i r → (i ≡ key) ⊎ IsNoted new i r) → IsLeafMade key old new trees tree
leaf_noted key old new trees tree mark h only is kept = record {
  only = λ i r n. ⊎_elim (λ a. inl a) (λ b. inr (ap (λ (p : Place). p.id) b.0, here i r b.0 b.1)) (only i r n);
  kept = λ i d. ⊎_elim (λ e. (mark, subst (λ p. IsNoted new p mark) (sym e) is)) (λ n. (d.0, n)) (kept i d.0 d.1);
  done = (mark, is);
}
  where
    here : (i : Place) (r : LpId) → i ≡ key → r ≡ mark → lp.Holds trees r.0 (lift i.depth tree)
    here i r e f =
        subst (λ (p : Place). lp.Holds trees r.0 (lift p.depth tree)) (sym e)
        (subst (λ (m : LpId). lp.Holds trees m.0 (lift key.depth tree)) (sym f) h)

-- and then for another
pub leaf_noted-then : (place key : Place) (old between new : List (Place × LpId)) (trees now : List Tree) (tree : Tree) → key.id ≡ place.id
    → lp.Keeps trees now → IsLeafMade key old between trees tree → IsLeafMade place between new now tree → IsLeafMade place old new now tree
leaf_noted-then place key old between new trees now tree e keeps f s = record {
  only = λ i r n. ⊎_elim (λ a. ⊎_elim (λ b. inl b) (λ b. inr (b.0 ∙ e, keeps.stays.each r.0 _ b.1)) (f.only i r a)) (λ b. inr b) (s.only i r n);
  kept = λ i d. s.kept i (f.kept i d);
  done = s.done;
}

-- a walk at its beginning
pub term_begins : (given : Given) (root : Place) (m : Module) (trees : Trees) (names : List (Name × LpId)) (variables : List (AVariable × LpId))
    (made : List (Place × LpId)) (types : List (TypeId × LpId))
    → ((k : Place) (r : LpId) → IsNoted made k r → ⊥) → ((k : TypeId) (r : LpId) → IsNoted types k r → ⊥) → IsTermStart given root m trees names variables
    → IsTermWalk given root m trees names variables (Visit root ∷ []) made types
term_begins given root m trees names variables made types a b s = record {
  reads = s.reads;
  variables_told = s.variables_told;
  types_noted = λ id r n. absurd (b id r n);
  noted = λ place r n. absurd (a place r n);
  ends = (s.known, inr refl);
}

module _ (given : Given) (root : Place) (m : Module) (trees : Trees) (names : List (Name × LpId)) (variables : List (AVariable × LpId)) (place : Place)
    (tasks : List (Task Place)) (made : List (Place × LpId)) (types : List (TypeId × LpId)) where
  -- a term that was made already
  pub term_done : (r : LpId) → IsNoted made place r → IsTermWalk given root m trees names variables (Visit place ∷ tasks) made types
      → IsTermWalk given root m trees names variables tasks made types
  term_done r n w = record {
    reads = w.reads;
    variables_told = w.variables_told;
    types_noted = w.types_noted;
    noted = w.noted;
    ends = Ends-done (IsTermKnown given trees) (HasParts trees) root tasks (IsDone made) place (r, n) w.ends.1;
  }

  -- a term with parts
  term_set_out : (parts : List Place) → AreAll (IsTermKnown given trees) parts → HasParts trees place parts
      → IsTermWalk given root m trees names variables (Visit place ∷ tasks) made types
      → IsTermWalk given root m trees names variables (visits parts (Join place ∷ tasks)) made types
  term_set_out parts k h w = record {
    reads = w.reads;
    variables_told = w.variables_told;
    types_noted = w.types_noted;
    noted = w.noted;
    ends = Ends-set_out (IsTermKnown given trees) (HasParts trees) root place parts tasks (IsDone made) k h w.ends;
  }

  told-as : (t : Term) → Holds trees place.id.0 t → IsTermKnown given trees place → TellsTerm given.declarations given.symbols t
  told-as t h k = subst (TellsTerm given.declarations given.symbols) (Some-term_in trees.terms place.id.0 t h) k.told

  pub term_application : (f x : TermId) → f.0 < place.id.0 → x.0 < place.id.0 → Holds trees place.id.0 (app (term_at trees f.0) (term_at trees x.0))
      → IsTermWalk given root m trees names variables (Visit place ∷ tasks) made types
      → IsTermWalk given root m trees names variables
      (Visit (record { id = f; depth = place.depth }) ∷ Visit (record { id = x; depth = place.depth }) ∷ Join place ∷ tasks) made types
  term_application f x lf lx h w =
      let k = w.ends.0 in
      let t = told-as _ h k in
      let kf : f.0 < length trees.terms = omega (arith, lf, k.known) in
      let kx : x.0 < length trees.terms = omega (arith, lx, k.known) in
      term_set_out (record { id = f; depth = place.depth } ∷ record { id = x; depth = place.depth } ∷ []) (
        record { known = kf; countable = omega (arith, lf, k.countable); told = t.0 },
        (record { known = kx; countable = omega (arith, lx, k.countable); told = t.1 }, tt {0}),
      ) (inl (record { function = f; argument = x; function_known = kf; argument_known = kx; is = h; parts_are = refl })) w

  pub term_abstraction : (ty : TypeId) (b : TermId) → b.0 < place.id.0 → Holds trees place.id.0 (lam (type_at trees ty.0) (term_at trees b.0))
      → IsTermWalk given root m trees names variables (Visit place ∷ tasks) made types
      → IsTermWalk given root m trees names variables (Visit (record { id = b; depth = place.depth + 1 }) ∷ Join place ∷ tasks) made types
  term_abstraction ty b lb h w =
      let k = w.ends.0 in
      let t = told-as _ h k in
      let kb : b.0 < length trees.terms = omega (arith, lb, k.known) in
      term_set_out (record { id = b; depth = place.depth + 1 } ∷ []) (record { known = kb; countable = omega (arith, lb, k.countable); told = t.1 }, tt {0})
      (inr (record { ty = ty; body = b; body_known = kb; is = h; parts_are = refl })) w

  -- a free variable or a constant
  module _ (now : Module) (grows : Grows m now) (after : List (Place × LpId)) (types_after : List (TypeId × LpId)) (t : Term) (h : Holds trees place.id.0 t)
      (leaf : is_leaf t ≡ true) (is : IsLeafMade place made after now.table (term_wanted given 0 t))
      (types_noted : IsTypeMemo given trees.types now.table types_after) where
    leaf_sound : (i : Place) (r : LpId) → i.id ≡ place.id → lp.Holds now.table r.0 (lift i.depth (term_wanted given 0 t))
        → lp.Holds now.table r.0 (term_wanted given i.depth (term_at trees i.id.0))
    leaf_sound i r e k =
        k ∙ ap Some (leaf-lift given i.depth t leaf ∙ ap (term_wanted given i.depth)
        (sym (Some-term_in trees.terms place.id.0 t h) ∙ ap (λ (j : TermId). term_at trees j.0) (sym e)))

    pub term_lifted : IsTermWalk given root m trees names variables (Visit place ∷ tasks) made types
        → IsTermWalk given root now trees names variables tasks after types_after
    term_lifted w = record {
      reads = IsGiven-Grows grows given names w.reads;
      variables_told = AreGiven-Grows grows given trees.types variables w.variables_told;
      types_noted = types_noted;
      noted = λ i r n. ⊎_elim (λ a. IsTermMemo-Keeps grows.table given trees made w.noted i r a) (λ b. leaf_sound i r b.0 b.1) (is.only i r n);
      ends = Ends-more (IsTermKnown given trees) (HasParts trees) root tasks (OrIs (IsDone made) place) (IsDone after)
          (λ x. ⊎_elim (is.kept x) (λ e. subst (IsDone after) (sym e) is.done)) w.ends.1;
    }

  -- what a walk is given for the type in a term's head
  pub start-of : (k : IsTermKnown given trees place) (t : Term) → Holds trees place.id.0 t → (ty : TypeId) → ty.0 < length trees.types
      → (TellsTerm given.declarations given.symbols t → TellsType given.declarations given.symbols (type_at trees ty.0))
      → IsGiven given m names → IsTypeMemo given trees.types m.table types → IsTypeStart given ty m trees.types names types
  start-of k t h ty l tells reads noted = record { reads = reads; noted = noted; known = record { known = l; told = tells (told-as t h k) } }

  pub told-in : (t : Term) → Holds trees place.id.0 t → IsTermKnown given trees place → TellsTerm given.declarations given.symbols t
  told-in t h k = told-as t h k

  module _ (now : Module) (grows : Grows m now) (after : List (Place × LpId)) (types_after : List (TypeId × LpId)) (t : Term) (h : Holds trees place.id.0 t)
      (is : IsMadeAt place made after now.table (term_wanted given place.depth t))
      (types_noted : IsTypeMemo given trees.types now.table types_after) where
    term_noted : IsTermMemo given trees m.table made → IsTermMemo given trees now.table after
    term_noted old =
        noted-sound (λ i r. lp.Holds now.table r.0 (term_wanted given i.depth (term_at trees i.id.0))) made after place is.mark is.only
        (subst (λ u. lp.Holds now.table is.mark.0 (term_wanted given place.depth u)) (sym (Some-term_in trees.terms place.id.0 t h)) is.holds)
        (IsTermMemo-Keeps grows.table given trees made old)

    -- a term without parts
    pub term_leaf : IsTermWalk given root m trees names variables (Visit place ∷ tasks) made types
        → IsTermWalk given root now trees names variables tasks after types_after
    term_leaf w = record {
      reads = IsGiven-Grows grows given names w.reads;
      variables_told = AreGiven-Grows grows given trees.types variables w.variables_told;
      types_noted = types_noted;
      noted = term_noted w.noted;
      ends = Ends-noted (IsTermKnown given trees) (HasParts trees) root tasks made after place is.mark is.noted is.kept w.ends.1;
    }

    -- a term whose parts were made
    pub term_joined : IsTermWalk given root m trees names variables (Join place ∷ tasks) made types
        → IsTermWalk given root now trees names variables tasks after types_after
    term_joined w = record {
      reads = IsGiven-Grows grows given names w.reads;
      variables_told = AreGiven-Grows grows given trees.types variables w.variables_told;
      types_noted = types_noted;
      noted = term_noted w.noted;
      ends = Ends-noted (IsTermKnown given trees) (HasParts trees) root tasks made after place is.mark is.noted is.kept w.ends.2;
    }

-- the parts of a term are those of its head
function_of : Term → Term
function_of (app f x) = f
function_of t = t

argument_of : Term → Term
argument_of (app f x) = x
argument_of t = t

body_of : Term → Term
body_of (lam t b) = b
body_of t = t

same-function : (f g x y : Term) → app f x ≡ app g y → f ≡ g
unfolding function_of
same-function f g x y e = ap function_of e

same-argument : (f g x y : Term) → app f x ≡ app g y → x ≡ y
unfolding argument_of
same-argument f g x y e = ap argument_of e

same-body : (t u : HolType) (b c : Term) → lam t b ≡ lam u c → b ≡ c
unfolding body_of
same-body t u b c e = ap body_of e

module _ (trees : Trees) (place : Place) (P : Place → Type 0) (distinct : IsDistinct trees.terms) where
  pub application-done : (f x : TermId) → f.0 < length trees.terms → x.0 < length trees.terms
      → Holds trees place.id.0 (app (term_at trees f.0) (term_at trees x.0)) → PartsAre (HasParts trees) P place
      → P (record { id = f; depth = place.depth }) × P (record { id = x; depth = place.depth })
  application-done f x kf kx h p = ⊎_elim (λ a. own a (subst (AreAll P) a.parts_are p.all))
      (λ a. absurd (let e : app (term_at trees f.0) (term_at trees x.0) ≡ lam (type_at trees a.ty.0) (term_at trees a.body.0) =
      same_Some _ _ (sym h ∙ a.is) in cc)) p.of
    where
      own : (a : IsApplication trees place p.parts)
          → AreAll P (record { id = a.function; depth = place.depth } ∷ record { id = a.argument; depth = place.depth } ∷ [])
          → P (record { id = f; depth = place.depth }) × P (record { id = x; depth = place.depth })
      own a all =
          let e = same_Some _ _ (sym a.is ∙ h) in
          let ef = term_in-same distinct a.function f a.function_known kf (same-function _ _ _ _ e) in
          let ex = term_in-same distinct a.argument x a.argument_known kx (same-argument _ _ _ _ e) in
          (subst (λ i. P (record { id = i; depth = place.depth })) ef all.0, subst (λ i. P (record { id = i; depth = place.depth })) ex all.1.0)

  pub abstraction-done : (ty : TypeId) (b : TermId) → b.0 < length trees.terms → Holds trees place.id.0 (lam (type_at trees ty.0) (term_at trees b.0))
      → PartsAre (HasParts trees) P place → P (record { id = b; depth = place.depth + 1 })
  abstraction-done ty b kb h p = ⊎_elim
      (λ a. absurd (let e : lam (type_at trees ty.0) (term_at trees b.0) ≡ app (term_at trees a.function.0) (term_at trees a.argument.0) =
      same_Some _ _ (sym h ∙ a.is) in cc)) (λ a. own a (subst (AreAll P) a.parts_are p.all)) p.of
    where
      own : (a : IsAbstraction trees place p.parts) → AreAll P (record { id = a.body; depth = place.depth + 1 } ∷ [])
          → P (record { id = b; depth = place.depth + 1 })
      own a all =
          let e = same_Some _ _ (sym a.is ∙ h) in
          let eb = term_in-same distinct a.body b a.body_known kb (same-body _ _ _ _ e) in
          subst (λ i. P (record { id = i; depth = place.depth + 1 })) eb all.0

  -- no walk comes back to a term without parts
  pub no-parts : (t : Term) → Holds trees place.id.0 t → ((f x : Term) → t ≡ app f x → ⊥) → ((a : HolType) (b : Term) → t ≡ lam a b → ⊥)
      → PartsAre (HasParts trees) P place → ⊥
  no-parts t h a b p = ⊎_elim (λ c. a _ _ (same_Some _ _ (sym h ∙ c.is))) (λ c. b _ _ (same_Some _ _ (sym h ∙ c.is))) p.of

size-positive : (t : Term) → 0 < term_size t
size-positive (free n t) = omega arith
size-positive (bound k) = omega arith
size-positive (constant n t) = omega arith
size-positive (app f x) = omega arith
size-positive (lam t b) = omega arith

pub place_size-positive : (trees : Trees) (place : Place) → 0 < place_size trees place
place_size-positive trees place = size-positive (term_at trees place.id.0)

-- the parts of a term and the way back are less work than the whole
pub application-less : (trees : Trees) (place : Place) (tasks : List (Task Place)) (f x : TermId)
    → Holds trees place.id.0 (app (term_at trees f.0) (term_at trees x.0))
    → work (place_size trees) (Visit (record { id = f; depth = place.depth }) ∷ Visit (record { id = x; depth = place.depth }) ∷ Join place ∷ tasks) < work
    (place_size trees) (Visit place ∷ tasks)
application-less trees place tasks f x h = let e = ap term_size (Some-term_in trees.terms place.id.0 _ h) in omega (arith, e)

pub abstraction-less : (trees : Trees) (place : Place) (tasks : List (Task Place)) (ty : TypeId) (b : TermId)
    → Holds trees place.id.0 (lam (type_at trees ty.0) (term_at trees b.0))
    → work (place_size trees) (Visit (record { id = b; depth = place.depth + 1 }) ∷ Join place ∷ tasks) < work (place_size trees) (Visit place ∷ tasks)
abstraction-less trees place tasks ty b h = let e = ap term_size (Some-term_in trees.terms place.id.0 _ h) in omega (arith, e)
