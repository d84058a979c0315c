-- What a turn does to a matching.
use Rattle.std.proofs.Common.{◌≡◌, ◌⊎◌, ℕ, ◌+◌, ◌<◌, Bool, true, false, inl, inr, ⊎_elim, sym, ap, subst, ◌∙◌, arith, List, [], ◌∷◌, length}
use Rattle.lp_spec.specs.Trees.{Tree, SortType, SortKind, Var, Sym, App, Lam, Pi, size}
use Rattle.lp_spec.specs.Substitution.{sub}
use Rattle.lp_term.specs.declared.LpId.{LpId}
use Rattle.lp_term.specs.Tables.{tree_at, Holds}
use Rattle.lp_term.specs.TableLaws.{Holds-tree_at}
use Rattle.translate_term.specs.declared.generic.Binder.{Binder}
use Rattle.translate_term.specs.declared.generic.Meeting.{Meeting}
use Rattle.translate_term.specs.Tasks.{IsNoted, IsDone}
use Rattle.translate_term.specs.Patterns.{Fits, Mentions, IsLeft, IsMatching, binder, work}

-- a matching at its beginning
pub matching_begins : (want : ℕ → Tree) (trees : List Tree) (pattern instance : LpId) (found : List (Binder × LpId)) → pattern.0 < length trees
    → instance.0 < length trees
    → tree_at trees instance.0 ≡ sub want (tree_at trees pattern.0) → ((k : Binder) (id : LpId) → IsNoted found k id → ⊥)
    → IsMatching want (tree_at trees pattern.0) trees (record { pattern = pattern; instance = instance } ∷ []) found
matching_begins want trees pattern instance found p i f empty = record {
  fit = (p, i, f, tt {0});
  noted = λ k id n. absurd (empty k id n);
  all = λ k m. inr (inl m);
}

-- the parts of an application meet the parts of its instance
same-parts : (f x g y : Tree) → App f x ≡ App g y → (f ≡ g) × (x ≡ y)
same-parts f x g y e = (let head : f ≡ g = cc in head, let argument : x ≡ y = cc in argument)

pub Fits-parts : (want : ℕ → Tree) (trees : List Tree) (pattern instance f x g y : LpId) → Holds trees pattern.0 (App (tree_at trees f.0) (tree_at trees x.0))
    → Holds trees instance.0 (App (tree_at trees g.0) (tree_at trees y.0)) → Fits want trees pattern instance → Fits want trees f g × Fits want trees x y
Fits-parts want trees pattern instance f x g y h k fits =
    same-parts (tree_at trees g.0) (tree_at trees y.0) (sub want (tree_at trees f.0)) (sub want (tree_at trees x.0))
    (sym (Holds-tree_at trees instance.0 _ k) ∙ fits ∙ ap (sub want) (Holds-tree_at trees pattern.0 _ h))

-- what is no application
abbrev pub is_application : Tree → Bool
is_application SortType = false
is_application SortKind = false
is_application (Var n) = false
is_application (Sym s) = false
is_application (App f x) = true
is_application (Lam a b) = false
is_application (Pi a b) = false

module _ (want : ℕ → Tree) (root : Tree) (trees : List Tree) (task : Meeting) (tasks : List Meeting) (found : List (Binder × LpId)) where
  -- a tree in which never variable stands
  pub matching_nothing : ((k : ℕ) → Mentions k (tree_at trees task.pattern.0) → ⊥) → IsMatching want root trees (task ∷ tasks) found
      → IsMatching want root trees tasks found
  matching_nothing never m = record {
    fit = m.fit.3;
    noted = m.noted;
    all = λ k s. ⊎_elim (λ d. inl d) (λ l. ⊎_elim (λ h. absurd (never k h)) (λ r. inr r) l) (m.all k s);
  }

  -- a variable
  pub matching_variable : (number : ℕ) (after : List (Binder × LpId)) → Holds trees task.pattern.0 (Var number)
      → ((k : Binder) (id : LpId) → IsNoted after k id → IsNoted found k id ⊎ ((k ≡ binder number) × (id ≡ task.instance)))
      → IsNoted after (binder number) task.instance
      → ((k : Binder) (id : LpId) → IsNoted found k id → (k ≡ binder number) ⊎ IsNoted after k id)
      → IsMatching want root trees (task ∷ tasks) found → IsMatching want root trees tasks after
  matching_variable number after h only new kept m = record {
    fit = m.fit.3;
    noted = λ k id n. ⊎_elim (λ a. m.noted k id a) (λ b. noted k id b.0 b.1) (only k id n);
    all = λ k s. ⊎_elim (λ d. inl (⊎_elim (λ e. this (binder k) e) (λ n. (d.0, n)) (kept (binder k) d.0 d.1)))
        (λ l. ⊎_elim (λ q. inl (this (binder k) (ap binder (sym (subst (λ t. Mentions k t) (Holds-tree_at trees task.pattern.0 (Var number) h) q)))))
        (λ r. inr r) l) (m.all k s);
  }
    where
      this : (k : Binder) → k ≡ binder number → IsDone after k
      this k e = (task.instance, subst (λ j. IsNoted after j task.instance) (sym e) new)

      is : tree_at trees task.instance.0 ≡ want number
      is = m.fit.2 ∙ ap (sub want) (Holds-tree_at trees task.pattern.0 (Var number) h)

      noted : (k : Binder) (id : LpId) → k ≡ binder number → id ≡ task.instance → (id.0 < length trees) × (tree_at trees id.0 ≡ want k.0)
      noted k id e f = subst (λ (i : LpId). (i.0 < length trees) × (tree_at trees i.0 ≡ want k.0)) (sym f) (m.fit.1, is ∙ ap (λ (b : Binder). want b.0) (sym e))

  -- an application
  module _ (f x : LpId) (h : Holds trees task.pattern.0 (App (tree_at trees f.0) (tree_at trees x.0))) where
    becomes : IsMatching want root trees (task ∷ tasks) found → tree_at trees task.instance.0
        ≡ App (sub want (tree_at trees f.0)) (sub want (tree_at trees x.0))
    becomes m = m.fit.2 ∙ ap (sub want) (Holds-tree_at trees task.pattern.0 _ h)

    -- becomes an application
    pub matching_application : (g y : LpId) → Holds trees task.instance.0 (App (tree_at trees g.0) (tree_at trees y.0)) → f.0 < length trees
        → x.0 < length trees → g.0 < length trees → y.0 < length trees
        → IsMatching want root trees (task ∷ tasks) found
        → IsMatching want root trees (record { pattern = x; instance = y } ∷ record { pattern = f; instance = g } ∷ tasks) found
    matching_application g y k kf kx kg ky m =
        let e : App (tree_at trees g.0) (tree_at trees y.0) ≡ App (sub want (tree_at trees f.0)) (sub want (tree_at trees x.0)) =
        sym (Holds-tree_at trees task.instance.0 _ k) ∙ becomes m in
        let head : tree_at trees g.0 ≡ sub want (tree_at trees f.0) = cc in
        let argument : tree_at trees y.0 ≡ sub want (tree_at trees x.0) = cc in
        record {
          fit = (kx, ky, argument, (kf, kg, head, m.fit.3));
          noted = m.noted;
          all = λ k s. ⊎_elim (λ d. inl d)
              (λ l. inr (⊎_elim (λ q. parts k (subst (λ t. Mentions k t) (Holds-tree_at trees task.pattern.0 _ h) q)) (λ r. inr (inr r)) l)) (m.all k s);
        }
      where
        parts : (k : ℕ) → Mentions k (App (tree_at trees f.0) (tree_at trees x.0)) → Mentions k (tree_at trees x.0)
            ⊎ (Mentions k (tree_at trees f.0) ⊎ IsLeft k trees tasks)
        parts k s = ⊎_elim (λ a. inr (inl a)) (λ b. inl b) s

    -- and nothing else
    pub matching_absurd : (t : Tree) → Holds trees task.instance.0 t → is_application t ≡ false → IsMatching want root trees (task ∷ tasks) found → ⊥
    matching_absurd t k other m =
        let e = ap is_application (sym (Holds-tree_at trees task.instance.0 t k) ∙ becomes m) in
        cc

-- each turn is less work
size-positive : (t : Tree) → 0 < size t
size-positive SortType = omega arith
size-positive SortKind = omega arith
size-positive (Var n) = omega arith
size-positive (Sym n) = omega arith
size-positive (App f x) = omega arith
size-positive (Lam f x) = omega arith
size-positive (Pi f x) = omega arith

pub application-less : (trees : List Tree) (task : Meeting) (tasks : List Meeting) (f x : LpId) (a b : LpId)
    → Holds trees task.pattern.0 (App (tree_at trees f.0) (tree_at trees x.0))
    → work trees (record { pattern = x; instance = a } ∷ record { pattern = f; instance = b } ∷ tasks) < work trees (task ∷ tasks)
application-less trees task tasks f x a b h =
    let e : size (tree_at trees task.pattern.0) ≡ 1 + size (tree_at trees f.0) + size (tree_at trees x.0) = ap size (Holds-tree_at trees task.pattern.0 _ h) in
    omega (arith, e)

pub turn-less : (trees : List Tree) (task : Meeting) (tasks : List Meeting) → work trees tasks < work trees (task ∷ tasks)
turn-less trees task tasks = omega (arith, size-positive (tree_at trees task.pattern.0))
