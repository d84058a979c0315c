-- What a turn does to the tasks of a walk.
use Rattle.std.proofs.Common.{◌≡◌, ℕ, ◌+◌, ◌*◌, ◌<◌, refl, sym, subst, arith, List, [], ◌∷◌, ◌⊎◌, ⊎_elim, inl, inr, Result, Ok, Err}
use Rattle.std.specs.Prelude.{OnOk}
use Rattle.translate_term.specs.declared.tasks.Task.{Task}
use Rattle.translate_term.specs.declared.tasks.Task.TheVariants.{Visit, Join}
use Rattle.translate_term.specs.Tasks.{IsNoted, IsDone, AreAll, visits, OrIs, work, Ends}

pub OnOk-always : {T E Q : Type 0} (r : Result T E) → Q → OnOk r Q
OnOk-always (Ok v) q = q
OnOk-always (Err e) q = tt

pub OnOk-map : {T E P Q : Type 0} (r : Result T E) → (P → Q) → OnOk r P → OnOk r Q
OnOk-map (Ok v) f h = f h
OnOk-map (Err e) f h = tt

pub OnOk-map3 : {T E P Q R S : Type 0} (r : Result T E) → (P → Q → R → S) → OnOk r P → OnOk r Q → OnOk r R → OnOk r S
OnOk-map3 (Ok v) f p q r = f p q r
OnOk-map3 (Err e) f p q r = tt

module _ {K : Type 0} where
  AreAll-more : (P Q : K → Type 0) (keys : List K) → ((x : K) → P x → Q x) → AreAll P keys → AreAll Q keys
  AreAll-more P Q [] f h = tt
  AreAll-more P Q (key ∷ keys) f h = (f key h.0, AreAll-more P Q keys f h.1)

  -- what is so of a key after visits of some
  After : (K → Type 0) → List K → K → Type 0
  After P [] = P
  After P (key ∷ keys) = After (OrIs P key) keys

  After-old : (P : K → Type 0) (keys : List K) (x : K) → P x → After P keys x
  unfolding After
  After-old P [] x p = p
  After-old P (key ∷ keys) x p = After-old (OrIs P key) keys x (inl p)

  After-all : (P : K → Type 0) (keys : List K) → AreAll (After P keys) keys
  unfolding After
  After-all P [] = tt
  After-all P (key ∷ keys) = (After-old (OrIs P key) keys key (inr refl), After-all (OrIs P key) keys)

  module _ (Known : K → Type 0) (HasParts : K → List K → Type 0) (root : K) where
    -- more keys that are done serve as well
    pub Ends-more : (tasks : List (Task K)) (P Q : K → Type 0) → ((x : K) → P x → Q x) → Ends Known HasParts root tasks P → Ends Known HasParts root tasks Q
    Ends-more [] P Q f h = f root h
    Ends-more (Visit key ∷ rest) P Q f h = (h.0, Ends-more rest (OrIs P key) (OrIs Q key) (λ x. ⊎_elim (λ a. inl (f x a)) (λ b. inr b)) h.1)
    Ends-more (Join key ∷ rest) P Q f h = (
      h.0,
      record { parts = h.1.parts; of = h.1.of; all = AreAll-more P Q h.1.parts f h.1.all },
      Ends-more rest (OrIs P key) (OrIs Q key) (λ x. ⊎_elim (λ a. inl (f x a)) (λ b. inr b)) h.2,
    )

    -- a visit of a key that is done can be left out
    pub Ends-done : (tasks : List (Task K)) (P : K → Type 0) (key : K) → P key → Ends Known HasParts root tasks (OrIs P key) → Ends Known HasParts root tasks P
    Ends-done tasks P key p h = Ends-more tasks (OrIs P key) P (λ x. ⊎_elim (λ a. a) (λ e. subst P (sym e) p)) h

    Ends-visits : (keys : List K) (tasks : List (Task K)) (P : K → Type 0) → AreAll Known keys → Ends Known HasParts root tasks (After P keys)
        → Ends Known HasParts root (visits keys tasks) P
    unfolding After
    Ends-visits [] tasks P k h = h
    Ends-visits (key ∷ keys) tasks P k h = (k.0, Ends-visits keys tasks (OrIs P key) k.1 h)

    -- a visit can be replaced by those of the parts and a task to come back
    pub Ends-set_out : (key : K) (parts : List K) (tasks : List (Task K)) (P : K → Type 0) → AreAll Known parts → HasParts key parts
        → Ends Known HasParts root (Visit key ∷ tasks) P → Ends Known HasParts root (visits parts (Join key ∷ tasks)) P
    Ends-set_out key parts tasks P known of h =
        Ends-visits parts (Join key ∷ tasks) P known (
          h.0,
          record { parts = parts; of = of; all = After-all P parts },
          Ends-more tasks (OrIs P key) (OrIs (After P parts) key) (λ x. ⊎_elim (λ a. inl (After-old P parts x a)) (λ b. inr b)) h.1,
        )

    -- a key that is noted is done, and no other becomes undone
    pub Ends-noted : {V : Type 0} (tasks : List (Task K)) (made noted : List (K × V)) (key : K) (mark : V) → IsNoted noted key mark
        → ((i : K) (r : V) → IsNoted made i r → (i ≡ key) ⊎ IsNoted noted i r)
        → Ends Known HasParts root tasks (OrIs (IsDone made) key) → Ends Known HasParts root tasks (IsDone noted)
    Ends-noted tasks made noted key mark new kept h = Ends-more tasks (OrIs (IsDone made) key) (IsDone noted) more h
      where
        this : (x : K) → x ≡ key → IsDone noted x
        this x e = (mark, subst (λ i. IsNoted noted i mark) (sym e) new)

        more : (x : K) → OrIs (IsDone made) key x → IsDone noted x
        more x h = ⊎_elim (λ d. ⊎_elim (λ e. this x e) (λ n. (d.0, n)) (kept x d.0 d.1)) (λ e. this x e) h

  -- what was noted is sound with another note
  pub noted-sound : {V : Type 0} (S : K → V → Type 0) (made noted : List (K × V)) (key : K) (mark : V)
      → ((i : K) (r : V) → IsNoted noted i r → IsNoted made i r ⊎ ((i ≡ key) × (r ≡ mark))) → S key mark
      → ((i : K) (r : V) → IsNoted made i r → S i r) → (i : K) (r : V) → IsNoted noted i r → S i r
  noted-sound S made noted key mark only is old i r n =
      ⊎_elim (λ a. old i r a) (λ b. subst (λ j. S j r) (sym b.0) (subst (λ m. S key m) (sym b.1) is)) (only i r n)

  -- the size of some keys
  abbrev pub sum_of : (K → ℕ) → List K → ℕ
  sum_of size [] = 0
  sum_of size (key ∷ keys) = size key + sum_of size keys

  work-visits : (size : K → ℕ) (keys : List K) (tasks : List (Task K)) → work size (visits keys tasks) ≡ 2 * sum_of size keys + work size tasks
  work-visits size [] tasks = omega arith
  work-visits size (key ∷ keys) tasks = omega (arith, work-visits size keys tasks)

  -- the parts and the way back are less work than the whole
  pub set_out-less : (size : K → ℕ) (key : K) (keys : List K) (tasks : List (Task K)) → sum_of size keys < size key
      → work size (visits keys (Join key ∷ tasks)) < work size (Visit key ∷ tasks)
  set_out-less size key keys tasks h = omega (arith, h, work-visits size keys (Join key ∷ tasks))

  -- any visit is some work
  pub visit-less : (size : K → ℕ) (key : K) (tasks : List (Task K)) → 0 < size key → work size tasks < work size (Visit key ∷ tasks)
  visit-less size key tasks h = omega (arith, h)

  -- and so is any way back
  pub join-less : (size : K → ℕ) (key : K) (tasks : List (Task K)) → work size tasks < work size (Join key ∷ tasks)
  join-less size key tasks = omega arith
