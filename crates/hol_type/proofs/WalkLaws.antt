-- What a turn does to the tasks of a walk.
use Rattle.std.proofs.Common.{◌≡◌, ◌+◌, ◌*◌, ◌<◌, refl, sym, ap, ◌∙◌, subst, arith, List, [], ◌∷◌, length, Some, Result, Ok, Err, ◌⊎◌, ⊎_elim, inl, inr}
use Rattle.std.specs.Prelude.{OnOk}
use Rattle.std.proofs.Math.Path.{ap₂}
use Rattle.std.proofs.lemmas.Option.{same_Some}
use Rattle.hol_spec.specs.Names.{Name}
use Rattle.hol_spec.specs.Types.{HolType, HolTypes, variable, operator, none, types_of}
use Rattle.hol_spec.specs.Limits.{type_size, types_size}
use Rattle.hol_type.specs.declared.table.TypeId.{TypeId}
use Rattle.hol_type.specs.declared.visits.Task.{Task}
use Rattle.hol_type.specs.declared.visits.Task.TheVariants.{Visit, Join}
use Rattle.hol_type.specs.Tables.{tree_at, types_at, Holds, Keeps, AreKnown, IsDistinct}
use Rattle.hol_type.specs.TableLaws.{tree_at-Stays, Holds-tree_at, types_at-Stays, types_at-same, types_of-same, AreBelow-known}
use Rattle.hol_type.specs.Views.{AreBelow}
use Rattle.hol_type.specs.Walks.{IsNoted, IsDone, AreAll, OrIs, HasParts, PartsAre, Ends, visits, work}
use Rattle.hol_laws.specs.TypeLaws.{type_size-positive}

pub OnOk-map3 : {T E P Q R S : Type 0} (r : Result T E) → (P → Q → R → S) → OnOk r P → OnOk r Q → OnOk r R → OnOk r S
OnOk-map3 (Ok v) f p q r = f p q r
OnOk-map3 (Err e) f p q r = tt

AreAll-more : (P Q : TypeId → Type 0) (ids : List TypeId) → ((x : TypeId) → P x → Q x) → AreAll P ids → AreAll Q ids
AreAll-more P Q [] f h = tt
AreAll-more P Q (id ∷ ids) f h = (f id h.0, AreAll-more P Q ids f h.1)

-- more types that are done serve as well
pub Ends-more : (root : TypeId) (ts : List HolType) (tasks : List Task) (P Q : TypeId → Type 0) → ((x : TypeId) → P x → Q x) → Ends root ts tasks P
    → Ends root ts tasks Q
Ends-more root ts [] P Q f h = f root h
Ends-more root ts (Visit id ∷ rest) P Q f h = (h.0, Ends-more root ts rest (OrIs P id) (OrIs Q id) (λ x. ⊎_elim (λ a. inl (f x a)) (λ b. inr b)) h.1)
Ends-more root ts (Join id ∷ rest) P Q f h = (
  h.0,
  record { parts = h.1.parts; of = h.1.of; all = AreAll-more P Q h.1.parts f h.1.all },
  Ends-more root ts rest (OrIs P id) (OrIs Q id) (λ x. ⊎_elim (λ a. inl (f x a)) (λ b. inr b)) h.2,
)

-- a visit of a type that is done can be left out
pub Ends-done : (root : TypeId) (ts : List HolType) (tasks : List Task) (P : TypeId → Type 0) (id : TypeId) → P id → Ends root ts tasks (OrIs P id)
    → Ends root ts tasks P
Ends-done root ts tasks P id p h = Ends-more root ts tasks (OrIs P id) P (λ x. ⊎_elim (λ a. a) (λ e. subst P (sym e) p)) h

-- a type that is noted is done, and no other becomes undone
pub done_more : (made noted : List (TypeId × TypeId)) (id mark : TypeId) → IsNoted noted id mark
    → ((i r : TypeId) → IsNoted made i r → (i ≡ id) ⊎ IsNoted noted i r) → (x : TypeId) → OrIs (IsDone made) id x → IsDone noted x
done_more made noted id mark new kept x h = ⊎_elim
    (λ d. ⊎_elim (λ e. this x e) (λ n. (d.0, n)) (kept x d.0 d.1))
    (λ e. this x e)
    h
  where
    this : (x : TypeId) → x ≡ id → IsDone noted x
    this x e = (mark, subst (λ i. IsNoted noted i mark) (sym e) new)

pub Ends-noted : (root : TypeId) (ts : List HolType) (tasks : List Task) (made noted : List (TypeId × TypeId)) (id mark : TypeId) → IsNoted noted id mark
    → ((i r : TypeId) → IsNoted made i r → (i ≡ id) ⊎ IsNoted noted i r) → Ends root ts tasks (OrIs (IsDone made) id) → Ends root ts tasks (IsDone noted)
Ends-noted root ts tasks made noted id mark new kept h =
    Ends-more root ts tasks (OrIs (IsDone made) id) (IsDone noted) (done_more made noted id mark new kept) h

-- what is so of a type after visits of some
After : (TypeId → Type 0) → List TypeId → TypeId → Type 0
After P [] = P
After P (id ∷ ids) = After (OrIs P id) ids

After-old : (P : TypeId → Type 0) (ids : List TypeId) (x : TypeId) → P x → After P ids x
unfolding After
After-old P [] x p = p
After-old P (id ∷ ids) x p = After-old (OrIs P id) ids x (inl p)

After-all : (P : TypeId → Type 0) (ids : List TypeId) → AreAll (After P ids) ids
unfolding After
After-all P [] = tt
After-all P (id ∷ ids) = (After-old (OrIs P id) ids id (inr refl), After-all (OrIs P id) ids)

Ends-visits : (root : TypeId) (ts : List HolType) (ids : List TypeId) (tasks : List Task) (P : TypeId → Type 0) → AreKnown ts ids
    → Ends root ts tasks (After P ids) → Ends root ts (visits ids tasks) P
unfolding After
Ends-visits root ts [] tasks P k h = h
Ends-visits root ts (id ∷ ids) tasks P k h = (k.0, Ends-visits root ts ids tasks (OrIs P id) k.1 h)

-- an operator's visit can be replaced by those of its arguments and a task to come back to it
pub Ends-set_out : (root : TypeId) (ts : List HolType) (id : TypeId) (parts : List TypeId) (tasks : List Task) (P : TypeId → Type 0) → HasParts ts id parts
    → Ends root ts (Visit id ∷ tasks) P → Ends root ts (visits parts (Join id ∷ tasks)) P
Ends-set_out root ts id parts tasks P of h =
    Ends-visits root ts parts (Join id ∷ tasks) P (AreBelow-known ts id.0 parts (omega (arith, h.0)) of.lower) (
      h.0,
      record { parts = parts; of = of; all = After-all P parts },
      Ends-more root ts tasks (OrIs P id) (OrIs (After P parts) id) (λ x. ⊎_elim (λ a. inl (After-old P parts x a)) (λ b. inr b)) h.1,
    )

arguments_of : HolType → HolTypes
arguments_of (variable n) = none
arguments_of (operator n ts) = ts

-- the parts of a type are its arguments
pub parts_all : (ts : List HolType) (id : TypeId) (n : Name) (args : List TypeId) (P : TypeId → Type 0) → IsDistinct ts → id.0 < length ts
    → Holds ts id.0 (operator n (types_of (types_at ts args))) → AreBelow id.0 args → PartsAre P ts id → AreAll P args
unfolding arguments_of
parts_all ts id n args P d k h low p =
    let e = types_of-same _ _ (ap arguments_of (same_Some _ _ (sym p.of.is ∙ h))) in
    subst (AreAll P)
    (types_at-same d p.parts args (AreBelow-known ts id.0 p.parts (omega (arith, k)) p.of.lower) (AreBelow-known ts id.0 args (omega (arith, k)) low) e)
    p.all

-- a variable has no parts
pub no_parts : (ts : List HolType) (id : TypeId) (n : Name) (P : TypeId → Type 0) → Holds ts id.0 (variable n) → PartsAre P ts id → ⊥
no_parts ts id n P h p = let e : variable n ≡ operator p.of.name (types_of (types_at ts p.parts)) = same_Some _ _ (sym h ∙ p.of.is) in cc

-- a longer table does the same
module _ {ts us : List HolType} (keeps : Keeps ts us) where
  HasParts-Keeps : (id : TypeId) (parts : List TypeId) → id.0 < length ts → HasParts ts id parts → HasParts us id parts
  HasParts-Keeps id parts k p = record {
    name = p.name;
    is = keeps.stays.each id.0 _ p.is ∙ ap (λ l. Some (operator p.name (types_of l)))
        (types_at-Stays keeps.stays parts (AreBelow-known ts id.0 parts (omega (arith, k)) p.lower));
    lower = p.lower;
  }

  pub Ends-Keeps : (root : TypeId) (tasks : List Task) (P : TypeId → Type 0) → Ends root ts tasks P → Ends root us tasks P
  Ends-Keeps root [] P h = h
  Ends-Keeps root (Visit id ∷ rest) P h = (omega (arith, keeps.longer, h.0), Ends-Keeps root rest (OrIs P id) h.1)
  Ends-Keeps root (Join id ∷ rest) P h = (
    omega (arith, keeps.longer, h.0),
    record { parts = h.1.parts; of = HasParts-Keeps id h.1.parts h.0 h.1.of; all = h.1.all },
    Ends-Keeps root rest (OrIs P id) h.2,
  )

  pub work-Keeps : (root : TypeId) (tasks : List Task) (P : TypeId → Type 0) → Ends root ts tasks P → work ts tasks ≡ work us tasks
  work-Keeps root [] P h = refl
  work-Keeps root (Visit id ∷ rest) P h = ap₂ (λ t n. 2 * type_size t + n) (tree_at-Stays keeps.stays id.0 h.0) (work-Keeps root rest (OrIs P id) h.1)
  work-Keeps root (Join id ∷ rest) P h = ap (λ n. 1 + n) (work-Keeps root rest (OrIs P id) h.2)

work-visits : (ts : List HolType) (ids : List TypeId) (tasks : List Task) → work ts (visits ids tasks)
    ≡ 2 * types_size (types_of (types_at ts ids)) + work ts tasks
work-visits ts [] tasks = omega arith
work-visits ts (id ∷ ids) tasks = omega (arith, work-visits ts ids tasks)

-- the arguments and the way back are less work than the operator
pub set_out_less : (ts : List HolType) (id : TypeId) (n : Name) (args : List TypeId) (tasks : List Task)
    → Holds ts id.0 (operator n (types_of (types_at ts args))) → work ts (visits args (Join id ∷ tasks)) < work ts (Visit id ∷ tasks)
set_out_less ts id n args tasks h =
    let e : type_size (tree_at ts id.0) ≡ 1 + types_size (types_of (types_at ts args)) = ap type_size (Holds-tree_at ts id.0 _ h) in
    omega (arith, e, work-visits ts args (Join id ∷ tasks))

-- any visit is some work
pub visit_less : (ts : List HolType) (id : TypeId) (tasks : List Task) → work ts tasks < work ts (Visit id ∷ tasks)
visit_less ts id tasks = omega (arith, type_size-positive (tree_at ts id.0))
