-- One turn of the count of a type.
use Rattle.std.proofs.Common.{◌≡◌, ℕ, suc, ◌+◌, ◌*◌, ◌<◌, ◌-◌, ◌≤◌, List, [], ◌∷◌, ◌++◌, map, length, get_or, take, None, Some, refl, sym, ap, subst, ◌∙◌, arith, append_assoc}
use Rattle.std.specs.Option.{option_map}
use Rattle.std.proofs.lemmas.List.{map-append}
use Rattle.hol_laws.specs.PlaceLaws.{front-last}
use Rattle.hol_spec.specs.Names.{Name}
use Rattle.hol_spec.specs.Types.{HolType, HolTypes, types_of, count}
use Rattle.hol_spec.specs.Limits.{type_size, types_size}
use Rattle.hol_type.specs.declared.table.TypeId.{TypeId}
use Rattle.hol_type.specs.Tables.{types_at, AreKnown}
use Rattle.hol_term.specs.Tables.{Trees, type_at}
use Rattle.article_spec.specs.declared.commands.Word.TheVariants as word
use Rattle.article_write_spec.specs.Drafts.{Kept}
use Rattle.article_write_spec.specs.Lengths.{name_length, word_length, told_length, Tally, key_in, add, note, count_once_at, capped}
use Rattle.article_write_spec.specs.TermLengths.{count_type, count_types}
use Rattle.article_write_laws.specs.CountedOnce.{type-unnoted}
use Rattle.article_lines.specs.declared.keys.Thing.TheVariants as thing
use Rattle.article_count.specs.declared.tally.Count.{Count}
use Rattle.article_count.specs.declared.types.TypeTask.{TypeTask}
use Rattle.article_count.specs.declared.types.TypeTask.TheVariants as task
use Rattle.article_lines.specs.Greatest.{greatest_length}
use Rattle.article_lines.specs.Things.{thing_key}
use Rattle.article_count.specs.Counts.{added, noted, IsTally}
use Rattle.article_count.specs.TypeTasks.{type_made, type_task, type_tasks, AreTypesReady, IsTypeWalk, types_work, with_visits}
use Rattle.article_count.proofs.Tallies.{added-IsTally, two-IsTally, key-IsTally, noted-IsTally, capped-twice, told-key}

-- the last of some is put first, and the others on it
pub stacked-front : {A B : Type 0} (f : A → B) (xs : List A) (d : A) (tasks : List B) → 1 ≤ length xs → map f (take (length xs - 1) xs)
    ++ f (get_or xs (length xs - 1) d) ∷ tasks ≡ map f xs ++ tasks
stacked-front f xs d tasks h =
    let front = take (length xs - 1) xs in
    let last = get_or xs (length xs - 1) d in
    sym (append_assoc (map f front) (f last ∷ []) tasks) ∙ ap (λ l. l ++ tasks) (sym (map-append f front (last ∷ [])) ∙ ap (map f) (front-last xs d h))

-- A type that has a key, or none
pub type-keyed : (a : HolType) (m : Tally) (k : ℕ) → key_in m.kept (Kept.type a) ≡ Some k → count_type a m ≡ add (told_length k) m
type-keyed (HolType.variable n) m k e = ap (λ o. count_once_at o (Kept.type (HolType.variable n)) (add (name_length n + word_length word.VarType)) m) e
type-keyed (HolType.operator n ts) m k e =
    ap (λ o. count_once_at o (Kept.type (HolType.operator n ts))
    (λ e. add (word_length word.Nil + count ts * word_length word.Cons + word_length word.OpType)
    (count_types ts (add (name_length n + word_length word.TypeOp) e))) m) e

variable-new : (n : Name) (m : Tally) → key_in m.kept (Kept.type (HolType.variable n)) ≡ None → count_type (HolType.variable n) m
    ≡ note (Kept.type (HolType.variable n)) (add (name_length n + word_length word.VarType) m)
variable-new n m e = ap (λ o. count_once_at o (Kept.type (HolType.variable n)) (add (name_length n + word_length word.VarType)) m) e

operator-new : (n : Name) (ts : HolTypes) (m : Tally) → key_in m.kept (Kept.type (HolType.operator n ts)) ≡ None
    → count_type (HolType.operator n ts) m ≡ type_made (HolType.operator n ts) (count_types ts (add (name_length n + word_length word.TypeOp) m))
operator-new n ts m e =
    ap (λ o. count_once_at o (Kept.type (HolType.operator n ts))
    (λ e. add (word_length word.Nil + count ts * word_length word.Cons + word_length word.OpType)
    (count_types ts (add (name_length n + word_length word.TypeOp) e))) m) e

-- Arguments one after another
tasks-visits : (trees : Trees) (ids : List TypeId) (rest : List TypeTask) (m : Tally) → type_tasks trees (with_visits ids rest) m
    ≡ type_tasks trees rest (count_types (types_of (types_at trees.types ids)) m)
tasks-visits trees [] rest m = refl
tasks-visits trees (id ∷ ids) rest m = tasks-visits trees ids rest (count_type (type_at trees id.0) m)

ready-visits : (trees : Trees) (ids : List TypeId) (rest : List TypeTask) (m : Tally) → AreKnown trees.types ids
    → AreTypesReady trees rest (count_types (types_of (types_at trees.types ids)) m) → AreTypesReady trees (with_visits ids rest) m
ready-visits trees [] rest m known ready = ready
ready-visits trees (id ∷ ids) rest m known ready = (known.0, ready-visits trees ids rest (count_type (type_at trees id.0) m) known.1 ready)

work-visits : (trees : Trees) (ids : List TypeId) (rest : List TypeTask) → types_work trees (with_visits ids rest)
    ≡ 2 * types_size (types_of (types_at trees.types ids)) + types_work trees rest
work-visits trees [] rest = omega arith
work-visits trees (id ∷ ids) rest = let e = work-visits trees ids rest in omega (arith, e)

pub count-types_of : (ts : List HolType) → count (types_of ts) ≡ length ts
count-types_of [] = refl
count-types_of (t ∷ ts) = let e = count-types_of ts in omega (arith, e)

pub length-types_at : (trees : List HolType) (ids : List TypeId) → length (types_at trees ids) ≡ length ids
length-types_at trees [] = refl
length-types_at trees (id ∷ ids) = ap suc (length-types_at trees ids)

-- Turns
-- one task is done
next-IsTypeWalk : {trees : Trees} {steps : ℕ} {tasks rest : List TypeTask} {c d : Count} {final : Tally} (t : TypeTask)
    (w : IsTypeWalk trees steps (t ∷ tasks) c final) (m : Tally) → IsTally trees steps d m → AreTypesReady trees rest m
    → type_tasks trees rest m ≡ type_tasks trees tasks (type_task trees t w.now) → IsTypeWalk trees steps rest d final
next-IsTypeWalk t w m h r e = record { now = m; tally = h; ready = r; ends = e ∙ w.ends }

keyed-IsTypeWalk : {trees : Trees} {steps : ℕ} {tasks : List TypeTask} {c : Count} {final : Tally} (id : TypeId) (k : ℕ) → thing_key c.keys (thing.Type id)
    ≡ Some k → IsTypeWalk trees steps (task.Visit id ∷ tasks) c final
    → IsTypeWalk trees steps tasks (added (told_length k) c) final
keyed-IsTypeWalk {trees = trees} {tasks = tasks} id k e w =
    let is : count_type (type_at trees id.0) w.now ≡ add (told_length k) w.now =
    type-keyed (type_at trees id.0) w.now k (sym (key-IsTally (thing.Type id) w.tally w.ready.0) ∙ e) in
    next-IsTypeWalk (task.Visit id) w (add (told_length k) w.now) (added-IsTally (told_length k) (told_length k) refl w.tally)
    (subst (AreTypesReady trees tasks) is w.ready.1) (ap (type_tasks trees tasks) (sym is))

pub variable-IsTypeWalk : {trees : Trees} {steps : ℕ} {tasks : List TypeTask} {c : Count} {final : Tally} (id : TypeId) (n : Name) (length : ℕ) → length
    ≡ capped greatest_length (name_length n) → type_at trees id.0 ≡ HolType.variable n
    → thing_key c.keys (thing.Type id) ≡ None → IsTypeWalk trees steps (task.Visit id ∷ tasks) c final
    → IsTypeWalk trees steps tasks (noted (thing.Type id) (added (word_length word.VarType) (added length c))) final
variable-IsTypeWalk {trees = trees} {tasks = tasks} id n length named t e w =
    let none : key_in w.now.kept (Kept.type (HolType.variable n)) ≡ None =
    subst (λ a. key_in w.now.kept (Kept.type a) ≡ None) t (sym (key-IsTally (thing.Type id) w.tally w.ready.0) ∙ e) in
    let is : count_type (type_at trees id.0) w.now ≡ note (Kept.type (type_at trees id.0)) (add (name_length n + word_length word.VarType) w.now) =
    ap (λ a. count_type a w.now) t ∙ variable-new n w.now none ∙ ap (λ a. note (Kept.type a) (add (name_length n + word_length word.VarType) w.now)) (sym t) in
    let same : capped greatest_length length ≡ capped greatest_length (name_length n) =
    ap (capped greatest_length) named ∙ capped-twice greatest_length (name_length n) in
    next-IsTypeWalk (task.Visit id) w _
    (noted-IsTally (thing.Type id) w.ready.0 (two-IsTally length (word_length word.VarType) (name_length n) (word_length word.VarType) same refl w.tally))
    (subst (AreTypesReady trees tasks) is w.ready.1) (ap (type_tasks trees tasks) (sym is))

pub operator-IsTypeWalk : {trees : Trees} {steps : ℕ} {tasks : List TypeTask} {c : Count} {final : Tally} (id : TypeId) (n : Name) (ids : List TypeId)
    (length : ℕ) → length ≡ capped greatest_length (name_length n)
    → type_at trees id.0 ≡ HolType.operator n (types_of (types_at trees.types ids)) → AreKnown trees.types ids → thing_key c.keys (thing.Type id) ≡ None
    → IsTypeWalk trees steps (task.Visit id ∷ tasks) c final
    → IsTypeWalk trees steps (with_visits ids (task.Made id ∷ tasks)) (added (word_length word.TypeOp) (added length c)) final
operator-IsTypeWalk {trees = trees} {tasks = tasks} id n ids length named t known e w =
    let ts = types_of (types_at trees.types ids) in
    let head = add (name_length n + word_length word.TypeOp) w.now in
    let none : key_in w.now.kept (Kept.type (HolType.operator n ts)) ≡ None =
    subst (λ a. key_in w.now.kept (Kept.type a) ≡ None) t (sym (key-IsTally (thing.Type id) w.tally w.ready.0) ∙ e) in
    let is : count_type (type_at trees id.0) w.now ≡ type_made (type_at trees id.0) (count_types ts head) =
    ap (λ a. count_type a w.now) t ∙ operator-new n ts w.now none ∙ ap (λ a. type_made a (count_types ts head)) (sym t) in
    let same : capped greatest_length length ≡ capped greatest_length (name_length n) =
    ap (capped greatest_length) named ∙ capped-twice greatest_length (name_length n) in
    let still : key_in (count_types ts head).kept (Kept.type (type_at trees id.0)) ≡ None =
    subst (λ a. key_in (count_types ts head).kept (Kept.type a) ≡ None) (sym t) (type-unnoted n ts w.now (name_length n + word_length word.TypeOp) none) in
    next-IsTypeWalk (task.Visit id) w head (two-IsTally length (word_length word.TypeOp) (name_length n) (word_length word.TypeOp) same refl w.tally)
    (ready-visits trees ids (task.Made id ∷ tasks) head known (w.ready.0, still, subst (AreTypesReady trees tasks) is w.ready.1))
    (tasks-visits trees ids (task.Made id ∷ tasks) head ∙ ap (type_tasks trees tasks) (sym is))

-- the arguments are counted
pub made-key : {trees : Trees} {steps : ℕ} {tasks : List TypeTask} {c : Count} {final : Tally} (id : TypeId)
    → IsTypeWalk trees steps (task.Made id ∷ tasks) c final → thing_key c.keys (thing.Type id) ≡ None
made-key id w = key-IsTally (thing.Type id) w.tally w.ready.0 ∙ w.ready.1

pub made-variable : {trees : Trees} {steps : ℕ} {tasks : List TypeTask} {c : Count} {final : Tally} (id : TypeId) (n : Name) → type_at trees id.0
    ≡ HolType.variable n → IsTypeWalk trees steps (task.Made id ∷ tasks) c final
    → IsTypeWalk trees steps tasks c final
made-variable {trees = trees} {tasks = tasks} id n t w =
    let is : type_made (type_at trees id.0) w.now ≡ w.now = ap (λ a. type_made a w.now) t in
    next-IsTypeWalk (task.Made id) w w.now w.tally (subst (AreTypesReady trees tasks) is w.ready.2) (ap (type_tasks trees tasks) (sym is))

pub made-operator : {trees : Trees} {steps : ℕ} {tasks : List TypeTask} {c : Count} {final : Tally} (id : TypeId) (n : Name) (ids : List TypeId)
    → type_at trees id.0 ≡ HolType.operator n (types_of (types_at trees.types ids))
    → IsTypeWalk trees steps (task.Made id ∷ tasks) c final
    → IsTypeWalk trees steps tasks
    (noted (thing.Type id) (added (word_length word.OpType) (added (word_length word.Nil + length ids * word_length word.Cons) c))) final
made-operator {trees = trees} {steps = steps} {tasks = tasks} {c = c} id n ids t w =
    let ts = types_of (types_at trees.types ids) in
    let many : length ids ≡ count ts = sym (length-types_at trees.types ids) ∙ sym (count-types_of (types_at trees.types ids)) in
    let behind = word_length word.Nil + length ids * word_length word.Cons in
    let head : IsTally trees steps (added (word_length word.OpType) (added behind c))
    (add (word_length word.Nil + count ts * word_length word.Cons + word_length word.OpType) w.now) =
    two-IsTally behind (word_length word.OpType) (word_length word.Nil + count ts * word_length word.Cons) (word_length word.OpType)
    (ap (λ k. capped greatest_length (word_length word.Nil + k * word_length word.Cons)) many) refl w.tally in
    let is : type_made (type_at trees id.0) w.now ≡ note (Kept.type (type_at trees id.0))
    (add (word_length word.Nil + count ts * word_length word.Cons + word_length word.OpType) w.now) =
    ap (λ a. type_made a w.now) t ∙ ap (λ a. note (Kept.type a) (add (word_length word.Nil + count ts * word_length word.Cons + word_length word.OpType) w.now))
    (sym t) in
    next-IsTypeWalk (task.Made id) w _ (noted-IsTally (thing.Type id) w.ready.0 head) (subst (AreTypesReady trees tasks) is w.ready.2)
    (ap (type_tasks trees tasks) (sym is))

-- Work
pub visit-less : (trees : Trees) (id : TypeId) (tasks : List TypeTask) → types_work trees tasks < types_work trees (task.Visit id ∷ tasks)
visit-less trees id tasks = let p = positive (type_at trees id.0) in omega (arith, p)
  where
    positive : (a : HolType) → 1 ≤ type_size a
    positive (HolType.variable n) = omega arith
    positive (HolType.operator n ts) = omega arith

pub operator-less : (trees : Trees) (id : TypeId) (n : Name) (ids : List TypeId) (tasks : List TypeTask) → type_at trees id.0
    ≡ HolType.operator n (types_of (types_at trees.types ids))
    → types_work trees (with_visits ids (task.Made id ∷ tasks)) < types_work trees (task.Visit id ∷ tasks)
operator-less trees id n ids tasks t =
    let e = work-visits trees ids (task.Made id ∷ tasks) in
    let s : type_size (type_at trees id.0) ≡ 1 + types_size (types_of (types_at trees.types ids)) = ap type_size t in
    omega (arith, e, s)

pub told-IsTypeWalk : {trees : Trees} {steps : ℕ} {tasks : List TypeTask} {c : Count} {final : Tally} (id : TypeId) (n : ℕ) → Some n
    ≡ option_map told_length (thing_key c.keys (thing.Type id)) → IsTypeWalk trees steps (task.Visit id ∷ tasks) c final
    → IsTypeWalk trees steps tasks (added n c) final
told-IsTypeWalk {trees = trees} {steps = steps} {tasks = tasks} {c = c} {final = final} id n e w =
    let k = told-key (thing_key c.keys (thing.Type id)) n e in
    subst (λ l. IsTypeWalk trees steps tasks (added l c) final) (sym k.2) (keyed-IsTypeWalk id k.0 k.1 w)
