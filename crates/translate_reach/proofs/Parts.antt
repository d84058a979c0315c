-- The walk comes to a type or to a term: what it names and its parts.
use Rattle.std.proofs.Common.{◌≡◌, ◌⊎◌, ℕ, ◌+◌, ◌<◌, List, [], ◌∷◌, ◌++◌, map, length, Bool, true, false, ◌||◌, Option, Some, None, inl, inr, refl, sym, ap, ◌∙◌, arith}
use Rattle.std.specs.Prelude.{◌==◌, slice_set}
use Rattle.std.specs.Cmp.{unsigned_Decides}
use Rattle.std.specs.List.{AllByRecursion}
use Rattle.std.proofs.Math.Path.{ap₂}
use Rattle.std.proofs.lemmas.List.{append-nil, length-set}
use Rattle.std.proofs.lemmas.Bool.{or_right, or_left}
use Rattle.hol_spec.specs.Names.{Name}
use Rattle.hol_spec.specs.Lists.{IsIn}
use Rattle.hol_spec.specs.Limits.{type_size, types_size, term_size}
use Rattle.hol_spec.specs.Types.{HolType, types_of, count}
use Rattle.hol_spec.specs.Types as a_type
use Rattle.hol_spec.specs.Terms as a_term
use Rattle.hol_type.specs.declared.table.TypeId.{TypeId}
use Rattle.hol_type.specs.Tables.{tree_at, types_at}
use Rattle.hol_type.specs.Tables as type
use Rattle.hol_type.specs.TableLaws.{Holds-tree_at}
use Rattle.hol_type.specs.Views.{AreBelow}
use Rattle.hol_term.specs.declared.TermId.{TermId}
use Rattle.hol_term.specs.Tables.{Trees, term_at, type_at, Holds}
use Rattle.hol_term.specs.TableLaws.{Some-term_in}
use Rattle.translate_spec.specs.Items.{Item}
use Rattle.translate_spec.specs.Reach.{Key, operator_key, constant_key, gives, key_eq, is_wanted, type_keys, types_keys, term_keys}
use Rattle.translate_reach.specs.declared.index.Index.{Index}
use Rattle.translate_reach.specs.declared.walk.Task.{Task}
use Rattle.translate_reach.specs.declared.walk.Task.TheVariants as task
use Rattle.translate_reach.specs.declared.walk.Walk.{Walk}
use Rattle.translate_reach.specs.Indexes.{found, IsNamedKey, IsIndex}
use Rattle.translate_reach.specs.Reached.{flag}
use Rattle.translate_reach.specs.Walks.{task_keys, keys_in, IsTaskKnown, task_size, work, rank, is_seen, IsWalk, Turned, with_task, with_types, marked}
use Rattle.translate_reach.proofs.Walked.{or-false, flag-marked, flag-marked_at, length-marked, IsBelow, Comes, passed-IsWalk, passed-Wants, comes-IsWalk, comes-Wants, comes-less}

-- what was come to, once one more is noted
flag-set : (flags : List Bool) (j i : ℕ) → j < length flags → flag (slice_set flags j true) i ≡ true → (i ≡ j) ⊎ (flag flags i ≡ true)
flag-set flags j i l e = go (flag flags i) (i == j) (sym (flag-marked flags j i l) ∙ e) (unsigned_Decides i j).0
  where
    go : (f b : Bool) → (f || b) ≡ true → (b ≡ true → i ≡ j) → (i ≡ j) ⊎ (f ≡ true)
    go true b e d = inr refl
    go false true e d = inl (d refl)
    go false false e d = absurd (cc)

flag-kept : (flags : List Bool) (j i : ℕ) → j < length flags → flag flags i ≡ true → flag (slice_set flags j true) i ≡ true
flag-kept flags j i l e = flag-marked flags j i l ∙ or_left (flag flags i) (i == j) e

flag-now : (flags : List Bool) (j : ℕ) → j < length flags → flag (slice_set flags j true) j ≡ true
flag-now flags j l = flag-marked flags j j l ∙ or_right (flag flags j) (j == j) ((unsigned_Decides j j).1 refl)

-- what is found for a key is marked
pub found-below : (items : List Item) (index : Index) (flags : List Bool) → IsIndex items index → length flags ≡ length items → (q : Key)
    → IsBelow (length flags) (found index q)
found-below items index flags h e q = go (found index q) refl
  where
    go : (o : Option ℕ) → found index q ≡ o → IsBelow (length flags) o
    go None f = tt
    go (Some i) f = let l = h.within q i f in omega (arith, l, e)

pub flag-key : (items : List Item) (index : Index) (flags : List Bool) → IsIndex items index → length flags ≡ length items → (q : Key) → IsNamedKey q
    → (x : Item) → IsIn items x
    → flag (marked flags (found index q)) x.symbol ≡ (flag flags x.symbol || is_wanted (q ∷ []) x)
flag-key items index flags h e q named x i =
    flag-marked_at flags (found index q) x.symbol (found-below items index flags h e q)
    ∙ ap (λ b. flag flags x.symbol || b) (sym (h.each x i q named) ∙ sym (or-false (key_eq (gives x) q)))

pub flag-none : (flags : List Bool) (x : Item) → flag flags x.symbol ≡ (flag flags x.symbol || is_wanted [] x)
flag-none flags x = sym (or-false (flag flags x.symbol))

-- the arguments of an operator
module _ (trees : Trees) where
  pub types_keys-tasks : (args : List TypeId) → types_keys (types_of (types_at trees.types args)) ≡ keys_in trees (map task.Type args)
  types_keys-tasks [] = refl
  types_keys-tasks (id ∷ ids) = ap (λ l. type_keys (tree_at trees.types id.0) ++ l) (types_keys-tasks ids)

  pub count-arguments : (args : List TypeId) → count (types_of (types_at trees.types args)) ≡ length args
  count-arguments [] = refl
  count-arguments (id ∷ ids) = ap (λ k. k + 1) (count-arguments ids) ∙ grind arith

  types_size-work : (args : List TypeId) → types_size (types_of (types_at trees.types args)) ≡ work trees (map task.Type args)
  types_size-work [] = refl
  types_size-work (id ∷ ids) = ap (λ k. type_size (tree_at trees.types id.0) + k) (types_size-work ids)

  arguments-lower : (n : ℕ) (args : List TypeId) → AreBelow n args → AllByRecursion (λ u. rank trees u < n) (map task.Type args)
  arguments-lower n [] h = tt
  arguments-lower n (id ∷ ids) h = (h.0, arguments-lower n ids h.1)

  arguments-known : (n : ℕ) (args : List TypeId) → AreBelow n args → n < length trees.types → AllByRecursion (IsTaskKnown trees) (map task.Type args)
  arguments-known n [] h l = tt
  arguments-known n (id ∷ ids) h l = (let b = h.0 in omega (arith, b, l), arguments-known n ids h.1 l)

module _ (trees : Trees) (items : List Item) (w v : Walk) where
  turned : (t : Task) (own : List Key) (parts : List Task) → IsWalk trees items (with_task t w) → Comes trees items t w v own parts
      → work trees parts < task_size trees t → Turned trees items t w v
  turned t own parts h c l = record {
    walk = comes-IsWalk trees items t w v own parts h c;
    wants = comes-Wants trees items t w v own parts h c;
    less =
        comes-less trees items t w v own parts h c l;
  }

  size-positive : (t : Task) → 0 < task_size trees t
  size-positive (task.Type id) = of_type (tree_at trees.types id.0)
    where
      of_type : (a : HolType) → 0 < type_size a
      of_type (a_type.HolType.variable n) = omega arith
      of_type (a_type.HolType.operator n ts) = omega arith
  size-positive (task.Term id) = of_term (term_at trees id.0)
    where
      of_term : (a : a_term.Term) → 0 < term_size a
      of_term (a_term.Term.free n t) = omega arith
      of_term (a_term.Term.bound k) = omega arith
      of_term (a_term.Term.constant n t) = omega arith
      of_term (a_term.Term.app f x) = omega arith
      of_term (a_term.Term.lam t b) = omega arith

  -- what was come to before
  pub passed-Turned : (t : Task) → IsWalk trees items (with_task t w) → is_seen w t ≡ true → Turned trees items t w w
  passed-Turned t h s = let l = size-positive t in record
      { walk = passed-IsWalk trees items t w h s; wants = passed-Wants trees items t w h s; less = omega (arith, l) }

  -- what is the same of each walk that comes to a type, and to a term
  pub record TypeNoted (id : TypeId) : Type 0 where
    pub walk : IsWalk trees items (with_task (task.Type id) w)
    pub types : v.types.items ≡ slice_set w.types.items id.0 true
    pub terms : v.terms.items ≡ w.terms.items

  pub record TermNoted (id : TermId) : Type 0 where
    pub walk : IsWalk trees items (with_task (task.Term id) w)
    pub types : v.types.items ≡ w.types.items
    pub terms : v.terms.items ≡ slice_set w.terms.items id.0 true

  pub record Marks (own : List Key) : Type 0 where
    pub each : (x : Item) → IsIn items x → flag v.marks.items x.symbol ≡ (flag w.marks.items x.symbol || is_wanted own x)
    pub count : length v.marks.items ≡ length w.marks.items

  pub marks-none : v.marks.items ≡ w.marks.items → Marks []
  marks-none e = record { each = λ x i. ap (λ l. flag l x.symbol) e ∙ flag-none w.marks.items x; count = ap length e }

  pub marks-key : (index : Index) → IsIndex items index → length w.marks.items ≡ length items → (q : Key) → IsNamedKey q → v.marks.items
      ≡ marked w.marks.items (found index q) → Marks (q ∷ [])
  marks-key index h l q named e = record {
    each = λ x i. ap (λ l. flag l x.symbol) e ∙ flag-key items index w.marks.items h l q named x i;
    count = ap length e ∙ length-marked w.marks.items (found index q);
  }

  module _ (id : TypeId) (n : TypeNoted id) (own : List Key) (m : Marks own) where
    type-Turned : (parts : List Task) → task_keys trees (task.Type id) ≡ own ++ keys_in trees parts → AllByRecursion (IsTaskKnown trees) parts
        → AllByRecursion (λ u. rank trees u < id.0) parts
        → v.tasks ≡ parts ++ w.tasks → work trees parts < task_size trees (task.Type id) → Turned trees items (task.Type id) w v
    type-Turned parts keys known lower tasks less =
        turned (task.Type id) own parts n.walk (record {
          keys = keys;
          known = known;
          lower = lower;
          marks = m.each;
          marks_count = m.count;
          types_count = ap length n.types ∙ length-set w.types.items id.0 true;
          terms_count = ap length n.terms;
          tasks = tasks;
          seen = seen;
          still = still;
          now = ap (λ l. flag l id.0) n.types ∙ flag-now w.types.items id.0 within;
        }) less
      where
        within : id.0 < length w.types.items
        within = let k = n.walk.tasks.0 in let e = n.walk.types in omega (arith, k, e)

        seen : (u : Task) → is_seen v u ≡ true → (u ≡ task.Type id) ⊎ (is_seen w u ≡ true)
        seen (task.Type j) s = elim (flag-set w.types.items id.0 j.0 within (sym (ap (λ l. flag l j.0) n.types) ∙ s)) [
          | inl e ↦ inl (λ k. task.Type (record { 0 = e k }))
          | inr f ↦ inr f
        ]
        seen (task.Term j) s = inr (sym (ap (λ l. flag l j.0) n.terms) ∙ s)

        still : (u : Task) → is_seen w u ≡ true → is_seen v u ≡ true
        still (task.Type j) s = ap (λ l. flag l j.0) n.types ∙ flag-kept w.types.items id.0 j.0 within s
        still (task.Term j) s = ap (λ l. flag l j.0) n.terms ∙ s

  module _ (id : TermId) (n : TermNoted id) (own : List Key) (m : Marks own) where
    term-Turned : (parts : List Task) → task_keys trees (task.Term id) ≡ own ++ keys_in trees parts → AllByRecursion (IsTaskKnown trees) parts
        → AllByRecursion (λ u. rank trees u < length trees.types + id.0) parts
        → v.tasks ≡ parts ++ w.tasks → work trees parts < task_size trees (task.Term id) → Turned trees items (task.Term id) w v
    term-Turned parts keys known lower tasks less =
        turned (task.Term id) own parts n.walk (record {
          keys = keys;
          known = known;
          lower = lower;
          marks = m.each;
          marks_count = m.count;
          types_count = ap length n.types;
          terms_count = ap length n.terms ∙ length-set w.terms.items id.0 true;
          tasks = tasks;
          seen = seen;
          still = still;
          now = ap (λ l. flag l id.0) n.terms ∙ flag-now w.terms.items id.0 within;
        }) less
      where
        within : id.0 < length w.terms.items
        within = let k = n.walk.tasks.0 in let e = n.walk.terms in omega (arith, k, e)

        seen : (u : Task) → is_seen v u ≡ true → (u ≡ task.Term id) ⊎ (is_seen w u ≡ true)
        seen (task.Term j) s = elim (flag-set w.terms.items id.0 j.0 within (sym (ap (λ l. flag l j.0) n.terms) ∙ s)) [
          | inl e ↦ inl (λ k. task.Term (record { 0 = e k }))
          | inr f ↦ inr f
        ]
        seen (task.Type j) s = inr (sym (ap (λ l. flag l j.0) n.types) ∙ s)

        still : (u : Task) → is_seen w u ≡ true → is_seen v u ≡ true
        still (task.Term j) s = ap (λ l. flag l j.0) n.terms ∙ flag-kept w.terms.items id.0 j.0 within s
        still (task.Type j) s = ap (λ l. flag l j.0) n.types ∙ s

  -- a type
  pub variable-Turned : (id : TypeId) → TypeNoted id → (name : Name) → type.Holds trees.types id.0 (a_type.HolType.variable name) → v.marks.items
      ≡ w.marks.items → v.tasks ≡ w.tasks
      → Turned trees items (task.Type id) w v
  variable-Turned id n name is marks tasks =
      let t : tree_at trees.types id.0 ≡ a_type.HolType.variable name = Holds-tree_at trees.types id.0 (a_type.HolType.variable name) is in
      let size : type_size (tree_at trees.types id.0) ≡ 1 = ap type_size t in
      type-Turned id n [] (marks-none marks) [] (ap type_keys t) (tt {0}) (tt {0}) tasks (omega (arith, size))

  pub operator-Turned : (index : Index) → IsIndex items index → (id : TypeId) → TypeNoted id → (name : Name) (args : List TypeId)
      → type.Holds trees.types id.0 (a_type.HolType.operator name (types_of (types_at trees.types args))) → AreBelow id.0 args
      → v.marks.items ≡ marked w.marks.items (found index (operator_key name (length args))) → v.tasks ≡ with_types args w.tasks
      → Turned trees items (task.Type id) w v
  operator-Turned index h id n name args is lower marks tasks =
      let whole = a_type.HolType.operator name (types_of (types_at trees.types args)) in
      let t : tree_at trees.types id.0 ≡ whole = Holds-tree_at trees.types id.0 whole is in
      let size = ap type_size t in
      let parts = types_size-work trees args in
      let keys = ap type_keys t ∙ ap₂ (λ k ks. operator_key name k ∷ ks) (count-arguments trees args) (types_keys-tasks trees args) in
      let known = n.walk.tasks.0 in
      type-Turned id n (operator_key name (length args) ∷ []) (marks-key index h n.walk.marks (operator_key name (length args)) (tt {0}) marks)
      (map task.Type args) keys
      (arguments-known trees id.0 args lower known) (arguments-lower trees id.0 args lower) tasks (omega (arith, size, parts))

  -- a term
  module _ (id : TermId) (n : TermNoted id) where
    term-is : (t : a_term.Term) → Holds trees id.0 t → term_at trees id.0 ≡ t
    term-is t is = Some-term_in trees.terms id.0 t is

    pub bound-Turned : (k : ℕ) → Holds trees id.0 (a_term.Term.bound k) → v.marks.items ≡ w.marks.items → v.tasks ≡ w.tasks
        → Turned trees items (task.Term id) w v
    bound-Turned k is marks tasks =
        let t = term-is (a_term.Term.bound k) is in
        let size = ap term_size t in
        term-Turned id n [] (marks-none marks) [] (ap term_keys t) (tt {0}) (tt {0}) tasks (omega (arith, size))

    pub free-Turned : (name : Name) (ty : TypeId) → Holds trees id.0 (a_term.Term.free name (type_at trees ty.0)) → ty.0 < length trees.types → v.marks.items
        ≡ w.marks.items
        → v.tasks ≡ task.Type ty ∷ w.tasks → Turned trees items (task.Term id) w v
    free-Turned name ty is known marks tasks =
        let t = term-is (a_term.Term.free name (type_at trees ty.0)) is in
        let size = ap term_size t in
        term-Turned id n [] (marks-none marks) (task.Type ty ∷ []) (ap term_keys t ∙ sym (append-nil (type_keys (type_at trees ty.0)))) (known, tt {0})
        (omega (arith, known), tt {0}) tasks (omega (arith, size))

    pub constant-Turned : (index : Index) → IsIndex items index → (name : Name) (ty : TypeId)
        → Holds trees id.0 (a_term.Term.constant name (type_at trees ty.0)) → ty.0 < length trees.types
        → v.marks.items ≡ marked w.marks.items (found index (constant_key name)) → v.tasks ≡ task.Type ty ∷ w.tasks → Turned trees items (task.Term id) w v
    constant-Turned index h name ty is known marks tasks =
        let t = term-is (a_term.Term.constant name (type_at trees ty.0)) is in
        let size = ap term_size t in
        term-Turned id n (constant_key name ∷ []) (marks-key index h n.walk.marks (constant_key name) (tt {0}) marks) (task.Type ty ∷ [])
        (ap term_keys t ∙ ap (λ l. constant_key name ∷ l) (sym (append-nil (type_keys (type_at trees ty.0))))) (known, tt {0}) (omega (arith, known), tt {0})
        tasks (omega (arith, size))

    pub application-Turned : (f x : TermId) → Holds trees id.0 (a_term.Term.app (term_at trees f.0) (term_at trees x.0)) → f.0 < id.0 → x.0 < id.0
        → v.marks.items ≡ w.marks.items
        → v.tasks ≡ task.Term f ∷ task.Term x ∷ w.tasks → Turned trees items (task.Term id) w v
    application-Turned f x is lf lx marks tasks =
        let t = term-is (a_term.Term.app (term_at trees f.0) (term_at trees x.0)) is in
        let size = ap term_size t in
        let known = n.walk.tasks.0 in
        term-Turned id n [] (marks-none marks) (task.Term f ∷ task.Term x ∷ [])
        (ap term_keys t ∙ ap (λ l. term_keys (term_at trees f.0) ++ l) (sym (append-nil (term_keys (term_at trees x.0)))))
        (omega (arith, known, lf), (omega (arith, known, lx), tt {0})) (omega (arith, lf), (omega (arith, lx), tt {0})) tasks (omega (arith, size))

    pub abstraction-Turned : (ty : TypeId) (b : TermId) → Holds trees id.0 (a_term.Term.lam (type_at trees ty.0) (term_at trees b.0))
        → ty.0 < length trees.types → b.0 < id.0 → v.marks.items ≡ w.marks.items
        → v.tasks ≡ task.Type ty ∷ task.Term b ∷ w.tasks → Turned trees items (task.Term id) w v
    abstraction-Turned ty b is lt lb marks tasks =
        let t = term-is (a_term.Term.lam (type_at trees ty.0) (term_at trees b.0)) is in
        let size = ap term_size t in
        let known = n.walk.tasks.0 in
        term-Turned id n [] (marks-none marks) (task.Type ty ∷ task.Term b ∷ [])
        (ap term_keys t ∙ ap (λ l. type_keys (type_at trees ty.0) ++ l) (sym (append-nil (term_keys (term_at trees b.0)))))
        (lt, (omega (arith, known, lb), tt {0})) (omega (arith, lt), (omega (arith, lb), tt {0})) tasks (omega (arith, size))
