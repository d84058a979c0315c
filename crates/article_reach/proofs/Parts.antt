-- The walk comes to a type or to a term: what it names and its parts.
use Rattle.std.proofs.Common.{◌≡◌, ◌⊎◌, ℕ, ◌+◌, ◌<◌, List, [], ◌∷◌, ◌++◌, map, length, true, ◌||◌, inl, inr, refl, sym, ap, ◌∙◌, arith}
use Rattle.std.specs.Prelude.{slice_set}
use Rattle.std.specs.List.{AllByRecursion}
use Rattle.std.proofs.lemmas.List.{append-nil, length-set}
use Rattle.hol_spec.specs.Names.{Name}
use Rattle.hol_spec.specs.NameEquality.{name_eq}
use Rattle.hol_spec.specs.Lists.{is_in}
use Rattle.hol_spec.specs.Limits.{type_size, types_size, term_size}
use Rattle.hol_spec.specs.Types.{HolType, types_of}
use Rattle.hol_spec.specs.Types as a_type
use Rattle.hol_spec.specs.Terms as a_term
use Rattle.hol_type.specs.declared.table.TypeId.{TypeId}
use Rattle.hol_type.specs.Tables.{tree_at, types_at}
use Rattle.hol_type.specs.Tables as type
use Rattle.hol_type.specs.TableLaws.{Holds-tree_at}
use Rattle.hol_type.specs.Views.{AreBelow}
use Rattle.hol_term.specs.declared.TermId.{TermId}
use Rattle.hol_term.specs.Tables.{Trees, term_at, type_at, Holds}
use Rattle.hol_term.specs.TableLaws.{Some-term_in}
use Rattle.article_write_spec.specs.Mentions.{Need}
use Rattle.article_write_spec.specs.BinderNames.{is_binder_name}
use Rattle.article_lines.specs.Flagged.{flag}
use Rattle.article_reach.specs.declared.walk.Task.{Task}
use Rattle.article_reach.specs.declared.walk.Task.TheVariants as task
use Rattle.article_reach.specs.declared.walk.Walk.{Walk}
use Rattle.article_reach.specs.Found.{Found, Asked, is_found, IsAsked, type_found, types_found, term_found}
use Rattle.article_reach.specs.Least.{is_among}
use Rattle.article_reach.specs.Walks.{task_found, found_in, IsTaskKnown, task_size, work, rank, is_seen, is_marked, IsWalk, Turned, with_task, with_types}
use Rattle.article_reach.proofs.Walked.{or-false, Comes, passed-IsWalk, passed-Wants, comes-IsWalk, comes-Wants, comes-less}
use Rattle.article_reach.proofs.FlagLaws.{set-either, set-kept, set-now}

-- the arguments of an operator
module _ (trees : Trees) where
  pub types_found-tasks : (args : List TypeId) → types_found (types_of (types_at trees.types args)) ≡ found_in trees (map task.Type args)
  types_found-tasks [] = refl
  types_found-tasks (id ∷ ids) = ap (λ l. type_found (tree_at trees.types id.0) ++ l) (types_found-tasks ids)

  types_size-work : (args : List TypeId) → types_size (types_of (types_at trees.types args)) ≡ work trees (map task.Type args)
  types_size-work [] = refl
  types_size-work (id ∷ ids) = ap (λ k. type_size (tree_at trees.types id.0) + k) (types_size-work ids)

  arguments-lower : (n : ℕ) (args : List TypeId) → AreBelow n args → AllByRecursion (λ u. rank trees u < n) (map task.Type args)
  arguments-lower n [] h = tt
  arguments-lower n (id ∷ ids) h = (h.0, arguments-lower n ids h.1)

  arguments-known : (n : ℕ) (args : List TypeId) → AreBelow n args → n < length trees.types → AllByRecursion (IsTaskKnown trees) (map task.Type args)
  arguments-known n [] h l = tt
  arguments-known n (id ∷ ids) h l = (let b = h.0 in omega (arith, b, l), arguments-known n ids h.1 l)

module _ (trees : Trees) (count : ℕ) (w v : Walk) where
  turned : (t : Task) (own : List Found) (parts : List Task) → IsWalk trees count (with_task t w) → Comes trees count t w v own parts
      → work trees parts < task_size trees t → Turned trees count t w v
  turned t own parts h c l = record {
    walk = comes-IsWalk trees count t w v own parts h c;
    wants = comes-Wants trees count t w v own parts h c;
    less =
        comes-less trees count t w v own parts h c l;
  }

  size-positive : (t : Task) → 0 < task_size trees t
  size-positive (task.Type id) = of_type (tree_at trees.types id.0)
    where
      of_type : (a : HolType) → 0 < type_size a
      of_type (a_type.HolType.variable n) = omega arith
      of_type (a_type.HolType.operator n ts) = omega arith
  size-positive (task.Term id) = of_term (term_at trees id.0)
    where
      of_term : (a : a_term.Term) → 0 < term_size a
      of_term (a_term.Term.free n t) = omega arith
      of_term (a_term.Term.bound k) = omega arith
      of_term (a_term.Term.constant n t) = omega arith
      of_term (a_term.Term.app f x) = omega arith
      of_term (a_term.Term.lam t b) = omega arith

  -- what was come to before
  pub passed-Turned : (t : Task) → IsWalk trees count (with_task t w) → is_seen w t ≡ true → Turned trees count t w w
  passed-Turned t h s = let l = size-positive t in record
      { walk = passed-IsWalk trees count t w h s; wants = passed-Wants trees count t w h s; less = omega (arith, l) }

  -- what is the same of each walk that comes to a type, and to a term
  pub record TypeNoted (id : TypeId) : Type 0 where
    pub walk : IsWalk trees count (with_task (task.Type id) w)
    pub types : v.types.items ≡ slice_set w.types.items id.0 true
    pub terms : v.terms.items ≡ w.terms.items

  pub record TermNoted (id : TermId) : Type 0 where
    pub walk : IsWalk trees count (with_task (task.Term id) w)
    pub types : v.types.items ≡ w.types.items
    pub terms : v.terms.items ≡ slice_set w.terms.items id.0 true

  pub record Marks (own : List Found) : Type 0 where
    pub each : (x : Asked) → IsAsked x → is_marked v x ≡ (is_marked w x || is_found own x)
    pub steps_count : length v.steps.items ≡ length w.steps.items

  -- what is marked, where nothing more is, and where one name more is
  pub marks-none : v.steps.items ≡ w.steps.items → v.operators ≡ w.operators → v.constants ≡ w.constants → v.numbers.items ≡ w.numbers.items → Marks []
  marks-none steps operators constants numbers = record { each = each; steps_count = ap length steps }
    where
      each : (x : Asked) → IsAsked x → is_marked v x ≡ (is_marked w x || is_found [] x)
      each (Asked.need (Need.operator m)) i = ap (is_in name_eq m) operators ∙ sym (or-false (is_in name_eq m w.operators))
      each (Asked.need (Need.constant m)) i = ap (is_in name_eq m) constants ∙ sym (or-false (is_in name_eq m w.constants))
      each (Asked.need (Need.step k)) i = ap (λ l. flag l k) steps ∙ sym (or-false (flag w.steps.items k))
      each (Asked.number q) i = ap (λ l. is_among l q) numbers ∙ sym (or-false (is_among w.numbers.items q))

  pub marks-operator : (n : Name) → v.steps.items ≡ w.steps.items → ((m : Name) → is_in name_eq m v.operators ≡ (is_in name_eq m w.operators || name_eq m n))
      → v.constants ≡ w.constants
      → v.numbers.items ≡ w.numbers.items → Marks (Found.needed (Need.operator n) ∷ [])
  marks-operator n steps operators constants numbers = record { each = each; steps_count = ap length steps }
    where
      each : (x : Asked) → IsAsked x → is_marked v x ≡ (is_marked w x || is_found (Found.needed (Need.operator n) ∷ []) x)
      each (Asked.need (Need.operator m)) i = operators m ∙ ap (λ b. is_in name_eq m w.operators || b) (sym (or-false (name_eq m n)))
      each (Asked.need (Need.constant m)) i = ap (is_in name_eq m) constants ∙ sym (or-false (is_in name_eq m w.constants))
      each (Asked.need (Need.step k)) i = ap (λ l. flag l k) steps ∙ sym (or-false (flag w.steps.items k))
      each (Asked.number q) i = ap (λ l. is_among l q) numbers ∙ sym (or-false (is_among w.numbers.items q))

  pub marks-constant : (n : Name) → v.steps.items ≡ w.steps.items → v.operators ≡ w.operators
      → ((m : Name) → is_in name_eq m v.constants ≡ (is_in name_eq m w.constants || name_eq m n))
      → v.numbers.items ≡ w.numbers.items → Marks (Found.needed (Need.constant n) ∷ [])
  marks-constant n steps operators constants numbers = record { each = each; steps_count = ap length steps }
    where
      each : (x : Asked) → IsAsked x → is_marked v x ≡ (is_marked w x || is_found (Found.needed (Need.constant n) ∷ []) x)
      each (Asked.need (Need.operator m)) i = ap (is_in name_eq m) operators ∙ sym (or-false (is_in name_eq m w.operators))
      each (Asked.need (Need.constant m)) i = constants m ∙ ap (λ b. is_in name_eq m w.constants || b) (sym (or-false (name_eq m n)))
      each (Asked.need (Need.step k)) i = ap (λ l. flag l k) steps ∙ sym (or-false (flag w.steps.items k))
      each (Asked.number q) i = ap (λ l. is_among l q) numbers ∙ sym (or-false (is_among w.numbers.items q))

  pub marks-variable : (n : Name) → v.steps.items ≡ w.steps.items → v.operators ≡ w.operators → v.constants ≡ w.constants
      → ((q : ℕ) → IsAsked (Asked.number q) → is_among v.numbers.items q ≡ (is_among w.numbers.items q || is_binder_name q n)) → Marks (Found.named n ∷ [])
  marks-variable n steps operators constants numbers = record { each = each; steps_count = ap length steps }
    where
      each : (x : Asked) → IsAsked x → is_marked v x ≡ (is_marked w x || is_found (Found.named n ∷ []) x)
      each (Asked.need (Need.operator m)) i = ap (is_in name_eq m) operators ∙ sym (or-false (is_in name_eq m w.operators))
      each (Asked.need (Need.constant m)) i = ap (is_in name_eq m) constants ∙ sym (or-false (is_in name_eq m w.constants))
      each (Asked.need (Need.step k)) i = ap (λ l. flag l k) steps ∙ sym (or-false (flag w.steps.items k))
      each (Asked.number q) i = numbers q i ∙ ap (λ b. is_among w.numbers.items q || b) (sym (or-false (is_binder_name q n)))

  module _ (id : TypeId) (n : TypeNoted id) (own : List Found) (m : Marks own) where
    type-Turned : (parts : List Task) → task_found trees (task.Type id) ≡ own ++ found_in trees parts → AllByRecursion (IsTaskKnown trees) parts
        → AllByRecursion (λ u. rank trees u < id.0) parts
        → v.tasks ≡ parts ++ w.tasks → work trees parts < task_size trees (task.Type id) → Turned trees count (task.Type id) w v
    type-Turned parts keys known lower tasks less =
        turned (task.Type id) own parts n.walk (record {
          found = keys;
          known = known;
          lower = lower;
          marks = m.each;
          steps_count = m.steps_count;
          types_count = ap length n.types ∙ length-set w.types.items id.0 true;
          terms_count = ap length n.terms;
          tasks = tasks;
          seen = seen;
          still = still;
          now = ap (λ l. flag l id.0) n.types ∙ set-now w.types.items id.0 within;
        }) less
      where
        within : id.0 < length w.types.items
        within = let k = n.walk.tasks.0 in let e = n.walk.types in omega (arith, k, e)

        seen : (u : Task) → is_seen v u ≡ true → (u ≡ task.Type id) ⊎ (is_seen w u ≡ true)
        seen (task.Type j) s = elim (set-either w.types.items id.0 j.0 within (sym (ap (λ l. flag l j.0) n.types) ∙ s)) [
          | inl e ↦ inl (λ k. task.Type (record { 0 = e k }))
          | inr f ↦ inr f
        ]
        seen (task.Term j) s = inr (sym (ap (λ l. flag l j.0) n.terms) ∙ s)

        still : (u : Task) → is_seen w u ≡ true → is_seen v u ≡ true
        still (task.Type j) s = ap (λ l. flag l j.0) n.types ∙ set-kept w.types.items id.0 j.0 within s
        still (task.Term j) s = ap (λ l. flag l j.0) n.terms ∙ s

  module _ (id : TermId) (n : TermNoted id) (own : List Found) (m : Marks own) where
    term-Turned : (parts : List Task) → task_found trees (task.Term id) ≡ own ++ found_in trees parts → AllByRecursion (IsTaskKnown trees) parts
        → AllByRecursion (λ u. rank trees u < length trees.types + id.0) parts
        → v.tasks ≡ parts ++ w.tasks → work trees parts < task_size trees (task.Term id) → Turned trees count (task.Term id) w v
    term-Turned parts keys known lower tasks less =
        turned (task.Term id) own parts n.walk (record {
          found = keys;
          known = known;
          lower = lower;
          marks = m.each;
          steps_count = m.steps_count;
          types_count = ap length n.types;
          terms_count = ap length n.terms ∙ length-set w.terms.items id.0 true;
          tasks = tasks;
          seen = seen;
          still = still;
          now = ap (λ l. flag l id.0) n.terms ∙ set-now w.terms.items id.0 within;
        }) less
      where
        within : id.0 < length w.terms.items
        within = let k = n.walk.tasks.0 in let e = n.walk.terms in omega (arith, k, e)

        seen : (u : Task) → is_seen v u ≡ true → (u ≡ task.Term id) ⊎ (is_seen w u ≡ true)
        seen (task.Term j) s = elim (set-either w.terms.items id.0 j.0 within (sym (ap (λ l. flag l j.0) n.terms) ∙ s)) [
          | inl e ↦ inl (λ k. task.Term (record { 0 = e k }))
          | inr f ↦ inr f
        ]
        seen (task.Type j) s = inr (sym (ap (λ l. flag l j.0) n.types) ∙ s)

        still : (u : Task) → is_seen w u ≡ true → is_seen v u ≡ true
        still (task.Term j) s = ap (λ l. flag l j.0) n.terms ∙ set-kept w.terms.items id.0 j.0 within s
        still (task.Type j) s = ap (λ l. flag l j.0) n.types ∙ s

  -- a type
  pub variable-Turned : (id : TypeId) → TypeNoted id → (name : Name) → type.Holds trees.types id.0 (a_type.HolType.variable name) → Marks [] → v.tasks ≡ w.tasks
      → Turned trees count (task.Type id) w v
  variable-Turned id n name is marks tasks =
      let t : tree_at trees.types id.0 ≡ a_type.HolType.variable name = Holds-tree_at trees.types id.0 (a_type.HolType.variable name) is in
      let size : type_size (tree_at trees.types id.0) ≡ 1 = ap type_size t in
      type-Turned id n [] marks [] (ap type_found t) (tt {0}) (tt {0}) tasks (omega (arith, size))

  pub operator-Turned : (id : TypeId) → TypeNoted id → (name : Name) (args : List TypeId)
      → type.Holds trees.types id.0 (a_type.HolType.operator name (types_of (types_at trees.types args))) → AreBelow id.0 args
      → Marks (Found.needed (Need.operator name) ∷ []) → v.tasks ≡ with_types args w.tasks → Turned trees count (task.Type id) w v
  operator-Turned id n name args is lower marks tasks =
      let whole = a_type.HolType.operator name (types_of (types_at trees.types args)) in
      let t : tree_at trees.types id.0 ≡ whole = Holds-tree_at trees.types id.0 whole is in
      let size = ap type_size t in
      let parts = types_size-work trees args in
      let found = ap type_found t ∙ ap (λ fs. Found.needed (Need.operator name) ∷ fs) (types_found-tasks trees args) in
      let known = n.walk.tasks.0 in
      type-Turned id n (Found.needed (Need.operator name) ∷ []) marks (map task.Type args) found (arguments-known trees id.0 args lower known)
      (arguments-lower trees id.0 args lower) tasks (omega (arith, size, parts))

  -- a term
  module _ (id : TermId) (n : TermNoted id) where
    term-is : (t : a_term.Term) → Holds trees id.0 t → term_at trees id.0 ≡ t
    term-is t is = Some-term_in trees.terms id.0 t is

    pub bound-Turned : (k : ℕ) → Holds trees id.0 (a_term.Term.bound k) → Marks [] → v.tasks ≡ w.tasks → Turned trees count (task.Term id) w v
    bound-Turned k is marks tasks =
        let t = term-is (a_term.Term.bound k) is in
        let size = ap term_size t in
        term-Turned id n [] marks [] (ap term_found t) (tt {0}) (tt {0}) tasks (omega (arith, size))

    pub free-Turned : (name : Name) (ty : TypeId) → Holds trees id.0 (a_term.Term.free name (type_at trees ty.0)) → ty.0 < length trees.types
        → Marks (Found.named name ∷ [])
        → v.tasks ≡ task.Type ty ∷ w.tasks → Turned trees count (task.Term id) w v
    free-Turned name ty is known marks tasks =
        let t = term-is (a_term.Term.free name (type_at trees ty.0)) is in
        let size = ap term_size t in
        term-Turned id n (Found.named name ∷ []) marks (task.Type ty ∷ [])
        (ap term_found t ∙ ap (λ l. Found.named name ∷ l) (sym (append-nil (type_found (type_at trees ty.0))))) (known, tt {0}) (omega (arith, known), tt {0})
        tasks (omega (arith, size))

    pub constant-Turned : (name : Name) (ty : TypeId) → Holds trees id.0 (a_term.Term.constant name (type_at trees ty.0)) → ty.0 < length trees.types
        → Marks (Found.needed (Need.constant name) ∷ [])
        → v.tasks ≡ task.Type ty ∷ w.tasks → Turned trees count (task.Term id) w v
    constant-Turned name ty is known marks tasks =
        let t = term-is (a_term.Term.constant name (type_at trees ty.0)) is in
        let size = ap term_size t in
        term-Turned id n (Found.needed (Need.constant name) ∷ []) marks (task.Type ty ∷ [])
        (ap term_found t ∙ ap (λ l. Found.needed (Need.constant name) ∷ l) (sym (append-nil (type_found (type_at trees ty.0))))) (known, tt {0})
        (omega (arith, known), tt {0}) tasks (omega (arith, size))

    pub application-Turned : (f x : TermId) → Holds trees id.0 (a_term.Term.app (term_at trees f.0) (term_at trees x.0)) → f.0 < id.0 → x.0 < id.0 → Marks []
        → v.tasks ≡ task.Term f ∷ task.Term x ∷ w.tasks → Turned trees count (task.Term id) w v
    application-Turned f x is lf lx marks tasks =
        let t = term-is (a_term.Term.app (term_at trees f.0) (term_at trees x.0)) is in
        let size = ap term_size t in
        let known = n.walk.tasks.0 in
        term-Turned id n [] marks (task.Term f ∷ task.Term x ∷ [])
        (ap term_found t ∙ ap (λ l. term_found (term_at trees f.0) ++ l) (sym (append-nil (term_found (term_at trees x.0)))))
        (omega (arith, known, lf), (omega (arith, known, lx), tt {0})) (omega (arith, lf), (omega (arith, lx), tt {0})) tasks (omega (arith, size))

    pub abstraction-Turned : (ty : TypeId) (b : TermId) → Holds trees id.0 (a_term.Term.lam (type_at trees ty.0) (term_at trees b.0))
        → ty.0 < length trees.types → b.0 < id.0 → Marks []
        → v.tasks ≡ task.Type ty ∷ task.Term b ∷ w.tasks → Turned trees count (task.Term id) w v
    abstraction-Turned ty b is lt lb marks tasks =
        let t = term-is (a_term.Term.lam (type_at trees ty.0) (term_at trees b.0)) is in
        let size = ap term_size t in
        let known = n.walk.tasks.0 in
        term-Turned id n [] marks (task.Type ty ∷ task.Term b ∷ [])
        (ap term_found t ∙ ap (λ l. type_found (type_at trees ty.0) ++ l) (sym (append-nil (term_found (term_at trees b.0)))))
        (lt, (omega (arith, known, lb), tt {0})) (omega (arith, lt), (omega (arith, lb), tt {0})) tasks (omega (arith, size))
