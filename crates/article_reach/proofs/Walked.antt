-- What a walk reaches stays while it comes to types and terms.
use Rattle.std.proofs.Common.{◌≡◌, ◌⊎◌, ℕ, zero, suc, ◌+◌, ◌<◌, List, [], ◌∷◌, ◌++◌, length, Bool, true, false, ◌||◌, inl, inr, refl, sym, ap, subst, ◌∙◌, append_assoc, arith}
use Rattle.std.specs.List.{AllByRecursion}
use Rattle.std.proofs.Math.Path.{ap₂}
use Rattle.std.proofs.lemmas.List.Folds.{list_any-append}
use Rattle.std.proofs.lemmas.Bool.{or_right, or_left, or_cases}
use Rattle.hol_spec.specs.Lists.{IsIn}
use Rattle.hol_laws.specs.Members.{All-append, IsIn-left, IsIn-right}
use Rattle.hol_term.specs.Tables.{Trees}
use Rattle.article_lines.specs.Flagged.{flag}
use Rattle.article_reach.specs.declared.walk.Task.{Task}
use Rattle.article_reach.specs.declared.walk.Task.TheVariants as task
use Rattle.article_reach.specs.declared.walk.Walk.{Walk}
use Rattle.article_reach.specs.Found.{Found, Asked, answers, is_found, IsAsked}
use Rattle.article_reach.specs.Walks.{task_found, found_in, IsTaskKnown, task_size, work, rank, is_seen, is_marked, is_reached, IsOpened, IsWalk, Wants, with_task}

pub or-false : (a : Bool) → (a || false) ≡ a
or-false true = refl
or-false false = refl

pub or-assoc : (a b c : Bool) → ((a || b) || c) ≡ (a || (b || c))
or-assoc true b c = refl
or-assoc false b c = refl

or-swap : (a b c : Bool) → (a || (b || c)) ≡ ((a || c) || b)
or-swap true b c = refl
or-swap false true true = refl
or-swap false true false = refl
or-swap false false true = refl
or-swap false false false = refl

or-four : (a b c d : Bool) → ((a || b) || (c || d)) ≡ ((a || d) || (b || c))
or-four true b c d = refl
or-four false true c true = refl
or-four false true c false = refl
or-four false false c d = or-swap false c d ∙ or-swap false d c ∙ or-swap false c d

or-absorbed : (a b : Bool) → (b ≡ true → a ≡ true) → a ≡ ((a || b) || false)
or-absorbed true b f = refl
or-absorbed false true f = f refl
or-absorbed false false f = refl

-- what is found in tasks
found_in-append : (trees : Trees) (ts us : List Task) → found_in trees (ts ++ us) ≡ found_in trees ts ++ found_in trees us
found_in-append trees [] us = refl
found_in-append trees (t ∷ ts) us = ap (λ l. task_found trees t ++ l) (found_in-append trees ts us) ∙ sym
    (append_assoc (task_found trees t) (found_in trees ts) (found_in trees us))

pub found-append : (fs gs : List Found) (x : Asked) → is_found (fs ++ gs) x ≡ (is_found fs x || is_found gs x)
found-append fs gs x = list_any-append (answers x) fs gs

found-tasks : (trees : Trees) (ts us : List Task) (x : Asked) → is_found (found_in trees (ts ++ us)) x
    ≡ (is_found (found_in trees ts) x || is_found (found_in trees us) x)
found-tasks trees ts us x = ap (λ fs. is_found fs x) (found_in-append trees ts us) ∙ found-append (found_in trees ts) (found_in trees us) x

found-where : (trees : Trees) (tasks : List Task) (u : Task) (x : Asked) → IsIn tasks u → is_found (task_found trees u) x ≡ true
    → is_found (found_in trees tasks) x ≡ true
found-where trees [] u x h e = absurd h
found-where trees (t ∷ ts) u x (inl same) e = found-append (task_found trees t) (found_in trees ts) x ∙ or_left (is_found (task_found trees t) x)
    (is_found (found_in trees ts) x) (subst (λ v. is_found (task_found trees v) x ≡ true) same e)
found-where trees (t ∷ ts) u x (inr h) e =
    found-append (task_found trees t) (found_in trees ts) x
    ∙ or_right (is_found (task_found trees t) x) (is_found (found_in trees ts) x) (found-where trees ts u x h e)

-- what some tasks need, one of them needs
found-by : (trees : Trees) (tasks : List Task) (x : Asked) → is_found (found_in trees tasks) x ≡ true → (u : Task) × IsIn tasks u
    × (is_found (task_found trees u) x ≡ true)
found-by trees [] x e = absurd (cc)
found-by trees (t ∷ ts) x e =
    elim (or_cases (is_found (task_found trees t) x) (is_found (found_in trees ts) x) (sym (found-append (task_found trees t) (found_in trees ts) x) ∙ e)) [
      | inl f ↦ (t, inl refl, f)
      | inr f ↦ let r = found-by trees ts x f in (r.0, inr r.1, r.2)
    ]

pub work-append : (trees : Trees) (ts us : List Task) → work trees (ts ++ us) ≡ work trees ts + work trees us
work-append trees [] us = let z : work trees us ≡ 0 + work trees us = omega arith in z
work-append trees (t ∷ ts) us = let e = work-append trees ts us in omega (arith, e)

module _ (trees : Trees) (count : ℕ) where
  -- with a task more
  reached-task : (t : Task) (w : Walk) (x : Asked) → is_reached trees (with_task t w) x ≡ (is_reached trees w x || is_found (task_found trees t) x)
  reached-task t w x =
      ap (λ b. is_marked w x || b) (found-append (task_found trees t) (found_in trees w.tasks) x)
      ∙ or-swap (is_marked w x) (is_found (task_found trees t) x) (is_found (found_in trees w.tasks) x)

  -- what the walk came to reaches what it needs
  module _ (w : Walk) (opened : (t : Task) → is_seen w t ≡ true → IsOpened trees w t) where
    covered : (n : ℕ) (t : Task) → rank trees t < n → is_seen w t ≡ true → (x : Asked) → IsAsked x → is_found (task_found trees t) x ≡ true
        → is_reached trees w x ≡ true
    covered zero t l s x i e = absurd (omega (arith, l))
    covered (suc n) t l s x i e =
        let o = opened t s in
        elim (or_cases (is_found o.own x) (is_found (found_in trees o.parts) x)
        (sym (ap (λ fs. is_found fs x) o.found ∙ found-append o.own (found_in trees o.parts) x) ∙ e)) [
          | inl f ↦ or_left (is_marked w x) (is_found (found_in trees w.tasks) x) (o.marked x i f)
          | inr f ↦
              let r = found-by trees o.parts x f in
              let low = below o.parts o.lower r.0 r.1 in
              elim (o.come r.0 r.1) [
                | inl seen ↦ covered n r.0 (omega (arith, l, low)) seen x i r.2
                | inr task ↦ or_right (is_marked w x) (is_found (found_in trees w.tasks) x) (found-where trees w.tasks r.0 x task r.2)
              ]
        ]
      where
        below : (parts : List Task) → AllByRecursion (λ u. rank trees u < rank trees t) parts → (u : Task) → IsIn parts u → rank trees u < rank trees t
        below [] h u i = absurd i
        below (p ∷ ps) h u (inl same) = subst (λ v. rank trees v < rank trees t) (sym same) h.0
        below (p ∷ ps) h u (inr i) = below ps h.1 u i

  -- what was come to before is passed
  pub passed-IsWalk : (t : Task) (w : Walk) → IsWalk trees count (with_task t w) → is_seen w t ≡ true → IsWalk trees count w
  passed-IsWalk t w h s = record {
    steps = h.steps;
    types = h.types;
    terms = h.terms;
    tasks = h.tasks.1;
    opened = λ u seen. let o = h.opened u seen in record {
      own = o.own;
      parts = o.parts;
      found = o.found;
      marked = o.marked;
      lower = o.lower;
      come = λ v i. elim (o.come v i) [
        | inl f ↦ inl f
        | inr (inl same) ↦ inl (subst (λ z. is_seen w z ≡ true) (sym same) s)
        | inr (inr j) ↦ inr j
      ];
    };
  }

  pub passed-Wants : (t : Task) (w : Walk) → IsWalk trees count (with_task t w) → is_seen w t ≡ true → Wants trees [] (with_task t w) w
  passed-Wants t w h s x i =
      let k = passed-IsWalk t w h s in
      or-absorbed (is_reached trees w x) (is_found (task_found trees t) x) (λ e. covered w k.opened (suc (rank trees t)) t (omega arith) s x i e)
      ∙ ap (λ b. b || false) (sym (reached-task t w x))

  -- the walk v comes to this task: what it names is marked, and its parts are put on the tasks
  pub record Comes (t : Task) (w v : Walk) (own : List Found) (parts : List Task) : Type 0 where
    pub found : task_found trees t ≡ own ++ found_in trees parts
    pub known : AllByRecursion (IsTaskKnown trees) parts
    pub lower : AllByRecursion (λ u. rank trees u < rank trees t) parts
    pub marks : (x : Asked) → IsAsked x → is_marked v x ≡ (is_marked w x || is_found own x)
    pub steps_count : length v.steps.items ≡ length w.steps.items
    pub types_count : length v.types.items ≡ length w.types.items
    pub terms_count : length v.terms.items ≡ length w.terms.items
    pub tasks : v.tasks ≡ parts ++ w.tasks
    pub seen : (u : Task) → is_seen v u ≡ true → (u ≡ t) ⊎ (is_seen w u ≡ true)
    pub still : (u : Task) → is_seen w u ≡ true → is_seen v u ≡ true
    pub now : is_seen v t ≡ true

  module _ (t : Task) (w v : Walk) (own : List Found) (parts : List Task) (h : IsWalk trees count (with_task t w)) (c : Comes t w v own parts) where
    task-among : (u : Task) → IsIn parts u ⊎ IsIn w.tasks u → IsIn v.tasks u
    task-among u (inl i) = subst (λ l. IsIn l u) (sym c.tasks) (IsIn-left parts w.tasks u i)
    task-among u (inr i) = subst (λ l. IsIn l u) (sym c.tasks) (IsIn-right parts w.tasks u i)

    opened-now : IsOpened trees v t
    opened-now = record {
      own = own;
      parts = parts;
      found = c.found;
      marked = λ x i e. c.marks x i ∙ or_right (is_marked w x) (is_found own x) e;
      lower = c.lower;
      come = λ u i. inr (task-among u (inl i));
    }

    opened-still : (u : Task) → is_seen w u ≡ true → IsOpened trees v u
    opened-still u s = let o = h.opened u s in record {
      own = o.own;
      parts = o.parts;
      found = o.found;
      marked = λ x i e. c.marks x i ∙ or_left (is_marked w x) (is_found own x) (o.marked x i e);
      lower = o.lower;
      come = λ z i. elim (o.come z i) [
        | inl f ↦ inl (c.still z f)
        | inr (inl same) ↦ inl (subst (λ y. is_seen v y ≡ true) (sym same) c.now)
        | inr (inr j) ↦ inr (task-among z (inr j))
      ];
    }

    pub comes-IsWalk : IsWalk trees count v
    comes-IsWalk = record {
      steps = c.steps_count ∙ h.steps;
      types = c.types_count ∙ h.types;
      terms = c.terms_count ∙ h.terms;
      tasks = subst (AllByRecursion (IsTaskKnown trees)) (sym c.tasks) (All-append (IsTaskKnown trees) parts w.tasks c.known h.tasks.1);
      opened = λ u s. elim (c.seen u s) [
        | inl same ↦ subst (IsOpened trees v) (sym same) opened-now
        | inr old ↦ opened-still u old
      ];
    }

    pub comes-Wants : Wants trees [] (with_task t w) v
    comes-Wants x i =
        let f = is_marked w x in
        let a = is_found own x in
        let p = is_found (found_in trees parts) x in
        let r = is_found (found_in trees w.tasks) x in
        ap₂ (λ b d. b || d) (c.marks x i) (ap (λ l. is_found (found_in trees l) x) c.tasks ∙ found-tasks trees parts w.tasks x)
        ∙ or-four f a p r
        ∙ ap (λ b. (f || r) || b) (sym (ap (λ fs. is_found fs x) c.found ∙ found-append own (found_in trees parts) x))
        ∙ sym (reached-task t w x) ∙ sym (or-false (is_reached trees (with_task t w) x))

    pub comes-less : work trees parts < task_size trees t → work trees v.tasks < work trees (t ∷ w.tasks)
    comes-less l = let e = ap (work trees) c.tasks ∙ work-append trees parts w.tasks in omega (arith, l, e)

  -- the walk v has more marks and more tasks
  pub record Gains (w v : Walk) (own : List Found) (more : List Task) : Type 0 where
    pub known : AllByRecursion (IsTaskKnown trees) more
    pub marks : (x : Asked) → IsAsked x → is_marked v x ≡ (is_marked w x || is_found own x)
    pub steps_count : length v.steps.items ≡ length w.steps.items
    pub types : v.types.items ≡ w.types.items
    pub terms : v.terms.items ≡ w.terms.items
    pub tasks : v.tasks ≡ more ++ w.tasks

  module _ (w v : Walk) (own : List Found) (more : List Task) (h : IsWalk trees count w) (g : Gains w v own more) where
    same_seen : (u : Task) → is_seen v u ≡ is_seen w u
    same_seen (task.Type id) = ap (λ l. flag l id.0) g.types
    same_seen (task.Term id) = ap (λ l. flag l id.0) g.terms

    pub gains-IsWalk : IsWalk trees count v
    gains-IsWalk = record {
      steps = g.steps_count ∙ h.steps;
      types = ap length g.types ∙ h.types;
      terms = ap length g.terms ∙ h.terms;
      tasks = subst (AllByRecursion (IsTaskKnown trees)) (sym g.tasks) (All-append (IsTaskKnown trees) more w.tasks g.known h.tasks);
      opened = λ u s. let o = h.opened u (sym (same_seen u) ∙ s) in record {
        own = o.own;
        parts = o.parts;
        found = o.found;
        marked = λ x i e. g.marks x i ∙ or_left (is_marked w x) (is_found own x) (o.marked x i e);
        lower = o.lower;
        come = λ z i. elim (o.come z i) [
          | inl f ↦ inl (same_seen z ∙ f)
          | inr j ↦ inr (subst (λ l. IsIn l z) (sym g.tasks) (IsIn-right more w.tasks z j))
        ];
      };
    }

    pub gains-Wants : Wants trees (own ++ found_in trees more) w v
    gains-Wants x i =
        let f = is_marked w x in
        let a = is_found own x in
        let p = is_found (found_in trees more) x in
        let r = is_found (found_in trees w.tasks) x in
        ap₂ (λ b d. b || d) (g.marks x i) (ap (λ l. is_found (found_in trees l) x) g.tasks ∙ found-tasks trees more w.tasks x)
        ∙ or-four f a p r
        ∙ ap (λ b. (f || r) || b) (sym (found-append own (found_in trees more) x))

  -- one after another
  pub Wants-trans : (fs gs : List Found) (a b c : Walk) → Wants trees fs a b → Wants trees gs b c → Wants trees (fs ++ gs) a c
  Wants-trans fs gs a b c h k x i =
      k x i ∙ ap (λ y. y || is_found gs x) (h x i) ∙ or-assoc (is_reached trees a x) (is_found fs x) (is_found gs x)
      ∙ ap (λ y. is_reached trees a x || y) (sym (found-append fs gs x))

  pub Wants-refl : (a : Walk) → Wants trees [] a a
  Wants-refl a x i = sym (or-false (is_reached trees a x))
