-- One step more is looked at.
use Rattle.std.proofs.Common.{◌≡◌, ℕ, zero, suc, ◌+◌, ◌<◌, ◌≤◌, ◌==◌, Bool, true, false, ◌||◌, cond, List, [], ◌∷◌, ◌++◌, map, drop, length, refl, sym, ap, ap₂, subst, ◌∙◌, arith}
use Rattle.std.specs.Prelude.{slice_index_or, slice_set}
use Rattle.std.specs.List.{list_any, flat_map}
use Rattle.std.proofs.lemmas.List.{length-set, get_or-set_same, get_or-set_other}
use Rattle.std.proofs.lemmas.List.Folds.{list_any-append}
use Rattle.std.proofs.lemmas.Bool.Decides.{nat_tests}
use Rattle.hol_spec.specs.Terms.{Variable, bound}
use Rattle.hol_spec.specs.Rules as rule
use Rattle.hol_spec.specs.declared.StepKind.TheVariants.{Refl}
use Rattle.hol_spec.specs.Proofs.{Made, Step, Accepted, steps_of}
use Rattle.hol_laws.specs.Members.{map-twice}
use Rattle.hol_rules.specs.Kept.{Kept, step_count}
use Rattle.hol_rules.specs.Views.{step_at}
use Rattle.article_write_spec.specs.Mentions.{Need, need_eq}
use Rattle.article_write_spec.specs.ReachedSteps.{Numbered, Reached, needs, serves, is_reached as is_wanted, reached_from, reached_steps}
use Rattle.article_write_spec.specs.BinderNames.{is_binder_name, step_variables, binder_number}
use Rattle.article_write_laws.specs.Flags.{selected}
use Rattle.article_write_laws.specs.ReachLaws.{is_flagged, reached-selected}
use Rattle.article_lines.specs.Flagged.{flag}
use Rattle.article_reach.specs.declared.walk.Walk.{Walk}
use Rattle.article_reach.specs.Found.{Found, Asked, is_found, IsAsked, steps_found, step_found}
use Rattle.article_reach.specs.Least.{is_among, IsLeast}
use Rattle.article_reach.specs.Looked.{roots_of, names_of, needs_found, names_found, WalksOn, IsLooked}
use Rattle.article_reach.specs.Reached.{Told, IsReach}
use Rattle.article_reach.specs.Walks.{is_marked, is_reached, found_in}
use Rattle.article_reach.proofs.FoundLaws.{found-needs, found-names, step-needs, step-names}
use Rattle.article_reach.proofs.LeastNames.{least-first}
use Rattle.article_reach.proofs.Walked.{or-false}

module _ (p : Kept) where
  abbrev steps : List Step
  steps = steps_of p.made

  -- where nothing is to be visited, what is reached is what is marked
  marked-reached : (w : Walk) → w.tasks ≡ [] → (x : Asked) → is_reached p.trees w x ≡ is_marked w x
  marked-reached w e x = ap (λ l. is_marked w x || is_found (found_in p.trees l) x) e ∙ or-false (is_marked w x)

  more-marked : (fs : List Found) (w v : Walk) → w.tasks ≡ [] → v.tasks ≡ [] → WalksOn p fs w v → (x : Asked) → IsAsked x → is_marked v x
      ≡ (is_marked w x || is_found fs x)
  more-marked fs w v e f h x i = sym (marked-reached v f x) ∙ h.wants x i ∙ ap (λ b. b || is_found fs x) (marked-reached w e x)

  drop-all : {A : Type 0} (xs : List A) → drop (length xs) xs ≡ []
  drop-all [] = refl
  drop-all (x ∷ xs) = drop-all xs

  module _ (exports : List ℕ) where
    -- Before any step was looked at
    pub looked-first : (first w : Walk) (told : List Bool) → ((x : Asked) → is_marked first x ≡ false) → first.tasks ≡ [] → w.tasks ≡ []
        → WalksOn p (steps_found exports) first w → length told ≡ step_count p
        → ((i : ℕ) → flag told i ≡ false) → IsLooked p exports w told (step_count p)
    looked-first first w told none empty tasks walks count unset =
        let all = drop-all steps in
        record {
          walk = walks.walk;
          tasks = tasks;
          needed = λ m.
              more-marked (steps_found exports) first w empty tasks walks (Asked.need m) (tt {0})
              ∙ ap (λ b. b || is_found (steps_found exports) (Asked.need m)) (none (Asked.need m))
              ∙ ap (λ fs. is_found fs (Asked.need m)) (sym (map-twice Found.needed Need.step exports))
              ∙ ap (λ l. is_found (needs_found (reached_from (roots_of exports) (step_count p) l).needed) (Asked.need m)) (sym all);
          numbers = λ q l.
              more-marked (steps_found exports) first w empty tasks walks (Asked.number q) l
              ∙ ap (λ b. b || is_found (steps_found exports) (Asked.number q)) (none (Asked.number q))
              ∙ silent q exports ∙ ap (λ l. is_found (names_found (names_of (reached_from (roots_of exports) (step_count p) l).steps)) (Asked.number q))
              (sym all);
          count = count;
          each = λ j l. unset j ∙ ap (λ l. is_flagged (roots_of exports) (step_count p) l j) (sym all);
          within = omega arith;
        }
      where
        silent : (q : ℕ) (ids : List ℕ) → is_found (steps_found ids) (Asked.number q) ≡ false
        silent q [] = refl
        silent q (i ∷ ids) = silent q ids

    -- And one more
    pub record Next (i : ℕ) (x : Step) (w v : Walk) (is : Bool) : Type 0 where
      pub is_told : is ≡ list_any (λ n. is_marked w (Asked.need n)) (serves (record { number = i; step = x }))
      pub tasks : v.tasks ≡ []
      pub walks : WalksOn p (cond is (step_found x) []) w v

    any-same : (f g : Need → Bool) (ns : List Need) → ((n : Need) → f n ≡ g n) → list_any f ns ≡ list_any g ns
    any-same f g [] h = refl
    any-same f g (n ∷ ns) h = ap₂ (λ a b. a || b) (h n) (any-same f g ns h)

    names-more : (y : Numbered) (ys : List Numbered) (q : ℕ) → list_any (is_binder_name q) (names_of (y ∷ ys))
        ≡ (list_any (is_binder_name q) (names_of ys) || list_any (is_binder_name q) (map (λ v. v.0) (step_variables y.step)))
    names-more y ys q =
        ap (list_any (is_binder_name q)) (names-append (step_variables y.step) (flat_map (λ z. step_variables z.step) ys))
        ∙ list_any-append (is_binder_name q) (map (λ v. v.0) (step_variables y.step)) (names_of ys)
        ∙ swap (list_any (is_binder_name q) (map (λ v. v.0) (step_variables y.step))) (list_any (is_binder_name q) (names_of ys))
      where
        names-append : (us vs : List Variable) → map (λ v. v.0) (us ++ vs) ≡ map (λ v. v.0) us ++ map (λ v. v.0) vs
        names-append [] vs = refl
        names-append (u ∷ us) vs = ap (λ l. u.0 ∷ l) (names-append us vs)

        swap : (a b : Bool) → (a || b) ≡ (b || a)
        swap true true = refl
        swap true false = refl
        swap false true = refl
        swap false false = refl

    module _ (i : ℕ) (x : Step) (xs : List Step) (w v : Walk) (told : List Bool) (is : Bool) (at : drop i (steps_of p.made) ≡ x ∷ xs)
        (rest : drop (i + 1) (steps_of p.made) ≡ xs) (h : IsLooked p exports w told (i + 1)) (n : Next i x w v is) where
      abbrev before : Reached
      before = reached_from (roots_of exports) (i + 1) xs

      abbrev y : Numbered
      y = record { number = i; step = x }

      needed-before : (m : Need) → is_marked w (Asked.need m) ≡ list_any (need_eq m) before.needed
      needed-before m = h.needed m ∙ ap (λ l. is_found (needs_found (reached_from (roots_of exports) (i + 1) l).needed) (Asked.need m)) rest ∙ found-needs
          before.needed m

      numbers-before : (q : ℕ) → IsAsked (Asked.number q) → is_marked w (Asked.number q) ≡ list_any (is_binder_name q) (names_of before.steps)
      numbers-before q l = h.numbers q l ∙ ap (λ l. is_found (names_found (names_of (reached_from (roots_of exports) (i + 1) l).steps)) (Asked.number q)) rest
          ∙ found-names (names_of before.steps) q

      is-wanted : is ≡ is_wanted before.needed y
      is-wanted = n.is_told ∙ any-same (λ m. is_marked w (Asked.need m)) (λ m. list_any (need_eq m) before.needed) (serves y) needed-before

      abbrev now : Bool → Reached
      now b = cond b (record { needed = before.needed ++ needs x; steps = y ∷ before.steps }) before

      whole : reached_from (roots_of exports) i (drop i (steps_of p.made)) ≡ now is
      whole = ap (reached_from (roots_of exports) i) at ∙ ap now (sym is-wanted)

      needed-now : (b : Bool) (m : Need) → WalksOn p (cond b (step_found x) []) w v → is_marked v (Asked.need m) ≡ list_any (need_eq m) (now b).needed
      needed-now true m walks = more-marked (step_found x) w v h.tasks n.tasks walks (Asked.need m) (tt {0}) ∙ ap₂ (λ a b. a || b) (needed-before m)
          (step-needs m x) ∙ sym (list_any-append (need_eq m) before.needed (needs x))
      needed-now false m walks = more-marked [] w v h.tasks n.tasks walks (Asked.need m) (tt {0}) ∙ or-false (is_marked w (Asked.need m)) ∙ needed-before m

      numbers-now : (b : Bool) (q : ℕ) → IsAsked (Asked.number q) → WalksOn p (cond b (step_found x) []) w v → is_marked v (Asked.number q)
          ≡ list_any (is_binder_name q) (names_of (now b).steps)
      numbers-now true q l walks = more-marked (step_found x) w v h.tasks n.tasks walks (Asked.number q) l ∙ ap₂ (λ a b. a || b) (numbers-before q l)
          (step-names q x) ∙ sym (names-more y before.steps q)
      numbers-now false q l walks = more-marked [] w v h.tasks n.tasks walks (Asked.number q) l ∙ or-false (is_marked w (Asked.number q)) ∙ numbers-before q l

      each-now : (j : ℕ) → i ≤ j → flag (slice_set told i is) j ≡ is_flagged (roots_of exports) i (x ∷ xs) j
      each-now j l = go (j == i) refl
        where
          go : (b : Bool) → (j == i) ≡ b → flag (slice_set told i is) j ≡ is_flagged (roots_of exports) i (x ∷ xs) j
          go true e =
              let same : j ≡ i = grind (arith, nat_tests, e) in
              let within = h.within in
              let count = h.count in
              ap (flag (slice_set told i is)) same ∙ get_or-set_same told i is false (omega (arith, within, count)) ∙ is-wanted
              ∙ sym (ap (λ b. cond b (is_wanted before.needed y) (is_flagged (roots_of exports) (i + 1) xs j)) e)
          go false e =
              let more : i + 1 ≤ j = grind (arith, nat_tests, e, l) in
              get_or-set_other told i j is false (λ s. let f : (j == i) ≡ true = grind (arith, nat_tests, s) in absurd (cc)) ∙ h.each j more
              ∙ ap (λ l. is_flagged (roots_of exports) (i + 1) l j) rest
              ∙ sym (ap (λ b. cond b (is_wanted before.needed y) (is_flagged (roots_of exports) (i + 1) xs j)) e)

      next-IsLooked : IsLooked p exports v (slice_set told i is) i
      next-IsLooked = record {
        walk = n.walks.walk;
        tasks = n.tasks;
        needed = λ m. needed-now is m n.walks ∙ sym (found-needs (now is).needed m)
            ∙ ap (λ (r : Reached). is_found (needs_found r.needed) (Asked.need m)) (sym whole);
        numbers = λ q l. numbers-now is q l n.walks ∙ sym (found-names (names_of (now is).steps) q)
            ∙ ap (λ (r : Reached). is_found (names_found (names_of r.steps)) (Asked.number q)) (sym whole);
        count = length-set told i is ∙ h.count;
        each = λ j l. each-now j l ∙ ap (λ l. is_flagged (roots_of exports) i l j) (sym at);
        within = let low = h.within in omega (arith, low);
      }

    drop-step : (ys : List Step) (i : ℕ) (d : Step) → i < length ys → drop i ys ≡ slice_index_or ys i d ∷ drop (i + 1) ys
    drop-step ys i d l = go ys i l ∙ ap (λ k. slice_index_or ys i d ∷ drop k ys) (let e : suc i ≡ i + 1 = omega arith in e)
      where
        go : (zs : List Step) (k : ℕ) → k < length zs → drop k zs ≡ slice_index_or zs k d ∷ drop (suc k) zs
        go [] k l = absurd (omega (arith, l))
        go (z ∷ zs) zero l = refl
        go (z ∷ zs) (suc k) l = go zs k (omega (arith, l))

    pub looked-next : (i j : ℕ) (w v : Walk) (told : List Bool) (is : Bool) → j ≡ i + 1 → IsLooked p exports w told j → Next i (step_at p.made i) w v is
        → IsLooked p exports v (slice_set told i is) i
    looked-next i j w v told is e h n =
        let within = h.within in
        next-IsLooked i (step_at p.made i) (drop (i + 1) steps) w v told is
        (drop-step steps i
        (record { kind = Refl; premises = []; parameters = rule.Parameters.nothing; sequent = record { hypotheses = []; conclusion = bound 0 } })
        (omega (arith, e, within))) refl (subst (IsLooked p exports w told) e h) n

    -- Once all were looked at
    selected-same : (f g : ℕ → Bool) (i : ℕ) (xs : List Step) → ((k : ℕ) → f k ≡ g k) → selected f i xs ≡ selected g i xs
    selected-same f g i [] h = refl
    selected-same f g i (x ∷ xs) h = ap₂ (λ b l. cond b (record { number = i; step = x } ∷ l) l) (h i) (selected-same f g (suc i) xs h)

    pub looked-IsReach : (w : Walk) (r : Told) → IsLooked p exports w r.told 0 → IsLeast w.numbers.items r.number → length r.is_export ≡ step_count p
        → ((i : ℕ) → flag r.is_export i ≡ is_among exports i) → IsReach p.made exports r
    looked-IsReach w r h least count exports_are = record {
      told_count = h.count;
      exports_count = count;
      exports_are = λ i l. exports_are i;
      reached = λ run made is.
          selected-same (flag r.told) (is_flagged (roots_of exports) 0 steps) 0 steps (λ k. h.each k (omega arith))
          ∙ sym (reached-selected (roots_of exports) 0 steps) ∙ sym (same run made is);
      number = λ run made is.
          sym (least-first w.numbers.items r.number (names_of (reached_from (roots_of exports) 0 steps).steps) least
          (λ q l. h.numbers q l ∙ found-names (names_of (reached_from (roots_of exports) 0 steps).steps) q))
          ∙ ap binder_number (sym (same run made is));
    }
      where
        same : (run : Accepted) → run.made ≡ p.made → run.exports ≡ exports → reached_steps run ≡ (reached_from (roots_of exports) 0 steps).steps
        same run made is = ap₂ (λ (es : List ℕ) (ms : List Made). (reached_from (map Need.step es) 0 (steps_of ms)).steps) is made
