-- What a turn does to a walk that decodes a term.
use Rattle.std.proofs.Common.{◌≡◌, ℕ, suc, ◌+◌, ◌-◌, ◌*◌, ◌<◌, ◌≤◌, Bool, true, false, List, [], ◌∷◌, ◌++◌, length, map, Option, Some, None, refl, sym, ap, subst, ◌∙◌, arith}
use Rattle.std.specs.Prelude.{IfSome, MatchOption}
use Rattle.hol_spec.specs.Limits.{greatest_size, greatest_depth, term_size}
use Rattle.hol_spec.specs.Terms as term
use Rattle.hol_spec.specs.ClosedForm.{ClosedType, ClosedTerm}
use Rattle.hol_type.specs.declared.table.TypeId.{TypeId}
use Rattle.hol_type.specs.TableLaws.{Holds-tree_at}
use Rattle.hol_term.specs.declared.TermId.{TermId}
use Rattle.hol_term.specs.Tables.{Trees, Holds, Keeps, term_at, terms_at, type_at, AreKnown}
use Rattle.hol_term.specs.TableLaws.{AreKnown-Keeps, terms_at-Keeps, Some-term_in, term_in-Some}
use Rattle.lp_spec.specs.Trees.{Tree, App, Lam, size}
use Rattle.lp_spec.specs.Modules.{Declaration, applied}
use Rattle.lp_term.specs.declared.LpId.{LpId}
use Rattle.lp_term.specs.Tables as lp
use Rattle.lp_term.specs.Tables.{tree_at, trees_at}
use Rattle.translate_spec.specs.TypeEnc.{Place, inside}
use Rattle.decode_spec.specs.Options.{bind}
use Rattle.decode_spec.specs.Opened.{open_type, open_term}
use Rattle.decode_spec.specs.Decode.{term_from, term_part, type_of_tree}
use Rattle.decode_laws.specs.OptionLaws.{some-injective}
use Rattle.decode_laws.specs.TermLaws.{term_from-is, term_from-stands}
use Rattle.decode_laws.specs.TermWalkLaws.{dead-applied, dead-no_constant, dead-application}
use Rattle.decode_back.specs.declared.terms.Task.{Task}
use Rattle.decode_back.specs.declared.terms.Task.TheVariants.{Visit, Apply, Abstract}
use Rattle.decode_back.specs.Walks.{parameter_name, IsTypeFound}
use Rattle.decode_back.specs.TermWalks.{IsFresh, IsHeadFound, IsLamFound, IsTermFound, NoTermWithin}
use Rattle.decode_back.specs.TermTasks.{visits, Wanted, IsOver, TermEnds, IsTermWalk, IsTermTurn, IsTermShape, AreTermTasks, term_work}
use Rattle.decode_back.proofs.AbstractionLemmas.{open-IsFresh, lam-no_type, lam-no_body, lam-is, lam-none}
use Rattle.decode_back.proofs.TermLemmas.{rest-is}
use Rattle.decode_back.proofs.TypeTurns.{size-positive}

-- a walk begins, and is at its end
pub term-start : (d : List Declaration) (trees : List Tree) (at : ℕ → Place) (types : List ClosedType) (table : Trees) (id : LpId) (binders level there : ℕ)
    → IsTermWalk d trees at types (record { told = term_from d (tree_at trees id.0) (at binders); size = there; depth = level }) table there
    (Visit id binders level ∷ []) []
term-start d trees at types table id binders level there = ([], refl, ((λ none. none), (λ c left e f. (c, e, refl, f))))

module _ (d : List Declaration) (trees : List Tree) (at : ℕ → Place) (types : List ClosedType) (wanted : Wanted) where
  pub term-ends : (table : Trees) (left : ℕ) (made after : List TermId) (found : Option TermId) → IsTermWalk d trees at types wanted table left [] made
      → AreKnown table made → MatchOption found (made ≡ []) (λ id. made ≡ id ∷ after)
      → IsTermFound wanted.depth types wanted.size left wanted.told table found
  term-ends table left made after None w known e =
      let all : [] ≡ open_term parameter_name types w.2.0 ∷ [] =
      ap (terms_at table) (sym e) ∙ w.1 ∙ ap (map (open_term parameter_name types)) w.2.2 in absurd (cc)
  term-ends table left made after (Some id) w known e =
      let all : terms_at table (id ∷ after) ≡ open_term parameter_name types w.2.0 ∷ [] =
      ap (terms_at table) (sym e) ∙ w.1 ∙ ap (map (open_term parameter_name types)) w.2.2 in
      let first : term_at table id.0 ≡ open_term parameter_name types w.2.0 = cc in
      let here : AreKnown table (id ∷ after) = subst (AreKnown table) e known in
      (w.2.0, w.2.1, subst (Holds table id.0) first (term_in-Some table.terms id.0 here.0), w.2.3)

  -- in a table that keeps what it has, the tasks come to the same
  TermEnds-Keeps : (old new : Trees) → Keeps old new → (tasks : List Task) (made : List ClosedTerm) (there : ℕ)
      → TermEnds d trees at types wanted old tasks made there → TermEnds d trees at types wanted new tasks made there
  TermEnds-Keeps old new k [] made there h = h
  TermEnds-Keeps old new k (Visit tree binders level ∷ tasks) made there h =
      (h.0, (λ c left e f. TermEnds-Keeps old new k tasks (c ∷ made) left (h.1 c left e f)))
  TermEnds-Keeps old new k (Apply ∷ tasks) (x ∷ f ∷ made) there h =
      (h.0, (λ left e. TermEnds-Keeps old new k tasks (ClosedTerm.app f x ∷ made) left (h.1 left e)))
  TermEnds-Keeps old new k (Apply ∷ tasks) (x ∷ []) there h = h
  TermEnds-Keeps old new k (Apply ∷ tasks) [] there h = h
  TermEnds-Keeps old new k (Abstract ty ∷ tasks) (b ∷ made) there h = (
    h.0,
    k.types.stays.each ty.0 (open_type parameter_name h.0) h.1,
    h.2,
    (λ left e. TermEnds-Keeps old new k tasks (ClosedTerm.lam h.0 b ∷ made) left (h.3 left e)),
  )
  TermEnds-Keeps old new k (Abstract ty ∷ tasks) [] there h = h

  -- a term that was made, and the visits of what it is applied to
  ends-visits : (table : Trees) (binders level : ℕ) → 0 < level
      → (args : List LpId) (F : Tree) (f : ClosedTerm) (tasks : List Task) (made : List ClosedTerm) (there whole : ℕ) → term_from d F (at binders) ≡ Some f
      → there + term_size (open_term parameter_name types f) ≡ whole
      → (NoTermWithin types whole level (term_from d (applied F (trees_at trees args)) (at binders)) → IsOver types wanted)
      → ((c : ClosedTerm) (left : ℕ) → term_from d (applied F (trees_at trees args)) (at binders) ≡ Some c → left + term_size (open_term parameter_name types c)
      ≡ whole → TermEnds d trees at types wanted table tasks (c ∷ made) left)
      → TermEnds d trees at types wanted table (visits binders (level - 1) args tasks) (f ∷ made) there
  ends-visits table binders level deep [] F f tasks made there whole stands spent over ends = ends f there stands spent
  ends-visits table binders level deep (a ∷ args) F f tasks made there whole stands spent over ends =
      let X : Tree = tree_at trees a.0 in
      let rest : List Tree = trees_at trees args in
      let here : Place = at binders in (
        (λ none. over
            (dead-applied parameter_name types d here whole level (App F X) rest
            (dead-application parameter_name types d here whole level f F X stands
            (λ x e m n. none x e (omega (arith, m, spent)) (omega (arith, n, deep)))))),
        (λ x left e paid. (
          (λ z. over
              (dead-applied parameter_name types d here whole level (App F X) rest
              (dead-application parameter_name types d here whole level f F X stands (λ y g m n.
              let same : x ≡ y = some-injective (sym e ∙ g) in
              let s : term_size (open_term parameter_name types x) ≡ term_size (open_term parameter_name types y) =
              ap (λ u. term_size (open_term parameter_name types u)) same in
              omega (arith, m, spent, paid, z, s))))),
          (λ final last. ends-visits table binders level deep args (App F X) (ClosedTerm.app f x) tasks made final whole
              (term_from-stands d (ClosedTerm.app f x) here (App F X) (F, X, term_from-is d F here f stands, term_from-is d X here x e, refl))
              (omega (arith, spent, paid, last)) over ends),
        )),
      )

  -- at a visit
  module _ (table now : Trees) (k : Keeps table now) (tree : LpId) (binders level : ℕ) (deep : 0 < level) (tasks : List Task) (made : List TermId)
      (known : AreKnown table made) (there : ℕ)
      (w : IsTermWalk d trees at types wanted table there (Visit tree binders level ∷ tasks) made) where
    kept : terms_at now made ≡ map (open_term parameter_name types) w.0
    kept = sym (terms_at-Keeps k made known) ∙ w.1

    -- the head is found, or nothing within the limits
    pub turn-found : (left : ℕ) (H : Tree) (args rest : List LpId) → applied H (trees_at trees args) ≡ tree_at trees tree.0
        → (found : Option TermId) (goes_on : Bool) (next : List Task) (after : List TermId)
        → IsHeadFound level types there left d (at binders) H (trees_at trees args) (trees_at trees rest) now found
        → MatchOption found (goes_on ≡ false) (λ id. (goes_on ≡ true) × (after ≡ id ∷ made) × (next ≡ visits binders (level - 1) rest tasks))
        → IsTermTurn d trees at types wanted now left next after goes_on
    turn-found left H args rest spine None goes_on next after h e =
        subst (IsTermTurn d trees at types wanted now left next after) (sym e)
        (w.2.0 (subst (λ A. NoTermWithin types there level (term_from d A (at binders))) spine h))
    turn-found left H args rest spine (Some id) goes_on next after h e =
        let whole : applied (applied H h.0) (trees_at trees rest) ≡ tree_at trees tree.0 =
        rest-is H (tree_at trees tree.0) (trees_at trees args) h.0 (trees_at trees rest) spine h.1 in
        let first : term_at now id.0 ≡ open_term parameter_name types h.2.0 = Some-term_in now.terms id.0 (open_term parameter_name types h.2.0) h.2.2 in
        let ends =
        ends-visits now binders level deep rest (applied H h.0) h.2.0 tasks w.0 left there h.2.1 h.2.3
        (λ none. w.2.0 (subst (λ A. NoTermWithin types there level (term_from d A (at binders))) whole none))
        (λ c final f paid. TermEnds-Keeps table now k tasks (c ∷ w.0) final (w.2.1 c final (ap (λ A. term_from d A (at binders)) (sym whole) ∙ f) paid)) in
        subst (IsTermTurn d trees at types wanted now left next after) (sym e.0)
        (subst (λ l. IsTermWalk d trees at types wanted now left l after) (sym e.2)
        (subst (λ l. IsTermWalk d trees at types wanted now left (visits binders (level - 1) rest tasks) l) (sym e.1)
        (h.2.0 ∷ w.0, (λ i. first i ∷ kept i), ends)))

    -- the type of the binder is found, or nothing within the limits
    pub turn-lam : (A : Tree) (body : LpId) (args : List LpId) → applied (Lam A (tree_at trees body.0)) (trees_at trees args) ≡ tree_at trees tree.0
        → at (binders + 1) ≡ inside (at binders) → there ≤ greatest_size → level ≤ greatest_depth
        → (found : Option TypeId) (goes_on : Bool) (next : List Task) → IsTypeFound level (bind (term_part A) (type_of_tree d (at binders))) now found
        → MatchOption found (goes_on ≡ false) (λ ty. (goes_on ≡ true)
        × (next ≡ Visit body (binders + 1) (level - 1) ∷ Abstract ty ∷ visits binders (level - 1) args tasks))
        → IsTermTurn d trees at types wanted now there next made goes_on
    turn-lam A body args spine step l m found goes_on next h e = go found h e
      where
        B : Tree
        B = tree_at trees body.0

        over : NoTermWithin types there level (term_from d (Lam A B) (at binders)) → IsOver types wanted
        over none =
            w.2.0 (subst (λ T. NoTermWithin types there level (term_from d T (at binders))) spine
            (dead-applied parameter_name types d (at binders) there level (Lam A B) (trees_at trees args)
            (dead-no_constant parameter_name types d (at binders) there level (Lam A B) (λ acc. refl) none)))

        go : (found : Option TypeId) → IsTypeFound level (bind (term_part A) (type_of_tree d (at binders))) now found
            → MatchOption found (goes_on ≡ false) (λ ty. (goes_on ≡ true)
            × (next ≡ Visit body (binders + 1) (level - 1) ∷ Abstract ty ∷ visits binders (level - 1) args tasks))
            → IsTermTurn d trees at types wanted now there next made goes_on
        go None h e = subst (IsTermTurn d trees at types wanted now there next made) (sym e) (over (lam-no_type d (at binders) types level there A B l h))
        go (Some ty) h e =
            subst (IsTermTurn d trees at types wanted now there next made) (sym e.0)
            (subst (λ l. IsTermWalk d trees at types wanted now there l made) (sym e.1) (
              w.0,
              kept,
              (
                (λ none. over
                    (lam-no_body d (at binders) types level there A B (level - 1) (omega (arith, deep))
                    (subst (λ p. NoTermWithin types there (level - 1) (term_from d B p)) step none))),
                (λ c left f paid.
                    let inner : term_from d B (inside (at binders)) ≡ Some c = ap (term_from d B) (sym step) ∙ f in (
                      h.0,
                      h.2,
                      (λ none. over (lam-none d (at binders) types level there A B h.0 h.1 c inner left l m paid none)),
                      (λ final last. ends-visits now binders level deep args (Lam A B) (ClosedTerm.lam h.0 c) tasks w.0 final there
                          (lam-is d (at binders) types level there A B h.0 h.1 c inner) (omega (arith, paid, last))
                          (λ none. w.2.0 (subst (λ T. NoTermWithin types there level (term_from d T (at binders))) spine none))
                          (λ x y g p. TermEnds-Keeps table now k tasks (x ∷ w.0) y (w.2.1 x y (ap (λ T. term_from d T (at binders)) (sym spine) ∙ g) p))),
                    )),
              ),
            ))

  -- the application of two terms
  pub apply-short : (table : Trees) (tasks : List Task) (made : List ClosedTerm) (there : ℕ) → TermEnds d trees at types wanted table (Apply ∷ tasks) made there
      → there ≡ 0 → IsOver types wanted
  apply-short table tasks (x ∷ f ∷ made) there h e = h.0 e
  apply-short table tasks (x ∷ []) there h e = absurd h
  apply-short table tasks [] there h e = absurd h

  pub apply-paid : (table now : Trees) → Keeps table now → (tasks : List Task) (terms : List ClosedTerm) (there left : ℕ)
      → TermEnds d trees at types wanted table (Apply ∷ tasks) terms there → left + 1 ≡ there
      → (x f id : TermId) (rest : List TermId) → terms_at table (x ∷ f ∷ rest) ≡ map (open_term parameter_name types) terms → AreKnown table rest
      → Holds now id.0 (term.Term.app (term_at table f.0) (term_at table x.0))
      → IsTermWalk d trees at types wanted now left tasks (id ∷ rest)
  apply-paid table now k tasks (a ∷ g ∷ terms) there left h paid x f id rest e known held =
      let first : term_at table x.0 ≡ open_term parameter_name types a = cc in
      let second : term_at table f.0 ≡ open_term parameter_name types g = cc in
      let others : terms_at table rest ≡ map (open_term parameter_name types) terms = cc in
      let made : term_at now id.0 ≡ open_term parameter_name types (ClosedTerm.app g a) =
      Some-term_in now.terms id.0 (term.Term.app (term_at table f.0) (term_at table x.0)) held ∙ (λ i. term.Term.app (second i) (first i)) in
      let kept : terms_at now rest ≡ map (open_term parameter_name types) terms = sym (terms_at-Keeps k rest known) ∙ others in
      (ClosedTerm.app g a ∷ terms, (λ i. made i ∷ kept i), TermEnds-Keeps table now k tasks (ClosedTerm.app g a ∷ terms) left (h.1 left paid))
  apply-paid table now k tasks (a ∷ []) there left h paid x f id rest e known held = absurd h
  apply-paid table now k tasks [] there left h paid x f id rest e known held = absurd h

  -- the abstraction over a term
  pub turn-abstract : (table now : Trees) → Keeps table now → (ty : TypeId) (tasks : List Task) (terms : List ClosedTerm) (there left : ℕ)
      → TermEnds d trees at types wanted table (Abstract ty ∷ tasks) terms there
      → (body : TermId) (rest after : List TermId) (found : Option TermId) (goes_on : Bool) → terms_at table (body ∷ rest)
      ≡ map (open_term parameter_name types) terms → AreKnown table rest
      → (IsFresh (term_at table body.0) → IsLamFound (type_at table ty.0) (term_at table body.0) there left now found)
      → MatchOption found (goes_on ≡ false) (λ id. (goes_on ≡ true) × (after ≡ id ∷ rest))
      → IsTermTurn d trees at types wanted now left tasks after goes_on
  turn-abstract table now k ty tasks [] there left h body rest after found goes_on e known lam is = absurd h
  turn-abstract table now k ty tasks (b ∷ terms) there left h body rest after found goes_on e known lam is =
      go found (subst (λ u. IsLamFound u (open_term parameter_name types b) there left now found) typed
      (subst (λ u. IsLamFound (type_at table ty.0) u there left now found) first (lam (subst IsFresh (sym first) (open-IsFresh types b))))) is
    where
      typed : type_at table ty.0 ≡ open_type parameter_name h.0
      typed = Holds-tree_at table.types ty.0 (open_type parameter_name h.0) h.1

      first : term_at table body.0 ≡ open_term parameter_name types b
      first = cc

      others : terms_at table rest ≡ map (open_term parameter_name types) terms
      others = cc

      go : (found : Option TermId) → IsLamFound (open_type parameter_name h.0) (open_term parameter_name types b) there left now found
          → MatchOption found (goes_on ≡ false) (λ id. (goes_on ≡ true) × (after ≡ id ∷ rest))
          → IsTermTurn d trees at types wanted now left tasks after goes_on
      go None m e = subst (IsTermTurn d trees at types wanted now left tasks after) (sym e) (h.2 m)
      go (Some id) m e =
          let made : term_at now id.0 ≡ open_term parameter_name types (ClosedTerm.lam h.0 b) =
          Some-term_in now.terms id.0 (open_term parameter_name types (ClosedTerm.lam h.0 b)) m.0 in
          let kept : terms_at now rest ≡ map (open_term parameter_name types) terms = sym (terms_at-Keeps k rest known) ∙ others in
          subst (IsTermTurn d trees at types wanted now left tasks after) (sym e.0)
          (subst (λ l. IsTermWalk d trees at types wanted now left tasks l) (sym e.1)
          (ClosedTerm.lam h.0 b ∷ terms, (λ i. made i ∷ kept i), TermEnds-Keeps table now k tasks (ClosedTerm.lam h.0 b ∷ terms) left (h.3 left m.1)))

-- what the tasks take, and how many turns they are
module _ (trees : List Tree) where
  pub tasks-Keeps : (old new : Trees) → Keeps old new → (tasks : List Task) (made : ℕ) → AreTermTasks trees old tasks made → AreTermTasks trees new tasks made
  tasks-Keeps old new k [] made h = h
  tasks-Keeps old new k (Visit tree binders level ∷ tasks) made h = (h.0, h.1, tasks-Keeps old new k tasks (made + 1) h.2)
  tasks-Keeps old new k (Apply ∷ tasks) made h = (h.0, h.1, h.2, tasks-Keeps old new k tasks h.0 h.3)
  tasks-Keeps old new k (Abstract ty ∷ tasks) made h = let l = h.0 in (omega (arith, l, k.types.longer), h.1, tasks-Keeps old new k tasks made h.2)

  pub tasks-visits : (table : Trees) (binders level : ℕ) → binders + level ≤ greatest_depth → (args : List LpId) → lp.AreKnown trees args
      → (tasks : List Task) (made : ℕ) → 1 ≤ made → AreTermTasks trees table tasks made
      → AreTermTasks trees table (visits binders level args tasks) made
  tasks-visits table binders level within [] known tasks made l h = h
  tasks-visits table binders level within (a ∷ args) known tasks made l h =
      (known.0, within, (made, refl, l, tasks-visits table binders level within args known.1 tasks made l h))

  pub work-visits : (binders level : ℕ) (args : List LpId) (F : Tree) (tasks : List Task)
      → term_work trees (visits binders level args tasks) + 2 * size F ≤ 2 * size (applied F (trees_at trees args)) + term_work trees tasks
  work-visits binders level [] F tasks = omega arith
  work-visits binders level (a ∷ args) F tasks = let h = work-visits binders level args (App F (tree_at trees a.0)) tasks in omega (arith, h)

  -- after the head is found
  pub shaped-found : (table now : Trees) → Keeps table now → (binders level : ℕ) → 0 < level → binders + level ≤ greatest_depth → (rest : List LpId)
      → lp.AreKnown trees rest → (tasks next : List Task) (made after : List TermId) → AreKnown table made
      → AreTermTasks trees table tasks (length made + 1) → (found : Option TermId) (goes_on : Bool) → IfSome found (λ id. id.0 < length now.terms)
      → MatchOption found (goes_on ≡ false) (λ id. (goes_on ≡ true) × (after ≡ id ∷ made) × (next ≡ visits binders (level - 1) rest tasks)) → goes_on ≡ true
      → IsTermShape trees now next after
  shaped-found table now k binders level deep within rest known tasks next made after made_known h None goes_on id e f = absurd (cc)
  shaped-found table now k binders level deep within rest known tasks next made after made_known h (Some id) goes_on id_known e f =
      let z : length made + 1 ≡ suc (length made) = omega arith in
      subst (IsTermShape trees now next) (sym e.1)
      (subst (λ l. IsTermShape trees now l (id ∷ made)) (sym e.2) (
        (id_known, AreKnown-Keeps k made made_known),
        tasks-visits now binders (level - 1) (omega (arith, deep, within)) rest known tasks (suc (length made)) (omega arith)
            (tasks-Keeps table now k tasks (suc (length made)) (subst (AreTermTasks trees table tasks) z h)),
      ))

  pub less-found : (binders level : ℕ) (H : Tree) (args rest : List LpId) (tasks next : List Task) (made after : List TermId) (found : Option TermId)
      (goes_on : Bool) → IfSome found (λ id. (taken : List Tree) × (trees_at trees args ≡ taken ++ trees_at trees rest))
      → MatchOption found (goes_on ≡ false) (λ id. (goes_on ≡ true) × (after ≡ id ∷ made) × (next ≡ visits binders (level - 1) rest tasks)) → goes_on ≡ true
      → term_work trees next < 2 * size (applied H (trees_at trees args)) + term_work trees tasks
  less-found binders level H args rest tasks next made after None goes_on h e f = absurd (cc)
  less-found binders level H args rest tasks next made after (Some id) goes_on h e f =
      let whole = ap size (rest-is H (applied H (trees_at trees args)) (trees_at trees args) h.0 (trees_at trees rest) refl h.1) in
      let w = work-visits binders (level - 1) rest (applied H h.0) tasks in
      let n = ap (term_work trees) e.2 in
      let p = size-positive (applied H h.0) in
      omega (arith, whole, w, n, p)

  -- after the type of a binder is found
  pub shaped-lam : (table now : Trees) → Keeps table now → (binders level : ℕ) → 0 < level → binders + level ≤ greatest_depth → (body : LpId)
      → body.0 < length trees → (args : List LpId) → lp.AreKnown trees args → (tasks next : List Task) (made : List TermId) → AreKnown table made
      → AreTermTasks trees table tasks (length made + 1) → (found : Option TypeId) (goes_on : Bool) → IfSome found (λ ty. ty.0 < length now.types)
      → MatchOption found (goes_on ≡ false) (λ ty. (goes_on ≡ true)
      × (next ≡ Visit body (binders + 1) (level - 1) ∷ Abstract ty ∷ visits binders (level - 1) args tasks)) → goes_on ≡ true
      → IsTermShape trees now next made
  shaped-lam table now k binders level deep within body body_known args known tasks next made made_known h None goes_on ty e f = absurd (cc)
  shaped-lam table now k binders level deep within body body_known args known tasks next made made_known h (Some ty) goes_on ty_known e f =
      subst (λ l. IsTermShape trees now l made) (sym e.1) (
        AreKnown-Keeps k made made_known,
        (
          body_known,
          omega (arith, deep, within),
          (
            ty_known,
            omega arith,
            tasks-visits now binders (level - 1) (omega (arith, deep, within)) args known tasks (length made + 1) (omega arith)
                (tasks-Keeps table now k tasks (length made + 1) h),
          ),
        ),
      )

  pub less-lam : (binders level : ℕ) (A : Tree) (body : LpId) (args : List LpId) (tasks next : List Task) (found : Option TypeId) (goes_on : Bool)
      → MatchOption found (goes_on ≡ false) (λ ty. (goes_on ≡ true)
      × (next ≡ Visit body (binders + 1) (level - 1) ∷ Abstract ty ∷ visits binders (level - 1) args tasks)) → goes_on ≡ true
      → term_work trees next < 2 * size (applied (Lam A (tree_at trees body.0)) (trees_at trees args)) + term_work trees tasks
  less-lam binders level A body args tasks next None goes_on e f = absurd (cc)
  less-lam binders level A body args tasks next (Some ty) goes_on e f =
      let w = work-visits binders (level - 1) args (Lam A (tree_at trees body.0)) tasks in
      let n = ap (term_work trees) e.1 in
      omega (arith, w, n)

  -- after two terms are one
  pub shaped-apply : (table now : Trees) → Keeps table now → (tasks : List Task) (made after : List TermId)
      → AreTermTasks trees table (Apply ∷ tasks) (length made) → AreKnown now after → length after + 1 ≡ length made → IsTermShape trees now tasks after
  shaped-apply table now k tasks made after h known e =
      let f = h.1 in
      let z : h.0 ≡ length after = omega (arith, e, f) in
      (known, subst (AreTermTasks trees now tasks) z (tasks-Keeps table now k tasks h.0 h.3))

-- what a head takes
pub head-taken : (d : List Declaration) (at : Place) (types : List ClosedType) (level there left : ℕ) (H : Tree) (args rest : List Tree) (trees : Trees)
    (found : Option TermId) → IsHeadFound level types there left d at H args rest trees found
    → IfSome found (λ id. (taken : List Tree) × (args ≡ taken ++ rest))
head-taken d at types level there left H args rest trees None h = tt
head-taken d at types level there left H args rest trees (Some id) h = (h.0, h.1)

pub nothing-taken : (args : List Tree) (found : Option TermId) → IfSome found (λ id. (taken : List Tree) × (args ≡ taken ++ args))
nothing-taken args None = tt
nothing-taken args (Some id) = ([], refl)

-- what is put with what was made is of the table
pub kept-known : (table now : Trees) → Keeps table now → (made after : List TermId) (found : Option TermId) (goes_on : Bool) → AreKnown table made
    → IfSome found (λ id. id.0 < length now.terms)
    → MatchOption found (goes_on ≡ false) (λ id. (goes_on ≡ true) × (after ≡ id ∷ made)) → goes_on ≡ true → AreKnown now after
kept-known table now k made after None goes_on known h e f = absurd (cc)
kept-known table now k made after (Some id) goes_on known h e f = subst (AreKnown now) (sym e.1) (h, AreKnown-Keeps k made known)
