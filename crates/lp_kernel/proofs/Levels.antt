-- Questions inside one another: a closed tree's type is asked for by itself, while what asked for it waits.
use Rattle.std.proofs.Common.{◌≡◌, refl, sym, ap, ◌∙◌, subst, ℕ, suc, ◌+◌, ◌*◌, ◌-◌, ◌<◌, ◌≤◌, arith, length, List, [], ◌∷◌, ◌⊎◌, ⊎_elim, Bool}
use Rattle.std.proofs.Math.Path.{ap₂}
use Rattle.lp_spec.specs.Trees.{Tree, loose}
use Rattle.lp_spec.specs.Modules.{Declaration}
use Rattle.lp_spec.specs.ModuleOrder.{IsModule}
use Rattle.lp_typing_laws.specs.ConversionLaws.{IsClosed}
use Rattle.lp_term.specs.declared.LpId.{LpId}
use Rattle.lp_term.specs.Tables.{tree_at, trees_at, AreKnown}
use Rattle.lp_term.specs.TableLaws.{tree_at-Stays}
use Rattle.holide_sig.specs.declared.module.Module.{Module}
use Rattle.holide_sig.specs.Modules.{declarations_of, IsHeld}
use Rattle.lp_spec.specs.Check.{Question, Infer, Reply, Found, No, Plan, Say, Ask, Ends, said, refused, asked}
use Rattle.lp_check_laws.specs.ClosedTrees.{infer-anywhere}
use Rattle.lp_check_laws.specs.EarlierDeclarations.{IsModule-IsSelfContained}
use Rattle.lp_check_laws.specs.PlanLaws.{Leaves, leaves_all, leaves_equal, leaves_then, leaves_fewer, leaves_found, leaves_no, over_then, over_leaves}
use Rattle.lp_conv.specs.Answers.{Answered, IsOver}
use Rattle.lp_conv.specs.Growth.{Grows}
use Rattle.lp_conv.specs.GrowthLaws.{Grows-refl, Grows-trans, IsHeld-Grows, declarations_of-Grows, trees_at-Stays}
use Rattle.lp_kernel.specs.declared.state.Frame.{Frame}
use Rattle.lp_kernel.specs.declared.state.Next.{Next}
use Rattle.lp_kernel.specs.declared.state.Next.TheVariants as next
use Rattle.lp_kernel.specs.declared.state.State.{State}
use Rattle.lp_kernel.specs.declared.state.Waiting.{Waiting}
use Rattle.lp_kernel.specs.declared.inference.Inferred.TheVariants as inferred
use Rattle.lp_kernel.specs.Inference.{typing, IsInferred}
use Rattle.lp_kernel.specs.declared.latest.Finding.{Finding}
use Rattle.lp_kernel.specs.Lifted.{AreLifts}
use Rattle.lp_kernel.proofs.KeyLaws.{key-one, key-more, more-refl, keyed-same}
use Rattle.lp_kernel.proofs.LiftedLaws.{AreLifts-nil, AreLifts-Keeps}
use Rattle.lp_kernel.proofs.RightLaws.{open-nil, open-stays, right-more}
use Rattle.lp_kernel.specs.declared.memo.Memos.{Memos}
use Rattle.lp_kernel.specs.declared.memo.Turns.{Turns}
use Rattle.lp_kernel.specs.declared.contexts.Scope.{Scope}
use Rattle.lp_kernel.specs.Keys.{IsKey, IsKeyed, AreMore, IsSamePlace}
use Rattle.lp_kernel.specs.Noted.{IsNoted, IsEmpty, IsTypeOfClosed, AreTypes, AreProducts, IsTakenUp}
use Rattle.lp_kernel.specs.Right.{IsTypeIn, AreRight, IsTypeNoted}
use Rattle.lp_kernel.specs.Pending.{resume, pending, IsTurned, AreKnownFrames, IsKnownState, IsKnownNext}
use Rattle.lp_kernel.proofs.Asked.{known-state}
use Rattle.lp_kernel.proofs.Looped.{turned-then}
use Rattle.lp_kernel.proofs.Reached.{AreProducts-Grows}

-- a closed tree has one type, at one price, in all contexts
pub typing-anywhere : (rechecks : Bool) (ds : List Declaration) → IsClosed ds → (G D : List Tree) (t : Tree) → loose t ≡ 0 → {reply : Reply} {n : ℕ}
    → Ends ds rechecks (typing G t) reply n → Ends ds rechecks (typing D t) reply n
typing-anywhere rechecks ds c G D t h (refused e) = refused (infer-anywhere ds c rechecks G D t No _ h e)
typing-anywhere rechecks ds c G D t h (asked {t = u} e said) = asked (infer-anywhere ds c rechecks G D t (Found u) _ h e) said

-- a question takes a step
takes-one : (rechecks : Bool) (ds : List Declaration) (q : Question) (rest : Tree → Plan) {reply : Reply} {n : ℕ} → Ends ds rechecks (Ask q rest) reply n
    → 1 ≤ n
takes-one rechecks ds q rest (refused e) = omega arith
takes-one rechecks ds q rest (asked e f) = omega arith

-- what is kept of a question that was asked where so much was left
pub record IsLevel (rechecks : Bool) (m : Module) (p : Plan) (all here : ℕ) (s : State) (n : Next) : Type 0 where
  pub state : IsKnownState m.table s
  pub next : IsKnownNext m.table n
  pub less : here ≤ all
  pub turned : IsTurned rechecks m p all here s n

next-level : (rechecks : Bool) (m k : Module) (p : Plan) (all here there : ℕ) (s t : State) (n o : Next) → IsHeld m → IsLevel rechecks m p all here s n
    → (n ≡ next.Over → ⊥) → Grows m k → IsKnownState k.table t → IsKnownNext k.table o → there ≤ here
    → IsTurned rechecks k (pending rechecks (declarations_of k) k.table s n) here there t o → IsLevel rechecks k p all there t o
next-level rechecks m k p all here there s t n o held l not g ht ho le b = record {
  state = ht;
  next = ho;
  less = omega (arith, l.less, le);
  turned = turned-then rechecks m k p all here there s t n o g held l.state l.next not le l.less l.turned b;
}

-- a question that waits stays where the module has grown
level-stays : (rechecks : Bool) (m k : Module) (p : Plan) (all here : ℕ) (s : State) (id : LpId) → IsHeld m → Grows m k
    → IsLevel rechecks m p all here s (next.Ask id) → IsLevel rechecks k p all here s (next.Ask id)
level-stays rechecks m k p all here s id held g l =
    let none : here - here ≤ 0 = omega arith in
    let le : here ≤ here = omega arith in
    next-level rechecks m k p all here here s s (next.Ask id) (next.Ask id) held l (λ e. cc) g (known-state g.keeps s l.state)
    (omega (arith, g.keeps.longer, l.next)) le
    (leaves_fewer (declarations_of k) rechecks none (leaves_all (declarations_of k) rechecks (pending rechecks (declarations_of k) k.table s (next.Ask id))))

-- a question with nothing pending
start-level : (rechecks : Bool) (m : Module) (id : LpId) (all : ℕ) (s : State) → id.0 < length m.table → AreKnown m.table s.context → s.frames ≡ []
    → IsLevel rechecks m (typing (trees_at m.table s.context) (tree_at m.table id.0)) all all s (next.Ask id)
start-level rechecks m id all s known context f = record {
  state = record { context = context; frames = subst (AreKnownFrames m.table) (sym f) tt };
  next = known;
  less = omega arith;
  turned =
      let is : all - all ≤ 0 = omega arith in
      leaves_fewer (declarations_of m) rechecks is
      (leaves_equal (declarations_of m) rechecks
      (ap (λ l. Ask (Infer (trees_at m.table s.context) (tree_at m.table id.0)) (resume rechecks (declarations_of m) m.table s.context l)) (sym f)));
}

-- the questions that wait, each for the type of a tree in a context, down to the first; the last is this, asked where so much was left
abbrev pub AreWaiting : (rechecks : Bool) → Module → List Scope → Plan → ℕ → List Waiting → Plan → ℕ → Type 0
AreWaiting rechecks m scopes first all [] p start = (p ≡ first) × (start ≡ all)
AreWaiting rechecks m scopes first all (w ∷ ws) p start =
    (q : Plan) × (before : ℕ) × (c : List LpId) × IsKey scopes w.key c
    × IsLevel rechecks m q before start (record { context = c; frames = w.frames; key = w.key }) (next.Ask w.id)
    × (p ≡ typing (trees_at m.table c) (tree_at m.table w.id.0))
    × AreWaiting rechecks m scopes first all ws q before

waiting-stays : (rechecks : Bool) (m k : Module) (old new : List Scope) (first : Plan) (all : ℕ) (ws : List Waiting) (p : Plan) (start : ℕ) → IsHeld m
    → Grows m k → AreMore old new → AreWaiting rechecks m old first all ws p start → AreWaiting rechecks k new first all ws p start
waiting-stays rechecks m k old new first all [] p start held g more h = h
waiting-stays rechecks m k old new first all (w ∷ ws) p start held g more h = (
  h.0,
  h.1,
  h.2,
  key-more old new more w.key h.2 h.3,
  level-stays rechecks m k h.0 h.1 start _ w.id held g h.4,
  h.5 ∙ ap₂ typing (sym (trees_at-Stays g.keeps.stays h.2 h.4.state.context)) (tree_at-Stays g.keeps.stays w.id.0 h.4.next),
  waiting-stays rechecks m k old new first all ws h.0 h.1 held g more h.6,
)

-- the types that are noted stay right where the module has grown
types-stay : (rechecks : Bool) (m k : Module) (es : List ℕ) → IsHeld m → Grows m k → AreTypes rechecks (declarations_of m) m.table es
    → AreTypes rechecks (declarations_of k) k.table es
types-stay rechecks m k es held g h = record { each = each }
  where
    each : (id found : LpId) → IsNoted es id found → IsTypeOfClosed rechecks (declarations_of k) k.table id found
    each id found i =
        let r = h.each id found i in
        let e = tree_at-Stays g.keeps.stays id.0 r.known in
        let f = tree_at-Stays g.keeps.stays found.0 r.found_known in
        record {
          known = omega (arith, r.known, g.keeps.longer);
          found_known = omega (arith, r.found_known, g.keeps.longer);
          closed = subst (λ t. loose t ≡ 0) e r.closed;
          answered = subst (λ ds. Answered ds rechecks (typing [] (tree_at k.table id.0)) (Found (tree_at k.table found.0)) 1)
              (sym (declarations_of-Grows m k g held))
              (subst (λ t. Answered (declarations_of m) rechecks (typing [] t) (Found (tree_at k.table found.0)) 1) e
              (subst (λ u. Answered (declarations_of m) rechecks (typing [] (tree_at m.table id.0)) (Found u) 1) f r.answered));
        }

-- and so does all that is noted
pub right-stays : (rechecks : Bool) (m k : Module) (memo : Memos) → IsHeld m → Grows m k → AreRight rechecks (declarations_of m) m.table memo
    → AreRight rechecks (declarations_of k) k.table memo
right-stays rechecks m k memo held g h = record {
  rechecked = h.rechecked;
  types = types-stay rechecks m k memo.types held g h.types;
  products = AreProducts-Grows m k memo.turns.products held g h.products;
  lifts = AreLifts-Keeps g.keeps memo.lifts h.lifts;
  open_types = open-stays rechecks m k memo.turns.contexts memo.open_types held g h.open_types;
}

-- at first nothing is noted
pub empty-products : (ds : List Declaration) (ts : List Tree) (es : List ℕ) → IsEmpty es → AreProducts ds ts es
empty-products ds ts es h = record { each = λ t r i. absurd (h t r i) }

pub empty-right : (rechecks : Bool) (ds : List Declaration) (ts : List Tree) (memo : Memos) → memo.turns.rechecks ≡ rechecks → IsEmpty memo.types
    → IsEmpty memo.turns.products → memo.lifts ≡ [] → memo.open_types ≡ [] → AreRight rechecks ds ts memo
empty-right rechecks ds ts memo by h k l o = record {
  rechecked = by;
  types = record { each = λ t r i. absurd (h t r i) };
  products = empty-products ds ts memo.turns.products k;
  lifts = AreLifts-nil ts memo.lifts l;
  open_types = open-nil rechecks ds ts memo.turns.contexts memo.open_types o;
}

-- a type that is found of a closed tree, in some context, may be noted for all
pub right-closed : (rechecks : Bool) (ds : List Declaration) (ts : List Tree) (memo : Memos) (key : ℕ) (id found : LpId) (new : List ℕ) → IsClosed ds
    → loose (tree_at ts id.0) ≡ 0
    → ((t r : LpId) → IsNoted new t r → IsNoted memo.types t r ⊎ ((t ≡ id) × (r ≡ found))) → AreRight rechecks ds ts memo
    → IsTypeIn rechecks ds ts memo.turns.contexts key id found
    → AreRight rechecks ds ts (record { types = new; lifts = memo.lifts; open_types = memo.open_types; turns = memo.turns })
right-closed rechecks ds ts memo key id found new are closed noted h fact = record {
  rechecked = h.rechecked;
  types = record {
    each = λ t r i. ⊎_elim (λ old. h.types.each t r old)
        (λ e. subst (λ x. IsTypeOfClosed rechecks ds ts x r) (sym e.0) (subst (λ y. IsTypeOfClosed rechecks ds ts id y) (sym e.1) is)) (noted t r i);
  };
  products = h.products;
  lifts = h.lifts;
  open_types = h.open_types;
}
  where
    is : IsTypeOfClosed rechecks ds ts id found
    is = record {
      known = fact.known;
      found_known = fact.found_known;
      closed = closed;
      answered = record {
        price = fact.answered.price;
        ends =
            typing-anywhere rechecks ds are (trees_at ts fact.context) [] (tree_at ts id.0) closed fact.answered.ends;
        within = fact.answered.within;
      };
    }

-- what is true at each turn of the loop
pub record IsNoting (rechecks : Bool) (from m : Module) (id : LpId) (all here : ℕ) (ws : List Waiting) (s : State) (n : Next) (es : Memos) : Type 0 where
  pub grows : Grows from m
  pub held : IsHeld m
  pub less : here ≤ all
  pub question : Plan
  pub start : ℕ
  pub level : IsLevel rechecks m question start here s n
  pub keyed : IsKeyed es.turns.contexts s
  pub waiting : AreWaiting rechecks m es.turns.contexts (typing [] (tree_at from.table id.0)) all ws question start
  pub right : AreRight rechecks (declarations_of m) m.table es

pub start-noting : (rechecks : Bool) (m : Module) (id : LpId) (all : ℕ) (ws : List Waiting) (s : State) (es : Memos) → IsHeld m → id.0 < length m.table
    → AreRight rechecks (declarations_of m) m.table es → s.context ≡ [] → s.key ≡ 0 → s.frames ≡ [] → ws ≡ []
    → IsNoting rechecks m m id all all ws s (next.Ask id) es
start-noting rechecks m id all ws s es held known right e k f w = record {
  grows = Grows-refl m;
  held = held;
  less = omega arith;
  question = typing (trees_at m.table s.context) (tree_at m.table id.0);
  start = all;
  level = start-level rechecks m id all s known (subst (AreKnown m.table) (sym e) tt) f;
  keyed = subst (IsKey es.turns.contexts s.key) (sym e) k;
  waiting = subst (λ l. AreWaiting rechecks m es.turns.contexts (typing [] (tree_at m.table id.0)) all l
      (typing (trees_at m.table s.context) (tree_at m.table id.0)) all) (sym w) (ap (λ c. typing (trees_at m.table c) (tree_at m.table id.0)) e, refl);
  right = right;
}

module _ (rechecks : Bool) (from m : Module) (id : LpId) (all here : ℕ) (ws : List Waiting) (s : State) where
  -- a turn of the question that is asked
  pub noting-turn : (k : Module) (there : ℕ) (t : State) (n o : Next) (es : Memos) (turns : Turns) → IsNoting rechecks from m id all here ws s n es
      → (n ≡ next.Over → ⊥) → Grows m k → IsKnownState k.table t → IsKnownNext k.table o → there ≤ here
      → IsTurned rechecks k (pending rechecks (declarations_of k) k.table s n) here there t o → AreMore es.turns.contexts turns.contexts
      → (IsKeyed es.turns.contexts s → IsKeyed turns.contexts t) → turns.rechecks ≡ es.turns.rechecks
      → AreProducts (declarations_of k) k.table turns.products
      → IsNoting rechecks from k id all there ws t o (record { types = es.types; lifts = es.lifts; open_types = es.open_types; turns = turns })
  noting-turn k there t n o es turns l not g ht ho le b more keyed by products = record {
    grows = Grows-trans l.grows g;
    held = IsHeld-Grows m k g l.held;
    less = omega (arith, l.less, le);
    question = l.question;
    start = l.start;
    level = next-level rechecks m k l.question l.start here there s t n o l.held l.level not g ht ho le b;
    keyed = keyed l.keyed;
    waiting = waiting-stays rechecks m k es.turns.contexts turns.contexts (typing [] (tree_at from.table id.0)) all ws l.question l.start l.held g more
        l.waiting;
    right = right-more rechecks (declarations_of k) k.table es turns more by products (right-stays rechecks m k es l.held g l.right);
  }

  -- a turn in the same context
  pub noting-same : (k : Module) (there : ℕ) (t : State) (n o : Next) (es : Memos) → IsNoting rechecks from m id all here ws s n es → (n ≡ next.Over → ⊥)
      → Grows m k → IsKnownState k.table t → IsKnownNext k.table o → there ≤ here
      → IsTurned rechecks k (pending rechecks (declarations_of k) k.table s n) here there t o → IsSamePlace s t
      → IsNoting rechecks from k id all there ws t o es
  noting-same k there t n o es l not g ht ho le b same =
      noting-turn k there t n o es es.turns l not g ht ho le b (more-refl es.turns.contexts) (keyed-same es.turns.contexts s t same) refl
      (AreProducts-Grows m k es.turns.products l.held g l.right.products)

  -- a turn that asks for a type
  pub noting-asked : (k : Module) (there : ℕ) (t : State) (tree : LpId) (o : Next) (es : Memos) → IsNoting rechecks from m id all here ws s (next.Ask tree) es
      → Grows m k → IsKnownState k.table t → IsKnownNext k.table o → there ≤ here
      → IsTurned rechecks k (pending rechecks (declarations_of k) k.table s (next.Ask tree)) here there t o → IsSamePlace s t → (ls : List Finding)
      → AreLifts k.table ls
      → IsNoting rechecks from k id all there ws t o (record { types = es.types; lifts = ls; open_types = es.open_types; turns = es.turns })
  noting-asked k there t tree o es l g ht ho le b same ls lifts =
      let turn = noting-same k there t (next.Ask tree) o es l (λ q. cc) g ht ho le b same in
      record {
        grows = turn.grows;
        held = turn.held;
        less = turn.less;
        question = turn.question;
        start = turn.start;
        level = turn.level;
        keyed = turn.keyed;
        waiting = turn.waiting;
        right = record {
          rechecked = turn.right.rechecked;
          types = turn.right.types;
          products = turn.right.products;
          lifts = lifts;
          open_types =
              turn.right.open_types;
        };
      }

  -- a turn that goes on with a type that was found
  pub noting-told : (k : Module) (there : ℕ) (t : State) (found : LpId) (o : Next) (f : Frame) (fs : List Frame) (es : Memos)
      → IsNoting rechecks from m id all here ws s (next.Tell found) es → s.frames ≡ f ∷ fs → Grows m k → IsKnownState k.table t
      → IsKnownNext k.table o → there ≤ here → IsTurned es.turns.rechecks k
      (resume es.turns.rechecks (declarations_of k) k.table s.context (f ∷ fs) (tree_at k.table found.0)) here there t o
      → (turns : Turns) → turns.rechecks ≡ es.turns.rechecks → AreProducts (declarations_of k) k.table turns.products → AreMore es.turns.contexts turns.contexts
      → (IsKeyed es.turns.contexts s → IsKeyed turns.contexts t)
      → IsNoting rechecks from k id all there ws t o (record { types = es.types; lifts = es.lifts; open_types = es.open_types; turns = turns })
  noting-told k there t found o f fs es l e g ht ho le b turns by products more keyed =
      noting-turn k there t (next.Tell found) o es turns l (λ q. cc) g ht ho le
      (subst (λ l. IsTurned rechecks k (resume rechecks (declarations_of k) k.table s.context l (tree_at k.table found.0)) here there t o) (sym e)
      (subst (λ r. IsTurned r k (resume r (declarations_of k) k.table s.context (f ∷ fs) (tree_at k.table found.0)) here there t o) l.right.rechecked b)) more
      keyed by products

  -- a turn that asks for a tree by itself
  pub noting-inner : (tree : LpId) (inner : List Frame) (all-waiting : List Waiting) (es : Memos) → IsNoting rechecks from m id all here ws s (next.Ask tree) es
      → inner ≡ [] → all-waiting ≡ record { id = tree; key = s.key; frames = s.frames } ∷ ws
      → IsNoting rechecks from m id all here all-waiting (record { context = s.context; frames = inner; key = s.key }) (next.Ask tree) es
  noting-inner tree inner all-waiting es l f w = record {
    grows = l.grows;
    held = l.held;
    less = l.less;
    question = typing (trees_at m.table s.context) (tree_at m.table tree.0);
    start = here;
    level = start-level rechecks m tree here (record { context = s.context; frames = inner; key = s.key }) l.level.next l.level.state.context f;
    keyed = l.keyed;
    waiting = subst (λ l. AreWaiting rechecks m es.turns.contexts (typing [] (tree_at from.table id.0)) all l
        (typing (trees_at m.table s.context) (tree_at m.table tree.0)) here) (sym w) (l.question, l.start, s.context, l.keyed, l.level, refl, l.waiting);
    right = l.right;
  }

  -- the module's declarations are closed
  pub are-closed : Grows from m → IsHeld from → IsModule (declarations_of from) → IsClosed (declarations_of m)
  are-closed g held a = subst IsClosed (sym (declarations_of-Grows from m g held)) (IsModule-IsSelfContained (declarations_of from) a).closed

  -- a type that is remembered
  pub noting-found : IsHeld from → IsModule (declarations_of from) → (tree r : LpId) (there : ℕ) (o : Next) (es : Memos)
      → IsNoting rechecks from m id all here ws s (next.Ask tree) es → IsTypeNoted es s.key tree r → IsTakenUp r here there o
      → IsNoting rechecks from m id all there ws s o es
  noting-found held a tree r there o es l i = go o
    where
      ds : List Declaration
      ds = declarations_of m

      T : Tree
      T = tree_at m.table tree.0

      rest : Tree → Plan
      rest = resume rechecks ds m.table s.context s.frames

      fact : (r.0 < length m.table) × Answered ds rechecks (typing (trees_at m.table s.context) T) (Found (tree_at m.table r.0)) 1
      fact = ⊎_elim
          (λ noted. let f = l.right.types.each tree r noted in (
            f.found_known,
            record {
              price = f.answered.price;
              ends =
                  typing-anywhere rechecks ds (are-closed l.grows held a) [] (trees_at m.table s.context) T f.closed f.answered.ends;
              within =
                  f.answered.within;
            },
          ))
          (λ kept. let f = l.right.open_types.each _ _ kept in (
            f.found_known,
            subst (λ c. Answered ds rechecks (typing (trees_at m.table c) T) (Found (tree_at m.table r.0)) 1)
                (key-one es.turns.contexts s.key f.context s.context f.keyed l.keyed) f.answered,
          ))
          i

      go : (o : Next) → IsTakenUp r here there o → IsNoting rechecks from m id all there ws s o es
      go (next.Tell x) h =
          let le : here - there ≤ fact.1.price = omega (arith, h.1, fact.1.within) in
          let lt : there ≤ here = omega (arith, h.1) in
          subst (λ y. IsNoting rechecks from m id all there ws s (next.Tell y) es) (sym h.0)
          (noting-same m there s (next.Ask tree) (next.Tell r) es l (λ e. cc) (Grows-refl m) l.level.state fact.0 lt
          (leaves_found ds rechecks (typing (trees_at m.table s.context) T) rest (tree_at m.table r.0) fact.1.price (here - there) fact.1.ends le)
          (record { context = refl; key = refl }))
      go next.Over h =
          let lt : there ≤ here = omega (arith, h.1) in
          noting-same m there s (next.Ask tree) next.Over es l (λ e. cc) (Grows-refl m) l.level.state tt lt
          (λ reply n e. omega (arith, h.0, takes-one rechecks ds (Infer (trees_at m.table s.context) T) rest e)) (record { context = refl; key = refl })
      go (next.Ask x) h = absurd h
      go (next.Under b k f) h = absurd h
      go next.No h = absurd h

  -- the type of a tree that was asked for by itself: it is noted, and what waits for it goes on
  pub noting-end : (found : LpId) (w : Waiting) (rest : List Waiting) (es fs : Memos) → IsNoting rechecks from m id all here ws s (next.Tell found) es
      → s.frames ≡ [] → ws ≡ w ∷ rest → w.key ≡ s.key → fs.turns ≡ es.turns
      → (IsTypeIn rechecks (declarations_of m) m.table es.turns.contexts w.key w.id found → AreRight rechecks (declarations_of m) m.table fs)
      → IsNoting rechecks from m id all here rest (record { context = s.context; frames = w.frames; key = s.key }) (next.Tell found) fs
  noting-end found w rest es fs l none e key turns right = record {
    grows = l.grows;
    held = l.held;
    less = l.less;
    question = h.0;
    start = h.1;
    level = subst (λ (c : List LpId). IsLevel rechecks m h.0 h.1 here (record { context = c; frames = w.frames; key = s.key }) (next.Tell found)) same
        (record {
          state = record { context = h.4.state.context; frames = h.4.state.frames };
          next = l.level.next;
          less =
              omega (arith, h.4.less, l.level.less);
          turned = goes-on;
        });
    keyed = subst (λ (ts : Turns). IsKey ts.contexts s.key s.context) (sym turns) l.keyed;
    waiting = subst (λ (ts : Turns). AreWaiting rechecks m ts.contexts (typing [] (tree_at from.table id.0)) all rest h.0 h.1) (sym turns) h.6;
    right = right fact;
  }
    where
      ds : List Declaration
      ds = declarations_of m

      T : Tree
      T = tree_at m.table w.id.0

      h : AreWaiting rechecks m es.turns.contexts (typing [] (tree_at from.table id.0)) all (w ∷ rest) l.question l.start
      h = subst (λ x. AreWaiting rechecks m es.turns.contexts (typing [] (tree_at from.table id.0)) all x l.question l.start) e l.waiting

      G : List Tree
      G = trees_at m.table h.2

      same : h.2 ≡ s.context
      same = key-one es.turns.contexts w.key h.2 s.context h.3 (subst (λ k. IsKey es.turns.contexts k s.context) (sym key) l.keyed)

      left : Leaves ds rechecks l.question (l.start - here) (Say (Found (tree_at m.table found.0)))
      left = subst (λ x. Leaves ds rechecks l.question (l.start - here) (resume rechecks ds m.table s.context x (tree_at m.table found.0))) none l.level.turned

      up : (k : ℕ) × Ends ds rechecks l.question (Found (tree_at m.table found.0)) k × (l.start - here) + 0 ≤ k
      up = left.up (Found (tree_at m.table found.0)) 0 said

      ends : Ends ds rechecks (typing G T) (Found (tree_at m.table found.0)) up.0
      ends = subst (λ p. Ends ds rechecks p (Found (tree_at m.table found.0)) up.0) h.5 up.1

      fact : IsTypeIn rechecks ds m.table es.turns.contexts w.key w.id found
      fact = record {
        context = h.2;
        keyed = h.3;
        known_context = h.4.state.context;
        known = h.4.next;
        found_known = l.level.next;
        answered = record { price = up.0; ends = ends; within = takes-one rechecks ds (Infer G T) (λ t. Say (Found t)) ends };
      }

      goes-on : Leaves ds rechecks h.0 (h.1 - here) (resume rechecks ds m.table h.2 w.frames (tree_at m.table found.0))
      goes-on =
          let le : l.start - here ≤ up.0 = omega (arith, up.2) in
          let sum : h.1 - here ≤ (h.1 - l.start) + (l.start - here) = omega (arith, h.4.less, l.level.less) in
          leaves_fewer ds rechecks sum
          (leaves_then ds rechecks h.4.turned
          (leaves_found ds rechecks (typing G T) (resume rechecks ds m.table h.2 w.frames) (tree_at m.table found.0) up.0 (l.start - here) ends le))

  -- the end of the loop
  pub noting-last : IsHeld from → (found : LpId) (es : Memos) → IsNoting rechecks from m id all here ws s (next.Tell found) es → s.frames ≡ [] → ws ≡ []
      → IsInferred rechecks from [] id m.table all here (inferred.Found found)
  noting-last held found es l none e =
      let h = subst (λ x. AreWaiting rechecks m es.turns.contexts (typing [] (tree_at from.table id.0)) all x l.question l.start) e l.waiting in
      let left = subst
      (λ x. Leaves (declarations_of m) rechecks l.question (l.start - here)
      (resume rechecks (declarations_of m) m.table s.context x (tree_at m.table found.0))) none l.level.turned in
      let up = left.up (Found (tree_at m.table found.0)) 0 said in
      record {
        price = up.0;
        ends = subst (λ ds. Ends ds rechecks (typing [] (tree_at from.table id.0)) (Found (tree_at m.table found.0)) up.0)
            (declarations_of-Grows from m l.grows held) (subst (λ p. Ends (declarations_of m) rechecks p (Found (tree_at m.table found.0)) up.0) h.0 up.1);
        within = omega (arith, up.2, h.1);
      }

  pub noting-no : IsHeld from → (es : Memos) → IsNoting rechecks from m id all here ws s next.No es
      → IsInferred rechecks from [] id m.table all here inferred.No
  noting-no held es l =
      let up = l.level.turned.up No 0 said in
      let k = below ws l.question l.start up.0 l.waiting l.level.less up.1 (omega (arith, up.2)) in
      record {
        price = k.0;
        ends = subst (λ ds. Ends ds rechecks (typing [] (tree_at from.table id.0)) No k.0) (declarations_of-Grows from m l.grows held) k.1;
        within = k.2;
      }
    where
      ds : List Declaration
      ds = declarations_of m

      below : (ws : List Waiting) (p : Plan) (start n : ℕ) → AreWaiting rechecks m es.turns.contexts (typing [] (tree_at from.table id.0)) all ws p start
          → here ≤ start → Ends ds rechecks p No n → start - here ≤ n → (k : ℕ) × Ends ds rechecks (typing [] (tree_at from.table id.0)) No k × all - here ≤ k
      below [] p start n h lt e le = (n, subst (λ q. Ends ds rechecks q No n) h.0 e, omega (arith, le, h.1))
      below (w ∷ ws) p start n h lt e le =
          let T = tree_at m.table w.id.0 in
          let G = trees_at m.table h.2 in
          let b = (leaves_no ds rechecks (typing G T) (resume rechecks ds m.table h.2 w.frames) n (start - here) (subst (λ q. Ends ds rechecks q No n) h.5 e)
          le).up No 0 said in
          let c = h.4.turned.up No b.0 b.1 in
          below ws h.0 h.1 c.0 h.6 (omega (arith, lt, h.4.less)) c.1 (omega (arith, b.2, c.2, lt, h.4.less))

  pub noting-over : IsHeld from → (es : Memos) → IsNoting rechecks from m id all here ws s next.Over es
      → IsInferred rechecks from [] id m.table all here inferred.Over
  noting-over held es l = subst (λ ds. IsOver ds rechecks (typing [] (tree_at from.table id.0)) all) (declarations_of-Grows from m l.grows held)
      (below ws l.question l.start l.waiting l.level.turned)
    where
      ds : List Declaration
      ds = declarations_of m

      below : (ws : List Waiting) (p : Plan) (start : ℕ) → AreWaiting rechecks m es.turns.contexts (typing [] (tree_at from.table id.0)) all ws p start
          → IsOver ds rechecks p start → IsOver ds rechecks (typing [] (tree_at from.table id.0)) all
      below [] p start h over = λ reply n e. omega (arith, over reply n (subst (λ q. Ends ds rechecks q reply n) (sym h.0) e), h.1)
      below (w ∷ ws) p start h over =
          let T = tree_at m.table w.id.0 in
          let G = trees_at m.table h.2 in
          let inner = λ (reply : Reply) (n : ℕ) (e : Ends ds rechecks (typing G T) reply n). over reply n (subst (λ q. Ends ds rechecks q reply n) (sym h.5) e)
          in
          let sum : h.1 ≤ (h.1 - start) + start = omega arith in
          below ws h.0 h.1 h.6
          (over_leaves ds rechecks h.4.turned sum (over_then ds rechecks (typing G T) (resume rechecks ds m.table h.2 w.frames) start inner))

-- how much the questions that wait have pending
abbrev pub load : List Waiting → ℕ
load [] = 0
load (w ∷ ws) = suc (2 * length w.frames) + load ws
