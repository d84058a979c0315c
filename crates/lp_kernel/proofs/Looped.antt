-- What the loop keeps: what is pending is what the question leaves.
use Rattle.std.proofs.Common.{◌≡◌, refl, sym, ap, ◌∙◌, subst, ℕ, ◌-◌, ◌<◌, ◌≤◌, arith, length, List, [], ◌∷◌, Bool}
use Rattle.std.proofs.Math.Path.{fun_ext}
use Rattle.lp_spec.specs.Trees.{Tree, put_all}
use Rattle.std.proofs.Math.Path.{ap₂}
use Rattle.lp_spec.specs.Modules.{Declaration}
use Rattle.lp_term.specs.declared.LpId.{LpId}
use Rattle.lp_term.specs.Tables.{tree_at, trees_at, Stays, AreKnown}
use Rattle.lp_term.specs.TableLaws.{tree_at-Stays, Keeps-refl}
use Rattle.holide_sig.specs.declared.module.Module.{Module}
use Rattle.holide_sig.specs.Modules.{declarations_of, IsHeld}
use Rattle.lp_spec.specs.Check.{Infer, Found, No, Plan, Ask, Ends, said, alone}
use Rattle.lp_check_laws.specs.PlanLaws.{and_then, Leaves, leaves_equal, leaves_then, leaves_fewer, over_leaves}
use Rattle.lp_conv.specs.GrowthLaws.{Grows-trans, IsHeld-Grows, declarations_of-Grows, trees_at-Stays}
use Rattle.lp_kernel.specs.declared.state.Frame.{Frame}
use Rattle.lp_kernel.specs.declared.state.Frame.TheVariants as frame
use Rattle.lp_kernel.specs.declared.state.Next.{Next}
use Rattle.lp_kernel.specs.declared.state.Next.TheVariants as next
use Rattle.lp_kernel.specs.declared.state.State.{State}
use Rattle.lp_kernel.specs.declared.inference.Inferred.TheVariants as inferred
use Rattle.lp_conv.specs.Growth.{Grows}
use Rattle.lp_conv.specs.Answers.{IsOver}
use Rattle.lp_kernel.specs.Inference.{typing, IsInferred}
use Rattle.lp_kernel.specs.declared.latest.Finding.{Finding}
use Rattle.lp_kernel.specs.declared.memo.Turns.{Turns}
use Rattle.lp_kernel.specs.Lifted.{AreLifts}
use Rattle.lp_kernel.specs.Noted.{AreProducts}
use Rattle.lp_kernel.specs.Pending.{spine_args, resume, pending, after, below, IsTurned, IsKnownFrame, AreKnownFrames, IsKnownState, IsKnownNext}
use Rattle.lp_kernel.proofs.LiftedLaws.{AreLifts-Keeps}

module _ (rechecks : Bool) (ds : List Declaration) {ts us : List Tree} (s : Stays ts us) where
  -- how a frame goes on stays
  after-stays : (G : List Tree) (f : Frame) (t : Tree) → IsKnownFrame ts f → after rechecks ds us G f t ≡ after rechecks ds ts G f t
  after-stays G (frame.Function e) t h = rw (tree_at-Stays s e.argument.0 h.argument) refl
  after-stays G (frame.Reached p e) t h = rw (tree_at-Stays s p.0 h.0, tree_at-Stays s e.argument.0 h.1.argument) refl
  after-stays G (frame.Argument e) t h = rw
      (tree_at-Stays s e.domain.0 h.0, tree_at-Stays s e.body.0 h.1, tree_at-Stays s e.app.function.0 h.2.function, tree_at-Stays s e.app.whole.0 h.2.whole)
      refl
  after-stays G (frame.Expected e) t h = rw
      (tree_at-Stays s e.domain.0 h.0, tree_at-Stays s e.body.0 h.1, tree_at-Stays s e.whole.0 h.2, tree_at-Stays s e.found.0 h.3) refl
  after-stays G (frame.Domain a b) t h = rw (tree_at-Stays s a.0 h.0, tree_at-Stays s b.0 h.1) refl
  after-stays G (frame.Body a) t h = rw (tree_at-Stays s a.0 h) refl
  after-stays G (frame.ProductDomain a b) t h = rw (tree_at-Stays s a.0 h.0, tree_at-Stays s b.0 h.1) refl
  after-stays G frame.ProductBody t h = refl

  below-known : (c : List LpId) (f : Frame) → AreKnown ts c → AreKnown ts (below c f)
  below-known c (frame.Function e) h = h
  below-known c (frame.Reached p e) h = h
  below-known c (frame.Argument e) h = h
  below-known c (frame.Expected e) h = h
  below-known c (frame.Domain a b) h = h
  below-known [] (frame.Body a) h = h
  below-known (id ∷ ids) (frame.Body a) h = h.1
  below-known c (frame.ProductDomain a b) h = h
  below-known [] frame.ProductBody h = h
  below-known (id ∷ ids) frame.ProductBody h = h.1

  -- how all frames go on stays
  resume-stays : (c : List LpId) (fs : List Frame) (t : Tree) → AreKnown ts c → AreKnownFrames ts fs → resume rechecks ds us c fs t
      ≡ resume rechecks ds ts c fs t
  resume-stays c [] t hc h = refl
  resume-stays c (f ∷ fs) t hc h =
      ap (λ G. and_then (after rechecks ds us G f t) (resume rechecks ds us (below c f) fs)) (trees_at-Stays s c hc)
      ∙ ap₂ and_then (after-stays (trees_at ts c) f t h.0) (fun_ext (λ u. resume-stays (below c f) fs u (below-known c f hc) h.1))

  -- what is pending stays
  pub pending-stays : (st : State) (n : Next) → IsKnownState ts st → IsKnownNext ts n → pending rechecks ds us st n ≡ pending rechecks ds ts st n
  pending-stays st (next.Ask id) h k =
      ap₂ Ask (ap₂ Infer (trees_at-Stays s st.context h.context) (sym (tree_at-Stays s id.0 k)))
      (fun_ext (λ t. resume-stays st.context st.frames t h.context h.frames))
  pending-stays st (next.Tell id) h k = resume-stays st.context st.frames (tree_at us id.0) h.context h.frames ∙ ap (resume rechecks ds ts st.context st.frames)
      (sym (tree_at-Stays s id.0 k))
  pending-stays st (next.Under b j f) h k = resume-stays st.context st.frames (put_all (spine_args j (tree_at us f.0)) (tree_at us b.0)) h.context h.frames
      ∙ ap₂ (λ F B. resume rechecks ds ts st.context st.frames (put_all (spine_args j F) B)) (sym (tree_at-Stays s f.0 k.1)) (sym (tree_at-Stays s b.0 k.0))
  pending-stays st next.No h k = refl
  pending-stays st next.Over h k = refl

-- a turn after others
pub turned-then : (rechecks : Bool) (m k : Module) (p : Plan) (all here there : ℕ) (s t : State) (n o : Next) → Grows m k → IsHeld m → IsKnownState m.table s
    → IsKnownNext m.table n → (n ≡ next.Over → ⊥) → there ≤ here → here ≤ all
    → IsTurned rechecks m p all here s n → IsTurned rechecks k (pending rechecks (declarations_of k) k.table s n) here there t o
    → IsTurned rechecks k p all there t o
turned-then rechecks m k p all here there s t n o g held hs hn not lt la a b = go o b
  where
    first : Leaves (declarations_of k) rechecks p (all - here) (pending rechecks (declarations_of k) k.table s n)
    first = subst (λ ds. Leaves ds rechecks p (all - here) (pending rechecks ds k.table s n)) (sym (declarations_of-Grows m k g held))
        (subst (Leaves (declarations_of m) rechecks p (all - here)) (sym (pending-stays rechecks (declarations_of m) g.keeps.stays s n hs hn)) (plain n not a))
      where
        plain : (n : Next) → (n ≡ next.Over → ⊥) → IsTurned rechecks m p all here s n
            → Leaves (declarations_of m) rechecks p (all - here) (pending rechecks (declarations_of m) m.table s n)
        plain (next.Ask id) not h = h
        plain (next.Tell id) not h = h
        plain (next.Under b j f) not h = h
        plain next.No not h = h
        plain next.Over not h = absurd (not refl)

    go : (o : Next) → IsTurned rechecks k (pending rechecks (declarations_of k) k.table s n) here there t o → IsTurned rechecks k p all there t o
    go (next.Ask id) h = leaves_fewer (declarations_of k) rechecks (omega (arith, lt, la)) (leaves_then (declarations_of k) rechecks first h)
    go (next.Tell id) h = leaves_fewer (declarations_of k) rechecks (omega (arith, lt, la)) (leaves_then (declarations_of k) rechecks first h)
    go (next.Under b j f) h = leaves_fewer (declarations_of k) rechecks (omega (arith, lt, la)) (leaves_then (declarations_of k) rechecks first h)
    go next.No h = leaves_fewer (declarations_of k) rechecks (omega (arith, lt, la)) (leaves_then (declarations_of k) rechecks first h)
    go next.Over h = over_leaves (declarations_of k) rechecks first (omega (arith, la)) h

-- what is true at each turn of the loop
pub record IsLoop (rechecks : Bool) (from m : Module) (c : List LpId) (id : LpId) (all here : ℕ) (s : State) (n : Next) (ts : Turns) (ls : List Finding) : Type
    0 where
  pub grows : Grows from m
  pub held : IsHeld m
  pub rechecked : ts.rechecks ≡ rechecks
  pub products : AreProducts (declarations_of m) m.table ts.products
  pub lifts : AreLifts m.table ls
  pub state : IsKnownState m.table s
  pub next : IsKnownNext m.table n
  pub less : here ≤ all
  pub turned : IsTurned rechecks m (alone (Infer (trees_at from.table c) (tree_at from.table id.0))) all here s n

pub start-loop : (rechecks : Bool) (m : Module) (c : List LpId) (id : LpId) (all : ℕ) (s : State) → IsHeld m → AreKnown m.table c → id.0 < length m.table
    → s.context ≡ c → s.frames ≡ [] → (ts : Turns) → ts.rechecks ≡ rechecks → AreProducts (declarations_of m) m.table ts.products → (ls : List Finding)
    → AreLifts m.table ls → IsLoop rechecks m m c id all all s (next.Ask id) ts ls
start-loop rechecks m c id all s held hc known e f ts by right ls lifts = record {
  rechecked = by;
  products = right;
  lifts = lifts;
  grows = record { keeps = Keeps-refl m.table; decls = refl };
  held = held;
  state = record { context = subst (AreKnown m.table) (sym e) hc; frames = subst (AreKnownFrames m.table) (sym f) tt };
  next = known;
  less = omega arith;
  turned =
      let is : all - all ≤ 0 = omega arith in
      leaves_fewer (declarations_of m) rechecks is
      (leaves_equal (declarations_of m) rechecks
      (ap₂ (λ k l. Ask (Infer (trees_at m.table k) (tree_at m.table id.0)) (resume rechecks (declarations_of m) m.table k l)) (sym e) (sym f)));
}

-- a turn of the loop
pub next-loop : (rechecks : Bool) (from m k : Module) (c : List LpId) (id : LpId) (all here there : ℕ) (s t : State) (n o : Next) (ts us : Turns)
    (ls ks : List Finding) → IsLoop rechecks from m c id all here s n ts ls → us.rechecks ≡ ts.rechecks → (n ≡ next.Over → ⊥) → Grows m k
    → IsKnownState k.table t → IsKnownNext k.table o → there ≤ here
    → IsTurned rechecks k (pending rechecks (declarations_of k) k.table s n) here there t o → AreProducts (declarations_of k) k.table us.products
    → AreLifts k.table ks → IsLoop rechecks from k c id all there t o us ks
next-loop rechecks from m k c id all here there s t n o ts us ls ks l by not g ht ho le b right lifts = record {
  rechecked = by ∙ l.rechecked;
  products = right;
  lifts = lifts;
  grows = Grows-trans l.grows g;
  held = IsHeld-Grows m k g l.held;
  state = ht;
  next = ho;
  less = omega (arith, l.less, le);
  turned = turned-then rechecks m k (alone (Infer (trees_at from.table c) (tree_at from.table id.0))) all here there s t n o g l.held l.state l.next not le
      l.less l.turned b;
}

-- the end of the loop
pub found-end : (rechecks : Bool) (from m : Module) (c : List LpId) (id found : LpId) (all here : ℕ) (s : State) {ts : Turns} {ls : List Finding} → IsHeld from
    → IsLoop rechecks from m c id all here s (next.Tell found) ts ls → s.frames ≡ [] → IsInferred rechecks from c id m.table all here (inferred.Found found)
found-end rechecks from m c id found all here s held l e =
    let p = subst (λ fs. Leaves (declarations_of m) rechecks (alone (Infer (trees_at from.table c) (tree_at from.table id.0))) (all - here)
    (resume rechecks (declarations_of m) m.table s.context fs (tree_at m.table found.0))) e l.turned in
    let u = p.up (Found (tree_at m.table found.0)) 0 said in
    record {
      price = u.0;
      ends = subst (λ ds. Ends ds rechecks (typing (trees_at from.table c) (tree_at from.table id.0)) (Found (tree_at m.table found.0)) u.0)
          (declarations_of-Grows from m l.grows held) u.1;
      within = omega (arith, u.2);
    }

pub no-end : (rechecks : Bool) (from m : Module) (c : List LpId) (id : LpId) (all here : ℕ) (s : State) {ts : Turns} {ls : List Finding} → IsHeld from
    → IsLoop rechecks from m c id all here s next.No ts ls → IsInferred rechecks from c id m.table all here inferred.No
no-end rechecks from m c id all here s held l = let u =
    l.turned.up No 0 said in record {
      price = u.0;
      ends =
          subst (λ ds. Ends ds rechecks (typing (trees_at from.table c) (tree_at from.table id.0)) No u.0) (declarations_of-Grows from m l.grows held) u.1;
      within =
          omega (arith, u.2);
    }

-- a turn of the loop that goes on with a type that was found
pub told-loop : (rechecks : Bool) (from m k : Module) (c : List LpId) (id : LpId) (all here there : ℕ) (s t : State) (found : LpId) (o : Next) (f : Frame)
    (fs : List Frame) (ts us : Turns) (ls : List Finding) → IsLoop rechecks from m c id all here s (next.Tell found) ts ls → us.rechecks ≡ ts.rechecks
    → s.frames ≡ f ∷ fs → Grows m k → IsKnownState k.table t
    → IsKnownNext k.table o → there ≤ here → IsTurned ts.rechecks k
    (resume ts.rechecks (declarations_of k) k.table s.context (f ∷ fs) (tree_at k.table found.0)) here there t o
    → AreProducts (declarations_of k) k.table us.products → IsLoop rechecks from k c id all there t o us ls
told-loop rechecks from m k c id all here there s t found o f fs ts us ls l by e g ht ho le b right =
    next-loop rechecks from m k c id all here there s t (next.Tell found) o ts us ls ls l by (λ q. cc) g ht ho le
    (subst (λ l. IsTurned rechecks k (resume rechecks (declarations_of k) k.table s.context l (tree_at k.table found.0)) here there t o) (sym e)
    (subst (λ r. IsTurned r k (resume r (declarations_of k) k.table s.context (f ∷ fs) (tree_at k.table found.0)) here there t o) l.rechecked b)) right
    (AreLifts-Keeps g.keeps ls l.lifts)

pub over-end : (rechecks : Bool) (from m : Module) (c : List LpId) (id : LpId) (all here : ℕ) (s : State) {ts : Turns} {ls : List Finding} → IsHeld from
    → IsLoop rechecks from m c id all here s next.Over ts ls → IsInferred rechecks from c id m.table all here inferred.Over
over-end rechecks from m c id all here s held l = subst (λ ds. IsOver ds rechecks (typing (trees_at from.table c) (tree_at from.table id.0)) all)
    (declarations_of-Grows from m l.grows held) l.turned
