-- A turn that asks for the type of a tree.
use Rattle.std.proofs.Common.{◌≡◌, refl, sym, ap, ◌∙◌, subst, ℕ, zero, suc, length, Option, ◌-◌, ◌<◌, ◌≤◌, arith, List, [], ◌∷◌, Some, Bool}
use Rattle.std.proofs.Math.Path.{subst₂}
use Rattle.lp_spec.specs.Trees.{Tree, Sym, App, Lam, Pi, lift}
use Rattle.lp_spec.specs.Modules.{Declaration}
use Rattle.lp_term.specs.declared.LpId.{LpId}
use Rattle.lp_term.specs.Tables.{tree_at, trees_at, Holds, Stays, Keeps, AreKnown}
use Rattle.lp_term.specs.TableLaws.{Holds-tree_at, tree_at-Stays}
use Rattle.std.specs.Prelude.{slice_get, option_map, IfOk, OnOk, Result, Ok, Err}
use Rattle.holide_sig.specs.declared.module.Module.{Module}
use Rattle.holide_sig.specs.Modules.{declarations_of}
use Rattle.lp_spec.specs.Check.{Infer, Plan, Ask, infer, found_if}
use Rattle.lp_check_laws.specs.PlanLaws.{and_then, Leaves, leaves_equal, leaves_then, leaves_fewer, leaves_ask}
use Rattle.lp_conv.specs.GrowthLaws.{AreKnown-Keeps}
use Rattle.lp_kernel.specs.declared.state.Application.{Application}
use Rattle.lp_kernel.specs.declared.state.Frame.{Frame}
use Rattle.lp_kernel.specs.declared.state.Frame.TheVariants as frame
use Rattle.lp_kernel.specs.declared.state.Next.{Next}
use Rattle.lp_kernel.specs.declared.state.Next.TheVariants as next
use Rattle.lp_kernel.specs.declared.state.State.{State}
use Rattle.lp_kernel.specs.Pending.{resume, IsTurned, variable_plan, variable_type, IsFoundIf, IsApplication, IsKnownFrame, AreKnownFrames, IsKnownState, outside}
use Rattle.std.proofs.lemmas.Option.{same_Some}
use Rattle.lp_kernel.specs.Lifted.{IsLift, AreLifts}

-- a turn that goes on as the plan for the tree does
module _ (rechecks : Bool) (ds : List Declaration) (G : List Tree) (rest : Tree → Plan) where
  pub asked-as : {t u : Tree} {p : Plan} {spent : ℕ} → t ≡ u → spent ≤ 1 → and_then (infer ds rechecks G u) rest ≡ p
      → Leaves ds rechecks (Ask (Infer G t) rest) spent p
  asked-as {u = u} {p = p} {spent = spent} e le is =
      subst (λ w. Leaves ds rechecks (Ask (Infer G w) rest) spent p) (sym e)
      (leaves_fewer ds rechecks le (leaves_then ds rechecks (leaves_ask ds rechecks (Infer G u) rest) (leaves_equal ds rechecks is)))

module _ (rechecks : Bool) (ds : List Declaration) (ts : List Tree) (c : List LpId) (fs new : List Frame) (id : LpId) (spent : ℕ) where
  pub asked-application : (f x : LpId) → Holds ts id.0 (App (tree_at ts f.0) (tree_at ts x.0)) → new
      ≡ frame.Function (record { function = f; argument = x; whole = id }) ∷ fs → spent ≤ 1
      → Leaves ds rechecks (Ask (Infer (trees_at ts c) (tree_at ts id.0)) (resume rechecks ds ts c fs)) spent
      (Ask (Infer (trees_at ts c) (tree_at ts f.0)) (resume rechecks ds ts c new))
  asked-application f x at e le =
      subst (λ l. Leaves ds rechecks (Ask (Infer (trees_at ts c) (tree_at ts id.0)) (resume rechecks ds ts c fs)) spent
      (Ask (Infer (trees_at ts c) (tree_at ts f.0)) (resume rechecks ds ts c l))) (sym e)
      (asked-as rechecks ds (trees_at ts c) (resume rechecks ds ts c fs) (Holds-tree_at ts id.0 _ at) le refl)

  pub asked-abstraction : (a b : LpId) → Holds ts id.0 (Lam (tree_at ts a.0) (tree_at ts b.0)) → new ≡ frame.Domain a b ∷ fs → spent ≤ 1
      → Leaves ds rechecks (Ask (Infer (trees_at ts c) (tree_at ts id.0)) (resume rechecks ds ts c fs)) spent
      (Ask (Infer (trees_at ts c) (tree_at ts a.0)) (resume rechecks ds ts c new))
  asked-abstraction a b at e le =
      subst (λ l. Leaves ds rechecks (Ask (Infer (trees_at ts c) (tree_at ts id.0)) (resume rechecks ds ts c fs)) spent
      (Ask (Infer (trees_at ts c) (tree_at ts a.0)) (resume rechecks ds ts c l))) (sym e)
      (asked-as rechecks ds (trees_at ts c) (resume rechecks ds ts c fs) (Holds-tree_at ts id.0 _ at) le refl)

  pub asked-product : (a b : LpId) → Holds ts id.0 (Pi (tree_at ts a.0) (tree_at ts b.0)) → new ≡ frame.ProductDomain a b ∷ fs → spent ≤ 1
      → Leaves ds rechecks (Ask (Infer (trees_at ts c) (tree_at ts id.0)) (resume rechecks ds ts c fs)) spent
      (Ask (Infer (trees_at ts c) (tree_at ts a.0)) (resume rechecks ds ts c new))
  asked-product a b at e le =
      subst (λ l. Leaves ds rechecks (Ask (Infer (trees_at ts c) (tree_at ts id.0)) (resume rechecks ds ts c fs)) spent
      (Ask (Infer (trees_at ts c) (tree_at ts a.0)) (resume rechecks ds ts c l))) (sym e)
      (asked-as rechecks ds (trees_at ts c) (resume rechecks ds ts c fs) (Holds-tree_at ts id.0 _ at) le refl)

pub asked-symbol : (rechecks : Bool) (m : Module) (s : State) (id : LpId) (k old new : ℕ) (n : Next) → Holds m.table id.0 (Sym k) → variable_plan m k n
    → old - new ≤ 1
    → IsTurned rechecks m (Ask (Infer (trees_at m.table s.context) (tree_at m.table id.0)) (resume rechecks (declarations_of m) m.table s.context s.frames)) old
    new s n
asked-symbol rechecks m s id k old new (next.Tell t) at h le =
    asked-as rechecks (declarations_of m) (trees_at m.table s.context) (resume rechecks (declarations_of m) m.table s.context s.frames)
    (Holds-tree_at m.table id.0 _ at) le
    (ap (λ o. and_then (found_if o) (resume rechecks (declarations_of m) m.table s.context s.frames)) h)
asked-symbol rechecks m s id k old new next.No at h le =
    asked-as rechecks (declarations_of m) (trees_at m.table s.context) (resume rechecks (declarations_of m) m.table s.context s.frames)
    (Holds-tree_at m.table id.0 _ at) le
    (ap (λ o. and_then (found_if o) (resume rechecks (declarations_of m) m.table s.context s.frames)) h)
asked-symbol rechecks m s id k old new (next.Ask t) at h le = absurd h
asked-symbol rechecks m s id k old new next.Over at h le = absurd h
asked-symbol rechecks m s id k old new (next.Under b j f) at h le = absurd h

-- the turns of the leaves: what is found, if anything, at once
pub asked-found : (rechecks : Bool) (m : Module) (s : State) (id : LpId) (t : Tree) (o : Option Tree) (old new : ℕ) (n : Next) → tree_at m.table id.0 ≡ t
    → infer (declarations_of m) rechecks (trees_at m.table s.context) t ≡ found_if o → IsFoundIf m.table o n → old - new ≤ 1
    → IsTurned rechecks m (Ask (Infer (trees_at m.table s.context) (tree_at m.table id.0)) (resume rechecks (declarations_of m) m.table s.context s.frames)) old
    new s n
asked-found rechecks m s id t o old new (next.Tell r) at is h le =
    asked-as rechecks (declarations_of m) (trees_at m.table s.context) (resume rechecks (declarations_of m) m.table s.context s.frames) at le
    (ap (λ p. and_then p (resume rechecks (declarations_of m) m.table s.context s.frames)) (is ∙ ap found_if h))
asked-found rechecks m s id t o old new next.No at is h le =
    asked-as rechecks (declarations_of m) (trees_at m.table s.context) (resume rechecks (declarations_of m) m.table s.context s.frames) at le
    (ap (λ p. and_then p (resume rechecks (declarations_of m) m.table s.context s.frames)) (is ∙ ap found_if h))
asked-found rechecks m s id t o old new (next.Ask r) at is h le = absurd h
asked-found rechecks m s id t o old new next.Over at is h le = absurd h
asked-found rechecks m s id t o old new (next.Under b j f) at is h le = absurd h

-- a variable's type
pub entry-of : (ts : List Tree) (c : List LpId) (n : ℕ) (o : Option LpId) → o ≡ slice_get c n → option_map (λ id. tree_at ts id.0) o
    ≡ slice_get (trees_at ts c) n
entry-of ts [] n o e = rw e refl
entry-of ts (id ∷ ids) zero o e = rw e refl
entry-of ts (id ∷ ids) (suc n) o e = entry-of ts ids n o e

pub known-entry : (ts : List Tree) (c : List LpId) (n : ℕ) (id : LpId) → AreKnown ts c → Some id ≡ slice_get c n → id.0 < length ts
known-entry ts [] n id h e = absurd (cc)
known-entry ts (x ∷ xs) zero id h e = subst (λ (y : LpId). y.0 < length ts) (sym (same_Some _ _ e)) h.0
known-entry ts (x ∷ xs) (suc n) id h e = known-entry ts xs n id h.1 e

-- the type of a variable, lifted in a table that has grown
pub lifted-entry : (ts us : List Tree) (c : List LpId) (n k : ℕ) (entry r : LpId) → Stays ts us → entry.0 < length ts → Some entry ≡ slice_get c n
    → Holds us r.0 (lift k (tree_at ts entry.0)) → k ≡ suc n → variable_type us c n ≡ Some (tree_at us r.0)
lifted-entry ts us c n k entry r s known e h is =
    ap (option_map (lift (suc n))) (sym (entry-of us c n (Some entry) e))
    ∙ ap Some (ap (lift (suc n)) (sym (tree_at-Stays s entry.0 known)) ∙ ap (λ j. lift j (tree_at ts entry.0)) (sym is) ∙ sym (Holds-tree_at us r.0 _ h))

-- the same, of one that was lifted before
pub kept-entry : (ts : List Tree) (c : List LpId) (n k : ℕ) (entry r : LpId) → Some entry ≡ slice_get c n → IsLift ts entry k r → k ≡ suc n
    → variable_type ts c n ≡ Some (tree_at ts r.0)
kept-entry ts c n k entry r e h is = ap (option_map (lift (suc n))) (sym (entry-of ts c n (Some entry) e)) ∙ ap Some
    (ap (λ j. lift j (tree_at ts entry.0)) (sym is) ∙ sym h.is)

pub known-application : {ts us : List Tree} → Keeps ts us → (e : Application) → IsApplication ts e → IsApplication us e
known-application {us = us} k e h = record {
  function = omega (arith, k.longer, h.function);
  argument = omega (arith, k.longer, h.argument);
  whole = omega (arith, k.longer, h.whole);
  is = subst₂ (λ F X. Holds us e.whole.0 (App F X)) (tree_at-Stays k.stays e.function.0 h.function) (tree_at-Stays k.stays e.argument.0 h.argument)
      (k.stays.each e.whole.0 _ h.is);
}

known-frame : {ts us : List Tree} → Keeps ts us → (f : Frame) → IsKnownFrame ts f → IsKnownFrame us f
known-frame k (frame.Function e) h = known-application k e h
known-frame k (frame.Reached p e) h = (omega (arith, k.longer, h.0), known-application k e h.1)
known-frame k (frame.Argument e) h = (omega (arith, k.longer, h.0), omega (arith, k.longer, h.1), known-application k e.app h.2)
known-frame k (frame.Expected e) h = (omega (arith, k.longer, h.0), omega (arith, k.longer, h.1), omega (arith, k.longer, h.2), omega (arith, k.longer, h.3))
known-frame k (frame.Domain a b) h = (omega (arith, k.longer, h.0), omega (arith, k.longer, h.1))
known-frame k (frame.Body a) h = omega (arith, k.longer, h)
known-frame k (frame.ProductDomain a b) h = (omega (arith, k.longer, h.0), omega (arith, k.longer, h.1))
known-frame k frame.ProductBody h = tt

known-frames : {ts us : List Tree} → Keeps ts us → (fs : List Frame) → AreKnownFrames ts fs → AreKnownFrames us fs
known-frames k [] h = tt
known-frames k (f ∷ fs) h = (known-frame k f h.0, known-frames k fs h.1)

pub known-state : {ts us : List Tree} → Keeps ts us → (s : State) → IsKnownState ts s → IsKnownState us s
known-state k s h = record { context = AreKnown-Keeps k s.context h.context; frames = known-frames k s.frames h.frames }

-- a leaf's turn, in a table that may have grown
pub asked-leaf : (rechecks : Bool) (m : Module) (ts : List Tree) (s : State) (id : LpId) (t : Tree) (o : Option Tree) (old new : ℕ) (n : Next)
    → Keeps ts m.table → Holds ts id.0 t
    → infer (declarations_of m) rechecks (trees_at m.table s.context) t ≡ found_if o → IsFoundIf m.table o n → old - new ≤ 1
    → IsTurned rechecks m (Ask (Infer (trees_at m.table s.context) (tree_at m.table id.0)) (resume rechecks (declarations_of m) m.table s.context s.frames)) old
    new s n
asked-leaf rechecks m ts s id t o old new n k at is h le =
    asked-found rechecks m s id t o old new n (Holds-tree_at m.table id.0 t (k.stays.each id.0 t at)) is h le

-- what follows from what holds of a result
pub IfOk-map : {X E : Type 0} {P Q : X → Type 0} (r : Result X E) → ((x : X) → P x → Q x) → IfOk r P → IfOk r Q
IfOk-map (Ok x) f h = f x h
IfOk-map (Err e) f h = tt

pub OnOk-map : {A E P Q : Type 0} (r : Result A E) → (P → Q) → OnOk r P → OnOk r Q
OnOk-map (Ok x) f h = f h
OnOk-map (Err e) f h = tt

-- the context outside the innermost variable is known
pub known-outside : (ts : List Tree) (c d : List LpId) → d ≡ outside c → AreKnown ts c → AreKnown ts d
known-outside ts c d e h = subst (AreKnown ts) (sym e) (go c h)
  where
    go : (c : List LpId) → AreKnown ts c → AreKnown ts (outside c)
    go [] h = tt
    go (id ∷ ids) h = h.1

-- a frame more is known
pub known-pushed : (ts : List Tree) (s : State) (f : Frame) (fs : List Frame) → IsKnownState ts s → IsKnownFrame ts f → fs ≡ f ∷ s.frames
    → IsKnownState ts (record { context = s.context; frames = fs; key = s.key })
known-pushed ts s f fs h k e = record { context = h.context; frames = subst (AreKnownFrames ts) (sym e) (k, h.frames) }
