-- The arguments of an application.
use Rattle.std.proofs.Common.{◌≡◌, sym, ap, ◌∙◌, subst, ℕ, suc, ◌<◌, arith, length, List, [], ◌∷◌, ◌++◌, Bool}
use Rattle.std.specs.Prelude.{reverse}
use Rattle.std.proofs.lemmas.List.{append_assoc, append-nil, reverse-append}
use Rattle.lp_spec.specs.Trees.{Tree, App}
use Rattle.lp_term.specs.declared.LpId.{LpId}
use Rattle.lp_term.specs.Tables.{tree_at, trees_at, Holds, AreKnown}
use Rattle.lp_term.specs.TableLaws.{Holds-tree_at}
use Rattle.std.proofs.Common.{◌-◌, ◌≤◌, Some}
use Rattle.lp_spec.specs.Trees.{Pi, put_all}
use Rattle.lp_term.specs.Tables.{Stays}
use Rattle.holide_sig.specs.declared.module.Module.{Module}
use Rattle.holide_sig.specs.Modules.{declarations_of}
use Rattle.lp_spec.specs.Check.{Infer, Ask}
use Rattle.lp_check_laws.specs.PlanLaws.{Leaves, leaves_equal, leaves_fewer}
use Rattle.lp_kernel.specs.declared.state.Application.{Application}
use Rattle.lp_kernel.specs.declared.state.Frame.{Frame}
use Rattle.lp_kernel.specs.declared.state.Frame.TheVariants as frame
use Rattle.lp_kernel.specs.declared.state.Next.TheVariants as next
use Rattle.lp_kernel.specs.declared.state.State.{State}
use Rattle.lp_kernel.specs.Pending.{spine_args, resume, AreKnownFrames, IsApplication, IsKnownState, IsFilled, IsAwaited, IsMade}
use Rattle.lp_kernel.proofs.Told.{met, told-under, filled-here}

-- what is true while they are gathered: those that were, the last first, come after those that are left
pub record AreGathered (ts : List Tree) (k : ℕ) (f : LpId) (args : List LpId) (left : ℕ) (at : LpId) : Type 0 where
  pub here : at.0 < length ts
  pub known : AreKnown ts (reverse args)
  pub are : spine_args k (tree_at ts f.0) ≡ spine_args left (tree_at ts at.0) ++ trees_at ts (reverse args)

pub gathered-start : (ts : List Tree) (k : ℕ) (f : LpId) → f.0 < length ts → AreGathered ts k f [] k f
gathered-start ts k f h = record { here = h; known = tt; are = sym (append-nil (spine_args k (tree_at ts f.0))) }

pub gathered-more : (ts : List Tree) (k : ℕ) (f g x at : LpId) (args more : List LpId) (left less : ℕ) → AreGathered ts k f args left at → more ≡ args ++ x ∷ []
    → left ≡ suc less → g.0 < length ts → x.0 < length ts → Holds ts at.0 (App (tree_at ts g.0) (tree_at ts x.0)) → AreGathered ts k f more less g
gathered-more ts k f g x at args more left less h m l hg hx is = record {
  here = hg;
  known = subst (AreKnown ts) (sym turned) (hx, h.known);
  are =
      h.are
      ∙ ap (λ n. spine_args n (tree_at ts at.0) ++ trees_at ts (reverse args)) l
      ∙ ap (λ t. spine_args (suc less) t ++ trees_at ts (reverse args)) (Holds-tree_at ts at.0 _ is)
      ∙ append_assoc (spine_args less (tree_at ts g.0)) (tree_at ts x.0 ∷ []) (trees_at ts (reverse args))
      ∙ ap (λ l. spine_args less (tree_at ts g.0) ++ trees_at ts l) (sym turned);
}
  where
    turned : reverse more ≡ x ∷ reverse args
    turned = ap reverse m ∙ reverse-append args (x ∷ [])

pub gathered-end : (ts : List Tree) (k : ℕ) (f at : LpId) (args : List LpId) (left : ℕ) → AreGathered ts k f args left at → spine_args left (tree_at ts at.0)
    ≡ [] → trees_at ts (reverse args) ≡ spine_args k (tree_at ts f.0)
gathered-end ts k f at args left h none = sym (h.are ∙ ap (λ l. l ++ trees_at ts (reverse args)) none)

-- the argument of a function whose type is a product that is to have arguments put in
pub awaited-argument : (m : Module) (s : State) (b : LpId) (k : ℕ) (g a c : LpId) (e : Application) (mid new : List Frame) → IsKnownState m.table s
    → Holds m.table b.0 (Pi (tree_at m.table a.0) (tree_at m.table c.0)) → a.0 < length m.table → c.0 < length m.table → e.function.0 ≡ g.0
    → s.frames ≡ frame.Function e ∷ mid → new ≡ met a c k e ∷ mid
    → IsAwaited m s b k g (record { context = s.context; frames = new; key = s.key }) (Some e.argument)
awaited-argument m s b k g a c e mid new hs at ha hc same popped pushed =
    let known = subst (AreKnownFrames m.table) popped hs.frames in (
      known.0.argument,
      record { context = hs.context; frames = subst (AreKnownFrames m.table) (sym pushed) ((ha, hc, known.0), known.1) },
      ap length pushed
          ∙ sym (ap length popped),
      turned known.0,
    )
  where
    turned : IsApplication m.table e → (rechecks : Bool) (left : ℕ)
        → IsMade rechecks m s b k g left (record { context = s.context; frames = new; key = s.key }) (next.Ask e.argument)
    turned app rechecks left =
        let none : left - left ≤ 0 = omega arith in
        subst (λ l. Leaves (declarations_of m) rechecks
        (resume rechecks (declarations_of m) m.table s.context l (put_all (spine_args k (tree_at m.table g.0)) (tree_at m.table b.0))) (left - left)
        (Ask (Infer (trees_at m.table s.context) (tree_at m.table e.argument.0)) (resume rechecks (declarations_of m) m.table s.context new))) (sym popped)
        (subst (λ n. Leaves (declarations_of m) rechecks
        (resume rechecks (declarations_of m) m.table s.context (frame.Function e ∷ mid)
        (put_all (spine_args k (tree_at m.table n)) (tree_at m.table b.0))) (left - left)
        (Ask (Infer (trees_at m.table s.context) (tree_at m.table e.argument.0)) (resume rechecks (declarations_of m) m.table s.context new))) same
        (told-under rechecks (declarations_of m) m.table s.context mid e b a c k new (left - left) at app pushed none))

-- a type that is made
pub made-type : (rechecks : Bool) (m : Module) {ts : List Tree} (s t : State) (b : LpId) (k : ℕ) (g made : LpId) → Stays ts m.table → b.0 < length ts
    → g.0 < length ts → IsFilled ts b k g m.table made → t ≡ s → (left : ℕ) → IsMade rechecks m s b k g left t (next.Tell made)
made-type rechecks m s t b k g made stays hb hg h same left =
    let none : left - left ≤ 0 = omega arith in
    subst (λ u. IsMade rechecks m s b k g left u (next.Tell made)) (sym same)
    (leaves_fewer (declarations_of m) rechecks none
    (leaves_equal (declarations_of m) rechecks
    (ap (resume rechecks (declarations_of m) m.table s.context s.frames) (sym (filled-here stays b k g made hb hg h)))))
