-- Answers and questions over a module whose table grows.
use Rattle.std.proofs.Common.{◌≡◌, ℕ, ◌<◌, refl, sym, ap, subst, ◌∙◌, Bool, true, false, List, [], ◌∷◌, length, Option, Some, arith}
use Rattle.std.specs.Prelude.{if◌then◌else◌, nat_eq}
use Rattle.std.proofs.lemmas.Bool.{eqb-true}
use Rattle.std.proofs.lemmas.Option.{same_Some}
use Rattle.lp_spec.specs.Trees.{Tree}
use Rattle.lp_spec.specs.Modules.{Declaration}
use Rattle.lp_term.specs.declared.LpId.{LpId}
use Rattle.lp_term.specs.Tables.{tree_at, Keeps}
use Rattle.lp_term.specs.TableLaws.{tree_at-Stays}
use Rattle.holide_sig.specs.declared.module.Module.{Module}
use Rattle.holide_sig.specs.Modules.{declarations_of, IsHeld}
use Rattle.holide_sig.specs.ModuleLaws.{IsHeld-Keeps, declarations_of-Keeps}
use Rattle.share.specs.declared.typing.Turn.{Turn}
use Rattle.share.specs.declared.typing.Turn.TheVariants as turn
use Rattle.share.specs.Typings.{answer, AreAnswers, AreQuestions, IsAsked, IsQuestion, Tells, Turns}
use Rattle.share.specs.Asking.{IsAsking}
use Rattle.share.proofs.TurnLaws.{AreAnswers-Keeps}

pub held-after : (old new : Module) → new.decls ≡ old.decls → Keeps old.table new.table → IsHeld old → IsHeld new
held-after old new e k h = subst (λ ds. IsHeld (record { table = new.table; decls = ds })) (sym e) (IsHeld-Keeps old new.table k h)

pub declarations-after : (old new : Module) → new.decls ≡ old.decls → Keeps old.table new.table → IsHeld old → declarations_of new ≡ declarations_of old
declarations-after old new e k h = ap (λ ds. declarations_of (record { table = new.table; decls = ds })) e ∙ declarations_of-Keeps old new.table k h

question-after : (m : List Declaration) (ts new : List Tree) (q : LpId) → Keeps ts new → IsQuestion m ts q → IsQuestion m new q
question-after m ts new q k h = ((let l = k.longer in omega (arith, l, h.0)), subst (IsAsked m) (tree_at-Stays k.stays q.0 h.0) h.1)

questions-after : (m : List Declaration) (ts new : List Tree) (qs : List LpId) → Keeps ts new → AreQuestions m ts qs → AreQuestions m new qs
questions-after m ts new [] k h = tt
questions-after m ts new (q ∷ qs) k h = (question-after m ts new q k h.0, questions-after m ts new qs k h.1)

-- a question stays one
pub question-stays : (old new : Module) (q : LpId) → new.decls ≡ old.decls → Keeps old.table new.table → IsHeld old
    → IsQuestion (declarations_of old) old.table q → IsQuestion (declarations_of new) new.table q
question-stays old new q e k h a = subst (λ m. IsQuestion m new.table q) (sym (declarations-after old new e k h))
    (question-after (declarations_of old) old.table new.table q k a)

-- what was asked stays asked
pub asking-after : (old new : Module) (noted : ℕ → Option (Option LpId)) (qs : List LpId) → new.decls ≡ old.decls → Keeps old.table new.table
    → IsAsking old noted qs → IsAsking new noted qs
asking-after old new noted qs e k a =
    let d = sym (declarations-after old new e k a.held) in
    record {
      held = held-after old new e k a.held;
      answers = subst (λ m. AreAnswers m new.table noted) d (AreAnswers-Keeps (declarations_of old) old.table new.table noted k a.answers);
      waiting = subst (λ m. AreQuestions m new.table qs) d (questions-after (declarations_of old) old.table new.table qs k a.waiting);
    }

-- with one more answer
answers-more : (m : List Declaration) (ts : List Tree) (noted noted' : ℕ → Option (Option LpId)) (q : ℕ) (r : Option LpId) → q < length ts
    → Tells ts r (answer m (tree_at ts q))
    → ((n : ℕ) → noted' n ≡ (if nat_eq q n then Some r else noted n)) → AreAnswers m ts noted → AreAnswers m ts noted'
answers-more m ts noted noted' q r l t f a = record { each = λ n s e. go n s (nat_eq q n) refl (sym (f n) ∙ e) }
  where
    go : (n : ℕ) (s : Option LpId) (b : Bool) → nat_eq q n ≡ b → (if nat_eq q n then Some r else noted n) ≡ Some s → (n < length ts)
        × Tells ts s (answer m (tree_at ts n))
    go n s true i e =
        let same : q ≡ n = eqb-true q n i in
        let told : r ≡ s = same_Some _ _ (sym (ap (λ b. if b then Some r else noted n) i) ∙ e) in
        subst (λ k. (k < length ts) × Tells ts s (answer m (tree_at ts k))) same (l, subst (λ o. Tells ts o (answer m (tree_at ts q))) told t)
    go n s false i e = a.each n s (sym (ap (λ b. if b then Some r else noted n) i) ∙ e)

-- A turn that knows the answer
pub asking-known : (old new : Module) (noted noted' : ℕ → Option (Option LpId)) (qs : List LpId) (q : LpId) (r : Option LpId) (t : Turn) → new.decls ≡ old.decls
    → Keeps old.table new.table → IsAsking old noted qs → q.0 < length old.table
    → t ≡ turn.Known r → Turns (declarations_of old) new.table t (answer (declarations_of old) (tree_at old.table q.0))
    → ((n : ℕ) → noted' n ≡ (if nat_eq q.0 n then Some r else noted n)) → IsAsking new noted' qs
asking-known old new noted noted' qs q r t e k a l s h f =
    let b = asking-after old new noted qs e k a in
    let told : Tells new.table r (answer (declarations_of old) (tree_at old.table q.0)) =
    subst (λ y. Turns (declarations_of old) new.table y (answer (declarations_of old) (tree_at old.table q.0))) s h in
    let here : Tells new.table r (answer (declarations_of new) (tree_at new.table q.0)) =
    subst (λ m. Tells new.table r (answer m (tree_at new.table q.0))) (sym (declarations-after old new e k a.held))
    (subst (λ y. Tells new.table r (answer (declarations_of old) y)) (tree_at-Stays k.stays q.0 l) told) in
    record {
      held = b.held;
      answers = answers-more (declarations_of new) new.table noted noted' q.0 r (let w = k.longer in omega (arith, w, l)) here f
          b.answers;
      waiting = b.waiting;
    }

-- A turn that asks a further question
pub asking-needs : (old new : Module) (noted : ℕ → Option (Option LpId)) (qs qs' : List LpId) (q p : LpId) (t : Turn) → new.decls ≡ old.decls
    → Keeps old.table new.table → IsAsking old noted qs → IsQuestion (declarations_of old) old.table q
    → t ≡ turn.Needs p → Turns (declarations_of old) new.table t (answer (declarations_of old) (tree_at old.table q.0)) → qs' ≡ p ∷ q ∷ qs
    → IsAsking new noted qs'
asking-needs old new noted qs qs' q p t e k a h s v w =
    let b = asking-after old new noted qs e k a in
    let further : IsQuestion (declarations_of old) new.table p =
    subst (λ y. Turns (declarations_of old) new.table y (answer (declarations_of old) (tree_at old.table q.0))) s v in
    record {
      held = b.held;
      answers = b.answers;
      waiting =
          subst (AreQuestions (declarations_of new) new.table) (sym w)
          (subst (λ m. IsQuestion m new.table p) (sym (declarations-after old new e k a.held)) further, (question-stays old new q e k a.held h, b.waiting));
    }

-- the questions below the topmost
pub asking-below : (source : Module) (noted : ℕ → Option (Option LpId)) (qs qs' : List LpId) → IsAsking source noted qs
    → AreQuestions (declarations_of source) source.table qs' → IsAsking source noted qs'
asking-below source noted qs qs' a h = record { held = a.held; answers = a.answers; waiting = h }

-- an answer that is noted
pub asked-known : (first source : Module) (noted : ℕ → Option (Option LpId)) (qs : List LpId) (q : LpId) (r : Option LpId) → source.decls ≡ first.decls
    → Keeps first.table source.table → IsHeld first → IsAsking source noted qs → q.0 < length first.table → Some r ≡ noted q.0
    → Tells source.table r (answer (declarations_of first) (tree_at first.table q.0))
asked-known first source noted qs q r e k h a l i =
    let w = a.answers.each q.0 r (sym i) in
    subst (λ m. Tells source.table r (answer m (tree_at first.table q.0))) (declarations-after first source e k h)
    (subst (λ y. Tells source.table r (answer (declarations_of source) y)) (sym (tree_at-Stays k.stays q.0 l)) w.1)
