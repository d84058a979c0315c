-- Binders that are let stand for one parameter after another.
use Rattle.std.proofs.Common.{◌≡◌, ℕ, zero, suc, ◌-◌, Bool, cond, refl, sym, ap, ◌∙◌, subst, List, [], ◌∷◌}
use Rattle.std.specs.Prelude.{drop}
use Rattle.hol_term.specs.declared.Variable.{Variable}
use Rattle.hol_term.specs.Subterms.{HaveTypes}
use Rattle.hol_term.specs.declared.TermId.{TermId}
use Rattle.hol_term.specs.Tables.{Trees, AreKnown}
use Rattle.lp_spec.specs.Trees.{Tree, Var}
use Rattle.translate_proof.specs.Placed.{placed}

module _ {A E : Type 0} (same : A → A → Bool) (Tell : List Tree → E → (A → Tree) → Type 0) where
  -- what pairs tell while the binders from the outermost of so many on are let stand for one after another, of which these are left
  pub record Places (old now : List Tree) (before after : E) (xs rest : List A) (depth place : ℕ) : Type 0 where
    pub each : (scope : A → Tree) → Tell old before scope → (so_far : A → Tree) × Tell now after so_far
        × (placed same place rest so_far ≡ placed same depth xs scope)

  pub places-begin : (trees : List Tree) (es : E) (xs : List A) (depth : ℕ) → Places trees trees es es xs xs depth depth
  places-begin trees es xs depth = record { each = λ scope h. (scope, h, refl) }

  pub places-next : (old now new : List Tree) (before after next : E) (xs rest left : List A) (x : A) (depth place here : ℕ) → rest ≡ x ∷ left → here
      ≡ place - 1
      → ((scope : A → Tree) → Tell now after scope → Tell new next (λ y. cond (same y x) (Var here) (scope y)))
      → Places old now before after xs rest depth place → Places old new before next xs left depth here
  places-next old now new before after next xs rest left x depth place here e p step h = record {
    each = λ scope t.
        let w = h.each scope t in (
          (λ y. cond (same y x) (Var here) (w.0 y)),
          step w.0 w.1,
          ap (λ k. placed same k left (λ y. cond (same y x) (Var k) (w.0 y))) p
              ∙ ap (λ l. placed same place l w.0) (sym e) ∙ w.2,
        );
  }

  pub places-end : (old now : List Tree) (before after : E) (xs rest : List A) (depth place : ℕ) → rest ≡ [] → Places old now before after xs rest depth place
      → (scope : A → Tree) → Tell old before scope → Tell now after (placed same depth xs scope)
  places-end old now before after xs rest depth place e h scope t =
      let w = h.each scope t in
      subst (Tell now after) (ap (λ l. placed same place l w.0) (sym e) ∙ w.2) w.1

-- the rest of some variables have types too, and so has the first of it
pub HaveTypes-drop : (trees : Trees) (i : ℕ) (vs : List Variable) → HaveTypes trees vs → HaveTypes trees (drop i vs)
HaveTypes-drop trees zero vs h = h
HaveTypes-drop trees (suc i) [] h = tt
HaveTypes-drop trees (suc i) (v ∷ vs) h = HaveTypes-drop trees i vs h.1

pub AreKnown-drop : (trees : Trees) (i : ℕ) (ids : List TermId) → AreKnown trees ids → AreKnown trees (drop i ids)
AreKnown-drop trees zero ids h = h
AreKnown-drop trees (suc i) [] h = tt
AreKnown-drop trees (suc i) (id ∷ ids) h = AreKnown-drop trees i ids h.1
