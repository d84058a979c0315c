-- Arguments that are added one after another.
use Rattle.std.proofs.Common.{◌≡◌, ℕ, zero, suc, refl, sym, ap, ◌∙◌, subst, List, [], ◌∷◌, ◌++◌, map}
use Rattle.std.proofs.lemmas.List.{append_assoc, append-nil}
use Rattle.std.specs.Prelude.{drop}
use Rattle.std.specs.List.{AllByRecursion}
use Rattle.hol_spec.specs.Terms.{Variable as ATerm}
use Rattle.hol_term.specs.declared.Variable.{Variable}
use Rattle.hol_term.specs.Subterms.{variables_of}
use Rattle.hol_term.specs.Tables.{Trees}
use Rattle.lp_spec.specs.Trees.{Tree}

module _ {A : Type 0} (f : A → Tree) where
  -- what holds of the trees made at first holds later of these and of those for what is past
  pub record AddsUp (First Later : List Tree → Type 0) (xs rest : List A) : Type 0 where
    pub each : (made : List Tree) → First made → (so_far : List Tree) × Later so_far × (so_far ++ map f rest ≡ made ++ map f xs)

  pub adds-begin : (First : List Tree → Type 0) (xs : List A) → AddsUp First First xs xs
  adds-begin First xs = record { each = λ made h. (made, h, refl) }

  pub adds-next : (First Now Later : List Tree → Type 0) (xs rest left : List A) (x : A) → rest ≡ x ∷ left
      → ((made : List Tree) → Now made → Later (made ++ f x ∷ [])) → AddsUp First Now xs rest → AddsUp First Later xs left
  adds-next First Now Later xs rest left x e step h = record {
    each = λ made t.
        let w = h.each made t in
        (w.0 ++ f x ∷ [], step w.0 w.1, append_assoc w.0 (f x ∷ []) (map f left) ∙ ap (λ l. w.0 ++ map f l) (sym e) ∙ w.2);
  }

  pub adds-end : (First Now : List Tree → Type 0) (xs rest : List A) → rest ≡ [] → AddsUp First Now xs rest → (made : List Tree) → First made
      → Now (made ++ map f xs)
  adds-end First Now xs rest e h made t =
      let w = h.each made t in
      subst Now (sym (append-nil w.0) ∙ ap (λ l. w.0 ++ map f l) (sym e) ∙ w.2) w.1

-- what holds of each variable holds of each of the rest
pub All-drop : (P : ATerm → Type 0) (trees : Trees) (i : ℕ) (vs : List Variable) → AllByRecursion P (variables_of trees vs)
    → AllByRecursion P (variables_of trees (drop i vs))
All-drop P trees zero vs h = h
All-drop P trees (suc i) [] h = tt
All-drop P trees (suc i) (v ∷ vs) h = All-drop P trees i vs h.1
