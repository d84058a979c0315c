-- Whether something that a step serves is marked, part by part.
use Rattle.std.proofs.Common.{◌≡◌, ℕ, zero, suc, ◌≤◌, arith, Bool, ◌||◌, List, [], ◌∷◌, length, take, refl, sym, ap, ap₂, ◌∙◌}
use Rattle.std.specs.List.{list_any}
use Rattle.std.proofs.lemmas.List.Folds.{list_any-append}
use Rattle.hol_spec.specs.Names.{Name}
use Rattle.hol_spec.specs.NameEquality.{name_eq}
use Rattle.hol_spec.specs.Lists.{is_in}
use Rattle.hol_spec.specs.Rules as rule
use Rattle.hol_spec.specs.Proofs.{Step}
use Rattle.hol_term.specs.declared.Variable.{Variable}
use Rattle.hol_term.specs.Tables.{Trees}
use Rattle.hol_defs.specs.Lists.{pairs_at as pairs_view}
use Rattle.article_write_spec.specs.ReachedSteps.{defines, serves, together}
use Rattle.article_lines.specs.Flagged.{flag}
use Rattle.article_reach.specs.declared.walk.Walk.{Walk}
use Rattle.article_reach.specs.Found.{Asked}
use Rattle.article_reach.specs.Walks.{is_marked}

pub constants-wanted : (trees : Trees) (w : Walk) (pairs : List (Name × Variable))
    → list_any (λ (pair : Name × Variable). is_in name_eq pair.0 w.constants) pairs
    ≡ list_any (λ n. is_marked w (Asked.need n)) (defines (rule.Parameters.constants (pairs_view trees pairs)))
constants-wanted trees w [] = refl
constants-wanted trees w (p ∷ pairs) = ap (λ b. is_in name_eq p.0 w.constants || b) (constants-wanted trees w pairs)

-- what a step serves: itself, the law that is made with it, the symbols that it defines
pub serves-parts : (w : Walk) (i : ℕ) (x : Step) (own law definition : Bool) → own ≡ flag w.steps.items i → law
    ≡ list_any (λ n. is_marked w (Asked.need n)) (together i x.kind)
    → definition ≡ list_any (λ n. is_marked w (Asked.need n)) (defines x.parameters) → (own || (law || definition))
    ≡ list_any (λ n. is_marked w (Asked.need n)) (serves (record { number = i; step = x }))
serves-parts w i x own law definition e f g = ap₂ (λ a b. a || b) e
    (ap₂ (λ a b. a || b) f g ∙ sym (list_any-append (λ n. is_marked w (Asked.need n)) (together i x.kind) (defines x.parameters)))

pub all-taken : {A : Type 0} (xs : List A) (i : ℕ) → length xs ≤ i → take i xs ≡ xs
all-taken [] zero l = refl
all-taken [] (suc i) l = refl
all-taken (x ∷ xs) zero l = absurd (omega (arith, l))
all-taken (x ∷ xs) (suc i) l = ap (λ ys. x ∷ ys) (all-taken xs i (omega (arith, l)))
