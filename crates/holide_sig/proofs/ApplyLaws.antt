-- A tree that is applied to one argument after another.
use Rattle.std.proofs.Common.{◌≡◌, ℕ, zero, suc, ◌+◌, ◌<◌, ◌≤◌, refl, sym, ap, ◌∙◌, subst, arith, List, [], ◌∷◌, length}
use Rattle.std.specs.Prelude.{drop}
use Rattle.lp_spec.specs.Trees.{Tree, App}
use Rattle.lp_spec.specs.Modules.{applied}
use Rattle.lp_term.specs.declared.LpId.{LpId}
use Rattle.lp_term.specs.Tables.{tree_at, trees_at, AreKnown, Holds, Keeps}
use Rattle.lp_term.specs.TableLaws.{Holds-tree_at, Holds-within, Keeps-trans, tree_at-Stays}

pub AreKnown-drop : (trees : List Tree) (i : ℕ) (ids : List LpId) → AreKnown trees ids → AreKnown trees (drop i ids)
AreKnown-drop trees zero ids h = h
AreKnown-drop trees (suc i) [] h = tt
AreKnown-drop trees (suc i) (id ∷ ids) h = AreKnown-drop trees i ids h.1

-- an argument that is next is known
pub next-known : (old now : List Tree) (args : List LpId) (i : ℕ) (arg : LpId) → Keeps old now → AreKnown old args → drop i args ≡ arg ∷ drop (i + 1) args
    → arg.0 < length now
next-known old now args i arg k h e = let own = (subst (AreKnown old) e (AreKnown-drop old i args h)).0 in omega (arith, k.longer, own)

-- one argument more
pub apply_step : (old now new : List Tree) (args : List LpId) (i : ℕ) (made next arg : LpId) (goal : Tree) → AreKnown old args → drop i args
    ≡ arg ∷ drop (i + 1) args → Keeps old now → Keeps now new
    → Holds new next.0 (App (tree_at now made.0) (tree_at now arg.0)) → applied (tree_at now made.0) (trees_at old (drop i args)) ≡ goal
    → Keeps old new × (next.0 < length new) × (applied (tree_at new next.0) (trees_at old (drop (i + 1) args)) ≡ goal)
apply_step old now new args i made next arg goal known e k l h is =
    let own = (subst (AreKnown old) e (AreKnown-drop old i args known)).0 in (
      Keeps-trans k l,
      Holds-within new next.0 _ h,
      ap (λ t. applied t (trees_at old (drop (i + 1) args)))
          (Holds-tree_at new next.0 _ h ∙ ap (λ a. App (tree_at now made.0) a) (sym (tree_at-Stays k.stays arg.0 own)))
          ∙ ap (λ l. applied (tree_at now made.0) (trees_at old l)) (sym e) ∙ is,
    )

pub apply_end : (old now : List Tree) (args : List LpId) (i : ℕ) (made : LpId) (goal : Tree) → made.0 < length now → drop i args ≡ []
    → applied (tree_at now made.0) (trees_at old (drop i args)) ≡ goal → tree_at now made.0 ≡ goal
apply_end old now args i made goal k e is = ap (λ l. applied (tree_at now made.0) (trees_at old l)) (sym e) ∙ is

-- nothing is left from the end on
pub drop-all : {X : Type 0} (xs : List X) (i : ℕ) → length xs ≤ i → drop i xs ≡ []
drop-all [] zero h = refl
drop-all [] (suc i) h = refl
drop-all (x ∷ xs) zero h = absurd (omega arith)
drop-all (x ∷ xs) (suc i) h = drop-all xs i (omega arith)
