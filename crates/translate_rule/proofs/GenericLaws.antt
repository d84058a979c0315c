-- Binders over simple types, one after another.
use Rattle.std.proofs.Common.{◌≡◌, ℕ, zero, suc, ◌-◌, ◌<◌, ◌≤◌, refl, sym, ap, ◌∙◌, arith, List, [], ◌∷◌, length, map, Some}
use Rattle.std.specs.Prelude.{replicate}
use Rattle.std.proofs.Math.Path.{ap₂}
use Rattle.hol_spec.specs.Names.{Name}
use Rattle.lp_spec.specs.Trees.{Tree, Lam, Pi}
use Rattle.lp_spec.specs.Modules.{abstractions, products, types}
use Rattle.lp_term.specs.declared.LpId.{LpId}
use Rattle.lp_term.specs.Tables.{tree_at, Holds, Keeps}
use Rattle.lp_term.specs.TableLaws.{Holds-tree_at, Keeps-refl, Keeps-trans, tree_at-Holds, tree_at-Stays}

-- A tree under so many binders of simple types
abbrev pub over : (Tree → Tree → Tree) → ℕ → Tree → Tree
over make zero t = t
over make (suc n) t = make types (over make n t)

products-over : (n : ℕ) (t : Tree) → over Pi n t ≡ products (replicate n types) t
products-over zero t = refl
products-over (suc n) t = ap (Pi types) (products-over n t)

abstractions-over : (n : ℕ) (t : Tree) → over Lam n t ≡ abstractions (replicate n types) t
abstractions-over zero t = refl
abstractions-over (suc n) t = ap (Lam types) (abstractions-over n t)

over-inside : (make : Tree → Tree → Tree) (n : ℕ) (t : Tree) → over make n (make types t) ≡ make types (over make n t)
over-inside make zero t = refl
over-inside make (suc n) t = ap (make types) (over-inside make n t)

-- how far a tree is put under binders: so many are left
pub record IsUnder (make : Tree → Tree → Tree) (old now : List Tree) (count left : ℕ) (inside made : LpId) : Type 0 where
  pub keeps : Keeps old now
  pub known : made.0 < length now
  pub is : over make left (tree_at now made.0) ≡ over make count (tree_at old inside.0)

pub under-none : (make : Tree → Tree → Tree) (trees : List Tree) (count : ℕ) (inside : LpId) → inside.0 < length trees
    → IsUnder make trees trees count count inside inside
under-none make trees count inside h = record { keeps = Keeps-refl trees; known = h; is = refl }

pub under-more : (make : Tree → Tree → Tree) (old now mid new : List Tree) (count left : ℕ) (inside made domain next : LpId) → 0 < left
    → IsUnder make old now count left inside made → Keeps now mid → Holds mid domain.0 types → Keeps mid new
    → next.0 < length new → Holds new next.0 (make (tree_at mid domain.0) (tree_at mid made.0)) → IsUnder make old new count (left - 1) inside next
under-more make old now mid new count zero inside made domain next l h k is k2 known holds = absurd (omega (arith, l))
under-more make old now mid new count (suc n) inside made domain next l h k is k2 known holds =
    let z : suc n - 1 ≡ n = omega arith in
    record {
      keeps = Keeps-trans h.keeps (Keeps-trans k k2);
      known = known;
      is =
          ap₂ (over make) z (Holds-tree_at new next.0 _ holds ∙ ap₂ make (Holds-tree_at mid domain.0 types is) (sym (tree_at-Stays k.stays made.0 h.known)))
          ∙ over-inside make n (tree_at now made.0)
          ∙ h.is;
    }

under-all : (make : Tree → Tree → Tree) (old now : List Tree) (count left : ℕ) (inside made : LpId) → left ≤ 0 → IsUnder make old now count left inside made
    → tree_at now made.0 ≡ over make count (tree_at old inside.0)
under-all make old now count zero inside made l h = h.is
under-all make old now count (suc n) inside made l h = absurd (omega (arith, l))

pub products-made : (old now : List Tree) (count left : ℕ) (inside made : LpId) → left ≤ 0 → IsUnder Pi old now count left inside made
    → Holds now made.0 (products (replicate count types) (tree_at old inside.0))
products-made old now count left inside made l h =
    tree_at-Holds now made.0 h.known ∙ ap Some (under-all Pi old now count left inside made l h ∙ products-over count (tree_at old inside.0))

pub abstractions-made : (old now : List Tree) (count left : ℕ) (inside made : LpId) → left ≤ 0 → IsUnder Lam old now count left inside made
    → Holds now made.0 (abstractions (replicate count types) (tree_at old inside.0))
abstractions-made old now count left inside made l h =
    tree_at-Holds now made.0 h.known ∙ ap Some (under-all Lam old now count left inside made l h ∙ abstractions-over count (tree_at old inside.0))

-- a binder for each of some names
pub binders-of : (names : List Name) → replicate (length names) types ≡ map (λ (n : Name). types) names
binders-of [] = refl
binders-of (n ∷ ns) = ap (λ l. types ∷ l) (binders-of ns)
