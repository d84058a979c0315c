-- What the depths that a table tells say of the depths of its trees.
use Rattle.std.proofs.Common.{◌≡◌, ◌⊎◌, inl, inr, ℕ, suc, ◌-◌, ◌<◌, ◌≤◌, ◌^◌, arith, subst, sym, ◌∙◌, List, length, Option, None, Some}
use Rattle.std.specs.Prelude.{slice_get}
use Rattle.std.proofs.lemmas.Option.{slice_get_within, same_Some}
use Rattle.lp_spec.specs.Trees.{Tree}
use Rattle.lp_term.specs.declared.LpId.{LpId}
use Rattle.holide_sig.specs.declared.decls.Decl.{Decl}
use Rattle.dk_write.specs.Shallow.{IsBodyWithin, IsBodyTold, IsTold, AreTold, AreWithin}

body-more : (a b : ℕ) (trees : List Tree) (body : Option LpId) → a ≤ b → IsBodyTold a trees body → IsBodyTold b trees body
body-more a b trees None l h = tt
body-more a b trees (Some id) l h = omega (arith, l, h)

told-more : (a b : ℕ) (trees : List Tree) (d : Decl) → a ≤ b → IsTold a trees d → IsTold b trees d
told-more a b trees d l h = record { ty = (let t = h.ty in omega (arith, t, l)); body = body-more a b trees d.body l h.body }

-- the first declarations, and one more
abbrev pub FirstTold : ℕ → ℕ → List Tree → List Decl → Type 0
FirstTold count most trees ds = (j : ℕ) (d : Decl) → j < count → slice_get ds j ≡ Some d → IsTold most trees d

pub one_more : (count a b : ℕ) (trees : List Tree) (ds : List Decl) (d : Decl) → slice_get ds count ≡ Some d → IsTold b trees d → a ≤ b
    → FirstTold count a trees ds → FirstTold (suc count) b trees ds
one_more count a b trees ds d e h l first j x lt f = go (nat_cases j count lt)
  where
    nat_cases : (j count : ℕ) → j < suc count → (j < count) ⊎ (j ≡ count)
    nat_cases j count lt = grind arith

    go : (j < count) ⊎ (j ≡ count) → IsTold b trees x
    go (inl less) = told-more a b trees x l (first j x less f)
    go (inr same) = subst (IsTold b trees) (same_Some _ _ (sym e ∙ subst (λ n. slice_get ds n ≡ Some x) same f)) h

pub all_told : (count most : ℕ) (trees : List Tree) (ds : List Decl) → length ds ≤ count → FirstTold count most trees ds → AreTold most trees ds
all_told count most trees ds l h i d e = let w = slice_get_within ds i d e in h i d (omega (arith, w, l)) e

-- below the greatest number what is told is the depth itself
body-within : (most : ℕ) (trees : List Tree) (body : Option LpId) → most < 2 ^ 64 - 1 → IsBodyTold most trees body → IsBodyWithin most trees body
body-within most trees None l h = tt
body-within most trees (Some id) l h = omega (arith, l, h)

pub told_within : (most : ℕ) (trees : List Tree) (ds : List Decl) → most < 2 ^ 64 - 1 → AreTold most trees ds → AreWithin most trees ds
told_within most trees ds l h i d e = let t = h i d e in record { ty = (let w = t.ty in omega (arith, w, l)); body = body-within most trees d.body l t.body }
