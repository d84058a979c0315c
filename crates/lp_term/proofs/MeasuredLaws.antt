-- The measures of trees over others.
use Rattle.std.proofs.Common.{◌≡◌, ℕ, ◌-◌, ◌^◌, ◌<◌, ◌≤◌, arith, List, [], ◌∷◌, ◌++◌, Some, length-append, ⊎_elim}
use Rattle.std.specs.Prelude.{slice_get}
use Rattle.std.proofs.lemmas.Option.{slice_get_within}
use Rattle.std.proofs.Math.Path.{subst₂}
use Rattle.lp_spec.specs.Trees.{Tree, App, Lam, Pi, loose}
use Rattle.lp_term.specs.declared.measures.Measures.{Measures}
use Rattle.lp_term.specs.Tables.{tree_at}
use Rattle.lp_term.specs.TableLaws.{tree_at-Holds, Holds-within}
use Rattle.lp_term.specs.Measured.{IsMeasured, AreMeasured, IsJoined}
use Rattle.lp_binding_laws.specs.LookUps.{slice_get-one_more}

-- the measures with a number are those of its tree
pub AreMeasured-at : (ms : List Measures) (ts : List Tree) (i : ℕ) (m : Measures) → AreMeasured ms ts → slice_get ms i ≡ Some m → IsMeasured m (tree_at ts i)
AreMeasured-at ms ts i m a at = a.each i m (tree_at ts i) at (tree_at-Holds ts i (omega (arith, a.counted, slice_get_within ms i m at)))

-- a tree more has measures more
pub AreMeasured-more : (ms : List Measures) (ts : List Tree) (m : Measures) (t : Tree) → AreMeasured ms ts → IsMeasured m t
    → AreMeasured (ms ++ m ∷ []) (ts ++ t ∷ [])
AreMeasured-more ms ts m t a own = record {
  counted = omega (arith, a.counted, length-append ms (m ∷ []), length-append ts (t ∷ []));
  each = λ i o u at held. ⊎_elim
      (λ x. ⊎_elim (λ y. a.each i o u x y) (λ y. absurd (omega (arith, a.counted, y.0, slice_get_within ms i o x))) (slice_get-one_more ts t u i held))
      (λ x. ⊎_elim (λ y. absurd (omega (arith, a.counted, x.0, Holds-within ts i u y))) (λ y. subst₂ IsMeasured x.1 y.1 own) (slice_get-one_more ts t u i held))
      (slice_get-one_more ms m o i at);
}

-- an application's measures are joined of its parts'
pub IsMeasured-App : {f x : Tree} {a b m : Measures} → IsMeasured a f → IsMeasured b x → IsJoined a b b.loose m → IsMeasured m (App f x)
IsMeasured-App h k j = record
    { size = omega (arith, h.size, k.size, j.size); depth = omega (arith, h.depth, k.depth, j.depth); loose = λ l. omega (arith, l, h.loose, k.loose, j.loose) }

-- a variable of a body is loose no more under its binder
module _ {f x : Tree} {a b m : Measures} (n : ℕ) (known : n < 2 ^ 32 - 1 → n ≡ b.loose - 1) (unknown : b.loose ≡ 2 ^ 32 - 1 → n ≡ b.loose) (h : IsMeasured a f)
    (k : IsMeasured b x) (j : IsJoined a b n m) where
  loose-outside : n < 2 ^ 32 - 1 → loose x - 1 ≤ n
  loose-outside l = grind (arith, l, known, unknown, k.loose)

  pub IsMeasured-Lam : IsMeasured m (Lam f x)
  IsMeasured-Lam = record {
    size = omega (arith, h.size, k.size, j.size);
    depth = omega (arith, h.depth, k.depth, j.depth);
    loose =
        λ l. omega (arith, l, h.loose, loose-outside (omega (arith, l, j.loose)), j.loose);
  }

  pub IsMeasured-Pi : IsMeasured m (Pi f x)
  IsMeasured-Pi = record { size = IsMeasured-Lam.size; depth = IsMeasured-Lam.depth; loose = IsMeasured-Lam.loose }
