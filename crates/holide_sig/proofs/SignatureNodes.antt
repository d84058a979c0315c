-- The nodes of the signature's types, computed.
use Rattle.std.proofs.Common.{◌≡◌, ℕ, true, refl, List, [], ◌∷◌, map, Some}
use Rattle.std.specs.Prelude.{slice_get}
use Rattle.common.specs.Binding.{Pairwise}
use Rattle.lp_spec.specs.Trees.{Tree}
use Rattle.lp_spec.specs.Modules.{signature}
use Rattle.lp_term.specs.Tables.{Holds, IsDistinct}
use Rattle.holide_sig.specs.declared.signature.TheConstants.{NODES}
use Rattle.holide_sig.specs.Modules.{signature_ids}
use Rattle.holide_sig.specs.Nodes.{are_new, trees_with}

-- no tree of the nodes stands twice, and parts come first
pub nodes_new : are_new [] NODES.now ≡ true
unfolding are_new
nodes_new = refl

-- trees that are found at these numbers are held there
Pairwise-found : (ts : List Tree) (ids : List ℕ) (us : List Tree) → map (slice_get ts) ids ≡ map Some us → Pairwise (Holds ts) ids us
Pairwise-found ts [] [] e = tt
Pairwise-found ts [] (u ∷ us) e = absurd (cc)
Pairwise-found ts (i ∷ ids) [] e = absurd (cc)
Pairwise-found ts (i ∷ ids) (u ∷ us) e =
    let first : slice_get ts i ≡ Some u = cc in
    let rest : map (slice_get ts) ids ≡ map Some us = cc in
    (first, Pairwise-found ts ids us rest)

-- the nodes make the types of the signature
pub nodes_types : Pairwise (Holds (trees_with [] NODES.now)) signature_ids (map (λ d. d.ty) signature)
unfolding trees_with
nodes_types = Pairwise-found (trees_with [] NODES.now) signature_ids (map (λ d. d.ty) signature) refl

pub empty_distinct : IsDistinct []
empty_distinct = record { each = λ i j t h k. absurd (cc) }
