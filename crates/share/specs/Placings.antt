-- The places of declarations among entries by numbers.
use Rattle.std.specs.Prelude.{ℕ, suc, List, [], ◌∷◌}
use Rattle.share.specs.declared.listing.Listed.{Listed}
use Rattle.share.specs.declared.listing.Listed.TheVariants as listed

-- the places of the declarations, where the first entry is at n
abbrev pub kept_places : ℕ → List Listed → List ℕ
kept_places n [] = []
kept_places n (listed.Kept i ∷ es) = n ∷ kept_places (suc n) es
kept_places n (listed.Abbreviated body ty ∷ es) = kept_places (suc n) es
