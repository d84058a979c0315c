-- The lines of the counts, from the pieces that are written.
use Rattle.std.proofs.Common.{◌≡◌, ℕ, List, [], ◌++◌, append_assoc, codes}
use Rattle.std.specs.Prelude.{decimal}
use Rattle.std.proofs.lemmas.List.{append-nil}
use Rattle.bridge_spec.specs.Texts.{Counts, five_lines}

-- the pieces of the lines of the counts, and a last line
pub counts_pieces : (a b c d e last : List ℕ) (counts : Counts) → a ≡ decimal counts.articles → b ≡ decimal counts.assumptions → c ≡ decimal counts.exports → d
    ≡ decimal counts.declarations → e ≡ decimal counts.bounds
    → codes "articles "
    ++ (a ++ (codes "\nassumptions "
    ++ (b ++ (codes "\nexports " ++ (c ++ (codes "\ndeclarations " ++ (d ++ (codes "\nbounds " ++ (e ++ (codes "\n" ++ (last ++ [])))))))))))
    ≡ five_lines counts ++ last
counts_pieces a b c d e last counts p q r s t = rw (p, q, r, s, t) simp (append_assoc, append-nil)
