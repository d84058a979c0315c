-- Two symbols with the same domains at the same arguments: the one whose type ends there spreads no further than the other at an argument more.
use Rattle.std.proofs.Common.{◌≡◌, refl, ap, ◌∙◌, ℕ, ◌+◌, ◌≤◌, arith, List, [], ◌∷◌, ◌++◌, length, Some}
use Rattle.std.specs.Option.{option_map_or}
use Rattle.std.proofs.lemmas.List.{append-nil}
use Rattle.lp_spec.specs.Trees.{Tree, SortType, SortKind, Var, Sym, App, Lam, Pi, put_all, size}
use Rattle.lp_spec.specs.Modules.{Declaration, symbol_type, applied, products, types}
use Rattle.lp_spec.specs.Weight.{spread, spread_after, symbol_spread, spreads}
use Rattle.lp_check_laws.specs.TermPrice.{size-positive}

-- what stands in a list of arguments
abbrev sum : List Declaration → List Tree → ℕ
sum m [] = 0
sum m (x ∷ xs) = spreads m [] x + sum m xs

spreads-applied : (m : List Declaration) (f : Tree) (xs args : List Tree) → spreads m args (applied f xs) ≡ spreads m (xs ++ args) f + sum m xs
spreads-applied m f [] args = omega arith
spreads-applied m f (x ∷ xs) args = let h = spreads-applied m (App f x) xs args in omega (arith, h)

size-applied : (f g : Tree) (xs : List Tree) → size f ≡ size g → size (applied f xs) ≡ size (applied g xs)
size-applied f g [] e = e
size-applied f g (x ∷ xs) e = size-applied (App f x) (App g x) xs (ap (λ n. 1 + n + size x) e)

positive : (before : List Tree) (x B : Tree) → 1 ≤ spread_after before (x ∷ []) B
positive before x (Pi a b) = let h = size-positive (put_all before a) in omega (arith, h)
positive before x SortType = size-positive (put_all before SortType)
positive before x SortKind = size-positive (put_all before SortKind)
positive before x (Var n) = size-positive (put_all before (Var n))
positive before x (Sym s) = size-positive (put_all before (Sym s))
positive before x (App f y) = size-positive (put_all before (App f y))
positive before x (Lam a b) = size-positive (put_all before (Lam a b))

same_domains : (before xs domains : List Tree) (x B : Tree) → length xs ≡ length domains
    → spread_after before xs (products domains types) ≤ spread_after before (xs ++ x ∷ []) (products domains B)
same_domains before [] [] x B e = positive before x B
same_domains before [] (d ∷ ds) x B e = absurd (omega (arith, e))
same_domains before (u ∷ us) [] x B e = absurd (omega (arith, e))
same_domains before (u ∷ us) (d ∷ ds) x B e = let h = same_domains (before ++ u ∷ []) us ds x B (omega (arith, e)) in omega (arith, h)

-- the premises of a law's last call at a term of a defined type
pub spreads-same : (m : List Declaration) (s r : ℕ) (domains xs : List Tree) (x B : Tree) → symbol_type m s ≡ Some (products domains types)
    → symbol_type m r ≡ Some (products domains B) → length xs ≡ length domains
    → (size (applied (Sym s) xs) ≤ size (applied (Sym r) xs)) × (spreads m [] (applied (Sym s) xs) ≤ spreads m (x ∷ []) (applied (Sym r) xs))
spreads-same m s r domains xs x B e f l =
    let sizes = size-applied (Sym s) (Sym r) xs refl in
    let left = spreads-applied m (Sym s) xs [] in
    let right = spreads-applied m (Sym r) xs (x ∷ []) in
    let at_s : symbol_spread m s (xs ++ []) ≡ spread xs (products domains types) =
    ap (λ l. symbol_spread m s l) (append-nil xs) ∙ ap (λ o. option_map_or (spread xs) o 0) e in
    let at_r : symbol_spread m r (xs ++ x ∷ []) ≡ spread (xs ++ x ∷ []) (products domains B) = ap (λ o. option_map_or (spread (xs ++ x ∷ [])) o 0) f in
    let le = same_domains [] xs domains x B l in
    (omega (arith, sizes), omega (arith, left, right, at_s, at_r, le))
