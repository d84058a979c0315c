-- The parts in which the article is written.
use Rattle.std.proofs.Common.{◌≡◌, ℕ, zero, suc, ◌+◌, ◌-◌, ◌<◌, refl, sym, ap, ◌∙◌, arith, List, [], ◌∷◌, ◌++◌, append_assoc, append-nil, codes, decimal, add-suc, add-zero, add-one}
use Rattle.article_spec.specs.Trial.{beginning, name_line, chained, block, blocks, ending, words, lines}

-- the text of words, and of more behind them
pub lines-append : (xs ys : List (List ℕ)) → lines (xs ++ ys) ≡ lines xs ++ lines ys
lines-append [] ys = refl
lines-append (x ∷ xs) ys = ap (λ l. (x ++ codes "\n") ++ l) (lines-append xs ys) ∙ sym (append_assoc (x ++ codes "\n") (lines xs) (lines ys))

-- what stands in a block behind its name, and what ends it
abbrev pub defined : List (List ℕ)
defined = words (codes "4 ref 5 ref 4 ref varTerm appTerm absTerm 6 def defineConst") ++ words (codes "3 ref appThm 6 ref 2 ref appTerm betaConv trans")

abbrev pub kept : List (List ℕ)
kept = words (codes "7 def pop") ++ words (codes "1 ref constTerm 5 def pop")

name_apart : (d r : List ℕ) → ((34 ∷ 99 ∷ (d ++ 34 ∷ [])) ++ 10 ∷ []) ++ r ≡ (34 ∷ 99 ∷ []) ++ (d ++ (34 ∷ 10 ∷ r))
name_apart d r = ap (λ l. 34 ∷ 99 ∷ l) (append_assoc (d ++ 34 ∷ []) (10 ∷ []) r ∙ append_assoc d (34 ∷ []) (10 ∷ r))

-- a block by its parts, with the number that it writes
pub block_parts : (i : ℕ) (number : List ℕ) → number ≡ decimal i → lines (block i) ≡ codes "\"c"
    ++ (number ++ ((codes "\"\n" ++ lines defined) ++ (lines (chained i) ++ lines kept)))
block_parts i number is =
    ap (λ l. (name_line i ++ codes "\n") ++ (lines defined ++ l)) (lines-append (chained i) kept)
    ∙ name_apart (decimal i) (lines defined ++ (lines (chained i) ++ lines kept))
    ∙ ap (λ d. codes "\"c" ++ (d ++ ((codes "\"\n" ++ lines defined) ++ (lines (chained i) ++ lines kept)))) (sym is)

pub trial_parts : (n : ℕ) → lines (beginning ++ (blocks n ++ ending)) ≡ lines beginning ++ (lines (blocks n) ++ lines ending)
trial_parts n = ap (λ l. lines beginning ++ l) (lines-append (blocks n) ending)

-- one block more
pub next_block : (k : ℕ) → lines (blocks (k + 1)) ≡ lines (blocks k) ++ lines (block (k + 1))
next_block k = ap (λ m. lines (blocks m)) (add-one k) ∙ lines-append (blocks k) (block (suc k))
    ∙ ap (λ m. lines (blocks k) ++ lines (block m)) (sym (add-one k))

-- all blocks begin with the first k of them
blocks_from : (k d : ℕ) → (rest : List ℕ) × (lines (blocks (k + d)) ≡ lines (blocks k) ++ rest)
blocks_from k zero = ([], ap (λ m. lines (blocks m)) (add-zero k) ∙ sym (append-nil (lines (blocks k))))
blocks_from k (suc d) =
    let before = blocks_from k d in (
      before.0 ++ lines (block (suc (k + d))),
      ap (λ m. lines (blocks m)) (add-suc k d) ∙ lines-append (blocks (k + d)) (block (suc (k + d))) ∙ ap (λ l. l ++ lines (block (suc (k + d)))) before.1
          ∙ append_assoc (lines (blocks k)) before.0 (lines (block (suc (k + d)))),
    )

-- behind the first k blocks stands block k + 1
pub blocks_at : (k n : ℕ) → k < n → (rest : List ℕ) × (lines (blocks n) ≡ lines (blocks k) ++ (lines (block (k + 1)) ++ rest))
blocks_at k n h =
    let all = blocks_from (k + 1) (n - (k + 1)) in
    let same : n ≡ (k + 1) + (n - (k + 1)) = omega arith in
    (all.0, ap (λ m. lines (blocks m)) same ∙ all.1 ∙ ap (λ l. l ++ all.0) (next_block k) ∙ append_assoc (lines (blocks k)) (lines (block (k + 1))) all.0)
