-- The article that is generated for a trial: it defines the constants c1 to cn one by the other, and proves that cn is f at p.
use Rattle.std.specs.Prelude.{ℕ, zero, suc, ◌==◌, if◌then◌else◌, List, [], ◌∷◌, ◌++◌, codes, decimal}
use Rattle.std.specs.List.{flat_map}

-- this byte before the first word
abbrev with_front : ℕ → List (List ℕ) → List (List ℕ)
with_front b [] = (b ∷ []) ∷ []
with_front b (word ∷ words) = (b ∷ word) ∷ words

-- the words of a text, with a blank between any two
abbrev pub words : List ℕ → List (List ℕ)
words [] = [] ∷ []
words (b ∷ text) = if b == 32 then ([] ∷ words text) else with_front b (words text)

-- the text of words, each on a line of its own
abbrev pub lines : List (List ℕ) → List ℕ
lines = flat_map (λ word. word ++ codes "\n")

-- what every article of this kind begins with: in its dictionary are bool, bool -> bool, the term p, |- p = p, the variable x and the term f
abbrev pub beginning : List (List ℕ)
beginning =
    words (codes "6 version \"bool\" typeOp nil opType 0 def pop")
    ++ words (codes "\"->\" typeOp 0 ref 0 ref nil cons cons opType 1 def pop")
    ++ words (codes "\"p\" 0 ref var varTerm 2 def refl 3 def pop")
    ++ words (codes "\"x\" 0 ref var 4 def pop")
    ++ words (codes "\"f\" const 1 ref constTerm 5 def pop")

-- the line that names the constant that block i defines
abbrev pub name_line : ℕ → List ℕ
name_line i = codes "\"c" ++ decimal i ++ codes "\""

-- what takes the theorem of a block after the first to f, by that of the block before it
abbrev pub chained : ℕ → List (List ℕ)
chained i = if i == 1 then [] else words (codes "7 ref trans")

-- block i: it defines its constant as \x. t x, where t is the constant before it, or f, and proves that the constant is f at p
abbrev pub block : ℕ → List (List ℕ)
block i =
    name_line i ∷ words (codes "4 ref 5 ref 4 ref varTerm appTerm absTerm 6 def defineConst")
    ++ words (codes "3 ref appThm 6 ref 2 ref appTerm betaConv trans")
    ++ (chained i ++ (words (codes "7 def pop") ++ words (codes "1 ref constTerm 5 def pop")))

-- the blocks from 1 to n
abbrev pub blocks : ℕ → List (List ℕ)
blocks zero = []
blocks (suc n) = blocks n ++ block (suc n)

-- what every article of this kind ends with: it exports |- t p = f p, where t is the last constant
abbrev pub ending : List (List ℕ)
ending =
    words (codes "7 ref nil \"=\" const \"->\" typeOp 0 ref 1 ref nil cons cons opType constTerm")
    ++ words (codes "5 ref 2 ref appTerm appTerm \"f\" const 1 ref constTerm 2 ref appTerm appTerm thm")

-- the article of n blocks
abbrev pub trial_text : ℕ → List ℕ
trial_text n = lines (beginning ++ (blocks n ++ ending))
