-- Worked examples: a line of the prelude that said another type, or another name, would not be that of its symbol.
use Rattle.std.proofs.Common.{◌≡◌, ℕ, sym, ap, ◌∙◌, List, ◌∷◌, ◌++◌, codes}
use Rattle.lp_spec.specs.Trees.{Tree, SortType, Pi}
use Rattle.lp_spec.specs.Modules.{Declaration, symbol, types, arr_type}
use Rattle.lp_spec.specs.Text.{prelude}
use Rattle.lp_spec.specs.TextLaws.{IsLineOf}
use Rattle.lp_spec.specs.ReadingFaults.{read_end, Answer, reads, answer}
use Rattle.dk_laws.specs.ReadingLaws.{prelude_read, Reads-answer}

-- the type of the first declaration that an answer has
abbrev first_type : Answer → Tree
first_type (reads (d ∷ m)) = d.ty
first_type _ = SortType

-- what stands behind a name of another line
abbrev rest : List ℕ
rest = codes "z : type -> type."

-- it reads as a declaration of its own type
rest_type : first_type (answer (prelude ++ rest)) ≡ Pi types types
rest_type = ap (λ p. first_type (read_end p)) (prelude_read 0 prelude rest)

-- `arr : type -> type.` is not the line of arr
other_type : IsLineOf (codes "arr") (codes " : type -> type.") (symbol (codes "arr") arr_type) → ⊥
other_type h = let e : Pi types types ≡ arr_type = sym rest_type ∙ ap first_type (Reads-answer _ _ h.says) in cc

-- and neither is `array : type -> type -> type.`
other_name : IsLineOf (codes "array") (codes " : type -> type -> type.") (symbol (codes "arr") arr_type) → ⊥
other_name h = let e : codes "arr" ≡ codes "array" = ap (λ (d : Declaration). d.name) h.is in cc
