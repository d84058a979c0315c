-- The module of the tests, which declares one input constant.
use Rattle.std.specs.Prelude.{List, [], ◌∷◌, length, codes}
use Rattle.hol_spec.specs.Types.{variable}
use Rattle.lp_spec.specs.Trees.{Tree, Var, Pi}
use Rattle.lp_spec.specs.Modules.{Declaration, signature, symbol, types, term_of}
use Rattle.translate_spec.specs.Scopes.{SymbolMap}

-- v0 : type -> term v0
abbrev pub input_type : Tree
input_type = Pi types (term_of (Var 0))

-- i_u : v0 : type -> term v0
abbrev pub input_module : List Declaration
input_module = symbol (codes "i_u") input_type ∷ []

-- its symbols: u is the one after the signature's, at every type
abbrev pub input_symbols : SymbolMap
input_symbols = record { operator = λ n k. 0; constant = λ n. length signature; generic = λ n. variable (codes "A" ∷ []) }
