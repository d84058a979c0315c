-- Why a declaration may have no body: a run that takes an input constant and an input operator.
use Rattle.std.proofs.Common.{[], ◌∷◌, refl, arith, List}
use Rattle.std.specs.Prelude.{codes}
use Rattle.hol_spec.specs.Symbols.{Symbol}
use Rattle.hol_spec.specs.Proofs.{Made, Accepted}
use Rattle.lp_spec.specs.Trees.{Var, Pi}
use Rattle.lp_spec.specs.Modules.{Declaration, symbol, types, term_of}
use Rattle.lp_spec.specs.Numerals.{numeral}
use Rattle.translate_spec.specs.Stands.{IsGiven}
use Rattle.article_spec.proofs.SmallArticles.{named}

abbrev run : Accepted
run = record {
  made =
      Made.symbol (Symbol.input_constant (named (codes "n"))) ∷ Made.symbol (Symbol.input_operator (named (codes "list")) 1) ∷ [];
  assumptions = [];
  exports = [];
}

-- the declarations of these, and what they are given for
abbrev m : List Declaration
m = symbol (codes "i_n") (Pi types (term_of (Var 0)))
    ∷ symbol (codes "t1_list") (Pi types types) ∷ []

an_input_constant : IsGiven m run (symbol (codes "i_n") (Pi types (term_of (Var 0))))
an_input_constant = IsGiven.input_constant (named (codes "n")) (0, (omega arith, refl))

an_input_operator : IsGiven m run (symbol (codes "t1_list") (Pi types types))
unfolding numeral
an_input_operator = IsGiven.input_operator (named (codes "list")) 1 (1, (omega arith, refl))
