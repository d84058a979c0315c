-- What a module tells of an item: the symbol of each operator and each constant that the item's declaration mentions.
use Rattle.std.specs.Prelude.{List}
use Rattle.std.specs.List.{AllByRecursion}
use Rattle.hol_spec.specs.DefinitionLists.{constants_put}
use Rattle.hol_spec.specs.NewTypes.{abstraction_type, representation_type}
use Rattle.hol_spec.specs.Rules.{Parameters}
use Rattle.hol_spec.specs.Sequents.{Sequent}
use Rattle.hol_spec.specs.Terms.{Term, Variable}
use Rattle.lp_spec.specs.Modules.{Declaration}
use Rattle.translate_spec.specs.Items.{Content, operator, constant, defined_constant, type_operator, type_abstraction, type_representation, unproved, step}
use Rattle.translate_spec.specs.Scopes.{SymbolMap}
use Rattle.translate_term.specs.Told.{TellsType, TellsTerm}

-- it tells the symbol of each operator and each constant in a sequent
pub record TellsSequent (declarations : List Declaration) (symbols : SymbolMap) (s : Sequent) : Type 0 where
  pub hypotheses : AllByRecursion (TellsTerm declarations symbols) s.hypotheses
  pub conclusion : TellsTerm declarations symbols s.conclusion

-- of what a step is given beside its premises: those of the constants of a list
abbrev pub TellsGiven : List Declaration → SymbolMap → Parameters → Type 0
TellsGiven declarations symbols (Parameters.constants pairs) =
    AllByRecursion (λ (p : Variable × Term). TellsTerm declarations symbols p.1) (constants_put pairs)
TellsGiven declarations symbols given = Unit {0}

-- of an item
abbrev pub TellsContent : List Declaration → SymbolMap → Content → Type 0
TellsContent declarations symbols (operator n k) = Unit {0}
TellsContent declarations symbols (constant n a) = TellsType declarations symbols a
TellsContent declarations symbols (defined_constant n a t) = TellsType declarations symbols a × TellsTerm declarations symbols t
TellsContent declarations symbols (type_operator names c u j one) = TellsType declarations symbols c × TellsSequent declarations symbols one
TellsContent declarations symbols (type_abstraction names c u j one) =
    TellsType declarations symbols (abstraction_type names c) × TellsType declarations symbols c × TellsSequent declarations symbols one
TellsContent declarations symbols (type_representation names c u j one) =
    TellsType declarations symbols (representation_type names c) × TellsType declarations symbols c × TellsSequent declarations symbols one
TellsContent declarations symbols (unproved s) = TellsSequent declarations symbols s
TellsContent declarations symbols (step kind js premises given s) =
    TellsSequent declarations symbols s × AllByRecursion (TellsSequent declarations symbols) premises × TellsGiven declarations symbols given
