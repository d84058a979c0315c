-- What a symbol's name and type tell of an operator or a constant.
use Rattle.std.specs.Prelude.{◌≡◌, ℕ, List, ◌++◌, codes, Option, Some, None, MatchOption}
use Rattle.std.specs.Option.{option_map}
use Rattle.hol_spec.specs.Names.{Name}
use Rattle.hol_spec.specs.Primitives.{primitive_type}
use Rattle.hol_spec.specs.ClosedForm.{ClosedType}
use Rattle.hol_term.specs.Tables.{Trees}
use Rattle.lp_spec.specs.Modules.{symbol_type, Declaration}
use Rattle.lp_spec.specs.Numerals.{numeral}
use Rattle.decode_spec.specs.Options.{bind, or_else, provided}
use Rattle.decode_spec.specs.Decode.{Constant, constant_with, generic_of, input_constant, is_lacking, name_behind, named_operator}
use Rattle.decode_back.specs.declared.constants.Constant.{Constant as ConstantFound}
use Rattle.decode_back.specs.Walks.{IsConstant}

-- the input or defined operator that a symbol stands for at so many arguments
abbrev pub own_operator : List Declaration → ℕ → ℕ → Option Name
own_operator d symbol count =
    or_else (named_operator d symbol (codes "t" ++ numeral count ++ codes "_") count) (named_operator d symbol (codes "o_") count)

-- the constant of this name with the generic type that a symbol's type tells
abbrev pub constant_of : List Declaration → ℕ → Name → Option Constant
constant_of d symbol n = option_map (λ (g : ℕ × ClosedType). constant_with n g.0 g.1) (generic_of d (symbol_type d symbol))

-- the name behind a front of a symbol's name, unless it is that of a primitive constant
abbrev pub own_name : List Declaration → ℕ → List ℕ → Option Name
own_name d symbol front = bind (name_behind d symbol front) (λ n. provided (is_lacking (primitive_type n)) (Some n))

-- the input constant is found that a symbol stands for, or it stands for none
abbrev pub IsInputFound : List Declaration → ℕ → Trees → Option ConstantFound → Type 0
IsInputFound d symbol trees found = MatchOption found (input_constant d symbol ≡ None) (IsConstant (input_constant d symbol) trees)
