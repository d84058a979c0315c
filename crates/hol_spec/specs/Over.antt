-- Proofs over the symbols that are taken and within the limits: what each thing is made from stands among what was taken before it.
use Rattle.std.specs.Prelude.{List}
use Rattle.hol_spec.specs.Definitions.{Definition}
use Rattle.hol_spec.specs.Symbols.{Symbol}
use Rattle.hol_spec.specs.Limits.{SequentWithin}
use Rattle.hol_spec.specs.Proofs.{Made, Step, Each, symbols_of}
use Rattle.hol_spec.specs.Taken.{TermsTaken, ParametersTaken, SymbolTaken}

pub record IsStepOver (before : List Made) (x : Step) : Type 0 where
  pub parameters : ParametersTaken (symbols_of before) x.parameters
  pub sequent : TermsTaken (symbols_of before) x.sequent
  pub within : SequentWithin x.sequent

abbrev pub IsMadeOver : List Made → Made → Type 0
IsMadeOver before (Made.symbol x) = SymbolTaken (symbols_of before) x
IsMadeOver before (Made.type_definition names c f i) = SymbolTaken (symbols_of before) (Symbol.defined (Definition.type_operator names c f))
IsMadeOver before (Made.step x) = IsStepOver before x

abbrev pub IsOver : List Made → Type 0
IsOver made = Each IsMadeOver made
