-- What the view of a symbol says of it.
use Rattle.std.specs.Prelude.{List, [], ◌∷◌}
use Rattle.hol_spec.specs.Names.{Name}
use Rattle.hol_type.specs.declared.table.TypeId.{TypeId}
use Rattle.hol_defs.specs.declared.readers.SymbolView.{SymbolView}
use Rattle.hol_defs.specs.declared.readers.TypeOpView.{TypeOpView}
use Rattle.hol_defs.specs.declared.readers.SymbolView.TheVariants as view
use Rattle.hol_defs.specs.Symbols.{Taken, named}

-- the operator that a view has
abbrev pub operator_of_view : TypeOpView → Taken
operator_of_view x = Taken.type_operator (named x.op.now x.abs.now x.rep.now x.names.now) x.whole x.predicate x.abs_type x.rep_type

-- the constants of an operator that a view has, with the numbers of their types
abbrev pub constants_of_view : TypeOpView → List (Name × TypeId)
constants_of_view x = (x.abs.now, x.abs_type) ∷ (x.rep.now, x.rep_type) ∷ []

-- the symbol that a view has
abbrev pub taken_of_view : SymbolView → Taken
taken_of_view (view.InputConst name) = Taken.input_constant name.now
taken_of_view (view.InputOp name arity) = Taken.input_operator name.now arity
taken_of_view (view.Const name term ty) = Taken.constant name.now term ty
taken_of_view (view.TypeOp x) = operator_of_view x
