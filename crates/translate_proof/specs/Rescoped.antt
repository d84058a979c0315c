-- What is given, in another scope.
use Rattle.translate_spec.specs.Scopes.{Scope, filled}
use Rattle.translate_proof.specs.Environments.{Given}

abbrev pub with_scope : Given → Scope → Given
with_scope given scope = record { declarations = given.declarations; symbols = given.symbols; scope = scope }

-- where only what stands for type variables is told
abbrev pub over_types : Given → Given
over_types given = with_scope given (filled given.symbols given.scope.types)
