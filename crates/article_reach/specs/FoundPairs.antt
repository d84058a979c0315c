-- What is found in variables and in what is put for them, by the numbers of a table.
use Rattle.std.specs.Prelude.{List, ◌∷◌, ◌++◌}
use Rattle.std.specs.List.{flat_map}
use Rattle.hol_spec.specs.Names.{Name}
use Rattle.hol_type.specs.declared.table.TypeId.{TypeId}
use Rattle.hol_term.specs.declared.TermId.{TermId}
use Rattle.hol_term.specs.declared.Variable.{Variable}
use Rattle.hol_term.specs.Tables.{Trees, term_at, type_at}
use Rattle.article_reach.specs.Found.{Found, type_found, term_found}

abbrev pub variable_found : Trees → Variable → List Found
variable_found trees v = Found.named v.name ∷ type_found (type_at trees v.ty.0)

abbrev pub term_put : Trees → Variable → TermId → List Found
term_put trees v t = variable_found trees v ++ term_found (term_at trees t.0)

abbrev pub types_put : Trees → List (Name × TypeId) → List Found
types_put trees types = flat_map (λ (p : Name × TypeId). type_found (type_at trees p.1.0)) types

abbrev pub terms_put : Trees → List (Variable × TermId) → List Found
terms_put trees terms = flat_map (λ (p : Variable × TermId). term_put trees p.0 p.1) terms

abbrev pub constants_put : Trees → List (Name × Variable) → List Found
constants_put trees pairs = flat_map (λ (p : Name × Variable). variable_found trees p.1) pairs
