-- What the calls of this crate give their walks.
use Rattle.std.proofs.Common.{◌≡◌, ◌<◌, ◌^◌, refl, ap, arith, List, [], length}
use Rattle.hol_spec.specs.Names.{Name}
use Rattle.hol_spec.specs.Types.{HolType}
use Rattle.hol_spec.specs.Terms.{Term}
use Rattle.hol_type.specs.declared.table.TypeId.{TypeId}
use Rattle.hol_type.specs.Tables as type
use Rattle.hol_term.specs.declared.TermId.{TermId}
use Rattle.hol_term.specs.declared.Variable.{Variable}
use Rattle.hol_term.specs.Tables.{Trees, term_at}
use Rattle.lp_term.specs.declared.LpId.{LpId}
use Rattle.holide_sig.specs.declared.module.Module.{Module}
use Rattle.holide_sig.specs.Modules.{declarations_of, IsHeld}
use Rattle.translate_spec.specs.Scopes.{SymbolMap, term_tree}
use Rattle.translate_laws.specs.DeepScopes.{deep-zero}
use Rattle.translate_laws.specs.ListedScopes.{told}
use Rattle.translate_term.specs.Tasks.{IsNoted}
use Rattle.translate_term.specs.Told.{TellsType, TellsTerm, types_in, terms_in, AreTypesKnown, AreTermsKnown}
use Rattle.translate_term.specs.Walks.{Given, IsTypeStart, IsTermStart, term_wanted}

abbrev pub given_to : SymbolMap → Module → List HolType → List (Name × LpId) → List (Variable × LpId) → Given
given_to symbols m types names variables = record {
  declarations = declarations_of m;
  symbols = symbols;
  types = types_in m.table names;
  terms = terms_in types m.table variables;
}

pub type-start : (symbols : SymbolMap) (m : Module) (types : List HolType) (names : List (Name × LpId)) (id : TypeId) (made : List (TypeId × LpId)) → IsHeld m
    → id.0 < length types → AreTypesKnown m.table names
    → TellsType (declarations_of m) symbols (type.tree_at types id.0) → ((k : TypeId) (r : LpId) → IsNoted made k r → ⊥)
    → IsTypeStart (given_to symbols m types names []) id m types names made
type-start symbols m types names id made held known names_known told none = record {
  reads = record { held = held; declared = refl; known = names_known; told = refl };
  noted = λ k r n. absurd (none k r n);
  known = record { known = known; told = told };
}

pub term-start : (symbols : SymbolMap) (m : Module) (trees : Trees) (names : List (Name × LpId)) (variables : List (Variable × LpId)) (id : TermId) → IsHeld m
    → id.0 < length trees.terms → id.0 < 2 ^ 64 → AreTypesKnown m.table names
    → AreTermsKnown trees.types m.table variables → TellsTerm (declarations_of m) symbols (term_at trees id.0)
    → IsTermStart (given_to symbols m trees.types names variables) (record { id = id; depth = 0 }) m trees names variables
term-start symbols m trees names variables id held known small names_known variables_known told = record {
  reads = record { held = held; declared = refl; known = names_known; told = refl };
  variables_told = record { known = variables_known; told = refl };
  known = record { known = known; countable = omega (arith, small); told = told };
}

pub term-zero : (given : Given) (t : Term) → term_wanted given 0 t ≡ term_tree given.symbols (told given.symbols given.types given.terms) t
term-zero given t = ap (λ w. term_tree given.symbols w t) (deep-zero (told given.symbols given.types given.terms))
