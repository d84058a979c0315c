-- Symbols over a table that keeps what it had.
use Rattle.std.proofs.Common.{◌≡◌, refl, sym, ap, ◌∙◌, arith, ◌<◌, List, [], ◌∷◌, ◌++◌, length}
use Rattle.std.proofs.Math.Path.{ap₂}
use Rattle.std.proofs.lemmas.List.{map-append}
use Rattle.hol_spec.specs.Definitions.{Definition}
use Rattle.hol_spec.specs.Symbols.{Symbol}
use Rattle.hol_spec.specs.Terms.{type_of}
use Rattle.std.specs.Prelude.{Some}
use Rattle.hol_type.specs.declared.table.TypeId.{TypeId}
use Rattle.hol_term.specs.declared.TermId.{TermId}
use Rattle.hol_type.specs.TableLaws.{tree_at-Stays}
use Rattle.hol_term.specs.Tables.{Trees, term_at, type_at, Keeps}
use Rattle.hol_term.specs.TableLaws.{term_in-Stays}
use Rattle.hol_defs.specs.Symbols.{Taken, symbol_at, symbols_at, IsKnownSymbol, AreKnownSymbols}
use Rattle.hol_spec.specs.NewTypes.{abstraction_type, representation_type}

module _ {a b : Trees} (k : Keeps a b) where
  type_at-Keeps : (id : TypeId) → id.0 < length a.types → type_at a id.0 ≡ type_at b id.0
  type_at-Keeps id h = tree_at-Stays k.types.stays id.0 h

  term_at-Keeps : (id : TermId) → id.0 < length a.terms → term_at a id.0 ≡ term_at b id.0
  term_at-Keeps id h = term_in-Stays k.stays id.0 h

  symbol_at-Keeps : (x : Taken) → IsKnownSymbol a x → symbol_at a x ≡ symbol_at b x
  symbol_at-Keeps (Taken.input_constant n) h = refl
  symbol_at-Keeps (Taken.input_operator n i) h = refl
  symbol_at-Keeps (Taken.constant n t ty) h = ap (λ u. Symbol.defined (Definition.constant n u)) (term_at-Keeps t h.term)
  symbol_at-Keeps (Taken.type_operator names c f abs rep) h =
      ap₂ (λ d u. Symbol.defined (Definition.type_operator names d u)) (type_at-Keeps c h.ty) (term_at-Keeps f h.predicate)

  -- the symbols are the same over a table that keeps what it had
  pub symbols_at-Keeps : (taken : List Taken) → AreKnownSymbols a taken → symbols_at a taken ≡ symbols_at b taken
  symbols_at-Keeps [] h = refl
  symbols_at-Keeps (x ∷ xs) h = ap₂ (λ y ys. y ∷ ys) (symbol_at-Keeps x h.0) (symbols_at-Keeps xs h.1)

  IsKnownSymbol-Keeps : (x : Taken) → IsKnownSymbol a x → IsKnownSymbol b x
  IsKnownSymbol-Keeps (Taken.input_constant n) h = h
  IsKnownSymbol-Keeps (Taken.input_operator n i) h = h
  IsKnownSymbol-Keeps (Taken.constant n t ty) h = record {
    term = omega (arith, h.term, k.longer);
    ty = omega (arith, h.ty, k.types.longer);
    typed = sym (ap type_of (term_at-Keeps t h.term)) ∙ h.typed ∙ ap Some (type_at-Keeps ty h.ty);
  }
  IsKnownSymbol-Keeps (Taken.type_operator names c f abs rep) h = record {
    ty = omega (arith, h.ty, k.types.longer);
    predicate = omega (arith, h.predicate, k.longer);
    constants = record {
      abstraction = omega (arith, h.constants.abstraction, k.types.longer);
      representation = omega (arith, h.constants.representation, k.types.longer);
      from = sym (type_at-Keeps abs h.constants.abstraction) ∙ h.constants.from ∙ ap (abstraction_type names) (type_at-Keeps c h.ty);
      to = sym (type_at-Keeps rep h.constants.representation) ∙ h.constants.to ∙ ap (representation_type names) (type_at-Keeps c h.ty);
    };
  }

  -- and known there
  pub AreKnownSymbols-Keeps : (taken : List Taken) → AreKnownSymbols a taken → AreKnownSymbols b taken
  AreKnownSymbols-Keeps [] h = h
  AreKnownSymbols-Keeps (x ∷ xs) h = (IsKnownSymbol-Keeps x h.0, AreKnownSymbols-Keeps xs h.1)

pub symbols_at-append : (trees : Trees) (xs ys : List Taken) → symbols_at trees (xs ++ ys) ≡ symbols_at trees xs ++ symbols_at trees ys
symbols_at-append trees xs ys = map-append (symbol_at trees) xs ys

-- known symbols and further ones are known
pub AreKnownSymbols-append : (trees : Trees) (xs ys : List Taken) → AreKnownSymbols trees xs → AreKnownSymbols trees ys → AreKnownSymbols trees (xs ++ ys)
AreKnownSymbols-append trees [] ys h k = k
AreKnownSymbols-append trees (x ∷ xs) ys h k = (h.0, AreKnownSymbols-append trees xs ys h.1 k)
