-- The bodies of betaConv, defineConst and defineConstList are typed: reflexivity proves an equation whose sides compute to one.
use Rattle.std.proofs.Common.{◌≡◌, List, [], map, Some, refl, sym, ap, subst, ◌∙◌}
use Rattle.std.specs.List.{AllByRecursion}
use Rattle.std.proofs.Math.Path.{ap₂}
use Rattle.hol_spec.specs.Names.{Name}
use Rattle.hol_spec.specs.Types.{HolType, type_variables}
use Rattle.hol_spec.specs.Substitution.{image, Instance, type_arguments}
use Rattle.hol_laws.specs.TermInstances.{substitute-nothing}
use Rattle.hol_spec.specs.Terms.{Term, free, bound, constant, app, lam, Variable, HasType, equation, type_variable_places, free_places}
use Rattle.hol_spec.specs.TermSubstitution.{TermPairs, term_image, sub}
use Rattle.lp_spec.specs.Conversion.{symbol_definition}
use Rattle.hol_spec.specs.Lists.{IsIn}
use Rattle.hol_laws.specs.Members.{All-left, All-right, map-twice}
use Rattle.hol_laws.specs.GenericInstances.{type_arguments-filled_in, substitute-is}
use Rattle.translate_spec.specs.Scopes.{SymbolMap, type_tree, Scope, operator_symbol, constant_symbol, generic_type}
use Rattle.translate_laws.specs.ScopeTyping.{DeclaresOperator, DeclaresConstant, ConstantOver, TypeOver, TermOver}
use Rattle.translate_spec.specs.Items.{definition_tree, part_definition_tree}
use Rattle.std.specs.Prelude.{ℕ, length}
use Rattle.hol_spec.specs.Sequents.{Sequent}
use Rattle.hol_spec.specs.Definitions.{TypeNames}
use Rattle.hol_spec.specs.NewTypes.{abstraction_type, representation_type}
use Rattle.hol_spec.specs.TypeDefinitions.{IsTypeDefinition}
use Rattle.lp_spec.specs.Modules.{Declaration, sub_symbol, sub_abs_symbol, sub_rep_symbol}
use Rattle.translate_laws.specs.SequentScope.{IsPremise}

-- the module has this definition of a constant: its term is closed, and its type variables are those of its type
pub record IsDefinition (m : List Declaration) (symbols : SymbolMap) (n : Name) (a : HolType) (t : Term) : Type 0 where
  pub generic : generic_type symbols n ≡ a
  pub definition : symbol_definition m (constant_symbol symbols n) ≡ Some (definition_tree symbols a t)
  pub typed : HasType t a
  pub over : TermOver m symbols t
  pub no_free : AllByRecursion (λ v. ⊥) (free_places t)
  pub type_variables : AllByRecursion (IsIn (type_variables a)) (type_variable_places t)

-- the module has the premise |- f t of a type definition from the type c
pub record IsPartPremise (m : List Declaration) (symbols : SymbolMap) (names : TypeNames) (c : HolType) (j : ℕ) (one : Sequent) : Type 0 where
  pub f : Term
  pub defines : IsTypeDefinition names c f one
  pub premise : IsPremise m symbols j one
  pub ty : TypeOver m symbols c

-- the module has the operator of a type definition
pub record IsPartOperator (m : List Declaration) (symbols : SymbolMap) (names : TypeNames) (c : HolType) (j : ℕ) (one : Sequent) : Type 0 where
  pub is : IsPartPremise m symbols names c j one
  pub declared : DeclaresOperator m symbols names.operator (length names.variables)
  pub definition : symbol_definition m (operator_symbol symbols names.operator (length names.variables))
      ≡ Some (part_definition_tree symbols names.variables sub_symbol c j one)

-- the module has a constant of a type definition, with this generic type, by this symbol of parts
pub record IsPartConstant (m : List Declaration) (symbols : SymbolMap) (n : Name) (a : HolType) (s : ℕ) (c : HolType) (j : ℕ) (one : Sequent) : Type 0 where
  pub declared : DeclaresConstant m symbols n
  pub generic : generic_type symbols n ≡ a
  pub definition : symbol_definition m (constant_symbol symbols n) ≡ Some (part_definition_tree symbols (type_variables a) s c j one)

-- the module has the type definition from a premise
pub record DefinesPart (m : List Declaration) (symbols : SymbolMap) (names : TypeNames) (j : ℕ) (one : Sequent) : Type 0 where
  pub c : HolType
  pub f : Term
  pub defines : IsTypeDefinition names c f one
  pub operator : IsPartOperator m symbols names c j one
  pub abstraction : IsPartConstant m symbols names.abstraction (abstraction_type names c) sub_abs_symbol c j one
  pub representation : IsPartConstant m symbols names.representation (representation_type names c) sub_rep_symbol c j one

-- a closed term stays where no type is put
pub sub-closed : (terms : TermPairs) (t : Term) → AllByRecursion (λ v. ⊥) (free_places t) → sub [] terms t ≡ t
sub-closed terms (free n t) h = absurd h.0
sub-closed terms (bound k) h = refl
sub-closed terms (constant n t) h = ap (constant n) (substitute-nothing t)
sub-closed terms (app f x) h = ap₂ app (sub-closed terms f (All-left (λ v. ⊥) (free_places f) (free_places x) h))
    (sub-closed terms x (All-right (λ v. ⊥) (free_places f) (free_places x) h))
sub-closed terms (lam t b) h = ap₂ lam (substitute-nothing t) (sub-closed terms b h)

-- the constant of a definition is over the symbols
pub constant-over : (m : List Declaration) (symbols : SymbolMap) (n : Name) (a : HolType) (t : Term) → DeclaresConstant m symbols n
    → IsDefinition m symbols n a t
    → TypeOver m symbols a → ConstantOver m symbols n a
constant-over m symbols n a t declared d o = record
    { declared = declared; instance = subst (λ g. Instance g a) (sym d.generic) ([], substitute-nothing a); ty = o }

module _ (m : List Declaration) (symbols : SymbolMap) (scope : Scope) (n : Name) (a : HolType) (t : Term) (d : IsDefinition m symbols n a t) where
  pub own_arguments : map (type_tree symbols scope.types) (type_arguments (generic_type symbols n) a) ≡ map scope.types (type_variables a)
  own_arguments =
      ap (λ g. map (type_tree symbols scope.types) (type_arguments g a)) d.generic
      ∙ ap (λ u. map (type_tree symbols scope.types) (type_arguments a u)) (sym (substitute-nothing a) ∙ substitute-is [] a)
      ∙ ap (map (type_tree symbols scope.types)) (type_arguments-filled_in (image []) a)
      ∙ map-twice (type_tree symbols scope.types) (image []) (type_variables a)

-- a hypothesis of the premise is the defining equation of a constant that stands for its variable
pub record DefinesConstant (m : List Declaration) (symbols : SymbolMap) (terms : TermPairs) (h : Term) : Type 0 where
  pub name : Name
  pub variable : Variable
  pub term : Term
  pub is : h ≡ equation variable.1 (free variable.0 variable.1) term
  pub image : term_image terms variable ≡ constant name variable.1
  pub declared : DeclaresConstant m symbols name
  pub definition : IsDefinition m symbols name variable.1 term

-- a constant that is defined stands for a variable
pub record StandsForVariable (m : List Declaration) (symbols : SymbolMap) (terms : TermPairs) (v : Variable) : Type 0 where
  pub name : Name
  pub term : Term
  pub image : term_image terms v ≡ constant name v.1
  pub declared : DeclaresConstant m symbols name
  pub definition : IsDefinition m symbols name v.1 term
