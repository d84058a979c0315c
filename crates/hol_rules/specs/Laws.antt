-- The laws of a new type, by the types of its constants.
use Rattle.std.specs.Prelude.{◌≡◌, ℕ, ◌<◌, ◌≤◌, ◌+◌, ◌*◌, max, min, List, [], ◌∷◌, codes, length, Bool, ◌&&◌, nat_le, true}
use Rattle.std.specs.List.{list_all}
use Rattle.hol_spec.specs.Defining.{is_closed}
use Rattle.hol_spec.specs.Definitions.{TypeNames}
use Rattle.hol_spec.specs.Limits.{greatest_size, greatest_depth, greatest_parameter_count, type_size, type_depth, term_size, term_depth}
use Rattle.hol_spec.specs.Measures.{Measure}
use Rattle.hol_spec.specs.NewTypes.{new_type, abstraction_type, representation_type}
use Rattle.hol_spec.specs.Proofs.{symbols_of, sequent_at}
use Rattle.hol_spec.specs.Sequents.{parameter_count}
use Rattle.hol_spec.specs.Taking.{AreNew}
use Rattle.hol_spec.specs.TypeDefinitions.{first_law_of, second_law_of, are_type_variables_of}
use Rattle.hol_spec.specs.Primitives.{bool, function}
use Rattle.hol_spec.specs.TermBinding.{loose}
use Rattle.hol_spec.specs.Terms.{Term, Variable, free, bound, constant, app, lam, equation, free_places, HasType}
use Rattle.hol_spec.specs.Types.{HolType}
use Rattle.hol_spec.specs.declared.Version.{Version}
use Rattle.hol_spec.specs.declared.Version.TheVariants.{Five, Six}
use Rattle.hol_defs.specs.Symbols.{named}
use Rattle.hol_type.specs.declared.table.TypeId.{TypeId}
use Rattle.hol_term.specs.Tables.{Trees, term_at, type_at}
use Rattle.sequent.specs.Sequents as sequents
use Rattle.hol_rules.specs.declared.laws.NewNames.{NewNames}
use Rattle.hol_rules.specs.declared.laws.NewPart.{NewPart}
use Rattle.hol_rules.specs.declared.laws.NewTypes.{NewTypes}
use Rattle.hol_rules.specs.declared.type_definitions.Laws.{Laws}
use Rattle.hol_rules.specs.declared.type_definitions.TypeParts.{TypeParts}
use Rattle.hol_rules.specs.Kept.{Kept}
use Rattle.hol_rules.specs.Premises.{IsNumberOf, IsStated}
use Rattle.article_spec.specs.RuleSteps.{type_measures}

-- the conclusions of the laws of the type n, a part of c, by the constant k.0 to it and the constant k.1 from it
abbrev pub first_tree : HolType → Term × Term → Term
first_tree n k = equation (function n n) (lam n (app k.0 (app k.1 (bound 0)))) (lam n (bound 0))

abbrev pub second_tree : HolType → Term × Term → Term → Term
second_tree c k f = equation (function c bool) (lam c (equation c (app k.1 (app k.0 (bound 0))) (bound 0))) (lam c (app f (bound 0)))

-- the same over a free variable, of the type n or c
abbrev pub first_tree_free : Variable → Term × Term → Term
first_tree_free v k = equation v.1 (app k.0 (app k.1 (free v.0 v.1))) (free v.0 v.1)

abbrev pub second_tree_free : Variable → Term × Term → Term → Term
second_tree_free v k f = equation bool (app f (free v.0 v.1)) (equation v.1 (app k.1 (app k.0 (free v.0 v.1))) (free v.0 v.1))

-- the conclusions in an article of a version
abbrev pub first_tree_of : Version → HolType → Term × Term → Term
first_tree_of Five n k = first_tree_free (codes "a" ∷ [], n) k
first_tree_of Six n k = first_tree n k

abbrev pub second_tree_of : Version → HolType → Term × Term → Term → Term
second_tree_of Five c k f = second_tree_free (codes "r" ∷ [], c) k f
second_tree_of Six c k f = second_tree c k f

-- the sizes of the laws of a part of c over k type variables, and the larger of them
abbrev pub first_law_size : Version → HolType → ℕ → ℕ
first_law_size Five c k = 2 * type_size c + 6 * k + 20
first_law_size Six c k = 2 * type_size c + 8 * k + 26

abbrev pub second_law_size : Version → HolType → ℕ → Term → ℕ
second_law_size Five c k f = 7 * type_size c + 2 * k + term_size f + 26
second_law_size Six c k f = 8 * type_size c + 2 * k + term_size f + 30

abbrev pub larger_law_size : Version → HolType → ℕ → Term → ℕ
larger_law_size version c k f = max (first_law_size version c k) (second_law_size version c k f)

-- how far the second law lies above the types of its constants, and its depth: it is the deeper one
abbrev pub height_above_types : Version → ℕ
height_above_types Five = 8
height_above_types Six = 10

abbrev pub second_law_depth : Version → HolType → ℕ → Term → ℕ
second_law_depth version c k f = max (max (type_depth c) (max k 1 + min k 1) + height_above_types version) (term_depth f + 3)

-- the number is that of this type
pub record IsTypeOf (trees : Trees) (id : TypeId) (t : HolType) : Type 0 where
  pub known : id.0 < length trees.types
  pub is : type_at trees id.0 ≡ t

-- the names that a definition gives, as contracts see them
abbrev pub named_by : NewNames → TypeNames
named_by names = named names.op.now names.abs.now names.rep.now names.variables.now

-- the numbers are those of the operator over its variables and of the types of its constants, a part of c
pub record AreNewTypes (trees : Trees) (names : TypeNames) (c : HolType) (types : NewTypes) : Type 0 where
  pub part : IsTypeOf trees types.part (new_type names)
  pub abs : IsTypeOf trees types.abs (abstraction_type names c)
  pub rep : IsTypeOf trees types.rep (representation_type names c)

-- the numbers are those of the operator over its variables and of its constants, a part of c
pub record IsNewPart (trees : Trees) (names : TypeNames) (c : HolType) (part : NewPart) : Type 0 where
  pub ty : IsTypeOf trees part.ty (new_type names)
  pub abs : IsNumberOf trees part.abs (constant names.abstraction (abstraction_type names c))
  pub rep : IsNumberOf trees part.rep (constant names.representation (representation_type names c))

-- the term has no free variable and no loose number
pub record IsWithoutVariables (t : Term) : Type 0 where
  pub free : free_places t ≡ []
  pub loose : loose t ≤ 0

-- the numbers are of the table, and the constants have no variable
pub record IsPartKnown (trees : Trees) (part : NewPart) : Type 0 where
  pub ty : part.ty.0 < length trees.types
  pub abs : part.abs.0 < length trees.terms
  pub rep : part.rep.0 < length trees.terms
  pub abs_closed : IsWithoutVariables (term_at trees part.abs.0)
  pub rep_closed : IsWithoutVariables (term_at trees part.rep.0)

-- the constant to the new type and the constant from it
abbrev pub part_constants : Trees → NewPart → Term × Term
part_constants trees part = (term_at trees part.abs.0, term_at trees part.rep.0)

-- a step says of a predicate that something satisfies it, under no hypothesis, and the predicate may define a new type with these names
pub record AreTypeParts (k : Kept) (names : TypeNames) (id : ℕ) (parts : TypeParts) : Type 0 where
  pub witness : Term
  pub concl : IsNumberOf k.trees parts.concl (sequent_at k.made id).conclusion
  pub predicate_known : parts.predicate.0 < length k.trees.terms
  pub whole_known : parts.whole.0 < length k.trees.types
  pub holds : (sequent_at k.made id).conclusion ≡ app (term_at k.trees parts.predicate.0) witness
  pub typed : HasType witness (type_at k.trees parts.whole.0)
  pub no_hypotheses : (sequent_at k.made id).hypotheses ≡ []
  pub new : AreNew (symbols_of k.made) names
  pub closed : is_closed (term_at k.trees parts.predicate.0) ≡ true
  pub variables : are_type_variables_of names.variables (term_at k.trees parts.predicate.0) ≡ true

-- each size and each depth is within the limits
pub record AreSmall (measures : List Measure) : Type 0 where
  pub sizes : list_all (λ m. nat_le m.size greatest_size) measures ≡ true
  pub depths : list_all (λ m. nat_le m.depth greatest_depth) measures ≡ true

-- the numbers are those of the two laws in an article of a version
pub record AreLaws (version : Version) (trees : Trees) (names : TypeNames) (c : HolType) (f : Term) (laws : Laws) : Type 0 where
  pub first : IsStated trees laws.first (first_law_of version names c)
  pub second : IsStated trees laws.second (second_law_of version names c f)

-- the measures of all that a definition makes of these parts
abbrev pub measures_of_parts : Version → TypeNames → Trees → TypeParts → List Measure
measures_of_parts version names trees parts = type_measures version names (type_at trees parts.whole.0) (term_at trees parts.predicate.0)

-- the numbers are those of the laws of these parts
abbrev pub AreLawsOf : Version → TypeNames → Trees → TypeParts → Trees → Laws → Type 0
AreLawsOf version names trees parts after laws = AreLaws version after names (type_at trees parts.whole.0) (term_at trees parts.predicate.0) laws

-- neither law has too many parameters
abbrev pub have_few_parameters : Trees → Laws → Bool
have_few_parameters trees laws =
    nat_le (parameter_count (sequents.sequent_at trees laws.first)) greatest_parameter_count
    && nat_le (parameter_count (sequents.sequent_at trees laws.second)) greatest_parameter_count
