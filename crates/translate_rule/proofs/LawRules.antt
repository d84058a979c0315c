-- The laws of a type definition, by what the rules of their steps say.
use Rattle.std.proofs.Common.{◌≡◌, ℕ, refl, sym, ap, subst, ◌∙◌, [], ◌∷◌}
use Rattle.hol_spec.specs.Definitions.{TypeNames}
use Rattle.hol_spec.specs.Proofs.{sequent_at}
use Rattle.hol_spec.specs.Rules.{Rule, Parameters}
use Rattle.hol_spec.specs.Rules as rule
use Rattle.hol_spec.specs.Sequents.{Sequent}
use Rattle.hol_spec.specs.Terms.{Term}
use Rattle.hol_spec.specs.TypeDefinitions.{IsTypeDefinition, first_law_of, second_law_of}
use Rattle.hol_spec.specs.Types.{HolType}
use Rattle.hol_spec.specs.declared.StepKind.TheVariants as kinds
use Rattle.hol_spec.specs.declared.Version.{Version}
use Rattle.hol_spec.specs.declared.Version.TheVariants.{Five, Six}
use Rattle.hol_rules.specs.declared.made.NewOperator.{NewOperator}
use Rattle.hol_rules.specs.declared.made.Parameters.{Parameters as Given}
use Rattle.hol_rules.specs.declared.made.Parameters.TheVariants as given
use Rattle.hol_rules.specs.Kept.{Kept}
use Rattle.hol_rules.specs.Views.{parameters_view, step_at}
use Rattle.hol_term.specs.Tables.{Trees}
use Rattle.translate_proof.specs.Parts.{IsFirstLaw, IsSecondLaw}
use Rattle.translate_rule.specs.LawSteps.{IsOperatorStep, IsFirstLawStep, IsSecondLawStep}

-- a sequent is a law of a type operator, as it is in a version, by a theorem that defines it
record Law (law : Version → TypeNames → HolType → Term → Sequent) (g : Parameters) (one s : Sequent) : Type 0 where
  pub version : Version
  pub names : TypeNames
  pub ty : HolType
  pub predicate : Term
  pub given : Parameters.type_operator names version ≡ g
  pub defines : IsTypeDefinition names ty predicate one
  pub is : s ≡ law version names ty predicate

first-of : (g : Parameters) (one s : Sequent) → Rule kinds.FirstLaw (one ∷ []) g s → Law (λ version names c f. first_law_of version names c) g one s
first-of g one s (rule.first_law {names = names} {c = c} {f = f} d e) =
    record { version = Six; names = names; ty = c; predicate = f; given = refl; defines = d; is = e }
first-of g one s (rule.first_law_free {names = names} {c = c} {f = f} d e) =
    record { version = Five; names = names; ty = c; predicate = f; given = refl; defines = d; is = e }

second-of : (g : Parameters) (one s : Sequent) → Rule kinds.SecondLaw (one ∷ []) g s → Law second_law_of g one s
second-of g one s (rule.second_law {names = names} {c = c} {f = f} d e) =
    record { version = Six; names = names; ty = c; predicate = f; given = refl; defines = d; is = e }
second-of g one s (rule.second_law_free {names = names} {c = c} {f = f} d e) =
    record { version = Five; names = names; ty = c; predicate = f; given = refl; defines = d; is = e }

-- the names and the version of a type operator that a step was given
abbrev names_in : TypeNames → Parameters → TypeNames
names_in own (Parameters.type_operator names version) = names
names_in own g = own

abbrev version_in : Version → Parameters → Version
version_in own (Parameters.type_operator names version) = version
version_in own g = own

-- a step of such a rule was given a type operator, and is a law of it
module _ (k : Kept) (id one : ℕ) where
  pub first-given : Rule kinds.FirstLaw (sequent_at k.made one ∷ []) (step_at k.made id).parameters (sequent_at k.made id) → (version : Version)
      × IsOperatorStep version k id
  first-given r = let h = first-of _ (sequent_at k.made one) (sequent_at k.made id) r in (h.version, record { names = h.names; given = h.given })

  pub second-given : Rule kinds.SecondLaw (sequent_at k.made one ∷ []) (step_at k.made id).parameters (sequent_at k.made id) → (version : Version)
      × IsOperatorStep version k id
  second-given r = let h = second-of _ (sequent_at k.made one) (sequent_at k.made id) r in (h.version, record { names = h.names; given = h.given })

  module _ (version : Version) (is : IsOperatorStep version k id) where
    pub first-law : Rule kinds.FirstLaw (sequent_at k.made one ∷ []) (step_at k.made id).parameters (sequent_at k.made id) → IsFirstLawStep version k id one
    first-law r =
        let h = first-of _ (sequent_at k.made one) (sequent_at k.made id) r in
        let same = h.given ∙ sym is.given in
        let law : IsFirstLaw h.version k id one h.names = record { ty = h.ty; predicate = h.predicate; defines = h.defines; is = h.is } in
        record {
          operator = is;
          law = subst (λ n. IsFirstLaw version k id one n) (ap (names_in is.names) same)
              (subst (λ v. IsFirstLaw v k id one h.names) (ap (version_in version) same) law);
        }

    pub second-law : Rule kinds.SecondLaw (sequent_at k.made one ∷ []) (step_at k.made id).parameters (sequent_at k.made id) → IsSecondLawStep version k id one
    second-law r =
        let h = second-of _ (sequent_at k.made one) (sequent_at k.made id) r in
        let same = h.given ∙ sym is.given in
        let law : IsSecondLaw h.version k id one h.names = record { ty = h.ty; predicate = h.predicate; defines = h.defines; is = h.is } in
        record {
          operator = is;
          law = subst (λ n. IsSecondLaw version k id one n) (ap (names_in is.names) same)
              (subst (λ v. IsSecondLaw v k id one h.names) (ap (version_in version) same) law);
        }

-- what such a step was given, by its numbers
pub operator-given : (trees : Trees) (p : Given) (names : TypeNames) (version : Version) → parameters_view trees p ≡ Parameters.type_operator names version
    → ((o : NewOperator) → p ≡ given.TypeOp o → ⊥) → ⊥
operator-given trees given.Nothing names version e other = absurd (cc)
operator-given trees (given.Term t) names version e other = absurd (cc)
operator-given trees (given.Variable v) names version e other = absurd (cc)
operator-given trees (given.Sequent q) names version e other = absurd (cc)
operator-given trees (given.Subst x) names version e other = absurd (cc)
operator-given trees (given.Const n t) names version e other = absurd (cc)
operator-given trees (given.List ps) names version e other = absurd (cc)
operator-given trees (given.TypeOp o) names version e other = other o refl
