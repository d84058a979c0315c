-- The laws of a type operator as equations, by the theorem that defines it: of two functions, and in version 5 about a free variable.
use Rattle.std.proofs.Common.{◌≡◌, ℕ, sym, ap, subst, ◌∙◌, unwrap_or}
use Rattle.hol_spec.specs.Definitions.{TypeNames}
use Rattle.hol_spec.specs.Primitives.{bool}
use Rattle.hol_spec.specs.Proofs.{sequent_at}
use Rattle.hol_spec.specs.Sequents.{Sequent}
use Rattle.hol_spec.specs.Terms.{Term}
use Rattle.hol_spec.specs.TypeDefinitions.{IsTypeDefinition, first_law_of, second_law_of}
use Rattle.hol_spec.specs.Types.{HolType}
use Rattle.hol_spec.specs.declared.Version.{Version}
use Rattle.hol_spec.specs.declared.Version.TheVariants.{Five, Six}
use Rattle.hol_rules.specs.Kept.{Kept}
use Rattle.translate_spec.specs.ProofTrees.{predicate, witness}
use Rattle.translate_spec.specs.Rows.{type_or}
use Rattle.translate_term.specs.Told.{TellsTerm}
use Rattle.translate_proof.specs.Environments.{Given}
use Rattle.translate_proof.specs.Parts.{whole_type, IsDefiningStep, IsFirstLaw, IsSecondLaw, TellsWhole}
use Rattle.translate_proof.specs.Told.{TellsStep}

module _ (k : Kept) (id one : ℕ) (names : TypeNames) where
  -- the definition's type and its predicate are those of the theorem
  same-type : (c : HolType) (f : Term) → IsTypeDefinition names c f (sequent_at k.made one) → c ≡ whole_type k one
  same-type c f d = sym (ap (λ p. type_or (witness p)) d.holds ∙ ap (λ o. unwrap_or o bool) d.typed)

  same-predicate : (c : HolType) (f : Term) → IsTypeDefinition names c f (sequent_at k.made one) → f ≡ predicate (sequent_at k.made one).conclusion
  same-predicate c f d = sym (ap predicate d.holds)

  pub first-defining : {version : Version} → IsFirstLaw version k id one names → IsDefiningStep k one
  first-defining h = record { names = names; ty = h.ty; predicate = h.predicate; defines = h.defines }

  pub first-equation : {version : Version} → IsFirstLaw version k id one names → (sequent_at k.made id).conclusion
      ≡ (first_law_of version names (whole_type k one)).conclusion
  first-equation {version = version} h = ap (λ (s : Sequent). s.conclusion) h.is ∙ ap (λ c. (first_law_of version names c).conclusion)
      (same-type h.ty h.predicate h.defines)

  pub second-defining : {version : Version} → IsSecondLaw version k id one names → IsDefiningStep k one
  second-defining h = record { names = names; ty = h.ty; predicate = h.predicate; defines = h.defines }

  pub second-equation : {version : Version} → IsSecondLaw version k id one names → (sequent_at k.made id).conclusion
      ≡ (second_law_of version names (whole_type k one) (predicate (sequent_at k.made one).conclusion)).conclusion
  second-equation {version = version} h =
      ap (λ (s : Sequent). s.conclusion) h.is
      ∙ (λ i. (second_law_of version names (same-type h.ty h.predicate h.defines i) (same-predicate h.ty h.predicate h.defines i)).conclusion)

  -- the module tells the old type
  module _ (given : Given) (told : TellsStep given k id) where
    pub first-told : IsFirstLaw Six k id one names → TellsWhole given k one
    first-told h = (subst (TellsTerm given.declarations given.symbols) (first-equation h) told.conclusion).0.1.1.0.ty.1.0

    pub second-told : IsSecondLaw Six k id one names → TellsWhole given k one
    second-told h = (subst (TellsTerm given.declarations given.symbols) (second-equation h) told.conclusion).0.1.0

    pub first_free-told : IsFirstLaw Five k id one names → TellsWhole given k one
    first_free-told h = (subst (TellsTerm given.declarations given.symbols) (first-equation h) told.conclusion).0.1.0.ty.1.0

    pub second_free-told : IsSecondLaw Five k id one names → TellsWhole given k one
    second_free-told h = (subst (TellsTerm given.declarations given.symbols) (second-equation h) told.conclusion).0.1.1
