-- What the definition of a type operator is judged by, and what it comes to.
use Rattle.std.proofs.Common.{◌≡◌, refl, sym, ap, subst, ◌∙◌, List, [], ◌∷◌, Bool, true, false, Option, None}
use Rattle.std.specs.Prelude.{not, ◌||◌}
use Rattle.std.specs.Option.{option_or}
use Rattle.std.proofs.Math.Path.{ap₂}
use Rattle.std.proofs.lemmas.Option.{same_Some}
use Rattle.hol_spec.specs.NameEquality.{name_eq}
use Rattle.hol_spec.specs.Types.{HolType}
use Rattle.hol_spec.specs.Terms.{Term, app, HasType}
use Rattle.hol_spec.specs.Definitions.{TypeNames}
use Rattle.hol_spec.specs.Symbols.{Symbol, is_taken_constant, is_taken_operator}
use Rattle.common.specs.declared.faults.Fault.{Fault}
use Rattle.common.specs.declared.faults.Fault.TheVariants as fault
use Rattle.common.specs.declared.faults.Kind.{Kind}
use Rattle.common.specs.declared.faults.Kind.TheVariants.{NameTaken, NotClosed, BadTypeVars}
use Rattle.hol_spec.specs.Defining.{is_closed}
use Rattle.hol_spec.specs.TypeDefinitions.{are_type_variables_of}
use Rattle.hol_defs.specs.Faults.{first_failing, are_new, operator_fault, limit_fault, types_made, Refuses}
use Rattle.hol_defs.proofs.OperatorLaws.{same_function, same_argument}

-- the names are new
pub record AreNewNames (symbols : List Symbol) (names : TypeNames) : Type 0 where
  pub operator : is_taken_operator symbols names.operator ≡ false
  pub abstraction : is_taken_constant symbols names.abstraction ≡ false
  pub representation : is_taken_constant symbols names.representation ≡ false
  pub apart : name_eq names.abstraction names.representation ≡ false

none_holds : (a b c d : Bool) → not (a || b || c || d) ≡ true → (a ≡ false) × (b ≡ false) × (c ≡ false) × (d ≡ false)
none_holds true b c d e = absurd (cc)
none_holds false true c d e = absurd (cc)
none_holds false false true d e = absurd (cc)
none_holds false false false true e = absurd (cc)
none_holds false false false false e = (refl, refl, refl, refl)

holds_first : (b : Bool) (k : Kind) (cs : List (Bool × Kind)) → first_failing ((b, k) ∷ cs) ≡ None → b ≡ true
holds_first true k cs e = refl
holds_first false k cs e = absurd (cc)

pub new_names : (symbols : List Symbol) (names : TypeNames) (f : Term) → operator_fault symbols names f ≡ None → AreNewNames symbols names
new_names symbols names f e =
    let h = none_holds (is_taken_operator symbols names.operator) (is_taken_constant symbols names.abstraction) (is_taken_constant symbols names.representation)
    (name_eq names.abstraction names.representation)
    (holds_first (are_new symbols names) NameTaken ((is_closed f, NotClosed) ∷ (are_type_variables_of names.variables f, BadTypeVars) ∷ []) e) in
    record { operator = h.0; abstraction = h.1; representation = h.2; apart = h.3 }

-- an application has one function, and its argument one type
pub own_function : (u p w f t : Term) → u ≡ app p w → u ≡ app f t → p ≡ f
own_function u p w f t e k = same_function (sym e ∙ k)

pub own_type : (u p w f t : Term) (a c : HolType) → u ≡ app p w → u ≡ app f t → HasType w a → HasType t c → a ≡ c
own_type u p w f t a c e k h i = let s : w ≡ t = same_argument (sym e ∙ k) in same_Some _ _ (sym h ∙ subst (λ v. HasType v c) (sym s) i)

-- what the names or the predicate refuse is refused
pub operator_refused : (symbols : List Symbol) (names : TypeNames) (p f : Term) (limits : Option Kind) → p ≡ f → (why : Fault)
    → Refuses why (operator_fault symbols names p) → Refuses why (option_or (operator_fault symbols names f) limits)
operator_refused symbols names p f limits same (fault.Refused kind) r = ap (λ o. option_or o limits) (sym (ap (operator_fault symbols names) same) ∙ r)
operator_refused symbols names p f limits same fault.Memory r = tt

module _ (symbols : List Symbol) (names : TypeNames) (p f : Term) (a c : HolType) (same : p ≡ f) (typed : a ≡ c) (none : operator_fault symbols names p ≡ None)
  where
    -- nothing is refused
    pub none_refused : limit_fault (types_made names a) ≡ None → option_or (operator_fault symbols names f) (limit_fault (types_made names c)) ≡ None
    none_refused e = ap₂ option_or (ap (operator_fault symbols names) (sym same) ∙ none) (ap (λ d. limit_fault (types_made names d)) (sym typed) ∙ e)

    -- a limit is passed
    pub limit_refused : (fault : Fault) → Refuses fault (limit_fault (types_made names a))
        → Refuses fault (option_or (operator_fault symbols names f) (limit_fault (types_made names c)))
    limit_refused fault r = subst (Refuses fault)
        (sym (ap₂ option_or (ap (operator_fault symbols names) (sym same) ∙ none) (ap (λ d. limit_fault (types_made names d)) (sym typed)))) r
