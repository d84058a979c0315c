-- The use of a constant or of an operator takes what it newly takes, and stands then among what is taken.
use Rattle.std.proofs.Common.{◌≡◌, ℕ, List, [], ◌∷◌, ◌++◌, Bool, true, false, ◌||◌, cond, Option, None, Some, Ok, refl, sym, ap, ◌∙◌}
use Rattle.std.specs.Prelude.{is_some, nat_eq}
use Rattle.std.specs.List.{list_any}
use Rattle.std.proofs.lemmas.Bool.Decides.{Decides-eqb}
use Rattle.std.proofs.lemmas.Bool.{or_parts}
use Rattle.hol_spec.specs.Names.{Name}
use Rattle.hol_spec.specs.Types.{HolType}
use Rattle.hol_spec.specs.Substitution.{is_instance}
use Rattle.hol_laws.specs.SubstitutionLaws.{is_instance-Decides}
use Rattle.hol_laws.specs.NameEqualityLaws.{name_eq-refl}
use Rattle.common.specs.declared.faults.Kind.TheVariants.{BadArity, BadConstType}
use Rattle.hol_spec.specs.Symbols.{Symbol, input_constant, input_operator, generic_type, operator_arity, is_input_constant, is_input_operator, is_taken_constant, new_constant, new_operator}
use Rattle.hol_spec.specs.Taking as taking
use Rattle.hol_spec.specs.Taken.{OperatorTaken, ConstantTaken}
use Rattle.hol_spec.specs.Taken as taken
use Rattle.hol_proof_laws.specs.SymbolGrowth.{any-left, any-right, operator-more, constant-more}
use Rattle.hol_spec.specs.Proofs.{Made, symbols_of}
use Rattle.article_spec.specs.Conditions.{arity_fits, generic_fits}
use Rattle.article_laws.specs.SoundStates.{AreTakenAfter, demanded}

pub operator-new : (made : List Made) (n : Name) (k : ℕ) → AreTakenAfter made (new_operator (symbols_of made) n k)
operator-new made n k = go (is_some (operator_arity (symbols_of made) n) || list_any (is_input_operator n k) (symbols_of made)) refl
  where
    go : (b : Bool) → (is_some (operator_arity (symbols_of made) n) || list_any (is_input_operator n k) (symbols_of made)) ≡ b
        → AreTakenAfter made (cond b [] (input_operator n k ∷ []))
    go true e = tt
    go false e = let h = or_parts _ _ e in ((tt {0}, taking.Takes.input_operator h.0 h.1), tt {0}, tt {0})

pub constant-new : (made : List Made) (n : Name) → AreTakenAfter made (new_constant (symbols_of made) n)
constant-new made n = go (is_taken_constant (symbols_of made) n) refl
  where
    go : (b : Bool) → is_taken_constant (symbols_of made) n ≡ b → AreTakenAfter made (cond b [] (input_constant n ∷ []))
    go true e = tt
    go false e = ((tt {0}, taking.Takes.input_constant e), tt {0}, tt {0})

pub operator-used : (symbols : List Symbol) (n : Name) (k : ℕ) (x : Unit {0}) → arity_fits (operator_arity symbols n) k ≡ Ok x
    → OperatorTaken (symbols ++ new_operator symbols n k) n k
operator-used symbols n k x e = by_arity (operator_arity symbols n) refl e
  where
    input : (b : Bool) → list_any (is_input_operator n k) symbols ≡ b → OperatorTaken (symbols ++ cond b [] (input_operator n k ∷ [])) n k
    input true e = taken.OperatorTaken.input (any-left (is_input_operator n k) symbols [] e)
    input false e = taken.OperatorTaken.input
        (any-right (is_input_operator n k) symbols (input_operator n k ∷ []) (rw (name_eq-refl n, (Decides-eqb k k).1 refl) refl))

    by_arity : (o : Option ℕ) → operator_arity symbols n ≡ o → arity_fits o k ≡ Ok x
        → OperatorTaken (symbols ++ cond (is_some o || list_any (is_input_operator n k) symbols) [] (input_operator n k ∷ [])) n k
    by_arity (Some a) is e =
        let same : k ≡ a = (Decides-eqb k a).0 (demanded (nat_eq k a) BadArity x e) in
        operator-more symbols [] n k (taken.OperatorTaken.of_arity (is ∙ ap Some (sym same)))
    by_arity None is e = input (list_any (is_input_operator n k) symbols) refl

pub constant-used : (symbols : List Symbol) (n : Name) (a : HolType) (x : Unit {0}) → generic_fits (generic_type symbols n) a ≡ Ok x
    → ConstantTaken (symbols ++ new_constant symbols n) n a
constant-used symbols n a x e = by_generic (generic_type symbols n) refl e
  where
    input : (b : Bool) → list_any (is_input_constant n) symbols ≡ b → ConstantTaken (symbols ++ cond b [] (input_constant n ∷ [])) n a
    input true e = taken.ConstantTaken.input (any-left (is_input_constant n) symbols [] e)
    input false e = taken.ConstantTaken.input (any-right (is_input_constant n) symbols (input_constant n ∷ []) (rw (name_eq-refl n) refl))

    by_generic : (o : Option HolType) → generic_type symbols n ≡ o → generic_fits o a ≡ Ok x
        → ConstantTaken (symbols ++ cond (is_some o || list_any (is_input_constant n) symbols) [] (input_constant n ∷ [])) n a
    by_generic (Some g) is e = constant-more symbols [] n a
        (taken.ConstantTaken.instance g is ((is_instance-Decides g a).0 (demanded (is_instance g a) BadConstType x e)))
    by_generic None is e = input (list_any (is_input_constant n) symbols) refl
