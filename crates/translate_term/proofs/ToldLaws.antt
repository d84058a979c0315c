-- The symbols that a module has under the names of operators and constants.
use Rattle.std.proofs.Common.{◌≡◌, ℕ, Bool, true, false, cond, refl, sym, ap, ◌∙◌, List, None, Some}
use Rattle.std.specs.Prelude.{◌↔◌, IsTrue}
use Rattle.std.specs.Bool.{Decides}
use Rattle.hol_spec.specs.Names.{Name}
use Rattle.hol_spec.specs.NameEquality.{name_eq}
use Rattle.hol_laws.specs.NameEqualityLaws.{name_eq-Decides}
use Rattle.hol_spec.specs.Primitives.{arrow_name, bool_name, ind_name, equality_name, select_name}
use Rattle.lp_spec.specs.Modules.{Declaration, arr_symbol, bool_symbol, ind_symbol, eq_symbol, select_symbol}
use Rattle.holide_sig.specs.Modules.{symbol_number}
use Rattle.translate_spec.specs.Image.{input_constant_name, input_operator_name, constant_name, operator_name}
use Rattle.translate_term.specs.Told.{either_number, told_operator, told_constant}

-- a test of a name that fails
pub differs : (b : Bool) (n m : Name) → (IsTrue b ↔ (n ≡ m)) → b ≡ false → name_eq n m ≡ false
differs b n m t e = go (name_eq n m) (name_eq-Decides n m)
  where
    go : (c : Bool) → Decides c (n ≡ m) → c ≡ false
    go true d = absurd (let yes : b ≡ true = t.1 (d.0 refl) in cc)
    go false d = refl

module _ (declarations : List Declaration) (n : Name) where
  module _ (k : ℕ) (a : name_eq n arrow_name ≡ false) (b : name_eq n bool_name ≡ false) (c : name_eq n ind_name ≡ false) where
    operator-rest : told_operator declarations n k
        ≡ either_number (symbol_number declarations (input_operator_name k n)) (symbol_number declarations (operator_name n))
    operator-rest =
        ap (λ x. cond x (Some arr_symbol)
        (cond (name_eq n bool_name) (Some bool_symbol)
        (cond (name_eq n ind_name) (Some ind_symbol)
        (either_number (symbol_number declarations (input_operator_name k n)) (symbol_number declarations (operator_name n)))))) a
        ∙ ap (λ x. cond x (Some bool_symbol)
        (cond (name_eq n ind_name) (Some ind_symbol)
        (either_number (symbol_number declarations (input_operator_name k n)) (symbol_number declarations (operator_name n))))) b
        ∙ ap (λ x. cond x (Some ind_symbol)
        (either_number (symbol_number declarations (input_operator_name k n)) (symbol_number declarations (operator_name n)))) c

    pub operator-input : (s : ℕ) → symbol_number declarations (input_operator_name k n) ≡ Some s → Some s ≡ told_operator declarations n k
    operator-input s e = sym (operator-rest ∙ ap (λ o. either_number o (symbol_number declarations (operator_name n))) e)

    pub operator-defined : symbol_number declarations (input_operator_name k n) ≡ None → symbol_number declarations (operator_name n)
        ≡ told_operator declarations n k
    operator-defined e = sym (operator-rest ∙ ap (λ o. either_number o (symbol_number declarations (operator_name n))) e)

  module _ (a : name_eq n equality_name ≡ false) (b : name_eq n select_name ≡ false) where
    constant-rest : told_constant declarations n ≡ either_number (symbol_number declarations (input_constant_name n))
        (symbol_number declarations (constant_name n))
    constant-rest =
        ap (λ x. cond x (Some eq_symbol)
        (cond (name_eq n select_name) (Some select_symbol)
        (either_number (symbol_number declarations (input_constant_name n)) (symbol_number declarations (constant_name n))))) a
        ∙ ap (λ x. cond x (Some select_symbol)
        (either_number (symbol_number declarations (input_constant_name n)) (symbol_number declarations (constant_name n)))) b

    pub constant-input : (s : ℕ) → symbol_number declarations (input_constant_name n) ≡ Some s → Some s ≡ told_constant declarations n
    constant-input s e = sym (constant-rest ∙ ap (λ o. either_number o (symbol_number declarations (constant_name n))) e)

    pub constant-defined : symbol_number declarations (input_constant_name n) ≡ None → symbol_number declarations (constant_name n)
        ≡ told_constant declarations n
    constant-defined e = sym (constant-rest ∙ ap (λ o. either_number o (symbol_number declarations (constant_name n))) e)
