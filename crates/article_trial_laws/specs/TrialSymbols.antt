-- Which names are taken after some blocks: f as an input, and the constants of the blocks.
use Rattle.std.proofs.Common.{◌≡◌, ℕ, zero, suc, ◌<◌, ◌≤◌, true, false, ◌||◌, [], ◌∷◌, Some, None, refl, ap, ◌∙◌, arith}
use Rattle.std.specs.Prelude.{is_some}
use Rattle.std.specs.List.{list_any}
use Rattle.std.proofs.lemmas.List.Folds.{list_any-append}
use Rattle.hol_spec.specs.Symbols.{generic_type, is_input_constant, is_taken_constant}
use Rattle.hol_proof_laws.specs.SymbolGrowth.{generic_type-new, any-left}
use Rattle.article_trial_laws.specs.Trials.{f, constant_name, truths, definition_of, symbols_after}
use Rattle.article_trial_laws.specs.TrialNames.{names-apart}
use Rattle.hol_laws.specs.NameEqualityLaws.{name_eq-refl}

-- the constant of a later block is not defined
undefined : (i j : ℕ) → i < j → j ≤ 100000 → is_some (generic_type (symbols_after i) (constant_name j)) ≡ false
undefined i zero l h = absurd (omega arith)
undefined zero (suc j) l h = refl
undefined (suc i) (suc j) l h =
    ap is_some (generic_type-new (symbols_after i) (definition_of i ∷ []) (constant_name (suc j)) (undefined i (suc j) (omega (arith, l)) h))
    ∙ (rw (names-apart (suc i) (suc j) l h) refl)

-- and no input
no_input : (i j : ℕ) → i < j → list_any (is_input_constant (constant_name j)) (symbols_after i) ≡ false
no_input i zero l = absurd (omega arith)
no_input zero (suc j) l = refl
no_input (suc i) (suc j) l =
    list_any-append (is_input_constant (constant_name (suc j))) (symbols_after i) (definition_of i ∷ [])
    ∙ ap (λ b. b || false) (no_input i (suc j) (omega (arith, l)))

pub new_name : (i : ℕ) → suc i ≤ 100000 → is_taken_constant (symbols_after i) (constant_name (suc i)) ≡ false
new_name i h =
    ap (λ b. b || list_any (is_input_constant (constant_name (suc i))) (symbols_after i)) (undefined i (suc i) (omega arith) h)
    ∙ no_input i (suc i) (omega arith)

-- the constant of a block has its type from then on
pub type_of_constant : (i : ℕ) → suc i ≤ 100000 → generic_type (symbols_after (suc i)) (constant_name (suc i)) ≡ Some truths
type_of_constant i h =
    generic_type-new (symbols_after i) (definition_of i ∷ []) (constant_name (suc i)) (undefined i (suc i) (omega arith) h)
    ∙ (rw (name_eq-refl (constant_name (suc i))) refl)

-- f stays an input
pub f-undefined : (i : ℕ) → generic_type (symbols_after i) f ≡ None
f-undefined zero = refl
f-undefined (suc i) = generic_type-new (symbols_after i) (definition_of i ∷ []) f (ap is_some (f-undefined i))

pub f-input : (i : ℕ) → list_any (is_input_constant f) (symbols_after i) ≡ true
f-input zero = refl
f-input (suc i) = any-left (is_input_constant f) (symbols_after i) (definition_of i ∷ []) (f-input i)
