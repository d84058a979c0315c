-- Which names are symbols, by the declarations and by their names.
use Rattle.std.proofs.Common.{◌≡◌, ℕ, suc, ◌+◌, refl, sym, ap, ◌∙◌, Bool, true, false, List, [], ◌∷◌, ◌++◌, length, None, Some, position, arith}
use Rattle.std.specs.Prelude.{nat_lt, cond, ◌||◌, not}
use Rattle.std.specs.List.{list_any, position_or_len}
use Rattle.std.specs.Str.{bytes_eq}
use Rattle.std.proofs.lemmas.List.{map-append}
use Rattle.std.proofs.lemmas.Grind.{common_steps}
use Rattle.lp_spec.specs.Modules.{Declaration, signature}
use Rattle.lp_spec.specs.ModuleOrder.{is_declared}
use Rattle.lp_spec.specs.Reading.{symbol_of}
use Rattle.lp_spec.specs.Faults.{is_symbol}
use Rattle.dk_laws.specs.FaultContexts.{names_of}

any_name : (ds : List Declaration) (name : List ℕ) → is_declared ds name ≡ list_any (λ other. bytes_eq other name) (names_of ds)
any_name [] name = refl
any_name (d ∷ ds) name = ap (λ b. bytes_eq d.name name || b) (any_name ds name)

-- a name is declared where it is a symbol
pub is_declared-is_symbol : (m : List Declaration) (names : List (List ℕ)) (name : List ℕ) → names_of m ≡ names
    → is_declared (signature ++ m) name ≡ is_symbol names name
is_declared-is_symbol m names name h = any_name (signature ++ m) name ∙ ap (λ ns. list_any (λ other. bytes_eq other name) ns)
    (map-append (λ d. d.name) signature m ∙ ap (λ ns. names_of signature ++ ns) h)

any_step : (b c : Bool) (n l : ℕ) → c ≡ nat_lt n l → (b || c) ≡ nat_lt (cond (not b) (1 + n) 0) (suc l)
any_step true c n l h = grind (arith, common_steps)
any_step false true n l h = grind (arith, common_steps, h)
any_step false false n l h = grind (arith, common_steps, h)

-- a test passes somewhere where its first place is in the list
any_position : {X : Type 0} (p : X → Bool) (xs : List X) → list_any p xs ≡ nat_lt (position_or_len p xs) (length xs)
any_position p [] = refl
any_position p (x ∷ xs) = any_step (p x) (list_any p xs) (position_or_len p xs) (length xs) (any_position p xs)

position-cond : {X : Type 0} (p : X → Bool) (xs : List X) → position p xs ≡ cond (list_any p xs) (Some (position_or_len p xs)) None
position-cond p xs = ap (λ b. cond b (Some (position_or_len p xs)) None) (sym (any_position p xs))

cond-None : (b : Bool) (n : ℕ) → cond b (Some n) None ≡ None → b ≡ false
cond-None true n h = absurd (cc)
cond-None false n h = refl

-- a name is no symbol's where none is declared so
pub is_symbol-symbol_of : (m : List Declaration) (names : List (List ℕ)) (name : List ℕ) → names_of m ≡ names → is_symbol names name ≡ false
    → symbol_of m name ≡ None
is_symbol-symbol_of m names name h k =
    position-cond (λ d. bytes_eq d.name name) (signature ++ m)
    ∙ ap (λ b. cond b (Some (position_or_len (λ d. bytes_eq d.name name) (signature ++ m))) None) (is_declared-is_symbol m names name h ∙ k)

pub symbol_of-is_symbol : (m : List Declaration) (names : List (List ℕ)) (name : List ℕ) → names_of m ≡ names → symbol_of m name ≡ None
    → is_symbol names name ≡ false
symbol_of-is_symbol m names name h k =
    sym (is_declared-is_symbol m names name h)
    ∙ cond-None (is_declared (signature ++ m) name) (position_or_len (λ d. bytes_eq d.name name) (signature ++ m))
    (sym (position-cond (λ d. bytes_eq d.name name) (signature ++ m)) ∙ k)
