-- Where a name is found.
use Rattle.std.proofs.Common.{◌≡◌, ℕ, zero, suc, ◌<◌, refl, ap, Bool, true, false, List, [], ◌∷◌, ◌++◌, length, get_or, Option, None, Some, position, arith}
use Rattle.std.specs.Prelude.{option_map, if◌then◌else◌}
use Rattle.std.specs.List.{list_any}
use Rattle.std.specs.Str.{bytes_eq}
use Rattle.std.proofs.lemmas.Grind.{common_steps}
use Rattle.std.proofs.lemmas.List.Quantifiers.{position-Some}
use Rattle.lp_spec.specs.declared.form.Form.{Form}
use Rattle.lp_spec.specs.Trees.{SortType}
use Rattle.lp_spec.specs.Modules.{Declaration, signature, symbol}
use Rattle.lp_spec.specs.ModuleOrder.{is_declared}
use Rattle.lp_spec.specs.ReadingFaults as reading
use Rattle.holide_sig.specs.ModuleLaws.{symbol_number-None}
use Rattle.holide_sig.specs.Modules.{symbol_number}

pub not_any : (p : Declaration → Bool) (ds : List Declaration) (k : ℕ) (d : Declaration) → list_any p ds ≡ false → k < length ds → p (get_or ds k d) ≡ false
not_any p [] k d e h = absurd (omega arith)
not_any p (x ∷ ds) zero d e h = grind (arith, e)
not_any p (x ∷ ds) (suc k) d e h = not_any p ds k d (grind (arith, e)) (omega (arith, h))

found_any : (p : Declaration → Bool) (ds : List Declaration) (k : ℕ) (d : Declaration) → k < length ds → p (get_or ds k d) ≡ true → (b : Bool) → list_any p ds
    ≡ b → b ≡ true
found_any p ds k d h e true f = refl
found_any p ds k d h e false f = absurd (cc (not_any p ds k d f h, e))

pub declared : (m : List Declaration) (name : List ℕ) (s : ℕ) → symbol_number m name ≡ Some s → is_declared (signature ++ m) name ≡ true
declared m name s e =
    let none = symbol [] SortType in
    let t = position-Some (λ d. bytes_eq d.name name) (signature ++ m) s none e in
    found_any (λ d. bytes_eq d.name name) (signature ++ m) s none t.0 t.1 (list_any (λ d. bytes_eq d.name name) (signature ++ m)) refl

-- a name that is a symbol already, and one that is new
pub name_twice : (m : List Declaration) (form : Form) (p : ℕ) (name : List ℕ) (s : ℕ) → symbol_number m name ≡ Some s → reading.names m form p name
    ≡ reading.stops p (reading.NameTwice name)
name_twice m form p name s e = ap (λ b. if b then reading.stops p (reading.NameTwice name) else reading.Goes m (reading.AfterName form name))
    (declared m name s e)

pub name_new : (m : List Declaration) (form : Form) (p : ℕ) (name : List ℕ) → symbol_number m name ≡ None → reading.names m form p name
    ≡ reading.Goes m (reading.AfterName form name)
name_new m form p name e = ap (λ b. if b then reading.stops p (reading.NameTwice name) else reading.Goes m (reading.AfterName form name))
    (symbol_number-None m name e)

pub position_here : {X : Type 0} (p : X → Bool) (x : X) (xs : List X) → p x ≡ true → position p (x ∷ xs) ≡ Some 0
position_here p x xs e = grind (arith, common_steps)

pub position_later : {X : Type 0} (p : X → Bool) (x : X) (xs : List X) (o : Option ℕ) → p x ≡ false → position p xs ≡ o → position p (x ∷ xs) ≡ option_map suc o
position_later p x xs None e h = grind (arith, common_steps)
position_later p x xs (Some n) e h = grind (arith, common_steps)
