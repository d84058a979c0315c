-- A name by the test whether it has one component.
use Rattle.std.proofs.Common.{◌≡◌, ℕ, zero, suc, Bool, true, false, List, codes, ap, sym, refl, ◌∙◌}
use Rattle.std.specs.Prelude.{IsTrue, ◌↔◌, if◌then◌else◌}
use Rattle.std.specs.Bool.{Decides}
use Rattle.hol_spec.specs.Names.{Name}
use Rattle.hol_spec.specs.NameEquality.{name_eq}
use Rattle.hol_spec.specs.ClosedForm as form
use Rattle.hol_spec.specs.Primitives.{arrow_name, equality_name}
use Rattle.hol_spec.specs.Mangling.{mangled}
use Rattle.hol_laws.specs.NameEqualityLaws.{name_eq-Decides}
use Rattle.sequent.specs.Closed.{firsts, closed_types_of, no_type}
use Rattle.decode_spec.specs.ClosedText.{name_text, is_function}

-- a test of a name that fails, or holds
pub differs : (b : Bool) (n m : Name) → (IsTrue b ↔ (n ≡ m)) → b ≡ false → name_eq n m ≡ false
differs b n m t e = go (name_eq n m) (name_eq-Decides n m)
  where
    go : (c : Bool) → Decides c (n ≡ m) → c ≡ false
    go true d = absurd (let yes : b ≡ true = t.1 (d.0 refl) in cc)
    go false d = refl

pub equals : (b : Bool) (n m : Name) → (IsTrue b ↔ (n ≡ m)) → b ≡ true → name_eq n m ≡ true
equals b n m t e = go (name_eq n m) (name_eq-Decides n m)
  where
    go : (c : Bool) → Decides c (n ≡ m) → c ≡ true
    go true d = refl
    go false d = absurd (let no : false ≡ true = d.1 (t.0 e) in cc)

pub name_text-other : (n : Name) → name_eq n equality_name ≡ false → name_text n ≡ mangled n
name_text-other n e = ap (λ b. if b then codes "=" else mangled n) e

pub name_text-equality : (n : Name) → name_eq n equality_name ≡ true → name_text n ≡ codes "="
name_text-equality n e = ap (λ b. if b then codes "=" else mangled n) e

-- the test whether an operator makes the type of functions, by how many arguments it has
pub is_function-two : (b : Bool) (n : Name) (k : ℕ) (ts : List form.ClosedType) → k ≡ 2 → (IsTrue b ↔ (n ≡ arrow_name)) → b
    ≡ is_function n (closed_types_of (firsts no_type k ts))
is_function-two b n k ts e t = same b refl ∙ ap (λ j. is_function n (closed_types_of (firsts no_type j ts))) (sym e)
  where
    same : (c : Bool) → b ≡ c → b ≡ name_eq n arrow_name
    same true f = f ∙ sym (equals b n arrow_name t f)
    same false f = f ∙ sym (differs b n arrow_name t f)

pub is_function-other : (n : Name) (k : ℕ) (ts : List form.ClosedType) → (k ≡ 2 → ⊥) → is_function n (closed_types_of (firsts no_type k ts)) ≡ false
is_function-other n zero ts e = refl
is_function-other n (suc zero) ts e = refl
is_function-other n (suc (suc zero)) ts e = absurd (e refl)
is_function-other n (suc (suc (suc k))) ts e = refl
