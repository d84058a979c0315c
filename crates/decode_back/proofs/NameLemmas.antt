-- The names of parameters are apart.
use Rattle.std.proofs.Common.{◌≡◌, ℕ, zero, suc, ◌+◌, ◌*◌, List, [], ◌∷◌, map, length, Bool, false, refl, sym, ap, subst, ◌∙◌, arith}
use Rattle.std.specs.Bool.{Decides}
use Rattle.hol_spec.specs.Names.{Name}
use Rattle.hol_spec.specs.NameEquality.{name_eq}
use Rattle.hol_laws.specs.NameEqualityLaws.{name_eq-Decides}
use Rattle.hol_laws.specs.TypeLaws.{both-Decides}
use Rattle.translate_spec.specs.ConstantMeaning.{numbers}
use Rattle.std.specs.Prelude.{◌/◌, ◌%◌}
use Rattle.decode_spec.specs.Opened.{AreApart}
use Rattle.decode_back.specs.Walks.{parameter_name, numbered_from}

-- a number is made of its three digits
digits : (i : ℕ) → i ≡ 65536 * (i / 65536) + (256 * (i / 256 % 256) + i % 256)
digits i = omega arith

pub parameter_name-apart : AreApart parameter_name
parameter_name-apart i j e =
    let a : i % 256 ≡ j % 256 = cc in
    let b : i / 256 % 256 ≡ j / 256 % 256 = cc in
    let c : i / 65536 ≡ j / 65536 = cc in
    omega (arith, digits i, digits j, a, b, c)

-- names that are those of the parameters in order are numbered so
numbered-Decides : (names : List Name) (i : ℕ) → Decides (numbered_from i names) (names ≡ map parameter_name (numbers i (length names)))
numbered-Decides [] i = (λ h. refl, λ h. refl)
numbered-Decides (n ∷ ns) i =
    both-Decides (name_eq n (parameter_name i)) (numbered_from (suc i) ns) (name_eq-Decides n (parameter_name i)) (numbered-Decides ns (suc i))
    (λ p q. λ j. p j ∷ q j) (λ h. (cc, cc))

pub numbered-told : (names : List Name) (count : ℕ) (told : Bool) → length names ≡ count → told ≡ numbered_from 0 names
    → Decides told (names ≡ map parameter_name (numbers 0 count))
numbered-told names count told e f =
    subst (λ b. Decides b (names ≡ map parameter_name (numbers 0 count))) (sym f)
    (subst (λ k. Decides (numbered_from 0 names) (names ≡ map parameter_name (numbers 0 k))) e (numbered-Decides names 0))

length-numbers : (i k : ℕ) → length (map parameter_name (numbers i k)) ≡ k
length-numbers i zero = refl
length-numbers i (suc k) = ap suc (length-numbers (suc i) k)

pub other-count : (names : List Name) (count : ℕ) → (length names ≡ count → ⊥) → Decides false (names ≡ map parameter_name (numbers 0 count))
other-count names count h = (λ e. absurd (cc), λ e. absurd (h (ap length e ∙ length-numbers 0 count)))
