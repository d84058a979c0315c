-- The names of a run's items: what they are, that no two are one, and that none is a name of the signature or of the lemmas.
use Rattle.std.proofs.Common.{◌≡◌, ℕ, zero, suc, ◌+◌, ◌≤◌, ◌⊎◌, inl, inr, List, [], ◌∷◌, ◌++◌, Bool, true, false, ◌&&◌, ◌||◌, cond, Some, slice_get, refl, sym, ap, subst, ◌∙◌, arith}
use Rattle.std.specs.Prelude.{nat_eq, nat_le, codes}
use Rattle.std.specs.Cmp.{unsigned_Decides}
use Rattle.std.specs.List.{AllByRecursion, list_all, position_or_len}
use Rattle.article_spec.specs.SoundRuns.{assumed_from}
use Rattle.hol_spec.specs.Mangling.{IsName}
use Rattle.hol_spec.specs.Definitions.{Definition}
use Rattle.hol_spec.specs.Derivations.{infers}
use Rattle.hol_spec.specs.Symbols.{Symbol}
use Rattle.hol_spec.specs.declared.StepKind.{StepKind}
use Rattle.hol_spec.specs.declared.StepKind.TheVariants as kinds
use Rattle.hol_spec.specs.Proofs.{Step, symbols_of, Accepted}
use Rattle.translate_spec.specs.Rows.{has_row}
use Rattle.translate_spec.specs.Image.{is_one_of, place_among, unexported_name, step_name}
use Rattle.lp_spec.specs.Numerals.{numeral, is_decimal_digit}
use Rattle.translate_laws.specs.NumeralLaws.{numeral-injective, numeral-digits}
use Rattle.std.proofs.lemmas.Option.{same_Some}
use Rattle.hol_laws.specs.PositionLaws.{position-cons}

-- the names of a symbol are of bytes
abbrev pub SymbolHasName : Symbol → Type 0
SymbolHasName (Symbol.input_constant n) = IsName n
SymbolHasName (Symbol.input_operator n k) = IsName n
SymbolHasName (Symbol.defined (Definition.constant n t)) = IsName n
SymbolHasName (Symbol.defined (Definition.type_operator names c f)) = IsName names.operator × IsName names.abstraction × IsName names.representation

-- a run whose names are of bytes
pub record HasNames (run : Accepted) : Type 0 where
  pub symbols : AllByRecursion SymbolHasName (symbols_of run.made)

-- the first two bytes of a name
abbrev pub first_byte : List ℕ → ℕ
first_byte [] = 0
first_byte (b ∷ bs) = b

abbrev pub second_byte : List ℕ → ℕ
second_byte [] = 0
second_byte (b ∷ bs) = first_byte bs

-- at the place of a number in a list stands that number
pub at-place : (i : ℕ) (is : List ℕ) → is_one_of i is ≡ true → slice_get is (position_or_len (nat_eq i) is) ≡ Some i
at-place i [] e = absurd (cc)
at-place i (j ∷ is) e = go (nat_eq i j) refl (unsigned_Decides i j).0 e (at-place i is)
  where
    go : (b : Bool) → nat_eq i j ≡ b → (nat_eq i j ≡ true → i ≡ j) → (b || is_one_of i is) ≡ true
        → (is_one_of i is ≡ true → slice_get is (position_or_len (nat_eq i) is) ≡ Some i)
        → slice_get (j ∷ is) (position_or_len (nat_eq i) (j ∷ is)) ≡ Some i
    go true is_it f e rest = ap (slice_get (j ∷ is)) (position-cons (nat_eq i) j is true is_it) ∙ ap Some (sym (f is_it))
    go false is_it f e rest = ap (slice_get (j ∷ is)) (position-cons (nat_eq i) j is false is_it) ∙ rest e

-- members at one place are one
same-place : (i j : ℕ) (is : List ℕ) → is_one_of i is ≡ true → is_one_of j is ≡ true → position_or_len (nat_eq i) is ≡ position_or_len (nat_eq j) is → i ≡ j
same-place i j is e f p = same_Some _ _ (sym (at-place i is e) ∙ ap (slice_get is) p ∙ at-place j is f)

pub self-one : (k : ℕ) (is : List ℕ) → is_one_of k (k ∷ is) ≡ true
self-one k is = ap (λ b. b || is_one_of k is) ((unsigned_Decides k k).1 refl)

more-one : (i k : ℕ) (is : List ℕ) → is_one_of i is ≡ true → is_one_of i (k ∷ is) ≡ true
more-one i k is e = go (nat_eq i k) e
  where
    go : (b : Bool) → is_one_of i is ≡ true → (b || is_one_of i is) ≡ true
    go true e = refl
    go false e = e

-- a step that infers nothing is an assumption
pub is-assumed : (k : ℕ) (xs : List Step) (i : ℕ) (x : Step) → slice_get xs i ≡ Some x → infers x.kind ≡ false → is_one_of (k + i) (assumed_from k xs) ≡ true
is-assumed k [] i x at idle = absurd (cc)
is-assumed k (y ∷ xs) zero x at idle =
    let z : k ≡ k + 0 = omega arith in
    let same : y ≡ x = same_Some _ _ at in
    let other : infers y.kind ≡ false = ap (λ (s : Step). infers s.kind) same ∙ idle in
    subst (λ j. is_one_of j (assumed_from k (y ∷ xs)) ≡ true) z
    (ap (λ b. is_one_of k (cond b (assumed_from (k + 1) xs) (k ∷ assumed_from (k + 1) xs))) other ∙ self-one k (assumed_from (k + 1) xs))
is-assumed k (y ∷ xs) (suc i) x at idle =
    let z : k + 1 + i ≡ k + suc i = omega arith in go (infers y.kind)
    (subst (λ j. is_one_of j (assumed_from (k + 1) xs) ≡ true) z (is-assumed (k + 1) xs i x at idle))
  where
    go : (b : Bool) → is_one_of (k + suc i) (assumed_from (k + 1) xs) ≡ true
        → is_one_of (k + suc i) (cond b (assumed_from (k + 1) xs) (k ∷ assumed_from (k + 1) xs)) ≡ true
    go true rest = rest
    go false rest = more-one (k + suc i) k (assumed_from (k + 1) xs) rest

-- The name of a step: `E` and its place among the exports, `A` and its place among the assumptions, or `L` or `T` and its number
pub data IsStepName (run : Accepted) (i : ℕ) (kind : StepKind) (name : List ℕ) : Type 0 where
  an_export : is_one_of i run.exports ≡ true → name ≡ codes "E" ++ numeral (position_or_len (nat_eq i) run.exports) → IsStepName run i kind name
  an_assumption : is_one_of i run.exports ≡ false → is_one_of i run.assumptions ≡ true → kind ≡ kinds.Axiom
      → name ≡ codes "A" ++ numeral (position_or_len (nat_eq i) run.assumptions) → IsStepName run i kind name
  a_law : is_one_of i run.exports ≡ false → (kind ≡ kinds.FirstLaw) ⊎ (kind ≡ kinds.SecondLaw) → name ≡ codes "L" ++ numeral i → IsStepName run i kind name
  a_theorem : is_one_of i run.exports ≡ false → has_row kind ≡ true → name ≡ codes "T" ++ numeral i → IsStepName run i kind name

module _ (run : Accepted) (i : ℕ) where
  unexported : (kind : StepKind) → (infers kind ≡ false → is_one_of i run.assumptions ≡ true) → is_one_of i run.exports ≡ false
      → IsStepName run i kind (unexported_name run.assumptions i kind)
  unexported kinds.Axiom f out = IsStepName.an_assumption out (f refl) refl refl
  unexported kinds.FirstLaw f out = IsStepName.a_law out (inl refl) refl
  unexported kinds.SecondLaw f out = IsStepName.a_law out (inr refl) refl
  unexported kinds.Refl f out = IsStepName.a_theorem out refl refl
  unexported kinds.Assume f out = IsStepName.a_theorem out refl refl
  unexported kinds.EqMp f out = IsStepName.a_theorem out refl refl
  unexported kinds.AbsThm f out = IsStepName.a_theorem out refl refl
  unexported kinds.AppThm f out = IsStepName.a_theorem out refl refl
  unexported kinds.DeductAntisym f out = IsStepName.a_theorem out refl refl
  unexported kinds.BetaConv f out = IsStepName.a_theorem out refl refl
  unexported kinds.Sym f out = IsStepName.a_theorem out refl refl
  unexported kinds.Trans f out = IsStepName.a_theorem out refl refl
  unexported kinds.ProveHyp f out = IsStepName.a_theorem out refl refl
  unexported kinds.Subst f out = IsStepName.a_theorem out refl refl
  unexported kinds.Restate f out = IsStepName.a_theorem out refl refl
  unexported kinds.DefineConst f out = IsStepName.a_theorem out refl refl
  unexported kinds.DefineConstList f out = IsStepName.a_theorem out refl refl

  pub step_name-is : (kind : StepKind) → (infers kind ≡ false → is_one_of i run.assumptions ≡ true) → IsStepName run i kind (step_name run i kind)
  step_name-is kind f = go (is_one_of i run.exports) refl
    where
      go : (b : Bool) → is_one_of i run.exports ≡ b
          → IsStepName run i kind (cond b (codes "E" ++ place_among i run.exports) (unexported_name run.assumptions i kind))
      go true e = IsStepName.an_export e refl
      go false e = unexported kind f e

other_byte : (a b : ℕ) (r s name : List ℕ) → (nat_eq a b ≡ false) → name ≡ a ∷ r → name ≡ b ∷ s → ⊥
other_byte a b r s name h e f =
    let same : a ≡ b = sym (ap first_byte e) ∙ ap first_byte f in
    let yes = (unsigned_Decides a b).1 same in
    absurd (cc)

pub one_byte : (a : ℕ) (r s name : List ℕ) → name ≡ a ∷ r → name ≡ a ∷ s → r ≡ s
one_byte a r s name e f = let g : a ∷ r ≡ a ∷ s = sym e ∙ f in cc

-- No two steps have one name
pub same-step : (run : Accepted) (i j : ℕ) (k l : StepKind) (name : List ℕ) → IsStepName run i k name → IsStepName run j l name → i ≡ j
same-step run i j k l name (IsStepName.an_export e n) (IsStepName.an_export f m) =
    same-place i j run.exports e f (numeral-injective _ _ (one_byte 69 _ _ name n m))
same-step run i j k l name (IsStepName.an_export e n) (IsStepName.an_assumption f g x m) = absurd (other_byte 69 65 _ _ name refl n m)
same-step run i j k l name (IsStepName.an_export e n) (IsStepName.a_law f x m) = absurd (other_byte 69 76 _ _ name refl n m)
same-step run i j k l name (IsStepName.an_export e n) (IsStepName.a_theorem f x m) = absurd (other_byte 69 84 _ _ name refl n m)
same-step run i j k l name (IsStepName.an_assumption d e y n) (IsStepName.an_assumption f g x m) =
    same-place i j run.assumptions e g (numeral-injective _ _ (one_byte 65 _ _ name n m))
same-step run i j k l name (IsStepName.an_assumption d e y n) (IsStepName.an_export f m) = absurd (other_byte 65 69 _ _ name refl n m)
same-step run i j k l name (IsStepName.an_assumption d e y n) (IsStepName.a_law f x m) = absurd (other_byte 65 76 _ _ name refl n m)
same-step run i j k l name (IsStepName.an_assumption d e y n) (IsStepName.a_theorem f x m) = absurd (other_byte 65 84 _ _ name refl n m)
same-step run i j k l name (IsStepName.a_law e y n) (IsStepName.a_law f x m) = numeral-injective i j (one_byte 76 _ _ name n m)
same-step run i j k l name (IsStepName.a_law e y n) (IsStepName.an_export f m) = absurd (other_byte 76 69 _ _ name refl n m)
same-step run i j k l name (IsStepName.a_law e y n) (IsStepName.an_assumption f g x m) = absurd (other_byte 76 65 _ _ name refl n m)
same-step run i j k l name (IsStepName.a_law e y n) (IsStepName.a_theorem f x m) = absurd (other_byte 76 84 _ _ name refl n m)
same-step run i j k l name (IsStepName.a_theorem e y n) (IsStepName.a_theorem f x m) = numeral-injective i j (one_byte 84 _ _ name n m)
same-step run i j k l name (IsStepName.a_theorem e y n) (IsStepName.an_export f m) = absurd (other_byte 84 69 _ _ name refl n m)
same-step run i j k l name (IsStepName.a_theorem e y n) (IsStepName.an_assumption f g x m) = absurd (other_byte 84 65 _ _ name refl n m)
same-step run i j k l name (IsStepName.a_theorem e y n) (IsStepName.a_law f x m) = absurd (other_byte 84 76 _ _ name refl n m)

-- digits begin with one
pub first_digit-low : (ds : List ℕ) → list_all is_decimal_digit ds ≡ true → first_byte ds ≤ 57
first_digit-low [] h = omega arith
first_digit-low (d ∷ ds) h = go (nat_le 48 d) (nat_le d 57) refl (list_all is_decimal_digit ds) h
  where
    go : (a b : Bool) → nat_le d 57 ≡ b → (c : Bool) → ((a && b) && c) ≡ true → d ≤ 57
    go a true e c h = grind (arith, e)
    go true false e c h = absurd (cc)
    go false false e c h = absurd (cc)

numeral-low : (n : ℕ) → first_byte (numeral n) ≤ 57
numeral-low n = first_digit-low (numeral n) (numeral-digits n)

-- the second byte of a step's name is a digit; of the first only `E` begins the name of an export
pub step_name-low : (run : Accepted) (i : ℕ) (k : StepKind) (name : List ℕ) → IsStepName run i k name → (first_byte name ≤ 84) × (second_byte name ≤ 57)
step_name-low run i k name (IsStepName.an_export e n) = let p = ap first_byte n in let q = ap second_byte n in let r =
    numeral-low (position_or_len (nat_eq i) run.exports) in (omega (arith, p), omega (arith, q, r))
step_name-low run i k name (IsStepName.an_assumption d e y n) = let p = ap first_byte n in let q = ap second_byte n in let r =
    numeral-low (position_or_len (nat_eq i) run.assumptions) in (omega (arith, p), omega (arith, q, r))
step_name-low run i k name (IsStepName.a_law e y n) = let p = ap first_byte n in let q = ap second_byte n in let r =
    numeral-low i in (omega (arith, p), omega (arith, q, r))
step_name-low run i k name (IsStepName.a_theorem e y n) = let p = ap first_byte n in let q = ap second_byte n in let r =
    numeral-low i in (omega (arith, p), omega (arith, q, r))
