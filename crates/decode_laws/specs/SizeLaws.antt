-- A tree that stands for a type or a term has fewer than twice its nodes.
use Rattle.std.proofs.Common.{◌≡◌, ℕ, zero, suc, ◌+◌, ◌*◌, ◌≤◌, List, [], ◌∷◌, ◌++◌, length, Bool, true, false, cond, refl, sym, ap, ◌∙◌, arith}
use Rattle.std.specs.Prelude.{nat_eq}
use Rattle.hol_spec.specs.Names.{Name}
use Rattle.hol_spec.specs.Lists.{union, distinct, is_in}
use Rattle.hol_spec.specs.Limits.{type_size, types_size, term_size}
use Rattle.hol_spec.specs.ClosedForm.{ClosedType, ClosedTypes, ClosedTerm}
use Rattle.lp_spec.specs.Trees.{Tree, Sym, App, size}
use Rattle.lp_spec.specs.Modules.{Declaration, applied}
use Rattle.translate_spec.specs.TypeEnc.{Place, inside, StandsForType, StandForTypes}
use Rattle.translate_spec.specs.ConstantMeaning.{MeansConstant, HasGenericType, argument, instance_of, instances_of, parameter_places, parameter_places_of_all, numbers}
use Rattle.translate_spec.specs.ConstantMeaning as constants
use Rattle.translate_spec.specs.Enc.{StandsForConstant, StandsForTerm}
use Rattle.decode_spec.specs.Opened.{open_type, open_types, open_term}

-- the sum of a measure
abbrev pub summed : {A : Type 0} → (A → ℕ) → List A → ℕ
summed f [] = 0
summed f (x ∷ xs) = f x + summed f xs

pub summed-append : {A : Type 0} (f : A → ℕ) (xs ys : List A) → summed f (xs ++ ys) ≡ summed f xs + summed f ys
summed-append f [] ys = omega arith
summed-append f (x ∷ xs) ys = omega (arith, summed-append f xs ys)

pub summed-union : {A : Type 0} (same : A → A → Bool) (f : A → ℕ) (ys xs : List A) → summed f (union same xs ys) ≤ summed f xs + summed f ys
summed-union same f [] xs = omega arith
summed-union same f (y ∷ ys) xs = go (is_in same y xs) (summed-union same f ys (cond (is_in same y xs) xs (xs ++ y ∷ [])))
  where
    go : (b : Bool) → summed f (union same (cond b xs (xs ++ y ∷ [])) ys) ≤ summed f (cond b xs (xs ++ y ∷ [])) + summed f ys
        → summed f (union same (cond b xs (xs ++ y ∷ [])) ys) ≤ summed f xs + (f y + summed f ys)
    go true l = omega (arith, l)
    go false l = omega (arith, l, summed-append f xs (y ∷ []))

pub summed-distinct : {A : Type 0} (same : A → A → Bool) (f : A → ℕ) (xs : List A) → summed f (distinct same xs) ≤ summed f xs
summed-distinct same f xs = omega (arith, summed-union same f xs [])

module _ (named : ℕ → Name) where
  abbrev own_size : ClosedType → ℕ
  own_size t = type_size (open_type named t)

  abbrev sizes : ClosedTypes → ℕ
  sizes ts = types_size (open_types named ts)

  size-positive : (t : ClosedType) → 1 ≤ own_size t
  size-positive (ClosedType.parameter i) = omega arith
  size-positive (ClosedType.operator n ts) = omega arith

  mutual
    -- each argument stands in the instance wherever its variable does
    instance-size : (ts : ClosedTypes) (g : ClosedType) → summed (λ i. own_size (argument ts i)) (parameter_places g) ≤ own_size (instance_of ts g)
    instance-size ts (ClosedType.parameter i) = omega arith
    instance-size ts (ClosedType.operator n us) = omega (arith, instances-size ts us)

    instances-size : (ts us : ClosedTypes) → summed (λ i. own_size (argument ts i)) (parameter_places_of_all us) ≤ sizes (instances_of ts us)
    instances-size ts ClosedTypes.none = omega arith
    instances-size ts (ClosedTypes.more u us) =
        omega (arith, instance-size ts u, instances-size ts us, summed-append (λ i. own_size (argument ts i)) (parameter_places u) (parameter_places_of_all us))

  mutual
    -- an instance is at least as large as the generic type
    pub generic-size : (ts : ClosedTypes) (g : ClosedType) → own_size g ≤ own_size (instance_of ts g)
    generic-size ts (ClosedType.parameter i) = omega (arith, size-positive (argument ts i))
    generic-size ts (ClosedType.operator n us) = omega (arith, generics-size ts us)

    generics-size : (ts us : ClosedTypes) → sizes us ≤ sizes (instances_of ts us)
    generics-size ts ClosedTypes.none = omega arith
    generics-size ts (ClosedTypes.more u us) = omega (arith, generic-size ts u, generics-size ts us)

  summed-shifted : (t : ClosedType) (ts : ClosedTypes) (i k : ℕ) → summed (λ j. own_size (argument (ClosedTypes.more t ts) j)) (numbers (suc i) k)
      ≡ summed (λ j. own_size (argument ts j)) (numbers i k)
  summed-shifted t ts i zero = refl
  summed-shifted t ts i (suc k) = ap (λ n. own_size (argument ts i) + n) (summed-shifted t ts (suc i) k)

  -- a list of as many arguments
  abbrev count_of : ClosedTypes → ℕ
  count_of ClosedTypes.none = 0
  count_of (ClosedTypes.more t ts) = suc (count_of ts)

  sizes-summed : (ts : ClosedTypes) → sizes ts ≡ summed (λ i. own_size (argument ts i)) (numbers 0 (count_of ts))
  sizes-summed ClosedTypes.none = refl
  sizes-summed (ClosedTypes.more t ts) = ap (λ n. own_size t + n) (sizes-summed ts ∙ sym (summed-shifted t ts 0 (count_of ts)))

  -- the arguments of a generic type are no larger together than the instance
  arguments-size : (ts : ClosedTypes) (g : ClosedType) → distinct nat_eq (parameter_places g) ≡ numbers 0 (count_of ts) → sizes ts ≤ own_size (instance_of ts g)
  arguments-size ts g e =
      let f : ℕ → ℕ = λ i. own_size (argument ts i) in
      let a : sizes ts ≡ summed f (distinct nat_eq (parameter_places g)) = sizes-summed ts ∙ ap (summed f) (sym e) in
      omega (arith, a, summed-distinct nat_eq f (parameter_places g), instance-size ts g)

  module _ (d : List Declaration) where
    -- a constant's generic type has its variables in order
    pub means-in_order : (s : ℕ) (n : Name) (k : ℕ) (g : ClosedType) → MeansConstant d s n k g → distinct nat_eq (parameter_places g) ≡ numbers 0 k
    means-in_order s n k g (constants.MeansConstant.equality e) = refl
    means-in_order s n k g (constants.MeansConstant.choice e) = refl
    means-in_order s n k g (constants.MeansConstant.input h e) = refl
    means-in_order s n k g (constants.MeansConstant.defined h e) = e.in_order

    mutual
      pub type-size : (t : ClosedType) (at : Place) (A : Tree) → StandsForType d t at A → size A + 1 ≤ 2 * own_size t
      type-size (ClosedType.parameter i) at A h = let e : size A ≡ 1 = ap size h.1 in omega (arith, e)
      type-size (ClosedType.operator n ts) at A h = let e : size A ≡ size (applied (Sym h.0) h.1) =
          ap size h.4 in omega (arith, e, applied-size ts at h.1 (Sym h.0) h.3)

      applied-size : (ts : ClosedTypes) (at : Place) (As : List Tree) (f : Tree) → StandForTypes d ts at As → size (applied f As) ≤ size f + 2 * sizes ts
      applied-size ClosedTypes.none at [] f h = omega arith
      applied-size ClosedTypes.none at (A ∷ As) f h = absurd h
      applied-size (ClosedTypes.more t ts) at [] f h = absurd h
      applied-size (ClosedTypes.more t ts) at (A ∷ As) f h = omega (arith, type-size t at A h.0, applied-size ts at As (App f A) h.1)

    count-stand : (ts : ClosedTypes) (at : Place) (As : List Tree) → StandForTypes d ts at As → count_of ts ≡ length As
    count-stand ClosedTypes.none at [] h = refl
    count-stand ClosedTypes.none at (A ∷ As) h = absurd h
    count-stand (ClosedTypes.more t ts) at [] h = absurd h
    count-stand (ClosedTypes.more t ts) at (A ∷ As) h = ap suc (count-stand ts at As h.1)

    constant-size : (n : Name) (t : ClosedType) (at : Place) (A : Tree) → StandsForConstant d n t at A → size A + 1 ≤ 2 * (1 + own_size t)
    constant-size n t at A h =
        let e : size A ≡ size (applied (Sym h.symbol) h.args) = ap size h.tree in
        let k : distinct nat_eq (parameter_places h.generic) ≡ numbers 0 (count_of h.arguments) =
        means-in_order h.symbol n (length h.args) h.generic h.means ∙ ap (numbers 0) (sym (count-stand h.arguments at h.args h.args_stand)) in
        let m : own_size t ≡ own_size (instance_of h.arguments h.generic) = ap own_size h.is_instance in
        omega (arith, e, m, applied-size h.arguments at h.args (Sym h.symbol) h.args_stand, arguments-size h.arguments h.generic k)

    -- a tree that stands for a term has fewer than twice the term's nodes
    pub term-size : (types : List ClosedType) (c : ClosedTerm) (at : Place) (A : Tree) → StandsForTerm d c at A
        → size A + 1 ≤ 2 * term_size (open_term named types c)
    term-size types (ClosedTerm.parameter j) at A h = let e : size A ≡ 1 = ap size h.1 in omega (arith, e)
    term-size types (ClosedTerm.bound k) at A h = let e : size A ≡ 1 = ap size h.1 in omega (arith, e)
    term-size types (ClosedTerm.constant n t) at A h = constant-size n t at A h
    term-size types (ClosedTerm.app f x) at A h = let e : size A ≡ 1 + size h.0 + size h.1 =
        ap size h.4 in omega (arith, e, term-size types f at h.0 h.2, term-size types x at h.1 h.3)
    term-size types (ClosedTerm.lam t b) at A h = let e : size A ≡ 1 + (1 + 1 + size h.0) + size h.1 =
        ap size h.4 in omega (arith, e, type-size t at h.0 h.2, term-size types b (inside at) h.1 h.3)
