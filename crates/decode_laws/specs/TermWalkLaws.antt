-- What a walk along the arguments of a term may leave out: where what was read so far can go on to nothing within the limits, the whole is nothing.
use Rattle.std.proofs.Common.{◌≡◌, ◌⊎◌, inl, inr, ℕ, zero, suc, ◌+◌, ◌<◌, ◌≤◌, List, [], ◌∷◌, ◌++◌, length, Option, Some, None, refl, sym, ap, subst, ◌∙◌, arith}
use Rattle.std.specs.Prelude.{nat_eq}
use Rattle.std.proofs.lemmas.Bool.Decides.{Decides-eqb}
use Rattle.std.proofs.lemmas.List.{length-append}
use Rattle.hol_spec.specs.Names.{Name}
use Rattle.hol_spec.specs.Lists.{IsIn}
use Rattle.hol_spec.specs.Types.{count}
use Rattle.hol_spec.specs.Limits.{type_size, types_size, type_depth, types_depth, term_size, term_depth}
use Rattle.hol_spec.specs.ClosedForm.{ClosedType, ClosedTypes, ClosedTerm}
use Rattle.hol_laws.specs.Members.{IsIn-either, IsIn-distinct_of}
use Rattle.lp_spec.specs.Trees.{Tree, Sym, App}
use Rattle.lp_spec.specs.Modules.{Declaration, applied}
use Rattle.translate_spec.specs.TypeEnc.{Place, StandsForType, StandForTypes}
use Rattle.translate_spec.specs.ConstantMeaning.{argument, instance_of, instances_of, parameter_places, parameter_places_of_all, numbers}
use Rattle.translate_spec.specs.Enc.{StandsForTerm}
use Rattle.decode_spec.specs.Options.{bind, both, provided}
use Rattle.decode_laws.specs.OptionLaws.{some-injective, bind-is, both-is, or_else-is, provided-is, provided-true}
use Rattle.decode_spec.specs.Opened.{open_type, open_types, open_term}
use Rattle.decode_spec.specs.Decode.{closed_count, type_of_tree, Constant, constant_at, constant_from, term_from}
use Rattle.decode_laws.specs.TypeLaws.{joined, joined-none, count-stand, type_of_tree-is, type_of_tree-stands}
use Rattle.decode_laws.specs.ConstantLaws.{constant_at-is}
use Rattle.decode_laws.specs.TermLaws.{head_of, argument_count, constants-stand, constant_from-applied, enough_arguments, term_from-is, term_from-constant}
use Rattle.decode_laws.specs.SizeLaws.{generic-size, means-in_order}
use Rattle.decode_laws.specs.WalkLaws.{NoType, depth-positive}

-- An argument of a constant stands in its instance.
module _ (named : ℕ → Name) where
  mutual
    argument-size : (ts : ClosedTypes) (g : ClosedType) (i : ℕ) → IsIn (parameter_places g) i
        → type_size (open_type named (argument ts i)) ≤ type_size (open_type named (instance_of ts g))
    argument-size ts (ClosedType.parameter j) i (inl e) = let f : type_size (open_type named (argument ts i)) ≡ type_size (open_type named (argument ts j)) =
        ap (λ k. type_size (open_type named (argument ts k))) e in omega (arith, f)
    argument-size ts (ClosedType.parameter j) i (inr h) = absurd h
    argument-size ts (ClosedType.operator n us) i h = omega (arith, arguments-size ts us i h)

    arguments-size : (ts us : ClosedTypes) (i : ℕ) → IsIn (parameter_places_of_all us) i
        → type_size (open_type named (argument ts i)) ≤ types_size (open_types named (instances_of ts us))
    arguments-size ts ClosedTypes.none i h = absurd h
    arguments-size ts (ClosedTypes.more u us) i h =
        go (IsIn-either (parameter_places u) (parameter_places_of_all us) i h) (argument-size ts u i) (arguments-size ts us i)
      where
        go : IsIn (parameter_places u) i ⊎ IsIn (parameter_places_of_all us) i
            → (IsIn (parameter_places u) i → type_size (open_type named (argument ts i)) ≤ type_size (open_type named (instance_of ts u)))
            → (IsIn (parameter_places_of_all us) i → type_size (open_type named (argument ts i)) ≤ types_size (open_types named (instances_of ts us)))
            → type_size (open_type named (argument ts i)) ≤ types_size (open_types named (instances_of ts (ClosedTypes.more u us)))
        go (inl k) f g = let l = f k in omega (arith, l)
        go (inr k) f g = let l = g k in omega (arith, l)

  mutual
    argument-depth : (ts : ClosedTypes) (g : ClosedType) (i : ℕ) → IsIn (parameter_places g) i
        → type_depth (open_type named (argument ts i)) ≤ type_depth (open_type named (instance_of ts g))
    argument-depth ts (ClosedType.parameter j) i (inl e) = let f : type_depth (open_type named (argument ts i)) ≡ type_depth (open_type named (argument ts j)) =
        ap (λ k. type_depth (open_type named (argument ts k))) e in omega (arith, f)
    argument-depth ts (ClosedType.parameter j) i (inr h) = absurd h
    argument-depth ts (ClosedType.operator n us) i h = omega (arith, arguments-depth ts us i h)

    arguments-depth : (ts us : ClosedTypes) (i : ℕ) → IsIn (parameter_places_of_all us) i
        → type_depth (open_type named (argument ts i)) ≤ types_depth (open_types named (instances_of ts us))
    arguments-depth ts ClosedTypes.none i h = absurd h
    arguments-depth ts (ClosedTypes.more u us) i h =
        go (IsIn-either (parameter_places u) (parameter_places_of_all us) i h) (argument-depth ts u i) (arguments-depth ts us i)
      where
        go : IsIn (parameter_places u) i ⊎ IsIn (parameter_places_of_all us) i
            → (IsIn (parameter_places u) i → type_depth (open_type named (argument ts i)) ≤ type_depth (open_type named (instance_of ts u)))
            → (IsIn (parameter_places_of_all us) i → type_depth (open_type named (argument ts i)) ≤ types_depth (open_types named (instances_of ts us)))
            → type_depth (open_type named (argument ts i)) ≤ types_depth (open_types named (instances_of ts (ClosedTypes.more u us)))
        go (inl k) f g = let l = f k in omega (arith, l)
        go (inr k) f g = let l = g k in omega (arith, l)

  mutual
    -- an instance is at least as deep as the generic type
    pub generic-depth : (ts : ClosedTypes) (g : ClosedType) → type_depth (open_type named g) ≤ type_depth (open_type named (instance_of ts g))
    generic-depth ts (ClosedType.parameter i) = omega (arith, depth-positive named (argument ts i))
    generic-depth ts (ClosedType.operator n us) = let c = count-instances ts us in omega (arith, generics-depth ts us, c)

    generics-depth : (ts us : ClosedTypes) → types_depth (open_types named us) ≤ types_depth (open_types named (instances_of ts us))
    generics-depth ts ClosedTypes.none = omega arith
    generics-depth ts (ClosedTypes.more u us) = omega (arith, generic-depth ts u, generics-depth ts us)

    count-instances : (ts us : ClosedTypes) → count (open_types named us) ≡ count (open_types named (instances_of ts us))
    count-instances ts ClosedTypes.none = refl
    count-instances ts (ClosedTypes.more u us) = ap (λ k. k + 1) (count-instances ts us)

-- a number among the first ones
below-IsIn : (i k j : ℕ) → i < k → IsIn (numbers j k) (j + i)
below-IsIn i zero j l = absurd (omega (arith, l))
below-IsIn zero (suc k) j l = inl (omega arith)
below-IsIn (suc i) (suc k) j l = let e : suc j + i ≡ j + suc i =
    omega arith in inr (subst (IsIn (numbers (suc j) k)) e (below-IsIn i k (suc j) (omega (arith, l))))

pub IsIn-numbers : (i k : ℕ) → i < k → IsIn (numbers 0 k) i
IsIn-numbers i k l = let e : 0 + i ≡ i = omega arith in subst (IsIn (numbers 0 k)) e (below-IsIn i k 0 l)

head_of-applied : (f : Tree) (xs : List Tree) → head_of (applied f xs) ≡ head_of f
head_of-applied f [] = refl
head_of-applied f (x ∷ xs) = head_of-applied (App f x) xs

argument_count-applied : (f : Tree) (xs : List Tree) → argument_count (applied f xs) ≡ length xs + argument_count f
argument_count-applied f [] = omega arith
argument_count-applied f (x ∷ xs) = omega (arith, argument_count-applied (App f x) xs)

pub applied-append : (f : Tree) (xs ys : List Tree) → applied f (xs ++ ys) ≡ applied (applied f xs) ys
applied-append f [] ys = refl
applied-append f (x ∷ xs) ys = applied-append (App f x) xs ys

module _ (named : ℕ → Name) (variables : List ClosedType) where
  -- there is no term of at most this size and this depth
  abbrev pub NoTerm : ℕ → ℕ → Option ClosedTerm → Type 0
  NoTerm size depth o = (c : ClosedTerm) → o ≡ Some c → term_size (open_term named variables c) ≤ size → term_depth (open_term named variables c) ≤ depth → ⊥

  -- a term has a depth
  term-depth-positive : (c : ClosedTerm) → 1 ≤ term_depth (open_term named variables c)
  term-depth-positive (ClosedTerm.parameter j) = omega arith
  term-depth-positive (ClosedTerm.bound k) = omega arith
  term-depth-positive (ClosedTerm.constant n t) = omega arith
  term-depth-positive (ClosedTerm.app f x) = omega arith
  term-depth-positive (ClosedTerm.lam t b) = omega arith

  pub none-shallow_term : (size : ℕ) (o : Option ClosedTerm) → NoTerm size 0 o
  none-shallow_term size o c e a b = omega (arith, b, term-depth-positive c)

  module _ (d : List Declaration) (at : Place) where
    -- applied to nothing or to further arguments, a tree stands for no term within the limits
    pub record IsDead (size level : ℕ) (F : Tree) : Type 0 where
      pub here : NoTerm size level (term_from d F at)
      pub constants : (rest : List Tree) → NoTerm size level (constant_from d at (applied F rest) ClosedTypes.none)

    dead-more : (size level : ℕ) (F X : Tree) → IsDead size level F → IsDead size level (App F X)
    dead-more size level F X h = record {
      here = λ c e a b. go c a b (or_else-is (constant_from d at (App F X) ClosedTypes.none) (both ClosedTerm.app (term_from d F at) (term_from d X at)) c e);
      constants = λ rest. h.constants (X ∷ rest);
    }
      where
        go : (c : ClosedTerm) → term_size (open_term named variables c) ≤ size → term_depth (open_term named variables c) ≤ level
            → (constant_from d at (App F X) ClosedTypes.none ≡ Some c) ⊎ (both ClosedTerm.app (term_from d F at) (term_from d X at) ≡ Some c) → ⊥
        go c a b (inl e) = h.constants (X ∷ []) c e a b
        go c a b (inr e) =
            let m = both-is ClosedTerm.app (term_from d F at) (term_from d X at) c e in
            let s : term_size (open_term named variables c) ≡ term_size (open_term named variables (ClosedTerm.app m.0 m.1)) =
            ap (λ u. term_size (open_term named variables u)) m.4 in
            let t : term_depth (open_term named variables c) ≡ term_depth (open_term named variables (ClosedTerm.app m.0 m.1)) =
            ap (λ u. term_depth (open_term named variables u)) m.4 in
            h.here m.0 m.2 (omega (arith, s, a)) (omega (arith, t, b))

    pub dead-applied : (size level : ℕ) (F : Tree) (xs : List Tree) → IsDead size level F → NoTerm size level (term_from d (applied F xs) at)
    dead-applied size level F [] h = h.here
    dead-applied size level F (x ∷ xs) h = dead-applied size level (App F x) xs (dead-more size level F x h)

    -- what is no constant with any arguments before those that follow is none
    pub no_constant : (F : Tree) → ((acc : ClosedTypes) → constant_from d at F acc ≡ None) → (rest : List Tree) (acc : ClosedTypes)
        → constant_from d at (applied F rest) acc ≡ None
    no_constant F h [] acc = h acc
    no_constant F h (x ∷ rest) acc = no_constant (App F x) (λ us. go (type_of_tree d at x) us) rest acc
      where
        go : (o : Option ClosedType) (us : ClosedTypes) → bind o (λ t. constant_from d at F (ClosedTypes.more t us)) ≡ None
        go None us = refl
        go (Some t) us = h (ClosedTypes.more t us)

    pub dead-no_constant : (size level : ℕ) (F : Tree) → ((acc : ClosedTypes) → constant_from d at F acc ≡ None) → NoTerm size level (term_from d F at)
        → IsDead size level F
    dead-no_constant size level F h k = record {
      here = k;
      constants = λ rest c e. let f : ◌≡◌ {A = Option ClosedTerm} None (Some c) = sym (no_constant F h rest ClosedTypes.none) ∙ e in absurd (cc);
    }

    -- the arguments of a constant are types
    pub record HasTypes (F : Tree) (xs : List Tree) (acc : ClosedTypes) (c : ClosedTerm) : Type 0 where
      pub types : ClosedTypes
      pub stand : StandForTypes d types at xs
      pub is : constant_from d at F (joined types acc) ≡ Some c

    constant_from-types : (F : Tree) (xs : List Tree) (acc : ClosedTypes) (c : ClosedTerm) → constant_from d at (applied F xs) acc ≡ Some c
        → HasTypes F xs acc c
    constant_from-types F [] acc c e = record { types = ClosedTypes.none; stand = tt {0}; is = e }
    constant_from-types F (x ∷ xs) acc c e =
        let h = constant_from-types (App F x) xs acc c e in
        let p = bind-is (type_of_tree d at x) (λ t. constant_from d at F (ClosedTypes.more t (joined h.types acc))) c h.is in
        record { types = ClosedTypes.more p.0 h.types; stand = (type_of_tree-is d at x p.0 p.1, h.stand); is = p.2 }

    -- and with its symbol it is the instance at these
    pub record IsInstance (s : ℕ) (xs : List Tree) (c : ClosedTerm) : Type 0 where
      pub constant : Constant
      pub types : ClosedTypes
      pub found : constant_at d s ≡ Some constant
      pub stand : StandForTypes d types at xs
      pub count : constant.variables ≡ length xs
      pub is : c ≡ ClosedTerm.constant constant.name (instance_of types constant.generic)

    pub constant_from-instance : (s : ℕ) (xs : List Tree) (c : ClosedTerm) → constant_from d at (applied (Sym s) xs) ClosedTypes.none ≡ Some c
        → IsInstance s xs c
    constant_from-instance s xs c e =
        let h = constant_from-types (Sym s) xs ClosedTypes.none c e in
        let made : ClosedTypes → Constant → Option ClosedTerm =
        λ us k. provided (nat_eq k.variables (closed_count us)) (Some (ClosedTerm.constant k.name (instance_of us k.generic))) in
        let f : bind (constant_at d s) (made h.types) ≡ Some c = ap (λ us. bind (constant_at d s) (made us)) (sym (joined-none h.types)) ∙ h.is in
        let p = bind-is (constant_at d s) (made h.types) c f in
        let q = provided-is (nat_eq p.0.variables (closed_count h.types)) (Some (ClosedTerm.constant p.0.name (instance_of h.types p.0.generic))) c p.2 in
        record {
          constant = p.0;
          types = h.types;
          found = p.1;
          stand = h.stand;
          count = (Decides-eqb p.0.variables (closed_count h.types)).0 q.0 ∙ count-stand d at h.types xs h.stand;
          is = sym (some-injective q.1);
        }

    pub constant_from-stand : (s : ℕ) (xs : List Tree) (types : ClosedTypes) (k : Constant) → constant_at d s ≡ Some k → StandForTypes d types at xs
        → k.variables ≡ length xs
        → constant_from d at (applied (Sym s) xs) ClosedTypes.none ≡ Some (ClosedTerm.constant k.name (instance_of types k.generic))
    constant_from-stand s xs types k found stand count =
        let made : ClosedTypes → Constant → Option ClosedTerm =
        λ us c. provided (nat_eq c.variables (closed_count us)) (Some (ClosedTerm.constant c.name (instance_of us c.generic))) in
        constants-stand d at types xs (Sym s) ClosedTypes.none stand
        ∙ ap (λ us. bind (constant_at d s) (made us)) (joined-none types)
        ∙ ap (λ o. bind o (made types)) found
        ∙ provided-true (nat_eq k.variables (closed_count types)) (Some (ClosedTerm.constant k.name (instance_of types k.generic)))
        ((Decides-eqb k.variables (closed_count types)).1 (count ∙ sym (count-stand d at types xs stand)))

    -- the symbol of no constant within the limits
    pub dead-symbol : (size level s : ℕ)
        → ((k : Constant) → constant_at d s ≡ Some k → 1 + type_size (open_type named k.generic) ≤ size → 1 + type_depth (open_type named k.generic) ≤ level
        → ⊥)
        → IsDead size level (Sym s)
    dead-symbol size level s h = record { here = none []; constants = none }
      where
        none : (rest : List Tree) → NoTerm size level (constant_from d at (applied (Sym s) rest) ClosedTypes.none)
        none rest c e a b =
            let i = constant_from-instance s rest c e in
            let m : term_size (open_term named variables c) ≡ 1 + type_size (open_type named (instance_of i.types i.constant.generic)) =
            ap (λ u. term_size (open_term named variables u)) i.is in
            let n : term_depth (open_term named variables c) ≡ 1 + type_depth (open_type named (instance_of i.types i.constant.generic)) =
            ap (λ u. term_depth (open_term named variables u)) i.is in
            h i.constant i.found (omega (arith, a, m, generic-size named i.types i.constant.generic))
            (omega (arith, b, n, generic-depth named i.types i.constant.generic))

    one_found : (s : ℕ) (k l : Constant) → constant_at d s ≡ Some k → constant_at d s ≡ Some l → k ≡ l
    one_found s k l e f = some-injective (sym e ∙ f)

    -- fewer arguments than the constant has variables
    pub too_few : (s : ℕ) (k : Constant) (xs : List Tree) → constant_at d s ≡ Some k → length xs < k.variables → (c : ClosedTerm)
        → term_from d (applied (Sym s) xs) at ≡ Some c → ⊥
    too_few s k xs found l c e =
        let a = enough_arguments d c at (applied (Sym s) xs) s k (term_from-is d (applied (Sym s) xs) at c e) (head_of-applied (Sym s) xs) found in
        let b = argument_count-applied (Sym s) xs in
        omega (arith, a, b, l)

    argument-stands : (types : ClosedTypes) (taken rest : List Tree) (X : Tree) → StandForTypes d types at (taken ++ X ∷ rest)
        → StandsForType d (argument types (length taken)) at X
    argument-stands ClosedTypes.none [] rest X h = absurd h
    argument-stands (ClosedTypes.more t ts) [] rest X h = h.0
    argument-stands ClosedTypes.none (y ∷ taken) rest X h = absurd h
    argument-stands (ClosedTypes.more t ts) (y ∷ taken) rest X h = argument-stands ts taken rest X h.1

    -- an argument of a constant that is no type within the limits
    module _ (size level s : ℕ) (k : Constant) (taken : List Tree) (X : Tree) (found : constant_at d s ≡ Some k) (l : length taken < k.variables)
        (none : NoType named size level (type_of_tree d at X)) where
      lacks : (rest : List Tree) → NoTerm size level (constant_from d at (applied (Sym s) (taken ++ X ∷ rest)) ClosedTypes.none)
      lacks rest c e a b =
          let i = constant_from-instance s (taken ++ X ∷ rest) c e in
          let same : i.constant ≡ k = one_found s i.constant k i.found found in
          let order = means-in_order named d s i.constant.name i.constant.variables i.constant.generic (constant_at-is d s i.constant i.found) in
          let m : length taken < i.constant.variables = let z : i.constant.variables ≡ k.variables =
          ap (λ (x : Constant). x.variables) same in omega (arith, z, l) in
          let among : IsIn (parameter_places i.constant.generic) (length taken) =
          IsIn-distinct_of nat_eq Decides-eqb (parameter_places i.constant.generic) (length taken)
          (subst (λ ns. IsIn ns (length taken)) (sym order) (IsIn-numbers (length taken) i.constant.variables m)) in
          let t = argument i.types (length taken) in
          let p : term_size (open_term named variables c) ≡ 1 + type_size (open_type named (instance_of i.types i.constant.generic)) =
          ap (λ u. term_size (open_term named variables u)) i.is in
          let q : term_depth (open_term named variables c) ≡ 1 + type_depth (open_type named (instance_of i.types i.constant.generic)) =
          ap (λ u. term_depth (open_term named variables u)) i.is in
          none t (type_of_tree-stands d at t X (argument-stands i.types taken rest X i.stand))
          (omega (arith, a, p, argument-size named i.types i.constant.generic (length taken) among))
          (omega (arith, b, q, argument-depth named i.types i.constant.generic (length taken) among))

      pub dead-argument : IsDead size level (App (applied (Sym s) taken) X)
      dead-argument = record {
        here = λ c e a b. go c a b
            (or_else-is (constant_from d at (App (applied (Sym s) taken) X) ClosedTypes.none)
            (both ClosedTerm.app (term_from d (applied (Sym s) taken) at) (term_from d X at)) c e);
        constants = λ rest c e a b. lacks rest c (ap (λ A. constant_from d at A ClosedTypes.none) (applied-append (Sym s) taken (X ∷ rest)) ∙ e) a b;
      }
        where
          go : (c : ClosedTerm) → term_size (open_term named variables c) ≤ size → term_depth (open_term named variables c) ≤ level
              → (constant_from d at (App (applied (Sym s) taken) X) ClosedTypes.none ≡ Some c)
              ⊎ (both ClosedTerm.app (term_from d (applied (Sym s) taken) at) (term_from d X at) ≡ Some c) → ⊥
          go c a b (inl e) = lacks [] c (ap (λ A. constant_from d at A ClosedTypes.none) (applied-append (Sym s) taken (X ∷ [])) ∙ e) a b
          go c a b (inr e) =
              let m = both-is ClosedTerm.app (term_from d (applied (Sym s) taken) at) (term_from d X at) c e in
              too_few s k taken found l m.0 m.2

    -- an instance that passes the limits
    pub dead-instance : (size level s : ℕ) (k : Constant) (xs : List Tree) (types : ClosedTypes) → constant_at d s ≡ Some k → StandForTypes d types at xs
        → k.variables ≡ length xs
        → (1 + type_size (open_type named (instance_of types k.generic)) ≤ size → 1 + type_depth (open_type named (instance_of types k.generic)) ≤ level → ⊥)
        → IsDead size level (applied (Sym s) xs)
    dead-instance size level s k xs types found stand count large = record {
      here = λ c e a b. one c (some-injective (sym is_term ∙ e)) a b;
      constants = constants;
    }
      where
        is_constant : constant_from d at (applied (Sym s) xs) ClosedTypes.none ≡ Some (ClosedTerm.constant k.name (instance_of types k.generic))
        is_constant = constant_from-stand s xs types k found stand count

        is_term : term_from d (applied (Sym s) xs) at ≡ Some (ClosedTerm.constant k.name (instance_of types k.generic))
        is_term = term_from-constant d (applied (Sym s) xs) at _ is_constant

        one : (c : ClosedTerm) → ClosedTerm.constant k.name (instance_of types k.generic) ≡ c → term_size (open_term named variables c) ≤ size
            → term_depth (open_term named variables c) ≤ level → ⊥
        one c e a b =
            let m : term_size (open_term named variables c) ≡ 1 + type_size (open_type named (instance_of types k.generic)) =
            ap (λ u. term_size (open_term named variables u)) (sym e) in
            let n : term_depth (open_term named variables c) ≡ 1 + type_depth (open_type named (instance_of types k.generic)) =
            ap (λ u. term_depth (open_term named variables u)) (sym e) in
            large (omega (arith, a, m)) (omega (arith, b, n))

        constants : (rest : List Tree) → NoTerm size level (constant_from d at (applied (applied (Sym s) xs) rest) ClosedTypes.none)
        constants [] c e a b = one c (some-injective (sym is_constant ∙ e)) a b
        constants (y ∷ rest) c e a b =
            let i = constant_from-instance s (xs ++ y ∷ rest) c (ap (λ A. constant_from d at A ClosedTypes.none) (applied-append (Sym s) xs (y ∷ rest)) ∙ e) in
            let z : k.variables ≡ i.constant.variables = ap (λ (x : Constant). x.variables) (one_found s k i.constant found i.found) in
            let n = length-append xs (y ∷ rest) in
            omega (arith, z, count, i.count, n)

    -- a term applied to arguments is no constant
    pub no_longer_constant : (f c : ClosedTerm) (F X : Tree) (rest : List Tree) → StandsForTerm d f at F
        → constant_from d at (applied F (X ∷ rest)) ClosedTypes.none ≡ Some c → ⊥
    no_longer_constant f c F X rest h e =
        let a = constant_from-applied d at (applied F (X ∷ rest)) ClosedTypes.none c e in
        let l = enough_arguments d f at F a.symbol a.constant h (sym (head_of-applied F (X ∷ rest)) ∙ a.head) a.found in
        let m = argument_count-applied F (X ∷ rest) in
        omega (arith, a.count, l, m)

    -- an application of a term that passes the limits, or whose argument does
    pub dead-application : (size level : ℕ) (f : ClosedTerm) (F X : Tree) → term_from d F at ≡ Some f
        → ((x : ClosedTerm) → term_from d X at ≡ Some x → 1 + term_size (open_term named variables f) + term_size (open_term named variables x) ≤ size
        → 1 + term_depth (open_term named variables x) ≤ level → ⊥)
        → IsDead size level (App F X)
    dead-application size level f F X e h = record {
      here = λ c g a b. go c a b (or_else-is (constant_from d at (App F X) ClosedTypes.none) (both ClosedTerm.app (term_from d F at) (term_from d X at)) c g);
      constants = λ rest c g a b. no_longer_constant f c F X rest (term_from-is d F at f e) g;
    }
      where
        go : (c : ClosedTerm) → term_size (open_term named variables c) ≤ size → term_depth (open_term named variables c) ≤ level
            → (constant_from d at (App F X) ClosedTypes.none ≡ Some c) ⊎ (both ClosedTerm.app (term_from d F at) (term_from d X at) ≡ Some c) → ⊥
        go c a b (inl g) = no_longer_constant f c F X [] (term_from-is d F at f e) g
        go c a b (inr g) =
            let m = both-is ClosedTerm.app (term_from d F at) (term_from d X at) c g in
            let same : m.0 ≡ f = some-injective (sym m.2 ∙ e) in
            let w : c ≡ ClosedTerm.app f m.1 = m.4 ∙ ap (λ u. ClosedTerm.app u m.1) same in
            let s : term_size (open_term named variables c) ≡ term_size (open_term named variables (ClosedTerm.app f m.1)) =
            ap (λ u. term_size (open_term named variables u)) w in
            let t : term_depth (open_term named variables c) ≡ term_depth (open_term named variables (ClosedTerm.app f m.1)) =
            ap (λ u. term_depth (open_term named variables u)) w in
            h m.1 m.3 (omega (arith, s, a)) (omega (arith, t, b))
