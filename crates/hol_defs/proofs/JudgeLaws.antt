-- What is judged of definitions, one condition after the other.
use Rattle.std.proofs.Common.{◌≡◌, ◌<◌, ◌≤◌, ◌+◌, arith, length-append, ℕ, suc, refl, ap, sym, ◌∙◌, List, [], ◌∷◌, ◌++◌, length, Bool, true, false, cond, Option, None, Some}
use Rattle.std.specs.Prelude.{◌||◌, ◌&&◌, nat_eq, not, slice_get, unwrap_or}
use Rattle.std.proofs.lemmas.Option.{slice_get_within}
use Rattle.std.proofs.Math.Path.{ap₂}
use Rattle.std.specs.Bool.{Decides}
use Rattle.std.proofs.lemmas.Bool.Decides.{nat_tests}
use Rattle.std.specs.List.{list_all}
use Rattle.std.proofs.lemmas.List.Folds.{list_any-append, list_all-append}
use Rattle.hol_spec.specs.Names.{Name}
use Rattle.hol_spec.specs.NameEquality.{name_eq}
use Rattle.hol_laws.specs.NameEqualityLaws.{name_eq-Decides}
use Rattle.hol_spec.specs.Lists.{is_in, union, distinct}
use Rattle.hol_laws.specs.ListLaws.{union-distinct}
use Rattle.hol_spec.specs.Types.{HolType, variable_places, type_variables}
use Rattle.hol_spec.specs.Terms.{Term, IsTerm, bound, Variable, variable_eq, free_places, type_variable_places}
use Rattle.hol_spec.specs.Defining.{is_closed, has_type_variables_of}
use Rattle.hol_spec.specs.Repeats.{no_repeats}
use Rattle.hol_spec.specs.TypeDefinitions.{are_type_variables_of}
use Rattle.hol_term.specs.declared.Variable.{Variable as OneVariable}
use Rattle.hol_term.specs.Subterms.{variables_of}
use Rattle.hol_term.specs.Tables.{Trees, IsTermAt}
use Rattle.common.specs.declared.faults.Kind.{Kind}
use Rattle.hol_defs.specs.Faults.{first_failing}

-- the first condition fails
pub failing : (b : Bool) (k : Kind) (cs : List (Bool × Kind)) → b ≡ false → first_failing ((b, k) ∷ cs) ≡ Some k
failing true k cs e = absurd (cc)
failing false k cs e = refl

-- the first condition holds
pub passing : (b : Bool) (k : Kind) (cs : List (Bool × Kind)) → b ≡ true → first_failing ((b, k) ∷ cs) ≡ first_failing cs
passing true k cs e = refl
passing false k cs e = absurd (cc)

or-false : (b : Bool) → (b || false) ≡ b
or-false true = refl
or-false false = refl

or-assoc : (a b c : Bool) → ((a || b) || c) ≡ (a || (b || c))
or-assoc true b c = refl
or-assoc false b c = refl

and-true : (b : Bool) → (b && true) ≡ b
and-true true = refl
and-true false = refl

and-assoc : (a b c : Bool) → ((a && b) && c) ≡ (a && (b && c))
and-assoc true b c = refl
and-assoc false b c = refl

module _ {A : Type 0} (same : A → A → Bool) (decides : (x y : A) → Decides (same x y) (x ≡ y)) where
  is_in-new : (xs : List A) (x y : A) (b : Bool) → is_in same y xs ≡ b → is_in same x (cond b xs (xs ++ y ∷ [])) ≡ (is_in same x xs || same x y)
  is_in-new xs x y false e = list_any-append (same x) xs (y ∷ []) ∙ ap (λ b. is_in same x xs || b) (or-false (same x y))
  is_in-new xs x y true e = again (same x y) refl
    where
      again : (b : Bool) → same x y ≡ b → is_in same x xs ≡ (is_in same x xs || b)
      again true f = let s : x ≡ y = (decides x y).0 f in rw (s, e) refl
      again false f = sym (or-false (is_in same x xs))

  -- what is in a union is in one of the lists
  pub is_in-united : (ys xs : List A) (x : A) → is_in same x (union same xs ys) ≡ (is_in same x xs || is_in same x ys)
  is_in-united [] xs x = sym (or-false (is_in same x xs))
  is_in-united (y ∷ ys) xs x =
      is_in-united ys (cond (is_in same y xs) xs (xs ++ y ∷ [])) x ∙ ap (λ b. b || is_in same x ys) (is_in-new xs x y (is_in same y xs) refl)
      ∙ or-assoc (is_in same x xs) (same x y) (is_in same x ys)

  module _ (p : A → Bool) where
    own : (b c : Bool) → ((b && c) && b) ≡ (b && c)
    own true true = refl
    own true false = refl
    own false c = refl

    all_of-one-by : (x : A) (xs : List A) (y : A) (b : Bool) → same y x ≡ b → (b ≡ false → (list_all p xs && p y) ≡ list_all p xs)
        → ((p x && list_all p xs) && p y) ≡ (p x && list_all p xs)
    all_of-one-by x xs y true f h = let s : y ≡ x = (decides y x).0 f in rw s (own (p x) (list_all p xs))
    all_of-one-by x xs y false f h = and-assoc (p x) (list_all p xs) (p y) ∙ ap (λ b. p x && b) (h refl)

    all_of-one : (xs : List A) (y : A) → is_in same y xs ≡ true → (list_all p xs && p y) ≡ list_all p xs
    all_of-one [] y e = absurd (cc)
    all_of-one (x ∷ xs) y e = all_of-one-by x xs y (same y x) refl (λ f. all_of-one xs y (sym (ap (λ b. b || is_in same y xs) f) ∙ e))

    all-new : (xs : List A) (y : A) (b : Bool) → is_in same y xs ≡ b → list_all p (cond b xs (xs ++ y ∷ [])) ≡ (list_all p xs && p y)
    all-new xs y true e = sym (all_of-one xs y e)
    all-new xs y false e = list_all-append p xs (y ∷ []) ∙ ap (λ b. list_all p xs && b) (and-true (p y))

    -- what holds of all of a union holds of all of both lists
    pub all-united : (ys xs : List A) → list_all p (union same xs ys) ≡ (list_all p xs && list_all p ys)
    all-united [] xs = sym (and-true (list_all p xs))
    all-united (y ∷ ys) xs =
        all-united ys (cond (is_in same y xs) xs (xs ++ y ∷ [])) ∙ ap (λ b. b && list_all p ys) (all-new xs y (is_in same y xs) refl)
        ∙ and-assoc (list_all p xs) (p y) (list_all p ys)

    pub all-distinct : (xs : List A) → list_all p (distinct same xs) ≡ list_all p xs
    all-distinct xs = all-united xs []

pub all-each : {A : Type 0} (p q : A → Bool) → ((x : A) → p x ≡ q x) → (xs : List A) → list_all p xs ≡ list_all q xs
all-each p q h [] = refl
all-each p q h (x ∷ xs) = λ i. h x i && all-each p q h xs i

-- by the lists of variables, each once
pub has_variables-listed : (a : HolType) (t : Term) (own names : List Name) → own ≡ union name_eq [] (type_variables a) → names
    ≡ distinct name_eq (type_variable_places t)
    → list_all (λ n. is_in name_eq n own) names ≡ has_type_variables_of a t
has_variables-listed a t own names e f =
    ap (list_all (λ n. is_in name_eq n own)) f ∙ all-distinct name_eq name_eq-Decides (λ n. is_in name_eq n own) (type_variable_places t)
    ∙ all-each (λ n. is_in name_eq n own) (λ n. is_in name_eq n (variable_places a)) (λ n.
    ap (is_in name_eq n) (e ∙ union-distinct name_eq name_eq-Decides (variable_places a) []) ∙ is_in-united name_eq name_eq-Decides (variable_places a) [] n)
    (type_variable_places t)

not_none : (n : ℕ) → nat_eq (suc n) 0 ≡ false
not_none n = grind (arith, nat_tests)

nonempty-by : {A : Type 0} (same : A → A → Bool) (ys : List A) (x y : A) (xs : List A) (b : Bool)
    → ((zs : List A) → nat_eq (length (union same (x ∷ zs) ys)) 0 ≡ false) → nat_eq (length (union same (cond b (x ∷ xs) (x ∷ xs ++ y ∷ [])) ys)) 0 ≡ false
nonempty-by same ys x y xs true h = h xs
nonempty-by same ys x y xs false h = h (xs ++ y ∷ [])

nonempty : {A : Type 0} (same : A → A → Bool) (ys : List A) (x : A) (xs : List A) → nat_eq (length (union same (x ∷ xs) ys)) 0 ≡ false
nonempty same [] x xs = not_none (length xs)
nonempty same (y ∷ ys) x xs = nonempty-by same ys x y xs (is_in same y (x ∷ xs)) (λ zs. nonempty same ys x zs)

distinct-empty : {A : Type 0} (same : A → A → Bool) (xs : List A) → nat_eq (length (distinct same xs)) 0 ≡ nat_eq (length xs) 0
distinct-empty same [] = refl
distinct-empty same (x ∷ xs) = nonempty same xs x [] ∙ sym (not_none (length xs))

-- by the list of free variables, each once
pub is_closed-listed : (t : Term) (vs : List Variable) → vs ≡ distinct variable_eq (free_places t) → nat_eq (length vs) 0 ≡ is_closed t
is_closed-listed t vs e = ap (λ l. nat_eq (length l) 0) e ∙ distinct-empty variable_eq (free_places t)

pub length-variables_of : (trees : Trees) (vs : List OneVariable) → length (variables_of trees vs) ≡ length vs
length-variables_of trees [] = refl
length-variables_of trees (v ∷ vs) = ap suc (length-variables_of trees vs)

-- a term's number is of the table
pub known_term : (trees : Trees) (id : ℕ) → IsTermAt trees id → id < length trees.terms
known_term trees id h = go (slice_get trees.terms id) refl
  where
    typed : (o : Option Term) → o ≡ None → IsTerm (unwrap_or o (bound 0)) → ⊥
    typed None e k = absurd (cc)
    typed (Some t) e k = absurd (cc)

    go : (o : Option Term) → slice_get trees.terms id ≡ o → id < length trees.terms
    go None e = absurd (typed (slice_get trees.terms id) e h)
    go (Some t) e = slice_get_within trees.terms id t e

-- the first of three conditions that fails
module _ (a b c : Bool) (j k l : Kind) where
  pub first_of_three : a ≡ false → first_failing ((a, j) ∷ (b, k) ∷ (c, l) ∷ []) ≡ Some j
  first_of_three e = failing a j ((b, k) ∷ (c, l) ∷ []) e

  pub second_of_three : a ≡ true → b ≡ false → first_failing ((a, j) ∷ (b, k) ∷ (c, l) ∷ []) ≡ Some k
  second_of_three e f = passing a j ((b, k) ∷ (c, l) ∷ []) e ∙ failing b k ((c, l) ∷ []) f

  pub third_of_three : a ≡ true → b ≡ true → c ≡ false → first_failing ((a, j) ∷ (b, k) ∷ (c, l) ∷ []) ≡ Some l
  third_of_three e f g = passing a j ((b, k) ∷ (c, l) ∷ []) e ∙ passing b k ((c, l) ∷ []) f ∙ failing c l [] g

  pub none_of_three : a ≡ true → b ≡ true → c ≡ true → first_failing ((a, j) ∷ (b, k) ∷ (c, l) ∷ []) ≡ None
  none_of_three e f g = passing a j ((b, k) ∷ (c, l) ∷ []) e ∙ passing b k ((c, l) ∷ []) f ∙ passing c l [] g

-- where none of four conditions fails, the last one holds
pub last_holds : (a b c d : Bool) (j k l m : Kind) → first_failing ((a, j) ∷ (b, k) ∷ (c, l) ∷ (d, m) ∷ []) ≡ None → d ≡ true
last_holds false b c d j k l m e = absurd (cc)
last_holds true false c d j k l m e = absurd (cc)
last_holds true true false d j k l m e = absurd (cc)
last_holds true true true false j k l m e = absurd (cc)
last_holds true true true true j k l m e = refl

-- where no condition fails, the first one holds
pub first_holds : (b : Bool) (k : Kind) (cs : List (Bool × Kind)) → first_failing ((not b, k) ∷ cs) ≡ None → b ≡ false
first_holds true k cs e = absurd (cc)
first_holds false k cs e = refl

no_longer : {A : Type 0} (same : A → A → Bool) (ys xs : List A) → length (union same xs ys) ≤ length xs + length ys
no_longer same [] xs = omega arith
no_longer {A = A} same (y ∷ ys) xs = by_case (is_in same y xs) (λ zs. no_longer same ys zs)
  where
    by_case : (b : Bool) → ((zs : List A) → length (union same zs ys) ≤ length zs + length ys)
        → length (union same (cond b xs (xs ++ y ∷ [])) ys) ≤ length xs + suc (length ys)
    by_case true h = let k = h xs in omega (arith, k)
    by_case false h = let k = h (xs ++ y ∷ []) in omega (arith, k, length-append xs (y ∷ []))

equal_numbers : (a b : ℕ) → a ≡ b → nat_eq a b ≡ true
equal_numbers a b h = grind (arith, nat_tests)

shorter : (a b : ℕ) → a < b → nat_eq a b ≡ false
shorter a b h = grind (arith, nat_tests)

shuffled : (a b c : Bool) → (b && (c && not a)) ≡ ((not a && b) && (true && c))
shuffled true true true = refl
shuffled true true false = refl
shuffled true false c = refl
shuffled false true true = refl
shuffled false true false = refl
shuffled false false c = refl

none_left : (a b : Bool) → false ≡ (a && (false && b))
none_left true b = refl
none_left false b = refl

apart : (a b c d : Bool) → (not (a || b) && (c && not d)) ≡ ((not a && c) && not (b || d))
apart true b c d = refl
apart false true true d = refl
apart false true false d = refl
apart false false true d = refl
apart false false false d = refl

module _ {A : Type 0} (same : A → A → Bool) (decides : (x y : A) → Decides (same x y) (x ≡ y)) where
  same-turned : (x y : A) → same x y ≡ same y x
  same-turned x y = same_from (same x y) (same y x) (λ e. (decides y x).1 (sym ((decides x y).0 e))) (λ e. (decides x y).1 (sym ((decides y x).0 e)))
    where
      same_from : (a b : Bool) → (a ≡ true → b ≡ true) → (b ≡ true → a ≡ true) → a ≡ b
      same_from true b f g = sym (f refl)
      same_from false true f g = g refl
      same_from false false f g = refl

  none-new : (xs : List A) (y : A) (ys : List A) → list_all (λ z. not (is_in same z (xs ++ y ∷ []))) ys
      ≡ (list_all (λ z. not (is_in same z xs)) ys && not (is_in same y ys))
  none-new xs y [] = refl
  none-new xs y (z ∷ zs) =
      ap₂ (λ a b. not a && b) (list_any-append (same z) xs (y ∷ []) ∙ ap (λ b. is_in same z xs || b) (or-false (same z y) ∙ same-turned z y)) (none-new xs y zs)
      ∙ apart (is_in same z xs) (same y z) (list_all (λ w. not (is_in same w xs)) zs) (is_in same y zs)

  once-by : (xs : List A) (y : A) (ys : List A) (b : Bool) → is_in same y xs ≡ b
      → ((zs : List A) → nat_eq (length (union same zs ys)) (length zs + length ys) ≡ (no_repeats same ys && list_all (λ z. not (is_in same z zs)) ys))
      → nat_eq (length (union same (cond b xs (xs ++ y ∷ [])) ys)) (length xs + suc (length ys))
      ≡ ((not (is_in same y ys) && no_repeats same ys) && (not b && list_all (λ z. not (is_in same z xs)) ys))
  once-by xs y ys true e h =
      let k = no_longer same ys xs in
      shorter (length (union same xs ys)) (length xs + suc (length ys)) (omega (arith, k))
      ∙ none_left (not (is_in same y ys) && no_repeats same ys) (list_all (λ z. not (is_in same z xs)) ys)
  once-by xs y ys false e h =
      let k : length (xs ++ y ∷ []) + length ys ≡ length xs + suc (length ys) = omega (arith, length-append xs (y ∷ [])) in
      sym (ap (nat_eq (length (union same (xs ++ y ∷ []) ys))) k) ∙ h (xs ++ y ∷ []) ∙ ap (λ b. no_repeats same ys && b) (none-new xs y ys)
      ∙ shuffled (is_in same y ys) (no_repeats same ys) (list_all (λ z. not (is_in same z xs)) ys)

  -- a union is as long as both lists where nothing stands twice
  once-united : (ys xs : List A) → nat_eq (length (union same xs ys)) (length xs + length ys) ≡ (no_repeats same ys && list_all (λ y. not (is_in same y xs)) ys)
  once-united [] xs = equal_numbers (length xs) (length xs + 0) (omega arith)
  once-united (y ∷ ys) xs = once-by xs y ys (is_in same y xs) refl (λ zs. once-united ys zs)

  all-true : (ys : List A) → list_all (λ y. not (is_in same y [])) ys ≡ true
  all-true [] = refl
  all-true (y ∷ ys) = all-true ys

  -- the elements, each once, are as many as the list has where nothing stands twice
  pub once-listed : (ys zs : List A) → zs ≡ union same [] ys → nat_eq (length zs) (length ys) ≡ no_repeats same ys
  once-listed ys zs e =
      let k : length {A = A} [] + length ys ≡ length ys = omega arith in
      ap (λ l. nat_eq (length l) (length ys)) e ∙ sym (ap (nat_eq (length (union same [] ys))) k) ∙ once-united ys []
      ∙ ap (λ b. no_repeats same ys && b) (all-true ys) ∙ and-true (no_repeats same ys)

-- by the lists of variables, each once
pub are_variables-listed : (names : List Name) (t : Term) (mine variables places : List Name) → mine ≡ union name_eq [] names → variables
    ≡ distinct name_eq (type_variable_places t) → places ≡ union name_eq [] variables
    → ((nat_eq (length mine) (length names) && list_all (λ n. is_in name_eq n places) names) && list_all (λ n. is_in name_eq n mine) variables)
    ≡ are_type_variables_of names t
are_variables-listed names t mine variables places e f g =
    let once = once-listed name_eq name_eq-Decides names mine e in
    let only = all-each (λ n. is_in name_eq n places) (λ n. is_in name_eq n (type_variable_places t)) (λ n.
    ap (is_in name_eq n) (g ∙ ap (union name_eq []) f ∙ union-distinct name_eq name_eq-Decides (type_variable_places t) [])
    ∙ is_in-united name_eq name_eq-Decides (type_variable_places t) [] n) names in
    let all = ap (list_all (λ n. is_in name_eq n mine)) f ∙ all-distinct name_eq name_eq-Decides (λ n. is_in name_eq n mine) (type_variable_places t)
    ∙ all-each (λ n. is_in name_eq n mine) (λ n. is_in name_eq n names) (λ n. ap (is_in name_eq n) e ∙ is_in-united name_eq name_eq-Decides names [] n)
    (type_variable_places t) in
    (λ i. (once i && only i) && all i)
