-- The measures of what the definition of a type operator makes.
use Rattle.std.proofs.Common.{◌≡◌, ◌<◌, ◌≤◌, ℕ, ◌+◌, ◌*◌, refl, sym, ap, ◌∙◌, arith, List, [], ◌∷◌, map, length, Bool, true, false, Err}
use Rattle.std.specs.Prelude.{◌&&◌, max, min, nat_le}
use Rattle.std.specs.List.{list_all}
use Rattle.std.proofs.lemmas.Bool.Decides.{nat_tests}
use Rattle.common.specs.declared.faults.Kind.TheVariants.{TooLarge, TooDeep, TooManyParams}
use Rattle.hol_spec.specs.Names.{Name}
use Rattle.hol_spec.specs.Types.{HolType, variable, types_of, count}
use Rattle.hol_spec.specs.Terms.{Term}
use Rattle.hol_spec.specs.Measures.{Measure}
use Rattle.hol_spec.specs.Limits.{greatest_size, greatest_depth, greatest_parameter_count, type_size, types_size, type_depth, types_depth, term_size, term_depth, sequent_size, sequent_depth}
use Rattle.hol_spec.specs.Definitions.{TypeNames}
use Rattle.hol_spec.specs.NewTypes.{new_type, abstraction_type, representation_type}
use Rattle.hol_spec.specs.Sequents.{parameter_count}
use Rattle.hol_spec.specs.TypeDefinitions.{first_law_of, second_law_of}
use Rattle.hol_spec.specs.declared.Version.{Version}
use Rattle.hol_spec.specs.declared.Version.TheVariants.{Five, Six}
use Rattle.article_spec.specs.Conditions.{in_limits, demand}
use Rattle.hol_rules.specs.Laws.{first_law_size, second_law_size, larger_law_size, height_above_types, second_law_depth, AreSmall}
use Rattle.article_spec.specs.RuleSteps.{type_measures}
use Rattle.hol_rules.proofs.RuleSteps.{met, unmet}

is_le : (a b : ℕ) → a ≤ b → nat_le a b ≡ true
is_le a b h = grind (arith, nat_tests)

not_le : (a b : ℕ) → b < a → nat_le a b ≡ false
not_le a b h = grind (arith, nat_tests)

le_is : (a b : ℕ) → nat_le a b ≡ true → a ≤ b
le_is a b h = grind (arith, nat_tests)

le_not : (a b : ℕ) → nat_le a b ≡ false → b < a
le_not a b h = grind (arith, nat_tests)

-- five measures of which the last two are the greatest
five_hold : (a b c d e : Bool) → a ≡ true → b ≡ true → c ≡ true → d ≡ true → e ≡ true → (a && (b && (c && (d && (e && true))))) ≡ true
five_hold a b c d e f g h i j = rw (f, g, h, i, j) refl

last_fail : (a b c d e : Bool) → (d && e) ≡ false → (a && (b && (c && (d && (e && true))))) ≡ false
last_fail false b c d e h = refl
last_fail true false c d e h = refl
last_fail true true false d e h = refl
last_fail true true true false e h = refl
last_fail true true true true false h = refl
last_fail true true true true true h = absurd (cc)

one_fails : (d e g : ℕ) → g < max d e → (nat_le d g && nat_le e g) ≡ false
one_fails d e g h = go (nat_le d g) refl
  where
    go : (b : Bool) → nat_le d g ≡ b → (b && nat_le e g) ≡ false
    go false f = refl
    go true f = let l = le_is d g f in not_le e g (omega (arith, h, l))

five : (a b c d e g : ℕ) → a ≤ max d e → b ≤ max d e → c ≤ max d e → (nat_le a g && (nat_le b g && (nat_le c g && (nat_le d g && (nat_le e g && true)))))
    ≡ nat_le (max d e) g
five a b c d e g i j k = go (nat_le (max d e) g) refl
  where
    go : (r : Bool) → nat_le (max d e) g ≡ r → (nat_le a g && (nat_le b g && (nat_le c g && (nat_le d g && (nat_le e g && true))))) ≡ nat_le (max d e) g
    go true f =
        let l = le_is (max d e) g f in
        five_hold (nat_le a g) (nat_le b g) (nat_le c g) (nat_le d g) (nat_le e g)
        (is_le a g (omega (arith, l, i))) (is_le b g (omega (arith, l, j))) (is_le c g (omega (arith, l, k))) (is_le d g (omega (arith, l)))
        (is_le e g (omega (arith, l))) ∙ sym f
    go false f = last_fail (nat_le a g) (nat_le b g) (nat_le c g) (nat_le d g) (nat_le e g) (one_fails d e g (le_not (max d e) g f)) ∙ sym f

size_of_variables : (ns : List Name) → types_size (types_of (map variable ns)) ≡ length ns
size_of_variables [] = refl
size_of_variables (n ∷ ns) = let e = size_of_variables ns in omega (arith, e)

count_of_variables : (ns : List Name) → count (types_of (map variable ns)) ≡ length ns
count_of_variables [] = refl
count_of_variables (n ∷ ns) = let e = count_of_variables ns in omega (arith, e)

depth_of_variables : (ns : List Name) → types_depth (types_of (map variable ns)) ≡ min (length ns) 1
depth_of_variables [] = refl
depth_of_variables (n ∷ ns) = let e = depth_of_variables ns in omega (arith, e)

-- the depth of a type of functions, of equality over a type, and of an equation
abbrev arrow : ℕ → ℕ → ℕ
arrow a b = 2 + max a (max b 0)

abbrev equality_depth : ℕ → ℕ
equality_depth a = arrow a (arrow a 1)

abbrev equation_depth : ℕ → ℕ → ℕ → ℕ
equation_depth a l r = 1 + max (1 + max (1 + equality_depth a) l) r

-- the depths of the laws of version 6, for a part of depth p of a type of depth c
abbrev first_depth : ℕ → ℕ → ℕ
first_depth c p = max (equation_depth (arrow p p) (1 + max p (1 + max (1 + arrow c p) (1 + max (1 + arrow p c) 1))) (1 + max p 1)) 0

abbrev second_depth : ℕ → ℕ → ℕ → ℕ
second_depth c p f = max
    (equation_depth (arrow c 1) (1 + max c (equation_depth c (1 + max (1 + arrow p c) (1 + max (1 + arrow c p) 1)) 1)) (1 + max c (1 + max f 1))) 0

arrow-is : (a b : ℕ) → arrow a b ≡ 2 + max a b
arrow-is a b = omega arith

equality-is : (a : ℕ) → 1 ≤ a → equality_depth a ≡ 4 + a
equality-is a h = omega (arith, h)

equation-is : (a l r : ℕ) → 1 ≤ a → equation_depth a l r ≡ max (max (7 + a) (2 + l)) (1 + r)
equation-is a l r h = let e = equality-is a h in omega (arith, e)

composed-is : (c p : ℕ) → 1 + max (1 + arrow c p) (1 + max (1 + arrow p c) 1) ≡ 5 + max c p
composed-is c p = let a = arrow-is c p in let b = arrow-is p c in omega (arith, a, b)

first_deep : (c p : ℕ) → 1 ≤ p → first_depth c p ≡ max (p + 9) (max c p + 8)
first_deep c p h =
    let both = 1 + max (1 + arrow c p) (1 + max (1 + arrow p c) 1) in
    let a = composed-is c p in
    let b = arrow-is p p in
    let l : 1 ≤ arrow p p = omega arith in
    let e = equation-is (arrow p p) (1 + max p both) (1 + max p 1) l in
    omega (arith, a, b, e, h)

equality-any : (a : ℕ) → equality_depth a ≡ 4 + max a 1
equality-any a = omega arith

equation-any : (a l r : ℕ) → equation_depth a l r ≡ max (max (7 + max a 1) (2 + l)) (1 + r)
equation-any a l r = let e = equality-any a in omega (arith, e)

undone-is : (c p : ℕ) → 1 ≤ p → equation_depth c (1 + max (1 + arrow p c) (1 + max (1 + arrow c p) 1)) 1 ≡ 7 + max c p
undone-is c p h =
    let both = 1 + max (1 + arrow p c) (1 + max (1 + arrow c p) 1) in
    let a : both ≡ 5 + max p c = composed-is p c in
    let e = equation-any c both 1 in
    omega (arith, a, e, h)

second_deep : (c p f : ℕ) → 1 ≤ p → second_depth c p f ≡ max (max c p + 10) (f + 3)
second_deep c p f h =
    let inner = equation_depth c (1 + max (1 + arrow p c) (1 + max (1 + arrow c p) 1)) 1 in
    let a : inner ≡ 7 + max c p = undone-is c p h in
    let b = arrow-is c 1 in
    let l : 1 ≤ arrow c 1 = omega arith in
    let e = equation-is (arrow c 1) (1 + max c inner) (1 + max c (1 + max f 1)) l in
    last c p f (arrow c 1) inner (equation_depth (arrow c 1) (1 + max c inner) (1 + max c (1 + max f 1))) h a b e
  where
    last : (c p f r n d : ℕ) → 1 ≤ p → n ≡ 7 + max c p → r ≡ 2 + max c 1 → d ≡ max (max (7 + r) (2 + (1 + max c n))) (1 + (1 + max c (1 + max f 1))) → max d 0
        ≡ max (max c p + 10) (f + 3)
    last c p f r n d h a b e = omega (arith, h, a, b, e)

-- the depths of the laws of version 5
abbrev free_first_depth : ℕ → ℕ → ℕ
free_first_depth c p = max (equation_depth p (1 + max (1 + arrow c p) (1 + max (1 + arrow p c) (1 + p))) (1 + p)) 0

abbrev free_second_depth : ℕ → ℕ → ℕ → ℕ
free_second_depth c p f = max (equation_depth 1 (1 + max f (1 + c)) (equation_depth c (1 + max (1 + arrow p c) (1 + max (1 + arrow c p) (1 + c))) (1 + c))) 0

applied-is : (c p n : ℕ) → n ≤ 3 + max c p → 1 + max (1 + arrow c p) (1 + max (1 + arrow p c) n) ≡ 5 + max c p
applied-is c p n h = let a = arrow-is c p in let b = arrow-is p c in omega (arith, a, b, h)

free_first_deep : (c p : ℕ) → 1 ≤ p → free_first_depth c p ≡ max c p + 7
free_first_deep c p h =
    let both = 1 + max (1 + arrow c p) (1 + max (1 + arrow p c) (1 + p)) in
    let a : both ≡ 5 + max c p = applied-is c p (1 + p) (omega arith) in
    let e = equation-is p both (1 + p) h in
    last c p both (equation_depth p both (1 + p)) h a e
  where
    last : (c p n d : ℕ) → 1 ≤ p → n ≡ 5 + max c p → d ≡ max (max (7 + p) (2 + n)) (1 + (1 + p)) → max d 0 ≡ max c p + 7
    last c p n d h a e = omega (arith, h, a, e)

free_undone-is : (c p : ℕ) → 1 ≤ p → equation_depth c (1 + max (1 + arrow p c) (1 + max (1 + arrow c p) (1 + c))) (1 + c) ≡ 7 + max c p
free_undone-is c p h =
    let both = 1 + max (1 + arrow p c) (1 + max (1 + arrow c p) (1 + c)) in
    let a : both ≡ 5 + max p c = applied-is p c (1 + c) (omega arith) in
    let e = equation-any c both (1 + c) in
    omega (arith, a, e, h)

free_second_deep : (c p f : ℕ) → 1 ≤ p → free_second_depth c p f ≡ max (max c p + 8) (f + 3)
free_second_deep c p f h =
    let inner = equation_depth c (1 + max (1 + arrow p c) (1 + max (1 + arrow c p) (1 + c))) (1 + c) in
    let a : inner ≡ 7 + max c p = free_undone-is c p h in
    let e = equation-is 1 (1 + max f (1 + c)) inner (omega arith) in
    last c p f inner (equation_depth 1 (1 + max f (1 + c)) inner) h a e
  where
    last : (c p f n d : ℕ) → 1 ≤ p → n ≡ 7 + max c p → d ≡ max (max (7 + 1) (2 + (1 + max f (1 + c)))) (1 + n) → max d 0 ≡ max (max c p + 8) (f + 3)
    last c p f n d h a e = omega (arith, h, a, e)

-- the depths in an article of a version
abbrev first_law_depth : Version → ℕ → ℕ → ℕ
first_law_depth Five c p = max c p + 7
first_law_depth Six c p = max (p + 9) (max c p + 8)

abbrev deepest_depth : Version → ℕ → ℕ → ℕ → ℕ
deepest_depth version c p f = max (max c p + height_above_types version) (f + 3)

-- the second law is the deepest of all
under : (a g h b i j : ℕ) → a ≡ b → g ≡ i → h ≡ j → b ≤ max i j → a ≤ max g h
under a g h b i j e f k l = omega (arith, e, f, k, l)

part-under : (version : Version) (c p f : ℕ) → p ≤ max (first_law_depth version c p) (deepest_depth version c p f)
part-under Five c p f = omega arith
part-under Six c p f = omega arith

function-under : (version : Version) (c p f : ℕ) → max c p + 2 ≤ max (first_law_depth version c p) (deepest_depth version c p f)
function-under Five c p f = omega arith
function-under Six c p f = omega arith

deepest : (version : Version) (c p f : ℕ) → max (first_law_depth version c p) (deepest_depth version c p f) ≡ deepest_depth version c p f
deepest Five c p f = omega arith
deepest Six c p f = omega arith

module _ (names : TypeNames) (c : HolType) (f : Term) where
  abbrev pub many : ℕ
  many = length names.variables

  -- how deep the new type is
  abbrev pub part_depth : ℕ
  part_depth = max many 1 + min many 1

  size_of_first : (version : Version) → sequent_size (first_law_of version names c) ≡ first_law_size version c many
  size_of_first Five = let e = size_of_variables names.variables in omega (arith, e)
  size_of_first Six = let e = size_of_variables names.variables in omega (arith, e)

  size_of_second : (version : Version) → sequent_size (second_law_of version names c f) ≡ second_law_size version c many f
  size_of_second Five = let e = size_of_variables names.variables in omega (arith, e)
  size_of_second Six = let e = size_of_variables names.variables in omega (arith, e)

  size_of_part : type_size (new_type names) ≡ many + 1
  size_of_part = let e = size_of_variables names.variables in omega (arith, e)

  size_of_abstraction : type_size (abstraction_type names c) ≡ type_size c + many + 2
  size_of_abstraction = let e = size_of_variables names.variables in omega (arith, e)

  size_of_representation : type_size (representation_type names c) ≡ type_size c + many + 2
  size_of_representation = let e = size_of_variables names.variables in omega (arith, e)

  -- the first law is larger than each type
  larger-types : (version : Version) → type_size c + many + 2 ≤ first_law_size version c many
  larger-types Five = omega arith
  larger-types Six = omega arith

  depth_of_part : type_depth (new_type names) ≡ part_depth
  depth_of_part = let e = count_of_variables names.variables in let f = depth_of_variables names.variables in omega (arith, e, f)

  depth_of_abstraction : type_depth (abstraction_type names c) ≡ max (type_depth c) part_depth + 2
  depth_of_abstraction = let e = depth_of_part in omega (arith, e)

  depth_of_representation : type_depth (representation_type names c) ≡ max (type_depth c) part_depth + 2
  depth_of_representation = let e = depth_of_part in omega (arith, e)

  one_deep : 1 ≤ part_depth
  one_deep = omega arith

  depth_of_first : (version : Version) → sequent_depth (first_law_of version names c) ≡ first_law_depth version (type_depth c) part_depth
  depth_of_first Five = ap (free_first_depth (type_depth c)) depth_of_part ∙ free_first_deep (type_depth c) part_depth one_deep
  depth_of_first Six = ap (first_depth (type_depth c)) depth_of_part ∙ first_deep (type_depth c) part_depth one_deep

  depth_of_second : (version : Version) → sequent_depth (second_law_of version names c f) ≡ deepest_depth version (type_depth c) part_depth (term_depth f)
  depth_of_second Five = ap (λ p. free_second_depth (type_depth c) p (term_depth f)) depth_of_part ∙ free_second_deep (type_depth c) part_depth (term_depth f)
      one_deep
  depth_of_second Six = ap (λ p. second_depth (type_depth c) p (term_depth f)) depth_of_part ∙ second_deep (type_depth c) part_depth (term_depth f) one_deep

  module _ (version : Version) where
    abbrev measures : List Measure
    measures = type_measures version names c f

    sizes : list_all (λ m. nat_le m.size greatest_size) measures ≡ nat_le (larger_law_size version c many f) greatest_size
    sizes =
        let a = size_of_part in
        let b = size_of_abstraction in
        let d = size_of_representation in
        let g = size_of_first version in
        let h = size_of_second version in
        let l = larger-types version in
        five (type_size (new_type names)) (type_size (abstraction_type names c)) (type_size (representation_type names c))
        (sequent_size (first_law_of version names c)) (sequent_size (second_law_of version names c f)) greatest_size
        (omega (arith, a, g, l)) (omega (arith, b, g, l)) (omega (arith, d, g, l)) ∙ (λ i. nat_le (max (g i) (h i)) greatest_size)

    depths : list_all (λ m. nat_le m.depth greatest_depth) measures ≡ nat_le (second_law_depth version c many f) greatest_depth
    depths =
        let g = depth_of_first version in
        let h = depth_of_second version in
        let d = type_depth c in
        let e = term_depth f in
        five (type_depth (new_type names)) (type_depth (abstraction_type names c)) (type_depth (representation_type names c))
        (sequent_depth (first_law_of version names c)) (sequent_depth (second_law_of version names c f)) greatest_depth
        (under _ _ _ _ _ _ depth_of_part g h (part-under version d part_depth e))
        (under _ _ _ _ _ _ depth_of_abstraction g h (function-under version d part_depth e))
        (under _ _ _ _ _ _ depth_of_representation g h (function-under version d part_depth e))
        ∙ ap (λ n. nat_le n greatest_depth) ((λ i. max (g i) (h i)) ∙ deepest version d part_depth e)

    -- what is too large
    pub measures-large : greatest_size < larger_law_size version c many f → in_limits measures ≡ Err TooLarge
    measures-large l = unmet (list_all (λ m. nat_le m.size greatest_size) measures) TooLarge _
        (sizes ∙ not_le (larger_law_size version c many f) greatest_size l)

    -- what isn't, and is too deep
    pub measures-deep : larger_law_size version c many f ≤ greatest_size → greatest_depth < second_law_depth version c many f → in_limits measures ≡ Err TooDeep
    measures-deep s l =
        met (list_all (λ m. nat_le m.size greatest_size) measures) TooLarge _ (sizes ∙ is_le (larger_law_size version c many f) greatest_size s)
        ∙ unmet (list_all (λ m. nat_le m.depth greatest_depth) measures) TooDeep _ (depths ∙ not_le (second_law_depth version c many f) greatest_depth l)

    -- what is neither
    pub measures-small : larger_law_size version c many f ≤ greatest_size → second_law_depth version c many f ≤ greatest_depth → AreSmall measures
    measures-small s l = record {
      sizes = sizes ∙ is_le (larger_law_size version c many f) greatest_size s;
      depths =
          depths ∙ is_le (second_law_depth version c many f) greatest_depth l;
    }

    and-true : (b : Bool) → (b && true) ≡ b
    and-true true = refl
    and-true false = refl

    -- the number of parameters is judged last
    pub measures-counted : AreSmall measures
        → in_limits measures ≡ demand
        (nat_le (parameter_count (first_law_of version names c)) greatest_parameter_count && nat_le (parameter_count (second_law_of version names c f))
        greatest_parameter_count) TooManyParams
    measures-counted h =
        met (list_all (λ m. nat_le m.size greatest_size) measures) TooLarge _ h.sizes
        ∙ met (list_all (λ m. nat_le m.depth greatest_depth) measures) TooDeep _ h.depths
        ∙ ap (λ b. demand (nat_le (parameter_count (first_law_of version names c)) greatest_parameter_count && b) TooManyParams)
        (and-true (nat_le (parameter_count (second_law_of version names c f)) greatest_parameter_count))
