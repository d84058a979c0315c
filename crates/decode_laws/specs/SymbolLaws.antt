-- The operator of a symbol is found exactly where it stands for one.
use Rattle.std.proofs.Common.{◌≡◌, ◌≤◌, ℕ, ⊎_elim, List, [], ◌∷◌, ◌++◌, Bool, true, ◌&&◌, Option, Some, None, refl, sym, ap, subst, ◌∙◌, arith}
use Rattle.std.specs.Prelude.{nat_eq, replicate, codes}
use Rattle.std.specs.Bool.{Decides}
use Rattle.std.proofs.lemmas.Bool.Decides.{Decides-eqb}
use Rattle.std.proofs.lemmas.Bool.{and_parts, and_from}
use Rattle.hol_spec.specs.Names.{Name}
use Rattle.hol_spec.specs.Mangling.{mangled, IsName}
use Rattle.hol_spec.specs.Primitives.{arrow_name, bool_name, ind_name, primitive_arity}
use Rattle.lp_spec.specs.Trees.{Tree, tree_eq}
use Rattle.lp_binding_laws.specs.TreeEquality.{tree_eq-refl, tree_eq-true}
use Rattle.lp_spec.specs.Modules.{Declaration, arr_symbol, bool_symbol, ind_symbol, symbol_name, symbol_type, products, types}
use Rattle.lp_spec.specs.Numerals.{numeral}
use Rattle.translate_spec.specs.OperatorMeaning.{NamesOperator, MeansOperator}
use Rattle.translate_spec.specs.OperatorMeaning as operators
use Rattle.decode_spec.specs.Options.{bind, provided}
use Rattle.decode_laws.specs.OptionLaws.{some-injective, bind-is, or_else-is, or_else-first, or_else-second, provided-is, provided-true}
use Rattle.decode_spec.specs.Demangled.{demangled}
use Rattle.decode_laws.specs.DemangledLaws.{demangled-is, demangled-mangled}
use Rattle.decode_spec.specs.Decode.{behind, name_behind, has_type, is_lacking, named_operator, primitive_operator, operator_at}

-- what stands behind a front
pub behind-is : (front text rest : List ℕ) → behind front text ≡ Some rest → text ≡ front ++ rest
behind-is [] text rest e = some-injective e
behind-is (a ∷ front) [] rest e = absurd (cc)
behind-is (a ∷ front) (b ∷ text) rest e =
    let p = provided-is (nat_eq a b) (behind front text) rest e in
    λ i. sym ((Decides-eqb a b).0 p.0) i ∷ behind-is front text rest p.1 i

pub behind-front : (front rest : List ℕ) → behind front (front ++ rest) ≡ Some rest
behind-front [] rest = refl
behind-front (a ∷ front) rest = provided-true (nat_eq a a) (behind front (front ++ rest)) ((Decides-eqb a a).1 refl) ∙ behind-front front rest

-- the tests of a type and of something that is lacking
pub has_type-Decides : (o : Option Tree) (A : Tree) → Decides (has_type o A) (o ≡ Some A)
has_type-Decides None A = (λ h. absurd (cc), λ h. absurd (cc))
has_type-Decides (Some B) A = (λ h. ap Some (tree_eq-true B A h), λ h. subst (λ C. tree_eq B C ≡ true) (some-injective h) (tree_eq-refl B))

pub is_lacking-Decides : {A : Type 0} (o : Option A) → Decides (is_lacking o) (o ≡ None)
is_lacking-Decides None = (λ h. refl, λ h. refl)
is_lacking-Decides (Some x) = (λ h. absurd (cc), λ h. absurd (cc))

-- the name of a symbol behind a front
pub record HasName (d : List Declaration) (s : ℕ) (front : List ℕ) (name : Name) : Type 0 where
  pub is_name : IsName name
  pub text : symbol_name d s ≡ front ++ mangled name

-- the name behind a front is found exactly where the symbol has it
pub name_behind-is : (d : List Declaration) (s : ℕ) (front : List ℕ) (name : Name) → name_behind d s front ≡ Some name → HasName d s front name
name_behind-is d s front name e =
    let p = bind-is (behind front (symbol_name d s)) demangled name e in
    let n = demangled-is p.0 name p.2 in
    record { is_name = n.is_name; text = behind-is front (symbol_name d s) p.0 p.1 ∙ ap (λ r. front ++ r) (sym n.has) }

pub name_behind-has : (d : List Declaration) (s : ℕ) (front : List ℕ) (name : Name) → HasName d s front name → name_behind d s front ≡ Some name
name_behind-has d s front name h =
    ap (λ text. bind (behind front text) demangled) h.text ∙ ap (λ o. bind o demangled) (behind-front front (mangled name)) ∙ demangled-mangled name h.is_name

-- a named operator is found exactly where the symbol names it
pub named_operator-is : (d : List Declaration) (s : ℕ) (front : List ℕ) (k : ℕ) (name : Name) → named_operator d s front k ≡ Some name
    → NamesOperator d s front name k
named_operator-is d s front k name e =
    let tree = products (replicate k types) types in
    let test : Name → Bool = λ n. is_lacking (primitive_arity n) && has_type (symbol_type d s) tree in
    let p = bind-is (name_behind d s front) (λ n. provided (test n) (Some n)) name e in
    let q = provided-is (test p.0) (Some p.0) name p.2 in
    let same : p.0 ≡ name = some-injective q.1 in
    let both = and_parts (is_lacking (primitive_arity p.0)) (has_type (symbol_type d s) tree) q.0 in
    let h = name_behind-is d s front p.0 p.1 in
    subst (λ n. NamesOperator d s front n k) same (record {
      is_name = h.is_name;
      not_primitive = (is_lacking-Decides (primitive_arity p.0)).0 both.0;
      text = h.text;
      ty = (has_type-Decides (symbol_type d s) tree).0 both.1;
    })

pub named_operator-names : (d : List Declaration) (s : ℕ) (front : List ℕ) (k : ℕ) (name : Name) → NamesOperator d s front name k
    → named_operator d s front k ≡ Some name
named_operator-names d s front k name h =
    let tree = products (replicate k types) types in
    let test : Name → Bool = λ n. is_lacking (primitive_arity n) && has_type (symbol_type d s) tree in
    ap (λ o. bind o (λ n. provided (test n) (Some n))) (name_behind-has d s front name (record { is_name = h.is_name; text = h.text }))
    ∙ provided-true (test name) (Some name)
    (and_from (is_lacking (primitive_arity name)) (has_type (symbol_type d s) tree) ((is_lacking-Decides (primitive_arity name)).1 h.not_primitive)
    ((has_type-Decides (symbol_type d s) tree).1 h.ty))

-- a primitive operator is found at its symbol alone
one_primitive : (s k r j : ℕ) (n m : Name) → provided (nat_eq s r && nat_eq k j) (Some n) ≡ Some m → (s ≡ r) × (k ≡ j) × (n ≡ m)
one_primitive s k r j n m e =
    let p = provided-is (nat_eq s r && nat_eq k j) (Some n) m e in
    let q = and_parts (nat_eq s r) (nat_eq k j) p.0 in
    ((Decides-eqb s r).0 q.0, (Decides-eqb k j).0 q.1, some-injective p.1)

-- what a symbol stands for, at an equal number of arguments and by an equal name
means_at : (d : List Declaration) (s k j : ℕ) (n m : Name) → k ≡ j → n ≡ m → MeansOperator d s n j → MeansOperator d s m k
means_at d s k j n m e f h = subst (λ i. MeansOperator d s m i) (sym e) (subst (λ x. MeansOperator d s x j) f h)

-- what is found is what the symbol stands for, and the reverse
pub operator_at-is : (d : List Declaration) (s k : ℕ) (m : Name) → operator_at d s k ≡ Some m → MeansOperator d s m k
operator_at-is d s k m e = ⊎_elim primitive
    (λ f. ⊎_elim (λ g. operators.MeansOperator.input (named_operator-is d s (codes "t" ++ numeral k ++ codes "_") k m g))
    (λ g. operators.MeansOperator.defined (named_operator-is d s (codes "o_") k m g)) (or_else-is _ _ m f)) (or_else-is _ _ m e)
  where
    individual : provided (nat_eq s ind_symbol && nat_eq k 0) (Some ind_name) ≡ Some m → MeansOperator d s m k
    individual f = let p = one_primitive s k ind_symbol 0 ind_name m f in means_at d s k 0 ind_name m p.1 p.2 (operators.MeansOperator.individuals p.0)

    truth : provided (nat_eq s bool_symbol && nat_eq k 0) (Some bool_name) ≡ Some m → MeansOperator d s m k
    truth f = let p = one_primitive s k bool_symbol 0 bool_name m f in means_at d s k 0 bool_name m p.1 p.2 (operators.MeansOperator.truth_values p.0)

    arrow : provided (nat_eq s arr_symbol && nat_eq k 2) (Some arrow_name) ≡ Some m → MeansOperator d s m k
    arrow f = let p = one_primitive s k arr_symbol 2 arrow_name m f in means_at d s k 2 arrow_name m p.1 p.2 (operators.MeansOperator.arrow p.0)

    primitive : primitive_operator s k ≡ Some m → MeansOperator d s m k
    primitive f = ⊎_elim arrow (λ g. ⊎_elim truth individual (or_else-is _ _ m g)) (or_else-is _ _ m f)

-- the first byte of a text
abbrev pub begins : List ℕ → ℕ
begins [] = 0
begins (b ∷ text) = b

-- the first byte of the name of a symbol that stands for an operator or a constant tells whether it is primitive, an input or defined
primitive_operator-begins : (d : List Declaration) (s k : ℕ) (m : Name) → primitive_operator s k ≡ Some m → begins (symbol_name d s) ≤ 105
primitive_operator-begins d s k m e = ⊎_elim arrow (λ g. ⊎_elim truth individual (or_else-is _ _ m g)) (or_else-is _ _ m e)
  where
    arrow : provided (nat_eq s arr_symbol && nat_eq k 2) (Some arrow_name) ≡ Some m → begins (symbol_name d s) ≤ 105
    arrow f = let p = one_primitive s k arr_symbol 2 arrow_name m f in let b : begins (symbol_name d s) ≡ 97 =
        ap (λ r. begins (symbol_name d r)) p.0 in omega (arith, b)

    truth : provided (nat_eq s bool_symbol && nat_eq k 0) (Some bool_name) ≡ Some m → begins (symbol_name d s) ≤ 105
    truth f = let p = one_primitive s k bool_symbol 0 bool_name m f in let b : begins (symbol_name d s) ≡ 98 =
        ap (λ r. begins (symbol_name d r)) p.0 in omega (arith, b)

    individual : provided (nat_eq s ind_symbol && nat_eq k 0) (Some ind_name) ≡ Some m → begins (symbol_name d s) ≤ 105
    individual f = let p = one_primitive s k ind_symbol 0 ind_name m f in let b : begins (symbol_name d s) ≡ 105 =
        ap (λ r. begins (symbol_name d r)) p.0 in omega (arith, b)

input_operator-begins : (d : List Declaration) (s k : ℕ) (m : Name) → NamesOperator d s (codes "t" ++ numeral k ++ codes "_") m k
    → begins (symbol_name d s) ≡ 116
input_operator-begins d s k m h = ap begins h.text

defined_operator-begins : (d : List Declaration) (s k : ℕ) (m : Name) → NamesOperator d s (codes "o_") m k → begins (symbol_name d s) ≡ 111
defined_operator-begins d s k m h = ap begins h.text

pub operator_at-means : (d : List Declaration) (s k : ℕ) (m : Name) → MeansOperator d s m k → operator_at d s k ≡ Some m
operator_at-means d s k m (operators.MeansOperator.arrow e) = subst (λ r. operator_at d r 2 ≡ Some arrow_name) (sym e) refl
operator_at-means d s k m (operators.MeansOperator.truth_values e) = subst (λ r. operator_at d r 0 ≡ Some bool_name) (sym e) refl
operator_at-means d s k m (operators.MeansOperator.individuals e) = subst (λ r. operator_at d r 0 ≡ Some ind_name) (sym e) refl
operator_at-means d s k m (operators.MeansOperator.input h) =
    or_else-second (primitive_operator s k) _ m (λ y e. let b = primitive_operator-begins d s k y e in let c =
    input_operator-begins d s k m h in absurd (omega (arith, b, c)))
    (or_else-first _ _ m (named_operator-names d s (codes "t" ++ numeral k ++ codes "_") k m h))
operator_at-means d s k m (operators.MeansOperator.defined h) =
    let c = defined_operator-begins d s k m h in
    or_else-second (primitive_operator s k) _ m (λ y e. let b = primitive_operator-begins d s k y e in absurd (omega (arith, b, c)))
    (or_else-second (named_operator d s (codes "t" ++ numeral k ++ codes "_") k) _ m
    (λ y e. let b = input_operator-begins d s k y (named_operator-is d s (codes "t" ++ numeral k ++ codes "_") k y e) in absurd (omega (arith, b, c)))
    (named_operator-names d s (codes "o_") k m h))
