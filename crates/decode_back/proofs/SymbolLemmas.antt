-- Lemmas on the symbols of operators.
use Rattle.std.proofs.Common.{◌++◌, ◌≡◌, ◌<◌, ◌⊎◌, inl, inr, ℕ, suc, ◌+◌, ◌-◌, ◌&&◌, List, [], ◌∷◌, Bool, true, false, cond, Option, Some, None, drop, length, refl, sym, ap, ◌∙◌, arith}
use Rattle.std.specs.Prelude.{◌^◌, not, replicate, codes, decimal}
use Rattle.lp_spec.specs.Numerals.{numeral}
use Rattle.translate_laws.specs.NumeralLaws.{numeral-decimal}
use Rattle.std.specs.Option.{unwrap_or}
use Rattle.std.specs.Bool.{Decides}
use Rattle.std.proofs.lemmas.Bool.Decides.{same_from_decides}
use Rattle.hol_spec.specs.Names.{Name}
use Rattle.hol_spec.specs.NameEquality.{name_eq}
use Rattle.hol_laws.specs.NameEqualityLaws.{name_eq-Decides}
use Rattle.hol_spec.specs.Primitives.{arrow_name, bool_name, ind_name, primitive_arity}
use Rattle.lp_spec.specs.Trees.{Tree, SortType, Pi}
use Rattle.lp_spec.specs.Trees.{tree_eq}
use Rattle.lp_spec.specs.Modules.{products, types}
use Rattle.lp_term.specs.Tables.{tree_at, Holds}
use Rattle.std.proofs.lemmas.List.{length-drop}
use Rattle.hol_spec.specs.Mangling.{mangled, IsName}
use Rattle.hol_name.specs.Demangled.{HasNoName}
use Rattle.lp_spec.specs.Modules.{Declaration, symbol_name, symbol_type}
use Rattle.decode_spec.specs.Options.{bind, provided}
use Rattle.decode_laws.specs.OptionLaws.{Some-or_None}
use Rattle.decode_spec.specs.Demangled.{demangled}
use Rattle.decode_laws.specs.DemangledLaws.{demangled-is, demangled-mangled}
use Rattle.decode_spec.specs.Decode.{behind, name_behind, is_lacking, has_type, named_operator}

abbrev arity_by : Bool → Bool → Bool → Option ℕ
arity_by a b i = cond a (Some 2) (cond b (Some 0) (cond i (Some 0) None))

arity-by : (n : Name) (a b i : Bool) → Decides a (n ≡ arrow_name) → Decides b (n ≡ bool_name) → Decides i (n ≡ ind_name) → primitive_arity n ≡ arity_by a b i
arity-by n a b i p q r =
    let e : name_eq n arrow_name ≡ a = same_from_decides (name_eq n arrow_name) a (name_eq-Decides n arrow_name) p in
    let f : name_eq n bool_name ≡ b = same_from_decides (name_eq n bool_name) b (name_eq-Decides n bool_name) q in
    let g : name_eq n ind_name ≡ i = same_from_decides (name_eq n ind_name) i (name_eq-Decides n ind_name) r in
    λ j. arity_by (e j) (f j) (g j)

pub primitive-first : (n : Name) (a : Bool) → Decides a (n ≡ arrow_name) → a ≡ true → true ≡ not (is_lacking (primitive_arity n))
primitive-first n a p e =
    let f : name_eq n arrow_name ≡ true = same_from_decides (name_eq n arrow_name) a (name_eq-Decides n arrow_name) p ∙ e in
    rw f refl

pub primitive-second : (n : Name) (a b : Bool) → Decides a (n ≡ arrow_name) → a ≡ false → Decides b (n ≡ bool_name) → b ≡ true → true
    ≡ not (is_lacking (primitive_arity n))
primitive-second n a b p e q f =
    let g : name_eq n arrow_name ≡ false = same_from_decides (name_eq n arrow_name) a (name_eq-Decides n arrow_name) p ∙ e in
    let h : name_eq n bool_name ≡ true = same_from_decides (name_eq n bool_name) b (name_eq-Decides n bool_name) q ∙ f in
    rw (g, h) refl

told : (i : Bool) → i ≡ not (is_lacking (arity_by false false i))
told true = refl
told false = refl

pub primitive-third : (n : Name) (a b i : Bool) → Decides a (n ≡ arrow_name) → a ≡ false → Decides b (n ≡ bool_name) → b ≡ false → Decides i (n ≡ ind_name) → i
    ≡ not (is_lacking (primitive_arity n))
primitive-third n a b i p e q f r = told i ∙ sym
    (ap (λ o. not (is_lacking o)) (arity-by n a b i p q r ∙ ap (λ x. arity_by x b i) e ∙ ap (λ x. arity_by false x i) f))

-- one type of the product
of_tree : (whole : Bool) (t d b : Tree) (k : ℕ) → t ≡ Pi d b → tree_eq d types ≡ true → whole ≡ tree_eq t (products (replicate (suc k) types) types) → whole
    ≡ tree_eq b (products (replicate k types) types)
of_tree whole t d b k e f g = g ∙ ap (λ x. tree_eq x (products (replicate (suc k) types) types)) e ∙ (rw f refl)

pub one_type_off : (whole : Bool) (trees : List Tree) (i domain body arity counter : ℕ) → counter < arity
    → Holds trees i (Pi (tree_at trees domain) (tree_at trees body)) → tree_eq (tree_at trees domain) types ≡ true
    → whole ≡ tree_eq (tree_at trees i) (products (replicate (arity - counter) types) types) → whole
    ≡ tree_eq (tree_at trees body) (products (replicate (arity - (counter + 1)) types) types)
one_type_off whole trees i domain body arity counter l h f g =
    let e : arity - counter ≡ suc (arity - (counter + 1)) = omega (arith, l) in
    let t : tree_at trees i ≡ Pi (tree_at trees domain) (tree_at trees body) = ap (λ o. unwrap_or o SortType) h in
    of_tree whole (tree_at trees i) (tree_at trees domain) (tree_at trees body) (arity - (counter + 1)) t f
    (g ∙ ap (λ k. tree_eq (tree_at trees i) (products (replicate k types) types)) e)

-- a front that goes on where the text ends
ends : (front text : List ℕ) → 0 < length front → length text < 1 → None ≡ behind front text
ends [] text h k = absurd (omega (arith, h))
ends (a ∷ front) [] h k = refl
ends (a ∷ front) (b ∷ text) h k = absurd (omega (arith, k))

pub no_more : (front text : List ℕ) (i : ℕ) (whole : Option (List ℕ)) → i < length front → length text < 1 → whole ≡ behind (drop i front) text → None ≡ whole
no_more front text i whole h k e = let l : 0 < length (drop i front) = omega (arith, h, length-drop i front) in ends (drop i front) text l k ∙ sym e

-- the name behind a front
module _ (d : List Declaration) (s : ℕ) (front : List ℕ) where
  pub no_front : behind front (symbol_name d s) ≡ None → None ≡ name_behind d s front
  no_front e = sym (ap (λ o. bind o demangled) e)

  pub no_name : (text : List ℕ) → behind front (symbol_name d s) ≡ Some text → HasNoName text → None ≡ name_behind d s front
  no_name text e f = sym (ap (λ o. bind o demangled) e ∙ lacking)
    where
      go : ((n : Name) × (demangled text ≡ Some n)) ⊎ (demangled text ≡ None) → demangled text ≡ None
      go (inl p) = let n = demangled-is text p.0 p.1 in absurd (f p.0 n.is_name n.has)
      go (inr q) = q

      lacking : demangled text ≡ None
      lacking = go (Some-or_None (demangled text))

  pub has_name : (text : List ℕ) (name : Name) → behind front (symbol_name d s) ≡ Some text → IsName name → mangled name ≡ text → Some name
      ≡ name_behind d s front
  has_name text name e is m = sym (ap (λ o. bind o demangled) e ∙ ap demangled (sym m) ∙ demangled-mangled name is)

-- the operator that a name tells
module _ (d : List Declaration) (s : ℕ) (front : List ℕ) (arity : ℕ) where
  abbrev test : Name → Bool
  test n = is_lacking (primitive_arity n) && has_type (symbol_type d s) (products (replicate arity types) types)

  abbrev tested : Name → Option Name
  tested n = provided (test n) (Some n)

  pub unnamed : None ≡ name_behind d s front → None ≡ named_operator d s front arity
  unnamed e = ap (λ o. bind o tested) e

  module _ (name : Name) (is : Some name ≡ name_behind d s front) where
    found : named_operator d s front arity ≡ tested name
    found = ap (λ o. bind o tested) (sym is)

    unless : (a b : Bool) → a ≡ false → provided (a && b) (Some name) ≡ None
    unless true b f = absurd (cc)
    unless false b f = refl

    unless-second : (a b : Bool) → b ≡ false → provided (a && b) (Some name) ≡ None
    unless-second true true f = absurd (cc)
    unless-second true false f = refl
    unless-second false b f = refl

    both : (a b : Bool) → a ≡ true → b ≡ true → provided (a && b) (Some name) ≡ Some name
    both true b f g = ap (λ x. provided x (Some name)) g
    both false b f g = absurd (cc)

    negated : (a b : Bool) → b ≡ not a → b ≡ true → a ≡ false
    negated true b f g = absurd (cc)
    negated false b f g = refl

    kept : (a b : Bool) → b ≡ not a → b ≡ false → a ≡ true
    kept true b f g = refl
    kept false b f g = absurd (cc)

    pub is-primitive : (b : Bool) → b ≡ not (is_lacking (primitive_arity name)) → b ≡ true → None ≡ named_operator d s front arity
    is-primitive b f g = sym
        (found ∙ unless (is_lacking (primitive_arity name)) (has_type (symbol_type d s) (products (replicate arity types) types))
        (negated (is_lacking (primitive_arity name)) b f g))

    typed : (A : Tree) (b : Bool) → symbol_type d s ≡ Some A → b ≡ tree_eq A (products (replicate arity types) types)
        → has_type (symbol_type d s) (products (replicate arity types) types) ≡ b
    typed A b t f = ap (λ o. has_type o (products (replicate arity types) types)) t ∙ sym f

    pub other-type : (A : Tree) (b : Bool) → symbol_type d s ≡ Some A → b ≡ tree_eq A (products (replicate arity types) types) → b ≡ false → None
        ≡ named_operator d s front arity
    other-type A b t f g = sym
        (found ∙ unless-second (is_lacking (primitive_arity name)) (has_type (symbol_type d s) (products (replicate arity types) types)) (typed A b t f ∙ g))

    pub is-named : (A : Tree) (a b : Bool) → a ≡ not (is_lacking (primitive_arity name)) → a ≡ false → symbol_type d s ≡ Some A → b
        ≡ tree_eq A (products (replicate arity types) types) → b ≡ true
        → Some name ≡ named_operator d s front arity
    is-named A a b f g t h k =
        sym (found ∙ both (is_lacking (primitive_arity name)) (has_type (symbol_type d s) (products (replicate arity types) types))
        (kept (is_lacking (primitive_arity name)) a f g) (typed A b t h ∙ k))

-- the front of the name of an input operator
pub front-numeral : (k : ℕ) → k < 2 ^ 64 → codes "t" ++ decimal k ++ codes "_" ≡ codes "t" ++ numeral k ++ codes "_"
front-numeral k l = ap (λ (ds : List ℕ). codes "t" ++ ds ++ codes "_") (sym (numeral-decimal k (omega (arith, l))))
