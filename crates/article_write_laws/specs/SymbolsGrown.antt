-- Symbols of a run as it goes on: what was used stays so, the article's symbols stay among the run's, and what a step was made from can be used.
use Rattle.std.proofs.Common.{◌≡◌, ℕ, ◌==◌, Bool, true, false, ◌||◌, cond, List, [], ◌∷◌, ◌++◌, length, Option, None, Some, refl, sym, ap, subst, ◌∙◌, arith}
use Rattle.std.specs.Prelude.{is_some, nat_eq}
use Rattle.std.proofs.lemmas.Bool.Decides.{nat_tests}
use Rattle.std.specs.Option.{option_or}
use Rattle.std.specs.List.{list_any}
use Rattle.std.proofs.lemmas.Bool.{or_parts, and_parts}
use Rattle.common.specs.declared.faults.Kind.TheVariants.{BadArity, BadConstType}
use Rattle.hol_spec.specs.Names.{Name}
use Rattle.hol_spec.specs.NameEquality.{name_eq}
use Rattle.hol_laws.specs.NameEqualityLaws.{name_eq-Decides}
use Rattle.hol_spec.specs.Types.{HolType, HolTypes, count}
use Rattle.hol_spec.specs.Primitives.{primitive_type, primitive_arity}
use Rattle.hol_laws.specs.SubstitutionLaws.{is_instance-Decides}
use Rattle.hol_spec.specs.Terms.{Term, type_of}
use Rattle.hol_spec.specs.NewTypes.{abstraction_type, representation_type}
use Rattle.hol_spec.specs.Symbols.{Symbol, generic_type, operator_arity, defined_type, defined_arity, first_defined_type, first_defined_arity, is_input_constant, is_input_operator, is_input_operator_named, is_taken_constant, is_taken_operator}
use Rattle.hol_spec.specs.Taking.{Takes}
use Rattle.hol_spec.specs.Taken.{OperatorTaken, ConstantTaken, TypeTaken, TypesTaken, TermTaken}
use Rattle.hol_spec.specs.Taken as taken
use Rattle.article_spec.specs.Conditions.{demand, arity_fits, generic_fits}
use Rattle.article_write_laws.specs.SymbolUses.{AreAmong, UsesConstant, UsesOperator, TypeUses, TypesUse, TermUses, any-last, either}

-- More symbols
or-nothing : {A : Type 0} (o : Option A) → option_or o None ≡ o
or-nothing None = refl
or-nothing (Some x) = refl

-- with one symbol more a name has its meaning from before, or a new one where it had none
type-push : (xs : List Symbol) (x : Symbol) (n : Name) → generic_type (xs ++ x ∷ []) n ≡ option_or (generic_type xs n) (defined_type n x)
type-push xs x n = ap (option_or (primitive_type n)) (go xs) ∙ assoc (primitive_type n) (first_defined_type n xs) (defined_type n x)
  where
    assoc : {A : Type 0} (o p q : Option A) → option_or o (option_or p q) ≡ option_or (option_or o p) q
    assoc None p q = refl
    assoc (Some y) p q = refl

    go : (xs : List Symbol) → first_defined_type n (xs ++ x ∷ []) ≡ option_or (first_defined_type n xs) (defined_type n x)
    go [] = or-nothing (defined_type n x)
    go (y ∷ xs) = ap (option_or (defined_type n y)) (go xs) ∙ assoc (defined_type n y) (first_defined_type n xs) (defined_type n x)

arity-push : (xs : List Symbol) (x : Symbol) (n : Name) → operator_arity (xs ++ x ∷ []) n ≡ option_or (operator_arity xs n) (defined_arity n x)
arity-push xs x n = ap (option_or (primitive_arity n)) (go xs) ∙ assoc (primitive_arity n) (first_defined_arity n xs) (defined_arity n x)
  where
    assoc : {A : Type 0} (o p q : Option A) → option_or o (option_or p q) ≡ option_or (option_or o p) q
    assoc None p q = refl
    assoc (Some y) p q = refl

    go : (xs : List Symbol) → first_defined_arity n (xs ++ x ∷ []) ≡ option_or (first_defined_arity n xs) (defined_arity n x)
    go [] = or-nothing (defined_arity n x)
    go (y ∷ xs) = ap (option_or (defined_arity n y)) (go xs) ∙ assoc (defined_arity n y) (first_defined_arity n xs) (defined_arity n x)

is_some-or : {A : Type 0} (o p : Option A) → is_some (option_or o p) ≡ (is_some o || is_some p)
is_some-or None p = refl
is_some-or (Some x) p = refl

shuffle : (a b c d : Bool) → ((a || b) || (c || d)) ≡ ((a || c) || (b || d))
shuffle true b c d = refl
shuffle false true true d = refl
shuffle false true false d = refl
shuffle false false c d = refl

-- a symbol takes a name as a constant, as an operator
abbrev pub takes_constant : Name → Symbol → Bool
takes_constant n x = is_some (defined_type n x) || is_input_constant n x

abbrev pub takes_operator : Name → Symbol → Bool
takes_operator n x = is_some (defined_arity n x) || is_input_operator_named n x

pub taken_constant-push : (xs : List Symbol) (x : Symbol) (n : Name) → is_taken_constant (xs ++ x ∷ []) n ≡ (is_taken_constant xs n || takes_constant n x)
taken_constant-push xs x n =
    ap (λ o. is_some o || list_any (is_input_constant n) (xs ++ x ∷ [])) (type-push xs x n)
    ∙ ap (λ b. b || list_any (is_input_constant n) (xs ++ x ∷ [])) (is_some-or (generic_type xs n) (defined_type n x))
    ∙ ap (λ b. (is_some (generic_type xs n) || is_some (defined_type n x)) || b) (any-last (is_input_constant n) xs x)
    ∙ shuffle (is_some (generic_type xs n)) (is_some (defined_type n x)) (list_any (is_input_constant n) xs) (is_input_constant n x)

pub taken_operator-push : (xs : List Symbol) (x : Symbol) (n : Name) → is_taken_operator (xs ++ x ∷ []) n ≡ (is_taken_operator xs n || takes_operator n x)
taken_operator-push xs x n =
    ap (λ o. is_some o || list_any (is_input_operator_named n) (xs ++ x ∷ [])) (arity-push xs x n)
    ∙ ap (λ b. b || list_any (is_input_operator_named n) (xs ++ x ∷ [])) (is_some-or (operator_arity xs n) (defined_arity n x))
    ∙ ap (λ b. (is_some (operator_arity xs n) || is_some (defined_arity n x)) || b) (any-last (is_input_operator_named n) xs x)
    ∙ shuffle (is_some (operator_arity xs n)) (is_some (defined_arity n x)) (list_any (is_input_operator_named n) xs) (is_input_operator_named n x)

or-is : {A : Type 0} (o p : Option A) (g : A) → o ≡ Some g → option_or o p ≡ Some g
or-is None p g e = absurd (cc)
or-is (Some x) p g e = e

true-or : (a b : Bool) → a ≡ true → (a || b) ≡ true
true-or true b e = refl
true-or false b e = absurd (cc)

or-true : (a b : Bool) → b ≡ true → (a || b) ≡ true
or-true true b e = refl
or-true false b e = e

-- the run goes on, the article doesn't
pub among-run : (all some : List Symbol) (x : Symbol) → AreAmong all some → AreAmong (all ++ x ∷ []) some
among-run all some x among = record {
  types = λ n g e. type-push all x n ∙ or-is (generic_type all n) (defined_type n x) g (among.types n g e);
  arities = λ n k e. arity-push all x n ∙ or-is (operator_arity all n) (defined_arity n x) k (among.arities n k e);
  constants = λ n e. taken_constant-push all x n ∙ true-or (is_taken_constant all n) (takes_constant n x) (among.constants n e);
  operators = λ n e. taken_operator-push all x n ∙ true-or (is_taken_operator all n) (takes_operator n x) (among.operators n e);
}

-- both go on with one symbol that is new in the run
either-option : {A : Type 0} (some all x : Option A) (g : A) → option_or some x ≡ Some g → ((h : A) → some ≡ Some h → all ≡ Some h)
    → (is_some x ≡ true → all ≡ None) → option_or all x ≡ Some g
either-option (Some h) all x g e f new = or-is all x g (f g e)
either-option None all None g e f new = absurd (cc)
either-option None all (Some y) g e f new = ap (λ o. option_or o (Some y)) (new refl) ∙ e

pub among-both : (all some : List Symbol) (x : Symbol) → AreAmong all some → ((n : Name) → is_some (defined_type n x) ≡ true → generic_type all n ≡ None)
    → ((n : Name) → is_some (defined_arity n x) ≡ true → operator_arity all n ≡ None)
    → AreAmong (all ++ x ∷ []) (some ++ x ∷ [])
among-both all some x among c o = record {
  types = λ n g e. type-push all x n ∙ either-option (generic_type some n) (generic_type all n) (defined_type n x) g (sym (type-push some x n) ∙ e)
      (among.types n) (c n);
  arities = λ n k e. arity-push all x n ∙ either-option (operator_arity some n) (operator_arity all n) (defined_arity n x) k (sym (arity-push some x n) ∙ e)
      (among.arities n) (o n);
  constants = λ n e. taken_constant-push all x n ∙ either (is_taken_constant some n) (takes_constant n x) (sym (taken_constant-push some x n) ∙ e)
      (λ f. true-or (is_taken_constant all n) (takes_constant n x) (among.constants n f)) (λ f. or-true (is_taken_constant all n) (takes_constant n x) f);
  operators = λ n e. taken_operator-push all x n ∙ either (is_taken_operator some n) (takes_operator n x) (sym (taken_operator-push some x n) ∙ e)
      (λ f. true-or (is_taken_operator all n) (takes_operator n x) (among.operators n f)) (λ f. or-true (is_taken_operator all n) (takes_operator n x) f);
}

-- not taken in the run, not taken in the article
pub not-among : (all some : List Symbol) (n : Name) → AreAmong all some → is_taken_constant all n ≡ false → is_taken_constant some n ≡ false
not-among all some n among e = go (is_taken_constant some n) (among.constants n)
  where
    go : (b : Bool) → (b ≡ true → is_taken_constant all n ≡ true) → b ≡ false
    go false f = refl
    go true f = absurd (let g = sym e ∙ f refl in cc)

pub not-among-operator : (all some : List Symbol) (n : Name) → AreAmong all some → is_taken_operator all n ≡ false → is_taken_operator some n ≡ false
not-among-operator all some n among e = go (is_taken_operator some n) (among.operators n)
  where
    go : (b : Bool) → (b ≡ true → is_taken_operator all n ≡ true) → b ≡ false
    go false f = refl
    go true f = absurd (let g = sym e ∙ f refl in cc)

-- Inputs are not defined
pub record AreApart (symbols : List Symbol) : Type 0 where
  pub constants : (n : Name) → list_any (is_input_constant n) symbols ≡ true → generic_type symbols n ≡ None
  pub operators : (n : Name) → list_any (is_input_operator_named n) symbols ≡ true → operator_arity symbols n ≡ None

none : {A : Type 0} (o : Option A) → is_some o ≡ false → o ≡ None
none None e = refl
none (Some x) e = absurd (cc)

untaken-type : (xs : List Symbol) (n : Name) → is_taken_constant xs n ≡ false → generic_type xs n ≡ None
untaken-type xs n e = none (generic_type xs n) (or_parts (is_some (generic_type xs n)) (list_any (is_input_constant n) xs) e).0

untaken-input : (xs : List Symbol) (n : Name) → is_taken_constant xs n ≡ false → list_any (is_input_constant n) xs ≡ false
untaken-input xs n e = (or_parts (is_some (generic_type xs n)) (list_any (is_input_constant n) xs) e).1

untaken-arity : (xs : List Symbol) (n : Name) → is_taken_operator xs n ≡ false → operator_arity xs n ≡ None
untaken-arity xs n e = none (operator_arity xs n) (or_parts (is_some (operator_arity xs n)) (list_any (is_input_operator_named n) xs) e).0

untaken-input_operator : (xs : List Symbol) (n : Name) → is_taken_operator xs n ≡ false → list_any (is_input_operator_named n) xs ≡ false
untaken-input_operator xs n e = (or_parts (is_some (operator_arity xs n)) (list_any (is_input_operator_named n) xs) e).1

-- a name that a new symbol defines was not taken
pub defines-new : (xs : List Symbol) (x : Symbol) (n : Name) → Takes xs x → is_some (defined_type n x) ≡ true → is_taken_constant xs n ≡ false
defines-new xs x n (Takes.input_constant e) d = absurd (cc)
defines-new xs x n (Takes.input_operator e f) d = absurd (cc)
defines-new xs x n (Takes.constant {n = m} {t = t} e h) d = go (name_eq n m) (name_eq-Decides n m).0 d
  where
    go : (b : Bool) → (b ≡ true → n ≡ m) → is_some (cond b (type_of t) None) ≡ true → is_taken_constant xs n ≡ false
    go true f d = subst (λ k. is_taken_constant xs k ≡ false) (sym (f refl)) e
    go false f d = absurd (cc)
defines-new xs x n (Takes.type_operator {names = names} {c = c} new typed closed vars) d =
    go (name_eq n names.abstraction) (name_eq n names.representation) (name_eq-Decides n names.abstraction).0 (name_eq-Decides n names.representation).0 d
  where
    go : (a r : Bool) → (a ≡ true → n ≡ names.abstraction) → (r ≡ true → n ≡ names.representation)
        → is_some (cond a (Some (abstraction_type names c)) (cond r (Some (representation_type names c)) None)) ≡ true → is_taken_constant xs n ≡ false
    go true r f g d = subst (λ k. is_taken_constant xs k ≡ false) (sym (f refl)) new.abstraction
    go false true f g d = subst (λ k. is_taken_constant xs k ≡ false) (sym (g refl)) new.representation
    go false false f g d = absurd (cc)

pub arity-new : (xs : List Symbol) (x : Symbol) (n : Name) → Takes xs x → is_some (defined_arity n x) ≡ true → is_taken_operator xs n ≡ false
arity-new xs x n (Takes.input_constant e) d = absurd (cc)
arity-new xs x n (Takes.input_operator e f) d = absurd (cc)
arity-new xs x n (Takes.constant e h) d = absurd (cc)
arity-new xs x n (Takes.type_operator {names = names} {c = c} new typed closed vars) d = go (name_eq n names.operator) (name_eq-Decides n names.operator).0 d
  where
    go : (b : Bool) → (b ≡ true → n ≡ names.operator) → is_some (cond b (Some (length names.variables)) None) ≡ true → is_taken_operator xs n ≡ false
    go true f d = subst (λ k. is_taken_operator xs k ≡ false) (sym (f refl)) new.operator
    go false f d = absurd (cc)

pub among-taken : (all some : List Symbol) (x : Symbol) → Takes all x → AreAmong all some → AreAmong (all ++ x ∷ []) (some ++ x ∷ [])
among-taken all some x takes among = among-both all some x among (λ n e. untaken-type all n (defines-new all x n takes e))
    (λ n e. untaken-arity all n (arity-new all x n takes e))

still-none : {A : Type 0} (o p : Option A) → o ≡ None → p ≡ None → option_or o p ≡ None
still-none None p e f = f
still-none (Some x) p e f = absurd (cc)

not-some : {A : Type 0} (o : Option A) → (is_some o ≡ true → ⊥) → o ≡ None
not-some None f = refl
not-some (Some x) f = absurd (f refl)

pub apart-taken : (xs : List Symbol) (x : Symbol) → AreApart xs → Takes xs x → AreApart (xs ++ x ∷ [])
apart-taken xs x h takes = record {
  constants = λ n e. type-push xs x n ∙ either (list_any (is_input_constant n) xs) (is_input_constant n x) (sym (any-last (is_input_constant n) xs x) ∙ e)
      (λ f. still-none (generic_type xs n) (defined_type n x) (h.constants n f)
      (not-some (defined_type n x) (λ d. absurd (let g = sym f ∙ untaken-input xs n (defines-new xs x n takes d) in cc))))
      (λ f. input x n takes f);
  operators = λ n e. arity-push xs x n ∙ either (list_any (is_input_operator_named n) xs) (is_input_operator_named n x)
      (sym (any-last (is_input_operator_named n) xs x) ∙ e)
      (λ f. still-none (operator_arity xs n) (defined_arity n x) (h.operators n f)
      (not-some (defined_arity n x) (λ d. absurd (let g = sym f ∙ untaken-input_operator xs n (arity-new xs x n takes d) in cc))))
      (λ f. input_operator x n takes f);
}
  where
    input : (x : Symbol) (n : Name) → Takes xs x → is_input_constant n x ≡ true → option_or (generic_type xs n) (defined_type n x) ≡ None
    input x n (Takes.input_constant {n = m} e) f =
        still-none (generic_type xs n) None (subst (λ k. generic_type xs k ≡ None) (sym ((name_eq-Decides n m).0 f)) (untaken-type xs m e)) refl
    input x n (Takes.input_operator e g) f = absurd (cc)
    input x n (Takes.constant e k) f = absurd (cc)
    input x n (Takes.type_operator new typed closed vars) f = absurd (cc)

    input_operator : (x : Symbol) (n : Name) → Takes xs x → is_input_operator_named n x ≡ true → option_or (operator_arity xs n) (defined_arity n x) ≡ None
    input_operator x n (Takes.input_constant e) f = absurd (cc)
    input_operator x n (Takes.input_operator {n = m} e g) f =
        still-none (operator_arity xs n) None (subst (λ k. operator_arity xs k ≡ None) (sym ((name_eq-Decides n m).0 f)) (none (operator_arity xs m) e)) refl
    input_operator x n (Takes.constant e k) f = absurd (cc)
    input_operator x n (Takes.type_operator new typed closed vars) f = absurd (cc)

pub none-apart : AreApart []
none-apart = record { constants = λ n e. absurd (cc); operators = λ n e. absurd (cc) }

-- What is taken can be used
constant-uses : (symbols : List Symbol) (n : Name) (a : HolType) → AreApart symbols → ConstantTaken symbols n a → UsesConstant symbols n a
constant-uses symbols n a h (taken.ConstantTaken.instance g e i) = record {
  taken = true-or (is_some (generic_type symbols n)) (list_any (is_input_constant n) symbols) (ap is_some e);
  fits = ap (λ o. generic_fits o a) e ∙ ap (λ b. demand b BadConstType) ((is_instance-Decides g a).1 i);
}
constant-uses symbols n a h (taken.ConstantTaken.input e) = record {
  taken = or-true (is_some (generic_type symbols n)) (list_any (is_input_constant n) symbols) e;
  fits = ap (λ o. generic_fits o a) (h.constants n e);
}

named : (n : Name) (k : ℕ) (xs : List Symbol) → list_any (is_input_operator n k) xs ≡ true → list_any (is_input_operator_named n) xs ≡ true
named n k [] e = absurd (cc)
named n k (x ∷ xs) e = either (is_input_operator n k x) (list_any (is_input_operator n k) xs) e
    (λ f. true-or (is_input_operator_named n x) (list_any (is_input_operator_named n) xs) (one x f))
    (λ f. or-true (is_input_operator_named n x) (list_any (is_input_operator_named n) xs) (named n k xs f))
  where
    one : (x : Symbol) → is_input_operator n k x ≡ true → is_input_operator_named n x ≡ true
    one (Symbol.input_constant m) f = absurd (cc)
    one (Symbol.input_operator m j) f = (and_parts (name_eq n m) (k == j) f).0
    one (Symbol.defined d) f = absurd (cc)

operator-uses : (symbols : List Symbol) (n : Name) (k : ℕ) → AreApart symbols → OperatorTaken symbols n k → UsesOperator symbols n k
operator-uses symbols n k h (taken.OperatorTaken.of_arity e) = record {
  taken = true-or (is_some (operator_arity symbols n)) (list_any (is_input_operator_named n) symbols) (ap is_some e);
  fits = ap (λ o. arity_fits o k) e ∙ (let f : nat_eq k k ≡ true = grind (arith, nat_tests) in ap (λ b. demand b BadArity) f);
}
operator-uses symbols n k h (taken.OperatorTaken.input e) = record {
  taken = or-true (is_some (operator_arity symbols n)) (list_any (is_input_operator_named n) symbols) (named n k symbols e);
  fits = ap (λ o. arity_fits o k) (h.operators n (named n k symbols e));
}

mutual
  pub type-uses : (symbols : List Symbol) → AreApart symbols → (t : HolType) → TypeTaken symbols t → TypeUses symbols t
  type-uses symbols h (HolType.variable n) k = tt
  type-uses symbols h (HolType.operator n ts) k = (operator-uses symbols n (count ts) h k.0, types-use symbols h ts k.1)

  pub types-use : (symbols : List Symbol) → AreApart symbols → (ts : HolTypes) → TypesTaken symbols ts → TypesUse symbols ts
  types-use symbols h HolTypes.none k = tt
  types-use symbols h (HolTypes.more t ts) k = (type-uses symbols h t k.0, types-use symbols h ts k.1)

pub term-uses : (symbols : List Symbol) → AreApart symbols → (t : Term) → TermTaken symbols t → TermUses symbols t
term-uses symbols h (Term.free n a) k = type-uses symbols h a k
term-uses symbols h (Term.bound j) k = tt
term-uses symbols h (Term.constant n a) k = (constant-uses symbols n a h k.0, type-uses symbols h a k.1)
term-uses symbols h (Term.app f x) k = (term-uses symbols h f k.0, term-uses symbols h x k.1)
term-uses symbols h (Term.lam a b) k = (type-uses symbols h a k.0, term-uses symbols h b k.1)
