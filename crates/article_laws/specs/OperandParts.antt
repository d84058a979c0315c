-- What the operands of a command are, where the parts of the objects on the stack have a property.
use Rattle.std.proofs.Common.{◌≡◌, List, [], ◌∷◌, Result, Ok, subst}
use Rattle.std.specs.List.{AllByRecursion}
use Rattle.hol_spec.specs.Names.{Name}
use Rattle.hol_spec.specs.Types.{HolType}
use Rattle.hol_spec.specs.Terms.{Term, Variable}
use Rattle.common.specs.declared.faults.Kind.{Kind}
use Rattle.article_spec.specs.State.{Object, Objects, State, list, name, type_operator, constant, type, variable, term, theorem, none, more}
use Rattle.article_spec.specs.Results.{◌>>=◌}
use Rattle.article_spec.specs.Operands.{as_list, as_name, as_type_operator, as_constant, as_type, as_variable, as_term, as_theorem, any_object, each, list_of, pair_of, as_types, as_terms, as_substitution, as_constant_pairs, pop, head_and_tail}
use Rattle.article_laws.specs.Binds.{bound}
use Rattle.article_laws.specs.Parts.{Parts, IsOf, AreOf}

module _ (p : Parts) where
  -- an operand of a kind has a property
  abbrev pub Gives : {A : Type 0} → (Object → Result A Kind) → (A → Type 0) → Type 0
  Gives {A = A} as_one P = (x : Object) (a : A) → IsOf p x → as_one x ≡ Ok a → P a

  abbrev pub Anything : {A : Type 0} → A → Type 0
  Anything a = Unit {0}

  pub any-gives : {A : Type 0} (as_one : Object → Result A Kind) → Gives as_one Anything
  any-gives as_one x a h e = tt

  pub object-gives : Gives any_object (IsOf p)
  object-gives x a h e = let f : x ≡ a = cc in subst (IsOf p) f h

  pub list-gives : Gives as_list (AreOf p)
  list-gives (list xs) a h e = let f : xs ≡ a = cc in subst (AreOf p) f h
  list-gives x a h e = absurd (cc)

  pub name-gives : Gives as_name p.name
  name-gives (name n) a h e = let f : n ≡ a = cc in subst p.name f h
  name-gives x a h e = absurd (cc)

  pub type_operator-gives : Gives as_type_operator p.name
  type_operator-gives (type_operator n) a h e = let f : n ≡ a = cc in subst p.name f h
  type_operator-gives x a h e = absurd (cc)

  pub constant-gives : Gives as_constant p.name
  constant-gives (constant n) a h e = let f : n ≡ a = cc in subst p.name f h
  constant-gives x a h e = absurd (cc)

  pub type-gives : Gives as_type p.type
  type-gives (type t) a h e = let f : t ≡ a = cc in subst p.type f h
  type-gives x a h e = absurd (cc)

  pub variable-gives : Gives as_variable p.variable
  variable-gives (variable v) a h e = let f : v ≡ a = cc in subst p.variable f h
  variable-gives x a h e = absurd (cc)

  pub term-gives : Gives as_term p.term
  term-gives (term t) a h e = let f : t ≡ a = cc in subst p.term f h
  term-gives x a h e = absurd (cc)

  pub theorem-gives : Gives as_theorem p.step
  theorem-gives (theorem i) a h e = let f : i ≡ a = cc in subst p.step f h
  theorem-gives x a h e = absurd (cc)

  each-gives : {A : Type 0} (as_one : Object → Result A Kind) (P : A → Type 0) → Gives as_one P → (xs : Objects) (ys : List A) → AreOf p xs
      → each as_one xs ≡ Ok ys → AllByRecursion P ys
  each-gives {A = A} as_one P f none ys h e = let g : [] ≡ ys = cc in subst (AllByRecursion P) g (tt {0})
  each-gives {A = A} as_one P f (more x xs) ys h e =
      let first = bound (as_one x) _ ys e in
      let rest = bound (each as_one xs) _ ys first.2 in
      let g : first.0 ∷ rest.0 ≡ ys = the (first.0 ∷ rest.0) ys rest.2 in
      subst (AllByRecursion P) g (f x first.0 h.0 first.1, each-gives as_one P f xs rest.0 h.1 rest.1)
    where
      the : (bs ys : List A) → ◌≡◌ {A = Result (List A) Kind} (Ok bs) (Ok ys) → bs ≡ ys
      the bs ys e = cc

  pub list_of-gives : {A : Type 0} (as_one : Object → Result A Kind) (P : A → Type 0) → Gives as_one P → Gives (list_of as_one) (AllByRecursion P)
  list_of-gives as_one P f x ys h e =
      let xs = bound (as_list x) _ ys e in
      each-gives as_one P f xs.0 ys (list-gives x xs.0 h xs.1) xs.2

  pub pair_of-gives : {A B : Type 0} (as_one : Object → Result A Kind) (as_two : Object → Result B Kind) (P : A → Type 0) (Q : B → Type 0) → Gives as_one P
      → Gives as_two Q → Gives (pair_of as_one as_two) (λ q. P q.0 × Q q.1)
  pair_of-gives {A = A} {B = B} as_one as_two P Q f g (list (more x (more y none))) q h e =
      let first = bound (as_one x) _ q e in
      let second = bound (as_two y) _ q first.2 in
      let same : (first.0, second.0) ≡ q = the (first.0, second.0) q second.2 in
      subst (λ r. P r.0 × Q r.1) same (f x first.0 h.0 first.1, g y second.0 h.1.0 second.1)
    where
      the : (q r : A × B) → ◌≡◌ {A = Result (A × B) Kind} (Ok q) (Ok r) → q ≡ r
      the q r e = cc
  pair_of-gives as_one as_two P Q f g x q h e = absurd (cc)

  pub types-gives : Gives as_types (AllByRecursion p.type)
  types-gives = list_of-gives as_type p.type type-gives

  pub terms-gives : Gives as_terms (AllByRecursion p.term)
  terms-gives = list_of-gives as_term p.term term-gives

  abbrev pub IsTypePair : Name × HolType → Type 0
  IsTypePair q = p.name q.0 × p.type q.1

  abbrev pub IsTermPair : Variable × Term → Type 0
  IsTermPair q = p.variable q.0 × p.term q.1

  abbrev pub IsConstantPair : Name × Variable → Type 0
  IsConstantPair q = p.name q.0 × p.variable q.1

  pub substitution-gives : Gives as_substitution (λ q. AllByRecursion IsTypePair q.0 × AllByRecursion IsTermPair q.1)
  substitution-gives =
      pair_of-gives (list_of (pair_of as_name as_type)) (list_of (pair_of as_variable as_term)) (AllByRecursion IsTypePair) (AllByRecursion IsTermPair)
      (list_of-gives (pair_of as_name as_type) IsTypePair (pair_of-gives as_name as_type p.name p.type name-gives type-gives))
      (list_of-gives (pair_of as_variable as_term) IsTermPair (pair_of-gives as_variable as_term p.variable p.term variable-gives term-gives))

  pub constant_pairs-gives : Gives as_constant_pairs (AllByRecursion IsConstantPair)
  constant_pairs-gives = list_of-gives (pair_of as_name as_variable) IsConstantPair
      (pair_of-gives as_name as_variable p.name p.variable name-gives variable-gives)

  -- What stands on top has the property, and the rest is of such objects.
  pub pop-gives : {A : Type 0} (as_one : Object → Result A Kind) (P : A → Type 0) → Gives as_one P → (xs : List Object) (r : A × List Object)
      → AllByRecursion (IsOf p) xs → pop as_one xs ≡ Ok r → P r.0 × AllByRecursion (IsOf p) r.1
  pop-gives {A = A} as_one P f [] r h e = absurd (cc)
  pop-gives {A = A} as_one P f (x ∷ below) r h e =
      let top = bound (as_one x) _ r e in
      let same : (top.0, below) ≡ r = the (top.0, below) r top.2 in
      subst (λ q. P q.0 × AllByRecursion (IsOf p) q.1) same (f x top.0 h.0 top.1, h.1)
    where
      the : (q r : A × List Object) → ◌≡◌ {A = Result (A × List Object) Kind} (Ok q) (Ok r) → q ≡ r
      the q r e = cc

  pub head_and_tail-gives : (xs : Objects) (r : Object × Objects) → AreOf p xs → head_and_tail xs ≡ Ok r → IsOf p r.0 × AreOf p r.1
  head_and_tail-gives none r h e = absurd (cc)
  head_and_tail-gives (more x xs) r h e = let same : (x, xs) ≡ r = the (x, xs) r e in subst (λ q. IsOf p q.0 × AreOf p q.1) same h
    where
      the : (q r : Object × Objects) → ◌≡◌ {A = Result (Object × Objects) Kind} (Ok q) (Ok r) → q ≡ r
      the q r e = cc

  -- A word that pops an operand goes on with it and with the rest.
  pub popping : {A R : Type 0} (as_one : Object → Result A Kind) (P : A → Type 0) → Gives as_one P → (xs : List Object) → AllByRecursion (IsOf p) xs
      → (next : A × List Object → Result State Kind) (t : State) → (pop as_one xs >>= next) ≡ Ok t
      → ((a : A) (rest : List Object) → P a → AllByRecursion (IsOf p) rest → next (a, rest) ≡ Ok t → R) → R
  popping as_one P f xs h next t e go =
      let r = bound (pop as_one xs) next t e in
      let k = pop-gives as_one P f xs r.0 h r.1 in
      go r.0.0 r.0.1 k.0 k.1 r.2
