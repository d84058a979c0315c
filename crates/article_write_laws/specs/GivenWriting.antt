-- What is written of what a rule is given, and of its premises, pushes just that.
use Rattle.std.proofs.Common.{◌≡◌, ℕ, ◌+◌, Bool, true, false, cond, List, [], ◌∷◌, ◌++◌, map, Some, Ok, refl, sym, subst}
use Rattle.std.specs.Prelude.{unwrap_or}
use Rattle.std.specs.List.{AllByRecursion, position_from}
use Rattle.hol_spec.specs.Names.{Name}
use Rattle.hol_spec.specs.Types.{HolType}
use Rattle.hol_spec.specs.Limits.{TypeWithin}
use Rattle.hol_spec.specs.Terms.{Term, Variable}
use Rattle.hol_spec.specs.Sequents.{Sequent}
use Rattle.hol_spec.specs.Substitution.{TypePairs}
use Rattle.hol_spec.specs.TermSubstitution.{TermPairs}
use Rattle.hol_spec.specs.DefinitionLists.{ConstantPairs}
use Rattle.hol_spec.specs.Rules.{Parameters}
use Rattle.hol_spec.specs.Proofs.{Made}
use Rattle.article_spec.specs.State.{Object, list, none, more}
use Rattle.article_spec.specs.Operands.{as_name, as_type, as_variable, as_term, pair_of, as_names, as_terms, as_substitution, as_constant_pairs}
use Rattle.article_write_spec.specs.Drafts.{Kept, kept_eq, Draft, say_name, refer, write_each, write_list, write_pair}
use Rattle.article_write_spec.specs.WrittenTypes.{write_type, write_variable}
use Rattle.article_write_spec.specs.WrittenTerms.{write_term}
use Rattle.article_write_spec.specs.WrittenSteps.{write_premise, write_sequent, write_given}
use Rattle.article_write_laws.specs.SymbolUses.{TypeUses}
use Rattle.article_write_laws.specs.Scenes.{Scene, Ready, Wrote, key-place, wrote-none, wrote-then, wrote-referred}
use Rattle.article_write_laws.specs.Listings.{pushed, listing, Writes, writes-list, writes-pair, each-listing}
use Rattle.article_write_laws.specs.TypeWriting.{type-writes, variable-writes, name-writes}
use Rattle.article_write_laws.specs.TermWriting.{IsOperand, term-writes}

-- a type that can be written, and a variable of one
pub record IsTypeOperand (c : Scene) (a : HolType) : Type 0 where
  pub uses : TypeUses c.symbols a
  pub within : TypeWithin a

-- a list as an object
abbrev pub list_object : {A : Type 0} → (A → Object) → List A → Object
list_object object xs = list (listing (map object xs) none)

abbrev pub pair_object : Object → Object → Object
pair_object x y = list (more x (more y none))

abbrev pub type_pair : Name × HolType → Object
type_pair p = pair_object (Object.name p.0) (Object.type p.1)

abbrev pub term_pair : Variable × Term → Object
term_pair p = pair_object (Object.variable p.0) (Object.term p.1)

abbrev pub constant_pair : Name × Variable → Object
constant_pair p = pair_object (Object.name p.0) (Object.variable p.1)

-- what lies on the stack of what a rule is given
abbrev pub given_stack : Parameters → List Object → List Object
given_stack Parameters.nothing stack = stack
given_stack (Parameters.term t) stack = Object.term t ∷ stack
given_stack (Parameters.variable v) stack = Object.variable v ∷ stack
given_stack (Parameters.substitution types terms) stack = pair_object (list_object type_pair types) (list_object term_pair terms) ∷ stack
given_stack (Parameters.sequent s) stack = Object.term s.conclusion ∷ list_object Object.term s.hypotheses ∷ stack
given_stack (Parameters.constant n t) stack = Object.term t ∷ Object.name n ∷ stack
given_stack (Parameters.constants pairs) stack = list_object constant_pair pairs ∷ stack
given_stack (Parameters.type_operator names version) stack =
    list_object Object.name names.variables ∷ Object.name names.representation ∷ Object.name names.abstraction ∷ Object.name names.operator ∷ stack

-- what can be written
pub record IsTermPair (c : Scene) (q : ℕ) (p : Variable × Term) : Type 0 where
  pub variable : IsTypeOperand c p.0.1
  pub term : IsOperand c q p.1

pub record IsSequentOperand (c : Scene) (q : ℕ) (s : Sequent) : Type 0 where
  pub hypotheses : AllByRecursion (IsOperand c q) s.hypotheses
  pub conclusion : IsOperand c q s.conclusion

abbrev pub IsGiven : Scene → ℕ → Parameters → Type 0
IsGiven c q Parameters.nothing = Unit {0}
IsGiven c q (Parameters.term t) = IsOperand c q t
IsGiven c q (Parameters.variable v) = IsTypeOperand c v.1
IsGiven c q (Parameters.substitution types terms) = AllByRecursion (λ (p : Name × HolType). IsTypeOperand c p.1) types × AllByRecursion (IsTermPair c q) terms
IsGiven c q (Parameters.sequent s) = IsSequentOperand c q s
IsGiven c q (Parameters.constant n t) = IsOperand c q t
IsGiven c q (Parameters.constants pairs) = AllByRecursion (λ (p : Name × Variable). IsTypeOperand c p.1.1) pairs
IsGiven c q (Parameters.type_operator names version) = Unit {0}

typed-writes : (c : Scene) (a : HolType) → IsTypeOperand c a → Writes c (write_type a) (Object.type a)
typed-writes c a h = type-writes c a h.uses h.within

valued-writes : (c : Scene) (v : Variable) → IsTypeOperand c v.1 → Writes c (write_variable v) (Object.variable v)
valued-writes c v h = variable-writes c v h.uses h.within

pub sequent-writes : (c : Scene) (q : ℕ) (s : Sequent) → IsSequentOperand c q s → (d : Draft) (made : List Made) (stack : List Object) → Ready c d made stack
    → Wrote c d.kept made (write_sequent q s d) (given_stack (Parameters.sequent s) stack)
sequent-writes c q s h d made stack r =
    wrote-then (writes-list c (write_term q) Object.term (IsOperand c q) (term-writes c q) s.hypotheses h.hypotheses d made stack r)
    (λ m z. term-writes c q s.conclusion h.conclusion (write_list (write_term q) s.hypotheses d) m (list_object Object.term s.hypotheses ∷ stack) z)

-- What a rule is given
pub given-writes : (c : Scene) (q : ℕ) (g : Parameters) → IsGiven c q g → (d : Draft) (made : List Made) (stack : List Object) → Ready c d made stack
    → Wrote c d.kept made (write_given q g d) (given_stack g stack)
given-writes c q Parameters.nothing h d made stack r = wrote-none r
given-writes c q (Parameters.term t) h d made stack r = term-writes c q t h d made stack r
given-writes c q (Parameters.variable v) h d made stack r = valued-writes c v h d made stack r
given-writes c q (Parameters.substitution types terms) h d made stack r =
    writes-pair c (write_list (λ p. write_pair (say_name p.0) (write_type p.1)) types)
    (write_list (λ p. write_pair (write_variable p.0) (write_term q p.1)) terms)
    (list_object type_pair types) (list_object term_pair terms)
    (writes-list c (λ p. write_pair (say_name p.0) (write_type p.1)) type_pair (λ (p : Name × HolType). IsTypeOperand c p.1)
    (λ p k. writes-pair c (say_name p.0) (write_type p.1) (Object.name p.0) (Object.type p.1) (name-writes c p.0) (typed-writes c p.1 k)) types h.0)
    (writes-list c (λ p. write_pair (write_variable p.0) (write_term q p.1)) term_pair (IsTermPair c q)
    (λ p k. writes-pair c (write_variable p.0) (write_term q p.1) (Object.variable p.0) (Object.term p.1) (valued-writes c p.0 k.variable)
    (term-writes c q p.1 k.term)) terms h.1)
    d made stack r
given-writes c q (Parameters.sequent s) h d made stack r = sequent-writes c q s h d made stack r
given-writes c q (Parameters.constant n t) h d made stack r =
    wrote-then (name-writes c n d made stack r) (λ m z. term-writes c q t h (say_name n d) m (Object.name n ∷ stack) z)
given-writes c q (Parameters.constants pairs) h d made stack r =
    writes-list c (λ p. write_pair (say_name p.0) (write_variable p.1)) constant_pair (λ (p : Name × Variable). IsTypeOperand c p.1.1)
    (λ p k. writes-pair c (say_name p.0) (write_variable p.1) (Object.name p.0) (Object.variable p.1) (name-writes c p.0) (valued-writes c p.1 k)) pairs h
    d made stack r
given-writes c q (Parameters.type_operator names version) h d made stack r =
    wrote-then
    (wrote-then (wrote-then (name-writes c names.operator d made stack r)
    (λ m z. name-writes c names.abstraction (say_name names.operator d) m (Object.name names.operator ∷ stack) z))
    (λ m z. name-writes c names.representation (say_name names.abstraction (say_name names.operator d)) m
    (Object.name names.abstraction ∷ Object.name names.operator ∷ stack) z))
    (λ m z. writes-list c say_name Object.name (λ n. Unit {0}) (λ n k. name-writes c n) names.variables (all-unit names.variables)
    (say_name names.representation (say_name names.abstraction (say_name names.operator d))) m
    (Object.name names.representation ∷ Object.name names.abstraction ∷ Object.name names.operator ∷ stack) z)
  where
    all-unit : (ns : List Name) → AllByRecursion (λ (n : Name). Unit {0}) ns
    all-unit [] = tt
    all-unit (n ∷ ns) = (tt, all-unit ns)

-- Read back from the stack
pub terms-read : (ts : List Term) → as_terms (list_object Object.term ts) ≡ Ok ts
terms-read ts = each-listing as_term Object.term (λ t. refl) ts

pub names-read : (ns : List Name) → as_names (list_object Object.name ns) ≡ Ok ns
names-read ns = each-listing as_name Object.name (λ n. refl) ns

pub constants-read : (pairs : ConstantPairs) → as_constant_pairs (list_object constant_pair pairs) ≡ Ok pairs
constants-read pairs = each-listing (pair_of as_name as_variable) constant_pair (λ p. refl) pairs

pub substitution-read : (types : TypePairs) (terms : TermPairs)
    → as_substitution (pair_object (list_object type_pair types) (list_object term_pair terms)) ≡ Ok (types, terms)
substitution-read types terms = rw
    (each-listing (pair_of as_name as_type) type_pair (λ p. refl) types, each-listing (pair_of as_variable as_term) term_pair (λ p. refl) terms) refl

-- Premises
-- a step's theorem has a key
pub record IsKept (kept : List Kept) (i : ℕ) : Type 0 where
  pub key : ℕ
  pub at : position_from (kept_eq (Kept.theorem i)) 0 kept ≡ Some key

pub position-more : (x : Kept) (start : ℕ) (xs ys : List Kept) (k : ℕ) → position_from (kept_eq x) start xs ≡ Some k
    → position_from (kept_eq x) start (xs ++ ys) ≡ Some k
position-more x start [] ys k e = absurd (cc)
position-more x start (y ∷ xs) ys k e = go (kept_eq x y) e (position-more x (start + 1) xs ys k)
  where
    go : (b : Bool) → cond b (Some start) (position_from (kept_eq x) (start + 1) xs) ≡ Some k
        → (position_from (kept_eq x) (start + 1) xs ≡ Some k → position_from (kept_eq x) (start + 1) (xs ++ ys) ≡ Some k)
        → cond b (Some start) (position_from (kept_eq x) (start + 1) (xs ++ ys)) ≡ Some k
    go true f g = f
    go false f g = g f

pub kept-more : (xs ys : List Kept) (i : ℕ) → IsKept xs i → IsKept (xs ++ ys) i
kept-more xs ys i h = record { key = h.key; at = position-more (Kept.theorem i) 0 xs ys h.key h.at }

abbrev pub theorems : Scene → List ℕ → List Object
theorems c is = map (λ i. Object.theorem (c.number i)) is

premise-writes : (c : Scene) (i : ℕ) (d : Draft) (made : List Made) (stack : List Object) → IsKept d.kept i → Ready c d made stack
    → Wrote c d.kept made (write_premise i d) (Object.theorem (c.number i) ∷ stack)
premise-writes c i d made stack h r =
    subst (λ o. Wrote c d.kept made (refer (unwrap_or o 0) d) (Object.theorem (c.number i) ∷ stack)) (sym h.at)
    (wrote-referred h.key (Kept.theorem i) r (key-place (Kept.theorem i) d h.key h.at))

pub premises-write : (c : Scene) (is : List ℕ) (d : Draft) (made : List Made) (stack : List Object) → AllByRecursion (IsKept d.kept) is → Ready c d made stack
    → Wrote c d.kept made (write_each write_premise is d) (pushed (theorems c is) stack)
premises-write c [] d made stack h r = wrote-none r
premises-write c (i ∷ is) d made stack h r =
    wrote-then (premise-writes c i d made stack h.0 r) (λ m s. premises-write c is (write_premise i d) m (Object.theorem (c.number i) ∷ stack) h.1 s)
