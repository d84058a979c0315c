-- The number of the binders' names is one of which no variable that is written has such a name.
use Rattle.std.proofs.Common.{◌≡◌, ◌≢◌, ℕ, zero, suc, ◌+◌, ◌<◌, ◌≤◌, ◌^◌, Bool, true, false, not, ◌||◌, cond, List, [], ◌∷◌, ◌++◌, map, length, drop, refl, sym, ap, ap₂, ◌∙◌, arith, decimal, append_assoc, inl, inr}
use Rattle.std.specs.Prelude.{nat_eq}
use Rattle.std.specs.List.{AllByRecursion, list_all, list_any, flat_map, filter, starts_with}
use Rattle.std.proofs.lemmas.Slice.Eq.{starts_is}
use Rattle.std.proofs.lemmas.Fmt.{decimal_injective}
use Rattle.std.proofs.lemmas.Bool.Decides.{nat_tests, Decides-eqb}
use Rattle.std.proofs.lemmas.Bool.{and_parts, or_parts}
use Rattle.hol_spec.specs.Names.{Name}
use Rattle.hol_spec.specs.Terms.{Term, Variable, free_places}
use Rattle.hol_spec.specs.Sequents.{Sequent, terms_of}
use Rattle.hol_spec.specs.Rules.{Parameters}
use Rattle.hol_laws.specs.Members.{All-left, All-right, All-each, IsIn-distinct}
use Rattle.hol_spec.specs.NameEquality.{name_eq}
use Rattle.hol_laws.specs.NameEqualityLaws.{name_eq-Decides}
use Rattle.hol_spec.specs.Lists.{IsIn, distinct}
use Rattle.article_spec.specs.Numbers.{is_digit}
use Rattle.article_write_spec.specs.ReachedSteps.{Numbered}
use Rattle.article_write_spec.specs.BinderNames.{binder_front, are_digits, is_binder_name, given_variables, step_variables, variable_names, first_free, binder_number}
use Rattle.article_write_laws.specs.NumberTextLaws.{decimal-HasValue}
use Rattle.article_write_laws.specs.Built.{HasNoBinderName}
use Rattle.article_write_laws.specs.BuiltSteps.{HasNoBinderNames, IsFreshGiven}

-- No name is of two numbers
digits-apart : (ds es r s : List ℕ) → list_all is_digit ds ≡ true → list_all is_digit es ≡ true → ds ++ 95 ∷ r ≡ es ++ 95 ∷ s → ds ≡ es
digits-apart [] [] r s h k e = refl
digits-apart [] (b ∷ es) r s h k e = absurd
    (let d = (and_parts (is_digit b) (list_all is_digit es) k).0 in let same : 95 ≡ b = cc in grind (arith, nat_tests, d, same))
digits-apart (a ∷ ds) [] r s h k e = absurd
    (let d = (and_parts (is_digit a) (list_all is_digit ds) h).0 in let same : a ≡ 95 = cc in grind (arith, nat_tests, d, same))
digits-apart (a ∷ ds) (b ∷ es) r s h k e =
    let first : a ≡ b = cc in
    let rest : ds ++ 95 ∷ r ≡ es ++ 95 ∷ s = cc in
    ap₂ (λ x l. x ∷ l) first
    (digits-apart ds es r s (and_parts (is_digit a) (list_all is_digit ds) h).1 (and_parts (is_digit b) (list_all is_digit es) k).1 rest)

front-of : (q : ℕ) (bytes : List ℕ) → starts_with nat_eq bytes (binder_front q) ≡ true → bytes ≡ binder_front q ++ drop (length (binder_front q)) bytes
front-of q bytes e = (starts_is {E = nat_eq} Decides-eqb bytes (binder_front q) (starts_with nat_eq bytes (binder_front q)) refl).0 e

-- a name is of one number at most
pub one-number : (p q : ℕ) (n : Name) → p < 2 ^ 64 → q < 2 ^ 64 → is_binder_name p n ≡ true → is_binder_name q n ≡ true → p ≡ q
one-number p q [] hp hq e f = absurd (cc)
one-number p q (bytes ∷ b ∷ n) hp hq e f = absurd (cc)
one-number p q (bytes ∷ []) hp hq e f =
    let one = and_parts (starts_with nat_eq bytes (binder_front p)) (are_digits (drop (length (binder_front p)) bytes)) e in
    let two = and_parts (starts_with nat_eq bytes (binder_front q)) (are_digits (drop (length (binder_front q)) bytes)) f in
    let r = drop (length (binder_front p)) bytes in
    let s = drop (length (binder_front q)) bytes in
    let both : 95 ∷ ((decimal p ++ 95 ∷ []) ++ r) ≡ 95 ∷ ((decimal q ++ 95 ∷ []) ++ s) = sym (front-of p bytes one.0) ∙ front-of q bytes two.0 in
    let rest : (decimal p ++ 95 ∷ []) ++ r ≡ (decimal q ++ 95 ∷ []) ++ s = cc in
    let plain : decimal p ++ 95 ∷ r ≡ decimal q ++ 95 ∷ s = sym (append_assoc (decimal p) (95 ∷ []) r) ∙ rest ∙ append_assoc (decimal q) (95 ∷ []) s in
    decimal_injective p q hp hq
    (digits-apart (decimal p) (decimal q) r s (decimal-HasValue p (omega (arith, hp))).digits (decimal-HasValue q (omega (arith, hq))).digits plain)

-- The least number is free
-- the names that are not of a number
abbrev others : ℕ → List Name → List Name
others p names = filter (λ n. not (is_binder_name p n)) names

same-others : (p q : ℕ) (names : List Name) → p < 2 ^ 64 → q < 2 ^ 64 → p ≢ q → list_any (is_binder_name q) (others p names) ≡ list_any (is_binder_name q) names
same-others p q [] hp hq apart = refl
same-others p q (n ∷ names) hp hq apart = go (is_binder_name p n) (is_binder_name q n) refl refl (same-others p q names hp hq apart)
  where
    go : (b c : Bool) → is_binder_name p n ≡ b → is_binder_name q n ≡ c → list_any (is_binder_name q) (others p names) ≡ list_any (is_binder_name q) names
        → list_any (is_binder_name q) (cond (not b) (n ∷ others p names) (others p names)) ≡ (c || list_any (is_binder_name q) names)
    go true true e f h = absurd (apart (one-number p q n hp hq e f))
    go true false e f h = h
    go false c e f h = ap₂ (λ x y. x || y) f h

fewer : (p : ℕ) (names : List Name) → list_any (is_binder_name p) names ≡ true → length (others p names) < length names
fewer p [] e = absurd (cc)
fewer p (n ∷ names) e = go (is_binder_name p n) e (fewer p names) (at_most names)
  where
    at_most : (ns : List Name) → length (others p ns) ≤ length ns
    at_most [] = omega arith
    at_most (m ∷ ns) = step (is_binder_name p m) (at_most ns)
      where
        step : (b : Bool) → length (others p ns) ≤ length ns → length (cond (not b) (m ∷ others p ns) (others p ns)) ≤ suc (length ns)
        step true h = omega (arith, h)
        step false h = omega (arith, h)

    go : (b : Bool) → (b || list_any (is_binder_name p) names) ≡ true → (list_any (is_binder_name p) names ≡ true → length (others p names) < length names)
        → length (others p names) ≤ length names
        → length (cond (not b) (n ∷ others p names) (others p names)) < suc (length names)
    go true e h l = omega (arith, l)
    go false e h l = omega (arith, h e)

at_least : (more q : ℕ) (names : List Name) → q ≤ first_free more q names
at_least zero q names = omega arith
at_least (suc more) q names = go (list_any (is_binder_name q) names) (at_least more (suc q) names)
  where
    go : (b : Bool) → suc q ≤ first_free more (suc q) names → q ≤ cond b (first_free more (suc q) names) q
    go true h = omega (arith, h)
    go false h = omega arith

at_most : (more q : ℕ) (names : List Name) → first_free more q names ≤ q + more
at_most zero q names = omega arith
at_most (suc more) q names = go (list_any (is_binder_name q) names) (at_most more (suc q) names)
  where
    go : (b : Bool) → first_free more (suc q) names ≤ suc q + more → cond b (first_free more (suc q) names) q ≤ q + suc more
    go true h = omega (arith, h)
    go false h = omega arith

-- a name's leaving does not change what comes after its number
first-same : (p more q : ℕ) (names : List Name) → p < q → q + more < 2 ^ 64 → first_free more q (others p names) ≡ first_free more q names
first-same p zero q names low small = refl
first-same p (suc more) q names low small =
    ap₂ (λ b k. cond b k q) (same-others p q names (omega (arith, low, small)) (omega (arith, small)) (λ e. absurd (omega (arith, e, low))))
    (first-same p more (suc q) names (omega (arith, low)) (omega (arith, small)))

is-free : (more q : ℕ) (names : List Name) → length names ≤ more → q + more < 2 ^ 64 → list_any (is_binder_name (first_free more q names)) names ≡ false
is-free zero q [] long small = refl
is-free zero q (n ∷ names) long small = absurd (omega (arith, long))
is-free (suc more) q names long small = go (list_any (is_binder_name q) names) refl (λ l. is-free more (suc q) (others q names) l (omega (arith, small)))
  where
    go : (b : Bool) → list_any (is_binder_name q) names ≡ b
        → (length (others q names) ≤ more → list_any (is_binder_name (first_free more (suc q) (others q names))) (others q names) ≡ false)
        → list_any (is_binder_name (cond b (first_free more (suc q) names) q)) names ≡ false
    go false e again = e
    go true e again =
        let less = fewer q names e in
        let k = first_free more (suc q) names in
        let above = at_least more (suc q) names in
        let below = at_most more (suc q) names in
        let free = again (omega (arith, long, less)) in
        let same = first-same q more (suc q) names (omega arith) (omega (arith, small)) in
        sym (same-others q k names (omega (arith, small)) (omega (arith, below, small)) (λ z. absurd (omega (arith, z, above))))
        ∙ ap (λ j. list_any (is_binder_name j) (others q names)) (sym same) ∙ free

-- So no variable that is written has such a name
abbrev pub IsApart : ℕ → Variable → Type 0
IsApart q v = is_binder_name q v.0 ≡ false

none-in : {A : Type 0} (p : A → Bool) (xs : List A) (x : A) → list_any p xs ≡ false → IsIn xs x → p x ≡ false
none-in p [] x e h = absurd h
none-in p (y ∷ xs) x e (inl same) = ap p same ∙ (or_parts (p y) (list_any p xs) e).0
none-in p (y ∷ xs) x e (inr h) = none-in p xs x (or_parts (p y) (list_any p xs) e).1 h

name-in : (vs : List Variable) (v : Variable) → IsIn vs v → IsIn (map (λ v. v.0) vs) v.0
name-in [] v h = absurd h
name-in (w ∷ vs) v (inl e) = inl (ap (λ (u : Variable). u.0) e)
name-in (w ∷ vs) v (inr h) = inr (name-in vs v h)

all-apart : (q : ℕ) (vs : List Variable) → list_any (is_binder_name q) (distinct name_eq (map (λ v. v.0) vs)) ≡ false → AllByRecursion (IsApart q) vs
all-apart q vs e =
    All-each (IsApart q) vs
    (λ v h. none-in (is_binder_name q) (distinct name_eq (map (λ v. v.0) vs)) v.0 e
    (IsIn-distinct name_eq name_eq-Decides (map (λ v. v.0) vs) v.0 (name-in vs v h)))

pub term-fresh : (q : ℕ) (t : Term) → AllByRecursion (IsApart q) (free_places t) → HasNoBinderName q t
term-fresh q (Term.free n a) h = h.0
term-fresh q (Term.bound k) h = tt
term-fresh q (Term.constant n a) h = tt
term-fresh q (Term.app f x) h =
    (term-fresh q f (All-left (IsApart q) (free_places f) (free_places x) h), term-fresh q x (All-right (IsApart q) (free_places f) (free_places x) h))
term-fresh q (Term.lam a b) h = term-fresh q b h

terms-fresh : (q : ℕ) (ts : List Term) → AllByRecursion (IsApart q) (flat_map free_places ts) → AllByRecursion (HasNoBinderName q) ts
terms-fresh q [] h = tt
terms-fresh q (t ∷ ts) h = (
  term-fresh q t (All-left (IsApart q) (free_places t) (flat_map free_places ts) h),
  terms-fresh q ts (All-right (IsApart q) (free_places t) (flat_map free_places ts) h),
)

pairs-fresh : (q : ℕ) (ps : List (Variable × Term)) → AllByRecursion (IsApart q) (flat_map (λ p. p.0 ∷ free_places p.1) ps)
    → AllByRecursion (λ (p : Variable × Term). HasNoBinderName q p.1) ps
pairs-fresh q [] h = tt
pairs-fresh q (p ∷ ps) h = (
  term-fresh q p.1 (All-left (IsApart q) (free_places p.1) (flat_map (λ p. p.0 ∷ free_places p.1) ps) h.1),
  pairs-fresh q ps (All-right (IsApart q) (free_places p.1) (flat_map (λ p. p.0 ∷ free_places p.1) ps) h.1),
)

sequent-fresh : (q : ℕ) (s : Sequent) → AllByRecursion (IsApart q) (flat_map free_places (terms_of s)) → HasNoBinderNames q s
sequent-fresh q s h = let k = go s.hypotheses h in record { hypotheses = k.0; conclusion = k.1 }
  where
    go : (hs : List Term) → AllByRecursion (IsApart q) (flat_map free_places (hs ++ s.conclusion ∷ []))
        → AllByRecursion (HasNoBinderName q) hs × HasNoBinderName q s.conclusion
    go [] h = (tt, term-fresh q s.conclusion (All-left (IsApart q) (free_places s.conclusion) [] h))
    go (t ∷ hs) h =
        let rest = go hs (All-right (IsApart q) (free_places t) (flat_map free_places (hs ++ s.conclusion ∷ [])) h) in
        ((term-fresh q t (All-left (IsApart q) (free_places t) (flat_map free_places (hs ++ s.conclusion ∷ [])) h), rest.0), rest.1)

pub given-fresh : (q : ℕ) (g : Parameters) → AllByRecursion (IsApart q) (given_variables g) → IsFreshGiven q g
given-fresh q Parameters.nothing h = tt
given-fresh q (Parameters.term t) h = term-fresh q t h
given-fresh q (Parameters.variable v) h = tt
given-fresh q (Parameters.substitution types terms) h = pairs-fresh q terms h
given-fresh q (Parameters.sequent s) h = sequent-fresh q s h
given-fresh q (Parameters.constant n t) h = term-fresh q t h
given-fresh q (Parameters.constants pairs) h = tt
given-fresh q (Parameters.type_operator names version) h = tt

steps-fresh : (q : ℕ) (ys : List Numbered) → AllByRecursion (IsApart q) (flat_map (λ x. step_variables x.step) ys)
    → AllByRecursion (λ (y : Numbered). IsFreshGiven q y.step.parameters) ys
steps-fresh q [] h = tt
steps-fresh q (y ∷ ys) h =
    let own = All-left (IsApart q) (step_variables y.step) (flat_map (λ x. step_variables x.step) ys) h in (
      given-fresh q y.step.parameters (All-left (IsApart q) (given_variables y.step.parameters) (flat_map free_places (terms_of y.step.sequent)) own),
      steps-fresh q ys (All-right (IsApart q) (step_variables y.step) (flat_map (λ x. step_variables x.step) ys) h),
    )

-- The number of the binders
pub binder_number-fresh : (ys : List Numbered) → length (variable_names ys) < 2 ^ 64
    → AllByRecursion (λ (y : Numbered). IsFreshGiven (binder_number ys) y.step.parameters) ys
binder_number-fresh ys small =
    steps-fresh (binder_number ys) ys
    (all-apart (binder_number ys) (flat_map (λ x. step_variables x.step) ys)
    (is-free (length (variable_names ys)) 0 (variable_names ys) (omega arith) (omega (arith, small))))

pub binder_number-small : (ys : List Numbered) → length (variable_names ys) < 2 ^ 64 → binder_number ys < 2 ^ 64
binder_number-small ys small = let h = at_most (length (variable_names ys)) 0 (variable_names ys) in omega (arith, h, small)
