-- The order of sets: what it is to come first, and that of two sets one comes first or they are the same.
use Rattle.std.proofs.Common.{◌≡◌, ℕ, ◌<◌, ◌≤◌, ◌⊎◌, inl, inr, refl, sym, ap, ◌∙◌, arith, List, [], ◌∷◌, ◌++◌, Bool, true, false, ◌||◌, Option, None, Some, true≢false}
use Rattle.std.specs.Prelude.{◌==◌}
use Rattle.std.proofs.lemmas.Bool.{eqb-true}
use Rattle.std.proofs.lemmas.Grind.{common_steps}
use Rattle.hol_term.specs.declared.TermId.{TermId}
use Rattle.compose.specs.Orders.{has, AreSame, IsLeastBeyond, IsBefore}

-- two numbers compare
pub nat_cases : (m n : ℕ) → (m < n) ⊎ ((m ≡ n) ⊎ (n < m))
nat_cases m n = grind arith

-- a set isn't before itself
pub before-not_same : (a b : List TermId) → IsBefore a b → AreSame a b → ⊥
before-not_same a b h e = true≢false (sym h.own ∙ e h.at ∙ h.lacks)

-- the order is transitive
pub before-trans : (a b c : List TermId) → IsBefore a b → IsBefore b c → IsBefore a c
before-trans a b c p q = go (nat_cases p.at q.at)
  where
    go : (p.at < q.at) ⊎ ((p.at ≡ q.at) ⊎ (q.at < p.at)) → IsBefore a c
    go (inl l) = record { at = p.at; own = p.own; lacks = sym (q.same p.at l) ∙ p.lacks; same = λ n m. p.same n m ∙ q.same n (omega (arith, l, m)) }
    go (inr (inl e)) = absurd (true≢false (sym q.own ∙ ap (has b) (sym e) ∙ p.lacks))
    go (inr (inr l)) = record { at = q.at; own = p.same q.at l ∙ q.own; lacks = q.lacks; same = λ n m. p.same n (omega (arith, l, m)) ∙ q.same n m }

pub both_ways : (x y : Bool) → (x ≡ true → y ≡ true) → (y ≡ true → x ≡ true) → x ≡ y
both_ways true y f g = sym (f refl)
both_ways false true f g = g refl
both_ways false false f g = refl

module _ (a b : List TermId) where
  -- neither has a number that the other lacks
  pub compares-none : IsLeastBeyond a b None → IsLeastBeyond b a None → AreSame a b
  compares-none p q n = both_ways (has a n) (has b n) (p n) (q n)

  -- one alone has a number that the other lacks
  pub compares-own : (id : TermId) → IsLeastBeyond a b (Some id) → IsLeastBeyond b a None → IsBefore a b
  compares-own id p q = record { at = id.0; own = p.own; lacks = p.lacks; same = λ n m. both_ways (has a n) (has b n) (p.below n m) (q n) }

  -- each has one, and that of the first is the lesser
  pub compares-less : (id other : TermId) → id.0 < other.0 → IsLeastBeyond a b (Some id) → IsLeastBeyond b a (Some other) → IsBefore a b
  compares-less id other l p q = record
      { at = id.0; own = p.own; lacks = p.lacks; same = λ n m. both_ways (has a n) (has b n) (p.below n m) (q.below n (omega (arith, l, m))) }

-- or that of the second
pub compares-greater : (a b : List TermId) (id other : TermId) → other.0 ≤ id.0 → IsLeastBeyond a b (Some id) → IsLeastBeyond b a (Some other) → IsBefore b a
compares-greater a b id other l p q = go (nat_cases other.0 id.0)
  where
    go : (other.0 < id.0) ⊎ ((other.0 ≡ id.0) ⊎ (id.0 < other.0)) → IsBefore b a
    go (inl less) = compares-less b a other id less q p
    go (inr (inl e)) = absurd (true≢false (sym p.own ∙ ap (has a) (sym e) ∙ q.lacks))
    go (inr (inr more)) = absurd (omega (arith, l, more))

pub or-true : (b c : Bool) → c ≡ true → (b || c) ≡ true
or-true true c e = refl
or-true false c e = e

-- what a list with one more at the end has
has-push : (ids : List TermId) (id : TermId) (n : ℕ) → has (ids ++ id ∷ []) n ≡ true → (has ids n ≡ true) ⊎ (n ≡ id.0)
has-push [] id n e = go (n == id.0) refl e
  where
    go : (b : Bool) → (n == id.0) ≡ b → (b || false) ≡ true → (has [] n ≡ true) ⊎ (n ≡ id.0)
    go true p h = inr (eqb-true n id.0 p)
    go false p h = absurd (true≢false (sym h))
has-push (x ∷ ids) id n e = go (n == x.0) refl e (has-push ids id n)
  where
    go : (b : Bool) → (n == x.0) ≡ b → (b || has (ids ++ id ∷ []) n) ≡ true → (has (ids ++ id ∷ []) n ≡ true → (has ids n ≡ true) ⊎ (n ≡ id.0))
        → (has (x ∷ ids) n ≡ true) ⊎ (n ≡ id.0)
    go true p h on = inl (ap (λ b. b || has ids n) p)
    go false p h on = later (on h)
      where
        later : (has ids n ≡ true) ⊎ (n ≡ id.0) → (has (x ∷ ids) n ≡ true) ⊎ (n ≡ id.0)
        later (inl k) = inl (or-true (n == x.0) (has ids n) k)
        later (inr k) = inr k

has-more : (ids : List TermId) (id : TermId) (n : ℕ) → has ids n ≡ true → has (ids ++ id ∷ []) n ≡ true
has-more [] id n e = absurd (true≢false (sym e))
has-more (x ∷ ids) id n e = go (n == x.0) refl e (has-more ids id n)
  where
    go : (b : Bool) → (n == x.0) ≡ b → (b || has ids n) ≡ true → (has ids n ≡ true → has (ids ++ id ∷ []) n ≡ true) → has (x ∷ (ids ++ id ∷ [])) n ≡ true
    go true p h on = ap (λ b. b || has (ids ++ id ∷ []) n) p
    go false p h on = or-true (n == x.0) (has (ids ++ id ∷ []) n) (on h)

number-itself : (n : ℕ) → (n == n) ≡ true
number-itself n = grind (arith, common_steps)

has-last : (ids : List TermId) (id : TermId) → has (ids ++ id ∷ []) id.0 ≡ true
has-last [] id = ap (λ b. b || false) (number-itself id.0)
has-last (x ∷ ids) id = or-true (id.0 == x.0) (has (ids ++ id ∷ []) id.0) (has-last ids id)

-- one more number is looked at
module _ (ids b : List TermId) (id : TermId) where
  -- one that is in the other set
  known : has b id.0 ≡ true → (n : ℕ) → (has ids n ≡ true → has b n ≡ true) → has (ids ++ id ∷ []) n ≡ true → has b n ≡ true
  known k n h e = go (has-push ids id n e)
    where
      go : (has ids n ≡ true) ⊎ (n ≡ id.0) → has b n ≡ true
      go (inl f) = h f
      go (inr f) = ap (has b) f ∙ k

  pub beyond-known : (least : Option TermId) → has b id.0 ≡ true → IsLeastBeyond ids b least → IsLeastBeyond (ids ++ id ∷ []) b least
  beyond-known None k h = λ n. known k n (h n)
  beyond-known (Some other) k h = record { own = has-more ids id other.0 h.own; lacks = h.lacks; below = λ n l. known k n (h.below n l) }

  -- below it, only what was looked at before
  earlier : (n : ℕ) → n < id.0 → (has ids n ≡ true → has b n ≡ true) → has (ids ++ id ∷ []) n ≡ true → has b n ≡ true
  earlier n l h e = go (has-push ids id n e)
    where
      go : (has ids n ≡ true) ⊎ (n ≡ id.0) → has b n ≡ true
      go (inl f) = h f
      go (inr f) = absurd (omega (arith, l, f))

  pub beyond-first : has b id.0 ≡ false → IsLeastBeyond ids b None → IsLeastBeyond (ids ++ id ∷ []) b (Some id)
  beyond-first k h = record { own = has-last ids id; lacks = k; below = λ n l. earlier n l (h n) }

  pub beyond-lesser : (other : TermId) → has b id.0 ≡ false → id.0 ≤ other.0 → IsLeastBeyond ids b (Some other) → IsLeastBeyond (ids ++ id ∷ []) b (Some id)
  beyond-lesser other k less h = record { own = has-last ids id; lacks = k; below = λ n l. earlier n l (h.below n (omega (arith, l, less))) }

  pub beyond-greater : (other : TermId) → other.0 < id.0 → IsLeastBeyond ids b (Some other) → IsLeastBeyond (ids ++ id ∷ []) b (Some other)
  beyond-greater other more h = record { own = has-more ids id other.0 h.own; lacks = h.lacks; below = λ n l. earlier n (omega (arith, l, more)) (h.below n l) }
