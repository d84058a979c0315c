-- Hypotheses by their numbers, and as trees.
use Rattle.std.proofs.Common.{◌≡◌, ℕ, ◌<◌, ◌≤◌, refl, sym, ap, subst, ◌∙◌, List, [], ◌∷◌, length, Bool, true, false, ◌&&◌, arith}
use Rattle.std.specs.Prelude.{◌==◌, ◌++◌, not, drop, if◌then◌else◌}
use Rattle.std.specs.Cmp.Lexicographic.{pointwise}
use Rattle.std.specs.Bool.{Decides}
use Rattle.std.specs.List.{list_all, AllByRecursion, IsDistinct as HasNoRepeats}
use Rattle.std.proofs.lemmas.Bool.Decides.{Decides-eqb, Decides-like, same_from_decides}
use Rattle.std.proofs.lemmas.Bool.{and_parts, or_parts}
use Rattle.std.proofs.lemmas.List.{drop_all}
use Rattle.std.proofs.lemmas.Slice.Eq.{slice_eq-Decides}
use Rattle.std.proofs.Math.Path.{ap₂}
use Rattle.hol_spec.specs.Lists.{is_in, union, distinct, without}
use Rattle.hol_laws.specs.ListLaws.{All-filter, IsDistinct-filter, distinct-itself, is_in-map, union-All, union-IsDistinct, union-map, without-map}
use Rattle.hol_spec.specs.Sequents.{within}
use Rattle.hol_spec.specs.Terms.{term_eq}
use Rattle.hol_laws.specs.TermLaws.{term_eq-Decides}
use Rattle.hol_term.specs.declared.TermId.{TermId}
use Rattle.hol_term.specs.Tables.{Trees, term_at, terms_at, AreKnown, IsDistinct}
use Rattle.hol_term.specs.TableLaws.{term_in-same}
use Rattle.sequent.specs.declared.Sequent.{Sequent}
use Rattle.sequent.specs.Sequents.{same_id, sequent_at, IsKnown}

same_id-Decides : (p q : TermId) → Decides (same_id p q) (p ≡ q)
same_id-Decides p q = Decides-like (same_id p q) (λ e i. record { 0 = e i }) (ap (λ (id : TermId). id.0)) (Decides-eqb p.0 q.0)

same_id-sym : (p q : TermId) → same_id p q ≡ same_id q p
same_id-sym p q = same_from_decides (same_id p q) (same_id q p) (same_id-Decides p q)
    (Decides-like (same_id q p) (λ e. sym e) (λ e. sym e) (same_id-Decides q p))

-- hypotheses are those that occur first
distinct-ids : (ids : List TermId) → HasNoRepeats same_id ids → distinct same_id ids ≡ ids
distinct-ids ids h = distinct-itself same_id (λ p q e. same_id-sym q p ∙ e) ids h

-- hypotheses that are taken one after the other
pub united_in_turn : (a b fst snd found more : List TermId) → HasNoRepeats same_id a → fst ≡ a → snd ≡ b → found ≡ distinct same_id fst → more
    ≡ union same_id found snd → more ≡ union same_id a b
united_in_turn a b fst snd found more n p q e f = f ∙ ap₂ (λ l m. union same_id l m) (e ∙ ap (distinct same_id) p ∙ distinct-ids a n) q

-- what was kept of hypotheses, when none is left
pub kept_all : (ids items found : List TermId) (i : ℕ) (p : TermId) → length items ≤ i → HasNoRepeats same_id ids
    → union same_id found (without same_id (drop i items) p) ≡ distinct same_id (without same_id ids p) → found ≡ without same_id ids p
kept_all ids items found i p h n e =
    ap (λ l. union same_id found (without same_id l p)) (sym (drop_all i items h)) ∙ e
    ∙ distinct-ids (without same_id ids p) (IsDistinct-filter same_id (λ q. not (same_id p q)) ids n)

-- of no hypotheses none stands twice
pub none_twice : (own : List TermId) → own ≡ [] → HasNoRepeats same_id own
unfolding HasNoRepeats
none_twice own e = subst (HasNoRepeats same_id) (sym e) tt

-- with one number more, if it is new, none stands twice either
pub no_repeats-add : (old new : List TermId) (id : TermId) → HasNoRepeats same_id old → new ≡ union same_id old (id ∷ []) → HasNoRepeats same_id new
no_repeats-add old new id h e =
    subst (HasNoRepeats same_id) (sym e) (union-IsDistinct same_id (λ p q f. same_id-sym q p ∙ f) (id ∷ []) old h)

-- a union with numbers that are there already is the list itself
pub union-within : (a b : List TermId) → list_all (λ id. is_in same_id id a) b ≡ true → union same_id a b ≡ a
union-within a [] h = refl
union-within a (x ∷ b) h =
    let both = and_parts (is_in same_id x a) (list_all (λ id. is_in same_id id a) b) h in
    ap (λ t. union same_id (if t then a else a ++ x ∷ []) b) both.0 ∙ union-within a b both.1

-- a union of nothing with hypotheses is these
pub union-empty : (a b : List TermId) → a ≡ [] → HasNoRepeats same_id b → union same_id a b ≡ b
union-empty a b e h = ap (λ l. union same_id l b) e ∙ distinct-ids b h

-- a list of no length is empty
pub none_there : (slice own : List TermId) (r : Bool) → slice ≡ own → r ≡ (length slice == 0) → r ≡ true → own ≡ []
none_there slice [] r e f t = refl
none_there slice (x ∷ own) r e f t =
    absurd (let zero : length (x ∷ own) ≡ 0 = ap length (sym e) ∙ (Decides-eqb (length slice) 0).0 (sym f ∙ t) in omega (arith, zero))

-- without a number that isn't there the list stays
pub without-absent : (ids : List TermId) (p : TermId) → is_in same_id p ids ≡ false → without same_id ids p ≡ ids
without-absent [] p h = refl
without-absent (q ∷ ids) p h =
    let both = or_parts (same_id p q) (is_in same_id p ids) h in
    ap (λ t. if not t then q ∷ without same_id ids p else without same_id ids p) both.0 ∙ ap (λ l. q ∷ l) (without-absent ids p both.1)

-- equal lists of numbers, by the test
pub ids_equal : (xs ys : List TermId) (r : Bool) → r ≡ pointwise same_id xs ys → r ≡ true → xs ≡ ys
ids_equal xs ys r e t = (slice_eq-Decides same_id-Decides xs ys r e).0 t

-- hypotheses that are these numbers already are the numbers, each where it occurs first
pub again-numbers : (own ids slice : List TermId) (r : Bool) → slice ≡ own → HasNoRepeats same_id own → r ≡ pointwise same_id slice ids → r ≡ true → own
    ≡ distinct same_id ids
again-numbers own ids slice r e n f t = sym (ap (distinct same_id) (sym (ids_equal slice ids r f t) ∙ e) ∙ distinct-ids own n)

abbrev IsOf : Trees → TermId → Type 0
IsOf trees p = p.0 < length trees.terms

each_known : (trees : Trees) (ids : List TermId) → AreKnown trees ids → AllByRecursion (IsOf trees) ids
each_known trees [] k = tt
each_known trees (p ∷ ids) k = (k.0, each_known trees ids k.1)

all_known : (trees : Trees) (ids : List TermId) → AllByRecursion (IsOf trees) ids → AreKnown trees ids
all_known trees [] k = tt
all_known trees (p ∷ ids) k = (k.0, all_known trees ids k.1)

-- a table has the numbers of a union where it has those of its parts
pub AreKnown-union : (trees : Trees) (xs ys : List TermId) → AreKnown trees xs → AreKnown trees ys → AreKnown trees (union same_id xs ys)
AreKnown-union trees xs ys k l = all_known trees (union same_id xs ys) (union-All (IsOf trees) same_id ys xs (each_known trees xs k) (each_known trees ys l))

-- a table has the numbers that are left where it has all
pub AreKnown-without : (trees : Trees) (ids : List TermId) (p : TermId) → AreKnown trees ids → AreKnown trees (without same_id ids p)
AreKnown-without trees ids p k = all_known trees (without same_id ids p) (All-filter (IsOf trees) (λ q. not (same_id p q)) ids (each_known trees ids k))

module _ (trees : Trees) (d : IsDistinct trees.terms) where
  -- numbers are one exactly where their trees are
  term_eq-at : (p q : TermId) → p.0 < length trees.terms → q.0 < length trees.terms → term_eq (term_at trees p.0) (term_at trees q.0) ≡ same_id p q
  term_eq-at p q h k =
      same_from_decides (term_eq (term_at trees p.0) (term_at trees q.0)) (same_id p q) (term_eq-Decides (term_at trees p.0) (term_at trees q.0))
      (Decides-like (same_id p q) (ap (λ (id : TermId). term_at trees id.0)) (term_in-same d p q h k) (same_id-Decides p q))

  -- the trees of a union are the union of the trees
  pub terms_at-union : (xs ys : List TermId) → AreKnown trees xs → AreKnown trees ys → terms_at trees (union same_id xs ys)
      ≡ union term_eq (terms_at trees xs) (terms_at trees ys)
  terms_at-union xs ys k l = union-map (λ id. term_at trees id.0) same_id term_eq (IsOf trees) term_eq-at ys xs (each_known trees xs k) (each_known trees ys l)

  -- the trees of what is left are what is left of the trees
  pub terms_at-without : (ids : List TermId) (p : TermId) → AreKnown trees ids → p.0 < length trees.terms → terms_at trees (without same_id ids p)
      ≡ without term_eq (terms_at trees ids) (term_at trees p.0)
  terms_at-without ids p k h = without-map (λ id. term_at trees id.0) same_id term_eq (IsOf trees) term_eq-at ids p (each_known trees ids k) h

  -- some trees are among others exactly where their numbers are
  all_in-at : (xs ys : List TermId) → AreKnown trees xs → AreKnown trees ys → list_all (λ t. is_in term_eq t (terms_at trees ys)) (terms_at trees xs)
      ≡ list_all (λ id. is_in same_id id ys) xs
  all_in-at [] ys k l = refl
  all_in-at (x ∷ xs) ys k l = ap₂ (λ a b. a && b)
      (is_in-map (λ id. term_at trees id.0) same_id term_eq (IsOf trees) term_eq-at x ys k.0 (each_known trees ys l)) (all_in-at xs ys k.1 l)

  -- a sequent is within another where its hypotheses and its conclusion are
  pub within-at : (a b : Sequent) → IsKnown trees a → IsKnown trees b → within (sequent_at trees a) (sequent_at trees b)
      ≡ (list_all (λ id. is_in same_id id b.hyps) a.hyps && same_id a.concl b.concl)
  within-at a b k l = ap₂ (λ x y. x && y) (all_in-at a.hyps b.hyps k.0 l.0) (term_eq-at a.concl b.concl k.1 l.1)

pub and_then : (a b c : Bool) → a ≡ true → b ≡ c → b ≡ (a && c)
and_then true b c e f = f
and_then false b c e f = absurd (cc)

pub and_not : (a b c : Bool) → a ≡ b → a ≡ false → a ≡ (b && c)
and_not a true c e f = absurd (cc)
and_not a false c e f = f
