-- What the numbered things stand for. In tables in which no tree has two numbers two things are one exactly where they stand for one, so that the
-- keys of things are those of what they stand for.
use Rattle.std.proofs.Common.{◌≡◌, ℕ, ◌+◌, ◌<◌, ◌==◌, Bool, true, false, cond, List, [], ◌∷◌, ◌++◌, length, Some, Option, refl, sym, ap, ◌∙◌, arith}
use Rattle.std.specs.Prelude.{map}
use Rattle.std.specs.List.{AllByRecursion, position_from}
use Rattle.std.proofs.lemmas.Bool.Decides.{nat_tests}
use Rattle.hol_spec.specs.Types.{HolType, type_eq}
use Rattle.hol_spec.specs.Terms.{Term, term_eq}
use Rattle.hol_laws.specs.TypeLaws.{type_eq-Decides}
use Rattle.hol_laws.specs.TermLaws.{term_eq-Decides}
use Rattle.hol_type.specs.Tables as type
use Rattle.hol_type.specs.TableLaws as type_law
use Rattle.hol_term.specs.Tables.{Trees, type_at, term_at, IsDistinct}
use Rattle.hol_term.specs.TableLaws.{term_in-Some}
use Rattle.article_write_spec.specs.Drafts.{Kept, kept_eq}
use Rattle.article_write_spec.specs.Lengths.{key_in}
use Rattle.article_lines.specs.declared.keys.Thing.{Thing}
use Rattle.article_lines.specs.declared.keys.Thing.TheVariants as thing
use Rattle.article_lines.specs.Things.{thing_eq, IsOneOf}

-- what a thing stands for
abbrev pub kept_at : Trees → Thing → Kept
kept_at trees (thing.Type a) = Kept.type (type_at trees a.0)
kept_at trees (thing.Term t) = Kept.term (term_at trees t.0)
kept_at trees (thing.Theorem i) = Kept.theorem i

abbrev pub all_kept_at : Trees → List Thing → List Kept
all_kept_at trees things = map (kept_at trees) things

-- its number is of the tables, or of one of so many steps
abbrev pub IsThing : Trees → ℕ → Thing → Type 0
IsThing trees count x = IsOneOf (length trees.types) (length trees.terms) count x

-- no type and no term has two numbers
pub record AreDistinct (trees : Trees) : Type 0 where
  pub types : type.IsDistinct trees.types
  pub terms : IsDistinct trees.terms

same-type : (trees : Trees) (i j : ℕ) → AreDistinct trees → i < length trees.types → j < length trees.types
    → type_eq (type_at trees i) (type_at trees j) ≡ (i == j)
same-type trees i j d low high = go (type_eq (type_at trees i) (type_at trees j)) (i == j) refl refl
  where
    same : (i == j) ≡ true → type_eq (type_at trees i) (type_at trees j) ≡ true
    same e = let is : i ≡ j = grind (arith, nat_tests, e) in (type_eq-Decides (type_at trees i) (type_at trees j)).1 (ap (type_at trees) is)

    one : type_eq (type_at trees i) (type_at trees j) ≡ true → (i == j) ≡ true
    one e =
        let t = (type_eq-Decides (type_at trees i) (type_at trees j)).0 e in
        let is = d.types.each i j (type_at trees j) (type_law.tree_at-Holds trees.types i low ∙ ap Some t) (type_law.tree_at-Holds trees.types j high) in
        grind (arith, nat_tests, is)

    go : (b c : Bool) → type_eq (type_at trees i) (type_at trees j) ≡ b → (i == j) ≡ c → b ≡ c
    go true true e f = refl
    go false false e f = refl
    go true false e f = sym (one e) ∙ f
    go false true e f = sym e ∙ same f

same-term : (trees : Trees) (i j : ℕ) → AreDistinct trees → i < length trees.terms → j < length trees.terms
    → term_eq (term_at trees i) (term_at trees j) ≡ (i == j)
same-term trees i j d low high = go (term_eq (term_at trees i) (term_at trees j)) (i == j) refl refl
  where
    same : (i == j) ≡ true → term_eq (term_at trees i) (term_at trees j) ≡ true
    same e = let is : i ≡ j = grind (arith, nat_tests, e) in (term_eq-Decides (term_at trees i) (term_at trees j)).1 (ap (term_at trees) is)

    one : term_eq (term_at trees i) (term_at trees j) ≡ true → (i == j) ≡ true
    one e =
        let t = (term_eq-Decides (term_at trees i) (term_at trees j)).0 e in
        let is = d.terms.each i j (term_at trees j) (term_in-Some trees.terms i low ∙ ap Some t) (term_in-Some trees.terms j high) in
        grind (arith, nat_tests, is)

    go : (b c : Bool) → term_eq (term_at trees i) (term_at trees j) ≡ b → (i == j) ≡ c → b ≡ c
    go true true e f = refl
    go false false e f = refl
    go true false e f = sym (one e) ∙ f
    go false true e f = sym e ∙ same f

-- two things are one exactly where they stand for one
pub kept_eq-thing_eq : (trees : Trees) (count : ℕ) (x y : Thing) → AreDistinct trees → IsThing trees count x → IsThing trees count y
    → kept_eq (kept_at trees x) (kept_at trees y) ≡ thing_eq x y
kept_eq-thing_eq trees count (thing.Type a) (thing.Type b) d h k = same-type trees a.0 b.0 d h k
kept_eq-thing_eq trees count (thing.Type a) (thing.Term u) d h k = refl
kept_eq-thing_eq trees count (thing.Type a) (thing.Theorem j) d h k = refl
kept_eq-thing_eq trees count (thing.Term t) (thing.Type b) d h k = refl
kept_eq-thing_eq trees count (thing.Term t) (thing.Term u) d h k = same-term trees t.0 u.0 d h k
kept_eq-thing_eq trees count (thing.Term t) (thing.Theorem j) d h k = refl
kept_eq-thing_eq trees count (thing.Theorem i) (thing.Type b) d h k = refl
kept_eq-thing_eq trees count (thing.Theorem i) (thing.Term u) d h k = refl
kept_eq-thing_eq trees count (thing.Theorem i) (thing.Theorem j) d h k = refl

position-kept : (trees : Trees) (count start : ℕ) (things : List Thing) (x : Thing) → AreDistinct trees → AllByRecursion (IsThing trees count) things
    → IsThing trees count x
    → position_from (kept_eq (kept_at trees x)) start (all_kept_at trees things) ≡ position_from (thing_eq x) start things
position-kept trees count start [] x d all h = refl
position-kept trees count start (y ∷ things) x d all h =
    ap (λ b. cond b (Some start) (position_from (kept_eq (kept_at trees x)) (start + 1) (all_kept_at trees things)))
    (kept_eq-thing_eq trees count x y d h all.0)
    ∙ ap (λ o. cond (thing_eq x y) (Some start) o) (position-kept trees count (start + 1) things x d all.1 h)

-- The key of what a thing stands for is the thing's.
pub key_in-thing : (trees : Trees) (count : ℕ) (things : List Thing) (x : Thing) → AreDistinct trees → AllByRecursion (IsThing trees count) things
    → IsThing trees count x
    → key_in (all_kept_at trees things) (kept_at trees x) ≡ position_from (thing_eq x) 0 things
key_in-thing trees count things x d all h = position-kept trees count 0 things x d all h

-- one thing more
pub all_kept_at-push : (trees : Trees) (things : List Thing) (x : Thing)
    → all_kept_at trees (things ++ x ∷ []) ≡ all_kept_at trees things ++ kept_at trees x ∷ []
all_kept_at-push trees [] x = refl
all_kept_at-push trees (y ∷ things) x = ap (λ l. kept_at trees y ∷ l) (all_kept_at-push trees things x)
