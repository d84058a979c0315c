-- What a step needs, in the parts in which a walk is given it.
use Rattle.std.proofs.Common.{◌≡◌, ℕ, zero, suc, ◌+◌, ◌<◌, ◌==◌, List, [], ◌∷◌, ◌++◌, map, length, take, false, ◌||◌, refl, sym, ap, subst, ◌∙◌, append_assoc, arith}
use Rattle.std.specs.Prelude.{slice_index_or}
use Rattle.std.specs.List.{AllByRecursion, flat_map}
use Rattle.std.proofs.lemmas.List.{append-nil, take_more}
use Rattle.hol_spec.specs.Names.{Name}
use Rattle.hol_spec.specs.NameEquality.{name_eq}
use Rattle.hol_spec.specs.Lists.{is_in}
use Rattle.hol_type.specs.declared.table.TypeId.{TypeId}
use Rattle.hol_type.specs.Tables as type
use Rattle.hol_term.specs.declared.TermId.{TermId}
use Rattle.hol_term.specs.declared.Variable.{Variable}
use Rattle.hol_term.specs.Substitutions.{term_pairs_at, AreTermPairsKnown}
use Rattle.hol_term.specs.Tables.{Trees, term_at, type_at, terms_at, AreKnown}
use Rattle.hol_defs.specs.Lists.{pairs_at as pairs_view, ArePairsKnown}
use Rattle.hol_rules.specs.Kept.{Kept, step_count}
use Rattle.article_write_spec.specs.Mentions.{Need}
use Rattle.article_lines.specs.Flagged.{flag}
use Rattle.article_reach.specs.declared.walk.Task.{Task}
use Rattle.article_reach.specs.declared.walk.Task.TheVariants as task
use Rattle.article_reach.specs.declared.walk.Walk.{Walk}
use Rattle.article_reach.specs.Found.{Found, Asked, is_found, IsAsked, type_found, term_found, steps_found}
use Rattle.article_reach.specs.FoundPairs.{variable_found, term_put, types_put, terms_put, constants_put}
use Rattle.article_reach.specs.Least.{is_among}
use Rattle.article_reach.specs.Looked.{IsWalkOf, WalksOn}
use Rattle.article_reach.specs.Walks.{is_marked, found_in, IsTaskKnown}
use Rattle.article_reach.proofs.Parts.{Marks}
use Rattle.article_reach.proofs.Walked.{or-false, Gains, gains-IsWalk, gains-Wants, Wants-trans, Wants-refl}

-- A walk on
module _ (p : Kept) where
  pub gains-WalksOn : (w v : Walk) (own : List Found) (more : List Task) → IsWalkOf p w → Marks p.trees (step_count p) w v own
      → AllByRecursion (IsTaskKnown p.trees) more → v.types.items ≡ w.types.items → v.terms.items ≡ w.terms.items
      → v.tasks ≡ more ++ w.tasks → WalksOn p (own ++ found_in p.trees more) w v
  gains-WalksOn w v own more h m known types terms tasks =
      let gains : Gains p.trees (step_count p) w v own more =
      record { known = known; marks = m.each; steps_count = m.steps_count; types = types; terms = terms; tasks = tasks } in
      record { walk = gains-IsWalk p.trees (step_count p) w v own more h gains; wants = gains-Wants p.trees (step_count p) w v own more h gains }

  pub trans-WalksOn : (fs gs : List Found) (a b c : Walk) → WalksOn p fs a b → WalksOn p gs b c → WalksOn p (fs ++ gs) a c
  trans-WalksOn fs gs a b c h k = record { walk = k.walk; wants = Wants-trans p.trees (step_count p) fs gs a b c h.wants k.wants }

  pub refl-WalksOn : (a : Walk) → IsWalkOf p a → WalksOn p [] a a
  refl-WalksOn a h = record { walk = h; wants = Wants-refl p.trees (step_count p) a }

  -- one more of a list
  pub next-WalksOn : {A : Type 0} (f : A → List Found) (xs : List A) (i : ℕ) (x : A) (a b c : Walk) → i < length xs → x ≡ slice_index_or xs i x
      → WalksOn p (flat_map f (take i xs)) a b → WalksOn p (f x) b c → WalksOn p (flat_map f (take (i + 1) xs)) a c
  next-WalksOn {A = A} f xs i x a b c low is h k =
      subst (λ fs. WalksOn p fs a c) (last (take i xs) x ∙ ap (flat_map f) (ap (λ y. take i xs ++ y ∷ []) is ∙ sym (take_more xs i x low)))
      (trans-WalksOn (flat_map f (take i xs)) (f x) a b c h k)
    where
      last : (ys : List A) (y : A) → flat_map f ys ++ f y ≡ flat_map f (ys ++ y ∷ [])
      last [] y = sym (append-nil (f y))
      last (z ∷ ys) y = append_assoc (f z) (flat_map f ys) (f y) ∙ ap (λ l. f z ++ l) (last ys y)

-- Steps are marked
found-steps : (ids : List ℕ) (i : ℕ) → is_found (steps_found ids) (Asked.need (Need.step i)) ≡ is_among ids i
found-steps [] i = refl
found-steps (j ∷ ids) i = ap (λ b. (i == j) || b) (found-steps ids i)

no-operators : (ids : List ℕ) (n : Name) → is_found (steps_found ids) (Asked.need (Need.operator n)) ≡ false
no-operators [] n = refl
no-operators (j ∷ ids) n = no-operators ids n

no-constants : (ids : List ℕ) (n : Name) → is_found (steps_found ids) (Asked.need (Need.constant n)) ≡ false
no-constants [] n = refl
no-constants (j ∷ ids) n = no-constants ids n

no-numbers : (ids : List ℕ) (q : ℕ) → is_found (steps_found ids) (Asked.number q) ≡ false
no-numbers [] q = refl
no-numbers (j ∷ ids) q = no-numbers ids q

pub marks-steps : (trees : Trees) (count : ℕ) (w v : Walk) (ids : List ℕ) → length v.steps.items ≡ length w.steps.items
    → ((i : ℕ) → flag v.steps.items i ≡ (flag w.steps.items i || is_among ids i)) → v.operators ≡ w.operators
    → v.constants ≡ w.constants → v.numbers.items ≡ w.numbers.items → Marks trees count w v (steps_found ids)
marks-steps trees count w v ids long steps operators constants numbers = record { each = each; steps_count = long }
  where
    each : (x : Asked) → IsAsked x → is_marked v x ≡ (is_marked w x || is_found (steps_found ids) x)
    each (Asked.need (Need.operator m)) i = ap (is_in name_eq m) operators ∙ sym (or-false (is_in name_eq m w.operators)) ∙ ap
        (λ b. is_in name_eq m w.operators || b) (sym (no-operators ids m))
    each (Asked.need (Need.constant m)) i = ap (is_in name_eq m) constants ∙ sym (or-false (is_in name_eq m w.constants)) ∙ ap
        (λ b. is_in name_eq m w.constants || b) (sym (no-constants ids m))
    each (Asked.need (Need.step k)) i = steps k ∙ ap (λ b. flag w.steps.items k || b) (sym (found-steps ids k))
    each (Asked.number q) i = ap (λ l. is_among l q) numbers ∙ sym (or-false (is_among w.numbers.items q)) ∙ ap (λ b. is_among w.numbers.items q || b)
        (sym (no-numbers ids q))

-- The terms of a sequent
pub terms-found : (trees : Trees) (ids : List TermId) (id : TermId) → found_in trees (map task.Term ids ++ task.Term id ∷ [])
    ≡ flat_map term_found (terms_at trees ids ++ term_at trees id.0 ∷ [])
terms-found trees [] id = refl
terms-found trees (i ∷ ids) id = ap (λ l. term_found (term_at trees i.0) ++ l) (terms-found trees ids id)

pub terms-known : (trees : Trees) (ids : List TermId) (id : TermId) → AreKnown trees ids → id.0 < length trees.terms
    → AllByRecursion (IsTaskKnown trees) (map task.Term ids ++ task.Term id ∷ [])
terms-known trees [] id h l = (l, tt {0})
terms-known trees (i ∷ ids) id h l = (h.0, terms-known trees ids id h.1 l)

-- What is put for variables
pub types-put : (trees : Trees) (ps : List (Name × TypeId)) → types_put trees ps ≡ flat_map (λ p. type_found p.1) (type.pairs_at trees.types ps)
types-put trees [] = refl
types-put trees (p ∷ ps) = ap (λ l. type_found (type_at trees p.1.0) ++ l) (types-put trees ps)

pub terms-put : (trees : Trees) (ps : List (Variable × TermId)) → terms_put trees ps
    ≡ flat_map (λ p. Found.named p.0.0 ∷ type_found p.0.1 ++ term_found p.1) (term_pairs_at trees ps)
terms-put trees [] = refl
terms-put trees (p ∷ ps) = ap (λ l. term_put trees p.0 p.1 ++ l) (terms-put trees ps)

pub constants-put : (trees : Trees) (ps : List (Name × Variable)) → constants_put trees ps
    ≡ flat_map (λ p. Found.named p.1.0 ∷ type_found p.1.1) (pairs_view trees ps)
constants-put trees [] = refl
constants-put trees (p ∷ ps) = ap (λ l. variable_found trees p.1 ++ l) (constants-put trees ps)

-- their numbers are of the table
pub type-known : (trees : Trees) (ps : List (Name × TypeId)) (i : ℕ) (q : Name × TypeId) → type.ArePairsKnown trees.types ps → i < length ps → q
    ≡ slice_index_or ps i q → q.1.0 < length trees.types
type-known trees [] i q h l e = absurd (omega (arith, l))
type-known trees (p ∷ ps) zero q h l e = subst (λ (r : Name × TypeId). r.1.0 < length trees.types) (sym e) h.0
type-known trees (p ∷ ps) (suc i) q h l e = type-known trees ps i q h.1 (omega (arith, l)) e

pub constant-known : (trees : Trees) (ps : List (Name × Variable)) (i : ℕ) (q : Name × Variable) → ArePairsKnown trees ps → i < length ps → q
    ≡ slice_index_or ps i q → q.1.ty.0 < length trees.types
constant-known trees [] i q h l e = absurd (omega (arith, l))
constant-known trees (p ∷ ps) zero q h l e = subst (λ (r : Name × Variable). r.1.ty.0 < length trees.types) (sym e) h.0
constant-known trees (p ∷ ps) (suc i) q h l e = constant-known trees ps i q h.1 (omega (arith, l)) e

pub put-known : (trees : Trees) (ps : List (Variable × TermId)) (i : ℕ) (q : Variable × TermId) → AreTermPairsKnown trees ps → i < length ps → q
    ≡ slice_index_or ps i q → (q.0.ty.0 < length trees.types) × (q.1.0 < length trees.terms)
put-known trees [] i q h l e = absurd (omega (arith, l))
put-known trees (p ∷ ps) zero q h l e = subst (λ (r : Variable × TermId). (r.0.ty.0 < length trees.types) × (r.1.0 < length trees.terms)) (sym e) (h.0, h.1.0)
put-known trees (p ∷ ps) (suc i) q h l e = put-known trees ps i q h.1.1 (omega (arith, l)) e
