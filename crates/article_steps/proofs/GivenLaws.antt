-- Lists of pairs and of terms by their numbers.
use Rattle.std.proofs.Common.{◌≡◌, ℕ, zero, suc, ◌<◌, List, [], ◌∷◌, length, map, get_or, Some, refl, sym, ap, subst, ◌∙◌, arith}
use Rattle.std.specs.Prelude.{slice_get, slice_index_or}
use Rattle.std.specs.List.{AllByRecursion}
use Rattle.hol_spec.specs.Names.{Name}
use Rattle.hol_spec.specs.Types.{HolType}
use Rattle.hol_spec.specs.Terms.{Term, Variable, IsTerm}
use Rattle.hol_type.specs.declared.table.TypeId.{TypeId}
use Rattle.hol_type.specs.Tables as type
use Rattle.hol_term.specs.declared.TermId.{TermId}
use Rattle.hol_term.specs.declared.Variable.{Variable as AVariable}
use Rattle.hol_term.specs.Tables.{Trees, terms_at, AreKnown, IsTermAt}
use Rattle.hol_term.specs.Substitutions.{term_pairs_at, AreTermPairsKnown}
use Rattle.hol_defs.specs.Lists.{ArePairsKnown}
use Rattle.article_spec.specs.declared.commands.Item.TheVariants as item
use Rattle.article_write_spec.specs.Drafts.{say_name}
use Rattle.article_write_spec.specs.WrittenTypes.{write_type, write_variable}
use Rattle.article_write_spec.specs.WrittenTerms.{write_term}
use Rattle.article_steps.specs.Said.{IsAppending}
use Rattle.article_steps.specs.Given.{type_pair_writer, term_pair_writer, constant_pair_writer, type_pair_at, term_pair_at}
use Rattle.article_steps.proofs.SaidLaws.{appends-say, appends-pair, appends-type, appends-variable, appends-under}

-- Elements
pub item-here : {A : Type 0} (xs : List A) (i : ℕ) (d : A) → i < length xs → slice_get xs i ≡ Some (slice_index_or xs i d)
item-here [] i d h = absurd (omega (arith, h))
item-here (x ∷ xs) zero d h = refl
item-here (x ∷ xs) (suc i) d h = item-here xs i d (omega (arith, h))

pub item-at : {A : Type 0} (xs : List A) (i : ℕ) (x : A) → x ≡ get_or xs i x → i < length xs → slice_get xs i ≡ Some x
item-at xs i x e h = item-here xs i x h ∙ ap Some (sym e)

-- Views
pub type_pairs-view : (trees : Trees) (ps : List (Name × TypeId)) → type.pairs_at trees.types ps ≡ map (type_pair_at trees) ps
type_pairs-view trees [] = refl
type_pairs-view trees (p ∷ ps) = ap (λ l. type_pair_at trees p ∷ l) (type_pairs-view trees ps)

pub term_pairs-view : (trees : Trees) (ps : List (AVariable × TermId)) → term_pairs_at trees ps ≡ map (term_pair_at trees) ps
term_pairs-view trees [] = refl
term_pairs-view trees (p ∷ ps) = ap (λ l. term_pair_at trees p ∷ l) (term_pairs-view trees ps)

-- What is known of an element
pub term-known : (trees : Trees) (ids : List TermId) (i : ℕ) (id : TermId) → slice_get ids i ≡ Some id → AreKnown trees ids → id.0 < length trees.terms
term-known trees [] i id e h = absurd (cc)
term-known trees (x ∷ ids) zero id e h = let one : x ≡ id = cc in subst (λ (y : TermId). y.0 < length trees.terms) one h.0
term-known trees (x ∷ ids) (suc i) id e h = term-known trees ids i id e h.1

pub term-closed : (trees : Trees) (ids : List TermId) (i : ℕ) (id : TermId) → slice_get ids i ≡ Some id → AllByRecursion IsTerm (terms_at trees ids)
    → IsTermAt trees id.0
term-closed trees [] i id e h = absurd (cc)
term-closed trees (x ∷ ids) zero id e h = let one : x ≡ id = cc in subst (λ (y : TermId). IsTermAt trees y.0) one h.0
term-closed trees (x ∷ ids) (suc i) id e h = term-closed trees ids i id e h.1

pub type_pair-known : (trees : Trees) (ps : List (Name × TypeId)) (i : ℕ) (p : Name × TypeId) → slice_get ps i ≡ Some p → type.ArePairsKnown trees.types ps
    → p.1.0 < length trees.types
type_pair-known trees [] i p e h = absurd (cc)
type_pair-known trees (x ∷ ps) zero p e h = let one : x ≡ p = cc in subst (λ (y : Name × TypeId). y.1.0 < length trees.types) one h.0
type_pair-known trees (x ∷ ps) (suc i) p e h = type_pair-known trees ps i p e h.1

pub term_pair-known : (trees : Trees) (ps : List (AVariable × TermId)) (i : ℕ) (p : AVariable × TermId) → slice_get ps i ≡ Some p → AreTermPairsKnown trees ps
    → (p.0.ty.0 < length trees.types) × (p.1.0 < length trees.terms)
term_pair-known trees [] i p e h = absurd (cc)
term_pair-known trees (x ∷ ps) zero p e h = let one : x ≡ p =
    cc in subst (λ (y : AVariable × TermId). (y.0.ty.0 < length trees.types) × (y.1.0 < length trees.terms)) one (h.0, h.1.0)
term_pair-known trees (x ∷ ps) (suc i) p e h = term_pair-known trees ps i p e h.1.1

pub term_pair-closed : (trees : Trees) (ps : List (AVariable × TermId)) (i : ℕ) (p : AVariable × TermId) → slice_get ps i ≡ Some p
    → AllByRecursion (λ (y : Variable × Term). IsTerm y.1) (term_pairs_at trees ps) → IsTermAt trees p.1.0
term_pair-closed trees [] i p e h = absurd (cc)
term_pair-closed trees (x ∷ ps) zero p e h = let one : x ≡ p = cc in subst (λ (y : AVariable × TermId). IsTermAt trees y.1.0) one h.0
term_pair-closed trees (x ∷ ps) (suc i) p e h = term_pair-closed trees ps i p e h.1

pub constant_pair-known : (trees : Trees) (ps : List (Name × AVariable)) (i : ℕ) (p : Name × AVariable) → slice_get ps i ≡ Some p → ArePairsKnown trees ps
    → p.1.ty.0 < length trees.types
constant_pair-known trees [] i p e h = absurd (cc)
constant_pair-known trees (x ∷ ps) zero p e h = let one : x ≡ p = cc in subst (λ (y : Name × AVariable). y.1.ty.0 < length trees.types) one h.0
constant_pair-known trees (x ∷ ps) (suc i) p e h = constant_pair-known trees ps i p e h.1

-- Pairs append
pub appends-type_pair : (p : Name × HolType) → IsAppending (type_pair_writer p)
appends-type_pair p = appends-pair (say_name p.0) (write_type p.1) (appends-say (item.Name p.0)) (appends-type p.1)

pub appends-term_pair : (q : ℕ) (p : Variable × Term) → IsAppending (term_pair_writer q p)
appends-term_pair q p = appends-pair (write_variable p.0) (write_term q p.1) (appends-variable p.0) (appends-under q [] p.1)

pub appends-constant_pair : (p : Name × Variable) → IsAppending (constant_pair_writer p)
appends-constant_pair p = appends-pair (say_name p.0) (write_variable p.1) (appends-say (item.Name p.0)) (appends-variable p.1)
