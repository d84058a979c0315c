-- What follows from the words for tables.
use Rattle.std.proofs.Common.{◌≡◌, ℕ, suc, ◌<◌, ◌≤◌, refl, sym, ap, ◌∙◌, arith, List, [], ◌∷◌, ◌++◌, length, Option, Some, None}
use Rattle.std.specs.Prelude.{slice_get, unwrap_or, take}
use Rattle.std.proofs.lemmas.Option.{slice_get_within, slice_get-get_or, unwrap_or-slice_get, same_Some}
use Rattle.std.proofs.Math.Path.{ap₂}
use Rattle.hol_spec.specs.Types.{HolType}
use Rattle.hol_spec.specs.Terms.{Term, free, bound, constant, app, lam}
use Rattle.hol_type.specs.declared.table.TypeId.{TypeId}
use Rattle.hol_type.specs.Tables as type
use Rattle.hol_type.specs.TableLaws as type_law
use Rattle.hol_term.specs.declared.TermId.{TermId}
use Rattle.hol_term.specs.declared.node.Node.{Node}
use Rattle.hol_term.specs.declared.node.Node.TheVariants as node
use Rattle.hol_term.specs.Tables.{Trees, term_in, terms_at, AreKnown, IsDistinct, Stays, Keeps, IsTypeNumber}
use Rattle.hol_term.specs.Nodes.{tree_of_node, PartsBelow}
use Rattle.hol_laws.specs.PlaceLaws.{slice_get-append}

-- a number that the list has, has its term
pub term_in-Some : (ts : List Term) (i : ℕ) → i < length ts → slice_get ts i ≡ Some (term_in ts i)
term_in-Some ts i h = slice_get-get_or ts i (bound 0) h ∙ ap Some (sym (unwrap_or-slice_get ts i (bound 0)))

-- a term that the number has is the number's
pub Some-term_in : (ts : List Term) (i : ℕ) (t : Term) → slice_get ts i ≡ Some t → term_in ts i ≡ t
Some-term_in ts i t e = ap (λ o. unwrap_or o (bound 0)) e

pub Stays-refl : (ts : List Term) → Stays ts ts
Stays-refl ts = record { each = λ i t e. e }

pub Stays-trans : {a b c : List Term} → Stays a b → Stays b c → Stays a c
Stays-trans h k = record { each = λ i t e. k.each i t (h.each i t e) }

pub Stays-append : (ts us : List Term) → Stays ts (ts ++ us)
Stays-append ts us = record { each = slice_get-append ts us }

-- a number's term stays
pub term_in-Stays : {ts us : List Term} → Stays ts us → (i : ℕ) → i < length ts → term_in ts i ≡ term_in us i
term_in-Stays {ts = ts} {us = us} k i h = sym (Some-term_in us i (term_in ts i) (k.each i (term_in ts i) (term_in-Some ts i h)))

pub Keeps-refl : (ts : Trees) → Keeps ts ts
Keeps-refl ts = record { types = type_law.Keeps-refl ts.types; stays = Stays-refl ts.terms; longer = omega arith; distinct = λ d. d }

pub Keeps-trans : {a b c : Trees} → Keeps a b → Keeps b c → Keeps a c
Keeps-trans h k = record {
  types = type_law.Keeps-trans h.types k.types;
  stays = Stays-trans h.stays k.stays;
  longer = omega (arith, h.longer, k.longer);
  distinct = λ d. k.distinct (h.distinct d);
}

-- a node's tree stays
pub tree_of_node-Stays : (a b : Trees) → type.Stays a.types b.types → Stays a.terms b.terms → (n : Node) → PartsBelow (length a.terms) (length a.types) n
    → tree_of_node a n ≡ tree_of_node b n
tree_of_node-Stays a b s k (node.Free m t) h = ap (free m) (type_law.tree_at-Stays s t.0 h)
tree_of_node-Stays a b s k (node.Bound n) h = refl
tree_of_node-Stays a b s k (node.Const m t) h = ap (constant m) (type_law.tree_at-Stays s t.0 h)
tree_of_node-Stays a b s k (node.App f x) h = ap₂ app (term_in-Stays k f.0 h.0) (term_in-Stays k x.0 h.1)
tree_of_node-Stays a b s k (node.Lam t x) h = ap₂ lam (type_law.tree_at-Stays s t.0 h.0) (term_in-Stays k x.0 h.1)

-- parts below a number are below a greater one
pub PartsBelow-more : {a b c d : ℕ} → a ≤ b → c ≤ d → (n : Node) → PartsBelow a c n → PartsBelow b d n
PartsBelow-more h k (node.Free m t) p = omega arith
PartsBelow-more h k (node.Bound n) p = p
PartsBelow-more h k (node.Const m t) p = omega arith
PartsBelow-more h k (node.App f x) p = (omega (arith, p.0), omega (arith, p.1))
PartsBelow-more h k (node.Lam t x) p = (omega (arith, p.0), omega (arith, p.1))

-- the front of a list that kept an older one is the older one
pub take-Stays : (ts us : List Term) → Stays ts us → take (length ts) us ≡ ts
take-Stays [] us k = refl
take-Stays (t ∷ ts) [] k = absurd (let h = slice_get_within [] 0 t (k.each 0 t refl) in omega arith)
take-Stays (t ∷ ts) (u ∷ us) k = ap₂ (λ x l. x ∷ l) (same_Some _ _ (k.each 0 t refl)) (take-Stays ts us (record { each = λ i v e. k.each (suc i) v e }))

-- the numbers of a table are of a longer one, and have the same terms there
pub AreKnown-Keeps : {a b : Trees} → Keeps a b → (ids : List TermId) → AreKnown a ids → AreKnown b ids
AreKnown-Keeps k [] h = tt
AreKnown-Keeps k (id ∷ ids) h = (omega (arith, k.longer, h.0), AreKnown-Keeps k ids h.1)

pub terms_at-Keeps : {a b : Trees} → Keeps a b → (ids : List TermId) → AreKnown a ids → terms_at a ids ≡ terms_at b ids
terms_at-Keeps k [] h = refl
terms_at-Keeps k (id ∷ ids) h = ap₂ (λ t l. t ∷ l) (term_in-Stays k.stays id.0 h.0) (terms_at-Keeps k ids h.1)

-- where no term has two numbers, numbers with one term are one
pub term_in-same : {ts : List Term} → IsDistinct ts → (f g : TermId) → f.0 < length ts → g.0 < length ts → term_in ts f.0 ≡ term_in ts g.0 → f ≡ g
term_in-same {ts = ts} d f g hf hg e =
    let p = d.each f.0 g.0 (term_in ts g.0) (term_in-Some ts f.0 hf ∙ ap Some e) (term_in-Some ts g.0 hg) in
    λ i. record { 0 = p i }

-- the number of a type stays it
pub IsTypeNumber-Keeps : {a b : List HolType} → type.Keeps a b → (ty : Option TypeId) (o : Option HolType) → IsTypeNumber a ty o → IsTypeNumber b ty o
IsTypeNumber-Keeps k None o h = h
IsTypeNumber-Keeps k (Some id) o h = (omega (arith, k.longer, h.0), h.1 ∙ ap Some (type_law.tree_at-Stays k.stays id.0 h.0))
