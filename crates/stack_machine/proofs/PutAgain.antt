-- What is remembered of lists, found and kept.
use Rattle.std.proofs.Common.{◌≡◌, ℕ, arith, refl, sym, ap, subst, ◌∙◌, List, [], ◌∷◌, Bool, true, false, cond, Option, Some, None, IfSome, Ok}
use Rattle.std.specs.Borrow.{Bor}
use Rattle.std.specs.Option.{option_copied}
use Rattle.std.specs.Map.{lookup}
use Rattle.std.specs.BTreeMap.{is_at, insert_entry}
use Rattle.std.specs.Ordering.{is_eq, match_ordering}
use Rattle.std.specs.declared.cmp.Ordering.{Ordering}
use Rattle.std.specs.declared.cmp.Ordering.TheVariants.{Less, Equal, Greater}
use Rattle.std.proofs.lemmas.Bool.{eqb-true, and_parts}
use Rattle.std.proofs.Math.Path.{ap₂}
use Rattle.hol_type.specs.TableLaws as type_law
use Rattle.hol_term.specs.Substitutions.{term_pairs_at, AreTermPairs, ArePairsFitting}
use Rattle.hol_term.specs.TableLaws as table_law
use Rattle.hol_term.specs.Tables.{Trees, term_at, type_at, IsTermAt, Keeps}
use Rattle.hol_spec.specs.Terms.{HasType}
use Rattle.hol_spec.specs.Terms as hol
use Rattle.hol_term.specs.declared.TermId.{TermId}
use Rattle.hol_term.specs.declared.Variable.{Variable}
use Rattle.hol_rules.specs.declared.made.Substitution.{Substitution}
use Rattle.stack_machine.specs.declared.object.List.{List as AList}
use Rattle.stack_machine.specs.declared.object.List.TheVariants.{Empty, Cell as CellOf}
use Rattle.stack_machine.specs.declared.remembered.Lists.{Lists}
use Rattle.stack_machine.specs.contracts.object.ListPartialEq.TheImpl as list_eq
use Rattle.stack_machine.specs.contracts.remembered.ListsPartialEq.TheImpl as lists_eq
use Rattle.stack_machine.specs.contracts.remembered.ListsOrd.TheImpl as lists_ord
use Rattle.stack_machine.specs.contracts.remembered.ListsOrd.TheImpl.Laws.{matches_eq-law}
use Rattle.stack_machine.specs.Stored.{Stored, Grows}
use Rattle.stack_machine.specs.StoredLaws.{list_view-Grows, IsListKnown-Grows}
use Rattle.stack_machine.proofs.Stated.{known_term}
use Rattle.stack_machine.specs.Putting.{pairs_of, lists_view, put_view, AreListsKnown, AreRemembered, IsPutBy, IsReady}

-- the order of lists
abbrev pub lists_cmp : Lists → Lists → Ordering
lists_cmp = (lists_ord.ghosts).cmp

list-same : (a b : AList) → list_eq.eq-value.it a b ≡ true → a ≡ b
list-same Empty Empty h = refl
list-same Empty (CellOf d) h = absurd (cc)
list-same (CellOf c) Empty h = absurd (cc)
list-same (CellOf c) (CellOf d) h = let p = eqb-true c.0 d.0 h in λ i. CellOf (record { 0 = p i })

lists-same : (a b : Lists) → lists_eq.eq-value.it a b ≡ true → a ≡ b
lists-same a b h =
    let parts = and_parts (list_eq.eq-value.it a.types b.types) (list_eq.eq-value.it a.terms b.terms) h in
    let t = list-same a.types b.types parts.0 in
    let u = list-same a.terms b.terms parts.1 in
    λ i. record { types = t i; terms = u i }

-- lists that are equal in their order are the same
lists-exact : (a b : Lists) → is_at (lists_cmp a) b ≡ true → a ≡ b
lists-exact a b h = lists-same a b (matches_eq-law a b ∙ h)

-- what is found for lists is what they put
found : (m : Stored) (lists : Lists) (es : List (Lists × Substitution)) (put : Substitution) → AreRemembered m es → lookup (is_at (lists_cmp lists)) es
    ≡ Some put → IsPutBy m lists put
found m lists [] put h e = absurd (cc)
found m lists (x ∷ es) put h e = either (is_at (lists_cmp lists) x.0) refl e (found m lists es put h.1)
  where
    either : (b : Bool) → is_at (lists_cmp lists) x.0 ≡ b → cond b (Some x.1) (lookup (is_at (lists_cmp lists)) es) ≡ Some put
        → (lookup (is_at (lists_cmp lists)) es ≡ Some put → IsPutBy m lists put) → IsPutBy m lists put
    either true d g r = let s : x.1 ≡ put = cc in subst (IsPutBy m lists) s (subst (λ l. IsPutBy m l x.1) (sym (lists-exact lists x.0 d)) h.0)
    either false d g r = r g

pub found-put : (m : Stored) (lists : Lists) (es : List (Lists × Substitution)) (o : Option Substitution) → o ≡ lookup (is_at (lists_cmp lists)) es
    → AreRemembered m es → IfSome o (IsPutBy m lists)
found-put m lists es None e h = tt
found-put m lists es (Some put) e h = found m lists es put h (sym e)

-- what is said of a value is said of the reference to it
pub borrowed : {T : Type 0} (P : T → Type 0) (r : Option (Bor T)) → IfSome (option_copied r) P → IfSome r (λ x. P x.now)
borrowed P None h = tt
borrowed P (Some x) h = h

-- one more is remembered, or another in its place
pub kept-remembered : (m : Stored) (lists : Lists) (put : Substitution) (es : List (Lists × Substitution)) → AreRemembered m es → IsPutBy m lists put
    → AreRemembered m (insert_entry lists_cmp es lists put)
kept-remembered m lists put [] h l = (l, tt)
kept-remembered m lists put (x ∷ es) h l = either (lists_cmp lists x.0) refl (kept-remembered m lists put es h.1 l)
  where
    either : (r : Ordering) → lists_cmp lists x.0 ≡ r → AreRemembered m (insert_entry lists_cmp es lists put)
        → AreRemembered m (match_ordering r ((lists, put) ∷ x ∷ es) ((x.0, put) ∷ es) (x ∷ insert_entry lists_cmp es lists put))
    either Less d k = (l, h)
    either Equal d k = (subst (λ lists. IsPutBy m lists put) (lists-exact lists x.0 (ap is_eq d)) l, h.1)
    either Greater d k = (h.0, k)

-- what is ready stays ready in a longer table
module _ {a b : Trees} (k : Keeps a b) where
  term-stays : (id : ℕ) → IsTermAt a id → term_at a id ≡ term_at b id
  term-stays id h = table_law.term_in-Stays k.stays id (known_term a id h)

  terms-Keep : (ps : List (Variable × TermId)) → AreTermPairs a ps → AreTermPairs b ps
  terms-Keep [] h = tt
  terms-Keep (p ∷ ps) h = (omega (arith, k.types.longer, h.0), (subst hol.IsTerm (term-stays p.1.0 h.1.0) h.1.0, terms-Keep ps h.1.1))

  pairs-Keep : (ps : List (Variable × TermId)) → AreTermPairs a ps → term_pairs_at a ps ≡ term_pairs_at b ps
  pairs-Keep [] h = refl
  pairs-Keep (p ∷ ps) h = ap₂ (λ q l. q ∷ l) (ap₂ (λ t u. ((p.0.name, t), u)) (type_law.tree_at-Stays k.types.stays p.0.ty.0 h.0) (term-stays p.1.0 h.1.0))
      (pairs-Keep ps h.1.1)

  fits-Keep : (ps : List (Variable × TermId)) → AreTermPairs a ps → ArePairsFitting a ps → ArePairsFitting b ps
  fits-Keep [] h f = tt
  fits-Keep (p ∷ ps) h f = (
    subst (HasType (term_at b p.1.0)) (type_law.tree_at-Stays k.types.stays p.0.ty.0 h.0)
        (subst (λ t. HasType t (type_at a p.0.ty.0)) (term-stays p.1.0 h.1.0) f.0),
    fits-Keep ps h.1.1 f.1,
  )

  ready-Keep : (put : Substitution) → IsReady a put → IsReady b put
  ready-Keep put h = record {
    types = type_law.ArePairsKnown-Keeps k.types put.types.items h.types;
    terms = terms-Keep put.terms.items h.terms;
    fits = fits-Keep put.terms.items h.terms h.fits;
  }

  view-Keep : (put : Substitution) → IsReady a put → put_view a put ≡ put_view b put
  view-Keep put h = ap₂ (λ p q. (p, q)) (type_law.pairs_at-Stays k.types.stays put.types.items h.types) (pairs-Keep put.terms.items h.terms)

-- what is remembered stays right where more is kept
module _ {a b : Stored} (g : Grows a b) where
  lists_view-Grows : (lists : Lists) → AreListsKnown a lists → lists_view a lists ≡ lists_view b lists
  lists_view-Grows lists k = ap₂ (λ xs ys. (xs, ys)) (list_view-Grows g lists.types k.types) (list_view-Grows g lists.terms k.terms)

  put-Grows : (lists : Lists) (put : Substitution) → IsPutBy a lists put → IsPutBy b lists put
  put-Grows lists put h = record {
    known = record { types = IsListKnown-Grows g lists.types h.known.types; terms = IsListKnown-Grows g lists.terms h.known.terms };
    pairs = ap pairs_of (sym (lists_view-Grows lists h.known)) ∙ h.pairs ∙ ap Ok (view-Keep g.trees put h.ready);
    ready = ready-Keep g.trees put h.ready;
  }

  pub remembered-Grow : (es : List (Lists × Substitution)) → AreRemembered a es → AreRemembered b es
  remembered-Grow [] h = tt
  remembered-Grow (e ∷ es) h = (put-Grows e.0 e.1 h.0, remembered-Grow es h.1)
