-- Terms that are put into one tree, and taken out of it.
use Rattle.std.proofs.Common.{◌≡◌, ℕ, zero, suc, ◌+◌, ◌-◌, ◌<◌, ◌≤◌, refl, sym, ap, subst, ◌∙◌, arith, List, [], ◌∷◌, ◌++◌, length, map, get_or, append_assoc, append-nil}
use Rattle.std.specs.Prelude.{take}
use Rattle.std.proofs.lemmas.List.{drop_more, drop_all, take-append-drop, map-append, length-take}
use Rattle.hol_spec.specs.Substitution.{TypePairs}
use Rattle.hol_spec.specs.Terms.{Term, app}
use Rattle.hol_spec.specs.TermSubstitution.{TermPairs, sub}
use Rattle.hol_term.specs.declared.TermId.{TermId}
use Rattle.hol_term.specs.declared.TermView.{TermView}
use Rattle.hol_term.specs.declared.TermView.TheVariants as view
use Rattle.hol_term.specs.Views.{tree_of_view}
use Rattle.hol_term.specs.Tables.{Trees, term_at, terms_at, AreKnown, Holds, Keeps}
use Rattle.hol_term.specs.TableLaws.{term_in-Stays, Some-term_in, Keeps-refl, Keeps-trans}
use Rattle.hol_rules.specs.declared.substitution.Links.{Links}
use Rattle.hol_rules.specs.Chains.{chain, links_of, rest_of, AreLinks}
use Rattle.hol_rules.specs.Premises.{IsNumberOf}

chain-last : (ts : List Term) (t last : Term) → chain (ts ++ t ∷ []) last ≡ chain ts (app t last)
chain-last [] t last = refl
chain-last (u ∷ ts) t last = ap (app u) (chain-last ts t last)

-- what is put into a chain is what is taken out
pub links_of-chain : (ts : List Term) (last : Term) → links_of (length ts) (chain ts last) ≡ ts
links_of-chain [] last = refl
links_of-chain (t ∷ ts) last = ap (λ l. t ∷ l) (links_of-chain ts last)

pub rest_of-chain : (ts : List Term) (last : Term) → rest_of (length ts) (chain ts last) ≡ last
rest_of-chain [] last = refl
rest_of-chain (t ∷ ts) last = rest_of-chain ts last

-- a substitution makes of a chain that of what it makes of each
pub sub-chain : (types : TypePairs) (terms : TermPairs) (ts : List Term) (last : Term) → sub types terms (chain ts last)
    ≡ chain (map (sub types terms) ts) (sub types terms last)
sub-chain types terms [] last = refl
sub-chain types terms (t ∷ ts) last = ap (app (sub types terms t)) (sub-chain types terms ts last)

-- a list is its front and its last item
front-last : {X : Type 0} (xs : List X) (d : X) → 1 ≤ length xs → take (length xs - 1) xs ++ get_or xs (length xs - 1) d ∷ [] ≡ xs
front-last xs d h =
    ap (λ l. take (length xs - 1) xs ++ l)
    (sym (drop_more xs (length xs - 1) d (omega arith) ∙ ap (λ l. get_or xs (length xs - 1) d ∷ l) (drop_all (length xs - 1 + 1) xs (omega arith))))
    ∙ take-append-drop (length xs - 1) xs

AreKnown-split : (trees : Trees) (ids : List TermId) (id : TermId) → AreKnown trees (ids ++ id ∷ []) → AreKnown trees ids × (id.0 < length trees.terms)
AreKnown-split trees [] id h = (tt {0}, h.0)
AreKnown-split trees (x ∷ ids) id h = let w = AreKnown-split trees ids id h.1 in ((h.0, w.0), w.1)

AreKnown-pushed : (trees : Trees) (ids : List TermId) (id : TermId) → AreKnown trees ids → id.0 < length trees.terms → AreKnown trees (ids ++ id ∷ [])
AreKnown-pushed trees [] id h l = (l, tt {0})
AreKnown-pushed trees (x ∷ ids) id h l = (h.0, AreKnown-pushed trees ids id h.1 l)

-- terms that are left go before what is made so far
pub record IsLinking (old now : Trees) (ids rest : List TermId) (last whole : TermId) : Type 0 where
  pub keeps : Keeps old now
  pub known : AreKnown old rest
  pub fits : length rest ≤ length ids
  pub made : whole.0 < length now.terms
  pub linking : chain (terms_at old rest) (term_at now whole.0) ≡ chain (terms_at old ids) (term_at old last.0)

pub linking_begins : (trees : Trees) (ids : List TermId) (last : TermId) → AreKnown trees ids → last.0 < length trees.terms
    → IsLinking trees trees ids ids last last
linking_begins trees ids last h l = record { keeps = Keeps-refl trees; known = h; fits = omega arith; made = l; linking = refl }

module _ (old now : Trees) (ids rest : List TermId) (last whole d : TermId) (h : IsLinking old now ids rest last whole) (some : 1 ≤ length rest) where
  abbrev front : List TermId
  front = take (length rest - 1) rest

  abbrev link : TermId
  link = get_or rest (length rest - 1) d

  link_parts : AreKnown old front × (link.0 < length old.terms)
  link_parts = AreKnown-split old front link (subst (AreKnown old) (sym (front-last rest d some)) h.known)

  pub link_known : link.0 < length now.terms
  link_known = omega (arith, link_parts.1, h.keeps.longer)

  pub linking_goes_on : (new : Trees) → Keeps now new → (made : TermId) → made.0 < length new.terms
      → Holds new made.0 (app (term_at now link.0) (term_at now whole.0)) → IsLinking old new ids front last made
  linking_goes_on new k made l holds = record {
    keeps = Keeps-trans h.keeps k;
    known = link_parts.0;
    fits = omega (arith, h.fits, length-take (length rest - 1) rest);
    made = l;
    linking =
        ap (chain (terms_at old front)) (Some-term_in new.terms made.0 _ holds
        ∙ ap (λ t. app t (term_at now whole.0)) (sym (term_in-Stays h.keeps.stays link.0 link_parts.1)))
        ∙ sym (chain-last (terms_at old front) (term_at old link.0) (term_at now whole.0))
        ∙ ap (λ ts. chain ts (term_at now whole.0))
        (sym (map-append (λ (id : TermId). term_at old id.0) front (link ∷ [])) ∙ ap (terms_at old) (front-last rest d some))
        ∙ h.linking;
  }

pub linking_ends : (old now : Trees) (ids rest : List TermId) (last whole : TermId) → IsLinking old now ids rest last whole → length rest < 1
    → IsNumberOf now whole (chain (terms_at old ids) (term_at old last.0))
linking_ends old now ids [] last whole h none = record { known = h.made; is = h.linking }
linking_ends old now ids (id ∷ rest) last whole h none = absurd (omega arith)

-- the head of what is no application has no links
links_of-other : (trees : Trees) (v : TermView) → ((f x : TermId) → v ≡ view.App f x → ⊥) → (n : ℕ) → (links_of n (tree_of_view trees v) ≡ [])
    × (rest_of n (tree_of_view trees v) ≡ tree_of_view trees v)
links_of-other trees v h zero = (refl, refl)
links_of-other trees (view.Free m ty) h (suc n) = (refl, refl)
links_of-other trees (view.Bound k) h (suc n) = (refl, refl)
links_of-other trees (view.Const m ty) h (suc n) = (refl, refl)
links_of-other trees (view.App f x) h (suc n) = absurd (h f x refl)
links_of-other trees (view.Lam ty b) h (suc n) = (refl, refl)

-- some terms are taken out of a tree, and some are still in it
pub record IsUnlinking (trees : Trees) (count : ℕ) (t : Term) (taken : List TermId) (rest : TermId) (place : ℕ) : Type 0 where
  pub left : ℕ
  pub total : left + place ≡ count
  pub known : AreKnown trees taken
  pub rest_known : rest.0 < length trees.terms
  pub links : terms_at trees taken ++ links_of left (term_at trees rest.0) ≡ links_of count t
  pub ending : rest_of left (term_at trees rest.0) ≡ rest_of count t

pub unlinking_begins : (trees : Trees) (count : ℕ) (whole : TermId) → whole.0 < length trees.terms → IsUnlinking trees count (term_at trees whole.0) [] whole 0
unlinking_begins trees count whole l = record { left = count; total = omega arith; known = tt; rest_known = l; links = refl; ending = refl }

module _ (trees : Trees) (count : ℕ) (t : Term) (taken : List TermId) (rest : TermId) (place : ℕ) (h : IsUnlinking trees count t taken rest place) where
  pub unlinking_goes_on : place < count → (link next : TermId) → Holds trees rest.0 (app (term_at trees link.0) (term_at trees next.0)) → link.0 < rest.0
      → next.0 < rest.0 → IsUnlinking trees count t (taken ++ link ∷ []) next (place + 1)
  unlinking_goes_on more link next holds l m = go h.left h.total h.links h.ending
    where
      is : term_at trees rest.0 ≡ app (term_at trees link.0) (term_at trees next.0)
      is = Some-term_in trees.terms rest.0 _ holds

      go : (left : ℕ) → left + place ≡ count → terms_at trees taken ++ links_of left (term_at trees rest.0) ≡ links_of count t
          → rest_of left (term_at trees rest.0) ≡ rest_of count t → IsUnlinking trees count t (taken ++ link ∷ []) next (place + 1)
      go zero e f g = absurd (omega (arith, e, more))
      go (suc n) e f g = record {
        left = n;
        total = omega (arith, e);
        known = AreKnown-pushed trees taken link h.known (omega (arith, l, h.rest_known));
        rest_known = omega (arith, m, h.rest_known);
        links =
            ap (λ ts. ts ++ links_of n (term_at trees next.0)) (map-append (λ (id : TermId). term_at trees id.0) taken (link ∷ []))
            ∙ append_assoc (terms_at trees taken) (term_at trees link.0 ∷ []) (links_of n (term_at trees next.0))
            ∙ ap (λ u. terms_at trees taken ++ links_of (suc n) u) (sym is) ∙ f;
        ending = ap (rest_of (suc n)) (sym is) ∙ g;
      }

  -- or where what is left is no application
  pub unlinking_stops : (v : TermView) → Holds trees rest.0 (tree_of_view trees v) → ((f x : TermId) → v ≡ view.App f x → ⊥) → (links : Links)
      → links.terms.items ≡ taken → links.rest ≡ rest → AreLinks trees count t links
  unlinking_stops v holds other links e f =
      let is : term_at trees rest.0 ≡ tree_of_view trees v = Some-term_in trees.terms rest.0 _ holds in
      let none = links_of-other trees v other h.left in
      record {
        known = subst (AreKnown trees) (sym e) h.known;
        rest_known = subst (λ (id : TermId). id.0 < length trees.terms) (sym f) h.rest_known;
        are = ap (terms_at trees) e ∙ sym (append-nil (terms_at trees taken)) ∙ ap (λ l. terms_at trees taken ++ l) (sym (ap (links_of h.left) is ∙ none.0))
            ∙ h.links;
        rest = ap (λ (id : TermId). term_at trees id.0) f ∙ is ∙ sym (ap (rest_of h.left) is ∙ none.1) ∙ h.ending;
      }

  nothing_left : (left : ℕ) → left ≡ 0 → terms_at trees taken ++ links_of left (term_at trees rest.0) ≡ links_of count t → rest_of left (term_at trees rest.0)
      ≡ rest_of count t → (terms_at trees taken ≡ links_of count t) × (term_at trees rest.0 ≡ rest_of count t)
  nothing_left zero z f g = (sym (append-nil (terms_at trees taken)) ∙ f, g)
  nothing_left (suc n) z f g = absurd (omega (arith, z))

  pub unlinking_ends : count ≤ place → (links : Links) → links.terms.items ≡ taken → links.rest ≡ rest → AreLinks trees count t links
  unlinking_ends all links e f =
      let w = nothing_left h.left (omega (arith, h.total)) h.links h.ending in
      record {
        known = subst (AreKnown trees) (sym e) h.known;
        rest_known = subst (λ (id : TermId). id.0 < length trees.terms) (sym f) h.rest_known;
        are = ap (terms_at trees) e ∙ w.0;
        rest = ap (λ (id : TermId). term_at trees id.0) f ∙ w.1;
      }
