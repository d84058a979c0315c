-- Constants that are made for variables, one after another.
use Rattle.std.proofs.Common.{◌≡◌, ◌<◌, refl, sym, ap, subst, ◌∙◌, arith, List, [], ◌∷◌, ◌++◌, length, ℕ, zero, suc, get_or, Result, IfOk}
use Rattle.hol_spec.specs.Names.{Name}
use Rattle.hol_spec.specs.DefinitionLists.{constants_put}
use Rattle.hol_spec.specs.Terms.{constant}
use Rattle.hol_spec.specs.TermSubstitution.{sub}
use Rattle.hol_type.specs.TableLaws as type_law
use Rattle.hol_term.specs.declared.TermId.{TermId}
use Rattle.hol_term.specs.declared.Variable.{Variable}
use Rattle.hol_term.specs.Substitutions.{image_of, term_pairs_at, AreKnownPairs, AreTermPairsKnown}
use Rattle.hol_term.specs.Tables.{Trees, term_at, type_at, Holds, Keeps}
use Rattle.hol_term.specs.TableLaws.{Keeps-refl, Keeps-trans, term_in-Stays}
use Rattle.hol_defs.specs.Lists.{variable_at, pairs_at, ArePairsKnown}
use Rattle.hol_rules.specs.Premises.{IsNumberOf}
use Rattle.std.proofs.Math.Path.{ap₂}
use Rattle.hol_rules.proofs.ConstantImage.{IfOk-held}
use Rattle.hol_rules.proofs.PairLaws.{AreTermPairsKnown-Keeps, term_pairs_at-Keeps}

-- what is put so far, in a table that has kept what it had
pub record ArePut (old now : Trees) (pairs : List (Name × Variable)) (put : List (Variable × TermId)) : Type 0 where
  pub keeps : Keeps old now
  pub known : AreTermPairsKnown now put
  pub is : term_pairs_at now put ≡ constants_put (pairs_at old pairs)

pub ArePut-none : (a : Trees) → ArePut a a [] []
ArePut-none a = record { keeps = Keeps-refl a; known = tt; is = refl }

known-append : (a : Trees) (ps : List (Variable × TermId)) (v : Variable) (id : TermId) → AreTermPairsKnown a ps → v.ty.0 < length a.types
    → id.0 < length a.terms → AreTermPairsKnown a (ps ++ (v, id) ∷ [])
known-append a [] v id h l m = (l, (m, tt {0}))
known-append a (p ∷ ps) v id h l m = (h.0, (h.1.0, known-append a ps v id h.1.1 l m))

pairs-append : (a : Trees) (ps : List (Variable × TermId)) (v : Variable) (id : TermId) → term_pairs_at a (ps ++ (v, id) ∷ []) ≡ term_pairs_at a ps
    ++ (variable_at a v, term_at a id.0) ∷ []
pairs-append a [] v id = refl
pairs-append a (p ∷ ps) v id = ap (λ l. ((p.0.name, type_at a p.0.ty.0), term_at a p.1.0) ∷ l) (pairs-append a ps v id)

put-append : (a : Trees) (ps : List (Name × Variable)) (n : Name) (v : Variable) → constants_put (pairs_at a (ps ++ (n, v) ∷ []))
    ≡ constants_put (pairs_at a ps) ++ (variable_at a v, constant n (type_at a v.ty.0)) ∷ []
put-append a [] n v = refl
put-append a (p ∷ ps) n v = ap (λ l. (variable_at a p.1, constant p.0 (type_at a p.1.ty.0)) ∷ l) (put-append a ps n v)

-- and one more
pub ArePut-more : {a b c : Trees} (pairs : List (Name × Variable)) (put : List (Variable × TermId)) (n : Name) (v own : Variable) (id : TermId)
    → ArePut a b pairs put → v.ty.0 < length a.types → Keeps b c → IsNumberOf c id (constant n (type_at b v.ty.0)) → own ≡ v
    → ArePut a c (pairs ++ (n, v) ∷ []) (put ++ (own, id) ∷ [])
ArePut-more {a = a} {b = b} {c = c} pairs put n v own id h l k m e =
    let all = Keeps-trans h.keeps k in
    let here : type_at c v.ty.0 ≡ type_at a v.ty.0 = sym (type_law.tree_at-Stays all.types.stays v.ty.0 l) in
    let before : type_at b v.ty.0 ≡ type_at a v.ty.0 = sym (type_law.tree_at-Stays h.keeps.types.stays v.ty.0 l) in
    let own-known : own.ty.0 < length c.types = subst (λ (w : Variable). w.ty.0 < length c.types) (sym e) (omega (arith, l, all.types.longer)) in
    record {
      keeps = all;
      known = known-append c put own id (AreTermPairsKnown-Keeps k put h.known) own-known m.known;
      is =
          pairs-append c put own id ∙ ap (λ w. term_pairs_at c put ++ (variable_at c w, term_at c id.0) ∷ []) e
          ∙ (λ i. (sym (term_pairs_at-Keeps k put h.known) ∙ h.is) i ++ ((v.name, here i), (m.is ∙ ap (constant n) before) i) ∷ [])
          ∙ sym (put-append a pairs n v);
    }

-- the types of the pairs are of the table
pub known-at : (a : Trees) (ps : List (Name × Variable)) (i : ℕ) (p : Name × Variable) → ArePairsKnown a ps → i < length ps → p ≡ get_or ps i p
    → p.1.ty.0 < length a.types
known-at a [] i p h l e = absurd (omega arith)
known-at a (q ∷ ps) zero p h l e = subst (λ (x : Name × Variable). x.1.ty.0 < length a.types) (sym e) h.0
known-at a (q ∷ ps) (suc i) p h l e = known-at a ps i p h.1 (omega arith) e

-- what is put, as a slice
pub put-known : (a : Trees) (slice put : List (Variable × TermId)) → slice ≡ put → AreTermPairsKnown a put → AreKnownPairs a [] slice
put-known a slice put e h = record { known_types = tt; known_terms = subst (AreTermPairsKnown a) (sym e) h }

-- what it makes of a term
pub IfOk-put : {E : Type 0} (a b d : Trees) → Keeps a b → (pairs : List (Name × Variable)) (slice put : List (Variable × TermId)) → slice ≡ put
    → term_pairs_at b put ≡ constants_put (pairs_at a pairs) → (term : TermId) → term.0 < length a.terms → (r : Result TermId E)
    → IfOk r (λ id. id.0 < length d.terms) → IfOk r (λ id. Holds d id.0 (image_of b [] slice (term_at b term.0)))
    → IfOk r (λ id. IsNumberOf d id (sub [] (constants_put (pairs_at a pairs)) (term_at a term.0)))
IfOk-put a b d k pairs slice put e is term l =
    IfOk-held d (image_of b [] slice (term_at b term.0)) (sub [] (constants_put (pairs_at a pairs)) (term_at a term.0))
    (ap₂ (sub []) (ap (term_pairs_at b) e ∙ is) (sym (term_in-Stays k.stays term.0 l)))
