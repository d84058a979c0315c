-- The body of an abstraction that was made of a term.
use Rattle.std.proofs.Common.{◌⊎◌, inl, inr, ◌≡◌, ℕ, ◌<◌, ◌≤◌, refl, sym, ap, ◌∙◌, subst, [], ◌∷◌, length, Option, Some, None, get_or}
use Rattle.std.specs.Prelude.{IsSome, slice_get, unwrap_or}
use Rattle.std.proofs.lemmas.Option.{slice_get_cases, same_Some}
use Rattle.hol_spec.specs.Names.{Name}
use Rattle.hol_spec.specs.Types.{HolType}
use Rattle.hol_spec.specs.Terms.{Term, bound, lam, IsTerm, HasType, type_of, type_under}
use Rattle.hol_spec.specs.TermBinding.{close}
use Rattle.hol_laws.specs.TermTyping.{type_under-close_at}
use Rattle.hol_term.specs.Tables.{Trees, term_at, Holds, Keeps, IsBodyFor}
use Rattle.hol_term.specs.TableLaws.{term_in-Stays}

-- a term has a type
its_type : (t : Term) → IsTerm t → (a : HolType) × HasType t a
its_type t h = go (type_of t) refl h
  where
    go : (o : Option HolType) → type_of t ≡ o → IsSome o → (a : HolType) × HasType t a
    go None e s = absurd (cc)
    go (Some a) e s = (a, e)

-- a table has the number of what has a type
known_typed : (trees : Trees) (id : ℕ) (a : HolType) → HasType (term_at trees id) a → id < length trees.terms
known_typed trees id a h = go (slice_get_cases trees.terms id).1
  where
    go : ((x : Term) × (id < length trees.terms) × (slice_get trees.terms id ≡ Some x) × (get_or trees.terms id x ≡ x))
        ⊎ ((length trees.terms ≤ id) × (slice_get trees.terms id ≡ None)) → id < length trees.terms
    go (inl w) = w.1
    go (inr w) = absurd (let e = ap (λ o. unwrap_or o (bound 0)) w.1 in let f = subst (λ t. HasType t a) e h in cc)

-- the body of a term's abstraction takes what has the type of the variable
pub body_fits : (old new : Trees) (body arg made id : ℕ) (name : Name) (a c : HolType) → Keeps old new → IsTerm (term_at old id) → HasType (term_at old arg) a
    → Holds new made (lam a (close (name, a) (term_at old id))) → Holds new made (lam c (term_at new body)) → IsBodyFor new body arg
body_fits old new body arg made id name a c k it typed h v =
    let b = its_type (term_at old id) it in
    let e : term_at new body ≡ close (name, a) (term_at old id) =
    (let l : lam c (term_at new body) ≡ lam a (close (name, a) (term_at old id)) = same_Some _ _ (sym v ∙ h) in cc) in (
      a,
      (
        b.0,
        (
          subst (λ t. HasType t a) (term_in-Stays k.stays arg (known_typed old arg a typed)) typed,
          ap (type_under (a ∷ [])) e ∙ type_under-close_at [] [] (name, a) (term_at old id) ∙ b.1,
        ),
      ),
    )
