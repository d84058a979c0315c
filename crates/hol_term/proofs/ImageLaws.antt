-- What a substitution makes, term by term.
use Rattle.std.proofs.Common.{◌≡◌, ℕ, ◌<◌, ◌⊎◌, ⊎_elim, refl, sym, ap, ◌∙◌, subst, arith, List, [], ◌∷◌, length, Option, Some, None}
use Rattle.std.specs.Prelude.{unwrap_or, IsSome}
use Rattle.std.specs.Map.{lookup}
use Rattle.std.proofs.Math.Path.{ap₂}
use Rattle.hol_spec.specs.Names.{Name}
use Rattle.common.specs.declared.faults.Fault.{Fault}
use Rattle.common.specs.declared.faults.Fault.TheVariants.{Refused, Memory}
use Rattle.common.specs.declared.faults.Kind.TheVariants.{TooLarge, TooDeep}
use Rattle.hol_spec.specs.Types.{HolType}
use Rattle.hol_spec.specs.Substitution.{TypePairs, substitute}
use Rattle.hol_spec.specs.Terms.{Term, free, constant, app, lam, variable_eq, type_of, IsTerm}
use Rattle.hol_spec.specs.TermSubstitution.{TermPairs, sub, AreFitting}
use Rattle.hol_laws.specs.TermSubstitutionLaws.{type_of-sub}
use Rattle.hol_type.specs.declared.table.TypeId.{TypeId}
use Rattle.hol_type.specs.Tables as type
use Rattle.hol_type.specs.TableLaws as type_law
use Rattle.hol_term.specs.declared.TermId.{TermId}
use Rattle.hol_term.specs.declared.Variable.{Variable}
use Rattle.hol_term.specs.Tables.{Trees, term_at, type_at, Holds, Keeps}
use Rattle.hol_term.specs.TableLaws.{term_in-Some, Some-term_in, term_in-Stays}
use Rattle.tree_map.specs.Noted.{IsNoted}
use Rattle.hol_term.specs.Substitutions.{term_pairs_at, AreTermPairs, ArePairsFitting, AreTermPairsKnown, AreKnownPairs, image_of, IsPutFor, AreImages, RefusesSubst}
use Rattle.hol_term.specs.Refusals.{RefusesTerm}
use Rattle.hol_term.specs.PutIndexes.{same_variable}
use Rattle.hol_term.proofs.PutFor.{IsPutFor-lookup}
use Rattle.hol_term.proofs.Settled.{known_term, IsTerm-HasType}

-- the numbers of terms are of the table
pub AreTermPairs-known : (trees : Trees) (ps : List (Variable × TermId)) → AreTermPairs trees ps → AreTermPairsKnown trees ps
AreTermPairs-known trees [] h = tt
AreTermPairs-known trees (p ∷ ps) h = (h.0, (known_term trees p.1.0 h.1.0, AreTermPairs-known trees ps h.1.1))

-- pairs that fit by their numbers fit
pub ArePairsFitting-at : (trees : Trees) (ps : List (Variable × TermId)) → ArePairsFitting trees ps → AreFitting (term_pairs_at trees ps)
ArePairsFitting-at trees [] h = tt
ArePairsFitting-at trees (p ∷ ps) h = (h.0, ArePairsFitting-at trees ps h.1)

-- a longer table has the same pairs
module _ (a b : Trees) (k : Keeps a b) where
  AreTermPairsKnown-Keeps : (ps : List (Variable × TermId)) → AreTermPairsKnown a ps → AreTermPairsKnown b ps
  AreTermPairsKnown-Keeps [] h = tt
  AreTermPairsKnown-Keeps (p ∷ ps) h = (omega (arith, k.types.longer, h.0), (omega (arith, k.longer, h.1.0), AreTermPairsKnown-Keeps ps h.1.1))

  term_pairs_at-Keeps : (ps : List (Variable × TermId)) → AreTermPairsKnown a ps → term_pairs_at a ps ≡ term_pairs_at b ps
  term_pairs_at-Keeps [] h = refl
  term_pairs_at-Keeps (p ∷ ps) h =
      ap₂ (λ q l. q ∷ l) (ap₂ (λ t u. ((p.0.name, t), u)) (type_law.tree_at-Stays k.types.stays p.0.ty.0 h.0) (term_in-Stays k.stays p.1.0 h.1.0))
      (term_pairs_at-Keeps ps h.1.1)

  module _ (types : List (Name × TypeId)) (terms : List (Variable × TermId)) (g : AreKnownPairs a types terms) where
    pub AreKnownPairs-Keeps : AreKnownPairs b types terms
    AreKnownPairs-Keeps = record
        { known_types = type_law.ArePairsKnown-Keeps k.types types g.known_types; known_terms = AreTermPairsKnown-Keeps terms g.known_terms }

    -- and makes the same of a term
    pub image_of-Keeps : (t : Term) → image_of a types terms t ≡ image_of b types terms t
    image_of-Keeps t = ap₂ (λ ts us. sub ts us t) (type_law.pairs_at-Stays k.types.stays types g.known_types) (term_pairs_at-Keeps terms g.known_terms)

    pub image_at-Keeps : (id : TermId) → id.0 < length a.terms → image_of a types terms (term_at a id.0) ≡ image_of b types terms (term_at b id.0)
    image_at-Keeps id lt = image_of-Keeps (term_at a id.0) ∙ ap (image_of b types terms) (term_in-Stays k.stays id.0 lt)

    pub AreImages-Keeps : (images : List (TermId × TermId)) → AreImages a types terms images → AreImages b types terms images
    AreImages-Keeps images h id r n = let w = h id r n in
        (omega (arith, k.longer, w.0), k.stays.each r.0 (image_of a types terms (term_at a id.0)) w.1 ∙ ap Some (image_at-Keeps id w.0))

    -- with one more that is made
    pub noted_images : (images more : List (TermId × TermId)) (id made : TermId) → id.0 < length a.terms → AreImages b types terms images
        → Holds b made.0 (image_of a types terms (term_at a id.0)) → ((i r : TermId) → IsNoted more i r → IsNoted images i r ⊎ ((i ≡ id) × (r ≡ made)))
        → AreImages b types terms more
    noted_images images more id made lt h held notes i r n = ⊎_elim (λ old. h i r old) (λ new. here new.0 new.1) (notes i r n)
      where
        here : i ≡ id → r ≡ made → (i.0 < length b.terms) × Holds b r.0 (image_of b types terms (term_at b i.0))
        here ei er =
            let both : (id.0 < length b.terms) × Holds b made.0 (image_of b types terms (term_at b id.0)) =
            (omega (arith, k.longer, lt), held ∙ ap Some (image_at-Keeps id lt)) in
            subst (λ (w : TermId). (w.0 < length b.terms) × Holds b r.0 (image_of b types terms (term_at b w.0))) (sym ei)
            (subst (λ (v : TermId). (id.0 < length b.terms) × Holds b v.0 (image_of b types terms (term_at b id.0))) (sym er) both)

-- what is made of the term that a number has is made of the number's
module _ (a g : Trees) (types : List (Name × TypeId)) (terms : List (Variable × TermId)) (id : ℕ) (n m : Name) (ty : HolType) (same : m ≡ n) where
  image_at-Holds : (t : Term) → Holds a id t → image_of a types terms t ≡ image_of a types terms (term_at a id)
  image_at-Holds t h = ap (image_of a types terms) (sym (Some-term_in a.terms id t h))

  pub free_image_at : Holds a id (free n ty) → (made : TermId) → Holds g made.0 (image_of a types terms (free m ty))
      → Holds g made.0 (image_of a types terms (term_at a id))
  free_image_at at made h = h ∙ ap Some (ap (λ k. image_of a types terms (free k ty)) same ∙ image_at-Holds (free n ty) at)

  pub constant_image_at : Holds a id (constant n ty) → (made : TermId) → Holds g made.0 (constant m (substitute (type.pairs_at a.types types) ty))
      → Holds g made.0 (image_of a types terms (term_at a id))
  constant_image_at at made h = h ∙ ap Some (ap (λ k. image_of a types terms (constant k ty)) same ∙ image_at-Holds (constant n ty) at)

-- a free variable, in the table with its new type: what is put for it, or itself
module _ (a b : Trees) (k : Keeps a b) (types : List (Name × TypeId)) (terms : List (Variable × TermId)) (g : AreKnownPairs a types terms) (n : Name)
    (ty put : TypeId) (is : type_at b put.0 ≡ substitute (type.pairs_at a.types types) (type_at a ty.0)) where
  image_is : (t : Term) → unwrap_or (lookup (variable_eq (n, type_at b put.0)) (term_pairs_at b terms)) (free n (type_at b put.0)) ≡ t → t
      ≡ image_of a types terms (free n (type_at a ty.0))
  image_is t e =
      sym e ∙ ap₂ (λ ps u. unwrap_or (lookup (variable_eq (n, u)) ps) (free n u)) (sym (term_pairs_at-Keeps a b k terms g.known_terms)) is

  pub free_put : (id : TermId) → IsPutFor b terms (n, type_at b put.0) (Some id) → Holds b id.0 (image_of a types terms (free n (type_at a ty.0)))
  free_put id h = term_in-Some b.terms id.0 h.0 ∙ ap Some (image_is (term_at b id.0) (ap (λ o. unwrap_or o (free n (type_at b put.0))) h.1))

  pub free_left : IsPutFor b terms (n, type_at b put.0) None → free n (type_at b put.0) ≡ image_of a types terms (free n (type_at a ty.0))
  free_left h = image_is (free n (type_at b put.0)) (ap (λ o. unwrap_or o (free n (type_at b put.0))) h)

-- what is found for a free variable with its new type is what is put for it
pub found_put : (a b : Trees) (k : Keeps a b) (types : List (Name × TypeId)) (terms : List (Variable × TermId)) → AreKnownPairs a types terms
    → type.IsDistinct b.types → (n : Name) (put : TypeId) → put.0 < length b.types
    → (o : Option TermId) → o ≡ lookup (same_variable (record { name = n; ty = put })) terms → IsPutFor b terms (n, type_at b put.0) o
found_put a b k types terms g d n put lt o e =
    let known = AreKnownPairs-Keeps a b k types terms g in
    subst (IsPutFor b terms (n, type_at b put.0)) (sym e) (IsPutFor-lookup b d (record { name = n; ty = put }) lt terms known.known_terms)

-- an application whose parts are made
pub image_app : (a b d g : Trees) (types : List (Name × TypeId)) (terms : List (Variable × TermId)) (f x fn arg made id : TermId) → Keeps a b → Keeps b d
    → AreKnownPairs a types terms → x.0 < length a.terms → Holds a id.0 (app (term_at a f.0) (term_at a x.0))
    → Holds b fn.0 (image_of a types terms (term_at a f.0)) → Holds d arg.0 (image_of b types terms (term_at b x.0))
    → Holds g made.0 (app (term_at d fn.0) (term_at d arg.0)) → Holds g made.0 (image_of a types terms (term_at a id.0))
image_app a b d g types terms f x fn arg made id k l known lt e hf hx h =
    let left : term_at d fn.0 ≡ image_of a types terms (term_at a f.0) =
    Some-term_in d.terms fn.0 (image_of a types terms (term_at a f.0)) (l.stays.each fn.0 (image_of a types terms (term_at a f.0)) hf) in
    let right : term_at d arg.0 ≡ image_of a types terms (term_at a x.0) =
    Some-term_in d.terms arg.0 (image_of b types terms (term_at b x.0)) hx ∙ sym (image_at-Keeps a b k types terms known x lt) in
    h ∙ ap Some (ap₂ app left right ∙ ap (image_of a types terms) (sym (Some-term_in a.terms id.0 (app (term_at a f.0) (term_at a x.0)) e)))

-- an abstraction whose body and whose variable's type are made
pub image_lam : (a b d g : Trees) (types : List (Name × TypeId)) (terms : List (Variable × TermId)) (ty binder : TypeId) (x body made id : TermId) → Keeps a b
    → Keeps b d → AreKnownPairs a types terms → ty.0 < length a.types → Holds a id.0 (lam (type_at a ty.0) (term_at a x.0))
    → Holds b body.0 (image_of a types terms (term_at a x.0)) → type_at d binder.0 ≡ substitute (type.pairs_at b.types types) (type_at b ty.0)
    → Holds g made.0 (lam (type_at d binder.0) (term_at d body.0)) → Holds g made.0 (image_of a types terms (term_at a id.0))
image_lam a b d g types terms ty binder x body made id k l known lt e hb ht h =
    let outer : type_at d binder.0 ≡ substitute (type.pairs_at a.types types) (type_at a ty.0)
    = ht ∙ sym (ap₂ substitute (type_law.pairs_at-Stays k.types.stays types known.known_types) (type_law.tree_at-Stays k.types.stays ty.0 lt)) in
    let inner : term_at d body.0 ≡ image_of a types terms (term_at a x.0) =
    Some-term_in d.terms body.0 (image_of a types terms (term_at a x.0)) (l.stays.each body.0 (image_of a types terms (term_at a x.0)) hb) in
    h ∙ ap Some (ap₂ lam outer inner ∙ ap (image_of a types terms) (sym (Some-term_in a.terms id.0 (lam (type_at a ty.0) (term_at a x.0)) e)))

-- fitting terms put into a term make a term
pub sub_term : (types : TypePairs) (terms : TermPairs) (t : Term) → AreFitting terms → IsTerm t → IsTerm (sub types terms t)
sub_term types terms t f h = go (type_of t) refl h
  where
    go : (o : Option HolType) → type_of t ≡ o → IsSome o → IsTerm (sub types terms t)
    go None e s = absurd (cc)
    go (Some a) e s = IsTerm-HasType (sub types terms t) (substitute types a) (type_of-sub types terms t a f e)

-- where the pairs fit, a substitution is refused for a limit alone
pub subst_refusal : (fits : Type 0) (t : Term) → fits → (fault : Fault) → RefusesTerm fault t → RefusesSubst fault fits t
subst_refusal fits t f (Refused TooLarge) h = (f, h)
subst_refusal fits t f (Refused TooDeep) h = (f, h)
subst_refusal fits t f (Refused kind) h = absurd h
subst_refusal fits t f Memory h = tt
