-- What was found among the parts of a term, after one more.
use Rattle.std.proofs.Common.{◌≡◌, ◌<◌, refl, sym, ap, ◌∙◌, List, [], ◌∷◌, ◌++◌, length}
use Rattle.std.proofs.lemmas.List.{append_assoc, append-nil}
use Rattle.hol_spec.specs.Names.{Name}
use Rattle.hol_spec.specs.Lists.{union, distinct}
use Rattle.hol_laws.specs.ListLaws.{union-append}
use Rattle.hol_spec.specs.NameEquality.{name_eq}
use Rattle.hol_term.specs.declared.TermId.{TermId}
use Rattle.hol_term.specs.declared.Variable.{Variable}
use Rattle.hol_term.specs.Tables.{Trees, term_at, type_at, terms_at, AreKnown}
use Rattle.hol_term.specs.Subterms.{variables_of, HaveTypes, free_head, type_head, gathered}

pub variables_of-last : (trees : Trees) (vs : List Variable) (v : Variable) → variables_of trees (vs ++ v ∷ []) ≡ variables_of trees vs
    ++ (v.name, type_at trees v.ty.0) ∷ []
variables_of-last trees [] v = refl
variables_of-last trees (w ∷ vs) v = ap (λ l. (w.name, type_at trees w.ty.0) ∷ l) (variables_of-last trees vs v)

pub HaveTypes-last : (trees : Trees) (vs : List Variable) (v : Variable) → v.ty.0 < length trees.types → HaveTypes trees vs → HaveTypes trees (vs ++ v ∷ [])
HaveTypes-last trees [] v lt h = (lt, tt)
HaveTypes-last trees (w ∷ vs) v lt h = (h.0, HaveTypes-last trees vs v lt h.1)

-- what is found of the numbers that are left, and what was found, are what is wanted
pub record IsFinding (trees : Trees) (ids rest : List TermId) (found : List Variable) : Type 0 where
  pub known : AreKnown trees rest
  pub types : HaveTypes trees found
  pub all : variables_of trees found ++ gathered free_head (terms_at trees rest) ≡ gathered free_head (terms_at trees ids)

pub finding_begins : (trees : Trees) (ids : List TermId) → AreKnown trees ids → IsFinding trees ids ids []
finding_begins trees ids k = record { known = k; types = tt; all = refl }

pub finding_goes_on : (trees : Trees) (ids rest : List TermId) (id : TermId) (found more : List Variable) → IsFinding trees ids (id ∷ rest) found
    → variables_of trees more ≡ variables_of trees found ++ free_head (term_at trees id.0) → (HaveTypes trees found → HaveTypes trees more)
    → IsFinding trees ids rest more
finding_goes_on trees ids rest id found more h e t = record {
  known = h.known.1;
  types = t h.types;
  all = ap (λ l. l ++ gathered free_head (terms_at trees rest)) e
      ∙ append_assoc (variables_of trees found) (free_head (term_at trees id.0)) (gathered free_head (terms_at trees rest)) ∙ h.all;
}

-- the names of the numbers that are left, and those that were found, are what is wanted
pub record IsNaming (trees : Trees) (ids rest : List TermId) (names : List Name) : Type 0 where
  pub known : AreKnown trees rest
  pub all : union name_eq names (gathered type_head (terms_at trees rest)) ≡ distinct name_eq (gathered type_head (terms_at trees ids))

pub naming_begins : (trees : Trees) (ids : List TermId) → AreKnown trees ids → IsNaming trees ids ids []
naming_begins trees ids k = record { known = k; all = refl }

pub naming_goes_on : (trees : Trees) (ids rest : List TermId) (id : TermId) (names more : List Name) → IsNaming trees ids (id ∷ rest) names → more
    ≡ union name_eq names (type_head (term_at trees id.0)) → IsNaming trees ids rest more
naming_goes_on trees ids rest id names more h e = record {
  known = h.known.1;
  all = ap (λ l. union name_eq l (gathered type_head (terms_at trees rest))) e
      ∙ sym (union-append name_eq (type_head (term_at trees id.0)) (gathered type_head (terms_at trees rest)) names) ∙ h.all;
}

pub finding_ends : (trees : Trees) (ids rest : List TermId) (found : List Variable) → rest ≡ [] → IsFinding trees ids rest found → variables_of trees found
    ≡ gathered free_head (terms_at trees ids)
finding_ends trees ids rest found e h = sym (append-nil (variables_of trees found)) ∙ sym
    (ap (λ l. variables_of trees found ++ gathered free_head (terms_at trees l)) e) ∙ h.all

pub naming_ends : (trees : Trees) (ids rest : List TermId) (names : List Name) → rest ≡ [] → IsNaming trees ids rest names → names
    ≡ distinct name_eq (gathered type_head (terms_at trees ids))
naming_ends trees ids rest names e h = sym (ap (λ l. union name_eq names (gathered type_head (terms_at trees l))) e) ∙ h.all
