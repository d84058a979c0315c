-- What the pairs of an environment tell when one is put in, and when the table grows.
use Rattle.std.proofs.Common.{◌≡◌, ◌<◌, ◌&&◌, Bool, true, false, cond, refl, sym, ap, ◌∙◌, List, [], ◌∷◌, length, Option, Some}
use Rattle.std.specs.Cmp.{unsigned_Decides}
use Rattle.std.specs.List.{AllByRecursion}
use Rattle.std.specs.Map.{lookup}
use Rattle.std.specs.Option.{unwrap_or}
use Rattle.std.specs.Prelude.{nat_eq}
use Rattle.std.proofs.Math.Path.{ap₂}
use Rattle.tree_map.specs.Entries.{insert_entry}
use Rattle.hol_spec.specs.Names.{Name}
use Rattle.hol_spec.specs.NameEquality.{name_eq}
use Rattle.hol_laws.specs.NameEqualityLaws.{name_eq-Decides}
use Rattle.hol_spec.specs.Types.{HolType, type_eq}
use Rattle.hol_laws.specs.TypeLaws.{type_eq-Decides}
use Rattle.hol_spec.specs.Terms.{Term, Variable, variable_eq, term_eq}
use Rattle.hol_laws.specs.TermLaws.{variable_eq-Decides, term_eq-Decides}
use Rattle.hol_type.specs.declared.table.TypeId.{TypeId}
use Rattle.hol_type.specs.Tables as type
use Rattle.hol_type.specs.TableLaws as type_laws
use Rattle.hol_term.specs.declared.TermId.{TermId}
use Rattle.hol_term.specs.declared.Variable.{Variable as AVariable}
use Rattle.hol_term.specs.Tables.{Trees, term_at, IsDistinct}
use Rattle.lp_spec.specs.Trees.{Tree}
use Rattle.lp_spec.specs.Modules.{bools}
use Rattle.lp_term.specs.declared.LpId.{LpId}
use Rattle.lp_term.specs.Tables as lp
use Rattle.lp_term.specs.Tables.{tree_at}
use Rattle.lp_term.specs.TableLaws.{Holds-tree_at, Holds-within}
use Rattle.translate_spec.specs.Scopes.{TypeScope, set_type}
use Rattle.translate_laws.specs.ListedScopes.{told_types}
use Rattle.sequent.specs.Params.{same_variable}
use Rattle.sequent.specs.Sequents.{same_id}
use Rattle.translate_term.specs.Told.{types_in, terms_in, AreTypesKnown, AreTermsKnown}
use Rattle.translate_proof.specs.Environments.{TellTypes, TellTerms, TellProofs, proofs_in, AreProofsKnown}
use Rattle.translate_proof.specs.FormulaLaws.{alike, same-formula}
use Rattle.translate_proof.proofs.EntryLaws.{viewed, lookup-insert_entry}

cond-unwrap : (b : Bool) (x d : Tree) (o : Option Tree) → unwrap_or (cond b (Some x) o) d ≡ cond b x (unwrap_or o d)
cond-unwrap true x d o = refl
cond-unwrap false x d o = refl

-- type variables
types_in-viewed : (trees : List Tree) (es : List (Name × LpId)) → types_in trees es
    ≡ viewed name_eq name_eq name_eq-Decides (λ n. n) (λ (id : LpId). tree_at trees id.0) es
types_in-viewed trees [] = refl
types_in-viewed trees (e ∷ es) = ap (λ l. (e.0, tree_at trees e.1.0) ∷ l) (types_in-viewed trees es)

types-told : (trees : List Tree) (n m : Name) (id : LpId) (es : List (Name × LpId)) → told_types (types_in trees (insert_entry name_eq es n id)) m
    ≡ set_type n (tree_at trees id.0) (told_types (types_in trees es)) m
types-told trees n m id es =
    ap (λ l. unwrap_or (lookup (name_eq m) l) bools) (types_in-viewed trees (insert_entry name_eq es n id))
    ∙ ap (λ o. unwrap_or o bools) (lookup-insert_entry name_eq name_eq name_eq-Decides (λ n. n) (λ (id : LpId). tree_at trees id.0) n id m es (all es))
    ∙ cond-unwrap (name_eq m n) (tree_at trees id.0) bools _
    ∙ ap (λ l. cond (name_eq m n) (tree_at trees id.0) (unwrap_or (lookup (name_eq m) l) bools)) (sym (types_in-viewed trees es))
  where
    all : (es : List (Name × LpId)) → AllByRecursion (λ (e : Name × LpId). name_eq n e.0 ≡ name_eq n e.0) es
    all [] = tt
    all (e ∷ es) = (refl, all es)

types-known : (trees : List Tree) (n : Name) (id : LpId) (es : List (Name × LpId)) → id.0 < length trees → AreTypesKnown trees es
    → AreTypesKnown trees (insert_entry name_eq es n id)
types-known trees n id [] l h = (l, tt {0})
types-known trees n id (e ∷ es) l h = go (name_eq n e.0) (types-known trees n id es l h.1)
  where
    go : (b : Bool) → AreTypesKnown trees (insert_entry name_eq es n id) → AreTypesKnown trees (cond b ((e.0, id) ∷ es) (e ∷ insert_entry name_eq es n id))
    go true on = (l, h.1)
    go false on = (h.0, on)

pub TellTypes-set : (trees : List Tree) (n : Name) (id : LpId) (x : Tree) (es : List (Name × LpId)) (scope : TypeScope) → lp.Holds trees id.0 x
    → TellTypes trees es scope → TellTypes trees (insert_entry name_eq es n id) (set_type n x scope)
TellTypes-set trees n id x es scope is h = record {
  known = types-known trees n id es (Holds-within trees id.0 x is) h.known;
  each = λ m. types-told trees n m id es ∙ ap₂ (λ y z. cond (name_eq m n) y z) (Holds-tree_at trees id.0 x is) (h.each m);
}

pub TellTypes-same : (trees : List Tree) (es : List (Name × LpId)) (scope other : TypeScope) → ((n : Name) → scope n ≡ other n) → TellTypes trees es scope
    → TellTypes trees es other
TellTypes-same trees es scope other e h = record { known = h.known; each = λ n. h.each n ∙ e n }

-- free variables
module _ (types : List HolType) (one : type.IsDistinct types) where
  abbrev seen : AVariable → Variable
  seen v = (v.name, type.tree_at types v.ty.0)

  terms_in-viewed : (trees : List Tree) (es : List (AVariable × LpId)) → terms_in types trees es
      ≡ viewed same_variable variable_eq variable_eq-Decides seen (λ (id : LpId). tree_at trees id.0) es
  terms_in-viewed trees [] = refl
  terms_in-viewed trees (e ∷ es) = ap (λ l. (seen e.0, tree_at trees e.1.0) ∷ l) (terms_in-viewed trees es)

  pub same-seen : (v w : AVariable) → v.ty.0 < length types → w.ty.0 < length types → same_variable v w ≡ variable_eq (seen v) (seen w)
  same-seen v w k l =
      ap (λ b. name_eq v.name w.name && b)
      (alike (nat_eq v.ty.0 w.ty.0) (type_eq (type.tree_at types v.ty.0) (type.tree_at types w.ty.0)) (unsigned_Decides v.ty.0 w.ty.0)
      (type_eq-Decides (type.tree_at types v.ty.0) (type.tree_at types w.ty.0))
      (ap (type.tree_at types)) (λ e. ap (λ (i : TypeId). i.0) (type_laws.tree_at-same one v.ty w.ty k l e)))

  all-seen : (trees : List Tree) (v : AVariable) → v.ty.0 < length types → (es : List (AVariable × LpId)) → AreTermsKnown types trees es
      → AllByRecursion (λ (e : AVariable × LpId). same_variable v e.0 ≡ variable_eq (seen v) (seen e.0)) es
  all-seen trees v k [] h = tt
  all-seen trees v k (e ∷ es) h = (same-seen v e.0 k h.0, all-seen trees v k es h.2)

  terms-known : (trees : List Tree) (v : AVariable) (id : LpId) (es : List (AVariable × LpId)) → v.ty.0 < length types → id.0 < length trees
      → AreTermsKnown types trees es → AreTermsKnown types trees (insert_entry same_variable es v id)
  terms-known trees v id [] k l h = (k, l, tt {0})
  terms-known trees v id (e ∷ es) k l h = go (same_variable v e.0) (terms-known trees v id es k l h.2)
    where
      go : (b : Bool) → AreTermsKnown types trees (insert_entry same_variable es v id)
          → AreTermsKnown types trees (cond b ((e.0, id) ∷ es) (e ∷ insert_entry same_variable es v id))
      go true on = (h.0, l, h.2)
      go false on = (h.0, h.1, on)

  pub TellTerms-set : (trees : List Tree) (v : AVariable) (id : LpId) (x : Tree) (es : List (AVariable × LpId)) (other scope : Variable → Tree)
      → v.ty.0 < length types → lp.Holds trees id.0 x → TellTerms types trees es other scope
      → TellTerms types trees (insert_entry same_variable es v id) other (λ w. cond (variable_eq w (seen v)) x (scope w))
  TellTerms-set trees v id x es other scope k is h = record {
    known = terms-known trees v id es k (Holds-within trees id.0 x is) h.known;
    each = λ w.
        ap (λ l. unwrap_or (lookup (variable_eq w) l) (other w)) (terms_in-viewed trees (insert_entry same_variable es v id))
        ∙ ap (λ o. unwrap_or o (other w))
        (lookup-insert_entry same_variable variable_eq variable_eq-Decides seen (λ (id : LpId). tree_at trees id.0) v id w es
        (all-seen trees v k es h.known))
        ∙ cond-unwrap (variable_eq w (seen v)) (tree_at trees id.0) (other w) _
        ∙ ap₂ (λ y z. cond (variable_eq w (seen v)) y z) (Holds-tree_at trees id.0 x is)
        (ap (λ l. unwrap_or (lookup (variable_eq w) l) (other w)) (sym (terms_in-viewed trees es)) ∙ h.each w);
  }

pub TellTerms-same : (types : List HolType) (trees : List Tree) (es : List (AVariable × LpId)) (other scope wanted : Variable → Tree)
    → ((v : Variable) → scope v ≡ wanted v) → TellTerms types trees es other scope → TellTerms types trees es other wanted
TellTerms-same types trees es other scope wanted e h = record { known = h.known; each = λ v. h.each v ∙ e v }

-- hypotheses
module _ (terms : Trees) (one : IsDistinct terms.terms) where
  abbrev formula : TermId → Term
  formula id = term_at terms id.0

  proofs_in-viewed : (trees : List Tree) (es : List (TermId × LpId)) → proofs_in terms trees es
      ≡ viewed same_id term_eq term_eq-Decides formula (λ (id : LpId). tree_at trees id.0) es
  proofs_in-viewed trees [] = refl
  proofs_in-viewed trees (e ∷ es) = ap (λ l. (formula e.0, tree_at trees e.1.0) ∷ l) (proofs_in-viewed trees es)

  all-formulas : (trees : List Tree) (p : TermId) → p.0 < length terms.terms → (es : List (TermId × LpId)) → AreProofsKnown terms trees es
      → AllByRecursion (λ (e : TermId × LpId). same_id p e.0 ≡ term_eq (formula p) (formula e.0)) es
  all-formulas trees p k [] h = tt
  all-formulas trees p k (e ∷ es) h = (same-formula terms one p e.0 k h.0, all-formulas trees p k es h.2)

  proofs-known : (trees : List Tree) (p : TermId) (id : LpId) (es : List (TermId × LpId)) → p.0 < length terms.terms → id.0 < length trees
      → AreProofsKnown terms trees es → AreProofsKnown terms trees (insert_entry same_id es p id)
  proofs-known trees p id [] k l h = (k, l, tt {0})
  proofs-known trees p id (e ∷ es) k l h = go (same_id p e.0) (proofs-known trees p id es k l h.2)
    where
      go : (b : Bool) → AreProofsKnown terms trees (insert_entry same_id es p id)
          → AreProofsKnown terms trees (cond b ((e.0, id) ∷ es) (e ∷ insert_entry same_id es p id))
      go true on = (h.0, l, h.2)
      go false on = (h.0, h.1, on)

  pub TellProofs-set : (trees : List Tree) (p : TermId) (id : LpId) (x : Tree) (es : List (TermId × LpId)) (other scope : Term → Tree)
      → p.0 < length terms.terms → lp.Holds trees id.0 x → TellProofs terms trees es other scope
      → TellProofs terms trees (insert_entry same_id es p id) other (λ h. cond (term_eq h (formula p)) x (scope h))
  TellProofs-set trees p id x es other scope k is h = record {
    known = proofs-known trees p id es k (Holds-within trees id.0 x is) h.known;
    each = λ g.
        ap (λ l. unwrap_or (lookup (term_eq g) l) (other g)) (proofs_in-viewed trees (insert_entry same_id es p id))
        ∙ ap (λ o. unwrap_or o (other g))
        (lookup-insert_entry same_id term_eq term_eq-Decides formula (λ (id : LpId). tree_at trees id.0) p id g es (all-formulas trees p k es h.known))
        ∙ cond-unwrap (term_eq g (formula p)) (tree_at trees id.0) (other g) _
        ∙ ap₂ (λ y z. cond (term_eq g (formula p)) y z) (Holds-tree_at trees id.0 x is)
        (ap (λ l. unwrap_or (lookup (term_eq g) l) (other g)) (sym (proofs_in-viewed trees es)) ∙ h.each g);
  }

pub TellProofs-same : (terms : Trees) (trees : List Tree) (es : List (TermId × LpId)) (other scope wanted : Term → Tree) → ((h : Term) → scope h ≡ wanted h)
    → TellProofs terms trees es other scope → TellProofs terms trees es other wanted
TellProofs-same terms trees es other scope wanted e h = record { known = h.known; each = λ g. h.each g ∙ e g }
