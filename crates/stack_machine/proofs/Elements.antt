-- The elements of a list, of one kind.
use Rattle.std.proofs.Common.{◌≡◌, ◌<◌, length, refl, sym, ap, ◌∙◌, List, [], ◌∷◌, ◌++◌, Result, Ok, Err, append_assoc}
use Rattle.std.proofs.lemmas.List.{append-nil, map-append}
use Rattle.hol_spec.specs.Types.{HolType}
use Rattle.hol_type.specs.declared.table.TypeId.{TypeId}
use Rattle.hol_spec.specs.Names.{Name}
use Rattle.hol_type.specs.Tables.{tree_at, types_at, pairs_at, AreKnown, ArePairsKnown}
use Rattle.hol_term.specs.declared.Variable.{Variable}
use Rattle.hol_term.specs.Substitutions.{term_pairs_at, AreTermPairs}
use Rattle.hol_defs.specs.Lists.{pairs_at as constant_pairs_at, ArePairsKnown as AreConstantPairsKnown}
use Rattle.hol_rules.specs.Views.{variable_view}
use Rattle.hol_term.specs.declared.TermId.{TermId}
use Rattle.hol_term.specs.Tables.{Trees, term_at, terms_at, type_at, IsTermAt}
use Rattle.hol_rules.specs.Premises.{AreTermsAt}
use Rattle.common.specs.declared.faults.Fault.{Fault}
use Rattle.common.specs.declared.faults.Fault.TheVariants.{Memory, Refused}
use Rattle.common.specs.declared.faults.Kind.{Kind}
use Rattle.article_spec.specs.State as state
use Rattle.stack_machine.specs.declared.object.CellId.{CellId}
use Rattle.stack_machine.specs.declared.object.List.{List as AList}
use Rattle.stack_machine.specs.declared.object.List.TheVariants.{Empty, Cell as CellOf}
use Rattle.article_spec.specs.Operands.{each}
use Rattle.article_spec.specs.Results.{Fails}

module _ {A : Type 0} (as_one : state.Object → Result A Kind) where
  -- the rest of a list is to be read after some elements
  pub record IsRead (whole rest : state.Objects) (before : List A) : Type 0 where
    pub on : (more : List A) → each as_one rest ≡ Ok more → each as_one whole ≡ Ok (before ++ more)
    pub off : (k : Kind) → each as_one rest ≡ Err k → each as_one whole ≡ Err k

  pub none_read : (whole : state.Objects) → IsRead whole whole []
  none_read whole = record { on = λ more e. e; off = λ k e. e }

  -- one element more
  pub one_read : (whole rest tail : state.Objects) (before : List A) (x : state.Object) (a : A) → rest ≡ state.Objects.more x tail → as_one x ≡ Ok a
      → IsRead whole rest before → IsRead whole tail (before ++ a ∷ [])
  one_read whole rest tail before x a is e h = record {
    on = λ more f. h.on (a ∷ more) (rw (is, e, f) refl) ∙ ap Ok (sym (append_assoc before (a ∷ []) more));
    off = λ k f. h.off k (rw (is, e, f) refl);
  }

  pub all_read : (whole rest : state.Objects) (before : List A) → rest ≡ state.Objects.none → IsRead whole rest before → each as_one whole ≡ Ok before
  all_read whole rest before is h = h.on [] (rw is refl) ∙ ap Ok (append-nil before)

  pub other_read : (fault : Fault) (whole rest tail : state.Objects) (before : List A) (x : state.Object) → rest ≡ state.Objects.more x tail
      → Fails fault (as_one x) → IsRead whole rest before → Fails fault (each as_one whole)
  other_read Memory whole rest tail before x is f h = tt
  other_read (Refused k) whole rest tail before x is f h = h.off k (rw (is, f) refl)

-- one number more
pub types_at-push : (trees : List HolType) (ids : List TypeId) (id : TypeId) → types_at trees (ids ++ id ∷ []) ≡ types_at trees ids ++ tree_at trees id.0 ∷ []
types_at-push trees ids id = map-append (λ (i : TypeId). tree_at trees i.0) ids (id ∷ [])

pub known-push : (trees : List HolType) (ids : List TypeId) (id : TypeId) → AreKnown trees ids → id.0 < length trees → AreKnown trees (ids ++ id ∷ [])
known-push trees [] id h k = (k, tt)
known-push trees (i ∷ ids) id h k = (h.0, known-push trees ids id h.1 k)

pub terms_at-push : (trees : Trees) (ids : List TermId) (id : TermId) → terms_at trees (ids ++ id ∷ []) ≡ terms_at trees ids ++ term_at trees id.0 ∷ []
terms_at-push trees ids id = map-append (λ (i : TermId). term_at trees i.0) ids (id ∷ [])

pub AreTermsAt-push : (trees : Trees) (ids : List TermId) (id : TermId) → AreTermsAt trees ids → IsTermAt trees id.0 → AreTermsAt trees (ids ++ id ∷ [])
AreTermsAt-push trees [] id h k = (k, tt)
AreTermsAt-push trees (i ∷ ids) id h k = (h.0, AreTermsAt-push trees ids id h.1 k)

-- one pair more
pub pairs_at-push : (trees : List HolType) (ps : List (Name × TypeId)) (p : Name × TypeId) → pairs_at trees (ps ++ p ∷ []) ≡ pairs_at trees ps
    ++ (p.0, tree_at trees p.1.0) ∷ []
pairs_at-push trees [] p = refl
pairs_at-push trees (q ∷ ps) p = ap (λ l. (q.0, tree_at trees q.1.0) ∷ l) (pairs_at-push trees ps p)

pub ArePairsKnown-push : (trees : List HolType) (ps : List (Name × TypeId)) (p : Name × TypeId) → ArePairsKnown trees ps → p.1.0 < length trees
    → ArePairsKnown trees (ps ++ p ∷ [])
ArePairsKnown-push trees [] p h k = (k, tt)
ArePairsKnown-push trees (q ∷ ps) p h k = (h.0, ArePairsKnown-push trees ps p h.1 k)

pub term_pairs_at-push : (trees : Trees) (ps : List (Variable × TermId)) (p : Variable × TermId) → term_pairs_at trees (ps ++ p ∷ []) ≡ term_pairs_at trees ps
    ++ (variable_view trees p.0, term_at trees p.1.0) ∷ []
term_pairs_at-push trees [] p = refl
term_pairs_at-push trees (q ∷ ps) p = ap (λ l. ((q.0.name, type_at trees q.0.ty.0), term_at trees q.1.0) ∷ l) (term_pairs_at-push trees ps p)

pub AreTermPairs-push : (trees : Trees) (ps : List (Variable × TermId)) (p : Variable × TermId) → AreTermPairs trees ps → p.0.ty.0 < length trees.types
    → IsTermAt trees p.1.0 → AreTermPairs trees (ps ++ p ∷ [])
AreTermPairs-push trees [] p h k l = (k, (l, tt))
AreTermPairs-push trees (q ∷ ps) p h k l = (h.0, (h.1.0, AreTermPairs-push trees ps p h.1.1 k l))

-- one pair of a constant more
pub constant_pairs_at-push : (trees : Trees) (ps : List (Name × Variable)) (p : Name × Variable) → constant_pairs_at trees (ps ++ p ∷ [])
    ≡ constant_pairs_at trees ps ++ (p.0, variable_view trees p.1) ∷ []
constant_pairs_at-push trees ps p = map-append (λ (q : Name × Variable). (q.0, variable_view trees q.1)) ps (p ∷ [])

pub AreConstantPairsKnown-push : (trees : Trees) (ps : List (Name × Variable)) (p : Name × Variable) → AreConstantPairsKnown trees ps
    → p.1.ty.0 < length trees.types → AreConstantPairsKnown trees (ps ++ p ∷ [])
AreConstantPairsKnown-push trees [] p h k = (k, tt)
AreConstantPairsKnown-push trees (q ∷ ps) p h k = (h.0, AreConstantPairsKnown-push trees ps p h.1 k)

-- a list that is no cell's is empty
pub none_left : (xs : AList) → ((c : CellId) → xs ≡ CellOf c → ⊥) → xs ≡ Empty
none_left Empty f = refl
none_left (CellOf c) f = absurd (f c refl)
