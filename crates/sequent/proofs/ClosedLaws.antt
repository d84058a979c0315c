-- The closed form, level by level.
use Rattle.std.proofs.Common.{◌≡◌, ℕ, zero, suc, ◌+◌, ◌<◌, refl, sym, ap, ◌∙◌, arith, List, [], ◌∷◌, ◌++◌, length, cond, get_or}
use Rattle.std.specs.Prelude.{map, take, not}
use Rattle.std.specs.List.{position_or_len}
use Rattle.std.proofs.lemmas.List.{map_push, map_more}
use Rattle.std.proofs.Math.Path.{ap₂}
use Rattle.hol_spec.specs.ClosedForm as form
use Rattle.hol_spec.specs.ClosedForm.{close_type, close_term, closed_form}
use Rattle.hol_spec.specs.Names.{Name}
use Rattle.hol_spec.specs.Sequents.{Sequent, type_variables_of, free_variables_of}
use Rattle.hol_spec.specs.Terms.{Variable as ATreeVariable, variable_eq, free}
use Rattle.hol_type.specs.declared.table.TypeId.{TypeId}
use Rattle.hol_type.specs.Tables as type
use Rattle.hol_term.specs.declared.TermId.{TermId}
use Rattle.hol_term.specs.declared.Variable.{Variable}
use Rattle.hol_term.specs.Subterms.{variables_of, HaveTypes}
use Rattle.hol_term.specs.Tables.{Trees, term_at, type_at, AreKnown, Holds}
use Rattle.hol_term.specs.TableLaws.{Some-term_in}
use Rattle.sequent.specs.declared.closed.Closed.{Closed}
use Rattle.sequent.specs.declared.closed.ClosedType.{ClosedType}
use Rattle.sequent.specs.Closed.{closed_type_view, closed_term_view, closed_view}
use Rattle.sequent.specs.Params.{is_variable}
use Rattle.sequent.proofs.ParamLaws.{at, variable_eq-at, variables_of-map}

-- a place among numbers of a table has a number of the table
pub known_at : (trees : Trees) (ids : List TermId) (i : ℕ) (d : TermId) → i < length ids → AreKnown trees ids → (get_or ids i d).0 < length trees.terms
known_at trees [] i d h k = absurd (omega arith)
known_at trees (id ∷ ids) zero d h k = k.0
known_at trees (id ∷ ids) (suc i) d h k = known_at trees ids i d (omega arith) k.1

-- a place among variables whose types are of a table has such a variable
have_type_at : (trees : Trees) (vs : List Variable) (i : ℕ) (d : Variable) → i < length vs → HaveTypes trees vs → (get_or vs i d).ty.0 < length trees.types
have_type_at trees [] i d h k = absurd (omega arith)
have_type_at trees (v ∷ vs) zero d h k = k.0
have_type_at trees (v ∷ vs) (suc i) d h k = have_type_at trees vs i d (omega arith) k.1

pub has_type_at : (trees : Trees) (vs : List Variable) (i : ℕ) (v : Variable) → v ≡ get_or vs i v → i < length vs → HaveTypes trees vs
    → v.ty.0 < length trees.types
has_type_at trees vs i v e h k = let known = have_type_at trees vs i v h k in omega (arith, known, ap (λ (w : Variable). w.ty.0) e)

-- the next of some variables is closed
pub closes_next : (names : List Name) (trees : Trees) (vs : List Variable) (i : ℕ) (v : Variable) (old new : List ClosedType) (t : ClosedType) → v
    ≡ get_or vs i v → i < length vs → new ≡ old ++ t ∷ [] → closed_type_view t ≡ close_type names (type_at trees v.ty.0) → map closed_type_view old
    ≡ map (λ (w : ATreeVariable). close_type names w.1) (variables_of trees (take i vs)) → map closed_type_view new
    ≡ map (λ (w : ATreeVariable). close_type names w.1) (variables_of trees (take (i + 1) vs))
closes_next names trees vs i v old new t is h e f g =
    let close : ATreeVariable → form.ClosedType = λ w. close_type names w.1 in
    ap (map closed_type_view) e
    ∙ map_push closed_type_view old t
    ∙ ap₂ (λ l x. l ++ x ∷ []) g f
    ∙ sym (map_push close (variables_of trees (take i vs)) (at trees v))
    ∙ ap (map close) (
    ap₂ (λ l w. l ++ at trees w ∷ []) (variables_of-map trees (take i vs)) is
    ∙ sym (map_more (at trees) vs i v h)
    ∙ sym (variables_of-map trees (take (i + 1) vs))
    )

module _ (trees : Trees) (d : type.IsDistinct trees.types) (n : Name) (ty : TypeId) (k : ty.0 < length trees.types) where
  -- a variable's place by name and number is that of its tree
  place_of_variable-at : (vs : List Variable) → HaveTypes trees vs → position_or_len (is_variable n ty) vs
      ≡ position_or_len (variable_eq (n, type_at trees ty.0)) (variables_of trees vs)
  place_of_variable-at [] h = refl
  place_of_variable-at (v ∷ vs) h =
      ap₂ (λ b m. cond (not b) (1 + m) 0) (sym (variable_eq-at trees d (record { name = n; ty = ty }) v k h.0)) (place_of_variable-at vs h.1)

  -- the place of a free variable is its closed form
  pub closed_free : (names : List Name) (vs found : List Variable) (id : ℕ) (place : ℕ) → HaveTypes trees vs → found ≡ vs
      → Holds trees id (free n (type_at trees ty.0)) → place ≡ position_or_len (is_variable n ty) found → form.ClosedTerm.parameter place
      ≡ close_term names (variables_of trees vs) (term_at trees id)
  closed_free names vs found id place h e f g =
      ap form.ClosedTerm.parameter (g ∙ ap (position_or_len (is_variable n ty)) e ∙ place_of_variable-at vs h)
      ∙ ap (close_term names (variables_of trees vs)) (sym (Some-term_in trees.terms id (free n (type_at trees ty.0)) f))

-- what is closed over a sequent's own parameters is its closed form
pub closed_is : (s : Sequent) (names : List Name) (variables : List ATreeVariable) (closed : Closed) → names ≡ type_variables_of s → variables
    ≡ free_variables_of s → closed.type_vars ≡ length names → map closed_type_view closed.free_vars.items
    ≡ map (λ (v : ATreeVariable). close_type names v.1) variables → map closed_term_view closed.hyps.items ≡ map (close_term names variables) s.hypotheses
    → closed_term_view closed.concl ≡ close_term names variables s.conclusion → closed_view closed ≡ closed_form s
closed_is s names variables closed e f a b c d =
    let count = a ∙ ap length e in
    let vars = b ∙ ap₂ (λ (ns : List Name) (vs : List ATreeVariable). map (λ (v : ATreeVariable). close_type ns v.1) vs) e f in
    let hyps = c ∙ ap₂ (λ (ns : List Name) (vs : List ATreeVariable). map (close_term ns vs) s.hypotheses) e f in
    let concl = d ∙ ap₂ (λ (ns : List Name) (vs : List ATreeVariable). close_term ns vs s.conclusion) e f in
    λ i. record { type_variable_count = count i; free_variable_types = vars i; hypotheses = hyps i; conclusion = concl i }
