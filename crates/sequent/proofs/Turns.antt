-- What a turn does to a walk that closes a type or a term.
use Rattle.std.proofs.Common.{◌≡◌, ℕ, ◌+◌, ◌<◌, refl, sym, ap, ◌∙◌, arith, List, [], ◌∷◌, ◌++◌, append_assoc, length, map}
use Rattle.std.proofs.Math.Path.{ap₂}
use Rattle.std.proofs.lemmas.List.{append-nil}
use Rattle.hol_spec.specs.Names.{Name}
use Rattle.hol_spec.specs.Types.{HolType, operator, types_of}
use Rattle.hol_spec.specs.Terms.{Variable}
use Rattle.hol_spec.specs.Limits.{type_size, types_size}
use Rattle.hol_spec.specs.ClosedForm as form
use Rattle.hol_spec.specs.ClosedForm.{ClosedType, ClosedTerm, close_type, close_types, close_term}
use Rattle.hol_type.specs.declared.table.TypeId.{TypeId}
use Rattle.hol_type.specs.Tables.{tree_at, types_at, AreKnown, Holds}
use Rattle.hol_type.specs.TableLaws.{Holds-tree_at, AreBelow-known}
use Rattle.hol_type.specs.Views.{AreBelow}
use Rattle.hol_term.specs.declared.TermId.{TermId}
use Rattle.hol_term.specs.Tables.{Trees, term_at}
use Rattle.sequent.specs.declared.closed.TypeNode.{TypeNode}
use Rattle.sequent.specs.declared.closed.TermNode.{TermNode}
use Rattle.sequent.specs.Closed.{first, firsts, behind, closed_types_of, no_type, no_term, type_step, spelled_types, spelled_terms}
use Rattle.sequent.specs.Closing.{IsTypeWalk, IsWalk, type_work}

-- types that stand first are all taken as arguments, and those behind are left
closed_types_of-firsts : (trees : List HolType) (names : List Name) (ids : List TypeId) (rest : List ClosedType)
    → closed_types_of (firsts no_type (length ids) (map (close_type names) (types_at trees ids) ++ rest)) ≡ close_types names (types_of (types_at trees ids))
closed_types_of-firsts trees names [] rest = refl
closed_types_of-firsts trees names (id ∷ ids) rest =
    ap (form.ClosedTypes.more (close_type names (tree_at trees id.0))) (closed_types_of-firsts trees names ids rest)

behind-listed : (trees : List HolType) (names : List Name) (ids : List TypeId) (rest : List ClosedType)
    → behind (length ids) (map (close_type names) (types_at trees ids) ++ rest) ≡ rest
behind-listed trees names [] rest = refl
behind-listed trees names (id ∷ ids) rest = behind-listed trees names ids rest

-- numbers of a table, and others
AreKnown-append : (trees : List HolType) (ids more : List TypeId) → AreKnown trees ids → AreKnown trees more → AreKnown trees (ids ++ more)
AreKnown-append trees [] more h k = k
AreKnown-append trees (id ∷ ids) more h k = (h.0, AreKnown-append trees ids more h.1 k)

closed-append : (trees : List HolType) (names : List Name) (ids more : List TypeId) → map (close_type names) (types_at trees (ids ++ more))
    ≡ map (close_type names) (types_at trees ids) ++ map (close_type names) (types_at trees more)
closed-append trees names [] more = refl
closed-append trees names (id ∷ ids) more = ap (λ l. close_type names (tree_at trees id.0) ∷ l) (closed-append trees names ids more)

-- Walks that close a type.
module _ (trees : List HolType) (names : List Name) where
  abbrev closed_at : List TypeId → List ClosedType
  closed_at ids = map (close_type names) (types_at trees ids)

  -- an operator is visited, and then its arguments
  pub operator_turn : (root : ClosedType) (id : TypeId) (m n : Name) (args tasks : List TypeId) (nodes : List TypeNode) → m ≡ n
      → Holds trees id.0 (operator n (types_of (types_at trees args))) → AreBelow id.0 args
      → IsTypeWalk trees names root (id ∷ tasks) nodes → IsTypeWalk trees names root (args ++ tasks) (nodes ++ TypeNode.Operator m (length args) ∷ [])
  operator_turn root id m n args tasks nodes e h low w =
      let node = TypeNode.Operator m (length args) in
      let is : type_step node (closed_at args ++ closed_at tasks) ≡ closed_at (id ∷ tasks) =
      ap₂ (λ t ts. t ∷ ts)
      (ap₂ form.ClosedType.operator e (closed_types_of-firsts trees names args (closed_at tasks))
      ∙ ap (close_type names) (sym (Holds-tree_at trees id.0 (operator n (types_of (types_at trees args))) h)))
      (behind-listed trees names args (closed_at tasks)) in
      record {
        known = AreKnown-append trees args tasks (AreBelow-known trees id.0 args (let l = w.known.0 in omega (arith, l)) low) w.known.1;
        spells = λ later d. ap spelled_types (append_assoc nodes (node ∷ []) later)
            ∙ w.spells (node ∷ later) (ap (type_step node) (d ∙ closed-append trees names args tasks) ∙ is);
      }

  -- the work of arguments is less than that of their type
  type_work-append : (ids more : List TypeId) → type_work trees (ids ++ more) ≡ types_size (types_of (types_at trees ids)) + type_work trees more
  type_work-append [] more = omega arith
  type_work-append (id ∷ ids) more = let h = type_work-append ids more in omega (arith, h)

  pub operator_less : (id : TypeId) (n : Name) (args tasks : List TypeId) → Holds trees id.0 (operator n (types_of (types_at trees args)))
      → type_work trees (args ++ tasks) < type_work trees (id ∷ tasks)
  operator_less id n args tasks h =
      let e = ap type_size (Holds-tree_at trees id.0 (operator n (types_of (types_at trees args))) h) in
      let l = type_work-append args tasks in
      omega (arith, e, l)

  -- at the end the nodes spell the root
  pub type_walk_ends : (root : ClosedType) (nodes : List TypeNode) → IsTypeWalk trees names root [] nodes → first no_type (spelled_types nodes) ≡ root
  type_walk_ends root nodes w = ap (λ l. first no_type (spelled_types l)) (sym (append-nil nodes)) ∙ ap (first no_type) (w.spells [] refl)

-- Walks that close a term.
module _ (trees : Trees) (names : List Name) (variables : List Variable) (root : ClosedTerm) where
  -- a free variable is visited
  pub free_turn : (id : TermId) (place : ℕ) (tasks : List TermId) (nodes : List TermNode) → form.ClosedTerm.parameter place
      ≡ close_term names variables (term_at trees id.0)
      → IsWalk trees names variables root (id ∷ tasks) nodes → IsWalk trees names variables root tasks (nodes ++ TermNode.Parameter place ∷ [])
  free_turn id place tasks nodes e w = record {
    known = w.known.1;
    spells = λ later h. ap spelled_terms (append_assoc nodes (TermNode.Parameter place ∷ []) later)
        ∙ w.spells (TermNode.Parameter place ∷ later) (ap₂ (λ t ts. t ∷ ts) e h);
  }

  -- at the end the nodes spell the root
  pub walk_ends : (nodes : List TermNode) → IsWalk trees names variables root [] nodes → first no_term (spelled_terms nodes) ≡ root
  walk_ends nodes w = ap (λ l. first no_term (spelled_terms l)) (sym (append-nil nodes)) ∙ ap (first no_term) (w.spells [] refl)
