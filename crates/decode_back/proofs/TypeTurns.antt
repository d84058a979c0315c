-- What a turn does to a walk that decodes a type.
use Rattle.std.proofs.Common.{◌≡◌, ℕ, ◌+◌, ◌-◌, ◌<◌, ◌≤◌, Bool, true, false, List, [], ◌∷◌, ◌++◌, length, map, Option, Some, None, refl, sym, ap, subst, ◌∙◌, arith}
use Rattle.std.specs.Prelude.{IfSome, MatchOption}
use Rattle.std.proofs.lemmas.List.{length-append, length-map}
use Rattle.hol_spec.specs.Types.{HolType, more, types_of}
use Rattle.hol_spec.specs.Limits.{greatest_size, greatest_depth}
use Rattle.hol_spec.specs.ClosedForm.{ClosedType, ClosedTypes}
use Rattle.hol_type.specs.declared.table.TypeId.{TypeId}
use Rattle.hol_type.specs.Tables as type
use Rattle.hol_type.specs.Tables.{types_at, AreKnown}
use Rattle.hol_type.specs.TableLaws.{AreKnown-Keeps, types_at-Stays, Holds-tree_at, tree_at-Holds}
use Rattle.hol_term.specs.Tables.{Trees, Keeps}
use Rattle.lp_spec.specs.Trees.{Tree, SortType, SortKind, Var, Sym, App, Lam, Pi, size}
use Rattle.lp_spec.specs.Modules.{Declaration}
use Rattle.lp_term.specs.declared.LpId.{LpId}
use Rattle.lp_term.specs.Tables.{tree_at}
use Rattle.translate_spec.specs.TypeEnc.{Place}
use Rattle.decode_spec.specs.Opened.{open_type, open_types}
use Rattle.decode_spec.specs.Decode.{type_from, closed_count}
use Rattle.decode_laws.specs.WalkLaws.{none-argument, none-shallow, some-argument}
use Rattle.decode_back.specs.declared.types.TypeTask.{TypeTask}
use Rattle.decode_back.specs.Walks.{parameter_name, AreArguments, IsTypeFound, NoTypeWithin}
use Rattle.decode_back.specs.TypeTasks.{listed, AreMade, IsTypeWalk, IsTypeTurn, type_work}

-- what was made stays
AreMade-Keeps : (old new : Trees) (made : List TypeId) (types : List ClosedType) → Keeps old new → AreMade old made types → AreMade new made types
AreMade-Keeps old new made types k h = (AreKnown-Keeps k.types made h.0, sym (types_at-Stays k.types.stays made h.0) ∙ h.1)

listed-length : (acc : ClosedTypes) → length (listed acc) ≡ closed_count acc
listed-length ClosedTypes.none = refl
listed-length (ClosedTypes.more t ts) = omega (arith, listed-length ts)

-- there are as many numbers as types
made-length : (trees : Trees) (made : List TypeId) (types : List ClosedType) → AreMade trees made types → length made ≡ length types
made-length trees made types h =
    sym (length-map made (λ (id : TypeId). type.tree_at trees.types id.0)) ∙ ap length h.1 ∙ length-map types (open_type parameter_name)

-- the arguments that were made last, and what was made before them
split-made : (ts : List HolType) (args rest : List TypeId) (acc : ClosedTypes) (before : List ClosedType) → AreKnown ts (args ++ rest)
    → types_at ts (args ++ rest) ≡ map (open_type parameter_name) (listed acc ++ before)
    → length args ≡ closed_count acc → AreKnown ts args × (types_of (types_at ts args) ≡ open_types parameter_name acc) × AreKnown ts rest
    × (types_at ts rest ≡ map (open_type parameter_name) before)
split-made ts [] rest ClosedTypes.none before k e l = (tt, refl, k, e)
split-made ts [] rest (ClosedTypes.more t us) before k e l = absurd (omega (arith, l))
split-made ts (x ∷ args) rest ClosedTypes.none before k e l = absurd (omega (arith, l))
split-made ts (x ∷ args) rest (ClosedTypes.more t us) before k e l =
    let first : type.tree_at ts x.0 ≡ open_type parameter_name t = cc in
    let others : types_at ts (args ++ rest) ≡ map (open_type parameter_name) (listed us ++ before) = cc in
    let r = split-made ts args rest us before k.1 others (omega (arith, l)) in
    ((k.0, r.0), (λ i. more (first i) (r.1 i)), r.2, r.3)

pub size-positive : (A : Tree) → 1 ≤ size A
size-positive SortType = omega arith
size-positive SortKind = omega arith
size-positive (Var v) = omega arith
size-positive (Sym s) = omega arith
size-positive (App f x) = omega arith
size-positive (Lam a b) = omega arith
size-positive (Pi a b) = omega arith

-- a task that is done
pub done-less : (trees : List Tree) (task : TypeTask) (tasks : List TypeTask) → type_work trees tasks < type_work trees (task ∷ tasks)
done-less trees task tasks = let h = size-positive (tree_at trees task.head.0) in omega (arith, h)

module _ (d : List Declaration) (at : Place) (trees : List Tree) where
  -- a tree sets out
  pub walk-start : (limit : ℕ) (table : Trees) (id : LpId) → id.0 < length trees → limit ≤ greatest_depth
      → IsTypeWalk d at trees limit (type_from d at (tree_at trees id.0) ClosedTypes.none) table (record { head = id; arguments = 0; level = limit } ∷ []) []
  walk-start limit table id known within =
      ([], (tt {0}, refl), (ClosedTypes.none, [], (omega (arith, known), within), refl, refl, (λ none. none), (λ t e. (t, e, refl))))

  module _ (limit : ℕ) (root : Option ClosedType) where
    -- the type that was made is the root's
    pub walk-ends : (table : Trees) (made after : List TypeId) (found : Option TypeId) → IsTypeWalk d at trees limit root table [] made
        → MatchOption found (made ≡ []) (λ id. made ≡ id ∷ after) → IsTypeFound limit root table found
    walk-ends table made after None w e = let l = made-length table made w.0 w.1 in let m = ap length w.2.2 in let n =
        ap length e in absurd (omega (arith, l, m, n))
    walk-ends table made after (Some id) w e =
        let all : types_at table.types (id ∷ after) ≡ open_type parameter_name w.2.0 ∷ [] =
        ap (types_at table.types) (sym e) ∙ w.1.1 ∙ ap (map (open_type parameter_name)) w.2.2 in
        let first : type.tree_at table.types id.0 ≡ open_type parameter_name w.2.0 = cc in
        let known : AreKnown table.types (id ∷ after) = subst (AreKnown table.types) e w.1.0 in
        (w.2.0, w.2.1, tree_at-Holds table.types id.0 known.0 ∙ ap Some first)

    module _ (table : Trees) (task : TypeTask) (tasks : List TypeTask) (made : List TypeId) (w : IsTypeWalk d at trees limit root table (task ∷ tasks) made)
      where
        -- the task's tree is of the table, and there are as many types as it takes
        pub walk-known : task.head.0 < length trees
        walk-known = let h = w.2.2.0 in omega (arith, h)

        pub walk-enough : task.arguments ≤ length made
        walk-enough =
            let l = made-length table made w.0 w.1 in
            let m = ap length w.2.3 in
            let n = length-append (listed w.2.0) w.2.1 in
            let k = listed-length w.2.0 in
            let c = w.2.4 in
            omega (arith, l, m, n, k, c)

        -- a task that comes to nothing within the limits
        pub walk-none : ((acc : ClosedTypes) → closed_count acc ≡ task.arguments → NoTypeWithin task.level (type_from d at (tree_at trees task.head.0) acc))
            → NoTypeWithin limit root
        walk-none h = w.2.5 (h w.2.0 w.2.4)

        pub walk-shallow : task.level ≡ 0 → NoTypeWithin limit root
        walk-shallow e = walk-none
            (λ acc c. subst (λ l. NoTypeWithin l (type_from d at (tree_at trees task.head.0) acc)) (sym e)
            (none-shallow parameter_name greatest_size (type_from d at (tree_at trees task.head.0) acc)))

        -- one argument more
        pub walk-argument : (F X : LpId) → tree_at trees task.head.0 ≡ App (tree_at trees F.0) (tree_at trees X.0) → (F.0 < task.head.0) × (X.0 < task.head.0)
            → 0 < task.level
            → IsTypeWalk d at trees limit root table
            (record { head = X; arguments = 0; level = task.level - 1 } ∷ record { head = F; arguments = task.arguments + 1; level = task.level } ∷ tasks)
            made
        walk-argument F X is low deep =
            let acc = w.2.0 in
            let one = w.2.2.0 in
            let two = w.2.2.1 in
            let c = w.2.4 in
            let more_of : (t : ClosedType) → type_from d at (tree_at trees X.0) ClosedTypes.none ≡ Some t → type_from d at (tree_at trees task.head.0) acc
            ≡ type_from d at (tree_at trees F.0) (ClosedTypes.more t acc) =
            λ t e. ap (λ A. type_from d at A acc) is ∙ some-argument parameter_name d at (tree_at trees F.0) (tree_at trees X.0) acc t e in (
              w.0,
              w.1,
              (
                ClosedTypes.none,
                w.0,
                (omega (arith, one, low.1), omega (arith, two)),
                refl,
                refl,
                (λ none. w.2.5 (subst (λ A. NoTypeWithin task.level (type_from d at A acc)) (sym is)
                    (none-argument parameter_name d at greatest_size task.level (task.level - 1) (tree_at trees F.0) (tree_at trees X.0) acc (omega (arith, deep))
                    none))),
                (λ t e. (
                  ClosedTypes.more t acc,
                  w.2.1,
                  (omega (arith, one, low.0), two),
                  ap (λ l. t ∷ l) w.2.3,
                  omega (arith, c),
                  (λ none. w.2.5 (subst (NoTypeWithin task.level) (sym (more_of t e)) none)),
                  (λ u f. w.2.6 u (more_of t e ∙ f)),
                )),
              ),
            )

        module _ (args rest : List TypeId) (is : made ≡ args ++ rest) (enough : length args ≡ task.arguments) where
          parts : AreKnown table.types args × (types_of (types_at table.types args) ≡ open_types parameter_name w.2.0) × AreKnown table.types rest
              × (types_at table.types rest ≡ map (open_type parameter_name) w.2.1)
          parts =
              let c = w.2.4 in
              split-made table.types args rest w.2.0 w.2.1 (subst (AreKnown table.types) is w.1.0)
              (ap (types_at table.types) (sym is) ∙ w.1.1 ∙ ap (map (open_type parameter_name)) w.2.3) (omega (arith, enough, c))

          -- the arguments of a task are of the table
          pub walk-arguments : AreKnown table.types args
          walk-arguments = parts.0

          -- what is found of a task's tree, applied to the arguments
          pub walk-found : (now : Trees) (after : List TypeId) (found : Option TypeId) (is_found : Bool) → Keeps table now
              → ((acc : ClosedTypes) → closed_count acc ≡ task.arguments → AreArguments table args acc
              → IsTypeFound task.level (type_from d at (tree_at trees task.head.0) acc) now found) → IfSome found (λ t. t.0 < length now.types)
              → MatchOption found (is_found ≡ false) (λ id. (is_found ≡ true) × (after ≡ id ∷ rest)) → IsTypeTurn d at trees limit root now tasks after is_found
          walk-found now after None is_found k h known e = subst (IsTypeTurn d at trees limit root now tasks after) (sym e) (w.2.5 (h w.2.0 w.2.4 parts.1))
          walk-found now after (Some id) is_found k h known e =
              let t = h w.2.0 w.2.4 parts.1 in
              let kept = AreMade-Keeps table now rest w.2.1 k (parts.2, parts.3) in
              let first : type.tree_at now.types id.0 ≡ open_type parameter_name t.0 = Holds-tree_at now.types id.0 (open_type parameter_name t.0) t.2 in
              subst (IsTypeTurn d at trees limit root now tasks after) (sym e.0)
              (subst (λ l. IsTypeWalk d at trees limit root now tasks l) (sym e.1) (t.0 ∷ w.2.1, ((known, kept.0), (λ i. first i ∷ kept.1 i)), w.2.6 t.0 t.1))
