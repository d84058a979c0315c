-- What a walk over a type may leave out: where a part passes the limits, the whole does.
use Rattle.std.proofs.Common.{◌≡◌, ◌+◌, ℕ, ◌≤◌, List, Option, Some, sym, ap, subst, ◌∙◌, arith}
use Rattle.std.specs.Option.{option_map}
use Rattle.hol_spec.specs.Names.{Name}
use Rattle.hol_spec.specs.Types.{HolType, HolTypes}
use Rattle.hol_spec.specs.Limits.{type_size, types_size, type_depth, types_depth}
use Rattle.hol_spec.specs.ClosedForm.{ClosedType, ClosedTypes}
use Rattle.lp_spec.specs.Trees.{Tree, SortType, SortKind, Var, Sym, App, Lam, Pi}
use Rattle.lp_spec.specs.Modules.{Declaration}
use Rattle.translate_spec.specs.TypeEnc.{Place}
use Rattle.decode_spec.specs.Options.{bind}
use Rattle.decode_laws.specs.OptionLaws.{some-injective, bind-is}
use Rattle.decode_spec.specs.Opened.{open_type, open_types}
use Rattle.decode_spec.specs.Decode.{operator_at, closed_count, type_from}
use Rattle.lp_binding_laws.specs.LookUps.{option_map-some}

-- arguments are within what they are arguments of
pub record AreWithin (ts : HolTypes) (t : HolType) : Type 0 where
  pub size : 1 + types_size ts ≤ type_size t
  pub depth : 1 + types_depth ts ≤ type_depth t

nothing-within : (named : ℕ → Name) (t : ClosedType) → AreWithin (open_types named ClosedTypes.none) (open_type named t)
nothing-within named (ClosedType.parameter i) = record { size = omega arith; depth = omega arith }
nothing-within named (ClosedType.operator n ts) = record { size = omega arith; depth = omega arith }

-- there is no type of at most this size and this depth
abbrev pub NoType : (ℕ → Name) → ℕ → ℕ → Option ClosedType → Type 0
NoType named size depth o = (t : ClosedType) → o ≡ Some t → type_size (open_type named t) ≤ size → type_depth (open_type named t) ≤ depth → ⊥

module _ (named : ℕ → Name) where
  -- a type has a depth
  pub depth-positive : (t : ClosedType) → 1 ≤ type_depth (open_type named t)
  depth-positive t = omega (arith, (nothing-within named t).depth)

  -- at depth 0 there is none
  pub none-shallow : (size : ℕ) (o : Option ClosedType) → NoType named size 0 o
  none-shallow size o t e a b = omega (arith, b, depth-positive t)

module _ (named : ℕ → Name) (d : List Declaration) (at : Place) where
  pub arguments-within : (A : Tree) (acc : ClosedTypes) (t : ClosedType) → type_from d at A acc ≡ Some t → AreWithin (open_types named acc) (open_type named t)
  arguments-within SortType acc t e = absurd (cc)
  arguments-within SortKind acc t e = absurd (cc)
  arguments-within (Var v) ClosedTypes.none t e = nothing-within named t
  arguments-within (Var v) (ClosedTypes.more u us) t e = absurd (cc)
  arguments-within (Sym s) acc t e =
      let p = option_map-some (λ n. ClosedType.operator n acc) (operator_at d s (closed_count acc)) t e in
      subst (λ u. AreWithin (open_types named acc) (open_type named u)) p.2 (record { size = omega arith; depth = omega arith })
  arguments-within (App f x) acc t e =
      let p = bind-is (type_from d at x ClosedTypes.none) (λ u. type_from d at f (ClosedTypes.more u acc)) t e in
      let w = arguments-within f (ClosedTypes.more p.0 acc) t p.2 in
      record { size = omega (arith, w.size); depth = omega (arith, w.depth) }
  arguments-within (Lam a b) acc t e = absurd (cc)
  arguments-within (Pi a b) acc t e = absurd (cc)

  -- where an argument is none within the limits, the whole is none within them and one level more
  pub none-argument : (size level below : ℕ) (f x : Tree) (acc : ClosedTypes) → level ≤ below + 1 → NoType named size below (type_from d at x ClosedTypes.none)
      → NoType named size level (type_from d at (App f x) acc)
  none-argument size level below f x acc l h t e a b =
      let p = bind-is (type_from d at x ClosedTypes.none) (λ u. type_from d at f (ClosedTypes.more u acc)) t e in
      let k = arguments-within f (ClosedTypes.more p.0 acc) t p.2 in
      h p.0 p.1 (omega (arith, k.size, a)) (omega (arith, k.depth, b, l))

  -- nor is there an operator that would pass them
  pub none-operator : (size level s : ℕ) (n : Name) (acc : ClosedTypes) → operator_at d s (closed_count acc) ≡ Some n
      → (type_size (open_type named (ClosedType.operator n acc)) ≤ size → type_depth (open_type named (ClosedType.operator n acc)) ≤ level → ⊥)
      → NoType named size level (type_from d at (Sym s) acc)
  none-operator size level s n acc e f t g a b =
      let same : ClosedType.operator n acc ≡ t = some-injective (sym (ap (option_map (λ m. ClosedType.operator m acc)) e) ∙ g) in
      f (subst (λ u. type_size (open_type named u) ≤ size) (sym same) a) (subst (λ u. type_depth (open_type named u) ≤ level) (sym same) b)

  -- an argument more, the next of the spine
  pub some-argument : (f x : Tree) (acc : ClosedTypes) (u : ClosedType) → type_from d at x ClosedTypes.none ≡ Some u
      → type_from d at (App f x) acc ≡ type_from d at f (ClosedTypes.more u acc)
  some-argument f x acc u e = ap (λ o. bind o (λ t. type_from d at f (ClosedTypes.more t acc))) e
