-- What the trees of a type's parts stand for, each within the limits.
use Rattle.std.proofs.Common.{◌≡◌, ◌⊎◌, inl, inr, ℕ, ◌<◌, ◌≤◌, List, [], ◌∷◌, ◌++◌, length, suc, ◌-◌, ◌&&◌, Option, Some, None, Ok, Err, Result, refl, sym, ap, subst, ◌∙◌, arith}
use Rattle.std.specs.Prelude.{IfOk, OnOk, slice_get, nat_lt}
use Rattle.std.specs.Vec.{vec_len}
use Rattle.std.specs.declared.vec.Vec.{Vec}
use Rattle.std.proofs.lemmas.Grind.{common_steps}
use Rattle.std.proofs.Common.{Global}
use Rattle.std.specs.Option.{unwrap_or, option_map}
use Rattle.hol_spec.specs.Names.{Name}
use Rattle.hol_spec.specs.Types.{HolType, variable, operator, types_of, count}
use Rattle.hol_spec.specs.Limits.{type_size, type_depth, greatest_size, greatest_depth}
use Rattle.common.specs.declared.faults.Kind.{Kind}
use Rattle.common.specs.declared.faults.Kind.TheVariants as kind
use Rattle.hol_type.specs.Refusals.{PassesLimit}
use Rattle.hol_spec.specs.ClosedForm.{ClosedType, ClosedTypes}
use Rattle.hol_type.specs.declared.table.TypeId.{TypeId}
use Rattle.hol_type.specs.Tables.{Holds, types_at}
use Rattle.lp_spec.specs.Trees.{Tree, SortType, Var, Sym}
use Rattle.lp_spec.specs.Modules.{Declaration, signature}
use Rattle.lp_term.specs.Tables.{tree_of_node}
use Rattle.lp_term.specs.declared.LpId.{LpId}
use Rattle.lp_term.specs.declared.LpNode.{LpNode}
use Rattle.lp_term.specs.declared.LpNode.TheVariants as node
use Rattle.translate_spec.specs.TypeEnc.{Place, depth_of}
use Rattle.decode_laws.specs.OptionLaws.{provided-true, provided-is}
use Rattle.decode_back.proofs.UndeclaredLemmas.{operator_at-undeclared}
use Rattle.std.proofs.lemmas.Bool.Decides.{Decides-ltb}
use Rattle.std.proofs.lemmas.Bool.{and_parts, and_from}
use Rattle.decode_spec.specs.Opened.{open_types}
use Rattle.decode_spec.specs.Decode.{operator_at, type_from, closed_count}
use Rattle.decode_laws.specs.WalkLaws.{none-operator}
use Rattle.hol_term.specs.Tables.{Trees}
use Rattle.decode_back.specs.Walks.{parameter_name, AreArguments, IsTypeFound, NoTypeWithin}

pub IfOk-weaker : {A E : Type 0} (P Q : A → Type 0) (r : Result A E) → IfOk r P → ((x : A) → P x → Q x) → IfOk r Q
IfOk-weaker P Q (Ok x) h f = f x h
IfOk-weaker P Q (Err e) h f = tt

pub OnOk-always : {A E : Type 0} (P : Type 0) (r : Result A E) → P → OnOk r P
OnOk-always P (Ok x) h = h
OnOk-always P (Err e) h = tt

pub IfOk-both : {A E : Type 0} (P Q R : A → Type 0) (r : Result A E) → IfOk r P → IfOk r Q → ((x : A) → P x → Q x → R x) → IfOk r R
IfOk-both P Q R (Ok x) h k f = f x h k
IfOk-both P Q R (Err e) h k f = tt

pub at-Holds : (trees : List Tree) (i : ℕ) (t : Tree) → slice_get trees i ≡ Some t → unwrap_or (slice_get trees i) SortType ≡ t
at-Holds trees i t e = ap (λ o. unwrap_or o SortType) e

-- there are as many arguments as numbers
length-types : (xs : List HolType) → count (types_of xs) ≡ length xs
length-types [] = refl
length-types (x ∷ xs) = omega (arith, length-types xs)

count-open : (named : ℕ → Name) (acc : ClosedTypes) → count (open_types named acc) ≡ closed_count acc
count-open named ClosedTypes.none = refl
count-open named (ClosedTypes.more t ts) = omega (arith, count-open named ts)

length-types_at : (ts : List HolType) (xs : List TypeId) → length (types_at ts xs) ≡ length xs
length-types_at ts [] = refl
length-types_at ts (x ∷ xs) = ap suc (length-types_at ts xs)

pub arguments-count : (trees : Trees) (args : List TypeId) (acc : ClosedTypes) → AreArguments trees args acc → closed_count acc ≡ length args
arguments-count trees args acc h = sym (count-open parameter_name acc) ∙ ap count (sym h) ∙ length-types (types_at trees.types args) ∙ length-types_at
    trees.types args

-- a node that is no part of a spine stands for no type
module _ (d : List Declaration) (at : Place) (level : ℕ) (trees : List Tree) where
  pub no_spine : (r : LpNode) → (r ≡ node.SortType)
      ⊎ ((r ≡ node.SortKind) ⊎ (((a : LpId) × (b : LpId) × (r ≡ node.Lam a b)) ⊎ ((a : LpId) × (b : LpId) × (r ≡ node.Pi a b)))) → (acc : ClosedTypes)
      → NoTypeWithin level (type_from d at (tree_of_node trees r) acc)
  no_spine r (inl e) acc = subst (λ x. NoTypeWithin level (type_from d at (tree_of_node trees x) acc)) (sym e) (λ t f. absurd (cc))
  no_spine r (inr (inl e)) acc = subst (λ x. NoTypeWithin level (type_from d at (tree_of_node trees x) acc)) (sym e) (λ t f. absurd (cc))
  no_spine r (inr (inr (inl e))) acc = subst (λ x. NoTypeWithin level (type_from d at (tree_of_node trees x) acc)) (sym e.2) (λ t f. absurd (cc))
  no_spine r (inr (inr (inr e))) acc = subst (λ x. NoTypeWithin level (type_from d at (tree_of_node trees x) acc)) (sym e.2) (λ t f. absurd (cc))

-- how many a vector holds
pub long : (v : Vec TypeId Global) → length v.items ≡ vec_len v
long v = grind (arith, common_steps)

passes : (k : Kind) (size depth : ℕ) → PassesLimit k size depth → size ≤ greatest_size → depth ≤ greatest_depth → ⊥
passes kind.TooLarge size depth p a b = omega (arith, p, a)
passes kind.TooDeep size depth p a b = omega (arith, p.1, b)
passes _ size depth p a b = p

-- what is refused isn't within the greatest size and a level
pub not-within : (k : Kind) (level : ℕ) (t : HolType) → level ≤ greatest_depth → PassesLimit k (type_size t) (type_depth t) → type_size t ≤ greatest_size
    → type_depth t ≤ level → ⊥
not-within k level t l p a b = passes k (type_size t) (type_depth t) p a (omega (arith, b, l))

module _ (d : List Declaration) (at : Place) (level s k : ℕ) (acc : ClosedTypes) (count_is : closed_count acc ≡ k) where
  pub symbol-none : operator_at d s k ≡ None → NoTypeWithin level (type_from d at (Sym s) acc)
  symbol-none e t f =
      let g : ◌≡◌ {A = Option ClosedType} None (Some t) = sym (ap (option_map (λ n. ClosedType.operator n acc)) (ap (operator_at d s) count_is ∙ e)) ∙ f in
      absurd (cc)

  pub symbol-some : (name : Name) (old new : Trees) (args ids : List TypeId) (id : TypeId) → operator_at d s k ≡ Some name → AreArguments old args acc → ids
      ≡ args
      → Holds new.types id.0 (operator name (types_of (types_at old.types ids))) → IsTypeFound level (type_from d at (Sym s) acc) new (Some id)
  symbol-some name old new args ids id e h f made =
      let same : types_of (types_at old.types ids) ≡ open_types parameter_name acc = ap (λ l. types_of (types_at old.types l)) f ∙ h in (
        ClosedType.operator name acc,
        ap (option_map (λ n. ClosedType.operator n acc)) (ap (operator_at d s) count_is ∙ e),
        subst (λ us. Holds new.types id.0 (operator name us)) same made,
      )

  pub symbol-refused : (name : Name) (old : Trees) (args ids : List TypeId) → operator_at d s k ≡ Some name → AreArguments old args acc → ids ≡ args
      → (type_size (operator name (types_of (types_at old.types ids))) ≤ greatest_size → type_depth (operator name (types_of (types_at old.types ids))) ≤ level
      → ⊥) → NoTypeWithin level (type_from d at (Sym s) acc)
  symbol-refused name old args ids e h f refused =
      let same : types_of (types_at old.types ids) ≡ open_types parameter_name acc = ap (λ l. types_of (types_at old.types l)) f ∙ h in
      none-operator parameter_name d at greatest_size level s name acc (ap (operator_at d s) count_is ∙ e)
      (λ a b. refused (subst (λ us. type_size (operator name us) ≤ greatest_size) (sym same) a)
      (subst (λ us. type_depth (operator name us) ≤ level) (sym same) b))

-- a symbol past those of the module stands for nothing
pub undeclared-none : (d : List Declaration) (at : Place) (level s : ℕ) (acc : ClosedTypes) → length (signature ++ d) ≤ s
    → NoTypeWithin level (type_from d at (Sym s) acc)
undeclared-none d at level s acc l = symbol-none d at level s (closed_count acc) acc refl (operator_at-undeclared d s l (closed_count acc))

-- the type variable of a binder
module _ (d : List Declaration) (at : Place) (level v depth : ℕ) (all : depth_of at ≡ depth) where
  number_is : v < depth → depth_of at - suc v ≡ depth - 1 - v
  number_is l = omega (arith, all, l)

  pub variable-found : v < depth → depth - 1 - v < at.type_variables → (new : Trees) (id : TypeId)
      → Holds new.types id.0 (variable (parameter_name (depth - 1 - v))) → IsTypeFound level (type_from d at (Var v) ClosedTypes.none) new (Some id)
  variable-found below own new id h =
      let same = number_is below in
      let l : v < depth_of at = omega (arith, all, below) in
      let m : depth_of at - suc v < at.type_variables = omega (arith, same, own) in (
        ClosedType.parameter (depth - 1 - v),
        provided-true (nat_lt v (depth_of at) && nat_lt (depth_of at - suc v) at.type_variables) (Some (ClosedType.parameter (depth_of at - suc v)))
            (and_from (nat_lt v (depth_of at)) (nat_lt (depth_of at - suc v) at.type_variables) ((Decides-ltb v (depth_of at)).1 l)
            ((Decides-ltb (depth_of at - suc v) at.type_variables).1 m))
            ∙ ap (λ i. Some (ClosedType.parameter i)) same,
        h,
      )

  pub variable-none : (v < depth → depth - 1 - v < at.type_variables → ⊥) → (acc : ClosedTypes) → NoTypeWithin level (type_from d at (Var v) acc)
  variable-none h ClosedTypes.none t e =
      let p = provided-is (nat_lt v (depth_of at) && nat_lt (depth_of at - suc v) at.type_variables) (Some (ClosedType.parameter (depth_of at - suc v))) t e in
      let q = and_parts (nat_lt v (depth_of at)) (nat_lt (depth_of at - suc v) at.type_variables) p.0 in
      let below : v < depth_of at = (Decides-ltb v (depth_of at)).0 q.0 in
      let own : depth_of at - suc v < at.type_variables = (Decides-ltb (depth_of at - suc v) at.type_variables).0 q.1 in
      let l : v < depth = omega (arith, below, all) in
      let same = number_is l in
      λ a b. h l (omega (arith, same, own))
  variable-none h (ClosedTypes.more t ts) u e = absurd (cc)

-- a variable with arguments stands for no type
pub applied_variable-none : (d : List Declaration) (at : Place) (level v : ℕ) (acc : ClosedTypes) (n : ℕ) → closed_count acc ≡ n → 0 < n
    → NoTypeWithin level (type_from d at (Var v) acc)
applied_variable-none d at level v ClosedTypes.none n c l = absurd (omega (arith, c, l))
applied_variable-none d at level v (ClosedTypes.more t ts) n c l = λ u f. absurd (cc)

pub no-arguments : (acc : ClosedTypes) → closed_count acc ≡ 0 → acc ≡ ClosedTypes.none
no-arguments ClosedTypes.none c = refl
no-arguments (ClosedTypes.more t ts) c = absurd (omega (arith, c))
