-- The generic type that a declared type tells.
use Rattle.std.proofs.Common.{◌≡◌, ℕ, ◌*◌, ◌<◌, ◌≤◌, List, map, Bool, true, false, Option, Some, None, refl, sym, ap, subst, ◌∙◌, arith}
use Rattle.std.specs.Prelude.{nat_eq, min, ◌^◌, ◌-◌}
use Rattle.std.specs.Bool.{Decides}
use Rattle.std.proofs.lemmas.Bool.Decides.{Decides-eqb}
use Rattle.std.proofs.lemmas.Slice.Eq.{slice_eq-Decides}
use lib.Pointwise.{pointwise}
use Rattle.hol_spec.specs.Names.{Name}
use Rattle.hol_spec.specs.Lists.{distinct}
use Rattle.hol_spec.specs.Limits.{greatest_size, greatest_depth, type_size, type_depth}
use Rattle.hol_spec.specs.Types.{type_variables}
use Rattle.hol_spec.specs.ClosedForm.{ClosedType}
use Rattle.hol_type.specs.declared.table.TypeId.{TypeId}
use Rattle.hol_type.specs.Tables.{Holds, tree_at}
use Rattle.hol_type.specs.TableLaws.{Holds-tree_at}
use Rattle.hol_term.specs.Tables.{Trees}
use Rattle.lp_spec.specs.Trees.{Tree, size}
use Rattle.lp_spec.specs.Modules.{Declaration}
use Rattle.translate_spec.specs.TypeEnc.{place}
use Rattle.translate_spec.specs.ConstantMeaning.{parameter_places, numbers}
use Rattle.decode_spec.specs.Options.{bind, provided}
use Rattle.decode_laws.specs.OptionLaws.{some-injective, bind-is, provided-is, provided-true}
use Rattle.decode_spec.specs.Opened.{open_type}
use Rattle.decode_spec.specs.Decode.{term_part, peel_types, type_of_tree, generic_of}
use Rattle.decode_laws.specs.TypeLaws.{type_of_tree-is}
use Rattle.decode_laws.specs.SizeLaws.{type-size}
use Rattle.decode_laws.specs.GenericLaws.{count-size, numbered-in_order, in_order-numbered}
use Rattle.decode_back.specs.Walks.{parameter_name, greatest_number, IsGenericFound, IsTypeFound}
use Rattle.decode_back.proofs.NameLemmas.{parameter_name-apart}

-- what is told of some names holds of the same names and count
pub same-told : (told : Bool) (names vars : List Name) (k n : ℕ) → names ≡ vars → k ≡ n → Decides told (names ≡ map parameter_name (numbers 0 k))
    → Decides told (vars ≡ map parameter_name (numbers 0 n))
same-told told names vars k n e f h = subst (λ m. Decides told (vars ≡ map parameter_name (numbers 0 m))) f
    (subst (λ ns. Decides told (ns ≡ map parameter_name (numbers 0 k))) e h)

module _ (d : List Declaration) (A : Tree) (limit : ℕ) where
  abbrev count : ℕ
  count = (peel_types A).0

  abbrev in_order : ClosedType → Bool
  in_order t = pointwise nat_eq (distinct nat_eq (parameter_places t)) (numbers 0 count)

  -- what a generic type is
  record Tells (k : ℕ) (t : ClosedType) : Type 0 where
    tree : Tree
    part : term_part (peel_types A).1 ≡ Some tree
    found : type_of_tree d (place count 0 0 0) tree ≡ Some t
    ordered : distinct nat_eq (parameter_places t) ≡ numbers 0 count
    many : count ≡ k

  tells : (k : ℕ) (t : ClosedType) → generic_of d (Some A) ≡ Some (k, t) → Tells k t
  tells k t e =
      let p = bind-is {A = Tree} {B = ℕ × ClosedType} (term_part (peel_types A).1)
      (λ T. bind (type_of_tree d (place count 0 0 0) T) (λ u. provided (in_order u) (Some (count, u)))) (k, t) e in
      let q = bind-is {A = ClosedType} {B = ℕ × ClosedType} (type_of_tree d (place count 0 0 0) p.0) (λ u. provided (in_order u) (Some (count, u))) (k, t) p.2
      in
      let r = provided-is {A = ℕ × ClosedType} (in_order q.0) (Some (count, q.0)) (k, t) q.2 in
      let pair : ◌≡◌ {A = ℕ × ClosedType} (count, q.0) (k, t) = some-injective r.1 in
      let one : q.0 ≡ t = ap (λ (x : ℕ × ClosedType). x.1) pair in
      record {
        tree = p.0;
        part = p.1;
        found = q.1 ∙ ap Some one;
        ordered = subst (λ u. distinct nat_eq (parameter_places u) ≡ numbers 0 count) one
            ((slice_eq-Decides Decides-eqb (distinct nat_eq (parameter_places q.0)) (numbers 0 count) (in_order q.0) refl).0 r.0);
        many = ap (λ (x : ℕ × ClosedType). x.0) pair;
      }

  abbrev pub None_told : Type 0
  None_told = (k : ℕ) (t : ClosedType) → generic_of d (Some A) ≡ Some (k, t) → type_size (open_type parameter_name t) ≤ limit
      → type_depth (open_type parameter_name t) ≤ greatest_depth → ⊥

  -- too many variables
  pub too_many : (n : ℕ) → count ≡ n → greatest_number < n → limit ≤ greatest_size → None_told
  too_many n e l m k t f a b = let h = tells k t f in omega (arith, count-size parameter_name t count h.ordered, e, l, m, a)

  -- no type of terms
  pub no_terms : term_part (peel_types A).1 ≡ None → None_told
  no_terms e k t f a b = let h = tells k t f in let g : ◌≡◌ {A = Option Tree} None (Some h.tree) = sym e ∙ h.part in absurd (cc)

  module _ (T : Tree) (part : term_part (peel_types A).1 ≡ Some T) where
    one_tree : (k : ℕ) (t : ClosedType) → generic_of d (Some A) ≡ Some (k, t) → type_of_tree d (place count 0 0 0) T ≡ Some t
    one_tree k t f = let h = tells k t f in let same : h.tree ≡ T =
        some-injective (sym h.part ∙ part) in ap (type_of_tree d (place count 0 0 0)) (sym same) ∙ h.found

    -- too large a tree
    pub too_large : 2 * limit < min (size T) (2 ^ 128 - 1) → None_told
    too_large l k t f a b = omega (arith, type-size parameter_name d t (place count 0 0 0) T (type_of_tree-is d (place count 0 0 0) T t (one_tree k t f)), l, a)

    -- no type within the limits
    pub no_type : (trees : Trees) → limit ≤ greatest_size → IsTypeFound greatest_depth (type_of_tree d (place count 0 0 0) T) trees None → None_told
    no_type trees l h k t f a b = h t (one_tree k t f) (omega (arith, a, l)) b

    module _ (trees : Trees) (id : TypeId) (found : IsTypeFound greatest_depth (type_of_tree d (place count 0 0 0) T) trees (Some id)) (told : Bool)
        (decides : Decides told (type_variables (tree_at trees.types id.0) ≡ map parameter_name (numbers 0 count))) where
      held : tree_at trees.types id.0 ≡ open_type parameter_name found.0
      held = Holds-tree_at trees.types id.0 (open_type parameter_name found.0) found.2

      -- variables in another order
      pub out_of_order : told ≡ false → None_told
      out_of_order e k t f a b =
          let same : found.0 ≡ t = some-injective (sym found.1 ∙ one_tree k t f) in
          let numbered = in_order-numbered parameter_name parameter_name-apart t count (tells k t f).ordered in
          let yes : told ≡ true = decides.1 (ap type_variables (held ∙ ap (open_type parameter_name) same) ∙ numbered) in
          absurd (cc)

      pub generic-found : told ≡ true → (new : Trees) → Holds new.types id.0 (open_type parameter_name found.0)
          → IsGenericFound limit (generic_of d (Some A)) new (Some (count, id))
      generic-found e new h =
          let ordered = numbered-in_order parameter_name parameter_name-apart found.0 count (sym (ap type_variables held) ∙ decides.0 e) in (
            found.0,
            ap (λ o. bind o (λ S. bind (type_of_tree d (place count 0 0 0) S) (λ u. provided (in_order u) (Some (count, u))))) part
                ∙ ap (λ o. bind o (λ u. provided (in_order u) (Some (count, u)))) found.1
                ∙ provided-true {A = ℕ × ClosedType} (in_order found.0) (Some (count, found.0))
                ((slice_eq-Decides Decides-eqb (distinct nat_eq (parameter_places found.0)) (numbers 0 count) (in_order found.0) refl).1 ordered),
            h,
          )
