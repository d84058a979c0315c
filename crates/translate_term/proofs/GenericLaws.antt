-- The generic type of a symbol, read back from its declared type.
use Rattle.std.proofs.Common.{◌≡◌, ℕ, zero, suc, ◌+◌, ◌<◌, sym, ap, subst, ◌∙◌, arith, List, [], ◌∷◌, ◌++◌, length, map, append_assoc, Some, Bool, true, false}
use Rattle.std.specs.Prelude.{replicate, option_map, slice_get}
use Rattle.hol_spec.specs.Types.{HolType, type_variables}
use Rattle.hol_spec.specs.Substitution.{type_arguments}
use Rattle.hol_laws.specs.Members.{map-twice}
use Rattle.lp_spec.specs.Trees.{Tree, Sym, App, Pi}
use Rattle.lp_spec.specs.Substitution.{sub}
use Rattle.lp_spec.specs.Modules.{Declaration, signature, symbol_type, products, types, term_of}
use Rattle.lp_term.specs.declared.LpId.{LpId}
use Rattle.lp_term.specs.Tables.{tree_at, trees_at, Holds}
use Rattle.lp_term.specs.TableLaws.{Holds-tree_at}
use Rattle.translate_spec.specs.Scopes.{SymbolMap, TypeScope, type_tree, under_types, unfilled}
use Rattle.translate_laws.specs.SequentEncoding.{types-are}
use Rattle.translate_term.specs.Patterns.{IsGeneric, Mentions}
use Rattle.translate_term.proofs.PatternLaws.{below, wants, pattern_of, pattern-becomes, generic-mentions, wants-arguments}
use Rattle.translate_term.proofs.TreeLists.{trees_at-append, append-none}

-- a tree under so many of so many products over types, before the terms of a pattern
pub record IsUnder (trees : List Tree) (id count k : ℕ) (pattern : Tree) : Type 0 where
  pub left : ℕ
  pub sum : k ≡ count + left
  pub is : tree_at trees id ≡ products (replicate left types) (term_of pattern)

body_of : Tree → Tree
body_of (Pi a b) = b
body_of t = t

argument_of : Tree → Tree
argument_of (App f x) = x
argument_of t = t

same-body : (a b c d : Tree) → Pi a b ≡ Pi c d → b ≡ d
unfolding body_of
same-body a b c d e = ap body_of e

same-argument : (a b c d : Tree) → App a b ≡ App c d → b ≡ d
unfolding argument_of
same-argument a b c d e = ap argument_of e

pub under_begins : (trees : List Tree) (id k : ℕ) (pattern : Tree) → tree_at trees id ≡ products (replicate k types) (term_of pattern)
    → IsUnder trees id 0 k pattern
under_begins trees id k pattern e = record { left = k; sum = omega arith; is = e }

-- under one product more
pub under_product : (trees : List Tree) (id count k : ℕ) (pattern : Tree) (a b : LpId) → Holds trees id (Pi (tree_at trees a.0) (tree_at trees b.0))
    → IsUnder trees id count k pattern → IsUnder trees b.0 (count + 1) k pattern
under_product trees id count k pattern a b h u = go u.left u.sum u.is
  where
    go : (left : ℕ) → k ≡ count + left → tree_at trees id ≡ products (replicate left types) (term_of pattern) → IsUnder trees b.0 (count + 1) k pattern
    go zero s e = absurd (let no : Pi (tree_at trees a.0) (tree_at trees b.0) ≡ term_of pattern = sym (Holds-tree_at trees id _ h) ∙ e in cc)
    go (suc left) s e = record {
      left = left;
      sum = omega (arith, s);
      is = same-body (tree_at trees a.0) (tree_at trees b.0) types (products (replicate left types) (term_of pattern))
          (sym (Holds-tree_at trees id _ h) ∙ e);
    }

-- at the end
pub under_application : (trees : List Tree) (id count k : ℕ) (pattern : Tree) (f x : LpId) → Holds trees id (App (tree_at trees f.0) (tree_at trees x.0))
    → IsUnder trees id count k pattern → (count ≡ k) × (tree_at trees x.0 ≡ pattern)
under_application trees id count k pattern f x h u = go u.left u.sum u.is
  where
    go : (left : ℕ) → k ≡ count + left → tree_at trees id ≡ products (replicate left types) (term_of pattern) → (count ≡ k) × (tree_at trees x.0 ≡ pattern)
    go zero s e = (omega (arith, s), same-argument (tree_at trees f.0) (tree_at trees x.0) (Sym 4) pattern (sym (Holds-tree_at trees id _ h) ∙ e))
    go (suc left) s e = absurd
        (let no : App (tree_at trees f.0) (tree_at trees x.0) ≡ Pi types (products (replicate left types) (term_of pattern)) =
        sym (Holds-tree_at trees id _ h) ∙ e in cc)

-- what is neither a product nor an application
abbrev pub is_other : Tree → Bool
is_other (Pi a b) = false
is_other (App f x) = false
is_other t = true

pub under_other : (trees : List Tree) (id count k : ℕ) (pattern t : Tree) → Holds trees id t → is_other t ≡ true → IsUnder trees id count k pattern → ⊥
under_other trees id count k pattern t h o u = go u.left u.is
  where
    other : (u : Tree) → t ≡ u → is_other u ≡ true
    other u e = ap is_other (sym e) ∙ o

    go : (left : ℕ) → tree_at trees id ≡ products (replicate left types) (term_of pattern) → ⊥
    go zero e = let no = other (term_of pattern) (sym (Holds-tree_at trees id t h) ∙ e) in cc
    go (suc left) e = let no = other (Pi types (products (replicate left types) (term_of pattern))) (sym (Holds-tree_at trees id t h) ∙ e) in cc

module _ (m : List Declaration) (symbol : ℕ) (symbols : SymbolMap) (scope : TypeScope) (generic t : HolType) (trees : List Tree) (ty : LpId)
    (h : IsGeneric m symbol symbols scope generic t trees ty) (count : ℕ) (pattern : LpId)
    (is : (k : ℕ) (p : Tree) → symbol_type m symbol ≡ Some (products (replicate k types) (term_of p)) → (count ≡ k) × (tree_at trees pattern.0 ≡ p)) where
  abbrev pub wanted_in : ℕ → Tree
  wanted_in k = type_tree symbols scope (wants symbols generic t h.instance k)

  here : (count ≡ length (type_variables generic)) × (tree_at trees pattern.0 ≡ pattern_of symbols generic t h.instance)
  here =
      is (length (type_variables generic)) (pattern_of symbols generic t h.instance)
      (h.declared ∙ ap (λ ds. Some (products ds (term_of (type_tree symbols (under_types (type_variables generic) unfilled) generic))))
      (types-are (type_variables generic)))

  pub pattern-fits : tree_at trees ty.0 ≡ sub wanted_in (tree_at trees pattern.0)
  pattern-fits = h.is ∙ pattern-becomes symbols generic t h.instance scope ∙ ap (sub wanted_in) (sym here.1)

  pub pattern-mentions : (k : ℕ) → k < count → Mentions k (tree_at trees pattern.0)
  pattern-mentions k l = subst (λ p. Mentions k p) (sym here.1) (generic-mentions symbols generic t h.instance k (omega (arith, l, here.0)))

  pub arguments-are : map wanted_in (below count) ≡ map (type_tree symbols scope) (type_arguments generic t)
  arguments-are =
      ap (λ k. map wanted_in (below k)) here.0
      ∙ sym (map-twice (type_tree symbols scope) (wants symbols generic t h.instance) (below (length (type_variables generic))))
      ∙ ap (map (type_tree symbols scope)) (wants-arguments symbols generic t h.instance)

  -- of no variables, none
  pub arguments-none : count ≡ 0 → [] ≡ map (type_tree symbols scope) (type_arguments generic t)
  arguments-none e = ap (λ k. map wanted_in (below k)) (sym e) ∙ arguments-are

  -- of one, what is wanted for it
  pub argument-sole : count ≡ 1 → (x : Tree) → x ≡ wanted_in 0 → x ∷ [] ≡ map (type_tree symbols scope) (type_arguments generic t)
  argument-sole e x h = ap (λ y. y ∷ []) h ∙ ap (λ k. map wanted_in (below k)) (sym e) ∙ arguments-are

-- one argument more
pub arguments_step : (trees : List Tree) (want : ℕ → Tree) (items : List LpId) (id : LpId) (left after : ℕ) (goal : List Tree) → tree_at trees id.0 ≡ want after
    → left ≡ suc after
    → trees_at trees items ++ map want (below left) ≡ goal → trees_at trees (items ++ id ∷ []) ++ map want (below after) ≡ goal
arguments_step trees want items id left after goal is e h =
    ap (λ l. l ++ map want (below after)) (trees_at-append trees items (id ∷ []))
    ∙ append_assoc (trees_at trees items) (tree_at trees id.0 ∷ []) (map want (below after))
    ∙ ap (λ x. trees_at trees items ++ x ∷ map want (below after)) is
    ∙ ap (λ k. trees_at trees items ++ map want (below k)) (sym e)
    ∙ h

pub arguments_end : (trees : List Tree) (want : ℕ → Tree) (items : List LpId) (left : ℕ) (goal : List Tree) → left ≡ 0 → trees_at trees items
    ++ map want (below left) ≡ goal → trees_at trees items ≡ goal
arguments_end trees want items left goal e h = sym (append-none (trees_at trees items)) ∙ ap (λ k. trees_at trees items ++ map want (below k)) (sym e) ∙ h

-- a symbol with a type is one of the module
get-below : {A B : Type 0} (f : A → B) (xs : List A) (k : ℕ) (y : B) → option_map f (slice_get xs k) ≡ Some y → k < length xs
get-below f [] k y e = absurd (cc)
get-below f (x ∷ xs) zero y e = omega arith
get-below f (x ∷ xs) (suc k) y e = let l = get-below f xs k y e in omega (arith, l)

pub symbol-within : (m : List Declaration) (s : ℕ) (A : Tree) → symbol_type m s ≡ Some A → s < length (signature ++ m)
symbol-within m s A e = get-below (λ (d : Declaration). d.ty) (signature ++ m) s A e
