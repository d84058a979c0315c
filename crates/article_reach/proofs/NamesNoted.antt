-- The names of a set, once one more is noted.
use Rattle.std.proofs.Common.{◌≡◌, ◌||◌, Bool, true, false, List, cond, refl, sym, ap, ◌∙◌}
use Rattle.std.specs.List.{list_any}
use Rattle.std.specs.BTreeSet.{BTreeSet, contains}
use Rattle.std.specs.Cmp.Lexicographic.{lists_ties, slice_cmp, texts_ties}
use Rattle.std.specs.Ordering.{is_eq, nat_cmp}
use Rattle.std.specs.declared.cmp.Ordering.{Ordering}
use Rattle.hol_spec.specs.Lists.{is_in}
use Rattle.hol_spec.specs.Names.{Name}
use Rattle.hol_spec.specs.NameEquality.{name_eq}
use Rattle.hol_laws.specs.NameEqualityLaws.{name_eq-Decides}

-- the order of names
abbrev pub name_cmp : Name → Name → Ordering
name_cmp = slice_cmp (slice_cmp nat_cmp)

-- names are equal in their order where they are the same
is_eq-name_cmp : (m n : Name) → is_eq (name_cmp m n) ≡ name_eq m n
is_eq-name_cmp m n = sym (lists_ties (slice_cmp nat_cmp) texts_ties m n)

-- what is found by the order of names is what is among them
pub contains-is_in : (names : BTreeSet Name) (n : Name) → contains name_cmp names n ≡ is_in name_eq n names.keys
contains-is_in names n = λ i. list_any (λ k. is_eq-name_cmp n k i) names.keys

-- a name that was there
pub noted-known : (ns : List Name) (m n : Name) → is_in name_eq m ns ≡ true → is_in name_eq n ns ≡ (is_in name_eq n ns || name_eq n m)
noted-known ns m n h = go (is_in name_eq n ns) (name_eq n m) refl (name_eq-Decides n m).0
  where
    go : (b c : Bool) → is_in name_eq n ns ≡ b → (c ≡ true → n ≡ m) → b ≡ (b || c)
    go true c e f = refl
    go false false e f = refl
    go false true e f = sym e ∙ ap (λ k. is_in name_eq k ns) (f refl) ∙ h

same-turned : (m n : Name) → name_eq m n ≡ name_eq n m
same-turned m n = go (name_eq m n) (name_eq n m) (name_eq-Decides m n).0 (name_eq-Decides n m).1 (name_eq-Decides n m).0 (name_eq-Decides m n).1
  where
    go : (b c : Bool) → (b ≡ true → m ≡ n) → (n ≡ m → c ≡ true) → (c ≡ true → n ≡ m) → (m ≡ n → b ≡ true) → b ≡ c
    go true c f g h k = sym (g (sym (f refl)))
    go false true f g h k = k (sym (h refl))
    go false false f g h k = refl

-- a name more
pub noted-more : (old new : BTreeSet Name) (m n : Name) → contains name_cmp new n ≡ cond (is_eq (name_cmp m n)) true (contains name_cmp old n)
    → is_in name_eq n new.keys ≡ (is_in name_eq n old.keys || name_eq n m)
noted-more old new m n e =
    sym (contains-is_in new n) ∙ e ∙ (λ i. cond ((is_eq-name_cmp m n ∙ same-turned m n) i) true (contains-is_in old n i))
    ∙ go (name_eq n m) (is_in name_eq n old.keys)
  where
    go : (b c : Bool) → cond b true c ≡ (c || b)
    go true true = refl
    go true false = refl
    go false true = refl
    go false false = refl
