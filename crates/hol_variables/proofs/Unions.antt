-- Unions of lists, and the numbers of lists that are kept.
use Rattle.std.proofs.Common.{◌≡◌, ℕ, ◌<◌, refl, sym, ap, ◌∙◌, List, [], ◌∷◌, ◌++◌, length, subst, true, cond, ◌||◌, Option, Some, None}
use Rattle.std.specs.Prelude.{slice_get, unwrap_or, nat_eq}
use Rattle.std.specs.List.{list_all, IsDistinct}
use Rattle.std.proofs.lemmas.Bool.Decides.{Decides-eqb, Decides-like, same_from_decides}
use Rattle.std.proofs.lemmas.Option.{slice_get_within, slice_get-get_or, unwrap_or-slice_get}
use Rattle.std.proofs.Math.Path.{ap₂}
use Rattle.std.proofs.lemmas.Bool.{and_parts, and_from, or_right}
use Rattle.hol_spec.specs.Lists.{is_in, union}
use Rattle.hol_laws.specs.ListLaws.{distinct-itself, union-IsDistinct}
use Rattle.hol_laws.specs.PlaceLaws.{slice_get-append}
use Rattle.hol_variables.specs.declared.lists.ListId.{ListId}
use Rattle.hol_variables.specs.Lists.{list_in, KeepsLists, Tells, IsThere, HasUnion}

-- a number is one with another where that is one with it
pub nat_eq-sym : (m n : ℕ) → nat_eq m n ≡ nat_eq n m
nat_eq-sym m n = same_from_decides (nat_eq m n) (nat_eq n m) (Decides-eqb m n) (Decides-like (nat_eq n m) (λ e. sym e) (λ e. sym e) (Decides-eqb n m))

-- a list that has all of another is their union
pub union-all_in : (ys xs : List ℕ) → list_all (λ n. is_in nat_eq n xs) ys ≡ true → union nat_eq xs ys ≡ xs
union-all_in [] xs e = refl
union-all_in (y ∷ ys) xs e =
    let h = and_parts (is_in nat_eq y xs) (list_all (λ n. is_in nat_eq n xs) ys) e in
    ap (λ b. union nat_eq (cond b xs (xs ++ y ∷ [])) ys) h.0 ∙ union-all_in ys xs h.1

-- the union with nothing is a list without repeats itself
pub union-none : (xs : List ℕ) → IsDistinct nat_eq xs → union nat_eq [] xs ≡ xs
union-none xs h = distinct-itself nat_eq (λ m n e. nat_eq-sym n m ∙ e) xs h

-- of no numbers none stands twice, nor where one more is taken, if it is new
pub none_twice : (own : List ℕ) → own ≡ [] → IsDistinct nat_eq own
unfolding IsDistinct
none_twice own e = subst (IsDistinct nat_eq) (sym e) tt

pub none_twice-add : (old new : List ℕ) (n : ℕ) → IsDistinct nat_eq old → new ≡ union nat_eq old (n ∷ []) → IsDistinct nat_eq new
none_twice-add old new n h e =
    subst (IsDistinct nat_eq) (sym e) (union-IsDistinct nat_eq (λ k m f. nat_eq-sym m k ∙ f) (n ∷ []) old h)

-- a list with one number more has what it had
all_in-more : (ys xs : List ℕ) (x : ℕ) → list_all (λ n. is_in nat_eq n xs) ys ≡ true → list_all (λ n. is_in nat_eq n (x ∷ xs)) ys ≡ true
all_in-more [] xs x e = refl
all_in-more (y ∷ ys) xs x e =
    let h = and_parts (is_in nat_eq y xs) (list_all (λ n. is_in nat_eq n xs) ys) e in
    and_from (is_in nat_eq y (x ∷ xs)) (list_all (λ n. is_in nat_eq n (x ∷ xs)) ys) (or_right (nat_eq y x) (is_in nat_eq y xs) h.0) (all_in-more ys xs x h.1)

-- a list has all of itself
pub all_in-own : (xs : List ℕ) → list_all (λ n. is_in nat_eq n xs) xs ≡ true
all_in-own [] = refl
all_in-own (x ∷ xs) =
    and_from (is_in nat_eq x (x ∷ xs)) (list_all (λ n. is_in nat_eq n (x ∷ xs)) xs) (ap (λ b. b || is_in nat_eq x xs) ((Decides-eqb x x).1 refl))
    (all_in-more xs xs x (all_in-own xs))

-- a list that has a number is the number's
pub list_in-is : (ls : List (List ℕ)) (i : ℕ) (l : List ℕ) → slice_get ls i ≡ Some l → list_in ls i ≡ l
list_in-is ls i l e = ap (λ o. unwrap_or o []) e

pub list_in-Some : (ls : List (List ℕ)) (i : ℕ) → i < length ls → slice_get ls i ≡ Some (list_in ls i)
list_in-Some ls i h = slice_get-get_or ls i [] h ∙ ap Some (sym (unwrap_or-slice_get ls i []))

pub KeepsLists-append : (ls ms : List (List ℕ)) → KeepsLists ls (ls ++ ms)
KeepsLists-append ls ms = record { each = slice_get-append ls ms }

pub KeepsLists-trans : {a b c : List (List ℕ)} → KeepsLists a b → KeepsLists b c → KeepsLists a c
KeepsLists-trans h k = record { each = λ i l e. k.each i l (h.each i l e) }

-- the last of some lists
pub slice_get-pushed : (ls : List (List ℕ)) (l : List ℕ) → slice_get (ls ++ l ∷ []) (length ls) ≡ Some l
slice_get-pushed [] l = refl
slice_get-pushed (k ∷ ls) l = slice_get-pushed ls l

-- what is told of a list that is kept, is told of one that there is
pub Tells-IsThere : (P : List ℕ → Type 0) (ls : List (List ℕ)) (o : Option ListId) → Tells P ls o → IsThere ls o
Tells-IsThere P ls None h = tt
Tells-IsThere P ls (Some id) h = slice_get_within ls id.0 h.list h.is

-- what is told of two lists is told of their union
pub Tells-union : (P Q R : List ℕ → Type 0) (old new : List (List ℕ)) → ((l m : List ℕ) → P l → Q m → R (union nat_eq l m))
    → (a b c : Option ListId) → HasUnion old a b new c → Tells P old a → Tells Q old b → Tells R new c
Tells-union P Q R old new f a b None u h k = tt
Tells-union P Q R old new f None b (Some c) u h k = absurd u
Tells-union P Q R old new f (Some a) None (Some c) u h k = absurd u
Tells-union P Q R old new f (Some a) (Some b) (Some c) u h k = record {
  list = union nat_eq h.list k.list;
  is = u ∙ ap₂ (λ l m. Some (union nat_eq l m)) (list_in-is old a.0 h.list h.is) (list_in-is old b.0 k.list k.is);
  such = f h.list k.list h.such k.such;
}
