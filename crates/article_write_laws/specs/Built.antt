-- Terms that were built from their parts: at each binder with a variable in its place, the part under it too was within the limits.
use Rattle.std.proofs.Common.{◌≡◌, ℕ, ◌&&◌, Bool, true, false, List, [], ◌∷◌, ◌++◌, length, drop, refl, sym, ap, ◌∙◌, ◌<◌, ◌^◌, arith, decimal}
use Rattle.std.specs.Prelude.{nat_eq}
use Rattle.std.specs.List.{list_all, starts_with}
use Rattle.std.proofs.lemmas.Slice.Eq.{starts_is}
use Rattle.std.proofs.Math.Seq.{drop-append_seam}
use Rattle.std.proofs.lemmas.Bool.Decides.{Decides-eqb}
use Rattle.hol_spec.specs.Names.{Name}
use Rattle.hol_spec.specs.NameEquality.{name_eq}
use Rattle.hol_laws.specs.NameEqualityLaws.{name_eq-Decides}
use Rattle.hol_spec.specs.Types.{HolType, type_eq}
use Rattle.hol_spec.specs.Terms.{Term, free, bound, constant, app, lam}
use Rattle.hol_spec.specs.Limits.{TermWithin}
use Rattle.article_spec.specs.Numbers.{is_digit}
use Rattle.article_write_spec.specs.BinderNames.{binder_front, binder_name, are_digits, is_binder_name}
use Rattle.article_write_laws.specs.Opened.{opened, unnamed, IsFresh}
use Rattle.article_write_laws.specs.NumberTextLaws.{decimal-HasValue}

-- a part under binders of these types, the innermost first
abbrev pub IsBuilt : List HolType → Term → Type 0
IsBuilt types (free n a) = TermWithin (free n a)
IsBuilt types (bound k) = TermWithin (opened 0 (unnamed types) (bound k))
IsBuilt types (constant n a) = TermWithin (constant n a)
IsBuilt types (app f x) = TermWithin (opened 0 (unnamed types) (app f x)) × (IsBuilt types f × IsBuilt types x)
IsBuilt types (lam a b) = TermWithin (opened 0 (unnamed types) (lam a b)) × IsBuilt (a ∷ types) b

-- no variable of a term has the name of a binder
abbrev pub HasNoBinderName : ℕ → Term → Type 0
HasNoBinderName q (free n a) = is_binder_name q n ≡ false
HasNoBinderName q (bound k) = Unit {0}
HasNoBinderName q (constant n a) = Unit {0}
HasNoBinderName q (app f x) = HasNoBinderName q f × HasNoBinderName q x
HasNoBinderName q (lam a b) = HasNoBinderName q b

digits-are : (bytes : List ℕ) → 0 < length bytes → list_all is_digit bytes ≡ true → are_digits bytes ≡ true
digits-are [] h e = absurd (omega (arith, h))
digits-are (b ∷ bytes) h e = e

binder_name-is : (q d : ℕ) → d < 2 ^ 64 → is_binder_name q (binder_name q d) ≡ true
binder_name-is q d h =
    let value = decimal-HasValue d (omega (arith, h)) in
    let front = (starts_is {E = nat_eq} Decides-eqb (binder_front q ++ decimal d) (binder_front q)
    (starts_with nat_eq (binder_front q ++ decimal d) (binder_front q)) refl).1 (decimal d) refl in
    let rest : are_digits (drop (length (binder_front q)) (binder_front q ++ decimal d)) ≡ true =
    ap are_digits (drop-append_seam (binder_front q) (decimal d)) ∙ digits-are (decimal d) value.some value.digits in
    rw (front, rest) refl

apart : (q d : ℕ) (n : Name) → d < 2 ^ 64 → is_binder_name q n ≡ false → name_eq n (binder_name q d) ≡ false
apart q d n small h = go (name_eq n (binder_name q d)) (name_eq-Decides n (binder_name q d)).0
  where
    go : (b : Bool) → (b ≡ true → n ≡ binder_name q d) → b ≡ false
    go false f = refl
    go true f = absurd (let e = sym h ∙ ap (is_binder_name q) (f refl) ∙ binder_name-is q d small in cc)

pub binder-fresh : (q d : ℕ) (a : HolType) (t : Term) → d < 2 ^ 64 → HasNoBinderName q t → IsFresh (binder_name q d, a) t
binder-fresh q d a (free n b) small h = ap (λ x. x && type_eq b a) (apart q d n small h)
binder-fresh q d a (bound k) small h = tt
binder-fresh q d a (constant n b) small h = tt
binder-fresh q d a (app f x) small h = (binder-fresh q d a f small h.0, binder-fresh q d a x small h.1)
binder-fresh q d a (lam b t) small h = binder-fresh q d a t small h
