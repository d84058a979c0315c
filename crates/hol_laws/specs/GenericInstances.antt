-- Instances of a generic type, by the function of what stands for its variables: what is read off an instance is that function.
use Rattle.std.proofs.Common.{◌≡◌, ◌+◌, inl, inr, List, [], ◌∷◌, map, Bool, true, false, cond, Some, refl, sym, ap, subst, ⊎_elim, ◌∙◌}
use Rattle.std.specs.Option.{unwrap_or}
use Rattle.std.specs.Map.{lookup}
use Rattle.std.specs.List.{AllByRecursion}
use Rattle.std.proofs.lemmas.List.{map-append}
use Rattle.std.proofs.Math.Path.{ap₂}
use Rattle.hol_spec.specs.Names.{Name}
use Rattle.hol_spec.specs.NameEquality.{name_eq}
use Rattle.hol_laws.specs.NameEqualityLaws.{name_eq-Decides}
use Rattle.hol_spec.specs.Types.{HolType, HolTypes, variable, operator, none, more, count, variable_places, variable_places_of_all, type_variables}
use Rattle.hol_spec.specs.Substitution.{TypePairs, image, substitute, substitute_all, read_off, read_off_all, Instance, type_arguments}
use Rattle.hol_spec.specs.Lists.{IsIn}
use Rattle.hol_laws.specs.Members.{IsIn-either, IsIn-distinct_of, All-each, All-left, All-right, All-mapped, map-each, map-twice}

-- a type with types for its variables
abbrev mutual
  pub filled_in : (Name → HolType) → HolType → HolType
  filled_in f (variable n) = f n
  filled_in f (operator n ts) = operator n (filled_in_all f ts)

  pub filled_in_all : (Name → HolType) → HolTypes → HolTypes
  filled_in_all f none = none
  filled_in_all f (more t ts) = more (filled_in f t) (filled_in_all f ts)

-- substitution is such
mutual
  pub substitute-is : (s : TypePairs) (t : HolType) → substitute s t ≡ filled_in (image s) t
  substitute-is s (variable n) = refl
  substitute-is s (operator n ts) = ap (operator n) (substitute_all-is s ts)

  pub substitute_all-is : (s : TypePairs) (ts : HolTypes) → substitute_all s ts ≡ filled_in_all (image s) ts
  substitute_all-is s none = refl
  substitute_all-is s (more t ts) = ap₂ more (substitute-is s t) (substitute_all-is s ts)

-- and so is substitution in such
mutual
  pub substitute-filled_in : (s : TypePairs) (f : Name → HolType) (t : HolType) → substitute s (filled_in f t) ≡ filled_in (λ n. substitute s (f n)) t
  substitute-filled_in s f (variable n) = refl
  substitute-filled_in s f (operator n ts) = ap (operator n) (substitute_all-filled_in s f ts)

  substitute_all-filled_in : (s : TypePairs) (f : Name → HolType) (ts : HolTypes) → substitute_all s (filled_in_all f ts)
      ≡ filled_in_all (λ n. substitute s (f n)) ts
  substitute_all-filled_in s f none = refl
  substitute_all-filled_in s f (more t ts) = ap₂ more (substitute-filled_in s f t) (substitute_all-filled_in s f ts)

pub count-substitute_all : (s : TypePairs) (ts : HolTypes) → count (substitute_all s ts) ≡ count ts
count-substitute_all s none = refl
count-substitute_all s (more t ts) = ap (λ k. k + 1) (count-substitute_all s ts)

-- what stands at the places of the variables
mutual
  read_off-filled_in : (f : Name → HolType) (t : HolType) → read_off t (filled_in f t) ≡ map (λ n. (n, f n)) (variable_places t)
  read_off-filled_in f (variable n) = refl
  read_off-filled_in f (operator n ts) = read_off_all-filled_in f ts

  read_off_all-filled_in : (f : Name → HolType) (ts : HolTypes) → read_off_all ts (filled_in_all f ts) ≡ map (λ n. (n, f n)) (variable_places_of_all ts)
  read_off_all-filled_in f none = refl
  read_off_all-filled_in f (more t ts) = rw (read_off-filled_in f t, read_off_all-filled_in f ts)
      (sym (map-append (λ n. (n, f n)) (variable_places t) (variable_places_of_all ts)))

pub lookup-told : (f : Name → HolType) (ns : List Name) (n : Name) → IsIn ns n → lookup (name_eq n) (map (λ m. (m, f m)) ns) ≡ Some (f n)
lookup-told f [] n k = absurd k
lookup-told f (m ∷ ms) n k = go (name_eq n m) refl (λ j. lookup-told f ms n j) k
  where
    go : (b : Bool) → name_eq n m ≡ b → (IsIn ms n → lookup (name_eq n) (map (λ m. (m, f m)) ms) ≡ Some (f n)) → IsIn (m ∷ ms) n
        → cond b (Some (f m)) (lookup (name_eq n) (map (λ m. (m, f m)) ms)) ≡ Some (f n)
    go true e later k = ap (λ l. Some (f l)) (sym ((name_eq-Decides n m).0 e))
    go false e later (inl same) = absurd (let t = (name_eq-Decides n m).1 same in cc)
    go false e later (inr k) = later k

-- what is read off an instance is what was filled in
pub type_arguments-filled_in : (f : Name → HolType) (t : HolType) → type_arguments t (filled_in f t) ≡ map f (type_variables t)
type_arguments-filled_in f t =
    map-each (image (read_off t (filled_in f t))) f (type_variables t)
    (All-each _ (type_variables t) (λ n k.
    ap (λ ps. image ps n) (read_off-filled_in f t)
    ∙ ap (λ o. unwrap_or o (variable n)) (lookup-told f (variable_places t) n (IsIn-distinct_of name_eq name_eq-Decides (variable_places t) n k))))

-- the type arguments of an instance after a substitution
pub type_arguments-substitute : (s : TypePairs) (generic t : HolType) → Instance generic t
    → type_arguments generic (substitute s t) ≡ map (substitute s) (type_arguments generic t)
type_arguments-substitute s generic t h =
    let is : filled_in (image h.0) generic ≡ t = sym (substitute-is h.0 generic) ∙ h.1 in
    ap (λ u. type_arguments generic (substitute s u)) (sym is)
    ∙ ap (type_arguments generic) (substitute-filled_in s (image h.0) generic)
    ∙ type_arguments-filled_in (λ n. substitute s (image h.0 n)) generic
    ∙ sym (map-twice (substitute s) (image h.0) (type_variables generic))
    ∙ ap (map (substitute s)) (sym (type_arguments-filled_in (image h.0) generic))
    ∙ ap (λ u. map (substitute s) (type_arguments generic u)) is

-- an instance of a generic type stays one
pub Instance-substitute : (s : TypePairs) (generic t : HolType) → Instance generic t → (f : Name → HolType) × (substitute s t ≡ filled_in f generic)
Instance-substitute s generic t h =
    (λ n. substitute s (image h.0 n), ap (substitute s) (sym h.1 ∙ substitute-is h.0 generic) ∙ substitute-filled_in s (image h.0) generic)

-- an instance is filled in
pub Instance-filled_in : (generic t : HolType) → Instance generic t → (f : Name → HolType) × (filled_in f generic ≡ t)
Instance-filled_in generic t h = (image h.0, sym (substitute-is h.0 generic) ∙ h.1)

module _ (P : Name → Type 0) where
  mutual
    -- what holds of the variables of an instance holds of those of what was filled in
    places-filled_in : (f : Name → HolType) (t : HolType) (n : Name) → IsIn (variable_places t) n → AllByRecursion P (variable_places (filled_in f t))
        → AllByRecursion P (variable_places (f n))
    places-filled_in f (variable m) n (inl e) h = subst (λ k. AllByRecursion P (variable_places (f k))) (sym e) h
    places-filled_in f (variable m) n (inr k) h = absurd k
    places-filled_in f (operator m ts) n k h = all_places-filled_in f ts n k h

    all_places-filled_in : (f : Name → HolType) (ts : HolTypes) (n : Name) → IsIn (variable_places_of_all ts) n
        → AllByRecursion P (variable_places_of_all (filled_in_all f ts)) → AllByRecursion P (variable_places (f n))
    all_places-filled_in f none n k h = absurd k
    all_places-filled_in f (more t ts) n k h =
        ⊎_elim
        (λ l. places-filled_in f t n l (All-left P (variable_places (filled_in f t)) (variable_places_of_all (filled_in_all f ts)) h))
        (λ r. all_places-filled_in f ts n r (All-right P (variable_places (filled_in f t)) (variable_places_of_all (filled_in_all f ts)) h))
        (IsIn-either (variable_places t) (variable_places_of_all ts) n k)

  -- what holds of the variables of an instance holds of those of its type arguments
  pub type_arguments-All : (generic t : HolType) → Instance generic t → AllByRecursion P (variable_places t)
      → AllByRecursion (λ u. AllByRecursion P (variable_places u)) (type_arguments generic t)
  type_arguments-All generic t h all =
      let w = Instance-filled_in generic t h in
      let own : AllByRecursion P (variable_places (filled_in w.0 generic)) = subst (λ u. AllByRecursion P (variable_places u)) (sym w.1) all in
      subst (λ u. AllByRecursion (λ u. AllByRecursion P (variable_places u)) (type_arguments generic u)) w.1
      (subst (λ us. AllByRecursion (λ u. AllByRecursion P (variable_places u)) us) (sym (type_arguments-filled_in w.0 generic))
      (All-mapped (λ u. AllByRecursion P (variable_places u)) w.0 (type_variables generic)
      (All-each _ (type_variables generic)
      (λ n k. places-filled_in w.0 generic n (IsIn-distinct_of name_eq name_eq-Decides (variable_places generic) n k) own))))
