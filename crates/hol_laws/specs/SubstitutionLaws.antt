-- Laws of type substitution: what is read off gives a type back exactly where some substitution does.
use Rattle.std.proofs.Common.{◌≡◌, List, [], ◌∷◌, ◌++◌, map, Bool, true, false, Option, Some, cond, refl, sym, ap}
use Rattle.std.specs.Bool.{Decides}
use Rattle.std.specs.Map.{lookup}
use Rattle.std.proofs.lemmas.List.{append-nil, append_assoc}
use Rattle.hol_spec.specs.Names.{Name}
use Rattle.hol_spec.specs.NameEquality.{name_eq}
use Rattle.hol_laws.specs.NameEqualityLaws.{name_eq-Decides}
use Rattle.hol_spec.specs.Types.{HolType, HolTypes, variable, operator, none, more, variable_places, variable_places_of_all}
use Rattle.hol_laws.specs.TypeLaws.{type_eq-Decides}
use Rattle.hol_spec.specs.Substitution.{TypePairs, image, substitute, substitute_all, read_off, read_off_all, is_instance, Instance}

-- The pairs that say of these names what a substitution does with them.
abbrev said : TypePairs → List Name → TypePairs
said s ns = map (λ n. (n, image s n)) ns

said-append : (s : TypePairs) (ms ns : List Name) → said s (ms ++ ns) ≡ said s ms ++ said s ns
said-append s [] ns = refl
said-append s (m ∷ ms) ns = ap (λ ps. (m, image s m) ∷ ps) (said-append s ms ns)

-- What stands at the places of the variables is what the substitution puts there.
mutual
  read_off-substitute : (s : TypePairs) (t : HolType) → read_off t (substitute s t) ≡ said s (variable_places t)
  read_off-substitute s (variable n) = refl
  read_off-substitute s (operator n ts) = read_off_all-substitute s ts

  read_off_all-substitute : (s : TypePairs) (ts : HolTypes) → read_off_all ts (substitute_all s ts) ≡ said s (variable_places_of_all ts)
  read_off_all-substitute s none = refl
  read_off_all-substitute s (more t ts) = rw (read_off-substitute s t, read_off_all-substitute s ts)
      (sym (said-append s (variable_places t) (variable_places_of_all ts)))

lookup-head : (b : Bool) (s : TypePairs) (m n : Name) (rest : Option HolType) → (b ≡ true → n ≡ m) → rest ≡ Some (image s n)
    → cond b (Some (image s m)) rest ≡ Some (image s n)
lookup-head true s m n rest f e = ap (λ k. Some (image s k)) (sym (f refl))
lookup-head false s m n rest f e = e

lookup-said : (s : TypePairs) (n : Name) (ms os : List Name) → lookup (name_eq n) (said s (ms ++ n ∷ os)) ≡ Some (image s n)
lookup-said s n [] os = rw ((name_eq-Decides n n).1 refl) refl
lookup-said s n (m ∷ ms) os = lookup-head (name_eq n m) s m n _ (name_eq-Decides n m).0 (lookup-said s n ms os)

-- The pairs that say what a substitution does with a type's variables do with the type what it does.
mutual
  substitute-said : (s : TypePairs) (t : HolType) (ms os : List Name) → substitute (said s (ms ++ (variable_places t ++ os))) t ≡ substitute s t
  substitute-said s (variable n) ms os = rw (lookup-said s n ms os) refl
  substitute-said s (operator n ts) ms os = ap (operator n) (substitute_all-said s ts ms os)

  substitute_all-said : (s : TypePairs) (ts : HolTypes) (ms os : List Name)
      → substitute_all (said s (ms ++ (variable_places_of_all ts ++ os))) ts ≡ substitute_all s ts
  substitute_all-said s none ms os = refl
  substitute_all-said s (more t ts) ms os =
      let left : substitute (said s (ms ++ ((variable_places t ++ variable_places_of_all ts) ++ os))) t ≡ substitute s t
      = rw (append_assoc (variable_places t) (variable_places_of_all ts) os) (substitute-said s t ms (variable_places_of_all ts ++ os)) in
      let right : substitute_all (said s (ms ++ ((variable_places t ++ variable_places_of_all ts) ++ os))) ts ≡ substitute_all s ts
      = rw (append_assoc (variable_places t) (variable_places_of_all ts) os, ← append_assoc ms (variable_places t) (variable_places_of_all ts ++ os))
      (substitute_all-said s ts (ms ++ variable_places t) os) in
      rw (left, right) refl

substitute-read_off : (s : TypePairs) (t : HolType) → substitute (read_off t (substitute s t)) t ≡ substitute s t
substitute-read_off s t =
    rw (read_off-substitute s t, ← append-nil (variable_places t)) (substitute-said s t [] [])

pub is_instance-Decides : (general t : HolType) → Decides (is_instance general t) (Instance general t)
is_instance-Decides general t = (
  λ h. (read_off general t, (type_eq-Decides _ _).0 h),
  λ h. (type_eq-Decides (substitute (read_off general t) general) t).1 (rw (← h.1) (substitute-read_off h.0 general)),
)
