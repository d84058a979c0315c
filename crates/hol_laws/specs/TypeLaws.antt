-- Laws of types: the test of equality decides it, and types can be told apart as values.
use base.Stored.{Coded, Gv, gnil, gnum, gcons, coded_ℕ, coded_list}
use Rattle.std.proofs.Common.{◌≡◌, ◌∙◌, ◌+◌, ◌<◌, arith, Bool, true, false, ◌&&◌, List, [], ◌∷◌, map, length, refl, ap}
use Rattle.std.proofs.lemmas.List.{length-map}
use Rattle.std.specs.Bool.{Decides}
use Rattle.hol_spec.specs.Names.{Name}
use Rattle.hol_spec.specs.NameEquality.{name_eq}
use Rattle.hol_laws.specs.NameEqualityLaws.{name_eq-Decides}
use Rattle.hol_spec.specs.Limits.{type_size}
use Rattle.hol_spec.specs.Types.{HolType, HolTypes, variable, operator, none, more, types_of, count, type_eq, types_eq}

-- Two tests in a row decide what the two facts make together.
pub both-Decides : {A B C : Type 0} (a b : Bool) → Decides a A → Decides b B → (A → B → C) → (C → A × B) → Decides (a && b) C
both-Decides true b p q f g = (λ h. f (p.0 refl) (q.0 h), λ h. q.1 (g h).1)
both-Decides false b p q f g = (λ h. cc, λ h. p.1 (g h).0)

mutual
  pub type_eq-Decides : (t u : HolType) → Decides (type_eq t u) (t ≡ u)
  type_eq-Decides (variable m) (variable n) = (λ h. ap variable ((name_eq-Decides m n).0 h), λ h. (name_eq-Decides m n).1 (cc))
  type_eq-Decides (operator m ts) (operator n us) =
      both-Decides (name_eq m n) (types_eq ts us) (name_eq-Decides m n) (types_eq-Decides ts us) (λ p q. cc) (λ h. (cc, cc))
  type_eq-Decides (variable m) (operator n us) = (λ h. cc, λ h. cc)
  type_eq-Decides (operator m ts) (variable n) = (λ h. cc, λ h. cc)

  pub types_eq-Decides : (ts us : HolTypes) → Decides (types_eq ts us) (ts ≡ us)
  types_eq-Decides none none = (λ h. refl, λ h. refl)
  types_eq-Decides (more t ts) (more u us) = both-Decides (type_eq t u) (types_eq ts us) (type_eq-Decides t u) (types_eq-Decides ts us) (λ p q. cc)
      (λ h. (cc, cc))
  types_eq-Decides none (more u us) = (λ h. cc, λ h. cc)
  types_eq-Decides (more t ts) none = (λ h. cc, λ h. cc)

-- The code of a name.
abbrev pub coded_name : Coded Name
coded_name = coded_list (coded_list coded_ℕ)

mutual
  pub type_code : HolType → Gv
  type_code (variable n) = gcons (gnum 0) (coded_name.code n)
  type_code (operator n ts) = gcons (gnum 1) (gcons (coded_name.code n) (types_code ts))

  pub types_code : HolTypes → Gv
  types_code none = gnil
  types_code (more t ts) = gcons (type_code t) (types_code ts)

mutual
  unfolding type_code types_code

  pub type_inj : (t u : HolType) → type_code t ≡ type_code u → t ≡ u
  type_inj (variable m) (variable n) e = let f : m ≡ n = coded_name.inj m n (cc) in cc
  type_inj (operator m ts) (operator n us) e = let f : m ≡ n = coded_name.inj m n (cc) in let g : ts ≡ us = types_inj ts us (cc) in cc
  type_inj (variable m) (operator n us) e = cc
  type_inj (operator m ts) (variable n) e = cc

  pub types_inj : (ts us : HolTypes) → types_code ts ≡ types_code us → ts ≡ us
  types_inj none none e = refl
  types_inj (more t ts) (more u us) e = let f : t ≡ u = type_inj t u (cc) in let g : ts ≡ us = types_inj ts us (cc) in cc
  types_inj none (more u us) e = cc
  types_inj (more t ts) none e = cc

-- The code of a type, for a model whose value has types in it.
abbrev pub coded_type : Coded HolType
coded_type = record { code = type_code; inj = type_inj }

-- a list of arguments has as many as the list that it is made of
pub count-types_of : (ts : List HolType) → count (types_of ts) ≡ length ts
count-types_of [] = refl
count-types_of (t ∷ ts) = ap (λ k. k + 1) (count-types_of ts) ∙ grind arith

pub count-variables : (ns : List Name) → count (types_of (map variable ns)) ≡ length ns
count-variables ns = count-types_of (map variable ns) ∙ length-map ns variable

-- every type has a size
pub type_size-positive : (t : HolType) → 0 < type_size t
type_size-positive (variable n) = omega arith
type_size-positive (operator n ts) = omega arith
