-- Laws of the machine's state: objects and states can be told apart as values.
use Rattle.hol_spec.specs.declared.Version.TheVariants.{Five, Six}
use Rattle.std.specs.Coded.{code_by, coded×, coded_list, coded_ℕ, coded_ℤ}
use base.Stored.{Coded, Gv, gnil, gnum, gcons}
use Rattle.std.proofs.Common.{◌≡◌, ℕ, zero, suc, List, refl}
use Rattle.std.specs.Ordering.{int_cmp}
use Rattle.std.specs.FinMap as entries
use Rattle.hol_laws.specs.TypeLaws.{coded_name, coded_type}
use Rattle.hol_laws.specs.TermLaws.{coded_term, coded_variable}
use Rattle.hol_spec.specs.Proofs.{Made}
use Rattle.hol_proof_laws.specs.ProofCodes.{coded_made}
use Rattle.article_spec.specs.State.{Object, Objects, number, name, list, type_operator, type, constant, variable, term, theorem, none, more, Stage, start, version, body, State}

mutual
  pub object_code : Object → Gv
  object_code (number z) = gcons (gnum 0) (coded_ℤ.code z)
  object_code (name n) = gcons (gnum 1) (coded_name.code n)
  object_code (list xs) = gcons (gnum 2) (objects_code xs)
  object_code (type_operator n) = gcons (gnum 3) (coded_name.code n)
  object_code (type t) = gcons (gnum 4) (coded_type.code t)
  object_code (constant n) = gcons (gnum 5) (coded_name.code n)
  object_code (variable v) = gcons (gnum 6) (coded_variable.code v)
  object_code (term t) = gcons (gnum 7) (coded_term.code t)
  object_code (theorem i) = gcons (gnum 8) (gnum i)

  pub objects_code : Objects → Gv
  objects_code none = gnil
  objects_code (more x xs) = gcons (object_code x) (objects_code xs)

mutual
  unfolding object_code objects_code

  pub object_inj : (x y : Object) → object_code x ≡ object_code y → x ≡ y
  object_inj (number a) (number b) e = let f : a ≡ b = coded_ℤ.inj a b (cc) in cc
  object_inj (name a) (name b) e = let f : a ≡ b = coded_name.inj a b (cc) in cc
  object_inj (list a) (list b) e = let f : a ≡ b = objects_inj a b (cc) in cc
  object_inj (type_operator a) (type_operator b) e = let f : a ≡ b = coded_name.inj a b (cc) in cc
  object_inj (type a) (type b) e = let f : a ≡ b = coded_type.inj a b (cc) in cc
  object_inj (constant a) (constant b) e = let f : a ≡ b = coded_name.inj a b (cc) in cc
  object_inj (variable a) (variable b) e = let f : a ≡ b = coded_variable.inj a b (cc) in cc
  object_inj (term a) (term b) e = let f : a ≡ b = coded_term.inj a b (cc) in cc
  object_inj (theorem a) (theorem b) e = cc
  object_inj x y e = cc

  pub objects_inj : (xs ys : Objects) → objects_code xs ≡ objects_code ys → xs ≡ ys
  objects_inj none none e = refl
  objects_inj (more x xs) (more y ys) e = let f : x ≡ y = object_inj x y (cc) in let g : xs ≡ ys = objects_inj xs ys (cc) in cc
  objects_inj none (more y ys) e = cc
  objects_inj (more x xs) none e = cc

abbrev pub coded_object : Coded Object
coded_object = record { code = object_code; inj = object_inj }

abbrev place_number : Stage → ℕ
place_number version = 0
place_number (body Five) = 1
place_number (body Six) = 2
place_number (start Five) = 3
place_number (start Six) = 4

abbrev place_of : ℕ → Stage
place_of zero = version
place_of (suc zero) = body Five
place_of (suc (suc zero)) = body Six
place_of (suc (suc (suc zero))) = start Five
place_of (suc (suc (suc (suc n)))) = start Six

pub place_of-number : (p : Stage) → place_of (place_number p) ≡ p
place_of-number version = refl
place_of-number (body Five) = refl
place_of-number (body Six) = refl
place_of-number (start Five) = refl
place_of-number (start Six) = refl

abbrev pub coded_place : Coded Stage
coded_place = code_by ℕ coded_ℕ place_number place_of place_of-number

-- The code of a state, for a model whose value it is.
abbrev pub coded_state : Coded State
coded_state = code_by ((List Object × (entries.FinMap int_cmp Object × Stage)) × ((List Made × List ℕ) × (List ℕ × List ℕ)))
    (coded× (coded× (coded_list coded_object) (coded× (entries.code coded_ℤ coded_object) coded_place))
    (coded× (coded× (coded_list coded_made) (coded_list coded_ℕ)) (coded× (coded_list coded_ℕ) (coded_list coded_ℕ))))
    (λ s. ((s.stack, (s.dictionary, s.place)), ((s.made, s.assumptions), (s.exports, s.pool))))
    (λ p. record { stack = p.0.0; dictionary = p.0.1.0; place = p.0.1.1; made = p.1.0.0; assumptions = p.1.0.1; exports = p.1.1.0; pool = p.1.1.1 })
    (λ _. refl)
