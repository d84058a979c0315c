-- Keys: what types, terms and sequents mention are operators and constants.
use Rattle.std.proofs.Common.{◌≡◌, Bool, true, false, ◌&&◌, inl, inr, refl, sym, ap, subst}
use Rattle.std.specs.Cmp.{unsigned_Decides}
use Rattle.std.specs.Prelude.{◌==◌}
use Rattle.std.specs.List.{flat_map}
use Rattle.hol_spec.specs.NameEquality.{name_eq}
use Rattle.hol_laws.specs.NameEqualityLaws.{name_eq-Decides}
use Rattle.hol_spec.specs.Types as type
use Rattle.hol_spec.specs.Types.{HolType, HolTypes}
use Rattle.hol_spec.specs.Terms as term
use Rattle.hol_spec.specs.Terms.{Term}
use Rattle.hol_spec.specs.Sequents.{Sequent}
use Rattle.hol_spec.specs.Lists.{IsIn}
use Rattle.hol_laws.specs.Members.{IsIn-either, flat_map-part}
use Rattle.translate_spec.specs.Reach.{Key, operator_key, constant_key, number_key, type_keys, types_keys, term_keys, sequent_keys, key_eq}

-- keys that pass the test are one
pub key_eq-is : (j k : Key) → key_eq j k ≡ true → j ≡ k
key_eq-is (operator_key m i) (operator_key n l) e = go (name_eq m n) (i == l) (name_eq-Decides m n).0 (unsigned_Decides i l).0 e
  where
    go : (b c : Bool) → (b ≡ true → m ≡ n) → (c ≡ true → i ≡ l) → (b && c) ≡ true → operator_key m i ≡ operator_key n l
    go true true f g e = (λ t. operator_key (f refl t) (g refl t))
    go true false f g e = absurd (cc)
    go false c f g e = absurd (cc)
key_eq-is (constant_key m) (constant_key n) e = ap constant_key ((name_eq-Decides m n).0 e)
key_eq-is (number_key i) (number_key l) e = ap number_key ((unsigned_Decides i l).0 e)
key_eq-is (operator_key m i) (constant_key n) e = absurd (cc)
key_eq-is (operator_key m i) (number_key n) e = absurd (cc)
key_eq-is (constant_key m) (operator_key n i) e = absurd (cc)
key_eq-is (constant_key m) (number_key n) e = absurd (cc)
key_eq-is (number_key m) (operator_key n i) e = absurd (cc)
key_eq-is (number_key m) (constant_key n) e = absurd (cc)

-- the key of an operator or of a constant
abbrev pub IsSymbolKey : Key → Type 0
IsSymbolKey (operator_key n k) = Unit {0}
IsSymbolKey (constant_key n) = Unit {0}
IsSymbolKey (number_key i) = ⊥

-- what types, terms and sequents mention are such keys
mutual
  pub type_keys-symbols : (t : HolType) (k : Key) → IsIn (type_keys t) k → IsSymbolKey k
  type_keys-symbols (type.HolType.variable n) k i = absurd i
  type_keys-symbols (type.HolType.operator n ts) k (inl e) = subst IsSymbolKey (sym e) (tt {0})
  type_keys-symbols (type.HolType.operator n ts) k (inr i) = types_keys-symbols ts k i

  types_keys-symbols : (ts : HolTypes) (k : Key) → IsIn (types_keys ts) k → IsSymbolKey k
  types_keys-symbols type.HolTypes.none k i = absurd i
  types_keys-symbols (type.HolTypes.more t ts) k i = elim (IsIn-either (type_keys t) (types_keys ts) k i) [
    | inl j ↦ type_keys-symbols t k j
    | inr j ↦ types_keys-symbols ts k j
  ]

pub term_keys-symbols : (t : Term) (k : Key) → IsIn (term_keys t) k → IsSymbolKey k
term_keys-symbols (term.Term.free n t) k i = type_keys-symbols t k i
term_keys-symbols (term.Term.bound j) k i = absurd i
term_keys-symbols (term.Term.constant n t) k (inl e) = subst IsSymbolKey (sym e) (tt {0})
term_keys-symbols (term.Term.constant n t) k (inr i) = type_keys-symbols t k i
term_keys-symbols (term.Term.app f x) k i = elim (IsIn-either (term_keys f) (term_keys x) k i) [
  | inl j ↦ term_keys-symbols f k j
  | inr j ↦ term_keys-symbols x k j
]
term_keys-symbols (term.Term.lam t b) k i = elim (IsIn-either (type_keys t) (term_keys b) k i) [
  | inl j ↦ type_keys-symbols t k j
  | inr j ↦ term_keys-symbols b k j
]

pub sequent_keys-symbols : (s : Sequent) (k : Key) → IsIn (sequent_keys s) k → IsSymbolKey k
sequent_keys-symbols s k i = elim (IsIn-either (flat_map term_keys s.hypotheses) (term_keys s.conclusion) k i) [
  | inl j ↦ let w = flat_map-part term_keys s.hypotheses k j in term_keys-symbols w.0 k w.2
  | inr j ↦ term_keys-symbols s.conclusion k j
]
