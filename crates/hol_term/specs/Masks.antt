-- Bits that tell of a tree which free variables may be in it: each name has one of 64 bits, and several names may share it.
use Rattle.std.specs.Prelude.{◌≡◌, ℕ, ◌+◌, ◌*◌, ◌-◌, ◌%◌, ◌^◌, List, [], ◌∷◌, length, None, slice_get, unwrap_or}
use Rattle.std.specs.Map.{lookup}
use Rattle.std.specs.Int.{bit_at}
use Rattle.std.specs.Int.Bits.{bit_or}
use Rattle.hol_spec.specs.Names.{Name}
use Rattle.hol_spec.specs.Terms.{Term, free, bound, constant, app, lam, Variable as AVariable, variable_eq}
use Rattle.hol_spec.specs.TermSubstitution.{TermPairs}
use Rattle.hol_term.specs.declared.TermId.{TermId}
use Rattle.hol_term.specs.declared.Variable.{Variable}

-- the number below 64 that bytes come to, behind those that came to n
abbrev pub mixed : ℕ → List ℕ → ℕ
mixed n [] = n
mixed n (b ∷ bs) = mixed ((n * 31 + b) % 64) bs

-- the number of a name's bit, told by its last component
abbrev pub bit_of : Name → ℕ
bit_of name = mixed 0 (unwrap_or (slice_get name (length name - 1)) [])

-- the mask has the bit of the name
abbrev pub HasBit : ℕ → Name → Type 0
HasBit mask name = bit_at mask (bit_of name) ≡ 1

-- each free variable of the tree is so
abbrev pub EachFree : (AVariable → Type 0) → Term → Type 0
EachFree Is (free n a) = Is (n, a)
EachFree Is (bound k) = Unit {0}
EachFree Is (constant n a) = Unit {0}
EachFree Is (app f x) = EachFree Is f × EachFree Is x
EachFree Is (lam a b) = EachFree Is b

-- the mask has the bits of the tree's free variables
abbrev pub HasBits : ℕ → Term → Type 0
HasBits mask t = EachFree (λ v. HasBit mask v.0) t

-- the variable isn't free in the tree
abbrev pub IsWithout : AVariable → Term → Type 0
IsWithout v t = EachFree (λ w. w ≡ v → ⊥) t

-- no pair has a variable that is free in the tree
abbrev pub AreAbsent : TermPairs → Term → Type 0
AreAbsent pairs t = EachFree (λ v. lookup (variable_eq v) pairs ≡ None) t

-- the mask, with the bits of the pairs' variables
abbrev pub with_pairs : ℕ → List (Variable × TermId) → ℕ
with_pairs mask [] = mask
with_pairs mask (p ∷ ps) = with_pairs (bit_or mask (2 ^ bit_of p.0.name)) ps
