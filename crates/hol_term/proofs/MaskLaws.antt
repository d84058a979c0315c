-- What a mask tells of a tree.
use Rattle.std.proofs.Common.{◌≡◌, ℕ, suc, ◌≤◌, ◌^◌, refl, sym, ap, ◌∙◌, subst, arith, List, [], ◌∷◌, Bool, true, false, cond, Some, None}
use Rattle.std.specs.Prelude.{unwrap_or}
use Rattle.std.specs.Map.{lookup}
use Rattle.std.specs.Int.{bit_at}
use Rattle.std.specs.Int.Bits.{bit_or, bit_and}
use Rattle.std.proofs.lemmas.Nat.Bits.{bit_at_or, bit_at_and, bit_at-lt, bit_at-zero, bit_at-pow_same}
use Rattle.std.proofs.Math.Path.{ap₂}
use Rattle.hol_spec.specs.Names.{Name}
use Rattle.hol_spec.specs.Types.{HolType}
use Rattle.hol_spec.specs.Terms.{Term, free, bound, constant, app, lam, Variable as AVariable, variable_eq}
use Rattle.hol_spec.specs.TermBinding.{close, close_at, loose}
use Rattle.hol_spec.specs.TermSubstitution.{TermPairs, term_image, sub}
use Rattle.hol_laws.specs.TermLaws.{variable_eq-Decides}
use Rattle.hol_laws.specs.TermInstances.{substitute-nothing}
use Rattle.hol_type.specs.declared.table.TypeId.{TypeId}
use Rattle.hol_term.specs.declared.TermId.{TermId}
use Rattle.hol_term.specs.declared.Variable.{Variable}
use Rattle.hol_term.specs.Tables.{Trees, term_at, type_at}
use Rattle.hol_term.specs.Substitutions.{term_pairs_at, image_of, IsItsImage}
use Rattle.hol_term.specs.Masks.{bit_of, HasBit, EachFree, HasBits, IsWithout, AreAbsent, with_pairs}

-- variables that are so are so in a weaker way
pub EachFree-weaker : (P Q : AVariable → Type 0) → ((v : AVariable) → P v → Q v) → (t : Term) → EachFree P t → EachFree Q t
EachFree-weaker P Q f (free n a) h = f (n, a) h
EachFree-weaker P Q f (bound k) h = tt
EachFree-weaker P Q f (constant n a) h = tt
EachFree-weaker P Q f (app g x) h = (EachFree-weaker P Q f g h.0, EachFree-weaker P Q f x h.1)
EachFree-weaker P Q f (lam a b) h = EachFree-weaker P Q f b h

-- so it is with what follows for each of two ways
EachFree-both : (P Q R : AVariable → Type 0) → ((v : AVariable) → P v → Q v → R v) → (t : Term) → EachFree P t → EachFree Q t → EachFree R t
EachFree-both P Q R f (free n a) h k = f (n, a) h k
EachFree-both P Q R f (bound m) h k = tt
EachFree-both P Q R f (constant n a) h k = tt
EachFree-both P Q R f (app g x) h k = (EachFree-both P Q R f g h.0 k.0, EachFree-both P Q R f x h.1 k.1)
EachFree-both P Q R f (lam a b) h k = EachFree-both P Q R f b h k

-- a bit of either mask is one of both
pub HasBit-left : (m k : ℕ) (n : Name) → HasBit m n → HasBit (bit_or m k) n
HasBit-left m k n h = let o = bit_at_or m k (bit_of n) in let l = bit_at-lt k (bit_of n) in omega (arith, o, l, h)

pub HasBit-right : (m k : ℕ) (n : Name) → HasBit k n → HasBit (bit_or m k) n
HasBit-right m k n h = let o = bit_at_or m k (bit_of n) in let l = bit_at-lt m (bit_of n) in omega (arith, o, l, h)

-- the mask of a name alone has its bit
pub HasBit-own : (n : Name) → HasBit (2 ^ bit_of n) n
HasBit-own n = bit_at-pow_same (bit_of n)

-- the mask of two parts together has the bits of either
pub HasBits-left : (r m k : ℕ) (t : Term) → r ≡ bit_or m k → HasBits m t → HasBits r t
HasBits-left r m k t e h = subst (λ x. HasBits x t) (sym e)
    (EachFree-weaker (λ v. HasBit m v.0) (λ v. HasBit (bit_or m k) v.0) (λ v b. HasBit-left m k v.0 b) t h)

pub HasBits-right : (r m k : ℕ) (t : Term) → r ≡ bit_or m k → HasBits k t → HasBits r t
HasBits-right r m k t e h = subst (λ x. HasBits x t) (sym e)
    (EachFree-weaker (λ v. HasBit k v.0) (λ v. HasBit (bit_or m k) v.0) (λ v b. HasBit-right m k v.0 b) t h)

-- names of masks that share no bit differ
pub names_apart : (m k : ℕ) (n o : Name) → bit_and m k ≡ 0 → HasBit m n → HasBit k o → n ≡ o → ⊥
names_apart m k n o none hm hk e =
    let both = bit_at_and m k (bit_of o) in
    let no_bit : bit_at (bit_and m k) (bit_of o) ≡ 0 = ap (λ x. bit_at x (bit_of o)) none ∙ bit_at-zero (bit_of o) in
    let here : bit_at m (bit_of o) ≡ 1 = subst (HasBit m) e hm in
    omega (arith, both, no_bit, here, hk)

-- a variable isn't free in a tree whose mask lacks the bit of its name
pub IsWithout-mask : (m k : ℕ) (v : AVariable) (t : Term) → bit_and m k ≡ 0 → HasBit k v.0 → HasBits m t → IsWithout v t
IsWithout-mask m k v t none own h = EachFree-weaker (λ w. HasBit m w.0) (λ w. w ≡ v → ⊥)
    (λ w has e. names_apart m k w.0 v.0 none has own (ap (λ (x : AVariable). x.0) e)) t h

-- to close over a variable that isn't free in the tree leaves it alone, where no number passes the binders
pub close_at-without : (d : ℕ) (v : AVariable) (t : Term) → IsWithout v t → loose t ≤ d → close_at d v t ≡ t
close_at-without d v (free n a) h l = go (variable_eq (n, a) v) refl
  where
    go : (b : Bool) → variable_eq (n, a) v ≡ b → cond (variable_eq (n, a) v) (bound d) (free n a) ≡ free n a
    go true e = absurd (h ((variable_eq-Decides (n, a) v).0 e))
    go false e = ap (λ b. cond b (bound d) (free n a)) e
close_at-without d v (bound n) h l = grind arith
close_at-without d v (constant n a) h l = refl
close_at-without d v (app f x) h l = ap₂ app (close_at-without d v f h.0 (omega (arith, l))) (close_at-without d v x h.1 (omega (arith, l)))
close_at-without d v (lam a b) h l = ap (lam a) (close_at-without (suc d) v b h (omega (arith, l)))

-- so it is with a tree without loose numbers whose mask lacks the bit of the variable's name
pub close-without : (m : ℕ) (v : AVariable) (t : Term) → HasBits m t → bit_and m (2 ^ bit_of v.0) ≡ 0 → loose t ≤ 0 → close v t ≡ t
close-without m v t h none closed = close_at-without 0 v t (IsWithout-mask m (2 ^ bit_of v.0) v t none (HasBit-own v.0) h) closed

-- the bits of a mask stay with those of pairs
HasBit-with_pairs : (m : ℕ) (ps : List (Variable × TermId)) (n : Name) → HasBit m n → HasBit (with_pairs m ps) n
HasBit-with_pairs m [] n h = h
HasBit-with_pairs m (p ∷ ps) n h = HasBit-with_pairs (bit_or m (2 ^ bit_of p.0.name)) ps n (HasBit-left m (2 ^ bit_of p.0.name) n h)

-- no pair has a variable of a name of which the mask has the bit, where it has none of theirs
lookup-without : (trees : Trees) (m k : ℕ) (ps : List (Variable × TermId)) (n : Name) (a : HolType) → bit_and m (with_pairs k ps) ≡ 0 → HasBit m n
    → lookup (variable_eq (n, a)) (term_pairs_at trees ps) ≡ None
lookup-without trees m k [] n a none h = refl
lookup-without trees m k (p ∷ ps) n a none h = first (lookup-without trees m (bit_or k (2 ^ bit_of p.0.name)) ps n a none h)
  where
    own : HasBit (with_pairs k (p ∷ ps)) p.0.name
    own = HasBit-with_pairs (bit_or k (2 ^ bit_of p.0.name)) ps p.0.name (HasBit-right k (2 ^ bit_of p.0.name) p.0.name (HasBit-own p.0.name))

    go : (b : Bool) → variable_eq (n, a) (p.0.name, type_at trees p.0.ty.0) ≡ b → lookup (variable_eq (n, a)) (term_pairs_at trees ps) ≡ None
        → lookup (variable_eq (n, a)) (term_pairs_at trees (p ∷ ps)) ≡ None
    go true e rest = absurd
        (names_apart m (with_pairs k (p ∷ ps)) n p.0.name none h own
        (ap (λ (x : AVariable). x.0) ((variable_eq-Decides (n, a) (p.0.name, type_at trees p.0.ty.0)).0 e)))
    go false e rest = ap (λ b. cond b (Some (term_at trees p.1.0)) (lookup (variable_eq (n, a)) (term_pairs_at trees ps))) e ∙ rest

    first : lookup (variable_eq (n, a)) (term_pairs_at trees ps) ≡ None → lookup (variable_eq (n, a)) (term_pairs_at trees (p ∷ ps)) ≡ None
    first rest = go (variable_eq (n, a) (p.0.name, type_at trees p.0.ty.0)) refl rest

-- no pair has a variable that is free in a tree whose mask has no bit of theirs
AreAbsent-mask : (trees : Trees) (m : ℕ) (ps : List (Variable × TermId)) → bit_and m (with_pairs 0 ps) ≡ 0 → (t : Term) → HasBits m t
    → AreAbsent (term_pairs_at trees ps) t
AreAbsent-mask trees m ps none t h =
    EachFree-weaker (λ v. HasBit m v.0) (λ v. lookup (variable_eq v) (term_pairs_at trees ps) ≡ None) (λ v has. lookup-without trees m 0 ps v.0 v.1 none has) t
    h

-- no pairs have none
pub AreAbsent-none : (t : Term) → AreAbsent [] t
AreAbsent-none (free n a) = refl
AreAbsent-none (bound k) = tt
AreAbsent-none (constant n a) = tt
AreAbsent-none (app f x) = (AreAbsent-none f, AreAbsent-none x)
AreAbsent-none (lam a b) = AreAbsent-none b

-- nor does one pair more, whose variable isn't free in the tree
pub AreAbsent-more : (v : AVariable) (u : Term) (pairs : TermPairs) (t : Term) → IsWithout v t → AreAbsent pairs t → AreAbsent ((v, u) ∷ pairs) t
AreAbsent-more v u pairs t h k =
    EachFree-both (λ w. w ≡ v → ⊥) (λ w. lookup (variable_eq w) pairs ≡ None) (λ w. lookup (variable_eq w) ((v, u) ∷ pairs) ≡ None)
    (λ w other rest. go w other rest (variable_eq w v) refl) t h k
  where
    go : (w : AVariable) → (w ≡ v → ⊥) → lookup (variable_eq w) pairs ≡ None → (b : Bool) → variable_eq w v ≡ b → lookup (variable_eq w) ((v, u) ∷ pairs) ≡ None
    go w other rest true e = absurd (other ((variable_eq-Decides w v).0 e))
    go w other rest false e = ap (λ b. cond b (Some u) (lookup (variable_eq w) pairs)) e ∙ rest

-- pairs of terms alone leave a tree alone where no variable of theirs is free in it
sub-absent : (pairs : TermPairs) (t : Term) → AreAbsent pairs t → sub [] pairs t ≡ t
sub-absent pairs (free n a) h = ap (λ b. term_image pairs (n, b)) (substitute-nothing a) ∙ ap (λ o. unwrap_or o (free n a)) h
sub-absent pairs (bound k) h = refl
sub-absent pairs (constant n a) h = ap (constant n) (substitute-nothing a)
sub-absent pairs (app f x) h = ap₂ app (sub-absent pairs f h.0) (sub-absent pairs x h.1)
sub-absent pairs (lam a b) h = ap₂ lam (substitute-nothing a) (sub-absent pairs b h)

-- so it is with a tree of a table
pub its_image-absent : (trees : Trees) (types : List (Name × TypeId)) (terms : List (Variable × TermId)) (id : TermId) → types ≡ []
    → AreAbsent (term_pairs_at trees terms) (term_at trees id.0) → IsItsImage trees types terms id
its_image-absent trees types terms id no_types h =
    subst (λ l. image_of trees l terms (term_at trees id.0) ≡ term_at trees id.0) (sym no_types) (sub-absent (term_pairs_at trees terms) (term_at trees id.0) h)

pub its_image : (trees : Trees) (types : List (Name × TypeId)) (terms : List (Variable × TermId)) (m : ℕ) (id : TermId) → types ≡ []
    → HasBits m (term_at trees id.0) → bit_and m (with_pairs 0 terms) ≡ 0 → IsItsImage trees types terms id
its_image trees types terms m id no_types h none = its_image-absent trees types terms id no_types (AreAbsent-mask trees m terms none (term_at trees id.0) h)
