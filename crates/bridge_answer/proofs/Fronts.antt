-- Prefixes of a text that is written in parts.
use Rattle.std.proofs.Common.{◌≡◌, ℕ, zero, suc, add-one, ◌+◌, ◌<◌, ◌≤◌, List, [], ◌∷◌, ◌++◌, length, take, drop, get_or, Option, Result, Ok, Err, OnErr, refl, sym, ap, subst, ◌∙◌, arith, take-add, append_assoc}
use Rattle.std.specs.List.{flat_map}
use Rattle.std.proofs.lemmas.Grind.{common_steps}
use Rattle.bridge_base.specs.Outside.{Gains, GainsFront}
use Rattle.bridge_base.specs.Gaining.{front_of_second}

-- a prefix of a text's front is a prefix of the text
pub front_of_take : (a b : Option (List ℕ)) (n : ℕ) (xs : List ℕ) → GainsFront a (take n xs) b → GainsFront a xs b
front_of_take a b n xs front =
    let short : front.0 ≤ length (take n xs) = front.1 in
    let bound : (front.0 ≤ length xs) × (front.0 ≤ n) = (grind (arith, common_steps), grind (arith, common_steps)) in
    let same : take front.0 (take n xs) ≡ take front.0 xs = grind (arith, common_steps) in
    (front.0, bound.0, subst (λ ys. Gains a ys b) same front.2)

-- after a front of the text, a prefix of the next piece is a prefix of the text
pub front_on : (a b c : Option (List ℕ)) (xs : List ℕ) (d k : ℕ) → Gains a (take d xs) b → GainsFront b (take k (drop d xs)) c → GainsFront a xs c
front_on a b c xs d k gained front =
    front_of_take a c (d + k) xs (subst (λ ys. GainsFront a ys c) (sym (take-add d k xs)) (front_of_second a b c (take d xs) (take k (drop d xs)) gained front))

-- the parts before a place, the part there, and those behind it
pub flat_map_at : {V : Type 0} (f : V → List ℕ) (ps : List V) (i : ℕ) (d : V) → i < length ps → flat_map f ps ≡ (flat_map f (take i ps) ++ f (get_or ps i d))
    ++ flat_map f (drop (i + 1) ps)
flat_map_at f [] i d h = absurd (omega arith)
flat_map_at f (p ∷ ps) zero d h = refl
flat_map_at f (p ∷ ps) (suc i) d h = rw add-one (ap (λ xs. f p ++ xs) (flat_map_at f ps i d (omega arith)) ∙ rw add-one (simp append_assoc))

-- what holds anyway holds on an error
pub on_err : {T E P : Type 0} (result : Result T E) → P → OnErr result P
on_err (Ok value) fact = tt
on_err (Err error) fact = fact
