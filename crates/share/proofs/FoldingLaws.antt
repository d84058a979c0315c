-- A fold: what it begins with, what it lists, and what it makes of that.
use Rattle.std.proofs.Common.{◌≡◌, ℕ, zero, suc, ◌+◌, ◌≤◌, refl, sym, ap, subst, ◌∙◌, List, [], ◌∷◌, ◌++◌, length, map, take, drop, Option, None, arith}
use Rattle.std.specs.Prelude.{min}
use Rattle.std.specs.List.{flat_map}
use Rattle.std.proofs.Math.Path.{ap₂}
use Rattle.std.proofs.lemmas.List.{length-map}
use Rattle.lp_spec.specs.Trees.{Tree}
use Rattle.lp_spec.specs.Modules.{signature, Declaration}
use Rattle.lp_spec.specs.ModuleOrder.{AreDeclared, IsModule}
use Rattle.lp_spec.specs.ShortNames.{NoneShort}
use Rattle.lp_check_laws.specs.ShapedPasses.{AreShaped}
use Rattle.lp_term.specs.declared.LpId.{LpId}
use Rattle.holide_sig.specs.declared.decls.Decl.{Decl}
use Rattle.holide_sig.specs.declared.module.Module.{Module}
use Rattle.holide_sig.specs.Modules.{declaration_in, declarations_of, IsHeld}
use Rattle.share_spec.specs.Folded.{declarations, entries, entries_of, folded, kept, parts_in, place_in}
use Rattle.share_laws.specs.FoldedModules.{folded-IsModule}
use Rattle.share.specs.declared.listing.Listed.{Listed}
use Rattle.share.specs.Asking.{IsAsking}
use Rattle.share.specs.Counts.{Agrees, AreBelow, AreCounted}
use Rattle.share.specs.Listings.{counted, entries_in, listed_from}
use Rattle.share.specs.Moving.{place_by, AreMade}
use Rattle.share.specs.Placings.{kept_places}
use Rattle.share.proofs.CountLaws.{below-more}
use Rattle.share.proofs.PlacingLaws.{made-same, place_by-place_in}

-- nothing is asked at first
pub asking-none : (source : Module) (noted : ℕ → Option (Option LpId)) (waits : List LpId) → IsHeld source → ((n : ℕ) → noted n ≡ None) → waits ≡ []
    → IsAsking source noted waits
asking-none source noted waits h none e = subst (IsAsking source noted) (sym e) record {
  held = h;
  answers = record { each = λ n r f. absurd (let g = none n in cc) };
  waiting = tt;
}

pub AreBelow-more : (a b : ℕ) (ds : List Decl) → a ≤ b → AreBelow a ds → AreBelow b ds
AreBelow-more a b ds l h i d e = below-more a b d l (h i d e)

-- What is listed: the declarations that nothing is abbreviated in, and the others
map-drop : {X Y : Type 0} (f : X → Y) (n : ℕ) (xs : List X) → map f (drop n xs) ≡ drop n (map f xs)
map-drop f zero [] = refl
map-drop f (suc n) [] = refl
map-drop f zero (x ∷ xs) = refl
map-drop f (suc n) (x ∷ xs) = map-drop f n xs

take-none : {X : Type 0} (n : ℕ) → take {A = X} n [] ≡ []
take-none zero = refl
take-none (suc n) = refl

drop-none : {X : Type 0} (n : ℕ) → drop {A = X} n [] ≡ []
drop-none zero = refl
drop-none (suc n) = refl

take-min : {X : Type 0} (n : ℕ) (xs : List X) → take (min (length xs) n) xs ≡ take n xs
take-min n [] = take-none (min 0 n) ∙ sym (take-none n)
take-min zero (x ∷ xs) = let e : min (length (x ∷ xs)) 0 ≡ 0 = omega arith in ap (λ k. take k (x ∷ xs)) e
take-min (suc n) (x ∷ xs) = let e : min (length (x ∷ xs)) (suc n) ≡ suc (min (length xs) n) =
    omega arith in ap (λ k. take k (x ∷ xs)) e ∙ ap (λ l. x ∷ l) (take-min n xs)

drop-min : {X : Type 0} (n : ℕ) (xs : List X) → drop (min (length xs) n) xs ≡ drop n xs
drop-min n [] = drop-none (min 0 n) ∙ sym (drop-none n)
drop-min zero (x ∷ xs) = let e : min (length (x ∷ xs)) 0 ≡ 0 = omega arith in ap (λ k. drop k (x ∷ xs)) e
drop-min (suc n) (x ∷ xs) = let e : min (length (x ∷ xs)) (suc n) ≡ suc (min (length xs) n) = omega arith in ap (λ k. drop k (x ∷ xs)) e ∙ drop-min n xs

pub all-listed : (source : Module) (new : List Tree) (first : ℕ) (counts : List ℕ) (start listing : List Listed) → first ≡ min (length source.decls) 2
    → AreCounted source.table (drop first source.decls) counts
    → (first ≤ length (declarations_of source) → entries_in (declarations_of source) source.table start ≡ map kept (take first (declarations_of source)))
    → ((all : List Tree) → Agrees source.table counts (counted all) → entries_in (declarations_of source) new listing
    ≡ entries_in (declarations_of source) source.table start ++ listed_from (declarations_of source) all first)
    → entries_in (declarations_of source) new listing ≡ entries_of (declarations_of source)
all-listed source new first counts start listing is c s more =
    let m = declarations_of source in
    let count : length source.decls ≡ length m = sym (length-map source.decls (declaration_in source.table)) in
    let n : first ≡ min (length m) 2 = is ∙ ap (λ k. min k 2) count in
    let ds : map (declaration_in source.table) (drop first source.decls) ≡ drop 2 m =
    map-drop (declaration_in source.table) first source.decls ∙ ap (λ k. drop k m) n ∙ drop-min 2 m in
    let all = flat_map parts_in (drop 2 m) in
    let agrees : Agrees source.table counts (counted all) = subst (λ w. Agrees source.table counts (counted (flat_map parts_in w))) ds c in
    more all agrees
    ∙ ap₂ (λ x k. x ++ listed_from m all k) (s (omega (arith, n)) ∙ ap (map kept) (ap (λ k. take k m) n ∙ take-min 2 m)) n
    ∙ ap₂ (λ b r. map kept (take 2 m) ++ entries b all [] r) (take-min 2 m) (drop-min 2 m)

-- What is made of it, with the places that it tells
pub all-made : (source : Module) (target : List Tree) (es : List Listed) (places : List ℕ) (more : ℕ) (made : List LpId)
    → entries_in (declarations_of source) source.table es ≡ entries_of (declarations_of source) → places ≡ kept_places 0 es → more + length source.decls
    ≡ length es
    → AreMade (place_by places more) source.table target made → AreMade (place_in (entries_of (declarations_of source))) source.table target made
all-made source target es places more made e p n a =
    let m = declarations_of source in
    made-same (place_by places more) (place_in (entries_of m)) source.table target made
    (place_by-place_in m source.table es places more e p (omega (arith, n, length-map source.decls (declaration_in source.table)))) a

pub all-follow : (source target : Module) (es : List Listed) → target.decls ≡ [] → entries_in (declarations_of source) source.table es
    ≡ entries_of (declarations_of source) → IsModule (declarations_of source) → NoneShort (declarations_of source) → AreShaped [] (declarations_of source)
    → AreDeclared (signature ++ declarations_of target)
    (declarations (place_in (entries_of (declarations_of source))) 0 (entries_in (declarations_of source) source.table es))
all-follow source target es none e a u s =
    let m = declarations_of source in
    subst (λ ds. AreDeclared (signature ++ map (declaration_in target.table) ds) (declarations (place_in (entries_of m)) 0 (entries_in m source.table es)))
    (sym none)
    (subst (λ l. AreDeclared signature (declarations (place_in (entries_of m)) 0 l)) (sym e) (folded-IsModule m a u s))

pub all-declared : (source target : Module) (es : List Listed) (new : List Declaration) → target.decls ≡ []
    → entries_in (declarations_of source) source.table es ≡ entries_of (declarations_of source)
    → new ≡ declarations_of target ++ declarations (place_in (entries_of (declarations_of source))) 0 (entries_in (declarations_of source) source.table es)
    → new ≡ folded (declarations_of source)
all-declared source target es new none e f =
    let m = declarations_of source in
    f ∙ ap₂ (λ ds l. map (declaration_in target.table) ds ++ declarations (place_in (entries_of m)) 0 l) none e
