-- What answered before the last answer of a row, and what is within the limits where they are judged in it.
use Rattle.std.proofs.Common.{◌≡◌, ℕ, ◌≤◌, List, [], ◌∷◌, Bool, true, false, Option, None, Some, Result, Ok, Err, refl, arith}
use Rattle.std.specs.Prelude.{nat_le}
use Rattle.std.specs.List.{AllByRecursion, list_all}
use Rattle.std.specs.Option.{ok_or}
use Rattle.std.proofs.lemmas.Bool.{and_parts}
use Rattle.hol_spec.specs.Types.{HolType}
use Rattle.hol_spec.specs.Terms.{Term}
use Rattle.hol_spec.specs.Sequents.{Sequent}
use Rattle.hol_spec.specs.Limits.{TypeWithin, TermWithin, SequentWithin, greatest_size, greatest_depth, greatest_parameter_count}
use Rattle.hol_spec.specs.Measures.{Measure, type_measure, term_measure, sequent_measure}
use Rattle.common.specs.declared.faults.Kind.{Kind}
use Rattle.common.specs.declared.faults.Kind.TheVariants.{TooLarge, TooDeep, TooManyParams}
use Rattle.article_spec.specs.Results.{◌>>=◌, ◌>>◌}
use Rattle.article_spec.specs.Conditions.{demand, in_limits, type_in_limits, term_in_limits, sequent_in_limits}

-- what answered before the last answer
pub bound : {A B E : Type 0} (r : Result A E) (f : A → Result B E) (t : B) → (r >>= f) ≡ Ok t → (a : A) × (r ≡ Ok a) × (f a ≡ Ok t)
bound (Ok a) f t e = (a, refl, e)
bound (Err x) f t e = absurd (cc)

pub passed : {A B E : Type 0} (r : Result A E) (q : Result B E) (t : B) → (r >> q) ≡ Ok t → (a : A) × (r ≡ Ok a) × (q ≡ Ok t)
passed (Ok a) q t e = (a, refl, e)
passed (Err x) q t e = absurd (cc)

pub demanded : (b : Bool) (k : Kind) (x : Unit {0}) → demand b k ≡ Ok x → b ≡ true
demanded true k x e = refl
demanded false k x e = absurd (cc)

pub found : {A E : Type 0} (o : Option A) (k : E) (x : A) → ok_or o k ≡ Ok x → o ≡ Some x
found None k x e = absurd (cc)
found (Some y) k x e = cc

pub list_all-All : {A : Type 0} (p : A → Bool) (P : A → Type 0) → ((x : A) → p x ≡ true → P x) → (xs : List A) → list_all p xs ≡ true → AllByRecursion P xs
list_all-All p P f [] e = tt
list_all-All p P f (x ∷ xs) e = let h = and_parts (p x) (list_all p xs) e in (f x h.0, list_all-All p P f xs h.1)

pub at_most : (m n : ℕ) → nat_le m n ≡ true → m ≤ n
at_most m n e = grind (arith, e)

-- the limits
pub record IsWithin (m : Measure) : Type 0 where
  pub size : m.size ≤ greatest_size
  pub depth : m.depth ≤ greatest_depth
  pub parameters : m.parameters ≤ greatest_parameter_count

pub in_limits-All : (ms : List Measure) (x : Unit {0}) → in_limits ms ≡ Ok x → AllByRecursion IsWithin ms
in_limits-All ms x e =
    let a = passed (demand (list_all (λ m. nat_le m.size greatest_size) ms) TooLarge) _ x e in
    let b = passed (demand (list_all (λ m. nat_le m.depth greatest_depth) ms) TooDeep) _ x a.2 in
    together ms (demanded _ TooLarge a.0 a.1) (demanded _ TooDeep b.0 b.1) (demanded _ TooManyParams x b.2)
  where
    together : (ms : List Measure) → list_all (λ m. nat_le m.size greatest_size) ms ≡ true → list_all (λ m. nat_le m.depth greatest_depth) ms ≡ true
        → list_all (λ m. nat_le m.parameters greatest_parameter_count) ms ≡ true → AllByRecursion IsWithin ms
    together [] e f g = tt
    together (m ∷ ms) e f g =
        let a = and_parts _ _ e in
        let b = and_parts _ _ f in
        let c = and_parts _ _ g in (
          record {
            size = at_most m.size greatest_size a.0;
            depth = at_most m.depth greatest_depth b.0;
            parameters =
                at_most m.parameters greatest_parameter_count c.0;
          },
          together ms a.1 b.1 c.1,
        )

pub sequent-within : (s : Sequent) → IsWithin (sequent_measure s) → SequentWithin s
sequent-within s h = record { size = h.size; depth = h.depth; parameters = h.parameters }

pub sequent_limits : (s : Sequent) (x : Unit {0}) → sequent_in_limits s ≡ Ok x → SequentWithin s
sequent_limits s x e = sequent-within s (in_limits-All (sequent_measure s ∷ []) x e).0

pub term_limits : (t : Term) (x : Unit {0}) → term_in_limits t ≡ Ok x → TermWithin t
term_limits t x e = let h = (in_limits-All (term_measure t ∷ []) x e).0 in record { size = h.size; depth = h.depth }

pub type_limits : (t : HolType) (x : Unit {0}) → type_in_limits t ≡ Ok x → TypeWithin t
type_limits t x e = let h = (in_limits-All (type_measure t ∷ []) x e).0 in record { size = h.size; depth = h.depth }
