-- The parameters of a sequent are its type variables, its free variables and its hypotheses; no sequent has more than the limit.
use Rattle.std.specs.Prelude.{ℕ, ◌+◌, [], ◌∷◌, ◌≡◌, Ok, Err, codes}
use Rattle.std.proofs.Common.{refl}
use Rattle.hol_spec.specs.Types.{HolType}
use Rattle.hol_spec.specs.Primitives.{bool, function}
use Rattle.hol_spec.specs.Terms.{Term}
use Rattle.hol_spec.specs.Sequents.{parameter_count}
use Rattle.hol_spec.specs.Limits.{greatest_size, greatest_depth, greatest_parameter_count}
use Rattle.hol_spec.specs.Measures.{Measure}
use Rattle.common.specs.declared.faults.Kind.TheVariants.{TooManyParams, TooDeep, TooLarge}
use Rattle.article_spec.specs.Conditions.{in_limits}
use Rattle.article_spec.proofs.SmallArticles.{named, boolean}

abbrev a : HolType
a = HolType.variable (named (codes "a"))

-- f x, where x is of the type a: one type variable, two free variables, and as a hypothesis one more
abbrev f_x : Term
f_x = Term.app (Term.free (named (codes "f")) (function a bool)) (Term.free (named (codes "x")) a)

without_hypotheses : parameter_count (record { hypotheses = []; conclusion = f_x }) ≡ 3
without_hypotheses = refl

with_a_hypothesis : parameter_count (record { hypotheses = f_x ∷ boolean (codes "p") ∷ []; conclusion = f_x }) ≡ 6
with_a_hypothesis = refl

-- what a command makes is judged by size first, then by depth, then by the number of parameters, whatever comes first in it
abbrev measured : ℕ → ℕ → ℕ → Measure
measured size depth parameters = record { size = size; depth = depth; parameters = parameters }

at_the_limits : in_limits (measured greatest_size greatest_depth greatest_parameter_count ∷ []) ≡ Ok tt
at_the_limits = refl

a_parameter_more : in_limits (measured 1 1 (greatest_parameter_count + 1) ∷ []) ≡ Err TooManyParams
a_parameter_more = refl

deeper_before_parameters : in_limits (measured 1 1 (greatest_parameter_count + 1) ∷ measured 1 (greatest_depth + 1) 1 ∷ []) ≡ Err TooDeep
deeper_before_parameters = refl

larger_before_deeper : in_limits (measured 1 (greatest_depth + 1) (greatest_parameter_count + 1) ∷ measured (greatest_size + 1) 1 1 ∷ []) ≡ Err TooLarge
larger_before_deeper = refl
