-- Substitution in a term: types first, then terms for free variables, all at once. The terms put have no loose numbers, so no binder captures.
-- Source: HOL Light's kernel, `INST_TYPE` and `INST`; the article format's `subst`.
use Rattle.std.specs.Prelude.{List, [], ◌∷◌}
use Rattle.std.specs.Option.{unwrap_or}
use Rattle.std.specs.Map.{lookup}
use Rattle.hol_spec.specs.Terms.{Term, free, bound, constant, app, lam, Variable, variable_eq, HasType}
use Rattle.hol_spec.specs.Substitution.{TypePairs, substitute}

abbrev pub TermPairs : Type 0
TermPairs = List (Variable × Term)

-- What stands for a free variable: what the first pair of its name and type gives, or itself.
abbrev pub term_image : TermPairs → Variable → Term
term_image pairs v = unwrap_or (lookup (variable_eq v) pairs) (free v.0 v.1)

-- The type pairs applied to every type, then the terms put for the free variables, which are looked up with their new types.
abbrev pub sub : TypePairs → TermPairs → Term → Term
sub types terms (free n t) = term_image terms (n, substitute types t)
sub types terms (bound k) = bound k
sub types terms (constant n t) = constant n (substitute types t)
sub types terms (app f x) = app (sub types terms f) (sub types terms x)
sub types terms (lam t b) = lam (substitute types t) (sub types terms b)

-- Each term has the type of the variable that it is put for.
abbrev pub AreFitting : TermPairs → Type 0
AreFitting [] = Unit {0}
AreFitting (p ∷ ps) = HasType p.1 p.0.1 × AreFitting ps
