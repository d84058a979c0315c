-- The text of a module, line by line.
use Rattle.std.specs.Prelude.{ℕ, List, [], ◌++◌, Option, Some, slice_get, take}
use Rattle.lp_spec.specs.Modules.{Declaration}
use Rattle.lp_spec.specs.ShortNames.{shortened_after}
use Rattle.lp_spec.specs.Text.{prelude, declaration_text, declarations_text}

abbrev pub line_of : List Declaration → Option Declaration → Option ℕ → List ℕ
line_of m (Some d) (Some bound) = declaration_text m d bound
line_of m _ _ = []

-- what declaration i of a module with these bounds adds to its text
abbrev pub line_at : List Declaration → List ℕ → ℕ → List ℕ
line_at m bounds i = line_of m (slice_get (shortened_after [] m) i) (slice_get bounds i)

-- the text up to declaration i
abbrev pub text_before : List Declaration → List ℕ → ℕ → List ℕ
text_before m bounds i = prelude ++ declarations_text m (take i (shortened_after [] m)) (take i bounds)
