-- What a sink tells in front of which bytes are gathered.
use Rattle.std.specs.Prelude.{ℕ, List, ◌∷◌, ◌++◌, length, Option, Some, None}

-- what a sink tells, if it tells, and behind it what is still waiting
abbrev pub told_with : Option (List ℕ) → List ℕ → Option (List ℕ)
told_with None waiting = None
told_with (Some got) waiting = Some (got ++ waiting)

-- how many bytes are told
abbrev pub told_length : Option (List ℕ) → ℕ
told_length None = 0
told_length (Some got) = length got

-- what is told, with a number before it: it grows at its end alone, so the number stays
abbrev pub numbered : ℕ → Option (List ℕ) → Option (List ℕ)
numbered n None = None
numbered n (Some told) = Some (n ∷ told)

-- what a sink tells with what is waiting for it, and before it how many bytes it told when the gathering began
abbrev pub told_since : Option (List ℕ) → Option (List ℕ) → List ℕ → Option (List ℕ)
told_since begun got waiting = numbered (told_length begun) (told_with got waiting)
