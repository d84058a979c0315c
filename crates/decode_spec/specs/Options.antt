-- What may be lacking: joining two such things, falling back, and a test.
use Rattle.std.specs.Prelude.{Bool, true, false, Option, None, Some}

-- what is made of a thing, where it is there
abbrev pub bind : {A B : Type 0} → Option A → (A → Option B) → Option B
bind None f = None
bind (Some x) f = f x

-- what is made of two things, where both are there
abbrev pub both : {A B C : Type 0} → (A → B → C) → Option A → Option B → Option C
both f None y = None
both f (Some x) None = None
both f (Some x) (Some y) = Some (f x y)

-- the first, or where it is lacking the second
abbrev pub or_else : {A : Type 0} → Option A → Option A → Option A
or_else None y = y
or_else (Some x) y = Some x

-- what there is, where the test passes
abbrev pub provided : {A : Type 0} → Bool → Option A → Option A
provided true o = o
provided false o = None
