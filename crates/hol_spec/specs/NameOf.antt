-- The name that a line writes, and why there is at most one.
use Rattle.std.specs.Prelude.{ℕ, ◌==◌, if◌then◌else◌, List, [], ◌∷◌, Option, None, Some}
use Rattle.std.specs.Option.{option_map}
use Rattle.hol_spec.specs.Names.{Name, quote, dot, backslash}

-- the name with this byte before its first component
abbrev pub with_byte : ℕ → Name → Name
with_byte b [] = []
with_byte b (component ∷ name) = (b ∷ component) ∷ name

-- the name whose last part this text behind the opening quote writes, up to the closing one at the end of the line
abbrev mutual
  pub name_from : List ℕ → Option Name
  name_from [] = None
  name_from (b ∷ text) =
      if b == quote then closed_name text
      else if b == dot then option_map (λ name. [] ∷ name) (name_from text)
      else if b == backslash then escaped_name text
      else option_map (with_byte b) (name_from text)

  pub escaped_name : List ℕ → Option Name
  escaped_name [] = None
  escaped_name (b ∷ text) = option_map (with_byte b) (name_from text)

  pub closed_name : List ℕ → Option Name
  closed_name [] = Some ([] ∷ [])
  closed_name (b ∷ text) = None

-- the name that a line writes
abbrev pub name_of : List ℕ → Option Name
name_of [] = None
name_of (b ∷ text) = if b == quote then name_from text else None
