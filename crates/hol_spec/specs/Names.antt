-- Names, and the lines of an article that write them.
-- Source: the OpenTheory article file format, version 6, "Names".
use Rattle.std.specs.Prelude.{ℕ, ◌≡◌, ◌≢◌, List, [], ◌∷◌, ◌++◌}

-- a name: a nonempty list of components, the last of which is the name proper
abbrev pub Name : Type 0
Name = List (List ℕ)

-- the bytes `"`, `.` and `\`
abbrev pub quote : ℕ
quote = 34

abbrev pub dot : ℕ
dot = 46

abbrev pub backslash : ℕ
backslash = 92

-- a byte that stands for itself in a component
pub record IsPlain (b : ℕ) : Type 0 where
  pub no_quote : b ≢ quote
  pub no_dot : b ≢ dot
  pub no_backslash : b ≢ backslash

-- a text that writes these bytes: each byte for itself, or any byte after a backslash
pub data IsComponent : List ℕ → List ℕ → Type 0 where
  nothing : IsComponent [] []
  plain : {b : ℕ} {text bytes : List ℕ} → IsPlain b → IsComponent text bytes → IsComponent (b ∷ text) (b ∷ bytes)
  escaped : {b : ℕ} {text bytes : List ℕ} → IsComponent text bytes → IsComponent (backslash ∷ b ∷ text) (b ∷ bytes)

-- a text that writes these components, with a dot between any two
pub data AreComponents : List ℕ → Name → Type 0 where
  one : {text bytes : List ℕ} → IsComponent text bytes → AreComponents text (bytes ∷ [])
  dotted : {text more whole bytes : List ℕ} {name : Name} → IsComponent text bytes → whole ≡ text ++ dot ∷ more → AreComponents more name
      → AreComponents whole (bytes ∷ name)

-- a line that writes this name: its components between two quotes
pub record IsNameLine (line : List ℕ) (name : Name) : Type 0 where
  pub inner : List ℕ
  pub quoted : line ≡ quote ∷ inner ++ quote ∷ []
  pub components : AreComponents inner name
