-- What a call that writes does to its sink, and the text of a name by its parts.
use Rattle.std.specs.Prelude.{ℕ, if◌then◌else◌, List, [], ◌∷◌, ◌++◌, drop, Option, Result, OnOk, OnErr}
use Rattle.std.specs.List.{flat_map}
use Rattle.std.specs.Borrow.{Bor}
use Rattle.bridge_base.specs.Outside.{Gains, GainsFront, HasCause}
use Rattle.hol_spec.specs.Names.{Name, dot, backslash}
use Rattle.article_spec.specs.declared.commands.Item.{Item}
use Rattle.article_spec.specs.Lines.{newline}
use Rattle.article_write_spec.specs.ItemTexts.{is_escaped, component_text, item_text}

-- the sink got the text; where the call failed it got a front of it, and its count of faults rose
pub record Writes {T E : Type 0} (old : Option (List ℕ)) (faults : ℕ) (text : List ℕ) (new : Option (List ℕ)) (faults_now : ℕ) (result : Result T E) : Type 0
  where
    pub ok : OnOk result (Gains old text new)
    pub err : OnErr result (GainsFront old text new)
    pub cause : HasCause faults faults_now result

-- the same of a sink, by what it got and its count of faults
abbrev pub WritesTo : {S T E : Type 0} → (S → Option (List ℕ)) → (S → ℕ) → List ℕ → S → S → Result T E → Type 0
WritesTo got faults text sink sink_now result = Writes (got sink) (faults sink) text (got sink_now) (faults sink_now) result

-- the line of a command
abbrev pub line : Item → List ℕ
line i = item_text i ++ newline ∷ []

abbrev pub byte_text : ℕ → List ℕ
byte_text b = if is_escaped b then (backslash ∷ b ∷ []) else (b ∷ [])

-- a component with the dot before it, and the components of a name behind the first
abbrev pub behind_text : List ℕ → List ℕ
behind_text component = dot ∷ component_text component

abbrev pub rest_text : Name → List ℕ
rest_text name = flat_map behind_text (drop 1 name)

-- pieces, one after another
abbrev pub pieces_text : List (Bor (List ℕ)) → List ℕ
pieces_text pieces = flat_map (λ p. p.now) pieces
