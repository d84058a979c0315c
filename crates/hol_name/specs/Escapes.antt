-- What waits of the text of a byte or of a boundary while a name's text is written.
use Rattle.std.specs.Prelude.{ℕ, List, [], ◌∷◌}
use Rattle.hol_name.specs.declared.mangling.Waiting.{Waiting}
use Rattle.hol_name.specs.declared.mangling.Waiting.TheVariants.{Nothing, One, Two}

abbrev pub waiting_text : Waiting → List ℕ
waiting_text Nothing = []
waiting_text (One last) = last ∷ []
waiting_text (Two next last) = next ∷ last ∷ []
