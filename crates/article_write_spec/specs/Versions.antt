-- The version of an article, and that of the last of some articles.
-- Source: the OpenTheory article file format, versions 5 and 6. That an article without `version` is of version 5 is this machine's own.
use Rattle.std.specs.Prelude.{pos, ◌≡◌, ℕ, if◌then◌else◌, Bool, true, false, List, [], ◌∷◌, ◌++◌, map}
use Rattle.std.specs.Ordering.{int_eq}
use Rattle.hol_spec.specs.declared.Version.{Version}
use Rattle.hol_spec.specs.declared.Version.TheVariants.{Five, Six}
use Rattle.hol_spec.specs.Rules.{Parameters}
use Rattle.article_spec.specs.declared.commands.Command.{Command}
use Rattle.article_spec.specs.declared.commands.Item.{Item}
use Rattle.article_spec.specs.declared.commands.Item.TheVariants as item
use Rattle.article_spec.specs.declared.commands.Word.{Word}
use Rattle.article_spec.specs.declared.commands.Word.TheVariants as word
use Rattle.article_spec.specs.Lines.{Lines, End}

-- version 6 where the first two commands are the number 6 and `version`
abbrev pub version_of : List Item → Version
version_of (item.Number z ∷ item.Word word.Version ∷ items) = if int_eq z (pos 6) then Six else Five
version_of items = Five

-- Before the first article it is 6.
pub data IsLastVersion : List (List ℕ) → Version → Type 0 where
  no_article : IsLastVersion [] Six
  last : {articles : List (List ℕ)} (bytes : List ℕ) (commands : List Command) (end : End) {version : Version} (earlier : List (List ℕ))
      → articles ≡ earlier ++ bytes ∷ [] → Lines bytes commands end → version ≡ version_of (map (λ c. c.item) commands) → IsLastVersion articles version

abbrev pub version_eq : Version → Version → Bool
version_eq Five Five = true
version_eq Six Six = true
version_eq v w = false

-- whether the laws of a type definition, if they are given, are those of this version
abbrev pub is_of_version : Version → Parameters → Bool
is_of_version version (Parameters.type_operator names made_in) = version_eq made_in version
is_of_version version given = true
