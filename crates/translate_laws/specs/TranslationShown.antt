-- The statements hold.
use Rattle.std.specs.Prelude.{[]}
use Rattle.translate_laws.specs.ScopeLaws.{type_tree-substitute}
use Rattle.translate_laws.specs.TermScopeLaws.{term_tree-substitution}
use Rattle.translate_laws.specs.SubstitutionTranslated.{sequent-substitution}
use Rattle.translate_laws.specs.SequentEncoding.{sequent_tree-Enc}
use Rattle.translate_laws.specs.TranslationStatements.{TypeSubstitutionTranslated, TermSubstitutionTranslated, SequentSubstitutionTranslated, SequentsEncoded}

pub type_substitution_translated : TypeSubstitutionTranslated
type_substitution_translated symbols pairs scope t = type_tree-substitute symbols pairs scope t

pub term_substitution_translated : TermSubstitutionTranslated
term_substitution_translated symbols pairs terms closed scope t h = term_tree-substitution symbols pairs terms closed scope t h

pub sequent_substitution_translated : SequentSubstitutionTranslated
sequent_substitution_translated symbols pairs terms closed scope s is h = sequent-substitution [] symbols pairs terms closed scope s is h

pub sequents_encoded : SequentsEncoded
sequents_encoded d symbols s is within instances meant = sequent_tree-Enc d symbols s is within instances meant
