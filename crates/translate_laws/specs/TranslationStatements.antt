-- What this crate shows, one statement each.
use Rattle.std.specs.Prelude.{◌≡◌, List, ◌++◌, map}
use Rattle.std.specs.List.{AllByRecursion}
use Rattle.hol_spec.specs.Substitution.{TypePairs, substitute, image}
use Rattle.hol_spec.specs.Types.{HolType}
use Rattle.hol_spec.specs.Terms.{Term}
use Rattle.hol_spec.specs.TermSubstitution.{TermPairs, sub}
use Rattle.hol_spec.specs.Limits.{SequentWithin}
use Rattle.hol_spec.specs.ClosedForm.{closed_form}
use Rattle.hol_spec.specs.Sequents.{Sequent, IsSequent, terms_of, type_variables_of, free_variables_of}
use Rattle.lp_spec.specs.Trees.{put_all}
use Rattle.lp_spec.specs.Modules.{Declaration}
use Rattle.translate_spec.specs.Enc.{Enc}
use Rattle.translate_spec.specs.Scopes.{SymbolMap, TypeScope, type_tree, Scope, term_tree, sequent_tree, images}
use Rattle.translate_laws.specs.TermScopeLaws.{AreClosed, AreInstances}
use Rattle.translate_laws.specs.TheoremTyping.{HasInstances}
use Rattle.translate_laws.specs.SubstitutionTranslated.{statement_tree, rest_tree}
use Rattle.translate_laws.specs.SequentEncoding.{TermMeant}

-- Translation of substitution, for types, for terms, and for sequents with the images put in.
abbrev pub TypeSubstitutionTranslated : Type 0
TypeSubstitutionTranslated =
    (symbols : SymbolMap) (pairs : TypePairs) (scope : TypeScope) (t : HolType)
    → type_tree symbols scope (substitute pairs t) ≡ type_tree symbols (λ n. type_tree symbols scope (image pairs n)) t

abbrev pub TermSubstitutionTranslated : Type 0
TermSubstitutionTranslated =
    (symbols : SymbolMap) (pairs : TypePairs) (terms : TermPairs) → AreClosed terms → (scope : Scope) (t : Term) → AreInstances symbols t
    → term_tree symbols scope (sub pairs terms t) ≡ term_tree symbols (images symbols pairs terms scope) t

abbrev pub SequentSubstitutionTranslated : Type 0
SequentSubstitutionTranslated =
    (symbols : SymbolMap) (pairs : TypePairs) (terms : TermPairs) → AreClosed terms → (scope : Scope) (s : Sequent) → IsSequent s → HasInstances symbols s
    → put_all (map (images symbols pairs terms scope).types (type_variables_of s) ++ map (images symbols pairs terms scope).terms (free_variables_of s))
    (rest_tree symbols s)
    ≡ statement_tree symbols (map (sub pairs terms) s.hypotheses) (sub pairs terms s.conclusion) scope

-- The tree of a sequent stands for its closed form.
abbrev pub SequentsEncoded : Type 0
SequentsEncoded =
    (d : List Declaration) (symbols : SymbolMap) (s : Sequent) → IsSequent s → SequentWithin s → HasInstances symbols s
    → AllByRecursion (TermMeant d symbols) (terms_of s)
    → Enc d (closed_form s) (sequent_tree symbols s)
