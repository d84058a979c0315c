-- Every accepted run over articles of bytes has names: the names of the symbols that it takes have components of bytes. So its module stands for it.
use Rattle.std.proofs.Common.{ℕ, List, [], ◌∷◌, map, Option, None, Some}
use Rattle.std.specs.Option.{option_map}
use Rattle.std.specs.List.{AllByRecursion, filter_map, cons_option}
use Rattle.hol_spec.specs.Mangling.{IsName, AreBytes}
use Rattle.hol_spec.specs.Terms.{Term, Variable}
use Rattle.hol_spec.specs.Definitions.{Definition}
use Rattle.hol_spec.specs.DefinitionLists.{ConstantPairs, definiens}
use Rattle.hol_spec.specs.Symbols.{Symbol, defined}
use Rattle.hol_spec.specs.Proofs.{Made, symbols_of, sequent_at, Accepted}
use Rattle.hol_laws.specs.Members.{All-append}
use Rattle.article_spec.specs.Lines.{ended}
use Rattle.article_spec.specs.State.{Stage}
use Rattle.article_spec.specs.Run.{accepted, Run}
use Rattle.article_laws.specs.GrownRuns.{of_names, Grows, moves_of}
use Rattle.article_laws.specs.KeptRuns.{Reads, run-has}
use Rattle.translate_spec.specs.Image.{image}
use Rattle.translate_spec.specs.Stands.{StandsForRun}
use Rattle.image_laws.specs.Named.{SymbolHasName, HasNames}
use Rattle.image_reach_laws.specs.ByteNames.{lines-named}
use Rattle.image_reach_laws.specs.StandingRuns.{runs_stand}

-- a symbol whose names are of bytes, or a step
abbrev MadeHasName : Made → Type 0
MadeHasName (Made.symbol x) = SymbolHasName x
MadeHasName (Made.type_definition names c f i) = SymbolHasName (Symbol.defined (Definition.type_operator names c f))
MadeHasName (Made.step x) = Unit {0}

abbrev named : Stage → List Made → List ℕ → List ℕ → Type 0
named place made exports assumptions = AllByRecursion MadeHasName made

-- the definitions of named pairs
abbrev AreNamedDefinitions : List Definition → Type 0
AreNamedDefinitions ds = AllByRecursion MadeHasName (map Made.symbol (map defined ds))

definitions-named : (d : Variable → Option Term) (pairs : ConstantPairs) → AllByRecursion (λ q. IsName q.0 × Unit {0}) pairs
    → AreNamedDefinitions (filter_map (λ q. option_map (Definition.constant q.0) (d q.1)) pairs)
definitions-named d [] h = tt
definitions-named d (p ∷ ps) h = go (d p.1) (filter_map (λ q. option_map (Definition.constant q.0) (d q.1)) ps) (definitions-named d ps h.1)
  where
    go : (o : Option Term) (ds : List Definition) → AreNamedDefinitions ds → AreNamedDefinitions (cons_option (option_map (Definition.constant p.0) o) ds)
    go None ds later = later
    go (Some t) ds later = (h.0.0, later)

-- what is taken and what is defined is named by name objects
grows : Grows IsName named MadeHasName
grows = record {
  made = λ s ys g h. All-append MadeHasName s.made ys g h;
  assumed = λ s is g. g;
  exported = λ s j hs c x g e l. All-append MadeHasName s.made (Made.step x ∷ []) g (tt {0}, tt {0});
  step = λ x l. tt {0};
  operator = λ n ts h l. h;
  constant = λ n h. h;
  define_const = λ m n t x h e l. h;
  define_const_list = λ s pairs j g h. definitions-named (definiens pairs (sequent_at s.made j).hypotheses) pairs h;
  define_type_op = λ edition names j c f h l. h;
}

-- the symbols of what was made
symbols-named : (made : List Made) → AllByRecursion MadeHasName made → AllByRecursion SymbolHasName (symbols_of made)
symbols-named [] h = tt
symbols-named (Made.symbol x ∷ made) h = (h.0, symbols-named made h.1)
symbols-named (Made.type_definition names c f i ∷ made) h = (h.0, symbols-named made h.1)
symbols-named (Made.step x ∷ made) h = symbols-named made h.1

reads_bytes : Reads AreBytes IsName
reads_bytes = record { commands = λ bytes cs line l h. lines-named bytes cs (ended line) l tt h }

-- Every accepted run over articles of bytes has names
pub run-has_names : (articles : List (List ℕ)) (run : Accepted) → AllByRecursion AreBytes articles → Run articles (accepted run) → HasNames run
run-has_names articles run bytes r =
    run-has (of_names IsName named) (moves_of _ _ _ grows) (λ s p g. g) (λ s g. g) AreBytes IsName reads_bytes (λ m x h. h)
    HasNames (λ s h. record { symbols = symbols-named s.made h.run }) articles run (tt {0}) bytes r

-- The law: the module of an accepted run over articles of bytes stands for it
abbrev pub RunsOfBytesStand : Type 0
RunsOfBytesStand = (articles : List (List ℕ)) (run : Accepted) → AllByRecursion AreBytes articles → Run articles (accepted run) → StandsForRun (image run) run

pub runs_of_bytes_stand : RunsOfBytesStand
runs_of_bytes_stand articles run bytes r = runs_stand articles run r (run-has_names articles run bytes r)
