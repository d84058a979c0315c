-- Worked examples: what an article's run exports, written again.
use Rattle.std.specs.Prelude.{◌≡◌, ℕ, true, false, List, [], ◌∷◌, ◌++◌, map, length, codes}
use Rattle.std.specs.Fmt.{digits}
use Rattle.std.proofs.Common.{refl}
use Rattle.hol_spec.specs.declared.Version.TheVariants.{Five, Six}
use Rattle.hol_spec.specs.Proofs.{Accepted}
use Rattle.article_write_spec.specs.Retold.{IsSayable}
use Rattle.std.proofs.Common.{arith}
use Rattle.article_write_spec.specs.Versions.{version_of}
use Rattle.article_write_spec.specs.BinderNames.{is_binder_name}
use Rattle.article_write_spec.specs.ArticleLength.{article_length}
use Rattle.article_write_spec.specs.Article.{version_items, article, article_items, fits}
use Rattle.article_write_spec.proofs.SmallRuns.{said, lines, run_of}

-- |- p = p
abbrev first : Accepted
first = run_of ((codes
    "6 version \"p\" \"bool\" typeOp nil opType var varTerm refl nil \"=\" const \"->\" typeOp \"bool\" typeOp nil opType \"->\" typeOp \"bool\" typeOp nil opType \"bool\" typeOp nil opType nil cons cons opType nil cons cons opType constTerm \"p\" \"bool\" typeOp nil opType var varTerm appTerm \"p\" \"bool\" typeOp nil opType var varTerm appTerm thm") ∷ [])

abbrev first_text : List ℕ
first_text =
    codes "6 version \"p\" \"bool\" typeOp nil opType 0 def var varTerm 1 def refl 2 def pop "
    ++ codes "2 ref nil \"=\" const \"->\" typeOp 0 ref \"->\" typeOp 0 ref 0 ref nil cons cons opType 3 def "
    ++ codes "nil cons cons opType 4 def constTerm 5 def 1 ref appTerm 6 def 1 ref appTerm 7 def thm"

first_items : article_items Six first ≡ said first_text
unfolding digits
first_items = refl

first_article : article Six first ≡ lines first_text
unfolding digits
first_article = refl

-- nothing is exported
nothing_exported : article Six (run_of (codes "6 version" ∷ [])) ≡ lines (codes "6 version")
unfolding digits
nothing_exported = refl

nothing_in_five : article Five (run_of (codes "6 version" ∷ [])) ≡ []
nothing_in_five = refl

-- a constant is defined; its name needs escapes, and one that is not needed is dropped; a binder
abbrev definition : Accepted
definition = run_of (codes
    "6 version \"a.\\q\\\"\\\\\\.e\" \"x\" \"bool\" typeOp nil opType var \"x\" \"bool\" typeOp nil opType var varTerm absTerm defineConst nil \"=\" const \"->\" typeOp \"->\" typeOp \"bool\" typeOp nil opType \"bool\" typeOp nil opType nil cons cons opType \"->\" typeOp \"->\" typeOp \"bool\" typeOp nil opType \"bool\" typeOp nil opType nil cons cons opType \"bool\" typeOp nil opType nil cons cons opType nil cons cons opType constTerm \"a.q\\\"\\\\\\.e\" const \"->\" typeOp \"bool\" typeOp nil opType \"bool\" typeOp nil opType nil cons cons opType constTerm appTerm \"x\" \"bool\" typeOp nil opType var \"x\" \"bool\" typeOp nil opType var varTerm absTerm appTerm thm" ∷ [])

abbrev definition_text : List ℕ
definition_text =
    codes "6 version \"a.q\\\"\\\\\\.e\" \"_0_0\" \"bool\" typeOp nil opType 0 def var \"_0_0\" 0 ref var varTerm absTerm 1 def defineConst 2 def pop pop "
    ++ codes
    "2 ref nil \"=\" const \"->\" typeOp \"->\" typeOp 0 ref 0 ref nil cons cons opType 3 def \"->\" typeOp 3 ref 0 ref nil cons cons opType 4 def nil cons cons opType 5 def constTerm 6 def "
    ++ codes "\"a.q\\\"\\\\\\.e\" const 3 ref constTerm 7 def appTerm 8 def 1 ref appTerm 9 def thm"

definition_article : article Six definition ≡ lines definition_text
unfolding digits
definition_article = refl

-- an assumption, and a type definition of which the second law is exported
abbrev type_definition : Accepted
type_definition = run_of
    (codes
    "6 version \"o\" \"mk\" \"dest\" nil nil \"x\" \"bool\" typeOp nil opType var \"x\" \"bool\" typeOp nil opType var varTerm absTerm \"p\" \"bool\" typeOp nil opType var varTerm appTerm axiom defineTypeOp nil \"=\" const \"->\" typeOp \"->\" typeOp \"bool\" typeOp nil opType \"bool\" typeOp nil opType nil cons cons opType \"->\" typeOp \"->\" typeOp \"bool\" typeOp nil opType \"bool\" typeOp nil opType nil cons cons opType \"bool\" typeOp nil opType nil cons cons opType nil cons cons opType constTerm \"r\" \"bool\" typeOp nil opType var \"=\" const \"->\" typeOp \"bool\" typeOp nil opType \"->\" typeOp \"bool\" typeOp nil opType \"bool\" typeOp nil opType nil cons cons opType nil cons cons opType constTerm \"dest\" const \"->\" typeOp \"o\" typeOp nil opType \"bool\" typeOp nil opType nil cons cons opType constTerm \"mk\" const \"->\" typeOp \"bool\" typeOp nil opType \"o\" typeOp nil opType nil cons cons opType constTerm \"r\" \"bool\" typeOp nil opType var varTerm appTerm appTerm appTerm \"r\" \"bool\" typeOp nil opType var varTerm appTerm absTerm appTerm \"r\" \"bool\" typeOp nil opType var \"x\" \"bool\" typeOp nil opType var \"x\" \"bool\" typeOp nil opType var varTerm absTerm \"r\" \"bool\" typeOp nil opType var varTerm appTerm absTerm appTerm thm" ∷ [])

abbrev type_definition_text : List ℕ
type_definition_text =
    codes
    "6 version nil \"_0_0\" \"bool\" typeOp nil opType 0 def var \"_0_0\" 0 ref var varTerm absTerm 1 def \"p\" 0 ref var varTerm 2 def appTerm 3 def axiom 4 def pop "
    ++ codes "\"o\" \"mk\" \"dest\" nil 4 ref defineTypeOp 5 def pop 6 def pop pop pop pop "
    ++ codes
    "5 ref nil \"=\" const \"->\" typeOp \"->\" typeOp 0 ref 0 ref nil cons cons opType 7 def \"->\" typeOp 7 ref 0 ref nil cons cons opType 8 def nil cons cons opType 9 def constTerm 10 def "
    ++ codes
    "\"_0_0\" 0 ref var \"=\" const \"->\" typeOp 0 ref 7 ref nil cons cons opType 11 def constTerm 12 def \"dest\" const \"->\" typeOp \"o\" typeOp nil opType 13 def 0 ref nil cons cons opType 14 def constTerm 15 def "
    ++ codes
    "\"mk\" const \"->\" typeOp 0 ref 13 ref nil cons cons opType 16 def constTerm 17 def \"_0_0\" 0 ref var varTerm appTerm appTerm appTerm \"_0_0\" 0 ref var varTerm appTerm absTerm 18 def appTerm 19 def "
    ++ codes "\"_0_0\" 0 ref var 1 ref \"_0_0\" 0 ref var varTerm appTerm absTerm 20 def appTerm 21 def thm"

type_definition_article : article Six type_definition ≡ lines type_definition_text
unfolding digits
type_definition_article = refl

-- types and terms are put
abbrev substitution : Accepted
substitution = run_of
    (codes
    "6 version \"A\" \"bool\" typeOp nil opType nil cons cons nil cons \"x\" \"bool\" typeOp nil opType var \"p\" \"bool\" typeOp nil opType var varTerm nil cons cons nil cons nil cons cons \"x\" \"A\" varType var varTerm refl subst nil \"=\" const \"->\" typeOp \"bool\" typeOp nil opType \"->\" typeOp \"bool\" typeOp nil opType \"bool\" typeOp nil opType nil cons cons opType nil cons cons opType constTerm \"p\" \"bool\" typeOp nil opType var varTerm appTerm \"p\" \"bool\" typeOp nil opType var varTerm appTerm thm" ∷ [])

abbrev substitution_text : List ℕ
substitution_text =
    codes "6 version \"x\" \"A\" varType 0 def var varTerm 1 def refl 2 def pop "
    ++ codes
    "\"A\" \"bool\" typeOp nil opType 3 def nil cons cons nil cons \"x\" 3 ref var \"p\" 3 ref var varTerm 4 def nil cons cons nil cons nil cons cons 2 ref subst 5 def pop "
    ++ codes
    "5 ref nil \"=\" const \"->\" typeOp 3 ref \"->\" typeOp 3 ref 3 ref nil cons cons opType 6 def nil cons cons opType 7 def constTerm 8 def 4 ref appTerm 9 def 4 ref appTerm 10 def thm"

substitution_article : article Six substitution ≡ lines substitution_text
unfolding digits
substitution_article = refl

-- what the export does not reach is left out; a variable has the name of a binder, and a binder is under another
abbrev binders : Accepted
binders = run_of (codes
    "6 version \"p\" \"bool\" typeOp nil opType var varTerm refl \"x\" \"bool\" typeOp nil opType var \"y\" \"bool\" typeOp nil opType var \"_0_7\" \"bool\" typeOp nil opType var varTerm absTerm absTerm refl nil \"=\" const \"->\" typeOp \"->\" typeOp \"bool\" typeOp nil opType \"->\" typeOp \"bool\" typeOp nil opType \"bool\" typeOp nil opType nil cons cons opType nil cons cons opType \"->\" typeOp \"->\" typeOp \"bool\" typeOp nil opType \"->\" typeOp \"bool\" typeOp nil opType \"bool\" typeOp nil opType nil cons cons opType nil cons cons opType \"bool\" typeOp nil opType nil cons cons opType nil cons cons opType constTerm \"x\" \"bool\" typeOp nil opType var \"y\" \"bool\" typeOp nil opType var \"_0_7\" \"bool\" typeOp nil opType var varTerm absTerm absTerm appTerm \"x\" \"bool\" typeOp nil opType var \"y\" \"bool\" typeOp nil opType var \"_0_7\" \"bool\" typeOp nil opType var varTerm absTerm absTerm appTerm thm" ∷ [])

abbrev binders_text : List ℕ
binders_text =
    codes
    "6 version \"_1_0\" \"bool\" typeOp nil opType 0 def var \"_1_1\" 0 ref var \"_0_7\" 0 ref var varTerm 1 def absTerm 2 def absTerm 3 def refl 4 def pop "
    ++ codes "4 ref nil \"=\" const \"->\" typeOp \"->\" typeOp 0 ref \"->\" typeOp 0 ref 0 ref nil cons cons opType 5 def nil cons cons opType 6 def "
    ++ codes "\"->\" typeOp 6 ref 0 ref nil cons cons opType 7 def nil cons cons opType 8 def constTerm 9 def 3 ref appTerm 10 def 3 ref appTerm 11 def thm"

binders_article : article Six binders ≡ lines binders_text
unfolding digits
binders_article = refl

-- an assumption that is repeated
abbrev assumed_twice : Accepted
assumed_twice = run_of
    (codes
    "6 version nil \"p\" \"bool\" typeOp nil opType var varTerm axiom nil \"p\" \"bool\" typeOp nil opType var varTerm axiom deductAntisym nil \"=\" const \"->\" typeOp \"bool\" typeOp nil opType \"->\" typeOp \"bool\" typeOp nil opType \"bool\" typeOp nil opType nil cons cons opType nil cons cons opType constTerm \"p\" \"bool\" typeOp nil opType var varTerm appTerm \"p\" \"bool\" typeOp nil opType var varTerm appTerm thm" ∷ [])

abbrev assumed_twice_text : List ℕ
assumed_twice_text =
    codes
    "6 version nil \"p\" \"bool\" typeOp nil opType 0 def var varTerm 1 def axiom 2 def pop nil 1 ref axiom 3 def pop 2 ref 3 ref deductAntisym 4 def pop "
    ++ codes
    "4 ref nil \"=\" const \"->\" typeOp 0 ref \"->\" typeOp 0 ref 0 ref nil cons cons opType 5 def nil cons cons opType 6 def constTerm 7 def 1 ref appTerm 8 def 1 ref appTerm 9 def thm"

assumed_twice_article : article Six assumed_twice ≡ lines assumed_twice_text
unfolding digits
assumed_twice_article = refl

-- of two articles the second assumes what the first exports: one article can not say that; in swapped order it is an assumption
abbrev met_first : List ℕ
met_first = codes
    "6 version \"x\" \"bool\" typeOp nil opType var \"x\" \"bool\" typeOp nil opType var varTerm absTerm refl \"p\" \"bool\" typeOp nil opType var varTerm \"q\" \"bool\" typeOp nil opType var varTerm nil cons cons \"=\" const \"->\" typeOp \"->\" typeOp \"bool\" typeOp nil opType \"bool\" typeOp nil opType nil cons cons opType \"->\" typeOp \"->\" typeOp \"bool\" typeOp nil opType \"bool\" typeOp nil opType nil cons cons opType \"bool\" typeOp nil opType nil cons cons opType nil cons cons opType constTerm \"x\" \"bool\" typeOp nil opType var \"x\" \"bool\" typeOp nil opType var varTerm absTerm appTerm \"x\" \"bool\" typeOp nil opType var \"x\" \"bool\" typeOp nil opType var varTerm absTerm appTerm thm"

abbrev met_second : List ℕ
met_second = codes
    "6 version \"q\" \"bool\" typeOp nil opType var varTerm \"p\" \"bool\" typeOp nil opType var varTerm nil cons cons \"=\" const \"->\" typeOp \"->\" typeOp \"bool\" typeOp nil opType \"bool\" typeOp nil opType nil cons cons opType \"->\" typeOp \"->\" typeOp \"bool\" typeOp nil opType \"bool\" typeOp nil opType nil cons cons opType \"bool\" typeOp nil opType nil cons cons opType nil cons cons opType constTerm \"x\" \"bool\" typeOp nil opType var \"x\" \"bool\" typeOp nil opType var varTerm absTerm appTerm \"x\" \"bool\" typeOp nil opType var \"x\" \"bool\" typeOp nil opType var varTerm absTerm appTerm axiom \"q\" \"bool\" typeOp nil opType var varTerm \"p\" \"bool\" typeOp nil opType var varTerm \"r\" \"bool\" typeOp nil opType var varTerm nil cons cons cons \"=\" const \"->\" typeOp \"->\" typeOp \"bool\" typeOp nil opType \"bool\" typeOp nil opType nil cons cons opType \"->\" typeOp \"->\" typeOp \"bool\" typeOp nil opType \"bool\" typeOp nil opType nil cons cons opType \"bool\" typeOp nil opType nil cons cons opType nil cons cons opType constTerm \"x\" \"bool\" typeOp nil opType var \"x\" \"bool\" typeOp nil opType var varTerm absTerm appTerm \"x\" \"bool\" typeOp nil opType var \"x\" \"bool\" typeOp nil opType var varTerm absTerm appTerm thm"

met : fits Six (run_of (met_first ∷ met_second ∷ [])) ≡ false
met = refl

not_met : fits Six (run_of (met_second ∷ met_first ∷ [])) ≡ true
not_met = refl

-- the same article without its first two lines is of version 5, and so is what is written of it
abbrev first_of_five : Accepted
first_of_five = run_of
    (codes
    "\"p\" \"bool\" typeOp nil opType var varTerm refl nil \"=\" const \"->\" typeOp \"bool\" typeOp nil opType \"->\" typeOp \"bool\" typeOp nil opType \"bool\" typeOp nil opType nil cons cons opType nil cons cons opType constTerm \"p\" \"bool\" typeOp nil opType var varTerm appTerm \"p\" \"bool\" typeOp nil opType var varTerm appTerm thm" ∷ [])

first_of_five_items : article_items Six first_of_five ≡ version_items Six ++ article_items Five first_of_five
unfolding digits
first_of_five_items = refl

first_of_five_same : article Six first_of_five ≡ lines first_text
unfolding digits
first_of_five_same = refl

versions : map (λ text. version_of (said (codes text))) ("6 version" ∷ "6" ∷ "5 nil" ∷ "nil 6" ∷ "6 6" ∷ []) ≡ Six ∷ Five ∷ Five ∷ Five ∷ Five ∷ []
versions = refl

-- a type definition in version 5, of which the second law is exported
abbrev free_laws : Accepted
free_laws = run_of (codes
    "\"o\" \"mk\" \"dest\" nil nil \"x\" \"bool\" typeOp nil opType var \"x\" \"bool\" typeOp nil opType var varTerm absTerm \"p\" \"bool\" typeOp nil opType var varTerm appTerm axiom defineTypeOp nil \"=\" const \"->\" typeOp \"bool\" typeOp nil opType \"->\" typeOp \"bool\" typeOp nil opType \"bool\" typeOp nil opType nil cons cons opType nil cons cons opType constTerm \"x\" \"bool\" typeOp nil opType var \"x\" \"bool\" typeOp nil opType var varTerm absTerm \"r\" \"bool\" typeOp nil opType var varTerm appTerm appTerm \"=\" const \"->\" typeOp \"bool\" typeOp nil opType \"->\" typeOp \"bool\" typeOp nil opType \"bool\" typeOp nil opType nil cons cons opType nil cons cons opType constTerm \"dest\" const \"->\" typeOp \"o\" typeOp nil opType \"bool\" typeOp nil opType nil cons cons opType constTerm \"mk\" const \"->\" typeOp \"bool\" typeOp nil opType \"o\" typeOp nil opType nil cons cons opType constTerm \"r\" \"bool\" typeOp nil opType var varTerm appTerm appTerm appTerm \"r\" \"bool\" typeOp nil opType var varTerm appTerm appTerm thm" ∷ [])

abbrev free_laws_text : List ℕ
free_laws_text =
    codes
    "nil \"_0_0\" \"bool\" typeOp nil opType 0 def var \"_0_0\" 0 ref var varTerm absTerm 1 def \"p\" 0 ref var varTerm 2 def appTerm 3 def axiom 4 def pop "
    ++ codes "\"o\" \"mk\" \"dest\" nil 4 ref defineTypeOp 5 def pop 6 def pop pop pop pop "
    ++ codes "5 ref nil \"=\" const \"->\" typeOp 0 ref \"->\" typeOp 0 ref 0 ref nil cons cons opType 7 def nil cons cons opType 8 def constTerm 9 def "
    ++ codes "1 ref \"r\" 0 ref var varTerm 10 def appTerm 11 def appTerm 12 def 9 ref "
    ++ codes "\"dest\" const \"->\" typeOp \"o\" typeOp nil opType 13 def 0 ref nil cons cons opType 14 def constTerm 15 def "
    ++ codes
    "\"mk\" const \"->\" typeOp 0 ref 13 ref nil cons cons opType 16 def constTerm 17 def 10 ref appTerm 18 def appTerm 19 def appTerm 20 def 10 ref appTerm 21 def appTerm 22 def thm"

free_laws_article : article Five free_laws ≡ lines free_laws_text
unfolding digits
free_laws_article = refl

-- laws are said in the version in which they were made alone
laws_fit : map (λ version. fits version free_laws) (Five ∷ Six ∷ []) ≡ true ∷ false ∷ []
laws_fit = refl

other_laws_fit : map (λ version. fits version type_definition) (Five ∷ Six ∷ []) ≡ false ∷ true ∷ []
other_laws_fit = refl

-- a variable that a rule is given has the name of a binder, though it is free in no term
abbrev given : Accepted
given = run_of (codes
    "6 version \"_0_3\" \"bool\" typeOp nil opType var \"p\" \"bool\" typeOp nil opType var varTerm refl absThm nil \"=\" const \"->\" typeOp \"->\" typeOp \"bool\" typeOp nil opType \"bool\" typeOp nil opType nil cons cons opType \"->\" typeOp \"->\" typeOp \"bool\" typeOp nil opType \"bool\" typeOp nil opType nil cons cons opType \"bool\" typeOp nil opType nil cons cons opType nil cons cons opType constTerm \"_0_3\" \"bool\" typeOp nil opType var \"p\" \"bool\" typeOp nil opType var varTerm absTerm appTerm \"_0_3\" \"bool\" typeOp nil opType var \"p\" \"bool\" typeOp nil opType var varTerm absTerm appTerm thm" ∷ [])

abbrev given_text : List ℕ
given_text =
    codes "6 version \"p\" \"bool\" typeOp nil opType 0 def var varTerm 1 def refl 2 def pop \"_0_3\" 0 ref var 2 ref absThm 3 def pop "
    ++ codes
    "3 ref nil \"=\" const \"->\" typeOp \"->\" typeOp 0 ref 0 ref nil cons cons opType 4 def \"->\" typeOp 4 ref 0 ref nil cons cons opType 5 def nil cons cons opType 6 def constTerm 7 def "
    ++ codes "\"_1_0\" 0 ref var 1 ref absTerm 8 def appTerm 9 def 8 ref appTerm 10 def thm"

given_article : article Six given ≡ lines given_text
unfolding digits
given_article = refl

-- the name of a binder has a digit behind its number
binder_names : map (is_binder_name 0)
    ((codes "_0_7" ∷ []) ∷ (codes "_0_" ∷ []) ∷ (codes "_0_x" ∷ []) ∷ (codes "_1_7" ∷ []) ∷ (codes "_0_7" ∷ codes "x" ∷ []) ∷ [])
    ≡ true ∷ false ∷ false ∷ false ∷ false ∷ []
unfolding digits
binder_names = refl

-- the length is counted, with binders under binders too
first_length : article_length 4294967297 Six first ≡ length (lines first_text)
unfolding digits
first_length = refl

binders_length : article_length 4294967297 Six binders ≡ length (lines binders_text)
unfolding digits
binders_length = refl

free_laws_length : article_length 4294967297 Five free_laws ≡ length (lines free_laws_text)
unfolding digits
free_laws_length = refl

type_definition_length : article_length 4294967297 Six type_definition ≡ length (lines type_definition_text)
unfolding digits
type_definition_length = refl

-- a greater length is not told apart
first_capped : article_length 100 Six first ≡ 100
unfolding digits
first_capped = refl

-- a run that can be said
first_sayable : IsSayable Six first
unfolding digits
first_sayable = record { fits = refl; short = omega arith; few = omega arith }
