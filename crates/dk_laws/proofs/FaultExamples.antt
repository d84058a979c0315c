-- Worked examples: the faults of small texts, by their rules.
use Rattle.std.proofs.Common.{◌≡◌, refl, ℕ, zero, suc, ◌+◌, ◌≤◌, arith, Some, List, [], ◌∷◌, ◌++◌, length, drop, codes}
use Rattle.lp_spec.specs.Text.{prelude}
use Rattle.lp_spec.specs.Tokens.{Name, TypeWord, Colon, Arrow, Dot, Placed, at}
use Rattle.lp_spec.specs.Reading.{max_depth}
use Rattle.lp_spec.specs.ReadingFaults.{answer_within, refused, DkTooLong, refusal, NoPrelude, BadText, UnknownName, NameTwice, DkTooDeep}
use Rattle.lp_spec.specs.Trees.{Tree, SortType, Pi, depth}
use Rattle.lp_spec.specs.Reading.{Scope, Term, nameless, plain, application, sort, none, IsNew}
use Rattle.lp_spec.specs.Faults as faults
use Rattle.lp_spec.specs.Faults.{none_yet, symbol_name, symbol_type, first, of_symbol, of_theorem, type_before_body, of_whole, of_term, further, TokensShow, name_twice, unknown_name, too_deep, Shows, no_prelude, by_tokens, no_token}
use Rattle.dk_laws.specs.FaultLaws.{refusals_shown}

-- a symbol of the signature is declared again
name_again : Shows (prelude ++ codes "bool : type.") (refusal (length prelude) (NameTwice (codes "bool")))
name_again = by_tokens (codes "bool : type.") refl (name_twice (of_symbol first) refl)

-- a declaration's name in its own type
own_name : Shows (prelude ++ codes "thm e : proof e := e.") (refusal (length prelude + 14) (UnknownName (codes "e")))
own_name = by_tokens (codes "thm e : proof e := e.") refl
    (unknown_name (further (of_term (of_whole (type_before_body tt (of_theorem first))))
    (faults.BareApplication.application faults.BareAtom.identifier faults.BareArguments.none)) refl refl tt)

-- a byte that begins no token
no_such_token : Shows (prelude ++ codes "a : ?") (refusal (length prelude + 4) BadText)
no_such_token = no_token (codes "a : ?") refl refl

-- a token that can't follow
no_binder : Shows (prelude ++ codes "a : type => type.") (refusal (length prelude + 9) BadText)
no_binder = refusals_shown (prelude ++ codes "a : type => type.") (refusal (length prelude + 9) BadText) refl

-- a text that ends within the signature's text, or differs from it
too_short : Shows (codes "type") (refusal 4 NoPrelude)
too_short = no_prelude (codes "type") (drop 4 prelude) [] refl refl tt

-- so many times `Type ->`, and then `Type`
abbrev arrows : ℕ → List Placed → List Placed
arrows zero rest = at 0 TypeWord ∷ rest
arrows (suc n) rest = at 0 TypeWord ∷ at 0 Arrow ∷ arrows n rest

abbrev arrow_tree : ℕ → Tree
arrow_tree zero = SortType
arrow_tree (suc n) = Pi SortType (arrow_tree n)

arrows-Term : (n : ℕ) (scope : Scope) (rest : List Placed) → Term [] scope (arrows n rest) rest (arrow_tree n)
arrows-Term zero scope rest = plain (application sort none)
arrows-Term (suc n) scope rest = nameless (application sort none) (arrows-Term n ([] ∷ scope) rest)

arrow_tree-depth : (n : ℕ) → depth (arrow_tree n) ≡ suc n
arrow_tree-depth zero = refl
arrow_tree-depth (suc n) = omega (arith, arrow_tree-depth n)

-- a type that is deeper than the limit
deep : (n : ℕ) (name : List ℕ) (p : ℕ) → IsNew [] name → max_depth ≤ n
    → TokensShow (at 0 (Name name) ∷ at 0 Colon ∷ arrows n (at p Dot ∷ [])) (refusal p DkTooDeep)
deep n name p new h = too_deep (symbol_type (symbol_name none_yet new)) (arrows-Term n [] (at p Dot ∷ [])) (omega (arith, h, arrow_tree-depth n))

-- a `:` that the limit cuts, also as `:=`, begins no declaration
cut_colon : answer_within (Some (length prelude + 1)) (prelude ++ codes ":x") ≡ refused (refusal (length prelude) BadText)
cut_colon = refl

-- after a declared name only `:` may stand: neither a `-` nor a word, whatever they become
cut_after_name : answer_within (Some (length prelude + 3)) (prelude ++ codes "a ->") ≡ refused (refusal (length prelude + 2) BadText)
cut_after_name = refl

word_after_name : answer_within (Some (length prelude + 3)) (prelude ++ codes "a bc") ≡ refused (refusal (length prelude + 2) BadText)
word_after_name = refl

-- but a `(` may begin a comment
paren_after_name : answer_within (Some (length prelude + 3)) (prelude ++ codes "a (x") ≡ refused (refusal (length prelude + 3) DkTooLong)
paren_after_name = refl

-- after a type a `->` may stand
cut_arrow : answer_within (Some (length prelude + 10)) (prelude ++ codes "a : Type ->") ≡ refused (refusal (length prelude + 10) DkTooLong)
cut_arrow = refl

-- the word that is cut tells that the identifier before it is no binder
cut_argument : answer_within (Some (length prelude + 7)) (prelude ++ codes "a : b cd") ≡ refused (refusal (length prelude + 4) (UnknownName (codes "b")))
cut_argument = refl

-- neither `:` nor `:=` can follow a symbol's type, and `:=` that of a definition
cut_assign : answer_within (Some (length prelude + 10)) (prelude ++ codes "a : Type :=") ≡ refused (refusal (length prelude + 9) BadText)
cut_assign = refl

cut_definition : answer_within (Some (length prelude + 14)) (prelude ++ codes "def a : Type :=") ≡ refused (refusal (length prelude + 14) DkTooLong)
cut_definition = refl
