-- The tokens that can follow those before them, and the texts that then begin so.
use Rattle.std.proofs.Common.{ℕ, Bool, List, [], ◌∷◌, ◌++◌}
use Rattle.lp_spec.specs.declared.form.Form.{Form}
use Rattle.lp_spec.specs.Tokens.{Token, Name, TypeWord, DefWord, ThmWord, Colon, Arrow, FatArrow, LeftParen, RightParen, Placed, at}
use Rattle.lp_spec.specs.Reading.{Scope}
use Rattle.lp_spec.specs.Faults.{BareAtom, identifier, sort, enclosed, BareArguments, none, argument, BareApplication, application, BareTerm, product, abstraction, nameless, plain, DeclarationBegins, first, next, NameStands, of_symbol, of_definition, of_theorem, WholeBegins, only_type, type_before_body, body, TermBegins, of_whole, after_product, after_abstraction, after_nameless, enclosed_term, ApplicationBegins, of_term, of_domain, AtomStands, of_application, further, IsText}

-- The first of these tokens can follow all those before it. Each rule is a place of a token in the grammar.
pub data CanFollow (all : List Placed) : List Placed → Type 0 where
  definition_word : {names : List (List ℕ)} {rest : List Placed} {p : ℕ} → DeclarationBegins all names (at p DefWord ∷ rest)
      → CanFollow all (at p DefWord ∷ rest)
  theorem_word : {names : List (List ℕ)} {rest : List Placed} {p : ℕ} → DeclarationBegins all names (at p ThmWord ∷ rest) → CanFollow all (at p ThmWord ∷ rest)
  declared_name : {names : List (List ℕ)} {form : Form} {name : List ℕ} {rest : List Placed} {p : ℕ} → NameStands all names form (at p (Name name) ∷ rest)
      → CanFollow all (at p (Name name) ∷ rest)
  declared_colon : {names : List (List ℕ)} {form : Form} {name : List ℕ} {rest : List Placed} {p q : ℕ}
      → NameStands all names form (at p (Name name) ∷ at q Colon ∷ rest) → CanFollow all (at q Colon ∷ rest)
  whole_end : {names : List (List ℕ)} {name : List ℕ} {end : Token} {tokens rest : List Placed} {p : ℕ} → WholeBegins all names name end tokens
      → BareTerm tokens (at p end ∷ rest) → CanFollow all (at p end ∷ rest)
  identifier_atom : {names : List (List ℕ)} {scope : Scope} {binder : Bool} {name : List ℕ} {rest : List Placed} {p : ℕ}
      → AtomStands all names scope binder (at p (Name name) ∷ rest) → CanFollow all (at p (Name name) ∷ rest)
  sort_atom : {names : List (List ℕ)} {scope : Scope} {binder : Bool} {rest : List Placed} {p : ℕ} → AtomStands all names scope binder (at p TypeWord ∷ rest)
      → CanFollow all (at p TypeWord ∷ rest)
  left_parenthesis : {names : List (List ℕ)} {scope : Scope} {binder : Bool} {rest : List Placed} {p : ℕ}
      → AtomStands all names scope binder (at p LeftParen ∷ rest) → CanFollow all (at p LeftParen ∷ rest)
  right_parenthesis : {names : List (List ℕ)} {scope : Scope} {binder : Bool} {tokens rest : List Placed} {p q : ℕ}
      → AtomStands all names scope binder (at p LeftParen ∷ tokens) → BareTerm tokens (at q RightParen ∷ rest) → CanFollow all (at q RightParen ∷ rest)
  binder_colon : {names : List (List ℕ)} {scope : Scope} {name : List ℕ} {rest : List Placed} {p q : ℕ}
      → TermBegins all names scope (at p (Name name) ∷ at q Colon ∷ rest) → CanFollow all (at q Colon ∷ rest)
  arrow_sign : {names : List (List ℕ)} {scope : Scope} {binder : Bool} {tokens rest : List Placed} {p : ℕ} → ApplicationBegins all names scope binder tokens
      → BareApplication tokens (at p Arrow ∷ rest) → CanFollow all (at p Arrow ∷ rest)
  fat_arrow_sign : {names : List (List ℕ)} {scope : Scope} {name : List ℕ} {tokens rest : List Placed} {p q r : ℕ}
      → TermBegins all names scope (at p (Name name) ∷ at q Colon ∷ tokens) → BareApplication tokens (at r FatArrow ∷ rest)
      → CanFollow all (at r FatArrow ∷ rest)

-- an atom more
pub arguments_snoc : {tokens more rest : List Placed} → BareArguments tokens more → BareAtom more rest → BareArguments tokens rest
arguments_snoc none x = argument x none
arguments_snoc (argument y args) x = argument y (arguments_snoc args x)

pub application_snoc : {tokens more rest : List Placed} → BareApplication tokens more → BareAtom more rest → BareApplication tokens rest
application_snoc (application y args) x = application y (arguments_snoc args x)

-- each token of the second list before the first one can follow
data AllFollow (all rest : List Placed) : List Placed → Type 0 where
  done : AllFollow all rest rest
  more_follow : {p : ℕ} {token : Token} {tokens : List Placed} → CanFollow all (at p token ∷ tokens) → AllFollow all rest tokens
      → AllFollow all rest (at p token ∷ tokens)

module _ {all : List Placed} where
  then_follow : {rest middle tokens : List Placed} → AllFollow all middle tokens → AllFollow all rest middle → AllFollow all rest tokens
  then_follow done k = k
  then_follow (more_follow c h) k = more_follow c (then_follow h k)

  mutual
    atom_follows : {names : List (List ℕ)} {scope : Scope} {binder : Bool} {tokens rest : List Placed} → AtomStands all names scope binder tokens
        → BareAtom tokens rest → AllFollow all rest tokens
    atom_follows a identifier = more_follow (identifier_atom a) done
    atom_follows a sort = more_follow (sort_atom a) done
    atom_follows a (enclosed t) = more_follow (left_parenthesis a) (then_follow (term_follows (enclosed_term a) t) (more_follow (right_parenthesis a t) done))

    arguments_follow : {names : List (List ℕ)} {scope : Scope} {binder : Bool} {start tokens rest : List Placed}
        → ApplicationBegins all names scope binder start → BareApplication start tokens → BareArguments tokens rest → AllFollow all rest tokens
    arguments_follow a y none = done
    arguments_follow a y (argument x args) = then_follow (atom_follows (further a y) x) (arguments_follow a (application_snoc y x) args)

    application_follows : {names : List (List ℕ)} {scope : Scope} {binder : Bool} {tokens rest : List Placed} → ApplicationBegins all names scope binder tokens
        → BareApplication tokens rest → AllFollow all rest tokens
    application_follows a (application x args) = then_follow (atom_follows (of_application a) x) (arguments_follow a (application x none) args)

    term_follows : {names : List (List ℕ)} {scope : Scope} {tokens rest : List Placed} → TermBegins all names scope tokens → BareTerm tokens rest
        → AllFollow all rest tokens
    term_follows t (product y u) =
        more_follow (identifier_atom (of_application (of_term t)))
        (more_follow (binder_colon t)
        (then_follow (application_follows (of_domain t) y) (more_follow (arrow_sign (of_domain t) y) (term_follows (after_product t y) u))))
    term_follows t (abstraction y u) =
        more_follow (identifier_atom (of_application (of_term t)))
        (more_follow (binder_colon t)
        (then_follow (application_follows (of_domain t) y) (more_follow (fat_arrow_sign t y) (term_follows (after_abstraction t y) u))))
    term_follows t (nameless y u) = then_follow (application_follows (of_term t) y)
        (more_follow (arrow_sign (of_term t) y) (term_follows (after_nameless t y) u))
    term_follows t (plain y) = application_follows (of_term t) y

  mutual
    declarations_follow : {names : List (List ℕ)} {rest : List Placed} → DeclarationBegins all names rest → AllFollow all rest all
    declarations_follow first = done
    declarations_follow (next w t) = then_follow (whole_follows w) (then_follow (term_follows (of_whole w) t) (more_follow (whole_end w t) done))

    name_follows : {names : List (List ℕ)} {form : Form} {rest : List Placed} → NameStands all names form rest → AllFollow all rest all
    name_follows (of_symbol d) = declarations_follow d
    name_follows (of_definition d) = then_follow (declarations_follow d) (more_follow (definition_word d) done)
    name_follows (of_theorem d) = then_follow (declarations_follow d) (more_follow (theorem_word d) done)

    whole_follows : {names : List (List ℕ)} {name : List ℕ} {end : Token} {rest : List Placed} → WholeBegins all names name end rest → AllFollow all rest all
    whole_follows (only_type n) = then_follow (name_follows n) (more_follow (declared_name n) (more_follow (declared_colon n) done))
    whole_follows (type_before_body b n) = then_follow (name_follows n) (more_follow (declared_name n) (more_follow (declared_colon n) done))
    whole_follows (body w t) = then_follow (whole_follows w) (then_follow (term_follows (of_whole w) t) (more_follow (whole_end w t) done))

follow_at : (all front rest : List Placed) (p : ℕ) (token : Token) → AllFollow all [] (front ++ at p token ∷ rest) → CanFollow all (at p token ∷ rest)
follow_at all [] rest p token (more_follow c h) = c
follow_at all (at q other ∷ front) rest p token (more_follow c h) = follow_at all front rest p token h

-- a token of a text can follow those before it
pub text_follows : (front more : List Placed) (p : ℕ) (token : Token) → IsText (front ++ at p token ∷ more)
    → CanFollow (front ++ at p token ∷ more) (at p token ∷ more)
text_follows front more p token h = follow_at (front ++ at p token ∷ more) front more p token (declarations_follow h.1)
