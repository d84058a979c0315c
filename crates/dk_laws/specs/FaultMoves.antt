-- What stands before a place of a text doesn't depend on what comes after it, and each place goes on to the end of some text.
use Rattle.std.proofs.Common.{◌≡◌, ℕ, refl, sym, ap, ◌∙◌, subst, Bool, List, [], ◌∷◌, ◌++◌}
use Rattle.std.proofs.lemmas.List.{append_assoc, append_cancel_right}
use Rattle.lp_spec.specs.declared.form.Form.{Form}
use Rattle.lp_spec.specs.declared.form.Form.TheVariants.{Symbol, Def, Thm}
use Rattle.lp_spec.specs.Tokens.{Token, Name, TypeWord, DefWord, ThmWord, Colon, Assign, Arrow, FatArrow, Dot, LeftParen, RightParen, Placed, at}
use Rattle.lp_spec.specs.Reading.{Scope}
use Rattle.lp_spec.specs.Faults.{BareAtom, identifier, sort, enclosed, BareArguments, none, argument, BareApplication, application, BareTerm, product, abstraction, nameless, plain, DeclarationBegins, first, next, NameStands, of_symbol, of_definition, of_theorem, WholeBegins, only_type, type_before_body, body, TermBegins, of_whole, after_product, after_abstraction, after_nameless, enclosed_term, ApplicationBegins, of_term, of_domain, AtomStands, of_application, further, IsText}
use Rattle.dk_laws.specs.FaultFollows.{CanFollow, definition_word, theorem_word, declared_name, declared_colon, whole_end, identifier_atom, sort_atom, left_parenthesis, right_parenthesis, binder_colon, arrow_sign, fat_arrow_sign, application_snoc, text_follows}

-- tokens that are put before others
pub record Prepends (g : List Placed → List Placed) : Type 0 where
  pub front : List Placed
  pub is : (rest : List Placed) → g rest ≡ front ++ rest

prepends_none : Prepends (λ rest. rest)
prepends_none = record { front = []; is = λ rest. refl }

prepends_token : (p : ℕ) (token : Token) → Prepends (λ rest. at p token ∷ rest)
prepends_token p token = record { front = at p token ∷ []; is = λ rest. refl }

prepends_then : {f g : List Placed → List Placed} → Prepends f → Prepends g → Prepends (λ rest. f (g rest))
prepends_then {f = f} {g = g} h k = record
    { front = h.front ++ k.front; is = λ rest. h.is (g rest) ∙ ap (λ r. h.front ++ r) (k.is rest) ∙ sym (append_assoc h.front k.front rest) }

-- the tokens are some before the rest, which stand so before any others
pub record Cut (S : List Placed → List Placed → Type 0) (tokens rest : List Placed) : Type 0 where
  pub g : List Placed → List Placed
  pub prepends : Prepends g
  pub is : tokens ≡ g rest
  pub moved : (other : List Placed) → S (g other) other

mutual
  cut_atom : {tokens rest : List Placed} → BareAtom tokens rest → Cut BareAtom tokens rest
  cut_atom (identifier {p = p} {name = name}) = record
      { g = λ r. at p (Name name) ∷ r; prepends = prepends_token p (Name name); is = refl; moved = λ r. identifier }
  cut_atom (sort {p = p}) = record { g = λ r. at p TypeWord ∷ r; prepends = prepends_token p TypeWord; is = refl; moved = λ r. sort }
  cut_atom (enclosed {p = p} {q = q} t) =
      let c = cut_term t in
      record {
        g = λ r. at p LeftParen ∷ c.g (at q RightParen ∷ r);
        prepends = prepends_then (prepends_token p LeftParen) (prepends_then c.prepends (prepends_token q RightParen));
        is = ap (λ r. at p LeftParen ∷ r) c.is;
        moved = λ r. enclosed (c.moved (at q RightParen ∷ r));
      }

  cut_arguments : {tokens rest : List Placed} → BareArguments tokens rest → Cut BareArguments tokens rest
  cut_arguments none = record { g = λ r. r; prepends = prepends_none; is = refl; moved = λ r. none }
  cut_arguments (argument x args) =
      let c = cut_atom x in
      let a = cut_arguments args in
      record {
        g = λ r. c.g (a.g r);
        prepends = prepends_then c.prepends a.prepends;
        is = c.is ∙ ap c.g a.is;
        moved =
            λ r. argument (c.moved (a.g r)) (a.moved r);
      }

  cut_application : {tokens rest : List Placed} → BareApplication tokens rest → Cut BareApplication tokens rest
  cut_application (application x args) =
      let c = cut_atom x in
      let a = cut_arguments args in
      record {
        g = λ r. c.g (a.g r);
        prepends = prepends_then c.prepends a.prepends;
        is = c.is ∙ ap c.g a.is;
        moved =
            λ r. application (c.moved (a.g r)) (a.moved r);
      }

  cut_term : {tokens rest : List Placed} → BareTerm tokens rest → Cut BareTerm tokens rest
  cut_term (product {p = p} {q = q} {r = r} {name = name} y t) =
      let c = cut_application y in
      let u = cut_term t in
      record {
        g = λ o. at p (Name name) ∷ at q Colon ∷ c.g (at r Arrow ∷ u.g o);
        prepends = prepends_then (prepends_token p (Name name))
            (prepends_then (prepends_token q Colon) (prepends_then c.prepends (prepends_then (prepends_token r Arrow) u.prepends)));
        is = ap (λ o. at p (Name name) ∷ at q Colon ∷ o) (c.is ∙ ap (λ o. c.g (at r Arrow ∷ o)) u.is);
        moved = λ o. product (c.moved (at r Arrow ∷ u.g o)) (u.moved o);
      }
  cut_term (abstraction {p = p} {q = q} {r = r} {name = name} y t) =
      let c = cut_application y in
      let u = cut_term t in
      record {
        g = λ o. at p (Name name) ∷ at q Colon ∷ c.g (at r FatArrow ∷ u.g o);
        prepends = prepends_then (prepends_token p (Name name))
            (prepends_then (prepends_token q Colon) (prepends_then c.prepends (prepends_then (prepends_token r FatArrow) u.prepends)));
        is = ap (λ o. at p (Name name) ∷ at q Colon ∷ o) (c.is ∙ ap (λ o. c.g (at r FatArrow ∷ o)) u.is);
        moved = λ o. abstraction (c.moved (at r FatArrow ∷ u.g o)) (u.moved o);
      }
  cut_term (nameless {r = r} y t) =
      let c = cut_application y in
      let u = cut_term t in
      record {
        g = λ o. c.g (at r Arrow ∷ u.g o);
        prepends = prepends_then c.prepends (prepends_then (prepends_token r Arrow) u.prepends);
        is = c.is ∙ ap (λ o. c.g (at r Arrow ∷ o)) u.is;
        moved = λ o. nameless (c.moved (at r Arrow ∷ u.g o)) (u.moved o);
      }
  cut_term (plain y) = let c = cut_application y in record { g = c.g; prepends = c.prepends; is = c.is; moved = λ o. plain (c.moved o) }

-- a type, or a type and a body, and what ends them
abbrev rest_of : Form → List Placed
rest_of Symbol = at 0 TypeWord ∷ at 0 Dot ∷ []
rest_of Def = at 0 TypeWord ∷ at 0 Assign ∷ at 0 TypeWord ∷ at 0 Dot ∷ []
rest_of Thm = at 0 TypeWord ∷ at 0 Assign ∷ at 0 TypeWord ∷ at 0 Dot ∷ []

abbrev rest_after : Token → List Placed
rest_after Assign = at 0 TypeWord ∷ at 0 Dot ∷ []
rest_after _ = []

only_sort : {rest : List Placed} {p : ℕ} → BareTerm (at p TypeWord ∷ rest) rest
only_sort = plain (application sort none)

end_text : {all : List Placed} {names : List (List ℕ)} {name : List ℕ} {end : Token} {tokens : List Placed} (p : ℕ) → WholeBegins all names name end tokens
    → BareTerm tokens (at p end ∷ rest_after end) → IsText all
end_text {names = names} {name = name} p (only_type n) t = (names ++ name ∷ [], next (only_type n) t)
end_text {names = names} {name = name} p (type_before_body b n) t = (names ++ name ∷ [], next (body (type_before_body b n) t) only_sort)
end_text {names = names} {name = name} p (body w u) t = (names ++ name ∷ [], next (body w u) t)

name_text : {all : List Placed} {names : List (List ℕ)} (form : Form) (name : List ℕ) (p q : ℕ)
    → NameStands all names form (at p (Name name) ∷ at q Colon ∷ rest_of form) → IsText all
name_text Symbol name p q n = end_text 0 (only_type n) only_sort
name_text Def name p q n = end_text 0 (type_before_body tt n) only_sort
name_text Thm name p q n = end_text 0 (type_before_body tt n) only_sort

-- a place of a text, which stands so before any tokens, and ends a text with the tail after what is to stand there
record Place (S : List Placed → List Placed → Type 0) (T : List Placed → List Placed → Type 0) (all rest : List Placed) : Type 0 where
  g : List Placed → List Placed
  prepends : Prepends g
  is : all ≡ g rest
  moved : (other : List Placed) → S (g other) other
  tail : List Placed
  text : (tokens : List Placed) → T tokens tail → IsText (g tokens)

abbrev declaration_at : List (List ℕ) → List Placed → List Placed → Type 0
declaration_at names all tokens = DeclarationBegins all names tokens

abbrev name_at : List (List ℕ) → Form → List Placed → List Placed → Type 0
name_at names form all tokens = NameStands all names form tokens

abbrev whole_at : List (List ℕ) → List ℕ → Token → List Placed → List Placed → Type 0
whole_at names name end all tokens = WholeBegins all names name end tokens

abbrev term_at : List (List ℕ) → Scope → List Placed → List Placed → Type 0
term_at names scope all tokens = TermBegins all names scope tokens

abbrev application_at : List (List ℕ) → Scope → Bool → List Placed → List Placed → Type 0
application_at names scope binder all tokens = ApplicationBegins all names scope binder tokens

abbrev atom_at : List (List ℕ) → Scope → Bool → List Placed → List Placed → Type 0
atom_at names scope binder all tokens = AtomStands all names scope binder tokens

module _ {all : List Placed} where
  mutual
    cut_declaration : {names : List (List ℕ)} {tokens : List Placed} → DeclarationBegins all names tokens → Cut (declaration_at names) all tokens
    cut_declaration first = record { g = λ r. r; prepends = prepends_none; is = refl; moved = λ r. first }
    cut_declaration (next {p = p} w t) =
        let c = cut_whole w in
        let u = cut_term t in
        record {
          g = λ r. c.g (u.g (at p Dot ∷ r));
          prepends = prepends_then c.prepends (prepends_then u.prepends (prepends_token p Dot));
          is = c.is ∙ ap c.g u.is;
          moved = λ r. next (c.moved (u.g (at p Dot ∷ r))) (u.moved (at p Dot ∷ r));
        }

    cut_name : {names : List (List ℕ)} {form : Form} {tokens : List Placed} → NameStands all names form tokens → Cut (name_at names form) all tokens
    cut_name (of_symbol d) = let c = cut_declaration d in record { g = c.g; prepends = c.prepends; is = c.is; moved = λ r. of_symbol (c.moved r) }
    cut_name (of_definition {p = p} d) = let c = cut_declaration d in record {
      g = λ r. c.g (at p DefWord ∷ r);
      prepends = prepends_then c.prepends (prepends_token p DefWord);
      is = c.is;
      moved =
          λ r. of_definition (c.moved (at p DefWord ∷ r));
    }
    cut_name (of_theorem {p = p} d) = let c = cut_declaration d in record {
      g = λ r. c.g (at p ThmWord ∷ r);
      prepends = prepends_then c.prepends (prepends_token p ThmWord);
      is = c.is;
      moved =
          λ r. of_theorem (c.moved (at p ThmWord ∷ r));
    }

    cut_whole : {names : List (List ℕ)} {name : List ℕ} {end : Token} {tokens : List Placed} → WholeBegins all names name end tokens
        → Cut (whole_at names name end) all tokens
    cut_whole (only_type {name = name} {p = p} {q = q} n) =
        let c = cut_name n in
        record {
          g = λ r. c.g (at p (Name name) ∷ at q Colon ∷ r);
          prepends = prepends_then c.prepends (prepends_then (prepends_token p (Name name)) (prepends_token q Colon));
          is = c.is;
          moved = λ r. only_type (c.moved (at p (Name name) ∷ at q Colon ∷ r));
        }
    cut_whole (type_before_body {name = name} {p = p} {q = q} b n) =
        let c = cut_name n in
        record {
          g = λ r. c.g (at p (Name name) ∷ at q Colon ∷ r);
          prepends = prepends_then c.prepends (prepends_then (prepends_token p (Name name)) (prepends_token q Colon));
          is = c.is;
          moved = λ r. type_before_body b (c.moved (at p (Name name) ∷ at q Colon ∷ r));
        }
    cut_whole (body {p = p} w t) =
        let c = cut_whole w in
        let u = cut_term t in
        record {
          g = λ r. c.g (u.g (at p Assign ∷ r));
          prepends = prepends_then c.prepends (prepends_then u.prepends (prepends_token p Assign));
          is = c.is ∙ ap c.g u.is;
          moved = λ r. body (c.moved (u.g (at p Assign ∷ r))) (u.moved (at p Assign ∷ r));
        }

  module _ {names : List (List ℕ)} where
    mutual
      place_term : {scope : Scope} {tokens : List Placed} → TermBegins all names scope tokens → Place (term_at names scope) BareTerm all tokens
      place_term (of_whole {end = end} w) =
          let c = cut_whole w in
          record {
            g = c.g;
            prepends = c.prepends;
            is = c.is;
            moved = λ r. of_whole (c.moved r);
            tail = at 0 end ∷ rest_after end;
            text =
                λ tokens t. end_text 0 (c.moved tokens) t;
          }
      place_term (after_product {name = name} {p = p} {q = q} {r = r} t y) =
          let c = place_term t in
          let u = cut_application y in
          record {
            g = λ o. c.g (at p (Name name) ∷ at q Colon ∷ u.g (at r Arrow ∷ o));
            prepends = prepends_then c.prepends
                (prepends_then (prepends_token p (Name name)) (prepends_then (prepends_token q Colon) (prepends_then u.prepends (prepends_token r Arrow))));
            is = c.is ∙ ap (λ o. c.g (at p (Name name) ∷ at q Colon ∷ o)) u.is;
            moved = λ o. after_product (c.moved (at p (Name name) ∷ at q Colon ∷ u.g (at r Arrow ∷ o))) (u.moved (at r Arrow ∷ o));
            tail = c.tail;
            text = λ tokens v. c.text (at p (Name name) ∷ at q Colon ∷ u.g (at r Arrow ∷ tokens)) (product (u.moved (at r Arrow ∷ tokens)) v);
          }
      place_term (after_abstraction {name = name} {p = p} {q = q} {r = r} t y) =
          let c = place_term t in
          let u = cut_application y in
          record {
            g = λ o. c.g (at p (Name name) ∷ at q Colon ∷ u.g (at r FatArrow ∷ o));
            prepends = prepends_then c.prepends
                (prepends_then (prepends_token p (Name name)) (prepends_then (prepends_token q Colon) (prepends_then u.prepends (prepends_token r FatArrow))));
            is = c.is ∙ ap (λ o. c.g (at p (Name name) ∷ at q Colon ∷ o)) u.is;
            moved = λ o. after_abstraction (c.moved (at p (Name name) ∷ at q Colon ∷ u.g (at r FatArrow ∷ o))) (u.moved (at r FatArrow ∷ o));
            tail = c.tail;
            text = λ tokens v. c.text (at p (Name name) ∷ at q Colon ∷ u.g (at r FatArrow ∷ tokens)) (abstraction (u.moved (at r FatArrow ∷ tokens)) v);
          }
      place_term (after_nameless {r = r} t y) =
          let c = place_term t in
          let u = cut_application y in
          record {
            g = λ o. c.g (u.g (at r Arrow ∷ o));
            prepends = prepends_then c.prepends (prepends_then u.prepends (prepends_token r Arrow));
            is = c.is ∙ ap c.g u.is;
            moved = λ o. after_nameless (c.moved (u.g (at r Arrow ∷ o))) (u.moved (at r Arrow ∷ o));
            tail = c.tail;
            text = λ tokens v. c.text (u.g (at r Arrow ∷ tokens)) (nameless (u.moved (at r Arrow ∷ tokens)) v);
          }
      place_term (enclosed_term {p = p} a) =
          let c = place_atom a in
          record {
            g = λ o. c.g (at p LeftParen ∷ o);
            prepends = prepends_then c.prepends (prepends_token p LeftParen);
            is = c.is;
            moved = λ o. enclosed_term (c.moved (at p LeftParen ∷ o));
            tail = at 0 RightParen ∷ c.tail;
            text = λ tokens v. c.text (at p LeftParen ∷ tokens) (enclosed v);
          }

      place_application : {scope : Scope} {binder : Bool} {tokens : List Placed} → ApplicationBegins all names scope binder tokens
          → Place (application_at names scope binder) BareApplication all tokens
      place_application (of_term t) =
          let c = place_term t in
          record { g = c.g; prepends = c.prepends; is = c.is; moved = λ o. of_term (c.moved o); tail = c.tail; text = λ tokens y. c.text tokens (plain y) }
      place_application (of_domain {name = name} {p = p} {q = q} t) =
          let c = place_term t in
          record {
            g = λ o. c.g (at p (Name name) ∷ at q Colon ∷ o);
            prepends = prepends_then c.prepends (prepends_then (prepends_token p (Name name)) (prepends_token q Colon));
            is = c.is;
            moved = λ o. of_domain (c.moved (at p (Name name) ∷ at q Colon ∷ o));
            tail = at 0 Arrow ∷ at 0 TypeWord ∷ c.tail;
            text = λ tokens y. c.text (at p (Name name) ∷ at q Colon ∷ tokens) (product y only_sort);
          }

      place_atom : {scope : Scope} {binder : Bool} {tokens : List Placed} → AtomStands all names scope binder tokens
          → Place (atom_at names scope binder) BareAtom all tokens
      place_atom (of_application a) =
          let c = place_application a in
          record {
            g = c.g;
            prepends = c.prepends;
            is = c.is;
            moved = λ o. of_application (c.moved o);
            tail = c.tail;
            text =
                λ tokens x. c.text tokens (application x none);
          }
      place_atom (further a y) =
          let c = place_application a in
          let u = cut_application y in
          record {
            g = λ o. c.g (u.g o);
            prepends = prepends_then c.prepends u.prepends;
            is = c.is ∙ ap c.g u.is;
            moved = λ o. further (c.moved (u.g o)) (u.moved o);
            tail = c.tail;
            text = λ tokens x. c.text (u.g tokens) (application_snoc (u.moved tokens) x);
          }

-- a token that can follow those before it can so before any others, and before some that end a text
record FollowCut (all : List Placed) (p : ℕ) (token : Token) (rest : List Placed) : Type 0 where
  g : List Placed → List Placed
  prepends : Prepends g
  is : all ≡ g (at p token ∷ rest)
  moved : (other : List Placed) → CanFollow (g (at p token ∷ other)) (at p token ∷ other)
  more : List Placed
  text : IsText (g (at p token ∷ more))

abbrev FollowCutAt : List Placed → List Placed → Type 0
FollowCutAt all [] = ⊥
FollowCutAt all (at p token ∷ rest) = FollowCut all p token rest

follow_cut : {all tokens : List Placed} → CanFollow all tokens → FollowCutAt all tokens
follow_cut (definition_word {p = p} d) =
    let c = cut_declaration d in
    record {
      g = c.g;
      prepends = c.prepends;
      is = c.is;
      moved = λ r. definition_word (c.moved (at p DefWord ∷ r));
      more =
          at 0 (Name []) ∷ at 0 Colon ∷ rest_of Def;
      text = name_text Def [] 0 0
          (of_definition (c.moved (at p DefWord ∷ at 0 (Name []) ∷ at 0 Colon ∷ rest_of Def)));
    }
follow_cut (theorem_word {p = p} d) =
    let c = cut_declaration d in
    record {
      g = c.g;
      prepends = c.prepends;
      is = c.is;
      moved = λ r. theorem_word (c.moved (at p ThmWord ∷ r));
      more =
          at 0 (Name []) ∷ at 0 Colon ∷ rest_of Thm;
      text = name_text Thm [] 0 0 (of_theorem (c.moved (at p ThmWord ∷ at 0 (Name []) ∷ at 0 Colon ∷ rest_of Thm)));
    }
follow_cut (declared_name {form = form} {name = name} {p = p} n) =
    let c = cut_name n in
    record {
      g = c.g;
      prepends = c.prepends;
      is = c.is;
      moved = λ r. declared_name (c.moved (at p (Name name) ∷ r));
      more = at 0 Colon ∷ rest_of form;
      text =
          name_text form name p 0 (c.moved (at p (Name name) ∷ at 0 Colon ∷ rest_of form));
    }
follow_cut (declared_colon {form = form} {name = name} {p = p} {q = q} n) =
    let c = cut_name n in
    record {
      g = λ r. c.g (at p (Name name) ∷ r);
      prepends = prepends_then c.prepends (prepends_token p (Name name));
      is = c.is;
      moved =
          λ r. declared_colon (c.moved (at p (Name name) ∷ at q Colon ∷ r));
      more = rest_of form;
      text =
          name_text form name p q (c.moved (at p (Name name) ∷ at q Colon ∷ rest_of form));
    }
follow_cut (whole_end {end = end} {p = p} w t) =
    let c = cut_whole w in
    let u = cut_term t in
    record {
      g = λ r. c.g (u.g r);
      prepends = prepends_then c.prepends u.prepends;
      is = c.is ∙ ap c.g u.is;
      moved = λ r. whole_end (c.moved (u.g (at p end ∷ r))) (u.moved (at p end ∷ r));
      more = rest_after end;
      text = end_text p (c.moved (u.g (at p end ∷ rest_after end))) (u.moved (at p end ∷ rest_after end));
    }
follow_cut (identifier_atom {name = name} {p = p} a) =
    let c = place_atom a in
    record {
      g = c.g;
      prepends = c.prepends;
      is = c.is;
      moved = λ r. identifier_atom (c.moved (at p (Name name) ∷ r));
      more = c.tail;
      text =
          c.text (at p (Name name) ∷ c.tail) identifier;
    }
follow_cut (sort_atom {p = p} a) =
    let c = place_atom a in
    record {
      g = c.g;
      prepends = c.prepends;
      is = c.is;
      moved = λ r. sort_atom (c.moved (at p TypeWord ∷ r));
      more = c.tail;
      text =
          c.text (at p TypeWord ∷ c.tail) sort;
    }
follow_cut (left_parenthesis {p = p} a) =
    let c = place_atom a in
    record {
      g = c.g;
      prepends = c.prepends;
      is = c.is;
      moved = λ r. left_parenthesis (c.moved (at p LeftParen ∷ r));
      more =
          at 0 TypeWord ∷ at 0 RightParen ∷ c.tail;
      text = c.text (at p LeftParen ∷ at 0 TypeWord ∷ at 0 RightParen ∷ c.tail) (enclosed only_sort);
    }
follow_cut (right_parenthesis {p = p} {q = q} a t) =
    let c = place_atom a in
    let u = cut_term t in
    record {
      g = λ r. c.g (at p LeftParen ∷ u.g r);
      prepends = prepends_then c.prepends (prepends_then (prepends_token p LeftParen) u.prepends);
      is = c.is ∙ ap (λ r. c.g (at p LeftParen ∷ r)) u.is;
      moved = λ r. right_parenthesis (c.moved (at p LeftParen ∷ u.g (at q RightParen ∷ r))) (u.moved (at q RightParen ∷ r));
      more = c.tail;
      text = c.text (at p LeftParen ∷ u.g (at q RightParen ∷ c.tail)) (enclosed (u.moved (at q RightParen ∷ c.tail)));
    }
follow_cut (binder_colon {name = name} {p = p} {q = q} t) =
    let c = place_term t in
    record {
      g = λ r. c.g (at p (Name name) ∷ r);
      prepends = prepends_then c.prepends (prepends_token p (Name name));
      is = c.is;
      moved = λ r. binder_colon (c.moved (at p (Name name) ∷ at q Colon ∷ r));
      more = at 0 TypeWord ∷ at 0 Arrow ∷ at 0 TypeWord ∷ c.tail;
      text = c.text (at p (Name name) ∷ at q Colon ∷ at 0 TypeWord ∷ at 0 Arrow ∷ at 0 TypeWord ∷ c.tail) (product (application sort none) only_sort);
    }
follow_cut (arrow_sign {p = o} (of_term t) y) =
    let c = place_term t in
    let u = cut_application y in
    record {
      g = λ r. c.g (u.g r);
      prepends = prepends_then c.prepends u.prepends;
      is = c.is ∙ ap c.g u.is;
      moved = λ r. arrow_sign (of_term (c.moved (u.g (at o Arrow ∷ r)))) (u.moved (at o Arrow ∷ r));
      more = at 0 TypeWord ∷ c.tail;
      text = c.text (u.g (at o Arrow ∷ at 0 TypeWord ∷ c.tail)) (nameless (u.moved (at o Arrow ∷ at 0 TypeWord ∷ c.tail)) only_sort);
    }
follow_cut (arrow_sign {p = o} (of_domain {name = name} {p = p} {q = q} t) y) =
    let c = place_term t in
    let u = cut_application y in
    record {
      g = λ r. c.g (at p (Name name) ∷ at q Colon ∷ u.g r);
      prepends = prepends_then c.prepends (prepends_then (prepends_token p (Name name)) (prepends_then (prepends_token q Colon) u.prepends));
      is = c.is ∙ ap (λ r. c.g (at p (Name name) ∷ at q Colon ∷ r)) u.is;
      moved = λ r. arrow_sign (of_domain (c.moved (at p (Name name) ∷ at q Colon ∷ u.g (at o Arrow ∷ r)))) (u.moved (at o Arrow ∷ r));
      more = at 0 TypeWord ∷ c.tail;
      text = c.text (at p (Name name) ∷ at q Colon ∷ u.g (at o Arrow ∷ at 0 TypeWord ∷ c.tail))
          (product (u.moved (at o Arrow ∷ at 0 TypeWord ∷ c.tail)) only_sort);
    }
follow_cut (fat_arrow_sign {name = name} {p = p} {q = q} {r = o} t y) =
    let c = place_term t in
    let u = cut_application y in
    record {
      g = λ r. c.g (at p (Name name) ∷ at q Colon ∷ u.g r);
      prepends = prepends_then c.prepends (prepends_then (prepends_token p (Name name)) (prepends_then (prepends_token q Colon) u.prepends));
      is = c.is ∙ ap (λ r. c.g (at p (Name name) ∷ at q Colon ∷ r)) u.is;
      moved = λ r. fat_arrow_sign (c.moved (at p (Name name) ∷ at q Colon ∷ u.g (at o FatArrow ∷ r))) (u.moved (at o FatArrow ∷ r));
      more = at 0 TypeWord ∷ c.tail;
      text = c.text (at p (Name name) ∷ at q Colon ∷ u.g (at o FatArrow ∷ at 0 TypeWord ∷ c.tail))
          (abstraction (u.moved (at o FatArrow ∷ at 0 TypeWord ∷ c.tail)) only_sort);
    }

-- what is put before the same tokens is the same
same_front : {g : List Placed → List Placed} (h : Prepends g) (all front tokens : List Placed) → all ≡ g tokens → all ≡ front ++ tokens → h.front ≡ front
same_front h all front tokens i k = append_cancel_right h.front front tokens (sym (h.is tokens) ∙ sym i ∙ k)

-- a token that can follow begins, with those before it, some text
pub follows-text : (all front rest : List Placed) (p : ℕ) (token : Token) → all ≡ front ++ at p token ∷ rest → CanFollow all (at p token ∷ rest)
    → (more : List Placed) × IsText (front ++ at p token ∷ more)
follows-text all front rest p token i c =
    let f = follow_cut c in (
      f.more,
      subst IsText (f.prepends.is (at p token ∷ f.more)
          ∙ ap (λ w. w ++ at p token ∷ f.more) (same_front f.prepends all front (at p token ∷ rest) f.is i)) f.text,
    )

-- a token that begins, with those before it, some text can follow them
pub text-follows : (all front rest more : List Placed) (p : ℕ) (token : Token) → all ≡ front ++ at p token ∷ rest → IsText (front ++ at p token ∷ more)
    → CanFollow all (at p token ∷ rest)
text-follows all front rest more p token i h =
    let f = follow_cut (text_follows front more p token h) in
    subst (λ w. CanFollow w (at p token ∷ rest)) (f.prepends.is (at p token ∷ rest)
    ∙ ap (λ w. w ++ at p token ∷ rest) (same_front f.prepends (front ++ at p token ∷ more) front (at p token ∷ more) f.is refl) ∙ sym i) (f.moved rest)
