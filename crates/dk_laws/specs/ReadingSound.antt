-- A text that is not refused is of the grammar.
use Rattle.std.proofs.Common.{◌≡◌, ℕ, ◌≤◌, refl, subst, Bool, true, false, List, [], ◌∷◌, ◌++◌, Option, None, Some, arith}
use Rattle.std.specs.Prelude.{nat_le, if◌then◌else◌}
use Rattle.std.proofs.lemmas.Grind.{common_steps}
use Rattle.lp_spec.specs.declared.form.Form.{Form}
use Rattle.lp_spec.specs.declared.form.Form.TheVariants.{Symbol, Def, Thm}
use Rattle.lp_spec.specs.Trees.{Tree, Lam, Pi, depth}
use Rattle.lp_spec.specs.Modules.{Declaration, signature}
use Rattle.lp_spec.specs.ModuleOrder.{is_declared}
use Rattle.lp_spec.specs.Tokens.{Token, Name, TypeWord, DefWord, ThmWord, Colon, Assign, Arrow, FatArrow, Dot, LeftParen, RightParen, Placed, at, End, ended, stuck}
use Rattle.lp_spec.specs.Reading.{variable_of, symbol_of, max_depth, Atom, variable, symbol, sort, enclosed, Arguments, none, argument, Application, application, Term, product, abstraction, nameless, plain, IsNew, symbol_declaration, definition, theorem, Completes, complete, next}
use Rattle.lp_spec.specs.ReadingFaults.{Frame, Enclosing, Domain, Product, Abstraction, scope_of, Head, TypeOf, BodyOf, State, Between, AfterKeyword, AfterName, AtTerm, AfterFirst, InApplication, Outcome, Goes, Stops, stops, meant, meaning, argued, atom, encloses, whole, declares, assigns, arrow, fat_arrow, applies, goes_on, advance, advance_all, reads, answers, NameTwice, DkTooDeep}

-- After a term t, or after what an application is so far, or after an application, these tokens go on to all declarations.
mutual
  data Ends (m all : List Declaration) : Head → List Frame → Tree → List Placed → Type 0 where
    ends_symbol : {name : List ℕ} {t : Tree} {p : ℕ} {rest : List Placed} → depth t ≤ max_depth
        → Completes (m ++ record { name = name; form = Symbol; ty = t; body = None } ∷ []) rest all → Ends m all (TypeOf Symbol name) [] t (at p Dot ∷ rest)
    ends_definition : {name : List ℕ} {t b : Tree} {p : ℕ} {tokens rest : List Placed} → depth t ≤ max_depth → Term m [] tokens rest b
        → Ends m all (BodyOf Def name t) [] b rest → Ends m all (TypeOf Def name) [] t (at p Assign ∷ tokens)
    ends_theorem : {name : List ℕ} {t b : Tree} {p : ℕ} {tokens rest : List Placed} → depth t ≤ max_depth → Term m [] tokens rest b
        → Ends m all (BodyOf Thm name t) [] b rest → Ends m all (TypeOf Thm name) [] t (at p Assign ∷ tokens)
    ends_body : {form : Form} {name : List ℕ} {ty t : Tree} {p : ℕ} {rest : List Placed} → depth t ≤ max_depth
        → Completes (m ++ record { name = name; form = form; ty = ty; body = Some t } ∷ []) rest all → Ends m all (BodyOf form name ty) [] t (at p Dot ∷ rest)
    ends_product : {head : Head} {frames : List Frame} {name : List ℕ} {a t : Tree} {tokens : List Placed} → Ends m all head frames (Pi a t) tokens
        → Ends m all head (Product name a ∷ frames) t tokens
    ends_abstraction : {head : Head} {frames : List Frame} {name : List ℕ} {a t : Tree} {tokens : List Placed} → Ends m all head frames (Lam a t) tokens
        → Ends m all head (Abstraction name a ∷ frames) t tokens
    ends_enclosed : {head : Head} {frames : List Frame} {f : Option Tree} {t : Tree} {p : ℕ} {tokens : List Placed}
        → Argued m all head frames (argued f t) tokens → Ends m all head (Enclosing f ∷ frames) t (at p RightParen ∷ tokens)

  data Argued (m all : List Declaration) : Head → List Frame → Tree → List Placed → Type 0 where
    arguments_then : {head : Head} {frames : List Frame} {f g : Tree} {tokens rest : List Placed} → Arguments m (scope_of frames) f tokens rest g
        → Follows m all head frames g rest → Argued m all head frames f tokens

  data Follows (m all : List Declaration) : Head → List Frame → Tree → List Placed → Type 0 where
    product_then : {head : Head} {frames : List Frame} {name : List ℕ} {a b : Tree} {p : ℕ} {tokens rest : List Placed}
        → Term m (name ∷ scope_of frames) tokens rest b → Ends m all head frames (Pi a b) rest
        → Follows m all head (Domain name ∷ frames) a (at p Arrow ∷ tokens)
    abstraction_then : {head : Head} {frames : List Frame} {name : List ℕ} {a b : Tree} {p : ℕ} {tokens rest : List Placed}
        → Term m (name ∷ scope_of frames) tokens rest b → Ends m all head frames (Lam a b) rest
        → Follows m all head (Domain name ∷ frames) a (at p FatArrow ∷ tokens)
    nameless_then : {head : Head} {frames : List Frame} {a b : Tree} {p : ℕ} {tokens rest : List Placed} → Term m ([] ∷ scope_of frames) tokens rest b
        → Ends m all head frames (Pi a b) rest → Follows m all head frames a (at p Arrow ∷ tokens)
    plain_then : {head : Head} {frames : List Frame} {a : Tree} {tokens : List Placed} → Ends m all head frames a tokens → Follows m all head frames a tokens

data Asked (m all : List Declaration) : Head → List Frame → List Placed → Type 0 where
  atom_then : {head : Head} {frames : List Frame} {tokens rest : List Placed} {x : Tree} → Atom m (scope_of frames) tokens rest x
      → Argued m all head frames x rest → Asked m all head frames tokens

-- the tokens begin with a term, and go on to all declarations
data Begun (m all : List Declaration) : Head → List Frame → List Placed → Type 0 where
  term_then : {head : Head} {frames : List Frame} {tokens rest : List Placed} {t : Tree} → Term m (scope_of frames) tokens rest t
      → Ends m all head frames t rest → Begun m all head frames tokens
  domain_then : {head : Head} {frames : List Frame} {name : List ℕ} {tokens : List Placed} → Asked m all head (Domain name ∷ frames) tokens
      → Begun m all head (Domain name ∷ frames) tokens

data Named (m all : List Declaration) : Form → List ℕ → List Placed → Type 0 where
  colon_then : {form : Form} {name : List ℕ} {p : ℕ} {tokens : List Placed} → Begun m all (TypeOf form name) [] tokens
      → Named m all form name (at p Colon ∷ tokens)

data Keyed (m all : List Declaration) : Form → List Placed → Type 0 where
  name_then : {form : Form} {name : List ℕ} {p : ℕ} {tokens : List Placed} → IsNew m name → Named m all form name tokens
      → Keyed m all form (at p (Name name) ∷ tokens)

-- the tokens go on from a state to all declarations
abbrev Applies : List Declaration → List Declaration → Head → List Frame → Option Tree → List Placed → Type 0
Applies m all head frames None tokens = Asked m all head frames tokens
Applies m all head frames (Some f) tokens = Argued m all head frames f tokens

abbrev GoesOn : List Declaration → List Declaration → State → List Placed → Type 0
GoesOn m all Between tokens = Completes m tokens all
GoesOn m all (AfterKeyword form) tokens = Keyed m all form tokens
GoesOn m all (AfterName form name) tokens = Named m all form name tokens
GoesOn m all (AtTerm head frames) tokens = Begun m all head frames tokens
GoesOn m all (AfterFirst head frames p name) tokens = Begun m all head frames (at p (Name name) ∷ tokens)
GoesOn m all (InApplication head frames f) tokens = Applies m all head frames f tokens

abbrev GoesFrom : List Declaration → Outcome → List Placed → Type 0
GoesFrom all (Stops r) tokens = ⊥
GoesFrom all (Goes m state) tokens = GoesOn m all state tokens

-- an identifier that means a tree is an atom
meant_atom : (m : List Declaration) (frames : List Frame) (name : List ℕ) (p : ℕ) (rest : List Placed) (x : Tree) (v s : Option ℕ)
    → variable_of (scope_of frames) name ≡ v → symbol_of m name ≡ s → meant m v s ≡ Some x → Atom m (scope_of frames) (at p (Name name) ∷ rest) rest x
meant_atom m frames name p rest x (Some n) s ev es e = subst (Atom m (scope_of frames) (at p (Name name) ∷ rest) rest) (cc) (variable {p = p} ev)
meant_atom m frames name p rest x None (Some s) ev es e = subst (Atom m (scope_of frames) (at p (Name name) ∷ rest) rest) (cc) (symbol {p = p} ev es)
meant_atom m frames name p rest x None None ev es e = absurd (cc)

pub named_atom : (m : List Declaration) (frames : List Frame) (name : List ℕ) (p : ℕ) (rest : List Placed) (x : Tree) → meaning m frames name ≡ Some x
    → Atom m (scope_of frames) (at p (Name name) ∷ rest) rest x
named_atom m frames name p rest x e = meant_atom m frames name p rest x (variable_of (scope_of frames) name) (symbol_of m name) refl refl e

module _ (m all : List Declaration) where
  -- an atom after what it is an argument of, if anything
  atom_goes : (head : Head) {frames : List Frame} {tokens rest : List Placed} {x : Tree} (f : Option Tree) → Atom m (scope_of frames) tokens rest x
      → Argued m all head frames (argued f x) rest → Applies m all head frames f tokens
  atom_goes head None a h = atom_then a h
  atom_goes head (Some f) a (arguments_then args h) = arguments_then (argument a args) h

  plain_goes : (head : Head) {frames : List Frame} {t : Tree} {tokens : List Placed} → Ends m all head frames t tokens → Argued m all head frames t tokens
  plain_goes head h = arguments_then none (plain_then h)

  name_goes : (head : Head) (frames : List Frame) (rest : List Placed) (f : Option Tree) (name : List ℕ) (p : ℕ) (o : Option Tree) → meaning m frames name ≡ o
      → GoesFrom all (atom m head frames f p name o) rest → Applies m all head frames f (at p (Name name) ∷ rest)
  name_goes head frames rest f name p None e h = absurd h
  name_goes head frames rest f name p (Some x) e h = atom_goes head f (named_atom m frames name p rest x e) h

  parenthesis_goes : (head : Head) {frames : List Frame} {tokens : List Placed} (p : ℕ) (f : Option Tree) → Begun m all head (Enclosing f ∷ frames) tokens
      → Applies m all head frames f (at p LeftParen ∷ tokens)
  parenthesis_goes head p f (term_then t (ends_enclosed h)) = atom_goes head f (enclosed t) h

  encloses_goes : (head : Head) (frames : List Frame) (t : Tree) (p : ℕ) (tokens : List Placed) → GoesFrom all (encloses m head frames t p) tokens
      → Ends m all head frames t (at p RightParen ∷ tokens)
  encloses_goes head [] t p tokens h = absurd h
  encloses_goes head (Enclosing f ∷ frames) t p tokens h = ends_enclosed h
  encloses_goes head (Domain name ∷ frames) t p tokens h = absurd h
  encloses_goes head (Product name a ∷ frames) t p tokens h = ends_product (encloses_goes head frames (Pi a t) p tokens h)
  encloses_goes head (Abstraction name a ∷ frames) t p tokens h = ends_abstraction (encloses_goes head frames (Lam a t) p tokens h)

  domain_goes : (head : Head) {frames : List Frame} {name : List ℕ} {a : Tree} {tokens : List Placed} {p : ℕ}
      → Begun m all head (Product name a ∷ frames) tokens → Follows m all head (Domain name ∷ frames) a (at p Arrow ∷ tokens)
  domain_goes head (term_then t (ends_product h)) = product_then t h

  abstracted_goes : (head : Head) {frames : List Frame} {name : List ℕ} {a : Tree} {tokens : List Placed} {p : ℕ}
      → Begun m all head (Abstraction name a ∷ frames) tokens → Follows m all head (Domain name ∷ frames) a (at p FatArrow ∷ tokens)
  abstracted_goes head (term_then t (ends_abstraction h)) = abstraction_then t h

  nameless_goes : (head : Head) {frames : List Frame} {a : Tree} {tokens : List Placed} {p : ℕ} → Begun m all head (Product [] a ∷ frames) tokens
      → Follows m all head frames a (at p Arrow ∷ tokens)
  nameless_goes head (term_then t (ends_product h)) = nameless_then t h

  arrow_goes : (head : Head) (frames : List Frame) (a : Tree) (p : ℕ) (tokens : List Placed) → GoesFrom all (arrow m head frames a) tokens
      → Follows m all head frames a (at p Arrow ∷ tokens)
  arrow_goes head (Domain name ∷ frames) a p tokens h = domain_goes head h
  arrow_goes head [] a p tokens h = nameless_goes head h
  arrow_goes head (Enclosing f ∷ frames) a p tokens h = nameless_goes head h
  arrow_goes head (Product name b ∷ frames) a p tokens h = nameless_goes head h
  arrow_goes head (Abstraction name b ∷ frames) a p tokens h = nameless_goes head h

  fat_arrow_goes : (head : Head) (frames : List Frame) (a : Tree) (p : ℕ) (tokens : List Placed) → GoesFrom all (fat_arrow m head frames a p) tokens
      → Follows m all head frames a (at p FatArrow ∷ tokens)
  fat_arrow_goes head (Domain name ∷ frames) a p tokens h = abstracted_goes head h
  fat_arrow_goes head _ a p tokens h = absurd h

-- a tree that isn't too deep
shallow : (all : List Declaration) (t : Tree) (p : ℕ) (o : Outcome) (tokens : List Placed) (b : Bool) → nat_le (depth t) max_depth ≡ b
    → GoesFrom all (if b then o else stops p DkTooDeep) tokens → (depth t ≤ max_depth) × GoesFrom all o tokens
shallow all t p o tokens true e h = (grind (arith, common_steps, e), h)
shallow all t p o tokens false e h = absurd h

module _ (m all : List Declaration) where
  declares_goes : (head : Head) (frames : List Frame) (t : Tree) (p : ℕ) (tokens : List Placed) → GoesFrom all (declares m head (whole frames t) p) tokens
      → Ends m all head frames t (at p Dot ∷ tokens)
  declares_goes (TypeOf Symbol name) [] t p tokens h = let r = shallow all t p _ tokens (nat_le (depth t) max_depth) refl h in ends_symbol r.0 r.1
  declares_goes (TypeOf Def name) [] t p tokens h = absurd h
  declares_goes (TypeOf Thm name) [] t p tokens h = absurd h
  declares_goes (BodyOf form name ty) [] t p tokens h = let r = shallow all t p _ tokens (nat_le (depth t) max_depth) refl h in ends_body r.0 r.1
  declares_goes head (Enclosing f ∷ frames) t p tokens h = absurd h
  declares_goes head (Domain name ∷ frames) t p tokens h = absurd h
  declares_goes head (Product name a ∷ frames) t p tokens h = ends_product (declares_goes head frames (Pi a t) p tokens h)
  declares_goes head (Abstraction name a ∷ frames) t p tokens h = ends_abstraction (declares_goes head frames (Lam a t) p tokens h)

  definition_goes : {name : List ℕ} {t : Tree} {p : ℕ} {tokens : List Placed} → depth t ≤ max_depth → Begun m all (BodyOf Def name t) [] tokens
      → Ends m all (TypeOf Def name) [] t (at p Assign ∷ tokens)
  definition_goes d (term_then b h) = ends_definition d b h

  theorem_goes : {name : List ℕ} {t : Tree} {p : ℕ} {tokens : List Placed} → depth t ≤ max_depth → Begun m all (BodyOf Thm name t) [] tokens
      → Ends m all (TypeOf Thm name) [] t (at p Assign ∷ tokens)
  theorem_goes d (term_then b h) = ends_theorem d b h

  assigns_goes : (head : Head) (frames : List Frame) (t : Tree) (p : ℕ) (tokens : List Placed) → GoesFrom all (assigns m head (whole frames t) p) tokens
      → Ends m all head frames t (at p Assign ∷ tokens)
  assigns_goes (TypeOf Symbol name) [] t p tokens h = absurd h
  assigns_goes (TypeOf Def name) [] t p tokens h = let r =
      shallow all t p (Goes m (AtTerm (BodyOf Def name t) [])) tokens (nat_le (depth t) max_depth) refl h in definition_goes r.0 r.1
  assigns_goes (TypeOf Thm name) [] t p tokens h = let r =
      shallow all t p (Goes m (AtTerm (BodyOf Thm name t) [])) tokens (nat_le (depth t) max_depth) refl h in theorem_goes r.0 r.1
  assigns_goes (BodyOf form name ty) [] t p tokens h = absurd h
  assigns_goes head (Enclosing f ∷ frames) t p tokens h = absurd h
  assigns_goes head (Domain name ∷ frames) t p tokens h = absurd h
  assigns_goes head (Product name a ∷ frames) t p tokens h = ends_product (assigns_goes head frames (Pi a t) p tokens h)
  assigns_goes head (Abstraction name a ∷ frames) t p tokens h = ends_abstraction (assigns_goes head frames (Lam a t) p tokens h)

  applies_goes : (head : Head) (frames : List Frame) (f : Option Tree) (p : ℕ) (token : Token) (tokens : List Placed)
      → GoesFrom all (applies m head frames f p token) tokens → Applies m all head frames f (at p token ∷ tokens)
  applies_goes head frames f p (Name name) tokens h = name_goes m all head frames tokens f name p (meaning m frames name) refl h
  applies_goes head frames f p TypeWord tokens h = atom_goes m all head f sort h
  applies_goes head frames f p LeftParen tokens h = parenthesis_goes m all head p f h
  applies_goes head frames (Some t) p RightParen tokens h = plain_goes m all head (encloses_goes m all head frames t p tokens h)
  applies_goes head frames (Some t) p Arrow tokens h = arguments_then none (arrow_goes m all head frames t p tokens h)
  applies_goes head frames (Some t) p FatArrow tokens h = arguments_then none (fat_arrow_goes m all head frames t p tokens h)
  applies_goes head frames (Some t) p Dot tokens h = plain_goes m all head (declares_goes head frames t p tokens h)
  applies_goes head frames (Some t) p Assign tokens h = plain_goes m all head (assigns_goes head frames t p tokens h)
  applies_goes head frames f p _ tokens h = absurd h

  names_goes : (form : Form) (p : ℕ) (name : List ℕ) (tokens : List Placed) (b : Bool) → is_declared (signature ++ m) name ≡ b
      → GoesFrom all (if b then stops p (NameTwice name) else Goes m (AfterName form name)) tokens → IsNew m name × Named m all form name tokens
  names_goes form p name tokens true e h = absurd h
  names_goes form p name tokens false e h = (e, h)

  begun : {head : Head} {frames : List Frame} {tokens rest : List Placed} {a : Tree} → Application m (scope_of frames) tokens rest a
      → Follows m all head frames a rest → Begun m all head frames tokens
  begun (application a args) (product_then t h) = domain_then (atom_then a (arguments_then args (product_then t h)))
  begun (application a args) (abstraction_then t h) = domain_then (atom_then a (arguments_then args (abstraction_then t h)))
  begun a (nameless_then t h) = term_then (nameless a t) h
  begun a (plain_then h) = term_then (plain a) h

  begun_by : {head : Head} {frames : List Frame} {tokens rest : List Placed} {x : Tree} → Atom m (scope_of frames) tokens rest x
      → Argued m all head frames x rest → Begun m all head frames tokens
  begun_by a (arguments_then args h) = begun (application a args) h

  begun_so : {head : Head} {frames : List Frame} {tokens : List Placed} → Asked m all head frames tokens → Begun m all head frames tokens
  begun_so (atom_then a h) = begun_by a h

  binder_follows : {head : Head} {frames : List Frame} {name : List ℕ} {tokens rest : List Placed} {a : Tree} {q p : ℕ}
      → Application m (scope_of frames) tokens rest a → Follows m all head (Domain name ∷ frames) a rest
      → Begun m all head frames (at q (Name name) ∷ at p Colon ∷ tokens)
  binder_follows a (product_then t h) = term_then (product a t) h
  binder_follows a (abstraction_then t h) = term_then (abstraction a t) h
  binder_follows a (nameless_then t h) = elim h [ ]
  binder_follows a (plain_then h) = elim h [ ]

  binder_goes : {head : Head} {frames : List Frame} {name : List ℕ} {tokens : List Placed} (q p : ℕ) → Asked m all head (Domain name ∷ frames) tokens
      → Begun m all head frames (at q (Name name) ∷ at p Colon ∷ tokens)
  binder_goes q p (atom_then a (arguments_then args h)) = binder_follows (application a args) h

  first_goes : (head : Head) (frames : List Frame) (q : ℕ) (name : List ℕ) (p : ℕ) (token : Token) (tokens : List Placed) (o : Option Tree)
      → meaning m frames name ≡ o → GoesFrom all (goes_on m head frames q name o p token) tokens
      → Begun m all head frames (at q (Name name) ∷ at p token ∷ tokens)
  first_goes head frames q name p token tokens None e h = absurd h
  first_goes head frames q name p token tokens (Some x) e h =
      begun_by (named_atom m frames name q (at p token ∷ tokens) x e) (applies_goes head frames (Some x) p token tokens h)

  key_goes : {form : Form} {name : List ℕ} {p : ℕ} {tokens : List Placed} → IsNew m name × Named m all form name tokens
      → Keyed m all form (at p (Name name) ∷ tokens)
  key_goes h = name_then h.0 h.1

  -- what a term ends, as a declaration
  symbol_begun : {name : List ℕ} {p q : ℕ} {tokens : List Placed} → IsNew m name → Begun m all (TypeOf Symbol name) [] tokens
      → Completes m (at p (Name name) ∷ at q Colon ∷ tokens) all
  symbol_begun new (term_then t (ends_symbol d h)) = next (symbol_declaration new (record { term = t; shallow = d })) h

  symbol_named : {name : List ℕ} {p : ℕ} {tokens : List Placed} → IsNew m name → Named m all Symbol name tokens → Completes m (at p (Name name) ∷ tokens) all
  symbol_named new (colon_then h) = symbol_begun new h

  definition_begun : {name : List ℕ} {o p q : ℕ} {tokens : List Placed} → IsNew m name → Begun m all (TypeOf Def name) [] tokens
      → Completes m (at o DefWord ∷ at p (Name name) ∷ at q Colon ∷ tokens) all
  definition_begun new (term_then t (ends_definition d b (ends_body e h))) =
      next (definition new (record { term = t; shallow = d }) (record { term = b; shallow = e })) h

  definition_keyed : {o : ℕ} {tokens : List Placed} → Keyed m all Def tokens → Completes m (at o DefWord ∷ tokens) all
  definition_keyed (name_then new (colon_then h)) = definition_begun new h

  theorem_begun : {name : List ℕ} {o p q : ℕ} {tokens : List Placed} → IsNew m name → Begun m all (TypeOf Thm name) [] tokens
      → Completes m (at o ThmWord ∷ at p (Name name) ∷ at q Colon ∷ tokens) all
  theorem_begun new (term_then t (ends_theorem d b (ends_body e h))) =
      next (theorem new (record { term = t; shallow = d }) (record { term = b; shallow = e })) h

  theorem_keyed : {o : ℕ} {tokens : List Placed} → Keyed m all Thm tokens → Completes m (at o ThmWord ∷ tokens) all
  theorem_keyed (name_then new (colon_then h)) = theorem_begun new h

  symbol_goes : {name : List ℕ} {p : ℕ} {tokens : List Placed} → IsNew m name × Named m all Symbol name tokens → Completes m (at p (Name name) ∷ tokens) all
  symbol_goes h = symbol_named h.0 h.1

  -- what goes on after a token goes on from before it
  advance_goes : (state : State) (p : ℕ) (token : Token) (tokens : List Placed) → GoesFrom all (advance m state p token) tokens
      → GoesOn m all state (at p token ∷ tokens)
  advance_goes Between p (Name name) tokens h = symbol_goes (names_goes Symbol p name tokens (is_declared (signature ++ m) name) refl h)
  advance_goes Between p DefWord tokens h = definition_keyed h
  advance_goes Between p ThmWord tokens h = theorem_keyed h
  advance_goes Between p _ tokens h = absurd h
  advance_goes (AfterKeyword form) p (Name name) tokens h = key_goes (names_goes form p name tokens (is_declared (signature ++ m) name) refl h)
  advance_goes (AfterKeyword form) p _ tokens h = absurd h
  advance_goes (AfterName form name) p Colon tokens h = colon_then h
  advance_goes (AfterName form name) p _ tokens h = absurd h
  advance_goes (AtTerm head frames) p (Name name) tokens h = h
  advance_goes (AtTerm head frames) p token tokens h = begun_so (applies_goes head frames None p token tokens h)
  advance_goes (AfterFirst head frames q name) p Colon tokens h = binder_goes q p h
  advance_goes (AfterFirst head frames q name) p token tokens h = first_goes head frames q name p token tokens (meaning m frames name) refl h
  advance_goes (InApplication head frames f) p token tokens h = applies_goes head frames f p token tokens h

-- where the tokens end, the declarations so far are all
end_goes : (all m : List Declaration) (state : State) (end : End) → answers (Goes m state) end ≡ reads all → GoesOn m all state []
end_goes all m Between (ended p) e = subst (Completes m []) (cc) complete
end_goes all m _ (ended p) e = absurd (cc)
end_goes all m _ (stuck p) e = absurd (cc)

all_go : (all : List Declaration) (o : Outcome) (tokens : List Placed) (end : End) → answers (advance_all o tokens) end ≡ reads all → GoesFrom all o tokens
all_go all (Stops r) tokens (ended p) e = absurd (cc)
all_go all (Stops r) tokens (stuck p) e = absurd (cc)
all_go all (Goes m state) [] end e = end_goes all m state end e
all_go all (Goes m state) (at p token ∷ tokens) end e = advance_goes m all state p token tokens (all_go all (advance m state p token) tokens end e)

-- tokens that are not refused complete a module
pub answers-Completes : (all : List Declaration) (tokens : List Placed) (end : End) → answers (advance_all (Goes [] Between) tokens) end ≡ reads all
    → Completes [] tokens all
answers-Completes all tokens end e = all_go all (Goes [] Between) tokens end e
