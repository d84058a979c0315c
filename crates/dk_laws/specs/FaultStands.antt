-- What a reading from left to right has come to stands there by the bare grammar, and what it is refused for the text shows.
use Rattle.std.proofs.Common.{◌≡◌, ℕ, ◌<◌, ◌≤◌, refl, sym, ap, ◌∙◌, subst, Bool, true, false, List, [], ◌∷◌, ◌++◌, Option, None, Some, arith}
use Rattle.std.specs.Prelude.{nat_le, if◌then◌else◌}
use Rattle.std.proofs.lemmas.List.{map-append}
use Rattle.std.proofs.lemmas.Grind.{common_steps}
use Rattle.lp_spec.specs.declared.form.Form.{Form}
use Rattle.lp_spec.specs.declared.form.Form.TheVariants.{Symbol, Def, Thm}
use Rattle.lp_spec.specs.Trees.{Tree, App, Lam, Pi, depth}
use Rattle.lp_spec.specs.Modules.{Declaration, signature}
use Rattle.lp_spec.specs.ModuleOrder.{is_declared}
use Rattle.lp_spec.specs.Tokens.{Token, Name, TypeWord, DefWord, ThmWord, Colon, Assign, Arrow, FatArrow, Dot, LeftParen, RightParen, Placed, at}
use Rattle.lp_spec.specs.Reading.{Scope, variable_of, symbol_of, max_depth, Atom, Arguments, Application, Term, IsNew, IsWhole, symbol_declaration, definition, theorem}
use Rattle.dk_laws.specs.ReadingSound.{named_atom}
use Rattle.lp_spec.specs.ReadingFaults.{Frame, Enclosing, Domain, Product, Abstraction, scope_of, Head, TypeOf, BodyOf, State, Between, AfterKeyword, AfterName, AtTerm, AfterFirst, InApplication, Outcome, Goes, Stops, stops, Fault, refusal, BadText, NameTwice, UnknownName, DkTooDeep, meant, meaning, atom, encloses, whole, declares, assigns, arrow, fat_arrow, applies, goes_on, advance}
use Rattle.lp_spec.specs.Faults.{HasBody, Declared, one_more, NameReads, symbol_name, definition_name, theorem_name, WholeReads, bodied_type, body_after, BareAtom, identifier, sort, enclosed, BareArguments, none, argument, BareApplication, application, BareTerm, product, abstraction, nameless, plain, DeclarationBegins, next, NameStands, of_symbol, of_definition, of_theorem, WholeBegins, only_type, type_before_body, body, TermBegins, of_whole, after_product, after_abstraction, after_nameless, enclosed_term, ApplicationBegins, of_term, of_domain, AtomStands, of_application, further, IsNoBinder, TokensShow, unknown_name, name_twice, too_deep}
use Rattle.dk_laws.specs.FaultFollows.{CanFollow, definition_word, theorem_word, declared_name, declared_colon, whole_end, identifier_atom, sort_atom, left_parenthesis, right_parenthesis, binder_colon, arrow_sign, fat_arrow_sign}
use Rattle.dk_laws.specs.FaultReach.{AreAscending, ascending_kept}
use Rattle.dk_laws.specs.FaultContexts.{term_begins_keeps, names_of}
use Rattle.dk_laws.specs.FaultNames.{is_declared-is_symbol, symbol_of-is_symbol}
use Rattle.dk_laws.specs.TermEnds.{IsOpen}

-- the name of the declaration whose type or body is read, and the token that ends that
abbrev pub name_in : Head → List ℕ
name_in (TypeOf form name) = name
name_in (BodyOf form name ty) = name

abbrev pub end_of : Head → Token
end_of (TypeOf Symbol name) = Dot
end_of (TypeOf Def name) = Assign
end_of (TypeOf Thm name) = Assign
end_of (BodyOf form name ty) = Dot

-- a domain is open at once
abbrev pub IsDomain : List Frame → Type 0
IsDomain (Domain name ∷ frames) = Unit {0}
IsDomain _ = ⊥

-- a binder can be introduced where no domain is open at once
abbrev may_bind : List Frame → Bool
may_bind (Domain name ∷ frames) = false
may_bind _ = true

-- what has been read before these tokens: declarations and what a declaration begins with, and its name; or all before its type or its body
abbrev pub KeyReads : List Placed → List Declaration → Form → List Placed → Type 0
KeyReads all m Symbol rest = Declared all m rest
KeyReads all m Def rest = (o : ℕ) × Declared all m (at o DefWord ∷ rest)
KeyReads all m Thm rest = (o : ℕ) × Declared all m (at o ThmWord ∷ rest)

abbrev pub HeadReads : List Placed → List Declaration → Head → List Placed → Type 0
HeadReads all m (TypeOf form name) tokens = NameReads all m form name tokens
HeadReads all m (BodyOf form name ty) tokens = (start : List Placed) × (p : ℕ) × HasBody form × NameReads all m form name start × IsWhole m start
    (at p Assign ∷ tokens) ty

key-NameReads : {all : List Placed} {m : List Declaration} (form : Form) (name : List ℕ) (p q : ℕ) (rest : List Placed)
    → KeyReads all m form (at p (Name name) ∷ at q Colon ∷ rest) → IsNew m name → NameReads all m form name rest
key-NameReads Symbol name p q rest h new = symbol_name h new
key-NameReads Def name p q rest h new = definition_name h.1 new
key-NameReads Thm name p q rest h new = theorem_name h.1 new

-- what is read is there by the bare grammar
mutual
  atom-bare : {m : List Declaration} {scope : Scope} {tokens rest : List Placed} {t : Tree} → Atom m scope tokens rest t → BareAtom tokens rest
  atom-bare (Atom.variable e) = identifier
  atom-bare (Atom.symbol e f) = identifier
  atom-bare Atom.sort = sort
  atom-bare (Atom.enclosed t) = enclosed (term-bare t)

  arguments-bare : {m : List Declaration} {scope : Scope} {f : Tree} {tokens rest : List Placed} {t : Tree} → Arguments m scope f tokens rest t
      → BareArguments tokens rest
  arguments-bare Arguments.none = none
  arguments-bare (Arguments.argument x args) = argument (atom-bare x) (arguments-bare args)

  application-bare : {m : List Declaration} {scope : Scope} {tokens rest : List Placed} {t : Tree} → Application m scope tokens rest t
      → BareApplication tokens rest
  application-bare (Application.application x args) = application (atom-bare x) (arguments-bare args)

  term-bare : {m : List Declaration} {scope : Scope} {tokens rest : List Placed} {t : Tree} → Term m scope tokens rest t → BareTerm tokens rest
  term-bare (Term.product y t) = product (application-bare y) (term-bare t)
  term-bare (Term.abstraction y t) = abstraction (application-bare y) (term-bare t)
  term-bare (Term.nameless y t) = nameless (application-bare y) (term-bare t)
  term-bare (Term.plain y) = plain (application-bare y)

-- an atom more
arguments_read : {m : List Declaration} {scope : Scope} {tokens more rest : List Placed} {f g x : Tree} → Arguments m scope f tokens more g
    → Atom m scope more rest x → Arguments m scope f tokens rest (App g x)
arguments_read Arguments.none x = Arguments.argument x Arguments.none
arguments_read (Arguments.argument y args) x = Arguments.argument y (arguments_read args x)

application_read : {m : List Declaration} {scope : Scope} {tokens more rest : List Placed} {f x : Tree} → Application m scope tokens more f
    → Atom m scope more rest x → Application m scope tokens rest (App f x)
application_read (Application.application y args) x = Application.application y (arguments_read args x)

-- at these tokens a term begins, or an application in a domain, where this is open
pub data Framed (all : List Placed) (m : List Declaration) (h : Head) : List Frame → List Placed → Type 0 where
  of_head : {tokens : List Placed} → WholeBegins all (names_of m) (name_in h) (end_of h) tokens → HeadReads all m h tokens → Framed all m h [] tokens
  of_first : {frames : List Frame} {tokens : List Placed} {p : ℕ} → Framed all m h frames (at p LeftParen ∷ tokens)
      → Framed all m h (Enclosing None ∷ frames) tokens
  of_argument : {frames : List Frame} {f : Tree} {start tokens : List Placed} {p : ℕ} → Framed all m h frames start
      → Application m (scope_of frames) start (at p LeftParen ∷ tokens) f → Framed all m h (Enclosing (Some f) ∷ frames) tokens
  of_binder : {frames : List Frame} {name : List ℕ} {tokens : List Placed} {p q : ℕ} → IsOpen frames
      → Framed all m h frames (at p (Name name) ∷ at q Colon ∷ tokens) → Framed all m h (Domain name ∷ frames) tokens
  of_product : {frames : List Frame} {name : List ℕ} {a : Tree} {start tokens : List Placed} {p q r : ℕ} → IsOpen frames
      → Framed all m h frames (at p (Name name) ∷ at q Colon ∷ start) → Application m (scope_of frames) start (at r Arrow ∷ tokens) a
      → Framed all m h (Product name a ∷ frames) tokens
  of_abstraction : {frames : List Frame} {name : List ℕ} {a : Tree} {start tokens : List Placed} {p q r : ℕ} → IsOpen frames
      → Framed all m h frames (at p (Name name) ∷ at q Colon ∷ start) → Application m (scope_of frames) start (at r FatArrow ∷ tokens) a
      → Framed all m h (Abstraction name a ∷ frames) tokens
  of_nameless : {frames : List Frame} {a : Tree} {start tokens : List Placed} {r : ℕ} → IsOpen frames → Framed all m h frames start
      → Application m (scope_of frames) start (at r Arrow ∷ tokens) a → Framed all m h (Product [] a ∷ frames) tokens

module _ {all : List Placed} {m : List Declaration} {h : Head} where
  mutual
    framed_term : {frames : List Frame} {tokens : List Placed} → IsOpen frames → Framed all m h frames tokens
        → TermBegins all (names_of m) (scope_of frames) tokens
    framed_term o (of_head w r) = of_whole w
    framed_term o (of_first f) = enclosed_term (of_application (framed_application f))
    framed_term o (of_argument f x) = enclosed_term (further (framed_application f) (application-bare x))
    framed_term o (of_binder i f) = absurd o
    framed_term o (of_product i f x) = after_product (framed_term i f) (application-bare x)
    framed_term o (of_abstraction i f x) = after_abstraction (framed_term i f) (application-bare x)
    framed_term o (of_nameless i f x) = after_nameless (framed_term i f) (application-bare x)

    framed_application : {frames : List Frame} {tokens : List Placed} → Framed all m h frames tokens
        → ApplicationBegins all (names_of m) (scope_of frames) (may_bind frames) tokens
    framed_application (of_head w r) = of_term (of_whole w)
    framed_application (of_first f) = of_term (enclosed_term (of_application (framed_application f)))
    framed_application (of_argument f x) = of_term (enclosed_term (further (framed_application f) (application-bare x)))
    framed_application (of_binder i f) = of_domain (framed_term i f)
    framed_application (of_product i f x) = of_term (after_product (framed_term i f) (application-bare x))
    framed_application (of_abstraction i f x) = of_term (after_abstraction (framed_term i f) (application-bare x))
    framed_application (of_nameless i f x) = of_term (after_nameless (framed_term i f) (application-bare x))

-- what a reading in this state has read stands before these tokens
abbrev pub HasRead : List Placed → List Declaration → State → List Placed → Type 0
HasRead all m Between rest = DeclarationBegins all (names_of m) rest × Declared all m rest
HasRead all m (AfterKeyword form) rest = NameStands all (names_of m) form rest × KeyReads all m form rest
HasRead all m (AfterName form name) rest = (p : ℕ) × NameStands all (names_of m) form (at p (Name name) ∷ rest) × KeyReads all m form (at p (Name name) ∷ rest)
    × IsNew m name
HasRead all m (AtTerm h frames) rest = IsOpen frames × Framed all m h frames rest
HasRead all m (AfterFirst h frames q name) rest = IsOpen frames × Framed all m h frames (at q (Name name) ∷ rest)
HasRead all m (InApplication h frames None) rest = IsDomain frames × Framed all m h frames rest
HasRead all m (InApplication h frames (Some t)) rest = (start : List Placed) × Framed all m h frames start × Application m (scope_of frames) start rest t

-- what a token at place p does: it can follow, and the reading goes on or is refused for a fault that is shown there; or it can't follow;
-- or the reading is refused for a fault before it
pub data Step (all : List Placed) (p : ℕ) (token : Token) (rest : List Placed) : Outcome → Type 0 where
  goes : {m : List Declaration} {state : State} → CanFollow all (at p token ∷ rest) → HasRead all m state rest → Step all p token rest (Goes m state)
  shown : {fault : Fault} → CanFollow all (at p token ∷ rest) → TokensShow all (refusal p fault) → Step all p token rest (Stops (refusal p fault))
  cannot : Step all p token rest (Stops (refusal p BadText))
  earlier : {q : ℕ} {fault : Fault} → TokensShow all (refusal q fault) → q < p → Step all p token rest (Stops (refusal q fault))

meant-None : (m : List Declaration) (v s : Option ℕ) → meant m v s ≡ None → (v ≡ None) × (s ≡ None)
meant-None m (Some n) s h = absurd (cc)
meant-None m None (Some n) h = absurd (cc)
meant-None m None None h = (refl, refl)

le_deep : (t : Tree) → nat_le (depth t) max_depth ≡ false → max_depth < depth t
le_deep t h = grind (arith, common_steps, h)

le_shallow : (t : Tree) → nat_le (depth t) max_depth ≡ true → depth t ≤ max_depth
le_shallow t h = grind (arith, common_steps, h)

names-new : (m : List Declaration) (d : Declaration) → names_of m ++ d.name ∷ [] ≡ names_of (m ++ d ∷ [])
names-new m d = sym (map-append (λ c. c.name) m (d ∷ []))

symbol_declared : {all : List Placed} {m : List Declaration} {name : List ℕ} {start rest : List Placed} {p : ℕ} {t : Tree} → NameReads all m Symbol name start
    → IsWhole m start (at p Dot ∷ rest) t → Declared all (m ++ record { name = name; form = Symbol; ty = t; body = None } ∷ []) rest
symbol_declared (symbol_name h new) w = one_more h (symbol_declaration new w)

body_declared : {all : List Placed} {m : List Declaration} {name : List ℕ} {first start rest : List Placed} {p q : ℕ} {ty t : Tree} (form : Form) → HasBody form
    → NameReads all m form name first → IsWhole m first (at q Assign ∷ start) ty → IsWhole m start (at p Dot ∷ rest) t
    → Declared all (m ++ record { name = name; form = form; ty = ty; body = Some t } ∷ []) rest
body_declared Def b (definition_name h new) v w = one_more h (definition new v w)
body_declared Thm b (theorem_name h new) v w = one_more h (theorem new v w)
body_declared Symbol b n v w = absurd b

module _ (e : ℕ) (all : List Placed) (ascending : AreAscending e all) (m : List Declaration) where
  -- a declaration's name
  name_step : (form : Form) (p : ℕ) (name : List ℕ) (rest : List Placed) (b : Bool) → is_declared (signature ++ m) name ≡ b
      → NameStands all (names_of m) form (at p (Name name) ∷ rest) → KeyReads all m form (at p (Name name) ∷ rest)
      → Step all p (Name name) rest (if b then stops p (NameTwice name) else Goes m (AfterName form name))
  name_step form p name rest true i n r = shown (declared_name n) (name_twice n (sym (is_declared-is_symbol m (names_of m) name refl) ∙ i))
  name_step form p name rest false i n r = goes (declared_name n) (p, n, r, i)

  type_begins : (form : Form) (name : List ℕ) (p q : ℕ) (rest : List Placed) → NameStands all (names_of m) form (at p (Name name) ∷ at q Colon ∷ rest)
      → WholeBegins all (names_of m) name (end_of (TypeOf form name)) rest
  type_begins Symbol name p q rest n = only_type n
  type_begins Def name p q rest n = type_before_body tt n
  type_begins Thm name p q rest n = type_before_body tt n

  module _ (h : Head) where
    -- an identifier that names nothing
    unknown_shown : (frames : List Frame) {binder : Bool} {p : ℕ} {name : List ℕ} {rest : List Placed}
        → AtomStands all (names_of m) (scope_of frames) binder (at p (Name name) ∷ rest) → meaning m frames name ≡ None → IsNoBinder binder rest
        → TokensShow all (refusal p (UnknownName name))
    unknown_shown frames {name = name} a i b =
        let both = meant-None m (variable_of (scope_of frames) name) (symbol_of m name) i in
        unknown_name a both.0 (symbol_of-is_symbol m (names_of m) name refl both.1) b

    identifier_of : {p : ℕ} {rest : List Placed} (frames : List Frame) (name : List ℕ) (x : Tree) → meaning m frames name ≡ Some x
        → Atom m (scope_of frames) (at p (Name name) ∷ rest) rest x
    identifier_of {p = p} {rest = rest} frames name x i = named_atom m frames name p rest x i

    -- an identifier as the first atom of a domain
    domain_name_step : (frames : List Frame) (p : ℕ) (name : List ℕ) (rest : List Placed) (o : Option Tree) → meaning m frames name ≡ o
        → AtomStands all (names_of m) (scope_of frames) false (at p (Name name) ∷ rest) → Framed all m h frames (at p (Name name) ∷ rest)
        → Step all p (Name name) rest (atom m h frames None p name o)
    domain_name_step frames p name rest None i a f = shown (identifier_atom a) (unknown_shown frames a i tt)
    domain_name_step frames p name rest (Some x) i a f =
        goes (identifier_atom a) (at p (Name name) ∷ rest, f, Application.application (identifier_of frames name x i) Arguments.none)

    -- an identifier as an argument
    argument_name_step : (frames : List Frame) (t : Tree) (p : ℕ) (name : List ℕ) (start rest : List Placed) (o : Option Tree) → meaning m frames name ≡ o
        → Framed all m h frames start → Application m (scope_of frames) start (at p (Name name) ∷ rest) t
        → Step all p (Name name) rest (atom m h frames (Some t) p name o)
    argument_name_step frames t p name start rest None i f y =
        shown (identifier_atom (further (framed_application f) (application-bare y)))
        (unknown_shown frames (further (framed_application f) (application-bare y)) i tt)
    argument_name_step frames t p name start rest (Some x) i f y =
        goes (identifier_atom (further (framed_application f) (application-bare y))) (start, f, application_read y (identifier_of frames name x i))

    -- a term ends by a `)`
    encloses_step : (frames : List Frame) (t : Tree) (p : ℕ) (start rest : List Placed) → Framed all m h frames start
        → Term m (scope_of frames) start (at p RightParen ∷ rest) t → Step all p RightParen rest (encloses m h frames t p)
    encloses_step [] t p start rest f u = cannot
    encloses_step (Enclosing None ∷ frames) t p start rest (of_first {p = q} f) u =
        goes (right_parenthesis (of_application (framed_application f)) (term-bare u))
        (at q LeftParen ∷ start, f, Application.application (Atom.enclosed u) Arguments.none)
    encloses_step (Enclosing (Some g) ∷ frames) t p start rest (of_argument {start = before} f y) u =
        goes (right_parenthesis (further (framed_application f) (application-bare y)) (term-bare u)) (before, f, application_read y (Atom.enclosed u))
    encloses_step (Domain name ∷ frames) t p start rest f u = cannot
    encloses_step (Product name a ∷ frames) t p start rest (of_product {start = before} {p = o} {q = q} i f y) u =
        encloses_step frames (Pi a t) p (at o (Name name) ∷ at q Colon ∷ before) rest f (Term.product y u)
    encloses_step (Product name a ∷ frames) t p start rest (of_nameless {start = before} i f y) u =
        encloses_step frames (Pi a t) p before rest f (Term.nameless y u)
    encloses_step (Abstraction name a ∷ frames) t p start rest (of_abstraction {start = before} {p = o} {q = q} i f y) u =
        encloses_step frames (Lam a t) p (at o (Name name) ∷ at q Colon ∷ before) rest f (Term.abstraction y u)

    -- a type or a body ends by a `.`
    dot_step : (state : State) (n : List Declaration) (t : Tree) (p : ℕ) (start rest : List Placed) (b : Bool) → nat_le (depth t) max_depth ≡ b
        → WholeBegins all (names_of m) (name_in h) Dot start → WholeReads all m Dot start → Term m [] start (at p Dot ∷ rest) t
        → ((depth t ≤ max_depth) → HasRead all n state rest) → Step all p Dot rest (if b then Goes n state else stops p DkTooDeep)
    dot_step state n t p start rest true i w r u s = goes (whole_end w (term-bare u)) (s (le_shallow t i))
    dot_step state n t p start rest false i w r u s = shown (whole_end w (term-bare u)) (too_deep r u (le_deep t i))

    assign_step : (state : State) (t : Tree) (p : ℕ) (start rest : List Placed) (b : Bool) → nat_le (depth t) max_depth ≡ b
        → WholeBegins all (names_of m) (name_in h) Assign start → WholeReads all m Assign start → Term m [] start (at p Assign ∷ rest) t
        → ((depth t ≤ max_depth) → HasRead all m state rest) → Step all p Assign rest (if b then Goes m state else stops p DkTooDeep)
    assign_step state t p start rest true i w r u s = goes (whole_end w (term-bare u)) (s (le_shallow t i))
    assign_step state t p start rest false i w r u s = shown (whole_end w (term-bare u)) (too_deep r u (le_deep t i))

    more_stands : (d : Declaration) (name : List ℕ) (p : ℕ) (start rest : List Placed) → name ≡ d.name → WholeBegins all (names_of m) name Dot start
        → BareTerm start (at p Dot ∷ rest) → DeclarationBegins all (names_of (m ++ d ∷ [])) rest
    more_stands d name p start rest k w u = subst (λ names. DeclarationBegins all names rest) (ap (λ c. names_of m ++ c ∷ []) k ∙ names-new m d) (next w u)

  declares_step : (h : Head) (frames : List Frame) (t : Tree) (p : ℕ) (start rest : List Placed) → Framed all m h frames start
      → Term m (scope_of frames) start (at p Dot ∷ rest) t → Step all p Dot rest (declares m h (whole frames t) p)
  declares_step (TypeOf Symbol name) [] t p start rest (of_head w r) u =
      let d : Declaration = record { name = name; form = Symbol; ty = t; body = None } in
      dot_step (TypeOf Symbol name) Between (m ++ d ∷ []) t p start rest (nat_le (depth t) max_depth) refl w (WholeReads.symbol_type r) u
      (λ s. (more_stands (TypeOf Symbol name) d name p start rest refl w (term-bare u), symbol_declared r (record { term = u; shallow = s })))
  declares_step (TypeOf Def name) [] t p start rest f u = cannot
  declares_step (TypeOf Thm name) [] t p start rest f u = cannot
  declares_step (BodyOf form name ty) [] t p start rest (of_head w r) u =
      let d : Declaration = record { name = name; form = form; ty = ty; body = Some t } in
      dot_step (BodyOf form name ty) Between (m ++ d ∷ []) t p start rest (nat_le (depth t) max_depth) refl w (body_after r.2 r.3 r.4) u
      (λ s. (more_stands (BodyOf form name ty) d name p start rest refl w (term-bare u), body_declared form r.2 r.3 r.4 (record { term = u; shallow = s })))
  declares_step h (Enclosing g ∷ frames) t p start rest f u = cannot
  declares_step h (Domain name ∷ frames) t p start rest f u = cannot
  declares_step h (Product name a ∷ frames) t p start rest (of_product {start = before} {p = o} {q = q} i f y) u =
      declares_step h frames (Pi a t) p (at o (Name name) ∷ at q Colon ∷ before) rest f (Term.product y u)
  declares_step h (Product name a ∷ frames) t p start rest (of_nameless {start = before} i f y) u =
      declares_step h frames (Pi a t) p before rest f (Term.nameless y u)
  declares_step h (Abstraction name a ∷ frames) t p start rest (of_abstraction {start = before} {p = o} {q = q} i f y) u =
      declares_step h frames (Lam a t) p (at o (Name name) ∷ at q Colon ∷ before) rest f (Term.abstraction y u)

  assigns_step : (h : Head) (frames : List Frame) (t : Tree) (p : ℕ) (start rest : List Placed) → Framed all m h frames start
      → Term m (scope_of frames) start (at p Assign ∷ rest) t → Step all p Assign rest (assigns m h (whole frames t) p)
  assigns_step (TypeOf Symbol name) [] t p start rest f u = cannot
  assigns_step (TypeOf Def name) [] t p start rest (of_head w r) u =
      assign_step (TypeOf Def name) (AtTerm (BodyOf Def name t) []) t p start rest (nat_le (depth t) max_depth) refl w (bodied_type tt r) u
      (λ s. (tt, of_head (body w (term-bare u)) (start, p, tt, r, record { term = u; shallow = s })))
  assigns_step (TypeOf Thm name) [] t p start rest (of_head w r) u =
      assign_step (TypeOf Thm name) (AtTerm (BodyOf Thm name t) []) t p start rest (nat_le (depth t) max_depth) refl w (bodied_type tt r) u
      (λ s. (tt, of_head (body w (term-bare u)) (start, p, tt, r, record { term = u; shallow = s })))
  assigns_step (BodyOf form name ty) [] t p start rest f u = cannot
  assigns_step h (Enclosing g ∷ frames) t p start rest f u = cannot
  assigns_step h (Domain name ∷ frames) t p start rest f u = cannot
  assigns_step h (Product name a ∷ frames) t p start rest (of_product {start = before} {p = o} {q = q} i f y) u =
      assigns_step h frames (Pi a t) p (at o (Name name) ∷ at q Colon ∷ before) rest f (Term.product y u)
  assigns_step h (Product name a ∷ frames) t p start rest (of_nameless {start = before} i f y) u =
      assigns_step h frames (Pi a t) p before rest f (Term.nameless y u)
  assigns_step h (Abstraction name a ∷ frames) t p start rest (of_abstraction {start = before} {p = o} {q = q} i f y) u =
      assigns_step h frames (Lam a t) p (at o (Name name) ∷ at q Colon ∷ before) rest f (Term.abstraction y u)

  arrow_step : (h : Head) (frames : List Frame) (a : Tree) (p : ℕ) (start rest : List Placed) → Framed all m h frames start
      → Application m (scope_of frames) start (at p Arrow ∷ rest) a → Step all p Arrow rest (arrow m h frames a)
  arrow_step h (Domain name ∷ frames) a p start rest (of_binder i f) y =
      goes (arrow_sign (of_domain (framed_term i f)) (application-bare y)) (tt, of_product i f y)
  arrow_step h [] a p start rest f y = goes (arrow_sign (framed_application f) (application-bare y)) (tt, of_nameless tt f y)
  arrow_step h (Enclosing g ∷ frames) a p start rest f y = goes (arrow_sign (framed_application f) (application-bare y)) (tt, of_nameless tt f y)
  arrow_step h (Product name b ∷ frames) a p start rest f y = goes (arrow_sign (framed_application f) (application-bare y)) (tt, of_nameless tt f y)
  arrow_step h (Abstraction name b ∷ frames) a p start rest f y = goes (arrow_sign (framed_application f) (application-bare y)) (tt, of_nameless tt f y)

  fat_arrow_step : (h : Head) (frames : List Frame) (a : Tree) (p : ℕ) (start rest : List Placed) → Framed all m h frames start
      → Application m (scope_of frames) start (at p FatArrow ∷ rest) a → Step all p FatArrow rest (fat_arrow m h frames a p)
  fat_arrow_step h (Domain name ∷ frames) a p start rest (of_binder i f) y =
      goes (fat_arrow_sign (framed_term i f) (application-bare y)) (tt, of_abstraction i f y)
  fat_arrow_step h [] a p start rest f y = cannot
  fat_arrow_step h (Enclosing g ∷ frames) a p start rest f y = cannot
  fat_arrow_step h (Product name b ∷ frames) a p start rest f y = cannot
  fat_arrow_step h (Abstraction name b ∷ frames) a p start rest f y = cannot

  -- a token after an application
  applied_step : (h : Head) (frames : List Frame) (t : Tree) (p : ℕ) (token : Token) (start rest : List Placed) → Framed all m h frames start
      → Application m (scope_of frames) start (at p token ∷ rest) t → Step all p token rest (applies m h frames (Some t) p token)
  applied_step h frames t p (Name name) start rest f y = argument_name_step h frames t p name start rest (meaning m frames name) refl f y
  applied_step h frames t p TypeWord start rest f y =
      goes (sort_atom (further (framed_application f) (application-bare y))) (start, f, application_read y Atom.sort)
  applied_step h frames t p LeftParen start rest f y = goes (left_parenthesis (further (framed_application f) (application-bare y))) (tt, of_argument f y)
  applied_step h frames t p RightParen start rest f y = encloses_step h frames t p start rest f (Term.plain y)
  applied_step h frames t p Arrow start rest f y = arrow_step h frames t p start rest f y
  applied_step h frames t p FatArrow start rest f y = fat_arrow_step h frames t p start rest f y
  applied_step h frames t p Dot start rest f y = declares_step h frames t p start rest f (Term.plain y)
  applied_step h frames t p Assign start rest f y = assigns_step h frames t p start rest f (Term.plain y)
  applied_step h frames t p _ start rest f y = cannot

  -- a token at the beginning of a term, and of a domain
  term_step : (h : Head) (frames : List Frame) (p : ℕ) (token : Token) (rest : List Placed) → IsOpen frames → Framed all m h frames (at p token ∷ rest)
      → Step all p token rest (advance m (AtTerm h frames) p token)
  term_step h frames p (Name name) rest o f = goes (identifier_atom (of_application (framed_application f))) (o, f)
  term_step h frames p TypeWord rest o f = goes (sort_atom (of_application (framed_application f)))
      (at p TypeWord ∷ rest, f, Application.application Atom.sort Arguments.none)
  term_step h frames p LeftParen rest o f = goes (left_parenthesis (of_application (framed_application f))) (tt, of_first f)
  term_step h frames p _ rest o f = cannot

  domain_atom : {tokens : List Placed} (h : Head) (frames : List Frame) → IsDomain frames → Framed all m h frames tokens
      → AtomStands all (names_of m) (scope_of frames) false tokens
  domain_atom h (Domain name ∷ frames) d f = of_application (framed_application f)
  domain_atom h [] d f = absurd d
  domain_atom h (Enclosing g ∷ frames) d f = absurd d
  domain_atom h (Product name a ∷ frames) d f = absurd d
  domain_atom h (Abstraction name a ∷ frames) d f = absurd d

  domain_step : (h : Head) (frames : List Frame) (p : ℕ) (token : Token) (rest : List Placed) → IsDomain frames → Framed all m h frames (at p token ∷ rest)
      → Step all p token rest (advance m (InApplication h frames None) p token)
  domain_step h frames p (Name name) rest d f = domain_name_step h frames p name rest (meaning m frames name) refl (domain_atom h frames d f) f
  domain_step h frames p TypeWord rest d f = goes (sort_atom (of_application (framed_application f)))
      (at p TypeWord ∷ rest, f, Application.application Atom.sort Arguments.none)
  domain_step h frames p LeftParen rest d f = goes (left_parenthesis (of_application (framed_application f))) (tt, of_first f)
  domain_step h frames p _ rest d f = cannot

  -- a token after an identifier that is no binder
  first_step : (h : Head) (frames : List Frame) (q : ℕ) (name : List ℕ) (p : ℕ) (token : Token) (rest : List Placed) (o : Option Tree)
      → meaning m frames name ≡ o → IsNoBinder true (at p token ∷ rest) → IsOpen frames → Framed all m h frames (at q (Name name) ∷ at p token ∷ rest)
      → Step all p token rest (goes_on m h frames q name o p token)
  first_step h frames q name p token rest None i b o f =
      earlier (unknown_shown h frames (of_application (of_term (framed_term o f))) i b) (term_begins_keeps (ascending_kept e) ascending (framed_term o f)).0.0
  first_step h frames q name p token rest (Some x) i b o f =
      applied_step h frames x p token (at q (Name name) ∷ at p token ∷ rest) rest f (Application.application (identifier_of h frames name x i) Arguments.none)

  pub advance_step : (state : State) (p : ℕ) (token : Token) (rest : List Placed) → HasRead all m state (at p token ∷ rest)
      → Step all p token rest (advance m state p token)
  advance_step Between p (Name name) rest s = name_step Symbol p name rest (is_declared (signature ++ m) name) refl (of_symbol s.0) s.1
  advance_step Between p DefWord rest s = goes (definition_word s.0) (of_definition s.0, (p, s.1))
  advance_step Between p ThmWord rest s = goes (theorem_word s.0) (of_theorem s.0, (p, s.1))
  advance_step Between p _ rest s = cannot
  advance_step (AfterKeyword form) p (Name name) rest s = name_step form p name rest (is_declared (signature ++ m) name) refl s.0 s.1
  advance_step (AfterKeyword form) p _ rest s = cannot
  advance_step (AfterName form name) p Colon rest s =
      goes (declared_colon s.1) (tt, of_head (type_begins form name s.0 p rest s.1) (key-NameReads form name s.0 p rest s.2 s.3))
  advance_step (AfterName form name) p _ rest s = cannot
  advance_step (AtTerm h frames) p token rest s = term_step h frames p token rest s.0 s.1
  advance_step (AfterFirst h frames q name) p Colon rest s = goes (binder_colon (framed_term s.0 s.1)) (tt, of_binder s.0 s.1)
  advance_step (AfterFirst h frames q name) p token rest s = first_step h frames q name p token rest (meaning m frames name) refl tt s.0 s.1
  advance_step (InApplication h frames None) p token rest s = domain_step h frames p token rest s.0 s.1
  advance_step (InApplication h frames (Some t)) p token rest s = applied_step h frames t p token s.0 rest s.1 s.2

  -- after an identifier at the end of the tokens
  pub ended_unknown : (h : Head) (frames : List Frame) (q : ℕ) (name : List ℕ) → HasRead all m (AfterFirst h frames q name) [] → meaning m frames name ≡ None
      → TokensShow all (refusal q (UnknownName name))
  ended_unknown h frames q name s i = unknown_shown h frames (of_application (of_term (framed_term s.0 s.1))) i tt

  pub ended_before : (h : Head) (frames : List Frame) (q : ℕ) (name : List ℕ) → HasRead all m (AfterFirst h frames q name) [] → q < e
  ended_before h frames q name s = (term_begins_keeps (ascending_kept e) ascending (framed_term s.0 s.1)).0
