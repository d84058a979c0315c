-- The places of a text by the bare grammar, in the reading from left to right: what stands before a place tells what the reading does there.
use Rattle.std.proofs.Common.{◌≡◌, ℕ, refl, ap, ◌∙◌, Bool, true, false, List, [], ◌∷◌, ◌++◌, Option, None, Some}
use Rattle.std.specs.Prelude.{map, nat_le, if◌then◌else◌}
use Rattle.std.proofs.lemmas.List.{map-append}
use Rattle.lp_spec.specs.declared.form.Form.{Form}
use Rattle.lp_spec.specs.declared.form.Form.TheVariants.{Symbol, Def, Thm}
use Rattle.lp_spec.specs.Trees.{Tree, depth}
use Rattle.lp_spec.specs.Modules.{Declaration, signature}
use Rattle.lp_spec.specs.ModuleOrder.{is_declared}
use Rattle.lp_spec.specs.Tokens.{Token, Name, DefWord, ThmWord, Colon, Assign, Arrow, FatArrow, Dot, LeftParen, Placed, at}
use Rattle.lp_spec.specs.Reading.{Scope, max_depth}
use Rattle.lp_spec.specs.ReadingFaults.{Frame, Enclosing, Domain, Product, Abstraction, scope_of, Head, TypeOf, BodyOf, State, Between, AfterKeyword, AfterName, AtTerm, InApplication, Outcome, Goes, stops, refusal, NameTwice, DkTooDeep, advance_all}
use Rattle.lp_spec.specs.Faults.{BareApplication, HasBody, DeclarationBegins, first, next, NameStands, of_symbol, of_definition, of_theorem, WholeBegins, only_type, type_before_body, body, TermBegins, of_whole, after_product, after_abstraction, after_nameless, enclosed_term, ApplicationBegins, of_term, of_domain, AtomStands, of_application, further}
use Rattle.dk_laws.specs.FaultReach.{AreAfter, AreAscending, IsKept, after_kept, ascending_kept, application_keeps, term_keeps, run, Reaches, past, reached, then_reaches, application_reaches, first_application_reaches, term_reaches, arrow_opens}
use Rattle.dk_laws.specs.TermEnds.{IsApplied, IsEnded, IsOpen}

-- what holds of all tokens and of those after the first of some holds at each place
module _ {P : List Placed → Type 0} (k : IsKept P) {all : List Placed} (a : P all) where
  mutual
    pub declaration_keeps : {names : List (List ℕ)} {tokens : List Placed} → DeclarationBegins all names tokens → P tokens
    declaration_keeps first = a
    declaration_keeps (next {rest = rest} {p = p} w t) = k.tail p Dot rest (term_keeps k t (whole_keeps w))

    pub name_keeps : {names : List (List ℕ)} {form : Form} {tokens : List Placed} → NameStands all names form tokens → P tokens
    name_keeps (of_symbol d) = declaration_keeps d
    name_keeps (of_definition {tokens = tokens} {p = p} d) = k.tail p DefWord tokens (declaration_keeps d)
    name_keeps (of_theorem {tokens = tokens} {p = p} d) = k.tail p ThmWord tokens (declaration_keeps d)

    pub whole_keeps : {names : List (List ℕ)} {name : List ℕ} {end : Token} {tokens : List Placed} → WholeBegins all names name end tokens → P tokens
    whole_keeps (only_type {name = name} {tokens = tokens} {p = p} {q = q} n) =
        k.tail q Colon tokens (k.tail p (Name name) (at q Colon ∷ tokens) (name_keeps n))
    whole_keeps (type_before_body {name = name} {tokens = tokens} {p = p} {q = q} b n) =
        k.tail q Colon tokens (k.tail p (Name name) (at q Colon ∷ tokens) (name_keeps n))
    whole_keeps (body {rest = rest} {p = p} w t) = k.tail p Assign rest (term_keeps k t (whole_keeps w))

  domain_keeps : {name : List ℕ} {tokens : List Placed} {p q : ℕ} → P (at p (Name name) ∷ at q Colon ∷ tokens) → P tokens
  domain_keeps {name = name} {tokens = tokens} {p = p} {q = q} h = k.tail q Colon tokens (k.tail p (Name name) (at q Colon ∷ tokens) h)

  mutual
    pub term_begins_keeps : {names : List (List ℕ)} {scope : Scope} {tokens : List Placed} → TermBegins all names scope tokens → P tokens
    term_begins_keeps (of_whole w) = whole_keeps w
    term_begins_keeps (after_product {name = name} {tokens = tokens} {rest = rest} {p = p} {q = q} {r = r} t x) =
        k.tail r Arrow rest (application_keeps k x (domain_keeps {name = name} {tokens = tokens} {p = p} {q = q} (term_begins_keeps t)))
    term_begins_keeps (after_abstraction {name = name} {tokens = tokens} {rest = rest} {p = p} {q = q} {r = r} t x) =
        k.tail r FatArrow rest (application_keeps k x (domain_keeps {name = name} {tokens = tokens} {p = p} {q = q} (term_begins_keeps t)))
    term_begins_keeps (after_nameless {rest = rest} {r = r} t x) = k.tail r Arrow rest (application_keeps k x (term_begins_keeps t))
    term_begins_keeps (enclosed_term {tokens = tokens} {p = p} x) = k.tail p LeftParen tokens (atom_stands_keeps x)

    pub application_begins_keeps : {names : List (List ℕ)} {scope : Scope} {binder : Bool} {tokens : List Placed}
        → ApplicationBegins all names scope binder tokens → P tokens
    application_begins_keeps (of_term t) = term_begins_keeps t
    application_begins_keeps (of_domain {name = name} {tokens = tokens} {p = p} {q = q} t) =
        domain_keeps {name = name} {tokens = tokens} {p = p} {q = q} (term_begins_keeps t)

    pub atom_stands_keeps : {names : List (List ℕ)} {scope : Scope} {binder : Bool} {tokens : List Placed} → AtomStands all names scope binder tokens → P tokens
    atom_stands_keeps (of_application x) = application_begins_keeps x
    atom_stands_keeps (further x y) = application_keeps k y (application_begins_keeps x)

-- the names of declarations
abbrev pub names_of : List Declaration → List (List ℕ)
names_of m = map (λ d. d.name) m

-- declarations of these names
pub record OfNames (names : List (List ℕ)) : Type 0 where
  pub m : List Declaration
  pub named : names_of m ≡ names

-- where the name of a declaration of this form stands
abbrev pub name_state : Form → State
name_state Symbol = Between
name_state Def = AfterKeyword Def
name_state Thm = AfterKeyword Thm

-- the type or the body is of the declaration of this name, and that token ends it
pub data IsClosedBy : Head → List ℕ → Token → Type 0 where
  symbol_type : {name : List ℕ} → IsClosedBy (TypeOf Symbol name) name Dot
  definition_type : {name : List ℕ} → IsClosedBy (TypeOf Def name) name Assign
  theorem_type : {name : List ℕ} → IsClosedBy (TypeOf Thm name) name Assign
  any_body : {form : Form} {name : List ℕ} {ty : Tree} → IsClosedBy (BodyOf form name ty) name Dot

pub record OfWhole (names : List (List ℕ)) (name : List ℕ) (end : Token) : Type 0 where
  pub m : List Declaration
  pub named : names_of m ≡ names
  pub head : Head
  pub closed : IsClosedBy head name end

-- a place in a term, after what is applied there, if anything
pub record OfPlace (names : List (List ℕ)) (scope : Scope) : Type 0 where
  pub m : List Declaration
  pub named : names_of m ≡ names
  pub head : Head
  pub frames : List Frame
  pub scoped : scope_of frames ≡ scope
  pub f : Option Tree

-- after an application
pub record OfApplied (names : List (List ℕ)) (scope : Scope) : Type 0 where
  pub m : List Declaration
  pub named : names_of m ≡ names
  pub head : Head
  pub frames : List Frame
  pub scoped : scope_of frames ≡ scope
  pub t : Tree

-- where no domain is open at once
pub record OfTerm (names : List (List ℕ)) (scope : Scope) : Type 0 where
  pub m : List Declaration
  pub named : names_of m ≡ names
  pub head : Head
  pub frames : List Frame
  pub scoped : scope_of frames ≡ scope
  pub free : IsOpen frames

-- where a binder can be introduced, or else an atom is read
abbrev pub place_state : {names : List (List ℕ)} {scope : Scope} → Bool → OfPlace names scope → Outcome
place_state true x = Goes x.m (AtTerm x.head x.frames)
place_state false x = Goes x.m (InApplication x.head x.frames x.f)

-- an end of a type or a body
pub closed_end : {h : Head} {name : List ℕ} {end : Token} (p : ℕ) (rest : List Placed) → IsClosedBy h name end → IsEnded (at p end ∷ rest)
closed_end p rest symbol_type = tt
closed_end p rest definition_type = tt
closed_end p rest theorem_type = tt
closed_end p rest any_body = tt

names-snoc : (m : List Declaration) (d : Declaration) (names : List (List ℕ)) (name : List ℕ) → names_of m ≡ names → d.name ≡ name
    → names_of (m ++ d ∷ []) ≡ names ++ name ∷ []
names-snoc m d names name h k = map-append (λ c. c.name) m (d ∷ []) ∙ ap (λ n. n ++ d.name ∷ []) h ∙ ap (λ n. names ++ n ∷ []) k

module _ (e : ℕ) (all : List Placed) (ascending : AreAscending e all) where
  -- how all tokens are read
  abbrev pub read : Outcome
  read = run [] Between all

  -- the reading comes to these tokens so, or was refused before
  abbrev pub Comes : (X : Type 0) → (X → Outcome) → List Placed → Type 0
  Comes X so tokens = Reaches read e X so tokens

  deep_split : {Y : Type 0} {so : Y → Outcome} (t : Tree) (p : ℕ) (o : Outcome) (rest : List Placed) (b : Bool) → AreAfter e p rest
      → (read ≡ advance_all o rest → Comes Y so rest) → read ≡ advance_all (if b then o else stops p DkTooDeep) rest → Comes Y so rest
  deep_split t p o rest true a f h = f h
  deep_split t p o rest false a f h = past (refusal p DkTooDeep) h a

  -- a whole declaration
  declared : {names : List (List ℕ)} {name : List ℕ} {rest : List Placed} (p : ℕ) (m : List Declaration) (h : Head) (t : Tree) → names_of m ≡ names
      → IsClosedBy h name Dot → AreAfter e p rest → read ≡ run m (InApplication h [] (Some t)) (at p Dot ∷ rest)
      → Comes (OfNames (names ++ name ∷ [])) (λ x. Goes x.m Between) rest
  declared {names = names} {name = name} {rest = rest} p m (TypeOf Symbol other) t n symbol_type a k =
      let d : Declaration = record { name = name; form = Symbol; ty = t; body = None } in
      deep_split t p (Goes (m ++ d ∷ []) Between) rest (nat_le (depth t) max_depth) a
      (λ l. reached (record { m = m ++ d ∷ []; named = names-snoc m d names name n refl }) l) k
  declared {names = names} {name = name} {rest = rest} p m (BodyOf form other ty) t n any_body a k =
      let d : Declaration = record { name = name; form = form; ty = ty; body = Some t } in
      deep_split t p (Goes (m ++ d ∷ []) Between) rest (nat_le (depth t) max_depth) a
      (λ l. reached (record { m = m ++ d ∷ []; named = names-snoc m d names name n refl }) l) k
  declared p m (TypeOf Def other) t n c a k = elim c [ ]
  declared p m (TypeOf Thm other) t n c a k = elim c [ ]

  -- a whole type, before the body
  assigned : {names : List (List ℕ)} {name : List ℕ} {rest : List Placed} (p : ℕ) (m : List Declaration) (h : Head) (t : Tree) → names_of m ≡ names
      → IsClosedBy h name Assign → AreAfter e p rest → read ≡ run m (InApplication h [] (Some t)) (at p Assign ∷ rest)
      → Comes (OfWhole names name Dot) (λ x. Goes x.m (AtTerm x.head [])) rest
  assigned {name = name} {rest = rest} p m (TypeOf Def other) t n definition_type a k =
      deep_split t p (Goes m (AtTerm (BodyOf Def name t) [])) rest (nat_le (depth t) max_depth) a
      (λ l. reached (record { m = m; named = n; head = BodyOf Def name t; closed = any_body }) l) k
  assigned {name = name} {rest = rest} p m (TypeOf Thm other) t n theorem_type a k =
      deep_split t p (Goes m (AtTerm (BodyOf Thm name t) [])) rest (nat_le (depth t) max_depth) a
      (λ l. reached (record { m = m; named = n; head = BodyOf Thm name t; closed = any_body }) l) k
  assigned p m (TypeOf Symbol other) t n c a k = elim c [ ]
  assigned p m (BodyOf form other ty) t n c a k = elim c [ ]

  -- a declaration's name
  twice_split : {Y : Type 0} {so : Y → Outcome} (m : List Declaration) (form : Form) (name : List ℕ) (p q : ℕ) (rest : List Placed) (b : Bool)
      → AreAfter e p rest → (read ≡ run m (AtTerm (TypeOf form name) []) rest → Comes Y so rest)
      → read ≡ advance_all (if b then stops p (NameTwice name) else Goes m (AfterName form name)) (at q Colon ∷ rest) → Comes Y so rest
  twice_split m form name p q rest true a f h = past (refusal p (NameTwice name)) h a
  twice_split m form name p q rest false a f h = f h

  named_type : {names : List (List ℕ)} {rest : List Placed} (p q : ℕ) (form : Form) (name : List ℕ) (end : Token) (m : List Declaration) → names_of m ≡ names
      → IsClosedBy (TypeOf form name) name end → AreAfter e p rest → read ≡ run m (name_state form) (at p (Name name) ∷ at q Colon ∷ rest)
      → Comes (OfWhole names name end) (λ x. Goes x.m (AtTerm x.head [])) rest
  named_type {rest = rest} p q Symbol name end m n c a k =
      twice_split m Symbol name p q rest (is_declared (signature ++ m) name) a
      (λ l. reached (record { m = m; named = n; head = TypeOf Symbol name; closed = c }) l) k
  named_type {rest = rest} p q Def name end m n c a k =
      twice_split m Def name p q rest (is_declared (signature ++ m) name) a (λ l. reached (record { m = m; named = n; head = TypeOf Def name; closed = c }) l) k
  named_type {rest = rest} p q Thm name end m n c a k =
      twice_split m Thm name p q rest (is_declared (signature ++ m) name) a (λ l. reached (record { m = m; named = n; head = TypeOf Thm name; closed = c }) l) k

  body_type : (form : Form) (name : List ℕ) → HasBody form → IsClosedBy (TypeOf form name) name Assign
  body_type Symbol name h = absurd h
  body_type Def name h = definition_type
  body_type Thm name h = theorem_type

  mutual
    pub declaration_comes : {names : List (List ℕ)} {tokens : List Placed} → DeclarationBegins all names tokens
        → Comes (OfNames names) (λ x. Goes x.m Between) tokens
    declaration_comes first = reached (record { m = []; named = refl }) refl
    declaration_comes (next {p = p} w t) =
        then_reaches (whole_comes w) (λ n k. (term_keeps (after_kept e n) t k).1)
        (λ x k. then_reaches (term_reaches read e x.m t x.head [] tt tt (whole_keeps (ascending_kept e) ascending w) k) (λ n l. l.1)
        (λ y l. declared p x.m x.head y x.named x.closed (term_keeps (ascending_kept e) t (whole_keeps (ascending_kept e) ascending w)).0 l))

    pub name_comes : {names : List (List ℕ)} {form : Form} {tokens : List Placed} → NameStands all names form tokens
        → Comes (OfNames names) (λ x. Goes x.m (name_state form)) tokens
    name_comes (of_symbol d) = declaration_comes d
    name_comes (of_definition d) = then_reaches (declaration_comes d) (λ n k. k.1) (λ x k. reached x k)
    name_comes (of_theorem d) = then_reaches (declaration_comes d) (λ n k. k.1) (λ x k. reached x k)

    pub whole_comes : {names : List (List ℕ)} {name : List ℕ} {end : Token} {tokens : List Placed} → WholeBegins all names name end tokens
        → Comes (OfWhole names name end) (λ x. Goes x.m (AtTerm x.head [])) tokens
    whole_comes (only_type {name = name} {p = p} {q = q} n) =
        then_reaches (name_comes n) (λ c k. k.1.1)
        (λ x k. named_type p q Symbol name Dot x.m x.named symbol_type (name_keeps (ascending_kept e) ascending n).0.1 k)
    whole_comes (type_before_body {name = name} {form = form} {p = p} {q = q} b n) =
        then_reaches (name_comes n) (λ c k. k.1.1)
        (λ x k. named_type p q form name Assign x.m x.named (body_type form name b) (name_keeps (ascending_kept e) ascending n).0.1 k)
    whole_comes (body {p = p} w t) =
        then_reaches (whole_comes w) (λ n k. (term_keeps (after_kept e n) t k).1)
        (λ x k. then_reaches (term_reaches read e x.m t x.head [] tt tt (whole_keeps (ascending_kept e) ascending w) k) (λ n l. l.1)
        (λ y l. assigned p x.m x.head y x.named x.closed (term_keeps (ascending_kept e) t (whole_keeps (ascending_kept e) ascending w)).0 l))

  -- a parenthesis
  parenthesis_comes : {names : List (List ℕ)} {scope : Scope} {tokens : List Placed} (binder : Bool) (p : ℕ) (y : OfPlace names scope) → read
      ≡ advance_all (place_state binder y) (at p LeftParen ∷ tokens) → Comes (OfTerm names scope) (λ x. Goes x.m (AtTerm x.head x.frames)) tokens
  parenthesis_comes true p y k = reached (record { m = y.m; named = y.named; head = y.head; frames = Enclosing None ∷ y.frames; scoped = y.scoped; free = tt })
      k
  parenthesis_comes false p y k = reached (record { m = y.m; named = y.named; head = y.head; frames = Enclosing y.f ∷ y.frames; scoped = y.scoped; free = tt })
      k

  mutual
    pub term_comes : {names : List (List ℕ)} {scope : Scope} {tokens : List Placed} → TermBegins all names scope tokens
        → Comes (OfTerm names scope) (λ x. Goes x.m (AtTerm x.head x.frames)) tokens
    term_comes (of_whole w) = then_reaches (whole_comes w) (λ n k. k)
        (λ x k. reached (record { m = x.m; named = x.named; head = x.head; frames = []; scoped = refl; free = tt }) k)
    term_comes (after_product {name = name} t y) =
        then_reaches (term_comes t) (λ n k. (application_keeps (after_kept e n) y k.1.1).1)
        (λ x k. then_reaches (application_reaches read e x.m y x.head (Domain name ∷ x.frames) (term_begins_keeps (ascending_kept e) ascending t).1.1 k)
        (λ n l. l.1)
        (λ a l. reached
        (record { m = x.m; named = x.named; head = x.head; frames = Product name a ∷ x.frames; scoped = ap (λ s. name ∷ s) x.scoped; free = tt }) l))
    term_comes (after_abstraction {name = name} t y) =
        then_reaches (term_comes t) (λ n k. (application_keeps (after_kept e n) y k.1.1).1)
        (λ x k. then_reaches (application_reaches read e x.m y x.head (Domain name ∷ x.frames) (term_begins_keeps (ascending_kept e) ascending t).1.1 k)
        (λ n l. l.1)
        (λ a l. reached
        (record { m = x.m; named = x.named; head = x.head; frames = Abstraction name a ∷ x.frames; scoped = ap (λ s. name ∷ s) x.scoped; free = tt }) l))
    term_comes (after_nameless {rest = rest} {r = r} t y) =
        then_reaches (term_comes t) (λ n k. (application_keeps (after_kept e n) y k).1)
        (λ x k. then_reaches (first_application_reaches read e x.m y x.head x.frames tt (term_begins_keeps (ascending_kept e) ascending t) k) (λ n l. l.1)
        (λ a l. reached (record { m = x.m; named = x.named; head = x.head; frames = Product [] a ∷ x.frames; scoped = ap (λ s. [] ∷ s) x.scoped; free = tt })
        (l ∙ arrow_opens read e x.m x.head x.frames a r rest x.free)))
    term_comes (enclosed_term {binder = binder} {p = p} x) = then_reaches (atom_comes x tt) (λ n k. k.1) (λ y k. parenthesis_comes binder p y k)

    pub application_comes : {names : List (List ℕ)} {scope : Scope} {binder : Bool} {tokens : List Placed} → ApplicationBegins all names scope binder tokens
        → Comes (OfPlace names scope) (place_state binder) tokens
    application_comes (of_term t) = then_reaches (term_comes t) (λ n k. k)
        (λ x k. reached (record { m = x.m; named = x.named; head = x.head; frames = x.frames; scoped = x.scoped; f = None }) k)
    application_comes (of_domain {name = name} t) =
        then_reaches (term_comes t) (λ n k. k.1.1)
        (λ x k. reached (record { m = x.m; named = x.named; head = x.head; frames = Domain name ∷ x.frames; scoped = x.scoped; f = None }) k)

    pub atom_comes : {names : List (List ℕ)} {scope : Scope} {binder : Bool} {tokens : List Placed} → AtomStands all names scope binder tokens
        → IsApplied tokens → Comes (OfPlace names scope) (place_state binder) tokens
    atom_comes (of_application x) i = application_comes x
    atom_comes (further x y) i = then_reaches (applied_comes x y i) (λ n k. k)
        (λ z k. reached (record { m = z.m; named = z.named; head = z.head; frames = z.frames; scoped = z.scoped; f = Some z.t }) k)

    pub applied_comes : {names : List (List ℕ)} {scope : Scope} {binder : Bool} {tokens rest : List Placed} → ApplicationBegins all names scope binder tokens
        → BareApplication tokens rest → IsApplied rest → Comes (OfApplied names scope) (λ x. Goes x.m (InApplication x.head x.frames (Some x.t))) rest
    applied_comes (of_term t) y i =
        then_reaches (term_comes t) (λ n. application_keeps (after_kept e n) y)
        (λ x k. then_reaches (first_application_reaches read e x.m y x.head x.frames i (term_begins_keeps (ascending_kept e) ascending t) k) (λ n l. l)
        (λ a l. reached (record { m = x.m; named = x.named; head = x.head; frames = x.frames; scoped = x.scoped; t = a }) l))
    applied_comes (of_domain {name = name} t) y i =
        then_reaches (term_comes t) (λ n k. application_keeps (after_kept e n) y k.1.1)
        (λ x k. then_reaches (application_reaches read e x.m y x.head (Domain name ∷ x.frames) (term_begins_keeps (ascending_kept e) ascending t).1.1 k)
        (λ n l. l)
        (λ a l. reached (record { m = x.m; named = x.named; head = x.head; frames = Domain name ∷ x.frames; scoped = x.scoped; t = a }) l))
