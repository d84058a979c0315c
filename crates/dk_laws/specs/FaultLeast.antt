-- A text that shows a fault by its tokens is refused, and at no later place.
use Rattle.std.proofs.Common.{inl, inr, ◌≡◌, ℕ, ◌<◌, refl, sym, ap, ◌∙◌, subst, Bool, true, false, List, [], ◌∷◌, ◌++◌, Option, None, Some, arith}
use Rattle.std.specs.Prelude.{nat_le, if◌then◌else◌, ◌⊎◌, IsTrue, IsFalse}
use Rattle.std.proofs.lemmas.Grind.{common_steps}
use Rattle.lp_spec.specs.declared.form.Form.{Form}
use Rattle.lp_spec.specs.declared.form.Form.TheVariants.{Symbol, Def, Thm}
use Rattle.lp_spec.specs.Trees.{Tree, Lam, Pi, depth}
use Rattle.lp_spec.specs.Modules.{Declaration, signature}
use Rattle.lp_spec.specs.ModuleOrder.{is_declared}
use Rattle.lp_spec.specs.Tokens.{Token, Name, TypeWord, DefWord, ThmWord, Colon, Assign, Arrow, FatArrow, Dot, LeftParen, RightParen, Placed, at, End, ended, stuck}
use Rattle.lp_spec.specs.Reading.{Scope, variable_of, symbol_of, max_depth, Term}
use Rattle.lp_spec.specs.ReadingFaults.{Frame, Enclosing, Domain, Product, Abstraction, scope_of, Head, TypeOf, BodyOf, State, Between, AfterKeyword, AfterName, AtTerm, AfterFirst, InApplication, Outcome, Goes, Stops, stops, Refusal, refusal, BadText, NameTwice, UnknownName, DkTooDeep, meant, meaning, atom, encloses, whole, declares, assigns, arrow, fat_arrow, applies, goes_on, unless_deep, advance, advance_all, broken_after, Answer, reads, refused, answers}
use Rattle.lp_spec.specs.Faults.{BareTerm, NameStands, Declared, none_yet, one_more, NameReads, symbol_name, definition_name, theorem_name, WholeReads, bodied_type, body_after, AtomStands, is_symbol, IsNoBinder}
use Rattle.dk_laws.specs.FaultFollows.{CanFollow, definition_word, theorem_word, declared_name, declared_colon, whole_end, identifier_atom, sort_atom, left_parenthesis, right_parenthesis, binder_colon, arrow_sign, fat_arrow_sign}
use Rattle.dk_laws.specs.ReadingComplete.{term_runs, names_run, shallow_runs, declares_runs}
use Rattle.dk_laws.specs.FaultReach.{AreAfter, AreAscending, after_kept, ascending_kept, application_keeps, term_keeps, run, Reaches, past, reached, then_reaches, application_reaches, term_reaches}
use Rattle.dk_laws.specs.FaultContexts.{declaration_keeps, name_keeps, whole_keeps, term_begins_keeps, application_begins_keeps, atom_stands_keeps, names_of, OfNames, OfPlace, OfTerm, name_state, IsClosedBy, symbol_type, definition_type, theorem_type, any_body, place_state, closed_end, declaration_comes, name_comes, whole_comes, term_comes, atom_comes, applied_comes}
use Rattle.dk_laws.specs.FaultNames.{is_declared-is_symbol, is_symbol-symbol_of}

-- a token can't follow only at its own place
abbrev StopsAt : ℕ → Outcome → Type 0
StopsAt p (Goes m state) = Unit {0}
StopsAt p (Stops r) = r.fault ≡ BadText → r.place ≡ p

atom_at : (m : List Declaration) (head : Head) (frames : List Frame) (f : Option Tree) (p : ℕ) (name : List ℕ) (o : Option Tree)
    → StopsAt p (atom m head frames f p name o)
atom_at m head frames f p name None = λ h. refl
atom_at m head frames f p name (Some x) = tt

encloses_at : (m : List Declaration) (head : Head) (frames : List Frame) (t : Tree) (p : ℕ) → StopsAt p (encloses m head frames t p)
encloses_at m head [] t p = λ h. refl
encloses_at m head (Enclosing f ∷ frames) t p = tt
encloses_at m head (Domain name ∷ frames) t p = λ h. refl
encloses_at m head (Product name a ∷ frames) t p = encloses_at m head frames (Pi a t) p
encloses_at m head (Abstraction name a ∷ frames) t p = encloses_at m head frames (Lam a t) p

deep_at : (p : ℕ) (m : List Declaration) (state : State) (b : Bool) → StopsAt p (if b then Goes m state else stops p DkTooDeep)
deep_at p m state true = tt
deep_at p m state false = λ h. refl

declares_at : (m : List Declaration) (head : Head) (t : Option Tree) (p : ℕ) → StopsAt p (declares m head t p)
declares_at m head None p = λ h. refl
declares_at m (TypeOf Symbol name) (Some t) p = deep_at p (m ++ record { name = name; form = Symbol; ty = t; body = None } ∷ []) Between
    (nat_le (depth t) max_depth)
declares_at m (TypeOf Def name) (Some t) p = λ h. refl
declares_at m (TypeOf Thm name) (Some t) p = λ h. refl
declares_at m (BodyOf form name ty) (Some t) p = deep_at p (m ++ record { name = name; form = form; ty = ty; body = Some t } ∷ []) Between
    (nat_le (depth t) max_depth)

assigns_at : (m : List Declaration) (head : Head) (t : Option Tree) (p : ℕ) → StopsAt p (assigns m head t p)
assigns_at m head None p = λ h. refl
assigns_at m (TypeOf Symbol name) (Some t) p = λ h. refl
assigns_at m (TypeOf Def name) (Some t) p = deep_at p m (AtTerm (BodyOf Def name t) []) (nat_le (depth t) max_depth)
assigns_at m (TypeOf Thm name) (Some t) p = deep_at p m (AtTerm (BodyOf Thm name t) []) (nat_le (depth t) max_depth)
assigns_at m (BodyOf form name ty) (Some t) p = λ h. refl

arrow_at : (m : List Declaration) (head : Head) (frames : List Frame) (t : Tree) (p : ℕ) → StopsAt p (arrow m head frames t)
arrow_at m head (Domain name ∷ frames) t p = tt
arrow_at m head _ t p = tt

fat_arrow_at : (m : List Declaration) (head : Head) (frames : List Frame) (t : Tree) (p : ℕ) → StopsAt p (fat_arrow m head frames t p)
fat_arrow_at m head (Domain name ∷ frames) t p = tt
fat_arrow_at m head _ t p = λ h. refl

applies_at : (m : List Declaration) (head : Head) (frames : List Frame) (f : Option Tree) (p : ℕ) (token : Token) → StopsAt p (applies m head frames f p token)
applies_at m head frames f p (Name name) = atom_at m head frames f p name (meaning m frames name)
applies_at m head frames f p TypeWord = tt
applies_at m head frames f p LeftParen = tt
applies_at m head frames (Some t) p RightParen = encloses_at m head frames t p
applies_at m head frames (Some t) p Arrow = arrow_at m head frames t p
applies_at m head frames (Some t) p FatArrow = fat_arrow_at m head frames t p
applies_at m head frames (Some t) p Dot = declares_at m head (whole frames t) p
applies_at m head frames (Some t) p Assign = assigns_at m head (whole frames t) p
applies_at m head frames f p _ = λ h. refl

goes_on_at : (m : List Declaration) (head : Head) (frames : List Frame) (q : ℕ) (name : List ℕ) (o : Option Tree) (p : ℕ) (token : Token)
    → StopsAt p (goes_on m head frames q name o p token)
goes_on_at m head frames q name None p token = λ h. absurd (cc)
goes_on_at m head frames q name (Some x) p token = applies_at m head frames (Some x) p token

names_at : (m : List Declaration) (form : Form) (p : ℕ) (name : List ℕ) (b : Bool)
    → StopsAt p (if b then stops p (NameTwice name) else Goes m (AfterName form name))
names_at m form p name true = λ h. refl
names_at m form p name false = tt

advance_at : (m : List Declaration) (state : State) (p : ℕ) (token : Token) → StopsAt p (advance m state p token)
advance_at m Between p (Name name) = names_at m Symbol p name (is_declared (signature ++ m) name)
advance_at m Between p DefWord = tt
advance_at m Between p ThmWord = tt
advance_at m Between p _ = λ h. refl
advance_at m (AfterKeyword form) p (Name name) = names_at m form p name (is_declared (signature ++ m) name)
advance_at m (AfterKeyword form) p _ = λ h. refl
advance_at m (AfterName form name) p Colon = tt
advance_at m (AfterName form name) p _ = λ h. refl
advance_at m (AtTerm head frames) p (Name name) = tt
advance_at m (AtTerm head frames) p token = applies_at m head frames None p token
advance_at m (AfterFirst head frames q name) p Colon = tt
advance_at m (AfterFirst head frames q name) p token = goes_on_at m head frames q name (meaning m frames name) p token
advance_at m (InApplication head frames f) p token = applies_at m head frames f p token

-- a refusal for a token at place p comes at no later token
later_by : (p q : ℕ) (o : Outcome) (rest : List Placed) → StopsAt q o → p < q
    → ((m : List Declaration) (state : State) → run m state rest ≡ Stops (refusal p BadText) → ⊥) → advance_all o rest ≡ Stops (refusal p BadText) → ⊥
later_by p q (Goes m state) rest i l f h = f m state h
later_by p q (Stops r) rest i l f h =
    let same : r ≡ refusal p BadText = cc in
    let place : r.place ≡ q = i (ap (λ s. s.fault) same) in
    absurd (omega (arith, l, place, ap (λ s. s.place) same))

later : (e p : ℕ) (m : List Declaration) (state : State) (rest : List Placed) → AreAfter e p rest → run m state rest ≡ Stops (refusal p BadText) → ⊥
later e p m state [] a h = absurd (cc)
later e p m state (at q token ∷ rest) a h = later_by p q (advance m state q token) rest (advance_at m state q token) a.0 (λ n s. later e p n s rest a.1) h

-- the token is not the one that can't follow
abbrev IsFine : Outcome → Type 0
IsFine (Goes m state) = Unit {0}
IsFine (Stops r) = r.fault ≡ BadText → ⊥

fine_later : (e p : ℕ) (o : Outcome) (rest : List Placed) → IsFine o → AreAfter e p rest → advance_all o rest ≡ Stops (refusal p BadText) → ⊥
fine_later e p (Goes m state) rest i a h = later e p m state rest a h
fine_later e p (Stops r) rest i a h = i (let same : r ≡ refusal p BadText = cc in ap (λ s. s.fault) same)

abbrev advance_one : Outcome → ℕ → Token → Outcome
advance_one (Goes m state) p token = advance m state p token
advance_one (Stops r) p token = Stops r

advance_all-cons : (o : Outcome) (p : ℕ) (token : Token) (rest : List Placed) → advance_all o (at p token ∷ rest) ≡ advance_all (advance_one o p token) rest
advance_all-cons (Goes m state) p token rest = refl
advance_all-cons (Stops r) p token rest = refl

atom_fine : (m : List Declaration) (head : Head) (frames : List Frame) (f : Option Tree) (p : ℕ) (name : List ℕ) (o : Option Tree)
    → IsFine (atom m head frames f p name o)
atom_fine m head frames f p name None = λ h. absurd (cc)
atom_fine m head frames f p name (Some x) = tt

deep_fine : (p : ℕ) (m : List Declaration) (state : State) (b : Bool) → IsFine (if b then Goes m state else stops p DkTooDeep)
deep_fine p m state true = tt
deep_fine p m state false = λ h. absurd (cc)

names_fine : (m : List Declaration) (form : Form) (p : ℕ) (name : List ℕ) (b : Bool)
    → IsFine (if b then stops p (NameTwice name) else Goes m (AfterName form name))
names_fine m form p name true = λ h. absurd (cc)
names_fine m form p name false = tt

name_fine : (m : List Declaration) (form : Form) (p : ℕ) (name : List ℕ) → IsFine (advance m (name_state form) p (Name name))
name_fine m Symbol p name = names_fine m Symbol p name (is_declared (signature ++ m) name)
name_fine m Def p name = names_fine m Def p name (is_declared (signature ++ m) name)
name_fine m Thm p name = names_fine m Thm p name (is_declared (signature ++ m) name)

arrow_fine : (m : List Declaration) (head : Head) (frames : List Frame) (t : Tree) → IsFine (arrow m head frames t)
arrow_fine m head (Domain name ∷ frames) t = tt
arrow_fine m head _ t = tt

closed_fine : {name : List ℕ} {end : Token} (m : List Declaration) (head : Head) (t : Tree) (p : ℕ) → IsClosedBy head name end
    → IsFine (advance m (InApplication head [] (Some t)) p end)
closed_fine m (TypeOf Symbol name) t p symbol_type =
    deep_fine p (m ++ record { name = name; form = Symbol; ty = t; body = None } ∷ []) Between (nat_le (depth t) max_depth)
closed_fine m (TypeOf Def name) t p definition_type = deep_fine p m (AtTerm (BodyOf Def name t) []) (nat_le (depth t) max_depth)
closed_fine m (TypeOf Thm name) t p theorem_type = deep_fine p m (AtTerm (BodyOf Thm name t) []) (nat_le (depth t) max_depth)
closed_fine m (BodyOf form name ty) t p any_body =
    deep_fine p (m ++ record { name = name; form = form; ty = ty; body = Some t } ∷ []) Between (nat_le (depth t) max_depth)

identifier_fine : {names : List (List ℕ)} {scope : Scope} (binder : Bool) (p : ℕ) (name : List ℕ) (x : OfPlace names scope)
    → IsFine (advance_one (place_state binder x) p (Name name))
identifier_fine true p name x = tt
identifier_fine false p name x = atom_fine x.m x.head x.frames x.f p name (meaning x.m x.frames name)

sort_fine : {names : List (List ℕ)} {scope : Scope} (binder : Bool) (p : ℕ) (x : OfPlace names scope) → IsFine (advance_one (place_state binder x) p TypeWord)
sort_fine true p x = tt
sort_fine false p x = tt

left_fine : {names : List (List ℕ)} {scope : Scope} (binder : Bool) (p : ℕ) (x : OfPlace names scope) → IsFine (advance_one (place_state binder x) p LeftParen)
left_fine true p x = tt
left_fine false p x = tt

-- after a type or a body
record OfClosed (name : List ℕ) (end : Token) : Type 0 where
  m : List Declaration
  head : Head
  t : Tree
  closed : IsClosedBy head name end

-- after an application in the domain of a binder
record InDomain (name : List ℕ) : Type 0 where
  m : List Declaration
  head : Head
  frames : List Frame
  t : Tree

module _ (e : ℕ) (all : List Placed) (ascending : AreAscending e all) where
  abbrev read : Outcome
  read = run [] Between all

  abbrev Comes : (X : Type 0) → (X → Outcome) → List Placed → Type 0
  Comes X so tokens = Reaches read e X so tokens

  conclude : {X : Type 0} {so : X → Outcome} {p : ℕ} {token : Token} {rest : List Placed} → Comes X so (at p token ∷ rest) → AreAfter e p rest
      → ((x : X) → IsFine (advance_one (so x) p token)) → read ≡ Stops (refusal p BadText) → ⊥
  conclude {p = p} (past r h a) b f k = let same : r ≡ refusal p BadText = cc in absurd (omega (arith, a.0, ap (λ s. s.place) same))
  conclude {so = so} {p = p} {token = token} {rest = rest} (reached x h) b f k =
      fine_later e p (advance_one (so x) p token) rest (f x) b (sym (advance_all-cons (so x) p token rest) ∙ sym h ∙ k)

  -- after a declaration's name
  named_split : {q : ℕ} {rest : List Placed} (form : Form) (name : List ℕ) (p : ℕ) (m : List Declaration) (b : Bool) → AreAfter e p (at q Colon ∷ rest) → read
      ≡ advance_all (if b then stops p (NameTwice name) else Goes m (AfterName form name)) (at q Colon ∷ rest)
      → Comes (List Declaration) (λ n. Goes n (AfterName form name)) (at q Colon ∷ rest)
  named_split form name p m true a k = past (refusal p (NameTwice name)) k a
  named_split form name p m false a k = reached m k

  named : {q : ℕ} {rest : List Placed} (form : Form) (name : List ℕ) (p : ℕ) (m : List Declaration) → AreAfter e p (at q Colon ∷ rest) → read
      ≡ run m (name_state form) (at p (Name name) ∷ at q Colon ∷ rest) → Comes (List Declaration) (λ n. Goes n (AfterName form name)) (at q Colon ∷ rest)
  named Symbol name p m a k = named_split Symbol name p m (is_declared (signature ++ m) name) a k
  named Def name p m a k = named_split Def name p m (is_declared (signature ++ m) name) a k
  named Thm name p m a k = named_split Thm name p m (is_declared (signature ++ m) name) a k

  closing : {name : List ℕ} {end : Token} {p : ℕ} {rest : List Placed} (m : List Declaration) (head : Head) (t : Tree) → IsClosedBy head name end → read
      ≡ run m (InApplication head [] (Some t)) (at p end ∷ rest)
      → Comes (OfClosed name end) (λ x. Goes x.m (InApplication x.head [] (Some x.t))) (at p end ∷ rest)
  closing m head t c k = reached (record { m = m; head = head; t = t; closed = c }) k

  after_first : {names : List (List ℕ)} {scope : Scope} {rest : List Placed} (p : ℕ) (name : List ℕ) (x : OfTerm names scope) → read
      ≡ run x.m (AtTerm x.head x.frames) (at p (Name name) ∷ rest) → Comes (OfTerm names scope) (λ y. Goes y.m (AfterFirst y.head y.frames p name)) rest
  after_first p name x k = reached x k

  after_domain : {rest : List Placed} (name : List ℕ) (m : List Declaration) (head : Head) (frames : List Frame) (t : Tree) → read
      ≡ run m (InApplication head (Domain name ∷ frames) (Some t)) rest
      → Comes (InDomain name) (λ w. Goes w.m (InApplication w.head (Domain name ∷ w.frames) (Some w.t))) rest
  after_domain name m head frames t k = reached (record { m = m; head = head; frames = frames; t = t }) k

  -- after what a parenthesis encloses
  in_parentheses : {names : List (List ℕ)} {scope : Scope} {tokens rest : List Placed} {q : ℕ} (p : ℕ) (binder : Bool) (y : OfPlace names scope)
      → BareTerm tokens (at q RightParen ∷ rest) → AreAscending e tokens → read ≡ advance_all (place_state binder y) (at p LeftParen ∷ tokens)
      → read ≡ Stops (refusal q BadText) → ⊥
  in_parentheses p true y t a k = conclude (term_reaches read e y.m t y.head (Enclosing None ∷ y.frames) tt tt a k) (term_keeps (ascending_kept e) t a).0
      (λ z. tt)
  in_parentheses p false y t a k = conclude (term_reaches read e y.m t y.head (Enclosing y.f ∷ y.frames) tt tt a k) (term_keeps (ascending_kept e) t a).0
      (λ z. tt)

  -- the first of the tokens can't follow
  abbrev IsBadAt : List Placed → Type 0
  IsBadAt [] = ⊥
  IsBadAt (at p token ∷ rest) = read ≡ Stops (refusal p BadText)

  follows_parenthesis : {names : List (List ℕ)} {scope : Scope} {tokens rest : List Placed} {q : ℕ} (p : ℕ) (binder : Bool)
      → Comes (OfPlace names scope) (place_state binder) (at p LeftParen ∷ tokens) → BareTerm tokens (at q RightParen ∷ rest)
      → AreAscending e (at p LeftParen ∷ tokens) → read ≡ Stops (refusal q BadText) → ⊥
  follows_parenthesis {q = q} p binder (past r h a) t b k = let same : r ≡ refusal q BadText =
      cc in absurd (omega (arith, (term_keeps (after_kept e r.place) t a.1).0, ap (λ s. s.place) same))
  follows_parenthesis p binder (reached y h) t b k = in_parentheses p binder y t b.1 h k

  -- no token that can follow is refused for that
  pub can-follow : {tokens : List Placed} → CanFollow all tokens → IsBadAt tokens → ⊥
  can-follow (definition_word d) k = conclude (declaration_comes e all ascending d) (declaration_keeps (ascending_kept e) ascending d).0 (λ x. tt) k
  can-follow (theorem_word d) k = conclude (declaration_comes e all ascending d) (declaration_keeps (ascending_kept e) ascending d).0 (λ x. tt) k
  can-follow (declared_name {form = form} {name = name} {p = p} n) k =
      conclude (name_comes e all ascending n) (name_keeps (ascending_kept e) ascending n).0 (λ x. name_fine x.m form p name) k
  can-follow (declared_colon {form = form} {name = name} {p = p} n) k =
      conclude (then_reaches (name_comes e all ascending n) (λ c l. l.1) (λ x l. named form name p x.m (name_keeps (ascending_kept e) ascending n).0 l))
      (name_keeps (ascending_kept e) ascending n).1.0 (λ x. tt) k
  can-follow (whole_end {name = name} {end = end} {rest = rest} {p = p} w t) k =
      conclude (then_reaches (whole_comes e all ascending w) (λ n. term_keeps (after_kept e n) t)
      (λ x l. then_reaches (term_reaches read e x.m t x.head [] tt (closed_end p rest x.closed) (whole_keeps (ascending_kept e) ascending w) l) (λ n i. i)
      (λ y i. closing x.m x.head y x.closed i)))
      (term_keeps (ascending_kept e) t (whole_keeps (ascending_kept e) ascending w)).0 (λ x. closed_fine x.m x.head x.t p x.closed) k
  can-follow (identifier_atom {binder = binder} {name = name} {p = p} a) k =
      conclude (atom_comes e all ascending a tt) (atom_stands_keeps (ascending_kept e) ascending a).0 (λ x. identifier_fine binder p name x) k
  can-follow (sort_atom {binder = binder} {p = p} a) k =
      conclude (atom_comes e all ascending a tt) (atom_stands_keeps (ascending_kept e) ascending a).0 (λ x. sort_fine binder p x) k
  can-follow (left_parenthesis {binder = binder} {p = p} a) k =
      conclude (atom_comes e all ascending a tt) (atom_stands_keeps (ascending_kept e) ascending a).0 (λ x. left_fine binder p x) k
  can-follow (right_parenthesis {binder = binder} {p = p} a t) k =
      follows_parenthesis p binder (atom_comes e all ascending a tt) t (atom_stands_keeps (ascending_kept e) ascending a) k
  can-follow (binder_colon {scope = scope} {name = name} {p = p} t) k =
      conclude {token = Colon} (then_reaches (term_comes e all ascending t) (λ n l. l.1) (λ x l. after_first p name x l))
      (term_begins_keeps (ascending_kept e) ascending t).1.0 (λ x. tt) k
  can-follow (arrow_sign a y) k =
      conclude (applied_comes e all ascending a y tt) (application_keeps (ascending_kept e) y (application_begins_keeps (ascending_kept e) ascending a)).0
      (λ x. arrow_fine x.m x.head x.frames x.t) k
  can-follow (fat_arrow_sign {name = name} t y) k =
      conclude {token = FatArrow} (then_reaches (term_comes e all ascending t) (λ n l. application_keeps (after_kept e n) y l.1.1)
      (λ x l. then_reaches (application_reaches read e x.m y x.head (Domain name ∷ x.frames) (term_begins_keeps (ascending_kept e) ascending t).1.1 l)
      (λ n i. i)
      (λ z i. after_domain name x.m x.head x.frames z i)))
      (application_keeps (ascending_kept e) y (term_begins_keeps (ascending_kept e) ascending t).1.1).0 (λ x. tt) k

-- the place of an end
abbrev pub place_of : End → ℕ
place_of (ended p) = p
place_of (stuck p) = p

-- the answer is a refusal at an earlier place, or this one
abbrev pub IsNoLater : Answer → Refusal → Type 0
IsNoLater (reads m) r = ⊥
IsNoLater (refused s) r = (s.place < r.place) ⊎ (s ≡ r)

-- a reading that stopped is answered so
pub answers-Stops : (o : Outcome) (r : Refusal) (end : End) → o ≡ Stops r → answers o end ≡ refused r
answers-Stops o r (ended p) h = ap (λ c. answers c (ended p)) h
answers-Stops o r (stuck p) h = ap (λ c. answers c (stuck p)) h

pub no_later : (o : Outcome) (r s : Refusal) (end : End) → o ≡ Stops s → (s.place < r.place) ⊎ (s ≡ r) → IsNoLater (answers o end) r
no_later o r s end h k = subst (λ a. IsNoLater a r) (sym (answers-Stops o s end h)) k

-- after an identifier that may be a binder, at the end of the tokens
answers-AfterFirst : (m : List Declaration) (head : Head) (frames : List Frame) (p : ℕ) (name : List ℕ) (end : End) (o : Outcome)
    → o ≡ Goes m (AfterFirst head frames p name) → meaning m frames name ≡ None → answers o end ≡ refused (refusal p (UnknownName name))
answers-AfterFirst m head frames p name (ended q) o h k = ap (λ c. answers c (ended q)) h ∙ ap (λ x. refused (broken_after p name x q)) k
answers-AfterFirst m head frames p name (stuck q) o h k = ap (λ c. answers c (stuck q)) h ∙ ap (λ x. refused (broken_after p name x q)) k

meaning-None : {names : List (List ℕ)} {scope : Scope} (m : List Declaration) (frames : List Frame) (name : List ℕ) → names_of m ≡ names
    → scope_of frames ≡ scope → variable_of scope name ≡ None → IsFalse (is_symbol names name) → meaning m frames name ≡ None
meaning-None {names = names} m frames name n s v i =
    ap (λ w. meant m w (symbol_of m name)) (ap (λ c. variable_of c name) s ∙ v) ∙ ap (λ w. meant m None w) (is_symbol-symbol_of m names name n i)

too_deep_le : (t : Tree) → max_depth < depth t → nat_le (depth t) max_depth ≡ false
too_deep_le t k = grind (arith, common_steps, k)

-- a tree that is too deep stops the reading
deep_stops : (t : Tree) (p : ℕ) (o : Outcome) (rest : List Placed) → max_depth < depth t → advance_all (unless_deep t p o) rest ≡ Stops (refusal p DkTooDeep)
deep_stops t p o rest k = ap (λ (b : Bool). advance_all (if b then o else stops p DkTooDeep) rest) (too_deep_le t k)

closed_deep : {name : List ℕ} {end : Token} (m : List Declaration) (head : Head) (t : Tree) (p : ℕ) (rest : List Placed) → IsClosedBy head name end
    → max_depth < depth t → run m (InApplication head [] (Some t)) (at p end ∷ rest) ≡ Stops (refusal p DkTooDeep)
closed_deep m (TypeOf Symbol name) t p rest symbol_type k =
    deep_stops t p (Goes (m ++ record { name = name; form = Symbol; ty = t; body = None } ∷ []) Between) rest k
closed_deep m (TypeOf Def name) t p rest definition_type k = deep_stops t p (Goes m (AtTerm (BodyOf Def name t) [])) rest k
closed_deep m (TypeOf Thm name) t p rest theorem_type k = deep_stops t p (Goes m (AtTerm (BodyOf Thm name t) [])) rest k
closed_deep m (BodyOf form name ty) t p rest any_body k =
    deep_stops t p (Goes (m ++ record { name = name; form = form; ty = ty; body = Some t } ∷ []) Between) rest k

-- what is read before a type or a body leads to its beginning
declared_read : {all tokens : List Placed} {m : List Declaration} → Declared all m tokens → run [] Between all ≡ run m Between tokens
declared_read none_yet = refl
declared_read (one_more {m = m} h d) = declared_read h ∙ declares_runs m d

name_read : {all tokens : List Placed} {m : List Declaration} {form : Form} {name : List ℕ} → NameReads all m form name tokens
    → run [] Between all ≡ run m (AtTerm (TypeOf form name) []) tokens
name_read {m = m} (symbol_name {name = name} {tokens = tokens} {p = p} {q = q} h new) =
    declared_read h ∙ names_run m Between (Goes m (AfterName Symbol name)) name p (at q Colon ∷ tokens) (is_declared (signature ++ m) name) new
name_read {m = m} (definition_name {name = name} {tokens = tokens} {p = p} {q = q} h new) =
    declared_read h ∙ names_run m Between (Goes m (AfterName Def name)) name p (at q Colon ∷ tokens) (is_declared (signature ++ m) name) new
name_read {m = m} (theorem_name {name = name} {tokens = tokens} {p = p} {q = q} h new) =
    declared_read h ∙ names_run m Between (Goes m (AfterName Thm name)) name p (at q Colon ∷ tokens) (is_declared (signature ++ m) name) new

record IsWholeRead (all : List Placed) (m : List Declaration) (end : Token) (tokens : List Placed) : Type 0 where
  head : Head
  name : List ℕ
  closed : IsClosedBy head name end
  run : run [] Between all ≡ run m (AtTerm head []) tokens

whole_read : {all tokens : List Placed} {m : List Declaration} {end : Token} → WholeReads all m end tokens → IsWholeRead all m end tokens
whole_read (WholeReads.symbol_type {name = name} n) = record { head = TypeOf Symbol name; name = name; closed = symbol_type; run = name_read n }
whole_read (bodied_type {name = name} {form = Def} b n) = record { head = TypeOf Def name; name = name; closed = definition_type; run = name_read n }
whole_read (bodied_type {name = name} {form = Thm} b n) = record { head = TypeOf Thm name; name = name; closed = theorem_type; run = name_read n }
whole_read (bodied_type {name = name} {form = Symbol} b n) = absurd b
whole_read {m = m} (body_after {name = name} {form = Def} {rest = rest} {p = p} {t = t} b n w) = record {
  head = BodyOf Def name t;
  name = name;
  closed = any_body;
  run = name_read n ∙ term_runs m w.term (TypeOf Def name) [] refl tt tt ∙ shallow_runs m t p (Goes m (AtTerm (BodyOf Def name t) [])) rest w.shallow;
}
whole_read {m = m} (body_after {name = name} {form = Thm} {rest = rest} {p = p} {t = t} b n w) = record {
  head = BodyOf Thm name t;
  name = name;
  closed = any_body;
  run = name_read n ∙ term_runs m w.term (TypeOf Thm name) [] refl tt tt ∙ shallow_runs m t p (Goes m (AtTerm (BodyOf Thm name t) [])) rest w.shallow;
}
whole_read (body_after {form = Symbol} b n w) = absurd b

twice_stops : (m : List Declaration) (form : Form) (name : List ℕ) (p : ℕ) (rest : List Placed) → is_declared (signature ++ m) name ≡ true
    → run m (name_state form) (at p (Name name) ∷ rest) ≡ Stops (refusal p (NameTwice name))
twice_stops m Symbol name p rest h = ap (λ (b : Bool). advance_all (if b then stops p (NameTwice name) else Goes m (AfterName Symbol name)) rest) h
twice_stops m Def name p rest h = ap (λ (b : Bool). advance_all (if b then stops p (NameTwice name) else Goes m (AfterName Def name)) rest) h
twice_stops m Thm name p rest h = ap (λ (b : Bool). advance_all (if b then stops p (NameTwice name) else Goes m (AfterName Thm name)) rest) h

-- where a tree ends that is too deep, the reading stops for that
pub deep-Stops : {all : List Placed} {m : List Declaration} {last : Token} {tokens rest : List Placed} {p : ℕ} {t : Tree} → WholeReads all m last tokens
    → Term m [] tokens (at p last ∷ rest) t → max_depth < depth t → run [] Between all ≡ Stops (refusal p DkTooDeep)
deep-Stops {m = m} {rest = rest} {p = p} {t = t} w u k =
    let r = whole_read w in
    r.run ∙ term_runs m u r.head [] refl tt (closed_end p rest r.closed) ∙ closed_deep m r.head t p rest r.closed k

module _ (end : End) (all : List Placed) (ascending : AreAscending (place_of end) all) where
  abbrev answered : Answer
  answered = answers (run [] Between all) end

  -- where an identifier stands that is unknown
  unknown_least : {names : List (List ℕ)} {scope : Scope} (name : List ℕ) (p : ℕ) (binder : Bool) (rest : List Placed) (y : OfPlace names scope)
      → variable_of scope name ≡ None → IsFalse (is_symbol names name) → IsNoBinder binder rest
      → run [] Between all ≡ advance_all (place_state binder y) (at p (Name name) ∷ rest) → IsNoLater answered (refusal p (UnknownName name))
  unknown_least name p false rest y v i b h =
      no_later (run [] Between all) (refusal p (UnknownName name)) (refusal p (UnknownName name)) end
      (h ∙ ap (λ o. advance_all (atom y.m y.head y.frames y.f p name o) rest) (meaning-None y.m y.frames name y.named y.scoped v i)) (inr refl)
  unknown_least name p true [] y v i b h =
      subst (λ a. IsNoLater a (refusal p (UnknownName name)))
      (sym (answers-AfterFirst y.m y.head y.frames p name end (run [] Between all) h (meaning-None y.m y.frames name y.named y.scoped v i))) (inr refl)
  unknown_least name p true (at q Colon ∷ rest) y v i b h = absurd b
  unknown_least name p true (at q token ∷ rest) y v i b h =
      no_later (run [] Between all) (refusal p (UnknownName name)) (refusal p (UnknownName name)) end
      (h ∙ ap (λ o. advance_all (goes_on y.m y.head y.frames p name o q token) rest) (meaning-None y.m y.frames name y.named y.scoped v i)) (inr refl)

  pub unknown-no-later : {names : List (List ℕ)} {scope : Scope} {binder : Bool} {name : List ℕ} {rest : List Placed} {p : ℕ}
      → AtomStands all names scope binder (at p (Name name) ∷ rest) → variable_of scope name ≡ None → IsFalse (is_symbol names name) → IsNoBinder binder rest
      → IsNoLater answered (refusal p (UnknownName name))
  unknown-no-later {names = names} {scope = scope} {binder = binder} {name = name} {rest = rest} {p = p} a v i b =
      least (atom_comes (place_of end) all ascending a tt)
    where
      least : Reaches (run [] Between all) (place_of end) (OfPlace names scope) (place_state binder) (at p (Name name) ∷ rest)
          → IsNoLater answered (refusal p (UnknownName name))
      least (past r h c) = no_later (run [] Between all) (refusal p (UnknownName name)) r end h (inl c.0)
      least (reached y h) = unknown_least name p binder rest y v i b h

  pub twice-no-later : {names : List (List ℕ)} {form : Form} {name : List ℕ} {rest : List Placed} {p : ℕ} → NameStands all names form (at p (Name name) ∷ rest)
      → IsTrue (is_symbol names name) → IsNoLater answered (refusal p (NameTwice name))
  twice-no-later {names = names} {form = form} {name = name} {rest = rest} {p = p} n i =
      least (name_comes (place_of end) all ascending n)
    where
      least : Reaches (run [] Between all) (place_of end) (OfNames names) (λ x. Goes x.m (name_state form)) (at p (Name name) ∷ rest)
          → IsNoLater answered (refusal p (NameTwice name))
      least (past r h c) = no_later (run [] Between all) (refusal p (NameTwice name)) r end h (inl c.0)
      least (reached y h) = no_later (run [] Between all) (refusal p (NameTwice name)) (refusal p (NameTwice name)) end
          (h ∙ twice_stops y.m form name p rest (is_declared-is_symbol y.m names name y.named ∙ i)) (inr refl)

  pub deep-no-later : {m : List Declaration} {last : Token} {tokens rest : List Placed} {p : ℕ} {t : Tree} → WholeReads all m last tokens
      → Term m [] tokens (at p last ∷ rest) t → max_depth < depth t → IsNoLater answered (refusal p DkTooDeep)
  deep-no-later {p = p} w u k = no_later (run [] Between all) (refusal p DkTooDeep) (refusal p DkTooDeep) end (deep-Stops w u k) (inr refl)
