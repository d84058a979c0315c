-- Where the bare grammar comes to in a text, the reading from left to right comes to, unless it has been refused before.
use Rattle.std.proofs.Common.{◌≡◌, ℕ, ◌<◌, refl, ◌∙◌, List, [], ◌∷◌, Option, None, Some}
use Rattle.lp_spec.specs.Trees.{Tree, SortType, App, Lam, Pi}
use Rattle.lp_spec.specs.Modules.{Declaration}
use Rattle.lp_spec.specs.Tokens.{Token, Name, TypeWord, Colon, Assign, Arrow, FatArrow, Dot, LeftParen, RightParen, Placed, at}
use Rattle.lp_spec.specs.ReadingFaults.{Frame, Enclosing, Domain, Product, Abstraction, Head, State, AtTerm, InApplication, Outcome, Goes, Stops, Refusal, refusal, UnknownName, meaning, argued, atom, goes_on, advance_all}
use Rattle.lp_spec.specs.Faults.{BareAtom, identifier, sort, enclosed, BareArguments, none, argument, BareApplication, application, BareTerm, product, abstraction, nameless, plain}
use Rattle.dk_laws.specs.TermEnds.{IsApplied, IsEnded, IsOpen, ended_applied}

-- all places from these tokens on to the end at e are after n
abbrev pub AreAfter : ℕ → ℕ → List Placed → Type 0
AreAfter e n [] = n < e
AreAfter e n (at p token ∷ tokens) = (n < p) × AreAfter e n tokens

-- each place is before all that follow
abbrev pub AreAscending : ℕ → List Placed → Type 0
AreAscending e [] = Unit {0}
AreAscending e (at p token ∷ tokens) = AreAfter e p tokens × AreAscending e tokens

-- what holds of tokens and so of those after the first of them
pub record IsKept (P : List Placed → Type 0) : Type 0 where
  pub tail : (p : ℕ) (token : Token) (tokens : List Placed) → P (at p token ∷ tokens) → P tokens

pub after_kept : (e n : ℕ) → IsKept (AreAfter e n)
after_kept e n = record { tail = λ p token tokens h. h.1 }

pub ascending_kept : (e : ℕ) → IsKept (AreAscending e)
ascending_kept e = record { tail = λ p token tokens h. h.1 }

module _ {P : List Placed → Type 0} (k : IsKept P) where
  mutual
    pub atom_keeps : {tokens rest : List Placed} → BareAtom tokens rest → P tokens → P rest
    atom_keeps (identifier {rest = rest} {p = p} {name = name}) h = k.tail p (Name name) rest h
    atom_keeps (sort {rest = rest} {p = p}) h = k.tail p TypeWord rest h
    atom_keeps (enclosed {tokens = tokens} {rest = rest} {p = p} {q = q} t) h = k.tail q RightParen rest (term_keeps t (k.tail p LeftParen tokens h))

    pub arguments_keep : {tokens rest : List Placed} → BareArguments tokens rest → P tokens → P rest
    arguments_keep none h = h
    arguments_keep (argument a args) h = arguments_keep args (atom_keeps a h)

    pub application_keeps : {tokens rest : List Placed} → BareApplication tokens rest → P tokens → P rest
    application_keeps (application a args) h = arguments_keep args (atom_keeps a h)

    pub term_keeps : {tokens rest : List Placed} → BareTerm tokens rest → P tokens → P rest
    term_keeps (product {tokens = tokens} {more = more} {p = p} {q = q} {r = r} {name = name} a t) h =
        term_keeps t (k.tail r Arrow more (application_keeps a (k.tail q Colon tokens (k.tail p (Name name) (at q Colon ∷ tokens) h))))
    term_keeps (abstraction {tokens = tokens} {more = more} {p = p} {q = q} {r = r} {name = name} a t) h =
        term_keeps t (k.tail r FatArrow more (application_keeps a (k.tail q Colon tokens (k.tail p (Name name) (at q Colon ∷ tokens) h))))
    term_keeps (nameless {more = more} {r = r} a t) h = term_keeps t (k.tail r Arrow more (application_keeps a h))
    term_keeps (plain a) h = application_keeps a h

abbrev pub run : List Declaration → State → List Placed → Outcome
run m state tokens = advance_all (Goes m state) tokens

-- a reading, which has that outcome where the tokens end at e, was refused before these tokens, or comes to them so
pub data Reaches (final : Outcome) (e : ℕ) (X : Type 0) (so : X → Outcome) (tokens : List Placed) : Type 0 where
  past : (r : Refusal) → final ≡ Stops r → AreAfter e r.place tokens → Reaches final e X so tokens
  reached : (x : X) → final ≡ advance_all (so x) tokens → Reaches final e X so tokens

-- it goes on
pub then_reaches : {final : Outcome} {e : ℕ} {X Y : Type 0} {so : X → Outcome} {also : Y → Outcome} {more rest : List Placed} → Reaches final e X so more
    → ((n : ℕ) → AreAfter e n more → AreAfter e n rest) → ((x : X) → final ≡ advance_all (so x) more → Reaches final e Y also rest)
    → Reaches final e Y also rest
then_reaches (past r h a) k f = past r h (k r.place a)
then_reaches (reached x h) k f = f x h

module _ (final : Outcome) (e : ℕ) (m : List Declaration) where
  -- after an application
  abbrev pub Applied : Head → List Frame → List Placed → Type 0
  Applied head frames rest = Reaches final e Tree (λ x. Goes m (InApplication head frames (Some x))) rest

  -- after an atom, where f stands before it, if anything
  abbrev pub Argued : Head → List Frame → Option Tree → List Placed → Type 0
  Argued head frames f rest = Reaches final e Tree (λ x. Goes m (InApplication head frames (Some (argued f x)))) rest

  -- what ends a term ends the product or abstraction that the term is the body of
  pub ended_product : (head : Head) (frames : List Frame) (name : List ℕ) (a b : Tree) (tokens : List Placed) → IsEnded tokens
      → run m (InApplication head (Product name a ∷ frames) (Some b)) tokens ≡ run m (InApplication head frames (Some (Pi a b))) tokens
  ended_product head frames name a b (at p RightParen ∷ tokens) h = refl
  ended_product head frames name a b (at p Dot ∷ tokens) h = refl
  ended_product head frames name a b (at p Assign ∷ tokens) h = refl
  ended_product head frames name a b _ h = absurd h

  pub ended_abstraction : (head : Head) (frames : List Frame) (name : List ℕ) (a b : Tree) (tokens : List Placed) → IsEnded tokens
      → run m (InApplication head (Abstraction name a ∷ frames) (Some b)) tokens ≡ run m (InApplication head frames (Some (Lam a b))) tokens
  ended_abstraction head frames name a b (at p RightParen ∷ tokens) h = refl
  ended_abstraction head frames name a b (at p Dot ∷ tokens) h = refl
  ended_abstraction head frames name a b (at p Assign ∷ tokens) h = refl
  ended_abstraction head frames name a b _ h = absurd h

  pub arrow_opens : (head : Head) (frames : List Frame) (a : Tree) (p : ℕ) (tokens : List Placed) → IsOpen frames
      → run m (InApplication head frames (Some a)) (at p Arrow ∷ tokens) ≡ run m (AtTerm head (Product [] a ∷ frames)) tokens
  arrow_opens head (Domain name ∷ frames) a p tokens h = absurd h
  arrow_opens head _ a p tokens h = refl

  -- an identifier as an atom
  name_reaches : (head : Head) (frames : List Frame) (f : Option Tree) (p : ℕ) (name : List ℕ) (rest : List Placed) (o : Option Tree)
      → meaning m frames name ≡ o → AreAfter e p rest → final ≡ advance_all (atom m head frames f p name o) rest → Argued head frames f rest
  name_reaches head frames f p name rest None h a k = past (refusal p (UnknownName name)) k a
  name_reaches head frames f p name rest (Some x) h a k = reached x k

  first_on : (head : Head) (frames : List Frame) (p : ℕ) (name : List ℕ) (q : ℕ) (token : Token) (rest : List Placed) (o : Option Tree)
      → meaning m frames name ≡ o → AreAfter e p (at q token ∷ rest) → final ≡ advance_all (goes_on m head frames p name o q token) rest
      → Applied head frames (at q token ∷ rest)
  first_on head frames p name q token rest None h a k = past (refusal p (UnknownName name)) k a
  first_on head frames p name q token rest (Some x) h a k = reached x k

  first_reaches : (head : Head) (frames : List Frame) (p : ℕ) (name : List ℕ) (rest : List Placed) → IsApplied rest → AreAfter e p rest
      → final ≡ run m (AtTerm head frames) (at p (Name name) ∷ rest) → Applied head frames rest
  first_reaches head frames p name [] h a k = absurd h
  first_reaches head frames p name (at q Colon ∷ rest) h a k = absurd h
  first_reaches head frames p name (at q token ∷ rest) h a k = first_on head frames p name q token rest (meaning m frames name) refl a k

  atom_applied : {tokens rest : List Placed} → BareAtom tokens rest → IsApplied tokens
  atom_applied identifier = tt
  atom_applied sort = tt
  atom_applied (enclosed t) = tt

  arguments_applied : {tokens rest : List Placed} → BareArguments tokens rest → IsApplied rest → IsApplied tokens
  arguments_applied none h = h
  arguments_applied (argument a args) h = atom_applied a

  mutual
    pub atom_reaches : {tokens rest : List Placed} → BareAtom tokens rest → (head : Head) (frames : List Frame) (f : Option Tree) → AreAscending e tokens
        → final ≡ run m (InApplication head frames f) tokens → Argued head frames f rest
    atom_reaches (identifier {rest = rest} {p = p} {name = name}) head frames f a h = name_reaches head frames f p name rest (meaning m frames name) refl a.0 h
    atom_reaches sort head frames f a h = reached SortType h
    atom_reaches (enclosed t) head frames f a h = then_reaches (term_reaches t head (Enclosing f ∷ frames) tt tt a.1 h) (λ n k. k.1) (λ x k. reached x k)

    pub first_atom_reaches : {tokens rest : List Placed} → BareAtom tokens rest → (head : Head) (frames : List Frame) → IsApplied rest → AreAscending e tokens
        → final ≡ run m (AtTerm head frames) tokens → Applied head frames rest
    first_atom_reaches (identifier {rest = rest} {p = p} {name = name}) head frames i a h = first_reaches head frames p name rest i a.0 h
    first_atom_reaches sort head frames i a h = reached SortType h
    first_atom_reaches (enclosed t) head frames i a h =
        then_reaches (term_reaches t head (Enclosing None ∷ frames) tt tt a.1 h) (λ n k. k.1) (λ x k. reached x k)

    pub arguments_reach : {tokens rest : List Placed} → BareArguments tokens rest → (head : Head) (frames : List Frame) (f : Tree) → AreAscending e tokens
        → final ≡ run m (InApplication head frames (Some f)) tokens → Applied head frames rest
    arguments_reach none head frames f a h = reached f h
    arguments_reach (argument x args) head frames f a h =
        then_reaches (atom_reaches x head frames (Some f) a h) (λ n. arguments_keep (after_kept e n) args)
        (λ y k. arguments_reach args head frames (App f y) (atom_keeps (ascending_kept e) x a) k)

    pub application_reaches : {tokens rest : List Placed} → BareApplication tokens rest → (head : Head) (frames : List Frame) → AreAscending e tokens
        → final ≡ run m (InApplication head frames None) tokens → Applied head frames rest
    application_reaches (application x args) head frames a h =
        then_reaches (atom_reaches x head frames None a h) (λ n. arguments_keep (after_kept e n) args)
        (λ y k. arguments_reach args head frames y (atom_keeps (ascending_kept e) x a) k)

    pub first_application_reaches : {tokens rest : List Placed} → BareApplication tokens rest → (head : Head) (frames : List Frame) → IsApplied rest
        → AreAscending e tokens → final ≡ run m (AtTerm head frames) tokens → Applied head frames rest
    first_application_reaches (application x args) head frames i a h =
        then_reaches (first_atom_reaches x head frames (arguments_applied args i) a h) (λ n. arguments_keep (after_kept e n) args)
        (λ y k. arguments_reach args head frames y (atom_keeps (ascending_kept e) x a) k)

    pub term_reaches : {tokens rest : List Placed} → BareTerm tokens rest → (head : Head) (frames : List Frame) → IsOpen frames → IsEnded rest
        → AreAscending e tokens → final ≡ run m (AtTerm head frames) tokens → Applied head frames rest
    term_reaches {rest = rest} (product {name = name} x t) head frames o i a h =
        then_reaches (application_reaches x head (Domain name ∷ frames) a.1.1 h) (λ n k. term_keeps (after_kept e n) t k.1)
        (λ y k. then_reaches (term_reaches t head (Product name y ∷ frames) tt i (application_keeps (ascending_kept e) x a.1.1).1 k) (λ n l. l)
        (λ z l. reached (Pi y z) (l ∙ ended_product head frames name y z rest i)))
    term_reaches {rest = rest} (abstraction {name = name} x t) head frames o i a h =
        then_reaches (application_reaches x head (Domain name ∷ frames) a.1.1 h) (λ n k. term_keeps (after_kept e n) t k.1)
        (λ y k. then_reaches (term_reaches t head (Abstraction name y ∷ frames) tt i (application_keeps (ascending_kept e) x a.1.1).1 k) (λ n l. l)
        (λ z l. reached (Lam y z) (l ∙ ended_abstraction head frames name y z rest i)))
    term_reaches {rest = rest} (nameless {more = more} {r = r} x t) head frames o i a h =
        then_reaches (first_application_reaches x head frames tt a h) (λ n k. term_keeps (after_kept e n) t k.1)
        (λ y k. then_reaches
        (term_reaches t head (Product [] y ∷ frames) tt i (application_keeps (ascending_kept e) x a).1 (k ∙ arrow_opens head frames y r more o)) (λ n l. l)
        (λ z l. reached (Pi y z) (l ∙ ended_product head frames [] y z rest i)))
    term_reaches {rest = rest} (plain x) head frames o i a h = first_application_reaches x head frames (ended_applied rest i) a h
