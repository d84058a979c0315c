-- Declarations that end, and parentheses that close.
use Rattle.std.proofs.Common.{◌≡◌, ℕ, ◌<◌, ◌≤◌, refl, sym, ap, subst, ◌∙◌, List, [], ◌∷◌, ◌++◌, length, Option, None, Some, Result, arith}
use Rattle.lp_spec.specs.declared.form.Form.{Form}
use Rattle.lp_spec.specs.declared.form.Form.TheVariants.{Symbol}
use Rattle.std.specs.Prelude.{unwrap_or}
use Rattle.lp_spec.specs.Trees.{Tree, SortType}
use Rattle.lp_spec.specs.Modules.{Declaration, signature}
use Rattle.lp_spec.specs.ModuleOrder.{MayFollow}
use Rattle.lp_spec.specs.Tokens as tokens
use Rattle.lp_spec.specs.ReadingFaults as reading
use Rattle.lp_spec.specs.ModuleOrder.{IsModule}
use Rattle.dk_laws.specs.ReadingOrder.{IsOrdered, meaning-IsUnder, IsState, IsHead, IsUnder, whole-IsUnder, symbol_follows, body_follows}
use Rattle.lp_term.specs.declared.LpId.{LpId}
use Rattle.lp_term.specs.Tables.{tree_at, Holds}
use Rattle.holide_sig.specs.declared.module.Module.{Module}
use Rattle.holide_sig.specs.Modules.{declarations_of}
use Rattle.dk_read.specs.declared.faults.Stop.{Stop}
use Rattle.dk_read.specs.declared.terms.Head.{Head}
use Rattle.dk_read.specs.declared.terms.Head.TheVariants as head
use Rattle.dk_read.specs.declared.terms.State.{State}
use Rattle.dk_read.specs.declared.terms.State.TheVariants as state
use Rattle.dk_read.specs.declared.terms.Token.{Token}
use Rattle.dk_read.specs.declared.terms.Token.TheVariants as token
use Rattle.dk_read.specs.declared.parser.Parser.{Parser}
use Rattle.dk_read.specs.Names.{Named, name_at}
use Rattle.dk_read.specs.States.{before, frames_of, head_in, head_of, state_in, state_of, tree_in, IsIdKnown, token_in, Becomes, Unwinds, Grows, NoColon, IsSign, IsTokenKnown}
use Rattle.dk_read.proofs.Grown.{tree_in-Keeps}

-- an outcome under another name
pub becomes_as : (o n : reading.Outcome) (p : Parser) (r : Result (Unit {0}) Stop) → o ≡ n → Becomes n p r → Becomes o p r
becomes_as o n p r e h = subst (λ w. Becomes w p r) (sym e) h

-- a parenthesis that closes
pub closes : (m : List Declaration) (h : reading.Head) (frames outer inner : List reading.Frame) (t whole : Tree) (p : ℕ) (f : Option Tree)
    → Unwinds frames t outer whole → outer ≡ reading.Enclosing f ∷ inner → reading.encloses m h frames t p
    ≡ reading.Goes m (reading.InApplication h inner (Some (reading.argued f whole)))
closes m h frames outer inner t whole p f u e = u.encloses m h p ∙ ap (λ k. reading.encloses m h k whole p) e

pub closed : (old one two : Parser) (body tree : LpId) (f : Option LpId) (p : ℕ) → before one ≡ before old → head_of one ≡ head_of old
    → Unwinds (frames_of old) (tree_at old.module.table body.0) (frames_of one) (tree_at one.module.table tree.0) → frames_of one
    ≡ reading.Enclosing (tree_in one.module.table f) ∷ frames_of two → (two.module ≡ one.module) × (two.names ≡ one.names) × (two.head ≡ one.head)
    → reading.encloses (before old) (head_of old) (frames_of old) (tree_at old.module.table body.0) p
    ≡ reading.Goes (before two)
    (reading.InApplication (head_of two) (frames_of two) (Some (reading.argued (tree_in two.module.table f) (tree_at two.module.table tree.0))))
closed old one two body tree f p b h u e same =
    closes (before old) (head_of old) (frames_of old) (frames_of one) (frames_of two) (tree_at old.module.table body.0) (tree_at one.module.table tree.0) p
    (tree_in one.module.table f) u e
    ∙ ap (λ w. reading.Goes w
    (reading.InApplication (head_of old) (frames_of two) (Some (reading.argued (tree_in one.module.table f) (tree_at one.module.table tree.0))))) (sym b)
    ∙ ap (λ w. reading.Goes (before one)
    (reading.InApplication w (frames_of two) (Some (reading.argued (tree_in one.module.table f) (tree_at one.module.table tree.0))))) (sym h)
    ∙ ap (λ (w : Module). reading.Goes (declarations_of w)
    (reading.InApplication (head_in w.table one.names one.head) (frames_of two) (Some (reading.argued (tree_in w.table f) (tree_at w.table tree.0)))))
    (sym same.0)
    ∙ ap (λ (w : List Named). reading.Goes (before two)
    (reading.InApplication (head_in two.module.table w one.head) (frames_of two)
    (Some (reading.argued (tree_in two.module.table f) (tree_at two.module.table tree.0))))) (sym same.1)
    ∙ ap (λ (w : Head). reading.Goes (before two)
    (reading.InApplication (head_in two.module.table two.names w) (frames_of two)
    (Some (reading.argued (tree_in two.module.table f) (tree_at two.module.table tree.0))))) (sym same.2)

-- an atom over a table that has grown
pub grown_atom : (old one : Parser) (f : Option LpId) (x : Tree) → Grows old one → IsIdKnown old.module.table f
    → reading.Goes (before old) (reading.InApplication (head_of old) (frames_of old) (Some (reading.argued (tree_in old.module.table f) x)))
    ≡ reading.Goes (before one) (reading.InApplication (head_of one) (frames_of one) (Some (reading.argued (tree_in one.module.table f) x)))
grown_atom old one f x g k =
    ap (λ w. reading.Goes w (reading.InApplication (head_of old) (frames_of old) (Some (reading.argued (tree_in old.module.table f) x)))) (sym g.declared)
    ∙ ap (λ w. reading.Goes (before one) (reading.InApplication w (frames_of old) (Some (reading.argued (tree_in old.module.table f) x)))) (sym g.head)
    ∙ ap (λ w. reading.Goes (before one) (reading.InApplication (head_of one) w (Some (reading.argued (tree_in old.module.table f) x)))) (sym g.frames)
    ∙ ap (λ w. reading.Goes (before one) (reading.InApplication (head_of one) (frames_of one) (Some (reading.argued w x))))
    (sym (tree_in-Keeps old.module.table one.module.table g.keeps old.names one.names g.names f k))

pub name_applies : (m : List Declaration) (h : reading.Head) (frames : List reading.Frame) (f : Option Tree) (p : ℕ) (ns : List Named) (t : Token) (n : ℕ)
    (x : Tree) → t ≡ token.Name n → reading.meaning m frames (name_at ns n) ≡ Some x → reading.applies m h frames f p (token_in ns t)
    ≡ reading.Goes m (reading.InApplication h frames (Some (reading.argued f x)))
name_applies m h frames f p ns t n x is e = ap (λ w. reading.applies m h frames f p (token_in ns w)) is ∙ ap (reading.atom m h frames f p (name_at ns n)) e

pub name_stops : (m : List Declaration) (h : reading.Head) (frames : List reading.Frame) (f : Option Tree) (p : ℕ) (ns : List Named) (t : Token) (n : ℕ) → t
    ≡ token.Name n → reading.meaning m frames (name_at ns n) ≡ None → reading.applies m h frames f p (token_in ns t)
    ≡ reading.stops p (reading.UnknownName (name_at ns n))
name_stops m h frames f p ns t n is e = ap (λ w. reading.applies m h frames f p (token_in ns w)) is ∙ ap (reading.atom m h frames f p (name_at ns n)) e

pub type_applies : (m : List Declaration) (h : reading.Head) (frames : List reading.Frame) (f : Option Tree) (p : ℕ) (ns : List Named) (t : Token) (x : Tree)
    → t ≡ token.TypeWord → x ≡ SortType → reading.applies m h frames f p (token_in ns t)
    ≡ reading.Goes m (reading.InApplication h frames (Some (reading.argued f x)))
type_applies m h frames f p ns t x is e = ap (λ w. reading.applies m h frames f p (token_in ns w)) is ∙ ap
    (λ w. reading.Goes m (reading.InApplication h frames (Some (reading.argued f w)))) (sym e)

pub held_is : (trees : List Tree) (i : ℕ) (t : Tree) → Holds trees i t → tree_at trees i ≡ t
held_is trees i t h = ap (λ o. unwrap_or o SortType) h

module _ (old new : Parser) (body tree : LpId) (st : IsState (before old) (state_in old (state.InApplication (Some body))))
    (e : reading.whole (frames_of old) (tree_at old.module.table body.0) ≡ Some (tree_at new.module.table tree.0)) (b : before new ≡ before old)
    (hh : head_of new ≡ head_of old) where
  ended_under : IsUnder (length (signature ++ before old)) 0 (tree_at new.module.table tree.0)
  ended_under = whole-IsUnder (length (signature ++ before old)) (frames_of old) (tree_at old.module.table body.0) (tree_at new.module.table tree.0) st.1 st.2 e

  head_ordered : (h : Head) → new.head ≡ h → IsHead (before old) (head_in new.module.table new.names h)
  head_ordered h is = subst (IsHead (before old)) (sym hh ∙ ap (head_in new.module.table new.names) is) st.0

  head_old : (h : Head) → new.head ≡ h → head_of old ≡ head_in new.module.table new.names h
  head_old h is = sym hh ∙ ap (head_in new.module.table new.names) is

  pub symbol_may : (n : ℕ) (x : List ℕ) → new.head ≡ head.TypeOf Symbol n → x ≡ name_at new.names n
      → MayFollow (signature ++ before new) (record { name = x; form = Symbol; ty = tree_at new.module.table tree.0; body = None })
  symbol_may n x is same =
      subst (λ m. MayFollow (signature ++ m) (record { name = x; form = Symbol; ty = tree_at new.module.table tree.0; body = None })) (sym b)
      (symbol_follows (before old) x (tree_at new.module.table tree.0)
      (subst (λ y. IsHead (before old) (reading.TypeOf Symbol y)) (sym same) (head_ordered (head.TypeOf Symbol n) is)) ended_under)

  pub symbol_declares : (n : ℕ) (x : List ℕ) (p : ℕ) → new.head ≡ head.TypeOf Symbol n → x ≡ name_at new.names n
      → reading.declares (before old) (head_of old) (reading.whole (frames_of old) (tree_at old.module.table body.0)) p
      ≡ reading.unless_deep (tree_at new.module.table tree.0) p
      (reading.Goes (before new ++ record { name = x; form = Symbol; ty = tree_at new.module.table tree.0; body = None } ∷ []) reading.Between)
  symbol_declares n x p is same =
      ap (λ o. reading.declares (before old) (head_of old) o p) e
      ∙ ap (λ w. reading.declares (before old) w (Some (tree_at new.module.table tree.0)) p) (head_old (head.TypeOf Symbol n) is)
      ∙ ap (λ y. reading.unless_deep (tree_at new.module.table tree.0) p
      (reading.Goes (before old ++ record { name = y; form = Symbol; ty = tree_at new.module.table tree.0; body = None } ∷ []) reading.Between)) (sym same)
      ∙ ap (λ w. reading.unless_deep (tree_at new.module.table tree.0) p
      (reading.Goes (w ++ record { name = x; form = Symbol; ty = tree_at new.module.table tree.0; body = None } ∷ []) reading.Between)) (sym b)

  pub body_may : (form : Form) (n : ℕ) (ty : LpId) (x : List ℕ) → new.head ≡ head.BodyOf form n ty → x ≡ name_at new.names n
      → MayFollow (signature ++ before new)
      (record { name = x; form = form; ty = tree_at new.module.table ty.0; body = Some (tree_at new.module.table tree.0) })
  body_may form n ty x is same =
      subst (λ m. MayFollow (signature ++ m)
      (record { name = x; form = form; ty = tree_at new.module.table ty.0; body = Some (tree_at new.module.table tree.0) })) (sym b)
      (body_follows (before old) form x (tree_at new.module.table ty.0) (tree_at new.module.table tree.0)
      (subst (λ y. IsHead (before old) (reading.BodyOf form y (tree_at new.module.table ty.0))) (sym same) (head_ordered (head.BodyOf form n ty) is))
      ended_under)

  pub body_declares : (form : Form) (n : ℕ) (ty : LpId) (x : List ℕ) (p : ℕ) → new.head ≡ head.BodyOf form n ty → x ≡ name_at new.names n
      → reading.declares (before old) (head_of old) (reading.whole (frames_of old) (tree_at old.module.table body.0)) p
      ≡ reading.unless_deep (tree_at new.module.table tree.0) p
      (reading.Goes (before new ++ record { name = x; form = form; ty = tree_at new.module.table ty.0; body = Some (tree_at new.module.table tree.0) } ∷ [])
      reading.Between)
  body_declares form n ty x p is same =
      ap (λ o. reading.declares (before old) (head_of old) o p) e
      ∙ ap (λ w. reading.declares (before old) w (Some (tree_at new.module.table tree.0)) p) (head_old (head.BodyOf form n ty) is)
      ∙ ap (λ y. reading.unless_deep (tree_at new.module.table tree.0) p
      (reading.Goes (before old ++ record { name = y; form = form; ty = tree_at new.module.table ty.0; body = Some (tree_at new.module.table tree.0) } ∷ [])
      reading.Between)) (sym same)
      ∙ ap (λ w. reading.unless_deep (tree_at new.module.table tree.0) p
      (reading.Goes (w ++ record { name = x; form = form; ty = tree_at new.module.table ty.0; body = Some (tree_at new.module.table tree.0) } ∷ [])
      reading.Between)) (sym b)

-- where a type ends
module _ (old new : Parser) (body tree : LpId) (e : reading.whole (frames_of old) (tree_at old.module.table body.0) ≡ Some (tree_at new.module.table tree.0))
    (b : before new ≡ before old) (hh : head_of new ≡ head_of old) where
  pub ended_with : (h : Head) (p : ℕ) → new.head ≡ h
      → (reading.assigns (before old) (head_of old) (reading.whole (frames_of old) (tree_at old.module.table body.0)) p
      ≡ reading.assigns (before new) (head_in new.module.table new.names h) (Some (tree_at new.module.table tree.0)) p)
  ended_with h p is =
      ap (λ o. reading.assigns (before old) (head_of old) o p) e
      ∙ ap (λ w. reading.assigns (before old) w (Some (tree_at new.module.table tree.0)) p) (sym hh ∙ ap (head_in new.module.table new.names) is)
      ∙ ap (λ m. reading.assigns m (head_in new.module.table new.names h) (Some (tree_at new.module.table tree.0)) p) (sym b)

-- an identifier that begins a term and is no binder's
pub first_goes : (m : List Declaration) (h : reading.Head) (frames : List reading.Frame) (q : ℕ) (name : List ℕ) (p : ℕ) (ns : List Named) (t : Token)
    → NoColon t → reading.advance m (reading.AfterFirst h frames q name) p (token_in ns t)
    ≡ reading.goes_on m h frames q name (reading.meaning m frames name) p (token_in ns t)
first_goes m h frames q name p ns token.Colon n = absurd n
first_goes m h frames q name p ns _ n = refl

-- an identifier that means a tree, over a table that has grown
pub first_ordered : (old one : Parser) (name : List ℕ) (x : Tree) (q : ℕ) → IsModule (before old) → Grows old one
    → IsState (before old) (reading.AfterFirst (head_of old) (frames_of old) q name) → reading.meaning (before old) (frames_of old) name ≡ Some x
    → IsState (before one) (reading.InApplication (head_of one) (frames_of one) (Some x))
first_ordered old one name x q o g st e = subst IsOrdered (grown_atom old one None x g tt) (st.0, st.1, meaning-IsUnder (before old) (frames_of old) name x o e)

pub first_applies : (old one : Parser) (name : List ℕ) (x : Tree) (q p : ℕ) (t u : tokens.Token) → Grows old one
    → reading.meaning (before old) (frames_of old) name ≡ Some x → t ≡ u
    → reading.goes_on (before old) (head_of old) (frames_of old) q name (reading.meaning (before old) (frames_of old) name) p t
    ≡ reading.applies (before one) (head_of one) (frames_of one) (Some x) p u
first_applies old one name x q p t u g e same =
    ap (λ o. reading.goes_on (before old) (head_of old) (frames_of old) q name o p t) e
    ∙ ap (λ w. reading.applies w (head_of old) (frames_of old) (Some x) p t) (sym g.declared)
    ∙ ap (λ w. reading.applies (before one) w (frames_of old) (Some x) p t) (sym g.head)
    ∙ ap (λ w. reading.applies (before one) (head_of one) w (Some x) p t) (sym g.frames)
    ∙ ap (reading.applies (before one) (head_of one) (frames_of one) (Some x) p) same

-- a token over names that have grown
pub token-Grows : (ns ms : List Named) (t : Token) → ((n : ℕ) → n < length ns → name_at ms n ≡ name_at ns n) → IsTokenKnown ns t → token_in ns t ≡ token_in ms t
token-Grows ns ms (token.Name n) s h = ap tokens.Name (sym (s n h))
token-Grows ns ms _ s h = refl

pub IsTokenKnown-longer : (ns ms : List Named) (t : Token) → length ns ≤ length ms → IsTokenKnown ns t → IsTokenKnown ms t
IsTokenKnown-longer ns ms (token.Name n) k h = omega (arith, k, h)
IsTokenKnown-longer ns ms _ k h = tt

pub no_colon : (t : Token) → (t ≡ token.Colon → ⊥) → NoColon t
no_colon token.Colon h = absurd (h refl)
no_colon _ h = tt

-- the token after an identifier that begins a term
pub first_becomes : (p : Parser) (s : State) (first place n : ℕ) (t : Token) → s ≡ state.AfterFirst first n → NoColon t
    → reading.advance (before p) (state_in p s) place (token_in p.names t)
    ≡ reading.goes_on (before p) (head_of p) (frames_of p) first (name_at p.names n) (reading.meaning (before p) (frames_of p) (name_at p.names n)) place
    (token_in p.names t)
first_becomes p s first place n t e h = ap (λ (x : State). reading.advance (before p) (state_in p x) place (token_in p.names t)) e ∙ first_goes (before p)
    (head_of p) (frames_of p) first (name_at p.names n) place p.names t h

-- a token where the reading is in this state
pub at_state : (p : Parser) (s : State) (place : ℕ) (t : Token) → p.state ≡ s → reading.advance (before p) (state_of p) place (token_in p.names t)
    ≡ reading.advance (before p) (state_in p s) place (token_in p.names t)
at_state p s place t e = ap (λ (x : State). reading.advance (before p) (state_in p x) place (token_in p.names t)) e

-- and where it is this one
pub at_token : (p : Parser) (s : State) (place : ℕ) (t u : Token) → p.state ≡ s → t ≡ u → reading.advance (before p) (state_of p) place (token_in p.names t)
    ≡ reading.advance (before p) (state_in p s) place (token_in p.names u)
at_token p s place t u e f = at_state p s place t e ∙ ap (λ (x : Token). reading.advance (before p) (state_in p s) place (token_in p.names x)) f

-- where a term begins, and where only a name or a `:` can come
pub term_begins : (m : List Declaration) (h : reading.Head) (frames : List reading.Frame) (p : ℕ) (ns : List Named) (t : Token)
    → ((n : ℕ) → t ≡ token.Name n → ⊥) → reading.advance m (reading.AtTerm h frames) p (token_in ns t) ≡ reading.applies m h frames None p (token_in ns t)
term_begins m h frames p ns (token.Name n) k = absurd (k n refl)
term_begins m h frames p ns _ k = refl

pub name_wanted : (m : List Declaration) (form : Form) (p : ℕ) (ns : List Named) (t : Token) → ((n : ℕ) → t ≡ token.Name n → ⊥)
    → reading.advance m (reading.AfterKeyword form) p (token_in ns t) ≡ reading.stops p reading.BadText
name_wanted m form p ns (token.Name n) k = absurd (k n refl)
name_wanted m form p ns _ k = refl

pub colon_wanted : (m : List Declaration) (form : Form) (name : List ℕ) (p : ℕ) (ns : List Named) (t : Token) → (t ≡ token.Colon → ⊥)
    → reading.advance m (reading.AfterName form name) p (token_in ns t) ≡ reading.stops p reading.BadText
colon_wanted m form name p ns token.Colon k = absurd (k refl)
colon_wanted m form name p ns _ k = refl

-- a token that is no atom's first, after an application and where there is none
pub sign_after : (t : Token) → ((n : ℕ) → t ≡ token.Name n → ⊥) → (t ≡ token.TypeWord → ⊥) → (t ≡ token.LeftParen → ⊥) → IsSign t
sign_after (token.Name n) h k l = absurd (h n refl)
sign_after token.TypeWord h k l = absurd (k refl)
sign_after token.LeftParen h k l = absurd (l refl)
sign_after _ h k l = tt

pub nothing_applies : (m : List Declaration) (h : reading.Head) (frames : List reading.Frame) (p : ℕ) (ns : List Named) (t : Token) → IsSign t
    → reading.applies m h frames None p (token_in ns t) ≡ reading.stops p reading.BadText
nothing_applies m h frames p ns (token.Name n) k = absurd k
nothing_applies m h frames p ns token.TypeWord k = absurd k
nothing_applies m h frames p ns token.LeftParen k = absurd k
nothing_applies m h frames p ns _ k = refl
