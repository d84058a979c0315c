-- What a reading has read so far is in order: closed trees over earlier names, and declarations that make a module.
use Rattle.std.proofs.Common.{◌≡◌, ℕ, suc, ◌<◌, ◌≤◌, refl, subst, Bool, true, false, List, [], ◌∷◌, ◌++◌, length, Option, None, Some, position, arith}
use Rattle.std.specs.Prelude.{nat_le, IsFalse, if◌then◌else◌}
use Rattle.std.specs.Str.{bytes_eq}
use Rattle.std.proofs.lemmas.List.Quantifiers.{position-Some}
use Rattle.std.proofs.lemmas.Bool.{or_from}
use Rattle.lp_spec.specs.declared.form.Form.{Form}
use Rattle.lp_spec.specs.declared.form.Form.TheVariants.{Symbol, Def, Thm}
use Rattle.lp_spec.specs.Trees.{Tree, SortType, Var, Sym, Lam, Pi, loose, depth}
use Rattle.lp_spec.specs.Modules.{Declaration, signature, symbol}
use Rattle.lp_spec.specs.ModuleOrder.{has_kind, symbols, is_declared, IsOver, IsBodyOver, MayFollow}
use Rattle.lp_spec.specs.Tokens.{Token, Name, TypeWord, DefWord, ThmWord, Colon, Assign, Arrow, FatArrow, Dot, LeftParen, RightParen}
use Rattle.std.specs.Option.{unwrap_or}
use Rattle.lp_spec.specs.ModuleOrder.{IsModule}
use Rattle.lp_spec.specs.ShortNames.{short_for, named_tree}
use Rattle.dk_laws.specs.ReadTrees.{short-over}
use Rattle.lp_spec.specs.Reading.{variable_of, symbol_of, max_depth, IsNew}
use Rattle.lp_spec.specs.ReadingFaults.{Frame, Enclosing, Domain, Product, Abstraction, scope_of, Head, TypeOf, BodyOf, State, Between, AfterKeyword, AfterName, AtTerm, AfterFirst, InApplication, Outcome, Goes, Stops, stops, meant, meaning, argued, atom, encloses, whole, declares, assigns, arrow, fat_arrow, applies, goes_on, advance, NameTwice, DkTooDeep}
use Rattle.lp_spec.specs.Faults.{HasBody}

-- a tree over so many symbols under so many binders
pub record IsUnder (count d : ℕ) (t : Tree) : Type 0 where
  pub bound : loose t ≤ d
  pub kindless : IsFalse (has_kind t)
  pub known : symbols t ≤ count

-- what is applied, if anything, is
abbrev pub IsAppliedUnder : ℕ → ℕ → Option Tree → Type 0
IsAppliedUnder count d None = Unit {0}
IsAppliedUnder count d (Some t) = IsUnder count d t

-- the trees of what is open are under the binders outside them
abbrev pub AreFrames : ℕ → List Frame → Type 0
AreFrames count [] = Unit {0}
AreFrames count (Enclosing f ∷ frames) = IsAppliedUnder count (length (scope_of frames)) f × AreFrames count frames
AreFrames count (Domain name ∷ frames) = AreFrames count frames
AreFrames count (Product name a ∷ frames) = IsUnder count (length (scope_of frames)) a × AreFrames count frames
AreFrames count (Abstraction name a ∷ frames) = IsUnder count (length (scope_of frames)) a × AreFrames count frames

-- the declaration that is open can come after these
abbrev pub IsHead : List Declaration → Head → Type 0
IsHead m (TypeOf form name) = IsNew m name
IsHead m (BodyOf form name ty) = IsNew m name × HasBody form × IsUnder (length (signature ++ m)) 0 ty

-- a state that a reading can come to
abbrev pub IsState : List Declaration → State → Type 0
IsState m Between = Unit {0}
IsState m (AfterKeyword form) = Unit {0}
IsState m (AfterName form name) = IsNew m name
IsState m (AtTerm head frames) = IsHead m head × AreFrames (length (signature ++ m)) frames
IsState m (AfterFirst head frames p name) = IsHead m head × AreFrames (length (signature ++ m)) frames
IsState m (InApplication head frames f) = IsHead m head × AreFrames (length (signature ++ m)) frames × IsAppliedUnder (length (signature ++ m))
    (length (scope_of frames)) f

position_below : {X : Type 0} (p : X → Bool) (xs : List X) (n : ℕ) (d : X) → position p xs ≡ Some n → n < length xs
position_below p xs n d e = (position-Some p xs n d e).0

-- what an identifier means is under the binders round it
named_under : (m : List Declaration) (frames : List Frame) (s : ℕ) → IsModule m → s < length (signature ++ m)
    → IsUnder (length (signature ++ m)) (length (scope_of frames)) (named_tree m s)
named_under m frames s in_order below = go (short_for m s) refl
  where
    go : (o : Option Tree) → short_for m s ≡ o → IsUnder (length (signature ++ m)) (length (scope_of frames)) (unwrap_or o (Sym s))
    go None e = record { bound = omega arith; kindless = refl; known = omega (arith, below) }
    go (Some t) e = let o = short-over m in_order s t e in record { bound = omega (arith, o.closed); kindless = o.kindless; known = o.known }

meant_under : (m : List Declaration) (frames : List Frame) (name : List ℕ) (x : Tree) (v s : Option ℕ) → IsModule m → variable_of (scope_of frames) name ≡ v
    → symbol_of m name ≡ s → meant m v s ≡ Some x → IsUnder (length (signature ++ m)) (length (scope_of frames)) x
meant_under m frames name x (Some n) s in_order e f h =
    let b : n < length (scope_of frames) = position_below (λ b. bytes_eq b name) (scope_of frames) n [] e in
    let is : Var n ≡ x = cc in
    subst (IsUnder (length (signature ++ m)) (length (scope_of frames))) is (record { bound = omega (arith, b); kindless = refl; known = omega arith })
meant_under m frames name x None (Some s) in_order e f h =
    let b : s < length (signature ++ m) = position_below (λ d. bytes_eq d.name name) (signature ++ m) s (symbol [] SortType) f in
    let is : named_tree m s ≡ x = cc in
    subst (IsUnder (length (signature ++ m)) (length (scope_of frames))) is (named_under m frames s in_order b)
meant_under m frames name x None None in_order e f h = absurd (cc)

pub meaning-IsUnder : (m : List Declaration) (frames : List Frame) (name : List ℕ) (x : Tree) → IsModule m → meaning m frames name ≡ Some x
    → IsUnder (length (signature ++ m)) (length (scope_of frames)) x
meaning-IsUnder m frames name x in_order h = meant_under m frames name x (variable_of (scope_of frames) name) (symbol_of m name) in_order refl refl h

pub argued-IsUnder : (count d : ℕ) (f : Option Tree) (x : Tree) → IsAppliedUnder count d f → IsUnder count d x → IsUnder count d (argued f x)
argued-IsUnder count d None x h k = k
argued-IsUnder count d (Some f) x h k = record
    { bound = omega (arith, h.bound, k.bound); kindless = or_from (has_kind f) (has_kind x) h.kindless k.kindless; known = omega (arith, h.known, k.known) }

pub Pi-IsUnder : (count d : ℕ) (a b : Tree) → IsUnder count d a → IsUnder count (suc d) b → IsUnder count d (Pi a b)
Pi-IsUnder count d a b h k = record
    { bound = omega (arith, h.bound, k.bound); kindless = or_from (has_kind a) (has_kind b) h.kindless k.kindless; known = omega (arith, h.known, k.known) }

pub Lam-IsUnder : (count d : ℕ) (a b : Tree) → IsUnder count d a → IsUnder count (suc d) b → IsUnder count d (Lam a b)
Lam-IsUnder count d a b h k = record
    { bound = omega (arith, h.bound, k.bound); kindless = or_from (has_kind a) (has_kind b) h.kindless k.kindless; known = omega (arith, h.known, k.known) }

-- a whole type or body is closed
pub whole-IsUnder : (count : ℕ) (frames : List Frame) (t u : Tree) → AreFrames count frames → IsUnder count (length (scope_of frames)) t
    → whole frames t ≡ Some u → IsUnder count 0 u
whole-IsUnder count [] t u h k e = let is : t ≡ u = cc in subst (IsUnder count 0) is k
whole-IsUnder count (Enclosing f ∷ frames) t u h k e = absurd (cc)
whole-IsUnder count (Domain name ∷ frames) t u h k e = absurd (cc)
whole-IsUnder count (Product name a ∷ frames) t u h k e = whole-IsUnder count frames (Pi a t) u h.1 (Pi-IsUnder count (length (scope_of frames)) a t h.0 k) e
whole-IsUnder count (Abstraction name a ∷ frames) t u h k e =
    whole-IsUnder count frames (Lam a t) u h.1 (Lam-IsUnder count (length (scope_of frames)) a t h.0 k) e

pub IsUnder-IsOver : (count : ℕ) (t : Tree) → IsUnder count 0 t → IsOver count t
IsUnder-IsOver count t h = record { closed = omega (arith, h.bound); kindless = h.kindless; known = h.known }

-- the declaration that a type or a body ends can come after the others
pub symbol_follows : (m : List Declaration) (name : List ℕ) (ty : Tree) → IsNew m name → IsUnder (length (signature ++ m)) 0 ty
    → MayFollow (signature ++ m) (record { name = name; form = Symbol; ty = ty; body = None })
symbol_follows m name ty new h = record { new_name = new; ty = IsUnder-IsOver (length (signature ++ m)) ty h; body = refl }

body_over : (count : ℕ) (form : Form) (t : Tree) → HasBody form → IsOver count t → IsBodyOver count form (Some t)
body_over count Symbol t h k = absurd h
body_over count Def t h k = k
body_over count Thm t h k = k

pub body_follows : (m : List Declaration) (form : Form) (name : List ℕ) (ty body : Tree) → IsHead m (BodyOf form name ty)
    → IsUnder (length (signature ++ m)) 0 body → MayFollow (signature ++ m) (record { name = name; form = form; ty = ty; body = Some body })
body_follows m form name ty body h k = record {
  new_name = h.0;
  ty = IsUnder-IsOver (length (signature ++ m)) ty h.2;
  body =
      body_over (length (signature ++ m)) form body h.1 (IsUnder-IsOver (length (signature ++ m)) body k);
}

-- the state that a token leads to is one that a reading can come to
abbrev pub IsOrdered : Outcome → Type 0
IsOrdered (Goes m state) = IsState m state
IsOrdered (Stops r) = Unit {0}

if_ordered : (b : Bool) (o : Outcome) (p : ℕ) → IsOrdered o → IsOrdered (if b then o else stops p DkTooDeep)
if_ordered true o p h = h
if_ordered false o p h = tt

name_ordered : (m : List Declaration) (form : Form) (p : ℕ) (name : List ℕ) (b : Bool) → is_declared (signature ++ m) name ≡ b
    → IsOrdered (if b then stops p (NameTwice name) else Goes m (AfterName form name))
name_ordered m form p name true e = tt
name_ordered m form p name false e = e

module _ (m : List Declaration) (in_order : IsModule m) where
  atom_ordered : (head : Head) (frames : List Frame) (f : Option Tree) (p : ℕ) (name : List ℕ) (o : Option Tree) → meaning m frames name ≡ o
      → IsState m (InApplication head frames f) → IsOrdered (atom m head frames f p name o)
  atom_ordered head frames f p name None e h = tt
  atom_ordered head frames f p name (Some x) e h =
      (h.0, h.1, argued-IsUnder (length (signature ++ m)) (length (scope_of frames)) f x h.2 (meaning-IsUnder m frames name x in_order e))

  encloses_ordered : (head : Head) (frames : List Frame) (t : Tree) (p : ℕ) → IsState m (InApplication head frames (Some t))
      → IsOrdered (encloses m head frames t p)
  encloses_ordered head [] t p h = tt
  encloses_ordered head (Enclosing f ∷ frames) t p h = (h.0, h.1.1, argued-IsUnder (length (signature ++ m)) (length (scope_of frames)) f t h.1.0 h.2)
  encloses_ordered head (Domain name ∷ frames) t p h = tt
  encloses_ordered head (Product name a ∷ frames) t p h =
      encloses_ordered head frames (Pi a t) p (h.0, h.1.1, Pi-IsUnder (length (signature ++ m)) (length (scope_of frames)) a t h.1.0 h.2)
  encloses_ordered head (Abstraction name a ∷ frames) t p h =
      encloses_ordered head frames (Lam a t) p (h.0, h.1.1, Lam-IsUnder (length (signature ++ m)) (length (scope_of frames)) a t h.1.0 h.2)

  arrow_ordered : (head : Head) (frames : List Frame) (a : Tree) → IsState m (InApplication head frames (Some a)) → IsOrdered (arrow m head frames a)
  arrow_ordered head (Domain name ∷ frames) a h = (h.0, (h.2, h.1))
  arrow_ordered head [] a h = (h.0, (h.2, h.1))
  arrow_ordered head (Enclosing f ∷ frames) a h = (h.0, (h.2, h.1))
  arrow_ordered head (Product name b ∷ frames) a h = (h.0, (h.2, h.1))
  arrow_ordered head (Abstraction name b ∷ frames) a h = (h.0, (h.2, h.1))

  fat_arrow_ordered : (head : Head) (frames : List Frame) (a : Tree) (p : ℕ) → IsState m (InApplication head frames (Some a))
      → IsOrdered (fat_arrow m head frames a p)
  fat_arrow_ordered head (Domain name ∷ frames) a p h = (h.0, (h.2, h.1))
  fat_arrow_ordered head _ a p h = tt

  declares_ordered : (head : Head) (o : Option Tree) (p : ℕ) → IsOrdered (declares m head o p)
  declares_ordered head None p = tt
  declares_ordered (TypeOf Symbol name) (Some t) p =
      if_ordered (nat_le (depth t) max_depth) (Goes (m ++ record { name = name; form = Symbol; ty = t; body = None } ∷ []) Between) p tt
  declares_ordered (TypeOf Def name) (Some t) p = tt
  declares_ordered (TypeOf Thm name) (Some t) p = tt
  declares_ordered (BodyOf form name ty) (Some t) p =
      if_ordered (nat_le (depth t) max_depth) (Goes (m ++ record { name = name; form = form; ty = ty; body = Some t } ∷ []) Between) p tt

  assigns_ordered : (head : Head) (o : Option Tree) (p : ℕ) → IsHead m head → ((u : Tree) → o ≡ Some u → IsUnder (length (signature ++ m)) 0 u)
      → IsOrdered (assigns m head o p)
  assigns_ordered head None p h k = tt
  assigns_ordered (TypeOf Symbol name) (Some t) p h k = tt
  assigns_ordered (TypeOf Def name) (Some t) p h k = if_ordered (nat_le (depth t) max_depth) (Goes m (AtTerm (BodyOf Def name t) [])) p ((h, tt, k t refl), tt)
  assigns_ordered (TypeOf Thm name) (Some t) p h k = if_ordered (nat_le (depth t) max_depth) (Goes m (AtTerm (BodyOf Thm name t) [])) p ((h, tt, k t refl), tt)
  assigns_ordered (BodyOf form name ty) (Some t) p h k = tt

  applies_ordered : (head : Head) (frames : List Frame) (f : Option Tree) (p : ℕ) (token : Token) → IsState m (InApplication head frames f)
      → IsOrdered (applies m head frames f p token)
  applies_ordered head frames f p (Name name) h = atom_ordered head frames f p name (meaning m frames name) refl h
  applies_ordered head frames f p TypeWord h = (
    h.0,
    h.1,
    argued-IsUnder (length (signature ++ m)) (length (scope_of frames)) f SortType h.2
        (record { bound = omega arith; kindless = refl; known = omega arith }),
  )
  applies_ordered head frames f p LeftParen h = (h.0, (h.2, h.1))
  applies_ordered head frames (Some t) p RightParen h = encloses_ordered head frames t p h
  applies_ordered head frames (Some t) p Arrow h = arrow_ordered head frames t h
  applies_ordered head frames (Some t) p FatArrow h = fat_arrow_ordered head frames t p h
  applies_ordered head frames (Some t) p Dot h = declares_ordered head (whole frames t) p
  applies_ordered head frames (Some t) p Assign h =
      assigns_ordered head (whole frames t) p h.0 (λ u e. whole-IsUnder (length (signature ++ m)) frames t u h.1 h.2 e)
  applies_ordered head frames f p _ h = tt

  first_ordered : (head : Head) (frames : List Frame) (q : ℕ) (name : List ℕ) (p : ℕ) (token : Token) (o : Option Tree) → meaning m frames name ≡ o
      → IsHead m head → AreFrames (length (signature ++ m)) frames → IsOrdered (goes_on m head frames q name o p token)
  first_ordered head frames q name p token None e h k = tt
  first_ordered head frames q name p token (Some x) e h k = applies_ordered head frames (Some x) p token (h, k, meaning-IsUnder m frames name x in_order e)

  pub advance-IsOrdered : (state : State) (p : ℕ) (token : Token) → IsState m state → IsOrdered (advance m state p token)
  advance-IsOrdered Between p (Name name) h = name_ordered m Symbol p name (is_declared (signature ++ m) name) refl
  advance-IsOrdered Between p DefWord h = tt
  advance-IsOrdered Between p ThmWord h = tt
  advance-IsOrdered Between p _ h = tt
  advance-IsOrdered (AfterKeyword form) p (Name name) h = name_ordered m form p name (is_declared (signature ++ m) name) refl
  advance-IsOrdered (AfterKeyword form) p _ h = tt
  advance-IsOrdered (AfterName form name) p Colon h = (h, tt)
  advance-IsOrdered (AfterName form name) p _ h = tt
  advance-IsOrdered (AtTerm head frames) p (Name name) h = h
  advance-IsOrdered (AtTerm head frames) p token h = applies_ordered head frames None p token (h.0, h.1, tt)
  advance-IsOrdered (AfterFirst head frames q name) p Colon h = (h.0, h.1, tt)
  advance-IsOrdered (AfterFirst head frames q name) p token h = first_ordered head frames q name p token (meaning m frames name) refl h.0 h.1
  advance-IsOrdered (InApplication head frames f) p token h = applies_ordered head frames f p token h
