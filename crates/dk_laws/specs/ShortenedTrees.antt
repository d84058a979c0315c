-- A tree as it is written, by short names, is read as the tree; it is no deeper, closed where the tree is, and over as many symbols.
use Rattle.std.proofs.Common.{◌≡◌, ℕ, ◌<◌, ◌≤◌, refl, ap, ◌∙◌, Bool, true, false, List, [], ◌++◌, length, Option, None, Some, get_or, arith}
use Rattle.std.specs.Prelude.{◌||◌, IsFalse, option_and_then}
use Rattle.std.specs.Option.{unwrap_or}
use Rattle.std.proofs.Math.Path.{ap₂}
use Rattle.std.proofs.lemmas.Bool.{or_from}
use Rattle.std.proofs.lemmas.Option.{slice_get-get_or}
use Rattle.std.proofs.lemmas.List.Quantifiers.{position-Some}
use Rattle.lp_spec.specs.Trees.{Tree, SortType, SortKind, Var, Sym, App, Lam, Pi, loose, depth}
use Rattle.lp_spec.specs.Modules.{Declaration, signature, symbol}
use Rattle.lp_spec.specs.ModuleOrder.{has_kind, symbols}
use Rattle.lp_spec.specs.ShortNames.{short_body, short_for, named_tree, is_tree, short, by_name, shortened, IsLong}
use Rattle.lp_binding_laws.specs.TreeEquality.{tree_eq-true}

-- the tree that is read of a written one: each short name as the tree for which it is short
abbrev pub expanded : List Declaration → Tree → Tree
expanded m SortType = SortType
expanded m SortKind = SortKind
expanded m (Var n) = Var n
expanded m (Sym s) = named_tree m s
expanded m (App f x) = App (expanded m f) (expanded m x)
expanded m (Lam a b) = Lam (expanded m a) (expanded m b)
expanded m (Pi a b) = Pi (expanded m a) (expanded m b)

-- the symbol that is short for a tree is declared, and is short for it
pub record IsShortFor (m : List Declaration) (t : Tree) (s : ℕ) : Type 0 where
  pub below : s < length (signature ++ m)
  pub for : short_for m s ≡ Some t

is_tree-Some : (o : Option Tree) (t : Tree) → is_tree o t ≡ true → o ≡ Some t
is_tree-Some None t h = absurd (cc)
is_tree-Some (Some u) t h = ap Some (tree_eq-true u t h)

pub short-IsShortFor : (m : List Declaration) (t : Tree) (s : ℕ) → short m t ≡ Some s → IsShortFor m t s
short-IsShortFor m t s e =
    let none = symbol [] SortType in
    let found = position-Some (λ d. is_tree (short_body d) t) (signature ++ m) s none e in
    record {
      below = found.0;
      for = ap (option_and_then short_body) (slice_get-get_or (signature ++ m) s none found.0)
          ∙ is_tree-Some (short_body (get_or (signature ++ m) s none)) t found.1;
    }

module _ (m : List Declaration) where
  -- what holds of parts as they are written holds of the tree as it is written
  by_name-expanded : (t parts : Tree) (o : Option ℕ) → short m t ≡ o → expanded m parts ≡ t → expanded m (by_name o parts) ≡ t
  by_name-expanded t parts None e h = h
  by_name-expanded t parts (Some s) e h = ap (λ o. unwrap_or o (Sym s)) (short-IsShortFor m t s e).for

  -- What is written is read as the tree
  pub expanded-shortened : (t : Tree) → IsLong m t → expanded m (shortened m t) ≡ t
  expanded-shortened SortType h = by_name-expanded SortType SortType (short m SortType) refl refl
  expanded-shortened SortKind h = by_name-expanded SortKind SortKind (short m SortKind) refl refl
  expanded-shortened (Var n) h = by_name-expanded (Var n) (Var n) (short m (Var n)) refl refl
  expanded-shortened (Sym s) h = by_name-expanded (Sym s) (Sym s) (short m (Sym s)) refl (ap (λ o. unwrap_or o (Sym s)) h)
  expanded-shortened (App f x) h = by_name-expanded (App f x) (App (shortened m f) (shortened m x)) (short m (App f x)) refl
      (ap₂ App (expanded-shortened f h.0) (expanded-shortened x h.1))
  expanded-shortened (Lam a b) h = by_name-expanded (Lam a b) (Lam (shortened m a) (shortened m b)) (short m (Lam a b)) refl
      (ap₂ Lam (expanded-shortened a h.0) (expanded-shortened b h.1))
  expanded-shortened (Pi a b) h = by_name-expanded (Pi a b) (Pi (shortened m a) (shortened m b)) (short m (Pi a b)) refl
      (ap₂ Pi (expanded-shortened a h.0) (expanded-shortened b h.1))

  both_kindless : (f x g y : Bool) → (IsFalse f → IsFalse g) → (IsFalse x → IsFalse y) → IsFalse (f || x) → IsFalse (g || y)
  both_kindless false false g y h k e = or_from g y (h refl) (k refl)
  both_kindless true x g y h k e = absurd (cc)
  both_kindless false true g y h k e = absurd (cc)

  -- a tree as it is written has no more loose variables and no more depth, no sort of kinds that it lacks, and is over the declared symbols
  pub record IsNoMore (t u : Tree) : Type 0 where
    pub bound : loose u ≤ loose t
    pub shallow : depth u ≤ depth t
    pub kindless : IsFalse (has_kind t) → IsFalse (has_kind u)
    pub known : symbols t ≤ length (signature ++ m) → symbols u ≤ length (signature ++ m)

  depth-positive : (t : Tree) → 1 ≤ depth t
  depth-positive SortType = omega arith
  depth-positive SortKind = omega arith
  depth-positive (Var n) = omega arith
  depth-positive (Sym s) = omega arith
  depth-positive (App f x) = omega arith
  depth-positive (Lam a b) = omega arith
  depth-positive (Pi a b) = omega arith

  IsNoMore-refl : (t : Tree) → IsNoMore t t
  IsNoMore-refl t = record { bound = omega arith; shallow = omega arith; kindless = λ h. h; known = λ h. h }

  by_name-IsNoMore : (t parts : Tree) (o : Option ℕ) → short m t ≡ o → IsNoMore t parts → IsNoMore t (by_name o parts)
  by_name-IsNoMore t parts None e h = h
  by_name-IsNoMore t parts (Some s) e h =
      let below = (short-IsShortFor m t s e).below in
      record { bound = omega arith; shallow = omega (arith, depth-positive t); kindless = λ k. refl; known = λ k. omega (arith, below) }

  pub shortened-IsNoMore : (t : Tree) → IsNoMore t (shortened m t)
  shortened-IsNoMore SortType = by_name-IsNoMore SortType SortType (short m SortType) refl (IsNoMore-refl SortType)
  shortened-IsNoMore SortKind = by_name-IsNoMore SortKind SortKind (short m SortKind) refl (IsNoMore-refl SortKind)
  shortened-IsNoMore (Var n) = by_name-IsNoMore (Var n) (Var n) (short m (Var n)) refl (IsNoMore-refl (Var n))
  shortened-IsNoMore (Sym s) = by_name-IsNoMore (Sym s) (Sym s) (short m (Sym s)) refl (IsNoMore-refl (Sym s))
  shortened-IsNoMore (App f x) =
      let p = shortened-IsNoMore f in
      let q = shortened-IsNoMore x in
      by_name-IsNoMore (App f x) (App (shortened m f) (shortened m x)) (short m (App f x)) refl (record {
        bound = omega (arith, p.bound, q.bound);
        shallow = omega (arith, p.shallow, q.shallow);
        kindless = λ h. both_kindless (has_kind f) (has_kind x) (has_kind (shortened m f)) (has_kind (shortened m x)) p.kindless q.kindless h;
        known = λ h. omega (arith, p.known (omega (arith, h)), q.known (omega (arith, h)));
      })
  shortened-IsNoMore (Lam a b) =
      let p = shortened-IsNoMore a in
      let q = shortened-IsNoMore b in
      by_name-IsNoMore (Lam a b) (Lam (shortened m a) (shortened m b)) (short m (Lam a b)) refl (record {
        bound = omega (arith, p.bound, q.bound);
        shallow = omega (arith, p.shallow, q.shallow);
        kindless = λ h. both_kindless (has_kind a) (has_kind b) (has_kind (shortened m a)) (has_kind (shortened m b)) p.kindless q.kindless h;
        known = λ h. omega (arith, p.known (omega (arith, h)), q.known (omega (arith, h)));
      })
  shortened-IsNoMore (Pi a b) =
      let p = shortened-IsNoMore a in
      let q = shortened-IsNoMore b in
      by_name-IsNoMore (Pi a b) (Pi (shortened m a) (shortened m b)) (short m (Pi a b)) refl (record {
        bound = omega (arith, p.bound, q.bound);
        shallow = omega (arith, p.shallow, q.shallow);
        kindless = λ h. both_kindless (has_kind a) (has_kind b) (has_kind (shortened m a)) (has_kind (shortened m b)) p.kindless q.kindless h;
        known = λ h. omega (arith, p.known (omega (arith, h)), q.known (omega (arith, h)));
      })
