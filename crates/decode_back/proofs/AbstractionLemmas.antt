-- The abstraction of a body over the variable of its binder.
use Rattle.std.proofs.Common.{◌≡◌, ℕ, suc, ◌+◌, ◌-◌, ◌<◌, ◌≤◌, List, Bool, true, false, cond, Some, None, length, refl, sym, ap, subst, ◌∙◌, arith}
use Rattle.std.specs.Prelude.{nat_lt, nat_eq, ◌&&◌}
use Rattle.std.proofs.Math.Path.{ap₂}
use Rattle.std.proofs.lemmas.Bool.Decides.{Decides-ltb, Decides-eqb}
use Rattle.hol_spec.specs.Names.{Name}
use Rattle.hol_spec.specs.NameEquality.{name_eq}
use Rattle.hol_laws.specs.NameEqualityLaws.{name_eq-Decides}
use Rattle.hol_laws.specs.Members.{All-left, All-right, All-append}
use Rattle.hol_spec.specs.Types.{HolType, type_eq}
use Rattle.hol_spec.specs.Limits.{greatest_size, greatest_depth, type_size, term_size, term_depth}
use Rattle.hol_spec.specs.Terms as term
use Rattle.hol_spec.specs.Terms.{Term, variable_eq, free_places}
use Rattle.hol_laws.specs.TermLaws.{variable_eq-Decides}
use Rattle.hol_spec.specs.TermBinding.{put_at, put_bound, put, close_at, close}
use Rattle.hol_spec.specs.ClosedForm.{ClosedType, ClosedTerm}
use Rattle.common.specs.declared.faults.Kind.{Kind}
use Rattle.common.specs.declared.faults.Kind.TheVariants as kind
use Rattle.hol_type.specs.Refusals.{PassesLimit}
use Rattle.hol_term.specs.declared.TermId.{TermId}
use Rattle.hol_term.specs.Tables.{Trees, Holds, Keeps, term_at, type_at}
use Rattle.hol_type.specs.declared.table.TypeId.{TypeId}
use Rattle.hol_type.specs.TableLaws.{tree_at-Stays}
use Rattle.hol_term.specs.TableLaws.{Keeps-trans, Some-term_in, term_in-Stays}
use Rattle.lp_spec.specs.Trees.{Tree, Lam}
use Rattle.lp_spec.specs.Modules.{Declaration}
use Rattle.translate_spec.specs.TypeEnc.{Place, inside}
use Rattle.decode_spec.specs.Options.{bind, both}
use Rattle.decode_laws.specs.OptionLaws.{some-injective, both-is}
use Rattle.decode_spec.specs.Opened.{open_type, open_term}
use Rattle.decode_spec.specs.Decode.{term_part, type_of_tree, term_from}
use Rattle.decode_back.specs.Walks.{parameter_name, NoTypeWithin}
use Rattle.decode_back.specs.TermWalks.{outside_name, IsFresh, IsLamFound, NoLamWithin, NoTermWithin}

-- a variable put into a body without it and closed again
module _ (t : HolType) where
  abbrev own : Name × HolType
  own = (outside_name, t)

  other : (n : Name) (u : HolType) → (n ≡ outside_name → ⊥) → variable_eq (n, u) own ≡ false
  other n u h = go (name_eq n outside_name) refl
    where
      go : (b : Bool) → name_eq n outside_name ≡ b → (b && type_eq u t) ≡ false
      go true e = absurd (h ((name_eq-Decides n outside_name).0 e))
      go false e = refl

  same : variable_eq own own ≡ true
  same = (variable_eq-Decides own own).1 refl

  close-put_bound : (d n : ℕ) → close_at d own (put_bound d (term.Term.free outside_name t) n) ≡ term.Term.bound n
  close-put_bound d n = go (nat_lt n d) (nat_eq n d) refl refl
    where
      go : (a b : Bool) → nat_lt n d ≡ a → nat_eq n d ≡ b
          → close_at d own (cond a (term.Term.bound n) (cond b (term.Term.free outside_name t) (term.Term.bound (n - 1)))) ≡ term.Term.bound n
      go true b e f = ap (λ c. term.Term.bound (cond c n (n + 1))) e
      go false true e f = ap (λ c. cond c (term.Term.bound d) (term.Term.free outside_name t)) same ∙ ap term.Term.bound (sym ((Decides-eqb n d).0 f))
      go false false e f =
          let l : n < d → ⊥ = λ h. let yes : nat_lt n d ≡ true = (Decides-ltb n d).1 h in cc in
          let m : n ≡ d → ⊥ = λ h. let yes : nat_eq n d ≡ true = (Decides-eqb n d).1 h in cc in
          let past : d ≤ n - 1 = above l m in
          let k : nat_lt (n - 1) d ≡ false = at_least (nat_lt (n - 1) d) refl past in
          let z : n - 1 + 1 ≡ n = one_less l m in
          ap (λ c. term.Term.bound (cond c (n - 1) (n - 1 + 1))) k ∙ ap term.Term.bound z
        where
          above : (n < d → ⊥) → (n ≡ d → ⊥) → d ≤ n - 1
          above l m = omega (arith, l, m)

          one_less : (n < d → ⊥) → (n ≡ d → ⊥) → n - 1 + 1 ≡ n
          one_less l m = omega (arith, l, m)

          at_least : (b : Bool) → nat_lt (n - 1) d ≡ b → d ≤ n - 1 → b ≡ false
          at_least true g past = let h = (Decides-ltb (n - 1) d).0 g in absurd (omega (arith, h, past))
          at_least false g past = refl

  close-put_at : (d : ℕ) (b : Term) → IsFresh b → close_at d own (put_at d (term.Term.free outside_name t) b) ≡ b
  close-put_at d (term.Term.free n u) h = ap (λ c. cond c (term.Term.bound d) (term.Term.free n u)) (other n u h.0)
  close-put_at d (term.Term.bound n) h = close-put_bound d n
  close-put_at d (term.Term.constant n u) h = refl
  close-put_at d (term.Term.app f x) h = ap₂ term.Term.app (close-put_at d f (All-left _ (free_places f) (free_places x) h))
      (close-put_at d x (All-right _ (free_places f) (free_places x) h))
  close-put_at d (term.Term.lam u b) h = ap (term.Term.lam u) (close-put_at (suc d) b h)

  pub close-put : (b : Term) → IsFresh b → close own (put (term.Term.free outside_name t) b) ≡ b
  close-put b h = close-put_at 0 b h

-- what is opened with the names of parameters is fresh
pub open-IsFresh : (types : List ClosedType) (c : ClosedTerm) → IsFresh (open_term parameter_name types c)
open-IsFresh types (ClosedTerm.parameter j) = ((λ e. cc), tt {0})
open-IsFresh types (ClosedTerm.bound k) = tt
open-IsFresh types (ClosedTerm.constant n t) = tt
open-IsFresh types (ClosedTerm.app f x) = All-append _ (free_places (open_term parameter_name types f)) (free_places (open_term parameter_name types x))
    (open-IsFresh types f) (open-IsFresh types x)
open-IsFresh types (ClosedTerm.lam t b) = open-IsFresh types b

-- the abstraction that is made
module _ (t : HolType) (b : Term) (there : ℕ) where
  pub lam-made : (left : ℕ) (trees : Trees) (id : TermId) → IsFresh b
      → Holds trees id.0 (term.Term.lam t (close (outside_name, t) (put (term.Term.free outside_name t) b))) → left + (1 + type_size t) ≡ there
      → IsLamFound t b there left trees (Some id)
  lam-made left trees id h made paid = (subst (λ c. Holds trees id.0 (term.Term.lam t c)) (close-put t b h) made, paid)

  pub lam-short : (left : ℕ) (trees : Trees) → there < 1 + type_size t → IsLamFound t b there left trees None
  lam-short left trees l whole level e m n size depth = omega (arith, l, e, size)

  pub lam-refused : (left : ℕ) (trees : Trees) (k : Kind)
      → PassesLimit k (term_size (term.Term.free outside_name t)) (term_depth (term.Term.free outside_name t)) → IsLamFound t b there left trees None
  lam-refused left trees k p whole level e m n size depth = passes k _ _ p (omega (arith, size, m)) (omega (arith, depth, n))
    where
      passes : (k : Kind) (size depth : ℕ) → PassesLimit k size depth → size ≤ greatest_size → depth ≤ greatest_depth → ⊥
      passes kind.TooLarge size depth p a b = omega (arith, p, a)
      passes kind.TooDeep size depth p a b = omega (arith, p.1, b)
      passes _ size depth p a b = p

-- the abstraction of a body, opened with a variable of the name outside and closed again
pub lam-held : (one two three four : Trees) (ty : TypeId) (name : Name) (body outside opened id : TermId) → Keeps one two → Keeps two three
    → ty.0 < length one.types → body.0 < length one.terms → name ≡ outside_name
    → Holds two outside.0 (term.Term.free name (type_at one ty.0)) → Holds three opened.0 (put (term_at two outside.0) (term_at two body.0))
    → Holds four id.0 (term.Term.lam (type_at three ty.0) (close (name, type_at three ty.0) (term_at three opened.0)))
    → Holds four id.0
    (term.Term.lam (type_at one ty.0) (close (outside_name, type_at one ty.0) (put (term.Term.free outside_name (type_at one ty.0)) (term_at one body.0))))
lam-held one two three four ty name body outside opened id k l typed known e free_is opened_is made =
    let type_is : type_at three ty.0 ≡ type_at one ty.0 = sym (tree_at-Stays (Keeps-trans k l).types.stays ty.0 typed) in
    let body_is : term_at two body.0 ≡ term_at one body.0 = sym (term_in-Stays k.stays body.0 known) in
    let outside_is : term_at two outside.0 ≡ term.Term.free name (type_at one ty.0) =
    Some-term_in two.terms outside.0 (term.Term.free name (type_at one ty.0)) free_is in
    let whole : term_at three opened.0 ≡ put (term.Term.free outside_name (type_at one ty.0)) (term_at one body.0) =
    Some-term_in three.terms opened.0 (put (term_at two outside.0) (term_at two body.0)) opened_is
    ∙ (λ i. put (outside_is i) (body_is i)) ∙ ap (λ n. put (term.Term.free n (type_at one ty.0)) (term_at one body.0)) e in
    subst (Holds four id.0) (λ i. term.Term.lam (type_is i) (close (e i, type_is i) (whole i))) made

-- what an abstraction's tree stands for
module _ (d : List Declaration) (at : Place) (types : List ClosedType) (level there : ℕ) (A B : Tree) where
  -- what it is made of
  record IsLam (c : ClosedTerm) : Type 0 where
    t : ClosedType
    b : ClosedTerm
    typed : bind (term_part A) (type_of_tree d at) ≡ Some t
    body : term_from d B (inside at) ≡ Some b
    is : c ≡ ClosedTerm.lam t b

  lam-parts : (c : ClosedTerm) → term_from d (Lam A B) at ≡ Some c → IsLam c
  lam-parts c e =
      let m = both-is ClosedTerm.lam (bind (term_part A) (type_of_tree d at)) (term_from d B (inside at)) c e in
      record { t = m.0; b = m.1; typed = m.2; body = m.3; is = m.4 }

  lam-size : (c : ClosedTerm) (h : IsLam c) → term_size (open_term parameter_name types c)
      ≡ 1 + type_size (open_type parameter_name h.t) + term_size (open_term parameter_name types h.b)
  lam-size c h = ap (λ u. term_size (open_term parameter_name types u)) h.is

  lam-depth : (c : ClosedTerm) (h : IsLam c) → term_depth (open_term parameter_name types c)
      ≡ term_depth (open_term parameter_name types (ClosedTerm.lam h.t h.b))
  lam-depth c h = ap (λ u. term_depth (open_term parameter_name types u)) h.is

  pub lam-no_type : there ≤ greatest_size → NoTypeWithin level (bind (term_part A) (type_of_tree d at))
      → NoTermWithin types there level (term_from d (Lam A B) at)
  lam-no_type l none c e a b =
      let h = lam-parts c e in
      let m = lam-size c h in
      let n = lam-depth c h in
      none h.t h.typed (omega (arith, a, l, m)) (omega (arith, b, n))

  pub lam-no_body : (below : ℕ) → level ≤ below + 1 → NoTermWithin types there below (term_from d B (inside at))
      → NoTermWithin types there level (term_from d (Lam A B) at)
  lam-no_body below l none c e a b =
      let h = lam-parts c e in
      let m = lam-size c h in
      let n = lam-depth c h in
      none h.b h.body (omega (arith, a, m)) (omega (arith, b, n, l))

  module _ (t : ClosedType) (typed : bind (term_part A) (type_of_tree d at) ≡ Some t) (b : ClosedTerm) (body : term_from d B (inside at) ≡ Some b) where
    pub lam-is : term_from d (Lam A B) at ≡ Some (ClosedTerm.lam t b)
    lam-is = ap (λ o. both ClosedTerm.lam o (term_from d B (inside at))) typed ∙ ap (both ClosedTerm.lam (Some t)) body

    pub lam-none : (after : ℕ) → there ≤ greatest_size → level ≤ greatest_depth → after + term_size (open_term parameter_name types b) ≡ there
        → NoLamWithin (open_type parameter_name t) (open_term parameter_name types b) after
        → NoTermWithin types there level (term_from d (Lam A B) at)
    lam-none after l m e h c f x y =
        let g : ClosedTerm.lam t b ≡ c = some-injective (sym lam-is ∙ f) in
        h there level e l m
        (subst (λ u. term_size (open_term parameter_name types u) ≤ there) (sym g) x)
        (subst (λ u. term_depth (open_term parameter_name types u) ≤ level) (sym g) y)
