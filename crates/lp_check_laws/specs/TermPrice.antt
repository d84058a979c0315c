-- A term's type is found at a price of at most its size times what it weighs with the context.
use Rattle.std.proofs.Common.{◌≡◌, refl, sym, ap, ◌∙◌, subst, ℕ, zero, suc, ◌+◌, ◌*◌, ◌≤◌, arith, true, List, [], ◌∷◌, ◌++◌, length, Some}
use Rattle.std.specs.Prelude.{slice_get}
use Rattle.std.specs.Option.{option_map_or}
use Rattle.std.proofs.lemmas.List.{length-append}
use Rattle.lp_spec.specs.Trees.{Tree, SortType, SortKind, Var, Sym, App, Lam, Pi, put_at, put, put_all, size}
use Rattle.lp_binding_laws.specs.Binding.{put-lift}
use Rattle.lp_spec.specs.Modules.{Declaration, types, arr_of, term_of}
use Rattle.lp_spec.specs.Weight.{spread_after, spread, symbol_spread, spreads}
use Rattle.lp_typing_laws.specs.ConversionLaws.{IsClosed}
use Rattle.lp_spec.specs.Check.{Infer, Found, Say, unless_kind, Ends, said, asked}
use Rattle.lp_spec.specs.Shaped.{Solid, IsConstant, type_variable, constant, at_type, IsSimple, IsTerm, of_entry, of_constant, of_function, of_binder, Unfolded, folded, arrow}
use Rattle.lp_check_laws.specs.Sizes.{size-lift, put_all-nil, put_all-cons}
use Rattle.lp_check_laws.specs.Found.{Finds, Finds-more, find_application, find_functions, meet_unfolded, unfolded-put}
use Rattle.std.proofs.Math.Path.{ap₂}
use Rattle.std.proofs.lemmas.Option.{same_Some}

-- what is put in leaves a type solid
pub solid-put : (d : ℕ) (x t : Tree) → Solid t → Solid (put_at d x t)
solid-put d x SortType h = tt
solid-put d x SortKind h = tt
solid-put d x (Var n) h = absurd h
solid-put d x (Sym s) h = tt
solid-put d x (App f y) h = tt
solid-put d x (Lam a b) h = tt
solid-put d x (Pi a b) h = solid-put (suc d) x b h

-- how far a type spreads after an argument is how far it spreads with the argument put in
spread_after-put : (x : Tree) (before args : List Tree) (t : Tree) → Solid t
    → spread_after (x ∷ before) args t ≡ spread_after before args (put_at (length before) x t)
spread_after-put x before (u ∷ us) (Pi a b) h =
    let e : length (before ++ u ∷ []) ≡ suc (length before) = length-append before (u ∷ []) ∙ omega arith in
    ap₂ (λ n k. n + k) (ap size (put_all-cons x before a))
    (spread_after-put x (before ++ u ∷ []) us b h ∙ ap (λ n. spread_after (before ++ u ∷ []) us (put_at n x b)) e)
spread_after-put x before [] t h = ap size (put_all-cons x before t)
spread_after-put x before (u ∷ us) (Var n) h = absurd h
spread_after-put x before (u ∷ us) SortType h = refl
spread_after-put x before (u ∷ us) SortKind h = refl
spread_after-put x before (u ∷ us) (Sym s) h = refl
spread_after-put x before (u ∷ us) (App f y) h = ap size (put_all-cons x before (App f y))
spread_after-put x before (u ∷ us) (Lam a b) h = ap size (put_all-cons x before (Lam a b))

-- a function's type spreads by its domain and by the rest with the argument put in
pub spread-product : (x : Tree) (args : List Tree) (E D : Tree) → Solid D → spread (x ∷ args) (Pi E D) ≡ size (put_all [] E) + spread args (put x D)
spread-product x args E D h = ap (λ n. size (put_all [] E) + n) (spread_after-put x [] args D h)

pub size-positive : (t : Tree) → 1 ≤ size t
size-positive SortType = omega arith
size-positive SortKind = omega arith
size-positive (Var n) = omega arith
size-positive (Sym s) = omega arith
size-positive (App f x) = omega arith
size-positive (Lam a b) = omega arith
size-positive (Pi a b) = omega arith

module _ (m : List Declaration) where
  constant-solid : {G : List Tree} {t A : Tree} → IsConstant m G t A → Solid A
  constant-solid (type_variable e) = tt
  constant-solid (constant e s) = s
  constant-solid (at_type {a = a} {A = A} f h e) = subst Solid e (solid-put 0 a A (constant-solid f))

  -- the spread of a function's type at a type and further arguments
  pub spread-type : {G : List Tree} {f A B : Tree} (a : Tree) (args : List Tree) → IsConstant m G f (Pi types A) → put a A ≡ B
      → spread (a ∷ args) (Pi types A) ≡ 1 + spread args B
  spread-type {A = A} a args hf e = spread-product a args types A (constant-solid hf) ∙ ap (λ t. 1 + spread args t) e

  -- what remains of a constant's type is in the constant's weight
  constant-weight : {G : List Tree} {t A : Tree} (args : List Tree) → IsConstant m G t A → spread args A ≤ spreads m args t + 1
  constant-weight args (type_variable e) = lone args
    where
      lone : (args : List Tree) → spread args types ≤ 0 + 1
      lone [] = omega arith
      lone (u ∷ us) = omega arith
  constant-weight args (constant {s = s} {A = A} e k) = let w : symbol_spread m s args ≡ spread args A =
      ap (λ o. option_map_or (spread args) o 0) e in omega (arith, w)
  constant-weight args (at_type {a = a} hf ha e) = omega (arith, constant-weight (a ∷ args) hf, spread-type a args hf e)

  -- further arguments spread a constant as they spread what remains of its type
  pub constant-spreads : {G : List Tree} {t A : Tree} (args : List Tree) → IsConstant m G t A → spreads m args t + spread [] A ≡ spreads m [] t + spread args A
  constant-spreads args (type_variable e) = lone args
    where
      lone : (args : List Tree) → 0 + spread [] types ≡ 0 + spread args types
      lone [] = refl
      lone (u ∷ us) = refl
  constant-spreads args (constant {s = s} {A = A} e k) =
      let w : symbol_spread m s args ≡ spread args A = ap (λ o. option_map_or (spread args) o 0) e in
      let v : symbol_spread m s [] ≡ spread [] A = ap (λ o. option_map_or (spread []) o 0) e in
      omega (arith, w, v)
  constant-spreads args (at_type {a = a} hf ha e) =
      omega (arith, constant-spreads (a ∷ args) hf, constant-spreads (a ∷ []) hf, spread-type a args hf e, spread-type a [] hf e)

  -- no further argument spreads a term
  pub term-spreads : {G : List Tree} {t a : Tree} (args : List Tree) → IsTerm m G t a → spreads m args t ≡ spreads m [] t
  term-spreads args (of_entry at e s) = refl
  term-spreads args (of_constant {a = a} h s) = let k : spread args (term_of a) ≡ spread [] (term_of a) = lone args in omega (arith, constant-spreads args h, k)
    where
      lone : (args : List Tree) → spread args (term_of a) ≡ spread [] (term_of a)
      lone [] = refl
      lone (u ∷ us) = refl
  term-spreads args (of_function {x = x} f h) = omega (arith, term-spreads (x ∷ args) f, term-spreads (x ∷ []) f)
  term-spreads args (of_binder a b t) = refl

  -- no entry of the context is greater
  pub record AreSmall (e : ℕ) (G : List Tree) : Type 0 where
    pub each : (n : ℕ) (A : Tree) → slice_get G n ≡ Some A → size A ≤ e

  pub small-entry : {e : ℕ} {G : List Tree} {A : Tree} → size A ≤ e → AreSmall e G → AreSmall e (A ∷ G)
  small-entry {e = e} {G = G} {A = A} h s = record { each = go }
    where
      go : (n : ℕ) (B : Tree) → slice_get (A ∷ G) n ≡ Some B → size B ≤ e
      go zero B q = subst (λ t. size t ≤ e) (same_Some _ _ q) h
      go (suc n) B q = s.each n B q

  -- a term's type is no greater than the term with its spreads and the greatest entry
  pub type-size : {e : ℕ} {G : List Tree} {t a : Tree} → IsTerm m G t a → AreSmall e G → size t ≤ e → size a + 2 ≤ size t + spreads m [] t + e
  type-size (of_entry {n = n} {b = b} at q s) g le = let h = g.each n (term_of b) at in let k = ap size q in omega (arith, h, k, size-lift (suc n) b)
  type-size {t = t} (of_constant {a = a} h s) g le =
      let w = constant-weight [] h in
      let k = ap size (put_all-nil a) in
      omega (arith, w, k, size-positive t)
  type-size (of_function {x = x} f h) g le = omega (arith, type-size f g (omega (arith, le)), term-spreads (x ∷ []) f)
  type-size (of_binder {a = a} {b = b} ha hb t) g le =
      omega (arith, type-size t (small-entry {A = term_of a} (omega (arith, le)) g) (omega (arith, le)), size-lift 1 b)

module _ (m : List Declaration) (closed : IsClosed m) where
  -- a type was found for the term, with arrows unfolded down to some depth, for at most so many steps
  pub record FindsTerm (G : List Tree) (t a : Tree) (most : ℕ) : Type 0 where
    pub found : Tree
    pub unfolded : Unfolded a found
    pub finds : Finds m (Infer G t) found most

  -- the application of a function of terms, whose type may be unfolded
  pub find-apply : {G : List Tree} {f x a b F : Tree} {k l : ℕ} → IsSimple m G a → IsSimple m G b → Unfolded (arr_of a b) F → Finds m (Infer G f) F k
      → FindsTerm G x a l
      → FindsTerm G (App f x) b (k + l + 7 * size (arr_of a b))
  find-apply {b = b} ha hb folded hf hx =
      let p = find_functions m closed ha hb in
      let q = meet_unfolded m closed ha hx.unfolded in
      record {
        found = _;
        unfolded = subst (Unfolded b) (sym (put-lift _ (term_of b))) folded;
        finds = record {
          steps = _;
          ends = asked hf.ends (asked said (asked p.ends (asked hx.finds.ends (asked q.ends said))));
          within = omega (arith, hf.within, p.within, hx.finds.within, q.within);
        };
      }
  find-apply {x = x} ha hb (arrow h) hf hx =
      let q = meet_unfolded m closed ha hx.unfolded in
      record { found = _; unfolded = unfolded-put m closed x h; finds = Finds-more m (omega arith) (find_application m hf hx.finds q) }

  -- a type of terms is not Kind
  pub unless-kind : {a S : Tree} → Unfolded a S → {rest : Tree} {n : ℕ} → Ends m true (Say (Found rest)) (Found rest) n
      → Ends m true (unless_kind S (Say (Found rest))) (Found rest) n
  unless-kind folded h = h
  unless-kind (arrow u) h = h
