-- Types with arguments put in, and a type at hand that may be one.
use Rattle.std.proofs.Common.{◌≡◌, refl, sym, ap, ◌∙◌, subst, ℕ, zero, suc, ◌<◌, ◌≤◌, ◌+◌, ◌-◌, arith, length, List, [], ◌∷◌, ◌++◌, Option, None, Some, Bool, true, false}
use Rattle.std.specs.Prelude.{reverse, slice_get}
use Rattle.std.specs.Option.{option_map_or}
use Rattle.std.specs.Bool.{OnTrue}
use Rattle.std.proofs.Math.Path.{ap₂}
use Rattle.std.proofs.lemmas.List.{length-reverse, reverse-append}
use Rattle.std.proofs.lemmas.Option.{slice_get_past}
use Rattle.lp_spec.specs.Trees.{Tree, Var, App, lift, put_all, put_all_at, put_all_var, loose}
use Rattle.lp_binding_laws.specs.Composition.{lift_zero, put_all_var-high}
use Rattle.lp_binding_laws.specs.Closed.{put_all_at-closed}
use Rattle.lp_term.specs.declared.LpId.{LpId}
use Rattle.lp_term.specs.Tables.{tree_at, Holds, Stays}
use Rattle.lp_term.specs.TableLaws.{Holds-tree_at, tree_at-Stays}
use Rattle.lp_kernel.specs.Made.{IsFilledUnder}
use Rattle.lp_kernel.specs.Pending.{spine_args, IsFilled}

-- what follows from a test, where it is true
pub where-true : (b : Bool) (P : Type 0) → (b ≡ true → P) → OnTrue b P
where-true true P f = f refl
where-true false P f = tt

-- the argument that stands for a variable is still to be found among those that are left
pub record IsSought (ts : List Tree) (k : ℕ) (f : LpId) (n left : ℕ) (at : LpId) (number : ℕ) : Type 0 where
  pub here : at.0 < length ts
  pub same : slice_get (reverse (spine_args k (tree_at ts f.0))) n ≡ slice_get (reverse (spine_args left (tree_at ts at.0))) number
  pub further : length (spine_args k (tree_at ts f.0)) + number ≡ length (spine_args left (tree_at ts at.0)) + n

pub sought-start : (ts : List Tree) (k : ℕ) (f : LpId) (n : ℕ) → f.0 < length ts → IsSought ts k f n k f n
sought-start ts k f n h = record { here = h; same = refl; further = refl }

-- it is none of them
pub sought-past : (ts : List Tree) (k : ℕ) (f : LpId) (n left : ℕ) (at : LpId) (number : ℕ) → IsSought ts k f n left at number
    → spine_args left (tree_at ts at.0) ≡ [] → n ≡ length (spine_args k (tree_at ts f.0)) + number
sought-past ts k f n left at number h none = omega (arith, h.further, ap length none)

module _ (ts : List Tree) (k : ℕ) (f : LpId) (n left less : ℕ) (at g x : LpId) (s : left ≡ suc less)
    (is : Holds ts at.0 (App (tree_at ts g.0) (tree_at ts x.0))) where
  last-first : reverse (spine_args left (tree_at ts at.0)) ≡ tree_at ts x.0 ∷ reverse (spine_args less (tree_at ts g.0))
  last-first = ap₂ (λ m t. reverse (spine_args m t)) s (Holds-tree_at ts at.0 _ is) ∙ reverse-append (spine_args less (tree_at ts g.0)) (tree_at ts x.0 ∷ [])

  pub sought-found : (number : ℕ) → IsSought ts k f n left at number → number ≡ 0 → slice_get (reverse (spine_args k (tree_at ts f.0))) n
      ≡ Some (tree_at ts x.0)
  sought-found number h z = h.same ∙ ap₂ slice_get last-first z

  pub sought-more : (number fewer : ℕ) → IsSought ts k f n left at number → number ≡ suc fewer → g.0 < length ts → IsSought ts k f n less g fewer
  sought-more number fewer h m known = record {
    here = known;
    same = h.same ∙ ap₂ slice_get last-first m;
    further = omega (
      arith,
      h.further,
      m,
      ap length last-first,
      length-reverse (spine_args left (tree_at ts at.0)),
      length-reverse (spine_args less (tree_at ts g.0)),
    );
  }

-- a type without loose variables is as it is
pub filled-closed : (ts : List Tree) (b : LpId) (k : ℕ) (f : LpId) → loose (tree_at ts b.0) ≤ 0 → IsFilled ts b k f ts b
filled-closed ts b k f h = sym (put_all_at-closed 0 (spine_args k (tree_at ts f.0)) (tree_at ts b.0) h)

-- a tree that is one without loose variables
pub filled-same : (ts : List Tree) (b : LpId) (k : ℕ) (f found : LpId) → loose (tree_at ts b.0) ≤ 0 → b.0 ≡ found.0 → IsFilled ts b k f ts found
filled-same ts b k f found h e = ap (tree_at ts) (sym e) ∙ filled-closed ts b k f h

-- a variable is the argument that is put for it
pub filled-variable : (ts : List Tree) (b : LpId) (k : ℕ) (f found x : LpId) (n : ℕ) → Holds ts b.0 (Var n)
    → slice_get (reverse (spine_args k (tree_at ts f.0))) n ≡ Some (tree_at ts x.0) → x.0 ≡ found.0 → IsFilled ts b k f ts found
filled-variable ts b k f found x n is at e =
    let us = spine_args k (tree_at ts f.0) in
    let low : 0 ≤ n = omega arith in
    let same : n - 0 ≡ n = omega arith in
    ap (tree_at ts) (sym e)
    ∙ sym (ap (put_all us) (Holds-tree_at ts b.0 (Var n) is)
    ∙ put_all_var-high 0 us n low
    ∙ ap (λ i. option_map_or (lift 0) (slice_get (reverse us) i) (Var (n - length us))) same
    ∙ ap (λ o. option_map_or (lift 0) o (Var (n - length us))) at
    ∙ lift_zero (tree_at ts x.0))

-- an application is that of its parts
pub filled-application : (ts : List Tree) (b g x : LpId) (k : ℕ) (f found : LpId) → Holds ts b.0 (App (tree_at ts g.0) (tree_at ts x.0)) → tree_at ts found.0
    ≡ App (put_all (spine_args k (tree_at ts f.0)) (tree_at ts g.0)) (put_all (spine_args k (tree_at ts f.0)) (tree_at ts x.0)) → IsFilled ts b k f ts found
filled-application ts b g x k f found is e = e ∙ sym
    (ap (put_all (spine_args k (tree_at ts f.0))) (Holds-tree_at ts b.0 (App (tree_at ts g.0) (tree_at ts x.0)) is))

pub application-of_parts : (ts : List Tree) (g x : LpId) (k : ℕ) (f found h y : LpId) → Holds ts found.0 (App (tree_at ts h.0) (tree_at ts y.0))
    → IsFilled ts g k f ts h → IsFilled ts x k f ts y → tree_at ts found.0
    ≡ App (put_all (spine_args k (tree_at ts f.0)) (tree_at ts g.0)) (put_all (spine_args k (tree_at ts f.0)) (tree_at ts x.0))
application-of_parts ts g x k f found h y is a b = Holds-tree_at ts found.0 (App (tree_at ts h.0) (tree_at ts y.0)) is ∙ ap₂ App a b

-- what is filled over an older table is filled over a table that has grown
filled-Stays : (ts us vs : List Tree) → Stays ts us → (d : ℕ) (b : LpId) (k : ℕ) (f r : LpId) → b.0 < length ts → f.0 < length ts
    → IsFilledUnder us d b k f vs r → IsFilledUnder ts d b k f vs r
filled-Stays ts us vs s d b k f r hb hf h = h ∙ ap₂ (λ F B. put_all_at d (spine_args k F) B) (sym (tree_at-Stays s f.0 hf)) (sym (tree_at-Stays s b.0 hb))

-- a part without loose variables is as it is
pub part-closed : (ts : List Tree) (d : ℕ) (b : LpId) (k : ℕ) (f : LpId) → loose (tree_at ts b.0) ≤ d → IsFilledUnder ts d b k f ts b
part-closed ts d b k f h = sym (put_all_at-closed d (spine_args k (tree_at ts f.0)) (tree_at ts b.0) h)

-- two parts that were made one after the other
pub parts-made : (ts us vs : List Tree) → Stays ts us → Stays us vs → (g x : LpId) (d e k : ℕ) (f h y : LpId) → x.0 < length ts → f.0 < length ts
    → h.0 < length us → IsFilledUnder ts d g k f us h → IsFilledUnder us e x k f vs y
    → IsFilledUnder ts d g k f vs h × IsFilledUnder ts e x k f vs y
parts-made ts us vs s t g x d e k f h y hx hf hh a b = (sym (tree_at-Stays t h.0 hh) ∙ a, filled-Stays ts us vs s e x k f y hx hf b)

-- and a tree of them
pub node-made : (C : Tree → Tree → Tree) (d e : ℕ) → ((us : List Tree) (G X : Tree) → put_all_at d us (C G X) ≡ C (put_all_at d us G) (put_all_at e us X))
    → (ts vs ws : List Tree) (b g x h y r : LpId) (k : ℕ) (f : LpId)
    → Holds ts b.0 (C (tree_at ts g.0) (tree_at ts x.0)) → IsFilledUnder ts d g k f vs h × IsFilledUnder ts e x k f vs y
    → Holds ws r.0 (C (tree_at vs h.0) (tree_at vs y.0)) → IsFilledUnder ts d b k f ws r
node-made C d e law ts vs ws b g x h y r k f at parts is =
    let us = spine_args k (tree_at ts f.0) in
    Holds-tree_at ws r.0 (C (tree_at vs h.0) (tree_at vs y.0)) is ∙ ap₂ C parts.0 parts.1
    ∙ sym (ap (put_all_at d us) (Holds-tree_at ts b.0 (C (tree_at ts g.0) (tree_at ts x.0)) at) ∙ law us (tree_at ts g.0) (tree_at ts x.0))

module _ (d : ℕ) (us : List Tree) (n m : ℕ) (low : d ≤ n) (same : m ≡ n - d) where
  -- an argument stands for a variable
  pub put_all_at-argument : (x : Tree) → slice_get (reverse us) m ≡ Some x → put_all_at d us (Var n) ≡ lift d x
  put_all_at-argument x at =
      put_all_var-high d us n low
      ∙ ap (λ i. option_map_or (lift d) (slice_get (reverse us) i) (Var (n - length us))) (sym same)
      ∙ ap (λ o. option_map_or (lift d) o (Var (n - length us))) at

  -- and a variable for one that is further off than all
  pub put_all_at-variable : (l number : ℕ) → m ≡ length us + l → number ≡ l + d → put_all_at d us (Var n) ≡ Var number
  put_all_at-variable l number past is =
      let far : length (reverse us) ≤ m = omega (arith, past, length-reverse us) in
      let less : n - length us ≡ number = omega (arith, past, same, low, is) in
      put_all_var-high d us n low
      ∙ ap (λ i. option_map_or (lift d) (slice_get (reverse us) i) (Var (n - length us))) (sym same)
      ∙ ap (λ o. option_map_or (lift d) o (Var (n - length us))) (slice_get_past (reverse us) m far)
      ∙ ap Var less

-- a variable that is at hand
pub filled-further : (ts : List Tree) (b : LpId) (k : ℕ) (f found : LpId) (n m : ℕ) → Holds ts b.0 (Var n) → n ≡ length (spine_args k (tree_at ts f.0)) + m
    → tree_at ts found.0 ≡ Var m → IsFilled ts b k f ts found
filled-further ts b k f found n m is past at =
    let low : 0 ≤ n = omega arith in
    let same : n ≡ n - 0 = omega arith in
    let number : m ≡ m + 0 = omega arith in
    at ∙ sym (ap (put_all (spine_args k (tree_at ts f.0))) (Holds-tree_at ts b.0 (Var n) is)
    ∙ put_all_at-variable 0 (spine_args k (tree_at ts f.0)) n n low same m m past number)
