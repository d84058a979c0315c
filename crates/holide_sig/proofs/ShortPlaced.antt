-- Declarations that are found by the numbers of the trees for which their names are short.
use Rattle.std.proofs.Common.{◌≡◌, ℕ, ◌≤◌, Bool, true, false, refl, sym, ap, ◌∙◌, arith, List, [], ◌∷◌, ◌++◌, length, length-append, position, Some, None, slice_get, ⊎_elim}
use Rattle.std.specs.Prelude.{Option}
use Rattle.std.proofs.lemmas.Bool.{eqb-true}
use Rattle.std.proofs.lemmas.Option.{same_Some}
use Rattle.lp_term.specs.declared.LpId.{LpId}
use Rattle.holide_sig.specs.declared.decls.Decl.{Decl}
use Rattle.holide_sig.specs.ShortIds.{is_id, short_id}
use Rattle.holide_sig.specs.Places.{short_with, AreShortPlaced, IsShortAt}
use Rattle.name_table.specs.Positions.{position-first}
use Rattle.name_table.specs.NameLaws.{push_at}
use Rattle.holide_sig.proofs.Placed.{first-none, first-at, placed_with-old, placed_with-new, placed_with-within}

-- a number that is that one
is_id-true : (o : Option LpId) (id : LpId) → is_id o id ≡ true → (b : LpId) × (o ≡ Some b) × (b.0 ≡ id.0)
is_id-true None id e = absurd (cc)
is_id-true (Some b) id e = (b, refl, eqb-true b.0 id.0 e)

apart_by : (o : Option LpId) (id : LpId) (c : Bool) → is_id o id ≡ c → ((b : LpId) → o ≡ Some b → b.0 ≡ id.0 → ⊥) → c ≡ false
apart_by o id true e h = absurd (let r = is_id-true o id e in h r.0 r.1 r.2)
apart_by o id false e h = refl

module _ (decls : List Decl) (placed : ℕ → Option ℕ) (t : AreShortPlaced decls placed) (id : LpId) where
  -- a number that has no place is that of no tree for which a name is short
  pub position-unplaced : placed id.0 ≡ None → position (λ d. is_id (short_id d) id) decls ≡ None
  position-unplaced none =
      position-first (λ d. is_id (short_id d) id) decls
      ∙ first-none (λ d. is_id (short_id d) id) decls
      (λ n d e. apart_by (short_id d) id (is_id (short_id d) id) refl
      (λ b f same. let r = t.each n d b e f in let clash = sym none ∙ ap placed (sym same) ∙ r.1 in absurd (cc)))

  -- the place of a number is that of its first declaration, if that is one
  pub position-placed : (p : ℕ) → placed id.0 ≡ Some p → IsShortAt decls p id → position (λ d. is_id (short_id d) id) decls ≡ Some p
  position-placed p at short =
      position-first (λ d. is_id (short_id d) id) decls
      ∙ first-at (λ d. is_id (short_id d) id) decls p short.0 short.1 short.2
      (λ n d less e. apart_by (short_id d) id (is_id (short_id d) id) refl
      (λ b f same. let r = t.each n d b e f in absurd
      (let one : p ≡ r.0 = same_Some p r.0 (sym at ∙ ap placed (sym same) ∙ r.1) in let few = r.2 in omega (arith, less, one, few))))

-- a number that has a place keeps it, and that of the new tree has one
short_with-old : (placed : ℕ → Option ℕ) (o : Option LpId) (place m p : ℕ) → placed m ≡ Some p → short_with placed o place m ≡ Some p
short_with-old placed None place m p h = h
short_with-old placed (Some id) place m p h = placed_with-old placed id.0 place m p h

short_with-within : (placed : ℕ → Option ℕ) (o : Option LpId) (place m p most : ℕ) → ((k q : ℕ) → placed k ≡ Some q → q ≤ most) → place ≤ most
    → short_with placed o place m ≡ Some p → p ≤ most
short_with-within placed None place m p most h l e = h m p e
short_with-within placed (Some id) place m p most h l e = placed_with-within placed id.0 place m p most h l e

short_with-new : (placed : ℕ → Option ℕ) (o : Option LpId) (place : ℕ) (id : LpId) → o ≡ Some id → ((p : ℕ) → placed id.0 ≡ Some p → p ≤ place) → (p : ℕ)
    × (short_with placed o place id.0 ≡ Some p) × (p ≤ place)
short_with-new placed o place id e h =
    let r = placed_with-new placed id.0 place h in (r.0, ap (λ w. short_with placed w place id.0) e ∙ r.1, r.2)

pub AreShortPlaced-noted : (decls : List Decl) (placed more : ℕ → Option ℕ) (o : Option LpId) → AreShortPlaced decls placed
    → ((m : ℕ) → more m ≡ short_with placed o (length decls) m) → AreShortPlaced decls more
AreShortPlaced-noted decls placed more o t h = record {
  each = λ k d id e f. let r = t.each k d id e f in (r.0, h id.0 ∙ short_with-old placed o (length decls) id.0 r.0 r.1, r.2);
  within = λ m p e. short_with-within placed o (length decls) m p (length decls) t.within (omega arith) (sym (h m) ∙ e);
}

pub AreShortPlaced-same : (decls : List Decl) (placed more : ℕ → Option ℕ) → AreShortPlaced decls placed → ((m : ℕ) → more m ≡ placed m)
    → AreShortPlaced decls more
AreShortPlaced-same decls placed more t h = record {
  each = λ k d id e f. let r = t.each k d id e f in (r.0, h id.0 ∙ r.1, r.2);
  within = λ m p e. t.within m p (sym (h m) ∙ e);
}

pub AreShortPlaced-push : (decls : List Decl) (placed more : ℕ → Option ℕ) (d : Decl) → AreShortPlaced decls placed
    → ((m : ℕ) → more m ≡ short_with placed (short_id d) (length decls) m) → AreShortPlaced (decls ++ d ∷ []) more
AreShortPlaced-push decls placed more d t h = record { each = each; within = within }
  where
    each : (n : ℕ) (x : Decl) (id : LpId) → slice_get (decls ++ d ∷ []) n ≡ Some x → short_id x ≡ Some id → (p : ℕ) × (more id.0 ≡ Some p) × (p ≤ n)
    each n x id e f = ⊎_elim
        (λ g. let r = t.each n x id g f in (r.0, h id.0 ∙ short_with-old placed (short_id d) (length decls) id.0 r.0 r.1, r.2))
        (λ g. let r = short_with-new placed (short_id d) (length decls) id (ap (λ (y : Decl). short_id y) g.1 ∙ f) (λ p k. t.within id.0 p k) in
        (r.0, h id.0 ∙ r.1, let few = r.2 in omega (arith, few, g.0)))
        (push_at decls d x n e)

    within : (m p : ℕ) → more m ≡ Some p → p ≤ length (decls ++ d ∷ [])
    within m p e = let few = short_with-within placed (short_id d) (length decls) m p (length decls) t.within (omega arith) (sym (h m) ∙ e) in omega
        (arith, few, length-append decls (d ∷ []))
