-- The verdict of a module.
use Rattle.std.proofs.Common.{◌≡◌, refl, sym, ap, ◌∙◌, subst, ℕ, ◌+◌, ◌-◌, ◌<◌, arith, true, length, List, [], Some, ⊎_elim, Bool}
use Rattle.std.specs.Prelude.{slice_get, take}
use Rattle.std.proofs.lemmas.Bool.{cases_lt}
use Rattle.std.proofs.lemmas.List.{length-map}
use Rattle.std.proofs.lemmas.Option.{slice_get_within, same_Some}
use Rattle.std.proofs.Math.Nat.{eq-or-lt_of_le}
use Rattle.std.proofs.Math.Path.{subst₂}
use Rattle.lp_spec.specs.Trees.{Tree}
use Rattle.lp_spec.specs.Modules.{Declaration}
use Rattle.lp_spec.specs.ModuleOrder.{IsModule}
use Rattle.lp_spec.specs.Typing.{WellTyped}
use Rattle.holide_sig.specs.declared.module.Module.{Module}
use Rattle.holide_sig.specs.Modules.{declaration_in, declarations_of, IsHeld}
use Rattle.lp_spec.specs.Check.{Reply, Found, No}
use Rattle.lp_check_laws.specs.CheckLaws.{Found-No}
use Rattle.lp_spec.specs.FastCheck.{CheckBy, PassesBy}
use Rattle.lp_fast_laws.specs.FastPrices.{check-at, one_check}
use Rattle.lp_fast_laws.specs.FastModules.{checker_law_by}
use Rattle.lp_conv.specs.Growth.{Grows}
use Rattle.lp_conv.specs.GrowthLaws.{Grows-refl, Grows-trans, IsHeld-Grows, declarations_of-Grows}
use Rattle.lp_conv.specs.declared.Answer.TheVariants as answer
use Rattle.lp_kernel.specs.declared.checks.Verdict.{Verdict}
use Rattle.lp_kernel.specs.declared.checks.Verdict.TheVariants as verdict
use Rattle.lp_term.specs.declared.LpId.{LpId}
use Rattle.lp_spec.specs.Trees.{loose}
use Rattle.lp_term.specs.Tables.{tree_at}
use Rattle.lp_term.specs.TableLaws.{tree_at-Stays, take-Stays}
use Rattle.holide_sig.specs.declared.decls.Decl.{Decl}
use Rattle.lp_conv.specs.Answers.{Answered}
use Rattle.lp_kernel.specs.Inference.{typing}
use Rattle.lp_spec.specs.Check.{reach}
use Rattle.lp_kernel.specs.declared.memo.Memos.{Memos}
use Rattle.lp_kernel.specs.Noted.{IsNoted, IsCutOff, IsTypeOfClosed, AreTypes, IsProductOf, AreProducts}
use Rattle.lp_kernel.specs.Right.{AreRight, IsCutBack}
use Rattle.lp_kernel.proofs.LiftedLaws.{AreLifts-nil}
use Rattle.lp_kernel.proofs.RightLaws.{open-nil}
use Rattle.lp_kernel.specs.Checks.{SaysYes, SaysNo, IsOverBudget, IsChecked, PassBelow, IsIllTyped, IsPastBudget, IsJudged, EndsWithin, PassWithin, IsRefusedWithin}

-- a declaration that passes is not refused
pub not-both : (rechecks : Bool) (ds : List Declaration) (i : ℕ) (t : Tree) (n k : ℕ) {X : Type 0} → CheckBy rechecks ds i (Found t) n
    → CheckBy rechecks ds i No k → X
not-both rechecks ds i t n k c d = absurd (Found-No (one_check rechecks ds i (Found t) No n k c d).0)

below-more : (rechecks : Bool) (ds : List Declaration) (i : ℕ) → PassBelow rechecks ds i → PassesBy rechecks ds i → PassBelow rechecks ds (i + 1)
below-more rechecks ds i h p k lt = ⊎_elim (λ less. h k less) (λ same. subst (PassesBy rechecks ds) (let le : k ≡ i = omega (arith, same, lt) in sym le) p)
    (cases_lt k i)

-- what the loop keeps: the declarations so far pass
pub record ArePassing (rechecks : Bool) (from m : Module) (i : ℕ) : Type 0 where
  pub grows : Grows from m
  pub held : IsHeld m
  pub same : declarations_of m ≡ declarations_of from
  pub below : PassBelow rechecks (declarations_of from) i

-- and what is noted is right
pub record IsCarried (rechecks : Bool) (from m : Module) (i : ℕ) (memo : Memos) : Type 0 where
  pub passing : ArePassing rechecks from m i
  pub right : AreRight rechecks (declarations_of m) m.table memo

-- the types that are noted, less those with a number that another module lacks, are right over that one
types-cut : (rechecks : Bool) (from m : Module) (types fewer : List ℕ) → IsHeld from → Grows from m → AreTypes rechecks (declarations_of m) m.table types
    → IsCutOff types fewer (length from.table) → AreTypes rechecks (declarations_of from) from.table fewer
types-cut rechecks from m types fewer held g right noted = record { each = each }
  where
    each : (t r : LpId) → IsNoted fewer t r → IsTypeOfClosed rechecks (declarations_of from) from.table t r
    each t r i =
        let n = noted t r i in
        let fact = right.each t r n.0 in
        let e = tree_at-Stays g.keeps.stays t.0 n.1 in
        let f = tree_at-Stays g.keeps.stays r.0 n.2 in
        record {
          known = n.1;
          found_known = n.2;
          closed = subst (λ u. loose u ≡ 0) (sym e) fact.closed;
          answered = subst (λ ds. Answered ds rechecks (typing [] (tree_at from.table t.0)) (Found (tree_at from.table r.0)) 1)
              (declarations_of-Grows from m g held)
              (subst (λ u. Answered (declarations_of m) rechecks (typing [] u) (Found (tree_at from.table r.0)) 1) (sym e)
              (subst (λ u. Answered (declarations_of m) rechecks (typing [] (tree_at m.table t.0)) (Found u) 1) (sym f) fact.answered));
        }

-- and so are the products
products-cut : (from m : Module) (types fewer : List ℕ) → IsHeld from → Grows from m → AreProducts (declarations_of m) m.table types
    → IsCutOff types fewer (length from.table) → AreProducts (declarations_of from) from.table fewer
products-cut from m types fewer held g right noted = record { each = each }
  where
    each : (t r : LpId) → IsNoted fewer t r → IsProductOf (declarations_of from) from.table t r
    each t r i =
        let n = noted t r i in
        let fact = right.each t r n.0 in
        let e = tree_at-Stays g.keeps.stays t.0 n.1 in
        let f = tree_at-Stays g.keeps.stays r.0 n.2 in
        record {
          known = n.1;
          found_known = n.2;
          answered = subst (λ ds. Answered ds true (reach ds (tree_at from.table t.0)) (Found (tree_at from.table r.0)) 1) (declarations_of-Grows from m g held)
              (subst (λ u. Answered (declarations_of m) true (reach (declarations_of m) u) (Found (tree_at from.table r.0)) 1) (sym e)
              (subst (λ u. Answered (declarations_of m) true (reach (declarations_of m) (tree_at m.table t.0)) (Found u) 1) (sym f) fact.answered));
        }

right-cut : (rechecks : Bool) (from m : Module) (memo fewer : Memos) → IsHeld from → Grows from m → AreRight rechecks (declarations_of m) m.table memo
    → fewer.turns.rechecks ≡ memo.turns.rechecks → IsCutOff memo.types fewer.types (length from.table)
    → IsCutOff memo.turns.products fewer.turns.products (length from.table) → fewer.lifts ≡ [] → fewer.open_types ≡ []
    → AreRight rechecks (declarations_of from) from.table fewer
right-cut rechecks from m memo fewer held g right by h k l o = record {
  rechecked = by ∙ right.rechecked;
  types = types-cut rechecks from m memo.types fewer.types held g right.types h;
  products = products-cut from m memo.turns.products fewer.turns.products held g right.products k;
  lifts = AreLifts-nil from.table fewer.lifts l;
  open_types = open-nil rechecks (declarations_of from) from.table fewer.turns.contexts fewer.open_types o;
}

-- a module that is cut back to another's nodes is the other
pub cut-back : (rechecks : Bool) (from m : Module) (front : List Tree) (kept : ℕ) (memo fewer : Memos) → length from.table ≡ kept → IsHeld from → Grows from m
    → AreRight rechecks (declarations_of m) m.table memo → front ≡ take kept m.table
    → fewer.turns.rechecks ≡ memo.turns.rechecks → IsCutOff memo.types fewer.types kept → IsCutOff memo.turns.products fewer.turns.products kept → fewer.lifts
    ≡ [] → fewer.open_types ≡ [] → IsCutBack rechecks from (record { table = front; decls = m.decls }) fewer
cut-back rechecks from m front kept memo fewer long held g right is by h k l o =
    let same : front ≡ from.table = is ∙ ap (λ n. take n m.table) (sym long) ∙ take-Stays from.table m.table g.keeps.stays in
    subst (λ (ts : List Tree). IsCutBack rechecks from (record { table = ts; decls = m.decls }) fewer) (sym same)
    (subst (λ (ds : List Decl). IsCutBack rechecks from (record { table = from.table; decls = ds }) fewer) (sym g.decls)
    (record {
      grows = Grows-refl from;
      right = right-cut rechecks from m memo fewer held g right by (subst (IsCutOff memo.types fewer.types) (sym long) h)
          (subst (IsCutOff memo.turns.products fewer.turns.products) (sym long) k) l o;
    }))

pub passing-start : (rechecks : Bool) (m : Module) → IsHeld m → ArePassing rechecks m m 0
passing-start rechecks m held = record { grows = Grows-refl m; held = held; same = refl; below = λ k lt. absurd (omega (arith, lt)) }

-- what passes passes where the module is cut back
pub passing-cut : (rechecks : Bool) (from m back : Module) (i : ℕ) → ArePassing rechecks from m i → IsHeld from → Grows from back
    → ArePassing rechecks from back i
passing-cut rechecks from m back i p held g = record
    { grows = g; held = IsHeld-Grows from back g held; same = declarations_of-Grows from back g held; below = p.below }

module _ (rechecks : Bool) (from m k : Module) (i old new : ℕ) (s : ArePassing rechecks from m i) (g : Grows m k) (by : Bool) (is : by ≡ rechecks) where
  pub passing-more : IsChecked by (declarations_of m) i old new answer.Yes → ArePassing rechecks from k (i + 1)
  passing-more h = record {
    grows = Grows-trans s.grows g;
    held = IsHeld-Grows m k g s.held;
    same = declarations_of-Grows m k g s.held ∙ s.same;
    below = below-more rechecks (declarations_of from) i s.below
        (let y = subst₂ (λ r ds. SaysYes r ds i (old - new)) is s.same h in record { found = y.found; price = y.price; by = y.by });
  }

  pub passing-no : IsChecked by (declarations_of m) i old new answer.No → IsIllTyped rechecks (declarations_of from) i
  passing-no h = let n = subst₂ (λ r ds. SaysNo r ds i (old - new)) is s.same h in record { before = s.below; price = n.price; no = n.by }

  pub passing-over : (budgets : List ℕ) → slice_get budgets i ≡ Some old → IsChecked by (declarations_of m) i old new answer.Over
      → IsPastBudget rechecks (declarations_of from) budgets i
  passing-over budgets at h = record { before = s.below; budget = old; at = at; over = subst₂ (λ r ds. IsOverBudget r ds i old) is s.same h }

module _ (rechecks : Bool) (ds : List Declaration) (budgets : List ℕ) where
  same-budget : (i : ℕ) {a b : ℕ} → slice_get budgets i ≡ Some a → slice_get budgets i ≡ Some b → a ≡ b
  same-budget i e f = same_Some _ _ (sym e ∙ f)

  -- what ends within its budget is not past it
  within-over : (i : ℕ) {reply : Reply} {b : ℕ} {X : Type 0} → EndsWithin rechecks ds budgets i reply → slice_get budgets i ≡ Some b
      → IsOverBudget rechecks ds i b → X
  within-over i {reply = reply} w at over = absurd (omega (arith, over reply w.price w.by, w.within, same-budget i w.at at))

  -- where all checks say yes within their budgets, the verdict is yes
  pub judged-accepts : length budgets ≡ length ds → (v : Verdict) → IsJudged rechecks ds budgets v → PassWithin rechecks ds budgets (length ds) → v
      ≡ verdict.Accepted
  judged-accepts size verdict.Accepted h pass = refl
  judged-accepts size (verdict.IllTyped i) h pass =
      let d = check-at ds i rechecks No h.price h.no in
      let p = pass i (slice_get_within ds i d.0 d.1) in
      not-both rechecks ds i p.0 p.1.price h.price p.1.by h.no
  judged-accepts size (verdict.OverBudget i) h pass =
      let lt : i < length ds = omega (arith, slice_get_within budgets i h.budget h.at, size) in
      within-over i (pass i lt).1 h.at h.over

  -- and where one says no within its budget, and those before it yes within theirs, it is that one
  pub judged-refuses : (v : Verdict) → IsJudged rechecks ds budgets v → (i : ℕ) → IsRefusedWithin rechecks ds budgets i → v ≡ verdict.IllTyped i
  judged-refuses verdict.Accepted h i r = let p = h i (let d = check-at ds i rechecks No r.no.price r.no.by in slice_get_within ds i d.0 d.1) in not-both
      rechecks ds i p.found p.price r.no.price p.by r.no.by
  judged-refuses (verdict.IllTyped j) h i r =
      ⊎_elim (λ less. let p = r.before j less in not-both rechecks ds j p.0 p.1.price h.price p.1.by h.no)
      (λ le. ⊎_elim (λ same. ap verdict.IllTyped (sym same)) (λ less. let p = h.before i less in not-both rechecks ds i p.found p.price r.no.price p.by r.no.by)
      (eq-or-lt_of_le le)) (cases_lt j i)
  judged-refuses (verdict.OverBudget j) h i r =
      ⊎_elim (λ less. within-over j (r.before j less).1 h.at h.over)
      (λ le. ⊎_elim (λ same. within-over j (subst (λ k. EndsWithin rechecks ds budgets k No) same r.no) h.at h.over)
      (λ less. let p = h.before i less in not-both rechecks ds i p.found p.price r.no.price p.by r.no.by) (eq-or-lt_of_le le)) (cases_lt j i)

  -- a module that is accepted is well typed
  pub judged-well_typed : IsModule ds → (v : Verdict) → IsJudged rechecks ds budgets v → v ≡ verdict.Accepted → WellTyped ds
  judged-well_typed a verdict.Accepted h e = checker_law_by rechecks ds a (λ i d at. h i (slice_get_within ds i d at))
  judged-well_typed a (verdict.IllTyped i) h e = absurd (cc)
  judged-well_typed a (verdict.OverBudget i) h e = absurd (cc)

-- how many declarations there are
pub declarations-length : (m : Module) → length (declarations_of m) ≡ length m.decls
declarations-length m = length-map m.decls (declaration_in m.table)

-- the verdict's clauses, of a module
module _ (rechecks : Bool) (m : Module) (budgets : List ℕ) (size : length budgets ≡ length m.decls) where
  pub module-accepts : (v : Verdict) → IsJudged rechecks (declarations_of m) budgets v → PassWithin rechecks (declarations_of m) budgets (length m.decls) → v
      ≡ verdict.Accepted
  module-accepts v h pass = judged-accepts rechecks (declarations_of m) budgets (size ∙ sym (declarations-length m)) v h
      (subst (PassWithin rechecks (declarations_of m) budgets) (sym (declarations-length m)) pass)

  pub passing-all : (k : Module) (i : ℕ) → ArePassing rechecks m k i → i ≡ length budgets → PassBelow rechecks (declarations_of m) (length (declarations_of m))
  passing-all k i s e = subst (PassBelow rechecks (declarations_of m)) (e ∙ size ∙ sym (declarations-length m)) s.below
