-- The walk of head steps to a product.
use Rattle.std.proofs.Common.{◌≡◌, refl, sym, ap, ◌∙◌, subst, ℕ, ◌+◌, ◌-◌, ◌<◌, ◌≤◌, arith, Bool, true, length, List, Option, Some, None, ◌⊎◌, ⊎_elim}
use Rattle.std.proofs.Math.Path.{fun_ext}
use Rattle.lp_spec.specs.Trees.{Tree, SortType, SortKind, Var, Sym, App, Lam, Pi}
use Rattle.lp_spec.specs.Modules.{Declaration}
use Rattle.lp_term.specs.declared.LpId.{LpId}
use Rattle.lp_term.specs.declared.LpNode.{LpNode}
use Rattle.lp_term.specs.declared.LpNode.TheVariants as node
use Rattle.lp_term.specs.Tables.{tree_at, tree_of_node, Holds}
use Rattle.lp_term.specs.TableLaws.{Holds-tree_at, tree_at-Stays, Keeps-refl}
use Rattle.holide_sig.specs.declared.module.Module.{Module}
use Rattle.holide_sig.specs.Modules.{declarations_of, IsHeld}
use Rattle.lp_spec.specs.HeadSteps.{head_step}
use Rattle.lp_spec.specs.Check.{Reach, Reply, Found, No, Plan, Say, Ask, if_step, reach, Ends, said, refused, asked}
use Rattle.lp_check_laws.specs.CheckLaws.{one_reply}
use Rattle.lp_check_laws.specs.PlanLaws.{and_then, Leaves, leaves_all, leaves_equal, leaves_then, leaves_fewer, leaves_ask, over_leaves}
use Rattle.lp_kernel.specs.declared.inference.Inferred.TheVariants as inferred
use Rattle.lp_conv.specs.Answers.{Answered, IsOver}
use Rattle.lp_conv.specs.Growth.{Grows}
use Rattle.lp_kernel.specs.Inference.{IsFound, IsProduct}
use Rattle.lp_kernel.specs.Noted.{IsNoted, IsProductOf, AreProducts}
use Rattle.lp_conv.specs.GrowthLaws.{Grows-trans, IsHeld-Grows, declarations_of-Grows}

-- to go on with what is found is the plan itself
then-found : (p : Plan) → and_then p (λ t. Say (Found t)) ≡ p
then-found (Say (Found t)) = refl
then-found (Say No) = refl
then-found (Ask q rest) = ap (Ask q) (fun_ext (λ t. then-found (rest t)))

-- what a tree that is no product reaches
reach-other : (ds : List Declaration) (ts : List Tree) (n : LpNode) → ((a b : LpId) → n ≡ node.Pi a b → ⊥) → reach ds (tree_of_node ts n)
    ≡ if_step (head_step ds (tree_of_node ts n)) (λ H. Ask (Reach H) (λ P. Say (Found P)))
reach-other ds ts (node.Pi a b) h = absurd (h a b refl)
reach-other ds ts node.SortType h = refl
reach-other ds ts node.SortKind h = refl
reach-other ds ts (node.Var n) h = refl
reach-other ds ts (node.Sym s) h = refl
reach-other ds ts (node.App f x) h = refl
reach-other ds ts (node.Lam a b) h = refl

-- the walk
pub record IsReach (from : Module) (id : LpId) (all : ℕ) (m : Module) (reached : LpId) (here : ℕ) : Type 0 where
  pub grows : Grows from m
  pub held : IsHeld m
  pub known : reached.0 < length m.table
  pub less : here ≤ all
  pub left : Leaves (declarations_of m) true (reach (declarations_of m) (tree_at from.table id.0)) (all - here)
      (reach (declarations_of m) (tree_at m.table reached.0))

pub start-reach : (m : Module) (id : LpId) (all : ℕ) → IsHeld m → id.0 < length m.table → IsReach m id all m id all
start-reach m id all held known = record {
  grows = record { keeps = Keeps-refl m.table; decls = refl };
  held = held;
  known = known;
  less = omega arith;
  left = let z : all - all ≤ 0 = omega arith in leaves_fewer (declarations_of m) true z
      (leaves_all (declarations_of m) true (reach (declarations_of m) (tree_at m.table id.0)));
}

module _ (from : Module) (id : LpId) (all : ℕ) (m : Module) (reached : LpId) (here : ℕ) (n : LpNode) (s : IsReach from id all m reached here)
    (at : Holds m.table reached.0 (tree_of_node m.table n)) where
  -- the end at a product
  pub reach-product : (a b : LpId) → n ≡ node.Pi a b
      → IsFound true (declarations_of m) m.table (reach (declarations_of m) (tree_at from.table id.0)) all here (inferred.Found reached)
  reach-product a b e =
      let is = Holds-tree_at m.table reached.0 _ at ∙ ap (tree_of_node m.table) e in
      let p = subst (λ t. Ends (declarations_of m) true (reach (declarations_of m) t) (Found t) 0) (sym is) said in
      let u = s.left.up (Found (tree_at m.table reached.0)) 0 p in
      record { price = u.0; ends = u.1; within = omega (arith, u.2) }

  module _ (not : (a b : LpId) → n ≡ node.Pi a b → ⊥) where
    other : (o : Option Tree) → head_step (declarations_of m) (tree_at m.table reached.0) ≡ o → reach (declarations_of m) (tree_at m.table reached.0)
        ≡ if_step o (λ H. Ask (Reach H) (λ P. Say (Found P)))
    other o h =
        let e = Holds-tree_at m.table reached.0 _ at in
        ap (reach (declarations_of m)) e ∙ reach-other (declarations_of m) m.table n not
        ∙ ap (λ t. if_step (head_step (declarations_of m) t) (λ H. Ask (Reach H) (λ P. Say (Found P)))) (sym e)
        ∙ ap (λ w. if_step w (λ H. Ask (Reach H) (λ P. Say (Found P)))) h

    -- the end where there is no head step, in a table that may have grown
    pub reach-none : (k : Module) → Grows m k → None ≡ head_step (declarations_of m) (tree_at m.table reached.0)
        → IsFound true (declarations_of k) k.table (reach (declarations_of k) (tree_at from.table id.0)) all here inferred.No
    reach-none k g h =
        let p = subst (λ w. Ends (declarations_of m) true w No 0) (sym (other None (sym h))) said in
        let u = s.left.up No 0 p in
        subst (λ ds. Answered ds true (reach ds (tree_at from.table id.0)) No (all - here)) (sym (declarations_of-Grows m k g s.held))
        (record { price = u.0; ends = u.1; within = omega (arith, u.2) })

    -- a head step more
    pub reach-more : (k : Module) (made : LpId) (there : ℕ) → Grows m k → made.0 < length k.table → Some (tree_at k.table made.0)
        ≡ head_step (declarations_of m) (tree_at m.table reached.0) → there ≡ here - 1 → 0 < here → IsReach from id all k made there
    reach-more k made there g known h less pos =
        let H = tree_at k.table made.0 in
        let ds = declarations_of m in
        let turn = leaves_then ds true (leaves_equal ds true (other (Some H) (sym h)))
        (leaves_then ds true (leaves_ask ds true (Reach H) (λ P. Say (Found P))) (leaves_equal ds true (then-found (reach ds H)))) in
        let all-of = leaves_then ds true s.left turn in
        let le : all - there ≤ all - here + (0 + (1 + 0)) = omega (arith, less, pos, s.less) in
        record {
          grows = Grows-trans s.grows g;
          held = IsHeld-Grows m k g s.held;
          known = known;
          less = omega (arith, less, s.less);
          left = subst (λ ds. Leaves ds true (reach ds (tree_at from.table id.0)) (all - there) (reach ds H)) (sym (declarations_of-Grows m k g s.held))
              (leaves_fewer ds true le all-of);
        }

    -- the end where the budget is spent
    pub reach-over : (k : Module) (H : Tree) → Grows m k → Some H ≡ head_step (declarations_of m) (tree_at m.table reached.0) → here ≡ 0
        → IsFound true (declarations_of k) k.table (reach (declarations_of k) (tree_at from.table id.0)) all here inferred.Over
    reach-over k H g h zero-here =
        subst (λ ds. (reply : Reply) (n : ℕ) → Ends ds true (reach ds (tree_at from.table id.0)) reply n → all < n) (sym (declarations_of-Grows m k g s.held))
        (over_leaves (declarations_of m) true s.left (omega (arith, s.less, zero-here))
        (λ reply n e. positive (subst (λ w. Ends (declarations_of m) true w reply n) (other (Some H) (sym h)) e)))
      where
        positive : {reply : Reply} {n : ℕ} → Ends (declarations_of m) true (Ask (Reach H) (λ P. Say (Found P))) reply n → 0 < n
        positive (refused e) = omega arith
        positive (asked e f) = omega arith

-- the plan asks of head steps alone
data Reaches : Plan → Type 0 where
  says : {reply : Reply} → Reaches (Say reply)
  asks : {F : Tree} {rest : Tree → Plan} → ((t : Tree) → Reaches (rest t)) → Reaches (Ask (Reach F) rest)

reach-Reaches : (ds : List Declaration) (F : Tree) → Reaches (reach ds F)
reach-Reaches ds F = of_tree F
  where
    step : (o : Option Tree) → Reaches (if_step o (λ H. Ask (Reach H) (λ P. Say (Found P))))
    step None = says
    step (Some H) = asks (λ P. says)

    of_tree : (F : Tree) → Reaches (reach ds F)
    of_tree (Pi A B) = says
    of_tree SortType = step (head_step ds SortType)
    of_tree SortKind = step (head_step ds SortKind)
    of_tree (Var n) = step (head_step ds (Var n))
    of_tree (Sym s) = step (head_step ds (Sym s))
    of_tree (App f x) = step (head_step ds (App f x))
    of_tree (Lam a b) = step (head_step ds (Lam a b))

module _ (ds : List Declaration) (r s : Bool) where
  Ends-Reaches : {p : Plan} {reply : Reply} {n : ℕ} → Reaches p → Ends ds r p reply n → Ends ds s p reply n
  Ends-Reaches k said = said
  Ends-Reaches (asks {F = F} k) (refused h) = refused (Ends-Reaches (reach-Reaches ds F) h)
  Ends-Reaches (asks {F = F} k) (asked {t = t} h g) = asked (Ends-Reaches (reach-Reaches ds F) h) (Ends-Reaches (k t) g)

  -- a check without rechecks reaches what one with them reaches
  reach-Ends : (F : Tree) (reply : Reply) (n : ℕ) → Ends ds r (reach ds F) reply n → Ends ds s (reach ds F) reply n
  reach-Ends F reply n h = Ends-Reaches (reach-Reaches ds F) h

-- what is answered of a product that is reached, with rechecks or without
pub reached-answered : (rechecks : Bool) (ds : List Declaration) (F : Tree) (reply : Reply) (spent : ℕ) → Answered ds true (reach ds F) reply spent
    → Answered ds rechecks (reach ds F) reply spent
reached-answered rechecks ds F reply spent h = record { price = h.price; ends = reach-Ends ds true rechecks F reply h.price h.ends; within = h.within }

pub reached-over : (rechecks : Bool) (ds : List Declaration) (F : Tree) (budget : ℕ) → IsOver ds true (reach ds F) budget
    → IsOver ds rechecks (reach ds F) budget
reached-over rechecks ds F budget h = λ reply n k. h reply n (reach-Ends ds rechecks true F reply n k)

-- a product that is remembered is what is reached, at one step
pub IsProductOf-IsProduct : (m : Module) (id found : LpId) (old new : ℕ) → old - new ≤ 1 → IsProductOf (declarations_of m) m.table id found
    → IsProduct m id m old new (inferred.Found found)
IsProductOf-IsProduct m id found old new le p = record { price = p.answered.price; ends = p.answered.ends; within = omega (arith, le, p.answered.within) }

-- and it is not reached where nothing is left
pub IsProductOf-IsOver : (m : Module) (id found : LpId) (left : ℕ) → left ≡ 0 → IsProductOf (declarations_of m) m.table id found
    → IsOver (declarations_of m) true (reach (declarations_of m) (tree_at m.table id.0)) left
IsProductOf-IsOver m id found left none p = λ reply n e. omega (arith, none, (one_reply (declarations_of m) true p.answered.ends e).1, p.answered.within)

-- the products that are noted stay right where the module has grown
pub AreProducts-Grows : (m k : Module) (types : List ℕ) → IsHeld m → Grows m k → AreProducts (declarations_of m) m.table types
    → AreProducts (declarations_of k) k.table types
AreProducts-Grows m k types held g h = record { each = each }
  where
    each : (id found : LpId) → IsNoted types id found → IsProductOf (declarations_of k) k.table id found
    each id found i =
        let p = h.each id found i in
        let e = tree_at-Stays g.keeps.stays id.0 p.known in
        let f = tree_at-Stays g.keeps.stays found.0 p.found_known in
        record {
          known = omega (arith, p.known, g.keeps.longer);
          found_known = omega (arith, p.found_known, g.keeps.longer);
          answered = subst (λ ds. Answered ds true (reach ds (tree_at k.table id.0)) (Found (tree_at k.table found.0)) 1)
              (sym (declarations_of-Grows m k g held))
              (subst (λ t. Answered (declarations_of m) true (reach (declarations_of m) t) (Found (tree_at k.table found.0)) 1) e
              (subst (λ u. Answered (declarations_of m) true (reach (declarations_of m) (tree_at m.table id.0)) (Found u) 1) f p.answered));
        }

-- and with one more that was reached, by a step at least
pub AreProducts-noted : (m k : Module) (types more : List ℕ) (id found : LpId) (all here : ℕ) → IsHeld m → Grows m k
    → AreProducts (declarations_of m) m.table types → id.0 < length m.table → found.0 < length k.table → here < all
    → IsProduct m id k all here (inferred.Found found)
    → ((t r : LpId) → IsNoted more t r → IsNoted types t r ⊎ ((t ≡ id) × (r ≡ found))) → AreProducts (declarations_of k) k.table more
AreProducts-noted m k types more id found all here held g h known found_known less p noted = record {
  each = λ t r i. ⊎_elim (λ old. (AreProducts-Grows m k types held g h).each t r old)
      (λ new. subst (λ x. IsProductOf ds k.table x r) (sym new.0) (subst (λ y. IsProductOf ds k.table id y) (sym new.1) fact)) (noted t r i);
}
  where
    ds : List Declaration
    ds = declarations_of k

    fact : IsProductOf ds k.table id found
    fact = record {
      known = omega (arith, known, g.keeps.longer);
      found_known = found_known;
      answered = subst (λ t. Answered ds true (reach ds t) (Found (tree_at k.table found.0)) 1) (tree_at-Stays g.keeps.stays id.0 known)
          (record { price = p.price; ends = p.ends; within = omega (arith, p.within, less) });
    }
